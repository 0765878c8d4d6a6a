-- The check for forms that a guard may not hold.
use Rattle.std.specs.Prelude.{◌&&◌, not, length, Bool, true, false, Option, Some, None}
use Rattle.hy_core.specs.NodeParts.{atom_layer}
use Rattle.hy_core.specs.declared.place.Place.{Place}
use Rattle.hy_core.specs.declared.tree.Clause.{Clause}
use Rattle.hy_core.specs.declared.tree.Expr.{Expr}
use Rattle.hy_core.specs.declared.tree.Expr.TheOpen as layer
use Rattle.hy_core.specs.declared.tree.Expr.TheOpen.{Expr-F}
use Rattle.hy_core.specs.declared.tree.Expr.TheViews.{out-Expr}
use Rattle.hy_core.specs.declared.tree.Function.{Function}
use Rattle.hy_core.specs.declared.tree.Module.{Module}
use Rattle.core_names.specs.Called.{called}
use Rattle.core_lint.specs.code.GuardForm.{has_guard_form, is_whole_guard}
use Rattle.core_lint.specs.code.OnExprs.{on_exprs}
use Rattle.core_walk.specs.Walk.{Forms, form_if}
use Rattle.core_names.specs.declared.built_in.BuiltIn.{BuiltIn}
use Rattle.core_names.specs.declared.built_in.BuiltIn.TheVariants.{Plain}

abbrev pub is_plain : Option BuiltIn → Bool
is_plain None = false
is_plain (Some (Plain b)) = true
is_plain (Some built_in) = false

-- a guard may hold this at such a place
abbrev pub is_allowed : Module → Place → Expr-F Expr Clause Function → Bool
is_allowed m place (layer.Int n) = true
is_allowed m place (layer.Atom a) = true
is_allowed m place layer.Nil = true
is_allowed m place (layer.Var x) = true
is_allowed m place (layer.Let vars value body) = true
is_allowed m place (layer.Call x y args) =
    is_plain (called m.atoms (atom_layer (out-Expr x)) (atom_layer (out-Expr y)) (length args))
is_allowed m place (layer.Try value vars body caught answer) =
    is_whole_guard place && has_guard_form m vars (out-Expr body) caught (out-Expr answer)
is_allowed m place _ = false

abbrev pub guarded : Forms
guarded = on_exprs (λ m x c. form_if (c.in_guard && not (is_allowed m c.place (out-Expr x))))
