-- The check for forms outside the subset.
use Rattle.std.specs.Prelude.{pos, ◌&&◌, List, [], ◌∷◌, length, codes, Bool, true, false, Option, Some, None, if◌then◌else◌, is_some}
use Rattle.std.specs.Ordering.{int_eq}
use Rattle.std.specs.Str.{bytes_eq}
use Rattle.hy_terms.specs.Naming.{text_of}
use Rattle.hy_core.specs.Nodes.{is_nil_layer}
use Rattle.hy_core.specs.NodeParts.{atom_layer}
use Rattle.hy_core.specs.Resolve.{is_match_fail}
use Rattle.hy_core.specs.declared.fault.Form.{Form}
use Rattle.hy_core.specs.declared.fault.Form.TheVariants as form
use Rattle.hy_core.specs.declared.place.Place.{Place}
use Rattle.hy_core.specs.declared.place.Place.TheVariants.{Anywhere, Applied, Timeout, WholeGuard}
use Rattle.hy_core.specs.declared.tree.Clause.{Clause}
use Rattle.hy_core.specs.declared.tree.Expr.{Expr}
use Rattle.hy_core.specs.declared.tree.Expr.TheOpen as layer
use Rattle.hy_core.specs.declared.tree.Expr.TheOpen.{Expr-F}
use Rattle.hy_core.specs.declared.tree.Expr.TheViews.{out-Expr}
use Rattle.hy_core.specs.declared.tree.Function.{Function}
use Rattle.hy_core.specs.declared.tree.Module.{Module}
use Rattle.core_names.specs.Called.{called}
use Rattle.core_lint.specs.code.GuardForm.{has_guard_form, is_whole_guard}
use Rattle.core_lint.specs.code.OnExprs.{on_exprs}
use Rattle.core_walk.specs.Walk.{Forms}
use Rattle.core_names.specs.declared.built_in.BuiltIn.{BuiltIn}
use Rattle.core_names.specs.declared.built_in.BuiltIn.TheVariants.{Spawn}

abbrev pub is_applied : Place → Bool
is_applied Anywhere = false
is_applied Applied = true
is_applied Timeout = false
is_applied WholeGuard = false

abbrev pub is_for_timeout : Place → Bool
is_for_timeout Anywhere = false
is_for_timeout Applied = false
is_for_timeout Timeout = true
is_for_timeout WholeGuard = false

abbrev pub is_name : Expr-F Expr Clause Function → Bool
is_name (layer.Name f) = true
is_name _ = false

abbrev pub is_atom : Expr → Bool
is_atom x = is_some (atom_layer (out-Expr x))

-- unless something is so, this form
abbrev pub unless : Bool → Form → Option Form
unless true form = None
unless false form = Some form

-- the form that an expression has by what it is
abbrev pub own_form : Module → Place → Expr-F Expr Clause Function → Option Form
own_form m place (layer.Name f) = unless (is_applied place) form.Name
own_form m place (layer.Apply what args) = unless (is_name (out-Expr what)) form.Apply
own_form m place (layer.Call x y args) = unless (is_atom x && is_atom y) form.Call
own_form m place (layer.Primop name args) =
    unless (is_match_fail (text_of m.atoms name) (length args)) form.Primop
own_form m place (layer.Try value vars body caught answer) =
    unless (is_whole_guard place && has_guard_form m vars (out-Expr body) caught (out-Expr answer))
    form.Try
own_form m place (layer.Catch body) = Some form.Catch
own_form m place (layer.Fun params body) = Some form.Fun
own_form m place _ = None

abbrev pub is_timeout : Module → Expr-F Expr Clause Function → Bool
is_timeout m (layer.Int n) = int_eq n (pos 0)
is_timeout m (layer.Atom a) = bytes_eq (text_of m.atoms a) (codes "infinity")
is_timeout m _ = false

abbrev pub timeout_form : Module → Place → Expr-F Expr Clause Function → Option Form
timeout_form m place y = if is_for_timeout place then unless (is_timeout m y) form.Timeout else None

abbrev pub is_spawn : Option BuiltIn → Bool
is_spawn None = false
is_spawn (Some Spawn) = true
is_spawn (Some built_in) = false

-- nil, or a list notation that ends in nil
abbrev pub is_written_list : Expr-F Expr Clause Function → Bool
is_written_list layer.Nil = true
is_written_list (layer.List site heads tail) = is_nil_layer (out-Expr tail)
is_written_list _ = false

abbrev pub is_spawnable : List Expr → Bool
is_spawnable (x ∷ y ∷ list ∷ []) = is_atom x && is_atom y && is_written_list (out-Expr list)
is_spawnable [] = false
is_spawnable (x ∷ []) = false
is_spawnable (x ∷ y ∷ []) = false
is_spawnable (x ∷ y ∷ list ∷ z ∷ zs) = false

abbrev pub spawn_form : Module → Expr-F Expr Clause Function → Option Form
spawn_form m (layer.Call x y args) =
    if is_spawn (called m.atoms (atom_layer (out-Expr x)) (atom_layer (out-Expr y)) (length args))
    then unless (is_spawnable args) form.Spawn else None
spawn_form m _ = None

abbrev pub or_form : Option Form → Option Form → Option Form
or_form (Some form) later = Some form
or_form None later = later

abbrev pub subset : Forms
subset = on_exprs (λ m x c. or_form (own_form m c.place (out-Expr x))
    (or_form (timeout_form m c.place (out-Expr x)) (spawn_form m (out-Expr x))))
