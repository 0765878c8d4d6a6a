-- The form of `try` that a guard may be.
use Rattle.std.specs.Prelude.{ℕ, ◌==◌, ◌&&◌, List, [], ◌∷◌, codes, Bool, true, false}
use Rattle.std.specs.Str.{bytes_eq}
use Rattle.hy_terms.specs.Naming.{text_of}
use Rattle.hy_core.specs.Resolve.{are_two_or_three}
use Rattle.hy_core.specs.declared.place.Place.{Place}
use Rattle.hy_core.specs.declared.place.Place.TheVariants.{Anywhere, Applied, Timeout, WholeGuard}
use Rattle.hy_core.specs.declared.tree.Clause.{Clause}
use Rattle.hy_core.specs.declared.tree.Expr.{Expr}
use Rattle.hy_core.specs.declared.tree.Expr.TheOpen as layer
use Rattle.hy_core.specs.declared.tree.Expr.TheOpen.{Expr-F}
use Rattle.hy_core.specs.declared.tree.Function.{Function}
use Rattle.hy_core.specs.declared.tree.Module.{Module}

abbrev pub is_false : Module → Expr-F Expr Clause Function → Bool
is_false m (layer.Atom a) = bytes_eq (text_of m.atoms a) (codes "false")
is_false m _ = false

abbrev pub is_variable : ℕ → Expr-F Expr Clause Function → Bool
is_variable x (layer.Var y) = x == y
is_variable x _ = false

-- `try E of <X> -> X catch <A,B> -> 'false'`, with two or three variables behind `catch`, by its
-- variables and bodies
abbrev pub has_guard_form : Module → List ℕ → Expr-F Expr Clause Function → List ℕ
    → Expr-F Expr Clause Function → Bool
has_guard_form m (x ∷ []) body caught answer =
    is_variable x body && (are_two_or_three caught && is_false m answer)
has_guard_form m [] body caught answer = false
has_guard_form m (x ∷ y ∷ ys) body caught answer = false

abbrev pub is_whole_guard : Place → Bool
is_whole_guard Anywhere = false
is_whole_guard Applied = false
is_whole_guard Timeout = false
is_whole_guard WholeGuard = true
