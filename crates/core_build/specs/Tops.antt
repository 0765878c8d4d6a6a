-- The value on top of others, where it is of the kind that is wanted.
use Rattle.std.specs.Prelude.{ℕ, Bool, true, false, List, ◌∷◌, Option, Some, None}
use Rattle.hy_core.specs.declared.tree.Expr.{Expr}
use Rattle.hy_core.specs.declared.tree.Pattern.{Pattern}
use Rattle.hy_core.specs.declared.tree.Clause.{Clause}
use Rattle.hy_core.specs.declared.tree.Function.{Function}
use Rattle.hy_core.specs.declared.tree.FunName.{FunName}
use Rattle.core_build.specs.declared.value.Head.{Head}
use Rattle.core_build.specs.declared.value.Head.TheVariants as h
use Rattle.core_build.specs.declared.value.Value.{Value}
use Rattle.core_build.specs.declared.value.Value.TheVariants as v

-- a value and those below it
abbrev pub Top : Type 0 → Type 0
Top A = Option (A × List Value)

-- what is made of the value on top, where it is of the kind
abbrev pub with_top : {A B : Type 0} → Top A → (A → List Value → Option B) → Option B
with_top None go = None
with_top (Some top) go = go top.0 top.1

abbrev pub top_expr : List Value → Top Expr
top_expr (v.Expr x ∷ vs) = Some (x, vs)
top_expr vs = None

abbrev pub top_exprs : List Value → Top (List Expr)
top_exprs (v.Exprs x ∷ vs) = Some (x, vs)
top_exprs vs = None

abbrev pub top_pattern : List Value → Top Pattern
top_pattern (v.Pattern x ∷ vs) = Some (x, vs)
top_pattern vs = None

abbrev pub top_patterns : List Value → Top (List Pattern)
top_patterns (v.Patterns x ∷ vs) = Some (x, vs)
top_patterns vs = None

abbrev pub top_variable : List Value → Top ℕ
top_variable (v.Variable x ∷ vs) = Some (x, vs)
top_variable vs = None

abbrev pub top_variables : List Value → Top (List ℕ)
top_variables (v.Variables x ∷ vs) = Some (x, vs)
top_variables vs = None

abbrev pub top_clauses : List Value → Top (List Clause)
top_clauses (v.Clauses x ∷ vs) = Some (x, vs)
top_clauses vs = None

abbrev pub top_functions : List Value → Top (List Function)
top_functions (v.Functions x ∷ vs) = Some (x, vs)
top_functions vs = None

abbrev pub top_name : List Value → Top FunName
top_name (v.Name x ∷ vs) = Some (x, vs)
top_name vs = None

abbrev pub top_names : List Value → Top (List FunName)
top_names (v.Names x ∷ vs) = Some (x, vs)
top_names vs = None

abbrev pub top_atom : List Value → Top ℕ
top_atom (v.Atom x ∷ vs) = Some (x, vs)
top_atom vs = None

abbrev pub top_head : List Value → Top Head
top_head (v.Name x ∷ vs) = Some (h.Name x, vs)
top_head (v.Dropped before ∷ vs) = Some (h.Dropped before, vs)
top_head vs = None

abbrev pub has_pattern : List Value → Bool
has_pattern (v.Pattern x ∷ vs) = true
has_pattern vs = false
