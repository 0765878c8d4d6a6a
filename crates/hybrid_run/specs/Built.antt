-- Trees of the arithmetic part: what they are built of, apart from any text. This project's own.
use Rattle.std.specs.Prelude.{◌≡◌, ℕ, ℤ, List, [], ◌∷◌, codes, Some, Contains, slice_get}
use Rattle.hy_core.specs.declared.tree.Expr.{Expr}
use Rattle.hy_core.specs.declared.tree.Expr.TheVariants as e
use Rattle.hy_core.specs.declared.tree.Function.{Function}
use Rattle.hy_core.specs.declared.tree.Module.{Module}

abbrev pub the_main : List ℕ
the_main = codes "main"

abbrev pub the_erlang : List ℕ
the_erlang = codes "erlang"

abbrev pub the_plus : List ℕ
the_plus = codes "+"

abbrev pub the_display : List ℕ
the_display = codes "display"

-- a call of a name of a module, both by their numbers
abbrev pub call : ℕ → ℕ → List Expr → Expr
call m k args = e.Call (e.Atom m) (e.Atom k) args

-- an atom is that of a text
abbrev pub HasText : List (List ℕ) → ℕ → List ℕ → Type 0
HasText atoms a text = slice_get atoms a ≡ Some text

-- An expression of the six forms alone: integers, variables, `let` of one variable, `do`, `+` and
-- `display`. The texts of its atoms are these, and its variables are allowed, where the `let`s
-- around bind those in the list, the last of them first.
pub data IsBuilt (atoms : List (List ℕ)) (Allowed : List ℕ → ℕ → Type 0)
    : List ℕ → Expr → Type 0 where
  integer : {around : List ℕ} (n : ℤ) → IsBuilt atoms Allowed around (e.Int n)
  variable : {around : List ℕ} (v : ℕ) → Allowed around v
      → IsBuilt atoms Allowed around (e.Var v)
  let_in : {around : List ℕ} {x y : Expr} (v : ℕ) → IsBuilt atoms Allowed around x
      → IsBuilt atoms Allowed (v ∷ around) y → IsBuilt atoms Allowed around (e.Let (v ∷ []) x y)
  do_both : {around : List ℕ} {x y : Expr} → IsBuilt atoms Allowed around x
      → IsBuilt atoms Allowed around y → IsBuilt atoms Allowed around (e.Do x y)
  sum : {around : List ℕ} {x y : Expr} (m k : ℕ) → HasText atoms m the_erlang
      → HasText atoms k the_plus → IsBuilt atoms Allowed around x → IsBuilt atoms Allowed around y
      → IsBuilt atoms Allowed around (call m k (x ∷ y ∷ []))
  display : {around : List ℕ} {x : Expr} (m k : ℕ) → HasText atoms m the_erlang
      → HasText atoms k the_display → IsBuilt atoms Allowed around x
      → IsBuilt atoms Allowed around (call m k (x ∷ []))

-- any variable
abbrev pub IsAny : List ℕ → ℕ → Type 0
IsAny around v = Unit {0}

-- one that is bound
abbrev pub IsBound : List ℕ → ℕ → Type 0
IsBound around v = Contains around v

-- the six forms alone, with any variables
abbrev pub IsOfForms : List (List ℕ) → Expr → Type 0
IsOfForms atoms x = IsBuilt atoms IsAny [] x

-- these forms, where the variables of these numbers are bound
abbrev pub IsClosed : List (List ℕ) → List ℕ → Expr → Type 0
IsClosed atoms bound x = IsBuilt atoms IsBound bound x

-- A module of one function, whose body is of these forms. In an accepted program this function is
-- 'main'/0, and its body is closed.
pub record IsBuiltModule (z : Module) : Type 0 where
  pub f : Function
  pub alone : z.functions ≡ f ∷ []
  pub forms : IsOfForms z.atoms f.body
