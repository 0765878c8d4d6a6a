-- What an expression of the arithmetic part has as its parts. This project's own.
use Rattle.std.specs.Prelude.{◌≡◌, ℕ, List, [], ◌∷◌}
use Rattle.hybrid_run.specs.Built.{IsBuilt, IsAny, HasText, the_erlang, the_plus, the_display}
use Rattle.hy_core.specs.declared.tree.Expr.{Expr}
use Rattle.hy_core.specs.declared.tree.Expr.TheVariants as e

-- an atom of this text
abbrev pub IsAtomOf : List (List ℕ) → Expr → List ℕ → Type 0
IsAtomOf atoms x text = (atom : ℕ) × (x ≡ e.Atom atom) × (HasText atoms atom text)

-- the body of a `let` of one variable
abbrev pub IsBuiltUnder : List (List ℕ) → List ℕ → List ℕ → Expr → Type 0
IsBuiltUnder atoms around (var ∷ []) body = IsBuilt atoms IsAny (var ∷ around) body
IsBuiltUnder atoms around _ body = ⊥

-- the arguments of a call: one of `display`, two of `+`
abbrev pub AreBuilt : List (List ℕ) → List ℕ → List Expr → Type 0
AreBuilt atoms around (x ∷ []) = IsBuilt atoms IsAny around x
AreBuilt atoms around (x ∷ y ∷ []) = IsBuilt atoms IsAny around x × IsBuilt atoms IsAny around y
AreBuilt atoms around _ = ⊥

-- what a call names: 'erlang':'display' with one argument, or 'erlang':'+' with two
abbrev pub IsOperation : List (List ℕ) → Expr → Expr → List Expr → Type 0
IsOperation atoms m k (x ∷ []) = IsAtomOf atoms m the_erlang × IsAtomOf atoms k the_display
IsOperation atoms m k (x ∷ y ∷ []) = IsAtomOf atoms m the_erlang × IsAtomOf atoms k the_plus
IsOperation atoms m k _ = ⊥
