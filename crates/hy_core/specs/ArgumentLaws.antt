-- Built-ins and the numbers of their arguments.
use Rattle.std.specs.Prelude.{◌≡◌, ◌↔◌, ℕ, List, length, Some}
use Rattle.hy_terms.specs.Term.{Term}
use Rattle.hy_core.specs.declared.bif.Bif.{Bif}
use Rattle.hy_core.specs.BuiltIn.{NoAnswer, Plain, answer, operation_of}

-- a built-in has no answer exactly where it has another number of arguments than its name is looked
-- up with; so each call that is resolved as a built-in has an answer
abbrev pub AnswersItsArguments : (atoms : List (List ℕ)) (pid : ℕ) → Type 0
AnswersItsArguments atoms pid =
    (name : List ℕ) (arity : ℕ) (f : Bif) → operation_of name arity ≡ Some (Plain f) →
    (ts : List Term) → (answer atoms pid f ts ≡ NoAnswer) ↔ (length ts ≡ arity → ⊥)
