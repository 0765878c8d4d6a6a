-- The values of built-ins keep to the range of numbers.
use Rattle.std.specs.Prelude.{◌≡◌, ℕ, pos, List, [], ◌∷◌, Some}
use Rattle.hy_terms.specs.Range.{IsNumber, IsTerm, AreTerms}
use Rattle.hy_terms.specs.Term.{Term, Tuple, terms_of, size_of}
use Rattle.hy_core.specs.declared.bif.Bif.{Bif}
use Rattle.hy_core.specs.declared.bif.Bif.TheVariants as b
use Rattle.hy_core.specs.BuiltIn.{Value, answer, length_of, with_element}

-- where a length or a size is asked it is itself a number of the range
abbrev pub IsCounted : Bif → List Term → Type 0
IsCounted b.Length (t ∷ []) = (n : ℕ) → length_of t ≡ Some n → IsNumber (pos n)
IsCounted b.TupleSize (Tuple ts ∷ []) = IsNumber (pos (size_of ts))
IsCounted _ _ = Unit {0}

pub record KeepToRange (atoms : List (List ℕ)) (pid : ℕ) : Type 0 where
  pub plain :
      (f : Bif) (ts : List Term) (t : Term) → AreTerms (terms_of ts) → IsCounted f ts →
      answer atoms pid f ts ≡ Value t → IsTerm t
  pub setelement :
      (i t v u : Term) → IsTerm t → IsTerm v → with_element i t v ≡ Some u → IsTerm u
