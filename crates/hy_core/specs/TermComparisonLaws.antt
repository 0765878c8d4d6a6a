-- Which comparison gives 'true' at which order of two terms.
use Rattle.std.specs.Prelude.{◌≡◌, ℕ, List, [], ◌∷◌, true, false, ◌↔◌, ◌⊎◌}
use Rattle.std.specs.declared.cmp.Ordering.{Ordering}
use Rattle.std.specs.declared.cmp.Ordering.TheVariants.{Less, Equal, Greater}
use Rattle.hy_terms.specs.Term.{Term}
use Rattle.hy_terms.specs.TermOrder.{compare}
use Rattle.hy_core.specs.declared.bif.Bif.{Bif}
use Rattle.hy_core.specs.declared.bif.Bif.TheVariants as b
use Rattle.hy_core.specs.BuiltIn.{Answer, Value, truth, answer}

-- it gives 'true' exactly where P holds, and 'false' exactly where it doesn't
pub record Tells (given : Answer) (P : Type 0) : Type 0 where
  pub yes : (given ≡ Value (truth true)) ↔ P
  pub no : (given ≡ Value (truth false)) ↔ (P → ⊥)

module _ (atoms : List (List ℕ)) (pid : ℕ) (t u : Term) where
  abbrev of : Bif → Answer
  of f = answer atoms pid f (t ∷ u ∷ [])

  abbrev is : Ordering → Type 0
  is o = compare atoms t u ≡ o

  -- each comparison, by the order of its two arguments
  pub record ComparesByOrder : Type 0 where
    pub same : Tells (of b.Same) (is Equal)
    pub equal : Tells (of b.Equal) (is Equal)
    pub not_same : Tells (of b.NotSame) (is Less ⊎ is Greater)
    pub not_equal : Tells (of b.NotEqual) (is Less ⊎ is Greater)
    pub less : Tells (of b.Less) (is Less)
    pub greater : Tells (of b.Greater) (is Greater)
    pub at_most : Tells (of b.AtMost) (is Less ⊎ is Equal)
    pub at_least : Tells (of b.AtLeast) (is Greater ⊎ is Equal)
