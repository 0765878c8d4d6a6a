-- Comparisons, by the order of their arguments.
use Rattle.std.proofs.Common.{◌≡◌, ◌⊎◌, ℕ, List, Bool, true, false, not, refl, inl, inr}
use Rattle.std.specs.declared.cmp.Ordering.{Ordering}
use Rattle.std.specs.declared.cmp.Ordering.TheVariants.{Less, Equal, Greater}
use Rattle.hy_terms.specs.Term.{Term}
use Rattle.hy_terms.specs.TermOrder.{compare}
use Rattle.hy_core.specs.BuiltIn.{Value, truth, is_less, is_equal, is_greater}
use Rattle.hy_core.specs.TermComparisonLaws.{Tells, ComparesByOrder}

abbrev By : (Ordering → Bool) → Ordering → Type 0 → Type 0
By f o P = Tells (Value (truth (f o))) P

told : {P : Type 0} → P → Tells (Value (truth true)) P
told p = record { yes = (λ h. p, λ q. refl); no = (λ h. absurd cc, λ n. absurd (n p)) }

not_told : {P : Type 0} → (P → ⊥) → Tells (Value (truth false)) P
not_told n = record { yes = (λ h. absurd cc, λ p. absurd (n p)); no = (λ h. n, λ m. refl) }

by_equal : (o : Ordering) → By is_equal o (o ≡ Equal)
by_equal Less = not_told (λ p. cc)
by_equal Equal = told refl
by_equal Greater = not_told (λ p. cc)

by_apart : (o : Ordering) → By (λ r. not (is_equal r)) o ((o ≡ Less) ⊎ (o ≡ Greater))
by_apart Less = told (inl refl)
by_apart Equal = not_told (λ p. elim p [ inl q ↦ cc | inr q ↦ cc ])
by_apart Greater = told (inr refl)

by_less : (o : Ordering) → By is_less o (o ≡ Less)
by_less Less = told refl
by_less Equal = not_told (λ p. cc)
by_less Greater = not_told (λ p. cc)

by_greater : (o : Ordering) → By is_greater o (o ≡ Greater)
by_greater Less = not_told (λ p. cc)
by_greater Equal = not_told (λ p. cc)
by_greater Greater = told refl

by_at_most : (o : Ordering) → By (λ r. not (is_greater r)) o ((o ≡ Less) ⊎ (o ≡ Equal))
by_at_most Less = told (inl refl)
by_at_most Equal = told (inr refl)
by_at_most Greater = not_told (λ p. elim p [ inl q ↦ cc | inr q ↦ cc ])

by_at_least : (o : Ordering) → By (λ r. not (is_less r)) o ((o ≡ Greater) ⊎ (o ≡ Equal))
by_at_least Less = not_told (λ p. elim p [ inl q ↦ cc | inr q ↦ cc ])
by_at_least Equal = told (inr refl)
by_at_least Greater = told (inl refl)

pub compares_by_order : (atoms : List (List ℕ)) (pid : ℕ) (t u : Term) → ComparesByOrder atoms pid t u
compares_by_order atoms pid t u =
    let o = compare atoms t u in
    record {
      same = by_equal o;
      equal = by_equal o;
      not_same = by_apart o;
      not_equal = by_apart o;
      less = by_less o;
      greater = by_greater o;
      at_most = by_at_most o;
      at_least = by_at_least o;
    }
