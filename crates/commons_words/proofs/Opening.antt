-- The table at the start meets the rule.
use Rattle.std.proofs.Common.{◌≡◌, ℕ, zero, suc, ◌+◌, ◌-◌, List, [], ◌∷◌, ◌++◌, sym, refl, ap, ◌∙◌, subst, arith}
use Rattle.std.specs.Prelude.{replicate}
use mathlib.Core.Option.{some, some-injective, some-ne-none}
use lib.ListN.{get_elem?}
use Rattle.atomic_table.specs.Table.{opening}
use Rattle.commons.specs.Views.{IsAreaSize, IsLogSize, IsSound}
use Rattle.commons.specs.Steps.{first_view}
use Rattle.commons.proofs.PlainOpens.{zeros, opens}
use Rattle.commons.proofs.Steps.{sound_at}
use Rattle.commons_words.specs.declared.rule.SeatView.{SeatView}
use Rattle.commons_words.specs.Held.{first_seat, IsHeld, Sits, Gathered}
use Rattle.commons_words.proofs.Moves.{none_gathered}

zeros_joined : (m n : ℕ) → zeros (m + n) ≡ zeros m ++ zeros n
zeros_joined zero n = ap (λ (k : ℕ). zeros k) (let e : 0 + n ≡ n = omega arith in e)
zeros_joined (suc m) n = ap (λ (k : ℕ). zeros k) (let e : suc m + n ≡ suc (m + n) = omega arith in e) ∙ ap (λ (xs : List ℕ). 0 ∷ xs) (zeros_joined m n)

pub sound_first : (a l : ℕ) → IsAreaSize a → IsLogSize l → IsSound a l (first_view a)
sound_first a l small short = sound_at a l 0 0 [] (zeros a) (first_view a ∷ []) (first_view a) small short (opens a l) refl refl

one_seat : (x y : SeatView) (k : ℕ) → get_elem? (x ∷ []) k ≡ some y → (k ≡ 0) × (x ≡ y)
one_seat x y zero e = (refl, some-injective x y e)
one_seat x y (suc k) e = absurd (some-ne-none y (sym e))

pub table_opens : (a l : ℕ) (words : List ℕ) → words ≡ replicate (1 + l + a) 0 → IsHeld a l (opening words [] (first_seat a l))
table_opens a l words e = record {
  claim = 0;
  log = [];
  area = zeros a;
  views = first_view a ∷ [];
  holder = λ _. 0;
  words = e ∙ (ap (λ (k : ℕ). zeros k) (let z : 1 + l + a ≡ suc (l + a) = omega arith in z) ∙ ap (λ (xs : List ℕ). 0 ∷ xs) (zeros_joined l a ∙ ap (λ (k : ℕ). zeros k ++ zeros a) (let z : l ≡ l - 0 = omega arith in z)));
  kept = opens a l;
  sizes = λ id x f live. let t = one_seat (first_seat a l) x id f in (ap (λ (y : SeatView). y.area_size) (sym t.1), ap (λ (y : SeatView). y.log_size) (sym t.1));
  seats = λ id x f. let t = one_seat (first_seat a l) x id f in subst (λ (y : SeatView). Sits [] (first_view a ∷ []) (λ _. 0) id y.view y.role) t.1 ((0, refl), sym t.0);
  joined = λ id x f. let t = one_seat (first_seat a l) x id f in subst (λ (y : SeatView). Gathered (first_view a ∷ []) (λ _. 0) id y.view y.joined) t.1 (none_gathered (first_view a ∷ []) (λ _. 0) id (first_view a));
}
