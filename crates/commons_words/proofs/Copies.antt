-- Words that are read out one after the other.
use Rattle.std.proofs.Common.{◌≡◌, ◌≢◌, ℕ, zero, suc, ◌+◌, ◌<◌, List, [], ◌∷◌, ◌++◌, length-append, sym, ap, ◌∙◌, subst, arith}
use Rattle.std.specs.Prelude.{slice_index}
use Rattle.std.proofs.lemmas.List.{get_or_append_left, get_or_push}
use native.Mathlib.Decide.{dec_lt}
use mathlib.Core.Logic.{dite}
use mathlib.Core.Option.{some, some-injective, some-ne-none}
use lib.ListN.{get_elem?}
use Rattle.commons_words.specs.Reading.{IsRowOf}

elem_at : (xs : List ℕ) (i x : ℕ) → get_elem? xs i ≡ some x → slice_index xs i ≡ x
elem_at [] i x e = absurd (some-ne-none x (sym e))
elem_at (y ∷ ys) zero x e = some-injective y x e
elem_at (y ∷ ys) (suc i) x e = elem_at ys i x e

pub row_more : (ws : List ℕ) (start n x : ℕ) (row : List ℕ) → IsRowOf ws start n row → get_elem? ws (start + n) ≡ some x → IsRowOf ws start (n + 1) (row ++ x ∷ [])
row_more ws start n x row r e = record {
  count = let c = r.count in omega (arith, length-append row (x ∷ []));
  same = λ k h. dite (dec_lt k n)
      (λ old. get_or_append_left row (x ∷ []) 0 k (let c = r.count in omega arith) ∙ r.same k old)
      (λ last. let z : k ≡ n = omega arith in get_or_push row x 0 k (r.count ∙ sym z) ∙ sym (ap (λ (q : ℕ). slice_index ws (start + q)) z ∙ elem_at ws (start + n) x e));
}

pub written_more : (ws : List ℕ) (n x : ℕ) → ((k : ℕ) → k < n → slice_index ws (1 + k) ≢ 0) → get_elem? ws (1 + n) ≡ some x → x ≢ 0 → (k : ℕ) → k < n + 1 → slice_index ws (1 + k) ≢ 0
written_more ws n x each e some_word k h = dite (dec_lt k n) (λ old. each k old)
    (λ last. let z : k ≡ n = omega arith in subst (λ (q : ℕ). slice_index ws (1 + q) ≢ 0) (sym z) (λ none_there. some_word (sym (elem_at ws (1 + n) x e) ∙ none_there)))

pub ends_at : (ws : List ℕ) (n x : ℕ) → get_elem? ws (1 + n) ≡ some x → x ≡ 0 → slice_index ws (1 + n) ≡ 0
ends_at ws n x e none_there = elem_at ws (1 + n) x e ∙ none_there
