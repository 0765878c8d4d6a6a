-- The texts of a table one after another.
use Rattle.std.proofs.Common.{◌≡◌, ℕ, ◌+◌, ◌<◌, ◌≤◌, List, [], ◌∷◌, ◌++◌, length, take, drop, slice_get, Option, Some, None, refl, sym, ap, ◌∙◌, arith}
use Rattle.std.proofs.lemmas.Grind.{common_steps}
use Rattle.std.proofs.lemmas.List.{take_more, take-append-drop}
use Rattle.std.proofs.lemmas.Option.{get_or_from_slice_get}
use Rattle.hy_terms.proofs.NamingLemmas.{named-new, place_in-kept, slice_get-below, slice_get-place_in}
use Rattle.hy_terms.specs.Naming.{named, place_in}
use Rattle.hy_terms.specs.Naming.{StandOnce}

-- a text that is named first goes last
pub named-last : (texts after : List (List ℕ)) (text : List ℕ) (k : ℕ) → place_in texts text ≡ None → named texts text ≡ (k, after) → after ≡ texts ++ text ∷ []
named-last texts after text k absent is = (λ i. (sym is i).1) ∙ (λ i. (named-new texts text absent i).1)

pub take-at : {A : Type 0} (xs : List A) (i : ℕ) (x : A) → slice_get xs i ≡ Some x → take (i + 1) xs ≡ take i xs ++ x ∷ []
take-at xs i x h = take_more xs i x (slice_get-below xs i x h) ∙ ap (λ y. take i xs ++ y ∷ []) (get_or_from_slice_get xs i x x h)

few_taken : {A : Type 0} (k : ℕ) (xs : List A) (j : ℕ) → j < length (take k xs) → j < k
few_taken k xs j h = grind (arith, common_steps)

-- a text of a table is not among those before it
pub absent_before : (table : List (List ℕ)) → StandOnce table → (k : ℕ) (text : List ℕ) → slice_get table k ≡ Some text → place_in (take k table) text ≡ None
absent_before table once k text at = by (place_in (take k table) text) refl
  where
    by : (o : Option ℕ) → place_in (take k table) text ≡ o → place_in (take k table) text ≡ None
    by None e = e
    by (Some j) e =
        let whole : place_in table text ≡ Some j = ap (λ t. place_in t text) (sym (take-append-drop k table)) ∙ place_in-kept (take k table) (drop k table) text j e in
        let same : Some j ≡ Some k = sym whole ∙ once k text at in
        let equal : j ≡ k = cc in
        let below = few_taken k table j (slice_get-below (take k table) j text (slice_get-place_in (take k table) text j e)) in
        absurd (omega (arith, below, equal))

-- all of them
pub taken-whole : {A : Type 0} (k : ℕ) (xs : List A) → length xs ≤ k → length (take k xs) ≡ length xs
taken-whole k xs h = grind (arith, common_steps)
