-- Where a text stands in a table, and what naming a text leaves.
use Rattle.std.proofs.Common.{◌≡◌, ℕ, zero, suc, ◌+◌, ◌<◌, ◌≤◌, ◌^◌, Bool, true, false, cond, List, [], ◌∷◌, ◌++◌, length, slice_get, Option, Some, None, refl, sym, ap, subst, ◌∙◌, ◌⊎◌, inl, inr, true≢false, arith, length-append, append-nil}
use Rattle.std.proofs.lemmas.Slice.Eq.{bytes_eq-Decides}
use Rattle.std.specs.Str.{bytes_eq}
use Rattle.hy_terms.specs.Naming.{one_on, place_in, numbered, named, IsTable}

-- a text equals itself
pub bytes_eq-same : (text : List ℕ) → bytes_eq text text ≡ true
bytes_eq-same text = (bytes_eq-Decides text text).1 refl

pub one_on-None : (o : Option ℕ) → one_on o ≡ None → o ≡ None
one_on-None None e = refl
one_on-None (Some k) e = absurd cc

one_on-Some : (o : Option ℕ) (k : ℕ) → one_on o ≡ Some k → (j : ℕ) × (o ≡ Some j) × (k ≡ suc j)
one_on-Some None k e = absurd cc
one_on-Some (Some j) k e = (j, refl, cc)

-- a text is named by its place where it has one
pub named-known : (texts : List (List ℕ)) (text : List ℕ) (k : ℕ) → place_in texts text ≡ Some k → named texts text ≡ (k, texts)
unfolding named
named-known texts text k h = ap (numbered texts text) h

-- and goes last where it is new
pub named-new : (texts : List (List ℕ)) (text : List ℕ) → place_in texts text ≡ None → named texts text ≡ (length texts, texts ++ text ∷ [])
unfolding named
named-new texts text h = ap (numbered texts text) h

-- the text at the place of a text is that text
pub slice_get-place_in : (texts : List (List ℕ)) (text : List ℕ) (k : ℕ) → place_in texts text ≡ Some k → slice_get texts k ≡ Some text
slice_get-place_in [] text k h = absurd cc
slice_get-place_in (x ∷ xs) text k h = by (bytes_eq x text) refl k h (slice_get-place_in xs text)
  where
    by : (b : Bool) → bytes_eq x text ≡ b → (k : ℕ) → cond b (Some 0) (one_on (place_in xs text)) ≡ Some k → ((j : ℕ) → place_in xs text ≡ Some j → slice_get xs j ≡ Some text) → slice_get (x ∷ xs) k ≡ Some text
    by true e k h behind = let z : 0 ≡ k = cc in subst (λ k. slice_get (x ∷ xs) k ≡ Some text) z (ap (λ (t : List ℕ). Some t) ((bytes_eq-Decides x text).0 e))
    by false e k h behind =
        let o = one_on-Some (place_in xs text) k h in
        subst (λ k. slice_get (x ∷ xs) k ≡ Some text) (sym o.2) (behind o.0 o.1)

-- a text at some place has a place
pub place_in-Some : (texts : List (List ℕ)) (text : List ℕ) (k : ℕ) → slice_get texts k ≡ Some text → (j : ℕ) × (place_in texts text ≡ Some j)
place_in-Some [] text k h = absurd cc
place_in-Some (x ∷ xs) text k h = by (bytes_eq x text) refl k h (place_in-Some xs text)
  where
    by : (b : Bool) → bytes_eq x text ≡ b → (k : ℕ) → slice_get (x ∷ xs) k ≡ Some text → ((j : ℕ) → slice_get xs j ≡ Some text → (i : ℕ) × (place_in xs text ≡ Some i)) → (j : ℕ) × (cond b (Some 0) (one_on (place_in xs text)) ≡ Some j)
    by true e k h behind = (0, refl)
    by false e zero h behind = let same : x ≡ text = cc in absurd (true≢false (sym ((bytes_eq-Decides x text).1 same) ∙ e))
    by false e (suc k) h behind = let p = behind k h in (suc p.0, ap one_on p.1)

-- a place lies in the table
pub slice_get-below : {A : Type 0} (xs : List A) (k : ℕ) (x : A) → slice_get xs k ≡ Some x → k < length xs
slice_get-below [] k x h = absurd cc
slice_get-below (y ∷ ys) zero x h = omega arith
slice_get-below (y ∷ ys) (suc k) x h = omega (arith, slice_get-below ys k x h)

-- and has a text
pub slice_get-within : {A : Type 0} (xs : List A) (k : ℕ) → k < length xs → (x : A) × (slice_get xs k ≡ Some x)
slice_get-within [] k h = absurd (omega arith)
slice_get-within (y ∷ ys) zero h = (y, refl)
slice_get-within (y ∷ ys) (suc k) h = slice_get-within ys k (omega arith)

-- a longer table keeps the texts at their places
pub slice_get-kept : {A : Type 0} (xs more : List A) (k : ℕ) (x : A) → slice_get xs k ≡ Some x → slice_get (xs ++ more) k ≡ Some x
slice_get-kept [] more k x h = absurd cc
slice_get-kept (y ∷ ys) more zero x h = h
slice_get-kept (y ∷ ys) more (suc k) x h = slice_get-kept ys more k x h

-- what stands behind all
pub slice_get-last : {A : Type 0} (xs : List A) (x : A) → slice_get (xs ++ x ∷ []) (length xs) ≡ Some x
slice_get-last [] x = refl
slice_get-last (y ∷ ys) x = slice_get-last ys x

slice_get-push : {A : Type 0} (xs : List A) (x : A) (k : ℕ) (y : A) → slice_get (xs ++ x ∷ []) k ≡ Some y → (slice_get xs k ≡ Some y) ⊎ ((k ≡ length xs) × (x ≡ y))
slice_get-push [] x zero y h = inr (refl, cc)
slice_get-push [] x (suc k) y h = absurd cc
slice_get-push (z ∷ zs) x zero y h = inl h
slice_get-push (z ∷ zs) x (suc k) y h = elim (slice_get-push zs x k y h) [ inl at ↦ inl at | inr at ↦ inr (omega arith, at.1) ]

-- a longer table keeps the places of its texts
pub place_in-kept : (texts more : List (List ℕ)) (text : List ℕ) (k : ℕ) → place_in texts text ≡ Some k → place_in (texts ++ more) text ≡ Some k
place_in-kept [] more text k h = absurd cc
place_in-kept (x ∷ xs) more text k h = by (bytes_eq x text) k h (place_in-kept xs more text)
  where
    by : (b : Bool) (k : ℕ) → cond b (Some 0) (one_on (place_in xs text)) ≡ Some k → ((j : ℕ) → place_in xs text ≡ Some j → place_in (xs ++ more) text ≡ Some j) → cond b (Some 0) (one_on (place_in (xs ++ more) text)) ≡ Some k
    by true k h behind = h
    by false k h behind = let o = one_on-Some (place_in xs text) k h in ap one_on (behind o.0 o.1) ∙ ap (λ (n : ℕ). Some n) (sym o.2)

place_in-last : (texts : List (List ℕ)) (text : List ℕ) → place_in texts text ≡ None → place_in (texts ++ text ∷ []) text ≡ Some (length texts)
place_in-last [] text h = rw (bytes_eq-same text) refl
place_in-last (x ∷ xs) text h = by (bytes_eq x text) h (place_in-last xs text)
  where
    by : (b : Bool) → cond b (Some 0) (one_on (place_in xs text)) ≡ None → (place_in xs text ≡ None → place_in (xs ++ text ∷ []) text ≡ Some (length xs)) → cond b (Some 0) (one_on (place_in (xs ++ text ∷ []) text)) ≡ Some (length (x ∷ xs))
    by true h behind = absurd cc
    by false h behind = ap one_on (behind (one_on-None _ h))

-- what naming a text does to a table
pub record Names (texts : List (List ℕ)) (text : List ℕ) (number : ℕ) (after : List (List ℕ)) : Type 0 where
  pub more : List (List ℕ)
  pub extends : after ≡ texts ++ more
  pub at_most_one : length after ≤ length texts + 1
  pub no_shorter : length texts ≤ length after
  pub below : number < length after
  pub stands : slice_get after number ≡ Some text
  pub found : place_in after text ≡ Some number

-- the table begins with what it was, and has the text at its number
pub named-Names : (texts : List (List ℕ)) (text : List ℕ) → Names texts text (named texts text).0 (named texts text).1
named-Names texts text = by (place_in texts text) refl
  where
    by : (o : Option ℕ) → place_in texts text ≡ o → Names texts text (named texts text).0 (named texts text).1
    by (Some k) e =
        let at = slice_get-place_in texts text k e in
        subst (λ r. Names texts text r.0 r.1) (sym (named-known texts text k e)) (record {
          more = [];
          extends = sym (append-nil texts);
          at_most_one = omega arith;
          no_shorter = omega arith;
          below = slice_get-below texts k text at;
          stands = at;
          found = e;
        })
    by None e =
        subst (λ r. Names texts text r.0 r.1) (sym (named-new texts text e)) (record {
          more = text ∷ [];
          extends = refl;
          at_most_one = omega (arith, length-append texts (text ∷ []));
          no_shorter = omega (arith, length-append texts (text ∷ []));
          below = omega (arith, length-append texts (text ∷ []));
          stands = slice_get-last texts text;
          found = place_in-last texts text e;
        })

-- each text that had a number keeps it
pub slice_get-named : (texts : List (List ℕ)) (text : List ℕ) (k : ℕ) (x : List ℕ) → slice_get texts k ≡ Some x → slice_get (named texts text).1 k ≡ Some x
slice_get-named texts text k x h = let n = named-Names texts text in rw n.extends (slice_get-kept texts n.more k x h)

-- the numbers of a table are those by which its texts are named
pub named-again : (texts : List (List ℕ)) → IsTable texts → (k : ℕ) (text : List ℕ) → slice_get texts k ≡ Some text → named texts text ≡ (k, texts)
named-again texts table k text h = named-known texts text k (table.once k text h)

-- a table with room for a text is still one after naming it
pub IsTable-named : (texts : List (List ℕ)) (text : List ℕ) → IsTable texts → length (named texts text).1 ≤ 2 ^ 20 → IsTable (named texts text).1
IsTable-named texts text table = by (place_in texts text) refl
  where
    by : (o : Option ℕ) → place_in texts text ≡ o → length (named texts text).1 ≤ 2 ^ 20 → IsTable (named texts text).1
    by (Some k) e few = subst (λ r. IsTable r.1) (sym (named-known texts text k e)) table
    by None e few =
        let new = named-new texts text e in
        subst (λ r. IsTable r.1) (sym new) (record {
          few = subst (λ r. length r.1 ≤ 2 ^ 20) new few;
          once = λ k x h. elim (slice_get-push texts text k x h) [
            | inl at ↦ place_in-kept texts (text ∷ []) x k (table.once k x at)
            | inr at ↦ subst (λ x. place_in (texts ++ text ∷ []) x ≡ Some k) at.1 (place_in-last texts text e ∙ ap (λ (n : ℕ). Some n) (sym at.0))
          ];
        })

-- the empty table
pub IsTable-empty : IsTable []
IsTable-empty = record { few = omega arith; once = λ k x h. absurd cc }
