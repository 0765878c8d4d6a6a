-- What a table of exports has, once texts and a row come in.
use Rattle.std.proofs.Common.{◌≡◌, ℕ, ◌<◌, ◌≤◌, ◌&&◌, ◌||◌, nat_eq, nat_lt, Bool, true, false, if◌then◌else◌, List, [], ◌∷◌, ◌++◌, length, slice_get, Option, Some, None, ◌⊎◌, inl, inr, refl, sym, ap, ◌∙◌, subst, arith, eq-eqb, eqb-true, ltb-true, ltb-false}
use Rattle.std.proofs.Math.Bool.{or-false}
use Rattle.std.proofs.lemmas.Bool.{and_parts, false_from_ne_true, or_cases}
use Rattle.std.proofs.lemmas.List.Folds.{list_any-append}
use Rattle.std.proofs.lemmas.Slice.Eq.{bytes_eq-Decides}
use Rattle.std.specs.List.{list_any}
use Rattle.std.specs.Str.{bytes_eq}
use Rattle.hy_terms.specs.Naming.{named, place_in}
use Rattle.hy_terms.proofs.NamingLemmas.{Names, named-Names, place_in-kept, place_in-Some, slice_get-below, slice_get-kept, slice_get-place_in, slice_get-within}
use Rattle.indexmap.specs.IndexSet.{insert_key}
use Rattle.core_lint.specs.code.Exports.{Row, RowsWithin, has_export, has_row, is_export, is_row}
use Rattle.core_lint.proofs.RepeatedLemmas.{eqb-sym, or-true}

is_row-same : (x y : Row) → is_row x y ≡ true → x ≡ y
is_row-same x y e =
    let outer = and_parts (nat_eq x.0 y.0 && nat_eq x.1 y.1) (nat_eq x.2 y.2) e in
    let inner = and_parts (nat_eq x.0 y.0) (nat_eq x.1 y.1) outer.0 in
    let p = eqb-true x.0 y.0 inner.0 in
    let q = eqb-true x.1 y.1 inner.1 in
    let r = eqb-true x.2 y.2 outer.1 in
    λ i. (p i, q i, r i)

-- the rows after one comes in
pub any-inserted : (rows : List Row) (x y : Row) → list_any (is_row x) (insert_key is_row rows y) ≡ (list_any (is_row x) rows || is_row x y)
any-inserted rows x y = by (list_any (is_row y) rows) refl
  where
    there : (b : Bool) → is_row x y ≡ b → list_any (is_row y) rows ≡ true → list_any (is_row x) rows ≡ (list_any (is_row x) rows || b)
    there true e h = ap (λ z. list_any (is_row z) rows) (is_row-same x y e) ∙ h ∙ sym (or-true (list_any (is_row x) rows))
    there false e h = sym (or-false (list_any (is_row x) rows))

    by : (b : Bool) → list_any (is_row y) rows ≡ b → list_any (is_row x) (if b then rows else rows ++ y ∷ []) ≡ (list_any (is_row x) rows || is_row x y)
    by true e = there (is_row x y) refl e
    by false e = list_any-append (is_row x) rows (y ∷ []) ∙ ap (λ b. list_any (is_row x) rows || b) (or-false (is_row x y))

pub within-more : (n m : ℕ) (rows : List Row) → RowsWithin n rows → n ≤ m → RowsWithin m rows
within-more n m rows h more = record { within = λ row e. let w = h.within row e in (omega (arith, w.0), omega (arith, w.1)) }

pub within-inserted : (n : ℕ) (rows : List Row) (y : Row) → RowsWithin n rows → y.0 < n → y.1 < n → RowsWithin n (insert_key is_row rows y)
within-inserted n rows y h p q = record { within = λ row e. by row (or_cases _ _ (sym (any-inserted rows row y) ∙ e)) }
  where
    by : (row : Row) → (list_any (is_row row) rows ≡ true) ⊎ (is_row row y ≡ true) → (row.0 < n) × (row.1 < n)
    by row (inl e) = h.within row e
    by row (inr e) = subst (λ (z : Row). (z.0 < n) × (z.1 < n)) (sym (is_row-same row y e)) (p, q)

-- a text that a table doesn't have stands behind it where it comes in
new-behind : (texts more : List (List ℕ)) (text : List ℕ) (k : ℕ) → place_in texts text ≡ None → place_in (texts ++ more) text ≡ Some k → length texts ≤ k
new-behind texts more text k absent is = by (nat_lt k (length texts)) refl
  where
    by : (b : Bool) → nat_lt k (length texts) ≡ b → length texts ≤ k
    by true e =
        let here = slice_get-within texts k (ltb-true k (length texts) e) in
        let kept = slice_get-kept texts more k here.0 here.1 in
        let found = slice_get-place_in (texts ++ more) text k is in
        let same : here.0 ≡ text = cc (kept, found) in
        let known = place_in-Some texts text k (subst (λ t. slice_get texts k ≡ Some t) same here.1) in
        absurd (cc (absent, known.1))
    by false e = ltb-false k (length texts) e

-- further texts leave the exports
pub has-kept : (texts more : List (List ℕ)) (rows : List Row) → RowsWithin (length texts) rows → (a b : List ℕ) (n : ℕ)
    → has_export (record { texts = texts ++ more; rows = rows }) a b n ≡ has_export (record { texts = texts; rows = rows }) a b n
has-kept texts more rows h a b n = by (place_in texts a) refl (place_in (texts ++ more) a) refl (place_in texts b) refl (place_in (texts ++ more) b) refl
  where
    kept : (text : List ℕ) (i : ℕ) (o : Option ℕ) → place_in texts text ≡ Some i → place_in (texts ++ more) text ≡ o → o ≡ Some i
    kept text i o e f = sym f ∙ place_in-kept texts more text i e

    no_row : (row : Row) → ((row.0 < length texts) × (row.1 < length texts) → ⊥) → list_any (is_row row) rows ≡ false
    no_row row outside = false_from_ne_true _ (λ e. outside (h.within row e))

    by : (o : Option ℕ) → place_in texts a ≡ o → (v : Option ℕ) → place_in (texts ++ more) a ≡ v → (p : Option ℕ) → place_in texts b ≡ p → (w : Option ℕ) → place_in (texts ++ more) b ≡ w
        → has_row rows v w n ≡ has_row rows o p n
    by (Some i) e v f (Some j) g w k = λ t. has_row rows (kept a i v e f t) (kept b j w g k t) n
    by (Some i) e v f None g None k = ap (λ o. has_row rows o None n) (kept a i v e f)
    by (Some i) e v f None g (Some l) k = ap (λ o. has_row rows o (Some l) n) (kept a i v e f) ∙ no_row (i, l, n) (λ w. absurd (omega (arith, w.1, new-behind texts more b l g k)))
    by None e None f p g w k = refl
    by None e (Some l) f p g None k = refl
    by None e (Some l) f p g (Some r) k = no_row (l, r, n) (λ w. absurd (omega (arith, w.0, new-behind texts more a l e f)))

-- places are equal where the texts are
same-places : (texts : List (List ℕ)) (text asked : List ℕ) (p i : ℕ) → place_in texts text ≡ Some p → place_in texts asked ≡ Some i → nat_eq i p ≡ bytes_eq text asked
same-places texts text asked p i is at = by (bytes_eq text asked) refl
  where
    by : (b : Bool) → bytes_eq text asked ≡ b → nat_eq i p ≡ b
    by true e =
        let same = (bytes_eq-Decides text asked).0 e in
        let equal : i ≡ p = cc (ap (place_in texts) same, is, at) in
        eq-eqb i p equal
    by false e = false_from_ne_true _ (λ s.
        let equal = eqb-true i p s in
        let one = slice_get-place_in texts text p is in
        let two = slice_get-place_in texts asked i at in
        let same : text ≡ asked = cc (one, two, equal) in
        absurd (cc (e, (bytes_eq-Decides text asked).1 same)))

-- another text than one that has a place
other-text : (texts : List (List ℕ)) (text asked : List ℕ) (p : ℕ) → place_in texts text ≡ Some p → place_in texts asked ≡ None → bytes_eq text asked ≡ false
other-text texts text asked p is absent = false_from_ne_true _ (λ e. let same = (bytes_eq-Decides text asked).0 e in absurd (cc (ap (place_in texts) same, is, absent)))

-- the exports after a row comes in
pub has-inserted : (texts : List (List ℕ)) (rows : List Row) (a b : List ℕ) (n p q : ℕ) → place_in texts a ≡ Some p → place_in texts b ≡ Some q → (c d : List ℕ) (k : ℕ)
    → has_export (record { texts = texts; rows = insert_key is_row rows (p, q, n) }) c d k ≡ (has_export (record { texts = texts; rows = rows }) c d k || is_export a b n c d k)
has-inserted texts rows a b n p q first second c d k = by (place_in texts c) refl (place_in texts d) refl
  where
    by : (o : Option ℕ) → place_in texts c ≡ o → (w : Option ℕ) → place_in texts d ≡ w
        → has_row (insert_key is_row rows (p, q, n)) o w k ≡ (has_row rows o w k || is_export a b n c d k)
    by (Some i) e (Some j) f =
        any-inserted rows (i, j, k) (p, q, n)
        ∙ (λ t. list_any (is_row (i, j, k)) rows || ((same-places texts a c p i first e t && same-places texts b d q j second f t) && eqb-sym k n t))
    by (Some i) e None f = λ t. sides (bytes_eq a c) t && nat_eq n k
      where
        sides : (x : Bool) → false ≡ (x && bytes_eq b d)
        sides true = sym (other-text texts b d q second f)
        sides false = refl
    by None e w f = ap (λ x. (x && bytes_eq b d) && nat_eq n k) (sym (other-text texts a c p first e))

-- the place of a text, and the exports, once another text is named
pub place-named : (before after : List (List ℕ)) (a b : List ℕ) (p q : ℕ) → place_in before a ≡ Some p → named before b ≡ (q, after) → place_in after a ≡ Some p
place-named before after a b p q at is =
    let names : Names before b q after = subst (λ (x : ℕ × List (List ℕ)). Names before b x.0 x.1) is (named-Names before b) in
    ap (λ t. place_in t a) names.extends ∙ place_in-kept before names.more a p at

pub has-named : (before after : List (List ℕ)) (rows : List Row) (text : List ℕ) (q : ℕ) → named before text ≡ (q, after) → RowsWithin (length before) rows → (c d : List ℕ) (k : ℕ)
    → has_export (record { texts = after; rows = rows }) c d k ≡ has_export (record { texts = before; rows = rows }) c d k
has-named before after rows text q is within c d k =
    let names : Names before text q after = subst (λ (x : ℕ × List (List ℕ)). Names before text x.0 x.1) is (named-Names before text) in
    ap (λ t. has_export (record { texts = t; rows = rows }) c d k) names.extends ∙ has-kept before names.more rows within c d k

-- the text itself
pub named-place : (before after : List (List ℕ)) (text : List ℕ) (q : ℕ) → named before text ≡ (q, after) → place_in after text ≡ Some q
named-place before after text q is = (subst (λ (x : ℕ × List (List ℕ)). Names before text x.0 x.1) is (named-Names before text)).found

-- an export comes in: first its name, and then the row
pub has-added : (before after : List (List ℕ)) (rows more : List Row) (a b : List ℕ) (n p q : ℕ)
    → place_in before a ≡ Some p → named before b ≡ (q, after) → RowsWithin (length before) rows → more ≡ insert_key is_row rows (p, q, n) → (c d : List ℕ) (k : ℕ)
    → has_export (record { texts = after; rows = more }) c d k ≡ (has_export (record { texts = before; rows = rows }) c d k || is_export a b n c d k)
has-added before after rows more a b n p q at named_so within is c d k =
    ap (λ rs. has_export (record { texts = after; rows = rs }) c d k) is
    ∙ has-inserted after rows a b n p q (place-named before after a b p q at named_so) (named-place before after b q named_so) c d k
    ∙ ap (λ h. h || is_export a b n c d k) (has-named before after rows b q named_so within c d k)

-- the rows stay within the texts
pub within-named : (before after : List (List ℕ)) (rows : List Row) (text : List ℕ) (p : ℕ) → named before text ≡ (p, after) → RowsWithin (length before) rows → RowsWithin (length after) rows
within-named before after rows text p is h =
    let names : Names before text p after = subst (λ (x : ℕ × List (List ℕ)). Names before text x.0 x.1) is (named-Names before text) in
    within-more (length before) (length after) rows h names.no_shorter

pub within-added : (before after : List (List ℕ)) (rows : List Row) (b : List ℕ) (n p q : ℕ) → p < length before → named before b ≡ (q, after) → RowsWithin (length before) rows → RowsWithin (length after) (insert_key is_row rows (p, q, n))
within-added before after rows b n p q below is within =
    let names : Names before b q after = subst (λ (x : ℕ × List (List ℕ)). Names before b x.0 x.1) is (named-Names before b) in
    within-inserted (length after) rows (p, q, n) (within-named before after rows b q is within) (omega (arith, below, names.no_shorter)) names.below

-- a place lies in the table
pub place-below : (texts : List (List ℕ)) (text : List ℕ) (p : ℕ) → place_in texts text ≡ Some p → p < length texts
place-below texts text p is = slice_get-below texts p text (slice_get-place_in texts text p is)
