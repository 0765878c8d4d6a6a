-- Bytes written one piece after the other.
use Rattle.std.proofs.Common.{◌≡◌, ℕ, ◌+◌, ◌<◌, List, [], ◌∷◌, ◌++◌, map, take, length, get_or, Option, None, Some, refl, sym, ap, subst, ◌∙◌, append_assoc}
use Rattle.std.proofs.lemmas.List.{append-nil, map-append, take_more, take-append-drop}
use Rattle.std.specs.Prelude.{drop}
use Rattle.hy_core.specs.Canonical.{canonical_text, one_after_another}
use Rattle.hy_core.specs.declared.tree.Module.{Module}
use Rattle.hybrid_run.specs.Arithmetic.{value_text, printed_lines}
use Rattle.hybrid_run.specs.Headline.{Keeps}
use Rattle.outside.specs.Outside.{Appends, AppendsPrefix}
use Rattle.hybrid_run.specs.declared.value.Value.{Value}

pub appends_both : (a b c : Option (List ℕ)) (xs ys : List ℕ) → Appends a b xs → Appends b c ys → Appends a c (xs ++ ys)
appends_both None b c xs ys p q = tt
appends_both (Some old) None c xs ys p q = absurd cc
appends_both (Some old) (Some mid) c xs ys p q =
    let same : mid ≡ old ++ xs = cc in
    q ∙ ap (λ (k : List ℕ). Some (k ++ ys)) same ∙ ap (λ (k : List ℕ). Some k) (append_assoc old xs ys)

-- a first part of what comes behind is a first part of the whole
pub prefix_behind : (a b c : Option (List ℕ)) (xs ys : List ℕ) → Appends a b xs → AppendsPrefix b c ys → AppendsPrefix a c (xs ++ ys)
prefix_behind None b c xs ys p q = tt
prefix_behind (Some old) None c xs ys p q = absurd cc
prefix_behind (Some old) (Some mid) c xs ys p (part, rest, whole, now) =
    let same : mid ≡ old ++ xs = cc in
    (xs ++ part, rest, append_assoc xs part rest ∙ ap (λ (k : List ℕ). xs ++ k) whole, now ∙ ap (λ (k : List ℕ). Some (k ++ part)) same ∙ ap (λ (k : List ℕ). Some k) (append_assoc old xs part))

-- a first part of the front is one of the whole
pub prefix_longer : (a c : Option (List ℕ)) (xs ys : List ℕ) → AppendsPrefix a c xs → AppendsPrefix a c (xs ++ ys)
prefix_longer None c xs ys q = tt
prefix_longer (Some old) c xs ys (part, rest, whole, now) = (part, rest ++ ys, sym (append_assoc part rest ys) ∙ ap (λ (k : List ℕ). k ++ ys) whole, now)

-- ---- what was held is at the front

pub keeps_same : (a : Option (List ℕ)) → Keeps a a
keeps_same None = tt
keeps_same (Some xs) = ([], ap Some (sym (append-nil xs)))

pub keeps_both : (a b c : Option (List ℕ)) → Keeps a b → Keeps b c → Keeps a c
keeps_both None b c p q = tt
keeps_both (Some old) None c p q = absurd (let bad = p.1 in cc)
keeps_both (Some old) (Some mid) c (more, p) (rest, q) =
    let same : mid ≡ old ++ more = cc in
    (more ++ rest, q ∙ ap (λ (k : List ℕ). Some (k ++ rest)) same ∙ ap (λ (k : List ℕ). Some k) (append_assoc old more rest))

pub appends_keeps : (a b : Option (List ℕ)) (xs : List ℕ) → Appends a b xs → Keeps a b
appends_keeps None b xs p = tt
appends_keeps (Some old) b xs p = (xs, p)

pub prefix_keeps : (a b : Option (List ℕ)) (xs : List ℕ) → AppendsPrefix a b xs → Keeps a b
prefix_keeps None b xs p = tt
prefix_keeps (Some old) b xs (part, rest, whole, now) = (part, now)

-- ---- pieces, one for each item

module _ {A : Type 0} (piece : A → List ℕ) where
  pieces : List A → List ℕ
  pieces [] = []
  pieces (x ∷ xs) = piece x ++ pieces xs

  pieces-append : (xs ys : List A) → pieces (xs ++ ys) ≡ pieces xs ++ pieces ys
  unfolding pieces
  pieces-append [] ys = refl
  pieces-append (x ∷ xs) ys = ap (λ (k : List ℕ). piece x ++ k) (pieces-append xs ys) ∙ sym (append_assoc (piece x) (pieces xs) (pieces ys))

  -- one item more is one piece more
  pieces_more : (xs : List A) (i : ℕ) (d : A) → i < length xs → pieces (take (i + 1) xs) ≡ pieces (take i xs) ++ piece (get_or xs i d)
  unfolding pieces
  pieces_more xs i d h = ap pieces (take_more xs i d h) ∙ pieces-append (take i xs) (get_or xs i d ∷ []) ∙ ap (λ (k : List ℕ). pieces (take i xs) ++ k) (append-nil (piece (get_or xs i d)))

  -- one piece more in the sink
  piece_written : (a b c : Option (List ℕ)) (xs : List A) (i : ℕ) (d : A) → i < length xs → Appends a b (pieces (take i xs)) → Appends b c (piece (get_or xs i d)) → Appends a c (pieces (take (i + 1) xs))
  piece_written a b c xs i d h before now = subst (λ (k : List ℕ). Appends a c k) (sym (pieces_more xs i d h)) (appends_both a b c (pieces (take i xs)) (piece (get_or xs i d)) before now)

  -- a piece that was cut
  piece_cut : (a b c : Option (List ℕ)) (xs : List A) (i : ℕ) (d : A) → i < length xs → Appends a b (pieces (take i xs)) → AppendsPrefix b c (piece (get_or xs i d)) → AppendsPrefix a c (pieces xs)
  piece_cut a b c xs i d h before now =
      let one = piece (get_or xs i d) in
      let whole : pieces xs ≡ (pieces (take i xs) ++ one) ++ pieces (drop (i + 1) xs) =
      ap pieces (sym (take-append-drop (i + 1) xs)) ∙ pieces-append (take (i + 1) xs) (drop (i + 1) xs) ∙ ap (λ (k : List ℕ). k ++ pieces (drop (i + 1) xs)) (pieces_more xs i d h) in
      subst (λ (k : List ℕ). AppendsPrefix a c k) (sym whole) (prefix_longer a c (pieces (take i xs) ++ one) (pieces (drop (i + 1) xs)) (prefix_behind a b c (pieces (take i xs)) one before now))

-- ---- lines

abbrev line_piece : Value → List ℕ
line_piece value = value_text value ++ 10 ∷ []

lines_pieces : (values : List Value) → pieces line_piece values ≡ printed_lines values
unfolding pieces
lines_pieces [] = refl
lines_pieces (v ∷ vs) = ap (λ (k : List ℕ). line_piece v ++ k) (lines_pieces vs)

-- one line more in the sink
pub line_written : (a b c : Option (List ℕ)) (values : List Value) (i : ℕ) (d : Value) (text : List ℕ) → i < length values → text ≡ value_text (get_or values i d) ++ 10 ∷ [] → Appends a b (printed_lines (take i values)) → Appends b c text → Appends a c (printed_lines (take (i + 1) values))
line_written a b c values i d text h is before now =
    subst (λ (k : List ℕ). Appends a c k) (lines_pieces (take (i + 1) values))
    (piece_written line_piece a b c values i d h (subst (λ (k : List ℕ). Appends a b k) (sym (lines_pieces (take i values))) before) (subst (λ (k : List ℕ). Appends b c k) is now))

-- a line that was cut
pub line_cut : (a b c : Option (List ℕ)) (values : List Value) (i : ℕ) (d : Value) (text : List ℕ) → i < length values → text ≡ value_text (get_or values i d) ++ 10 ∷ [] → Appends a b (printed_lines (take i values)) → AppendsPrefix b c text → AppendsPrefix a c (printed_lines values)
line_cut a b c values i d text h is before now =
    subst (λ (k : List ℕ). AppendsPrefix a c k) (lines_pieces values)
    (piece_cut line_piece a b c values i d h (subst (λ (k : List ℕ). Appends a b k) (sym (lines_pieces (take i values))) before) (subst (λ (k : List ℕ). AppendsPrefix b c k) is now))

-- ---- texts

texts_pieces : (texts : List (List ℕ)) → pieces (λ text. text) texts ≡ one_after_another texts
unfolding pieces
texts_pieces [] = refl
texts_pieces (t ∷ ts) = ap (λ (k : List ℕ). t ++ k) (texts_pieces ts)

-- one text more in the sink
pub text_written : (a b c : Option (List ℕ)) (texts : List (List ℕ)) (i : ℕ) (d text : List ℕ) → i < length texts → text ≡ get_or texts i d → Appends a b (one_after_another (take i texts)) → Appends b c text → Appends a c (one_after_another (take (i + 1) texts))
text_written a b c texts i d text h is before now =
    subst (λ (k : List ℕ). Appends a c k) (texts_pieces (take (i + 1) texts))
    (piece_written (λ text. text) a b c texts i d h (subst (λ (k : List ℕ). Appends a b k) (sym (texts_pieces (take i texts))) before) (subst (λ (k : List ℕ). Appends b c k) is now))

-- a text that was cut
pub text_cut : (a b c : Option (List ℕ)) (texts : List (List ℕ)) (i : ℕ) (d text : List ℕ) → i < length texts → text ≡ get_or texts i d → Appends a b (one_after_another (take i texts)) → AppendsPrefix b c text → AppendsPrefix a c (one_after_another texts)
text_cut a b c texts i d text h is before now =
    subst (λ (k : List ℕ). AppendsPrefix a c k) (texts_pieces texts)
    (piece_cut (λ text. text) a b c texts i d h (subst (λ (k : List ℕ). Appends a b k) (sym (texts_pieces (take i texts))) before) (subst (λ (k : List ℕ). AppendsPrefix b c k) is now))

-- one module more is one text more
pub text_made : (zs : List Module) (texts now : List (List ℕ)) (i : ℕ) (z : Module) (text : List ℕ) → i < length zs → z ≡ get_or zs i z → texts ≡ map canonical_text (take i zs) → text ≡ canonical_text z → now ≡ texts ++ text ∷ [] → now ≡ map canonical_text (take (i + 1) zs)
text_made zs texts now i z text below is before made pushed =
    pushed
    ∙ (λ k. before k ++ (made ∙ ap canonical_text is) k ∷ [])
    ∙ sym (map-append canonical_text (take i zs) (get_or zs i z ∷ []))
    ∙ ap (map canonical_text) (sym (take_more zs i z below))
