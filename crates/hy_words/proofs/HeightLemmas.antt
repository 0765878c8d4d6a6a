-- A term that a word stands for is no higher than there are places: on its way down each height has a cell of its own.
use Rattle.std.proofs.Common.{◌≡◌, ◌≢◌, ◌⊎◌, ℕ, zero, suc, ◌+◌, ◌-◌, ◌<◌, ◌≤◌, max, List, [], ◌∷◌, length, sym, refl, ap, ◌∙◌, ⊎_elim, inl, inr, subst, arith}
use Rattle.std.specs.Prelude.{slice_index}
use native.Mathlib.Decide.{ℕ_discrete, dec_lt}
use mathlib.Core.Logic.{dite}
use Rattle.hy_terms.specs.Labelled.{Labelled, labels_of}
use Rattle.hy_terms.specs.Labelled as l
use Rattle.hy_terms.specs.declared.term.Colour.{Colour}
use Rattle.hy_terms.specs.declared.term.Colour.TheVariants.{Private, Shared}
use Rattle.hy_words.specs.Heights.{height, greatest_height}
use Rattle.hy_words.specs.Stands.{cell_word_of, words_of, Stands, PartsStand, of_int, of_atom, of_pid, of_nil, of_cons, of_tuple, no_parts, more_parts}
use Rattle.hy_words.specs.Words.{cons_header_of, tuple_header_of}
use Rattle.hy_words.proofs.Standing.{one_term, cons_header_some, tuple_header_some}

-- ---- more numbers than places do not each have a place of their own

abbrev EachHas : ℕ → ℕ → (ℕ → ℕ → Type 0) → Type 0
EachHas n places Has = (m : ℕ) → m < n → (place : ℕ) × (place < places) × Has m place

abbrev IsOwn : (ℕ → ℕ → Type 0) → Type 0
IsOwn Has = (m k place : ℕ) → Has m place → Has k place → m ≡ k

-- the last place takes the place of the one that is taken away
abbrev Without : (ℕ → ℕ → Type 0) → ℕ → ℕ → ℕ → ℕ → Type 0
Without Has taken last m place = ((place ≢ taken) × Has m place) ⊎ ((place ≡ taken) × Has m last)

own_without : (Has : ℕ → ℕ → Type 0) (taken last : ℕ) → IsOwn Has → IsOwn (Without Has taken last)
own_without Has taken last own m k place x y =
    ⊎_elim
    (λ (a : (place ≢ taken) × Has m place). ⊎_elim (λ (b : (place ≢ taken) × Has k place). own m k place a.1 b.1) (λ (b : (place ≡ taken) × Has k last). absurd (a.0 b.0)) y)
    (λ (a : (place ≡ taken) × Has m last). ⊎_elim (λ (b : (place ≢ taken) × Has k place). absurd (b.0 a.0)) (λ (b : (place ≡ taken) × Has k last). own m k last a.1 b.1) y)
    x

has_without : (Has : ℕ → ℕ → Type 0) (n places taken : ℕ) → IsOwn Has → EachHas (suc n) (suc places) Has → taken < suc places → Has n taken → EachHas n places (Without Has taken places)
has_without Has n places taken own each low at m h =
    let x = each m (omega arith) in
    let place : ℕ = x.0 in
    let under : place < suc places = x.1 in
    let has : Has m place = x.2 in
    let other : place ≢ taken = λ e. let same : m ≡ n = own m n taken (subst (Has m) e has) at in omega arith in
    dite (ℕ_discrete place places)
    (λ e. (taken, (let o : places ≢ taken = λ z. other (e ∙ z) in omega arith), inr (refl, subst (Has m) e has)))
    (λ o. (place, omega arith, inl (other, has)))

own_places_enough : (n places : ℕ) (Has : ℕ → ℕ → Type 0) → IsOwn Has → EachHas n places Has → n ≤ places
own_places_enough zero places Has own each = omega arith
own_places_enough (suc n) zero Has own each = let x = each n (omega arith) in let low = x.1 in absurd (omega arith)
own_places_enough (suc n) (suc places) Has own each =
    let x = each n (omega arith) in
    let rest = own_places_enough n places (Without Has x.0 places) (own_without Has x.0 places own) (has_without Has n places x.0 own each x.1 x.2) in omega arith

-- ---- the cells of a term

-- the places of the heap, and behind them those of the area
abbrev place_of : Colour → (heap : List ℕ) → ℕ → ℕ
place_of Private heap place = place
place_of Shared heap place = length heap + place

-- a term of this height has its cell at this place
record HasHeight (heap area : List ℕ) (m at : ℕ) : Type 0 where
  colour : Colour
  place : ℕ
  term : Labelled
  inside : place < length (words_of colour heap area)
  is_at : at ≡ place_of colour heap place
  stands : Stands heap area term (cell_word_of colour place)
  high : height term ≡ m

place_inside : (colour : Colour) (heap area : List ℕ) (place : ℕ) → place < length (words_of colour heap area) → place_of colour heap place < length heap + length area
place_inside Private heap area place h = let x : place < length heap = h in omega arith
place_inside Shared heap area place h = let x : place < length area = h in omega arith

one_place : (c d : Colour) (heap area : List ℕ) (x y : ℕ) → x < length (words_of c heap area) → y < length (words_of d heap area) → place_of c heap x ≡ place_of d heap y → (c ≡ d) × (x ≡ y)
one_place Private Private heap area x y h k e = (refl, e)
one_place Shared Shared heap area x y h k e = (refl, omega arith)
one_place Private Shared heap area x y h k e = let low : x < length heap = h in let z : x ≡ length heap + y = e in absurd (omega arith)
one_place Shared Private heap area x y h k e = let low : y < length heap = k in let z : length heap + x ≡ y = e in absurd (omega arith)

heights_own : (heap area : List ℕ) → IsOwn (HasHeight heap area)
heights_own heap area m k at a b =
    let same = one_place a.colour b.colour heap area a.place b.place a.inside b.inside (sym a.is_at ∙ b.is_at) in
    let word : cell_word_of a.colour a.place ≡ cell_word_of b.colour b.place = ap (λ (c : Colour). cell_word_of c a.place) same.0 ∙ ap (cell_word_of b.colour) same.1 in
    let term : a.term ≡ b.term = one_term heap area a.term b.term (cell_word_of b.colour b.place) (subst (Stands heap area a.term) word a.stands) b.stands in
    sym a.high ∙ (ap height term ∙ b.high)

written_inside : (words : List ℕ) (place : ℕ) → slice_index words place ≢ 0 → place < length words
written_inside [] place h = absurd (h refl)
written_inside (w ∷ ws) zero h = omega arith
written_inside (w ∷ ws) (suc place) h = let x = written_inside ws place h in omega arith

cell_height : (heap area : List ℕ) (colour : Colour) (place header : ℕ) (t : Labelled) (m : ℕ) → slice_index (words_of colour heap area) place ≡ header → header ≢ 0 → Stands heap area t (cell_word_of colour place) → height t ≡ m → (at : ℕ) × HasHeight heap area m at
cell_height heap area colour place header t m h some s e = (
  place_of colour heap place,
  record {
    colour = colour;
    place = place;
    term = t;
    inside = written_inside (words_of colour heap area) place (λ z. some (sym h ∙ z));
    is_at = refl;
    stands = s;
    high = e;
  },
)

mutual
  has_height : (heap area : List ℕ) (t : Labelled) (w m : ℕ) → Stands heap area t w → 1 < m → m ≤ height t → (at : ℕ) × HasHeight heap area m at
  has_height heap area t w m (of_int n r) low high = absurd (omega arith)
  has_height heap area t w m (of_atom a r) low high = absurd (omega arith)
  has_height heap area t w m (of_pid p r) low high = absurd (omega arith)
  has_height heap area t w m of_nil low high = absurd (omega arith)
  has_height heap area t w m (of_cons colour site place head tail r h q) low high =
      dite (ℕ_discrete (height (l.Cons site colour head tail)) m)
      (λ e. cell_height heap area colour place (cons_header_of site) (l.Cons site colour head tail) m h (cons_header_some site) (of_cons colour site place head tail r h q) e)
      (λ o. part_has_height heap area colour (place + 1) (head ∷ tail ∷ []) m q low (let a : ℕ = height head in let b : ℕ = height tail in let z : m ≤ 1 + max a b = high in let y : 1 + max a b ≢ m = o in let x : m ≤ max a (max b 0) = omega arith in x))
  has_height heap area t w m (of_tuple colour site place parts r n h q) low high =
      dite (ℕ_discrete (height (l.Tuple site colour (labels_of parts))) m)
      (λ e. cell_height heap area colour place (tuple_header_of (length parts) site) (l.Tuple site colour (labels_of parts)) m h (tuple_header_some (length parts) site) (of_tuple colour site place parts r n h q) e)
      (λ o. part_has_height heap area colour (place + 1) parts m q low (let a : ℕ = greatest_height (labels_of parts) in let z : m ≤ 1 + a = high in let y : 1 + a ≢ m = o in let x : m ≤ a = omega arith in x))

  part_has_height : (heap area : List ℕ) (colour : Colour) (place : ℕ) (ts : List Labelled) (m : ℕ) → PartsStand heap area colour place ts → 1 < m → m ≤ greatest_height (labels_of ts) → (at : ℕ) × HasHeight heap area m at
  part_has_height heap area colour place ts m (no_parts c k) low high = absurd (omega arith)
  part_has_height heap area colour place ts m (more_parts c k t rest may st q) low high =
      let a : ℕ = height t in
      let b : ℕ = greatest_height (labels_of rest) in
      let z : m ≤ max a b = high in
      dite (dec_lt a m)
      (λ less. part_has_height heap area c (k + 1) rest m q low (let x : m ≤ b = omega arith in x))
      (λ more. has_height heap area t (slice_index (words_of c heap area) k) m st low (let x : m ≤ a = omega arith in x))

-- no term is higher than one more than the places of the heap and the area
pub stands_height : (heap area : List ℕ) (t : Labelled) (w : ℕ) → Stands heap area t w → height t ≤ 1 + length heap + length area
stands_height heap area t w s =
    let n : ℕ = height t - 1 in
    let places : ℕ = length heap + length area in
    let enough : n ≤ places = own_places_enough n places (λ m at. HasHeight heap area (2 + m) at)
    (λ m k at a b. let e : 2 + m ≡ 2 + k = heights_own heap area (2 + m) (2 + k) at a b in omega arith)
    (λ m h. let x = has_height heap area t w (2 + m) s (omega arith) (omega arith) in
    let y = x.1 in (x.0, subst (λ (p : ℕ). p < places) (sym y.is_at) (place_inside y.colour heap area y.place y.inside), y)) in
    omega arith
