-- Laws of what words stand for.
use Rattle.std.proofs.Common.{◌≡◌, ◌≢◌, ℕ, ℤ, ◌+◌, ◌<◌, ◌≤◌, ◌^◌, List, [], ◌∷◌, length, sym, refl, ap, ◌∙◌, subst, arith}
use Rattle.std.specs.Prelude.{slice_index}
use Rattle.hy_terms.specs.Labelled.{Labelled, labels_of, IsLabelled, AreLabelled, IsShared, AreShared}
use Rattle.hy_terms.specs.Labelled as l
use Rattle.hy_terms.specs.declared.term.Colour.{Colour}
use Rattle.hy_terms.specs.declared.term.Colour.TheVariants.{Private, Shared}
use Rattle.hy_words.specs.Lists.{Grown}
use Rattle.hy_terms.specs.Range.{IsNumber}
use Rattle.hy_words.specs.Words.{tag_of, private_tag, number_word, atom_word_of, pid_word_of, nil_word_of, tuple_header_of, cons_header_of}
use Rattle.hy_words.proofs.Numbers.{number_same}
use Rattle.hy_words.specs.Stands.{cell_word_of, words_of, MayHold, Stands, PartsStand, of_int, of_atom, of_pid, of_nil, of_cons, of_tuple, no_parts, more_parts}

-- the word of a term is no 0
pub stands_not_zero : (heap area : List ℕ) (t : Labelled) (w : ℕ) → Stands heap area t w → w ≢ 0
stands_not_zero heap area t w (of_int n r) e = omega arith
stands_not_zero heap area t w (of_atom a r) e = omega arith
stands_not_zero heap area t w (of_pid q r) e = omega arith
stands_not_zero heap area t w of_nil e = omega arith
stands_not_zero heap area t w (of_cons Private site place head tail r h q) e = omega arith
stands_not_zero heap area t w (of_cons Shared site place head tail r h q) e = omega arith
stands_not_zero heap area t w (of_tuple Private site place parts r o h q) e = omega arith
stands_not_zero heap area t w (of_tuple Shared site place parts r o h q) e = omega arith

words_grow : (colour : Colour) (heap area heap' area' : List ℕ) → Grown heap heap' → Grown area area' → Grown (words_of colour heap area) (words_of colour heap' area')
words_grow Private heap area heap' area' f g = f
words_grow Shared heap area heap' area' f g = g

pub cons_header_some : (site : ℕ) → cons_header_of site ≢ 0
cons_header_some site e = omega arith

pub tuple_header_some : (size site : ℕ) → tuple_header_of size site ≢ 0
tuple_header_some size site e = omega arith

-- a larger heap and a larger area stand for the same
mutual
  pub stands_grows : (heap area heap' area' : List ℕ) (t : Labelled) (w : ℕ) → Grown heap heap' → Grown area area' → Stands heap area t w → Stands heap' area' t w
  stands_grows heap area heap' area' t w f g (of_int n r) = of_int n r
  stands_grows heap area heap' area' t w f g (of_atom a r) = of_atom a r
  stands_grows heap area heap' area' t w f g (of_pid q r) = of_pid q r
  stands_grows heap area heap' area' t w f g of_nil = of_nil
  stands_grows heap area heap' area' t w f g (of_cons colour site place head tail r h q) =
      of_cons colour site place head tail r (words_grow colour heap area heap' area' f g place (λ z. cons_header_some site (sym h ∙ z)) ∙ h) (parts_grow heap area heap' area' colour (place + 1) (head ∷ tail ∷ []) f g q)
  stands_grows heap area heap' area' t w f g (of_tuple colour site place parts r o h q) =
      of_tuple colour site place parts r o (words_grow colour heap area heap' area' f g place (λ z. tuple_header_some (length parts) site (sym h ∙ z)) ∙ h) (parts_grow heap area heap' area' colour (place + 1) parts f g q)

  pub parts_grow : (heap area heap' area' : List ℕ) (colour : Colour) (place : ℕ) (ts : List Labelled) → Grown heap heap' → Grown area area' → PartsStand heap area colour place ts → PartsStand heap' area' colour place ts
  parts_grow heap area heap' area' colour place ts f g (no_parts c k) = no_parts c k
  parts_grow heap area heap' area' colour place ts f g (more_parts c k t rest may st q) =
      let e : slice_index (words_of c heap' area') k ≡ slice_index (words_of c heap area) k = words_grow c heap area heap' area' f g k (stands_not_zero heap area t (slice_index (words_of c heap area) k) st) in
      more_parts c k t rest (subst (MayHold c) (sym e) may) (subst (Stands heap' area' t) (sym e) (stands_grows heap area heap' area' t (slice_index (words_of c heap area) k) f g st)) (parts_grow heap area heap' area' c (k + 1) rest f g q)

cell_high : (colour : Colour) (place : ℕ) → (5 ≤ tag_of (cell_word_of colour place)) × (tag_of (cell_word_of colour place) ≤ 6)
cell_high Private place = (omega arith, omega arith)
cell_high Shared place = (omega arith, omega arith)

not_cell : {C : Type 0} (colour : Colour) (place : ℕ) → tag_of (cell_word_of colour place) < 5 → C
not_cell colour place h = let c = (cell_high colour place).0 in absurd (omega arith)

-- what a word stands for, by its tag
pub stands_number : (heap area : List ℕ) (t : Labelled) (w : ℕ) → Stands heap area t w → tag_of w ≡ 1 → (n : ℤ) × (t ≡ l.Int n) × IsNumber n × (w ≡ number_word n)
stands_number heap area t w (of_int n r) e = (n, refl, r, refl)
stands_number heap area t w (of_cons colour site place head tail r h q) e = not_cell colour place (omega arith)
stands_number heap area t w (of_tuple colour site place parts r o h q) e = not_cell colour place (omega arith)
stands_number heap area t w _ e = absurd (omega arith)

pub stands_atom : (heap area : List ℕ) (t : Labelled) (w : ℕ) → Stands heap area t w → tag_of w ≡ 2 → (a : ℕ) × (t ≡ l.Atom a) × (a < 2 ^ 32) × (w ≡ atom_word_of a)
stands_atom heap area t w (of_atom a r) e = (a, refl, r, refl)
stands_atom heap area t w (of_cons colour site place head tail r h q) e = not_cell colour place (omega arith)
stands_atom heap area t w (of_tuple colour site place parts r o h q) e = not_cell colour place (omega arith)
stands_atom heap area t w _ e = absurd (omega arith)

pub stands_pid : (heap area : List ℕ) (t : Labelled) (w : ℕ) → Stands heap area t w → tag_of w ≡ 3 → (p : ℕ) × (t ≡ l.Pid p) × (p < 2 ^ 59) × (w ≡ pid_word_of p)
stands_pid heap area t w (of_pid p r) e = (p, refl, r, refl)
stands_pid heap area t w (of_cons colour site place head tail r h q) e = not_cell colour place (omega arith)
stands_pid heap area t w (of_tuple colour site place parts r o h q) e = not_cell colour place (omega arith)
stands_pid heap area t w _ e = absurd (omega arith)

pub stands_nil : (heap area : List ℕ) (t : Labelled) (w : ℕ) → Stands heap area t w → tag_of w ≡ 4 → (t ≡ l.Nil) × (w ≡ nil_word_of)
stands_nil heap area t w of_nil e = (refl, refl)
stands_nil heap area t w (of_cons colour site place head tail r h q) e = not_cell colour place (omega arith)
stands_nil heap area t w (of_tuple colour site place parts r o h q) e = not_cell colour place (omega arith)
stands_nil heap area t w _ e = absurd (omega arith)

-- a number, an atom, a pid or nil
abbrev IsLeaf : Labelled → Type 0
IsLeaf (l.Cons site colour head tail) = ⊥
IsLeaf (l.Tuple site colour parts) = ⊥
IsLeaf _ = Unit {0}

pub leaf_low : (heap area : List ℕ) (t : Labelled) (w : ℕ) → Stands heap area t w → IsLeaf t → tag_of w < private_tag
leaf_low heap area t w (of_int n r) leaf = omega arith
leaf_low heap area t w (of_atom a r) leaf = omega arith
leaf_low heap area t w (of_pid p r) leaf = omega arith
leaf_low heap area t w of_nil leaf = omega arith
leaf_low heap area t w (of_cons colour site place head tail r h q) leaf = absurd leaf
leaf_low heap area t w (of_tuple colour site place parts r o h q) leaf = absurd leaf

-- the node that a cell of this colour at this place tells
pub data IsNode (heap area : List ℕ) (colour : Colour) (place : ℕ) : Labelled → Type 0 where
  a_cons : (site : ℕ) (head tail : Labelled) → site < 2 ^ 28 → slice_index (words_of colour heap area) place ≡ cons_header_of site → PartsStand heap area colour (place + 1) (head ∷ tail ∷ []) → IsNode heap area colour place (l.Cons site colour head tail)
  a_tuple : (site : ℕ) (parts : List Labelled) → site < 2 ^ 28 → length parts < 2 ^ 28 → slice_index (words_of colour heap area) place ≡ tuple_header_of (length parts) site → PartsStand heap area colour (place + 1) parts
      → IsNode heap area colour place (l.Tuple site colour (labels_of parts))

same_cell : (c d : Colour) (x y : ℕ) → cell_word_of c x ≡ cell_word_of d y → (c ≡ d) × (x ≡ y)
same_cell Private Private x y e = (refl, omega arith)
same_cell Shared Shared x y e = (refl, omega arith)
same_cell Private Shared x y e = absurd (omega arith)
same_cell Shared Private x y e = absurd (omega arith)

pub stands_cell : (heap area : List ℕ) (t : Labelled) (w : ℕ) (colour : Colour) (place : ℕ) → Stands heap area t w → w ≡ cell_word_of colour place → IsNode heap area colour place t
stands_cell heap area t w colour place (of_cons c site k head tail r h q) e =
    let s = same_cell c colour k place e in
    subst (λ (x : Colour). IsNode heap area x place (l.Cons site c head tail)) s.0 (subst (λ (x : ℕ). IsNode heap area c x (l.Cons site c head tail)) s.1 (a_cons site head tail r h q))
stands_cell heap area t w colour place (of_tuple c site k parts r o h q) e =
    let s = same_cell c colour k place e in
    subst (λ (x : Colour). IsNode heap area x place (l.Tuple site c (labels_of parts))) s.0 (subst (λ (x : ℕ). IsNode heap area c x (l.Tuple site c (labels_of parts))) s.1 (a_tuple site parts r o h q))
stands_cell heap area t w colour place _ e = let c = (cell_high colour place).0 in absurd (omega arith)

-- what stands for all that a node's parts stand for
abbrev OneList : (heap area : List ℕ) → Colour → ℕ → List Labelled → Type 0
OneList heap area colour place ts = (us : List Labelled) → PartsStand heap area colour place us → length ts ≡ length us → ts ≡ us

abbrev first : Labelled → List Labelled → Labelled
first d [] = d
first d (z ∷ zs) = z

abbrev second : Labelled → List Labelled → Labelled
second d [] = d
second d (z ∷ zs) = first d zs

one_cons : (heap area : List ℕ) (c : Colour) (site place : ℕ) (head tail u : Labelled) → site < 2 ^ 28 → slice_index (words_of c heap area) place ≡ cons_header_of site → OneList heap area c (place + 1) (head ∷ tail ∷ []) → IsNode heap area c place u → l.Cons site c head tail ≡ u
one_cons heap area c site place head tail u r h one (a_cons s x y o k q) =
    let same : site ≡ s = let z : cons_header_of site ≡ cons_header_of s = sym h ∙ k in omega arith in
    let parts = one (x ∷ y ∷ []) q refl in
    ap (λ (z : ℕ). l.Cons z c head tail) same ∙ (ap (λ (z : Labelled). l.Cons s c z tail) (ap (first head) parts) ∙ ap (λ (z : Labelled). l.Cons s c x z) (ap (second head) parts))
one_cons heap area c site place head tail u r h one (a_tuple s parts o b k q) = let z : cons_header_of site ≡ tuple_header_of (length parts) s = sym h ∙ k in absurd (omega arith)

one_tuple : (heap area : List ℕ) (c : Colour) (site place : ℕ) (ts : List Labelled) (u : Labelled) → site < 2 ^ 28 → length ts < 2 ^ 28 → slice_index (words_of c heap area) place ≡ tuple_header_of (length ts) site → OneList heap area c (place + 1) ts → IsNode heap area c place u → l.Tuple site c (labels_of ts) ≡ u
one_tuple heap area c site place ts u r b h one (a_tuple s us o d k q) =
    let n : ℕ = length ts in
    let m : ℕ = length us in
    let z : tuple_header_of n site ≡ tuple_header_of m s = sym h ∙ k in
    let b' : n < 2 ^ 28 = b in
    let d' : m < 2 ^ 28 = d in
    let long : n ≡ m = omega arith in
    let same : site ≡ s = omega arith in
    ap (λ (x : ℕ). l.Tuple x c (labels_of ts)) same ∙ ap (λ (xs : List Labelled). l.Tuple s c (labels_of xs)) (one us q long)
one_tuple heap area c site place ts u r b h one (a_cons s x y o k q) = let z : tuple_header_of (length ts) site ≡ cons_header_of s = sym h ∙ k in absurd (omega arith)

behind : (heap area : List ℕ) (c : Colour) (place : ℕ) (x : Labelled) (xs : List Labelled) → PartsStand heap area c place (x ∷ xs) → Stands heap area x (slice_index (words_of c heap area) place) × PartsStand heap area c (place + 1) xs
behind heap area c place x xs (more_parts d k t rest may st more) = (st, more)

-- one word stands for one term
mutual
  pub one_term : (heap area : List ℕ) (t u : Labelled) (w : ℕ) → Stands heap area t w → Stands heap area u w → t ≡ u
  one_term heap area t u w (of_int n r) k = let x = stands_number heap area u (number_word n) k (omega arith) in ap (λ (z : ℤ). l.Int z) (number_same n x.0 r x.2 x.3) ∙ sym x.1
  one_term heap area t u w (of_atom a r) k = let x = stands_atom heap area u (atom_word_of a) k (omega arith) in let e = x.3 in let same : a ≡ x.0 = omega arith in ap (λ (z : ℕ). l.Atom z) same ∙ sym x.1
  one_term heap area t u w (of_pid p r) k = let x = stands_pid heap area u (pid_word_of p) k (omega arith) in let e = x.3 in let same : p ≡ x.0 = omega arith in ap (λ (z : ℕ). l.Pid z) same ∙ sym x.1
  one_term heap area t u w of_nil k = sym (stands_nil heap area u nil_word_of k refl).0
  one_term heap area t u w (of_cons c site place head tail r h q) k =
      one_cons heap area c site place head tail u r h (λ us qs n. one_list heap area c (place + 1) (head ∷ tail ∷ []) us q qs n) (stands_cell heap area u (cell_word_of c place) c place k refl)
  one_term heap area t u w (of_tuple c site place parts r o h q) k =
      one_tuple heap area c site place parts u r o h (λ us qs n. one_list heap area c (place + 1) parts us q qs n) (stands_cell heap area u (cell_word_of c place) c place k refl)

  one_list : (heap area : List ℕ) (c : Colour) (place : ℕ) (ts us : List Labelled) → PartsStand heap area c place ts → PartsStand heap area c place us → length ts ≡ length us → ts ≡ us
  one_list heap area c place ts [] (no_parts d k) q n = refl
  one_list heap area c place ts (x ∷ xs) (no_parts d k) q n = absurd (omega arith)
  one_list heap area c place ts [] (more_parts d k t rest may st more) q n = absurd (omega arith)
  one_list heap area c place ts (x ∷ xs) (more_parts d k t rest may st more) q n =
      let b = behind heap area d k x xs q in
      ap (λ (z : Labelled). z ∷ rest) (one_term heap area t x (slice_index (words_of d heap area) k) st b.0) ∙ ap (λ (zs : List Labelled). x ∷ zs) (one_list heap area d (k + 1) rest xs more b.1 (omega arith))

-- a word that isn't private stands for the same over each heap
mutual
  pub stands_over : (heap area other : List ℕ) (t : Labelled) (w : ℕ) → tag_of w ≢ private_tag → Stands heap area t w → Stands other area t w
  stands_over heap area other t w n (of_int x r) = of_int x r
  stands_over heap area other t w n (of_atom a r) = of_atom a r
  stands_over heap area other t w n (of_pid p r) = of_pid p r
  stands_over heap area other t w n of_nil = of_nil
  stands_over heap area other t w n (of_cons Private site place head tail r h q) = absurd (n (omega arith))
  stands_over heap area other t w n (of_tuple Private site place parts r o h q) = absurd (n (omega arith))
  stands_over heap area other t w n (of_cons Shared site place head tail r h q) = of_cons Shared site place head tail r h (parts_over heap area other Shared (place + 1) (head ∷ tail ∷ []) refl q)
  stands_over heap area other t w n (of_tuple Shared site place parts r o h q) = of_tuple Shared site place parts r o h (parts_over heap area other Shared (place + 1) parts refl q)

  parts_over : (heap area other : List ℕ) (c : Colour) (place : ℕ) (ts : List Labelled) → c ≡ Shared → PartsStand heap area c place ts → PartsStand other area c place ts
  parts_over heap area other c place ts e (no_parts d k) = no_parts d k
  parts_over heap area other c place ts e (more_parts Private k t rest may st more) = absurd cc
  parts_over heap area other c place ts e (more_parts Shared k t rest may st more) = more_parts Shared k t rest may (stands_over heap area other t (slice_index area k) may st) (parts_over heap area other Shared (k + 1) rest refl more)

pub root_shared : (heap area : List ℕ) (t : Labelled) (w : ℕ) → Stands heap area t w → tag_of w ≢ private_tag → IsShared t
root_shared heap area t w (of_int n r) o = refl
root_shared heap area t w (of_atom a r) o = refl
root_shared heap area t w (of_pid p r) o = refl
root_shared heap area t w of_nil o = refl
root_shared heap area t w (of_cons Private site place head tail r h q) o = absurd (o (omega arith))
root_shared heap area t w (of_cons Shared site place head tail r h q) o = refl
root_shared heap area t w (of_tuple Private site place parts r p h q) o = absurd (o (omega arith))
root_shared heap area t w (of_tuple Shared site place parts r p h q) o = refl

not_private : (c : Colour) (w : ℕ) → MayHold c w → c ≡ Shared → tag_of w ≢ private_tag
not_private Private w may e = absurd cc
not_private Shared w may e = may

-- what a word stands for has no private child at a shared node
mutual
  pub stands_labelled : (heap area : List ℕ) (t : Labelled) (w : ℕ) → Stands heap area t w → IsLabelled t
  stands_labelled heap area t w (of_int n r) = tt
  stands_labelled heap area t w (of_atom a r) = tt
  stands_labelled heap area t w (of_pid p r) = tt
  stands_labelled heap area t w of_nil = tt
  stands_labelled heap area t w (of_cons c site place head tail r h q) =
      let both = parts_labelled heap area c (place + 1) (head ∷ tail ∷ []) q in
      let kept : c ≡ Shared → AreShared (labels_of (head ∷ tail ∷ [])) = both.1 in
      ((λ e. let s = kept e in (s.0, s.1.0)), both.0.0, both.0.1.0)
  stands_labelled heap area t w (of_tuple c site place parts r o h q) = let both = parts_labelled heap area c (place + 1) parts q in (both.1, both.0)

  parts_labelled : (heap area : List ℕ) (c : Colour) (place : ℕ) (ts : List Labelled) → PartsStand heap area c place ts → AreLabelled (labels_of ts) × (c ≡ Shared → AreShared (labels_of ts))
  parts_labelled heap area c place ts (no_parts d k) = (tt, λ e. tt)
  parts_labelled heap area c place ts (more_parts d k t rest may st more) =
      let both = parts_labelled heap area d (k + 1) rest more in
      let x : ℕ = slice_index (words_of d heap area) k in
      ((stands_labelled heap area t x st, both.0), λ e. (root_shared heap area t x st (not_private d x may e), both.1 e))
