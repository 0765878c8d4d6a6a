-- The area words in what a process holds: when they name only cells of a kind, of a wider kind, and over a larger heap.
use Rattle.std.proofs.Common.{◌≢◌, zero, suc, refl, ◌≡◌, ℕ, ◌+◌, List, [], ◌∷◌, sym, subst, arith}
use Rattle.std.specs.Prelude.{slice_index, slice_get, Some}
use native.Mathlib.Decide.{ℕ_discrete}
use mathlib.Core.Logic.{dite}
use Rattle.hy_terms.specs.Labelled.{Labelled, labels_of}
use Rattle.hy_terms.specs.Labelled as l
use Rattle.hy_terms.specs.declared.term.Colour.TheVariants.{Private, Shared}
use Rattle.hy_words.specs.Lists.{Grown}
use Rattle.hy_words.specs.Words.{tag_of, payload_of, private_tag, area_tag, private_word_of, area_word_of, number_word, atom_word_of, pid_word_of, nil_word_of}
use Rattle.hy_words.specs.Fields.{fields_of}
use Rattle.hy_words.specs.Stands.{Stands, of_int, of_atom, of_pid, of_nil, of_cons, of_tuple}
use Rattle.hy_words.proofs.FieldLemmas.{each_labels, HasCell, node_has_cell}
use Rattle.hy_words.proofs.Standing.{stands_cell, IsNode, a_cons, a_tuple, leaf_low}
use Rattle.hy_words.specs.Names.{NamesOnly, PartsName, in_int, in_atom, in_pid, in_nil, in_shared_cons, in_shared_tuple, in_private_cons, in_private_tuple, no_names, more_names}

-- what names only cells of one kind names only cells of a wider one
mutual
  pub names_widen : (heap : List ℕ) (P Q : ℕ → Type 0) (t : Labelled) (w : ℕ) → ((c : ℕ) → P c → Q c) → NamesOnly heap P t w → NamesOnly heap Q t w
  names_widen heap P Q t w f (in_int n v) = in_int n v
  names_widen heap P Q t w f (in_atom a v) = in_atom a v
  names_widen heap P Q t w f (in_pid p v) = in_pid p v
  names_widen heap P Q t w f (in_nil v) = in_nil v
  names_widen heap P Q t w f (in_shared_cons site place head tail p) = in_shared_cons site place head tail (f place p)
  names_widen heap P Q t w f (in_shared_tuple site place parts p) = in_shared_tuple site place parts (f place p)
  names_widen heap P Q t w f (in_private_cons site place head tail ps) =
      in_private_cons site place head tail (parts_widen heap P Q (place + 1) (head ∷ tail ∷ []) f ps)
  names_widen heap P Q t w f (in_private_tuple site place parts ps) =
      in_private_tuple site place parts (parts_widen heap P Q (place + 1) parts f ps)

  pub parts_widen : (heap : List ℕ) (P Q : ℕ → Type 0) (place : ℕ) (ts : List Labelled) → ((c : ℕ) → P c → Q c) → PartsName heap P place ts → PartsName heap Q place ts
  parts_widen heap P Q place ts f (no_names k) = no_names k
  parts_widen heap P Q place ts f (more_names k t rest n ns) =
      more_names k t rest (names_widen heap P Q t (slice_index heap k) f n) (parts_widen heap P Q (k + 1) rest f ns)

-- where the word is 0 the term is a scalar, of which nothing is asked
unwritten : (heap more : List ℕ) (P : ℕ → Type 0) (t : Labelled) (w v : ℕ) → NamesOnly heap P t w → w ≡ 0 → NamesOnly more P t v
unwritten heap more P t w v (in_int n u) e = in_int n v
unwritten heap more P t w v (in_atom a u) e = in_atom a v
unwritten heap more P t w v (in_pid p u) e = in_pid p v
unwritten heap more P t w v (in_nil u) e = in_nil v
unwritten heap more P t w v (in_shared_cons site place head tail p) e = absurd (omega arith)
unwritten heap more P t w v (in_shared_tuple site place parts p) e = absurd (omega arith)
unwritten heap more P t w v (in_private_cons site place head tail ps) e = absurd (omega arith)
unwritten heap more P t w v (in_private_tuple site place parts ps) e = absurd (omega arith)

-- a larger heap names the same cells
mutual
  pub names_grow : (heap more : List ℕ) (P : ℕ → Type 0) (t : Labelled) (w : ℕ) → Grown heap more → NamesOnly heap P t w → NamesOnly more P t w
  names_grow heap more P t w g (in_int n v) = in_int n v
  names_grow heap more P t w g (in_atom a v) = in_atom a v
  names_grow heap more P t w g (in_pid p v) = in_pid p v
  names_grow heap more P t w g (in_nil v) = in_nil v
  names_grow heap more P t w g (in_shared_cons site place head tail p) = in_shared_cons site place head tail p
  names_grow heap more P t w g (in_shared_tuple site place parts p) = in_shared_tuple site place parts p
  names_grow heap more P t w g (in_private_cons site place head tail ps) =
      in_private_cons site place head tail (parts_name_grow heap more P (place + 1) (head ∷ tail ∷ []) g ps)
  names_grow heap more P t w g (in_private_tuple site place parts ps) =
      in_private_tuple site place parts (parts_name_grow heap more P (place + 1) parts g ps)

  pub parts_name_grow : (heap more : List ℕ) (P : ℕ → Type 0) (place : ℕ) (ts : List Labelled) → Grown heap more → PartsName heap P place ts → PartsName more P place ts
  parts_name_grow heap more P place ts g (no_names k) = no_names k
  parts_name_grow heap more P place ts g (more_names k t rest n ns) =
      more_names k t rest
      (dite (ℕ_discrete (slice_index heap k) 0)
      (λ e. unwritten heap more P t (slice_index heap k) (slice_index more k) n e)
      (λ o. subst (NamesOnly more P t) (sym (g k o)) (names_grow heap more P t (slice_index heap k) g n)))
      (parts_name_grow heap more P (k + 1) rest g ns)

-- ---- what is asked of a word that stands for a term

names_cell : (heap area : List ℕ) (P : ℕ → Type 0) (t : Labelled) (w : ℕ) → Stands heap area t w → NamesOnly heap P t w → tag_of w ≡ area_tag → P (payload_of w)
names_cell heap area P t w s (in_int n v) e = absurd (let low = leaf_low heap area (l.Int n) v s tt in omega arith)
names_cell heap area P t w s (in_atom a v) e = absurd (let low = leaf_low heap area (l.Atom a) v s tt in omega arith)
names_cell heap area P t w s (in_pid p v) e = absurd (let low = leaf_low heap area (l.Pid p) v s tt in omega arith)
names_cell heap area P t w s (in_nil v) e = absurd (let low = leaf_low heap area l.Nil v s tt in omega arith)
names_cell heap area P t w s (in_shared_cons site place head tail p) e = let same : place ≡ payload_of (area_word_of place) = omega arith in subst P same p
names_cell heap area P t w s (in_shared_tuple site place parts p) e = let same : place ≡ payload_of (area_word_of place) = omega arith in subst P same p
names_cell heap area P t w s (in_private_cons site place head tail ps) e = absurd (omega arith)
names_cell heap area P t w s (in_private_tuple site place parts ps) e = absurd (omega arith)

cell_names : (heap area : List ℕ) (P : ℕ → Type 0) (t : Labelled) (w : ℕ) → Stands heap area t w → tag_of w ≢ private_tag → (tag_of w ≡ area_tag → P (payload_of w)) → NamesOnly heap P t w
cell_names heap area P t w (of_int n r) o f = in_int n (number_word n)
cell_names heap area P t w (of_atom a r) o f = in_atom a (atom_word_of a)
cell_names heap area P t w (of_pid q r) o f = in_pid q (pid_word_of q)
cell_names heap area P t w of_nil o f = in_nil nil_word_of
cell_names heap area P t w (of_cons Private site place head tail r h q) o f = absurd (o (omega arith))
cell_names heap area P t w (of_cons Shared site place head tail r h q) o f =
    let same : payload_of (area_word_of place) ≡ place = omega arith in in_shared_cons site place head tail (subst P same (f (omega arith)))
cell_names heap area P t w (of_tuple Private site place parts r n h q) o f = absurd (o (omega arith))
cell_names heap area P t w (of_tuple Shared site place parts r n h q) o f =
    let same : payload_of (area_word_of place) ≡ place = omega arith in in_shared_tuple site place parts (subst P same (f (omega arith)))

-- a word that is not private names cells of the kind where its own cell is of it
pub shared_names : (P : ℕ → Type 0) (heap area : List ℕ) (t : Labelled) (w : ℕ) → Stands heap area t w → tag_of w ≢ private_tag
    → (NamesOnly heap P t w → tag_of w ≡ area_tag → P (payload_of w)) × ((tag_of w ≡ area_tag → P (payload_of w)) → NamesOnly heap P t w)
shared_names P heap area t w s o = (λ n. names_cell heap area P t w s n, λ f. cell_names heap area P t w s o f)

names_nth : (heap : List ℕ) (P : ℕ → Type 0) (place : ℕ) (ts : List Labelled) (u : Labelled) (k : ℕ) → PartsName heap P place ts → slice_get ts k ≡ Some u → NamesOnly heap P u (slice_index heap (place + k))
names_nth heap P place ts u k (no_names p) e = absurd cc
names_nth heap P place ts u zero (more_names p t rest here more) e =
    let z : p ≡ p + 0 = omega arith in
    let same : t ≡ u = cc in subst (λ (q : ℕ). NamesOnly heap P u (slice_index heap q)) z (subst (λ (x : Labelled). NamesOnly heap P x (slice_index heap p)) same here)
names_nth heap P place ts u (suc k) (more_names p t rest here more) e =
    let z : p + 1 + k ≡ p + suc k = omega arith in subst (λ (q : ℕ). NamesOnly heap P u (slice_index heap q)) z (names_nth heap P (p + 1) rest u k more e)

nth_name : (heap : List ℕ) (P : ℕ → Type 0) (ts : List Labelled) (place : ℕ) → ((u : Labelled) (k : ℕ) → slice_get ts k ≡ Some u → NamesOnly heap P u (slice_index heap (place + k))) → PartsName heap P place ts
nth_name heap P [] place f = no_names place
nth_name heap P (t ∷ ts) place f =
    more_names place t ts
    (let z : place + 0 ≡ place = omega arith in subst (λ (q : ℕ). NamesOnly heap P t (slice_index heap q)) z (f t 0 refl))
    (nth_name heap P ts (place + 1) (λ u k e. let z : place + suc k ≡ place + 1 + k = omega arith in subst (λ (q : ℕ). NamesOnly heap P u (slice_index heap q)) z (f u (suc k) e)))

names_fields : (heap : List ℕ) (P : ℕ → Type 0) (t : Labelled) (w place : ℕ) → NamesOnly heap P t w → HasCell t → w ≡ private_word_of place → PartsName heap P (place + 1) (fields_of t)
names_fields heap P t w place (in_int n v) cell e = absurd cell
names_fields heap P t w place (in_atom a v) cell e = absurd cell
names_fields heap P t w place (in_pid p v) cell e = absurd cell
names_fields heap P t w place (in_nil v) cell e = absurd cell
names_fields heap P t w place (in_shared_cons site p head tail here) cell e = absurd (omega arith)
names_fields heap P t w place (in_shared_tuple site p parts here) cell e = absurd (omega arith)
names_fields heap P t w place (in_private_cons site p head tail ps) cell e =
    let same : p ≡ place = omega arith in subst (λ (q : ℕ). PartsName heap P (q + 1) (head ∷ tail ∷ [])) same ps
names_fields heap P t w place (in_private_tuple site p parts ps) cell e =
    let same : p ≡ place = omega arith in
    subst (λ (q : ℕ). PartsName heap P (q + 1) (fields_of (l.Tuple site Private (labels_of parts)))) same (subst (PartsName heap P (p + 1)) (sym (each_labels parts)) ps)

fields_name : (heap area : List ℕ) (P : ℕ → Type 0) (t : Labelled) (place : ℕ) → IsNode heap area Private place t → PartsName heap P (place + 1) (fields_of t) → NamesOnly heap P t (private_word_of place)
fields_name heap area P t place (a_cons site head tail r h q) ps = in_private_cons site place head tail ps
fields_name heap area P t place (a_tuple site parts r n h q) ps = in_private_tuple site place parts (subst (PartsName heap P (place + 1)) (each_labels parts) ps)

-- a private word names cells of the kind where the words of its fields do
pub private_names : (P : ℕ → Type 0) (heap area : List ℕ) (t : Labelled) (w : ℕ) → Stands heap area t w → tag_of w ≡ private_tag
    → (NamesOnly heap P t w → (u : Labelled) (i : ℕ) → slice_get (fields_of t) i ≡ Some u → NamesOnly heap P u (slice_index heap (payload_of w + 1 + i)))
    × (((u : Labelled) (i : ℕ) → slice_get (fields_of t) i ≡ Some u → NamesOnly heap P u (slice_index heap (payload_of w + 1 + i))) → NamesOnly heap P t w)
private_names P heap area t w s e =
    let place : ℕ = payload_of w in
    let word : w ≡ private_word_of place = omega arith in
    let node : IsNode heap area Private place t = stands_cell heap area t w Private place s word in (
      λ n u i g. names_nth heap P (place + 1) (fields_of t) u i (names_fields heap P t w place n (node_has_cell heap area Private place t node) word) g,
      λ f. subst (NamesOnly heap P t) (sym word) (fields_name heap area P t place node (nth_name heap P (fields_of t) (place + 1) f)),
    )
