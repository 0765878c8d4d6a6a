-- What a word stands for, over the words of one heap and one area. The project's own.
use Rattle.std.specs.Prelude.{◌≡◌, ◌≢◌, ℕ, ℤ, ◌+◌, ◌<◌, ◌^◌, List, [], ◌∷◌, length, slice_index}
use Rattle.hy_terms.specs.Labelled.{Labelled, labels_of}
use Rattle.hy_terms.specs.Labelled as l
use Rattle.hy_terms.specs.declared.term.Colour.{Colour}
use Rattle.hy_terms.specs.declared.term.Colour.TheVariants.{Private, Shared}
use Rattle.hy_terms.specs.Range.{IsNumber}
use Rattle.hy_words.specs.Words.{tag_of, private_tag, number_word, atom_word_of, pid_word_of, nil_word_of, private_word_of, area_word_of, tuple_header_of, cons_header_of}

-- the word of a cell of this colour
abbrev pub cell_word_of : Colour → ℕ → ℕ
cell_word_of Private place = private_word_of place
cell_word_of Shared place = area_word_of place

-- the words among which a cell of this colour stands
abbrev pub words_of : Colour → (heap area : List ℕ) → List ℕ
words_of Private heap area = heap
words_of Shared heap area = area

-- a shared cell has no private part
abbrev pub MayHold : Colour → ℕ → Type 0
MayHold Private w = Unit {0}
MayHold Shared w = tag_of w ≢ private_tag

-- the word stands for the labelled term: a scalar for itself, the word of a cell for the node that
-- its header and parts tell
mutual
  pub data Stands (heap area : List ℕ) : Labelled → ℕ → Type 0 where
    of_int : (n : ℤ) → IsNumber n → Stands heap area (l.Int n) (number_word n)
    of_atom : (a : ℕ) → a < 2 ^ 32 → Stands heap area (l.Atom a) (atom_word_of a)
    of_pid : (p : ℕ) → p < 2 ^ 59 → Stands heap area (l.Pid p) (pid_word_of p)
    of_nil : Stands heap area l.Nil nil_word_of
    of_cons : (colour : Colour) (site place : ℕ) (head tail : Labelled) → site < 2 ^ 28
        → slice_index (words_of colour heap area) place ≡ cons_header_of site
        → PartsStand heap area colour (place + 1) (head ∷ tail ∷ [])
        → Stands heap area (l.Cons site colour head tail) (cell_word_of colour place)
    of_tuple : (colour : Colour) (site place : ℕ) (parts : List Labelled)
        → site < 2 ^ 28 → length parts < 2 ^ 28
        → slice_index (words_of colour heap area) place ≡ tuple_header_of (length parts) site
        → PartsStand heap area colour (place + 1) parts
        → Stands heap area (l.Tuple site colour (labels_of parts)) (cell_word_of colour place)

  -- the words of a cell of this colour, from this place on, stand for the parts in order
  pub data PartsStand (heap area : List ℕ) : Colour → ℕ → List Labelled → Type 0 where
    no_parts : (colour : Colour) (place : ℕ) → PartsStand heap area colour place []
    more_parts : (colour : Colour) (place : ℕ) (t : Labelled) (ts : List Labelled)
        → MayHold colour (slice_index (words_of colour heap area) place)
        → Stands heap area t (slice_index (words_of colour heap area) place)
        → PartsStand heap area colour (place + 1) ts → PartsStand heap area colour place (t ∷ ts)
