-- The area words that a process holds in what a word stands for. The project's own.
use Rattle.std.specs.Prelude.{ℕ, ℤ, ◌+◌, List, [], ◌∷◌, slice_index}
use Rattle.hy_terms.specs.Labelled.{Labelled, labels_of}
use Rattle.hy_terms.specs.Labelled as l
use Rattle.hy_terms.specs.declared.term.Colour.TheVariants.{Private, Shared}
use Rattle.hy_words.specs.Words.{private_word_of, area_word_of}

-- each area word that is this word, or stands in a private node of its term, names such a cell
mutual
  pub data NamesOnly (heap : List ℕ) (IsCell : ℕ → Type 0) : Labelled → ℕ → Type 0 where
    in_int : (n : ℤ) (w : ℕ) → NamesOnly heap IsCell (l.Int n) w
    in_atom : (a w : ℕ) → NamesOnly heap IsCell (l.Atom a) w
    in_pid : (p w : ℕ) → NamesOnly heap IsCell (l.Pid p) w
    in_nil : (w : ℕ) → NamesOnly heap IsCell l.Nil w
    in_shared_cons : (site place : ℕ) (head tail : Labelled) → IsCell place
        → NamesOnly heap IsCell (l.Cons site Shared head tail) (area_word_of place)
    in_shared_tuple : (site place : ℕ) (parts : List Labelled) → IsCell place
        → NamesOnly heap IsCell (l.Tuple site Shared (labels_of parts)) (area_word_of place)
    in_private_cons : (site place : ℕ) (head tail : Labelled)
        → PartsName heap IsCell (place + 1) (head ∷ tail ∷ [])
        → NamesOnly heap IsCell (l.Cons site Private head tail) (private_word_of place)
    in_private_tuple : (site place : ℕ) (parts : List Labelled)
        → PartsName heap IsCell (place + 1) parts
        → NamesOnly heap IsCell (l.Tuple site Private (labels_of parts)) (private_word_of place)

  pub data PartsName (heap : List ℕ) (IsCell : ℕ → Type 0) : ℕ → List Labelled → Type 0 where
    no_names : (place : ℕ) → PartsName heap IsCell place []
    more_names : (place : ℕ) (t : Labelled) (ts : List Labelled)
        → NamesOnly heap IsCell t (slice_index heap place) → PartsName heap IsCell (place + 1) ts
        → PartsName heap IsCell place (t ∷ ts)
