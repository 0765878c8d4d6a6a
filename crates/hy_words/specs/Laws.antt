-- Laws of what words stand for.
use Rattle.std.specs.Prelude.{◌≡◌, ◌≢◌, ◌⊎◌, ◌↔◌, ℕ, ◌+◌, ◌^◌, ◌<◌, ◌≤◌, List, length, map, slice_get, slice_index, Some}
use Rattle.hy_terms.specs.Labelled.{Labelled, IsLabelled}
use Rattle.hy_words.specs.Lists.{Grown}
use Rattle.hy_words.specs.declared.kind.Entry.{Entry}
use Rattle.hy_words.specs.Words.{tag_of, payload_of, private_tag, area_tag, tuple_tag, cons_tag, tag_of_entry, tuple_header_of, cons_header_of, entry_header_of, IsHeader, IsTermHeader, IsEntryHeader, IsScalar, IsValue}
use Rattle.hy_words.specs.Fields.{fields_of}
use Rattle.hy_words.specs.Heights.{height, greatest_of}
use Rattle.hy_words.specs.Stands.{Stands}
use Rattle.hy_words.specs.Names.{NamesOnly}

-- a larger heap and a larger area stand for the same
abbrev pub GrowingKeepsTerms : Type 0
GrowingKeepsTerms =
    (heap area more_heap more_area : List ℕ) (t : Labelled) (w : ℕ)
    → Grown heap more_heap → Grown area more_area
    → Stands heap area t w → Stands more_heap more_area t w

-- one word stands for one term
abbrev pub OneWordOneTerm : Type 0
OneWordOneTerm =
    (heap area : List ℕ) (t u : Labelled) (w : ℕ)
    → Stands heap area t w → Stands heap area u w → t ≡ u

-- a word that is not private stands for the same over each heap
abbrev pub AreaKeepsTerms : Type 0
AreaKeepsTerms =
    (heap other area : List ℕ) (t : Labelled) (w : ℕ) → tag_of w ≢ private_tag
    → Stands heap area t w → Stands other area t w

-- no shared node of what a word stands for has a private child
abbrev pub WordsStandForLabelled : Type 0
WordsStandForLabelled =
    (heap area : List ℕ) (t : Labelled) (w : ℕ) → Stands heap area t w → IsLabelled t

-- each scalar stands for a term
abbrev pub ScalarsStand : Type 0
ScalarsStand = (heap area : List ℕ) (w : ℕ) → IsScalar w → (t : Labelled) × Stands heap area t w

-- a word that is not private and stands for a term is a value
abbrev pub SharedWordsAreValues : Type 0
SharedWordsAreValues =
    (heap area : List ℕ) (t : Labelled) (w : ℕ) → Stands heap area t w
    → tag_of w ≢ private_tag → IsValue w

-- the headers of terms are those of tuples and conses
abbrev pub TermHeadersByTag : Type 0
TermHeadersByTag = (w : ℕ) → IsTermHeader w ↔ ((tag_of w ≡ tuple_tag) ⊎ (tag_of w ≡ cons_tag))

-- the headers of entries are those of the three kinds
abbrev pub EntryHeadersByTag : Type 0
EntryHeadersByTag = (w : ℕ) → IsEntryHeader w ↔ ((kind : Entry) × (tag_of w ≡ tag_of_entry kind))

-- made of a size and a site
abbrev pub MadeAsTuple : ℕ → Type 0
MadeAsTuple w =
    (size : ℕ) × (site : ℕ) × (size < 2 ^ 28) × (site < 2 ^ 28) × (w ≡ tuple_header_of size site)

-- made of a site
abbrev pub MadeAsCons : ℕ → Type 0
MadeAsCons w = (site : ℕ) × (site < 2 ^ 28) × (w ≡ cons_header_of site)

-- made of a kind and the number of words that follow
abbrev pub MadeAsEntry : ℕ → Type 0
MadeAsEntry w = (kind : Entry) × (n : ℕ) × (n < 2 ^ 28) × (w ≡ entry_header_of kind n)

-- the headers are those of tuples, of conses and of entries
abbrev pub HeadersAreMade : Type 0
HeadersAreMade = (w : ℕ) → IsHeader w ↔ (MadeAsTuple w ⊎ (MadeAsCons w ⊎ MadeAsEntry w))

-- a term is one higher than its highest field
abbrev pub HeightsByFields : Type 0
HeightsByFields = (t : Labelled) → height t ≡ 1 + greatest_of (map height (fields_of t))

-- and so each field is lower
abbrev pub FieldsAreLower : Type 0
FieldsAreLower =
    (t field : Labelled) (i : ℕ) → slice_get (fields_of t) i ≡ Some field → height field < height t

-- of a word that is not private only its own cell is asked
abbrev pub SharedWordsName : (IsCell : ℕ → Type 0) → Type 0
SharedWordsName IsCell =
    (heap area : List ℕ) (t : Labelled) (w : ℕ) → Stands heap area t w → tag_of w ≢ private_tag
    → NamesOnly heap IsCell t w ↔ (tag_of w ≡ area_tag → IsCell (payload_of w))

-- of a private word the words of the fields are asked, which stand behind its header
abbrev pub PrivateWordsName : (IsCell : ℕ → Type 0) → Type 0
PrivateWordsName IsCell =
    (heap area : List ℕ) (t : Labelled) (w : ℕ) → Stands heap area t w → tag_of w ≡ private_tag
    → NamesOnly heap IsCell t w
    ↔ ((field : Labelled) (i : ℕ) → slice_get (fields_of t) i ≡ Some field
    → NamesOnly heap IsCell field (slice_index heap (payload_of w + 1 + i)))

-- what names only cells of one kind names only cells of a wider kind
abbrev pub WiderKindIsNamed : (IsCell IsWider : ℕ → Type 0) → Type 0
WiderKindIsNamed IsCell IsWider =
    (heap : List ℕ) (t : Labelled) (w : ℕ) → ((cell : ℕ) → IsCell cell → IsWider cell)
    → NamesOnly heap IsCell t w → NamesOnly heap IsWider t w

-- a larger heap names no further cell
abbrev pub GrowingKeepsNames : (IsCell : ℕ → Type 0) → Type 0
GrowingKeepsNames IsCell =
    (heap more_heap : List ℕ) (t : Labelled) (w : ℕ) → Grown heap more_heap
    → NamesOnly heap IsCell t w → NamesOnly more_heap IsCell t w

-- a term is no higher than one more than the number of places
abbrev pub TermsAreLow : Type 0
TermsAreLow =
    (heap area : List ℕ) (t : Labelled) (w : ℕ) → Stands heap area t w
    → height t ≤ 1 + length heap + length area
