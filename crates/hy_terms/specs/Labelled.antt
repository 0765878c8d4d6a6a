-- A labelled term, as definitions compute with it: its cons and tuple nodes tell the site that
-- built them and where they stand; this project's own. The type that the sources declare is sealed
-- outside its crate, so that nothing over it computes there.
use Rattle.std.specs.Prelude.{◌≡◌, ℕ, ◌+◌, suc, ℤ, List, [], ◌∷◌}
use Rattle.hy_terms.specs.Term.{Term, Terms, NoTerms, MoreTerms}
use Rattle.hy_terms.specs.Term as bare
use Rattle.hy_terms.specs.declared.term.Colour.{Colour}
use Rattle.hy_terms.specs.declared.term.Colour.TheVariants.{Private, Shared}
use Rattle.hy_terms.specs.declared.term.Labelled.{Labelled as DeclaredLabelled}
use Rattle.hy_terms.specs.declared.term.Labelled.TheOpen as declared
use Rattle.hy_terms.specs.declared.term.Labelled.TheFolds.{fold-Labelled}

mutual
  pub data Labelled : Type 0 where
    Int : ℤ → Labelled
    Atom : ℕ → Labelled
    Pid : ℕ → Labelled
    Nil : Labelled
    Cons : (site : ℕ) (colour : Colour) (head tail : Labelled) → Labelled
    Tuple : (site : ℕ) (colour : Colour) (parts : Labels) → Labelled

  pub data Labels : Type 0 where
    NoLabels : Labels
    MoreLabels : Labelled → Labels → Labels

-- the labelled terms of a list, in order
abbrev pub labels_of : List Labelled → Labels
labels_of [] = NoLabels
labels_of (t ∷ ts) = MoreLabels t (labels_of ts)

-- the number of parts
abbrev pub part_count : Labels → ℕ
part_count NoLabels = 0
part_count (MoreLabels t ts) = suc (part_count ts)

-- the labelled term that a declared one is
abbrev pub labelled_step : declared.Labelled-F Labelled → Labelled
labelled_step (declared.Int n) = Int n
labelled_step (declared.Atom atom) = Atom atom
labelled_step (declared.Pid pid) = Pid pid
labelled_step declared.Nil = Nil
labelled_step (declared.Cons site colour head tail) = Cons site colour head tail
labelled_step (declared.Tuple site colour parts) = Tuple site colour (labels_of parts)

abbrev pub labelled_of : DeclaredLabelled → Labelled
labelled_of = fold-Labelled Labelled labelled_step

abbrev mutual
  -- the labels dropped
  pub erase : Labelled → Term
  erase (Int n) = bare.Int n
  erase (Atom atom) = bare.Atom atom
  erase (Pid pid) = bare.Pid pid
  erase Nil = bare.Nil
  erase (Cons site colour head tail) = bare.Cons (erase head) (erase tail)
  erase (Tuple site colour parts) = bare.Tuple (erase_each parts)

  pub erase_each : Labels → Terms
  erase_each NoLabels = NoTerms
  erase_each (MoreLabels t ts) = MoreTerms (erase t) (erase_each ts)

abbrev mutual
  -- each node shared
  pub shared : Labelled → Labelled
  shared (Int n) = Int n
  shared (Atom atom) = Atom atom
  shared (Pid pid) = Pid pid
  shared Nil = Nil
  shared (Cons site colour head tail) = Cons site Shared (shared head) (shared tail)
  shared (Tuple site colour parts) = Tuple site Shared (shared_each parts)

  pub shared_each : Labels → Labels
  shared_each NoLabels = NoLabels
  shared_each (MoreLabels t ts) = MoreLabels (shared t) (shared_each ts)

abbrev pub if_private : Colour → ℕ → ℕ
if_private Private words = words
if_private Shared words = 0

abbrev mutual
  -- the words of the private nodes, each occurrence counted: 3 for a cons, and n + 1 for a tuple of
  -- n
  pub private_words : Labelled → ℕ
  private_words (Int n) = 0
  private_words (Atom atom) = 0
  private_words (Pid pid) = 0
  private_words Nil = 0
  private_words (Cons site colour head tail) =
      if_private colour 3 + private_words head + private_words tail
  private_words (Tuple site colour parts) =
      if_private colour (part_count parts + 1) + private_words_of_each parts

  pub private_words_of_each : Labels → ℕ
  private_words_of_each NoLabels = 0
  private_words_of_each (MoreLabels t ts) = private_words t + private_words_of_each ts

-- where a term stands; a number, an atom, a pid and nil have no cell, and count as shared
abbrev pub colour_of : Labelled → Colour
colour_of (Cons site colour head tail) = colour
colour_of (Tuple site colour parts) = colour
colour_of _ = Shared

abbrev pub IsShared : Labelled → Type 0
IsShared term = colour_of term ≡ Shared

abbrev pub AreShared : Labels → Type 0
AreShared NoLabels = Unit {0}
AreShared (MoreLabels t ts) = IsShared t × AreShared ts

abbrev mutual
  -- no shared node of a labelled term has a private child
  pub IsLabelled : Labelled → Type 0
  IsLabelled (Cons site colour head tail) =
      (colour ≡ Shared → IsShared head × IsShared tail) × IsLabelled head × IsLabelled tail
  IsLabelled (Tuple site colour parts) = (colour ≡ Shared → AreShared parts) × AreLabelled parts
  IsLabelled _ = Unit {0}

  pub AreLabelled : Labels → Type 0
  AreLabelled NoLabels = Unit {0}
  AreLabelled (MoreLabels t ts) = IsLabelled t × AreLabelled ts
