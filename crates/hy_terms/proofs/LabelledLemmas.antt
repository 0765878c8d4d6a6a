-- Laws of labelled terms: dropping the labels, sharing, private words, and where nodes stand.
use Rattle.std.proofs.Common.{◌≡◌, ℕ, ◌+◌, refl, ap, sym, arith}
use Rattle.hy_terms.specs.Term as bare
use Rattle.hy_terms.specs.Labelled.{Labelled, Int, Atom, Pid, Nil, Cons, Tuple, Labels, NoLabels, MoreLabels, part_count, erase, erase_each, shared, shared_each, private_words, private_words_of_each, if_private, IsShared, AreShared, IsLabelled, AreLabelled}
use Rattle.hy_terms.specs.declared.term.Colour.{Colour}
use Rattle.hy_terms.specs.declared.term.Colour.TheVariants.{Private, Shared}

-- sharing changes labels alone
mutual
  pub erase-shared : (term : Labelled) → erase (shared term) ≡ erase term
  erase-shared (Int n) = refl
  erase-shared (Atom atom) = refl
  erase-shared (Pid pid) = refl
  erase-shared Nil = refl
  erase-shared (Cons site colour head tail) = λ i. bare.Cons (erase-shared head i) (erase-shared tail i)
  erase-shared (Tuple site colour parts) = ap bare.Tuple (erase_each-shared_each parts)

  erase_each-shared_each : (parts : Labels) → erase_each (shared_each parts) ≡ erase_each parts
  erase_each-shared_each NoLabels = refl
  erase_each-shared_each (MoreLabels t ts) = λ i. bare.MoreTerms (erase-shared t i) (erase_each-shared_each ts i)

-- what is shared has no private word
mutual
  pub private_words-shared : (term : Labelled) → private_words (shared term) ≡ 0
  private_words-shared (Int n) = refl
  private_words-shared (Atom atom) = refl
  private_words-shared (Pid pid) = refl
  private_words-shared Nil = refl
  private_words-shared (Cons site colour head tail) = omega (arith, private_words-shared head, private_words-shared tail)
  private_words-shared (Tuple site colour parts) = omega (arith, private_words-shared_each parts)

  private_words-shared_each : (parts : Labels) → private_words_of_each (shared_each parts) ≡ 0
  private_words-shared_each NoLabels = refl
  private_words-shared_each (MoreLabels t ts) = omega (arith, private_words-shared t, private_words-shared_each ts)

no_part_private : (n m : ℕ) → n + m ≡ 0 → (n ≡ 0) × (m ≡ 0)
no_part_private n m h = (omega arith, omega arith)

is_shared : (colour : Colour) (n m : ℕ) → if_private colour (n + 1) + m ≡ 0 → (colour ≡ Shared) × (m ≡ 0)
is_shared Private n m h = absurd (omega arith)
is_shared Shared n m h = (refl, omega arith)

-- a term with no private word is what sharing makes of it
mutual
  pub shared-same : (term : Labelled) → private_words term ≡ 0 → shared term ≡ term
  shared-same (Int n) none = refl
  shared-same (Atom atom) none = refl
  shared-same (Pid pid) none = refl
  shared-same Nil none = refl
  shared-same (Cons site Private head tail) none = absurd (omega (arith, none))
  shared-same (Cons site Shared head tail) none =
      let n = no_part_private (private_words head) (private_words tail) (omega (arith, none)) in
      λ i. Cons site Shared (shared-same head n.0 i) (shared-same tail n.1 i)
  shared-same (Tuple site colour parts) none =
      let s = is_shared colour (part_count parts) (private_words_of_each parts) none in
      λ i. Tuple site (sym s.0 i) (shared_each-same parts s.1 i)

  shared_each-same : (parts : Labels) → private_words_of_each parts ≡ 0 → shared_each parts ≡ parts
  shared_each-same NoLabels none = refl
  shared_each-same (MoreLabels t ts) none =
      let n = no_part_private (private_words t) (private_words_of_each ts) none in
      λ i. MoreLabels (shared-same t n.0 i) (shared_each-same ts n.1 i)

-- sharing twice is sharing once
pub shared-shared : (term : Labelled) → shared (shared term) ≡ shared term
shared-shared term = shared-same (shared term) (private_words-shared term)

-- what is shared stands in the area
pub IsShared-shared : (term : Labelled) → IsShared (shared term)
IsShared-shared (Int n) = refl
IsShared-shared (Atom atom) = refl
IsShared-shared (Pid pid) = refl
IsShared-shared Nil = refl
IsShared-shared (Cons site colour head tail) = refl
IsShared-shared (Tuple site colour parts) = refl

AreShared-shared_each : (parts : Labels) → AreShared (shared_each parts)
AreShared-shared_each NoLabels = tt
AreShared-shared_each (MoreLabels t ts) = (IsShared-shared t, AreShared-shared_each ts)

mutual
  pub IsLabelled-shared : (term : Labelled) → IsLabelled (shared term)
  IsLabelled-shared (Int n) = tt
  IsLabelled-shared (Atom atom) = tt
  IsLabelled-shared (Pid pid) = tt
  IsLabelled-shared Nil = tt
  IsLabelled-shared (Cons site colour head tail) =
      (λ _. (IsShared-shared head, IsShared-shared tail), IsLabelled-shared head, IsLabelled-shared tail)
  IsLabelled-shared (Tuple site colour parts) = (λ _. AreShared-shared_each parts, AreLabelled-shared_each parts)

  AreLabelled-shared_each : (parts : Labels) → AreLabelled (shared_each parts)
  AreLabelled-shared_each NoLabels = tt
  AreLabelled-shared_each (MoreLabels t ts) = (IsLabelled-shared t, AreLabelled-shared_each ts)

-- below a shared node nothing is private
mutual
  pub private_words-IsShared : (term : Labelled) → IsLabelled term → IsShared term → private_words term ≡ 0
  private_words-IsShared (Int n) h s = refl
  private_words-IsShared (Atom atom) h s = refl
  private_words-IsShared (Pid pid) h s = refl
  private_words-IsShared Nil h s = refl
  private_words-IsShared (Cons site Private head tail) h s = absurd cc
  private_words-IsShared (Cons site Shared head tail) h s =
      let both = h.0 refl in omega (arith, private_words-IsShared head h.1 both.0, private_words-IsShared tail h.2 both.1)
  private_words-IsShared (Tuple site Private parts) h s = absurd cc
  private_words-IsShared (Tuple site Shared parts) h s = omega (arith, private_words-AreShared parts h.1 (h.0 refl))

  private_words-AreShared : (parts : Labels) → AreLabelled parts → AreShared parts → private_words_of_each parts ≡ 0
  private_words-AreShared NoLabels h s = refl
  private_words-AreShared (MoreLabels t ts) h s = omega (arith, private_words-IsShared t h.0 s.0, private_words-AreShared ts h.1 s.1)
