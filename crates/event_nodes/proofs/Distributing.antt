-- Events that are shared out one after another are those of each owner, in order.
use Rattle.std.proofs.Common.{◌≡◌, ℕ, zero, suc, ◌+◌, ◌<◌, ◌≤◌, ◌==◌, true, false, List, []}
use Rattle.std.proofs.Common.{◌∷◌, ◌++◌, length, get_or, set, refl, sym, ap, ◌∙◌, arith, inl, inr}
use Rattle.std.proofs.Common.{append_assoc, append-nil, if◌then◌else◌}
use Rattle.std.proofs.lemmas.Bool.{eq-eqb}
use Rattle.std.proofs.lemmas.Bool.Decides.{eqb_tells}
use Rattle.std.specs.Prelude.{◌⊎◌}
use Rattle.number_owners.specs.ChosenNumbers.{chosen}
use Rattle.event_nodes.specs.EventNodes.{chosen_from}
use Rattle.event_nodes.specs.code.Distributed.{distributed, empty_lists, given}
use Rattle.event_nodes.specs.declared.events.Event.{Event}
use Rattle.event_nodes.proofs.Going.{nodes_of, owners_of}

-- a node that is put into the list of its owner, and one that has no list

pub stored : (ls : List (List ℕ)) (k n : ℕ) (old new : List ℕ) → k < length ls
    → old ≡ get_or ls k old → new ≡ old ++ n ∷ [] → set ls k new ≡ given ls k n
stored [] k n old new low is made = absurd (omega (arith, low))
stored (l ∷ ls) zero n old new low is made =
    ap (λ l. l ∷ ls) (made ∙ ap (λ l. l ++ n ∷ []) is)
stored (l ∷ ls) (suc k) n old new low is made =
    ap (λ ls. l ∷ ls) (stored ls k n old new (omega (arith, low)) is made)

pub past : (ls : List (List ℕ)) (k n : ℕ) → length ls ≤ k → ls ≡ given ls k n
past [] k n low = refl
past (l ∷ ls) zero n low = absurd (omega (arith, low))
past (l ∷ ls) (suc k) n low = ap (λ ls. l ∷ ls) (past ls k n (omega (arith, low)))

pub one_more : (n : ℕ) → empty_lists n ++ [] ∷ [] ≡ empty_lists (n + 1)
one_more n = more n ∙ ap empty_lists after
  where
    after : suc n ≡ n + 1
    after = omega arith

    more : (n : ℕ) → empty_lists n ++ [] ∷ [] ≡ empty_lists (suc n)
    more zero = refl
    more (suc n) = ap (λ ls. [] ∷ ls) (more n)

-- a number of an owner, and one of another

own : (k o n : ℕ) (os ns : List ℕ) → o ≡ k → chosen k (o ∷ os) (n ∷ ns) ≡ n ∷ chosen k os ns
own k o n os ns is = ap (λ b. if b then n ∷ chosen k os ns else chosen k os ns) (eq-eqb o k is)

other : (k o n : ℕ) (os ns : List ℕ) → (o ≡ k → ⊥)
    → chosen k (o ∷ os) (n ∷ ns) ≡ chosen k os ns
other k o n os ns not = by (eqb_tells o k)
  where
    by : ((o == k) ≡ true) × (o ≡ k) ⊎ ((o == k) ≡ false) × (o ≡ k → ⊥)
        → chosen k (o ∷ os) (n ∷ ns) ≡ chosen k os ns
    by (inl h) = absurd (not h.1)
    by (inr h) = ap (λ b. if b then n ∷ chosen k os ns else chosen k os ns) h.0

-- lists, of which the first is of the owner k, with the numbers of their owners behind them
abbrev joined : (k : ℕ) → List (List ℕ) → (owners numbers : List ℕ) → List (List ℕ)
joined k [] os ns = []
joined k (l ∷ ls) os ns = (l ++ chosen k os ns) ∷ joined (suc k) ls os ns

joined_past : (ls : List (List ℕ)) (k o n : ℕ) (os ns : List ℕ) → o < k
    → joined k ls (o ∷ os) (n ∷ ns) ≡ joined k ls os ns
joined_past [] k o n os ns low = refl
joined_past (l ∷ ls) k o n os ns low =
    λ i. (l ++ other k o n os ns (λ is. omega (arith, is, low)) i)
    ∷ joined_past ls (suc k) o n os ns (omega (arith, low)) i

joined_given : (ls : List (List ℕ)) (k j o n : ℕ) (os ns : List ℕ) → o ≡ k + j
    → joined k (given ls j n) os ns ≡ joined k ls (o ∷ os) (n ∷ ns)
joined_given [] k j o n os ns is = refl
joined_given (l ∷ ls) k zero o n os ns is =
    λ i. (append_assoc l (n ∷ []) (chosen k os ns)
    ∙ ap (λ m. l ++ m) (sym (own k o n os ns (omega (arith, is))))) i
    ∷ sym (joined_past ls (suc k) o n os ns (omega (arith, is))) i
joined_given (l ∷ ls) k (suc j) o n os ns is =
    λ i. (l ++ sym (other k o n os ns (λ same. omega (arith, same, is))) i)
    ∷ joined_given ls (suc k) j o n os ns (omega (arith, is)) i

joined_none : (ls : List (List ℕ)) (k : ℕ) → ls ≡ joined k ls [] []
joined_none [] k = refl
joined_none (l ∷ ls) k = λ i. sym (append-nil l) i ∷ joined_none ls (suc k) i

distributed_is : (es : List Event) (ls : List (List ℕ))
    → distributed ls es ≡ joined 0 ls (owners_of es) (nodes_of es)
distributed_is [] ls = joined_none ls 0
distributed_is (e ∷ es) ls =
    distributed_is es (given ls e.owner e.node)
    ∙ joined_given ls 0 e.owner e.owner e.node (owners_of es) (nodes_of es) (omega arith)

empty_joined : (many k : ℕ) (os ns : List ℕ)
    → joined k (empty_lists many) os ns ≡ chosen_from k many os ns
empty_joined zero k os ns = refl
empty_joined (suc many) k os ns = ap (λ ls. chosen k os ns ∷ ls) (empty_joined many (suc k) os ns)

pub shared_is : (many : ℕ) (es : List Event)
    → distributed (empty_lists many) es ≡ chosen_from 0 many (owners_of es) (nodes_of es)
shared_is many es =
    distributed_is es (empty_lists many) ∙ empty_joined many 0 (owners_of es) (nodes_of es)
