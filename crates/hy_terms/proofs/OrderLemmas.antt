-- The order of terms is the lexicographic order of codes, so it is total; and what it does not tell apart is the same term.
use Rattle.std.proofs.Common.{◌≡◌, ℕ, suc, ◌<◌, ℤ, pos, ◌<ℤ◌, List, [], ◌∷◌, ◌++◌, refl, ap, sym, subst, ◌∙◌, arith, append_assoc, append-nil}
use Rattle.std.proofs.lemmas.Cmp.{int_cmp_total, lists_total, on_total, tied_itself}
use Rattle.std.proofs.lemmas.Int.{ints}
use Rattle.std.specs.Cmp.{IsTotalOrder, int_cmp_is, int_ranks, ranks}
use Rattle.std.specs.Cmp.Lexicographic.{slice_cmp}
use Rattle.std.specs.Ordering.{int_cmp, nat_cmp, ordering_then, MatchOrdering}
use Rattle.std.specs.declared.cmp.Ordering.{Ordering}
use Rattle.std.specs.declared.cmp.Ordering.TheVariants.{Less, Equal, Greater}
use Rattle.hy_terms.specs.Naming.{text_of}
use Rattle.hy_terms.specs.Term.{Term, Int, Atom, Pid, Nil, Cons, Tuple, Terms, NoTerms, MoreTerms, size_of}
use Rattle.hy_terms.specs.TermOrder.{compare, compare_each}

then_assoc : (a b c : Ordering) → ordering_then (ordering_then a b) c ≡ ordering_then a (ordering_then b c)
then_assoc Less b c = refl
then_assoc Equal b c = refl
then_assoc Greater b c = refl

then_Equal : (a : Ordering) → ordering_then a Equal ≡ a
then_Equal Less = refl
then_Equal Equal = refl
then_Equal Greater = refl

as_pos : (m n : ℕ) (o : Ordering) → MatchOrdering o (m < n) (m ≡ n) (n < m) → o ≡ int_cmp (pos m) (pos n)
as_pos m n Less h = int_cmp_is (pos m) (pos n) Less (omega (arith, ints, h))
as_pos m n Equal h = int_cmp_is (pos m) (pos n) Equal (ap pos h)
as_pos m n Greater h = int_cmp_is (pos m) (pos n) Greater (omega (arith, ints, h))

int_cmp-pos : (m n : ℕ) → int_cmp (pos m) (pos n) ≡ nat_cmp m n
int_cmp-pos m n = sym (as_pos m n (nat_cmp m n) (ranks m n))

one_up : (m n : ℕ) (o : Ordering) → MatchOrdering o (m < n) (m ≡ n) (n < m) → MatchOrdering o (suc m < suc n) (suc m ≡ suc n) (suc n < suc m)
one_up m n Less h = omega (arith, h)
one_up m n Equal h = ap suc h
one_up m n Greater h = omega (arith, h)

int_cmp-pos-suc : (m n : ℕ) → int_cmp (pos (suc m)) (pos (suc n)) ≡ nat_cmp m n
int_cmp-pos-suc m n = sym (as_pos (suc m) (suc n) (nat_cmp m n) (one_up m n (nat_cmp m n) (ranks m n)))

-- a text, told apart from a longer one by its end
abbrev marked : List ℕ → List ℤ
marked [] = pos 0 ∷ []
marked (b ∷ bs) = pos (suc b) ∷ marked bs

slice_cmp-marked : (t u : List ℕ) (r s : List ℤ) → slice_cmp int_cmp (marked t ++ r) (marked u ++ s) ≡ ordering_then (slice_cmp nat_cmp t u) (slice_cmp int_cmp r s)
slice_cmp-marked [] [] r s = refl
slice_cmp-marked [] (b ∷ bs) r s = ap (λ o. ordering_then o (slice_cmp int_cmp r (marked bs ++ s))) (sym (as_pos 0 (suc b) Less (omega arith)))
slice_cmp-marked (a ∷ t) [] r s = ap (λ o. ordering_then o (slice_cmp int_cmp (marked t ++ r) s)) (sym (as_pos (suc a) 0 Greater (omega arith)))
slice_cmp-marked (a ∷ t) (b ∷ bs) r s =
    (λ i. ordering_then (int_cmp-pos-suc a b i) (slice_cmp-marked t bs r s i))
    ∙ sym (then_assoc (nat_cmp a b) (slice_cmp nat_cmp t bs) (slice_cmp int_cmp r s))

by_sizes : (m n : ℕ) (rest each last : Ordering) → (m ≡ n → rest ≡ ordering_then each last) → (o : Ordering) → MatchOrdering o (m < n) (m ≡ n) (n < m) → ordering_then o rest ≡ ordering_then (ordering_then o each) last
by_sizes m n rest each last h Less k = refl
by_sizes m n rest each last h Equal k = h k
by_sizes m n rest each last h Greater k = refl

both_Equal : (a b : Ordering) → ordering_then a b ≡ Equal → (a ≡ Equal) × (b ≡ Equal)
both_Equal Less b h = absurd cc
both_Equal Equal b h = (refl, h)
both_Equal Greater b h = absurd cc

same_int : (m n : ℤ) (o : Ordering) → MatchOrdering o (m <ℤ n) (m ≡ n) (n <ℤ m) → o ≡ Equal → m ≡ n
same_int m n Less h e = absurd cc
same_int m n Equal h e = h
same_int m n Greater h e = absurd cc

same_nat : (m n : ℕ) (o : Ordering) → MatchOrdering o (m < n) (m ≡ n) (n < m) → o ≡ Equal → m ≡ n
same_nat m n Less h e = absurd cc
same_nat m n Equal h e = h
same_nat m n Greater h e = absurd cc

module _ (atoms : List (List ℕ)) where
  abbrev mutual
    code : Term → List ℤ
    code (Int n) = pos 0 ∷ n ∷ []
    code (Atom a) = pos 1 ∷ (marked (text_of atoms a) ++ pos a ∷ [])
    code (Pid p) = pos 2 ∷ pos p ∷ []
    code (Tuple ts) = pos 3 ∷ pos (size_of ts) ∷ codes_of ts
    code Nil = pos 4 ∷ []
    code (Cons h t) = pos 5 ∷ (code h ++ code t)

    codes_of : Terms → List ℤ
    codes_of NoTerms = []
    codes_of (MoreTerms t ts) = code t ++ codes_of ts

  mutual
    -- codes of terms, with what follows them, stand as the terms do, and then as what follows
    stands : (x y : Term) (r s : List ℤ) → slice_cmp int_cmp (code x ++ r) (code y ++ s) ≡ ordering_then (compare atoms x y) (slice_cmp int_cmp r s)
    stands (Int m) (Int n) r s = refl
    stands (Atom a) (Atom b) r s =
        rw (append_assoc (marked (text_of atoms a)) (pos a ∷ []) r, append_assoc (marked (text_of atoms b)) (pos b ∷ []) s)
        (slice_cmp-marked (text_of atoms a) (text_of atoms b) (pos a ∷ r) (pos b ∷ s)
        ∙ ap (λ o. ordering_then (slice_cmp nat_cmp (text_of atoms a) (text_of atoms b)) (ordering_then o (slice_cmp int_cmp r s))) (int_cmp-pos a b)
        ∙ sym (then_assoc (slice_cmp nat_cmp (text_of atoms a) (text_of atoms b)) (nat_cmp a b) (slice_cmp int_cmp r s)))
    stands (Pid p) (Pid q) r s = ap (λ o. ordering_then o (slice_cmp int_cmp r s)) (int_cmp-pos p q)
    stands Nil Nil r s = refl
    stands (Cons h t) (Cons k u) r s =
        rw (append_assoc (code h) (code t) r, append_assoc (code k) (code u) s)
        (stands h k (code t ++ r) (code u ++ s)
        ∙ ap (ordering_then (compare atoms h k)) (stands t u r s)
        ∙ sym (then_assoc (compare atoms h k) (compare atoms t u) (slice_cmp int_cmp r s)))
    stands (Tuple ts) (Tuple us) r s =
        rw (int_cmp-pos (size_of ts) (size_of us))
        (by_sizes (size_of ts) (size_of us) (slice_cmp int_cmp (codes_of ts ++ r) (codes_of us ++ s)) (compare_each atoms ts us) (slice_cmp int_cmp r s)
        (stand_each ts us r s) (nat_cmp (size_of ts) (size_of us)) (ranks (size_of ts) (size_of us)))
    stands x y r s = refl

    stand_each : (ts us : Terms) (r s : List ℤ) → size_of ts ≡ size_of us → slice_cmp int_cmp (codes_of ts ++ r) (codes_of us ++ s) ≡ ordering_then (compare_each atoms ts us) (slice_cmp int_cmp r s)
    stand_each NoTerms NoTerms r s same = refl
    stand_each NoTerms (MoreTerms u us) r s same = absurd (omega arith)
    stand_each (MoreTerms t ts) NoTerms r s same = absurd (omega arith)
    stand_each (MoreTerms t ts) (MoreTerms u us) r s same =
        rw (append_assoc (code t) (codes_of ts) r, append_assoc (code u) (codes_of us) s)
        (stands t u (codes_of ts ++ r) (codes_of us ++ s)
        ∙ ap (ordering_then (compare atoms t u)) (stand_each ts us r s (omega arith))
        ∙ sym (then_assoc (compare atoms t u) (compare_each atoms ts us) (slice_cmp int_cmp r s)))

  -- the order of terms is that of their codes
  compare-code : (x y : Term) → slice_cmp int_cmp (code x) (code y) ≡ compare atoms x y
  compare-code x y =
      (λ i. slice_cmp int_cmp (sym (append-nil (code x)) i) (sym (append-nil (code y)) i))
      ∙ stands x y [] [] ∙ then_Equal (compare atoms x y)

  -- the order of terms is total
  pub IsTotalOrder-compare : IsTotalOrder (compare atoms)
  IsTotalOrder-compare = subst IsTotalOrder (λ i x y. compare-code x y i) (on_total code (lists_total int_cmp_total))

  pub compare-itself : (x : Term) → compare atoms x x ≡ Equal
  compare-itself x = tied_itself IsTotalOrder-compare x

  mutual
    -- two terms that the order does not tell apart are the same
    pub same : (x y : Term) → compare atoms x y ≡ Equal → x ≡ y
    same (Int m) (Int n) h = ap Int (same_int m n (int_cmp m n) (int_ranks m n) h)
    same (Atom a) (Atom b) h = ap Atom (same_nat a b (nat_cmp a b) (ranks a b) (both_Equal _ _ h).1)
    same (Pid p) (Pid q) h = ap Pid (same_nat p q (nat_cmp p q) (ranks p q) h)
    same Nil Nil h = refl
    same (Cons h t) (Cons k u) e = let b = both_Equal _ _ e in λ i. Cons (same h k b.0 i) (same t u b.1 i)
    same (Tuple ts) (Tuple us) e = ap Tuple (same_each ts us (both_Equal _ _ e).1)
    same x y h = absurd cc

    same_each : (ts us : Terms) → compare_each atoms ts us ≡ Equal → ts ≡ us
    same_each NoTerms NoTerms h = refl
    same_each NoTerms (MoreTerms u us) h = absurd cc
    same_each (MoreTerms t ts) NoTerms h = absurd cc
    same_each (MoreTerms t ts) (MoreTerms u us) h = let b = both_Equal _ _ h in λ i. MoreTerms (same t u b.0 i) (same_each ts us b.1 i)
