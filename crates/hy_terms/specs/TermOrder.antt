-- The order of terms: number < atom < pid < tuple < nil < list. The order of pids by number is this
-- project's own.
use Rattle.std.specs.Prelude.{ℕ, List}
use Rattle.std.specs.declared.cmp.Ordering.{Ordering}
use Rattle.std.specs.declared.cmp.Ordering.TheVariants.{Less, Equal, Greater}
use Rattle.std.specs.Ordering.{nat_cmp, int_cmp, ordering_then}
use Rattle.std.specs.Cmp.Lexicographic.{slice_cmp}
use Rattle.hy_terms.specs.Naming.{text_of}
use Rattle.hy_terms.specs.Term.{Term, Int, Atom, Pid, Nil, Cons, Tuple, Terms, NoTerms, MoreTerms, size_of}

-- the place of a term's kind in the order
abbrev pub kind : Term → ℕ
kind (Int n) = 0
kind (Atom a) = 1
kind (Pid p) = 2
kind (Tuple ts) = 3
kind Nil = 4
kind (Cons h t) = 5

module _ (atoms : List (List ℕ)) where
  abbrev mutual
    -- numbers by value, atoms by text and then by number, pids by number, tuples by size and then
    -- element by element, lists by head and then tail
    pub compare : Term → Term → Ordering
    compare (Int n) (Int m) = int_cmp n m
    compare (Atom a) (Atom b) =
        ordering_then (slice_cmp nat_cmp (text_of atoms a) (text_of atoms b)) (nat_cmp a b)
    compare (Pid p) (Pid q) = nat_cmp p q
    compare (Tuple ts) (Tuple us) =
        ordering_then (nat_cmp (size_of ts) (size_of us)) (compare_each ts us)
    compare Nil Nil = Equal
    compare (Cons h t) (Cons k u) = ordering_then (compare h k) (compare t u)
    compare t u = nat_cmp (kind t) (kind u)

    pub compare_each : Terms → Terms → Ordering
    compare_each NoTerms NoTerms = Equal
    compare_each NoTerms (MoreTerms u us) = Less
    compare_each (MoreTerms t ts) NoTerms = Greater
    compare_each (MoreTerms t ts) (MoreTerms u us) =
        ordering_then (compare t u) (compare_each ts us)
