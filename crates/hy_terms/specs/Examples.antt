-- Terms of which the laws compute texts and orders.
use Rattle.std.specs.Prelude.{ℕ, Bool, true, ◌&&◌, List, [], ◌∷◌, pos, negsuc, codes}
use Rattle.std.specs.Ordering.{is_lt}
use Rattle.hy_terms.specs.Labelled.{Labelled, labels_of}
use Rattle.hy_terms.specs.Labelled as l
use Rattle.hy_terms.specs.Term.{Term, Int, Atom, Pid, Nil, Cons, Tuple, terms_of}
use Rattle.hy_terms.specs.TermOrder.{compare}
use Rattle.hy_terms.specs.declared.term.Colour.TheVariants.{Private, Shared}

-- a table of the atoms 'b', 'it's', 'a' and, a second time, 'b'
abbrev pub some_atoms : List (List ℕ)
some_atoms = codes "b" ∷ codes "it's" ∷ codes "a" ∷ codes "b" ∷ []

abbrev pub int : ℕ → Term
int n = Int (pos n)

-- {[1,2|3],"ab",[],{},'it\'s',<0.0.0>}
abbrev pub mixed_tuple : Term
mixed_tuple =
    Tuple (terms_of (Cons (int 1) (Cons (int 2) (int 3)) ∷ Cons (int 97) (Cons (int 98) Nil) ∷ Nil
    ∷ Tuple (terms_of []) ∷ Atom 1 ∷ Pid 0 ∷ []))

-- in ascending order: -2, -1, 1, 'a', 'b', 'b' again, <0.0.0>, <0.1.0>, {}, {2}, {1,1}, [],
-- [1|'a'], [1], [2|'a']
abbrev pub ascending_terms : List Term
ascending_terms =
    Int (negsuc 1) ∷ Int (negsuc 0) ∷ int 1 ∷ Atom 2 ∷ Atom 0 ∷ Atom 3 ∷ Pid 0 ∷ Pid 1
    ∷ Tuple (terms_of []) ∷ Tuple (terms_of (int 2 ∷ [])) ∷ Tuple (terms_of (int 1 ∷ int 1 ∷ []))
    ∷ Nil ∷ Cons (int 1) (Atom 2) ∷ Cons (int 1) Nil ∷ Cons (int 2) (Atom 2) ∷ []

-- each term is below the next
abbrev pub is_ascending : List Term → Bool
is_ascending [] = true
is_ascending (x ∷ []) = true
is_ascending (x ∷ y ∷ terms) = is_lt (compare some_atoms x y) && is_ascending (y ∷ terms)

abbrev pub private_cell : Labelled
private_cell = l.Cons 1 Private (l.Int (pos 1)) l.Nil

abbrev pub shared_cell : Labelled
shared_cell = l.Cons 2 Shared (l.Atom 2) l.Nil

-- a private tuple of three, which holds one private cell twice: 4 + 3 + 3 private words
abbrev pub private_tuple : Labelled
private_tuple = l.Tuple 0 Private (labels_of (private_cell ∷ private_cell ∷ shared_cell ∷ []))
