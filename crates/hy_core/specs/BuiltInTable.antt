-- What the built-ins answer, by examples, each with its reason where it raises.
use Rattle.std.specs.Prelude.{◌≡◌, ℕ, List, [], ◌∷◌, ◌++◌, codes, pos, negsuc}
use Rattle.hy_terms.specs.Term.{Term, Int, Atom, Pid, Nil, Cons, Tuple, terms_of}
use Rattle.hy_core.specs.declared.bif.Bif.{Bif}
use Rattle.hy_core.specs.declared.bif.Bif.TheVariants as b
use Rattle.hy_core.specs.BuiltIn.{Answer, Value, answer, own_atoms, badarith, badarg, system_limit, or_badarg, with_element}

abbrev on : Bif → List Term → Answer
on = answer (own_atoms ++ codes "b" ∷ codes "a" ∷ []) 9

abbrev of : Bif → Term → Answer
of f t = on f (t ∷ [])

abbrev with : Bif → Term → Term → Answer
with f t u = on f (t ∷ u ∷ [])

abbrev int : ℕ → Term
int n = Int (pos n)

-- below zero by one more
abbrev below : ℕ → Term
below n = Int (negsuc n)

abbrev least : Term
least = below 576460752303423487

abbrev greatest : Term
greatest = int 576460752303423487

abbrev yes : Term
yes = Atom 0

abbrev no : Term
no = Atom 1

abbrev tuple : List Term → Term
tuple ts = Tuple (terms_of ts)

abbrev pair : Term
pair = tuple (int 5 ∷ Nil ∷ [])

abbrev list : Term
list = Cons (int 5) (Cons Nil Nil)

abbrev improper : Term
improper = Cons (int 5) (int 6)

pub record NumbersAreComputed : Type 0 where
  pub sum : with b.Add (int 2) (int 3) ≡ Value (int 5)
  pub sum_past : with b.Add greatest (int 1) ≡ system_limit
  pub sum_of_no_number : with b.Add yes (int 1) ≡ badarith
  pub difference : with b.Sub (int 2) (int 3) ≡ Value (below 0)
  pub difference_past : with b.Sub least (int 1) ≡ system_limit
  pub product : with b.Mul (int 6) (below 6) ≡ Value (below 41)
  pub product_past : with b.Mul greatest (int 2) ≡ system_limit
  pub product_of_no_number : with b.Mul (int 0) Nil ≡ badarith
  pub negative : of b.Neg (int 7) ≡ Value (below 6)
  pub negative_past : of b.Neg least ≡ system_limit
  pub negative_of_no_number : of b.Neg yes ≡ badarith
  pub quotient : with b.Div (below 6) (int 2) ≡ Value (below 2)
  pub quotient_past : with b.Div least (below 0) ≡ system_limit
  pub quotient_by_zero : with b.Div (int 1) (int 0) ≡ badarith
  pub quotient_of_no_number : with b.Div yes (int 0) ≡ badarith
  pub remainder : with b.Rem (below 6) (int 2) ≡ Value (below 0)
  pub remainder_by_negative : with b.Rem (int 7) (below 1) ≡ Value (int 1)
  pub remainder_of_least : with b.Rem least (below 0) ≡ Value (int 0)
  pub remainder_by_zero : with b.Rem (int 1) (int 0) ≡ badarith
  pub both_bits : with b.Band (int 12) (int 10) ≡ Value (int 8)
  pub both_bits_of_negative : with b.Band (below 0) (int 10) ≡ Value (int 10)
  pub some_bits : with b.Bor (int 12) (int 10) ≡ Value (int 14)
  pub some_bits_of_least : with b.Bor least (int 1) ≡ Value (below 576460752303423486)
  pub other_bits : with b.Bxor (int 12) (int 10) ≡ Value (int 6)
  pub other_bits_of_negative : with b.Bxor (below 0) greatest ≡ Value least
  pub bits_of_no_number : with b.Band (int 1) yes ≡ badarith
  pub absolute : of b.Abs (below 6) ≡ Value (int 7)
  pub absolute_past : of b.Abs least ≡ system_limit
  pub absolute_of_no_number : of b.Abs Nil ≡ badarg

pub record TruthsAreComputed : Type 0 where
  pub both : with b.And yes no ≡ Value no
  pub both_look : with b.And no (int 1) ≡ badarg
  pub some : with b.Or yes no ≡ Value yes
  pub some_look : with b.Or yes (int 1) ≡ badarg
  pub one : with b.Xor yes yes ≡ Value no
  pub one_looks : with b.Xor (Atom 2) yes ≡ badarg
  pub other : of b.Not yes ≡ Value no
  pub other_looks : of b.Not Nil ≡ badarg

pub record KindsAreTested : Type 0 where
  pub integer : of b.IsInteger (int 1) ≡ Value yes
  pub no_integer : of b.IsInteger yes ≡ Value no
  pub number : of b.IsNumber (below 0) ≡ Value yes
  pub atom : of b.IsAtom (Atom 8) ≡ Value yes
  pub no_atom : of b.IsAtom Nil ≡ Value no
  pub boolean : of b.IsBoolean no ≡ Value yes
  pub no_boolean : of b.IsBoolean (Atom 2) ≡ Value no
  pub pid : of b.IsPid (Pid 4) ≡ Value yes
  pub no_pid : of b.IsPid (int 4) ≡ Value no
  pub nil : of b.IsList Nil ≡ Value yes
  pub cons : of b.IsList improper ≡ Value yes
  pub no_list : of b.IsList pair ≡ Value no
  pub tuple : of b.IsTuple pair ≡ Value yes
  pub no_tuple : of b.IsTuple list ≡ Value no

pub record PartsAreFound : Type 0 where
  pub size : of b.TupleSize pair ≡ Value (int 2)
  pub size_of_no_tuple : of b.TupleSize list ≡ badarg
  pub element : with b.Element (int 2) pair ≡ Value Nil
  pub element_before : with b.Element (int 0) pair ≡ badarg
  pub element_behind : with b.Element (int 3) pair ≡ badarg
  pub element_by_no_number : with b.Element yes pair ≡ badarg
  pub element_of_no_tuple : with b.Element (int 1) list ≡ badarg
  pub head : of b.Hd improper ≡ Value (int 5)
  pub head_of_nil : of b.Hd Nil ≡ badarg
  pub tail : of b.Tl improper ≡ Value (int 6)
  pub tail_of_nil : of b.Tl Nil ≡ badarg
  pub length : of b.Length list ≡ Value (int 2)
  pub length_of_improper : of b.Length improper ≡ badarg
  pub length_of_no_list : of b.Length pair ≡ badarg
  pub own_pid : on b.SelfPid [] ≡ Value (Pid 9)
  pub changed : or_badarg (with_element (int 2) pair yes) ≡ Value (tuple (int 5 ∷ yes ∷ []))
  pub changed_behind : or_badarg (with_element (int 3) pair yes) ≡ badarg
  pub changed_no_tuple : or_badarg (with_element (int 1) list yes) ≡ badarg

pub record TermsAreCompared : Type 0 where
  pub less : with b.Less (int 1) yes ≡ Value yes
  pub not_less : with b.Less pair pair ≡ Value no
  pub greater : with b.Greater list Nil ≡ Value yes
  pub at_most : with b.AtMost pair pair ≡ Value yes
  pub at_least : with b.AtLeast (Pid 1) (Pid 2) ≡ Value no
  -- 'b' stands before 'a' in the table
  pub atoms_by_text : with b.Less (Atom 8) (Atom 7) ≡ Value yes
  pub tuples_by_size : with b.Less (tuple (int 2 ∷ [])) (tuple (int 1 ∷ int 1 ∷ [])) ≡ Value yes
  pub same : with b.Same list list ≡ Value yes
  pub not_same : with b.NotSame list improper ≡ Value yes

-- `==` is `=:=`, and `/=` is `=/=`
pub record EqualIsSame : Type 0 where
  pub equal : (atoms : List (List ℕ)) (pid : ℕ) (ts : List Term) → answer atoms pid b.Equal ts
      ≡ answer atoms pid b.Same ts
  pub not_equal : (atoms : List (List ℕ)) (pid : ℕ) (ts : List Term)
      → answer atoms pid b.NotEqual ts ≡ answer atoms pid b.NotSame ts
