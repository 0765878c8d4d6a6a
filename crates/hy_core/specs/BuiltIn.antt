-- What each built-in of the module 'erlang' gives. The built-ins and their meaning are those of
-- Erlang; the range of numbers and the reason 'system_limit' are this project's own.
use Rattle.std.specs.Prelude.{ℕ, zero, suc, ◌==◌, ◌&&◌, ◌||◌, if◌then◌else◌, List, [], ◌∷◌, codes, Option, Some, None, Bool, true, false, not, ℤ, pos, ◌+ℤ◌, ◌-ℤ◌, ◌*ℤ◌, neg_ℤ, unsigned_abs, int_div, int_rem}
use Rattle.std.specs.Ordering.{int_eq}
use Rattle.std.specs.Int.{int_bit_and, int_bit_or, int_bit_xor, w64}
use Rattle.std.specs.Str.{bytes_eq}
use Rattle.std.specs.declared.cmp.Ordering.{Ordering}
use Rattle.std.specs.declared.cmp.Ordering.TheVariants.{Less, Equal, Greater}
use Rattle.hy_terms.specs.Term.{Term, Int, Atom, Pid, Nil, Cons, Tuple, Terms, NoTerms, MoreTerms, size_of}
use Rattle.hy_terms.specs.Naming.{one_on}
use Rattle.hy_terms.specs.Range.{is_in_range}
use Rattle.hy_terms.specs.TermOrder.{compare}
use Rattle.hy_core.specs.declared.bif.Bif.{Bif}
use Rattle.hy_core.specs.declared.bif.Bif.TheVariants as b
use Rattle.hy_core.specs.declared.class.Class.{Class}
use Rattle.hy_core.specs.declared.class.Class.TheVariants.{Error, Exit, Throw}

-- a value, what is raised, or none: the built-in has another number of arguments
pub data Answer : Type 0 where
  Value : Term → Answer
  Raises : Class → Term → Answer
  NoAnswer : Answer

-- the atoms with which the table of each program begins: this project's own
abbrev pub own_atoms : List (List ℕ)
own_atoms =
    codes "true" ∷ codes "false" ∷ codes "badarith" ∷ codes "badarg" ∷ codes "system_limit"
    ∷ codes "no_clause" ∷ codes "function_clause" ∷ []

-- truth values are the atoms 'true' and 'false'
abbrev pub truth : Bool → Term
truth true = Atom 0
truth false = Atom 1

-- the reasons of errors
abbrev pub badarith : Answer
badarith = Raises Error (Atom 2)

abbrev pub badarg : Answer
badarg = Raises Error (Atom 3)

abbrev pub system_limit : Answer
system_limit = Raises Error (Atom 4)

-- what a case without a clause raises, and what match_fail reads
abbrev pub no_clause : Term
no_clause = Atom 5

abbrev pub function_clause : Term
function_clause = Atom 6

-- terms by their kinds

-- the number that a term is
abbrev pub number : Term → Option ℤ
number (Int n) = Some n
number _ = None

-- the truth value that a term is
abbrev pub truth_value : Term → Option Bool
truth_value (Atom a) = if a == 0 then Some true else (if a == 1 then Some false else None)
truth_value _ = None

abbrev pub is_number : Term → Bool
is_number (Int n) = true
is_number _ = false

abbrev pub is_atom : Term → Bool
is_atom (Atom a) = true
is_atom _ = false

abbrev pub is_truth : Option Bool → Bool
is_truth None = false
is_truth (Some v) = true

abbrev pub is_pid : Term → Bool
is_pid (Pid p) = true
is_pid _ = false

-- a list is cons or nil
abbrev pub is_list : Term → Bool
is_list Nil = true
is_list (Cons h t) = true
is_list _ = false

abbrev pub is_tuple : Term → Bool
is_tuple (Tuple ts) = true
is_tuple _ = false

-- numbers

-- a number from -2^59 to 2^59 - 1
abbrev pub in_range : ℤ → Answer
in_range n = if is_in_range n then Value (Int n) else system_limit

abbrev pub on_number : Answer → (ℤ → Answer) → Option ℤ → Answer
on_number refusal f None = refusal
on_number refusal f (Some n) = f n

-- both arguments have to be numbers
abbrev pub on_numbers : (ℤ → ℤ → Answer) → Option ℤ → Option ℤ → Answer
on_numbers f (Some n) (Some m) = f n m
on_numbers f (Some n) None = badarith
on_numbers f None m = badarith

-- cut towards zero
abbrev pub quotient : ℤ → ℤ → Answer
quotient n m = if int_eq m (pos 0) then badarith else in_range (int_div n m)

-- with the sign of the first
abbrev pub remainder : ℤ → ℤ → Answer
remainder n m = if int_eq m (pos 0) then badarith else in_range (int_rem n m)

-- the bits of two's complement: 64 of them hold each number of the range
abbrev pub bits : (ℤ → ℤ → ℤ) → ℤ → ℤ → Answer
bits f n m = in_range (f n m)

-- truth values

-- both arguments have to be truth values
abbrev pub on_truths : (Bool → Bool → Bool) → Option Bool → Option Bool → Answer
on_truths f (Some v) (Some w) = Value (truth (f v w))
on_truths f (Some v) None = badarg
on_truths f None w = badarg

abbrev pub on_truth : (Bool → Bool) → Option Bool → Answer
on_truth f (Some v) = Value (truth (f v))
on_truth f None = badarg

abbrev pub exclusive_or : Bool → Bool → Bool
exclusive_or true w = not w
exclusive_or false w = w

-- order

-- tests of an order
abbrev pub is_less : Ordering → Bool
is_less Less = true
is_less Equal = false
is_less Greater = false

abbrev pub is_equal : Ordering → Bool
is_equal Less = false
is_equal Equal = true
is_equal Greater = false

abbrev pub is_greater : Ordering → Bool
is_greater Less = false
is_greater Equal = false
is_greater Greater = true

-- parts

abbrev pub or_badarg : Option Term → Answer
or_badarg None = badarg
or_badarg (Some t) = Value t

-- the part at a place, counted from 0
abbrev pub part_at : ℕ → Terms → Option Term
part_at k NoTerms = None
part_at zero (MoreTerms t ts) = Some t
part_at (suc k) (MoreTerms t ts) = part_at k ts

abbrev pub option_terms : (Terms → Term) → Option Terms → Option Term
option_terms f None = None
option_terms f (Some ts) = Some (f ts)

abbrev pub before_terms : Term → Option Terms → Option Terms
before_terms t None = None
before_terms t (Some ts) = Some (MoreTerms t ts)

-- the parts with another at a place, counted from 0
abbrev pub with_part : ℕ → Terms → Term → Option Terms
with_part k NoTerms v = None
with_part zero (MoreTerms t ts) v = Some (MoreTerms v ts)
with_part (suc k) (MoreTerms t ts) v = before_terms t (with_part k ts v)

-- element: places are counted from 1
abbrev pub element : Term → Term → Option Term
element (Int (pos (suc k))) (Tuple ts) = part_at k ts
element _ _ = None

-- setelement
abbrev pub with_element : Term → Term → Term → Option Term
with_element (Int (pos (suc k))) (Tuple ts) v = option_terms Tuple (with_part k ts v)
with_element _ _ v = None

-- hd and tl
abbrev pub head_of : Term → Option Term
head_of (Cons h t) = Some h
head_of _ = None

abbrev pub tail_of : Term → Option Term
tail_of (Cons h t) = Some t
tail_of _ = None

-- the length of a list that ends in nil
abbrev pub length_of : Term → Option ℕ
length_of Nil = Some 0
length_of (Cons h t) = one_on (length_of t)
length_of _ = None

abbrev pub or_no_length : Option ℕ → Answer
or_no_length None = badarg
or_no_length (Some n) = Value (Int (pos n))

-- tuple_size
abbrev pub size_answer : Term → Answer
size_answer (Tuple ts) = Value (Int (pos (size_of ts)))
size_answer _ = badarg

-- a call has as many arguments as its built-in takes
abbrev pub of_none : Answer → List Term → Answer
of_none f [] = f
of_none f _ = NoAnswer

abbrev pub of_one : (Term → Answer) → List Term → Answer
of_one f (t ∷ []) = f t
of_one f _ = NoAnswer

abbrev pub of_two : (Term → Term → Answer) → List Term → Answer
of_two f (t ∷ u ∷ []) = f t u
of_two f _ = NoAnswer

-- a test of a term's kind gives a truth value
abbrev pub test : (Term → Bool) → List Term → Answer
test f = of_one (λ t. Value (truth (f t)))

-- arithmetic of two numbers, and logic of two truth values
abbrev pub arithmetic : (ℤ → ℤ → Answer) → List Term → Answer
arithmetic f = of_two (λ t u. on_numbers f (number t) (number u))

abbrev pub logic : (Bool → Bool → Bool) → List Term → Answer
logic f = of_two (λ t u. on_truths f (truth_value t) (truth_value u))

module _ (atoms : List (List ℕ)) where
  -- a comparison gives a truth value, by the order of terms
  abbrev pub comparison : (Ordering → Bool) → List Term → Answer
  comparison f = of_two (λ t u. Value (truth (f (compare atoms t u))))

  -- the answer of a built-in in the process pid; `==` is `=:=`
  abbrev pub answer : (pid : ℕ) → Bif → List Term → Answer
  answer pid b.Add = arithmetic (λ n m. in_range (n +ℤ m))
  answer pid b.Sub = arithmetic (λ n m. in_range (n -ℤ m))
  answer pid b.Mul = arithmetic (λ n m. in_range (n *ℤ m))
  answer pid b.Neg = of_one (λ t. on_number badarith (λ n. in_range (neg_ℤ n)) (number t))
  answer pid b.Div = arithmetic quotient
  answer pid b.Rem = arithmetic remainder
  answer pid b.Band = arithmetic (bits (int_bit_and w64))
  answer pid b.Bor = arithmetic (bits (int_bit_or w64))
  answer pid b.Bxor = arithmetic (bits (int_bit_xor w64))
  answer pid b.Abs =
      of_one (λ t. on_number badarg (λ n. in_range (pos (unsigned_abs n))) (number t))
  answer pid b.And = logic ◌&&◌
  answer pid b.Or = logic ◌||◌
  answer pid b.Xor = logic exclusive_or
  answer pid b.Not = of_one (λ t. on_truth not (truth_value t))
  answer pid b.IsInteger = test is_number
  answer pid b.IsNumber = test is_number
  answer pid b.IsAtom = test is_atom
  answer pid b.IsBoolean = test (λ t. is_truth (truth_value t))
  answer pid b.IsPid = test is_pid
  answer pid b.IsList = test is_list
  answer pid b.IsTuple = test is_tuple
  answer pid b.TupleSize = of_one size_answer
  answer pid b.Same = comparison is_equal
  answer pid b.Equal = comparison is_equal
  answer pid b.NotSame = comparison (λ o. not (is_equal o))
  answer pid b.NotEqual = comparison (λ o. not (is_equal o))
  answer pid b.Less = comparison is_less
  answer pid b.Greater = comparison is_greater
  answer pid b.AtMost = comparison (λ o. not (is_greater o))
  answer pid b.AtLeast = comparison (λ o. not (is_less o))
  answer pid b.Element = of_two (λ t u. or_badarg (element t u))
  answer pid b.Hd = of_one (λ t. or_badarg (head_of t))
  answer pid b.Tl = of_one (λ t. or_badarg (tail_of t))
  answer pid b.Length = of_one (λ t. or_no_length (length_of t))
  answer pid b.SelfPid = of_none (Value (Pid pid))

-- what a name of the module 'erlang' stands for, where it is no function
pub data Operation : Type 0 where
  Plain : Bif → Operation
  SetsElement : Operation
  Sends : Operation
  Spawns : Operation
  Displays : Operation
  RaisesAs : Class → Operation

-- a name with its number of arguments
pub record Row : Type 0 where
  pub name : List ℕ
  pub arity : ℕ
  pub operation : Operation

abbrev pub row : List ℕ → ℕ → Operation → Row
row name arity operation = record { name = name; arity = arity; operation = operation }

-- all built-ins of the module 'erlang'
abbrev pub operations : List Row
operations =
    row (codes "+") 2 (Plain b.Add) ∷ row (codes "-") 2 (Plain b.Sub) ∷ row (codes "*") 2
    (Plain b.Mul) ∷ row (codes "-") 1 (Plain b.Neg)
    ∷ row (codes "div") 2 (Plain b.Div) ∷ row (codes "rem") 2 (Plain b.Rem)
    ∷ row (codes "band") 2 (Plain b.Band) ∷ row (codes "bor") 2 (Plain b.Bor)
    ∷ row (codes "bxor") 2 (Plain b.Bxor)
    ∷ row (codes "abs") 1 (Plain b.Abs)
    ∷ row (codes "and") 2 (Plain b.And) ∷ row (codes "or") 2 (Plain b.Or)
    ∷ row (codes "xor") 2 (Plain b.Xor) ∷ row (codes "not") 1 (Plain b.Not)
    ∷ row (codes "is_integer") 1 (Plain b.IsInteger) ∷ row (codes "is_number") 1 (Plain b.IsNumber)
    ∷ row (codes "is_atom") 1 (Plain b.IsAtom)
    ∷ row (codes "is_boolean") 1 (Plain b.IsBoolean) ∷ row (codes "is_pid") 1 (Plain b.IsPid)
    ∷ row (codes "is_list") 1 (Plain b.IsList) ∷ row (codes "is_tuple") 1 (Plain b.IsTuple)
    ∷ row (codes "tuple_size") 1 (Plain b.TupleSize)
    ∷ row (codes "=:=") 2 (Plain b.Same) ∷ row (codes "==") 2 (Plain b.Equal)
    ∷ row (codes "=/=") 2 (Plain b.NotSame) ∷ row (codes "/=") 2 (Plain b.NotEqual)
    ∷ row (codes "<") 2 (Plain b.Less) ∷ row (codes ">") 2 (Plain b.Greater)
    ∷ row (codes "=<") 2 (Plain b.AtMost) ∷ row (codes ">=") 2 (Plain b.AtLeast)
    ∷ row (codes "element") 2 (Plain b.Element) ∷ row (codes "hd") 1 (Plain b.Hd)
    ∷ row (codes "tl") 1 (Plain b.Tl) ∷ row (codes "length") 1 (Plain b.Length)
    ∷ row (codes "self") 0 (Plain b.SelfPid)
    ∷ row (codes "setelement") 3 SetsElement
    ∷ row (codes "!") 2 Sends ∷ row (codes "send") 2 Sends
    ∷ row (codes "spawn") 3 Spawns
    ∷ row (codes "display") 1 Displays
    ∷ row (codes "error") 1 (RaisesAs Error) ∷ row (codes "exit") 1 (RaisesAs Exit)
    ∷ row (codes "throw") 1 (RaisesAs Throw) ∷ []

abbrev pub operation_in : List Row → List ℕ → ℕ → Option Operation
operation_in [] name arity = None
operation_in (r ∷ rs) name arity = if bytes_eq r.name name && (r.arity == arity)
    then Some r.operation else operation_in rs name arity

-- the built-in of this name and number of arguments
abbrev pub operation_of : List ℕ → ℕ → Option Operation
operation_of = operation_in operations

-- the built-in that a call of this module and name with so many arguments is, where it is one
abbrev pub operation_named : List ℕ → List ℕ → ℕ → Option Operation
operation_named module_name name arity =
    if bytes_eq module_name (codes "erlang") then operation_of name arity else None
