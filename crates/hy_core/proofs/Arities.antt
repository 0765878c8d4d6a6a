-- Built-ins have an answer for as many arguments as they take.
use Rattle.std.proofs.Common.{◌≡◌, ◌↔◌, ◌==◌, ◌&&◌, ◌||◌, ℕ, ℤ, pos, ◌+ℤ◌, ◌-ℤ◌, ◌*ℤ◌, neg_ℤ, unsigned_abs, int_le, int_div, int_rem, Bool, true, false, not, if◌then◌else◌, List, [], ◌∷◌, length, Option, Some, None, refl, sym, ap, ◌∙◌, arith}
use Rattle.std.proofs.lemmas.Bool.Decides.{Decides-eqb}
use Rattle.std.specs.Int.{int_bit_and, int_bit_or, int_bit_xor, w64}
use Rattle.std.specs.Ordering.{int_eq}
use Rattle.std.specs.Str.{bytes_eq}
use Rattle.hy_terms.specs.Range.{least_number, greatest_number}
use Rattle.hy_terms.specs.Term.{Term, Int, Pid, Tuple}
use Rattle.hy_terms.specs.TermOrder.{compare}
use Rattle.hy_core.specs.declared.bif.Bif.{Bif}
use Rattle.hy_core.specs.declared.bif.Bif.TheVariants as b
use Rattle.hy_core.specs.ArgumentLaws.{AnswersItsArguments}
use Rattle.hy_core.specs.BuiltIn.{Answer, Value, NoAnswer, truth, in_range, system_limit, badarith, badarg, on_number, on_numbers, quotient, remainder, on_truths, on_truth, or_badarg, element, head_of, tail_of, length_of, or_no_length, size_answer, of_none, of_one, of_two, number, truth_value, is_number, is_atom, is_truth, is_pid, is_list, is_tuple, exclusive_or, is_less, is_equal, is_greater, answer, Operation, Plain, SetsElement, Sends, Spawns, Displays, RaisesAs, Row, operations, operation_in, operation_of}

-- answers

abbrev Answers : Answer → Type 0
Answers a = a ≡ NoAnswer → ⊥

either_answers : (v : Bool) (a c : Answer) → Answers a → Answers c → Answers (if v then a else c)
either_answers true a c h k = h
either_answers false a c h k = k

in_range_answers : (n : ℤ) → Answers (in_range n)
in_range_answers n = either_answers (int_le least_number n && int_le n greatest_number) (Value (Int n)) system_limit (λ e. cc) (λ e. cc)

number_answers : (refusal : Answer) (f : ℤ → Answer) (o : Option ℤ) → Answers refusal → ((n : ℤ) → Answers (f n)) → Answers (on_number refusal f o)
number_answers refusal f None r h = r
number_answers refusal f (Some n) r h = h n

numbers_answer : (f : ℤ → ℤ → Answer) (o p : Option ℤ) → ((n m : ℤ) → Answers (f n m)) → Answers (on_numbers f o p)
numbers_answer f (Some n) (Some m) h = h n m
numbers_answer f (Some n) None h = λ e. cc
numbers_answer f None p h = λ e. cc

truths_answer : (f : Bool → Bool → Bool) (o p : Option Bool) → Answers (on_truths f o p)
truths_answer f (Some v) (Some w) = λ e. cc
truths_answer f (Some v) None = λ e. cc
truths_answer f None p = λ e. cc

truth_answers : (f : Bool → Bool) (o : Option Bool) → Answers (on_truth f o)
truth_answers f (Some v) = λ e. cc
truth_answers f None = λ e. cc

part_answers : (o : Option Term) → Answers (or_badarg o)
part_answers None = λ e. cc
part_answers (Some t) = λ e. cc

length_answers : (o : Option ℕ) → Answers (or_no_length o)
length_answers None = λ e. cc
length_answers (Some n) = λ e. cc

size_answers : (t : Term) → Answers (size_answer t)
size_answers (Tuple ts) = λ e. cc
size_answers t = λ e. cc

-- numbers of arguments

abbrev Takes : ℕ → (List Term → Answer) → Type 0
Takes n f = (ts : List Term) → (f ts ≡ NoAnswer) ↔ (length ts ≡ n → ⊥)

takes_none : (a : Answer) → Answers a → Takes 0 (of_none a)
takes_none a h [] = (λ e. absurd (h e), λ n. absurd (n refl))
takes_none a h (t ∷ ts) = (λ e l. omega (arith, l), λ n. refl)

takes_one : (f : Term → Answer) → ((t : Term) → Answers (f t)) → Takes 1 (of_one f)
takes_one f h [] = (λ e l. omega (arith, l), λ n. refl)
takes_one f h (t ∷ []) = (λ e. absurd (h t e), λ n. absurd (n refl))
takes_one f h (t ∷ u ∷ ts) = (λ e l. omega (arith, l), λ n. refl)

takes_two : (f : Term → Term → Answer) → ((t u : Term) → Answers (f t u)) → Takes 2 (of_two f)
takes_two f h [] = (λ e l. omega (arith, l), λ n. refl)
takes_two f h (t ∷ []) = (λ e l. omega (arith, l), λ n. refl)
takes_two f h (t ∷ u ∷ []) = (λ e. absurd (h t u e), λ n. absurd (n refl))
takes_two f h (t ∷ u ∷ v ∷ ts) = (λ e l. omega (arith, l), λ n. refl)

takes_test : (f : Term → Bool) → Takes 1 (of_one (λ t. Value (truth (f t))))
takes_test f = takes_one (λ t. Value (truth (f t))) (λ t e. cc)

takes_numbers : (f : ℤ → ℤ → Answer) → ((n m : ℤ) → Answers (f n m)) → Takes 2 (of_two (λ t u. on_numbers f (number t) (number u)))
takes_numbers f h = takes_two (λ t u. on_numbers f (number t) (number u)) (λ t u. numbers_answer f (number t) (number u) h)

takes_ranged : (g : ℤ → ℤ → ℤ) → Takes 2 (of_two (λ t u. on_numbers (λ n m. in_range (g n m)) (number t) (number u)))
takes_ranged g = takes_numbers (λ n m. in_range (g n m)) (λ n m. in_range_answers (g n m))

takes_truths : (f : Bool → Bool → Bool) → Takes 2 (of_two (λ t u. on_truths f (truth_value t) (truth_value u)))
takes_truths f = takes_two (λ t u. on_truths f (truth_value t) (truth_value u)) (λ t u. truths_answer f (truth_value t) (truth_value u))

takes_compared : (f : Term → Term → Bool) → Takes 2 (of_two (λ t u. Value (truth (f t u))))
takes_compared f = takes_two (λ t u. Value (truth (f t u))) (λ t u e. cc)

abbrev arity_of : Bif → ℕ
arity_of b.Add = 2
arity_of b.Sub = 2
arity_of b.Mul = 2
arity_of b.Neg = 1
arity_of b.Div = 2
arity_of b.Rem = 2
arity_of b.Band = 2
arity_of b.Bor = 2
arity_of b.Bxor = 2
arity_of b.Abs = 1
arity_of b.And = 2
arity_of b.Or = 2
arity_of b.Xor = 2
arity_of b.Not = 1
arity_of b.IsInteger = 1
arity_of b.IsNumber = 1
arity_of b.IsAtom = 1
arity_of b.IsBoolean = 1
arity_of b.IsPid = 1
arity_of b.IsList = 1
arity_of b.IsTuple = 1
arity_of b.TupleSize = 1
arity_of b.Same = 2
arity_of b.Equal = 2
arity_of b.NotSame = 2
arity_of b.NotEqual = 2
arity_of b.Less = 2
arity_of b.Greater = 2
arity_of b.AtMost = 2
arity_of b.AtLeast = 2
arity_of b.Element = 2
arity_of b.Hd = 1
arity_of b.Tl = 1
arity_of b.Length = 1
arity_of b.SelfPid = 0

takes : (atoms : List (List ℕ)) (pid : ℕ) (f : Bif) → Takes (arity_of f) (answer atoms pid f)
takes atoms pid b.Add = takes_ranged (λ n m. n +ℤ m)
takes atoms pid b.Sub = takes_ranged (λ n m. n -ℤ m)
takes atoms pid b.Mul = takes_ranged (λ n m. n *ℤ m)
takes atoms pid b.Neg = takes_one (λ t. on_number badarith (λ n. in_range (neg_ℤ n)) (number t)) (λ t. number_answers badarith (λ n. in_range (neg_ℤ n)) (number t) (λ e. cc) (λ n. in_range_answers (neg_ℤ n)))
takes atoms pid b.Div = takes_numbers quotient (λ n m. either_answers (int_eq m (pos 0)) badarith (in_range (int_div n m)) (λ e. cc) (in_range_answers (int_div n m)))
takes atoms pid b.Rem = takes_numbers remainder (λ n m. either_answers (int_eq m (pos 0)) badarith (in_range (int_rem n m)) (λ e. cc) (in_range_answers (int_rem n m)))
takes atoms pid b.Band = takes_ranged (int_bit_and w64)
takes atoms pid b.Bor = takes_ranged (int_bit_or w64)
takes atoms pid b.Bxor = takes_ranged (int_bit_xor w64)
takes atoms pid b.Abs = takes_one (λ t. on_number badarg (λ n. in_range (pos (unsigned_abs n))) (number t)) (λ t. number_answers badarg (λ n. in_range (pos (unsigned_abs n))) (number t) (λ e. cc) (λ n. in_range_answers (pos (unsigned_abs n))))
takes atoms pid b.And = takes_truths ◌&&◌
takes atoms pid b.Or = takes_truths ◌||◌
takes atoms pid b.Xor = takes_truths exclusive_or
takes atoms pid b.Not = takes_one (λ t. on_truth not (truth_value t)) (λ t. truth_answers not (truth_value t))
takes atoms pid b.IsInteger = takes_test is_number
takes atoms pid b.IsNumber = takes_test is_number
takes atoms pid b.IsAtom = takes_test is_atom
takes atoms pid b.IsBoolean = takes_test (λ t. is_truth (truth_value t))
takes atoms pid b.IsPid = takes_test is_pid
takes atoms pid b.IsList = takes_test is_list
takes atoms pid b.IsTuple = takes_test is_tuple
takes atoms pid b.TupleSize = takes_one size_answer size_answers
takes atoms pid b.Same = takes_compared (λ t u. is_equal (compare atoms t u))
takes atoms pid b.Equal = takes_compared (λ t u. is_equal (compare atoms t u))
takes atoms pid b.NotSame = takes_compared (λ t u. not (is_equal (compare atoms t u)))
takes atoms pid b.NotEqual = takes_compared (λ t u. not (is_equal (compare atoms t u)))
takes atoms pid b.Less = takes_compared (λ t u. is_less (compare atoms t u))
takes atoms pid b.Greater = takes_compared (λ t u. is_greater (compare atoms t u))
takes atoms pid b.AtMost = takes_compared (λ t u. not (is_greater (compare atoms t u)))
takes atoms pid b.AtLeast = takes_compared (λ t u. not (is_less (compare atoms t u)))
takes atoms pid b.Element = takes_two (λ t u. or_badarg (element t u)) (λ t u. part_answers (element t u))
takes atoms pid b.Hd = takes_one (λ t. or_badarg (head_of t)) (λ t. part_answers (head_of t))
takes atoms pid b.Tl = takes_one (λ t. or_badarg (tail_of t)) (λ t. part_answers (tail_of t))
takes atoms pid b.Length = takes_one (λ t. or_no_length (length_of t)) (λ t. length_answers (length_of t))
takes atoms pid b.SelfPid = takes_none (Value (Pid pid)) (λ e. cc)

-- how many arguments an operation takes
abbrev pub arguments_of : Operation → ℕ
arguments_of (Plain f) = arity_of f
arguments_of SetsElement = 3
arguments_of Sends = 2
arguments_of Spawns = 3
arguments_of Displays = 1
arguments_of (RaisesAs class) = 1

-- each row's number of arguments is that of its operation

abbrev all_fit : List Row → Bool
all_fit [] = true
all_fit (r ∷ rs) = if r.arity == arguments_of r.operation then all_fit rs else false

both_true : (v w : Bool) → (if v then w else false) ≡ true → (v ≡ true) × (w ≡ true)
both_true true w h = (refl, h)
both_true false w h = absurd cc

and_true : (v w : Bool) → (v && w) ≡ true → (v ≡ true) × (w ≡ true)
and_true true w h = (refl, h)
and_true false w h = absurd cc

fits : (n m : ℕ) (o p : Operation) → (n == m) ≡ true → (n == arguments_of o) ≡ true → o ≡ p → m ≡ arguments_of p
fits n m o p e h is =
    let fit : (n == arguments_of p) ≡ true = ap (λ q. n == arguments_of q) (sym is) ∙ h in
    sym ((Decides-eqb n m).0 e) ∙ (Decides-eqb n (arguments_of p)).0 fit

by_row : (v : Bool) (o p : Operation) (rest : Option Operation) (P : Type 0) → (v ≡ true → o ≡ p → P) → (rest ≡ Some p → P) → (if v then Some o else rest) ≡ Some p → P
by_row true o p rest P h k e = let same : o ≡ p = cc in h refl same
by_row false o p rest P h k e = k e

arity_is : (rs : List Row) (name : List ℕ) (n : ℕ) (o : Operation) → all_fit rs ≡ true → operation_in rs name n ≡ Some o → n ≡ arguments_of o
arity_is [] name n o h e = absurd cc
arity_is (r ∷ rs) name n o h e =
    let both = both_true (r.arity == arguments_of r.operation) (all_fit rs) h in
    by_row (bytes_eq r.name name && (r.arity == n)) r.operation o (operation_in rs name n) (n ≡ arguments_of o)
    (λ v is. fits r.arity n r.operation o (and_true (bytes_eq r.name name) (r.arity == n) v).1 both.0 is) (λ k. arity_is rs name n o both.1 k) e

-- a call that names an operation has as many arguments as it takes
pub operation_arity : (name : List ℕ) (n : ℕ) (o : Operation) → operation_of name n ≡ Some o → n ≡ arguments_of o
operation_arity name n o e = arity_is operations name n o refl e

pub answers_its_arguments : (atoms : List (List ℕ)) (pid : ℕ) → AnswersItsArguments atoms pid
answers_its_arguments atoms pid name arity f h ts =
    let n = operation_arity name arity (Plain f) h in
    let t = takes atoms pid f ts in
    (λ e l. t.0 e (l ∙ n), λ k. t.1 (λ l. k (l ∙ sym n)))
