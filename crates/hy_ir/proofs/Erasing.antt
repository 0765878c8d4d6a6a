-- The answers of built-ins on labelled terms are those on terms.
use Rattle.std.proofs.Common.{◌≡◌, ℕ, zero, suc, List, [], ◌∷◌, map, Option, Some, None, Bool, true}
use Rattle.std.proofs.Common.{false, ℤ, pos, negsuc, refl, ap, ◌∙◌}
use Rattle.std.specs.Prelude.{if◌then◌else◌, ◌==◌, int_div, int_rem, ◌+ℤ◌, ◌-ℤ◌, ◌*ℤ◌, neg_ℤ}
use Rattle.std.specs.Prelude.{unsigned_abs}
use Rattle.std.specs.Int.{int_bit_and, int_bit_or, int_bit_xor, w64}
use Rattle.std.specs.Option.{option_map}
use Rattle.std.specs.Ordering.{int_eq}
use Rattle.hy_terms.specs.Labelled.{Labelled, Int, Atom, Pid, Nil, Cons, Tuple, Labels, NoLabels}
use Rattle.hy_terms.specs.Labelled.{MoreLabels, erase, erase_each}
use Rattle.hy_terms.specs.Range.{is_in_range}
use Rattle.hy_terms.specs.Term as bare
use Rattle.hy_core.specs.declared.bif.Bif.{Bif}
use Rattle.hy_core.specs.declared.bif.Bif.TheVariants as b
use Rattle.hy_core.specs.declared.class.Class.{Class}
use Rattle.hy_core.specs.BuiltIn as built_in
use Rattle.hy_core.specs.Evaluation as evaluation
use Rattle.hy_ir.specs.LabelledBuiltIns.{Value, Raises, before, element}
use Rattle.hy_ir.specs.LabelledBuiltIns.{fail_reason}
use Rattle.hy_ir.specs.LabelledBuiltIns.{head_of, labelled_answer, list_of, of_one, of_two}
use Rattle.hy_ir.specs.LabelledBuiltIns.{or_badarg, part_at, scalar, scalar_answer, tail_of}
use Rattle.hy_ir.specs.LabelledBuiltIns.{with_element, with_part, with_scalar}
use Rattle.hy_ir.specs.LabelledLaws.{erase_answer, erase_parts}

-- answers without a cell

abbrev IsScalar : bare.Term → Type 0
IsScalar (bare.Cons head tail) = ⊥
IsScalar (bare.Tuple parts) = ⊥
IsScalar _ = Unit {0}

abbrev AnswersScalar : built_in.Answer → Type 0
AnswersScalar (built_in.Value t) = IsScalar t
AnswersScalar (built_in.Raises class reason) = IsScalar reason
AnswersScalar built_in.NoAnswer = Unit {0}

value_back : (t : bare.Term) → IsScalar t
    → erase_answer (with_scalar Value (scalar t)) ≡ built_in.Value t
value_back (bare.Int n) s = refl
value_back (bare.Atom atom) s = refl
value_back (bare.Pid pid) s = refl
value_back bare.Nil s = refl
value_back (bare.Cons head tail) s = absurd s
value_back (bare.Tuple parts) s = absurd s

raise_back : (class : Class) (t : bare.Term) → IsScalar t
    → erase_answer (with_scalar (Raises class) (scalar t)) ≡ built_in.Raises class t
raise_back class (bare.Int n) s = refl
raise_back class (bare.Atom atom) s = refl
raise_back class (bare.Pid pid) s = refl
raise_back class bare.Nil s = refl
raise_back class (bare.Cons head tail) s = absurd s
raise_back class (bare.Tuple parts) s = absurd s

answer_back : (a : built_in.Answer) → AnswersScalar a → erase_answer (scalar_answer a) ≡ a
answer_back (built_in.Value t) s = value_back t s
answer_back (built_in.Raises class reason) s = raise_back class reason s
answer_back built_in.NoAnswer s = refl

either : (yes : Bool) (x y : built_in.Answer) → AnswersScalar x → AnswersScalar y
    → AnswersScalar (if yes then x else y)
either true x y s t = s
either false x y s t = t

range_scalar : (n : ℤ) → AnswersScalar (built_in.in_range n)
range_scalar n = either (is_in_range n) (built_in.Value (bare.Int n)) built_in.system_limit tt tt

truth_scalar : (yes : Bool) → AnswersScalar (built_in.Value (built_in.truth yes))
truth_scalar true = tt
truth_scalar false = tt

number_scalar : (refusal : built_in.Answer) (f : ℤ → built_in.Answer) (o : Option ℤ)
    → AnswersScalar refusal → ((n : ℤ) → AnswersScalar (f n))
    → AnswersScalar (built_in.on_number refusal f o)
number_scalar refusal f None s each = s
number_scalar refusal f (Some n) s each = each n

numbers_scalar : (f : ℤ → ℤ → built_in.Answer) (o p : Option ℤ)
    → ((n m : ℤ) → AnswersScalar (f n m)) → AnswersScalar (built_in.on_numbers f o p)
numbers_scalar f (Some n) (Some m) each = each n m
numbers_scalar f (Some n) None each = tt
numbers_scalar f None p each = tt

truths_scalar : (f : Bool → Bool → Bool) (o p : Option Bool)
    → AnswersScalar (built_in.on_truths f o p)
truths_scalar f (Some v) (Some w) = truth_scalar (f v w)
truths_scalar f (Some v) None = tt
truths_scalar f None p = tt

not_scalar : (f : Bool → Bool) (o : Option Bool) → AnswersScalar (built_in.on_truth f o)
not_scalar f (Some v) = truth_scalar (f v)
not_scalar f None = tt

size_scalar : (t : bare.Term) → AnswersScalar (built_in.size_answer t)
size_scalar (bare.Int n) = tt
size_scalar (bare.Atom atom) = tt
size_scalar (bare.Pid pid) = tt
size_scalar bare.Nil = tt
size_scalar (bare.Cons head tail) = tt
size_scalar (bare.Tuple parts) = tt

length_scalar : (o : Option ℕ) → AnswersScalar (built_in.or_no_length o)
length_scalar None = tt
length_scalar (Some n) = tt

one_scalar : (f : bare.Term → built_in.Answer) (ts : List bare.Term)
    → ((t : bare.Term) → AnswersScalar (f t)) → AnswersScalar (built_in.of_one f ts)
one_scalar f [] each = tt
one_scalar f (t ∷ []) each = each t
one_scalar f (t ∷ u ∷ ts) each = tt

two_scalar : (f : bare.Term → bare.Term → built_in.Answer) (ts : List bare.Term)
    → ((t u : bare.Term) → AnswersScalar (f t u)) → AnswersScalar (built_in.of_two f ts)
two_scalar f [] each = tt
two_scalar f (t ∷ []) each = tt
two_scalar f (t ∷ u ∷ []) each = each t u
two_scalar f (t ∷ u ∷ v ∷ ts) each = tt

none_scalar : (a : built_in.Answer) (ts : List bare.Term) → AnswersScalar a
    → AnswersScalar (built_in.of_none a ts)
none_scalar a [] s = s
none_scalar a (t ∷ ts) s = tt

arithmetic_scalar : (f : ℤ → ℤ → built_in.Answer) (ts : List bare.Term)
    → ((n m : ℤ) → AnswersScalar (f n m)) → AnswersScalar (built_in.arithmetic f ts)
arithmetic_scalar f ts each =
    two_scalar (λ t u. built_in.on_numbers f (built_in.number t) (built_in.number u)) ts
    (λ t u. numbers_scalar f (built_in.number t) (built_in.number u) each)

ranged_scalar : (f : ℤ → ℤ → ℤ) (ts : List bare.Term)
    → AnswersScalar (built_in.arithmetic (λ n m. built_in.in_range (f n m)) ts)
ranged_scalar f ts =
    arithmetic_scalar (λ n m. built_in.in_range (f n m)) ts (λ n m. range_scalar (f n m))

single_scalar : (refusal : built_in.Answer) (f : ℤ → ℤ) (ts : List bare.Term)
    → AnswersScalar refusal
    → AnswersScalar
    (built_in.of_one
    (λ t. built_in.on_number refusal (λ n. built_in.in_range (f n)) (built_in.number t)) ts)
single_scalar refusal f ts s =
    one_scalar
    (λ t. built_in.on_number refusal (λ n. built_in.in_range (f n)) (built_in.number t)) ts
    (λ t. number_scalar refusal (λ n. built_in.in_range (f n)) (built_in.number t) s
    (λ n. range_scalar (f n)))

logic_scalar : (f : Bool → Bool → Bool) (ts : List bare.Term)
    → AnswersScalar (built_in.logic f ts)
logic_scalar f ts =
    two_scalar (λ t u. built_in.on_truths f (built_in.truth_value t) (built_in.truth_value u)) ts
    (λ t u. truths_scalar f (built_in.truth_value t) (built_in.truth_value u))

test_scalar : (f : bare.Term → Bool) (ts : List bare.Term) → AnswersScalar (built_in.test f ts)
test_scalar f ts =
    one_scalar (λ t. built_in.Value (built_in.truth (f t))) ts (λ t. truth_scalar (f t))

quotient_scalar : (n m : ℤ) → AnswersScalar (built_in.quotient n m)
quotient_scalar n m =
    either (int_eq m (pos 0)) built_in.badarith (built_in.in_range (int_div n m)) tt
    (range_scalar (int_div n m))

remainder_scalar : (n m : ℤ) → AnswersScalar (built_in.remainder n m)
remainder_scalar n m =
    either (int_eq m (pos 0)) built_in.badarith (built_in.in_range (int_rem n m)) tt
    (range_scalar (int_rem n m))

-- answers that are parts

or_badarg_erased : (o : Option Labelled)
    → erase_answer (or_badarg o) ≡ built_in.or_badarg (option_map erase o)
or_badarg_erased None = refl
or_badarg_erased (Some t) = refl

part_erased : (k : ℕ) (ts : Labels)
    → option_map erase (part_at k ts) ≡ built_in.part_at k (erase_each ts)
part_erased k NoLabels = refl
part_erased zero (MoreLabels t ts) = refl
part_erased (suc k) (MoreLabels t ts) = part_erased k ts

element_erased : (i t : Labelled)
    → option_map erase (element i t) ≡ built_in.element (erase i) (erase t)
element_erased (Int (pos (suc k))) (Tuple site colour ts) = part_erased k ts
element_erased (Int (pos (suc k))) (Int n) = refl
element_erased (Int (pos (suc k))) (Atom atom) = refl
element_erased (Int (pos (suc k))) (Pid pid) = refl
element_erased (Int (pos (suc k))) Nil = refl
element_erased (Int (pos (suc k))) (Cons site colour head tail) = refl
element_erased (Int (pos zero)) t = refl
element_erased (Int (negsuc n)) t = refl
element_erased (Atom atom) t = refl
element_erased (Pid pid) t = refl
element_erased Nil t = refl
element_erased (Cons site colour head tail) t = refl
element_erased (Tuple site colour ts) t = refl

head_erased : (t : Labelled) → option_map erase (head_of t) ≡ built_in.head_of (erase t)
head_erased (Cons site colour head tail) = refl
head_erased (Int n) = refl
head_erased (Atom atom) = refl
head_erased (Pid pid) = refl
head_erased Nil = refl
head_erased (Tuple site colour ts) = refl

tail_erased : (t : Labelled) → option_map erase (tail_of t) ≡ built_in.tail_of (erase t)
tail_erased (Cons site colour head tail) = refl
tail_erased (Int n) = refl
tail_erased (Atom atom) = refl
tail_erased (Pid pid) = refl
tail_erased Nil = refl
tail_erased (Tuple site colour ts) = refl

one_erased : (f : Labelled → Option Labelled) (g : bare.Term → Option bare.Term)
    → ((t : Labelled) → option_map erase (f t) ≡ g (erase t)) → (ts : List Labelled)
    → erase_answer (of_one (λ t. or_badarg (f t)) ts)
    ≡ built_in.of_one (λ t. built_in.or_badarg (g t)) (map erase ts)
one_erased f g each [] = refl
one_erased f g each (t ∷ []) = or_badarg_erased (f t) ∙ ap built_in.or_badarg (each t)
one_erased f g each (t ∷ u ∷ ts) = refl

elements_erased : (ts : List Labelled)
    → erase_answer (of_two (λ i t. or_badarg (element i t)) ts)
    ≡ built_in.of_two (λ i t. built_in.or_badarg (built_in.element i t)) (map erase ts)
elements_erased [] = refl
elements_erased (t ∷ []) = refl
elements_erased (i ∷ t ∷ []) =
    or_badarg_erased (element i t) ∙ ap built_in.or_badarg (element_erased i t)
elements_erased (i ∷ t ∷ u ∷ ts) = refl

pub answers_erased : (atoms : List (List ℕ)) (pid : ℕ) (bif : Bif) (ts : List Labelled)
    → erase_answer (labelled_answer atoms pid bif ts)
    ≡ built_in.answer atoms pid bif (map erase ts)
answers_erased atoms pid b.Add ts =
    answer_back (built_in.answer atoms pid b.Add (map erase ts))
    (ranged_scalar ◌+ℤ◌ (map erase ts))
answers_erased atoms pid b.Sub ts =
    answer_back (built_in.answer atoms pid b.Sub (map erase ts))
    (ranged_scalar ◌-ℤ◌ (map erase ts))
answers_erased atoms pid b.Mul ts =
    answer_back (built_in.answer atoms pid b.Mul (map erase ts))
    (ranged_scalar ◌*ℤ◌ (map erase ts))
answers_erased atoms pid b.Band ts =
    answer_back (built_in.answer atoms pid b.Band (map erase ts))
    (ranged_scalar (int_bit_and w64) (map erase ts))
answers_erased atoms pid b.Bor ts =
    answer_back (built_in.answer atoms pid b.Bor (map erase ts))
    (ranged_scalar (int_bit_or w64) (map erase ts))
answers_erased atoms pid b.Bxor ts =
    answer_back (built_in.answer atoms pid b.Bxor (map erase ts))
    (ranged_scalar (int_bit_xor w64) (map erase ts))
answers_erased atoms pid b.Div ts =
    answer_back (built_in.answer atoms pid b.Div (map erase ts))
    (arithmetic_scalar _ (map erase ts) quotient_scalar)
answers_erased atoms pid b.Rem ts =
    answer_back (built_in.answer atoms pid b.Rem (map erase ts))
    (arithmetic_scalar _ (map erase ts) remainder_scalar)
answers_erased atoms pid b.Neg ts =
    answer_back (built_in.answer atoms pid b.Neg (map erase ts))
    (single_scalar built_in.badarith neg_ℤ (map erase ts) tt)
answers_erased atoms pid b.Abs ts =
    answer_back (built_in.answer atoms pid b.Abs (map erase ts))
    (single_scalar built_in.badarg (λ n. pos (unsigned_abs n)) (map erase ts) tt)
answers_erased atoms pid b.And ts =
    answer_back (built_in.answer atoms pid b.And (map erase ts))
    (logic_scalar _ (map erase ts))
answers_erased atoms pid b.Or ts =
    answer_back (built_in.answer atoms pid b.Or (map erase ts))
    (logic_scalar _ (map erase ts))
answers_erased atoms pid b.Xor ts =
    answer_back (built_in.answer atoms pid b.Xor (map erase ts))
    (logic_scalar _ (map erase ts))
answers_erased atoms pid b.Not ts =
    answer_back (built_in.answer atoms pid b.Not (map erase ts))
    (one_scalar _ (map erase ts) (λ t. not_scalar _ (built_in.truth_value t)))
answers_erased atoms pid b.IsInteger ts =
    answer_back (built_in.answer atoms pid b.IsInteger (map erase ts))
    (test_scalar _ (map erase ts))
answers_erased atoms pid b.IsNumber ts =
    answer_back (built_in.answer atoms pid b.IsNumber (map erase ts))
    (test_scalar _ (map erase ts))
answers_erased atoms pid b.IsAtom ts =
    answer_back (built_in.answer atoms pid b.IsAtom (map erase ts))
    (test_scalar _ (map erase ts))
answers_erased atoms pid b.IsBoolean ts =
    answer_back (built_in.answer atoms pid b.IsBoolean (map erase ts))
    (test_scalar _ (map erase ts))
answers_erased atoms pid b.IsPid ts =
    answer_back (built_in.answer atoms pid b.IsPid (map erase ts))
    (test_scalar _ (map erase ts))
answers_erased atoms pid b.IsList ts =
    answer_back (built_in.answer atoms pid b.IsList (map erase ts))
    (test_scalar _ (map erase ts))
answers_erased atoms pid b.IsTuple ts =
    answer_back (built_in.answer atoms pid b.IsTuple (map erase ts))
    (test_scalar _ (map erase ts))
answers_erased atoms pid b.TupleSize ts =
    answer_back (built_in.answer atoms pid b.TupleSize (map erase ts))
    (one_scalar _ (map erase ts) size_scalar)
answers_erased atoms pid b.Same ts =
    answer_back (built_in.answer atoms pid b.Same (map erase ts))
    (two_scalar _ (map erase ts) (λ t u. truth_scalar _))
answers_erased atoms pid b.Equal ts =
    answer_back (built_in.answer atoms pid b.Equal (map erase ts))
    (two_scalar _ (map erase ts) (λ t u. truth_scalar _))
answers_erased atoms pid b.NotSame ts =
    answer_back (built_in.answer atoms pid b.NotSame (map erase ts))
    (two_scalar _ (map erase ts) (λ t u. truth_scalar _))
answers_erased atoms pid b.NotEqual ts =
    answer_back (built_in.answer atoms pid b.NotEqual (map erase ts))
    (two_scalar _ (map erase ts) (λ t u. truth_scalar _))
answers_erased atoms pid b.Less ts =
    answer_back (built_in.answer atoms pid b.Less (map erase ts))
    (two_scalar _ (map erase ts) (λ t u. truth_scalar _))
answers_erased atoms pid b.Greater ts =
    answer_back (built_in.answer atoms pid b.Greater (map erase ts))
    (two_scalar _ (map erase ts) (λ t u. truth_scalar _))
answers_erased atoms pid b.AtMost ts =
    answer_back (built_in.answer atoms pid b.AtMost (map erase ts))
    (two_scalar _ (map erase ts) (λ t u. truth_scalar _))
answers_erased atoms pid b.AtLeast ts =
    answer_back (built_in.answer atoms pid b.AtLeast (map erase ts))
    (two_scalar _ (map erase ts) (λ t u. truth_scalar _))
answers_erased atoms pid b.Length ts =
    answer_back (built_in.answer atoms pid b.Length (map erase ts))
    (one_scalar _ (map erase ts) (λ t. length_scalar (built_in.length_of t)))
answers_erased atoms pid b.SelfPid ts =
    answer_back (built_in.answer atoms pid b.SelfPid (map erase ts))
    (none_scalar _ (map erase ts) tt)
answers_erased atoms pid b.Element ts = elements_erased ts
answers_erased atoms pid b.Hd ts = one_erased head_of built_in.head_of head_erased ts
answers_erased atoms pid b.Tl ts = one_erased tail_of built_in.tail_of tail_erased ts

-- setelement and match_fail

abbrev erase_list : List Labelled → bare.Terms
erase_list ts = bare.terms_of (map erase ts)

list_erased : (ts : Labels) → erase_list (list_of ts) ≡ erase_each ts
list_erased NoLabels = refl
list_erased (MoreLabels t ts) = ap (bare.MoreTerms (erase t)) (list_erased ts)

before_erased : (t : Labelled) (o : Option (List Labelled))
    → option_map erase_list (before t o)
    ≡ built_in.before_terms (erase t) (option_map erase_list o)
before_erased t None = refl
before_erased t (Some ts) = refl

with_part_erased : (k : ℕ) (ts : Labels) (v : Labelled)
    → option_map erase_list (with_part k ts v) ≡ built_in.with_part k (erase_each ts) (erase v)
with_part_erased k NoLabels v = refl
with_part_erased zero (MoreLabels t ts) v =
    ap (λ (us : bare.Terms). Some (bare.MoreTerms (erase v) us)) (list_erased ts)
with_part_erased (suc k) (MoreLabels t ts) v =
    before_erased t (with_part k ts v)
    ∙ ap (built_in.before_terms (erase t)) (with_part_erased k ts v)

as_tuple : (o : Option (List Labelled))
    → option_map erase_parts o
    ≡ built_in.option_terms bare.Tuple (option_map erase_list o)
as_tuple None = refl
as_tuple (Some ts) = refl

pub setelement_erased : (i t v : Labelled)
    → option_map erase_parts (with_element i t v)
    ≡ built_in.with_element (erase i) (erase t) (erase v)
setelement_erased (Int (pos (suc k))) (Tuple site colour ts) v =
    as_tuple (with_part k ts v)
    ∙ ap (built_in.option_terms bare.Tuple) (with_part_erased k ts v)
setelement_erased (Int (pos (suc k))) (Int n) v = refl
setelement_erased (Int (pos (suc k))) (Atom atom) v = refl
setelement_erased (Int (pos (suc k))) (Pid pid) v = refl
setelement_erased (Int (pos (suc k))) Nil v = refl
setelement_erased (Int (pos (suc k))) (Cons site colour head tail) v = refl
setelement_erased (Int (pos zero)) t v = refl
setelement_erased (Int (negsuc n)) t v = refl
setelement_erased (Atom atom) t v = refl
setelement_erased (Pid pid) t v = refl
setelement_erased Nil t v = refl
setelement_erased (Cons site colour head tail) t v = refl
setelement_erased (Tuple site colour ts) t v = refl

reason_erased : (yes : Bool) (x y : Labelled)
    → erase (if yes then x else y) ≡ (if yes then erase x else erase y)
reason_erased true x y = refl
reason_erased false x y = refl

pub fail_erased : (t : Labelled) → erase (fail_reason t) ≡ evaluation.fail_reason (erase t)
fail_erased (Tuple site colour (MoreLabels (Atom atom) ts)) = reason_erased (atom == 6) _ _
fail_erased (Tuple site colour (MoreLabels (Int n) ts)) = refl
fail_erased (Tuple site colour (MoreLabels (Pid n) ts)) = refl
fail_erased (Tuple site colour (MoreLabels Nil ts)) = refl
fail_erased (Tuple site colour (MoreLabels (Cons s x h t) ts)) = refl
fail_erased (Tuple site colour (MoreLabels (Tuple s x us) ts)) = refl
fail_erased (Tuple site colour NoLabels) = refl
fail_erased (Int n) = refl
fail_erased (Atom atom) = refl
fail_erased (Pid pid) = refl
fail_erased Nil = refl
fail_erased (Cons site colour head tail) = refl
