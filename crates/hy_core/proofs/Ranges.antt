-- Built-ins keep to the range of numbers.
use Rattle.std.proofs.Common.{◌≡◌, ◌&&◌, ◌||◌, ℕ, zero, suc, ℤ, pos, ◌+ℤ◌, ◌-ℤ◌, ◌*ℤ◌, neg_ℤ, unsigned_abs, ◌≤ℤ◌, int_le, int_div, int_rem, Bool, true, false, not, if◌then◌else◌, List, [], ◌∷◌, Option, Some, None, refl, sym, ap, subst, arith}
use Rattle.std.proofs.lemmas.Int.{ints}
use Rattle.std.specs.Int.{int_bit_and, int_bit_or, int_bit_xor, w64}
use Rattle.std.specs.Ordering.{int_eq}
use Rattle.hy_terms.specs.Range.{least_number, greatest_number, IsNumber, IsTerm, AreTerms}
use Rattle.hy_terms.specs.Term.{Term, Int, Atom, Pid, Cons, Tuple, Terms, NoTerms, MoreTerms, terms_of, size_of}
use Rattle.hy_terms.specs.TermOrder.{compare}
use Rattle.hy_core.specs.declared.bif.Bif.{Bif}
use Rattle.hy_core.specs.declared.bif.Bif.TheVariants as b
use Rattle.hy_core.specs.BuiltIn.{Answer, Value, truth, in_range, system_limit, on_number, on_numbers, quotient, remainder, on_truths, on_truth, or_badarg, part_at, with_part, before_terms, option_terms, element, with_element, head_of, tail_of, length_of, or_no_length, size_answer, of_none, of_one, of_two, badarith, badarg, number, truth_value, is_number, is_atom, is_truth, is_pid, is_list, is_tuple, exclusive_or, is_less, is_equal, is_greater, answer}
use Rattle.hy_core.specs.RangeLaws.{IsCounted, KeepToRange}

value_same : (t u : Term) → Value t ≡ Value u → t ≡ u
value_same t u h = cc

some_same : (t u : Term) → Some t ≡ Some u → t ≡ u
some_same t u h = cc

-- what is given

kept : (t u : Term) → IsTerm t → Value t ≡ Value u → IsTerm u
kept t u h e = subst IsTerm (value_same t u e) h

truth_kept : (v : Bool) (u : Term) → Value (truth v) ≡ Value u → IsTerm u
truth_kept true u e = kept (Atom 0) u tt e
truth_kept false u e = kept (Atom 1) u tt e

least_le : (n : ℤ) → int_le least_number n ≡ true → least_number ≤ℤ n
least_le n h = grind (arith, ints)

le_greatest : (n : ℤ) → int_le n greatest_number ≡ true → n ≤ℤ greatest_number
le_greatest n h = grind (arith, ints)

in_range_kept : (n : ℤ) (u : Term) → in_range n ≡ Value u → IsTerm u
in_range_kept n u e = by (int_le least_number n) (int_le n greatest_number) refl refl e
  where
    by : (a c : Bool) → int_le least_number n ≡ a → int_le n greatest_number ≡ c → (if a && c then Value (Int n) else system_limit) ≡ Value u → IsTerm u
    by true true p q h = kept (Int n) u (least_le n p, le_greatest n q) h
    by true false p q h = absurd cc
    by false c p q h = absurd cc

number_kept : (refusal : Answer) (f : ℤ → Answer) (o : Option ℤ) (u : Term) → ((u : Term) → refusal ≡ Value u → ⊥) → ((n : ℤ) (u : Term) → f n ≡ Value u → IsTerm u) → on_number refusal f o ≡ Value u → IsTerm u
number_kept refusal f None u r h e = absurd (r u e)
number_kept refusal f (Some n) u r h e = h n u e

numbers_kept : (f : ℤ → ℤ → Answer) (o p : Option ℤ) (u : Term) → ((n m : ℤ) (u : Term) → f n m ≡ Value u → IsTerm u) → on_numbers f o p ≡ Value u → IsTerm u
numbers_kept f (Some n) (Some m) u h e = h n m u e
numbers_kept f (Some n) None u h e = absurd cc
numbers_kept f None p u h e = absurd cc

not_zero_kept : (v : Bool) (n : ℤ) (u : Term) → (if v then badarith else in_range n) ≡ Value u → IsTerm u
not_zero_kept true n u e = absurd cc
not_zero_kept false n u e = in_range_kept n u e

truths_kept : (f : Bool → Bool → Bool) (o p : Option Bool) (u : Term) → on_truths f o p ≡ Value u → IsTerm u
truths_kept f (Some v) (Some w) u e = truth_kept (f v w) u e
truths_kept f (Some v) None u e = absurd cc
truths_kept f None p u e = absurd cc

one_truth_kept : (f : Bool → Bool) (o : Option Bool) (u : Term) → on_truth f o ≡ Value u → IsTerm u
one_truth_kept f (Some v) u e = truth_kept (f v) u e
one_truth_kept f None u e = absurd cc

-- parts

part_kept : (k : ℕ) (ts : Terms) (u : Term) → AreTerms ts → part_at k ts ≡ Some u → IsTerm u
part_kept k NoTerms u h e = absurd cc
part_kept zero (MoreTerms t ts) u h e = subst IsTerm (some_same t u e) h.0
part_kept (suc k) (MoreTerms t ts) u h e = part_kept k ts u h.1 e

element_kept : (i t u : Term) → IsTerm t → element i t ≡ Some u → IsTerm u
element_kept (Int (pos (suc k))) (Tuple ts) u h e = part_kept k ts u h e
element_kept i t u h e = absurd cc

or_badarg_is : (o : Option Term) (u : Term) → or_badarg o ≡ Value u → o ≡ Some u
or_badarg_is None u e = absurd cc
or_badarg_is (Some t) u e = ap Some (value_same t u e)

head_kept : (t u : Term) → IsTerm t → head_of t ≡ Some u → IsTerm u
head_kept (Cons h t) u k e = subst IsTerm (some_same h u e) k.0
head_kept t u k e = absurd cc

tail_kept : (t u : Term) → IsTerm t → tail_of t ≡ Some u → IsTerm u
tail_kept (Cons h t) u k e = subst IsTerm (some_same t u e) k.1
tail_kept t u k e = absurd cc

length_kept : (o : Option ℕ) (u : Term) → ((n : ℕ) → o ≡ Some n → IsNumber (pos n)) → or_no_length o ≡ Value u → IsTerm u
length_kept None u h e = absurd cc
length_kept (Some n) u h e = kept (Int (pos n)) u (h n refl) e

size_kept : (t u : Term) → IsCounted b.TupleSize (t ∷ []) → size_answer t ≡ Value u → IsTerm u
size_kept (Tuple ts) u h e = kept (Int (pos (size_of ts))) u h e
size_kept t u h e = absurd cc

-- arguments

one_kept : (f : Term → Answer) (ts : List Term) (u : Term) → ((t : Term) → ts ≡ t ∷ [] → f t ≡ Value u → IsTerm u) → of_one f ts ≡ Value u → IsTerm u
one_kept f (t ∷ []) u h e = h t refl e
one_kept f [] u h e = absurd cc
one_kept f (t ∷ v ∷ ts) u h e = absurd cc

two_kept : (f : Term → Term → Answer) (ts : List Term) (u : Term) → AreTerms (terms_of ts) → ((t v : Term) → IsTerm t → IsTerm v → f t v ≡ Value u → IsTerm u) → of_two f ts ≡ Value u → IsTerm u
two_kept f (t ∷ v ∷ []) u k h e = h t v k.0 k.1.0 e
two_kept f [] u k h e = absurd cc
two_kept f (t ∷ []) u k h e = absurd cc
two_kept f (t ∷ v ∷ w ∷ ts) u k h e = absurd cc

none_kept : (pid : ℕ) (ts : List Term) (u : Term) → of_none (Value (Pid pid)) ts ≡ Value u → IsTerm u
none_kept pid [] u e = kept (Pid pid) u tt e
none_kept pid (t ∷ ts) u e = absurd cc

test_kept : (f : Term → Bool) (ts : List Term) (u : Term) → of_one (λ t. Value (truth (f t))) ts ≡ Value u → IsTerm u
test_kept f ts u e = one_kept (λ t. Value (truth (f t))) ts u (λ t s h. truth_kept (f t) u h) e

arithmetic_kept : (f : ℤ → ℤ → Answer) (ts : List Term) (u : Term) → AreTerms (terms_of ts) → ((n m : ℤ) (u : Term) → f n m ≡ Value u → IsTerm u) → of_two (λ t v. on_numbers f (number t) (number v)) ts ≡ Value u → IsTerm u
arithmetic_kept f ts u k h e = two_kept (λ t v. on_numbers f (number t) (number v)) ts u k (λ t v p q. numbers_kept f (number t) (number v) u h) e

ranged_kept : (g : ℤ → ℤ → ℤ) (ts : List Term) (u : Term) → AreTerms (terms_of ts) → of_two (λ t v. on_numbers (λ n m. in_range (g n m)) (number t) (number v)) ts ≡ Value u → IsTerm u
ranged_kept g ts u k e = arithmetic_kept (λ n m. in_range (g n m)) ts u k (λ n m v h. in_range_kept (g n m) v h) e

one_ranged_kept : (refusal : Answer) (g : ℤ → ℤ) (ts : List Term) (u : Term) → ((v : Term) → refusal ≡ Value v → ⊥) → of_one (λ t. on_number refusal (λ n. in_range (g n)) (number t)) ts ≡ Value u → IsTerm u
one_ranged_kept refusal g ts u r e =
    one_kept (λ t. on_number refusal (λ n. in_range (g n)) (number t)) ts u (λ t s h. number_kept refusal (λ n. in_range (g n)) (number t) u r (λ n v i. in_range_kept (g n) v i) h) e

logic_kept : (f : Bool → Bool → Bool) (ts : List Term) (u : Term) → AreTerms (terms_of ts) → of_two (λ t v. on_truths f (truth_value t) (truth_value v)) ts ≡ Value u → IsTerm u
logic_kept f ts u k e = two_kept (λ t v. on_truths f (truth_value t) (truth_value v)) ts u k (λ t v p q. truths_kept f (truth_value t) (truth_value v) u) e

comparison_kept : (f : Term → Term → Bool) (ts : List Term) (u : Term) → AreTerms (terms_of ts) → of_two (λ t v. Value (truth (f t v))) ts ≡ Value u → IsTerm u
comparison_kept f ts u k e = two_kept (λ t v. Value (truth (f t v))) ts u k (λ t v p q. truth_kept (f t v) u) e

lone : (ts : List Term) (t : Term) → ts ≡ t ∷ [] → AreTerms (terms_of ts) → IsTerm t
lone ts t s k = (subst (λ us. AreTerms (terms_of us)) s k).0

plain_kept : (atoms : List (List ℕ)) (pid : ℕ) (f : Bif) (ts : List Term) (t : Term) → AreTerms (terms_of ts) → IsCounted f ts → answer atoms pid f ts ≡ Value t → IsTerm t
plain_kept atoms pid b.Add ts t k c e = ranged_kept (λ n m. n +ℤ m) ts t k e
plain_kept atoms pid b.Sub ts t k c e = ranged_kept (λ n m. n -ℤ m) ts t k e
plain_kept atoms pid b.Mul ts t k c e = ranged_kept (λ n m. n *ℤ m) ts t k e
plain_kept atoms pid b.Neg ts t k c e = one_ranged_kept badarith (λ n. neg_ℤ n) ts t (λ u r. cc) e
plain_kept atoms pid b.Div ts t k c e = arithmetic_kept quotient ts t k (λ n m u h. not_zero_kept (int_eq m (pos 0)) (int_div n m) u h) e
plain_kept atoms pid b.Rem ts t k c e = arithmetic_kept remainder ts t k (λ n m u h. not_zero_kept (int_eq m (pos 0)) (int_rem n m) u h) e
plain_kept atoms pid b.Band ts t k c e = ranged_kept (int_bit_and w64) ts t k e
plain_kept atoms pid b.Bor ts t k c e = ranged_kept (int_bit_or w64) ts t k e
plain_kept atoms pid b.Bxor ts t k c e = ranged_kept (int_bit_xor w64) ts t k e
plain_kept atoms pid b.Abs ts t k c e = one_ranged_kept badarg (λ n. pos (unsigned_abs n)) ts t (λ u r. cc) e
plain_kept atoms pid b.And ts t k c e = logic_kept ◌&&◌ ts t k e
plain_kept atoms pid b.Or ts t k c e = logic_kept ◌||◌ ts t k e
plain_kept atoms pid b.Xor ts t k c e = logic_kept exclusive_or ts t k e
plain_kept atoms pid b.Not ts t k c e = one_kept (λ v. on_truth not (truth_value v)) ts t (λ v s h. one_truth_kept not (truth_value v) t h) e
plain_kept atoms pid b.IsInteger ts t k c e = test_kept is_number ts t e
plain_kept atoms pid b.IsNumber ts t k c e = test_kept is_number ts t e
plain_kept atoms pid b.IsAtom ts t k c e = test_kept is_atom ts t e
plain_kept atoms pid b.IsBoolean ts t k c e = test_kept (λ v. is_truth (truth_value v)) ts t e
plain_kept atoms pid b.IsPid ts t k c e = test_kept is_pid ts t e
plain_kept atoms pid b.IsList ts t k c e = test_kept is_list ts t e
plain_kept atoms pid b.IsTuple ts t k c e = test_kept is_tuple ts t e
plain_kept atoms pid b.TupleSize ts t k c e = one_kept size_answer ts t (λ v s h. size_kept v t (subst (IsCounted b.TupleSize) s c) h) e
plain_kept atoms pid b.Same ts t k c e = comparison_kept (λ v w. is_equal (compare atoms v w)) ts t k e
plain_kept atoms pid b.Equal ts t k c e = comparison_kept (λ v w. is_equal (compare atoms v w)) ts t k e
plain_kept atoms pid b.NotSame ts t k c e = comparison_kept (λ v w. not (is_equal (compare atoms v w))) ts t k e
plain_kept atoms pid b.NotEqual ts t k c e = comparison_kept (λ v w. not (is_equal (compare atoms v w))) ts t k e
plain_kept atoms pid b.Less ts t k c e = comparison_kept (λ v w. is_less (compare atoms v w)) ts t k e
plain_kept atoms pid b.Greater ts t k c e = comparison_kept (λ v w. is_greater (compare atoms v w)) ts t k e
plain_kept atoms pid b.AtMost ts t k c e = comparison_kept (λ v w. not (is_greater (compare atoms v w))) ts t k e
plain_kept atoms pid b.AtLeast ts t k c e = comparison_kept (λ v w. not (is_less (compare atoms v w))) ts t k e
plain_kept atoms pid b.Element ts t k c e = two_kept (λ i v. or_badarg (element i v)) ts t k (λ i v p q h. element_kept i v t q (or_badarg_is (element i v) t h)) e
plain_kept atoms pid b.Hd ts t k c e = one_kept (λ v. or_badarg (head_of v)) ts t (λ v s h. head_kept v t (lone ts v s k) (or_badarg_is (head_of v) t h)) e
plain_kept atoms pid b.Tl ts t k c e = one_kept (λ v. or_badarg (tail_of v)) ts t (λ v s h. tail_kept v t (lone ts v s k) (or_badarg_is (tail_of v) t h)) e
plain_kept atoms pid b.Length ts t k c e = one_kept (λ v. or_no_length (length_of v)) ts t (λ v s h. length_kept (length_of v) t (subst (IsCounted b.Length) s c) h) e
plain_kept atoms pid b.SelfPid ts t k c e = none_kept pid ts t e

-- setelement

before_is : (t : Term) (o : Option Terms) (us : Terms) → before_terms t o ≡ Some us → (vs : Terms) × (o ≡ Some vs) × (us ≡ MoreTerms t vs)
before_is t None us e = absurd cc
before_is t (Some vs) us e = (vs, refl, cc)

changed_kept : (k : ℕ) (ts : Terms) (v : Term) (us : Terms) → AreTerms ts → IsTerm v → with_part k ts v ≡ Some us → AreTerms us
changed_kept k NoTerms v us h g e = absurd cc
changed_kept zero (MoreTerms t ts) v us h g e = let same : MoreTerms v ts ≡ us = cc in subst AreTerms same (g, h.1)
changed_kept (suc k) (MoreTerms t ts) v us h g e =
    let later = before_is t (with_part k ts v) us e in
    subst AreTerms (sym later.2) (h.0, changed_kept k ts v later.0 h.1 g later.1)

tuple_kept : (o : Option Terms) (u : Term) → ((us : Terms) → o ≡ Some us → AreTerms us) → option_terms Tuple o ≡ Some u → IsTerm u
tuple_kept None u h e = absurd cc
tuple_kept (Some us) u h e = subst IsTerm (some_same (Tuple us) u e) (h us refl)

setelement_kept : (i t v u : Term) → IsTerm t → IsTerm v → with_element i t v ≡ Some u → IsTerm u
setelement_kept (Int (pos (suc k))) (Tuple ts) v u h g e = tuple_kept (with_part k ts v) u (λ us s. changed_kept k ts v us h g s) e
setelement_kept i t v u h g e = absurd cc

pub keep_to_range : (atoms : List (List ℕ)) (pid : ℕ) → KeepToRange atoms pid
keep_to_range atoms pid = record { plain = plain_kept atoms pid; setelement = setelement_kept }
