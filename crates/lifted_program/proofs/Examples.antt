-- The programs of the examples are lifted as they say.
use Rattle.std.proofs.Common.{ℕ, zero, suc, List, [], ◌∷◌, refl, sym, subst, ⊎_elim, arith}
use Rattle.std.specs.Prelude.{◌==◌}
use Rattle.std.specs.List.{IsDistinct}
use Rattle.hy_core.specs.Resolved.{FunctionTree}
use Rattle.lifted_program.specs.Captured.{OfVariable, OfFunction, Definition, IsFree, occurs}
use Rattle.lifted_program.specs.Captured.{passed}
use Rattle.lifted_program.specs.WorkedLifting.{InnerFunctionsDoTheSame}
use Rattle.lifted_program.specs.WorkedLifting.{by_number, mutual_renamed, mutual_captured}
use Rattle.lifted_program.specs.WorkedLifting.{MutualFunctionsAreLifted, inner_source}
use Rattle.lifted_program.specs.WorkedLifting.{inner_captured, InnerFunctionsAreLifted}
use Rattle.lifted_program.proofs.Exact.{all_free}
use Rattle.lifted_program.proofs.Variables.{In, contained_in}

-- a list whose only members are these
free_one : (program : List FunctionTree) (f a : ℕ) → IsFree program f a → (x : ℕ) → In x (a ∷ [])
    → IsFree program f x
free_one program f a h x i = ⊎_elim (λ e. subst (IsFree program f) (sym e) h) (λ k. absurd k) i

free_two : (program : List FunctionTree) (f a b : ℕ) → IsFree program f a → IsFree program f b
    → (x : ℕ) → In x (a ∷ b ∷ []) → IsFree program f x
free_two program f a b h k x i =
    ⊎_elim (λ e. subst (IsFree program f) (sym e) h) (λ j. free_one program f b k x j) i

abbrev first_mutual : Definition
first_mutual = record { scope = 1 ∷ 0 ∷ []; uses = OfVariable 1 ∷ OfFunction 2 ∷ [] }

abbrev second_mutual : Definition
second_mutual = record { scope = 1 ∷ 0 ∷ []; uses = OfVariable 0 ∷ OfFunction 1 ∷ [] }

abbrev MutualFree : ℕ → ℕ → Type 0
MutualFree = IsFree mutual_renamed

own_first : MutualFree 1 1
own_first = occurs first_mutual (0, refl, refl) refl (0, omega arith, refl)

own_second : MutualFree 2 0
own_second = occurs second_mutual (1, refl, refl) refl (0, omega arith, refl)

through_first : MutualFree 1 0
through_first = passed first_mutual 2 (0, refl, refl) refl (1, omega arith, refl) own_second

through_second : MutualFree 2 1
through_second = passed second_mutual 1 (1, refl, refl) refl (1, omega arith, refl) own_first

mutual_free : (f x : ℕ) → In x (by_number mutual_captured f) → MutualFree f x
mutual_free zero x i = absurd i
mutual_free (suc zero) x i = free_two mutual_renamed 1 1 0 own_first through_first x i
mutual_free (suc (suc zero)) x i = free_two mutual_renamed 2 0 1 own_second through_second x i
mutual_free (suc (suc (suc k))) x i = absurd i

mutual_once : (f : ℕ) → IsDistinct ◌==◌ (by_number mutual_captured f)
unfolding IsDistinct
mutual_once zero = tt
mutual_once (suc zero) = ((refl, tt), (tt, tt))
mutual_once (suc (suc zero)) = ((refl, tt), (tt, tt))
mutual_once (suc (suc (suc k))) = tt

pub mutual_lifted : MutualFunctionsAreLifted
mutual_lifted = (
  refl,
  record {
    free = λ f x c. mutual_free f x (contained_in x (by_number mutual_captured f) c);
    all = all_free (by_number mutual_captured) mutual_renamed refl;
    once = mutual_once;
  },
  refl,
)

-- the functions of the second program: 'f', 'h' in it, and 'g'
abbrev outer : Definition
outer = record { scope = 0 ∷ []; uses = OfVariable 1 ∷ OfFunction 3 ∷ OfFunction 2 ∷ [] }

abbrev inner : Definition
inner = record { scope = 1 ∷ 0 ∷ []; uses = OfVariable 1 ∷ OfFunction 3 ∷ [] }

abbrev applied : Definition
applied = record { scope = 0 ∷ []; uses = OfVariable 0 ∷ [] }

abbrev InnerFree : ℕ → ℕ → Type 0
InnerFree = IsFree inner_source

own_applied : InnerFree 3 0
own_applied = occurs applied (2, refl, refl) refl (0, omega arith, refl)

own_inner : InnerFree 2 1
own_inner = occurs inner (1, refl, refl) refl (0, omega arith, refl)

through_inner : InnerFree 2 0
through_inner = passed inner 3 (1, refl, refl) refl (1, omega arith, refl) own_applied

through_outer : InnerFree 1 0
through_outer = passed outer 3 (0, refl, refl) refl (1, omega arith, refl) own_applied

inner_free : (f x : ℕ) → In x (by_number inner_captured f) → InnerFree f x
inner_free zero x i = absurd i
inner_free (suc zero) x i = free_one inner_source 1 0 through_outer x i
inner_free (suc (suc zero)) x i = free_two inner_source 2 1 0 own_inner through_inner x i
inner_free (suc (suc (suc zero))) x i = free_one inner_source 3 0 own_applied x i
inner_free (suc (suc (suc (suc k)))) x i = absurd i

inner_once : (f : ℕ) → IsDistinct ◌==◌ (by_number inner_captured f)
unfolding IsDistinct
inner_once zero = tt
inner_once (suc zero) = (tt, tt)
inner_once (suc (suc zero)) = ((refl, tt), (tt, tt))
inner_once (suc (suc (suc zero))) = (tt, tt)
inner_once (suc (suc (suc (suc k)))) = tt

pub inner_lifted : InnerFunctionsAreLifted
inner_lifted = (
  refl,
  record {
    free = λ f x c. inner_free f x (contained_in x (by_number inner_captured f) c);
    all = all_free (by_number inner_captured) inner_source refl;
    once = inner_once;
  },
  refl,
)

pub inner_same : InnerFunctionsDoTheSame
inner_same = (refl, refl)
