-- A built-in that has an answer for each list of so many arguments takes so many.
use Rattle.std.proofs.Common.{◌≡◌, ℕ, zero, suc, List, [], ◌∷◌, length, refl, ap, map}
use Rattle.std.specs.Prelude.{Some, slice_get}
use Rattle.std.proofs.lemmas.Option.{none-some}
use Rattle.hy_terms.specs.Term.{Term, Nil}
use Rattle.hy_core.specs.declared.bif.Bif.{Bif}
use Rattle.hy_core.specs.declared.bif.Bif.TheVariants as b
use Rattle.hy_core.specs.BuiltIn.{Answer, NoAnswer, of_none, of_one, of_two}
use Rattle.hy_core.specs.KnownTrees.{Answers, arities_of}
use Rattle.hy_core.specs.Resolved.{FunctionTree}
use Rattle.hy_ir.specs.Arity.{bif_arity}
use Rattle.hy_ir.specs.Valid.{TakesAs}
use Rattle.lowered_code.specs.LoweredCode.{lowered_function}

-- a list of so many terms
terms : ℕ → List Term
terms zero = []
terms (suc n) = Nil ∷ terms n

so_many : (n : ℕ) → length (terms n) ≡ n
unfolding terms
so_many zero = refl
so_many (suc n) = ap suc (so_many n)

abbrev Has : ℕ → (List Term → Answer) → Type 0
Has n f = (ts : List Term) → length ts ≡ n → f ts ≡ NoAnswer → ⊥

takes_none : (a : Answer) (n : ℕ) → Has n (of_none a) → n ≡ 0
takes_none a zero h = refl
takes_none a (suc n) h = absurd (h (Nil ∷ terms n) (ap suc (so_many n)) refl)

takes_one : (f : Term → Answer) (n : ℕ) → Has n (of_one f) → n ≡ 1
takes_one f zero h = absurd (h [] refl refl)
takes_one f (suc zero) h = refl
takes_one f (suc (suc n)) h =
    absurd (h (Nil ∷ Nil ∷ terms n) (ap (λ m. suc (suc m)) (so_many n)) refl)

takes_two : (f : Term → Term → Answer) (n : ℕ) → Has n (of_two f) → n ≡ 2
takes_two f zero h = absurd (h [] refl refl)
takes_two f (suc zero) h = absurd (h (Nil ∷ []) refl refl)
takes_two f (suc (suc zero)) h = refl
takes_two f (suc (suc (suc n))) h =
    absurd (h (Nil ∷ Nil ∷ Nil ∷ terms n) (ap (λ m. suc (suc (suc m))) (so_many n)) refl)

pub bif_takes : (f : Bif) (n : ℕ) → Answers f n → n ≡ bif_arity f
bif_takes b.SelfPid n h = takes_none _ n (h [] 0)
bif_takes b.Neg n h = takes_one _ n (h [] 0)
bif_takes b.Abs n h = takes_one _ n (h [] 0)
bif_takes b.Not n h = takes_one _ n (h [] 0)
bif_takes b.IsInteger n h = takes_one _ n (h [] 0)
bif_takes b.IsNumber n h = takes_one _ n (h [] 0)
bif_takes b.IsAtom n h = takes_one _ n (h [] 0)
bif_takes b.IsBoolean n h = takes_one _ n (h [] 0)
bif_takes b.IsPid n h = takes_one _ n (h [] 0)
bif_takes b.IsList n h = takes_one _ n (h [] 0)
bif_takes b.IsTuple n h = takes_one _ n (h [] 0)
bif_takes b.TupleSize n h = takes_one _ n (h [] 0)
bif_takes b.Hd n h = takes_one _ n (h [] 0)
bif_takes b.Tl n h = takes_one _ n (h [] 0)
bif_takes b.Length n h = takes_one _ n (h [] 0)
bif_takes b.Add n h = takes_two _ n (h [] 0)
bif_takes b.Sub n h = takes_two _ n (h [] 0)
bif_takes b.Mul n h = takes_two _ n (h [] 0)
bif_takes b.Div n h = takes_two _ n (h [] 0)
bif_takes b.Rem n h = takes_two _ n (h [] 0)
bif_takes b.Band n h = takes_two _ n (h [] 0)
bif_takes b.Bor n h = takes_two _ n (h [] 0)
bif_takes b.Bxor n h = takes_two _ n (h [] 0)
bif_takes b.And n h = takes_two _ n (h [] 0)
bif_takes b.Or n h = takes_two _ n (h [] 0)
bif_takes b.Xor n h = takes_two _ n (h [] 0)
bif_takes b.Same n h = takes_two _ n (h [] 0)
bif_takes b.Equal n h = takes_two _ n (h [] 0)
bif_takes b.NotSame n h = takes_two _ n (h [] 0)
bif_takes b.NotEqual n h = takes_two _ n (h [] 0)
bif_takes b.Less n h = takes_two _ n (h [] 0)
bif_takes b.Greater n h = takes_two _ n (h [] 0)
bif_takes b.AtMost n h = takes_two _ n (h [] 0)
bif_takes b.AtLeast n h = takes_two _ n (h [] 0)
bif_takes b.Element n h = takes_two _ n (h [] 0)

-- a function takes as many arguments as its tree has parameters
pub function_takes : (fs : List FunctionTree) (f n : ℕ) → slice_get (arities_of fs) f ≡ Some n
    → TakesAs (slice_get (map lowered_function fs) f) n
function_takes [] f n h = absurd (none-some _ h)
function_takes (g ∷ fs) zero n h = same_number h
  where
    same_number : Some (length g.parameters) ≡ Some n → n ≡ length g.parameters
    same_number e = cc
function_takes (g ∷ fs) (suc f) n h = function_takes fs f n h
