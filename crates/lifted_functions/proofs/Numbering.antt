-- The first of numbered functions is the first function.
use Rattle.std.proofs.Common.{◌≡◌, ℕ, suc, ◌+◌, ◌==◌, ◌&&◌, Bool, true, false, List, [], ◌∷◌}
use Rattle.std.proofs.Common.{◌<◌, Option, Some, None, length, drop, refl, sym, ap, ◌∙◌, arith}
use Rattle.std.specs.Prelude.{if◌then◌else◌}
use Rattle.std.specs.List.{slice_index_or}
use Rattle.std.proofs.lemmas.List.{drop_more}
use Rattle.hy_terms.specs.Naming.{one_on}
use Rattle.hy_core.specs.Resolve.{function_number}
use Rattle.hy_core.specs.Resolved.{is_name}
use Rattle.hy_core.specs.declared.info.FunInfo.{FunInfo}
use Rattle.hy_core.specs.declared.tree.FunName.{FunName}
use Rattle.lifted_functions.specs.code.FunctionNumbers.{first_of, number_if, number_from}

on : ℕ → Option ℕ → Option ℕ
on n None = None
on n (Some k) = Some (n + k)

on-none : (o : Option ℕ) → on 0 o ≡ o
unfolding on
on-none None = refl
on-none (Some k) = let h : 0 + k ≡ k = omega arith in ap Some h

on-next : (n : ℕ) (o : Option ℕ) → on (suc n) o ≡ on n (one_on o)
unfolding on
on-next n None = refl
on-next n (Some k) = let h : suc n + k ≡ n + suc k = omega arith in ap Some h

module _ (m : ℕ) (f : FunName) where
  from : (n : ℕ) (is : List FunInfo) → number_from n is m f ≡ on n (function_number is m f)
  unfolding on
  from n [] = refl
  from n (i ∷ is) = by_case ((i.module == m) && is_name i.name f) (from (suc n) is)
    where
      by_case : (b : Bool) → number_from (suc n) is m f ≡ on (suc n) (function_number is m f)
          → first_of (if b then Some n else None) (number_from (suc n) is m f)
          ≡ on n (if b then Some 0 else one_on (function_number is m f))
      by_case true h = let h : n ≡ n + 0 = omega arith in ap Some h
      by_case false h = h ∙ on-next n (function_number is m f)

  pub from_first : (is : List FunInfo) → number_from 0 is m f ≡ function_number is m f
  from_first is = from 0 is ∙ on-none (function_number is m f)

  first-assoc : (a b c : Option ℕ) → first_of (first_of a b) c ≡ first_of a (first_of b c)
  first-assoc None b c = refl
  first-assoc (Some k) b c = refl

  first-none : (o : Option ℕ) → first_of o None ≡ o
  first-none None = refl
  first-none (Some k) = refl

  -- one more is noted, and then all are
  pub noted : (is : List FunInfo) (i n : ℕ) (x : FunInfo) (before after whole : Option ℕ)
      → i < length is → x ≡ slice_index_or is i x
      → first_of before (number_from i (drop i is) m f) ≡ whole → n ≡ i
      → after ≡ first_of before (number_if n x m f)
      → first_of after (number_from (i + 1) (drop (i + 1) is) m f) ≡ whole
  noted is i n x before after whole below at h same k =
      let next : i + 1 ≡ suc i = omega arith in
      let rest = drop (i + 1) is in
      let left : drop i is ≡ x ∷ rest = drop_more is i x below ∙ ap (λ y. y ∷ rest) (sym at) in
      (λ j. first_of ((k ∙ ap (λ n. first_of before (number_if n x m f)) same) j)
      (number_from (next j) rest m f))
      ∙ first-assoc before (number_if i x m f) (number_from (suc i) rest m f)
      ∙ ap (λ l. first_of before (number_from i l m f)) (sym left) ∙ h

  pub all_noted : (is left : List FunInfo) (i : ℕ) (noted : Option ℕ) → left ≡ []
      → first_of noted (number_from i left m f) ≡ number_from 0 is m f
      → noted ≡ function_number is m f
  all_noted is left i noted none h =
      sym (first-none noted) ∙ sym (ap (λ l. first_of noted (number_from i l m f)) none) ∙ h
      ∙ from_first is
