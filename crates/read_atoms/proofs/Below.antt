-- Numbers of atoms that stand in a table.
use Rattle.std.proofs.Common.{◌≡◌, ℕ, ◌<◌, ◌≤◌, List, [], ◌∷◌, ◌++◌, length, arith, Some, None, Option}
use Rattle.std.proofs.Common.{refl, sym, ap, ◌∙◌, subst, suc, ◌+◌}
use Rattle.std.specs.List.{AllByRecursion, Contains}
use Rattle.std.proofs.lemmas.List.{length-append}
use Rattle.hy_terms.specs.Naming.{named, place_in}
use Rattle.hy_terms.proofs.NamingLemmas.{named-known, named-new}
use Rattle.hy_core.specs.SubPatterns.{joined}

abbrev pub Below : (n : ℕ) → List ℕ → Type 0
Below n = AllByRecursion (λ a. a < n)

pub below_both : (n : ℕ) (xs ys : List ℕ) → Below n xs → Below n ys → Below n (xs ++ ys)
below_both n [] ys h k = k
below_both n (x ∷ xs) ys h k = (h.0, below_both n xs ys h.1 k)

pub below_more : (n m : ℕ) (xs : List ℕ) → n ≤ m → Below n xs → Below m xs
below_more n m [] more h = tt
below_more n m (x ∷ xs) more h = (let low = h.0 in omega (arith, more, low), below_more n m xs more h.1)
