-- How large the sums of the rule may grow.
use Rattle.std.proofs.Common.{◌≡◌, ℕ, zero, suc, ◌+◌, ◌*◌, ◌^◌, ◌<◌, ◌≤◌, List, [], ◌∷◌, length, sym, ap, arith, le_refl, le_trans, lit≤, Bool, true, false}
use Rattle.std.specs.Prelude.{if◌then◌else◌, ◌==◌}
use Rattle.std.proofs.lemmas.Nat.{mul-le}
use mathlib.Core.Option.{some-injective, some-ne-none}
use Rattle.hy_words.specs.Lists.{total}
use Rattle.commons.specs.declared.view.View.{View}
use Rattle.commons.specs.Rule.{At, IsKept, refusals, written}
use Rattle.commons.proofs.Begins.{at_most_one}

few_refusals : (views : List View) → refusals views ≤ length views
few_refusals [] = le_refl 0
few_refusals (v ∷ views) = let r = few_refusals views in let o = at_most_one v.refused in let x : ℕ = refusals views in let r' : x ≤ length views = r in omega arith

-- the claim word is far from its end
pub claims_low : (a l c : ℕ) (log area : List ℕ) (views : List View) → IsKept a l c log area views → a ≤ 67108864 → l ≤ 4194304 → c < 2 ^ 62
claims_low a l c log area views r small short =
    let m : ℕ = refusals views in
    let b = r.bound in
    let f = r.few in
    let g = few_refusals views in
    let d = r.entries.short in
    let p : (a + 1) * m ≤ 67108865 * 4194305 = mul-le (a + 1) m 67108865 4194305 (omega arith) (omega arith) in
    let x : ℕ = (a + 1) * m in
    let p' : x ≤ 281475043819520 + 67108865 = le_trans p (lit≤ tt) in
    let b' : c ≤ a + x = b in
    let g : c < 4611686018427387904 = omega arith in g

-- one view's share of a sum
pub one_of : (f : View → ℕ) (vs : List View) (k : ℕ) (v : View) → At vs k v → f v ≤ total f vs
one_of f [] k v e = absurd (some-ne-none v (sym e))
one_of f (x ∷ xs) zero v e = let h : f x ≡ f v = ap f (some-injective x v e) in let t : ℕ = total f xs in let g : f v ≤ f x + t = omega arith in g
one_of f (x ∷ xs) (suc k) v e = let h = one_of f xs k v e in let t : ℕ = total f xs in let h' : f v ≤ t = h in let g : f v ≤ f x + t = omega arith in g

-- no more words are written than there are
pub written_le : (area : List ℕ) → written area ≤ length area
written_le [] = lit≤ tt
written_le (x ∷ xs) = let h = written_le xs in let b = bit (x == 0) in let t : ℕ = written xs in let h' : t ≤ length xs = h in let d : ℕ = (if x == 0 then 0 else 1) in let b' : d ≤ 1 = b in let g : d + t ≤ suc (length xs) = omega arith in g
  where
    bit : (b : Bool) → (if b then 0 else 1) ≤ 1
    bit true = lit≤ tt
    bit false = lit≤ tt
