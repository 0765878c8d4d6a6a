-- The functions around a letrec are those after it.
use Rattle.std.proofs.Common.{◌≡◌, ℕ, ◌-◌, List, ◌++◌, length, drop, ap, ◌∙◌, arith, length-append}
use Rattle.std.proofs.Math.Seq.{drop-append_seam}

module _ {A : Type 0} where
  dropped : (xs ys : List A) → drop (length (xs ++ ys) - length ys) (xs ++ ys) ≡ ys
  dropped xs ys =
      let h : length (xs ++ ys) - length ys ≡ length xs = rw length-append (omega arith) in
      ap (λ n. drop n (xs ++ ys)) h ∙ drop-append_seam xs ys

  pub left_behind : (front : List A) {r0 r1 r2 r3 : List A} {k : ℕ} → k ≡ length r0
      → r1 ≡ front ++ r0 → r2 ≡ r1 → r3 ≡ drop (length r2 - k) r2 → r3 ≡ r0
  left_behind front {r0 = r0} {k = k} height entered same left =
      left ∙ ap (λ r. drop (length r - k) r) (same ∙ entered)
      ∙ ap (λ n. drop (length (front ++ r0) - n) (front ++ r0)) height ∙ dropped front r0
