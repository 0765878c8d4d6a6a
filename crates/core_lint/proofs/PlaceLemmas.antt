-- The items of a list by their places.
use Rattle.std.proofs.Common.{◌≡◌, ℕ, zero, suc, ◌<◌, List, [], ◌∷◌, take, length, slice_get, Some, ap, arith}
use Rattle.std.specs.List.{Contains, slice_index_or}

module _ {A : Type 0} where
  pub get-index : (xs : List A) (k : ℕ) (x : A) → slice_get xs k ≡ Some x → Contains xs x
  get-index [] k x at = absurd cc
  get-index (y ∷ xs) zero x at = let s : y ≡ x = cc in (0, omega arith, s)
  get-index (y ∷ xs) (suc k) x at = let h = get-index xs k x at in (suc h.0, omega (arith, h.1), h.2)

  pub index-get : (xs : List A) (x : A) (k : ℕ) → k < length xs → slice_index_or xs k x ≡ x → slice_get xs k ≡ Some x
  index-get [] x k below is = absurd (omega arith)
  index-get (y ∷ xs) x zero below is = ap (λ (z : A). Some z) is
  index-get (y ∷ xs) x (suc k) below is = index-get xs x k (omega arith) is

  pub take-get : (xs : List A) (i k : ℕ) (x : A) → slice_get (take i xs) k ≡ Some x → (k < i) × (slice_get xs k ≡ Some x)
  take-get xs zero k x at = absurd cc
  take-get [] (suc i) k x at = absurd cc
  take-get (y ∷ xs) (suc i) zero x at = (omega arith, at)
  take-get (y ∷ xs) (suc i) (suc k) x at = let h = take-get xs i k x at in (omega (arith, h.0), h.1)

  pub get-take : (xs : List A) (i k : ℕ) (x : A) → k < i → slice_get xs k ≡ Some x → slice_get (take i xs) k ≡ Some x
  get-take xs zero k x below at = absurd (omega arith)
  get-take [] (suc i) k x below at = absurd cc
  get-take (y ∷ xs) (suc i) zero x below at = at
  get-take (y ∷ xs) (suc i) (suc k) x below at = get-take xs i k x (omega arith) at
