-- To stand in a list, by its first element and the others.
use Rattle.std.proofs.Common.{◌≡◌, ◌<◌, ℕ, zero, suc, List, [], ◌∷◌, length, ◌⊎◌, inl, inr, Some, slice_get, refl, ap, arith}
use Rattle.std.specs.List.{Contains, slice_index_or}

pub contains_first : {A : Type 0} (x : A) (xs : List A) → Contains (x ∷ xs) x
contains_first x xs = (0, omega arith, refl)

pub contains_later : {A : Type 0} (y : A) (ys : List A) (x : A) → Contains ys x → Contains (y ∷ ys) x
contains_later y ys x h = (suc h.0, omega (arith, h.1), h.2)

abbrev pub InAny : {A : Type 0} → A → List A → Type 0
InAny x [] = ⊥
InAny x (y ∷ ys) = (y ≡ x) ⊎ InAny x ys

pub in_any : {A : Type 0} (xs : List A) (x : A) → Contains xs x → InAny x xs
in_any {A = A} xs x h = at xs h.0 h.1 h.2
  where
    at : (ys : List A) (k : ℕ) → k < length ys → slice_index_or ys k x ≡ x → InAny x ys
    at [] k below is = absurd (omega (arith, below))
    at (y ∷ ys) zero below is = inl is
    at (y ∷ ys) (suc k) below is = inr (at ys k (omega (arith, below)) is)

-- and by its place
pub placed : {A : Type 0} (xs : List A) (x : A) → Contains xs x → (k : ℕ) × (slice_get xs k ≡ Some x)
placed {A = A} xs x h = (h.0, at xs h.0 h.1 h.2)
  where
    at : (ys : List A) (k : ℕ) → k < length ys → slice_index_or ys k x ≡ x → slice_get ys k ≡ Some x
    at [] k below is = absurd (omega (arith, below))
    at (y ∷ ys) zero below is = ap Some is
    at (y ∷ ys) (suc k) below is = at ys k (omega (arith, below)) is

pub placed_any : {A : Type 0} (xs : List A) (x : A) → InAny x xs → (k : ℕ) × (slice_get xs k ≡ Some x)
placed_any [] x h = absurd h
placed_any (y ∷ ys) x (inl is) = (0, ap Some is)
placed_any (y ∷ ys) x (inr h) = let k = placed_any ys x h in (suc k.0, k.1)

pub any_contained : {A : Type 0} (xs : List A) (x : A) → InAny x xs → Contains xs x
any_contained [] x h = absurd h
any_contained (y ∷ ys) x (inl is) = (0, omega arith, is)
any_contained (y ∷ ys) x (inr h) = contains_later y ys x (any_contained ys x h)
