-- The range of numbers: its test, and its two halves.
use Rattle.std.proofs.Common.{◌≡◌, ℕ, ◌<◌, ◌^◌, ℤ, pos, negsuc, ◌≤ℤ◌, int_le, Bool, true, false, ◌&&◌, refl, leb→le, le→leb, ◌≤◌, arith}
use Rattle.std.proofs.lemmas.Int.{ints}
use Rattle.std.specs.Cmp.Derive.{both_true}
use Rattle.hy_terms.specs.Range.{least_number, greatest_number, IsNumber, is_in_range}

below : (n m : ℤ) → int_le n m ≡ true → n ≤ℤ m
below n m h = grind (arith, ints)

below_back : (n m : ℤ) → n ≤ℤ m → int_le n m ≡ true
below_back n m h = grind (arith, ints)

parts_true : (a b : Bool) → (a && b) ≡ true → (a ≡ true) × (b ≡ true)
parts_true true true h = (refl, refl)
parts_true true false h = absurd cc
parts_true false b h = absurd cc

-- the test tells the range
pub in_range_is : (n : ℤ) → is_in_range n ≡ true → IsNumber n
in_range_is n h =
    let both = parts_true (int_le least_number n) (int_le n greatest_number) h in
    (below least_number n both.0, below n greatest_number both.1)

pub is_in_range_of : (n : ℤ) → IsNumber n → is_in_range n ≡ true
is_in_range_of n is = both_true (below_back least_number n is.0) (below_back n greatest_number is.1)

-- the range by the two forms of a number
pub number_below : (k : ℕ) → IsNumber (pos k) → k < 2 ^ 59
number_below k h = let le : k ≤ 576460752303423487 = leb→le k 576460752303423487 h.1.le in omega arith

pub number_above : (k : ℕ) → IsNumber (negsuc k) → k < 2 ^ 59
number_above k h = let le : k ≤ 576460752303423487 = leb→le k 576460752303423487 h.0.le in omega arith

pub below_number : (k : ℕ) → k < 2 ^ 59 → IsNumber (pos k)
below_number k h = (record { le = tt }, record { le = le→leb k 576460752303423487 (omega arith) })

pub above_number : (k : ℕ) → k < 2 ^ 59 → IsNumber (negsuc k)
above_number k h = (record { le = le→leb k 576460752303423487 (omega arith) }, record { le = tt })
