-- A number of a tree is read again from its decimal digits.
use Rattle.std.proofs.Common.{◌≡◌, ℕ, zero, suc, ◌+◌, ◌-◌, ◌<◌, ◌≤◌, ◌^◌, ℤ, pos, neg_ℤ, List, [], ◌∷◌, ◌++◌, length, refl, sym, ap, subst, arith}
use Rattle.std.specs.Fmt.{decimal}
use Rattle.std.specs.Str.Parse.{AllDigits}
use Rattle.std.proofs.lemmas.Fmt.{decimal_is_IsNumeral, digits_value-decimal}
use Rattle.std.proofs.lemmas.Str.Parse.{IsNumeralModel, digit_from_value, tells_digits, numerals_by_fold}
use Rattle.std.proofs.lemmas.Grind.{common_steps}
use Rattle.hy_terms.specs.Texts.{int_text}
use Rattle.hy_core.specs.Bytes.{class_of, mark_of, plain_class, is_digit, Pass}
use Rattle.hy_terms.proofs.RangeLemmas.{number_below, number_above, below_number}
use Rattle.hy_terms.specs.Range.{IsNumber}
use Rattle.hy_core.specs.Marks.{value, value_behind, number, IsInRange}
use Rattle.hy_core.specs.declared.token.ByteClass.TheVariants as c
use Rattle.hy_core.specs.declared.token.Sign.{Sign}
use Rattle.hy_core.specs.declared.token.Sign.TheVariants as g
use Rattle.core_print.proofs.Spelling.{sign_text, AreDigits, digits}

digit_class : (d : ℕ) → 48 ≤ d → d ≤ 57 → class_of d ≡ c.Digit
unfolding class_of mark_of plain_class
digit_class d low high = grind (arith, common_steps)

pass_digits : (ds : List ℕ) → AllDigits 10 ds → Pass is_digit ds
pass_digits [] all = tt
pass_digits (d ∷ ds) all = let r = digit_from_value d all.0 in (ap is_digit (digit_class d r.0 r.1), pass_digits ds all.1)

are_digits : (ds : List ℕ) → 0 < length ds → AllDigits 10 ds → AreDigits ds
are_digits [] some all = absurd (omega arith)
are_digits (d ∷ ds) some all = let r = digit_from_value d all.0 in digits (digit_class d r.0 r.1) (pass_digits ds all.1)

-- `value` is what std reads
reads_decimal : IsNumeralModel (AllDigits 10) value
reads_decimal = numerals_by_fold (AllDigits 10) tells_digits value_behind (record { empty = λ n. refl; more = λ n d ds r. ap (λ (k : ℕ). value_behind (k + (d - 48)) ds) (omega arith) })

pub decimal_digits : (n : ℕ) → n < 2 ^ 64 → AreDigits (decimal n)
decimal_digits n small = let is = decimal_is_IsNumeral n small in are_digits (decimal n) is.0.0 is.0.1

pub decimal_value : (n : ℕ) → n < 2 ^ 64 → value (decimal n) ≡ n
decimal_value n small = digits_value-decimal reads_decimal n small

-- a sign and digits that are the canonical text of an integer
pub record IsSpelled (x : ℤ) : Type 0 where
  pub sign : Sign
  pub digits : List ℕ
  pub spells : sign_text sign ++ digits ≡ int_text x
  pub same : number sign (value digits) ≡ x
  pub in_range : IsInRange sign (value digits)
  pub are_digits : AreDigits digits

natural_spelled : (n : ℕ) → n < 2 ^ 59 → IsSpelled (pos n)
natural_spelled n small =
    let is = decimal_value n (omega arith) in
    record { sign = g.Absent; digits = decimal n; spells = refl; same = ap pos is; in_range = below_number (value (decimal n)) (omega (arith, is)); are_digits = decimal_digits n (omega arith) }

-- the integer of a sign and digits in range has such ones
pub integer_spelled : (sign : Sign) (n : ℕ) → IsInRange sign n → IsSpelled (number sign n)
integer_spelled g.Absent n small = natural_spelled n (number_below n small)
integer_spelled g.Plus n small = natural_spelled n (number_below n small)
integer_spelled g.Minus zero small = natural_spelled 0 (omega arith)
integer_spelled g.Minus (suc n) small =
    let low : n < 2 ^ 59 = number_above n small in
    let is = decimal_value (suc n) (omega arith) in
    record { sign = g.Minus; digits = decimal (suc n); spells = refl; same = ap (λ (k : ℕ). neg_ℤ (pos k)) is; in_range = subst (λ (k : ℕ). IsNumber (neg_ℤ (pos k))) (sym is) small; are_digits = decimal_digits (suc n) (omega arith) }

pub character_spelled : (code : ℕ) → code ≤ 255 → IsSpelled (pos code)
character_spelled code small = natural_spelled code (omega arith)
