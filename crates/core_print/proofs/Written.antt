-- A token that a text has can be written: its bytes are bytes, its digits digits.
use Rattle.std.proofs.Common.{◌≡◌, ℕ, ◌≤◌, true, List, Some, arith}
use Rattle.std.proofs.lemmas.Bool.Decides.{nat_tests}
use Rattle.hy_core.specs.Bytes.{is_printable, is_octal}
use Rattle.hy_core.specs.Tokens.{escaped, IsEscape, letter, control, one_digit, two_digits, three_digits, IsBody, close, plain, IsToken, integer, signed, character, escape, atom, string, variable, a_keyword, mark, mark_of_two}
use Rattle.core_print.proofs.Spelling.{digits, variable_name, AreBytes, IsWritten}
use Rattle.hy_core.specs.declared.token.ByteClass.{ByteClass}
use Rattle.hy_core.specs.declared.token.ByteClass.TheVariants as c
use Rattle.hy_core.specs.declared.token.Token.{Token}

octal_bounds : (b : ℕ) → is_octal b ≡ true → (48 ≤ b) × (b ≤ 55)
unfolding is_octal
octal_bounds b is = grind (arith, nat_tests, is)

letter_byte : (b k : ℕ) → escaped b ≡ Some k → k ≤ 255
unfolding escaped
letter_byte b k is = grind (arith, nat_tests, is)

-- what an escape stands for is a byte
escape_byte : (es rest : List ℕ) (k : ℕ) → IsEscape es rest k → k ≤ 255
escape_byte _ _ _ (letter {b = b} {k = k} is) = letter_byte b k is
escape_byte _ _ _ (control {b = b} low high) = omega arith
escape_byte _ _ _ (one_digit {b = b} first st) = omega (arith, octal_bounds b first)
escape_byte _ _ _ (two_digits {b = b} {d = d} first second st) = omega (arith, octal_bounds b first, octal_bounds d second)
escape_byte _ _ _ (three_digits first second third small) = small

printable_byte : (b : ℕ) → is_printable b ≡ true → b ≤ 255
unfolding is_printable
printable_byte b is = grind (arith, nat_tests, is)

-- what stands between quotes is bytes
body_bytes : (quote : ByteClass) (bs x : List ℕ) → IsBody quote bs x → AreBytes x
body_bytes _ _ _ (close is) = tt
body_bytes quote _ _ (plain {b = b} {bs = bs} {x = x} is other bare body) = (printable_byte b is, body_bytes quote bs x body)
body_bytes quote _ _ (escape {k = k} {es = es} {bs = bs} {x = x} is code body) = (escape_byte es bs k code, body_bytes quote bs x body)

-- the tokens that bytes are can be written
pub token_written : (front rest : List ℕ) (k : Token) → IsToken front rest k → IsWritten k
token_written _ _ _ (integer is ps st) = digits is ps
token_written _ _ _ (signed sign is ps st) = digits is ps
token_written _ _ _ (character {b = b} is print bare) = printable_byte b print
token_written _ rest _ (escape {k = k} {es = es} is back code) = escape_byte es rest k code
token_written _ _ _ (atom {bs = bs} {x = x} is body) = body_bytes c.Quote bs x body
token_written _ _ _ (string {bs = bs} {x = x} is body) = body_bytes c.DoubleQuote bs x body
token_written _ _ _ (variable is ps st) = variable_name is ps
token_written _ _ _ (a_keyword is ps st key) = tt
token_written _ _ _ (mark is) = tt
token_written _ _ _ (mark_of_two is behind) = tt
