-- Between quotes, each byte reads as itself in the text that is written for it.
use Rattle.std.proofs.Common.{◌≡◌, ℕ, ◌+◌, ◌-◌, ◌*◌, ◌/◌, ◌%◌, ◌≤◌, Bool, true, false, ◌==◌, List, [], ◌∷◌, ◌++◌, Some, refl, subst, append_assoc, arith}
use Rattle.std.specs.List.{flat_map}
use Rattle.std.proofs.lemmas.Bool.{eqb-true}
use Rattle.std.proofs.lemmas.Bool.Decides.{nat_tests}
use Rattle.hy_terms.specs.Texts.{escaped, octal_digits, is_plain}
use Rattle.hy_core.specs.Bytes.{class_of, mark_of, plain_class, is_printable, is_octal}
use Rattle.hy_core.specs.Tokens.{escaped as letter_value, IsEscape, letter, three_digits, IsBody, close, plain, escape}
use Rattle.hy_core.specs.declared.token.ByteClass.{ByteClass}
use Rattle.hy_core.specs.declared.token.ByteClass.TheVariants as c
use Rattle.core_print.proofs.Spelling.{AreBytes}

-- a quote and its class
pub data IsQuote : ℕ → ByteClass → Type 0 where
  single : IsQuote 39 c.Quote
  double : IsQuote 34 c.DoubleQuote

pub quote_class : (q : ℕ) (kind : ByteClass) → IsQuote q kind → class_of q ≡ kind
unfolding class_of mark_of plain_class
quote_class _ _ single = refl
quote_class _ _ double = refl

pub backslash_class : class_of 92 ≡ c.Backslash
unfolding class_of mark_of plain_class
backslash_class = refl

-- no other byte is of a quote's class
quote_alone : (q b : ℕ) (kind : ByteClass) → IsQuote q kind → (b == q) ≡ false → class_of b ≡ kind → ⊥
unfolding class_of mark_of plain_class
quote_alone _ b _ single other is = grind (arith, nat_tests, other, is)
quote_alone _ b _ double other is = grind (arith, nat_tests, other, is)

backslash_alone : (b : ℕ) → (b == 92) ≡ false → class_of b ≡ c.Backslash → ⊥
unfolding class_of mark_of plain_class
backslash_alone b other is = grind (arith, nat_tests, other, is)

quote_letter : (q : ℕ) (kind : ByteClass) → IsQuote q kind → letter_value q ≡ Some q
unfolding letter_value
quote_letter _ _ single = refl
quote_letter _ _ double = refl

backslash_letter : letter_value 92 ≡ Some 92
unfolding letter_value
backslash_letter = refl

octal_small : (n : ℕ) → n ≤ 7 → is_octal (48 + n) ≡ true
unfolding is_octal
octal_small n small = grind (arith, nat_tests, small)

-- three octal digits of a byte stand for it
pub octal_escape : (b : ℕ) (rest : List ℕ) → b ≤ 255 → IsEscape (octal_digits b) rest b
octal_escape b rest small =
    let value : 8 * (8 * (48 + b / 64 - 48) + (48 + b / 8 % 8 - 48)) + (48 + b % 8 - 48) ≡ b = omega arith in
    let first = octal_small (b / 64) (omega arith) in
    let second = octal_small (b / 8 % 8) (omega arith) in
    let third = octal_small (b % 8) (omega arith) in
    subst (λ (k : ℕ). IsEscape (octal_digits b) rest k) value (three_digits first second third (omega arith))

printable : (b : ℕ) → is_plain b ≡ true → is_printable b ≡ true
unfolding is_printable
printable b is = is

-- a byte that stands behind a \ for itself
itself : (b : ℕ) (kind : ByteClass) (bs x : List ℕ) → letter_value b ≡ Some b → IsBody kind bs x → IsBody kind (92 ∷ b ∷ bs) (b ∷ x)
itself b kind bs x is body = escape {es = b ∷ []} backslash_class (letter is) body

-- what is written for a byte, before the rest
byte_body : (q b : ℕ) (kind : ByteClass) (bs x : List ℕ) → IsQuote q kind → b ≤ 255 → IsBody kind bs x → IsBody kind (escaped q b ++ bs) (b ∷ x)
byte_body q b kind bs x is small body = at (b == q) (b == 92) (is_plain b) refl refl refl
  where
    at : (same back bare : Bool) → (b == q) ≡ same → (b == 92) ≡ back → is_plain b ≡ bare → IsBody kind (escaped q b ++ bs) (b ∷ x)
    at true back bare s k p = rw s (itself b kind bs x (rw (eqb-true b q s) (quote_letter q kind is)) body)
    at false true bare s k p = rw (s, k) (itself b kind bs x (rw (eqb-true b 92 k) backslash_letter) body)
    at false false true s k p = rw (s, k, p) (plain (printable b p) (quote_alone q b kind is s) (backslash_alone b k) body)
    at false false false s k p = rw (s, k, p) (escape {es = octal_digits b} backslash_class (octal_escape b bs small) body)

-- what is written for bytes, and the quote that ends it
pub quoted_body : (q : ℕ) (kind : ByteClass) (text : List ℕ) → IsQuote q kind → AreBytes text → IsBody kind (flat_map (escaped q) text ++ q ∷ []) text
quoted_body q kind [] is small = close (quote_class q kind is)
quoted_body q kind (b ∷ bs) is small =
    rw append_assoc (byte_body q b kind (flat_map (escaped q) bs ++ q ∷ []) bs is small.0 (quoted_body q kind bs is small.1))
