-- Escapes, and what stands between quotes.
use Rattle.std.proofs.Common.{◌≡◌, ℕ, ◌+◌, ◌-◌, ◌*◌, Bool, true, false, cond, ◌==◌, ◌&&◌, nat_le, List, [], ◌∷◌, ◌++◌, Option, Some, None, refl, sym, subst, append_assoc, arith}
use Rattle.std.proofs.lemmas.List.{append-nil}
use Rattle.std.proofs.lemmas.Bool.{eqb-true, leb-true}
use Rattle.std.proofs.lemmas.Bool.Decides.{nat_tests}
use Rattle.hy_core.specs.Bytes.{class_of, mark_of, plain_class, is_octal}
use Rattle.hy_core.specs.Tokens.{escaped, EndsOctal, IsEscape, letter, control, one_digit, two_digits, three_digits, IsBody, close, plain, escape as escape_in, IsToken, atom, string}
use Rattle.core_scan.specs.code.Scan.{quoted_token, longer, by_letter, with_second, with_third, escaping}
use Rattle.core_scan.proofs.Found.{escape_before, longer_is, octal_bounds, quote_class, two_small}
use Rattle.core_scan.proofs.Unfinished.{IsBegun, IsFront, byte, caret, empty, nothing, one, two, whole}
use Rattle.hy_core.specs.declared.token.ByteClass.TheVariants as c
use Rattle.core_scan.specs.declared.state.Quote.{Quote}
use Rattle.core_scan.specs.declared.state.Quote.TheVariants as q
use Rattle.core_scan.specs.declared.state.Escape.{Escape}
use Rattle.core_scan.specs.declared.state.Escape.TheVariants as x
use Rattle.core_scan.specs.declared.state.Escaping.{Escaping}
use Rattle.core_scan.specs.declared.state.Escaping.TheVariants as y

-- ---- an escape

octal_digit : (b : ℕ) → is_octal b ≡ true → class_of b ≡ c.Digit
unfolding class_of mark_of plain_class
octal_digit b h = grind (arith, nat_tests, octal_bounds b h)

no_octal : (b : ℕ) → (class_of b ≡ c.Digit → ⊥) → is_octal b ≡ false
no_octal b not = at (is_octal b) refl
  where
    at : (v : Bool) → is_octal b ≡ v → is_octal b ≡ false
    at true is = absurd (not (octal_digit b is))
    at false is = is

pub quote_no_octal : (quote : Quote) (b : ℕ) → class_of b ≡ quote_class quote → is_octal b ≡ false
quote_no_octal q.Single b is = no_octal b (λ h. cc (is, h))
quote_no_octal q.Double b is = no_octal b (λ h. cc (is, h))

-- what a byte behind an escape says of it
abbrev pub Says : Escaping → List ℕ → ℕ → List ℕ → Type 0
Says (y.Open read) es b bs = IsBegun read (es ++ b ∷ [])
Says (y.Closed k) es b bs = IsEscape (es ++ b ∷ []) bs k
Says (y.Over k) es b bs = IsEscape es (b ∷ bs) k
Says y.Wrong es b bs = Unit {0}

letter_says : (b : ℕ) (bs : List ℕ) (o : Option ℕ) (v : Bool) → escaped b ≡ o → is_octal b ≡ v → Says (by_letter b o) [] b bs
letter_says b bs (Some k) v is at = letter is
letter_says b bs None true is at = rw at (one at)
letter_says b bs None false is at = rw at tt

backslash_says : (b : ℕ) (bs : List ℕ) (v : Bool) → (b == 94) ≡ v → Says (cond v (y.Open x.Control) (by_letter b (escaped b))) [] b bs
backslash_says b bs true at = let same = eqb-true b 94 at in subst (λ (u : ℕ). IsBegun x.Control (u ∷ [])) (sym same) caret
backslash_says b bs false at = letter_says b bs (escaped b) (is_octal b) refl refl

caret_says : (b : ℕ) (bs : List ℕ) (low high : Bool) → nat_le 64 b ≡ low → nat_le b 95 ≡ high → Says (cond (low && high) (y.Closed (b - 64)) y.Wrong) (94 ∷ []) b bs
caret_says b bs true true low high = control (leb-true 64 b low) (leb-true b 95 high)
caret_says b bs true false low high = tt
caret_says b bs false high is also = tt

second_says : (b d : ℕ) (bs : List ℕ) (v : Bool) → is_octal b ≡ true → is_octal d ≡ v → Says (cond v (with_second (longer (b - 48) d)) (y.Over (b - 48))) (b ∷ []) d bs
second_says b d bs true is at = rw (longer_is (b - 48) d (omega (arith, two_small b d is at))) (two is at)
second_says b d bs false is at = one_digit is at

third_digit_says : (b d h : ℕ) (bs : List ℕ) (small : Bool) → is_octal b ≡ true → is_octal d ≡ true → is_octal h ≡ true → nat_le (8 * (8 * (b - 48) + (d - 48)) + (h - 48)) 255 ≡ small
    → Says (with_third (cond small (Some (8 * (8 * (b - 48) + (d - 48)) + (h - 48))) None)) (b ∷ d ∷ []) h bs
third_digit_says b d h bs true first second third at = three_digits first second third (leb-true _ 255 at)
third_digit_says b d h bs false first second third at = tt

third_says : (b d h : ℕ) (bs : List ℕ) (v : Bool) → is_octal b ≡ true → is_octal d ≡ true → is_octal h ≡ v
    → Says (cond v (with_third (longer (8 * (b - 48) + (d - 48)) h)) (y.Over (8 * (b - 48) + (d - 48)))) (b ∷ d ∷ []) h bs
third_says b d h bs true first second at = third_digit_says b d h bs (nat_le (8 * (8 * (b - 48) + (d - 48)) + (h - 48)) 255) first second at refl
third_says b d h bs false first second at = two_digits first second at

pub escape_says : (read : Escape) (es : List ℕ) (b : ℕ) (bs : List ℕ) → IsBegun read es → Says (escaping read b) es b bs
escape_says _ _ b bs nothing = backslash_says b bs (b == 94) refl
escape_says _ _ b bs caret = caret_says b bs (nat_le 64 b) (nat_le b 95) refl refl
escape_says _ _ b bs (one {b = a} is) = second_says a b bs (is_octal b) is refl
escape_says _ _ b bs (two {b = a} {d = d} first second) = third_says a d b bs (is_octal b) first second refl

-- some bytes end an escape
pub escape_finishes : (read : Escape) (es : List ℕ) (a : ℕ) → IsBegun read es → is_octal a ≡ false → (more : List ℕ) × (k : ℕ) × IsEscape (es ++ more) (a ∷ []) k
unfolding escaped
escape_finishes _ _ a nothing st = (98 ∷ [], 8, letter refl)
escape_finishes _ _ a caret st = (64 ∷ [], 0, control (omega arith) (omega arith))
escape_finishes _ _ a (one {b = b} is) st = ([], b - 48, one_digit is st)
escape_finishes _ _ a (two {b = b} {d = d} first second) st = ([], 8 * (b - 48) + (d - 48), two_digits first second st)

-- ---- between quotes

-- what is behind a front, where something else is put there
octal_behind : (raw bs more : List ℕ) → (EndsOctal bs → EndsOctal more) → EndsOctal (raw ++ bs) → EndsOctal (raw ++ more)
octal_behind [] bs more st h = st h
octal_behind (r ∷ raw) bs more st h = h

-- more bytes stand behind those between quotes
pub front_append : (quote : Quote) (raw text bs more added last : List ℕ) → IsFront quote raw text bs → IsFront quote more added last → (EndsOctal bs → EndsOctal (more ++ last)) → IsFront quote (raw ++ more) (text ++ added) last
front_append quote _ _ bs more added last empty d st = d
front_append quote _ _ bs more added last (byte {raw = raw} {text = text} p n r front) d st = byte p n r (front_append quote raw text bs more added last front d st)
front_append quote _ _ bs more added last (whole {b = b} {k = k} {es = es} {raw = raw} {text = text} is es_is front) d st =
    let rest = front_append quote raw text bs more added last front d st in
    let shape : (raw ++ more) ++ last ≡ raw ++ (more ++ last) = append_assoc raw more last in
    let here : IsEscape es ((raw ++ more) ++ last) k = escape_before es (raw ++ bs) ((raw ++ more) ++ last) k (λ h. subst EndsOctal (sym shape) (octal_behind raw bs (more ++ last) st h)) es_is in
    subst (λ (u : List ℕ). IsFront quote (b ∷ u) (k ∷ (text ++ added)) last) (sym (append_assoc es raw more)) (whole is here rest)

-- an escape does
pub front_escape : (quote : Quote) (raw text : List ℕ) (b : ℕ) (us es bs : List ℕ) (k : ℕ) → IsFront quote raw text (b ∷ us) → class_of b ≡ c.Backslash → IsEscape es bs k → IsFront quote (raw ++ b ∷ es) (text ++ k ∷ []) bs
front_escape quote raw text b us es bs k front is es_is =
    subst (λ (u : List ℕ). IsFront quote (raw ++ b ∷ u) (text ++ k ∷ []) bs) (append-nil es) (front_append quote raw text (b ∷ us) (b ∷ (es ++ [])) (k ∷ []) bs front (whole is es_is empty) (λ h. h))

-- a quote ends them
pub front_body : (quote : Quote) (raw text bs : List ℕ) (a : ℕ) → IsFront quote raw text bs → class_of a ≡ quote_class quote → IsBody (quote_class quote) (raw ++ a ∷ []) text
front_body quote _ _ bs a empty is = close is
front_body quote _ _ bs a (byte {raw = raw} {text = text} p n r front) is = plain p n r (front_body quote raw text bs a front is)
front_body quote _ _ bs a (whole {b = b} {k = k} {es = es} {raw = raw} {text = text} kb es_is front) is =
    let here : IsEscape es (raw ++ a ∷ []) k = escape_before es (raw ++ bs) (raw ++ a ∷ []) k (octal_behind raw bs (a ∷ []) (λ h. quote_no_octal quote a is)) es_is in
    subst (λ (u : List ℕ). IsBody (quote_class quote) (b ∷ u) (k ∷ text)) (sym (append_assoc es raw (a ∷ []))) (escape_in kb here (front_body quote raw text bs a front is))

pub quoted_is : (quote : Quote) (a : ℕ) (bs text rest : List ℕ) → class_of a ≡ quote_class quote → IsBody (quote_class quote) bs text → IsToken (a ∷ bs) rest (quoted_token quote text)
quoted_is q.Single a bs text rest is d = atom is d
quoted_is q.Double a bs text rest is d = string is d

pub quote_bare : (quote : Quote) (a : ℕ) → class_of a ≡ quote_class quote → (class_of a ≡ c.Space → ⊥) × (class_of a ≡ c.Percent → ⊥)
quote_bare q.Single a is = (λ h. cc (is, h), λ h. cc (is, h))
quote_bare q.Double a is = (λ h. cc (is, h), λ h. cc (is, h))
