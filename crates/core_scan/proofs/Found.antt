-- The scan finds each token that stands in front.
use Rattle.std.proofs.Common.{◌≡◌, ℕ, suc, ◌+◌, ◌-◌, ◌*◌, ◌≤◌, Bool, true, false, ◌==◌, List, [], ◌∷◌, ◌++◌, length, Some, None, refl, sym, ap, ◌∙◌, append_assoc, arith}
use Rattle.std.proofs.lemmas.List.{append-nil}
use Rattle.std.proofs.lemmas.Bool.{eqb-true, le-leb}
use Rattle.std.proofs.lemmas.Bool.Decides.{nat_tests}
use Rattle.hy_core.specs.Bytes.{class_of, is_printable, is_octal, is_digit, is_lower, is_variable_part, Pass, Stops}
use Rattle.hy_core.specs.Tokens.{keyword, sign_of, mark_behind_minus, escaped, EndsOctal, IsEscape, letter, control, one_digit, two_digits, three_digits, IsBody, close, plain, escape as escape_in, IsToken, integer, signed, character, escape, atom, string, variable, a_keyword, mark, mark_of_two}
use Rattle.core_scan.specs.code.Scan.{lexeme, quoted_token, longer, after_backslash, escaping, escape_ended, begun, after_sign, closes, inside, in_quotes, in_character, stepped, scan}
use Rattle.hy_core.specs.declared.token.Symbol.{Symbol}
use Rattle.hy_core.specs.declared.token.ByteClass.{ByteClass}
use Rattle.hy_core.specs.declared.token.ByteClass.TheVariants as c
use Rattle.hy_core.specs.declared.token.Sign.{Sign}
use Rattle.hy_core.specs.declared.token.Sign.TheVariants as g
use Rattle.hy_core.specs.declared.token.Token.{Token}
use Rattle.hy_core.specs.declared.token.Token.TheVariants as t
use Rattle.hy_core.specs.declared.token.Lexeme.{Lexeme}
use Rattle.hy_core.specs.declared.token.Ending.{Ending}
use Rattle.hy_core.specs.declared.token.Ending.TheVariants as e
use Rattle.core_scan.specs.declared.state.Quote.{Quote}
use Rattle.core_scan.specs.declared.state.Quote.TheVariants as q
use Rattle.core_scan.specs.declared.state.Escape.{Escape}
use Rattle.core_scan.specs.declared.state.Escape.TheVariants as x
use Rattle.core_scan.specs.declared.state.Escaping.TheVariants as y
use Rattle.core_scan.specs.declared.state.State.{State}
use Rattle.core_scan.specs.declared.state.State.TheVariants as s

abbrev pub Scanned : Type 0
Scanned = List Lexeme × Ending

-- a token before what is scanned behind it
abbrev pub before : ℕ → Token → Scanned → Scanned
before m k r = (lexeme m k ∷ r.0, r.1)

-- a byte completes no token
pub moves : (b : ℕ) (bs : List ℕ) (state next : State) → stepped (length (b ∷ bs)) state b ≡ (next, []) → scan (b ∷ bs) state ≡ scan bs next
unfolding scan
moves b bs state next is = rw is refl

-- ---- a run of bytes and what stops it

run_integer : (ds rest xs : List ℕ) (m : ℕ) (sign : Sign) → Pass is_digit ds → Stops is_digit rest → scan (ds ++ rest) (s.Integer m sign xs) ≡ before m (t.Integer sign (xs ++ ds)) (scan rest s.Gap)
unfolding scan
run_integer [] [] xs m sign p st = rw (append-nil xs) refl
run_integer [] (b ∷ bs) xs m sign p st = rw (append-nil xs, st) refl
run_integer (d ∷ ds) rest xs m sign p st = rw (p.0) (run_integer ds rest (xs ++ d ∷ []) m sign p.1 st ∙ ap (λ (u : List ℕ). before m (t.Integer sign u) (scan rest s.Gap)) (append_assoc xs (d ∷ []) ds))

run_variable : (us rest xs : List ℕ) (m : ℕ) → Pass is_variable_part us → Stops is_variable_part rest → scan (us ++ rest) (s.Variable m xs) ≡ before m (t.Variable (xs ++ us)) (scan rest s.Gap)
unfolding scan
run_variable [] [] xs m p st = rw (append-nil xs) refl
run_variable [] (b ∷ bs) xs m p st = rw (append-nil xs, st) refl
run_variable (d ∷ us) rest xs m p st = rw (p.0) (run_variable us rest (xs ++ d ∷ []) m p.1 st ∙ ap (λ (u : List ℕ). before m (t.Variable u) (scan rest s.Gap)) (append_assoc xs (d ∷ []) us))

run_word : (ls rest xs : List ℕ) (m : ℕ) (k : Symbol) → Pass is_lower ls → Stops is_lower rest → keyword (xs ++ ls) ≡ Some k → scan (ls ++ rest) (s.Keyword m xs) ≡ before m (t.Symbol k) (scan rest s.Gap)
unfolding scan
run_word [] [] xs m k p st is = let here : keyword xs ≡ Some k = ap keyword (sym (append-nil xs)) ∙ is in rw here refl
run_word [] (b ∷ bs) xs m k p st is = let here : keyword xs ≡ Some k = ap keyword (sym (append-nil xs)) ∙ is in rw (st, here) refl
run_word (l ∷ ls) rest xs m k p st is = rw (p.0) (run_word ls rest (xs ++ l ∷ []) m k p.1 st (ap keyword (append_assoc xs (l ∷ []) ls) ∙ is))

-- ---- an escape

pub octal_bounds : (b : ℕ) → is_octal b ≡ true → (48 ≤ b) × (b ≤ 55)
unfolding is_octal
octal_bounds b h = grind (arith, nat_tests, h)

caret_no_letter : (b : ℕ) → (b == 94) ≡ true → escaped b ≡ None
unfolding escaped
caret_no_letter b h = let is : b ≡ 94 = eqb-true b 94 h in rw is refl

octal_no_letter : (b : ℕ) → is_octal b ≡ true → escaped b ≡ None
unfolding escaped
octal_no_letter b h = grind (arith, nat_tests, octal_bounds b h)

octal_no_caret : (b : ℕ) → is_octal b ≡ true → (b == 94) ≡ false
octal_no_caret b h = grind (arith, nat_tests, octal_bounds b h)

letter_read : (b k : ℕ) → escaped b ≡ Some k → after_backslash b ≡ y.Closed k
letter_read b k is = at (b == 94) refl
  where
    at : (v : Bool) → (b == 94) ≡ v → after_backslash b ≡ y.Closed k
    at true h = absurd (let none = caret_no_letter b h in cc)
    at false h = rw (h, is) refl

first_read : (b : ℕ) → is_octal b ≡ true → after_backslash b ≡ y.Open (x.OneDigit (b - 48))
first_read b is = rw (octal_no_caret b is, octal_no_letter b is, is) refl

control_read : (b : ℕ) → 64 ≤ b → b ≤ 95 → escaping x.Control b ≡ y.Closed (b - 64)
control_read b low high = rw (le-leb 64 b low, le-leb b 95 high) refl

pub longer_is : (value b : ℕ) → 8 * value + (b - 48) ≤ 255 → longer value b ≡ Some (8 * value + (b - 48))
longer_is value b small = rw (le-leb (8 * value + (b - 48)) 255 small) refl

pub two_small : (b d : ℕ) → is_octal b ≡ true → is_octal d ≡ true → 8 * (b - 48) + (d - 48) ≤ 63
two_small b d one two = omega (arith, octal_bounds b one, octal_bounds d two)

second_read : (b d : ℕ) → is_octal b ≡ true → is_octal d ≡ true → escaping (x.OneDigit (b - 48)) d ≡ y.Open (x.TwoDigits (8 * (b - 48) + (d - 48)))
second_read b d one two = rw (two, longer_is (b - 48) d (omega (arith, two_small b d one two))) refl

third_read : (value h : ℕ) → is_octal h ≡ true → 8 * value + (h - 48) ≤ 255 → escaping (x.TwoDigits value) h ≡ y.Closed (8 * value + (h - 48))
third_read value h is small = rw (is, longer_is value h small) refl

-- what the escape of a character ends before
character_over : (rest : List ℕ) (m k : ℕ) (read : Escape) → ((b : ℕ) → is_octal b ≡ false → escaping read b ≡ y.Over k) → escape_ended m read ≡ (lexeme m (t.Character k) ∷ [], e.Clean) → EndsOctal rest
    → scan rest (s.CharacterEscape m read) ≡ before m (t.Character k) (scan rest s.Gap)
unfolding scan
character_over [] m k read over last st = last
character_over (b ∷ bs) m k read over last st = rw (over b st) refl

run_character : (es rest : List ℕ) (m k : ℕ) → IsEscape es rest k → scan (es ++ rest) (s.CharacterEscape m x.Begun) ≡ before m (t.Character k) (scan rest s.Gap)
unfolding scan
run_character _ rest m _ (letter {b = b} {k = k} is) = rw (letter_read b k is) refl
run_character _ rest m _ (control {b = b} low high) = rw (control_read b low high) refl
run_character _ rest m _ (one_digit {b = b} one st) = rw (first_read b one) (character_over rest m (b - 48) (x.OneDigit (b - 48)) (λ r h. rw h refl) refl st)
run_character _ rest m _ (two_digits {b = b} {d = d} one two st) =
    rw (first_read b one, second_read b d one two) (character_over rest m (8 * (b - 48) + (d - 48)) (x.TwoDigits (8 * (b - 48) + (d - 48))) (λ r h. rw h refl) refl st)
run_character _ rest m _ (three_digits {b = b} {d = d} {h = h} one two three small) =
    rw (first_read b one, second_read b d one two, third_read (8 * (b - 48) + (d - 48)) h three small) refl

-- an escape between quotes ends before a byte
quoted_over : (b : ℕ) (bs text : List ℕ) (m k : ℕ) (quote : Quote) (read : Escape) → escaping read b ≡ y.Over k → scan (b ∷ bs) (s.QuotedEscape m quote text read) ≡ scan (b ∷ bs) (s.Quoted m quote (text ++ k ∷ []))
unfolding scan
quoted_over b bs text m k quote read over = rw over refl

quoted_open : (b : ℕ) (bs text : List ℕ) (m : ℕ) (quote : Quote) (read next : Escape) → escaping read b ≡ y.Open next → scan (b ∷ bs) (s.QuotedEscape m quote text read) ≡ scan bs (s.QuotedEscape m quote text next)
unfolding scan
quoted_open b bs text m quote read next is = rw is refl

quoted_closed : (b : ℕ) (bs text : List ℕ) (m k : ℕ) (quote : Quote) (read : Escape) → escaping read b ≡ y.Closed k → scan (b ∷ bs) (s.QuotedEscape m quote text read) ≡ scan bs (s.Quoted m quote (text ++ k ∷ []))
unfolding scan
quoted_closed b bs text m k quote read is = rw is refl

run_escape : (es : List ℕ) (r : ℕ) (u text : List ℕ) (m k : ℕ) (quote : Quote) → IsEscape es (r ∷ u) k → scan (es ++ r ∷ u) (s.QuotedEscape m quote text x.Begun) ≡ scan (r ∷ u) (s.Quoted m quote (text ++ k ∷ []))
run_escape _ r u text m _ quote (letter {b = b} {k = k} is) = quoted_closed b (r ∷ u) text m k quote x.Begun (letter_read b k is)
run_escape _ r u text m _ quote (control {b = b} low high) =
    quoted_open 94 (b ∷ r ∷ u) text m quote x.Begun x.Control refl ∙ quoted_closed b (r ∷ u) text m (b - 64) quote x.Control (control_read b low high)
run_escape _ r u text m _ quote (one_digit {b = b} one st) =
    let first = x.OneDigit (b - 48) in
    quoted_open b (r ∷ u) text m quote x.Begun first (first_read b one) ∙ quoted_over r u text m (b - 48) quote first (rw st refl)
run_escape _ r u text m _ quote (two_digits {b = b} {d = d} one two st) =
    let first = x.OneDigit (b - 48) in
    let value = 8 * (b - 48) + (d - 48) in
    let second = x.TwoDigits value in
    quoted_open b (d ∷ r ∷ u) text m quote x.Begun first (first_read b one) ∙ quoted_open d (r ∷ u) text m quote first second (second_read b d one two) ∙ quoted_over r u text m value quote second (rw st refl)
run_escape _ r u text m _ quote (three_digits {b = b} {d = d} {h = h} one two three small) =
    let first = x.OneDigit (b - 48) in
    let value = 8 * (b - 48) + (d - 48) in
    let second = x.TwoDigits value in
    quoted_open b (d ∷ h ∷ r ∷ u) text m quote x.Begun first (first_read b one) ∙ quoted_open d (h ∷ r ∷ u) text m quote first second (second_read b d one two)
    ∙ quoted_closed h (r ∷ u) text m (8 * value + (h - 48)) quote second (third_read value h three small)

-- ---- between quotes

-- the class of the bytes that stand on both sides
abbrev pub quote_class : Quote → ByteClass
quote_class q.Single = c.Quote
quote_class q.Double = c.DoubleQuote

pub closes_own : (quote : Quote) (k : ByteClass) → k ≡ quote_class quote → closes quote k ≡ true
closes_own q.Single k is = rw is refl
closes_own q.Double k is = rw is refl

pub closes_is : (quote : Quote) (k : ByteClass) → closes quote k ≡ true → k ≡ quote_class quote
closes_is q.Single c.Quote is = refl
closes_is q.Single _ is = absurd cc
closes_is q.Double c.DoubleQuote is = refl
closes_is q.Double _ is = absurd cc

closes_not : (quote : Quote) (k : ByteClass) → (k ≡ quote_class quote → ⊥) → closes quote k ≡ false
closes_not q.Single c.Quote not = absurd (not refl)
closes_not q.Single _ not = refl
closes_not q.Double c.DoubleQuote not = absurd (not refl)
closes_not q.Double _ not = refl

no_quote_escapes : (quote : Quote) → c.Backslash ≡ quote_class quote → ⊥
no_quote_escapes q.Single is = cc
no_quote_escapes q.Double is = cc

inside_plain : (m : ℕ) (quote : Quote) (text : List ℕ) (b : ℕ) (k : ByteClass) → is_printable b ≡ true → (k ≡ c.Backslash → ⊥) → inside m quote text b k (is_printable b) ≡ (s.Quoted m quote (text ++ b ∷ []), [])
inside_plain m quote text b c.Backslash p not = absurd (not refl)
inside_plain m quote text b _ p not = rw p refl

in_quotes_closes : (m : ℕ) (quote : Quote) (text : List ℕ) (b : ℕ) → class_of b ≡ quote_class quote → in_quotes m quote text b ≡ (s.Gap, lexeme m (quoted_token quote text) ∷ [])
in_quotes_closes m quote text b is = rw (closes_own quote (class_of b) is) refl

in_quotes_plain : (m : ℕ) (quote : Quote) (text : List ℕ) (b : ℕ) → is_printable b ≡ true → (class_of b ≡ quote_class quote → ⊥) → (class_of b ≡ c.Backslash → ⊥) → in_quotes m quote text b ≡ (s.Quoted m quote (text ++ b ∷ []), [])
in_quotes_plain m quote text b p no_quote no_escape = rw (closes_not quote (class_of b) no_quote) (inside_plain m quote text b (class_of b) p no_escape)

in_quotes_escape : (m : ℕ) (quote : Quote) (text : List ℕ) (b : ℕ) → class_of b ≡ c.Backslash → in_quotes m quote text b ≡ (s.QuotedEscape m quote text x.Begun, [])
in_quotes_escape m quote text b is = rw (closes_not quote (class_of b) (λ h. no_quote_escapes quote (sym is ∙ h)), is) refl

-- what stands behind a body is no part of its escapes
pub escape_before : (es bs more : List ℕ) (k : ℕ) → (EndsOctal bs → EndsOctal more) → IsEscape es bs k → IsEscape es more k
escape_before _ bs more _ st (letter is) = letter is
escape_before _ bs more _ st (control low high) = control low high
escape_before _ bs more _ st (one_digit one ends) = one_digit one (st ends)
escape_before _ bs more _ st (two_digits one two ends) = two_digits one two (st ends)
escape_before _ bs more _ st (three_digits one two three small) = three_digits one two three small

run_in_body : (kind : ByteClass) (es bs z rest text : List ℕ) (m k : ℕ) (quote : Quote) → IsEscape es bs k → IsBody kind bs z
    → scan (es ++ (bs ++ rest)) (s.QuotedEscape m quote text x.Begun) ≡ scan (bs ++ rest) (s.Quoted m quote (text ++ k ∷ []))
run_in_body kind es _ _ rest text m k quote is (close {q = b} kd) = run_escape es b rest text m k quote (escape_before es _ _ k (λ h. h) is)
run_in_body kind es _ _ rest text m k quote is (plain {b = b} {bs = bs} p n r d) = run_escape es b (bs ++ rest) text m k quote (escape_before es _ _ k (λ h. h) is)
run_in_body kind es _ _ rest text m k quote is (escape_in {b = b} {es = fs} {bs = bs} kd fs_is d) = run_escape es b ((fs ++ bs) ++ rest) text m k quote (escape_before es _ _ k (λ h. h) is)

run_quoted : (kind : ByteClass) (bs z rest text : List ℕ) (m : ℕ) (quote : Quote) → kind ≡ quote_class quote → IsBody kind bs z → scan (bs ++ rest) (s.Quoted m quote text) ≡ before m (quoted_token quote (text ++ z)) (scan rest s.Gap)
unfolding scan
run_quoted kind _ _ rest text m quote own (close {q = b} is) = rw (in_quotes_closes m quote text b (is ∙ own), append-nil text) refl
run_quoted kind _ _ rest text m quote own (plain {b = b} {bs = bs} {x = z} p n r d) =
    let one = in_quotes_plain m quote text b p (λ h. n (h ∙ sym own)) r in
    rw one (run_quoted kind bs z rest (text ++ b ∷ []) m quote own d ∙ ap (λ (u : List ℕ). before m (quoted_token quote u) (scan rest s.Gap)) (append_assoc text (b ∷ []) z))
run_quoted kind _ _ rest text m quote own (escape_in {b = b} {k = k} {es = es} {bs = bs} {x = z} is es_is d) =
    rw (in_quotes_escape m quote text b is, append_assoc es bs rest) (
    run_in_body kind es bs z rest text m k quote es_is d ∙ run_quoted kind bs z rest (text ++ k ∷ []) m quote own d
    ∙ ap (λ (u : List ℕ). before m (quoted_token quote u) (scan rest s.Gap)) (append_assoc text (k ∷ []) z)
    )

-- ---- a token

sign_begun : (n b : ℕ) (k : ByteClass) (sign : Sign) → sign_of k ≡ Some sign → begun n b k ≡ (s.Signed n sign, [])
sign_begun n b c.Plus sign is = let same : g.Plus ≡ sign = cc in ap (λ (u : Sign). (s.Signed n u, [])) same
sign_begun n b c.Minus sign is = let same : g.Minus ≡ sign = cc in ap (λ (u : Sign). (s.Signed n u, [])) same
sign_begun n b _ sign is = absurd cc

character_plain : (m b : ℕ) (k : ByteClass) → is_printable b ≡ true → (k ≡ c.Backslash → ⊥) → in_character m b k (is_printable b) ≡ (s.Gap, lexeme m (t.Character b) ∷ [])
character_plain m b c.Backslash p not = absurd (not refl)
character_plain m b _ p not = rw p refl

minus_marked : (m b : ℕ) (k : ByteClass) (mark_is : Symbol) → mark_behind_minus k ≡ Some mark_is → after_sign m g.Minus b k ≡ (s.Gap, lexeme m (t.Symbol mark_is) ∷ [])
minus_marked m b (c.Mark k) mark_is is = rw is refl
minus_marked m b _ mark_is is = absurd cc

pub scan_token : (front rest : List ℕ) (k : Token) → IsToken front rest k → scan (front ++ rest) s.Gap ≡ before (length (front ++ rest)) k (scan rest s.Gap)
unfolding scan
scan_token _ rest _ (integer {d = d} {ds = ds} k p st) = rw k (run_integer ds rest (d ∷ []) (suc (length (ds ++ rest))) g.Absent p st)
scan_token _ rest _ (signed {b = b} {d = d} {ds = ds} {sign = sign} is k p st) =
    let one = sign_begun (suc (suc (length (ds ++ rest)))) b (class_of b) sign is in
    rw (one, k) (run_integer ds rest (d ∷ []) (suc (suc (length (ds ++ rest)))) sign p st)
scan_token _ rest _ (character {q = a} {b = b} k p not) = rw (k, character_plain (suc (suc (length rest))) b (class_of b) p not) refl
scan_token _ rest _ (escape {q = a} {b = b} {k = k} {es = es} kd is es_is) = rw (kd, is) (run_character es rest (suc (suc (length (es ++ rest)))) k es_is)
scan_token _ rest _ (atom {q = a} {bs = bs} {x = text} k d) = rw k (run_quoted c.Quote bs text rest [] (suc (length (bs ++ rest))) q.Single refl d)
scan_token _ rest _ (string {q = a} {bs = bs} {x = text} k d) = rw k (run_quoted c.DoubleQuote bs text rest [] (suc (length (bs ++ rest))) q.Double refl d)
scan_token _ rest _ (variable {u = u} {us = us} k p st) = rw k (run_variable us rest (u ∷ []) (suc (length (us ++ rest))) p st)
scan_token _ rest _ (a_keyword {l = l} {ls = ls} {k = j} k p st is) = rw k (run_word ls rest (l ∷ []) (suc (length (ls ++ rest))) j p st is)
scan_token _ rest _ (mark k) = rw k refl
scan_token _ rest _ (mark_of_two {b = b} {m = a} {k = j} is k) = rw (is, minus_marked (suc (suc (length rest))) a (class_of a) j k) refl
