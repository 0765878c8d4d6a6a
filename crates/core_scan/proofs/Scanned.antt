-- The scan gives the tokens of the text.
use Rattle.std.proofs.Common.{◌≡◌, ℕ, ◌+◌, ◌-◌, ◌*◌, true, List, [], ◌∷◌, ◌++◌, length, Option, Some, None, refl, sym, ap, subst, ◌∙◌, append_assoc, arith}
use Rattle.std.proofs.lemmas.List.{append-nil}
use Rattle.hy_core.specs.Bytes.{class_of, mark_of, plain_class, is_printable, is_lower, Pass}
use Rattle.hy_core.specs.Tokens.{keyword, escaped, letter, control, one_digit, two_digits, IsBody, IsToken, integer, signed, character, escape, variable, a_keyword, is_quoted, IsOpen, Lexes, done, comment, open_token}
use Rattle.core_scan.specs.code.Scan.{lexeme, quoted_token, stepped, worded_last, escape_ended, ended, scan}
use Rattle.core_scan.proofs.Found.{quote_class}
use Rattle.core_scan.proofs.Unfinished.{BeginsQuoted, Fine, IsBegun, IsFront, Reaches, caret, in_body, in_body_escape, in_comment, in_digits, in_dollar, in_dollar_escape, in_failure, in_gap, in_sign, in_signed, in_variable, in_keyword, none_found, not_open, nothing, one, placed, two}
use Rattle.core_scan.proofs.Escapes.{escape_finishes, front_body, front_escape, quote_no_octal, quoted_is}
use Rattle.core_scan.proofs.Stepped.{bad_at, sign_bare, step_owes, token_at}
use Rattle.hy_core.specs.declared.token.Symbol.{Symbol}
use Rattle.hy_core.specs.declared.token.ByteClass.TheVariants as c
use Rattle.hy_core.specs.declared.token.Sign.TheVariants as g
use Rattle.hy_core.specs.declared.token.Token.{Token}
use Rattle.hy_core.specs.declared.token.Token.TheVariants as t
use Rattle.hy_core.specs.declared.token.Lexeme.{Lexeme}
use Rattle.hy_core.specs.declared.token.Ending.{Ending}
use Rattle.hy_core.specs.declared.token.Ending.TheVariants as e
use Rattle.core_scan.specs.declared.state.Quote.{Quote}
use Rattle.core_scan.specs.declared.state.Quote.TheVariants as q
use Rattle.core_scan.specs.declared.state.Escape.{Escape}
use Rattle.core_scan.specs.declared.state.Escape.TheVariants as x
use Rattle.core_scan.specs.declared.state.State.{State}
use Rattle.core_scan.specs.declared.state.State.TheVariants as s

-- ---- the end of the text

-- some bytes end an atom, a string or a character
opens : (bs more : List ℕ) (a : ℕ) (k : Token) → is_quoted k ≡ true → IsToken (bs ++ (more ++ a ∷ [])) [] k → IsOpen bs
opens bs [] a k is d = (a, [], k, is, d)
opens bs (b ∷ more) a k is d = (b, more ++ a ∷ [], k, is, d)

quoted_kind : (quote : Quote) (text : List ℕ) → is_quoted (quoted_token quote text) ≡ true
quoted_kind q.Single text = refl
quoted_kind q.Double text = refl

body_opens : (quote : Quote) (a : ℕ) (raw text bs : List ℕ) → class_of a ≡ quote_class quote → IsFront quote raw text bs → IsOpen (a ∷ raw)
body_opens quote a raw text bs ka front = opens (a ∷ raw) [] a (quoted_token quote text) (quoted_kind quote text) (quoted_is quote a (raw ++ a ∷ []) text [] ka (front_body quote raw text bs a front ka))

body_escape_opens : (quote : Quote) (a e0 : ℕ) (raw es text bs : List ℕ) (read : Escape) → class_of a ≡ quote_class quote → IsFront quote raw text (e0 ∷ (es ++ bs)) → class_of e0 ≡ c.Backslash → IsBegun read es → IsOpen (a ∷ (raw ++ e0 ∷ es))
body_escape_opens quote a e0 raw es text bs read ka front kb begun_is =
    let (more, k, escape_is) = escape_finishes read es a begun_is (quote_no_octal quote a ka) in
    let all_text = text ++ k ∷ [] in
    let body = front_body quote (raw ++ e0 ∷ (es ++ more)) all_text (a ∷ []) a (front_escape quote raw text e0 (es ++ bs) (es ++ more) (a ∷ []) k front kb escape_is) ka in
    let shape : (raw ++ e0 ∷ (es ++ more)) ++ a ∷ [] ≡ (raw ++ e0 ∷ es) ++ (more ++ a ∷ []) =
    append_assoc raw (e0 ∷ (es ++ more)) (a ∷ []) ∙ ap (λ (u : List ℕ). raw ++ e0 ∷ u) (append_assoc es more (a ∷ [])) ∙ sym (append_assoc raw (e0 ∷ es) (more ++ a ∷ [])) in
    opens (a ∷ (raw ++ e0 ∷ es)) more a (quoted_token quote all_text) (quoted_kind quote all_text) (quoted_is quote a ((raw ++ e0 ∷ es) ++ (more ++ a ∷ [])) all_text [] ka (subst (λ (u : List ℕ). IsBody (quote_class quote) u all_text) shape body))

dollar_opens : (a : ℕ) → class_of a ≡ c.Dollar → IsOpen (a ∷ [])
unfolding class_of mark_of plain_class is_printable
dollar_opens a ka = (32, [], t.Character 32, refl, character ka refl (λ h. cc))

dollar_escape_opens : (a e0 : ℕ) (es : List ℕ) (read : Escape) → class_of a ≡ c.Dollar → class_of e0 ≡ c.Backslash → IsBegun read es → escape_ended 0 read ≡ ([], e.Open) → IsOpen (a ∷ e0 ∷ es)
unfolding escaped
dollar_escape_opens a e0 _ _ ka kb nothing is = (98, [], t.Character 8, refl, escape ka kb (letter refl))
dollar_escape_opens a e0 _ _ ka kb caret is = (64, [], t.Character 0, refl, escape ka kb (control (omega arith) (omega arith)))
dollar_escape_opens a e0 _ _ ka kb (one first) is = absurd (let bad = ap (λ (r : List Lexeme × Ending). r.1) is in cc)
dollar_escape_opens a e0 _ _ ka kb (two first second) is = absurd (let bad = ap (λ (r : List Lexeme × Ending). r.1) is in cc)

-- a state in which the text ends with nothing complete
open_at : (a : ℕ) (raw : List ℕ) (state : State) → Reaches (a ∷ raw) state → ((n : ℕ) → ended (placed n state) ≡ ([], e.Open)) → IsOpen (a ∷ raw) → Lexes (a ∷ raw) [] e.Open
unfolding scan
open_at a raw state reach is opened =
    let whole = append-nil (a ∷ raw) in
    let found : scan (a ∷ raw) s.Gap ≡ ([], e.Open) = subst (λ (u : List ℕ). scan u s.Gap ≡ ([], e.Open)) whole (reach [] ∙ is (length ((a ∷ raw) ++ []))) in
    open_token (none_found (a ∷ raw) e.Open found) opened

bad_end : (m a : ℕ) (raw : List ℕ) (state : State) → m ≡ length (a ∷ raw) → Reaches (a ∷ raw) state → ((n : ℕ) → ended (placed n state) ≡ ([], e.Bad n)) → (class_of a ≡ c.Space → ⊥) → (class_of a ≡ c.Percent → ⊥) → (BeginsQuoted (class_of a) → ⊥) → Lexes (a ∷ raw) [] (e.Bad m)
unfolding scan
bad_end m a raw state is reach ends gap remark bare =
    let n = length ((a ∷ raw) ++ []) in
    let found : scan (a ∷ raw) s.Gap ≡ ([], e.Bad n) = subst (λ (u : List ℕ). scan u s.Gap ≡ ([], e.Bad n)) (append-nil (a ∷ raw)) (reach [] ∙ ends n) in
    bad_at m a raw is (none_found (a ∷ raw) (e.Bad n) found) (not_open a raw bare) gap remark

-- a token ends with the text
last_at : (m : ℕ) (front : List ℕ) (k : Token) → m ≡ length front → IsToken front [] k → Lexes front (lexeme m k ∷ []) e.Clean
last_at m front k is d =
    let whole = append-nil front in
    subst (λ (u : List ℕ). Lexes u (lexeme m k ∷ []) e.Clean) whole (token_at m front [] k [] e.Clean (is ∙ ap length (sym whole)) d done)

word_ends : (m l : ℕ) (ls : List ℕ) (o : Option Symbol) → keyword (l ∷ ls) ≡ o → m ≡ length (l ∷ ls) → class_of l ≡ c.Lower → Pass is_lower ls → Reaches (l ∷ ls) (s.Keyword m (l ∷ ls)) → Lexes (l ∷ ls) (worded_last m o).0 (worded_last m o).1
word_ends m l ls None key is kl ps reach = bad_end m l ls (s.Keyword m (l ∷ ls)) is reach (λ n. rw key refl) (λ h. cc (kl, h)) (λ h. cc (kl, h)) (λ h. subst BeginsQuoted kl h)
word_ends m l ls (Some k) key is kl ps reach = last_at m (l ∷ ls) (t.Symbol k) is (a_keyword kl ps tt key)

character_ends : (m a e0 : ℕ) (es : List ℕ) (read : Escape) → m ≡ length (a ∷ e0 ∷ es) → class_of a ≡ c.Dollar → class_of e0 ≡ c.Backslash → IsBegun read es → Reaches (a ∷ e0 ∷ es) (s.CharacterEscape m read) → Lexes (a ∷ e0 ∷ es) (escape_ended m read).0 (escape_ended m read).1
character_ends m a e0 _ _ is ka kb nothing reach = open_at a (e0 ∷ []) (s.CharacterEscape m x.Begun) reach (λ n. refl) (dollar_escape_opens a e0 [] x.Begun ka kb nothing refl)
character_ends m a e0 _ _ is ka kb caret reach = open_at a (e0 ∷ 94 ∷ []) (s.CharacterEscape m x.Control) reach (λ n. refl) (dollar_escape_opens a e0 (94 ∷ []) x.Control ka kb caret refl)
character_ends m a e0 _ _ is ka kb (one {b = b} first) reach = last_at m (a ∷ e0 ∷ b ∷ []) (t.Character (b - 48)) is (escape ka kb (one_digit first tt))
character_ends m a e0 _ _ is ka kb (two {b = b} {d = d} first second) reach = last_at m (a ∷ e0 ∷ b ∷ d ∷ []) (t.Character (8 * (b - 48) + (d - 48))) is (escape ka kb (two_digits first second tt))

ended_gives : (state : State) (raw : List ℕ) → Fine state raw [] → Reaches raw state → Lexes (raw ++ []) (ended state).0 (ended state).1
ended_gives state raw fine reach = subst (λ (u : List ℕ). Lexes u (ended state).0 (ended state).1) (sym (append-nil raw)) (at state raw fine reach)
  where
    short : (m : ℕ) (u : List ℕ) → m ≡ length (u ++ []) → m ≡ length u
    short m u is = is ∙ ap length (append-nil u)

    at : (state : State) (raw : List ℕ) → Fine state raw [] → Reaches raw state → Lexes raw (ended state).0 (ended state).1
    at _ _ in_gap reach = done
    at _ _ (in_comment {b = b} {remark = remark} is ps) reach = subst (λ (u : List ℕ). Lexes (b ∷ u) [] e.Clean) (append-nil remark) (comment remark is ps tt done)
    at _ _ (in_sign {m = m} {b = a} {sign = sign} is kd) reach = let bare = sign_bare (class_of a) sign kd in bad_end m a [] (s.Signed m sign) is reach (λ n. refl) bare.0 bare.1 bare.2
    at _ _ (in_digits {m = m} {d = d} {ds = ds} is kd ps) reach = last_at m (d ∷ ds) (t.Integer g.Absent (d ∷ ds)) (short m (d ∷ ds) is) (integer kd ps tt)
    at _ _ (in_signed {m = m} {b = a} {d = d} {ds = ds} {sign = sign} is ka kd ps) reach = last_at m (a ∷ d ∷ ds) (t.Integer sign (d ∷ ds)) (short m (a ∷ d ∷ ds) is) (signed ka kd ps tt)
    at _ _ (in_variable {m = m} {u = u} {us = us} is ku ps) reach = last_at m (u ∷ us) (t.Variable (u ∷ us)) (short m (u ∷ us) is) (variable ku ps tt)
    at _ _ (in_keyword {m = m} {l = l} {ls = ls} is kl ps) reach = word_ends m l ls (keyword (l ∷ ls)) refl (short m (l ∷ ls) is) kl ps reach
    at _ _ (in_body {m = m} {a = a} {raw = raw} {text = text} {quote = quote} is ka front) reach = open_at a raw (s.Quoted m quote text) reach (λ n. refl) (body_opens quote a raw text [] ka front)
    at _ _ (in_body_escape {m = m} {a = a} {b = e0} {raw = raw} {es = es} {text = text} {quote = quote} {read = read} is ka front kb begun_is) reach =
        open_at a (raw ++ e0 ∷ es) (s.QuotedEscape m quote text read) reach (λ n. refl) (body_escape_opens quote a e0 raw es text [] read ka front kb begun_is)
    at _ _ (in_dollar {m = m} {a = a} is ka) reach = open_at a [] (s.Character m) reach (λ n. refl) (dollar_opens a ka)
    at _ _ (in_dollar_escape {m = m} {a = a} {b = e0} {es = es} {read = read} is ka kb begun_is) reach = character_ends m a e0 es read (short m (a ∷ e0 ∷ es) is) ka kb begun_is reach
    at _ raw (in_failure {m = m} bad) reach = subst (λ (u : List ℕ). Lexes u [] (e.Bad m)) (append-nil raw) bad

-- ---- the whole text

scan_gives : (bs : List ℕ) (state : State) (raw : List ℕ) → Fine state raw bs → Reaches raw state → Lexes (raw ++ bs) (scan bs state).0 (scan bs state).1
unfolding scan
scan_gives [] state raw fine reach = ended_gives state raw fine reach
scan_gives (b ∷ bs) state raw fine reach =
    let (next, next_fine, next_reach, means) = step_owes state raw b bs fine reach in
    let follows = (stepped (length (b ∷ bs)) state b).0 in
    means (scan bs follows).0 (scan bs follows).1 (scan_gives bs follows next next_fine next_reach)

-- the scan gives the tokens of the text
pub scan_lexes : (bs : List ℕ) → Lexes bs (scan bs s.Gap).0 (scan bs s.Gap).1
scan_lexes bs = scan_gives bs s.Gap [] in_gap (λ rest. refl)
