-- What one byte makes of an unfinished token.
use Rattle.std.proofs.Common.{◌≡◌, ℕ, Bool, true, false, cond, ◌==◌, List, [], ◌∷◌, ◌++◌, length, Option, Some, None, refl, sym, ap, subst, ◌∙◌, append_assoc}
use Rattle.std.proofs.lemmas.Bool.{eqb-true, eqb-false}
use Rattle.hy_core.specs.Bytes.{class_of, mark_of, plain_class, is_printable, is_digit, is_lower, is_variable_part, Pass}
use Rattle.hy_core.specs.Tokens.{keyword, sign_of, mark_behind_minus, IsToken, integer, signed, character, escape, variable, a_keyword, mark, mark_of_two, IsOpen, HasNoToken, IsRemark, Lexes, space, comment, token, no_token}
use Rattle.core_scan.specs.code.Scan.{Step, lexeme, behind, quoted_token, escaping, begun, marked, after_sign, worded, closes, inside, in_quotes, in_quoted_escape, in_character, in_character_escape, stepped, scan}
use Rattle.core_scan.proofs.Found.{closes_is, closes_own, moves, quote_class}
use Rattle.core_scan.proofs.Unfinished.{BeginsQuoted, Fine, IsDead, IsFront, Reaches, byte, dead_closed, empty, in_body, in_body_escape, in_comment, in_digits, in_dollar, in_dollar_escape, in_failure, in_gap, in_sign, in_signed, in_variable, in_keyword, none_found, not_open, nothing, placed}
use Rattle.core_scan.proofs.Escapes.{Says, escape_says, front_append, front_body, front_escape, quote_bare, quoted_is}
use Rattle.hy_core.specs.declared.token.Symbol.{Symbol}
use Rattle.hy_core.specs.declared.token.ByteClass.{ByteClass}
use Rattle.hy_core.specs.declared.token.ByteClass.TheVariants as c
use Rattle.hy_core.specs.declared.token.Sign.{Sign}
use Rattle.hy_core.specs.declared.token.Sign.TheVariants as g
use Rattle.hy_core.specs.declared.token.Token.{Token}
use Rattle.hy_core.specs.declared.token.Token.TheVariants as t
use Rattle.hy_core.specs.declared.token.Lexeme.{Lexeme}
use Rattle.hy_core.specs.declared.token.Ending.{Ending}
use Rattle.hy_core.specs.declared.token.Ending.TheVariants as e
use Rattle.core_scan.specs.declared.state.Quote.{Quote}
use Rattle.core_scan.specs.declared.state.Quote.TheVariants as q
use Rattle.core_scan.specs.declared.state.Escape.{Escape}
use Rattle.core_scan.specs.declared.state.Escape.TheVariants as x
use Rattle.core_scan.specs.declared.state.Escaping.{Escaping}
use Rattle.core_scan.specs.declared.state.Escaping.TheVariants as y
use Rattle.core_scan.specs.declared.state.State.{State}
use Rattle.core_scan.specs.declared.state.State.TheVariants as s

-- ---- one byte

-- one byte moves to the unfinished token
moved_byte : (ds : List ℕ) (b : ℕ) (bs : List ℕ) → (ds ++ b ∷ []) ++ bs ≡ ds ++ b ∷ bs
moved_byte ds b bs = append_assoc ds (b ∷ []) bs

-- a byte completes no token, wherever the token begins
abbrev pub Goes : State → ℕ → State → Type 0
Goes state b next = (n m : ℕ) → stepped n (placed m state) b ≡ (placed m next, [])

reaches_next : (raw : List ℕ) (b : ℕ) (state next : State) → Reaches raw state → Goes state b next → Reaches (raw ++ b ∷ []) next
reaches_next raw b state next reach goes rest =
    let m = length (raw ++ b ∷ rest) in
    subst (λ (u : List ℕ). scan u s.Gap ≡ scan rest (placed (length u) next)) (sym (moved_byte raw b rest)) (reach (b ∷ rest) ∙ moves b rest (placed m state) (placed m next) (goes (length (b ∷ rest)) m))

-- what a step from this state, with these bytes read, owes
abbrev pub Owes : List ℕ → ℕ → List ℕ → Step → Type 0
Owes raw b bs r = (next : List ℕ) × Fine r.0 next bs × Reaches next r.0 × ((ls : List Lexeme) (end : Ending) → Lexes (next ++ bs) ls end → Lexes (raw ++ b ∷ bs) (r.1 ++ ls) end)

-- the token goes on
goes_on : (raw : List ℕ) (b : ℕ) (bs : List ℕ) (state next : State) → Reaches raw state → Goes state b next → Fine next (raw ++ b ∷ []) bs → Owes raw b bs (next, [])
goes_on raw b bs state next reach goes fine = (raw ++ b ∷ [], fine, reaches_next raw b state next reach goes, λ ls end h. subst (λ (u : List ℕ). Lexes u ls end) (moved_byte raw b bs) h)

-- a token, with what is left where it begins
pub token_at : (m : ℕ) (front rest : List ℕ) (k : Token) (ls : List Lexeme) (end : Ending) → m ≡ length (front ++ rest) → IsToken front rest k → Lexes rest ls end → Lexes (front ++ rest) (lexeme m k ∷ ls) end
token_at m front rest k ls end is d more = subst (λ (n : ℕ). Lexes (front ++ rest) (lexeme n k ∷ ls) end) (sym is) (token d more)

-- the token is complete with this byte
pub completes : (raw : List ℕ) (b : ℕ) (bs : List ℕ) (m : ℕ) (k : Token) → m ≡ length (raw ++ b ∷ bs) → IsToken (raw ++ b ∷ []) bs k → Owes raw b bs (s.Gap, lexeme m k ∷ [])
completes raw b bs m k is d =
    let whole = moved_byte raw b bs in
    ([], in_gap, λ rest. refl, λ ls end h. subst (λ (u : List ℕ). Lexes u (lexeme m k ∷ ls) end) whole (token_at m (raw ++ b ∷ []) bs k ls end (is ∙ ap length (sym whole)) d h))

-- the token is complete before this byte
completes_before : (raw : List ℕ) (b : ℕ) (bs : List ℕ) (m : ℕ) (k : Token) (r : Step) → m ≡ length (raw ++ b ∷ bs) → IsToken raw (b ∷ bs) k → Owes [] b bs r → Owes raw b bs (behind m k r)
completes_before raw b bs m k r is d (next, fine, reach, means) = (next, fine, reach, λ ls end h. token_at m raw (b ∷ bs) k (r.1 ++ ls) end is d (means ls end h))

-- a byte that begins no token, or one that stays unfinished
pub bad_at : (m a : ℕ) (u : List ℕ) → m ≡ length (a ∷ u) → HasNoToken (a ∷ u) → (IsOpen (a ∷ u) → ⊥) → (class_of a ≡ c.Space → ⊥) → (class_of a ≡ c.Percent → ⊥) → Lexes (a ∷ u) [] (e.Bad m)
bad_at m a u is none closed gap remark = subst (λ (n : ℕ). Lexes (a ∷ u) [] (e.Bad n)) (sym is) (no_token none closed gap remark)

stays_failed : (u : List ℕ) (n : ℕ) → scan u (s.Failed n) ≡ ([], e.Bad n)
unfolding scan
stays_failed [] n = refl
stays_failed (d ∷ u) n = rw (stays_failed u n) refl

-- no token begins so
fails : (a : ℕ) (raw : List ℕ) (b : ℕ) (bs : List ℕ) (m : ℕ) (state : State) → m ≡ length ((a ∷ raw) ++ b ∷ bs) → (class_of a ≡ c.Space → ⊥) → (class_of a ≡ c.Percent → ⊥) → Reaches (a ∷ raw) state → Goes state b (s.Failed m) → Owes (a ∷ raw) b bs (s.Failed m, [])
fails a raw b bs m state is gap remark reach goes =
    let next = (a ∷ raw) ++ b ∷ [] in
    let arrived = reaches_next (a ∷ raw) b state (s.Failed m) reach goes in
    let dead : IsDead (next ++ bs) = λ more. (length (next ++ (bs ++ more)), rw (append_assoc next bs more) (arrived (bs ++ more) ∙ stays_failed (bs ++ more) (length (next ++ (bs ++ more))))) in
    let first : scan (next ++ bs) s.Gap ≡ ([], e.Bad (length (next ++ bs))) = arrived bs ∙ stays_failed bs (length (next ++ bs)) in
    let none = none_found (next ++ bs) (e.Bad (length (next ++ bs))) first in
    goes_on (a ∷ raw) b bs state (s.Failed m) reach goes (in_failure (bad_at m a ((raw ++ b ∷ []) ++ bs) (is ∙ ap length (sym (moved_byte (a ∷ raw) b bs))) none (dead_closed (next ++ bs) dead) gap remark))

moved_length : (m : ℕ) (raw : List ℕ) (b : ℕ) (bs : List ℕ) → m ≡ length (raw ++ b ∷ bs) → m ≡ length ((raw ++ b ∷ []) ++ bs)
moved_length m raw b bs is = is ∙ ap length (sym (moved_byte raw b bs))

-- ---- a byte behind a token

-- a token begins
pub begins : (b : ℕ) (bs : List ℕ) (next : State) → ((n : ℕ) → begun n b (class_of b) ≡ (placed n next, [])) → Fine next (b ∷ []) bs → Owes [] b bs (next, [])
begins b bs next is fine = (b ∷ [], fine, λ rest. moves b rest s.Gap (placed (length (b ∷ rest)) next) (is (length (b ∷ rest))), λ ls end h. h)

begun_bad : (b : ℕ) (bs : List ℕ) (k : ByteClass) → class_of b ≡ k → ((n : ℕ) → begun n b k ≡ (s.Failed n, [])) → (BeginsQuoted k → ⊥) → (k ≡ c.Space → ⊥) → (k ≡ c.Percent → ⊥) → Owes [] b bs (s.Failed (length (b ∷ bs)), [])
begun_bad b bs k is bad quoted gap remark =
    let n = length (b ∷ bs) in
    let step : (j : ℕ) → begun j b (class_of b) ≡ (s.Failed j, []) = λ j. ap (begun j b) is ∙ bad j in
    let failed : scan (b ∷ bs) s.Gap ≡ ([], e.Bad n) = moves b bs s.Gap (s.Failed n) (step n) ∙ stays_failed bs n in
    begins b bs (s.Failed n) step (in_failure (bad_at n b bs refl (none_found (b ∷ bs) (e.Bad n) failed) (not_open b bs (λ h. quoted (subst BeginsQuoted is h))) (λ h. gap (sym is ∙ h)) (λ h. remark (sym is ∙ h))))

begun_owes : (b : ℕ) (bs : List ℕ) (k : ByteClass) → class_of b ≡ k → Owes [] b bs (begun (length (b ∷ bs)) b k)
begun_owes b bs c.Space is = ([], in_gap, λ rest. refl, λ ls end h. space is h)
begun_owes b bs c.Percent is = begins b bs s.Comment (λ n. rw is refl) (in_comment is tt)
begun_owes b bs c.Digit is = begins b bs (s.Integer (length (b ∷ bs)) g.Absent (b ∷ [])) (λ n. rw is refl) (in_digits refl is tt)
begun_owes b bs c.Plus is = begins b bs (s.Signed (length (b ∷ bs)) g.Plus) (λ n. rw is refl) (in_sign refl (rw is refl))
begun_owes b bs c.Minus is = begins b bs (s.Signed (length (b ∷ bs)) g.Minus) (λ n. rw is refl) (in_sign refl (rw is refl))
begun_owes b bs c.Lower is = begins b bs (s.Keyword (length (b ∷ bs)) (b ∷ [])) (λ n. rw is refl) (in_keyword refl is tt)
begun_owes b bs c.Capital is = begins b bs (s.Variable (length (b ∷ bs)) (b ∷ [])) (λ n. rw is refl) (in_variable refl is tt)
begun_owes b bs c.Quote is = begins b bs (s.Quoted (length (b ∷ bs)) q.Single []) (λ n. rw is refl) (in_body refl is empty)
begun_owes b bs c.DoubleQuote is = begins b bs (s.Quoted (length (b ∷ bs)) q.Double []) (λ n. rw is refl) (in_body refl is empty)
begun_owes b bs c.Dollar is = begins b bs (s.Character (length (b ∷ bs))) (λ n. rw is refl) (in_dollar refl is)
begun_owes b bs (c.Mark k) is = completes [] b bs (length (b ∷ bs)) (t.Symbol k) refl (mark is)
begun_owes b bs c.Backslash is = begun_bad b bs c.Backslash is (λ n. refl) (λ h. h) (λ h. cc) (λ h. cc)
begun_owes b bs c.At is = begun_bad b bs c.At is (λ n. refl) (λ h. h) (λ h. cc) (λ h. cc)
begun_owes b bs c.Other is = begun_bad b bs c.Other is (λ n. refl) (λ h. h) (λ h. cc) (λ h. cc)

-- ---- a byte of a comment

remark_push : (remark : List ℕ) (b : ℕ) → IsRemark remark → (b ≡ 10 → ⊥) → IsRemark (remark ++ b ∷ [])
remark_push [] b ps not = (not, tt)
remark_push (a ∷ remark) b ps not = (ps.0, remark_push remark b ps.1 not)

pub line_feed_class : (b : ℕ) → b ≡ 10 → class_of b ≡ c.Space
unfolding class_of mark_of plain_class
line_feed_class b is = rw is refl

comment_owes : (a : ℕ) (remark : List ℕ) (b : ℕ) (bs : List ℕ) (v : Bool) → (b == 10) ≡ v → class_of a ≡ c.Percent → IsRemark remark → Reaches (a ∷ remark) s.Comment → Owes (a ∷ remark) b bs (cond v (s.Gap, []) (s.Comment, []))
comment_owes a remark b bs true at is ps reach =
    let feed = eqb-true b 10 at in
    ([], in_gap, λ rest. refl, λ ls end h. comment remark is ps feed (space (line_feed_class b feed) h))
comment_owes a remark b bs false at is ps reach = goes_on (a ∷ remark) b bs s.Comment s.Comment reach (λ n m. rw at refl) (in_comment is (remark_push remark b ps (eqb-false b 10 at)))

-- ---- a byte behind a sign

-- the classes of signs
pub sign_bare : (k : ByteClass) (sign : Sign) → sign_of k ≡ Some sign → (k ≡ c.Space → ⊥) × (k ≡ c.Percent → ⊥) × (BeginsQuoted k → ⊥)
sign_bare c.Plus sign is = (λ h. cc, λ h. cc, λ h. h)
sign_bare c.Minus sign is = (λ h. cc, λ h. cc, λ h. h)
sign_bare _ sign is = absurd cc

minus_class : (k : ByteClass) → sign_of k ≡ Some g.Minus → k ≡ c.Minus
minus_class c.Minus is = refl
minus_class _ is = absurd cc

sign_fails : (m a b : ℕ) (bs : List ℕ) (sign : Sign) → m ≡ length (a ∷ b ∷ bs) → sign_of (class_of a) ≡ Some sign → Reaches (a ∷ []) (s.Signed m sign) → ((n : ℕ) → after_sign n sign b (class_of b) ≡ (s.Failed n, [])) → Owes (a ∷ []) b bs (s.Failed m, [])
sign_fails m a b bs sign is kd reach bad =
    let bare = sign_bare (class_of a) sign kd in
    fails a [] b bs m (s.Signed m sign) is bare.0 bare.1 reach (λ n j. bad j)

marked_owes : (m a b : ℕ) (bs : List ℕ) (o : Option Symbol) → m ≡ length (a ∷ b ∷ bs) → sign_of (class_of a) ≡ Some g.Minus → Reaches (a ∷ []) (s.Signed m g.Minus) → ((n : ℕ) → after_sign n g.Minus b (class_of b) ≡ marked n o) → mark_behind_minus (class_of b) ≡ o
    → Owes (a ∷ []) b bs (marked m o)
marked_owes m a b bs None is kd reach after none = sign_fails m a b bs g.Minus is kd reach after
marked_owes m a b bs (Some k) is kd reach after found = completes (a ∷ []) b bs m (t.Symbol k) is (mark_of_two (minus_class (class_of a) kd) found)

sign_owes : (m a b : ℕ) (bs : List ℕ) (sign : Sign) (k : ByteClass) → class_of b ≡ k → m ≡ length (a ∷ b ∷ bs) → sign_of (class_of a) ≡ Some sign → Reaches (a ∷ []) (s.Signed m sign) → Owes (a ∷ []) b bs (after_sign m sign b k)
sign_owes m a b bs sign c.Digit kb is kd reach = goes_on (a ∷ []) b bs (s.Signed m sign) (s.Integer m sign (b ∷ [])) reach (λ n j. rw kb refl) (in_signed is kd kb tt)
sign_owes m a b bs g.Minus k kb is kd reach = marked_owes m a b bs (mark_behind_minus k) is kd reach (λ n. rw kb refl) (ap mark_behind_minus kb)
sign_owes m a b bs g.Plus k kb is kd reach = sign_fails m a b bs g.Plus is kd reach (λ n. rw kb refl)
sign_owes m a b bs g.Absent k kb is kd reach = sign_fails m a b bs g.Absent is kd reach (λ n. rw kb refl)

-- ---- a byte behind a run

pass_push : (p : ByteClass → Bool) (ds : List ℕ) (b : ℕ) → Pass p ds → p (class_of b) ≡ true → Pass p (ds ++ b ∷ [])
pass_push p [] b ps is = (is, tt)
pass_push p (d ∷ ds) b ps is = (ps.0, pass_push p ds b ps.1 is)

digits_owe : (m d : ℕ) (ds : List ℕ) (b : ℕ) (bs : List ℕ) (v : Bool) → is_digit (class_of b) ≡ v → m ≡ length ((d ∷ ds) ++ b ∷ bs) → class_of d ≡ c.Digit → Pass is_digit ds → Reaches (d ∷ ds) (s.Integer m g.Absent (d ∷ ds))
    → Owes (d ∷ ds) b bs (cond v (s.Integer m g.Absent ((d ∷ ds) ++ b ∷ []), []) (behind m (t.Integer g.Absent (d ∷ ds)) (begun (length (b ∷ bs)) b (class_of b))))
digits_owe m d ds b bs true kb is kd ps reach = goes_on (d ∷ ds) b bs (s.Integer m g.Absent (d ∷ ds)) (s.Integer m g.Absent ((d ∷ ds) ++ b ∷ [])) reach (λ n j. rw kb refl) (in_digits (moved_length m (d ∷ ds) b bs is) kd (pass_push is_digit ds b ps kb))
digits_owe m d ds b bs false kb is kd ps reach = completes_before (d ∷ ds) b bs m (t.Integer g.Absent (d ∷ ds)) _ is (integer kd ps kb) (begun_owes b bs (class_of b) refl)

signed_owes : (m a d : ℕ) (ds : List ℕ) (b : ℕ) (bs : List ℕ) (sign : Sign) (v : Bool) → is_digit (class_of b) ≡ v → m ≡ length ((a ∷ d ∷ ds) ++ b ∷ bs) → sign_of (class_of a) ≡ Some sign → class_of d ≡ c.Digit → Pass is_digit ds → Reaches (a ∷ d ∷ ds) (s.Integer m sign (d ∷ ds))
    → Owes (a ∷ d ∷ ds) b bs (cond v (s.Integer m sign ((d ∷ ds) ++ b ∷ []), []) (behind m (t.Integer sign (d ∷ ds)) (begun (length (b ∷ bs)) b (class_of b))))
signed_owes m a d ds b bs sign true kb is ka kd ps reach = goes_on (a ∷ d ∷ ds) b bs (s.Integer m sign (d ∷ ds)) (s.Integer m sign ((d ∷ ds) ++ b ∷ [])) reach (λ n j. rw kb refl) (in_signed (moved_length m (a ∷ d ∷ ds) b bs is) ka kd (pass_push is_digit ds b ps kb))
signed_owes m a d ds b bs sign false kb is ka kd ps reach = completes_before (a ∷ d ∷ ds) b bs m (t.Integer sign (d ∷ ds)) _ is (signed ka kd ps kb) (begun_owes b bs (class_of b) refl)

variable_owes : (m u : ℕ) (us : List ℕ) (b : ℕ) (bs : List ℕ) (v : Bool) → is_variable_part (class_of b) ≡ v → m ≡ length ((u ∷ us) ++ b ∷ bs) → class_of u ≡ c.Capital → Pass is_variable_part us → Reaches (u ∷ us) (s.Variable m (u ∷ us))
    → Owes (u ∷ us) b bs (cond v (s.Variable m ((u ∷ us) ++ b ∷ []), []) (behind m (t.Variable (u ∷ us)) (begun (length (b ∷ bs)) b (class_of b))))
variable_owes m u us b bs true kb is ku ps reach = goes_on (u ∷ us) b bs (s.Variable m (u ∷ us)) (s.Variable m ((u ∷ us) ++ b ∷ [])) reach (λ n j. rw kb refl) (in_variable (moved_length m (u ∷ us) b bs is) ku (pass_push is_variable_part us b ps kb))
variable_owes m u us b bs false kb is ku ps reach = completes_before (u ∷ us) b bs m (t.Variable (u ∷ us)) _ is (variable ku ps kb) (begun_owes b bs (class_of b) refl)

worded_owes : (m l : ℕ) (ls : List ℕ) (b : ℕ) (bs : List ℕ) (o : Option Symbol) → is_lower (class_of b) ≡ false → keyword (l ∷ ls) ≡ o → m ≡ length ((l ∷ ls) ++ b ∷ bs) → class_of l ≡ c.Lower → Pass is_lower ls → Reaches (l ∷ ls) (s.Keyword m (l ∷ ls))
    → Owes (l ∷ ls) b bs (worded m o (begun (length (b ∷ bs)) b (class_of b)))
worded_owes m l ls b bs None kb key is kl ps reach = fails l ls b bs m (s.Keyword m (l ∷ ls)) is (λ h. cc (kl, h)) (λ h. cc (kl, h)) reach (λ n j. rw (kb, key) refl)
worded_owes m l ls b bs (Some k) kb key is kl ps reach = completes_before (l ∷ ls) b bs m (t.Symbol k) _ is (a_keyword kl ps kb key) (begun_owes b bs (class_of b) refl)

word_owes : (m l : ℕ) (ls : List ℕ) (b : ℕ) (bs : List ℕ) (v : Bool) → is_lower (class_of b) ≡ v → m ≡ length ((l ∷ ls) ++ b ∷ bs) → class_of l ≡ c.Lower → Pass is_lower ls → Reaches (l ∷ ls) (s.Keyword m (l ∷ ls))
    → Owes (l ∷ ls) b bs (cond v (s.Keyword m ((l ∷ ls) ++ b ∷ []), []) (worded m (keyword (l ∷ ls)) (begun (length (b ∷ bs)) b (class_of b))))
word_owes m l ls b bs true kb is kl ps reach = goes_on (l ∷ ls) b bs (s.Keyword m (l ∷ ls)) (s.Keyword m ((l ∷ ls) ++ b ∷ [])) reach (λ n j. rw kb refl) (in_keyword (moved_length m (l ∷ ls) b bs is) kl (pass_push is_lower ls b ps kb))
word_owes m l ls b bs false kb is kl ps reach = worded_owes m l ls b bs (keyword (l ∷ ls)) kb refl is kl ps reach

-- ---- a byte between quotes

inside_owes : (m a : ℕ) (raw text : List ℕ) (b : ℕ) (bs : List ℕ) (quote : Quote) (state : State) (k : ByteClass) (p : Bool) → class_of b ≡ k → is_printable b ≡ p → (class_of b ≡ quote_class quote → ⊥)
    → m ≡ length ((a ∷ raw) ++ b ∷ bs) → class_of a ≡ quote_class quote → IsFront quote raw text (b ∷ bs) → Reaches (a ∷ raw) state → ((n j : ℕ) → stepped n (placed j state) b ≡ inside j quote text b (class_of b) (is_printable b))
    → Owes (a ∷ raw) b bs (inside m quote text b k p)
inside_owes m a raw text b bs quote state c.Backslash p kb pb other is ka front reach steps =
    goes_on (a ∷ raw) b bs state (s.QuotedEscape m quote text x.Begun) reach (λ n j. steps n j ∙ rw kb refl) (in_body_escape (moved_length m (a ∷ raw) b bs is) ka front kb nothing)
inside_owes m a raw text b bs quote state k true kb pb other is ka front reach steps =
    let here : IsFront quote (b ∷ []) (b ∷ []) bs = byte pb other (λ h. cc (kb, h)) empty in
    goes_on (a ∷ raw) b bs state (s.Quoted m quote (text ++ b ∷ [])) reach (λ n j. steps n j ∙ rw (kb, pb) refl) (in_body (moved_length m (a ∷ raw) b bs is) ka (front_append quote raw text (b ∷ bs) (b ∷ []) (b ∷ []) bs front here (λ h. h)))
inside_owes m a raw text b bs quote state k false kb pb other is ka front reach steps =
    let bare = quote_bare quote a ka in
    fails a raw b bs m state is bare.0 bare.1 reach (λ n j. steps n j ∙ rw (kb, pb) refl)

quotes_owe : (m a : ℕ) (raw text : List ℕ) (b : ℕ) (bs : List ℕ) (quote : Quote) (state : State) (v : Bool) → closes quote (class_of b) ≡ v
    → m ≡ length ((a ∷ raw) ++ b ∷ bs) → class_of a ≡ quote_class quote → IsFront quote raw text (b ∷ bs) → Reaches (a ∷ raw) state → ((n j : ℕ) → stepped n (placed j state) b ≡ in_quotes j quote text b)
    → Owes (a ∷ raw) b bs (cond v (s.Gap, lexeme m (quoted_token quote text) ∷ []) (inside m quote text b (class_of b) (is_printable b)))
quotes_owe m a raw text b bs quote state true at is ka front reach steps = completes (a ∷ raw) b bs m (quoted_token quote text) is (quoted_is quote a (raw ++ b ∷ []) text bs ka (front_body quote raw text (b ∷ bs) b front (closes_is quote (class_of b) at)))
quotes_owe m a raw text b bs quote state false at is ka front reach steps =
    let other : class_of b ≡ quote_class quote → ⊥ = λ h. let yes = closes_own quote (class_of b) h in cc (at, yes) in
    inside_owes m a raw text b bs quote state (class_of b) (is_printable b) refl refl other is ka front reach (λ n j. steps n j ∙ rw at refl)

quoted_escape_owes : (m a e0 : ℕ) (raw es text : List ℕ) (b : ℕ) (bs : List ℕ) (quote : Quote) (read : Escape) (o : Escaping) → escaping read b ≡ o → Says o es b bs
    → m ≡ length ((a ∷ (raw ++ e0 ∷ es)) ++ b ∷ bs) → class_of a ≡ quote_class quote → IsFront quote raw text (e0 ∷ (es ++ b ∷ bs)) → class_of e0 ≡ c.Backslash → Reaches (a ∷ (raw ++ e0 ∷ es)) (s.QuotedEscape m quote text read)
    → Owes (a ∷ (raw ++ e0 ∷ es)) b bs (in_quoted_escape m quote text b o)
quoted_escape_owes m a e0 raw es text b bs quote read (y.Open next) at says is ka front kb reach =
    let shape : (raw ++ e0 ∷ es) ++ b ∷ [] ≡ raw ++ e0 ∷ (es ++ b ∷ []) = append_assoc raw (e0 ∷ es) (b ∷ []) in
    let long : m ≡ length ((a ∷ (raw ++ e0 ∷ (es ++ b ∷ []))) ++ bs) = moved_length m (a ∷ (raw ++ e0 ∷ es)) b bs is ∙ ap (λ (u : List ℕ). length ((a ∷ u) ++ bs)) shape in
    let before_it : IsFront quote raw text (e0 ∷ ((es ++ b ∷ []) ++ bs)) = subst (λ (u : List ℕ). IsFront quote raw text (e0 ∷ u)) (sym (moved_byte es b bs)) front in
    goes_on (a ∷ (raw ++ e0 ∷ es)) b bs (s.QuotedEscape m quote text read) (s.QuotedEscape m quote text next) reach (λ n j. rw at refl) (
    subst (λ (u : List ℕ). Fine (s.QuotedEscape m quote text next) (a ∷ u) bs) (sym shape) (in_body_escape long ka before_it kb says)
    )
quoted_escape_owes m a e0 raw es text b bs quote read (y.Closed k) at says is ka front kb reach =
    let shape : (raw ++ e0 ∷ es) ++ b ∷ [] ≡ raw ++ e0 ∷ (es ++ b ∷ []) = append_assoc raw (e0 ∷ es) (b ∷ []) in
    let whole_front : IsFront quote ((raw ++ e0 ∷ es) ++ b ∷ []) (text ++ k ∷ []) bs = subst (λ (u : List ℕ). IsFront quote u (text ++ k ∷ []) bs) (sym shape) (front_escape quote raw text e0 (es ++ b ∷ bs) (es ++ b ∷ []) bs k front kb says) in
    goes_on (a ∷ (raw ++ e0 ∷ es)) b bs (s.QuotedEscape m quote text read) (s.Quoted m quote (text ++ k ∷ [])) reach (λ n j. rw at refl) (in_body (moved_length m (a ∷ (raw ++ e0 ∷ es)) b bs is) ka whole_front)
quoted_escape_owes m a e0 raw es text b bs quote read (y.Over k) at says is ka front kb reach =
    quotes_owe m a (raw ++ e0 ∷ es) (text ++ k ∷ []) b bs quote (s.QuotedEscape m quote text read) (closes quote (class_of b)) refl is ka (front_escape quote raw text e0 (es ++ b ∷ bs) es (b ∷ bs) k front kb says) reach (λ n j. rw at refl)
quoted_escape_owes m a e0 raw es text b bs quote read y.Wrong at says is ka front kb reach =
    let bare = quote_bare quote a ka in
    fails a (raw ++ e0 ∷ es) b bs m (s.QuotedEscape m quote text read) is bare.0 bare.1 reach (λ n j. rw at refl)

-- ---- a byte behind a $

character_owes : (m a b : ℕ) (bs : List ℕ) (k : ByteClass) (p : Bool) → class_of b ≡ k → is_printable b ≡ p → m ≡ length (a ∷ b ∷ bs) → class_of a ≡ c.Dollar → Reaches (a ∷ []) (s.Character m) → Owes (a ∷ []) b bs (in_character m b k p)
character_owes m a b bs c.Backslash p kb pb is ka reach = goes_on (a ∷ []) b bs (s.Character m) (s.CharacterEscape m x.Begun) reach (λ n j. rw kb refl) (in_dollar_escape is ka kb nothing)
character_owes m a b bs k true kb pb is ka reach = completes (a ∷ []) b bs m (t.Character b) is (character ka pb (λ h. cc (kb, h)))
character_owes m a b bs k false kb pb is ka reach = fails a [] b bs m (s.Character m) is (λ h. cc (ka, h)) (λ h. cc (ka, h)) reach (λ n j. rw (kb, pb) refl)

character_escape_owes : (m a e0 : ℕ) (es : List ℕ) (b : ℕ) (bs : List ℕ) (read : Escape) (o : Escaping) → escaping read b ≡ o → Says o es b bs → m ≡ length ((a ∷ e0 ∷ es) ++ b ∷ bs) → class_of a ≡ c.Dollar → class_of e0 ≡ c.Backslash
    → Reaches (a ∷ e0 ∷ es) (s.CharacterEscape m read) → Owes (a ∷ e0 ∷ es) b bs (in_character_escape m o (begun (length (b ∷ bs)) b (class_of b)))
character_escape_owes m a e0 es b bs read (y.Open next) at says is ka kb reach = goes_on (a ∷ e0 ∷ es) b bs (s.CharacterEscape m read) (s.CharacterEscape m next) reach (λ n j. rw at refl) (in_dollar_escape (moved_length m (a ∷ e0 ∷ es) b bs is) ka kb says)
character_escape_owes m a e0 es b bs read (y.Closed k) at says is ka kb reach = completes (a ∷ e0 ∷ es) b bs m (t.Character k) is (escape ka kb says)
character_escape_owes m a e0 es b bs read (y.Over k) at says is ka kb reach = completes_before (a ∷ e0 ∷ es) b bs m (t.Character k) _ is (escape ka kb says) (begun_owes b bs (class_of b) refl)
character_escape_owes m a e0 es b bs read y.Wrong at says is ka kb reach = fails a (e0 ∷ es) b bs m (s.CharacterEscape m read) is (λ h. cc (ka, h)) (λ h. cc (ka, h)) reach (λ n j. rw at refl)

-- ---- any byte

pub step_owes : (state : State) (raw : List ℕ) (b : ℕ) (bs : List ℕ) → Fine state raw (b ∷ bs) → Reaches raw state → Owes raw b bs (stepped (length (b ∷ bs)) state b)
step_owes _ _ b bs in_gap reach = begun_owes b bs (class_of b) refl
step_owes _ _ b bs (in_comment {b = a} {remark = remark} is ps) reach = comment_owes a remark b bs (b == 10) refl is ps reach
step_owes _ _ b bs (in_sign {m = m} {b = a} {sign = sign} is kd) reach = sign_owes m a b bs sign (class_of b) refl is kd reach
step_owes _ _ b bs (in_digits {m = m} {d = d} {ds = ds} is kd ps) reach = digits_owe m d ds b bs (is_digit (class_of b)) refl is kd ps reach
step_owes _ _ b bs (in_signed {m = m} {b = a} {d = d} {ds = ds} {sign = sign} is ka kd ps) reach = signed_owes m a d ds b bs sign (is_digit (class_of b)) refl is ka kd ps reach
step_owes _ _ b bs (in_variable {m = m} {u = u} {us = us} is ku ps) reach = variable_owes m u us b bs (is_variable_part (class_of b)) refl is ku ps reach
step_owes _ _ b bs (in_keyword {m = m} {l = l} {ls = ls} is kl ps) reach = word_owes m l ls b bs (is_lower (class_of b)) refl is kl ps reach
step_owes _ _ b bs (in_body {m = m} {a = a} {raw = raw} {text = text} {quote = quote} is ka front) reach =
    quotes_owe m a raw text b bs quote (s.Quoted m quote text) (closes quote (class_of b)) refl is ka front reach (λ n j. refl)
step_owes _ _ b bs (in_body_escape {m = m} {a = a} {b = e0} {raw = raw} {es = es} {text = text} {quote = quote} {read = read} is ka front kb begun_is) reach =
    quoted_escape_owes m a e0 raw es text b bs quote read (escaping read b) refl (escape_says read es b bs begun_is) is ka front kb reach
step_owes _ _ b bs (in_dollar {m = m} {a = a} is ka) reach = character_owes m a b bs (class_of b) (is_printable b) refl refl is ka reach
step_owes _ _ b bs (in_dollar_escape {m = m} {a = a} {b = e0} {es = es} {read = read} is ka kb begun_is) reach =
    character_escape_owes m a e0 es b bs read (escaping read b) refl (escape_says read es b bs begun_is) is ka kb reach
step_owes _ raw b bs (in_failure {m = m} bad) reach =
    goes_on raw b bs (s.Failed m) (s.Failed m) reach (λ n j. refl) (in_failure (subst (λ (u : List ℕ). Lexes u [] (e.Bad m)) (sym (moved_byte raw b bs)) bad))
