-- Where no token stands, and the bytes of an unfinished token.
use Rattle.std.proofs.Common.{◌≡◌, ℕ, ◌+◌, ◌-◌, ◌*◌, true, List, [], ◌∷◌, ◌++◌, length, Some, refl, sym, ap, subst, ◌∙◌}
use Rattle.std.proofs.lemmas.List.{append-nil}
use Rattle.hy_core.specs.Bytes.{class_of, is_printable, is_octal, is_digit, is_lower, is_variable_part, Pass}
use Rattle.hy_core.specs.Tokens.{sign_of, IsEscape, IsToken, integer, signed, character, escape, atom, string, variable, a_keyword, mark, mark_of_two, is_quoted, IsOpen, HasNoToken, IsRemark, Lexes}
use Rattle.core_scan.specs.code.Scan.{scan}
use Rattle.core_scan.proofs.Found.{before, quote_class, scan_token}
use Rattle.hy_core.specs.declared.token.ByteClass.{ByteClass}
use Rattle.hy_core.specs.declared.token.ByteClass.TheVariants as c
use Rattle.hy_core.specs.declared.token.Sign.{Sign}
use Rattle.hy_core.specs.declared.token.Sign.TheVariants as g
use Rattle.hy_core.specs.declared.token.Token.{Token}
use Rattle.hy_core.specs.declared.token.Lexeme.{Lexeme}
use Rattle.hy_core.specs.declared.token.Ending.{Ending}
use Rattle.hy_core.specs.declared.token.Ending.TheVariants as e
use Rattle.core_scan.specs.declared.state.Quote.{Quote}
use Rattle.core_scan.specs.declared.state.Escape.{Escape}
use Rattle.core_scan.specs.declared.state.Escape.TheVariants as x
use Rattle.core_scan.specs.declared.state.State.{State}
use Rattle.core_scan.specs.declared.state.State.TheVariants as s

-- ---- where no token stands

-- the scan would have found it
pub none_found : (text : List ℕ) (end : Ending) → scan text s.Gap ≡ ([], end) → HasNoToken text
none_found text end h front rest k is d = absurd (let both : before (length (front ++ rest)) k (scan rest s.Gap) ≡ ([], end) = sym (scan_token front rest k d) ∙ ap (λ (u : List ℕ). scan u s.Gap) (sym is) ∙ h in let bad = ap (λ (r : List Lexeme × Ending). r.0) both in cc)

-- whatever follows these bytes, they begin no token
abbrev pub IsDead : List ℕ → Type 0
IsDead text = (more : List ℕ) → (m : ℕ) × (scan (text ++ more) s.Gap ≡ ([], e.Bad m))

pub dead_closed : (text : List ℕ) → IsDead text → IsOpen text → ⊥
dead_closed text dead (b, more, k, quoted, d) =
    let bad = dead (b ∷ more) in
    none_found (text ++ b ∷ more) (e.Bad bad.0) bad.1 (text ++ b ∷ more) [] k (sym (append-nil (text ++ b ∷ more))) d

-- the classes that begin an atom, a string or a character
abbrev pub BeginsQuoted : ByteClass → Type 0
BeginsQuoted c.Quote = Unit {0}
BeginsQuoted c.DoubleQuote = Unit {0}
BeginsQuoted c.Dollar = Unit {0}
BeginsQuoted _ = ⊥

begins_quoted : (b : ℕ) (bs front rest : List ℕ) (k : Token) → b ∷ bs ≡ front → is_quoted k ≡ true → IsToken front rest k → BeginsQuoted (class_of b)
begins_quoted b bs _ rest _ h is (integer k p st) = absurd cc
begins_quoted b bs _ rest _ h is (signed kd k p st) = absurd cc
begins_quoted b bs _ rest _ h is (character {q = a} kd p n) = let same : a ≡ b = cc in subst BeginsQuoted (sym kd ∙ ap class_of same) tt
begins_quoted b bs _ rest _ h is (escape {q = a} kd k d) = let same : a ≡ b = cc in subst BeginsQuoted (sym kd ∙ ap class_of same) tt
begins_quoted b bs _ rest _ h is (atom {q = a} kd d) = let same : a ≡ b = cc in subst BeginsQuoted (sym kd ∙ ap class_of same) tt
begins_quoted b bs _ rest _ h is (string {q = a} kd d) = let same : a ≡ b = cc in subst BeginsQuoted (sym kd ∙ ap class_of same) tt
begins_quoted b bs _ rest _ h is (variable k p st) = absurd cc
begins_quoted b bs _ rest _ h is (a_keyword k p st found) = absurd cc
begins_quoted b bs _ rest _ h is (mark k) = absurd cc
begins_quoted b bs _ rest _ h is (mark_of_two kd k) = absurd cc

pub not_open : (b : ℕ) (bs : List ℕ) → (BeginsQuoted (class_of b) → ⊥) → IsOpen (b ∷ bs) → ⊥
not_open b bs none (a, more, k, quoted, d) = none (begins_quoted b (bs ++ a ∷ more) (b ∷ (bs ++ a ∷ more)) [] k refl quoted d)

-- ---- the bytes of an unfinished token

-- those of an escape, behind its \
pub data IsBegun : Escape → List ℕ → Type 0 where
  nothing : IsBegun x.Begun []
  caret : IsBegun x.Control (94 ∷ [])
  one : {b : ℕ} → is_octal b ≡ true → IsBegun (x.OneDigit (b - 48)) (b ∷ [])
  two : {b d : ℕ} → is_octal b ≡ true → is_octal d ≡ true → IsBegun (x.TwoDigits (8 * (b - 48) + (d - 48))) (b ∷ d ∷ [])

-- those between quotes, before those, with what they stand for
pub data IsFront : Quote → List ℕ → List ℕ → List ℕ → Type 0 where
  empty : {quote : Quote} {bs : List ℕ} → IsFront quote [] [] bs
  byte : {quote : Quote} {b : ℕ} {raw text bs : List ℕ} → is_printable b ≡ true → (class_of b ≡ quote_class quote → ⊥) → (class_of b ≡ c.Backslash → ⊥) → IsFront quote raw text bs → IsFront quote (b ∷ raw) (b ∷ text) bs
  whole : {quote : Quote} {b k : ℕ} {es raw text bs : List ℕ} → class_of b ≡ c.Backslash → IsEscape es (raw ++ bs) k → IsFront quote raw text bs → IsFront quote (b ∷ (es ++ raw)) (k ∷ text) bs

-- the bytes that belong to a state, before the rest of the text
pub data Fine : State → List ℕ → List ℕ → Type 0 where
  in_gap : {bs : List ℕ} → Fine s.Gap [] bs
  in_comment : {b : ℕ} {remark bs : List ℕ} → class_of b ≡ c.Percent → IsRemark remark → Fine s.Comment (b ∷ remark) bs
  in_sign : {m b : ℕ} {bs : List ℕ} {sign : Sign} → m ≡ length (b ∷ bs) → sign_of (class_of b) ≡ Some sign → Fine (s.Signed m sign) (b ∷ []) bs
  in_digits : {m d : ℕ} {ds bs : List ℕ} → m ≡ length ((d ∷ ds) ++ bs) → class_of d ≡ c.Digit → Pass is_digit ds → Fine (s.Integer m g.Absent (d ∷ ds)) (d ∷ ds) bs
  in_signed : {m b d : ℕ} {ds bs : List ℕ} {sign : Sign} → m ≡ length ((b ∷ d ∷ ds) ++ bs) → sign_of (class_of b) ≡ Some sign → class_of d ≡ c.Digit → Pass is_digit ds
      → Fine (s.Integer m sign (d ∷ ds)) (b ∷ d ∷ ds) bs
  in_variable : {m u : ℕ} {us bs : List ℕ} → m ≡ length ((u ∷ us) ++ bs) → class_of u ≡ c.Capital → Pass is_variable_part us → Fine (s.Variable m (u ∷ us)) (u ∷ us) bs
  in_keyword : {m l : ℕ} {ls bs : List ℕ} → m ≡ length ((l ∷ ls) ++ bs) → class_of l ≡ c.Lower → Pass is_lower ls → Fine (s.Keyword m (l ∷ ls)) (l ∷ ls) bs
  in_body : {m a : ℕ} {raw text bs : List ℕ} {quote : Quote} → m ≡ length ((a ∷ raw) ++ bs) → class_of a ≡ quote_class quote → IsFront quote raw text bs → Fine (s.Quoted m quote text) (a ∷ raw) bs
  in_body_escape : {m a b : ℕ} {raw es text bs : List ℕ} {quote : Quote} {read : Escape} → m ≡ length ((a ∷ (raw ++ b ∷ es)) ++ bs) → class_of a ≡ quote_class quote → IsFront quote raw text (b ∷ (es ++ bs)) → class_of b ≡ c.Backslash → IsBegun read es
      → Fine (s.QuotedEscape m quote text read) (a ∷ (raw ++ b ∷ es)) bs
  in_dollar : {m a : ℕ} {bs : List ℕ} → m ≡ length (a ∷ bs) → class_of a ≡ c.Dollar → Fine (s.Character m) (a ∷ []) bs
  in_dollar_escape : {m a b : ℕ} {es bs : List ℕ} {read : Escape} → m ≡ length ((a ∷ b ∷ es) ++ bs) → class_of a ≡ c.Dollar → class_of b ≡ c.Backslash → IsBegun read es → Fine (s.CharacterEscape m read) (a ∷ b ∷ es) bs
  in_failure : {m : ℕ} {raw bs : List ℕ} → Lexes (raw ++ bs) [] (e.Bad m) → Fine (s.Failed m) raw bs

-- the same state for a token that begins elsewhere
abbrev pub placed : ℕ → State → State
placed n s.Gap = s.Gap
placed n s.Comment = s.Comment
placed n (s.Signed m sign) = s.Signed n sign
placed n (s.Integer m sign ds) = s.Integer n sign ds
placed n (s.Variable m text) = s.Variable n text
placed n (s.Keyword m ls) = s.Keyword n ls
placed n (s.Quoted m quote text) = s.Quoted n quote text
placed n (s.QuotedEscape m quote text read) = s.QuotedEscape n quote text read
placed n (s.Character m) = s.Character n
placed n (s.CharacterEscape m read) = s.CharacterEscape n read
placed n (s.Failed m) = s.Failed n

-- the scan comes over these bytes to this state, whatever follows them
abbrev pub Reaches : List ℕ → State → Type 0
Reaches raw state = (rest : List ℕ) → scan (raw ++ rest) s.Gap ≡ scan rest (placed (length (raw ++ rest)) state)
