-- A text has one list of tokens, which the scan gives.
use Rattle.std.proofs.Common.{◌≡◌, ℕ, suc, ◌≤◌, Bool, true, false, ◌==◌, List, [], ◌∷◌, ◌++◌, length, refl, sym, ap, subst, ◌∙◌, length-append, arith}
use Rattle.std.proofs.lemmas.Bool.{eqb-true}
use Rattle.hy_core.specs.Bytes.{class_of}
use Rattle.hy_core.specs.Tokens.{IsToken, integer, signed, character, escape, atom, string, variable, a_keyword, mark, mark_of_two, IsOpen, HasNoToken, IsRemark, EndsLine, Lexes, done, space, comment, token, open_token, no_token, AreWithin, EndsWithin}
use Rattle.core_scan.specs.code.Scan.{scan}
use Rattle.core_scan.proofs.Found.{Scanned, before, scan_token}
use Rattle.core_scan.proofs.Unfinished.{BeginsQuoted, not_open}
use Rattle.core_scan.proofs.Stepped.{line_feed_class}
use Rattle.core_scan.proofs.Scanned.{scan_lexes}
use Rattle.hy_core.specs.declared.token.ByteClass.TheVariants as c
use Rattle.hy_core.specs.declared.token.Token.{Token}
use Rattle.hy_core.specs.declared.token.Lexeme.{Lexeme}
use Rattle.hy_core.specs.declared.token.Ending.{Ending}
use Rattle.hy_core.specs.declared.token.Ending.TheVariants as e
use Rattle.core_scan.specs.declared.state.State.TheVariants as s

-- ---- where there is no token

bare_space : (b : ℕ) (bs : List ℕ) → class_of b ≡ c.Space → IsOpen (b ∷ bs) → ⊥
bare_space b bs is = not_open b bs (λ h. subst BeginsQuoted is h)

open_only : (a : List ℕ) (ls : List Lexeme) (end : Ending) → Lexes a ls end → HasNoToken a → IsOpen a → (b : ℕ) (bs : List ℕ) → a ≡ b ∷ bs → ◌≡◌ {A = Scanned} (ls, end) ([], e.Open)
open_only _ _ _ done none o b bs h = absurd cc
open_only _ _ _ (space {b = q} {bs = us} is d) none o b bs h = absurd (bare_space q us is o)
open_only _ _ _ (comment {b = q} {rest = rest} inside is ps st d) none o b bs h = absurd (not_open q (inside ++ rest) (λ j. subst BeginsQuoted is j) o)
open_only _ _ _ (token {front = front} {rest = rest} {k = k} is d) none o b bs h = absurd (none front rest k refl is)
open_only _ _ _ (open_token none' o') none o b bs h = refl
open_only _ _ _ (no_token none' o' gap remark) none o b bs h = absurd (o' o)

bad_only : (a : List ℕ) (ls : List Lexeme) (end : Ending) (b : ℕ) (bs : List ℕ) → Lexes a ls end → a ≡ b ∷ bs → HasNoToken (b ∷ bs) → (IsOpen (b ∷ bs) → ⊥) → (class_of b ≡ c.Space → ⊥) → (class_of b ≡ c.Percent → ⊥)
    → ◌≡◌ {A = Scanned} (ls, end) ([], e.Bad (length (b ∷ bs)))
bad_only _ _ _ b bs done h none o gap remark = absurd cc
bad_only _ _ _ b bs (space {b = q} is d) h none o gap remark = absurd (let same : q ≡ b = cc in gap (ap class_of (sym same) ∙ is))
bad_only _ _ _ b bs (comment {b = q} inside is ps st d) h none o gap remark = absurd (let same : q ≡ b = cc in remark (ap class_of (sym same) ∙ is))
bad_only _ _ _ b bs (token {front = front} {rest = rest} {k = k} is d) h none o gap remark = absurd (none front rest k (sym h) is)
bad_only _ _ _ b bs (open_token none' o') h none o gap remark = absurd (o (subst IsOpen h o'))
bad_only _ _ _ b bs (no_token none' o' gap' remark') h none o gap remark = ap (λ (u : List ℕ). ([], e.Bad (length u))) h

-- ---- a comment

no_line_feed : (b : ℕ) → (b ≡ 10 → ⊥) → (b == 10) ≡ false
no_line_feed b not = at (b == 10) refl
  where
    at : (v : Bool) → (b == 10) ≡ v → (b == 10) ≡ false
    at true is = absurd (not (eqb-true b 10 is))
    at false is = is

scan_remark : (inside rest : List ℕ) → IsRemark inside → EndsLine rest → scan (inside ++ rest) s.Comment ≡ scan rest s.Gap
unfolding scan
scan_remark [] [] ps st = refl
scan_remark [] (b ∷ bs) ps st = rw (line_feed_class b st, st) refl
scan_remark (a ∷ inside) rest ps st = rw (no_line_feed a ps.0) (scan_remark inside rest ps.1 st)

-- ---- the whole text

pub scan_only : (bs : List ℕ) (ls : List Lexeme) (end : Ending) → Lexes bs ls end → scan bs s.Gap ≡ (ls, end)
unfolding scan
scan_only _ _ _ done = refl
scan_only _ _ _ (space {b = b} {bs = bs} {ls = ls} {end = end} is d) = rw is (scan_only bs ls end d)
scan_only _ _ _ (comment {b = b} {rest = rest} {ls = ls} {end = end} inside is ps st d) = rw is (scan_remark inside rest ps st ∙ scan_only rest ls end d)
scan_only _ _ _ (token {front = front} {rest = rest} {k = k} {ls = ls} {end = end} is d) =
    scan_token front rest k is ∙ ap (before (length (front ++ rest)) k) (scan_only rest ls end d)
scan_only _ _ _ (open_token {b = b} {bs = bs} none o) = open_only (b ∷ bs) (scan (b ∷ bs) s.Gap).0 (scan (b ∷ bs) s.Gap).1 (scan_lexes (b ∷ bs)) none o b bs refl
scan_only _ _ _ (no_token {b = b} {bs = bs} none o gap remark) = bad_only (b ∷ bs) (scan (b ∷ bs) s.Gap).0 (scan (b ∷ bs) s.Gap).1 b bs (scan_lexes (b ∷ bs)) refl none o gap remark

-- a text is taken apart in one way
pub one_lexing : (bytes : List ℕ) (ls os : List Lexeme) (end last : Ending) → Lexes bytes ls end → Lexes bytes os last → (ls ≡ os) × (end ≡ last)
one_lexing bytes ls os end last d d' =
    let same : ◌≡◌ {A = Scanned} (ls, end) (os, last) = sym (scan_only bytes ls end d) ∙ scan_only bytes os last d' in
    (ap (λ (r : Scanned). r.0) same, ap (λ (r : Scanned). r.1) same)

-- ---- how many tokens there are, and where

token_some : (front rest : List ℕ) (k : Token) → IsToken front rest k → suc (length rest) ≤ length (front ++ rest)
token_some _ rest _ (integer {ds = ds} k p st) = omega (arith, length-append ds rest)
token_some _ rest _ (signed {ds = ds} is k p st) = omega (arith, length-append ds rest)
token_some _ rest _ (character k p n) = omega arith
token_some _ rest _ (escape {es = es} k is d) = omega (arith, length-append es rest)
token_some _ rest _ (atom {bs = bs} k d) = omega (arith, length-append bs rest)
token_some _ rest _ (string {bs = bs} k d) = omega (arith, length-append bs rest)
token_some _ rest _ (variable {us = us} k p st) = omega (arith, length-append us rest)
token_some _ rest _ (a_keyword {ls = ls} k p st is) = omega (arith, length-append ls rest)
token_some _ rest _ (mark k) = omega arith
token_some _ rest _ (mark_of_two is k) = omega arith

-- there are no more tokens than bytes
pub few_tokens : (bs : List ℕ) (ls : List Lexeme) (end : Ending) → Lexes bs ls end → length ls ≤ length bs
few_tokens _ _ _ done = omega arith
few_tokens _ _ _ (space {bs = bs} {ls = ls} {end = end} is d) = omega (arith, few_tokens bs ls end d)
few_tokens _ _ _ (comment {rest = rest} {ls = ls} {end = end} inside is ps st d) = omega (arith, few_tokens rest ls end d, length-append inside rest)
few_tokens _ _ _ (token {front = front} {rest = rest} {k = k} {ls = ls} {end = end} is d) = omega (arith, few_tokens rest ls end d, token_some front rest k is)
few_tokens _ _ _ (open_token none o) = omega arith
few_tokens _ _ _ (no_token none o gap remark) = omega arith

wider : (small size : ℕ) (ls : List Lexeme) → small ≤ size → AreWithin small ls → AreWithin size ls
wider small size [] le ps = tt
wider small size (l ∷ ls) le ps = (omega (arith, le, ps.0), wider small size ls le ps.1)

wider_end : (small size : ℕ) (end : Ending) → small ≤ size → EndsWithin small end → EndsWithin size end
wider_end small size e.Clean le is = tt
wider_end small size e.Open le is = tt
wider_end small size (e.Bad left) le is = omega (arith, le, is)

-- they stand inside the text
pub tokens_within : (bs : List ℕ) (ls : List Lexeme) (end : Ending) → Lexes bs ls end → AreWithin (length bs) ls × EndsWithin (length bs) end
tokens_within _ _ _ done = (tt, tt)
tokens_within _ _ _ (space {b = b} {bs = bs} {ls = ls} {end = end} is d) =
    let rest = tokens_within bs ls end d in
    (wider (length bs) (length (b ∷ bs)) ls (omega arith) rest.0, wider_end (length bs) (length (b ∷ bs)) end (omega arith) rest.1)
tokens_within _ _ _ (comment {b = b} {rest = bs} {ls = ls} {end = end} inside is ps st d) =
    let rest = tokens_within bs ls end d in
    let size = length (b ∷ (inside ++ bs)) in
    let more : length bs ≤ size = omega (arith, length-append inside bs) in
    (wider (length bs) size ls more rest.0, wider_end (length bs) size end more rest.1)
tokens_within _ _ _ (token {front = front} {rest = bs} {k = k} {ls = ls} {end = end} is d) =
    let rest = tokens_within bs ls end d in
    let size = length (front ++ bs) in
    let more : length bs ≤ size = omega (arith, token_some front bs k is) in
    ((omega arith, wider (length bs) size ls more rest.0), wider_end (length bs) size end more rest.1)
tokens_within _ _ _ (open_token none o) = (tt, tt)
tokens_within _ _ _ (no_token none o gap remark) = (tt, omega arith)
