-- The verdict on a text is the one that the grammar gives.
use Rattle.std.proofs.Common.{◌≡◌, ℕ, suc, ◌+◌, ◌-◌, ◌≤◌, ◌^◌, Bool, true, false, nat_lt, ltb-true, ltb-false, List, [], ◌∷◌, ◌++◌, length, Some, Result, Ok, Err, ◌⊎◌, inl, inr, refl, sym, ap, subst, ◌∙◌, arith, slice_get}
use Rattle.std.specs.Prelude.{IfOk}
use Rattle.std.proofs.lemmas.List.{append-nil}
use Rattle.hy_core.specs.Tokens.{Lexes, AreWithin, EndsWithin}
use Rattle.hy_core.specs.Marks.{Marked}
use Rattle.hy_core.specs.Grammar.{IsModuleAt, IsModule, module_of}
use Rattle.hy_core.specs.Numbering.{no_tables}
use Rattle.hy_core.specs.Reading.{tokens_in, Reads, IsModuleText}
use Rattle.hy_core.specs.Refusals.{Goes, HasEnded, IsUnexpected, IsTooDeep, IsOutOfRange, IsFirstWrong, IsRefusedBy, IsRefusedText}
use Rattle.hy_core.specs.declared.token.Token.{Token}
use Rattle.hy_core.specs.declared.token.Lexeme.{Lexeme}
use Rattle.hy_core.specs.declared.token.Ending.{Ending}
use Rattle.hy_core.specs.declared.token.Ending.TheVariants as ends
use Rattle.hy_core.specs.declared.refusal.RefusalKind.{RefusalKind}
use Rattle.hy_core.specs.declared.refusal.RefusalKind.TheVariants as k
use Rattle.hy_core.specs.declared.tree.Module.{Module}
use Rattle.core_scan.specs.code.Scan.{scan}
use Rattle.core_scan.specs.declared.state.State.TheVariants.{Gap}
use Rattle.core_scan.proofs.Scanned.{scan_lexes}
use Rattle.core_scan.proofs.OneLexing.{one_lexing, tokens_within}
use Rattle.core_parse.specs.code.Pushdown.{Reading, run, start}
use Rattle.core_parse.specs.Answers.{Verdict, Gives, IfRefused}
use Rattle.core_parse.specs.code.Verdicts.{left_at, behind, place_of, refused_as, verdict, GivesText, too_long, of_tokens, no_memory}
use Rattle.core_parse.proofs.Meaning.{tables_of}
use Rattle.core_parse.proofs.Exact.{Lang, FitsIn, run_only, run_found}
use Rattle.core_parse.proofs.Refusing.{BeginsBy, GoesBy, StandsBy, UnexpectedBy, EndedBy, IsDeep, IsOut, At, Why, run_refused, why_run, ended_run}
use Rattle.core_parse.specs.declared.answer.ReadAnswer.{ReadAnswer}
use Rattle.core_parse.specs.declared.answer.ReadAnswer.TheVariants.{Refused, Memory}

-- ---- a module is what completes the start

start_fits : FitsIn start
start_fits fs es n = tt

to_module : (ms : List Marked) (z : Module) → Lang start ms z → IsModule ms z
to_module ms z (y, q, d, (nil, is)) =
    let same : module_of y.name y.exports y.functions (tables_of y) ≡ z = cc in
    subst (λ (o : Module). IsModule ms o) same (subst (λ (o : List Marked). IsModuleAt 0 no_tables ms y o) nil d)

from_module : (ms : List Marked) (z : Module) → IsModule ms z → Lang start ms z
from_module ms z d = (z, [], d, (refl, refl))

goes_to : (ts : List Token) → GoesBy (Lang start) ts → Goes ts
goes_to ts (ms, more, z, is, good, c) = (ms, more, z, is, good, to_module (ms ++ more) z c)

goes_from : (ts : List Token) → Goes ts → GoesBy (Lang start) ts
goes_from ts (ms, more, z, is, good, c) = (ms, more, z, is, good, from_module (ms ++ more) z c)

begins_to : (ts : List Token) → BeginsBy (Lang start) ts → BeginsBy IsModule ts
begins_to ts (ms, more, z, is, c) = (ms, more, z, is, to_module (ms ++ more) z c)

begins_from : (ts : List Token) → BeginsBy IsModule ts → BeginsBy (Lang start) ts
begins_from ts (ms, more, z, is, c) = (ms, more, z, is, from_module (ms ++ more) z c)

unexpected_to : (before : List Token) (t : Token) → UnexpectedBy (Lang start) before t → IsUnexpected before t
unexpected_to before t (goes, never) = (goes_to before goes, λ h. never (begins_from (before ++ t ∷ []) h))

unexpected_from : (before : List Token) (t : Token) → IsUnexpected before t → UnexpectedBy (Lang start) before t
unexpected_from before t (goes, never) = (goes_from before goes, λ h. never (begins_to (before ++ t ∷ []) h))

stands_to : (Wrong : Marked → Type 0) (before : List Token) (t : Token) → StandsBy (Lang start) Wrong before t → StandsBy IsModule Wrong before t
stands_to Wrong before t (ms, more, m, z, is, there, good, bad, c) = (ms, more, m, z, is, there, good, bad, to_module (ms ++ m ∷ more) z c)

stands_from : (Wrong : Marked → Type 0) (before : List Token) (t : Token) → StandsBy IsModule Wrong before t → StandsBy (Lang start) Wrong before t
stands_from Wrong before t (ms, more, m, z, is, there, good, bad, c) = (ms, more, m, z, is, there, good, bad, from_module (ms ++ m ∷ more) z c)

ended_to : (ts : List Token) → EndedBy (Lang start) ts → HasEnded ts
ended_to ts (ms, more, m, z, is, good, c) = (ms, more, m, z, is, good, to_module (ms ++ m ∷ more) z c)

ended_from : (ts : List Token) → HasEnded ts → EndedBy (Lang start) ts
ended_from ts (ms, more, m, z, is, good, c) = (ms, more, m, z, is, good, from_module (ms ++ m ∷ more) z c)

-- ---- what the machine says of the tokens

pub reads_run : (ts : List Token) (z : Module) → Reads ts z → run 0 ts start ≡ Ok z
reads_run ts z (ms, is, good, d) = ap (λ (us : List Token). run 0 us start) (sym is) ∙ run_only ms 0 start z start_fits (from_module ms z d) good

run_reads : (ts : List Token) (z : Module) → run 0 ts start ≡ Ok z → Reads ts z
run_reads ts z h = let r = run_found ts 0 start z start_fits h in (r.0, r.1, r.2, to_module r.0 z r.3)

run_why : (ts : List Token) (kind : RefusalKind) (n : ℕ) → run 0 ts start ≡ Err (kind, n) → Why (Lang start) kind n ts
run_why ts kind n h =
    let r = run_refused ts 0 start kind n start_fits h in
    let place = r.1 in
    let same : r.0 ≡ n = omega (arith, place) in
    subst (λ (j : ℕ). Why (Lang start) kind j ts) same r.2

-- tokens that go on are read, or end early
goes_run : (ts : List Token) → Goes ts → ((z : Module) × (run 0 ts start ≡ Ok z)) ⊎ (run 0 ts start ≡ Err (k.Ended, 0 + length ts))
goes_run ts (ms, [], z, is, good, d) = inl (z, reads_run ts z (ms, is, good, subst (λ (o : List Marked). IsModule o z) (append-nil ms) d))
goes_run ts (ms, m ∷ more, z, is, good, d) = inr (ended_run ts 0 start start_fits (ms, more, m, z, is, good, from_module (ms ++ m ∷ more) z d))

-- ---- places

cut : (before after : List Token) (t : Token) (ls : List Lexeme) → tokens_in ls ≡ before ++ t ∷ after
    → (b a : List Lexeme) × (l : Lexeme) × (ls ≡ b ++ l ∷ a) × (tokens_in b ≡ before) × (l.token ≡ t) × (slice_get ls (length before) ≡ Some l)
cut [] after t [] h = absurd cc
cut [] after t (l ∷ ls) h = ([], ls, l, refl, refl, cc, refl)
cut (b ∷ before) after t [] h = absurd cc
cut (b ∷ before) after t (l ∷ ls) h =
    let rest : tokens_in ls ≡ before ++ t ∷ after = cc in
    let first : l.token ≡ b = cc in
    let r = cut before after t ls rest in
    (l ∷ r.0, r.1, r.2, ap (λ (u : List Lexeme). l ∷ u) r.3, cc (first, r.4), r.5, r.6)

within_at : (size : ℕ) (b a : List Lexeme) (l : Lexeme) → AreWithin size (b ++ l ∷ a) → l.left ≤ size
within_at size [] a l h = h.0
within_at size (m ∷ b) a l h = within_at size b a l h.1

wrong_at : (IsWrong : List Token → Token → Type 0) (size : ℕ) (ls : List Lexeme) (n : ℕ) → AreWithin size ls → At IsWrong n (tokens_in ls) → IsFirstWrong IsWrong size ls (place_of size ls n)
wrong_at IsWrong size ls n within (before, after, t, is, at_n, wrong) =
    let c = cut before after t ls is in
    let l = c.2 in
    let here : left_at (slice_get ls n) ≡ l.left = ap (λ (j : ℕ). left_at (slice_get ls j)) at_n ∙ ap left_at c.6 in
    let le : l.left ≤ size = within_at size c.0 c.1 l (subst (λ (u : List Lexeme). AreWithin size u) c.3 within) in
    let place : size - left_at (slice_get ls n) + l.left ≡ size = omega (arith, here) in
    (c.0, c.1, l, c.3, place, subst (λ (u : List Token). IsWrong u l.token) (sym c.4) (subst (λ (u : Token). IsWrong before u) (sym c.5) wrong))

length_in : (ls : List Lexeme) → length (tokens_in ls) ≡ length ls
length_in [] = refl
length_in (l ∷ ls) = ap suc (length_in ls)

tokens_split : (b a : List Lexeme) (l : Lexeme) → tokens_in (b ++ l ∷ a) ≡ tokens_in b ++ l.token ∷ tokens_in a
tokens_split [] a l = refl
tokens_split (m ∷ b) a l = ap (λ (ts : List Token). m.token ∷ ts) (tokens_split b a l)

get_split : (b a : List Lexeme) (l : Lexeme) → slice_get (b ++ l ∷ a) (length b) ≡ Some l
get_split [] a l = refl
get_split (m ∷ b) a l = get_split b a l

-- the first wrong lexeme as the first wrong token, and its place
first_wrong : (IsWrong : List Token → Token → Type 0) (size : ℕ) (ls : List Lexeme) (place : ℕ) → IsFirstWrong IsWrong size ls place → (n : ℕ) × At IsWrong n (tokens_in ls) × (place_of size ls n ≡ place)
first_wrong IsWrong size ls place (b, a, l, is, there, wrong) =
    let n = length b in
    let got : left_at (slice_get ls n) ≡ l.left = ap (λ (u : List Lexeme). left_at (slice_get u n)) is ∙ ap left_at (get_split b a l) in
    (n, (tokens_in b, tokens_in a, l.token, ap tokens_in is ∙ tokens_split b a l, sym (length_in b), wrong), omega (arith, got, there))

-- ---- both ways

-- what a verdict says
abbrev pub Holds : ℕ → List Lexeme → Ending → Verdict → Type 0
Holds size ls end (Ok z) = (end ≡ ends.Clean) × Reads (tokens_in ls) z
Holds size ls end (Err fault) = IsRefusedBy fault.0 size ls end fault.1

goes_read : (ts : List Token) (z : Module) → Reads ts z → Goes ts
goes_read ts z (ms, is, good, d) = (ms, [], z, is, good, subst (λ (o : List Marked). IsModule o z) (sym (append-nil ms)) d)

goes_ended : (ts : List Token) → HasEnded ts → Goes ts
goes_ended ts (ms, more, m, z, is, good, d) = (ms, m ∷ more, z, is, good, d)

holds_read : (size : ℕ) (ls : List Lexeme) (end : Ending) (z : Module) → EndsWithin size end → Reads (tokens_in ls) z → Holds size ls end (behind size end (Ok z))
holds_read size ls ends.Clean z fits h = (refl, h)
holds_read size ls ends.Open z fits h = (refl, goes_read (tokens_in ls) z h)
holds_read size ls (ends.Bad left) z fits h = (left, refl, omega (arith, fits), goes_read (tokens_in ls) z h)

holds_ended : (size : ℕ) (ls : List Lexeme) (end : Ending) → EndsWithin size end → HasEnded (tokens_in ls) → Holds size ls end (behind size end (Err (k.Ended, size)))
holds_ended size ls ends.Clean fits h = (refl, h)
holds_ended size ls ends.Open fits h = (refl, goes_ended (tokens_in ls) h)
holds_ended size ls (ends.Bad left) fits h = (left, refl, omega (arith, fits), goes_ended (tokens_in ls) h)

at_map : (Wrong Other : List Token → Token → Type 0) (n : ℕ) (ts : List Token) → ((before : List Token) (t : Token) → Wrong before t → Other before t) → At Wrong n ts → At Other n ts
at_map Wrong Other n ts to (before, after, t, is, place, wrong) = (before, after, t, is, place, to before t wrong)

holds_refused : (size : ℕ) (ls : List Lexeme) (end : Ending) (kind : RefusalKind) (n : ℕ) → AreWithin size ls → EndsWithin size end → Why (Lang start) kind n (tokens_in ls) → Holds size ls end (refused_as size ls end kind n)
holds_refused size ls end k.Ended n within fits (place, h) = holds_ended size ls end fits (ended_to (tokens_in ls) h)
holds_refused size ls end k.Unexpected n within fits h = wrong_at IsUnexpected size ls n within (at_map (UnexpectedBy (Lang start)) IsUnexpected n (tokens_in ls) unexpected_to h)
holds_refused size ls end k.TooDeep n within fits h = wrong_at IsTooDeep size ls n within (at_map (StandsBy (Lang start) IsDeep) IsTooDeep n (tokens_in ls) (stands_to IsDeep) h)
holds_refused size ls end k.NumberRange n within fits h = wrong_at IsOutOfRange size ls n within (at_map (StandsBy (Lang start) IsOut) IsOutOfRange n (tokens_in ls) (stands_to IsOut) h)
holds_refused size ls end k.BadToken n within fits h = absurd h
holds_refused size ls end k.TooLong n within fits h = absurd h

pub holds : (size : ℕ) (ls : List Lexeme) (end : Ending) → AreWithin size ls → EndsWithin size end → Holds size ls end (verdict size ls end (run 0 (tokens_in ls) start))
holds size ls end within fits = by (run 0 (tokens_in ls) start) refl
  where
    by : (r : Reading) → run 0 (tokens_in ls) start ≡ r → Holds size ls end (verdict size ls end r)
    by (Ok z) is = holds_read size ls end z fits (run_reads (tokens_in ls) z is)
    by (Err fault) is = holds_refused size ls end fault.0 fault.1 within fits (run_why (tokens_in ls) fault.0 fault.1 is)

-- tokens that go on, and an ending that decides
decided : (size : ℕ) (ls : List Lexeme) (end : Ending) (v : Verdict) → Goes (tokens_in ls) → ((o : Verdict) → behind size end o ≡ v) → verdict size ls end (run 0 (tokens_in ls) start) ≡ v
decided size ls end v goes settles = by (goes_run (tokens_in ls) goes)
  where
    by : ((z : Module) × (run 0 (tokens_in ls) start ≡ Ok z)) ⊎ (run 0 (tokens_in ls) start ≡ Err (k.Ended, 0 + length (tokens_in ls))) → verdict size ls end (run 0 (tokens_in ls) start) ≡ v
    by (inl (z, is)) = ap (verdict size ls end) is ∙ settles (Ok z)
    by (inr is) = ap (verdict size ls end) is ∙ settles (Err (k.Ended, size))

pub exactly : (kind : RefusalKind) (size : ℕ) (ls : List Lexeme) (end : Ending) (place : ℕ) → IsRefusedBy kind size ls end place → verdict size ls end (run 0 (tokens_in ls) start) ≡ Err (kind, place)
exactly k.BadToken size ls end place (left, is, there, goes) =
    let same : size - left ≡ place = omega (arith, there) in
    decided size ls end (Err (k.BadToken, place)) goes (λ o. ap (λ (e : Ending). behind size e o) is ∙ ap (λ (j : ℕ). Err (k.BadToken, j)) same)
exactly k.Ended size ls ends.Clean place (is, h) =
    ap (verdict size ls ends.Clean) (ended_run (tokens_in ls) 0 start start_fits (ended_from (tokens_in ls) h)) ∙ ap (λ (j : ℕ). Err (k.Ended, j)) (sym is)
exactly k.Ended size ls ends.Open place (is, goes) = decided size ls ends.Open (Err (k.Ended, place)) goes (λ o. ap (λ (j : ℕ). Err (k.Ended, j)) (sym is))
exactly k.Ended size ls (ends.Bad left) place (is, h) = absurd h
exactly k.Unexpected size ls end place h =
    let f = first_wrong IsUnexpected size ls place h in
    ap (verdict size ls end) (why_run k.Unexpected f.0 (tokens_in ls) start start_fits (at_map IsUnexpected (UnexpectedBy (Lang start)) f.0 (tokens_in ls) unexpected_from f.1)) ∙ ap (λ (j : ℕ). Err (k.Unexpected, j)) f.2
exactly k.TooDeep size ls end place h =
    let f = first_wrong IsTooDeep size ls place h in
    ap (verdict size ls end) (why_run k.TooDeep f.0 (tokens_in ls) start start_fits (at_map IsTooDeep (StandsBy (Lang start) IsDeep) f.0 (tokens_in ls) (stands_from IsDeep) f.1)) ∙ ap (λ (j : ℕ). Err (k.TooDeep, j)) f.2
exactly k.NumberRange size ls end place h =
    let f = first_wrong IsOutOfRange size ls place h in
    ap (verdict size ls end) (why_run k.NumberRange f.0 (tokens_in ls) start start_fits (at_map IsOutOfRange (StandsBy (Lang start) IsOut) f.0 (tokens_in ls) (stands_from IsOut) f.1)) ∙ ap (λ (j : ℕ). Err (k.NumberRange, j)) f.2
exactly k.TooLong size ls end place h = absurd h

-- ---- the text

-- what holds of an answer
abbrev Says : List ℕ → List Lexeme → Ending → Result Module ReadAnswer → Type 0
Says bytes ls end (Ok z) = (end ≡ ends.Clean) × Reads (tokens_in ls) z
Says bytes ls end (Err (Refused r)) = IsRefusedBy r.kind (length bytes) ls end r.place
Says bytes ls end (Err Memory) = Unit {0}

says : (bytes : List ℕ) (ls : List Lexeme) (end : Ending) (result : Result Module ReadAnswer) (v : Verdict) → Gives result v → Holds (length bytes) ls end v → Says bytes ls end result
says bytes ls end (Ok z) v is h = subst (λ (o : Verdict). Holds (length bytes) ls end o) is h
says bytes ls end (Err (Refused r)) v is h = subst (λ (o : Verdict). Holds (length bytes) ls end o) is h
says bytes ls end (Err Memory) v is h = tt

pub found_by : (bytes : List ℕ) (result : Result Module ReadAnswer) → GivesText result bytes → IfOk result (λ z. IsModuleText bytes z)
found_by bytes (Ok z) (too_long long is) = absurd (let bad : Err (k.TooLong, 2 ^ 20) ≡ Ok z = is in cc)
found_by bytes (Ok z) (of_tokens ls end few lexes within fits is) =
    let h = says bytes ls end (Ok z) _ is (holds (length bytes) ls end within fits) in
    (few, (ls, subst (λ (o : Ending). Lexes bytes ls o) h.0 lexes, h.1))
found_by bytes (Ok z) (no_memory is) = absurd cc
found_by bytes (Err answer) h = tt

refused_kind : (bytes : List ℕ) (kind : RefusalKind) (ls : List Lexeme) (end : Ending) (place : ℕ) → length bytes ≤ 2 ^ 20 → Lexes bytes ls end → IsRefusedBy kind (length bytes) ls end place → IsRefusedText bytes kind place
refused_kind bytes k.BadToken ls end place few lexes h = (few, ls, end, lexes, h)
refused_kind bytes k.Unexpected ls end place few lexes h = (few, ls, end, lexes, h)
refused_kind bytes k.Ended ls end place few lexes h = (few, ls, end, lexes, h)
refused_kind bytes k.NumberRange ls end place few lexes h = (few, ls, end, lexes, h)
refused_kind bytes k.TooDeep ls end place few lexes h = (few, ls, end, lexes, h)
refused_kind bytes k.TooLong ls end place few lexes h = absurd h

fault_in : Verdict → RefusalKind × ℕ
fault_in (Ok z) = (k.Ended, 0)
fault_in (Err fault) = fault

pub refused_by : (bytes : List ℕ) (result : Result Module ReadAnswer) → GivesText result bytes → IfRefused result (λ kind place. IsRefusedText bytes kind place)
unfolding fault_in
refused_by bytes (Ok z) h = tt
refused_by bytes (Err Memory) h = tt
refused_by bytes (Err (Refused r)) (too_long long is) =
    let both : Err (k.TooLong, 2 ^ 20) ≡ Err (r.kind, r.place) = is in
    let kind : k.TooLong ≡ r.kind = ap (λ (o : Verdict). (fault_in o).0) both in
    let place : 2 ^ 20 ≡ r.place = ap (λ (o : Verdict). (fault_in o).1) both in
    subst (λ (o : RefusalKind). IsRefusedText bytes o r.place) kind (long, sym place)
refused_by bytes (Err (Refused r)) (of_tokens ls end few lexes within fits is) =
    refused_kind bytes r.kind ls end r.place few lexes (says bytes ls end (Err (Refused r)) _ is (holds (length bytes) ls end within fits))
refused_by bytes (Err (Refused r)) (no_memory is) = absurd cc

pub only_by : (bytes : List ℕ) (result : Result Module ReadAnswer) → GivesText result bytes → (z : Module) → IsModuleText bytes z → Gives result (Ok z)
only_by bytes result (too_long long is) z h = let few = h.0 in absurd (omega (arith, long, few))
only_by bytes result (of_tokens ls end few lexes within fits is) z (less, (os, other, reads)) =
    let one = one_lexing bytes os ls ends.Clean end other lexes in
    let here : Reads (tokens_in ls) z = subst (λ (u : List Lexeme). Reads (tokens_in u) z) one.0 reads in
    let whole : verdict (length bytes) ls end (run 0 (tokens_in ls) start) ≡ Ok z = ap (verdict (length bytes) ls end) (reads_run (tokens_in ls) z here) ∙ ap (λ (o : Ending). behind (length bytes) o (Ok z)) (sym one.1) in
    subst (λ (v : Verdict). Gives result v) whole is
only_by bytes result (no_memory is) z h = subst (λ (r : Result Module ReadAnswer). Gives r (Ok z)) (sym is) tt

exactly_tokens : (bytes : List ℕ) (result : Result Module ReadAnswer) → GivesText result bytes → (kind : RefusalKind) (place : ℕ)
    → (length bytes ≤ 2 ^ 20) × (ls : List Lexeme) × (end : Ending) × Lexes bytes ls end × IsRefusedBy kind (length bytes) ls end place → Gives result (Err (kind, place))
exactly_tokens bytes result (too_long long is) kind place h = let few = h.0 in absurd (omega (arith, long, few))
exactly_tokens bytes result (of_tokens ls end few lexes within fits is) kind place (less, os, last, other, why) =
    let one = one_lexing bytes os ls last end other lexes in
    let here : IsRefusedBy kind (length bytes) ls end place = subst (λ (u : List Lexeme). IsRefusedBy kind (length bytes) u end place) one.0 (subst (λ (o : Ending). IsRefusedBy kind (length bytes) os o place) one.1 why) in
    subst (λ (v : Verdict). Gives result v) (exactly kind (length bytes) ls end place here) is
exactly_tokens bytes result (no_memory is) kind place h = subst (λ (r : Result Module ReadAnswer). Gives r (Err (kind, place))) (sym is) tt

pub exactly_by : (bytes : List ℕ) (result : Result Module ReadAnswer) → GivesText result bytes → (kind : RefusalKind) (place : ℕ) → IsRefusedText bytes kind place → Gives result (Err (kind, place))
exactly_by bytes result h k.BadToken place why = exactly_tokens bytes result h k.BadToken place why
exactly_by bytes result h k.Unexpected place why = exactly_tokens bytes result h k.Unexpected place why
exactly_by bytes result h k.Ended place why = exactly_tokens bytes result h k.Ended place why
exactly_by bytes result h k.NumberRange place why = exactly_tokens bytes result h k.NumberRange place why
exactly_by bytes result h k.TooDeep place why = exactly_tokens bytes result h k.TooDeep place why
exactly_by bytes result (too_long long is) k.TooLong place why = subst (λ (j : ℕ). Gives result (Err (k.TooLong, j))) (sym why.1) is
exactly_by bytes result (of_tokens ls end few lexes within fits is) k.TooLong place why = let long = why.0 in absurd (omega (arith, long, few))
exactly_by bytes result (no_memory is) k.TooLong place why = subst (λ (r : Result Module ReadAnswer). Gives r (Err (k.TooLong, place))) (sym is) tt

-- ---- no text has two trees

pub one_tree : (bytes : List ℕ) (y z : Module) → IsModuleText bytes y → IsModuleText bytes z → y ≡ z
one_tree bytes y z (few, (ls, lexes, reads)) (less, (os, other, again)) =
    let one = one_lexing bytes os ls ends.Clean ends.Clean other lexes in
    let here : Reads (tokens_in ls) z = subst (λ (u : List Lexeme). Reads (tokens_in u) z) one.0 again in
    let both : Ok y ≡ Ok z = sym (reads_run (tokens_in ls) y reads) ∙ reads_run (tokens_in ls) z here in
    cc

-- ---- each text has a verdict

abbrev IsModuleOrRefused : List ℕ → Type 0
IsModuleOrRefused bytes = ((z : Module) × IsModuleText bytes z) ⊎ ((kind : RefusalKind) × (place : ℕ) × IsRefusedText bytes kind place)

decided_by : (bytes : List ℕ) (ls : List Lexeme) (end : Ending) → length bytes ≤ 2 ^ 20 → Lexes bytes ls end → (v : Verdict) → Holds (length bytes) ls end v → IsModuleOrRefused bytes
decided_by bytes ls end few lexes (Ok z) h = inl (z, (few, (ls, subst (λ (o : Ending). Lexes bytes ls o) h.0 lexes, h.1)))
decided_by bytes ls end few lexes (Err fault) h = inr (fault.0, fault.1, refused_kind bytes fault.0 ls end fault.1 few lexes h)

-- by the lexing that the scan gives
short_decided : (bytes : List ℕ) → length bytes ≤ 2 ^ 20 → IsModuleOrRefused bytes
short_decided bytes few =
    let ls = (scan bytes Gap).0 in
    let end = (scan bytes Gap).1 in
    let lexes = scan_lexes bytes in
    let within = tokens_within bytes ls end lexes in
    decided_by bytes ls end few lexes (verdict (length bytes) ls end (run 0 (tokens_in ls) start)) (holds (length bytes) ls end within.0 within.1)

pub some_verdict : (bytes : List ℕ) → ((z : Module) × IsModuleText bytes z) ⊎ ((kind : RefusalKind) × (place : ℕ) × IsRefusedText bytes kind place)
some_verdict bytes = by (nat_lt (2 ^ 20) (length bytes)) refl
  where
    by : (long : Bool) → nat_lt (2 ^ 20) (length bytes) ≡ long → IsModuleOrRefused bytes
    by true is = inr (k.TooLong, 2 ^ 20, (ltb-true (2 ^ 20) (length bytes) is, refl))
    by false is = short_decided bytes (ltb-false (2 ^ 20) (length bytes) is)
