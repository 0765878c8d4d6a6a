-- The loop over the bytes runs the scan.
use Rattle.std.proofs.Common.{◌≡◌, ℕ, suc, ◌+◌, ◌-◌, ◌<◌, List, ◌∷◌, ◌++◌, drop, length, get_or, refl, sym, ap, subst, ◌∙◌, append_assoc, add-one}
use Rattle.std.proofs.Math.Seq.{drop-cons, drop-length}
use Rattle.std.proofs.lemmas.List.{length-drop}
use Rattle.hy_core.specs.Tokens.{Lexes}
use Rattle.core_scan.specs.code.Scan.{stepped, ended, scan, Steps, EndsAs}
use Rattle.core_scan.proofs.Scanned.{scan_lexes}
use Rattle.hy_core.specs.declared.token.Lexeme.{Lexeme}
use Rattle.hy_core.specs.declared.token.Ending.{Ending}
use Rattle.core_scan.specs.declared.state.State.{State}
use Rattle.core_scan.specs.declared.state.State.TheVariants.{Gap}

-- what was found, and what is still found
abbrev pub with_front : List Lexeme → (List Lexeme × Ending) → List Lexeme × Ending
with_front front r = (front ++ r.0, r.1)

step_cons : (b n : ℕ) (bs : List ℕ) (state next : State) (out new : List Lexeme) (whole : List Lexeme × Ending) → n ≡ length (b ∷ bs)
    → Steps out new next (stepped n state b) → with_front out (scan (b ∷ bs) state) ≡ whole → with_front new (scan bs next) ≡ whole
unfolding scan
step_cons b n bs state next out new whole is h so_far =
    let k = subst (λ (m : ℕ). Steps out new next (stepped m state b)) is h in
    let r = stepped (length (b ∷ bs)) state b in
    let one : with_front out (scan (b ∷ bs) state) ≡ with_front (out ++ r.1) (scan bs r.0) = ap (λ (u : List Lexeme). (u, (scan bs r.0).1)) (sym (append_assoc out r.1 (scan bs r.0).0)) in
    rw (k.1, ← k.0) (sym one ∙ so_far)

pub step_at : (bs : List ℕ) (i d : ℕ) (state next : State) (out new : List Lexeme) (whole : List Lexeme × Ending) → i < length bs
    → Steps out new next (stepped (length bs - i) state (get_or bs i d)) → with_front out (scan (drop i bs) state) ≡ whole → with_front new (scan (drop (i + 1) bs) next) ≡ whole
step_at bs i d state next out new whole lt h so_far =
    let cut = drop-cons bs i d lt in
    let left : length bs - i ≡ length (get_or bs i d ∷ drop (suc i) bs) = sym (length-drop i bs) ∙ ap length cut in
    rw add-one (step_cons (get_or bs i d) (length bs - i) (drop (suc i) bs) state next out new whole left h (ap (λ (u : List ℕ). with_front out (scan u state)) (sym cut) ∙ so_far))

pub over_at : (bs : List ℕ) (i : ℕ) (state : State) (out new : List Lexeme) (end : Ending) → i ≡ length bs
    → EndsAs out new end (ended state) → with_front out (scan (drop i bs) state) ≡ scan bs Gap → Lexes bs new end
unfolding scan
over_at bs i state out new end is h so_far =
    let last : with_front out (scan (drop i bs) state) ≡ (new, end) = rw (is, drop-length bs, h.1, ← h.0) refl in
    subst (λ (r : List Lexeme × Ending). Lexes bs r.0 r.1) (sym so_far ∙ last) (scan_lexes bs)
