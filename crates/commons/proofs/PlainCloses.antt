-- The plain form at its end.
use Rattle.std.proofs.Common.{◌≡◌, ◌≢◌, ℕ, ◌<◌, List, length, map, get_or, sym, ap, ◌∙◌, subst, arith}
use Rattle.std.specs.List.{All, AllPairs}
use native.Mathlib.Decide.{ℕ_discrete, dec_lt}
use mathlib.Core.Logic.{dite}
use Rattle.commons.specs.declared.view.View.{View}
use Rattle.commons.specs.declared.plain.PlainCommons.{PlainCommons}
use Rattle.commons.specs.declared.plain.PlainPass.{PlainPass}
use Rattle.commons.specs.Rule.{At, IsKept}
use Rattle.commons.specs.Closing.{HasChildren}
use Rattle.commons.specs.Plain.{IsPassIn, IsApartIn, view_in, views_in, area_size_in, log_size_in}
use Rattle.commons.proofs.Rows.{Once}
use Rattle.commons.proofs.Gathers.{Within}
use Rattle.commons.proofs.Closes.{pid_of, kept_by_list}
use Rattle.commons.proofs.Accounts.{from_map}
use Rattle.commons.proofs.PlainKeeps.{here}

abbrev any : PlainPass
any = record { slot = 0; pid = 0 }

pub close_kept : (c : PlainCommons) (ps : List PlainPass) → All (λ p. IsPassIn c p) ps → AllPairs IsApartIn ps → HasChildren (map (view_in c) ps) → IsKept (area_size_in c) (log_size_in c) c.claim c.log.items c.area.items (map (view_in c) ps)
close_kept c ps passes apart has =
    let pass : (k : ℕ) → k < length ps → IsPassIn c (get_or ps k any) = λ k h. passes k any h in
    let at : (k : ℕ) (v : View) → At (map (view_in c) ps) k v → (k < length ps) × (view_in c (get_or ps k any) ≡ v) = λ k v e. from_map (view_in c) ps k any v e in
    let pid : (k : ℕ) (v : View) → At (map (view_in c) ps) k v → (get_or ps k any).pid ≡ v.pid = λ k v e. let t = at k v e in sym (pass k t.0).pid ∙ ap (λ (u : View). u.pid) t.1 in
    let once : Once pid_of (map (view_in c) ps) = λ j k v w e f same.
    let x = at j v e in
    let y = at k w f in
    let differ : (i n : ℕ) → i < n → n < length ps → (get_or ps i any).pid ≢ (get_or ps n any).pid = λ i n l h. apart i n any l h in
    dite (ℕ_discrete j k) (λ z. z) (λ n. absurd (dite (dec_lt j k) (λ l. differ j k l y.0 (pid j v e ∙ (same ∙ sym (pid k w f)))) (λ m. differ k j (omega arith) x.0 (pid k w f ∙ (sym same ∙ sym (pid j v e)))))) in
    let within : Within pid_of (map (view_in c) ps) (views_in c) = λ k v e. let t = at k v e in ((get_or ps k any).slot, subst (λ (u : View). At (views_in c) (get_or ps k any).slot u) t.1 (here c (get_or ps k any) (pass k t.0))) in
    let first = at has.first.0 has.first.1 has.first.2 in
    kept_by_list (area_size_in c) (log_size_in c) c.claim c.log.items c.area.items (views_in c) (map (view_in c) ps) (pass has.first.0 first.0).kept once within has
