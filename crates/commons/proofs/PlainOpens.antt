-- The plain form at its beginning.
use Rattle.std.proofs.Common.{◌≡◌, ℕ, zero, suc, ◌+◌, ◌*◌, ◌<◌, ◌≤◌, List, [], ◌∷◌, length, map, sym, refl, ap, ◌∙◌, subst, arith, lit≤, lit<}
use Rattle.std.specs.Prelude.{slice_index, replicate, Some, vec_capacity}
use Rattle.std.proofs.lemmas.List.{length-replicate}
use mathlib.Core.Option.{some-injective, some-ne-none}
use Rattle.hy_words.specs.Words.{tag_of}
use Rattle.commons.specs.declared.view.View.{View}
use Rattle.commons.specs.declared.plain.Account.{Account}
use Rattle.commons.specs.declared.plain.PlainCommons.{PlainCommons}
use Rattle.commons.specs.declared.plain.PlainPass.{PlainPass}
use Rattle.commons.specs.Area.{IsClosed}
use Rattle.commons.specs.Log.{IsLog}
use Rattle.commons.specs.Views.{IsAreaSize, IsLogSize}
use Rattle.commons.specs.Rule.{At, IsKept, IsAccount, written}
use Rattle.commons.specs.Steps.{first_view}
use Rattle.commons.specs.Plain.{IsPassIn, no_account, AreAccounts, shown, views_in}
use Rattle.commons.proofs.Accounts.{nth}
use Rattle.commons.proofs.PlainKeeps.{a_pass}
use Rattle.commons.proofs.Cells.{header_not_zero, grown_same}
use Rattle.commons.proofs.Grows.{knows_whole}
use Rattle.commons.proofs.Steps.{none_some}
use Rattle.commons.proofs.Terms.{closed_by}

abbrev pub zeros : ℕ → List ℕ
zeros n = replicate n 0

zeros_at : (n place : ℕ) → slice_index (zeros n) place ≡ 0
zeros_at zero place = refl
zeros_at (suc n) zero = refl
zeros_at (suc n) (suc place) = zeros_at n place

zeros_written : (n : ℕ) → written (zeros n) ≡ 0
zeros_written zero = refl
zeros_written (suc n) = let h = zeros_written n in let t : ℕ = written (zeros n) in let h' : t ≡ 0 = h in let g : 0 + t ≡ 0 = omega arith in g

zeros_closed : (n : ℕ) → IsClosed (zeros n)
zeros_closed n = closed_by (zeros n) (λ place h. absurd (h (zeros_at n place)))
    (λ place six. absurd (let z : tag_of (slice_index (zeros n) place) ≡ 0 = ap tag_of (zeros_at n place) in let six' : tag_of (slice_index (zeros n) place) ≡ 6 = six in omega arith))
    (λ cell h. absurd (header_not_zero (slice_index (zeros n) cell) h.0.header (zeros_at n cell)))

empty_log : (l n : ℕ) → IsLog l [] (zeros n)
empty_log l n = record { short = least l; entries = λ k h. absurd (omega arith); events = λ k h. absurd (omega arith); numbered = λ k h. absurd (omega arith) }
  where
    least : (m : ℕ) → 0 ≤ m
    least m = omega arith

-- the rule holds of a commons in which nothing was written
pub opens : (a l : ℕ) → IsKept a l 0 [] (zeros a) (first_view a ∷ [])
opens a l =
    let v : View = first_view a in
    let size : length (zeros a) ≡ a = length-replicate {A = ℕ} a 0 in
    let account : IsAccount a 0 [] (zeros a) v = record {
      block = record { ordered = lit≤ tt; below = lit≤ tt; inside = least a; fresh = λ place s t. absurd (omega arith) };
      knows = record { begins = ([], refl); told_begins = λ t e. absurd (none_some t e); wide = size; agrees = grown_same (zeros a); whole = λ cell h. knows_whole l [] (zeros a) [] (zeros a) cell (zeros_closed a) (empty_log l a) ([], refl) (grown_same (zeros a)) h };
      owns = record { exact = refl; own_known = λ place h. let b = h.1 in absurd (omega arith) };
      names = record { pid_known = lit≤ tt; own_late = λ place h. let b = h.1 in absurd (omega arith); spawned = λ place e. absurd (omega arith); unborn_own = λ q e. absurd (none_some q e) };
      refusal = λ r e. absurd (none_some r e);
    } in record {
      each = λ k w e. subst (IsAccount a 0 [] (zeros a)) (only v k w e) account;
      apart = λ j k x y n e f. absurd (n (first v j x e ∙ sym (first v k y f)));
      beyond = λ place h. zeros_at a place;
      sized = size;
      closed = zeros_closed a;
      entries = empty_log l a;
      parents = λ k w e place up. absurd (let z : 0 ≡ w.pid = ap (λ (u : View). u.pid) (only v k w e) in omega arith);
      actors = λ place h. absurd (omega arith);
      bound = least (a + (a + 1) * 0);
      all_requests = refl;
      all_puts = zeros_written a;
      few = lit≤ tt;
    }
  where
    least : (m : ℕ) → 0 ≤ m
    least m = omega arith

    only : (v : View) (k : ℕ) (w : View) → At (v ∷ []) k w → v ≡ w
    only v zero w e = some-injective v w e
    only v (suc k) w e = absurd (some-ne-none w (sym e))

    first : (v : View) (k : ℕ) (w : View) → At (v ∷ []) k w → k ≡ 0
    first v zero w e = refl
    first v (suc k) w e = absurd (some-ne-none w (sym e))

pub opened : (c : PlainCommons) (a l : ℕ) → c.claim ≡ 0 → c.log.items ≡ [] → c.log_size ≡ l → c.area.items ≡ zeros a → c.accounts.items ≡ no_account ∷ [] → IsAreaSize a → IsLogSize l → l ≤ vec_capacity c.log → IsPassIn c (record { slot = 0; pid = 0 })
opened c a l claim log size area accounts small short room =
    let p : PlainPass = record { slot = 0; pid = 0 } in
    let one : List Account = no_account ∷ [] in
    let all : ([], (zeros a, one)) ≡ (c.log.items, (c.area.items, c.accounts.items)) = λ i. (sym log i, (sym area i, sym accounts i)) in
    let kept : IsKept (length c.area.items) c.log_size c.claim c.log.items c.area.items (views_in c) =
    subst (λ (t : List ℕ × (List ℕ × List Account)). IsKept (length t.1.0) c.log_size c.claim t.0 t.1.0 (map (shown t.0 t.1.0 t.1.1) t.1.1)) all
    (subst (λ (s : ℕ × (ℕ × ℕ)). IsKept s.0 s.1.0 s.1.1 [] (zeros a) (first_view a ∷ [])) (λ i. (sym (length-replicate {A = ℕ} a 0) i, (sym size i, sym claim i))) (opens a l)) in
    let rows : AreAccounts c.log.items c.accounts.items = subst (λ (t : List ℕ × (List ℕ × List Account)). AreAccounts t.0 t.1.1) all record { known = λ k h. low k; parents = λ k q h e. absurd (no_parent k q e) } in
    a_pass c p (subst (λ (xs : List Account). 0 < length xs) (sym accounts) (lit< tt)) (ap (λ (xs : List Account). (nth xs 0).pid) accounts) (subst (λ (ws : List ℕ). IsAreaSize (length ws)) (sym area) (subst IsAreaSize (sym (length-replicate {A = ℕ} a 0)) small))
    (subst IsLogSize (sym size) short) (subst (λ (n : ℕ). n ≤ vec_capacity c.log) (sym size) room) rows kept
  where
    low : (k : ℕ) → (nth (no_account ∷ []) k).known ≤ 0
    low zero = lit≤ tt
    low (suc k) = lit≤ tt

    no_parent : (k q : ℕ) → (nth (no_account ∷ []) k).parent ≡ Some q → ⊥
    no_parent zero q e = none_some q e
    no_parent (suc k) q e = none_some q e
