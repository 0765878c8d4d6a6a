-- The plain form keeps the rule, and leaves other passes as they were.
use Rattle.std.proofs.Common.{◌≡◌, ◌≢◌, ℕ, ◌^◌, ◌<◌, ◌≤◌, List, [], length, get_or, set, map, length-set, get_or-set_other, get_or-set_same, sym, refl, ap, ◌∙◌, subst, arith, append-nil}
use Rattle.std.specs.Prelude.{vec_capacity}
use Rattle.std.proofs.lemmas.List.{map-set, length-take-le}
use Rattle.hy_words.specs.Lists.{Grown, StartsWith}
use Rattle.commons.specs.declared.view.View.{View}
use Rattle.commons.specs.declared.plain.Account.{Account}
use Rattle.commons.specs.declared.plain.PlainCommons.{PlainCommons}
use Rattle.commons.specs.declared.plain.PlainPass.{PlainPass}
use Rattle.commons.specs.Views.{Fits, IsAreaSize, IsLogSize}
use Rattle.commons.specs.Changes.{KeepsOthers}
use Rattle.commons.specs.Rule.{At, IsKept}
use Rattle.commons.specs.Plain.{children_of, shown, no_account, account_in, shown_in, view_in, views_in, area_size_in, log_size_in, AreAccounts, IsPassIn, IsApartIn}
use Rattle.commons.proofs.Cells.{grown_same}
use Rattle.commons.proofs.Counts.{claims_low, one_of, written_le}
use Rattle.commons.proofs.Grows.{known_length}
use Rattle.commons.proofs.Steps.{fits_at, sound_at}
use Rattle.commons.proofs.Accounts.{nth, at_map, map_same, map_except, any_default, children_set, accounts_set, with_seen}

-- the view of a pass stands among the views
pub here : (c : PlainCommons) (p : PlainPass) → IsPassIn c p → At (views_in c) p.slot (view_in c p)
here c p h = at_map (shown_in c) c.accounts.items p.slot no_account h.there

pub the_account : (c : PlainCommons) (p : PlainPass) (y : Account) → IsPassIn c p → y ≡ get_or c.accounts.items p.slot y → account_in c p ≡ y
the_account c p y h e = sym (e ∙ any_default c.accounts.items p.slot y no_account h.there)

pub known_is : (c : PlainCommons) (p : PlainPass) → IsPassIn c p → length (view_in c p).known ≡ (account_in c p).known
known_is c p h = length-take-le (account_in c p).known c.log.items (h.accounts.known p.slot h.there)

-- a pass is one where its account is there and the rule holds
pub a_pass : (d : PlainCommons) (p : PlainPass) → p.slot < length d.accounts.items → (account_in d p).pid ≡ p.pid → IsAreaSize (area_size_in d) → IsLogSize (log_size_in d) → d.log_size ≤ vec_capacity d.log → AreAccounts d.log.items d.accounts.items
    → IsKept (area_size_in d) (log_size_in d) d.claim d.log.items d.area.items (views_in d) → IsPassIn d p
a_pass d p there pid area_size log_size reserved accounts kept = record {
  there = there;
  pid = pid;
  area_size = area_size;
  log_size = log_size;
  reserved = reserved;
  accounts = accounts;
  kept = kept;
  sound = sound_at (area_size_in d) (log_size_in d) d.claim p.slot d.log.items d.area.items (views_in d) (view_in d p) area_size log_size kept (at_map (shown_in d) d.accounts.items p.slot no_account there) refl;
}

-- after a call that changed the account of the pass p, and in which of other accounts at most the words that they read show more
pub keeps : (c d : PlainCommons) (p : PlainPass) (x : Account) (w : View) → IsPassIn c p → d.log_size ≡ c.log_size → length d.area.items ≡ length c.area.items → c.log_size ≤ vec_capacity d.log → d.accounts.items ≡ set c.accounts.items p.slot x
    → x.pid ≡ (account_in c p).pid → x.parent ≡ (account_in c p).parent → x.known ≤ length d.log.items → StartsWith d.log.items c.log.items → Grown c.area.items d.area.items
    → ((k : ℕ) → k ≢ p.slot → k < length c.accounts.items → shown d.log.items d.area.items c.accounts.items (nth c.accounts.items k) ≡ with_seen d.area.items (shown_in c (nth c.accounts.items k)))
    → shown d.log.items d.area.items c.accounts.items x ≡ w → IsKept (length c.area.items) c.log_size d.claim d.log.items d.area.items (set (map (λ (y : Account). with_seen d.area.items (shown_in c y)) c.accounts.items) p.slot w)
    → KeepsOthers IsPassIn IsApartIn view_in c p d p × (view_in d p ≡ w)
keeps c d p x w h size long room accounts pid parent known more grown others mine kept =
    let xs : List Account = c.accounts.items in
    let f : Account → View = shown d.log.items d.area.items xs in
    let f' : Account → View = shown_in d in
    let same_f : (y : Account) → f' y ≡ f y = λ y. ap (λ (bs : List ℕ). record (f y) { born = bs }) (ap (λ (ys : List Account). children_of y.pid ys) accounts ∙ children_set y.pid xs p.slot x h.there pid parent) in
    let views : views_in d ≡ set (map (λ (y : Account). with_seen d.area.items (shown_in c y)) xs) p.slot w =
    ap (λ (ys : List Account). map f' ys) accounts
    ∙ (map_same f' f (set xs p.slot x) no_account (λ k l. same_f (nth (set xs p.slot x) k))
    ∙ (map-set f xs p.slot x ∙ (map_except f (λ (y : Account). with_seen d.area.items (shown_in c y)) xs p.slot no_account (f x) others ∙ ap (λ (v : View). set (map (λ (y : Account). with_seen d.area.items (shown_in c y)) xs) p.slot v) mine))) in
    let kept' : IsKept (area_size_in d) (log_size_in d) d.claim d.log.items d.area.items (views_in d) =
    subst (λ (k : ℕ × (ℕ × List View)). IsKept k.0 k.1.0 d.claim d.log.items d.area.items k.1.1) (λ i. (sym long i, (sym size i, sym views i))) kept in
    let area_size : IsAreaSize (area_size_in d) = subst IsAreaSize (sym long) h.area_size in
    let log_size : IsLogSize (log_size_in d) = subst IsLogSize (sym size) h.log_size in
    let reserved : d.log_size ≤ vec_capacity d.log = omega arith in
    let count : length d.accounts.items ≡ length xs = ap length accounts ∙ length-set xs p.slot x in
    let rows : AreAccounts d.log.items d.accounts.items = subst (AreAccounts d.log.items) (sym accounts) (accounts_set c.log.items d.log.items xs p.slot x h.accounts h.there (known_length d.log.items c.log.items more) known pid parent) in
    let at_p : account_in d p ≡ x = ap (λ (ys : List Account). get_or ys p.slot no_account) accounts ∙ get_or-set_same xs p.slot x no_account h.there in (
      (
        a_pass d p (let i = h.there in omega arith) (ap (λ (y : Account). y.pid) at_p ∙ (pid ∙ h.pid)) area_size log_size reserved rows kept',
        λ r hr apart.
            let other : r.slot ≢ p.slot = λ e. apart (sym h.pid ∙ (ap (λ (k : ℕ). (nth xs k).pid) (sym e) ∙ hr.pid)) in
            let at_r : account_in d r ≡ account_in c r = ap (λ (ys : List Account). get_or ys r.slot no_account) accounts ∙ get_or-set_other xs p.slot r.slot x no_account other in
            let view : view_in d r ≡ with_seen d.area.items (view_in c r) = ap f' at_r ∙ (same_f (account_in c r) ∙ others r.slot other hr.there) in (
              a_pass d r (let i = hr.there in omega arith) (ap (λ (y : Account). y.pid) at_r ∙ hr.pid) area_size log_size reserved rows kept',
              apart,
              (view, grown),
            ),
      ),
      ap f' at_p ∙ (same_f x ∙ mine),
    )

-- the same where the log and the area stay
pub stays : (c d : PlainCommons) (p : PlainPass) (x : Account) (w : View) → IsPassIn c p → d.log_size ≡ c.log_size → d.area.items ≡ c.area.items → d.log.items ≡ c.log.items → c.log_size ≤ vec_capacity d.log → d.accounts.items ≡ set c.accounts.items p.slot x
    → x.pid ≡ (account_in c p).pid → x.parent ≡ (account_in c p).parent → x.known ≤ length c.log.items → shown_in c x ≡ w → IsKept (length c.area.items) c.log_size d.claim c.log.items c.area.items (set (views_in c) p.slot w)
    → KeepsOthers IsPassIn IsApartIn view_in c p d p × (view_in d p ≡ w)
stays c d p x w h size area log room accounts pid parent known mine kept =
    let both : (c.log.items, c.area.items) ≡ (d.log.items, d.area.items) = λ i. (sym log i, sym area i) in
    let e : (k : ℕ) → shown d.log.items d.area.items c.accounts.items (nth c.accounts.items k) ≡ with_seen d.area.items (shown_in c (nth c.accounts.items k)) =
    λ k. subst (λ (t : List ℕ × List ℕ). shown t.0 t.1 c.accounts.items (nth c.accounts.items k) ≡ with_seen t.1 (shown_in c (nth c.accounts.items k))) both refl in
    keeps c d p x w h size (ap length area) room accounts pid parent (subst (λ (l : List ℕ). x.known ≤ length l) (sym log) known) (subst (λ (l : List ℕ). StartsWith l c.log.items) (sym log) ([], sym (append-nil c.log.items))) (subst (Grown c.area.items) (sym area) (grown_same c.area.items))
    (λ k n l. e k) (subst (λ (t : List ℕ × List ℕ). shown t.0 t.1 c.accounts.items x ≡ w) both mine)
    (subst (λ (t : List ℕ × List ℕ). IsKept (length c.area.items) c.log_size d.claim t.0 t.1 (set (map (λ (y : Account). with_seen t.1 (shown_in c y)) c.accounts.items) p.slot w)) both kept)

-- the claim word is far from its end
pub low_claim : (c : PlainCommons) (p : PlainPass) → IsPassIn c p → c.claim < 2 ^ 62
low_claim c p h = claims_low (area_size_in c) (log_size_in c) c.claim c.log.items c.area.items (views_in c) h.kept h.area_size.1 h.log_size.1

pub low_requests : (c : PlainCommons) (p : PlainPass) → IsPassIn c p → (account_in c p).requests ≤ c.claim
low_requests c p h = let o = one_of (λ (v : View). v.requests) (views_in c) p.slot (view_in c p) (here c p h) in let e = h.kept.all_requests in omega arith

pub low_puts : (c : PlainCommons) (p : PlainPass) → IsPassIn c p → (account_in c p).puts ≤ 67108864
low_puts c p h = let o = one_of (λ (v : View). v.puts) (views_in c) p.slot (view_in c p) (here c p h) in let e = h.kept.all_puts in let w = written_le c.area.items in let l = h.area_size.1 in omega arith

pub block_below : (c : PlainCommons) (p : PlainPass) → IsPassIn c p → (view_in c p).block_end ≤ c.claim
block_below c p h = (h.kept.each p.slot (view_in c p) (here c p h)).block.below

pub fits_in : (c : PlainCommons) (p : PlainPass) → IsPassIn c p → Fits (area_size_in c) (view_in c p) c.area.items
fits_in c p h = fits_at (area_size_in c) (log_size_in c) c.claim p.slot c.log.items c.area.items (views_in c) (view_in c p) h.kept (here c p h)
