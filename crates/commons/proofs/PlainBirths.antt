-- A birth in the plain form.
use Rattle.std.proofs.Common.{◌≡◌, ◌≢◌, ℕ, ◌+◌, ◌<◌, ◌≤◌, List, [], ◌∷◌, ◌++◌, length, set, map, length-set, length-append, get_or-set_other, get_or-set_same, sym, refl, ap, ◌∙◌, subst, arith}
use Rattle.std.specs.Prelude.{Option, Some, None, IsSome, unwrap_or, vec_capacity, vec_len, Result, Ok, Err, OnErr}
use Rattle.std.specs.Vec.{with_item}
use Rattle.std.specs.Global.{Vec}
use Rattle.std.proofs.lemmas.List.{map-append, map-set, length-map, get_or_append_left}
use Rattle.std.proofs.Math.Seq.{get_or-append_seam}
use native.Mathlib.Decide.{ℕ_discrete}
use mathlib.Core.Logic.{dite}
use Rattle.hy_words.specs.Lists.{Grown}
use Rattle.commons.specs.declared.view.View.{View}
use Rattle.commons.specs.declared.plain.Account.{Account}
use Rattle.commons.specs.declared.plain.PlainCommons.{PlainCommons}
use Rattle.commons.specs.declared.plain.PlainPass.{PlainPass}
use Rattle.commons.specs.Log.{own_places}
use Rattle.commons.specs.Views.{IsAreaSize, IsLogSize}
use Rattle.commons.specs.Changes.{KeepsOthers, IsApartFrom, IsChildOf, Bears, GivesUp}
use Rattle.commons.specs.Rule.{At, IsKept}
use Rattle.commons.specs.Steps.{bore, born_of, gave_up}
use Rattle.commons.specs.Plain.{children_of, shown, no_account, account_in, shown_in, view_in, views_in, area_size_in, log_size_in, AreAccounts, IsPassIn, IsApartIn}
use Rattle.commons.proofs.Births.{births_kept}
use Rattle.commons.proofs.Cells.{grown_same}
use Rattle.commons.proofs.Rows.{set_here, at_longer, at_last, set_else}
use Rattle.commons.proofs.Steps.{gave_up_kept}
use Rattle.commons.proofs.Accounts.{nth, at_map, map_except, children_set, children_other, children_own, no_children, accounts_set, accounts_add}
use Rattle.commons.proofs.PlainKeeps.{here, a_pass, stays}

-- no memory: the parent names no child
pub gave_up_step : (c d : PlainCommons) (p : PlainPass) (x : Account) → IsPassIn c p → d.log_size ≡ c.log_size → d.area.items ≡ c.area.items → d.log.items ≡ c.log.items → d.claim ≡ c.claim → c.log_size ≤ vec_capacity d.log → d.accounts.items ≡ set c.accounts.items p.slot x
    → x ≡ record (account_in c p) { unborn = None } → KeepsOthers IsPassIn IsApartIn view_in c p d p × GivesUp (view_in c p) (view_in d p)
gave_up_step c d p x h size area log claim room accounts is =
    let v : View = view_in c p in
    let kept = gave_up_kept (area_size_in c) (log_size_in c) c.claim p.slot c.log.items c.area.items (views_in c) v h.kept (here c p h) in
    let s = stays c d p x (gave_up v) h size area log room accounts (ap (λ (y : Account). y.pid) is) (ap (λ (y : Account). y.parent) is) (subst (λ (y : Account). y.known ≤ length c.log.items) (sym is) (h.accounts.known p.slot h.there)) (ap (shown_in c) is)
    (subst (λ (k : ℕ). IsKept (length c.area.items) c.log_size k c.log.items c.area.items (set (views_in c) p.slot (gave_up v))) (sym claim) kept) in
    (s.0, (s.1 ∙ ap (λ (a : List ℕ). record v { unborn = None; seen = a }) (sym area), subst (Grown c.area.items) (sym area) (grown_same c.area.items)))

abbrev pub child_account : Account → ℕ → Account
child_account y q = record { pid = q; parent = Some y.pid; known = y.known; unborn = None; block_start = 0; block_end = 0; looks = 0; puts = 0; requests = 0; refused = None }

-- a child is born: its account stands behind the others
pub birth_step : (c d : PlainCommons) (p child : PlainPass) (q : ℕ) → IsPassIn c p → (view_in c p).unborn ≡ Some q → d.log_size ≡ c.log_size → d.area.items ≡ c.area.items → d.log.items ≡ c.log.items → d.claim ≡ c.claim → c.log_size ≤ vec_capacity d.log
    → d.accounts.items ≡ set c.accounts.items p.slot (record (account_in c p) { unborn = None }) ++ child_account (account_in c p) q ∷ [] → child.slot ≡ length c.accounts.items → child.pid ≡ q
    → KeepsOthers IsPassIn IsApartIn view_in c p d p × (IsPassIn d child × IsApartFrom IsPassIn IsApartIn c p p child) × IsChildOf (view_in c p) q (view_in d child) × Bears (view_in c p) q (view_in d p)
birth_step c d p child q h names size area log claim room accounts slot pid =
    let xs : List Account = c.accounts.items in
    let words : List ℕ = c.log.items in
    let cells : List ℕ = c.area.items in
    let y : Account = account_in c p in
    let x : Account = record y { unborn = None } in
    let z : Account = child_account y q in
    let mid : List Account = set xs p.slot x in
    let ys : List Account = mid ++ z ∷ [] in
    let v : View = view_in c p in
    let count : length mid ≡ length xs = length-set xs p.slot x in
    let there = h.there in
    let rule = births_kept (area_size_in c) (log_size_in c) c.claim p.slot q words cells (views_in c) v h.kept (here c p h) names in
    let before : List View = set (views_in c) p.slot (bore v q) in
    let views_count : length before ≡ length xs = length-set (views_in c) p.slot (bore v q) ∙ length-map xs (shown_in c) in
    let last_at : At (before ++ born_of v q ∷ []) (length before) (born_of v q) = at_last before (born_of v q) in
    let me_at : At (before ++ born_of v q ∷ []) p.slot (bore v q) = at_longer before (born_of v q ∷ []) p.slot (bore v q) (set_here (views_in c) p.slot (bore v q) v (here c p h)) in
    -- no account has the pid of the child
    let mine : y.pid ≢ q = (rule.apart p.slot (length before) (bore v q) (born_of v q) (λ e. omega arith) me_at last_at).pids in
    let free : (k : ℕ) → k < length xs → (nth xs k).pid ≢ q = λ k l. dite (ℕ_discrete k p.slot)
    (λ e f. mine (ap (λ (j : ℕ). (nth xs j).pid) (sym e) ∙ f))
    (λ n. (rule.apart k (length before) (shown_in c (nth xs k)) (born_of v q) (λ e. omega arith) (at_longer before (born_of v q ∷ []) k (shown_in c (nth xs k)) (set_else (views_in c) p.slot k (bore v q) n ∙ at_map (shown_in c) xs k no_account l)) last_at).pids) in
    let f : Account → View = shown words cells ys in
    let children_mid : (pid : ℕ) → children_of pid mid ≡ children_of pid xs = λ pid. children_set pid xs p.slot x h.there refl refl in
    let others : (k : ℕ) → k ≢ p.slot → k < length xs → f (nth xs k) ≡ shown_in c (nth xs k) = λ k n l.
    let w : Account = nth xs k in
    let differ : y.pid ≢ w.pid = (h.kept.apart p.slot k v (shown_in c w) (λ e. n (sym e)) (here c p h) (at_map (shown_in c) xs k no_account l)).pids in
    ap (λ (bs : List ℕ). record (shown_in c w) { born = bs }) (children_other w.pid y.pid mid z refl differ ∙ children_mid w.pid) in
    let parent : f x ≡ bore v q = ap (λ (bs : List ℕ). record v { unborn = None; born = bs }) (children_own y.pid mid z refl ∙ ap (λ (bs : List ℕ). bs ++ q ∷ []) (children_mid y.pid)) in
    let rows_mid : AreAccounts words mid = accounts_set words words xs p.slot x h.accounts h.there (let e : length words ≤ length words = omega arith in e) (h.accounts.known p.slot h.there) refl refl in
    let at_mid : nth mid p.slot ≡ x = get_or-set_same xs p.slot x no_account h.there in
    let rows : AreAccounts words ys = accounts_add words mid z p.slot rows_mid (h.accounts.known p.slot h.there) (omega arith) (ap (λ (w : Account). Some w.pid) (sym at_mid)) in
    let none : children_of q ys ≡ [] = children_other q y.pid mid z refl mine ∙ (children_mid q ∙ no_children q xs (λ k r l e. let t = h.accounts.parents k r l e in λ same. free t.0 t.1 (t.2 ∙ same))) in
    let own : [] ≡ own_places cells q 0 words = (rule.each (length before) (born_of v q) last_at).owns.exact in
    let born : f z ≡ born_of v q = ap (λ (t : List ℕ × List ℕ). record (born_of v q) { own = t.0; born = t.1 }) (λ i. (sym own i, none i)) in
    let views : map f ys ≡ before ++ born_of v q ∷ [] =
    map-append f mid (z ∷ [])
    ∙ (ap (λ (us : List View). us ++ f z ∷ []) (map-set f xs p.slot x ∙ (map_except f (shown_in c) xs p.slot no_account (f x) others ∙ ap (λ (u : View). set (views_in c) p.slot u) parent))
    ∙ ap (λ (u : View). before ++ u ∷ []) born) in
    let long : length d.accounts.items ≡ length xs + 1 = ap length accounts ∙ (length-append mid (z ∷ []) ∙ ap (λ (n : ℕ). n + 1) count) in
    let inside : (k : ℕ) → k < length xs → k < length mid = λ k l. omega arith in
    let below : (k : ℕ) → k < length xs → k < length d.accounts.items = λ k l. omega arith in
    let parent_there : p.slot < length d.accounts.items = below p.slot h.there in
    let child_there : child.slot < length d.accounts.items = omega arith in
    let log_size : IsLogSize (log_size_in d) = subst IsLogSize (sym size) h.log_size in
    let reserved : d.log_size ≤ vec_capacity d.log = omega arith in
    let all : (words, (cells, ys)) ≡ (d.log.items, (d.area.items, d.accounts.items)) = λ i. (sym log i, (sym area i, sym accounts i)) in
    let kept : IsKept (area_size_in d) (log_size_in d) d.claim d.log.items d.area.items (views_in d) =
    subst (λ (t : List ℕ × (List ℕ × List Account)). IsKept (length t.1.0) (log_size_in d) d.claim t.0 t.1.0 (map (shown t.0 t.1.0 t.1.1) t.1.1)) all
    (subst (λ (s : ℕ × (ℕ × List View)). IsKept (length cells) s.0 s.1.0 words cells s.1.1) (λ i. (sym size i, (sym claim i, sym views i))) rule) in
    let area_size : IsAreaSize (area_size_in d) = subst (λ (a : List ℕ). IsAreaSize (length a)) (sym area) h.area_size in
    let rows_d : AreAccounts d.log.items d.accounts.items = subst (λ (t : List ℕ × (List ℕ × List Account)). AreAccounts t.0 t.1.1) all rows in
    let at : (k : ℕ) → k < length xs → nth d.accounts.items k ≡ nth mid k = λ k l. ap (λ (ws : List Account). nth ws k) accounts ∙ get_or_append_left mid (z ∷ []) no_account k (inside k l) in
    let at_p : account_in d p ≡ x = at p.slot h.there ∙ at_mid in
    let at_child : account_in d child ≡ z = ap (λ (k : ℕ). nth d.accounts.items k) (slot ∙ sym count) ∙ (ap (λ (ws : List Account). nth ws (length mid)) accounts ∙ get_or-append_seam mid z [] no_account) in
    let shows : (w : Account) → shown_in d w ≡ f w = λ w. subst (λ (t : List ℕ × (List ℕ × List Account)). shown t.0 t.1.0 t.1.1 w ≡ f w) all refl in
    let grown : Grown cells d.area.items = subst (Grown cells) (sym area) (grown_same cells) in
    let seen : (w : View) (u : View) → w ≡ record u { seen = cells } → w ≡ record u { seen = d.area.items } = λ w u e. e ∙ ap (λ (a : List ℕ). record u { seen = a }) (sym area) in (
      (
        a_pass d p parent_there (ap (λ (w : Account). w.pid) at_p ∙ h.pid) area_size log_size reserved rows_d kept,
        λ r hr apart.
            let r_there = below r.slot hr.there in
            let other : r.slot ≢ p.slot = λ e. apart (sym h.pid ∙ (ap (λ (k : ℕ). (nth xs k).pid) (sym e) ∙ hr.pid)) in
            let at_r : account_in d r ≡ account_in c r = at r.slot hr.there ∙ get_or-set_other xs p.slot r.slot x no_account other in (
              a_pass d r r_there (ap (λ (w : Account). w.pid) at_r ∙ hr.pid) area_size log_size reserved rows_d kept,
              apart,
              (seen (view_in d r) (view_in c r) (ap (shown_in d) at_r ∙ (shows (account_in c r) ∙ others r.slot other hr.there)), grown),
            ),
      ),
      (
        a_pass d child child_there (ap (λ (w : Account). w.pid) at_child ∙ sym pid) area_size log_size reserved rows_d kept,
        ((λ e. mine (h.pid ∙ (e ∙ pid))), λ r hr apart e. free r.slot hr.there (hr.pid ∙ (sym e ∙ pid))),
      ),
      (seen (view_in d child) (born_of v q) (ap (shown_in d) at_child ∙ (shows z ∙ born)), grown),
      (seen (view_in d p) (bore v q) (ap (shown_in d) at_p ∙ (shows x ∙ parent)), grown),
    )

abbrev pub with_accounts : PlainCommons → Vec Account → PlainCommons
with_accounts c xs = record c { accounts = xs }

-- the same where the accounts are what a push left
pub gave_up_with : (c : PlainCommons) (p : PlainPass) (xs : Vec Account) (y : Account) → IsPassIn c p → account_in c p ≡ y → xs.items ≡ set c.accounts.items p.slot (record y { unborn = None })
    → KeepsOthers IsPassIn IsApartIn view_in c p (with_accounts c xs) p × GivesUp (view_in c p) (view_in (with_accounts c xs) p)
gave_up_with c p xs y h is items = gave_up_step c (with_accounts c xs) p (record y { unborn = None }) h refl refl refl refl h.reserved items (ap (λ (z : Account). record z { unborn = None }) (sym is))

pub birth_with : (c : PlainCommons) (p : PlainPass) (xs : Vec Account) (y : Account) (pid slot q : ℕ) → IsPassIn c p → account_in c p ≡ y → (view_in c p).unborn ≡ Some q → pid ≡ q → slot ≡ length c.accounts.items → xs.items ≡ set c.accounts.items p.slot (record y { unborn = None }) ++ child_account y pid ∷ []
    → KeepsOthers IsPassIn IsApartIn view_in c p (with_accounts c xs) p × (IsPassIn (with_accounts c xs) (record { slot = slot; pid = pid }) × IsApartFrom IsPassIn IsApartIn c p p (record { slot = slot; pid = pid }))
    × IsChildOf (view_in c p) q (view_in (with_accounts c xs) (record { slot = slot; pid = pid })) × Bears (view_in c p) q (view_in (with_accounts c xs) p)
birth_with c p xs y pid slot q h is names named place items =
    birth_step c (with_accounts c xs) p (record { slot = slot; pid = pid }) q h names refl refl refl refl h.reserved
    (items ∙ ap (λ (t : Account × ℕ). set c.accounts.items p.slot (record t.0 { unborn = None }) ++ child_account t.0 t.1 ∷ []) (λ i. (sym is i, named i))) place named

pub the_child : (o : Option ℕ) → IsSome o → (q : ℕ) × (o ≡ Some q)
the_child None h = absurd cc
the_child (Some q) h = (q, refl)

pub named_child : (o : Option ℕ) (q : ℕ) → o ≡ Some q → unwrap_or o 0 ≡ q
named_child o q e = ap (λ (x : Option ℕ). unwrap_or x 0) e

pub on_err : {T E : Type 0} (r : Result T E) (P : Type 0) → P → OnErr r P
on_err (Ok v) P h = tt
on_err (Err e) P h = h

pub slot_is : (xs : Vec Account) (i : ℕ) (x : Account) (n : ℕ) → n ≡ vec_len (with_item xs i x) → n ≡ length xs.items
slot_is xs i x n e = e ∙ xs.ok.0
