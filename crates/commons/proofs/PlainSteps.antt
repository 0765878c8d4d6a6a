-- What each call of the plain form leaves.
use Rattle.std.proofs.Common.{◌≡◌, ◌≢◌, ◌⊎◌, ℕ, zero, suc, ◌+◌, ◌-◌, ◌<◌, ◌≤◌, max, List, [], ◌∷◌, ◌++◌, length, get_or, set, map, take, drop, length-set, length-append, get_or-set_same, sym, refl, ap, ◌∙◌, subst, arith, le_refl, Bool, true, false, append-nil, lt-ltb, le-ltb, lt_of_not-le}
use Rattle.std.specs.Prelude.{slice_index, if◌then◌else◌, ◌==◌, Option, Some, None, vec_capacity}
use Rattle.std.specs.Vec.{with_item}
use Rattle.std.specs.Global.{Vec}
use Rattle.std.proofs.lemmas.Bool.{eqb-true}
use Rattle.std.proofs.lemmas.List.{map-set, length-take-le, take-append-drop, take-append-le}
use Rattle.std.proofs.Math.Seq.{take-length, set-set}
use native.Mathlib.Decide.{ℕ_discrete, dec_le}
use mathlib.Core.Logic.{dite}
use Rattle.hy_words.specs.Lists.{Grown, StartsWith}
use Rattle.hy_words.specs.Words.{tag_of, payload_of}
use Rattle.commons.specs.declared.view.View.{View}
use Rattle.commons.specs.declared.plain.Account.{Account}
use Rattle.commons.specs.declared.plain.PlainCommons.{PlainCommons}
use Rattle.commons.specs.declared.plain.PlainPass.{PlainPass}
use Rattle.commons.specs.Area.{IsEntryCell}
use Rattle.std.proofs.lemmas.Grind.{get_or_default_zero}
use Rattle.commons.specs.Log.{own_places, header_at}
use Rattle.commons.specs.Views.{Fits, KnowsPlace, MayPut}
use Rattle.commons.specs.Changes.{KeepsOthers, Claims, Refuses, Puts, Learns, LooksInVain, Appends, child_at}
use Rattle.commons.specs.Steps.{longer}
use Rattle.commons.specs.Views.{MayAppend}
use Rattle.commons.specs.Rule.{At, IsKept}
use Rattle.commons.specs.Steps.{claimed, refused_claim, wrote, knowing, appended}
use Rattle.commons.specs.Plain.{shown, no_account, account_in, shown_in, view_in, views_in, area_size_in, log_size_in, IsPassIn, IsApartIn}
use Rattle.commons.proofs.Begins.{own_else, own_here}
use Rattle.commons.proofs.Cells.{header_not_zero, value_not_zero, grown_same, grown_set, actor_grows, inside_of}
use Rattle.commons.proofs.Grows.{own_grows}
use Rattle.commons.proofs.Owns.{prints_more}
use Rattle.commons.proofs.Rows.{set_here}
use Rattle.commons.proofs.Steps.{claims_kept, refusals_kept, puts_kept, catches_up, looks_kept, appends_kept}
use Rattle.commons.proofs.Accounts.{nth, at_map, all_seen, with_seen}
use Rattle.commons.proofs.PlainKeeps.{here, keeps, stays, known_is, fits_in}

abbrev pub after_claim : PlainCommons → PlainPass → ℕ → Account → PlainCommons
after_claim c p n y = record c { claim = c.claim + n; accounts = with_item c.accounts p.slot (record y { block_start = c.claim; block_end = c.claim + n; requests = y.requests + n }) }

pub claim_step : (c : PlainCommons) (p : PlainPass) (n : ℕ) (y : Account) → IsPassIn c p → account_in c p ≡ y → c.claim + n ≤ length c.area.items
    → KeepsOthers IsPassIn IsApartIn view_in c p (after_claim c p n y) p × Claims (view_in c p) c.claim n (view_in (after_claim c p n y) p)
claim_step c p n y h is low = subst (λ (z : Account). KeepsOthers IsPassIn IsApartIn view_in c p (after_claim c p n z) p × Claims (view_in c p) c.claim n (view_in (after_claim c p n z) p)) is
    (let z : Account = account_in c p in
    let x : Account = record z { block_start = c.claim; block_end = c.claim + n; requests = z.requests + n } in
    let kept = claims_kept (area_size_in c) (log_size_in c) c.claim p.slot c.log.items c.area.items (views_in c) (view_in c p) h.kept (here c p h) n low in
    let s = stays c (after_claim c p n z) p x (claimed (view_in c p) c.claim n) h refl refl refl h.reserved refl refl refl (h.accounts.known p.slot h.there) refl kept in
    (s.0, (s.1, grown_same c.area.items)))

abbrev pub after_refusal : PlainCommons → PlainPass → ℕ → Account → PlainCommons
after_refusal c p n y = record c { claim = c.claim + n; accounts = with_item c.accounts p.slot (record y { requests = y.requests + n; refused = Some (record { old = c.claim; asked = n }) }) }

pub refusal_step : (c : PlainCommons) (p : PlainPass) (n : ℕ) (y : Account) → IsPassIn c p → account_in c p ≡ y → (account_in c p).refused ≡ None → n ≤ length c.area.items + 1
    → KeepsOthers IsPassIn IsApartIn view_in c p (after_refusal c p n y) p × Refuses (view_in c p) c.claim n (view_in (after_refusal c p n y) p)
refusal_step c p n y h is first most = subst (λ (z : Account). KeepsOthers IsPassIn IsApartIn view_in c p (after_refusal c p n z) p × Refuses (view_in c p) c.claim n (view_in (after_refusal c p n z) p)) is
    (let z : Account = account_in c p in
    let x : Account = record z { requests = z.requests + n; refused = Some (record { old = c.claim; asked = n }) } in
    let kept = refusals_kept (area_size_in c) (log_size_in c) c.claim p.slot c.log.items c.area.items (views_in c) (view_in c p) h.kept (here c p h) n first most in
    let s = stays c (after_refusal c p n z) p x (refused_claim (view_in c p) c.claim n) h refl refl refl h.reserved refl refl refl (h.accounts.known p.slot h.there) refl kept in
    (s.0, (s.1, grown_same c.area.items)))

map_map : (f : Account → View) (g : View → View) (xs : List Account) → map g (map f xs) ≡ map (λ (y : Account). g (f y)) xs
map_map f g [] = refl
map_map f g (x ∷ xs) = ap (λ (vs : List View). g (f x) ∷ vs) (map_map f g xs)

abbrev pub after_put : PlainCommons → PlainPass → ℕ → Account → PlainCommons
after_put c p word y = record c { area = with_item c.area y.block_start word; accounts = with_item c.accounts p.slot (record y { block_start = y.block_start + 1; puts = y.puts + 1 }) }

pub put_step : (c : PlainCommons) (p : PlainPass) (word : ℕ) (y : Account) → IsPassIn c p → account_in c p ≡ y → (account_in c p).block_start < (account_in c p).block_end → MayPut (area_size_in c) (view_in c p) word
    → KeepsOthers IsPassIn IsApartIn view_in c p (after_put c p word y) p × Puts (view_in c p) word (view_in (after_put c p word y) p) × Grown c.area.items (after_put c p word y).area.items
put_step c p word y h is room may = subst (λ (z : Account). KeepsOthers IsPassIn IsApartIn view_in c p (after_put c p word z) p × Puts (view_in c p) word (view_in (after_put c p word z) p) × Grown c.area.items (after_put c p word z).area.items) is
    (let z : Account = account_in c p in
    let x : Account = record z { block_start = z.block_start + 1; puts = z.puts + 1 } in
    let v : View = view_in c p in
    let area : List ℕ = c.area.items in
    let area' : List ℕ = set area z.block_start word in
    let b = (h.kept.each p.slot v (here c p h)).block in
    let stop = b.inside in
    let free : slice_index area z.block_start ≡ 0 = b.fresh z.block_start (le_refl z.block_start) room in
    let grown : Grown area area' = grown_set area z.block_start word free in
    let own : (pid : ℕ) → own_places area' pid 0 c.log.items ≡ own_places area pid 0 c.log.items =
    λ pid. own_grows area area' pid 0 c.log.items (λ k l. actor_grows area area' (slice_index c.log.items k) grown (h.kept.entries.entries k l).1) in
    let one = puts_kept (area_size_in c) (log_size_in c) c.claim p.slot c.log.items area (views_in c) v word h.kept (here c p h) room may in
    let two = all_seen (area_size_in c) (log_size_in c) c.claim c.log.items area' (set (views_in c) p.slot (wrote v word)) one in
    let w : View = with_seen area' (wrote v word) in
    let views : map (with_seen area') (set (views_in c) p.slot (wrote v word)) ≡ set (map (λ (q : Account). with_seen area' (shown_in c q)) c.accounts.items) p.slot w =
    map-set (with_seen area') (views_in c) p.slot (wrote v word) ∙ ap (λ (vs : List View). set vs p.slot w) (map_map (shown_in c) (with_seen area') c.accounts.items) in
    let s = keeps c (after_put c p word z) p x w h refl (length-set area z.block_start word) h.reserved refl refl refl (h.accounts.known p.slot h.there) ([], sym (append-nil c.log.items)) grown
    (λ k n l. let q : Account = nth c.accounts.items k in ap (λ (ps : List ℕ). record (with_seen area' (shown_in c q)) { own = ps }) (own q.pid))
    (ap (λ (ps : List ℕ). record w { own = ps }) (own z.pid))
    (subst (λ (vs : List View). IsKept (length area) c.log_size c.claim c.log.items area' vs) views two) in
    (s.0, ((s.1, grown), get_or-set_same area z.block_start word 0 (omega arith)), grown))

-- a place in a known cell was written
known_written : (a place : ℕ) (v : View) (area : List ℕ) → Fits a v area → KnowsPlace a v place → slice_index area place ≢ 0
known_written a place v area f h =
    let cell : ℕ = h.0 in
    let whole = f.whole cell h.1 in
    let range = h.2 area f in
    dite (ℕ_discrete place cell)
    (λ e. subst (λ (q : ℕ). slice_index area q ≢ 0) (sym e) (header_not_zero (slice_index area cell) whole.header))
    (λ n. let r0 = range.0 in let r1 = range.1 in
    let j : ℕ = place - (cell + 1) in
    let e : cell + 1 + j ≡ place = omega arith in
    subst (λ (q : ℕ). slice_index area q ≢ 0) e (value_not_zero (slice_index area (cell + 1 + j)) (whole.values j (omega arith))))

pub get_step : (c : PlainCommons) (p : PlainPass) (place : ℕ) → IsPassIn c p → KnowsPlace (area_size_in c) (view_in c p) place → (place < length c.area.items) × (slice_index c.area.items place ≢ 0)
get_step c p place h knows = let n = known_written (area_size_in c) place (view_in c p) c.area.items (fits_in c p h) knows in (inside_of c.area.items place n, n)

-- the known words become the first n of the log
pub knows_more : (c d : PlainCommons) (p : PlainPass) (x : Account) (n : ℕ) → IsPassIn c p → d.log_size ≡ c.log_size → d.area.items ≡ c.area.items → d.log.items ≡ c.log.items → d.claim ≡ c.claim → c.log_size ≤ vec_capacity d.log → d.accounts.items ≡ set c.accounts.items p.slot x
    → x ≡ record (account_in c p) { known = n } → (account_in c p).known ≤ n → n ≤ length c.log.items
    → KeepsOthers IsPassIn IsApartIn view_in c p d p × (view_in d p ≡ record (view_in c p) { known = take n c.log.items })
knows_more c d p x n h size area log claim room accounts is more low =
    let v : View = view_in c p in
    let old = known_is c p h in
    let long : length (take n c.log.items) ≡ n = length-take-le n c.log.items low in
    let kept = catches_up (area_size_in c) (log_size_in c) c.claim p.slot c.log.items c.area.items (views_in c) v h.kept (here c p h) (take n c.log.items) (omega arith) (drop n c.log.items, sym (take-append-drop n c.log.items)) in
    stays c d p x (record v { known = take n c.log.items }) h size area log room accounts (ap (λ (y : Account). y.pid) is) (ap (λ (y : Account). y.parent) is) (subst (λ (y : Account). y.known ≤ length c.log.items) (sym is) low) (ap (shown_in c) is)
    (subst (λ (k : ℕ). IsKept (length c.area.items) c.log_size k c.log.items c.area.items (set (views_in c) p.slot (record v { known = take n c.log.items }))) (sym claim) kept)

-- of the first words of a list, fewer begin more
pub take_begins : (log : List ℕ) (k n : ℕ) → k ≤ n → n ≤ length log → StartsWith (take n log) (take k log)
take_begins log zero n l h = (take n log, refl)
take_begins [] (suc k) n l h = absurd (omega arith)
take_begins (x ∷ xs) (suc k) zero l h = absurd (omega arith)
take_begins (x ∷ xs) (suc k) (suc n) l h = let t = take_begins xs k n (omega arith) (omega arith) in (t.0, ap (λ (ys : List ℕ). x ∷ ys) t.1)

pub learns_more : (c d : PlainCommons) (p : PlainPass) (n : ℕ) → IsPassIn c p → d.area.items ≡ c.area.items → (account_in c p).known ≤ n → n ≤ length c.log.items → view_in d p ≡ record (view_in c p) { known = take n c.log.items } → Learns (view_in c p) (take n c.log.items) (view_in d p)
learns_more c d p n h area more low view =
    ((view ∙ ap (λ (s : List ℕ). record (view_in c p) { known = take n c.log.items; seen = s }) (sym area), subst (Grown c.area.items) (sym area) (grown_same c.area.items)), take_begins c.log.items (account_in c p).known n more low)

pub longer_take : (log : List ℕ) (k n : ℕ) → k ≤ length log → n ≤ length log → longer (take k log) (take n log) ≡ take (max k n) log
longer_take log k n h l =
    let a : length (take k log) ≡ k = length-take-le k log h in
    let b : length (take n log) ≡ n = length-take-le n log l in
    dite (dec_le n k)
    (λ le. ap (λ (z : Bool). if z then take n log else take k log) (le-ltb (length (take k log)) (length (take n log)) (omega arith)) ∙ ap (λ (m : ℕ). take m log) (let z : k ≡ max k n = omega arith in z))
    (λ no. let m = lt_of_not-le no in ap (λ (z : Bool). if z then take n log else take k log) (lt-ltb (length (take k log)) (length (take n log)) (omega arith)) ∙ ap (λ (m : ℕ). take m log) (let z : n ≡ max k n = omega arith in z))

-- an empty look
pub look_step : (c d : PlainCommons) (p : PlainPass) (x : Account) (n : ℕ) → IsPassIn c p → d.log_size ≡ c.log_size → d.area.items ≡ c.area.items → d.log.items ≡ c.log.items → d.claim ≡ c.claim → c.log_size ≤ vec_capacity d.log → d.accounts.items ≡ set c.accounts.items p.slot x
    → x ≡ record (account_in c p) { looks = n } → KeepsOthers IsPassIn IsApartIn view_in c p d p × (view_in d p ≡ record (view_in c p) { looks = n })
look_step c d p x n h size area log claim room accounts is =
    let v : View = view_in c p in
    let kept = looks_kept (area_size_in c) (log_size_in c) c.claim p.slot c.log.items c.area.items (views_in c) v h.kept (here c p h) n in
    stays c d p x (record v { looks = n }) h size area log room accounts (ap (λ (y : Account). y.pid) is) (ap (λ (y : Account). y.parent) is) (subst (λ (y : Account). y.known ≤ length c.log.items) (sym is) (h.accounts.known p.slot h.there)) (ap (shown_in c) is)
    (subst (λ (k : ℕ). IsKept (length c.area.items) c.log_size k c.log.items c.area.items (set (views_in c) p.slot (record v { looks = n }))) (sym claim) kept)

some_inside : (q : ℕ) (o : Bool) (n : ℕ) → (if o then Some n else None) ≡ Some q → (o ≡ true) × (q ≡ n)
some_inside q true n e = (refl, cc)
some_inside q false n e = absurd cc

-- an entry is appended
pub append_step : (c d : PlainCommons) (p : PlainPass) (x : Account) (entry : ℕ) → IsPassIn c p → (view_in c p).unborn ≡ None → MayAppend (area_size_in c) (view_in c p) entry → length c.log.items < c.log_size → d.log_size ≡ c.log_size → d.area.items ≡ c.area.items
    → d.log.items ≡ c.log.items ++ entry ∷ [] → d.claim ≡ c.claim → c.log_size ≤ vec_capacity d.log → d.accounts.items ≡ set c.accounts.items p.slot x
    → x ≡ record (account_in c p) { known = length c.log.items + 1; unborn = child_at (header_at c.area.items entry) (length c.log.items) }
    → KeepsOthers IsPassIn IsApartIn view_in c p d p × Appends (view_in c p) entry (length c.log.items) (view_in d p)
append_step c d p x entry h none may room size area log claim reserved accounts is =
    let xs : List Account = c.accounts.items in
    let words : List ℕ = c.log.items in
    let words' : List ℕ = words ++ entry ∷ [] in
    let v : View = view_in c p in
    let n : ℕ = length words in
    let child : Option ℕ = child_at (header_at c.area.items entry) n in
    let v1 : View = record v { known = words } in
    let old = known_is c p h in
    let m = h.kept.each p.slot v (here c p h) in
    let low = h.accounts.known p.slot h.there in
    let one = catches_up (area_size_in c) (log_size_in c) c.claim p.slot words c.area.items (views_in c) v h.kept (here c p h) words (omega arith) ([], sym (append-nil words)) in
    let at : At (set (views_in c) p.slot v1) p.slot v1 = set_here (views_in c) p.slot v1 v (here c p h) in
    let two = appends_kept (area_size_in c) (log_size_in c) c.claim p.slot words c.area.items (set (views_in c) p.slot v1) v1 entry child one at refl room may.names_cell may.whole may.actor
    (λ print. may.text print c.area.items (fits_in c p h) ∙ sym (prints_more c.area.items words v.known v.own m.knows.begins m.owns.own_known))
    none (λ q e. let t = some_inside q (tag_of (header_at c.area.items entry) == 10) (n + 1) e in (t.1, eqb-true (tag_of (header_at c.area.items entry)) 10 t.0)) in
    let w : View = appended v1 n entry child in
    let views : set (set (views_in c) p.slot v1) p.slot w ≡ set (views_in c) p.slot w = set-set (views_in c) p.slot v1 w in
    let mine_known : take (n + 1) words' ≡ words' = ap (λ (k : ℕ). take k words') (sym (length-append words (entry ∷ []))) ∙ take-length words' in
    let own : own_places c.area.items v.pid 0 words' ≡ own_places c.area.items v.pid 0 words ++ n ∷ [] = own_here c.area.items v.pid 0 words entry may.actor in
    let s = keeps c d p x w h size (ap length area) reserved accounts (ap (λ (y : Account). y.pid) is) (ap (λ (y : Account). y.parent) is)
    (subst (λ (y : Account). y.known ≤ length d.log.items) (sym is) (subst (λ (l : List ℕ). n + 1 ≤ length l) (sym log) (omega (arith, length-append words (entry ∷ [])))))
    (subst (λ (l : List ℕ). StartsWith l words) (sym log) (entry ∷ [], refl)) (subst (Grown c.area.items) (sym area) (grown_same c.area.items))
    (λ k other l.
    let y : Account = nth xs k in
    let differ : v.pid ≢ y.pid = (h.kept.apart p.slot k v (shown_in c y) (λ e. other (sym e)) (here c p h) (at_map (shown_in c) xs k no_account l)).pids in
    let known : take y.known words' ≡ take y.known words = take-append-le y.known words (entry ∷ []) (h.accounts.known k l) in
    let others : own_places c.area.items y.pid 0 words' ≡ own_places c.area.items y.pid 0 words = own_else c.area.items y.pid 0 words entry (λ e. differ (sym may.actor ∙ e)) in
    subst (λ (t : List ℕ × List ℕ). shown t.0 t.1 xs y ≡ with_seen t.1 (shown_in c y)) (λ i. (sym log i, sym area i)) (ap (λ (t : List ℕ × List ℕ). record (shown_in c y) { known = t.0; own = t.1 }) (λ i. (known i, others i))))
    (subst (λ (t : List ℕ × List ℕ). shown t.0 t.1 xs x ≡ w) (λ i. (sym log i, sym area i)) (ap (shown words' c.area.items xs) is ∙ ap (λ (t : List ℕ × List ℕ). record w { known = t.0; own = t.1 }) (λ i. (mine_known i, own i))))
    (subst (λ (t : ℕ × (List ℕ × List ℕ)). IsKept (length c.area.items) c.log_size t.0 t.1.0 t.1.1 (set (map (λ (y : Account). with_seen t.1.1 (shown_in c y)) xs) p.slot w)) (λ i. (sym claim i, (sym log i, sym area i)))
    (subst (λ (vs : List View). IsKept (length c.area.items) c.log_size c.claim words' c.area.items vs) views two)) in
    let known : (view_in d p).known ≡ words' = ap (λ (u : View). u.known) s.1 in (
      s.0,
      (
        m.knows.begins.0,
        (
          s.1 ∙ ap (λ (t : List ℕ × List ℕ). record (appended (knowing v t.0) n entry child) { seen = t.1 }) (λ i. (m.knows.begins.1 i, sym area i)),
          subst (Grown c.area.items) (sym area) (grown_same c.area.items),
        ),
        ap length known ∙ length-append words (entry ∷ []),
      ),
    )

-- the same at the account that a call read and wrote back
abbrev pub after_known : PlainCommons → PlainPass → ℕ → Account → PlainCommons
after_known c p n y = record c { accounts = with_item c.accounts p.slot (record y { known = n }) }

pub record Knows (c d : PlainCommons) (p : PlainPass) (n : ℕ) : Type 0 where
  pub others : KeepsOthers IsPassIn IsApartIn view_in c p d p
  pub learns : Learns (view_in c p) (view_in d p).known (view_in d p)
  pub known : (view_in d p).known ≡ take n c.log.items
  pub long : length (view_in d p).known ≡ n

pub known_step : (c : PlainCommons) (p : PlainPass) (n : ℕ) (y : Account) → IsPassIn c p → account_in c p ≡ y → y.known ≤ n → n ≤ length c.log.items → Knows c (after_known c p n y) p n
known_step c p n y h is more low =
    let d : PlainCommons = after_known c p n y in
    let more' : (account_in c p).known ≤ n = subst (λ (z : Account). z.known ≤ n) (sym is) more in
    let s = knows_more c d p (record y { known = n }) n h refl refl refl refl h.reserved refl (ap (λ (z : Account). record z { known = n }) (sym is)) more' low in
    let known : (view_in d p).known ≡ take n c.log.items = ap (λ (v : View). v.known) s.1 in record {
      others = s.0;
      learns = subst (λ (ws : List ℕ). Learns (view_in c p) ws (view_in d p)) (sym known) (learns_more c d p n h refl more' low s.1);
      known = known;
      long = ap length known ∙ length-take-le n c.log.items low;
    }

abbrev pub after_look : PlainCommons → PlainPass → ℕ → Account → PlainCommons
after_look c p n y = record c { accounts = with_item c.accounts p.slot (record y { looks = n }) }

pub looked_step : (c : PlainCommons) (p : PlainPass) (n : ℕ) (y : Account) → IsPassIn c p → account_in c p ≡ y → KeepsOthers IsPassIn IsApartIn view_in c p (after_look c p n y) p × (view_in (after_look c p n y) p ≡ record (view_in c p) { looks = n })
looked_step c p n y h is = look_step c (after_look c p n y) p (record y { looks = n }) n h refl refl refl refl h.reserved refl (ap (λ (z : Account). record z { looks = n }) (sym is))

abbrev pub after_append : PlainCommons → PlainPass → Vec ℕ → ℕ → Option ℕ → Account → PlainCommons
after_append c p log n child y = record c { log = log; accounts = with_item c.accounts p.slot (record y { known = n + 1; unborn = child }) }

pub appended_step : (c : PlainCommons) (p : PlainPass) (log : Vec ℕ) (n : ℕ) (child : Option ℕ) (y : Account) (entry : ℕ) → IsPassIn c p → account_in c p ≡ y → (view_in c p).unborn ≡ None → MayAppend (area_size_in c) (view_in c p) entry → n ≡ length c.log.items → n < c.log_size
    → log.items ≡ c.log.items ++ entry ∷ [] → vec_capacity log ≡ vec_capacity c.log → child ≡ child_at (header_at c.area.items entry) n
    → KeepsOthers IsPassIn IsApartIn view_in c p (after_append c p log n child y) p × Appends (view_in c p) entry n (view_in (after_append c p log n child y) p)
appended_step c p log n child y entry h is none may at room items capacity child_is =
    let d : PlainCommons = after_append c p log n child y in
    let reserved = h.reserved in
    let room' : length c.log.items < c.log_size = omega arith in
    let x_is : record y { known = n + 1; unborn = child } ≡ record (account_in c p) { known = length c.log.items + 1; unborn = child_at (header_at c.area.items entry) (length c.log.items) } =
    ap (λ (t : ℕ × (Option ℕ × Account)). record t.1.1 { known = t.0 + 1; unborn = t.1.0 }) (λ i. (at i, ((child_is ∙ ap (child_at (header_at c.area.items entry)) at) i, sym is i))) in
    let s = append_step c d p (record y { known = n + 1; unborn = child }) entry h none may room' refl refl items refl (subst (λ (k : ℕ). c.log_size ≤ k) (sym capacity) h.reserved) refl x_is in
    (s.0, subst (λ (k : ℕ). Appends (view_in c p) entry k (view_in d p)) (sym at) s.1)

pub looks_in_vain : (v w : View) (n : ℕ) → w ≡ record v { looks = n } → (n ≡ v.looks + 1) ⊎ ((n ≡ v.looks) × (v.looks ≡ 18446744073709551615)) → LooksInVain v w
looks_in_vain v w n e count =
    let looks : w.looks ≡ n = ap (λ (u : View). u.looks) e in
    let seen : w.seen ≡ v.seen = ap (λ (u : View). u.seen) e in (
      (e ∙ ap (λ (t : ℕ × List ℕ). record v { looks = t.0; seen = t.1 }) (λ i. (sym looks i, sym seen i)), subst (Grown v.seen) (sym seen) (grown_same v.seen)),
      subst (λ (k : ℕ). (k ≡ v.looks + 1) ⊎ ((k ≡ v.looks) × (v.looks ≡ 18446744073709551615))) (sym looks) count,
    )

-- one pass is told what another knows
pub tell_step : (c : PlainCommons) (from to : PlainPass) (m : ℕ) (x y : Account) → IsPassIn c from → IsPassIn c to → account_in c from ≡ x → account_in c to ≡ y → m ≡ max y.known x.known
    → KeepsOthers IsPassIn IsApartIn view_in c to (after_known c to m y) to × IsPassIn (after_known c to m y) from × (view_in (after_known c to m y) from ≡ view_in c from) × Learns (view_in c to) (longer (view_in c to).known (view_in c from).known) (view_in (after_known c to m y) to)
tell_step c from to m x y hf ht fx ty most =
    let d : PlainCommons = after_known c to m y in
    let kx : (account_in c from).known ≡ x.known = ap (λ (a : Account). a.known) fx in
    let ky : (account_in c to).known ≡ y.known = ap (λ (a : Account). a.known) ty in
    let lx = hf.accounts.known from.slot hf.there in
    let ly = ht.accounts.known to.slot ht.there in
    let low : m ≤ length c.log.items = omega arith in
    let s = known_step c to m y ht ty (omega arith) low in
    let list : longer (view_in c to).known (view_in c from).known ≡ take m c.log.items =
    longer_take c.log.items (account_in c to).known (account_in c from).known ly lx ∙ ap (λ (k : ℕ). take k c.log.items) (let z : max (account_in c to).known (account_in c from).known ≡ m = omega arith in z) in
    let told : Learns (view_in c to) (longer (view_in c to).known (view_in c from).known) (view_in d to) = subst (λ (ws : List ℕ). Learns (view_in c to) ws (view_in d to)) (s.known ∙ sym list) s.learns in
    let here_too : IsPassIn d from × (view_in d from ≡ view_in c from) = dite (ℕ_discrete from.slot to.slot)
    (λ same.
    let pid : from.pid ≡ to.pid = sym hf.pid ∙ (ap (λ (k : ℕ). (nth c.accounts.items k).pid) same ∙ ht.pid) in
    let is : from ≡ to = λ i. record { slot = same i; pid = pid i } in
    let twice : (account_in c from).known ≡ (account_in c to).known = ap (λ (k : ℕ). (nth c.accounts.items k).known) same in
    let still : m ≡ (account_in c to).known = omega arith in
    let view : view_in d to ≡ view_in c to = s.learns.0.0 ∙ ap (λ (ws : List ℕ). record (view_in c to) { known = ws }) (s.known ∙ ap (λ (k : ℕ). take k c.log.items) still) in
    (subst (IsPassIn d) (sym is) s.others.0, ap (view_in d) is ∙ (view ∙ ap (view_in c) (sym is))))
    (λ other.
    let differ : to.pid ≢ from.pid = λ e. (ht.kept.apart to.slot from.slot (view_in c to) (view_in c from) (λ z. other (sym z)) (here c to ht) (here c from hf)).pids (ht.pid ∙ (e ∙ sym hf.pid)) in
    let t = s.others.1 from hf differ in
    (t.0, t.2.0)) in
    (s.others, here_too.0, here_too.1, told)

-- the header that an append reads
pub header_read : (area : List ℕ) (entry place found : ℕ) → IsEntryCell area (payload_of entry) → place ≡ payload_of entry → found ≡ get_or area place found → found ≡ header_at area entry
header_read area entry place found h at e =
    let inside : payload_of entry < length area = inside_of area (payload_of entry) (header_not_zero (slice_index area (payload_of entry)) h.0.header) in
    e ∙ (get_or_default_zero area place found (omega arith) ∙ ap (slice_index area) at)
