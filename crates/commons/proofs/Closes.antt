-- A list of passes that has pid 0 and, with each pass, its children, has every pass; so the rule holds of the list.
use Rattle.std.proofs.Common.{◌≡◌, ℕ, zero, suc, ◌+◌, ◌-◌, ◌*◌, ◌<◌, ◌≤◌, List, [], ◌∷◌, length, sym, refl, ap, ◌∙◌, subst, arith}
use native.Mathlib.Decide.{ℕ_discrete}
use mathlib.Core.Logic.{dite}
use mathlib.Core.Option.{some-injective}
use lib.ListN.{get_elem?}
use Rattle.hy_words.specs.Lists.{Has, total}
use Rattle.commons.specs.declared.view.View.{View}
use Rattle.commons.specs.Log.{own_places}
use Rattle.commons.specs.Rule.{At, IsKept, one_if_some}
use Rattle.commons.specs.Closing.{HasChildren}
use Rattle.commons.proofs.Rows.{Once}
use Rattle.commons.proofs.Gathers.{Within, same_total}
use Rattle.commons.proofs.Owns.{own_has}

abbrev pub pid_of : View → ℕ
pid_of v = v.pid

pub pids_once : (a l c : ℕ) (log area : List ℕ) (views : List View) → IsKept a l c log area views → Once pid_of views
pids_once a l c log area views r j k u v e f same = dite (ℕ_discrete j k) (λ z. z) (λ n. absurd ((r.apart j k u v n e f).pids same))

module _ (a l c : ℕ) (log area : List ℕ) (views xs : List View) (r : IsKept a l c log area views) (once : Once pid_of xs) (within : Within pid_of xs views) (has : HasChildren xs) where
  same_one : (i j : ℕ) (u v : View) → At views i u → At views j v → u.pid ≡ v.pid → u ≡ v
  same_one i j u v e f same = some-injective u v (sym e ∙ (ap (get_elem? views) (pids_once a l c log area views r i j u v e f same) ∙ f))

  found : (k i : ℕ) (v u : View) → At views k v → At xs i u → u.pid ≡ v.pid → (j : ℕ) × At xs j v
  found k i v u at there same = let w = within i u there in (i, subst (λ (z : View). At xs i z) (same_one w.0 k u v w.1 at same) there)

  covered : (n k : ℕ) (v : View) → At views k v → v.pid < n → (j : ℕ) × At xs j v
  covered zero k v at low = absurd (omega arith)
  covered (suc n) k v at low = dite (ℕ_discrete v.pid 0)
      (λ root. found k has.first.0 v has.first.1 at has.first.2 (has.first.3 ∙ sym root))
      (λ other.
      let place : ℕ = v.pid - 1 in
      let up : v.pid ≡ suc place = omega arith in
      let p = r.parents k v at place up in
      let account = r.each p.0 p.1 p.2 in
      let low_place : place < length log = ((r.each k v at).names.spawned place up).0 in
      let own : Has p.1.own place = subst (λ (ps : List ℕ). Has ps place) (sym account.owns.exact) (subst (λ (q : ℕ). Has (own_places area p.1.pid 0 log) q) (let z : 0 + place ≡ place = omega arith in z) (own_has area p.1.pid 0 log place low_place p.3)) in
      let late : p.1.pid ≤ place = account.names.own_late place own in
      let parent = covered n p.0 p.1 p.2 (omega arith) in
      let child = has.children parent.0 p.1 v.pid parent.1 p.4 in
      found k child.0 v child.1 at child.2 child.3)

  all_there : Within pid_of views xs
  all_there k v at = covered (suc v.pid) k v at (omega arith)

  sums : (f : View → ℕ) → total f views ≡ total f xs
  sums f = same_total pid_of f views xs (pids_once a l c log area views r) once all_there within

  count : (ys : List View) → total (λ (v : View). 1) ys ≡ length ys
  count [] = refl
  count (y ∷ ys) = let h = count ys in let t : ℕ = total (λ (v : View). 1) ys in let h' : t ≡ length ys = h in let g : 1 + t ≡ suc (length ys) = omega arith in g

  -- the rule holds of the list
  pub kept_by_list : IsKept a l c log area xs
  kept_by_list = record {
    each = λ k v at. let w = within k v at in r.each w.0 v w.1;
    apart = λ j k v w n e f.
        let x = within j v e in
        let y = within k w f in
        r.apart x.0 y.0 v w (λ z. n (once j k v w e f (ap (λ (u : View). u.pid) (some-injective v w (sym x.1 ∙ (ap (get_elem? views) z ∙ y.1)))))) x.1 y.1;
    beyond = r.beyond;
    sized = r.sized;
    closed = r.closed;
    entries = r.entries;
    parents = λ k v at place up. let w = within k v at in let p = r.parents w.0 v w.1 place up in let j = all_there p.0 p.1 p.2 in (j.0, p.1, j.1, p.3, p.4);
    actors = λ place h. let t = r.actors place h in let j = all_there t.0 t.1 t.2 in (j.0, t.1, j.1, t.3);
    bound = subst (λ (m : ℕ). c ≤ a + (a + 1) * m) (sums (λ (v : View). one_if_some v.refused)) r.bound;
    all_requests = r.all_requests ∙ sums (λ (v : View). v.requests);
    all_puts = r.all_puts ∙ sums (λ (v : View). v.puts);
    few = let s = sums (λ (v : View). one_if_some v.unborn) in let n = sums (λ (v : View). 1) in let p = count views in let q = count xs in let f = r.few in omega arith;
  }
