-- A child is born.
use Rattle.std.proofs.Common.{◌≡◌, ◌≢◌, ℕ, suc, ◌+◌, ◌*◌, ◌<◌, ◌≤◌, List, [], ◌∷◌, ◌++◌, length, set, length-set, length-append, sym, refl, ap, ◌∙◌, subst, arith, lit≤, Bool, ne_eqb}
use Rattle.std.specs.Prelude.{slice_index, Option, Some, if◌then◌else◌}
use native.Mathlib.Decide.{ℕ_discrete}
use mathlib.Core.Logic.{dite}
use mathlib.Core.Option.{some-injective}
use lib.ListN.{get_elem?}
use Rattle.std.proofs.lemmas.List.{get_or_append_left}
use Rattle.hy_words.specs.Lists.{Has}
use Rattle.commons.specs.declared.view.View.{View}
use Rattle.commons.specs.Log.{actor_of, own_places}
use Rattle.commons.specs.Rule.{one_if_some, refusals, IsSpawnAt, IsAccount, AreApart, At, HasParent, IsKept}
use Rattle.commons.specs.Steps.{bore, born_of}
use Rattle.commons.proofs.Begins.{last_of}
use Rattle.commons.proofs.Owns.{own_names}
use Rattle.commons.proofs.Rows.{set_here, each_set, pairs_set, same_pid, parents_set, total_set, at_longer, total_snoc, each_snoc, pairs_snoc}
use Rattle.commons.proofs.Steps.{turned, none_some}

none_own : (area : List ℕ) (pid n : ℕ) (log : List ℕ) → ((k : ℕ) → k < length log → actor_of area (slice_index log k) ≢ pid) → own_places area pid n log ≡ []
none_own area pid n [] h = refl
none_own area pid n (w ∷ ws) h = ap (λ (b : Bool). if b then n ∷ own_places area pid (suc n) ws else own_places area pid (suc n) ws) (ne_eqb (actor_of area w) pid (h 0 (omega arith))) ∙ none_own area pid (suc n) ws (λ k i. h (suc k) (omega arith))

below_not : (p q : ℕ) → p < q → p ≢ q
below_not p q h e = omega arith

same_view : (views : List View) (j k : ℕ) (u v : View) → j ≡ k → At views j u → At views k v → u ≡ v
same_view views j k u v same e f = some-injective u v (sym e ∙ (ap (get_elem? views) same ∙ f))

pub longer_has : (xs : List ℕ) (p : ℕ) (ys : List ℕ) → Has xs p → Has (xs ++ ys) p
longer_has xs p ys h = let b = h.1 in (h.0, omega (arith, length-append xs ys), get_or_append_left xs ys 0 h.0 h.1 ∙ h.2)

pub births_kept : (a l c k q : ℕ) (log area : List ℕ) (views : List View) (v : View) → IsKept a l c log area views → At views k v → v.unborn ≡ Some q → IsKept a l c log area (set views k (bore v q) ++ born_of v q ∷ [])
births_kept a l c k q log area views v r at names =
    let w : View = bore v q in
    let child : View = born_of v q in
    let mid : List View = set views k w in
    let m = r.each k v at in
    let b = m.names.unborn_own q names in
    let late : v.pid ≤ b.0 = m.names.own_late b.0 b.1 in
    let early : b.0 < length v.known = m.owns.own_known b.0 b.1 in
    let q_is : q ≡ b.0 + 1 = b.2 in
    let above : v.pid < q = omega arith in
    let named = own_names area v.pid 0 log b.0 (subst (λ (xs : List ℕ). Has xs b.0) m.owns.exact b.1) in
    let actor : actor_of area (slice_index log b.0) ≡ v.pid = ap (λ (p : ℕ). actor_of area (slice_index log p)) (let n2 = named.2 in let z : b.0 ≡ named.0 = omega arith in z) ∙ named.3 in
    let apart_mid = pairs_set AreApart turned views k w r.apart (λ j u other e. let p = r.apart k j v u (λ h. other (sym h)) at e in record { pids = p.pids; blocks = p.blocks; clear = λ x is. absurd (none_some x is); clear_back = λ x is. ((p.clear_back x is).0, λ z. none_some x z) }) in
    let free : (j : ℕ) (u : View) → At views j u → u.pid ≢ q = λ j u e. dite (ℕ_discrete j k) (λ same z. below_not v.pid q above (sym (ap (λ (x : View). x.pid) (same_view views j k u v same e at)) ∙ z)) (λ other. ((r.apart k j v u (λ h. other (sym h)) at e).clear q names).0) in
    let child_apart : (j : ℕ) (u : View) → At mid j u → AreApart child u = each_set (λ (u : View). AreApart child u) views k w
    (λ j u other e. let p = r.apart k j v u (λ h. other (sym h)) at e in record {
      pids = λ z. (p.clear q names).0 (sym z);
      blocks = λ place s t s' t'. absurd (omega arith);
      clear = λ x is. absurd (none_some x is);
      clear_back = λ x is. ((λ z. (p.clear q names).1 (is ∙ sym (ap (λ (y : ℕ). Some y) z))), λ z. none_some x z);
    })
    record { pids = λ z. below_not v.pid q above (sym z); blocks = λ place s t s' t'. absurd (omega arith); clear = λ x is. absurd (none_some x is); clear_back = λ x is. absurd (none_some x is) } in record {
      each = each_snoc (IsAccount a c log area) mid child
          (each_set (IsAccount a c log area) views k w (λ j u other e. r.each j u e) record {
            block = m.block;
            knows = m.knows;
            owns = m.owns;
            names = record { pid_known = m.names.pid_known; own_late = m.names.own_late; spawned = m.names.spawned; unborn_own = λ x e. absurd (none_some x e) };
            refusal = m.refusal;
          })
          record {
            block = record { ordered = lit≤ tt; below = least c; inside = least a; fresh = λ place s t. absurd (omega arith) };
            knows = m.knows;
            owns = record { exact = sym (none_own area q 0 log (λ j h e. let t = r.actors j h in free t.0 t.1 t.2 (sym t.3 ∙ e))); own_known = λ place h. let h1 = h.1 in absurd (omega arith) };
            names = record {
              pid_known = omega arith;
              own_late = λ place h. let h1 = h.1 in absurd (omega arith);
              spawned = λ place e. subst (IsSpawnAt log area) (let z : b.0 ≡ place = omega arith in z) b.3;
              unborn_own = λ x e. absurd (none_some x e);
            };
            refusal = λ x e. absurd (none_some x e);
          };
      apart = pairs_snoc AreApart turned mid child apart_mid child_apart;
      beyond = r.beyond;
      sized = r.sized;
      closed = r.closed;
      entries = r.entries;
      parents =
          let mid_parents = parents_set log log area views k v w at refl (λ p h. longer_has v.born p (q ∷ []) h) (λ j u place e up. refl) r.parents in
          each_snoc (λ (u : View). HasParent log area (mid ++ child ∷ []) u) mid child
          (λ j u e place up. let t = mid_parents j u e place up in (t.0, t.1, at_longer mid (child ∷ []) t.0 t.1 t.2, t.3, t.4))
          (λ place up. (k, w, at_longer mid (child ∷ []) k w (set_here views k w v at), ap (λ (p : ℕ). actor_of area (slice_index log p)) (let z : place ≡ b.0 = omega arith in z) ∙ actor, (length v.born, omega (arith, length-append v.born (q ∷ [])), last_of v.born q)));
      actors = λ place h. let t = r.actors place h in let s = same_pid views k t.0 v w t.1 at refl t.2 in (s.0, s.1, at_longer mid (child ∷ []) s.0 s.1 s.2, t.3 ∙ s.3);
      bound = let t = total_set (λ (x : View). one_if_some x.refused) views k v w at in let s = total_snoc (λ (x : View). one_if_some x.refused) mid child in let f = r.bound in let n : ℕ = refusals views in let n' : ℕ = refusals (mid ++ child ∷ []) in let e : n' ≡ n = omega arith in subst (λ (z : ℕ). c ≤ a + (a + 1) * z) (sym e) f;
      all_requests = let t = total_set (λ (x : View). x.requests) views k v w at in let s = total_snoc (λ (x : View). x.requests) mid child in let f = r.all_requests in omega arith;
      all_puts = let t = total_set (λ (x : View). x.puts) views k v w at in let s = total_snoc (λ (x : View). x.puts) mid child in let f = r.all_puts in omega arith;
      few =
          let t = total_set (λ (x : View). one_if_some x.unborn) views k v w at in
          let o = ap (λ (x : Option ℕ). one_if_some x) names in
          let s = total_snoc (λ (x : View). one_if_some x.unborn) mid child in
          let f = r.few in omega (arith, length-set views k w, length-append mid (child ∷ []));
    }
  where
    least : (n : ℕ) → 0 ≤ n
    least n = omega arith
