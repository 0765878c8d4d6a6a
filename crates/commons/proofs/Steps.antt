-- Each step of a pass keeps the rule.
use Rattle.std.proofs.Common.{◌≡◌, ◌≢◌, ◌⊎◌, ℕ, suc, ◌+◌, ◌*◌, ◌<◌, ◌≤◌, List, [], ◌∷◌, ◌++◌, length, set, length-set, length-append, append-nil, lt_of_not-le, Bool, le-ltb, lt-ltb, get_or-set_other, sym, refl, ap, ◌∙◌, inl, inr, ⊎_elim, subst, arith, le_refl, mul-suc}
use Rattle.std.specs.Prelude.{if◌then◌else◌, slice_index, Option, Some, None}
use mathlib.Core.Option.{some}
use lib.ListN.{get_elem?}
use Rattle.std.proofs.lemmas.List.{set-get_or, get_or_append_left}
use native.Mathlib.Decide.{dec_le}
use mathlib.Core.Logic.{dite}
use Rattle.hy_words.specs.Lists.{StartsWith, Grown, Has}
use Rattle.hy_words.specs.Words.{payload_of, tag_of, IsHeader, IsValue}
use Rattle.commons.specs.declared.view.View.{View}
use Rattle.commons.specs.declared.view.Refusal.{Refusal}
use Rattle.commons.specs.Area.{IsEntryCell, IsTermCell, IsClosed}
use Rattle.commons.specs.Log.{header_at, actor_of, text_of, own_places, prints, prints_at, IsLog}
use Rattle.commons.specs.Views.{Fits, MayPut, IsAreaSize, IsLogSize, IsSound}
use Rattle.commons.specs.Steps.{longer}
use Rattle.commons.specs.Rule.{one_if_some, refusals, HasBlock, HasKnown, HasOwn, IsSpawnAt, HasPid, HasRefusal, IsAccount, AreApart, At, IsKept}
use Rattle.commons.specs.Steps.{claimed, refused_claim, wrote, read, learnt, appended, gave_up, or_nil, told_of, settled, knowing, looked}
use Rattle.commons.proofs.Begins.{one_further, begins_more, whole_begin, last_of, own_else, own_here, has_last, at_most_one}
use Rattle.commons.proofs.Cells.{grown_on, grown_set, grown_both, actor_grows, header_grows}
use Rattle.commons.proofs.Grows.{own_grows, written_set, fits_by, knows_whole, put_not_zero, put_shape, put_names, closed_put, log_grows, log_appends, known_in_log, known_length}
use Rattle.commons.proofs.Owns.{prints_own}
use Rattle.commons.proofs.Rows.{at_set, set_here, same_pid, parents_set, total_set, each_set, pairs_set}

pub none_some : {T : Type 0} (x : T) → None ≡ Some x → ⊥
none_some x e = cc

pub turned : (v w : View) → AreApart v w → AreApart w v
turned v w h = record { pids = λ e. h.pids (sym e); blocks = λ place s t s' t'. h.blocks place s' t' s t; clear = h.clear_back; clear_back = h.clear }

-- where only the claim word moves up, each pass is as it was
pub rises : (a c d : ℕ) (log area : List ℕ) (v : View) → c ≤ d → IsAccount a c log area v → IsAccount a d log area v
rises a c d log area v up h = record {
  block = let b = h.block.below in record { ordered = h.block.ordered; below = omega arith; inside = h.block.inside; fresh = h.block.fresh };
  knows = h.knows;
  owns = h.owns;
  names = h.names;
  refusal = λ r e. let m = h.refusal r e in omega arith;
}

-- a pass changes in its own account alone, and the claim word may go up
module _ (a l c : ℕ) (log area : List ℕ) (views : List View) (k : ℕ) (v w : View) (r : IsKept a l c log area views) (at : At views k v) where
  pub changed : (d asked : ℕ) → d ≡ c + asked → IsAccount a d log area w → w.pid ≡ v.pid → ((q : ℕ) → w.unborn ≡ Some q → v.unborn ≡ Some q) → one_if_some w.unborn ≤ one_if_some v.unborn → w.born ≡ v.born → w.puts ≡ v.puts → w.requests ≡ v.requests + asked
      → ((place : ℕ) → w.block_start ≤ place → place < w.block_end → ((v.block_start ≤ place) × (place < v.block_end)) ⊎ (c ≤ place)) → d ≤ a + (a + 1) * refusals (set views k w) → IsKept a l d log area (set views k w)
  changed d asked sum account pid child fewer born put requested block bound = record {
    each = each_set (IsAccount a d log area) views k w (λ j u other e. rises a c d log area u (omega arith) (r.each j u e)) account;
    apart = pairs_set AreApart turned views k w r.apart (λ j u other e.
        let p = r.apart k j v u (λ h. other (sym h)) at e in record {
          pids = λ z. p.pids (sym pid ∙ z);
          blocks = λ place s t s' t'. ⊎_elim (λ (x : (v.block_start ≤ place) × (place < v.block_end)). p.blocks place x.0 x.1 s' t') (λ (x : c ≤ place). let b = (r.each j u e).block.below in absurd (omega arith)) (block place s t);
          clear = λ q is. p.clear q (child q is);
          clear_back = λ q is. let y = p.clear_back q is in ((λ z. y.0 (sym pid ∙ z)), (λ z. y.1 (child q z)));
        });
    beyond = λ place h. r.beyond place (omega arith);
    sized = r.sized;
    closed = r.closed;
    entries = r.entries;
    parents = parents_set log log area views k v w at pid (λ p h. subst (λ (b : List ℕ). Has b p) (sym born) h) (λ j u place e up. refl) r.parents;
    actors = λ place h. let t = r.actors place h in let s = same_pid views k t.0 v w t.1 at pid t.2 in (s.0, s.1, s.2, t.3 ∙ s.3);
    bound = bound;
    all_requests = let t = total_set (λ (x : View). x.requests) views k v w at in let f = r.all_requests in omega arith;
    all_puts = let t = total_set (λ (x : View). x.puts) views k v w at in let f = r.all_puts in omega arith;
    few = let t = total_set (λ (x : View). one_if_some x.unborn) views k v w at in let f = r.few in omega (arith, length-set views k w);
  }

  -- the bound stays where the pass has the same refused claim
  pub same_bound : w.refused ≡ v.refused → c ≤ a + (a + 1) * refusals (set views k w)
  same_bound refused =
      let t = total_set (λ (x : View). one_if_some x.refused) views k v w at in
      let e = ap (λ (o : Option Refusal). one_if_some o) refused in
      let m : ℕ = refusals views in
      let m' : ℕ = refusals (set views k w) in
      let same : m' ≡ m = omega arith in
      subst (λ (z : ℕ). c ≤ a + (a + 1) * z) (sym same) r.bound

  -- what it knows or is called changes, and neither its block nor its claims
  pub retouched : IsAccount a c log area w → w.pid ≡ v.pid → ((q : ℕ) → w.unborn ≡ Some q → v.unborn ≡ Some q) → one_if_some w.unborn ≤ one_if_some v.unborn → w.born ≡ v.born → w.puts ≡ v.puts → w.requests ≡ v.requests → w.block_start ≡ v.block_start
      → w.block_end ≡ v.block_end → w.refused ≡ v.refused → IsKept a l c log area (set views k w)
  retouched account pid child fewer born put requested start stop refused = changed c 0 (omega arith) account pid child fewer born put (omega arith) (λ place s t. inl (omega arith, omega arith)) (same_bound refused)

module _ (a l c k : ℕ) (log area : List ℕ) (views : List View) (v : View) (r : IsKept a l c log area views) (at : At views k v) where
  mine : IsAccount a c log area v
  mine = r.each k v at

  pub fits_at : Fits a v area
  fits_at = fits_by a l log area v.known v.seen r.sized r.closed r.entries (mine).knows.begins (mine).knows.agrees

  -- a claim that fits
  pub claims_kept : (n : ℕ) → c + n ≤ a → IsKept a l (c + n) log area (set views k (claimed v c n))
  claims_kept n fit = changed a l c log area views k v (claimed v c n) r at (c + n) n refl
      record {
        block = record { ordered = omega arith; below = omega arith; inside = fit; fresh = λ place s t. r.beyond place s };
        knows = (mine).knows;
        owns = (mine).owns;
        names = (mine).names;
        refusal = λ x e. let m = (mine).refusal x e in omega arith;
      }
      refl (λ q e. e) (le_refl (one_if_some v.unborn)) refl refl refl (λ place s t. inr s) (omega arith)

  -- a claim that is refused
  pub refusals_kept : (n : ℕ) → v.refused ≡ None → n ≤ a + 1 → IsKept a l (c + n) log area (set views k (refused_claim v c n))
  refusals_kept n first most =
      let w : View = refused_claim v c n in
      let was : one_if_some v.refused ≡ 0 = ap (λ (o : Option Refusal). one_if_some o) first in
      let t = total_set (λ (x : View). one_if_some x.refused) views k v w at in
      let m : ℕ = refusals views in
      let m' : ℕ = refusals (set views k w) in
      let e : m' ≡ suc m = omega arith in
      changed a l c log area views k v w r at (c + n) n refl
      record {
        block = let b = (mine).block.below in record { ordered = (mine).block.ordered; below = omega arith; inside = (mine).block.inside; fresh = (mine).block.fresh };
        knows = (mine).knows;
        owns = (mine).owns;
        names = (mine).names;
        refusal = λ x e. let o : c ≡ x.old = ap (λ (y : Option Refusal). old_or y c) e in let q : n ≡ x.asked = ap (λ (y : Option Refusal). asked_or y n) e in omega arith;
      }
      refl (λ q e. e) (le_refl (one_if_some v.unborn)) refl refl refl (λ place s t. inl (s, t)) (subst (λ (z : ℕ). c + n ≤ a + (a + 1) * z) (sym e) (one_more a c n m most r.bound))
    where
      old_or : Option Refusal → ℕ → ℕ
      old_or None d = d
      old_or (Some x) d = x.old

      asked_or : Option Refusal → ℕ → ℕ
      asked_or None d = d
      asked_or (Some x) d = x.asked

      one_more : (a c n m : ℕ) → n ≤ a + 1 → c ≤ a + (a + 1) * m → c + n ≤ a + (a + 1) * suc m
      one_more a c n m most f =
          let x : ℕ = (a + 1) * m in
          let y : ℕ = (a + 1) * suc m in
          let f' : c ≤ a + x = f in
          let h : y ≡ x + (a + 1) = mul-suc (a + 1) m in
          let g : c + n ≤ a + y = omega arith in g

  -- an area word is read
  pub reads_kept : (place : ℕ) → place < a → IsKept a l c log area (set views k (read v place (slice_index area place)))
  reads_kept place inside =
      let word : ℕ = slice_index area place in
      let size = r.sized in
      let wide = (mine).knows.wide in
      let seen' : List ℕ = set v.seen place word in
      let here : set area place word ≡ area = set-get_or area place 0 in
      let agrees : Grown seen' area = subst (λ (b : List ℕ). Grown seen' b) here (grown_both v.seen area place word (omega arith) (omega arith) (mine).knows.agrees) in
      retouched a l c log area views k v (read v place word) r at
      record {
        block = (mine).block;
        knows = record { begins = (mine).knows.begins; told_begins = (mine).knows.told_begins; wide = length-set v.seen place word ∙ (mine).knows.wide; agrees = agrees; whole = λ cell h. knows_whole l log area v.known seen' cell r.closed r.entries (mine).knows.begins agrees h };
        owns = (mine).owns;
        names = (mine).names;
        refusal = (mine).refusal;
      }
      refl (λ q e. e) (le_refl (one_if_some v.unborn)) refl refl refl refl refl refl

  -- the known words go on, and the account with them
  known_account : (w : View) → w.pid ≡ v.pid → w.own ≡ v.own → w.unborn ≡ v.unborn → w.block_start ≡ v.block_start → w.block_end ≡ v.block_end → w.seen ≡ v.seen → w.refused ≡ v.refused → length v.known ≤ length w.known → StartsWith log w.known
      → ((t : List ℕ) → w.told ≡ Some t → StartsWith log t) → IsAccount a c log area w
  known_account w pid own child start stop seen refused more begins told =
      let agrees : Grown w.seen area = subst (λ (s : List ℕ). Grown s area) (sym seen) (mine).knows.agrees in record {
        block = subst (λ (z : ℕ). HasBlock a c area w.block_start z) (sym stop) (subst (λ (z : ℕ). HasBlock a c area z v.block_end) (sym start) (mine).block);
        knows = record { begins = begins; told_begins = told; wide = ap length seen ∙ (mine).knows.wide; agrees = agrees; whole = λ cell h. knows_whole l log area w.known w.seen cell r.closed r.entries begins agrees h };
        owns = record {
          exact = own ∙ ((mine).owns.exact ∙ ap (λ (q : ℕ). own_places area q 0 log) (sym pid));
          own_known = λ place h. let b = (mine).owns.own_known place (subst (λ (o : List ℕ). Has o place) own h) in omega arith;
        };
        names =
            let n = (mine).names in
            let low = n.pid_known in
            let named : HasPid log area v.pid w.known v.own v.unborn = record { pid_known = omega arith; own_late = n.own_late; spawned = n.spawned; unborn_own = n.unborn_own } in
            subst (λ (z : Option ℕ). HasPid log area w.pid w.known w.own z) (sym child) (subst (λ (z : List ℕ). HasPid log area w.pid w.known z v.unborn) (sym own) (subst (λ (z : ℕ). HasPid log area z w.known v.own v.unborn) (sym pid) named));
        refusal = subst (HasRefusal c) (sym refused) (mine).refusal;
      }

  -- the next word of the log is learnt
  pub learns_kept : length v.known < length log → IsKept a l c log area (set views k (learnt v (slice_index log (length v.known))))
  learns_kept more =
      let word : ℕ = slice_index log (length v.known) in
      let w : View = learnt v word in
      retouched a l c log area views k v w r at
      (known_account w refl refl refl refl refl refl refl (omega (arith, length-append v.known (word ∷ []))) (one_further log v.known (mine).knows.begins more) (mine).knows.told_begins)
      refl (λ q e. e) (le_refl (one_if_some v.unborn)) refl refl refl refl refl refl

  -- all words of the log become known
  pub catches_up : (known : List ℕ) → length v.known ≤ length known → StartsWith log known → IsKept a l c log area (set views k (knowing v known))
  catches_up known more begins =
      let w : View = knowing v known in
      retouched a l c log area views k v w r at
      (known_account w refl refl refl refl refl refl refl more begins (mine).knows.told_begins)
      refl (λ q e. e) (le_refl (one_if_some v.unborn)) refl refl refl refl refl refl

  -- a look found nothing; its count is a free number
  pub looks_kept : (looks : ℕ) → IsKept a l c log area (set views k (looked v looks))
  looks_kept looks = retouched a l c log area views k v (looked v looks) r at record { block = (mine).block; knows = (mine).knows; owns = (mine).owns; names = (mine).names; refusal = (mine).refusal } refl (λ q e. e) (le_refl (one_if_some v.unborn)) refl refl refl refl refl refl

  -- what another pass knew is joined in
  pub tells_kept : (t : List ℕ) → StartsWith log t → IsKept a l c log area (set views k (told_of v t))
  tells_kept t begins = retouched a l c log area views k v (told_of v t) r at
      (known_account (told_of v t) refl refl refl refl refl refl refl (le_refl (length v.known)) (mine).knows.begins (λ u e. subst (λ (z : List ℕ). StartsWith log z) (ap or_nil e) begins))
      refl (λ q e. e) (le_refl (one_if_some v.unborn)) refl refl refl refl refl refl

  -- a birth that found no memory
  pub gave_up_kept : IsKept a l c log area (set views k (gave_up v))
  gave_up_kept = retouched a l c log area views k v (gave_up v) r at
      record {
        block = (mine).block;
        knows = (mine).knows;
        owns = (mine).owns;
        names = let n = (mine).names in record { pid_known = n.pid_known; own_late = n.own_late; spawned = n.spawned; unborn_own = λ q e. absurd (none_some q e) };
        refusal = (mine).refusal;
      }
      refl (λ q e. absurd (none_some q e)) (least (one_if_some v.unborn)) refl refl refl refl refl refl
    where
      least : (n : ℕ) → 0 ≤ n
      least n = omega arith

longer_of : (P : List ℕ → Type 0) (xs ys : List ℕ) → P xs → (length xs ≤ length ys → P ys) → P (longer xs ys)
longer_of P xs ys p q = dite (dec_le (length ys) (length xs))
    (λ le. subst (λ (b : Bool). P (if b then ys else xs)) (sym (le-ltb (length xs) (length ys) le)) p)
    (λ no. let h = lt_of_not-le no in subst (λ (b : Bool). P (if b then ys else xs)) (sym (lt-ltb (length xs) (length ys) h)) (q (omega arith)))

abbrev rest : List ℕ → List ℕ
rest [] = []
rest (z ∷ zs) = zs

abbrev head : List ℕ → ℕ
head [] = 0
head (z ∷ zs) = z

shorter_begins : (a b r s : List ℕ) → a ++ r ≡ b ++ s → length a ≤ length b → StartsWith b a
shorter_begins [] b r s e h = (b, refl)
shorter_begins (x ∷ a) [] r s e h = absurd (omega arith)
shorter_begins (x ∷ a) (y ∷ b) r s e h = let t = shorter_begins a b r s (ap rest e) (omega arith) in (t.0, ap (λ (z : ℕ). z ∷ b) (ap head (sym e)) ∙ ap (λ (zs : List ℕ). x ∷ zs) t.1)

-- of two beginnings of one log the longer begins with the other
pub longer_begins : (log a b : List ℕ) → StartsWith log a → StartsWith log b → StartsWith (longer a b) a
longer_begins log a b f g = longer_of (λ (zs : List ℕ). StartsWith zs a) a b ([], sym (append-nil a)) (λ h. shorter_begins a b f.0 g.0 (sym f.1 ∙ g.1) h)

pub longer_length : (xs ys : List ℕ) → length xs ≤ length (longer xs ys)
longer_length xs ys = longer_of (λ (zs : List ℕ). length xs ≤ length zs) xs ys (le_refl (length xs)) (λ h. h)

pub longer_in_log : (log xs ys : List ℕ) → StartsWith log xs → StartsWith log ys → StartsWith log (longer xs ys)
longer_in_log log xs ys f g = longer_of (λ (zs : List ℕ). StartsWith log zs) xs ys f (λ h. g)

or_begins : (log : List ℕ) (t : Option (List ℕ)) → ((u : List ℕ) → t ≡ Some u → StartsWith log u) → StartsWith log (or_nil t)
or_begins log None h = (log, refl)
or_begins log (Some u) h = h u refl

-- what was told is settled
pub settles_kept : (a l c k : ℕ) (log area : List ℕ) (views : List View) (v : View) → IsKept a l c log area views → At views k v → IsKept a l c log area (set views k (settled v))
settles_kept a l c k log area views v r at =
    let m = r.each k v at in
    let t : List ℕ = or_nil v.told in
    let w : View = settled v in
    retouched a l c log area views k v w r at
    (known_account a l c k log area views v r at w refl refl refl refl refl refl refl (longer_length v.known t) (longer_in_log log v.known t m.knows.begins (or_begins log v.told m.knows.told_begins)) (λ u e. absurd (none_some u e)))
    refl (λ q e. e) (le_refl (one_if_some v.unborn)) refl refl refl refl refl refl

-- a word is put
pub puts_kept_by : (a l c k : ℕ) (log area : List ℕ) (views : List View) (v : View) (word : ℕ) → IsKept a l c log area views → At views k v → v.block_start < v.block_end → word ≢ 0 → (IsHeader word ⊎ IsValue word) → (tag_of word ≡ 6 → IsTermCell area (payload_of word))
    → IsKept a l c log (set area v.block_start word) (set views k (wrote v word))
puts_kept_by a l c k log area views v word r at room some_word shape names =
    let p : ℕ = v.block_start in
    let w : View = wrote v word in
    let area' : List ℕ = set area p word in
    let m = r.each k v at in
    let stop = m.block.inside in
    let low = m.block.below in
    let size = r.sized in
    let wide = m.knows.wide in
    let inside : p < length area = omega arith in
    let free : slice_index area p ≡ 0 = m.block.fresh p (le_refl p) room in
    let g : Grown area area' = grown_set area p word free in
    let closed : IsClosed area' = closed_put area p word r.closed shape names inside free in
    let entries : IsLog l log area' = log_grows l log area area' r.entries g closed in
    let actor : (j : ℕ) → j < length log → actor_of area' (slice_index log j) ≡ actor_of area (slice_index log j) = λ j h. actor_grows area area' (slice_index log j) g (r.entries.entries j h).1 in
    let spawn : (place : ℕ) → IsSpawnAt log area place → IsSpawnAt log area' place = λ place h. (h.0, ap tag_of (header_grows area area' (slice_index log place) g (r.entries.entries place h.0).1) ∙ h.1) in
    let owns : (pid : ℕ) (own known : List ℕ) → HasOwn log area pid own known → HasOwn log area' pid own known = λ pid own known h. record { exact = h.exact ∙ sym (own_grows area area' pid 0 log actor); own_known = h.own_known } in
    let named : (pid : ℕ) (known own : List ℕ) (child : Option ℕ) → HasPid log area pid known own child → HasPid log area' pid known own child =
    λ pid known own child h. record { pid_known = h.pid_known; own_late = h.own_late; spawned = λ place e. spawn place (h.spawned place e); unborn_own = λ q e. let x = h.unborn_own q e in (x.0, x.1, x.2, spawn x.0 x.3) } in
    let knows : (known : List ℕ) (told : Option (List ℕ)) (seen : List ℕ) → StartsWith log known → ((t : List ℕ) → told ≡ Some t → StartsWith log t) → length seen ≡ a → Grown seen area' → HasKnown a log area' known told seen =
    λ known told seen begins told_begins long agrees. record { begins = begins; told_begins = told_begins; wide = long; agrees = agrees; whole = λ cell h. knows_whole l log area' known seen cell closed entries begins agrees h } in record {
      each = each_set (IsAccount a c log area') views k w (λ j u other e.
          let it = r.each j u e in
          let apart = r.apart k j v u (λ h. other (sym h)) at e in record {
            block = record {
              ordered = it.block.ordered;
              below = it.block.below;
              inside = it.block.inside;
              fresh = λ place s t. get_or-set_other area p place word 0 (λ z. let start : v.block_start ≤ place = omega arith in let stop : place < v.block_end = omega arith in apart.blocks place start stop s t) ∙ it.block.fresh place s t;
            };
            knows = knows u.known u.told u.seen it.knows.begins it.knows.told_begins it.knows.wide (grown_on u.seen area area' it.knows.agrees g);
            owns = owns u.pid u.own u.known it.owns;
            names = named u.pid u.known u.own u.unborn it.names;
            refusal = it.refusal;
          }) record {
            block = record { ordered = omega arith; below = m.block.below; inside = m.block.inside; fresh = λ place s t. get_or-set_other area p place word 0 (λ z. omega arith) ∙ m.block.fresh place (omega arith) t };
            knows = knows v.known v.told (set v.seen p word) m.knows.begins m.knows.told_begins (length-set v.seen p word ∙ m.knows.wide) (grown_both v.seen area p word (omega arith) inside m.knows.agrees);
            owns = owns v.pid v.own v.known m.owns;
            names = named v.pid v.known v.own v.unborn m.names;
            refusal = m.refusal;
          };
      apart = pairs_set AreApart turned views k w r.apart (λ j u other e. let q = r.apart k j v u (λ h. other (sym h)) at e in record { pids = q.pids; blocks = λ place s t s' t'. q.blocks place (omega arith) t s' t'; clear = q.clear; clear_back = q.clear_back });
      beyond = λ place h. get_or-set_other area p place word 0 (λ z. omega arith) ∙ r.beyond place h;
      sized = length-set area p word ∙ r.sized;
      closed = closed;
      entries = entries;
      parents = λ j u e place up.
          let old = parents_set log log area views k v w at refl (λ q h. h) (λ i x q f z. refl) r.parents j u e place up in
          let low_place : place < length log = spawned_below j u e place up in
          (old.0, old.1, old.2, actor place low_place ∙ old.3, old.4);
      actors = λ place h. let t = r.actors place h in let s = same_pid views k t.0 v w t.1 at refl t.2 in (s.0, s.1, s.2, actor place h ∙ (t.3 ∙ s.3));
      bound = same_bound a l c log area views k v w r at refl;
      all_requests = let t = total_set (λ (x : View). x.requests) views k v w at in let f = r.all_requests in omega arith;
      all_puts = let t = total_set (λ (x : View). x.puts) views k v w at in let f = r.all_puts in let s = written_set area p word inside free some_word in omega arith;
      few = let t = total_set (λ (x : View). one_if_some x.unborn) views k v w at in let f = r.few in omega (arith, length-set views k w);
    }
  where
    spawned_below : (j : ℕ) (u : View) → At (set views k (wrote v word)) j u → (place : ℕ) → u.pid ≡ suc place → place < length log
    spawned_below j u e place up = ⊎_elim (λ (t : (j ≡ k) × (wrote v word ≡ u)). ((r.each k v at).names.spawned place (ap (λ (x : View). x.pid) t.1 ∙ up)).0) (λ (t : (j ≢ k) × (get_elem? views j ≡ some u)). ((r.each j u t.1).names.spawned place up).0) (at_set views k j (wrote v word) u e)

pub puts_kept : (a l c k : ℕ) (log area : List ℕ) (views : List View) (v : View) (word : ℕ) → IsKept a l c log area views → At views k v → v.block_start < v.block_end → MayPut a v word
    → IsKept a l c log (set area v.block_start word) (set views k (wrote v word))
puts_kept a l c k log area views v word r at room may =
    let f = fits_at a l c k log area views v r at in
    puts_kept_by a l c k log area views v word r at room (put_not_zero a v word may) (put_shape a v word may) (put_names a v word area f may)

-- an entry is appended by a pass that knows the whole log
pub appends_kept : (a l c k : ℕ) (log area : List ℕ) (views : List View) (v : View) (entry : ℕ) (child : Option ℕ) → IsKept a l c log area views → At views k v → length v.known ≡ length log → length log < l
    → tag_of entry ≡ 6 → IsEntryCell area (payload_of entry) → actor_of area entry ≡ v.pid → (tag_of (header_at area entry) ≡ 11 → text_of area entry ≡ prints_at area v.known v.own)
    → v.unborn ≡ None → ((q : ℕ) → child ≡ Some q → (q ≡ length log + 1) × (tag_of (header_at area entry) ≡ 10)) → IsKept a l c (log ++ entry ∷ []) area (set views k (appended v (length log) entry child))
appends_kept a l c k log area views v entry child r at whole room six cell mine_is text none fresh =
    let w : View = appended v (length log) entry child in
    let log' : List ℕ = log ++ entry ∷ [] in
    let m = r.each k v at in
    let long : length log' ≡ length log + 1 = length-append log (entry ∷ []) in
    let same : v.known ≡ log = whole_begin log v.known m.knows.begins whole in
    let old : (j : ℕ) → j < length log → slice_index log' j ≡ slice_index log j = λ j h. get_or_append_left log (entry ∷ []) 0 j h in
    let last : slice_index log' (length log) ≡ entry = last_of log entry in
    let counted : prints_at area v.known v.own ≡ prints area v.pid log = ap (λ (x : List ℕ × List ℕ). prints_at area x.0 x.1) (λ i. (same i, m.owns.exact i)) ∙ prints_own area v.pid log in
    let entries : IsLog l log' area = log_appends l log area entry r.entries r.closed room six cell (λ print. text print ∙ (counted ∙ ap (λ (q : ℕ). prints area q log) (sym mine_is))) in
    let spawn : (place : ℕ) → IsSpawnAt log area place → IsSpawnAt log' area place = λ place h. let b = h.0 in (omega arith, ap (λ (x : ℕ). tag_of (header_at area x)) (old place h.0) ∙ h.1) in
    let begins : StartsWith log' (v.known ++ entry ∷ []) = ([], ap (λ (xs : List ℕ). xs ++ entry ∷ []) (sym same) ∙ sym (append-nil (v.known ++ entry ∷ []))) in record {
      each = each_set (IsAccount a c log' area) views k w (λ j u other e.
          let it = r.each j u e in
          let differ = (r.apart k j v u (λ h. other (sym h)) at e).pids in record {
            block = it.block;
            knows = record { begins = begins_more log u.known (entry ∷ []) it.knows.begins; told_begins = λ t f. begins_more log t (entry ∷ []) (it.knows.told_begins t f); wide = it.knows.wide; agrees = it.knows.agrees; whole = it.knows.whole };
            owns = record { exact = it.owns.exact ∙ sym (own_else area u.pid 0 log entry (λ z. differ (sym mine_is ∙ z))); own_known = it.owns.own_known };
            names = record { pid_known = it.names.pid_known; own_late = it.names.own_late; spawned = λ place f. spawn place (it.names.spawned place f); unborn_own = λ q f. let x = it.names.unborn_own q f in (x.0, x.1, x.2, spawn x.0 x.3) };
            refusal = it.refusal;
          }) record {
            block = m.block;
            knows = record { begins = begins; told_begins = λ t f. begins_more log t (entry ∷ []) (m.knows.told_begins t f); wide = m.knows.wide; agrees = m.knows.agrees; whole = λ q h. knows_whole l log' area (v.known ++ entry ∷ []) v.seen q r.closed entries begins m.knows.agrees h };
            owns = record {
              exact = ap (λ (xs : List ℕ). xs ++ length log ∷ []) m.owns.exact ∙ sym (own_here area v.pid 0 log entry mine_is);
              own_known = λ place h. let grown : length (v.known ++ entry ∷ []) ≡ length v.known + 1 = length-append v.known (entry ∷ []) in ⊎_elim (λ (t : Has v.own place). let b = m.owns.own_known place t in omega arith) (λ (t : place ≡ length log). omega arith) (has_last v.own (length log) place h);
            };
            names = record {
              pid_known = let b = m.names.pid_known in omega (arith, length-append v.known (entry ∷ []));
              own_late = λ place h. let b = m.names.pid_known in ⊎_elim (λ (t : Has v.own place). m.names.own_late place t) (λ (t : place ≡ length log). omega arith) (has_last v.own (length log) place h);
              spawned = λ place f. spawn place (m.names.spawned place f);
              unborn_own = λ q f. let x = fresh q f in (length log, (length v.own, omega (arith, length-append v.own (length log ∷ [])), last_of v.own (length log)), x.0, (omega arith, ap (λ (y : ℕ). tag_of (header_at area y)) last ∙ x.1));
            };
            refusal = m.refusal;
          };
      apart = pairs_set AreApart turned views k w r.apart (λ j u other e.
          let p = r.apart k j v u (λ h. other (sym h)) at e in
          let it = r.each j u e in
          let reach = known_length log u.known it.knows.begins in
          let low = it.names.pid_known in record {
            pids = p.pids;
            blocks = p.blocks;
            clear = λ q is. let z = (fresh q is).0 in ((λ y. omega arith), λ y. let x = it.names.unborn_own q y in let b = it.owns.own_known x.0 x.1 in let f = x.2 in omega arith);
            clear_back = λ q is. ((p.clear_back q is).0, λ y. let z = (fresh q y).0 in let x = it.names.unborn_own q is in let b = it.owns.own_known x.0 x.1 in let f = x.2 in omega arith);
          });
      beyond = r.beyond;
      sized = r.sized;
      closed = r.closed;
      entries = entries;
      parents = parents_set log log' area views k v w at refl (λ p h. h) (λ j u place e up. ap (actor_of area) (old place ((r.each j u e).names.spawned place up).0)) r.parents;
      actors = λ place h. dite (dec_le (length log) place)
          (λ past. let e : place ≡ length log = omega arith in (k, w, set_here views k w v at, ap (λ (q : ℕ). actor_of area (slice_index log' q)) e ∙ (ap (actor_of area) last ∙ mine_is)))
          (λ before. let b = lt_of_not-le before in let t = r.actors place b in let s = same_pid views k t.0 v w t.1 at refl t.2 in (s.0, s.1, s.2, ap (actor_of area) (old place b) ∙ (t.3 ∙ s.3)));
      bound = same_bound a l c log area views k v w r at refl;
      all_requests = let t = total_set (λ (x : View). x.requests) views k v w at in let f = r.all_requests in omega arith;
      all_puts = let t = total_set (λ (x : View). x.puts) views k v w at in let f = r.all_puts in omega arith;
      few = let t = total_set (λ (x : View). one_if_some x.unborn) views k v w at in let o = at_most_one child in let f = r.few in omega (arith, length-set views k w);
    }

-- what holds of each pass between calls
pub sound_at : (a l c k : ℕ) (log area : List ℕ) (views : List View) (v : View) → IsAreaSize a → IsLogSize l → IsKept a l c log area views → At views k v → v.told ≡ None → IsSound a l v
sound_at a l c k log area views v area_size log_size r at settled =
    let m = r.each k v at in
    let reach = known_length log v.known m.knows.begins in
    let short = r.entries.short in record {
      sizes = (area_size, log_size);
      short = omega arith;
      names_entries = λ j h. ap tag_of (sym (known_in_log log v.known j m.knows.begins h)) ∙ (r.entries.entries j (omega arith)).0;
      settled = settled;
      own_known = m.owns.own_known;
      own_late = m.names.own_late;
      pid_known = m.names.pid_known;
      unborn_own = λ q e. let x = m.names.unborn_own q e in (x.0, x.1, x.2);
      ordered = m.block.ordered;
      inside = m.block.inside;
      wide = m.knows.wide;
      fits = (area, fits_at a l c k log area views v r at);
    }
