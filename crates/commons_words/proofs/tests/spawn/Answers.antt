use Rattle.std.proofs.Common.{◌≡◌, ◌∙◌, ◌+◌, ◌++◌, ◌∷◌, [], List, ℕ, ap}
use Rattle.std.specs.Prelude.{Some}
use Rattle.commons.specs.declared.view.View.{View}
use Rattle.commons.specs.Changes.{child_at}
use Rattle.commons.proofs.Printing.{entry_header_at}
use Rattle.commons_words.proofs.tests.spawn.Goals as goal

pub returns-in_err-place-clause-later : goal.returns-in_err-place-clause-later
returns-in_err-place-clause-later g c = let l = g.met.C.Commons.later_later in l _ _ _ c.claim.ensures.later (l _ _ _ c.put_spawn-entry.ensures.later c.append.ensures.later)

pub returns-in_err-child-clause-later : goal.returns-in_err-child-clause-later
returns-in_err-child-clause-later g c = let l = g.met.C.Commons.later_later in l _ _ _ c.claim.ensures.later (l _ _ _ c.put_spawn-entry.ensures.later (l _ _ _ c.append.ensures.later c.birth.ensures.later))

pub returns-clause-later : goal.returns-clause-later
returns-clause-later g c = let l = g.met.C.Commons.later_later in l _ _ _ c.claim.ensures.later (l _ _ _ c.put_spawn-entry.ensures.later (l _ _ _ c.append.ensures.later c.birth.ensures.later))

pub returns-clause-ready : goal.returns-clause-ready
returns-clause-ready g c =
    let v1 : View = g.C.Commons.view c.claim.new.self c.claim.new.pass in
    let v2 : View = g.C.Commons.view c.put_spawn-entry.new.c c.put_spawn-entry.new.pass in
    let v3 : View = g.C.Commons.view c.append.new.self c.append.new.pass in
    let q : ℕ = c.in_ok-place.place + 1 in
    let header = entry_header_at v2.seen v1.block_start c.put_spawn-entry.result 42 c.put_spawn-entry.ensures.word c.put_spawn-entry.ensures.words.0 in
    let claims = c.in_ok-claim.ensures.owns.3.0 in
    let puts = c.put_spawn-entry.ensures.puts.0 in
    let appends = c.in_ok-place.ensures.appended.1.0 in
    let named : v3.unborn ≡ Some q = ap (λ (v : View). v.unborn) appends ∙ ap (λ (h : ℕ). child_at h c.in_ok-place.place) header in
    let bears = (c.in_ok-child.ensures.bears q named).0 in
    let ready = c.requires.ready in record {
      refused = ap (λ (v : View). v.refused) bears ∙ (ap (λ (v : View). v.refused) appends ∙ (ap (λ (v : View). v.refused) puts ∙ (ap (λ (v : View). v.refused) claims ∙ ready.refused)));
      unborn = ap (λ (v : View). v.unborn) bears;
      pid_is = ap (λ (v : View). v.pid) bears ∙ (ap (λ (v : View). v.pid) appends ∙ (ap (λ (v : View). v.pid) puts ∙ (ap (λ (v : View). v.pid) claims ∙ ready.pid_is)));
      born_are = ap (λ (v : View). v.born) bears ∙ ap (λ (xs : List ℕ). xs ++ q ∷ []) (ap (λ (v : View). v.born) appends ∙ (ap (λ (v : View). v.born) puts ∙ ap (λ (v : View). v.born) claims));
    }
