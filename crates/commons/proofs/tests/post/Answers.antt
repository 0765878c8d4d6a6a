use Rattle.std.proofs.Common.{ℕ, sym, subst}
use Rattle.commons.specs.declared.view.View.{View}
use Rattle.commons.specs.Views.{MayShare}
use Rattle.commons.proofs.Later.{may_share_later, claims_more}
use Rattle.commons.proofs.tests.post.Goals as goal

pub put_send-entry-requires-clause-message : goal.put_send-entry-requires-clause-message
put_send-entry-requires-clause-message g c = λ _ _.
    let old : View = g.C.Commons.view c.args.c.now c.args.pass.now in
    let new : View = g.C.Commons.view c.claim.new.self c.claim.new.pass in
    let sizes = (g.met.C.Commons.later_sizes _ _ c.claim.ensures.later).0 in
    let owns = c.in_ok-claim.ensures.owns in
    subst (λ (n : ℕ). MayShare n new c.args.message) (sym sizes) (may_share_later (g.C.Commons.area_size c.args.c.now) old new c.args.message (claims_more old new owns.0 256 owns.3) c.requires.message)

pub returns-in_err-append-clause-later : goal.returns-in_err-append-clause-later
returns-in_err-append-clause-later g c = let l = g.met.C.Commons.later_later in l _ _ _ c.claim.ensures.later (l _ _ _ c.put_send-entry.ensures.later c.append.ensures.later)

pub returns-clause-later : goal.returns-clause-later
returns-clause-later g c = let l = g.met.C.Commons.later_later in l _ _ _ c.claim.ensures.later (l _ _ _ c.put_send-entry.ensures.later c.append.ensures.later)
