use Rattle.std.proofs.Common.{◌∙◌, ℕ, ap, sym, subst}
use Rattle.commons.specs.declared.view.View.{View}
use Rattle.commons.specs.Views.{HasPrinted, MayShare}
use Rattle.commons.proofs.Later.{may_share_later, same_more}
use Rattle.commons.proofs.Printing.{printed_still}
use Rattle.commons.proofs.tests.exchange.Goals as goal

pub post-requires-clause-message : goal.post-requires-clause-message
post-requires-clause-message g c = λ _ _.
    let v : View = g.C.Commons.view c.read_message.new.c c.read_message.new.pass in
    let w : View = g.C.Commons.view c.read_part.new.c c.read_part.new.pass in
    let sizes = (g.met.C.Commons.later_sizes _ _ c.read_part.ensures.later).0 in
    subst (λ (n : ℕ). MayShare n w c.in_ok-target.message) (sym sizes) (may_share_later (g.C.Commons.area_size c.read_message.new.c) v w c.in_ok-target.message (same_more v w c.in_ok-part.ensures.same) c.in_ok-target.ensures.message)

pub print-requires-clause-texts : goal.print-requires-clause-texts
print-requires-clause-texts g c = λ _ _.
    let view = g.C.Commons.view in
    let cap : ℕ = g.C.Commons.area_size c.post_tuple.new.c in
    let s1 = c.post_tuple.ensures.others.1 c.args.second.now c.requires.passes.1 c.requires.passes.2 in
    let f2 = c.read_message.ensures.others.1 c.post_tuple.new.pass c.post_tuple.ensures.others.0 (g.met.C.Commons.apart_both _ _ s1.1) in
    let f3 = c.read_part.ensures.others.1 c.post_tuple.new.pass f2.0 f2.1 in
    let f4 = c.post.ensures.others.1 c.post_tuple.new.pass f3.0 f3.1 in
    let l = g.met.C.Commons.later_later in
    let sizes = (g.met.C.Commons.later_sizes _ _ (l _ _ _ c.read_message.ensures.later (l _ _ _ c.read_part.ensures.later c.post.ensures.later))).0 in
    let v1 : View = view c.post_tuple.new.c c.post_tuple.new.pass in
    let v2 : View = view c.read_message.new.c c.post_tuple.new.pass in
    let v3 : View = view c.read_part.new.c c.post_tuple.new.pass in
    let v4 : View = view c.post.new.c c.post_tuple.new.pass in
    let one = c.in_ok-post_tuple.ensures.texts 0 c.requires.texts in
    subst (λ (n : ℕ). HasPrinted n v4 0) (sym sizes) (printed_still cap 0 v3 v4 f4.2 (printed_still cap 0 v2 v3 f3.2 (printed_still cap 0 v1 v2 f2.2 one)))

pub returns-clause-passes : goal.returns-clause-passes
returns-clause-passes g c =
    let s1 = c.post_tuple.ensures.others.1 c.args.second.now c.requires.passes.1 c.requires.passes.2 in
    let f2 = c.read_message.ensures.others.1 c.post_tuple.new.pass c.post_tuple.ensures.others.0 (g.met.C.Commons.apart_both _ _ s1.1) in
    let f3 = c.read_part.ensures.others.1 c.post_tuple.new.pass f2.0 f2.1 in
    let f4 = c.post.ensures.others.1 c.post_tuple.new.pass f3.0 f3.1 in
    let s5 = c.print.ensures.others.1 c.post.new.pass c.post.ensures.others.0 (g.met.C.Commons.apart_both _ _ f4.1) in
    let s6 = c.post-2.ensures.others.1 c.post.new.pass s5.0 s5.1 in
    (c.post-2.ensures.others.0, s6.0, s6.1)

pub returns-clause-same : goal.returns-clause-same
returns-clause-same g c =
    let s1 = c.post_tuple.ensures.others.1 c.args.second.now c.requires.passes.1 c.requires.passes.2 in
    let f2 = c.read_message.ensures.others.1 c.post_tuple.new.pass c.post_tuple.ensures.others.0 (g.met.C.Commons.apart_both _ _ s1.1) in
    let f3 = c.read_part.ensures.others.1 c.post_tuple.new.pass f2.0 f2.1 in
    let f4 = c.post.ensures.others.1 c.post_tuple.new.pass f3.0 f3.1 in (
      c.in_ok-post-2.ensures.same.0 ∙ (c.in_ok-print.ensures.same.0 ∙ (ap (λ (v : View). v.pid) f4.2.0 ∙ (ap (λ (v : View). v.pid) f3.2.0 ∙ (ap (λ (v : View). v.pid) f2.2.0 ∙ c.in_ok-post_tuple.ensures.same.0)))),
      c.in_ok-post-2.ensures.same.1 ∙ (c.in_ok-print.ensures.same.1 ∙ (ap (λ (v : View). v.born) f4.2.0 ∙ (ap (λ (v : View). v.born) f3.2.0 ∙ (ap (λ (v : View). v.born) f2.2.0 ∙ c.in_ok-post_tuple.ensures.same.1)))),
    )

pub returns-clause-second_same : goal.returns-clause-second_same
returns-clause-second_same g c =
    let s1 = c.post_tuple.ensures.others.1 c.args.second.now c.requires.passes.1 c.requires.passes.2 in
    let f2 = c.read_message.ensures.others.1 c.post_tuple.new.pass c.post_tuple.ensures.others.0 (g.met.C.Commons.apart_both _ _ s1.1) in
    let f3 = c.read_part.ensures.others.1 c.post_tuple.new.pass f2.0 f2.1 in
    let f4 = c.post.ensures.others.1 c.post_tuple.new.pass f3.0 f3.1 in
    let s5 = c.print.ensures.others.1 c.post.new.pass c.post.ensures.others.0 (g.met.C.Commons.apart_both _ _ f4.1) in
    let s6 = c.post-2.ensures.others.1 c.post.new.pass s5.0 s5.1 in (
      ap (λ (v : View). v.pid) s6.2.0 ∙ (ap (λ (v : View). v.pid) s5.2.0 ∙ (c.in_ok-post.ensures.same.0 ∙ (ap (λ (v : View). v.pid) c.in_ok-part.ensures.same.0 ∙ (c.in_ok-target.ensures.same.0 ∙ ap (λ (v : View). v.pid) s1.2.0)))),
      ap (λ (v : View). v.born) s6.2.0 ∙ (ap (λ (v : View). v.born) s5.2.0 ∙ (c.in_ok-post.ensures.same.1 ∙ (ap (λ (v : View). v.born) c.in_ok-part.ensures.same.0 ∙ (c.in_ok-target.ensures.same.1 ∙ ap (λ (v : View). v.born) s1.2.0)))),
    )
