use Rattle.std.proofs.Common.{◌≡◌, ℕ, ap, arith, ◌∙◌}
use Rattle.commons.specs.declared.plain.Account.{Account}
use Rattle.commons.specs.Log.{header_at}
use Rattle.commons.specs.Changes.{child_at}
use Rattle.commons.proofs.PlainKeeps.{the_account}
use Rattle.commons.proofs.PlainSteps.{known_step, appended_step, header_read}
use Rattle.commons.proofs.plain_calls.PlainCommonsCommons.append.Goals as goal

pub returns-then-place-self-clause-others : goal.returns-then-place-self-clause-others
returns-then-place-self-clause-others c =
    let e = the_account _ _ _ c.requires.pass c.index-account.ensures in
    let s = ap (λ (y : Account). y.known) e in
    let k = c.requires.pass.accounts.known _ c.requires.pass.there in
    let l = c.len-place.ensures in
    let ok = c.args.self.now.log.ok in
    (known_step _ _ c.len-place.result _ c.requires.pass e (omega arith) (omega arith)).others

pub returns-then-place-self-clause-lost : goal.returns-then-place-self-clause-lost
returns-then-place-self-clause-lost c =
    let e = the_account _ _ _ c.requires.pass c.index-account.ensures in
    let s = ap (λ (y : Account). y.known) e in
    let k = c.requires.pass.accounts.known _ c.requires.pass.there in
    let l = c.len-place.ensures in
    let ok = c.args.self.now.log.ok in
    (known_step _ _ c.len-place.result _ c.requires.pass e (omega arith) (omega arith)).learns

pub returns-clause-others : goal.returns-clause-others
returns-clause-others c =
    let e = the_account _ _ _ c.requires.pass c.index-account.ensures in
    let l = c.len-place.ensures in
    let ok = c.args.self.now.log.ok in
    let short = c.requires.pass.kept.entries.short in
    let f = c.if-place-self.false in
    let p = c.payload.ensures in
    let header : c.index-header.result.now ≡ header_at c.args.self.now.area.items c.args.entry = header_read c.args.self.now.area.items c.args.entry c.payload.result c.index-header.result.now c.requires.entry.whole p c.index-header.ensures in
    let child : c.child_of-account.result ≡ child_at (header_at c.args.self.now.area.items c.args.entry) c.len-place.result = c.child_of-account.ensures ∙ ap (λ (w : ℕ). child_at w c.len-place.result) header in
    (appended_step _ _ c.push_reserved.new.self c.len-place.result c.child_of-account.result _ c.args.entry c.requires.pass e c.requires.born c.requires.entry (omega arith) (omega arith) c.push_reserved.ensures.items c.push_reserved.ensures.capacity child).0

pub returns-clause-appended : goal.returns-clause-appended
returns-clause-appended c =
    let e = the_account _ _ _ c.requires.pass c.index-account.ensures in
    let l = c.len-place.ensures in
    let ok = c.args.self.now.log.ok in
    let short = c.requires.pass.kept.entries.short in
    let f = c.if-place-self.false in
    let p = c.payload.ensures in
    let header : c.index-header.result.now ≡ header_at c.args.self.now.area.items c.args.entry = header_read c.args.self.now.area.items c.args.entry c.payload.result c.index-header.result.now c.requires.entry.whole p c.index-header.ensures in
    let child : c.child_of-account.result ≡ child_at (header_at c.args.self.now.area.items c.args.entry) c.len-place.result = c.child_of-account.ensures ∙ ap (λ (w : ℕ). child_at w c.len-place.result) header in
    (appended_step _ _ c.push_reserved.new.self c.len-place.result c.child_of-account.result _ c.args.entry c.requires.pass e c.requires.born c.requires.entry (omega arith) (omega arith) c.push_reserved.ensures.items c.push_reserved.ensures.capacity child).1
