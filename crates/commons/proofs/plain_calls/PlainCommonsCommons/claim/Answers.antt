use Rattle.std.proofs.Common.{◌+◌, ◌<◌, ◌≤◌, ap, arith, length, refl}
use Rattle.commons.specs.declared.plain.Account.{Account}
use Rattle.commons.proofs.PlainKeeps.{the_account, low_claim, low_requests, block_below}
use Rattle.commons.proofs.PlainSteps.{claim_step, refusal_step}
use Rattle.commons.proofs.plain_calls.PlainCommonsCommons.claim.Goals.{then-old-capacity-via-then-old-capacity, then-old-capacity-via-else-old-capacity+then-n-capacity}
use Rattle.commons.proofs.plain_calls.PlainCommonsCommons.claim.Goals as goal

pub overflow_add-account : goal.overflow_add-account
overflow_add-account c =
    let e = the_account _ _ _ c.requires.pass c.index-account.ensures in
    let s = ap (λ (y : Account). y.requests) e in
    let a = low_claim _ _ c.requires.pass in
    let b = low_requests _ _ c.requires.pass in
    let l = c.requires.pass.area_size.1 in
    let n = c.requires.bounds in omega arith

pub overflow_add-self : goal.overflow_add-self
overflow_add-self c = let a = low_claim _ _ c.requires.pass in let l = c.requires.pass.area_size.1 in let n = c.requires.bounds in omega arith

pub returns-then-old-capacity-clause-others : goal.returns-then-old-capacity-clause-others
returns-then-old-capacity-clause-others c = (refusal_step _ _ c.args.n _ c.requires.pass (the_account _ _ _ c.requires.pass c.index-account.ensures) c.requires.first c.requires.bounds.1).0

pub returns-then-old-capacity-clause-refused : goal.returns-then-old-capacity-clause-refused
returns-then-old-capacity-clause-refused c = (refusal_step _ _ c.args.n _ c.requires.pass (the_account _ _ _ c.requires.pass c.index-account.ensures) c.requires.first c.requires.bounds.1).1

pub returns-clause-others : goal.returns-clause-others
returns-clause-others c =
    let s = c.if-old-capacity.false in
    let t = c.if-n-capacity.false in
    let l = c.len-capacity.ensures in
    let ok = c.args.self.now.area.ok in
    let low : c.args.self.now.claim + c.args.n ≤ length c.args.self.now.area.items = omega arith in
    (claim_step _ _ c.args.n _ c.requires.pass (the_account _ _ _ c.requires.pass c.index-account.ensures) low).0

pub returns-clause-owns : goal.returns-clause-owns
returns-clause-owns c =
    let s = c.if-old-capacity.false in
    let t = c.if-n-capacity.false in
    let l = c.len-capacity.ensures in
    let ok = c.args.self.now.area.ok in
    let low : c.args.self.now.claim + c.args.n ≤ length c.args.self.now.area.items = omega arith in
    (c.args.self.now.claim, block_below _ _ c.requires.pass, low, (claim_step _ _ c.args.n _ c.requires.pass (the_account _ _ _ c.requires.pass c.index-account.ensures) low).1)

pub returns-then-old-capacity-clause-exactly : goal.returns-then-old-capacity-clause-exactly
returns-then-old-capacity-clause-exactly c =
    let l = c.len-capacity.ensures in
    let ok = c.args.self.now.area.ok in
    let full : length c.args.self.now.area.items < c.args.self.now.claim + c.args.n = elim c.then-old-capacity.branch [
      | then-old-capacity-via-then-old-capacity w ↦ let past = w.if-old-capacity.true in let n = c.requires.bounds in omega arith
      | then-old-capacity-via-else-old-capacity+then-n-capacity w ↦ let low = w.if-old-capacity.false in let past = w.if-n-capacity.true in omega arith
    ] in
    (λ e. absurd cc, λ low. absurd (omega arith))

pub returns-clause-exactly : goal.returns-clause-exactly
returns-clause-exactly c =
    let s = c.if-old-capacity.false in
    let t = c.if-n-capacity.false in
    let l = c.len-capacity.ensures in
    let ok = c.args.self.now.area.ok in
    let low : c.args.self.now.claim + c.args.n ≤ length c.args.self.now.area.items = omega arith in
    (λ e. low, λ e. refl)
