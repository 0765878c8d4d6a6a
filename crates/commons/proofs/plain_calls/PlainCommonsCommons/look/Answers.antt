use Rattle.std.proofs.Common.{◌≡◌, ◌+◌, ℕ, sym, ap, arith, ◌⊎◌, subst}
use Rattle.commons.specs.declared.plain.Account.{Account}
use Rattle.commons.specs.Plain.{account_in}
use Rattle.commons.proofs.PlainKeeps.{the_account}
use Rattle.commons.proofs.PlainSteps.{known_step, looked_step, looks_in_vain}
use Rattle.commons.proofs.plain_calls.PlainCommonsCommons.look.Goals as goal

pub returns-then-place-len-clause-others : goal.returns-then-place-len-clause-others
returns-then-place-len-clause-others c =
    let e = the_account _ _ _ c.requires.pass c.index-account.ensures in
    let l = c.len.ensures in
    let ok = c.args.self.now.log.ok in
    (known_step _ _ (c.index-account.result.now.known + 1) _ c.requires.pass e (omega arith) (omega arith)).others

pub returns-then-place-len-clause-learns : goal.returns-then-place-len-clause-learns
returns-then-place-len-clause-learns c =
    let e = the_account _ _ _ c.requires.pass c.index-account.ensures in
    let l = c.len.ensures in
    let ok = c.args.self.now.log.ok in
    let s = known_step _ _ (c.index-account.result.now.known + 1) _ c.requires.pass e (omega arith) (omega arith) in
    (s.long, s.learns)

pub returns-clause-others : goal.returns-clause-others
returns-clause-others c = (looked_step _ _ c.counted.result _ c.requires.pass (the_account _ _ _ c.requires.pass c.index-account.ensures)).0

pub returns-clause-none : goal.returns-clause-none
returns-clause-none c =
    let e = the_account _ _ _ c.requires.pass c.index-account.ensures in
    let n : c.index-account.result.now.looks ≡ (account_in c.args.self.now c.args.pass.now).looks = sym (ap (λ (y : Account). y.looks) e) in
    let s = (looked_step _ _ c.counted.result _ c.requires.pass e).1 in
    looks_in_vain _ _ c.counted.result s (subst (λ (k : ℕ). (c.counted.result ≡ k + 1) ⊎ ((c.counted.result ≡ k) × (k ≡ 18446744073709551615))) n c.counted.ensures)
