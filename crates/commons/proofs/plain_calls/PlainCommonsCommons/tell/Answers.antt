use Rattle.std.proofs.Common.{◌≡◌, max, rules}
use Rattle.commons.proofs.PlainKeeps.{the_account}
use Rattle.commons.proofs.PlainSteps.{tell_step}
use Rattle.commons.proofs.plain_calls.PlainCommonsCommons.tell.Goals as goal

pub returns-clause-others : goal.returns-clause-others
returns-clause-others c =
    let m : c.max.result ≡ max c.index-account.result.now.known c.index.result.now.known = search rules in
    (tell_step _ _ _ c.max.result _ _ c.requires.from_pass c.requires.to_pass (the_account _ _ _ c.requires.from_pass c.index.ensures) (the_account _ _ _ c.requires.to_pass c.index-account.ensures) m).0

pub returns-clause-from_stays : goal.returns-clause-from_stays
returns-clause-from_stays c =
    let m : c.max.result ≡ max c.index-account.result.now.known c.index.result.now.known = search rules in
    ((tell_step _ _ _ c.max.result _ _ c.requires.from_pass c.requires.to_pass (the_account _ _ _ c.requires.from_pass c.index.ensures) (the_account _ _ _ c.requires.to_pass c.index-account.ensures) m).1, λ r h. h)

pub returns-clause-from_same : goal.returns-clause-from_same
returns-clause-from_same c =
    let m : c.max.result ≡ max c.index-account.result.now.known c.index.result.now.known = search rules in
    (tell_step _ _ _ c.max.result _ _ c.requires.from_pass c.requires.to_pass (the_account _ _ _ c.requires.from_pass c.index.ensures) (the_account _ _ _ c.requires.to_pass c.index-account.ensures) m).2

pub returns-clause-told : goal.returns-clause-told
returns-clause-told c =
    let m : c.max.result ≡ max c.index-account.result.now.known c.index.result.now.known = search rules in
    (tell_step _ _ _ c.max.result _ _ c.requires.from_pass c.requires.to_pass (the_account _ _ _ c.requires.from_pass c.index.ensures) (the_account _ _ _ c.requires.to_pass c.index-account.ensures) m).3
