use Rattle.std.proofs.Common.{ap, ◌∙◌, sym}
use Rattle.std.specs.Prelude.{unwrap_or, None}
use Rattle.commons.specs.declared.plain.Account.{Account}
use Rattle.commons.specs.Plain.{account_in}
use Rattle.commons.proofs.PlainKeeps.{the_account}
use Rattle.commons.proofs.PlainBirths.{gave_up_with, birth_with, the_child, named_child, on_err, slot_is}
use Rattle.commons.proofs.plain_calls.PlainCommonsCommons.birth.Goals as goal

pub returns-in_err-push-clause-others : goal.returns-in_err-push-clause-others
returns-in_err-push-clause-others c = (gave_up_with _ _ c.push.new.self _ c.requires.pass (the_account _ _ _ c.requires.pass c.index-account.ensures) c.in_err-push.ensures.items).0

pub returns-in_err-push-clause-memory : goal.returns-in_err-push-clause-memory
returns-in_err-push-clause-memory c = on_err c.from_residual.result _ (gave_up_with _ _ c.push.new.self _ c.requires.pass (the_account _ _ _ c.requires.pass c.index-account.ensures) c.in_err-push.ensures.items).1

pub returns-clause-others : goal.returns-clause-others
returns-clause-others c =
    let is = the_account _ _ _ c.requires.pass c.index-account.ensures in
    let q = the_child (account_in c.args.self.now c.args.pass.now).unborn c.requires.names in
    let pid = c.unwrap_or-pid.ensures ∙ (ap (λ (y : Account). unwrap_or y.unborn 0) (sym is) ∙ named_child _ q.0 q.1) in
    (birth_with _ _ c.push.new.self c.index-account.result.now c.unwrap_or-pid.result c.len-slot.result q.0 c.requires.pass is q.1 pid (slot_is c.args.self.now.accounts c.args.pass.now.slot (record c.index-account.result.now { unborn = None }) c.len-slot.result c.len-slot.ensures) c.in_ok-push.ensures.items).0

pub returns-clause-child : goal.returns-clause-child
returns-clause-child c =
    let is = the_account _ _ _ c.requires.pass c.index-account.ensures in
    let q = the_child (account_in c.args.self.now c.args.pass.now).unborn c.requires.names in
    let pid = c.unwrap_or-pid.ensures ∙ (ap (λ (y : Account). unwrap_or y.unborn 0) (sym is) ∙ named_child _ q.0 q.1) in
    (birth_with _ _ c.push.new.self c.index-account.result.now c.unwrap_or-pid.result c.len-slot.result q.0 c.requires.pass is q.1 pid (slot_is c.args.self.now.accounts c.args.pass.now.slot (record c.index-account.result.now { unborn = None }) c.len-slot.result c.len-slot.ensures) c.in_ok-push.ensures.items).1

pub returns-clause-born : goal.returns-clause-born
returns-clause-born c = λ q e.
    let is = the_account _ _ _ c.requires.pass c.index-account.ensures in
    let pid = c.unwrap_or-pid.ensures ∙ (ap (λ (y : Account). unwrap_or y.unborn 0) (sym is) ∙ named_child _ q e) in
    (birth_with _ _ c.push.new.self c.index-account.result.now c.unwrap_or-pid.result c.len-slot.result q c.requires.pass is e pid (slot_is c.args.self.now.accounts c.args.pass.now.slot (record c.index-account.result.now { unborn = None }) c.len-slot.result c.len-slot.ensures) c.in_ok-push.ensures.items).2

pub returns-clause-bears : goal.returns-clause-bears
returns-clause-bears c = λ q e.
    let is = the_account _ _ _ c.requires.pass c.index-account.ensures in
    let pid = c.unwrap_or-pid.ensures ∙ (ap (λ (y : Account). unwrap_or y.unborn 0) (sym is) ∙ named_child _ q e) in
    (birth_with _ _ c.push.new.self c.index-account.result.now c.unwrap_or-pid.result c.len-slot.result q c.requires.pass is e pid (slot_is c.args.self.now.accounts c.args.pass.now.slot (record c.index-account.result.now { unborn = None }) c.len-slot.result c.len-slot.ensures) c.in_ok-push.ensures.items).3
