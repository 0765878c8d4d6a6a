use Rattle.std.proofs.Common.{ap, arith, append-nil, sym, refl, [], length-set}
use Rattle.commons.specs.declared.plain.Account.{Account}
use Rattle.commons.proofs.PlainKeeps.{the_account, low_puts}
use Rattle.commons.proofs.PlainSteps.{put_step}
use Rattle.commons.proofs.plain_calls.PlainCommonsCommons.put.Goals as goal

pub overflow_add-account-2 : goal.overflow_add-account-2
overflow_add-account-2 c =
    let e = the_account _ _ _ c.requires.pass c.index-account.ensures in
    let s = ap (λ (y : Account). y.puts) e in
    let b = low_puts _ _ c.requires.pass in omega arith

pub returns-clause-later : goal.returns-clause-later
returns-clause-later c = record {
  area_size = length-set c.args.self.now.area.items c.index-account.result.now.block_start c.args.word;
  log_size = refl;
  area = (put_step _ _ c.args.word _ c.requires.pass (the_account _ _ _ c.requires.pass c.index-account.ensures) c.requires.room c.requires.word).2;
  log = ([], sym (append-nil c.args.self.now.log.items));
}

pub returns-clause-others : goal.returns-clause-others
returns-clause-others c = (put_step _ _ c.args.word _ c.requires.pass (the_account _ _ _ c.requires.pass c.index-account.ensures) c.requires.room c.requires.word).0

pub returns-clause-put : goal.returns-clause-put
returns-clause-put c = (put_step _ _ c.args.word _ c.requires.pass (the_account _ _ _ c.requires.pass c.index-account.ensures) c.requires.room c.requires.word).1
