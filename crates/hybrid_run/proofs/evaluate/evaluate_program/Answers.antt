use Rattle.hybrid_run.proofs.Running.{stands_closed, stands_run}
use Rattle.hybrid_run.proofs.evaluate.evaluate_program.Goals as goal

pub evaluate-requires : goal.evaluate-requires
evaluate-requires c =
    stands_closed c.requires.0 c.args.program.now c.requires.1 c.as_slice.result.now c.module-item.result c.as_slice-2.result.now c.main-item.result c.as_slice.ensures c.module-item.is c.as_slice-2.ensures c.main-item.is c.new-env.result.items c.new-env.ensures.items

pub returns : goal.returns
returns c = λ zs ready.
    stands_run zs c.args.program.now ready c.as_slice.result.now c.module-item.result c.as_slice-2.result.now c.main-item.result c.as_slice.ensures c.module-item.is c.as_slice-2.ensures c.main-item.is
    c.new-env.result.items c.new-printed.result.items c.evaluate.new.printed.items c.in_ok-ending.ending c.new-env.ensures.items c.new-printed.ensures.items c.in_ok-ending.ensures.evaluates
