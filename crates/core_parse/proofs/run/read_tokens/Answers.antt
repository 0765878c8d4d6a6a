use Rattle.std.proofs.Common.{◌≡◌, length, arith}
use Rattle.core_parse.proofs.TokenLoop.{step_at, fault_at, over_at}
use Rattle.core_parse.proofs.run.read_tokens.Goals as goal

pub returns-in-Err-Refused : goal.returns-in-Err-Refused
returns-in-Err-Refused c =
    rw c.in-Err-Refused.field-0-is
    (fault_at c.args.lexemes.now c.index-lexemes-index.result c.loop-index.index c.loop-index.state _ _ c.loop-index-test.true c.index-lexemes-index.is (rw c.in-Err-Refused.field-0-is at c.in-Err-Refused.ensures) c.loop-index.invariant)

pub loop-index-preserved : goal.loop-index-preserved
loop-index-preserved c =
    step_at c.args.lexemes.now c.index-lexemes-index.result c.loop-index.index c.loop-index.state c.step.new.state _ c.loop-index-test.true c.index-lexemes-index.is c.in-Ok-step.ensures c.loop-index.invariant

pub returns : goal.returns
returns c =
    let over : c.loop-index.index ≡ length c.args.lexemes.now = omega arith in
    rw (over_at c.args.lexemes.now c.loop-index.index c.loop-index.state _ over c.loop-index.invariant) c.end.ensures
