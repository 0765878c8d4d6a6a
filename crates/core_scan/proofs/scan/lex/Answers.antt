use Rattle.std.proofs.Common.{◌≡◌, length, arith}
use Rattle.core_scan.proofs.ScanLoop.{step_at, over_at}
use Rattle.core_scan.proofs.OneLexing.{few_tokens, tokens_within}
use Rattle.core_scan.proofs.scan.lex.Goals as goal

pub loop-i-preserved : goal.loop-i-preserved
loop-i-preserved c = step_at c.args.bytes.now c.loop-i.i _ c.loop-i.state c.in_ok-state.state c.loop-i.lexemes c.step.new.out _ c.loop-i-test.true c.in_ok-state.ensures c.loop-i.invariant

pub returns-clause-tokens : goal.returns-clause-tokens
returns-clause-tokens c =
    let over : c.loop-i.i ≡ length c.args.bytes.now = omega arith in
    over_at c.args.bytes.now c.loop-i.i c.loop-i.state c.loop-i.lexemes c.end.new.out c.in_ok-ending.ending over c.in_ok-ending.ensures c.loop-i.invariant

pub returns-clause-few : goal.returns-clause-few
returns-clause-few c =
    let over : c.loop-i.i ≡ length c.args.bytes.now = omega arith in
    few_tokens c.args.bytes.now c.end.new.out c.in_ok-ending.ending (over_at c.args.bytes.now c.loop-i.i c.loop-i.state c.loop-i.lexemes c.end.new.out c.in_ok-ending.ending over c.in_ok-ending.ensures c.loop-i.invariant)

pub returns-clause-within : goal.returns-clause-within
returns-clause-within c =
    let over : c.loop-i.i ≡ length c.args.bytes.now = omega arith in
    tokens_within c.args.bytes.now c.end.new.out c.in_ok-ending.ending (over_at c.args.bytes.now c.loop-i.i c.loop-i.state c.loop-i.lexemes c.end.new.out c.in_ok-ending.ending over c.in_ok-ending.ensures c.loop-i.invariant)
