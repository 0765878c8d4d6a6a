use Rattle.std.proofs.Common.{◌≡◌, ◌+◌}
use Rattle.lowered_code.specs.Builder.{registers_from}
use Rattle.code_writing.proofs.registers.fresh_all.Given as goal

abbrev pub invariant-loop-place : goal.invariant-loop-place
invariant-loop-place l = (l.outs ≡ registers_from l.fn.next l._place) × (l.next ≡ l.fn.next + l._place)
