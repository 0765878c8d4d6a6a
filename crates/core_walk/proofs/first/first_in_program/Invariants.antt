use Rattle.std.proofs.Common.{◌≡◌, drop}
use Rattle.core_walk.specs.First.{first_in_modules}
use Rattle.core_walk.proofs.first.first_in_program.Given as goal

abbrev pub invariant-loop-i : goal.invariant-loop-i
invariant-loop-i g l =
    first_in_modules (g.C.Check.forms l.check) l.kind l.i (drop l.i l.modules) ≡ first_in_modules (g.C.Check.forms l.check) l.kind 0 l.modules
