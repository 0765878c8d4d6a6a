use Rattle.std.proofs.Common.{◌≡◌, drop, fold}
use Rattle.lifted_functions.specs.code.Extraction.{state_of}
use Rattle.lifted_functions.specs.code.Programs.{with_top}
use Rattle.lifted_functions.proofs.program.lift_tops.Given as goal

abbrev pub invariant-loop-function : goal.invariant-loop-function
invariant-loop-function l =
    fold (with_top l.tables l.current) (state_of l.done) (drop l.function-index l.functions)
    ≡ fold (with_top l.tables l.current) (state_of l.fn.done) l.functions
