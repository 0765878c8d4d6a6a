use Rattle.std.proofs.Common.{◌≡◌, drop, fold}
use Rattle.lifted_functions.specs.code.Extraction.{state_of}
use Rattle.lifted_functions.specs.code.Programs.{extracted_from}
use Rattle.lifted_functions.proofs.program.extract_tops.Given as goal

abbrev pub invariant-loop-function : goal.invariant-loop-function
invariant-loop-function l =
    fold (extracted_from l.tables l.current) (state_of l.done) (drop l.function-index l.functions)
    ≡ fold (extracted_from l.tables l.current) (state_of l.fn.done) l.functions
