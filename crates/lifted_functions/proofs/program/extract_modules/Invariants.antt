use Rattle.std.proofs.Common.{◌≡◌, drop, fold}
use Rattle.lifted_functions.specs.code.Extraction.{state_of}
use Rattle.lifted_functions.specs.code.Programs.{with_extracted}
use Rattle.lifted_functions.proofs.program.extract_modules.Given as goal

abbrev pub invariant-loop-names : goal.invariant-loop-names
invariant-loop-names l =
    fold (with_extracted l.tables) (state_of l.done) (drop l.names-index l.modules)
    ≡ fold (with_extracted l.tables) (state_of l.fn.done) l.modules
