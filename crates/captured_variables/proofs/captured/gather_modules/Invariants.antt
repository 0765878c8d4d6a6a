use Rattle.std.proofs.Common.{◌≡◌, drop}
use Rattle.captured_variables.specs.code.Walked.{walked_modules}
use Rattle.captured_variables.proofs.captured.gather_modules.Given as goal

abbrev pub invariant-loop-names : goal.invariant-loop-names
invariant-loop-names l =
    walked_modules l.counts l.walk (drop l.names-index l.modules)
    ≡ walked_modules l.counts l.fn.walk l.modules
