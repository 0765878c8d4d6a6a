use Rattle.std.proofs.Common.{◌≡◌, drop}
use Rattle.letrec_names.specs.code.Passed.{passed_modules}
use Rattle.letrec_names.proofs.counts.pass_modules.Given as goal

abbrev pub invariant-loop-names : goal.invariant-loop-names
invariant-loop-names l =
    passed_modules l.counts.items (drop l.names-index l.modules)
    ≡ passed_modules l.fn.counts.items l.modules
