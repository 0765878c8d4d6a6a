use Rattle.std.proofs.Common.{◌≡◌, drop, codes}
use Rattle.core_lint.specs.code.Exports.{exports_name}
use Rattle.core_lint.proofs.missing_main.exports_main.Given as goal

abbrev pub invariant-loop-export : goal.invariant-loop-export
invariant-loop-export l = exports_name l.names (drop l.export-index l.names.exports) (codes "main") 0 ≡ exports_name l.names l.names.exports (codes "main") 0
