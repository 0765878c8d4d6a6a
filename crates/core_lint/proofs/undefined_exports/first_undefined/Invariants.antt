use Rattle.std.proofs.Common.{◌≡◌, drop, not}
use Rattle.hy_core.specs.Nodes.{names_of}
use Rattle.hy_core.specs.Resolve.{is_local}
use Rattle.core_lint.specs.code.FirstPlace.{first_where}
use Rattle.core_lint.specs.code.RepeatedFunctions.{first_undefined}
use Rattle.core_lint.proofs.undefined_exports.first_undefined.Given as goal

abbrev pub invariant-loop-k : goal.invariant-loop-k
invariant-loop-k l = first_where (λ k f. not (is_local f (names_of l.names.functions))) l.k (drop l.k l.names.exports) ≡ first_undefined l.names
