use Rattle.std.proofs.Common.{◌≡◌, ◌++◌, drop}
use Rattle.letrec_names.specs.Origins.{function_origins, modules_origins}
use Rattle.letrec_names.proofs.origins.function_origins.Given as goal

abbrev pub invariant-loop-names : goal.invariant-loop-names
invariant-loop-names l =
    l.origins.items ++ modules_origins l.number (drop l.names-index l.modules) ≡ function_origins l.modules
