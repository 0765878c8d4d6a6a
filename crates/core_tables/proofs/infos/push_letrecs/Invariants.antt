use Rattle.std.proofs.Common.{◌≡◌, ◌++◌, drop, length, map, replicate}
use Rattle.hy_core.specs.SubPatterns.{joined}
use Rattle.hy_core.specs.Tables.{info_of, local_functions}
use Rattle.core_tables.proofs.infos.push_letrecs.Given as goal

abbrev pub invariant-loop-function : goal.invariant-loop-function
invariant-loop-function l =
    l.infos.items ++ joined (map (λ f. replicate (length (local_functions f)) (info_of l.places l.names f)) (drop l.function-index l.functions))
    ≡ l.fn.infos.items ++ joined (map (λ f. replicate (length (local_functions f)) (info_of l.places l.names f)) l.functions)
