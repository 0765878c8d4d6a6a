use Rattle.std.proofs.Common.{◌≡◌, ◌++◌, map, drop}
use Rattle.hy_core.specs.Syntax.{definitions_of}
use Rattle.letrec_names.specs.NestedCounts.{numbered}
use Rattle.letrec_names.specs.Parts.{function_syntax}
use Rattle.letrec_names.proofs.names.number_functions.Given as goal

abbrev pub invariant-loop-function : goal.invariant-loop-function
invariant-loop-function l =
    l.names.items
    ++ numbered l.counts l.next
    (definitions_of (map function_syntax (drop l.function-index l.functions)))
    ≡ numbered l.counts l.first (definitions_of (map function_syntax l.functions))
