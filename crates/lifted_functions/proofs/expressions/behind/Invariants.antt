use Rattle.std.proofs.Common.{◌≡◌, drop, map}
use Rattle.hy_core.specs.Syntax.{definitions_of}
use Rattle.letrec_names.specs.Parts.{function_syntax}
use Rattle.lifted_functions.specs.code.Lifting.{number_behind}
use Rattle.lifted_functions.proofs.expressions.behind.Given as goal

abbrev pub invariant-loop : goal.invariant-loop
invariant-loop l =
    number_behind l.counts l.next
    (definitions_of (map function_syntax (drop l.index l.functions)))
    ≡ number_behind l.counts l.fn.first (definitions_of (map function_syntax l.functions))
