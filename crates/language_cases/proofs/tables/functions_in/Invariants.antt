use Rattle.std.proofs.Common.{◌≡◌, ◌++◌, drop}
use Rattle.std.specs.List.{flat_map}
use Rattle.language_cases.specs.Tables.{function_text}
use Rattle.language_cases.proofs.tables.functions_in.Given as goal

abbrev pub invariant-loop-info : goal.invariant-loop-info
invariant-loop-info l =
    l.line.items ++ flat_map (function_text l.atoms) (drop l.info-index l.functions)
    ≡ flat_map (function_text l.atoms) l.functions
