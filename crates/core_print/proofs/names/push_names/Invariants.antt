use Rattle.std.proofs.Common.{◌≡◌, ◌++◌, drop, map}
use Rattle.hy_core.specs.Canonical.{name_text, with_commas, after_commas}
use Rattle.core_print.proofs.names.push_names.Given as goal

abbrev pub invariant-loop-function : goal.invariant-loop-function
invariant-loop-function l =
    l.out.items ++ after_commas (map (name_text l.names) (drop l.function-index l.rest)) ≡ l.fn.out.items ++ with_commas (map (name_text l.names) l.fn.functions)
