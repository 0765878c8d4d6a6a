use Rattle.std.proofs.Common.{◌≡◌, ◌++◌, drop, map}
use Rattle.hy_core.specs.Canonical.{pattern_part, texts_of, with_commas, after_commas}
use Rattle.core_print.proofs.pattern.+print_pattern.Given as goal

abbrev pub invariant-push_patterns-loop-pattern : goal.invariant-push_patterns-loop-pattern
invariant-push_patterns-loop-pattern l =
    l.out.items ++ after_commas (texts_of (map (pattern_part l.names) (drop l.pattern-index l.rest)))
    ≡ l.fn.out.items ++ with_commas (texts_of (map (pattern_part l.names) l.fn.patterns))
