use Rattle.std.proofs.Common.{◌≡◌, map, take}
use Rattle.hy_core.specs.Scopes.{with_patterns}
use Rattle.hy_core.specs.Syntax.{pattern_of, patterns_of}
use Rattle.lifted_program.specs.Renaming.{renamed_patterns}
use Rattle.renaming.proofs.patterns.+rename_pattern.Given as goal

abbrev pub invariant-rename_patterns-loop-pattern : goal.invariant-rename_patterns-loop-pattern
invariant-rename_patterns-loop-pattern l =
    let passed = patterns_of (map pattern_of (take l.pattern-index l.patterns)) in
    (patterns_of (map pattern_of l.renamed) ≡ renamed_patterns l.limit l.fn.scope passed)
    × (l.scope ≡ with_patterns l.fn.scope passed)
