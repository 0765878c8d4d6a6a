-- The patterns inside a pattern, by its form.
use Rattle.std.specs.Prelude.{if◌then◌else◌, List, [], ◌∷◌, ◌++◌}
use Rattle.hy_core.specs.SubPatterns.{within, patterns_in, is_nil_layer}
use Rattle.hy_core.specs.declared.tree.Pattern.{Pattern}
use Rattle.hy_core.specs.declared.tree.Pattern.TheOpen as p
use Rattle.hy_core.specs.declared.tree.Pattern.TheOpen.{Pattern-F}
use Rattle.hy_core.specs.declared.tree.Pattern.TheViews.{out-Pattern}

-- nil at the end of a list notation is no node
abbrev pub end_patterns : Pattern → List Pattern
end_patterns q = if is_nil_layer (out-Pattern q) then [] else q ∷ within q

abbrev pub within_layer : Pattern-F Pattern → List Pattern
within_layer (p.Tuple parts) = patterns_in parts
within_layer (p.List heads tail) = patterns_in heads ++ end_patterns tail
within_layer (p.Alias x pattern) = pattern ∷ within pattern
within_layer _ = []
