-- The patterns inside a pattern, by its form.
use Rattle.std.proofs.Common.{◌≡◌, List, [], ◌∷◌, ◌++◌, map, refl, ap, ◌∙◌, subst}
use Rattle.hy_core.specs.SubPatterns.{within, within_step, each_within, patterns_in}
use Rattle.hy_core.specs.declared.tree.Pattern.{Pattern}
use Rattle.hy_core.specs.declared.tree.Pattern.TheFolds.{para-roll-Pattern}
use Rattle.hy_core.specs.declared.tree.Pattern.TheOpen as p
use Rattle.hy_core.specs.declared.tree.Pattern.TheOpen.{Pattern-F}
use Rattle.hy_core.specs.declared.tree.Pattern.TheViews.{out-Pattern, roll-Pattern, roll-out-Pattern}
use Rattle.hy_core.specs.PatternParts.{end_patterns, within_layer}

each_within-pairs : (qs : List Pattern) → each_within (map (λ q. (q, within q)) qs) ≡ patterns_in qs
each_within-pairs [] = refl
each_within-pairs (q ∷ qs) = ap (λ rest. q ∷ within q ++ rest) (each_within-pairs qs)

at_layer : (y : Pattern-F Pattern) → within (roll-Pattern y) ≡ within_layer y
at_layer (p.Var x) = para-roll-Pattern (List Pattern) within_step (p.Var x)
at_layer (p.Int n) = para-roll-Pattern (List Pattern) within_step (p.Int n)
at_layer (p.Atom a) = para-roll-Pattern (List Pattern) within_step (p.Atom a)
at_layer p.Nil = para-roll-Pattern (List Pattern) within_step p.Nil
at_layer (p.Str text) = para-roll-Pattern (List Pattern) within_step (p.Str text)
at_layer (p.Tuple parts) = para-roll-Pattern (List Pattern) within_step (p.Tuple parts) ∙ each_within-pairs parts
at_layer (p.List heads tail) = para-roll-Pattern (List Pattern) within_step (p.List heads tail) ∙ ap (λ qs. qs ++ end_patterns tail) (each_within-pairs heads)
at_layer (p.Alias x q) = para-roll-Pattern (List Pattern) within_step (p.Alias x q)

pub within_by_layer : (q : Pattern) → within q ≡ within_layer (out-Pattern q)
within_by_layer q = subst (λ x. within x ≡ within_layer (out-Pattern q)) (roll-out-Pattern q) (at_layer (out-Pattern q))
