use Rattle.std.proofs.Common.{◌≡◌, ◌++◌, [], ◌∷◌, rules, subst}
use Rattle.core_walk.specs.NameCounts.{CountsNames}
use Rattle.core_walk.proofs.NameCountLemmas.{counts-last, counts-popped}
use Rattle.core_walk.proofs.function_names.FunctionNames.pop.Goals as goal

pub uncount-requires : goal.uncount-requires
uncount-requires c =
    let counts = c.self.inside.counts in
    let before : c.self.inside.names.items ≡ c.pop.new.self.items ++ c.in-Some.name ∷ [] = search rules in
    counts-last counts c.pop.new.self.items c.in-Some.name (subst (CountsNames counts) before c.self.invariant)

pub invariant_of-self : goal.invariant_of-self
invariant_of-self c =
    let counts = c.self.inside.counts in
    let before : c.self.inside.names.items ≡ c.pop.new.self.items ++ c.in-Some.name ∷ [] = search rules in
    counts-popped counts c.uncount.new.counts c.pop.new.self.items c.in-Some.name (subst (CountsNames counts) before c.self.invariant) c.uncount.ensures
