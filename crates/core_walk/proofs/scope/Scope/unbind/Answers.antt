use Rattle.std.proofs.Common.{◌≡◌, ◌-◌, ◌++◌, [], ◌∷◌, arith, rules, subst}
use Rattle.core_walk.specs.Bound.{Counts}
use Rattle.core_walk.proofs.BoundLemmas.{counts-left, counts-read, counts-within, times_bound-last}
use Rattle.std.proofs.lemmas.Grind.{get_or_default_zero}
use Rattle.core_walk.proofs.scope.Scope.unbind.Goals as goal

pub index_mut-requires : goal.index_mut-requires
index_mut-requires c =
    let counts = c.self.inside.counts.items in
    let before : c.self.inside.bound.items ≡ c.pop.new.self.items ++ c.in-Some.variable ∷ [] = search rules in
    let here = subst (Counts counts) before c.self.invariant in
    let within = counts-within counts c.pop.new.self.items c.in-Some.variable here in
    search (rules, within)

pub overflow_sub-index_mut : goal.overflow_sub-index_mut
overflow_sub-index_mut c =
    let counts = c.self.inside.counts.items in
    let before : c.self.inside.bound.items ≡ c.pop.new.self.items ++ c.in-Some.variable ∷ [] = search rules in
    let here = subst (Counts counts) before c.self.invariant in
    let within = counts-within counts c.pop.new.self.items c.in-Some.variable here in
    let read = counts-read counts (c.pop.new.self.items ++ c.in-Some.variable ∷ []) c.in-Some.variable c.index_mut.result.now here within c.index_mut.ensures.value in
    omega (arith, read, times_bound-last c.pop.new.self.items c.in-Some.variable)

pub invariant_of-self : goal.invariant_of-self
invariant_of-self c =
    let counts = c.self.inside.counts.items in
    let before : c.self.inside.bound.items ≡ c.pop.new.self.items ++ c.in-Some.variable ∷ [] = search rules in
    let here = subst (Counts counts) before c.self.invariant in
    let within = counts-within counts c.pop.new.self.items c.in-Some.variable here in
    let zero = get_or_default_zero counts c.in-Some.variable c.index_mut.result.now within in
    let read = counts-read counts (c.pop.new.self.items ++ c.in-Some.variable ∷ []) c.in-Some.variable c.index_mut.result.now here within c.index_mut.ensures.value in
    counts-left counts c.pop.new.self.items c.in-Some.variable (c.index_mut.result.now - 1) here within (omega (arith, read, zero, c.index_mut.ensures.value, times_bound-last c.pop.new.self.items c.in-Some.variable))
