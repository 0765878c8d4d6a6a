use Rattle.std.proofs.Common.{◌+◌, ◌<◌, length, ap, ◌∙◌, arith, rules, subst}
use Rattle.core_walk.specs.Bound.{Counts}
use Rattle.std.specs.List.{slice_set}
use Rattle.core_walk.proofs.BoundLemmas.{counts-bound, counts-read, counts-grown, times_bound-≤}
use Rattle.std.proofs.lemmas.Grind.{get_or_default_zero}
use Rattle.core_walk.proofs.scope.Scope.bind.Goals as goal

pub overflow_add-index_mut : goal.overflow_add-index_mut
overflow_add-index_mut c =
    let counts = c.make_places.new.counts.items in
    let bound = c.self.inside.bound.items in
    let grown = counts-grown c.self.inside.counts.items counts bound c.self.invariant c.make_places.ensures.same in
    let within : c.args.variable < length counts = search rules in
    let read = counts-read counts bound c.args.variable c.index_mut.result.now grown within c.index_mut.ensures.value in
    omega (arith, read, times_bound-≤ bound c.args.variable)

pub invariant_of-self-2 : goal.invariant_of-self-2
invariant_of-self-2 c =
    let counts = c.make_places.new.counts.items in
    let bound = c.self.inside.bound.items in
    let grown = counts-grown c.self.inside.counts.items counts bound c.self.invariant c.make_places.ensures.same in
    let within : c.args.variable < length counts = search rules in
    let set = counts-bound counts bound c.args.variable (c.index_mut.result.now + 1) grown within (ap (λ n. n + 1) (c.index_mut.ensures.value ∙ get_or_default_zero counts c.args.variable c.index_mut.result.now within)) in
    subst (Counts (slice_set counts c.args.variable (c.index_mut.result.now + 1))) (search rules) set
