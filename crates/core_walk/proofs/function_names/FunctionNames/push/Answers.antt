use Rattle.std.proofs.Common.{◌+◌, ◌++◌, [], ◌∷◌, arith, ap, sym, ◌∙◌, subst}
use Rattle.core_walk.specs.NameCounts.{CountsNames}
use Rattle.core_walk.proofs.NameCountLemmas.{counts-kept, counts-pushed, times_named-≤}
use Rattle.core_walk.proofs.function_names.FunctionNames.push.Goals as goal

pub overflow_add-count : goal.overflow_add-count
overflow_add-count c = omega (arith, c.self.invariant.at c.args.name, times_named-≤ c.self.inside.names.items c.args.name)

pub invariant_of-self-in_err-set_count : goal.invariant_of-self-in_err-set_count
invariant_of-self-in_err-set_count c =
    subst (CountsNames c.set_count.new.counts) (sym c.reserve.ensures.items)
    (counts-kept c.self.inside.counts c.set_count.new.counts c.self.inside.names.items c.in_err-set_count.ensures.err c.self.invariant)

pub invariant_of-self-in_err-push : goal.invariant_of-self-in_err-push
invariant_of-self-in_err-push c = absurd (omega (arith, c.in_err-push.ensures.full, c.in_ok-reserve.ensures.ok))

pub invariant_of-self-2 : goal.invariant_of-self-2
invariant_of-self-2 c =
    let names = c.self.inside.names.items in
    let items = c.in_ok-push.ensures.items ∙ ap (λ xs. xs ++ c.args.name ∷ []) c.reserve.ensures.items in
    subst (CountsNames c.set_count.new.counts) (sym items)
    (counts-pushed c.self.inside.counts c.set_count.new.counts names c.args.name (c.count_of-count.result + 1) c.self.invariant (ap (λ n. n + 1) c.count_of-count.ensures) c.in_ok-set_count.ensures.ok)
