use Rattle.std.proofs.Common.{◌-◌, if◌then◌else◌, arith, ap, ◌∙◌, refl, subst}
use Rattle.std.specs.Prelude.{IsSome}
use Rattle.hy_core.specs.Resolved.{is_name}
use Rattle.core_walk.specs.NameCounts.{count_of}
use Rattle.core_walk.proofs.NameCountLemmas.{count-read, count-set}
use Rattle.core_walk.proofs.function_names.uncount.Goals as goal

pub overflow_sub-count : goal.overflow_sub-count
overflow_sub-count c =
    let read = count-read c.args.counts.now c.args.name c.key_of.result c.in-Some.count.now c.key_of.ensures c.in-Some.ensures.value in
    omega (arith, c.requires, read)

pub returns-in-Some : goal.returns-in-Some
returns-in-Some c =
    let counts = c.args.counts.now in
    let n = c.in-Some.count.now in
    let read = count-read counts c.args.name c.key_of.result n c.key_of.ensures c.in-Some.ensures.value in
    let there = subst IsSome c.in-Some.ensures.value refl in
    λ f. count-set counts (c.get_mut.follows.lender (n - 1)) c.args.name c.key_of.result (n - 1) c.key_of.ensures ((c.get_mut.follows.holds (n - 1)).3 there) f
    ∙ ap (λ k. if is_name c.args.name f then k - 1 else count_of counts f) read
