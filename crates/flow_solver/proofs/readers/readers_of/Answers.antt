use Rattle.std.proofs.Common.{if◌then◌else◌, [], ◌∷◌, ◌++◌, ap, ◌∙◌, get_or}
use Rattle.flow_solver.specs.code.Lists.{listed}
use Rattle.flow_solver.specs.code.Readers.{is_set, source}
use Rattle.flow_solver.proofs.Appending.{filter-more}
use Rattle.flow_solver.proofs.readers.readers_of.Goals as goal

pub loop-rule-preserved : goal.loop-rule-preserved
loop-rule-preserved c = λ q.
    let before = listed is_set c.loop-rule.readers q in
    let r = get_or c.args.rules.now c.loop-rule.rule-index _ in
    filter-more (λ rule. is_set (source rule) q) c.args.rules.now c.loop-rule.rule-index _ before
    (listed is_set c.push.new.lists q) c.loop-rule-test.true (c.loop-rule.invariant q)
    (c.in_ok-push.ensures q ∙ ap (λ set. if is_set set q then before ++ r ∷ [] else before)
    c.source.ensures)
