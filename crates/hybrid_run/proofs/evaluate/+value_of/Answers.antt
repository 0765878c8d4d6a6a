use Rattle.std.proofs.Common.{rules, ◌∙◌}
use Rattle.hybrid_run.proofs.Bindings.{last_found, last_passed, outer_bound}
use Rattle.hybrid_run.proofs.evaluate.+value_of.Goals as goal

pub value_of-requires : goal.value_of-requires
value_of-requires t c = (search rules, outer_bound c.args.env.now _ c.args.var c.in-len1-up.len_at_least c.if-last-var.false c.requires)

pub returns-then-last-var : goal.returns-then-last-var
returns-then-last-var t c = last_found c.args.env.now _ c.args.var c.in-len1-up.len_at_least c.if-last-var.true

pub returns-else-last-var : goal.returns-else-last-var
returns-else-last-var t c = last_passed c.args.env.now _ c.args.var c.in-len1-up.len_at_least c.if-last-var.false ∙ c.value_of.ensures
