use Rattle.core_walk.proofs.NameCountLemmas.{count-set}
use Rattle.core_walk.proofs.function_names.set_count.Goals as goal

pub returns-clause-ok : goal.returns-clause-ok
returns-clause-ok c = count-set c.args.counts.now c.insert.new.self c.args.name c.key_of.result c.args.count c.key_of.ensures c.in_ok-insert.ensures.updates
