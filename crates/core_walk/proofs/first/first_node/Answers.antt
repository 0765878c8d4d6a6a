use Rattle.std.proofs.Common.{rules}
use Rattle.core_walk.proofs.first.first_node.Goals as goal

pub returns-in-Ok-clause-found : goal.returns-in-Ok-clause-found
returns-in-Ok-clause-found g c = (c.walk_expr.new.at.node, search rules)
