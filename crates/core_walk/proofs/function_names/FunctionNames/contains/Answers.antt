use Rattle.std.proofs.Common.{nat_lt, ap, ◌∙◌}
use Rattle.hy_core.specs.Resolve.{is_local}
use Rattle.core_walk.proofs.NameCountLemmas.{is_local-times}
use Rattle.core_walk.proofs.function_names.FunctionNames.contains.Goals as goal

pub returns : goal.returns
returns c =
    ap (nat_lt 0) (c.count_of.ensures ∙ c.self.invariant.at c.args.name)
    ∙ is_local-times c.self.inside.names.items c.args.name
    ∙ ap (is_local c.args.name) c.self.view_is
