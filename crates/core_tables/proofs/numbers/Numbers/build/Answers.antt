use Rattle.std.proofs.Common.{◌∙◌, ap, replicate}
use Rattle.hy_core.specs.Counting.{made, at_node}
use Rattle.core_tables.proofs.CountingLemmas.{node-built}
use Rattle.core_tables.proofs.numbers.Numbers.build.Goals as goal

pub returns : goal.returns
returns c =
    let inside = c.self.inside in
    node-built c.args.function c.args.kind c.args.times (record { node = inside.node; local = inside.local; sites = inside.sites.items }) _ _ _
    c.in_ok-first.ensures c.in_ok-push_same.ensures c.in_ok-pass.ensures
    ∙ ap (at_node (replicate c.args.times c.args.kind) made c.args.function) c.self.view_is
