use Rattle.std.proofs.Common.{◌+◌, sym, ap, ◌∙◌, length}
use Rattle.std.proofs.lemmas.Result.{on_ok_weaker}
use Rattle.hy_core.specs.SubPatterns.{patterns_in}
use Rattle.hy_core.proofs.SyntaxLemmas.{patterns_come_back}
use Rattle.event_nodes.specs.code.Walked.{Walk, passed}
use Rattle.event_nodes.proofs.events.Events.pass.Goals as goal

pub returns : goal.returns
returns c =
    let before : Walk = record {
      function = c.self.inside.function;
      node = c.self.inside.node;
      next = c.self.inside.next;
      found = c.self.inside.found.items;
    } in
    on_ok_weaker c.pass_patterns.result
    (λ h. ap (λ n. record before { node = n }) h
    ∙ ap (λ l. record before { node = c.self.inside.node + length (patterns_in l) })
    (sym (patterns_come_back c.args.patterns.now))
    ∙ ap (passed _) c.self.view_is) c.pass_patterns.ensures
