use Rattle.std.proofs.Common.{sym, ap, ◌∙◌}
use Rattle.hy_core.specs.NodeParts.{atom_layer}
use Rattle.hy_core.specs.ProgramTrees.{is_event}
use Rattle.hy_core.specs.Syntax.{syntax_of}
use Rattle.hy_core.specs.declared.tree.Expr.TheViews.{out-Expr}
use Rattle.core_names.specs.Called.{called}
use Rattle.event_nodes.specs.code.Walked.{is_event_of}
use Rattle.event_nodes.proofs.Calling.{call_is}
use Rattle.event_nodes.proofs.calls.is_event.Goals as goal

pub returns-in-Call : goal.returns-in-Call
returns-in-Call c =
    let atoms = c.args.atoms.now in
    c.does_event.ensures
    ∙ ap is_event_of
    (c.called.ensures
    ∙ (λ i. called atoms (atom_layer (out-Expr (c.get.ensures i)))
    (atom_layer (out-Expr (c.get-in-Call.ensures i))) (c.len.ensures i)))
    ∙ call_is atoms c.in-Call.module c.in-Call.name c.in-Call.args
    ∙ sym (ap (λ x. is_event atoms (syntax_of x)) c.in-Call.is)
