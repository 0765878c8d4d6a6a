use Rattle.std.proofs.Common.{◌∙◌}
use Rattle.hy_core.specs.ProgramTrees.{function_trees}
use Rattle.captured_syntax.proofs.Captures.{captures}
use Rattle.captured_syntax.proofs.ProgramFacts.{program-facts}
use Rattle.captured_variables.proofs.captured.captured_variables.Goals as goal

pub returns-clause-captured : goal.returns-clause-captured
returns-clause-captured c = λ names sites whole.
    let ms = c.args.modules.now in
    let facts = c.facts.ensures ∙ c.in_ok-walk.ensures ∙ program-facts names sites ms whole in
    captures (function_trees names sites ms) c.facts.result.now c.in_ok-members.members.keys facts
    c.in_ok-members.ensures.exact c.in_ok-members.ensures.once
