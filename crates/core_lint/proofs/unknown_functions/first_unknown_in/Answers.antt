use Rattle.std.proofs.Common.{◌++◌, ap, ◌∙◌}
use Rattle.hy_core.specs.Nodes.{names_of}
use Rattle.core_lint.proofs.UnknownLemmas.{same_answer}
use Rattle.core_lint.proofs.unknown_functions.first_unknown_in.Goals as goal

pub returns : goal.returns
returns c =
    let names = c.args.names.now in
    let defined = c.in_ok-define.ensures ∙ ap (λ fs. fs ++ names_of c.as_slice.result.now) c.new-defined.ensures ∙ ap names_of c.as_slice.ensures in
    same_answer c.args.exports.now names c.define.new.self defined 6 c.args.place 0 names.functions c.first_in_module.result c.first_in_module.ensures
