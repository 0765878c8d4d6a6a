use Rattle.std.proofs.Common.{◌∙◌, ap}
use Rattle.captured_variables.specs.code.Walked.{nothing_gathered, walked_modules}
use Rattle.captured_variables.proofs.WalkedIs.{facts_are}
use Rattle.captured_variables.proofs.captured.gather_program.Goals as goal

pub returns : goal.returns
returns c =
    let ms = c.args.modules.now in
    let begun = c.new-walk.ensures
    ∙ ap nothing_gathered (c.first.ensures ∙ ap (λ k. k.first) c.requires) in
    ap (λ w. w.facts)
    (c.in_ok-gather_modules.ensures ∙ (λ i. walked_modules (c.requires i) (begun i) ms))
    ∙ facts_are ms
