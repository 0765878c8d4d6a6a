use Rattle.std.proofs.Common.{◌≡◌, ◌∙◌, ap, sym, rules}
use Rattle.renaming.specs.VariableLimit.{above_each, above_module}
use Rattle.renaming.proofs.AboveForms.{above-append}
use Rattle.renaming.proofs.BelowLimit.{program_below}
use Rattle.renaming.proofs.limit.variable_limit.Goals as goal

pub returns-clause-greatest : goal.returns-clause-greatest
returns-clause-greatest c =
    let program = c.args.program.now in
    let apart = above-append above_module 0 program.given program.prelude in
    let given : c.pass_modules.new.limit ≡ above_each above_module 0 program.given =
    c.pass_modules.ensures ∙ ap (above_each above_module 0) c.as_slice.ensures in
    let both : c.pass_modules-2.new.limit
    ≡ above_each above_module (above_each above_module 0 program.given) program.prelude =
    c.pass_modules-2.ensures ∙ (λ i. above_each above_module (given i) (c.as_slice-2.ensures i)) in
    let same : c.in_ok-limit.limit ≡ c.pass_modules-2.new.limit = search rules in
    same ∙ both ∙ sym apart

pub returns-clause-below : goal.returns-clause-below
returns-clause-below c =
    let program = c.args.program.now in
    let apart = above-append above_module 0 program.given program.prelude in
    let given : c.pass_modules.new.limit ≡ above_each above_module 0 program.given =
    c.pass_modules.ensures ∙ ap (above_each above_module 0) c.as_slice.ensures in
    let both : c.pass_modules-2.new.limit
    ≡ above_each above_module (above_each above_module 0 program.given) program.prelude =
    c.pass_modules-2.ensures ∙ (λ i. above_each above_module (given i) (c.as_slice-2.ensures i)) in
    let same : c.in_ok-limit.limit ≡ c.pass_modules-2.new.limit = search rules in
    program_below program c.in_ok-limit.limit (same ∙ both ∙ sym apart)
