use Rattle.std.proofs.Common.{sym, ◌∙◌}
use Rattle.hy_ir.specs.View.{code_of}
use Rattle.hy_ir.proofs.Checks.{code_decided}
use Rattle.hy_ir.proofs.validity.validate.Goals as goal

pub returns : goal.returns
returns c =
    let d = code_decided (code_of c.args.code.now) in
    (λ yes. d.0 (sym c.is_valid_code.ensures ∙ yes), λ is. c.is_valid_code.ensures ∙ d.1 is)
