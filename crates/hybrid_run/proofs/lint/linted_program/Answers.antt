use Rattle.std.proofs.Common.{Err, ap, subst, ◌∙◌}
use Rattle.core_lint.specs.declared.answer.LintAnswer.{LintAnswer}
use Rattle.hy_core.specs.Faults.{IsLeastFault}
use Rattle.hy_core.specs.Numbered.{numbered_program}
use Rattle.hy_core.specs.declared.tree.Program.{Program}
use Rattle.hybrid_run.proofs.lint.linted_program.Goals as goal

pub returns-in-Err-Fault-clause-stops : goal.returns-in-Err-Fault-clause-stops
returns-in-Err-Fault-clause-stops c =
    let fault = c.in-Err-Fault.fault in
    record { least = subst (λ (p : Program). IsLeastFault p fault) c.in_ok-program.ensures (c.in-Err-Fault.ensures.least fault (ap (λ (a : LintAnswer). Err a) c.in-Err-Fault.field-0-is)) }

pub returns-in-Ok-clause-program : goal.returns-in-Ok-clause-program
returns-in-Ok-clause-program c = c.in-Ok.ensures.program ∙ ap numbered_program c.in_ok-program.ensures
