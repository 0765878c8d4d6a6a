use Rattle.std.proofs.Common.{subst, sym, true≢false, ◌∙◌}
use Rattle.hybrid_run.specs.Headline.{IsBuiltFor}
use Rattle.hybrid_run.specs.declared.command.Mode.TheVariants.{Run}
use Rattle.hybrid_run.proofs.Written.{keeps_same}
use Rattle.hybrid_run.proofs.run.run_modules.Goals as goal

pub returns-then-built-clause-says : goal.returns-then-built-clause-says
returns-then-built-clause-says g c =
    c.run_program.ensures.says c.args.modules.items
    (record {
      numbered = c.in_ok-linted.ensures.program;
      accepted = c.in_ok-linted.ensures.accepted;
      built = subst (IsBuiltFor Run) c.as_slice.ensures.value (c.is_built-built.ensures.0 c.if-built.true);
    })

pub returns-clause-says : goal.returns-clause-says
returns-clause-says g c = record {
  accepted = c.in_ok-linted.ensures.accepted;
  not_built = λ built.
      true≢false (sym (c.is_built-built.ensures.1 (subst (IsBuiltFor Run) (sym c.as_slice.ensures.value) built)) ∙ c.if-built.false);
}

pub returns-clause-kept : goal.returns-clause-kept
returns-clause-kept g c = keeps_same (g.K.Sink.written c.args.sink.now)
