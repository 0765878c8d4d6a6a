use Rattle.std.proofs.Common.{◌∙◌, ap}
use Rattle.captured_syntax.specs.CapturedBy.{captured_by}
use Rattle.lifted_functions.specs.Texts.{names_with}
use Rattle.lifted_functions.proofs.ProgramByTables.{program-is}
use Rattle.lifted_functions.proofs.program.lift_functions.Goals as goal

pub returns : goal.returns
returns c = record {
  lifted = λ atoms.
      let tables = c.in_ok-tables.ensures in
      program-is (names_with atoms c.args.functions.now) (captured_by c.args.members.now.keys)
      c.in_ok-tables.tables tables.functions
      (λ f. tables.captured f ∙ ap (λ l. captured_by l f) c.as_slice.ensures.keys)
      c.args.modules.now c.first-first.result _ tables.counts c.first-first.ensures
      c.new.ensures c.in_ok-lift_modules.ensures c.in_ok-extract_modules.ensures;
}
