-- The lifted program of an accepted one runs as the program does.
use Rattle.std.proofs.Common.{◌≡◌, ℕ, ◌<◌, ◌∷◌, length, Some, unwrap_or, sym, ap, ◌∙◌, subst}
use Rattle.hy_terms.specs.Term.{Term}
use Rattle.hy_core.specs.FullRun.{IsRun, main_of, names_of, trees_of}
use Rattle.hy_core.specs.KnownTrees.{TreesAreKnown}
use Rattle.hy_core.specs.Machine.{Process}
use Rattle.hy_core.specs.NameFaults.{modules_of}
use Rattle.hy_core.specs.Numbered.{numbered_program}
use Rattle.hy_core.specs.PreludeModules.{with_prelude}
use Rattle.hy_core.specs.SameProgram.{SameProgram}
use Rattle.hy_core.specs.Tables.{program_atoms}
use Rattle.hy_core.specs.declared.end.Cause.{Cause}
use Rattle.hy_core.specs.declared.tree.Program.{Program}
use Rattle.hy_core.proofs.SamePrograms.{runs_forth, runs_back}
use Rattle.core_accepted.specs.AcceptedPrograms.{HasItsMain}
use Rattle.core_accepted.proofs.KnownPrograms.{accepted_known}
use Rattle.core_accepted.proofs.ProgramMain.{has_its_main}
use Rattle.lifted_program.specs.AcceptedLifted.{AcceptedProgramsRun, IsLiftedRun, RunsAsLifted}
use Rattle.lifted_program.specs.LiftingLaws.{lifting_of}
use Rattle.lifted_program.proofs.Whole.{whole}

module _ (stopped : Process Term → Cause → Type 0) (program : Program)
    (begins : HasItsMain program) (known : TreesAreKnown (trees_of program)) where
  -- the function with which a run begins is one of the program's
  stands : (main : ℕ)
      → main_of (names_of program) (modules_of (numbered_program program)) ≡ Some main
      → main < length (trees_of program)
  stands main is =
      subst (λ n. n < length (trees_of program))
      (ap (λ o. unwrap_or o 0) (sym begins.is_main ∙ is)) begins.stands

  runs_as_lifted : RunsAsLifted stopped program
  runs_as_lifted limit captured exact calls steps ends output =
      let source = trees_of program in
      let atoms = program_atoms program in
      let same : SameProgram (λ f. f < length source) atoms calls source
      (lifting_of limit captured source) = whole limit source captured known exact atoms calls in (
        (λ (r : IsRun program calls stopped steps ends output). record {
          main = r.main;
          is_main = r.is_main;
          run = runs_forth (λ f. f < length source) atoms calls source
              (lifting_of limit captured source) same stopped r.main (stands r.main r.is_main)
              steps ends output r.run;
        }),
        (λ (r : IsLiftedRun program limit captured calls stopped steps ends output). record {
          main = r.main;
          is_main = r.is_main;
          run = runs_back (λ f. f < length source) atoms calls source
              (lifting_of limit captured source) same stopped r.main (stands r.main r.is_main)
              steps ends output r.run;
        }),
      )

pub accepted_programs_run : (stopped : Process Term → Cause → Type 0)
    → AcceptedProgramsRun stopped
accepted_programs_run stopped m modules accepted =
    runs_as_lifted stopped (with_prelude (m ∷ modules)) (has_its_main m modules accepted)
    (accepted_known (m ∷ modules) accepted)
