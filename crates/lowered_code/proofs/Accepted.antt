-- The code that lowering makes of an accepted program is a code of it.
use Rattle.std.proofs.Common.{◌≡◌, ℕ, List, [], ◌∷◌, Some, refl, sym, ◌∙◌, subst}
use Rattle.std.specs.List.{All}
use Rattle.std.proofs.lemmas.List.Elements.{All-nil, All-cons}
use Rattle.core_accepted.specs.AcceptedPrograms.{HasItsSites}
use Rattle.core_accepted.specs.TreeSites.{Site, program_tree_sites}
use Rattle.core_accepted.proofs.KnownPrograms.{accepted_known, accepted_sites}
use Rattle.hy_core.specs.declared.info.SiteInfo.{SiteInfo}
use Rattle.hy_core.specs.FullRun.{trees_of}
use Rattle.hy_core.specs.KnownTrees.{TreesAreKnown}
use Rattle.hy_core.specs.Numbered.{program_sites}
use Rattle.hy_core.specs.PreludeModules.{with_prelude}
use Rattle.hy_core.specs.declared.tree.Program.{Program}
use Rattle.hy_ir.specs.Meaning.{kind_at}
use Rattle.lifted_program.specs.Captured.{AreCaptured}
use Rattle.lifted_program.specs.LiftingLaws.{lifting_of}
use Rattle.lifted_program.specs.Renaming.{renamed_program}
use Rattle.lifted_program.proofs.LiftedFlat.{lifted_flat}
use Rattle.lifted_program.proofs.Whole.{whole_known}
use Rattle.program_code.specs.ProgramCode.{IsCodeOfProgram}
use Rattle.program_code.proofs.Means.{program_means}
use Rattle.lowered_code.specs.AcceptedLowering.{code_of_program, IsLowered}
use Rattle.lowered_code.specs.AcceptedLowering.{AcceptedProgramsAreLowered}
use Rattle.lowered_code.specs.LoweringLaws.{IsLowerable}
use Rattle.lowered_code.proofs.Functions.{lowered_are}
use Rattle.lowered_code.proofs.LiftedSites.{own_sites, lifted_stand}
use Rattle.lowered_code.proofs.Pieces.{AreSites}
use Rattle.lowered_code.proofs.RenamedSites.{renamed_sites}

all_sites_stand : (sites : List SiteInfo) (ss : List Site) → AreSites sites ss
    → All (λ (s : Site). kind_at sites s.0 ≡ Some s.1) ss
all_sites_stand sites [] h = All-nil (λ (s : Site). kind_at sites s.0 ≡ Some s.1)
all_sites_stand sites (s ∷ ss) h =
    All-cons (λ (q : Site). kind_at sites q.0 ≡ Some q.1) s ss h.0 (all_sites_stand sites ss h.1)

module _ (program : Program) (known : TreesAreKnown (trees_of program))
    (own : HasItsSites program) (limit : ℕ) (captured : ℕ → List ℕ)
    (exact : AreCaptured (renamed_program limit (trees_of program)) captured) where
  lowerable : IsLowerable (program_sites program) (lifting_of limit captured (trees_of program))
  lowerable =
      let sites = program_sites program in
      let source = trees_of program in
      let lifted = lifting_of limit captured source in
      let stand = subst (AreSites sites) (sym (renamed_sites limit source ∙ own))
      (own_sites sites) in record {
        known = whole_known limit source captured known exact;
        flat = lifted_flat captured (renamed_program limit source);
        stand = all_sites_stand sites (program_tree_sites lifted)
            (lifted_stand sites captured (renamed_program limit source) stand);
      }

  is_code : IsCodeOfProgram program (code_of_program program limit captured)
  is_code = record {
    limit = limit;
    captured = captured;
    free = exact;
    functions = lowered_are (program_sites program)
        (lifting_of limit captured (trees_of program)) lowerable;
    sites = refl;
    names = refl;
    atoms = refl;
  }

  is_lowered : IsLowered program limit captured
  is_lowered = record {
    lowerable = lowerable;
    code = is_code;
    means = λ f below. program_means program (code_of_program program limit captured) known is_code
        f below;
  }

pub accepted_lowered : AcceptedProgramsAreLowered
accepted_lowered modules accepted limit captured exact =
    is_lowered (with_prelude modules) (accepted_known modules accepted)
    (accepted_sites modules accepted) limit captured exact
