-- What is so of the functions in which sites stand. Each law is the clause of a function in the
-- module `laws`.
use Rattle.std.specs.Prelude.{◌≡◌, ℕ, suc, List, [], ◌∷◌, map}
use Rattle.core_accepted.specs.AcceptedPrograms.{OfAccepted}
use Rattle.core_accepted.specs.TreeSites.{kinds_from, program_tree_sites}
use Rattle.hy_core.specs.FullRun.{trees_of}
use Rattle.hy_core.specs.KnownTrees.{TreesAreKnown}
use Rattle.hy_core.specs.Numbered.{program_sites}
use Rattle.hy_core.specs.Resolved.{FunctionTree}
use Rattle.hy_core.specs.declared.info.SiteInfo.{SiteInfo}
use Rattle.hy_core.specs.declared.tree.Program.{Program}
use Rattle.lifted_numbers.specs.TreeNumbers.{numbers}
use Rattle.lifted_program.specs.LiftedProgram.{lifted_program}
use Rattle.lifted_program.specs.Renaming.{renamed_program}
use Rattle.number_owners.specs.SiteOwners.{program_owners}
use Rattle.lifted_syntax.specs.LiftedFunctions.{own_sites}

-- the entries of a table of sites are those of the trees, each with its number, its kind and the
-- function in which it stands
pub record AreSitesOf (sites : List SiteInfo) (program : List FunctionTree) : Type 0 where
  pub kinds : program_tree_sites program ≡ kinds_from 0 sites
  pub functions : program_owners program ≡ map (λ s. s.function) sites

-- the table of an accepted program has the sites of its trees, also where these are renamed
abbrev pub HasSitesOfRenamed : Program → Type 0
HasSitesOfRenamed program =
    (limit : ℕ) → AreSitesOf (program_sites program) (renamed_program limit (trees_of program))

abbrev pub AcceptedProgramsHaveOwners : Type 0
AcceptedProgramsHaveOwners = OfAccepted HasSitesOfRenamed

-- the entries that name a function are the sites of its tree; the first tree has the number k
abbrev pub HaveOwnSites : List SiteInfo → (k : ℕ) → List FunctionTree → Type 0
HaveOwnSites sites k [] = Unit {0}
HaveOwnSites sites k (t ∷ ts) =
    (own_sites k 0 sites ≡ (numbers t.body).sites) × HaveOwnSites sites (suc k) ts

-- which holds of the functions of a lifted program
abbrev pub LiftedHaveOwnSites : Type 0
LiftedHaveOwnSites =
    (captured : ℕ → List ℕ) (program : List FunctionTree) (sites : List SiteInfo)
    → TreesAreKnown program → AreSitesOf sites program
    → HaveOwnSites sites 0 (lifted_program captured program)
