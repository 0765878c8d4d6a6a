-- Of the trees of an accepted program all is known, and their sites are the program's.
use Rattle.std.proofs.Common.{List, ◌⊎◌, inl, inr}
use Rattle.std.proofs.lemmas.List.Elements.{Contains-append_cases}
use Rattle.std.specs.List.{Contains}
use Rattle.hy_core.specs.Faults.{IsAccepted}
use Rattle.hy_core.specs.NameFaults.{modules_of}
use Rattle.hy_core.specs.PreludeModules.{prelude_modules, with_prelude}
use Rattle.hy_core.specs.declared.tree.Module.{Module}
use Rattle.core_accepted.specs.AcceptedPrograms.{HasItsSites, HasKnownTrees, OfAccepted}
use Rattle.core_accepted.proofs.AcceptedModules.{given_fine}
use Rattle.core_accepted.proofs.Membership.{in_any}
use Rattle.core_accepted.proofs.PreludeFine.{prelude_fine}
use Rattle.core_accepted.proofs.ProgramKnown.{IsFineModule, trees_known}
use Rattle.core_accepted.proofs.ProgramSites.{sites_are}

pub module_fine : (modules : List Module) → IsAccepted (with_prelude modules) → (m : Module) → Contains (modules_of (with_prelude modules)) m → IsFineModule (with_prelude modules) m
module_fine modules accepted m h = by (Contains-append_cases modules prelude_modules m h)
  where
    by : Contains modules m ⊎ Contains prelude_modules m → IsFineModule (with_prelude modules) m
    by (inl given) = given_fine (with_prelude modules) accepted m (in_any modules m given)
    by (inr prelude) = prelude_fine modules m (in_any prelude_modules m prelude)

pub accepted_known : OfAccepted HasKnownTrees
accepted_known modules accepted = trees_known (with_prelude modules) (module_fine modules accepted)

pub accepted_sites : OfAccepted HasItsSites
accepted_sites modules accepted = sites_are (with_prelude modules) (module_fine modules accepted)
