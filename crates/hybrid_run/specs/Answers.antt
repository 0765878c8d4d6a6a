-- What the end of the program says of a command. This project's own.
use Rattle.std.specs.Prelude.{ℕ, List, [], ◌∷◌, Contains, Option, Some, None, Result, Err}
use Rattle.hy_core.specs.declared.tree.Module.{Module}
use Rattle.hybrid_run.specs.Headline.{Done, Cut, Faulty, Unbuilt, Sunk}
use Rattle.hybrid_run.specs.Loading.{Told, AreReadWhereTold, Sourced, RefusedText, UnreadText}
use Rattle.hybrid_run.specs.declared.command.Mode.{Mode}
use Rattle.hybrid_run.specs.declared.fault.TopFault.{TopFault}
use Rattle.hybrid_run.specs.declared.fault.TopFault.TheVariants as f
use Rattle.hybrid_run.specs.declared.top.Finish.{Finish}

-- There are modules, one for each file, each the tree of that file's text where that is told, and
-- this holds of them.
pub record OfModules (told : Told) (files : List (List ℕ)) (Holds : List Module → Type 0)
    : Type 0 where
  pub zs : List Module
  pub read : AreReadWhereTold told files zs
  pub so : Holds zs

-- what the status and the fault say of a command: this mode, for these files
abbrev pub Says : Mode → List (List ℕ) → Sourced → Sunk → (status : ℕ) → Option TopFault → Type 0
Says mode files sources sink status None =
    OfModules sources.told files (λ zs. Done mode zs sink status)
Says mode files sources sink status (Some f.Write) =
    OfModules sources.told files (λ zs. Cut mode zs sink)
Says mode files sources sink status (Some (f.Lint fault)) =
    OfModules sources.told files (λ zs. Faulty zs fault)
Says mode files sources sink status (Some f.NotBuilt) =
    OfModules sources.told files (λ zs. Unbuilt mode zs)
Says mode files sources sink status (Some (f.Refused file refused)) =
    RefusedText sources files file refused.kind refused.place
Says mode files sources sink status (Some (f.Read file)) = UnreadText sources files file
Says mode files sources sink status (Some f.Memory) = Unit {0}
Says mode files sources sink status (Some f.Usage) = ⊥

-- what the end of the program says of a command
abbrev pub Answers : Mode → List (List ℕ) → Sourced → Sunk → Finish → Type 0
Answers mode files sources sink finish = Says mode files sources sink finish.status finish.refused

-- usage, or want of memory
abbrev pub IsUsageAnswer : Result ℕ TopFault → Type 0
IsUsageAnswer (Err f.Usage) = Unit {0}
IsUsageAnswer (Err f.Memory) = Unit {0}
IsUsageAnswer _ = ⊥

-- usage, a text without a run and a read fault, with which nothing is written
abbrev pub IsSilentStatus : ℕ → Type 0
IsSilentStatus status = Contains (2 ∷ 3 ∷ 6 ∷ []) status
