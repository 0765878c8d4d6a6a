-- How outcomes are written, and the arguments of a child: small programs.
use Rattle.std.specs.Prelude.{◌≡◌, ℕ, List, [], ◌∷◌, ◌++◌, codes}
use Rattle.hy_core.specs.declared.class.Class.TheVariants.{Exit}
use Rattle.hy_core.specs.declared.end.Cause.{Cause}
use Rattle.hy_core.specs.declared.end.Cause.TheVariants.{Calls, Heap, Area, Log, Memory}
use Rattle.hy_core.specs.declared.end.End.TheVariants.{Ended, Raised, Stopped}
use Rattle.hy_core.specs.Output.{outcome_line}
use Rattle.hy_core.specs.SmallPrograms.{atom, int, list, erlang, line, Writes}
use Rattle.hy_core.specs.Syntax.{Syntax}
use Rattle.hy_core.specs.Worked.{event}

abbrev pub exits : Syntax
exits = erlang (codes "exit") (int 1 ∷ [])

abbrev pub ExitOutcome : Type 0
ExitOutcome = Writes exits [] (Raised Exit (codes "1") ∷ []) (line (codes "0 raised exit 1"))

abbrev stopped : Cause → List ℕ
stopped cause = outcome_line 3 (Stopped cause)

pub record StopOutcomes : Type 0 where
  pub calls : (used limit : ℕ) → stopped (Calls used limit) ≡ line (codes "3 stopped calls")
  pub heap :
      (used asked limit : ℕ) → stopped (Heap used asked limit) ≡ line (codes "3 stopped heap")
  pub area :
      (old asked capacity : ℕ) → stopped (Area old asked capacity) ≡ line (codes "3 stopped area")
  pub log : (seen : ℕ) → stopped (Log seen) ≡ line (codes "3 stopped log")
  pub memory : stopped Memory ≡ line (codes "3 stopped memory")

-- erlang:spawn('m', 'child', [1, 2])
abbrev pub spawns : Syntax
spawns =
    erlang (codes "spawn")
    (atom (codes "m") ∷ atom (codes "child") ∷ list (int 1 ∷ int 2 ∷ []) ∷ [])

-- the child begins with the arguments that the spawn has, and prints them
abbrev pub ChildHasArguments : Type 0
ChildHasArguments =
    Writes spawns (event 0 0 ∷ event 1 1 ∷ [])
    (Ended (codes "<0.1.0>") ∷ Ended (codes "'true'") ∷ [])
    (line (codes "{1,2}") ++ line (codes "0 ended <0.1.0>") ++ line (codes "1 ended 'true'"))
