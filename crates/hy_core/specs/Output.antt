-- What a run writes: this project's own texts.
use Rattle.std.specs.Prelude.{ℕ, List, [], ◌∷◌, ◌++◌, map, codes}
use Rattle.std.specs.Fmt.{decimal}
use Rattle.hy_core.specs.declared.class.Class.{Class}
use Rattle.hy_core.specs.declared.class.Class.TheVariants.{Error, Exit, Throw}
use Rattle.hy_core.specs.declared.end.Cause.{Cause}
use Rattle.hy_core.specs.declared.end.Cause.TheVariants.{Calls, Heap, Area, Log, Memory}
use Rattle.hy_core.specs.declared.end.End.{End}
use Rattle.hy_core.specs.declared.end.End.TheVariants.{Ended, Raised, Waits, Stopped}
use Rattle.hy_core.specs.Machine.{Configuration}

abbrev pub class_text : Class → List ℕ
class_text Error = codes "error"
class_text Exit = codes "exit"
class_text Throw = codes "throw"

abbrev pub cause_text : Cause → List ℕ
cause_text (Calls used limit) = codes "calls"
cause_text (Heap used asked limit) = codes "heap"
cause_text (Area old asked capacity) = codes "area"
cause_text (Log seen) = codes "log"
cause_text Memory = codes "memory"

abbrev pub end_text : End → List ℕ
end_text (Ended text) = codes "ended " ++ text
end_text (Raised class text) = codes "raised " ++ class_text class ++ codes " " ++ text
end_text Waits = codes "waits"
end_text (Stopped cause) = codes "stopped " ++ cause_text cause

-- the outcome line of a process
abbrev pub outcome_line : (pid : ℕ) → End → List ℕ
outcome_line pid end = decimal pid ++ codes " " ++ end_text end ++ 10 ∷ []

-- one outcome line for each pid
abbrev pub outcome_lines : (pids : List ℕ) → List End → List ℕ
outcome_lines [] ends = []
outcome_lines (pid ∷ pids) [] = []
outcome_lines (pid ∷ pids) (end ∷ ends) = outcome_line pid end ++ outcome_lines pids ends

-- the output of a run that is full with these ends
abbrev pub run_output : {V : Type 0} → Configuration V → List End → List ℕ
run_output last ends = last.output ++ outcome_lines (map (λ p. p.pid) last.processes) ends
