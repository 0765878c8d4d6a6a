-- The check for names of modules that repeat.
use Rattle.std.specs.Prelude.{ℕ, suc, ◌||◌, Bool, false, List, [], ◌∷◌, take, Option, Some, None, if◌then◌else◌}
use Rattle.std.specs.Str.{bytes_eq}
use Rattle.hy_core.specs.Faults.{fault}
use Rattle.hy_core.specs.NameFaults.{module_name}
use Rattle.hy_core.specs.declared.fault.LintFault.{LintFault}
use Rattle.hy_core.specs.declared.tree.Module.{Module}
use Rattle.hy_core.specs.declared.tree.Program.{Program}

-- one of the modules has this name
abbrev pub is_named : List Module → List ℕ → Bool
is_named [] text = false
is_named (m ∷ ms) text = bytes_eq (module_name m) text || is_named ms text

-- the name of the module at place i stands earlier, or in the prelude
abbrev pub repeats_name : Program → (i : ℕ) → Module → Bool
repeats_name program i m =
    is_named program.prelude (module_name m) || is_named (take i program.given) (module_name m)

-- the first module of which that is so, from place i on
abbrev pub first_repeated : Program → (i : ℕ) → List Module → Option LintFault
first_repeated program i [] = None
first_repeated program i (m ∷ ms) =
    if repeats_name program i m then Some (fault 1 i 0 0) else first_repeated program (suc i) ms
