-- What is so of the list notations in what is read. Each law is the clause of a function in the
-- module `laws`.
use Rattle.std.specs.Prelude.{ℕ, List}
use Rattle.std.specs.List.{AllByRecursion}
use Rattle.hy_core.specs.FullRun.{trees_of}
use Rattle.hy_core.specs.PreludeModules.{with_prelude}
use Rattle.hy_core.specs.Reading.{IsModuleText}
use Rattle.hy_core.specs.Resolved.{FunctionTree}
use Rattle.hy_core.specs.declared.tree.Module.{Module}
use Rattle.lifted_numbers.specs.TreeNumbers.{HasHeads}
use Rattle.lifted_program.specs.LiftedProgram.{lifted_program}
use Rattle.lifted_program.specs.Renaming.{renamed_program}

-- no list notation of the functions is empty
abbrev pub FunctionsHaveHeads : List FunctionTree → Type 0
FunctionsHaveHeads = AllByRecursion (λ f. HasHeads f.body)

-- the modules are those of texts
abbrev pub AreOfTexts : List Module → Type 0
AreOfTexts = AllByRecursion (λ z. (text : List ℕ) × IsModuleText text z)

-- of a program that is read no list notation is empty, also where it is renamed
abbrev pub ReadHaveHeads : Type 0
ReadHaveHeads =
    (limit : ℕ) (given : List Module) → AreOfTexts given
    → FunctionsHaveHeads (renamed_program limit (trees_of (with_prelude given)))

-- and so of the lifted program of such a one
abbrev pub LiftedHaveHeads : Type 0
LiftedHaveHeads =
    (captured : ℕ → List ℕ) (program : List FunctionTree)
    → FunctionsHaveHeads program → FunctionsHaveHeads (lifted_program captured program)
