-- Runs of a program on the copying machine: this project's own.
use Rattle.std.specs.Prelude.{◌≡◌, ℕ, suc, ◌==◌, ◌&&◌, if◌then◌else◌, List, [], ◌∷◌, codes, Option, Some, None}
use Rattle.std.specs.Str.{bytes_eq}
use Rattle.hy_terms.specs.Term.{Term}
use Rattle.hy_terms.specs.Naming.{one_on, text_of}
use Rattle.hy_terms.specs.TermText.{term_text}
use Rattle.hy_core.specs.declared.end.Cause.{Cause}
use Rattle.hy_core.specs.declared.end.End.{End}
use Rattle.hy_core.specs.declared.info.FunInfo.{FunInfo}
use Rattle.hy_core.specs.declared.info.SiteInfo.{SiteInfo}
use Rattle.hy_core.specs.declared.step.Step.{Step}
use Rattle.hy_core.specs.declared.tree.Module.{Module}
use Rattle.hy_core.specs.declared.tree.Program.{Program}
use Rattle.hy_core.specs.Computation.{Input}
use Rattle.hy_core.specs.Evaluation.{Evaluated, Wait, evaluated, body_of, Top, accepts}
use Rattle.hy_core.specs.Machine.{Behaviour, Process, Configuration, after_steps, start, IsFull}
use Rattle.hy_core.specs.NameFaults.{modules_of}
use Rattle.hy_core.specs.Numbered.{numbered_program, program_sites}
use Rattle.hy_core.specs.Output.{run_output}
use Rattle.hy_core.specs.ProgramTrees.{function_trees}
use Rattle.hy_core.specs.Resolve.{Names}
use Rattle.hy_core.specs.Resolved.{FunctionTree}
use Rattle.hy_core.specs.Tables.{program_atoms, program_functions}

-- the number of 'main'/0 of a module
abbrev pub main_number : (atoms : List (List ℕ)) → List FunInfo → (module_name : ℕ) → Option ℕ
main_number atoms [] m = None
main_number atoms (i ∷ is) m =
    if (i.module == m) && (bytes_eq (text_of atoms i.name.name) (codes "main")
    && (i.name.arity == 0)) then Some 0
    else one_on (main_number atoms is m)

-- no process is stopped
abbrev pub NeverStopped : Process Term → Cause → Type 0
NeverStopped p cause = ⊥

-- limit: the calls of each process
module _ (program : List FunctionTree) (atoms : List (List ℕ)) (limit : ℕ) where
  -- what a process does: its function's body under its arguments; the start call costs no call
  abbrev pub runs_of : (pid function : ℕ) → List Term → List (Input Term) → Evaluated
  runs_of pid function arguments inputs =
      evaluated program atoms pid limit (body_of program atoms pid (Top function) arguments) inputs

  -- how the processes of the program behave
  abbrev pub behaviour_of : Behaviour Term Wait
  behaviour_of = record {
    runs = runs_of;
    accepts = accepts atoms;
    timeout = λ wait. wait.timeout;
    text_of = term_text atoms;
  }

  -- the configuration after a run of the program
  abbrev pub after_run : (main : ℕ) → List Step → Option (Configuration Term)
  after_run main steps = after_steps behaviour_of steps (Some (start main))

  -- a full run of the program with these ends, and its output
  pub record IsFullRun (stopped : Process Term → Cause → Type 0) (main : ℕ) (steps : List Step)
      (ends : List End) (output : List ℕ) : Type 0 where
    pub full : IsFull behaviour_of stopped main steps ends
    pub writes : run_output full.last ends ≡ output

-- the first module's 'main'/0
abbrev pub main_of : Names → List Module → Option ℕ
main_of names [] = None
main_of names (m ∷ ms) = main_number names.atoms names.functions m.name

-- what the calls of a program name
abbrev pub names_of : Program → Names
names_of program = record { atoms = program_atoms program; functions = program_functions program }

abbrev pub numbers_from : ℕ → List SiteInfo → List ℕ
numbers_from n [] = []
numbers_from n (site ∷ sites) = n ∷ numbers_from (suc n) sites

-- the numbers of its sites, in order
abbrev pub sites_of : Program → List ℕ
sites_of program = numbers_from 0 (program_sites program)

-- its functions by their numbers
abbrev pub trees_of : Program → List FunctionTree
trees_of program =
    function_trees (names_of program) (sites_of program) (modules_of (numbered_program program))

-- A full run of the program from the first module's 'main'/0, with these ends and this output: its
-- atoms, functions and sites are its own.
pub record IsRun (program : Program) (limit : ℕ) (stopped : Process Term → Cause → Type 0)
    (steps : List Step) (ends : List End) (output : List ℕ) : Type 0 where
  pub main : ℕ
  pub is_main : main_of (names_of program) (modules_of (numbered_program program)) ≡ Some main
  pub run : IsFullRun (trees_of program) (program_atoms program) limit stopped main
      steps ends output
