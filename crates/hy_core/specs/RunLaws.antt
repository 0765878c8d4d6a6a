-- Full runs are the last of their kind; what is no run, and what is no full run, by small programs.
use Rattle.std.specs.Prelude.{◌≡◌, ℕ, List, [], ◌∷◌, ◌++◌, codes, Option, None}
use Rattle.hy_terms.specs.Term.{Term}
use Rattle.hy_core.specs.declared.end.End.{End}
use Rattle.hy_core.specs.declared.end.End.TheVariants.{Ended, Waits}
use Rattle.hy_core.specs.declared.step.Step.{Step}
use Rattle.hy_core.specs.declared.tree.Program.{Program}
use Rattle.hy_core.specs.FullRun.{NeverStopped, IsFullRun, IsRun, after_run}
use Rattle.hy_core.specs.Machine.{Configuration}
use Rattle.hy_core.specs.ProgramTrees.{function_trees}
use Rattle.hy_core.specs.Resolved.{FunctionTree, AnyTerm, NoPatterns, MorePatterns}
use Rattle.hy_core.specs.SmallPrograms.{texts, names, modules, atom, int, erlang, Writes}
use Rattle.hy_core.specs.Syntax as syntax
use Rattle.hy_core.specs.Syntax.{Syntax, module_trees}
use Rattle.hy_core.specs.Worked.{limit, event, took, lapsed}
use Rattle.hy_core.specs.WorkedOutcomes.{spawns}

module _ (program : List FunctionTree) (atoms : List (List ℕ)) (calls main : ℕ) where
  -- a full run in which no process is stopped
  abbrev Full : List Step → List End → List ℕ → Type 0
  Full = IsFullRun program atoms calls NeverStopped main

  pub record FullRunsAreLast : Type 0 where
    -- it allows no further step
    pub no_step :
        (steps : List Step) (ends : List End) (output : List ℕ) → Full steps ends output →
        (s : Step) → after_run program atoms calls main (steps ++ s ∷ []) ≡ None
    -- its steps determine the ends and what is written
    pub one_end :
        (steps : List Step) (ends others : List End) (output other : List ℕ) →
        Full steps ends output → Full steps others other → (ends ≡ others) × (output ≡ other)

-- the steps of a run of a program determine the ends and what is written
abbrev pub ProgramsEndOnce : Type 0
ProgramsEndOnce =
    (program : Program) (limit : ℕ) (steps : List Step) (ends others : List End)
    (output other : List ℕ) →
    IsRun program limit NeverStopped steps ends output → IsRun program limit NeverStopped
    steps others other →
    (ends ≡ others) × (output ≡ other)

-- what is no run

abbrev pub after : Syntax → List Step → Option (Configuration Term)
after body steps =
    after_run (function_trees names [] (module_trees (modules body))) texts limit 0 steps

-- do erlang:send(erlang:self(), 1) S
abbrev sends_to_itself : Syntax → Syntax
sends_to_itself s = syntax.Do (erlang (codes "send") (erlang (codes "self") [] ∷ int 1 ∷ [])) s

-- receive <X> -> X after T -> 'false'
abbrev receive_any : Syntax → Syntax
receive_any timeout =
    let any = syntax.MoreClauses (MorePatterns (AnyTerm 0) NoPatterns) (atom (codes "true")) in
    syntax.Receive (any (syntax.Var 0) syntax.NoClauses) timeout (atom (codes "false"))

abbrev pub waits : Syntax
waits = receive_any (atom (codes "infinity"))

abbrev pub sends_and_waits : Syntax
sends_and_waits = sends_to_itself waits

abbrev pub sends_twice : Syntax
sends_twice = sends_to_itself sends_and_waits

abbrev pub waits_twice : Syntax
waits_twice = sends_to_itself (syntax.Do waits waits)

-- receive after 0 -> 'a'
abbrev pub polls : Syntax
polls = syntax.Receive syntax.NoClauses (int 0) (atom (codes "a"))

abbrev pub sends_and_polls : Syntax
sends_and_polls = sends_to_itself polls

pub record AreNotAllowed : Type 0 where
  pub event_at_later_place : after sends_twice (event 0 1 ∷ []) ≡ None
  pub take_before_all_events : after sends_twice (event 0 0 ∷ took 0 0 ∷ []) ≡ None
  pub lapse_before_all_events : after sends_and_polls (lapsed 0 0 ∷ []) ≡ None
  pub lapse_with_other_length : after sends_and_polls (event 0 0 ∷ lapsed 0 0 ∷ []) ≡ None
  pub taken_twice : after waits_twice (event 0 0 ∷ took 0 0 ∷ took 0 0 ∷ []) ≡ None
  pub lapse_at_infinity : after waits (lapsed 0 0 ∷ []) ≡ None

-- what is no full run, whatever is written

abbrev NoEnd : Syntax → List Step → List End → Type 0
NoEnd body steps ends = (output : List ℕ) → Writes body steps ends output → ⊥

-- do erlang:display(1) 'a'
abbrev pub displays : Syntax
displays = syntax.Do (erlang (codes "display") (int 1 ∷ [])) (atom (codes "a"))

pub record AreNotFull : Type 0 where
  pub event_left : NoEnd displays [] (Ended (codes "'a'") ∷ [])
  pub other_text : NoEnd (atom (codes "a")) [] (Ended (codes "'b'") ∷ [])
  pub timeout_left : NoEnd polls [] (Waits ∷ [])
  pub message_left : NoEnd sends_and_waits (event 0 0 ∷ []) (Waits ∷ [])
  pub process_left : NoEnd spawns (event 0 0 ∷ event 1 1 ∷ []) (Ended (codes "<0.1.0>") ∷ [])
