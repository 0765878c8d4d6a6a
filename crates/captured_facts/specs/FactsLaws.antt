-- What is so of the facts of programs. This project's own.
use Rattle.std.specs.Prelude.{◌≡◌, ◌↔◌, ℕ, List, length}
use Rattle.std.specs.List.{Contains}
use Rattle.hy_core.specs.Resolved.{Expression, FunctionTree}
use Rattle.hy_core.specs.Scopes.{Scope}
use Rattle.hy_core.specs.Supplied.{Supply, supplied}
use Rattle.capture_flow.specs.Least.{Has}
use Rattle.captured_facts.specs.Facts.{facts, facts_of}
use Rattle.captured_facts.specs.declared.owner.Owner.{Owner}
use Rattle.lifted_program.specs.Captured.{IsFree}
use Rattle.lifted_program.specs.LetrecNumbers.{Reach}

-- a variable is free in a function where the function has it by the facts of the program
abbrev pub FactsAreExact : Type 0
FactsAreExact =
    (program : List FunctionTree) (f x : ℕ)
    → IsFree program f x
    ↔ ((p : ℕ) × Has (Contains (facts_of (length program) program)) f x p)

-- numbers of events and sites are no matter
abbrev pub FactsAreOfBareTrees : Type 0
FactsAreOfBareTrees =
    (e : Expression) (numbers : Supply) (o : Owner) (scope : Scope) (reach : Reach) (n : ℕ)
    → facts o scope reach n (supplied e numbers) ≡ facts o scope reach n e
