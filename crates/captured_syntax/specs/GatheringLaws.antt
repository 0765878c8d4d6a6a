-- What is so of the facts that are gathered of syntax. This project's own.
use Rattle.std.specs.Prelude.{◌≡◌, ◌↔◌, ℕ, suc, ◌+◌, List, length}
use Rattle.std.specs.List.{All, Contains, IsDistinct}
use Rattle.hy_core.specs.ProgramTrees.{function_trees}
use Rattle.hy_core.specs.Resolve.{Names}
use Rattle.hy_core.specs.Resolved.{FunctionTree}
use Rattle.hy_core.specs.Syntax.{DefinitionSyntax}
use Rattle.hy_core.specs.declared.tree.Module.{Module}
use Rattle.capture_flow.specs.Least.{IsHad, is_member}
use Rattle.capture_flow.specs.declared.fact.Fact.{Fact}
use Rattle.capture_flow.specs.declared.fact.Member.{Member}
use Rattle.lifted_program.specs.Captured.{AreCaptured}
use Rattle.lifted_syntax.specs.LiftedSyntax.{count}
use Rattle.lifted_syntax.specs.LiftingLaws.{modules_resolved}
use Rattle.lifted_syntax.specs.Whole.{IsWhole}
use Rattle.captured_facts.specs.Facts.{facts_of}
use Rattle.captured_syntax.specs.CapturedBy.{captured_by}
use Rattle.captured_syntax.specs.Counted.{counted_definition}
use Rattle.captured_syntax.specs.Gathered.{program_facts}

-- gathered of the modules of a program are the facts of its trees, with any numbers of sites, where
-- no form of these is refused
abbrev pub GatheredAreFacts : Type 0
GatheredAreFacts =
    (names : Names) (sites : List ℕ) (ms : List Module)
    → All (λ f. IsWhole f.body) (modules_resolved names ms)
    → program_facts ms
    ≡ facts_of (length (function_trees names sites ms)) (function_trees names sites ms)

-- the members that functions have by the facts of a program are what the functions capture
abbrev pub MembersAreCaptured : Type 0
MembersAreCaptured =
    (program : List FunctionTree) (fs : List Fact) (ms : List Member)
    → fs ≡ facts_of (length program) program
    → ((m : Member) → Contains ms m ↔ IsHad (Contains fs) m) → IsDistinct is_member ms
    → AreCaptured program (captured_by ms)

-- a function that is counted takes one number, and then those in it theirs
abbrev pub CountedAreAll : Type 0
CountedAreAll = (f : DefinitionSyntax) (n : ℕ) → counted_definition n f ≡ suc (n + count f.body)
