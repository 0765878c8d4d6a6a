use Rattle.std.proofs.Common.{◌≡◌, ℕ, ◌++◌, drop}
use Rattle.captured_syntax.specs.CapturedBy.{captured_by}
use Rattle.lifted_functions.specs.code.CapturedLists.{captured_at}
use Rattle.lifted_functions.proofs.captured_lists.captured_lists.Given as goal

abbrev pub invariant-loop-member : goal.invariant-loop-member
invariant-loop-member l =
    (f : ℕ) → captured_at l.lists f ++ captured_by (drop l.member-index l.members) f
    ≡ captured_by l.members f
