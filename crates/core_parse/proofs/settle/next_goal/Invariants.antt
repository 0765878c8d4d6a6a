use Rattle.std.proofs.Common.{◌≡◌, length}
use Rattle.core_parse.specs.code.Pushdown.{settled}
use Rattle.core_parse.proofs.settle.next_goal.Given as goal

abbrev pub invariant-loop-goal : goal.invariant-loop-goal
invariant-loop-goal l = settled l.state.goals l.state.values l.state.tables l.next ≡ settled l.fn.state.goals l.fn.state.values l.fn.state.tables l.next

abbrev pub decreases-loop-goal : goal.decreases-loop-goal
decreases-loop-goal l = length l.state.goals
