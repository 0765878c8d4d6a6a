use Rattle.hy_core.proofs.Accepting.{guard_holds, accepts_by_clause}
use Rattle.hy_core.proofs.laws.matching.clauses_hold_by_guards.Goals as goal

pub returns : goal.returns
returns c = record { guards = guard_holds; messages = accepts_by_clause }
