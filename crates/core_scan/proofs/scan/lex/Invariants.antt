use Rattle.std.proofs.Common.{◌≡◌, ◌++◌, drop}
use Rattle.core_scan.specs.code.Scan.{scan}
use Rattle.core_scan.specs.declared.state.State.TheVariants.{Gap}
use Rattle.core_scan.proofs.scan.lex.Given as goal

abbrev pub invariant-loop-i : goal.invariant-loop-i
invariant-loop-i l = (l.lexemes ++ (scan (drop l.i l.bytes) l.state).0, (scan (drop l.i l.bytes) l.state).1) ≡ scan l.bytes Gap
