-- The kinds of faults one after another.
use Rattle.std.specs.Prelude.{ℕ, ◌<◌}
use Rattle.hy_core.specs.Faults.{IsFault}
use Rattle.hy_core.specs.declared.fault.LintFault.{LintFault}
use Rattle.hy_core.specs.declared.tree.Program.{Program}

-- no fault holds of a kind below this one
abbrev pub HasNoneBelow : Program → (kind : ℕ) → Type 0
HasNoneBelow program kind = (fault : LintFault) → IsFault program fault → fault.kind < kind → ⊥
