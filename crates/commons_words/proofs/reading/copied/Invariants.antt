use Rattle.std.proofs.Common.{◌-◌, ◌≤◌}
use Rattle.std.specs.Prelude.{vec_capacity}
use Rattle.std.specs.Mem.Slots.{slots_items}
use Rattle.commons_words.specs.Reading.{IsRowOf}
use Rattle.commons_words.proofs.reading.copied.Given as goal

abbrev pub invariant-loop-i : goal.invariant-loop-i
invariant-loop-i l = (l.i ≤ l.n) × (l.n ≤ vec_capacity l.words) × IsRowOf (slots_items l.closed.words) l.start l.i l.words.items

abbrev pub decreases-loop-i : goal.decreases-loop-i
decreases-loop-i l = l.n - l.i
