use Rattle.std.proofs.Common.{◌≢◌, ℕ, ◌+◌, ◌-◌, ◌<◌, ◌≤◌}
use Rattle.std.specs.Prelude.{slice_index}
use Rattle.std.specs.Mem.Slots.{slots_items}
use Rattle.commons_words.proofs.reading.written_places.Given as goal

abbrev pub invariant-loop-n : goal.invariant-loop-n
invariant-loop-n l = (l.n ≤ l.places) × ((k : ℕ) → k < l.n → slice_index (slots_items l.closed.words) (1 + k) ≢ 0)

abbrev pub decreases-loop-n : goal.decreases-loop-n
decreases-loop-n l = l.places - l.n
