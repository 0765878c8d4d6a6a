use Rattle.std.proofs.Common.{◌≡◌, map, ◌++◌}
use Rattle.commons_words.specs.Passes.{view_of, HasGathered}
use Rattle.commons_words.proofs.word_commons.WordCommons.gather_all.Given as goal

abbrev pub invariant-loop-pass : goal.invariant-loop-pass
invariant-loop-pass l =
    (goal.iterator-loop-pass).can_next l.pass-iterator ×
    (goal.iterator-loop-pass).is_finite l.pass-iterator ×
    (l.base.table_id ≡ l.self.table.shared.table_id) ×
    HasGathered (view_of l.fn.first) (map view_of l.yielded) l.base.me ×
    (l.yielded ++ l.pass-iterator.rest.items ≡ l.fn.rest.items)
