use Rattle.std.proofs.Common.{◌-◌, ◌≡◌}
use Rattle.commons_words.specs.Passes.{IsPassOf, view_of}
use Rattle.commons_words.specs.Held.{HasLost}
use Rattle.commons_words.proofs.link_calls.WordLinkCommons.append.Given as goal

abbrev pub invariant-loop-pass : goal.invariant-loop-pass
invariant-loop-pass l = (l.self ≡ l.initial.self) × IsPassOf l.self l.pass × HasLost (view_of l.initial.pass) (view_of l.pass)

abbrev pub decreases-loop-pass : goal.decreases-loop-pass
decreases-loop-pass l = l.self.log - l.pass.known
