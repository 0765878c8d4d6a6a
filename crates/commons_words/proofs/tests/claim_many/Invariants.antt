use Rattle.std.proofs.Common.{◌≡◌}
use Rattle.std.specs.Prelude.{None}
use Rattle.commons_words.proofs.tests.claim_many.Given as goal

abbrev pub invariant-loop-granted : goal.invariant-loop-granted
invariant-loop-granted g l = g.C.Commons.is_pass l.link l.pass × ((g.C.Commons.view l.link l.pass).refused ≡ None)
