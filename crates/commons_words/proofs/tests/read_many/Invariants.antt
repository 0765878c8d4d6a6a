use Rattle.std.proofs.Common.{◌≡◌}
use Rattle.commons_words.proofs.tests.read_many.Given as goal

abbrev pub invariant-loop : goal.invariant-loop
invariant-loop g l = g.C.Commons.is_pass l.link l.pass × ((g.C.Commons.view l.link l.pass).unborn ≡ (g.C.Commons.view l.fn.link l.fn.pass).unborn)
