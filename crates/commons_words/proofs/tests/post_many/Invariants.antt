use Rattle.commons_words.specs.Trials.{IsReady}
use Rattle.commons_words.proofs.tests.post_many.Given as goal

abbrev pub invariant-loop : goal.invariant-loop
invariant-loop g l = g.C.Commons.is_pass l.link l.pass × IsReady (g.C.Commons.view l.link l.pass) l.pid (g.C.Commons.view l.fn.link l.fn.pass).born
