use Rattle.std.proofs.Common.{◌≡◌, ◌<◌}
use Rattle.commons.specs.Changes.{KeepsOthers, PutsWords}
use Rattle.commons.proofs.Rowed.{HasFirst}
use Rattle.commons.proofs.entries.put_words.Given as goal

-- the first k words were put
abbrev pub invariant-loop-k : goal.invariant-loop-k
invariant-loop-k g l = record {
  later : g.C.Commons.later l.fn.c l.c;
  others : KeepsOthers g.C.Commons.is_pass g.C.Commons.apart g.C.Commons.view l.fn.c l.fn.pass l.c l.pass;
  puts : PutsWords (g.C.Commons.view l.fn.c l.fn.pass) l.k (g.C.Commons.view l.c l.pass);
  start : 0 < l.k → l.start ≡ (g.C.Commons.view l.fn.c l.fn.pass).block_start;
  words : HasFirst (g.C.Commons.view l.c l.pass).seen (g.C.Commons.view l.fn.c l.fn.pass).block_start l.words l.k;
}
