use Rattle.std.proofs.Common.{◌≡◌, drop}
use Rattle.hy_core.specs.Reading.{tokens_in}
use Rattle.core_parse.specs.code.Pushdown.{run, start}
use Rattle.core_parse.proofs.run.read_tokens.Given as goal

abbrev pub invariant-loop-index : goal.invariant-loop-index
invariant-loop-index l = run l.index (drop l.index (tokens_in l.lexemes)) l.state ≡ run 0 (tokens_in l.lexemes) start
