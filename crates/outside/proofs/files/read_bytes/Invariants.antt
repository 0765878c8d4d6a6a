use Rattle.std.proofs.Common.{◌≡◌, ◌≤◌, vec_len}
use Rattle.outside.specs.Outside.{read_limit}
use Rattle.outside.proofs.files.read_bytes.Given as goal

-- the text so far is within the limit, and the piece keeps its length
abbrev pub invariant-loop : goal.invariant-loop
invariant-loop g l = (vec_len l.text ≤ read_limit) × (vec_len l.piece ≡ 65536)
