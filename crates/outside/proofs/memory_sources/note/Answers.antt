use Rattle.std.proofs.Common.{◌≡◌, ℕ, arith, cond}
use Rattle.std.specs.Str.{bytes_eq}
use Rattle.std.specs.String.{string_bytes}
use Rattle.outside.proofs.Counts.{times_push, same_bytes}
use Rattle.outside.proofs.memory_sources.note.Goals as goal

pub returns-clause-rises : goal.returns-clause-rises
returns-clause-rises c =
    let name = c.args.name.now in
    let once : ◌≡◌ {A = ℕ} (cond (bytes_eq (string_bytes c.in_ok-note.note) name) 1 0) 1 = rw (c.in_ok-note.ensures.ok, same_bytes name) in
    rw c.in_ok-push.ensures.items (omega (arith, times_push name c.args.failed.now.items c.in_ok-note.note, once))
