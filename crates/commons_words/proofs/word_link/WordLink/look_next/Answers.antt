use Rattle.std.proofs.Common.{◌+◌, arith}
use Rattle.commons_words.proofs.Logs.{look_allowed, full_allowed}
use Rattle.commons_words.proofs.Passing.{process_at, sound_for}
use Rattle.commons_words.proofs.word_link.WordLink.look_next.Goals as goal

pub load-requires : goal.load-requires
load-requires c =
    let h = c.requires.pass in
    let link = c.args.self.now in
    let sized = link.sized in
    let me = c.args.pass.now.seat.me in (
      h.table,
      omega arith,
      full_allowed link.table.now.key.area link.table.now.key.log link.table.now.table_id.slots c.args.pass.now.seat.id me (process_at link.area link.log link.table.now.key.area link.table.now.key.log me.0 sized.0 sized.1 h.process)
          (sound_for link.area link.log link.table.now.key.area link.table.now.key.log me.0.view sized.0 sized.1 h.sound),
    )

pub load-found-requires : goal.load-found-requires
load-found-requires c =
    let h = c.requires.pass in
    let link = c.args.self.now in
    let sized = link.sized in
    let known = h.known in
    let me = c.args.pass.now.seat.me in (
      h.table,
      omega arith,
      look_allowed link.table.now.key.area link.table.now.key.log link.table.now.table_id.slots c.args.pass.now.seat.id (1 + c.args.pass.now.known) me (omega arith) (process_at link.area link.log link.table.now.key.area link.table.now.key.log me.0 sized.0 sized.1 h.process)
          (sound_for link.area link.log link.table.now.key.area link.table.now.key.log me.0.view sized.0 sized.1 h.sound) (omega arith),
    )
