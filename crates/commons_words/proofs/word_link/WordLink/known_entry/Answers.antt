use Rattle.std.proofs.Common.{◌+◌, refl, arith}
use Rattle.commons_words.proofs.Logs.{entry_allowed}
use Rattle.commons_words.proofs.Passing.{process_at}
use Rattle.commons_words.proofs.word_link.WordLink.known_entry.Goals as goal

pub load-requires : goal.load-requires
load-requires c =
    let h = c.requires.pass in
    let link = c.args.self.now in
    let sized = link.sized in
    let known = h.known in
    let short = h.sound.short in
    let place = c.requires.place in
    let me = c.args.pass.now.seat.me in (
      h.table,
      omega arith,
      entry_allowed link.table.now.key.area link.table.now.key.log link.table.now.table_id.slots c.args.pass.now.seat.id c.args.place (1 + c.args.place) me refl (process_at link.area link.log link.table.now.key.area link.table.now.key.log me.0 sized.0 sized.1 h.process) c.requires.place,
    )
