use Rattle.std.proofs.Common.{arith}
use Rattle.commons_words.proofs.Claims.{claim_allowed}
use Rattle.commons_words.proofs.Passing.{process_at, sound_for}
use Rattle.commons_words.proofs.word_link.WordLink.claim_words.Goals as goal

pub fetch_add-old-requires : goal.fetch_add-old-requires
fetch_add-old-requires c =
    let h = c.requires.pass in
    let link = c.args.self.now in
    let sized = link.sized in
    let bounds = c.requires.bounds in
    let me = c.args.pass.now.seat.me in (
      h.table,
      omega arith,
      claim_allowed link.table.now.key.area link.table.now.key.log link.table.now.table_id.slots c.args.pass.now.seat.id c.args.n me (process_at link.area link.log link.table.now.key.area link.table.now.key.log me.0 sized.0 sized.1 h.process)
          (sound_for link.area link.log link.table.now.key.area link.table.now.key.log me.0.view sized.0 sized.1 h.sound) c.requires.first (omega arith),
    )
