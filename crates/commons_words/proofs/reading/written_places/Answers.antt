use Rattle.std.proofs.Common.{◌≡◌, arith}
use Rattle.std.specs.Mem.Slots.{slots_items}
use Rattle.commons_words.proofs.Copies.{written_more, ends_at}
use Rattle.commons_words.proofs.reading.written_places.Goals as goal

pub loop-n-preserved : goal.loop-n-preserved
loop-n-preserved c =
    let i = c.loop-n.invariant in
    let less = c.loop-n-test.true in
    (omega arith, written_more (slots_items c.args.closed.now.words) c.loop-n.n c.word.result i.1 c.word.ensures c.if-word-ne0.true)

pub returns-else-word-ne0 : goal.returns-else-word-ne0
returns-else-word-ne0 c =
    let i = c.loop-n.invariant in
    let less = c.loop-n-test.true in
    let none_there : c.word.result ≡ 0 = c.if-word-ne0.false in
    record { within = i.0; written = i.1; ends = λ h. ends_at (slots_items c.args.closed.now.words) c.loop-n.n c.word.result c.word.ensures none_there }
