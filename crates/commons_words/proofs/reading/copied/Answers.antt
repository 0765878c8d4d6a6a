use Rattle.std.proofs.Common.{◌+◌, List, ℕ, sym, subst, arith}
use Rattle.std.specs.Mem.Slots.{slots_items}
use Rattle.commons_words.specs.Reading.{IsRowOf}
use Rattle.commons_words.proofs.Copies.{row_more}
use Rattle.commons_words.proofs.reading.copied.Goals as goal

pub loop-i-preserved : goal.loop-i-preserved
loop-i-preserved c =
    let i = c.loop-i.invariant in
    let less = c.loop-i-test.true in
    let kept = c.push_reserved.ensures.capacity in
    let room = i.1 in
    let ws = slots_items c.args.closed.now.words in (
      omega arith,
      omega arith,
      subst (λ (row : List ℕ). IsRowOf ws c.args.start (c.loop-i.i + 1) row) (sym c.push_reserved.ensures.items) (row_more ws c.args.start c.loop-i.i c.word.result c.loop-i.words.items i.2 c.word.ensures),
    )
