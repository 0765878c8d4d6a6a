use Rattle.std.proofs.Common.{◌≡◌, ◌+◌, ◌<◌, ◌∙◌, ℕ, sym, ap, subst, arith, length}
use Rattle.std.specs.Prelude.{slice_index}
use Rattle.commons.specs.declared.view.View.{View}
use Rattle.commons.specs.Views.{MayPut}
use Rattle.commons.specs.Changes.{PutsWords}
use Rattle.commons.proofs.Grows.{put_not_zero}
use Rattle.commons.proofs.Later.{may_put_later, puts_more}
use Rattle.commons.proofs.Readings.{keeps_same, keeps_on}
use Rattle.commons.proofs.Rowed.{HasFirst, none_first, one_more, puts_none, puts_on}
use Rattle.commons.proofs.entries.put_words.Goals as goal

pub loop-k-init : goal.loop-k-init
loop-k-init g c =
    let a : View = g.C.Commons.view c.args.c.now c.args.pass.now in record {
      later = g.met.C.Commons.later_same c.args.c.now;
      others = keeps_same g.C.Commons.is_pass g.C.Commons.apart g.C.Commons.view c.args.c.now c.args.pass.now c.requires.pass;
      puts = puts_none a;
      start = λ h. absurd (omega arith);
      words = none_first a.seen a.block_start c.args.words.now;
    }

pub put-requires-clause-pass : goal.put-requires-clause-pass
put-requires-clause-pass g c = c.loop-k.invariant.others.0

pub put-requires-clause-room : goal.put-requires-clause-room
put-requires-clause-room g c =
    let start = ap (λ (v : View). v.block_start) c.loop-k.invariant.puts.0 in
    let stop = ap (λ (v : View). v.block_end) c.loop-k.invariant.puts.0 in
    let room = c.requires.room in omega arith

pub put-requires-clause-word : goal.put-requires-clause-word
put-requires-clause-word g c =
    let a : View = g.C.Commons.view c.args.c.now c.args.pass.now in
    let b : View = g.C.Commons.view c.loop-k.c c.loop-k.pass in
    let sizes = g.met.C.Commons.later_sizes _ _ c.loop-k.invariant.later in
    let word : ℕ = slice_index c.args.words.now c.loop-k.k in
    subst (λ (n : ℕ). MayPut n b word) (sym sizes.0) (may_put_later (g.C.Commons.area_size c.args.c.now) a b word (puts_more a b c.loop-k.k c.loop-k.invariant.puts) (c.requires.words c.loop-k.k c.loop-k-test.true))

pub overflow_sub-start : goal.overflow_sub-start
overflow_sub-start g c =
    let place = c.put.ensures.place in
    let start = ap (λ (v : View). v.block_start) c.loop-k.invariant.puts.0 in omega arith

pub loop-k-preserved : goal.loop-k-preserved
loop-k-preserved g c =
    let a : View = g.C.Commons.view c.args.c.now c.args.pass.now in
    let b : View = g.C.Commons.view c.loop-k.c c.loop-k.pass in
    let d : View = g.C.Commons.view c.put.new.self c.put.new.pass in
    let place = c.put.ensures.place in
    let start : b.block_start ≡ a.block_start + c.loop-k.k = ap (λ (v : View). v.block_start) c.loop-k.invariant.puts.0 in
    let low = c.loop-k-test.true in
    let some : (j : ℕ) → j < c.loop-k.k → slice_index c.args.words.now j ≡ 0 → ⊥ = λ j h. put_not_zero (g.C.Commons.area_size c.args.c.now) a (slice_index c.args.words.now j) (c.requires.words j (omega arith)) in record {
      later = g.met.C.Commons.later_later _ _ _ c.loop-k.invariant.later c.put.ensures.later;
      others = keeps_on g.C.Commons.is_pass g.C.Commons.apart g.C.Commons.view _ _ _ _ _ _ c.loop-k.invariant.others c.put.ensures.others;
      puts = puts_on a b d c.loop-k.k 1 c.loop-k.invariant.puts c.put.ensures.put.0;
      start = λ h. omega arith;
      words = one_more b.seen d.seen a.block_start c.loop-k.k c.args.words.now c.put.ensures.put.0.1 some (ap (slice_index d.seen) (sym start) ∙ c.put.ensures.put.1) c.loop-k.invariant.words;
    }

pub returns-clause-later : goal.returns-clause-later
returns-clause-later g c = c.loop-k.invariant.later

pub returns-clause-others : goal.returns-clause-others
returns-clause-others g c = c.loop-k.invariant.others

pub returns-clause-place : goal.returns-clause-place
returns-clause-place g c = λ h. let past = c.loop-k-test.false in c.loop-k.invariant.start (omega arith)

pub returns-clause-put : goal.returns-clause-put
returns-clause-put g c =
    let a : View = g.C.Commons.view c.args.c.now c.args.pass.now in
    let b : View = g.C.Commons.view c.loop-k.c c.loop-k.pass in
    let past = c.loop-k-test.false in
    let low = c.loop-k.auto.k-end in
    let all : c.loop-k.k ≡ length c.args.words.now = omega arith in
    (subst (λ (n : ℕ). PutsWords a n b) all c.loop-k.invariant.puts, subst (λ (n : ℕ). HasFirst b.seen a.block_start c.args.words.now n) all c.loop-k.invariant.words)
