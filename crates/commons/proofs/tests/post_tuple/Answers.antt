use Rattle.std.proofs.Common.{◌≡◌, ◌∷◌, [], ℕ, ap, sym, subst, refl, inl, inr, arith}
use Rattle.hy_words.specs.Words.{tag_of}
use Rattle.commons.specs.declared.view.View.{View}
use Rattle.commons.specs.Log.{header_at}
use Rattle.commons.specs.Steps.{claimed, put_on}
use Rattle.commons.specs.Views.{HasPrinted, KnowsTerm, MayAppend}
use Rattle.commons.proofs.Printing.{entry_header_at, printed_step, printed_no_more}
use Rattle.commons.proofs.Rowed.{row_term, one_value}
use Rattle.commons.proofs.tests.post_tuple.Goals as goal

pub put_send-entry-requires-clause-message : goal.put_send-entry-requires-clause-message
put_send-entry-requires-clause-message g c = λ _ _.
    let cap : ℕ = g.C.Commons.area_size c.put_words-cell.new.c in
    let v1 : View = g.C.Commons.view c.claim.new.self c.claim.new.pass in
    let v2 : View = g.C.Commons.view c.put_words-cell.new.c c.put_words-cell.new.pass in
    let term = row_term cap v2 v1.block_start c.tuple_header.result (c.int_word.result ∷ []) c.put_words-cell.ensures.put.1 c.tuple_header.ensures.header.0 c.tuple_header.ensures.header.1 c.tuple_header.ensures.following (one_value c.int_word.result (inl c.int_word.ensures.scalar)) in
    inr (c.put_words-cell.result, c.area_word.ensures.word, subst (KnowsTerm cap v2) (sym (c.put_words-cell.ensures.place (omega arith))) term)

pub returns-clause-texts : goal.returns-clause-texts
returns-clause-texts g c = λ n h.
    let old : View = g.C.Commons.view c.args.c.now c.args.pass.now in
    let v1 : View = g.C.Commons.view c.claim.new.self c.claim.new.pass in
    let v2 : View = g.C.Commons.view c.put_words-cell.new.c c.put_words-cell.new.pass in
    let v3 : View = g.C.Commons.view c.put_send-entry.new.c c.put_send-entry.new.pass in
    let v4 : View = g.C.Commons.view c.append.new.self c.append.new.pass in
    let cap : ℕ = g.C.Commons.area_size c.args.c.now in
    let header = entry_header_at v3.seen v2.block_start c.put_send-entry.result 57 c.put_send-entry.ensures.word c.put_send-entry.ensures.words.0 in
    let l = g.met.C.Commons.later_later in
    let put = l _ _ _ c.claim.ensures.later (l _ _ _ c.put_words-cell.ensures.later c.put_send-entry.ensures.later) in
    let sizes = (g.met.C.Commons.later_sizes _ _ put).0 in
    let all = (g.met.C.Commons.later_sizes _ _ (l _ _ _ put c.append.ensures.later)).0 in
    let may : MayAppend cap v3 c.put_send-entry.result = subst (λ (m : ℕ). MayAppend m v3 c.put_send-entry.result) sizes c.put_send-entry.ensures.entry in
    let sound = g.met.C.Commons.sound _ _ c.put_send-entry.ensures.others.0 in
    let one = printed_step cap n old (claimed old c.in_ok-claim.ensures.owns.0 256) v1 refl refl refl c.in_ok-claim.ensures.owns.3 h in
    let two = printed_step cap n v1 (put_on v1 2) v2 refl refl refl c.put_words-cell.ensures.put.0 one in
    let three = printed_step cap n v2 (put_on v2 4) v3 refl refl refl c.put_send-entry.ensures.puts two in
    let four = printed_no_more cap n v3 v4 c.put_send-entry.result c.in_ok-append.field-0 may c.in_ok-append.ensures.appended sound.own_known (λ e. let nine : tag_of (header_at v3.seen c.put_send-entry.result) ≡ 9 = ap tag_of header in absurd (omega arith)) three in
    subst (λ (m : ℕ). HasPrinted m v4 n) (sym all) four
