use Rattle.std.proofs.Common.{◌≡◌, ◌∙◌, ◌+◌, ℕ, ap, sym, subst, arith}
use Rattle.std.specs.Prelude.{slice_index}
use Rattle.hy_words.specs.Words.{tag_of}
use Rattle.commons.specs.declared.view.View.{View}
use Rattle.commons.specs.Views.{KnowsCell}
use Rattle.commons.proofs.Readings.{entry_known, may_read, send_follows, read_may_share, known_still}
use Rattle.commons.proofs.tests.read_message.Goals as goal

pub returns-then-tag-ne-SEND-clause-later : goal.returns-then-tag-ne-SEND-clause-later
returns-then-tag-ne-SEND-clause-later g c = let l = g.met.C.Commons.later_later in l _ _ _ c.look.ensures.later (l _ _ _ c.entry-cell.ensures.later c.get-header.ensures.later)

pub get-target-requires-clause-place : goal.get-target-requires-clause-place
get-target-requires-clause-place g c =
    let v1 : View = g.C.Commons.view c.look.new.self c.look.new.pass in
    let v2 : View = g.C.Commons.view c.entry-cell.new.self c.entry-cell.new.pass in
    let v3 : View = g.C.Commons.view c.get-header.new.self c.get-header.new.pass in
    let cell : ℕ = c.entry-cell.result in
    let long = c.in-Some.ensures.learns.0 in
    let known : KnowsCell v3 cell = known_still v2 v3 cell c.get-header.ensures.word.0 (subst (λ (v : View). KnowsCell v cell) (sym c.entry-cell.ensures.same) (entry_known v1 cell c.in-Some.place (omega arith) c.entry-cell.ensures.entry)) in
    let kind = c.tag.ensures in
    let send = c.if-tag-ne-SEND.false in
    let nine : tag_of c.get-header.result ≡ 9 = omega arith in
    let three = send_follows (g.C.Commons.area_size c.get-header.new.self) (g.C.Commons.log_size c.get-header.new.self) v3 cell c.get-header.result (g.met.C.Commons.sound _ _ c.get-header.ensures.others.0) known c.get-header.ensures.word.1 c.get-header.ensures.word.2 nine in
    may_read (g.C.Commons.area_size c.get-header.new.self) v3 cell 2 c.get-header.result known c.get-header.ensures.word.1 c.get-header.ensures.word.2 (omega arith)

pub get-message-requires-clause-place : goal.get-message-requires-clause-place
get-message-requires-clause-place g c =
    let v1 : View = g.C.Commons.view c.look.new.self c.look.new.pass in
    let v2 : View = g.C.Commons.view c.entry-cell.new.self c.entry-cell.new.pass in
    let v3 : View = g.C.Commons.view c.get-header.new.self c.get-header.new.pass in
    let cell : ℕ = c.entry-cell.result in
    let long = c.in-Some.ensures.learns.0 in
    let known : KnowsCell v3 cell = known_still v2 v3 cell c.get-header.ensures.word.0 (subst (λ (v : View). KnowsCell v cell) (sym c.entry-cell.ensures.same) (entry_known v1 cell c.in-Some.place (omega arith) c.entry-cell.ensures.entry)) in
    let kind = c.tag.ensures in
    let send = c.if-tag-ne-SEND.false in
    let nine : tag_of c.get-header.result ≡ 9 = omega arith in
    let three = send_follows (g.C.Commons.area_size c.get-header.new.self) (g.C.Commons.log_size c.get-header.new.self) v3 cell c.get-header.result (g.met.C.Commons.sound _ _ c.get-header.ensures.others.0) known c.get-header.ensures.word.1 c.get-header.ensures.word.2 nine in
    let v4 : View = g.C.Commons.view c.get-target.new.self c.get-target.new.pass in
    let read : slice_index v4.seen cell ≡ c.get-header.result = c.get-target.ensures.word.0.1 cell (λ z. c.get-header.ensures.word.2 (sym c.get-header.ensures.word.1 ∙ z)) ∙ c.get-header.ensures.word.1 in
    let known4 : KnowsCell v4 cell = known_still v3 v4 cell c.get-target.ensures.word.0 known in
    may_read (g.C.Commons.area_size c.get-target.new.self) v4 cell 3 c.get-header.result known4 read c.get-header.ensures.word.2 (omega arith)

pub returns-clause-later : goal.returns-clause-later
returns-clause-later g c = let l = g.met.C.Commons.later_later in l _ _ _ c.look.ensures.later (l _ _ _ c.entry-cell.ensures.later (l _ _ _ c.get-header.ensures.later (l _ _ _ c.get-target.ensures.later c.get-message.ensures.later)))

pub returns-clause-message : goal.returns-clause-message
returns-clause-message g c =
    let v1 : View = g.C.Commons.view c.look.new.self c.look.new.pass in
    let v2 : View = g.C.Commons.view c.entry-cell.new.self c.entry-cell.new.pass in
    let v3 : View = g.C.Commons.view c.get-header.new.self c.get-header.new.pass in
    let cell : ℕ = c.entry-cell.result in
    let long = c.in-Some.ensures.learns.0 in
    let known : KnowsCell v3 cell = known_still v2 v3 cell c.get-header.ensures.word.0 (subst (λ (v : View). KnowsCell v cell) (sym c.entry-cell.ensures.same) (entry_known v1 cell c.in-Some.place (omega arith) c.entry-cell.ensures.entry)) in
    let kind = c.tag.ensures in
    let send = c.if-tag-ne-SEND.false in
    let nine : tag_of c.get-header.result ≡ 9 = omega arith in
    let three = send_follows (g.C.Commons.area_size c.get-header.new.self) (g.C.Commons.log_size c.get-header.new.self) v3 cell c.get-header.result (g.met.C.Commons.sound _ _ c.get-header.ensures.others.0) known c.get-header.ensures.word.1 c.get-header.ensures.word.2 nine in
    let v4 : View = g.C.Commons.view c.get-target.new.self c.get-target.new.pass in
    let read : slice_index v4.seen cell ≡ c.get-header.result = c.get-target.ensures.word.0.1 cell (λ z. c.get-header.ensures.word.2 (sym c.get-header.ensures.word.1 ∙ z)) ∙ c.get-header.ensures.word.1 in
    let known4 : KnowsCell v4 cell = known_still v3 v4 cell c.get-target.ensures.word.0 known in
    let v5 : View = g.C.Commons.view c.get-message.new.self c.get-message.new.pass in
    let read5 : slice_index v5.seen cell ≡ c.get-header.result = c.get-message.ensures.word.0.1 cell (λ z. c.get-header.ensures.word.2 (sym read ∙ z)) ∙ read in
    let known5 : KnowsCell v5 cell = known_still v4 v5 cell c.get-message.ensures.word.0 known4 in
    let at : cell + 1 + 2 ≡ cell + 3 = omega arith in
    read_may_share (g.C.Commons.area_size c.get-message.new.self) (g.C.Commons.log_size c.get-message.new.self) v5 cell 2 c.get-header.result c.get-message.result (g.met.C.Commons.sound _ _ c.get-message.ensures.others.0) known5 read5 c.get-header.ensures.word.2 (omega arith)
    (ap (slice_index v5.seen) at ∙ c.get-message.ensures.word.1) c.get-message.ensures.word.2
