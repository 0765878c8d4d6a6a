use Rattle.std.proofs.Common.{◌≡◌, ◌∙◌, ◌<◌, ap, sym, subst, arith, length}
use Rattle.std.specs.Prelude.{slice_index, ◌≤◌}
use native.Mathlib.Decide.{ℕ_discrete}
use mathlib.Core.Logic.{dite}
use Rattle.hy_words.specs.Words.{tag_of, area_word_of}
use Rattle.commons.specs.declared.view.View.{View}
use Rattle.commons.proofs.Readings.{known_header}
use Rattle.commons.proofs.entries.entry_kind.Goals as goal

pub returns-then-kind-eq-SPAWN-clause-kind : goal.returns-then-kind-eq-SPAWN-clause-kind
returns-then-kind-eq-SPAWN-clause-kind g c = λ area fit.
    let old : View = g.C.Commons.view c.args.c.now c.args.pass.now in
    let new : View = g.C.Commons.view c.get.new.self c.get.new.pass in
    let known : new.known ≡ old.known = ap (λ (v : View). v.known) c.get.ensures.word.0.0 ∙ ap (λ (v : View). v.known) c.entry-cell.ensures.same in
    let low = subst (λ ws. c.args.place < length ws) (sym known) c.requires.place in
    let named = subst (λ ws. area_word_of c.entry-cell.result ≡ slice_index ws c.args.place) (sym known) c.entry-cell.ensures.entry in
    let header = known_header (g.C.Commons.area_size c.get.new.self) new c.entry-cell.result c.args.place c.get.result area low named c.get.ensures.word.1 c.get.ensures.word.2 fit in
    ap tag_of header.0 ∙ (sym c.tag-kind.ensures ∙ c.if-kind-eq-SPAWN.true)

pub returns-else-kind-eq-SPAWN-clause-kind : goal.returns-else-kind-eq-SPAWN-clause-kind
returns-else-kind-eq-SPAWN-clause-kind g c = λ area fit.
    let old : View = g.C.Commons.view c.args.c.now c.args.pass.now in
    let new : View = g.C.Commons.view c.get.new.self c.get.new.pass in
    let known : new.known ≡ old.known = ap (λ (v : View). v.known) c.get.ensures.word.0.0 ∙ ap (λ (v : View). v.known) c.entry-cell.ensures.same in
    let low = subst (λ ws. c.args.place < length ws) (sym known) c.requires.place in
    let named = subst (λ ws. area_word_of c.entry-cell.result ≡ slice_index ws c.args.place) (sym known) c.entry-cell.ensures.entry in
    let header = known_header (g.C.Commons.area_size c.get.new.self) new c.entry-cell.result c.args.place c.get.result area low named c.get.ensures.word.1 c.get.ensures.word.2 fit in
    let from : 9 ≤ tag_of c.get.result = header.1.0 in
    let to : tag_of c.get.result ≤ 11 = header.1.1 in
    let kind = c.tag-kind.ensures in
    let no_send = c.if-kind-eq-SEND.false in
    let no_spawn = c.if-kind-eq-SPAWN.false in
    let eleven : tag_of c.get.result ≡ 11 = dite (ℕ_discrete (tag_of c.get.result) 9)
    (λ e. absurd (no_send (kind ∙ e)))
    (λ n. dite (ℕ_discrete (tag_of c.get.result) 10) (λ e. absurd (no_spawn (kind ∙ e))) (λ m. omega arith)) in
    ap tag_of header.0 ∙ eleven
