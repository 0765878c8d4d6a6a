use Rattle.std.proofs.Common.{◌≡◌, ◌∙◌, ℕ, ◌<◌, List, [], sym, ap, subst, arith, to_z, w64}
use Rattle.std.specs.Prelude.{pos}
use Rattle.hy_words.specs.Words.{tag_of, payload_of, area_word_of, word_of, number_word}
use Rattle.commons.specs.declared.view.View.{View}
use Rattle.commons.specs.Area.{HasShape}
use Rattle.commons.specs.Log.{prints_at}
use Rattle.commons.specs.Views.{Fits}
use Rattle.commons.proofs.Later.{puts_more, fits_later}
use Rattle.std.proofs.lemmas.Int.{to_z_pos}
use Rattle.commons.proofs.Rowed.{row_heads, row_entry, no_value}
use Rattle.commons.proofs.entries.put_print.Goals as goal

pub returns-clause-words : goal.returns-clause-words
returns-clause-words g c =
    let start : ℕ = (g.C.Commons.view c.args.c.now c.args.pass.now).block_start in
    let new : View = g.C.Commons.view c.put_words.new.c c.put_words.new.pass in
    let low = c.requires.low in
    let z : to_z w64 c.args.text ≡ pos c.args.text = let m : c.args.text < 9223372036854775808 = omega arith in to_z_pos w64 c.args.text m in
    let heads = row_heads new.seen start c.entry_header-header.result c.pid_word.result c.int_word.result [] c.put_words.ensures.put.1 in
    (heads.0 ∙ c.entry_header-header.ensures.word, heads.1 ∙ c.pid_word.ensures.word, heads.2 ∙ (c.int_word.ensures.word ∙ ap number_word z))

pub returns-clause-entry : goal.returns-clause-entry
returns-clause-entry g c =
    let old : View = g.C.Commons.view c.args.c.now c.args.pass.now in
    let new : View = g.C.Commons.view c.put_words.new.c c.put_words.new.pass in
    let header : ℕ = c.entry_header-header.result in
    let low = c.requires.low in
    let z : to_z w64 c.args.text ≡ pos c.args.text = let m : c.args.text < 9223372036854775808 = omega arith in to_z_pos w64 c.args.text m in
    let number : c.int_word.result ≡ word_of 1 c.args.text = c.int_word.ensures.word ∙ ap number_word z in
    let text : payload_of c.int_word.result ≡ c.args.text = omega arith in
    let eleven : tag_of header ≡ 11 = c.entry_header-header.ensures.tag in
    let shape : HasShape header c.pid_word.result c.int_word.result =
    ((λ e. absurd (omega arith)), (λ e. absurd (omega arith)), (λ e. (c.entry_header-header.ensures.payload, c.pid_word.ensures.tag, (c.int_word.ensures.tag, omega arith)))) in
    let me : payload_of c.pid_word.result ≡ new.pid = c.pid_word.ensures.payload ∙ (c.requires.actor ∙ sym (ap (λ (v : View). v.pid) c.put_words.ensures.put.0.0)) in
    let at = c.area_word.ensures.word ∙ ap area_word_of (c.put_words.ensures.place (omega arith)) in
    let sizes = (g.met.C.Commons.later_sizes _ _ c.put_words.ensures.later).0 in
    let known : new.known ≡ old.known = ap (λ (v : View). v.known) c.put_words.ensures.put.0.0 in
    let own : new.own ≡ old.own = ap (λ (v : View). v.own) c.put_words.ensures.put.0.0 in
    row_entry (g.C.Commons.area_size c.put_words.new.c) new old.block_start header c.pid_word.result c.int_word.result c.area_word.result [] c.put_words.ensures.put.1 c.entry_header-header.ensures.header.0 c.entry_header-header.ensures.header.1 c.entry_header-header.ensures.payload shape
    c.pid_word.ensures.scalar c.int_word.ensures.scalar no_value me at
    (λ print area fit.
    let before = fits_later (g.C.Commons.area_size c.args.c.now) old new area (puts_more old new 3 c.put_words.ensures.put.0) (subst (λ (n : ℕ). Fits n new area) sizes fit) in
    text ∙ (c.requires.text area before ∙ ap (λ (t : List ℕ × List ℕ). prints_at area t.0 t.1) (λ i. (sym known i, sym own i))))
