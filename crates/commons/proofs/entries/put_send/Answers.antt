use Rattle.std.proofs.Common.{◌≡◌, ◌∙◌, ℕ, [], ◌∷◌, sym, ap, arith}
use Rattle.hy_words.specs.Words.{tag_of, payload_of, area_word_of, pid_word_of}
use Rattle.commons.specs.declared.view.View.{View}
use Rattle.commons.specs.Area.{HasShape}
use Rattle.commons.proofs.Rowed.{row_heads, row_entry, one_value, share_value}
use Rattle.commons.proofs.entries.put_send.Goals as goal

pub returns-clause-words : goal.returns-clause-words
returns-clause-words g c =
    let start : ℕ = (g.C.Commons.view c.args.c.now c.args.pass.now).block_start in
    let new : View = g.C.Commons.view c.put_words.new.c c.put_words.new.pass in
    let heads = row_heads new.seen start c.entry_header-header.result c.pid_word.result c.args.target (c.args.message ∷ []) c.put_words.ensures.put.1 in
    let pid : tag_of c.args.target ≡ 3 = c.requires.target.1 in
    let target : c.args.target ≡ pid_word_of (payload_of c.args.target) = omega arith in
    (heads.0 ∙ c.entry_header-header.ensures.word, heads.1 ∙ c.pid_word.ensures.word, heads.2 ∙ target)

pub returns-clause-entry : goal.returns-clause-entry
returns-clause-entry g c =
    let old : View = g.C.Commons.view c.args.c.now c.args.pass.now in
    let new : View = g.C.Commons.view c.put_words.new.c c.put_words.new.pass in
    let header : ℕ = c.entry_header-header.result in
    let nine : tag_of header ≡ 9 = c.entry_header-header.ensures.tag in
    let shape : HasShape header c.pid_word.result c.args.target = ((λ e. (c.entry_header-header.ensures.payload, c.pid_word.ensures.tag, c.requires.target.1)), (λ e. absurd (omega arith)), (λ e. absurd (omega arith))) in
    let me : payload_of c.pid_word.result ≡ new.pid = c.pid_word.ensures.payload ∙ (c.requires.actor ∙ sym (ap (λ (v : View). v.pid) c.put_words.ensures.put.0.0)) in
    let at = c.area_word.ensures.word ∙ ap area_word_of (c.put_words.ensures.place (omega arith)) in
    row_entry (g.C.Commons.area_size c.put_words.new.c) new old.block_start header c.pid_word.result c.args.target c.area_word.result (c.args.message ∷ []) c.put_words.ensures.put.1 c.entry_header-header.ensures.header.0 c.entry_header-header.ensures.header.1 c.entry_header-header.ensures.payload shape
    c.pid_word.ensures.scalar c.requires.target.0 (one_value c.args.message (share_value (g.C.Commons.area_size c.args.c.now) old c.args.message c.requires.message)) me at (λ print. absurd (omega arith))
