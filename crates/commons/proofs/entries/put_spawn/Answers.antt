use Rattle.std.proofs.Common.{◌≡◌, ◌∙◌, ℕ, ◌+◌, ◌<◌, List, [], ◌∷◌, sym, ap, inl, inr, subst, arith, ℤ, ◌^◌, to_z, of_z, w64}
use Rattle.std.specs.Prelude.{slice_index, pos}
use Rattle.hy_words.specs.Words.{tag_of, payload_of, area_word_of, word_of, number_word}
use Rattle.commons.specs.declared.view.View.{View}
use Rattle.commons.specs.Area.{HasShape}
use Rattle.hy_terms.specs.Range.{IsNumber}
use Rattle.hy_terms.proofs.RangeLemmas.{below_number}
use Rattle.hy_words.proofs.Numbers.{number_fits}
use Rattle.commons.specs.Log.{HasWords}
use Rattle.commons.specs.Views.{MayPut}
use Rattle.commons.proofs.Cells.{header_not_zero, value_not_zero}
use Rattle.commons.proofs.Later.{puts_more, may_put_later}
use Rattle.commons.proofs.Rowed.{row_heads, row_entry, words_grow, words_behind, three_some, share_value}
use Rattle.commons.proofs.entries.put_spawn.Goals as goal

-- the word of a function
function_word : (function : ℕ) (n : ℤ) (word : ℕ) → function < 2 ^ 32 → n ≡ pos function → word ≡ number_word (to_z w64 (of_z w64 n)) → word ≡ word_of 1 function
function_word function n word low is e =
    let in_range : IsNumber (pos function) = below_number function (omega arith) in
    e ∙ (ap (λ (m : ℤ). number_word (to_z w64 (of_z w64 m))) is ∙ ap number_word (number_fits (pos function) in_range))

pub put_words-requires-clause-words : goal.put_words-requires-clause-words
put_words-requires-clause-words g c = λ _ _ k low.
    let old : View = g.C.Commons.view c.args.c.now c.args.pass.now in
    let mid : View = g.C.Commons.view c.put_words-start.new.c c.put_words-start.new.pass in
    let sizes = (g.met.C.Commons.later_sizes _ _ c.put_words-start.ensures.later).0 in
    let word : ℕ = slice_index c.args.arguments.now k in
    subst (λ (n : ℕ). MayPut n mid word) (sym sizes) (may_put_later (g.C.Commons.area_size c.args.c.now) old mid word (puts_more old mid 3 c.put_words-start.ensures.put.0) (inr (c.requires.arguments k low)))

pub returns-clause-words : goal.returns-clause-words
returns-clause-words g c =
    let start : ℕ = (g.C.Commons.view c.args.c.now c.args.pass.now).block_start in
    let mid : View = g.C.Commons.view c.put_words-start.new.c c.put_words-start.new.pass in
    let new : View = g.C.Commons.view c.put_words.new.c c.put_words.new.pass in
    let header : ℕ = c.entry_header-header.result in
    let number = function_word c.args.function c.from.result c.int_word.result c.ranges.function.fits c.from.ensures c.int_word.ensures.word in
    let some = three_some header c.pid_word.result c.int_word.result (header_not_zero header c.entry_header-header.ensures.header.0) (value_not_zero c.pid_word.result (inl c.pid_word.ensures.scalar)) (value_not_zero c.int_word.result (inl c.int_word.ensures.scalar)) in
    let row = words_grow mid.seen new.seen start (header ∷ c.pid_word.result ∷ c.int_word.result ∷ []) c.put_words.ensures.put.0.1 some c.put_words-start.ensures.put.1 in
    let heads = row_heads new.seen start header c.pid_word.result c.int_word.result [] row in
    (heads.0 ∙ c.entry_header-header.ensures.word, heads.1 ∙ c.pid_word.ensures.word, heads.2 ∙ number)

pub returns-clause-entry : goal.returns-clause-entry
returns-clause-entry g c =
    let old : View = g.C.Commons.view c.args.c.now c.args.pass.now in
    let mid : View = g.C.Commons.view c.put_words-start.new.c c.put_words-start.new.pass in
    let new : View = g.C.Commons.view c.put_words.new.c c.put_words.new.pass in
    let header : ℕ = c.entry_header-header.result in
    let first : List ℕ = header ∷ c.pid_word.result ∷ c.int_word.result ∷ [] in
    let number = function_word c.args.function c.from.result c.int_word.result c.ranges.function.fits c.from.ensures c.int_word.ensures.word in
    let some = three_some header c.pid_word.result c.int_word.result (header_not_zero header c.entry_header-header.ensures.header.0) (value_not_zero c.pid_word.result (inl c.pid_word.ensures.scalar)) (value_not_zero c.int_word.result (inl c.int_word.ensures.scalar)) in
    let here = words_grow mid.seen new.seen old.block_start first c.put_words.ensures.put.0.1 some c.put_words-start.ensures.put.1 in
    let start : mid.block_start ≡ old.block_start + 3 = ap (λ (v : View). v.block_start) c.put_words-start.ensures.put.0.0 in
    let behind : HasWords new.seen (old.block_start + 3) c.args.arguments.now = subst (λ (n : ℕ). HasWords new.seen n c.args.arguments.now) start c.put_words.ensures.put.1 in
    let row = words_behind new.seen old.block_start first c.args.arguments.now here behind in
    let ten : tag_of header ≡ 10 = c.entry_header-header.ensures.tag in
    let low = c.ranges.function.fits in
    let shape : HasShape header c.pid_word.result c.int_word.result =
    ((λ e. absurd (omega arith)), (λ e. (let l = c.entry_header-header.ensures.payload in omega arith, c.pid_word.ensures.tag, (c.int_word.ensures.tag, omega arith))), (λ e. absurd (omega arith))) in
    let pid : new.pid ≡ old.pid = ap (λ (v : View). v.pid) c.put_words.ensures.put.0.0 ∙ ap (λ (v : View). v.pid) c.put_words-start.ensures.put.0.0 in
    let me : payload_of c.pid_word.result ≡ new.pid = c.pid_word.ensures.payload ∙ (c.requires.actor ∙ sym pid) in
    let at = c.area_word.ensures.word ∙ ap area_word_of (c.put_words-start.ensures.place (omega arith)) in
    row_entry (g.C.Commons.area_size c.put_words.new.c) new old.block_start header c.pid_word.result c.int_word.result c.area_word.result c.args.arguments.now row c.entry_header-header.ensures.header.0 c.entry_header-header.ensures.header.1 c.entry_header-header.ensures.payload shape
    c.pid_word.ensures.scalar c.int_word.ensures.scalar (λ k h. share_value (g.C.Commons.area_size c.args.c.now) old (slice_index c.args.arguments.now k) (c.requires.arguments k h)) me at (λ print. absurd (omega arith))
