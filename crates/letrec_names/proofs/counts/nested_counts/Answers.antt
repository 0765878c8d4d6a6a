use Rattle.std.proofs.Common.{◌≡◌, ◌∙◌, ap, []}
use Rattle.letrec_names.specs.NestedCounts.{nested_counts_modules}
use Rattle.letrec_names.specs.code.Passed.{passed_modules}
use Rattle.letrec_names.proofs.Passing.{modules_are}
use Rattle.letrec_names.proofs.counts.nested_counts.Goals as goal

pub returns : goal.returns
returns c =
    let ms = c.args.modules.now in
    let counts : c.pass_modules.new.counts.items ≡ nested_counts_modules ms =
    c.in_ok-pass_modules.ensures ∙ ap (λ l. passed_modules l ms) c.new-counts.ensures.items
    ∙ modules_are ms [] in
    λ i. record { first = c.in_ok-first.ensures i; counts = counts i }
