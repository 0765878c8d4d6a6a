use Rattle.std.proofs.Common.{◌≡◌, ℕ, List, ap, map, subst, ◌∙◌}
use Rattle.hy_core.specs.Canonical.{canonical_text, one_after_another}
use Rattle.outside.specs.Outside.{Appends, AppendsPrefix}
use Rattle.hybrid_run.specs.Headline.{sunk}
use Rattle.hybrid_run.proofs.Doing.{printed_cut, printed_says}
use Rattle.hybrid_run.proofs.run.print_modules.Goals as goal

pub returns-in-Ok-clause-says : goal.returns-in-Ok-clause-says
returns-in-Ok-clause-says g c =
    let before = g.K.Sink.written c.args.sink.now in
    let now = g.K.Sink.written c.write_texts.new.sink in
    let sink = sunk before now (g.K.Sink.faults c.args.sink.now) (g.K.Sink.faults c.write_texts.new.sink) in
    let zs = c.args.modules.items in
    let texts : c.as_slice-2.result.now ≡ map canonical_text zs = c.as_slice-2.ensures.value ∙ c.in_ok-texts.ensures ∙ ap (map canonical_text) c.as_slice.ensures.value in
    printed_says zs sink c.in_ok-linted_program.ensures.accepted (subst (λ (ts : List (List ℕ)). Appends before now (one_after_another ts)) texts c.in-Ok.ensures.ok)

pub returns-clause-says : goal.returns-clause-says
returns-clause-says g c =
    let before = g.K.Sink.written c.args.sink.now in
    let now = g.K.Sink.written c.write_texts.new.sink in
    let sink = sunk before now (g.K.Sink.faults c.args.sink.now) (g.K.Sink.faults c.write_texts.new.sink) in
    let zs = c.args.modules.items in
    let texts : c.as_slice-2.result.now ≡ map canonical_text zs = c.as_slice-2.ensures.value ∙ c.in_ok-texts.ensures ∙ ap (map canonical_text) c.as_slice.ensures.value in
    printed_cut zs sink c.in_ok-linted_program.ensures.accepted (subst (λ (ts : List (List ℕ)). AppendsPrefix before now (one_after_another ts)) texts c.in-Err.ensures.prefix) c.in-Err.ensures.rises
