use Rattle.std.proofs.Common.{◌≡◌, ℕ, List, [], ◌∷◌, ◌++◌, ap, refl, sym, ◌∙◌}
use Rattle.std.specs.Prelude.{codes}
use Rattle.std.specs.Fmt.{decimal, digits}
use Rattle.hy_core.specs.Output.{end_text}
use Rattle.hybrid_run.specs.Arithmetic.{end_of}
use Rattle.hybrid_run.proofs.value.outcome_line.Goals as goal

zero_text : decimal 0 ≡ codes "0"
unfolding digits
zero_text = refl

pub returns : goal.returns
returns c =
    let text = codes "0 " ++ end_text (end_of c.args.ending) in
    c.in_ok-push.ensures.items ∙ ap (λ (k : List ℕ). k ++ 10 ∷ []) (c.in_ok-push_end.ensures ∙ ap (λ (k : List ℕ). k ++ text) c.new-line.ensures.items)
    ∙ ap (λ (k : List ℕ). k ++ codes " " ++ end_text (end_of c.args.ending) ++ 10 ∷ []) (sym zero_text)
