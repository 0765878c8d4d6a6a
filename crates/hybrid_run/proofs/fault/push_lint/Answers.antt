use Rattle.std.proofs.Common.{◌≡◌, ℕ, ◌++◌, List, [], ◌∷◌, ap, append_assoc, subst, ◌∙◌}
use Rattle.std.specs.Prelude.{codes}
use Rattle.std.specs.Fmt.{decimal}
use Rattle.hybrid_run.specs.Faults.{lint_text}
use Rattle.hybrid_run.proofs.fault.push_lint.Goals as goal

pub returns : goal.returns
returns c =
    let fault = c.args.fault in
    let behind : List ℕ → List ℕ = λ form. decimal fault.kind ++ (codes " function " ++ (decimal fault.function ++ (codes " node " ++ (decimal fault.node ++ (codes " " ++ (form ++ 10 ∷ [])))))) in
    let line : c.in_ok-line.line.bytes.items ≡ lint_text c.args.name.now fault =
    simp append_assoc (subst (λ (form : List ℕ). c.in_ok-line.line.bytes.items ≡ codes "hyb: " ++ (c.args.name.now ++ (codes ": fault " ++ behind form))) c.name_of_form.ensures c.in_ok-line.ensures.ok) in
    c.in_ok-extend_from_slice.ensures.items ∙ ap (λ (k : List ℕ). c.args.text.now.items ++ k) (c.as_bytes.ensures.value ∙ line)
