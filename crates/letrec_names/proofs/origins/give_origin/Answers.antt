use Rattle.std.proofs.Math.Nat.{le_antisymm}
use Rattle.lifted_syntax.specs.LiftedSyntax.{count}
use Rattle.std.proofs.Common.{◌≡◌, ◌∙◌, ap, [], ◌∷◌, ◌++◌, length, replicate}
use Rattle.hy_core.specs.Syntax.{syntax_of}
use Rattle.letrec_names.specs.code.Passed.{passed}
use Rattle.letrec_names.proofs.GivenOrigins.{once_more, passed_length}
use Rattle.letrec_names.proofs.origins.give_origin.Goals as goal

pub loop-preserved : goal.loop-preserved
loop-preserved c =
    c.in_ok-push.ensures.items ∙ ap (λ xs. xs ++ c.args.number ∷ []) c.loop.invariant
    ∙ once_more c.args.origins.now.items c.loop.counter c.args.number

pub returns : goal.returns
returns c =
    let e = syntax_of c.args.body.now in
    let made : length c.pass_expr.new.counts.items ≡ count e =
    ap length (c.in_ok-pass_expr.ensures ∙ ap (λ ns. passed ns e) c.new-counts.ensures.items)
    ∙ passed_length e in
    let low = c.loop.auto.counter-end in
    let high = c.loop-test.false in
    let many : c.loop.counter ≡ count e =
    le_antisymm low high ∙ c.len-end.ensures ∙ c.pass_expr.new.counts.ok.0 ∙ made in
    c.loop.invariant
    ∙ ap (λ n. c.args.origins.now.items ++ replicate n c.args.number) many
