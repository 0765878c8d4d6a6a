use Rattle.std.proofs.Common.{◌++◌, [], ◌∷◌, ◌+◌, drop, if◌then◌else◌, sym, ap, ◌∙◌}
use Rattle.std.specs.List.{slice_index_or}
use Rattle.core_lint.specs.code.RepeatedVariables.{repeats_after}
use Rattle.core_lint.proofs.RepeatedLemmas.{not_seen, not-true, seen_again}
use Rattle.core_lint.proofs.repeated_variables.repeats.Goals as goal

pub returns-then-not-branch : goal.returns-then-not-branch
returns-then-not-branch c =
    let again = seen_again c.loop-variable.seen.keys c.args.variables.now c.loop-variable.variable-index c.loop-variable-test.true (sym c.in_ok-insert.ensures.added ∙ c.if-not-branch.true) in
    sym again ∙ c.loop-variable.invariant

pub loop-variable-preserved : goal.loop-variable-preserved
loop-variable-preserved c =
    let seen = c.loop-variable.seen.keys in
    let xs = c.args.variables.now in
    let i = c.loop-variable.variable-index in
    let x = slice_index_or xs i 0 in
    let added = sym c.in_ok-insert.ensures.added ∙ c.if-not-branch.false in
    let keys = c.in_ok-insert.ensures.keys ∙ ap (λ b. if b then seen else seen ++ x ∷ []) (not-true _ added) in
    ap (λ s. repeats_after s (drop (i + 1) xs)) keys ∙ sym (not_seen seen xs i c.loop-variable-test.true added) ∙ c.loop-variable.invariant
