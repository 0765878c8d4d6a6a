use Rattle.std.proofs.Common.{inl, refl, sym, subst}
use Rattle.core_lint.specs.code.GreatArity.{HasGreat}
use Rattle.core_lint.proofs.GreatExact.{great_in, prelude_decides}
use Rattle.core_lint.proofs.great_arity.has_great_arity.Goals as goal

pub returns-then-branch : goal.returns-then-branch
returns-then-branch c =
    let here = c.in_ok-has_great.ensures.0 c.if-branch.true in
    (λ t. great_in c.args.program.now (inl (subst HasGreat c.as_slice.ensures here)), λ g. refl)

pub returns : goal.returns
returns c =
    let none = λ (given : HasGreat c.args.program.now.given). absurd (cc (c.if-branch.false, c.in_ok-has_great.ensures.1 (subst HasGreat (sym c.as_slice.ensures) given))) in
    prelude_decides c.args.program.now c.as_slice-2.result.now c.has_great-2.result c.as_slice-2.ensures none c.has_great-2.ensures
