use Rattle.std.proofs.Common.{ap, sym, ◌∙◌, subst}
use Rattle.core_lint.specs.code.Earlier.{earlier}
use Rattle.core_walk.specs.First.{IsFaultOf, IsFirst}
use Rattle.core_lint.specs.code.RepeatedFunctions.{first_repeated_function}
use Rattle.core_lint.proofs.RepeatedNamesExact.{repeated_names_exact}
use Rattle.core_lint.proofs.repeated_functions.repeated_function.Goals as goal

pub returns : goal.returns
returns c =
    let program = c.args.program.now in
    let function = c.in_ok-function.ensures ∙ ap (first_repeated_function 0) c.as_slice.ensures in
    let definition = c.in_ok-definition.ensures in
    subst (IsFirst (IsFaultOf program 2)) (sym (c.earlier.ensures ∙ (λ i. earlier (function i) (definition i)))) (repeated_names_exact program)
