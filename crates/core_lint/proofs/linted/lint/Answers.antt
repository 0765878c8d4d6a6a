use Rattle.std.proofs.Common.{◌≤◌, ◌<◌, ◌^◌, length, Some, ap, sym, subst, ◌∙◌, Err, arith}
use Rattle.std.specs.List.{AllZip}
use Rattle.hy_core.specs.NameFaults.{modules_of}
use Rattle.hy_core.specs.Tables.{program_atoms}
use Rattle.hy_core.specs.declared.fault.Form.TheVariants.{Atoms}
use Rattle.core_walk.specs.First.{IsFaultOf, IsFirst}
use Rattle.core_lint.specs.Linted.{KeepsText}
use Rattle.core_lint.specs.declared.answer.LintAnswer.TheVariants.{Fault}
use Rattle.core_lint.proofs.InOrderLemmas.{accepted, least_of_kind, none_found}
use Rattle.core_lint.proofs.ProgramTexts.{texts_kept}
use Rattle.core_lint.proofs.SizesLemmas.{first_size, many_atoms, no_size}
use Rattle.core_tables.proofs.TableLemmas.{same_error}
use Rattle.core_lint.proofs.linted.lint.Goals as goal

pub returns-in_err-functions-clause-least : goal.returns-in_err-functions-clause-least
returns-in_err-functions-clause-least c fault e =
    let program = c.args.program in
    let none = none_found program c.in_ok-fault.field-0 c.in_default.is c.in_ok-fault.ensures in
    let same = same_error c.from_residual-in_err-functions.result c.in_err-functions.field-0.0 (Fault fault) c.from_residual-in_err-functions.ensures.1 e in
    least_of_kind program 10 none fault (c.in_err-functions.ensures.great fault (ap (λ e. Err e) same))

pub returns-in_err-numbered-clause-least : goal.returns-in_err-numbered-clause-least
returns-in_err-numbered-clause-least c fault e =
    let program = c.args.program in
    let none = none_found program c.in_ok-fault.field-0 c.in_default.is c.in_ok-fault.ensures in
    let same = same_error c.from_residual-in_err-numbered.result c.in_err-numbered.field-0.0 (Fault fault) c.from_residual-in_err-numbered.ensures.1 e in
    least_of_kind program 10 none fault (c.in_err-numbered.ensures.great fault (ap (λ e. Err e) same))

pub returns-in_err-atoms-clause-least : goal.returns-in_err-atoms-clause-least
returns-in_err-atoms-clause-least c fault e =
    let program = c.args.program in
    let none = none_found program c.in_ok-fault.field-0 c.in_default.is c.in_ok-fault.ensures in
    let same = same_error c.from_residual-in_err-atoms.result c.in_err-atoms.field-0.0 (Fault fault) c.from_residual-in_err-atoms.ensures.1 e in
    let many = c.in_err-atoms.ensures.many fault (ap (λ e. Err e) same) in
    let full : 2 ^ 20 < length (program_atoms program) = omega (arith, many.1, ap length c.in_ok-places.ensures) in
    let first = first_size program Atoms (many_atoms program c.in_ok-numbered.ensures.within full) in
    least_of_kind program 10 none fault (subst (λ fault. IsFirst (IsFaultOf program 10) (Some fault)) (sym many.0) first)

pub returns-clause-accepted : goal.returns-clause-accepted
returns-clause-accepted c =
    let program = c.args.program in
    let none = none_found program c.in_ok-fault.field-0 c.in_default.is c.in_ok-fault.ensures in
    let few : length (program_atoms program) ≤ 2 ^ 20 = omega (arith, c.in_ok-atoms.ensures.few, ap length c.in_ok-places.ensures) in
    accepted program none (no_size program c.in_ok-numbered.ensures.within few)

pub invariant_of-result : goal.invariant_of-result
invariant_of-result c =
    let program = c.args.program in
    let none = none_found program c.in_ok-fault.field-0 c.in_default.is c.in_ok-fault.ensures in
    let few : length (program_atoms program) ≤ 2 ^ 20 = omega (arith, c.in_ok-atoms.ensures.few, ap length c.in_ok-places.ensures) in
    record {
      of_accepted = ∣ (
        program,
        record {
          read = c.requires.read;
          own_prelude = c.requires.prelude;
          accepted = accepted program none (no_size program c.in_ok-numbered.ensures.within few);
          trees = c.in_ok-numbered.ensures.program;
          own_atoms = c.in_ok-atoms.ensures.table ∙ c.in_ok-places.ensures;
          own_functions = c.in_ok-functions.ensures.table;
          own_sites = c.in_ok-numbered.ensures.sites;
        },
      ) ∣₁;
    }

pub returns-clause-texts : goal.returns-clause-texts
returns-clause-texts c =
    let program = c.args.program in
    let table = c.in_ok-atoms.ensures.table ∙ c.in_ok-places.ensures in
    subst (λ table. AllZip (KeepsText table) (modules_of program) (modules_of c.in_ok-numbered.numbered.program)) (sym table)
    (subst (λ now. AllZip (KeepsText (program_atoms program)) (modules_of program) (modules_of now)) (sym c.in_ok-numbered.ensures.program) (texts_kept program))
