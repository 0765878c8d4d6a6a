use Rattle.std.proofs.Common.{◌≡◌, ◌∙◌, ap}
use Rattle.hy_core.specs.NameFaults.{modules_of}
use Rattle.hy_core.specs.ProgramTrees.{function_trees}
use Rattle.hy_core.specs.declared.tree.Program.{Program}
use Rattle.renaming.specs.RenamedProgram.{renamed_modules}
use Rattle.renaming.proofs.RenamedTrees.{trees-renamed}
use Rattle.renaming.proofs.program.rename_program.Goals as goal

pub returns-clause-trees : goal.returns-clause-trees
returns-clause-trees c names sites =
    let made : Program = record
    { given = c.in_ok-given.given; prelude = c.in_ok-prelude.prelude } in
    let is : made ≡ renamed_modules c.args.limit c.args.program =
    λ i. record { given = c.in_ok-given.ensures i; prelude = c.in_ok-prelude.ensures i } in
    ap (λ program. function_trees names sites (modules_of program)) is
    ∙ trees-renamed c.args.limit names sites c.args.program
