use Rattle.lifted_program.proofs.Whole.{whole}
use Rattle.lifted_program.proofs.laws.lifting_keeps_meaning.Goals as goal

pub returns : goal.returns
returns c limit source captured known exact atoms calls =
    whole limit source captured known exact atoms calls
