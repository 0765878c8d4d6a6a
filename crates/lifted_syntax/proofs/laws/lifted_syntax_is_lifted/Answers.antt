use Rattle.std.proofs.Common.{refl}
use Rattle.lifted_syntax.proofs.ExtractedResolved.{extracted-plain}
use Rattle.lifted_syntax.proofs.LiftedResolved.{lifted-plain}
use Rattle.lifted_syntax.proofs.laws.lifted_syntax_is_lifted.Goals as goal

pub returns-clause-lifted : goal.returns-clause-lifted
returns-clause-lifted c names current captured reach n e h =
    lifted-plain names current captured e reach n _ refl h

pub returns-clause-extracted : goal.returns-clause-extracted
returns-clause-extracted c names current captured reach n e h =
    extracted-plain names current captured e reach n _ refl h
