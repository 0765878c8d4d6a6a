use Rattle.lifted_program.proofs.RenamedSame.{renamed_same}
use Rattle.lifted_program.proofs.RenamingKeeps.{renaming_keeps}
use Rattle.lifted_program.proofs.laws.renaming_keeps_meaning.Goals as goal

pub returns-clause-keeps : goal.returns-clause-keeps
returns-clause-keeps c limit source atoms calls = renaming_keeps limit atoms source calls

pub returns-clause-needed : goal.returns-clause-needed
returns-clause-needed c limit source known apart below = renamed_same limit source known apart below
