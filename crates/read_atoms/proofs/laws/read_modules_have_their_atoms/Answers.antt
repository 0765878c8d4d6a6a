use Rattle.read_atoms.proofs.OwnAtoms.{linted_texts, read_own}
use Rattle.read_atoms.proofs.laws.read_modules_have_their_atoms.Goals as goal

pub returns-clause-atoms : goal.returns-clause-atoms
returns-clause-atoms c = read_own

pub returns-clause-texts : goal.returns-clause-texts
returns-clause-texts c = linted_texts
