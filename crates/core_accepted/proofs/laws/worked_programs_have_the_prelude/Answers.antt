use Rattle.core_accepted.proofs.WorkedBehaviour.{worked_behave, worked_run}
use Rattle.core_accepted.proofs.WorkedPrograms.{have_the_prelude, worked_same_trees}
use Rattle.core_accepted.proofs.laws.worked_programs_have_the_prelude.Goals as goal

pub returns-clause-prelude : goal.returns-clause-prelude
returns-clause-prelude c = have_the_prelude

pub returns-clause-trees : goal.returns-clause-trees
returns-clause-trees c = worked_same_trees

pub returns-clause-behaviour : goal.returns-clause-behaviour
returns-clause-behaviour c = worked_behave

pub returns-clause-runs : goal.returns-clause-runs
returns-clause-runs c = worked_run
