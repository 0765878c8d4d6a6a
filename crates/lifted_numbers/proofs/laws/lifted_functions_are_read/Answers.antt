use Rattle.lifted_numbers.proofs.BareResolved.{modules_from-bare}
use Rattle.lifted_numbers.proofs.Reading.{program-read, trees_read}
use Rattle.lifted_numbers.proofs.laws.lifted_functions_are_read.Goals as goal

pub returns-clause-sources : goal.returns-clause-sources
returns-clause-sources c = modules_from-bare

pub returns-clause-syntax_of_trees : goal.returns-clause-syntax_of_trees
returns-clause-syntax_of_trees c = program-read

pub returns-clause-read : goal.returns-clause-read
returns-clause-read c = trees_read
