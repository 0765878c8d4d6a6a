use Rattle.lifted_numbers.proofs.Numbering.{sites_numbered, tree_supplied}
use Rattle.lifted_numbers.proofs.laws.trees_have_their_numbers.Goals as goal

pub returns-clause-supplied : goal.returns-clause-supplied
returns-clause-supplied c = tree_supplied

pub returns-clause-sites : goal.returns-clause-sites
returns-clause-sites c = sites_numbered
