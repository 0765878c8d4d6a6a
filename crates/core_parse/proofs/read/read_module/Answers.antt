use Rattle.core_parse.proofs.WholeText.{found_by, only_by, refused_by, exactly_by}
use Rattle.core_parse.proofs.read.read_module.Goals as goal

pub returns-clause-found : goal.returns-clause-found
returns-clause-found c = found_by _ _ c.read_text.ensures

pub returns-clause-only : goal.returns-clause-only
returns-clause-only c = λ z h. only_by _ _ c.read_text.ensures z h

pub returns-clause-refused : goal.returns-clause-refused
returns-clause-refused c = refused_by _ _ c.read_text.ensures

pub returns-clause-exactly : goal.returns-clause-exactly
returns-clause-exactly c = λ kind place h. exactly_by _ _ c.read_text.ensures kind place h
