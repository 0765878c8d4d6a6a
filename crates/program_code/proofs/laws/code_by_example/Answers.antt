use Rattle.program_code.proofs.Worked.{loop_has_its_code, others_are_no_codes}
use Rattle.program_code.proofs.laws.code_by_example.Goals as goal

pub returns-clause-its_code : goal.returns-clause-its_code
returns-clause-its_code c = loop_has_its_code

pub returns-clause-others : goal.returns-clause-others
returns-clause-others c = others_are_no_codes
