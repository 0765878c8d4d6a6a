use Rattle.program_code.proofs.Means.{program_means}
use Rattle.program_code.proofs.laws.code_of_program_means.Goals as goal

pub returns : goal.returns
returns c program code known is_code f below place pid calls ts inputs =
    program_means program code known is_code f below place pid calls ts inputs
