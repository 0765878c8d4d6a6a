use Rattle.program_code.proofs.Means.{lifted_means}
use Rattle.program_code.proofs.laws.code_means.Goals as goal

pub returns : goal.returns
returns c lifted code is_code f place pid calls ts inputs =
    lifted_means lifted code is_code f place pid calls ts inputs
