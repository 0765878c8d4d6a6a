use Rattle.program_code.proofs.PieceLemmas.{code_fits}
use Rattle.program_code.proofs.laws.code_fits.Goals as goal

pub returns : goal.returns
returns c lifted code is_code = code_fits code.sites lifted code.functions is_code
