use Rattle.program_code.proofs.PieceLemmas.{code_pieces}
use Rattle.program_code.proofs.laws.code_has_pieces.Goals as goal

pub returns : goal.returns
returns c lifted code is_code = code_pieces code.sites lifted code.functions is_code
