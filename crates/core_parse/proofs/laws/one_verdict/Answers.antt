use Rattle.core_parse.proofs.OneVerdict.{no_module_is_refused, one_refusal}
use Rattle.core_parse.proofs.laws.one_verdict.Goals as goal

pub returns-clause-no_module_is_refused : goal.returns-clause-no_module_is_refused
returns-clause-no_module_is_refused c = λ bytes z kind place read refused. no_module_is_refused bytes z kind place read refused

pub returns-clause-one_refusal : goal.returns-clause-one_refusal
returns-clause-one_refusal c = λ bytes kind other place there h g. one_refusal bytes kind other place there h g
