use Rattle.std.proofs.Common.{refl}
use Rattle.hy_ir.specs.Inclusions.{code_inclusions}
use Rattle.hy_ir.specs.WorkedCodes.{loop_code}
use Rattle.flow_rules.specs.WorkedFlow.{loop_places}
use Rattle.flow_rules.proofs.PlaceLemmas.{flows_in, places_flow}
use Rattle.flow_rules.proofs.laws.flow_by_example.Goals as goal

pub returns : goal.returns
returns c = λ X s.
    let rules = code_inclusions loop_code.functions in
    (flows_in loop_places rules refl X s, places_flow rules loop_places refl X s)
