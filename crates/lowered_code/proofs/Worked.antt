-- The code of the worked functions, computed.
use Rattle.std.proofs.Common.{refl}
use Rattle.lowered_code.specs.WorkedLowering.{FunctionsAreLowered}

pub functions_are_lowered : FunctionsAreLowered
functions_are_lowered = record {
  loop = refl;
  lists = refl;
  choices = refl;
  receives = refl;
  values = refl;
  raises = refl;
}
