-- Trees that give as many values as their place takes, without a tail call inside a `Within`. This
-- project's own.
use Rattle.std.specs.Prelude.{◌≡◌, Some, None, length}
use Rattle.hy_ir.specs.Code as c
use Rattle.hy_ir.specs.Code.{Arms, NoArms, MoreArms, Lapse, NoLapse, LapseTo, Last, MakeTree, Part}
use Rattle.hy_ir.specs.Code.{Parts, NoParts, MoreParts, Tree}
use Rattle.hy_ir.specs.Valid.{Values, GivesSoMany}

abbrev mutual
  -- values: how many an inner tree gives
  pub TreeFits : (values : Values) → Tree → Type 0
  TreeFits values (MakeTree ps end) = PartsFit ps × LastFits values end

  pub PartsFit : Parts → Type 0
  PartsFit NoParts = Unit {0}
  PartsFit (MoreParts p ps) = PartFits p × PartsFit ps

  pub PartFits : Part → Type 0
  PartFits (c.Do o) = Unit {0}
  PartFits (c.Within outs inner) = TreeFits (Some (length outs)) inner

  pub LastFits : (values : Values) → Last → Type 0
  LastFits values (c.Give rs) = GivesSoMany values (length rs)
  LastFits values (c.Tail function args) = values ≡ None
  LastFits values (c.Raise class reason) = Unit {0}
  LastFits values (c.Fail reason) = Unit {0}
  LastFits values (c.Choose xs) = ArmsFit values xs
  LastFits values (c.Receive message xs lapse) = ArmsFit values xs × LapseFits values lapse

  pub LapseFits : (values : Values) → Lapse → Type 0
  LapseFits values NoLapse = Unit {0}
  LapseFits values (LapseTo t) = TreeFits values t

  pub ArmsFit : (values : Values) → Arms → Type 0
  ArmsFit values NoArms = Unit {0}
  ArmsFit values (MoreArms ts guard body xs) = TreeFits values body × ArmsFit values xs
