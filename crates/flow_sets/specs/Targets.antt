-- The sets that inclusions are into.
use Rattle.std.specs.Prelude.{Bool, true, false}
use Rattle.flow_sets.specs.declared.inclusion.FlowSet.{FlowSet}
use Rattle.flow_sets.specs.declared.inclusion.FlowSet.TheVariants.{Only}
use Rattle.flow_sets.specs.declared.inclusion.Inclusion.{Inclusion}
use Rattle.flow_sets.specs.declared.inclusion.Inclusion.TheVariants.{Whole, Part, Parts}

abbrev pub target : Inclusion → FlowSet
target (Whole from to) = to
target (Part base field to) = to
target (Parts base to) = to

-- a set is not one of one site
abbrev pub is_many : FlowSet → Bool
is_many (Only s) = false
is_many X = true

-- an inclusion is into a set that is not one of one site
abbrev pub goes_to_many : Inclusion → Bool
goes_to_many i = is_many (target i)
