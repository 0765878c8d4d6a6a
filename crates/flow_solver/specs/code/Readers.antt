-- Inclusions by the sets that they read.
use Rattle.std.specs.Prelude.{Bool, List, [], ◌∷◌}
use Rattle.std.specs.List.{flat_map}
use Rattle.flow_sets.specs.declared.inclusion.FlowSet.{FlowSet}
use Rattle.flow_sets.specs.declared.inclusion.FlowSet.TheVariants.{Only}
use Rattle.flow_sets.specs.declared.inclusion.Inclusion.{Inclusion}
use Rattle.flow_sets.specs.declared.inclusion.Inclusion.TheVariants.{Whole, Part, Parts}
use Rattle.flow_sets.specs.contracts.inclusion.FlowSetPartialEq.TheImpl as set
use Rattle.flow_solver.specs.declared.members.Member.{Member}

abbrev pub is_set : FlowSet → FlowSet → Bool
is_set x y = (set.eq-value).it x y

-- the set that an inclusion reads
abbrev pub source : Inclusion → FlowSet
source (Whole from to) = from
source (Part base field to) = base
source (Parts base to) = base

-- the site of a set of one site
abbrev pub seed_of : FlowSet → List Member
seed_of (Only s) = record { set = Only s; site = s } ∷ []
seed_of X = []

-- the site of each set of one site that is read
abbrev pub seeds : List Inclusion → List Member
seeds rules = flat_map (λ r. seed_of (source r)) rules
