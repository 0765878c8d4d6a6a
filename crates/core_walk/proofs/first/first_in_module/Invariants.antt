use Rattle.std.proofs.Common.{◌≡◌, drop}
use Rattle.core_walk.specs.First.{IsOutside, first_in_functions}
use Rattle.core_walk.proofs.first.first_in_module.Given as goal

-- the functions that are left have the first fault, and nothing is bound
abbrev pub invariant-loop-j : goal.invariant-loop-j
invariant-loop-j g l = record {
  first : first_in_functions (g.C.Check.forms l.check) l.kind l.place l.names l.j (drop l.j l.functions) ≡ first_in_functions (g.C.Check.forms l.check) l.kind l.place l.names 0 l.functions;
  outside : IsOutside l.at;
}
