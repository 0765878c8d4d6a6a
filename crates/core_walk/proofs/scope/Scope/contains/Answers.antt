use Rattle.std.proofs.Common.{nat_lt, ap, sym, ◌∙◌, rules}
use Rattle.std.proofs.lemmas.List.{get_or_past}
use Rattle.core_walk.specs.Bound.{is_bound}
use Rattle.core_walk.proofs.BoundLemmas.{is_bound-times, counts-read}
use Rattle.core_walk.proofs.scope.Scope.contains.Goals as goal

pub returns-in-Some : goal.returns-in-Some
returns-in-Some c =
    ap (nat_lt 0) (counts-read c.self.inside.counts.items c.self.inside.bound.items c.args.variable c.in-Some.count.now c.self.invariant (search rules) (search rules))
    ∙ is_bound-times c.self.inside.bound.items c.args.variable
    ∙ ap (λ bound. is_bound bound c.args.variable) c.self.view_is

pub returns-in-None : goal.returns-in-None
returns-in-None c =
    ap (nat_lt 0) (sym (get_or_past c.self.inside.counts.items c.args.variable 0 (search rules)) ∙ c.self.invariant.at c.args.variable)
    ∙ is_bound-times c.self.inside.bound.items c.args.variable
    ∙ ap (λ bound. is_bound bound c.args.variable) c.self.view_is
