use Rattle.std.proofs.Common.{◌↔◌, ℕ, List, Contains, subst, ap, ◌∙◌}
use Rattle.flow_sets.specs.Least.{Flows}
use Rattle.flow_sets.specs.declared.inclusion.FlowSet.{FlowSet}
use Rattle.flow_sets.specs.declared.inclusion.Inclusion.{Inclusion}
use Rattle.flow_sets.specs.Targets.{goes_to_many}
use Rattle.flow_solver.specs.code.Members.{IsIn}
use Rattle.flow_solver.proofs.Tabled.{tabled, each-list_all, any-of}
use Rattle.flow_solver.proofs.table.solve.Goals as goal

pub returns : goal.returns
returns c =
    let rules = c.args.rules.now.items in
    let members = c.in_ok-members.members.keys in record {
      exact =
          tabled (Contains rules) (each-list_all goes_to_many rules c.args.rules.now.many)
          c.in_ok-table.table members
          (λ X s m. c.in_ok-table.ensures X s m ∙ ap (any-of X s) c.as_slice-2.ensures.keys)
          (subst
          (λ (rs : List Inclusion). (X : FlowSet) (s : ℕ) → IsIn members X s ↔ Flows (Contains rs) X
          s) c.as_slice.ensures c.in_ok-members.ensures);
    }
