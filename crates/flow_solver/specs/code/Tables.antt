-- What the worklist keeps, as lists: members, and under sets of fields sites and sets.
use Rattle.std.specs.Prelude.{Bool, ℕ, List}
use Rattle.flow_sets.specs.declared.inclusion.FlowSet.{FlowSet}
use Rattle.flow_solver.specs.code.Lists.{listed}
use Rattle.flow_solver.specs.contracts.fields.FieldSetPartialEq.TheImpl as fields
use Rattle.flow_solver.specs.declared.fields.FieldSet.{FieldSet}
use Rattle.flow_solver.specs.declared.members.Member.{Member}
use Rattle.flow_solver.specs.declared.work.Work.{Work}

abbrev pub is_fields : FieldSet → FieldSet → Bool
is_fields x y = (fields.eq-value).it x y

-- the members, the sites that were carried to fields, and the sets that fields go into
pub record State : Type 0 where
  pub members : List Member
  pub sites : FieldSet → List ℕ
  pub targets : FieldSet → List FlowSet

abbrev pub state_of : Work → State
state_of w = record {
  members = w.members.keys;
  sites = λ p. listed is_fields w.sites p;
  targets = λ p. listed is_fields w.targets p;
}
