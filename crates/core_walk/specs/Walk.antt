-- Looking at nodes one after another, up to the first at which a check fails. This project's own.
use Rattle.std.specs.Prelude.{◌≡◌, ℕ, suc, Bool, true, false, List, [], ◌∷◌, Option, Some, None, Result}
use Rattle.std.specs.declared.result.Result.TheVariants.{Ok, Err}
use Rattle.hy_core.specs.Nodes.{AnExpr, APattern, FirstPattern, Context, Node}
use Rattle.hy_core.specs.declared.fault.Form.{Form}
use Rattle.hy_core.specs.declared.fault.Form.TheVariants.{Absent}
use Rattle.hy_core.specs.declared.tree.Expr.{Expr}
use Rattle.hy_core.specs.declared.tree.Function.{Function}
use Rattle.hy_core.specs.declared.tree.Module.{Module}
use Rattle.hy_core.specs.declared.tree.Pattern.{Pattern}
use Rattle.core_walk.specs.declared.position.Position.{Position}
use Rattle.core_walk.specs.declared.position.Demand.{Demand}
use Rattle.core_walk.specs.declared.stop.Stop.{Stop}
use Rattle.core_walk.specs.declared.stop.Stop.TheVariants as stop

abbrev pub context_of : Position → Demand → Context
context_of at demand = record {
  scope = at.scope;
  locals = at.locals;
  needs = demand.needs;
  in_guard = demand.in_guard;
  place = demand.place;
}

-- what a check says: the form of the fault of an expression and of the patterns of a clause, and
-- whether a function at its place has it
pub record Forms : Type 0 where
  pub of_expr : Module → Expr → Context → Option Form
  pub of_patterns : List Pattern → Option Form
  pub of_function : Module → (place : ℕ) → Function → Bool

-- what a check says of a node. A pattern that isn't the first of its clause never fails
abbrev pub form_at : Forms → Module → Node → Option Form
form_at forms m n = elim n.piece [
  | AnExpr x ↦ forms.of_expr m x n.context
  | APattern p ↦ None
  | FirstPattern ps ↦ forms.of_patterns ps
]

-- the form of a fault whose kind tells all, where there is one
abbrev pub form_if : Bool → Option Form
form_if true = Some Absent
form_if false = None

-- what comes of looking at nodes from a number on: the number behind them, or the first that fails
pub data Outcome : Type 0 where
  Passed : ℕ → Outcome
  Fails : (node : ℕ) → Form → Outcome

abbrev pub looked : Option Form → ℕ → Outcome → Outcome
looked None k later = later
looked (Some form) k later = Fails k form

abbrev pub walked : (Node → Option Form) → List Node → ℕ → Outcome
walked check [] k = Passed k
walked check (n ∷ ns) k = looked (check n) k (walked check ns (suc k))

-- the nodes are passed, and what is bound around them is as it was
pub record IsPassed (check : Node → Option Form) (ns : List Node)
    (before after : Position) : Type 0 where
  pub passed : walked check ns before.node ≡ Passed after.node
  pub same_scope : after.scope ≡ before.scope
  pub same_locals : after.locals ≡ before.locals

-- the answer is the first node that fails
abbrev pub Reports : Stop → Outcome → Type 0
Reports (stop.Found found) outcome = outcome ≡ Fails found.node found.form
Reports stop.Memory outcome = Unit {0}

-- what a walk over these nodes answers
abbrev pub Walks : {A : Type 0} → Result A Stop → (Node → Option Form) → List Node → Position
    → Position → Type 0
Walks (Ok x) check ns before after = IsPassed check ns before after
Walks (Err s) check ns before after = Reports s (walked check ns before.node)
