-- A check that shows a kind of fault exactly finds the first fault of that kind.
use Rattle.std.proofs.Common.{◌≡◌, ℕ, ◌≤◌, true, List, Option, Some, Result, refl, sym, ap, ◌∙◌, subst}
use Rattle.std.specs.Prelude.{IfOk}
use Rattle.std.specs.declared.result.Result.TheVariants.{Ok, Err}
use Rattle.hy_terms.specs.declared.memory.Memory.{Memory}
use Rattle.hy_core.specs.Faults.{fault, fault_of, IsFault, IsGivenFunction, IsNode, IsUpTo, same, form_place, order_of}
use Rattle.hy_core.specs.Nodes.{Node}
use Rattle.hy_core.specs.declared.fault.Form.{Form}
use Rattle.hy_core.specs.declared.fault.LintFault.{LintFault}
use Rattle.hy_core.specs.declared.tree.Function.{Function}
use Rattle.hy_core.specs.declared.tree.Module.{Module}
use Rattle.hy_core.specs.declared.tree.Program.{Program}
use Rattle.core_walk.specs.First.{IsFaultOf, IsFirst, IsShown, by_function, by_node, first_in_modules}
use Rattle.core_walk.specs.Walk.{Forms, form_at}
use Rattle.core_walk.proofs.FirstLemmas.{first_of, first_shown, upto_last, upto_same}

-- a fault of functions and nodes
pub data KindFault (AtNode : Module → Node → Form → Type 0) (AtFunction : Module → ℕ → Function → Type 0) (program : Program) (kind : ℕ) : LintFault → Type 0 where
  in_function : {i j : ℕ} {m : Module} {f : Function} → IsGivenFunction program i j m f → AtFunction m j f → KindFault AtNode AtFunction program kind (fault kind i j 0)
  in_node : {i j k : ℕ} {m : Module} {n : Node} {form : Form} → IsNode program i j k m n → AtNode m n form → KindFault AtNode AtFunction program kind (fault_of kind i j k form)

-- what a check says is so, and it says it of each node and each function that has the fault, of a node with the least form
pub record IsExact (forms : Forms) (AtNode : Module → Node → Form → Type 0) (AtFunction : Module → ℕ → Function → Type 0) : Type 0 where
  pub node_sound : (m : Module) (n : Node) (form : Form) → form_at forms m n ≡ Some form → AtNode m n form
  pub node_complete : (m : Module) (n : Node) (form : Form) → AtNode m n form → (least : Form) × (form_at forms m n ≡ Some least) × (form_place least ≤ form_place form)
  pub function_sound : (m : Module) (j : ℕ) (f : Function) → forms.of_function m j f ≡ true → AtFunction m j f
  pub function_complete : (m : Module) (j : ℕ) (f : Function) → AtFunction m j f → forms.of_function m j f ≡ true

module _ (forms : Forms) (AtNode : Module → Node → Form → Type 0) (AtFunction : Module → ℕ → Function → Type 0) (exact : IsExact forms AtNode AtFunction) (program : Program) (kind : ℕ) where
  shown_is : (x : LintFault) → IsShown forms program kind x → KindFault AtNode AtFunction program kind x
  shown_is x (by_function {j = j} {m = m} {f = f} around e) = in_function around (exact.function_sound m j f e)
  shown_is x (by_node {m = m} {n = n} {form = form} stands e) = in_node stands (exact.node_sound m n form e)

  is_shown : (y : LintFault) → KindFault AtNode AtFunction program kind y → (x : LintFault) × IsShown forms program kind x × IsUpTo (order_of x) (order_of y)
  is_shown y (in_function {i = i} {j = j} {m = m} {f = f} around h) = (fault kind i j 0, by_function around (exact.function_complete m j f h), upto_same _)
  is_shown y (in_node {i = i} {j = j} {k = k} {m = m} {n = n} {form = form} stands h) =
      let r = exact.node_complete m n form h in
      (fault_of kind i j k r.0, by_node stands r.1, same (same (same (same (upto_last (form_place r.0) (form_place form) r.2)))))

  of_kind : (x : LintFault) → KindFault AtNode AtFunction program kind x → x.kind ≡ kind
  of_kind x (in_function around h) = refl
  of_kind x (in_node stands h) = refl

  -- where the faults that a check shows are those that hold
  pub holding_first : (Holds : LintFault → Type 0) → ((x : LintFault) → KindFault AtNode AtFunction program kind x → Holds x) → ((x : LintFault) → Holds x → KindFault AtNode AtFunction program kind x)
      → IsFirst Holds (first_in_modules forms kind 0 program.given)
  holding_first Holds from to =
      first_of (λ x h. from x (shown_is x h)) (λ y h. is_shown y (to y h)) (first_in_modules forms kind 0 program.given) (first_shown forms kind program)

  -- where the faults of this kind are those of the program
  pub exact_first : ((x : LintFault) → KindFault AtNode AtFunction program kind x → IsFault program x) → ((x : LintFault) → IsFault program x → x.kind ≡ kind → KindFault AtNode AtFunction program kind x)
      → IsFirst (IsFaultOf program kind) (first_in_modules forms kind 0 program.given)
  exact_first from to = holding_first (IsFaultOf program kind) (λ x k. record { holds = from x k; of_kind = of_kind x k }) (λ y h. to y h.holds h.of_kind)

-- an answer that is the first in the given modules
pub answers : (Holds : LintFault → Type 0) (r : Result (Option LintFault) Memory) (first : List Module → Option LintFault) (modules given : List Module) → IfOk r (λ fault. fault ≡ first modules) → modules ≡ given → IsFirst Holds (first given) → IfOk r (IsFirst Holds)
answers Holds (Ok found) first modules given is equal holds = subst (IsFirst Holds) (sym (is ∙ ap first equal)) holds
answers Holds (Err e) first modules given is equal holds = tt
