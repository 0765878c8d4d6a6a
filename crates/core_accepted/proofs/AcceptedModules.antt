-- The given modules of an accepted program are fine.
use Rattle.std.proofs.Common.{ℕ, false, [], sym, subst}
use Rattle.hy_core.specs.Faults.{IsAccepted, IsGivenFunction, IsGivenModule, IsNode, forbidden_form, forbidden_in_guard, other_arity, unbound_variable, undefined_export, unknown_function, wrong_values}
use Rattle.hy_core.specs.Nodes.{Node, nodes_of}
use Rattle.hy_core.specs.Scopes.{with_variables}
use Rattle.hy_core.specs.Syntax.{syntax_of}
use Rattle.hy_core.specs.declared.tree.Function.{Function}
use Rattle.hy_core.specs.declared.tree.Module.{Module}
use Rattle.hy_core.specs.declared.tree.Program.{Program}
use Rattle.hy_core.specs.declared.place.Place.TheVariants.{Anywhere}
use Rattle.hy_core.specs.Nodes.{nodes}
use Rattle.hy_core.proofs.SyntaxLemmas.{comes_back}
use Rattle.core_accepted.proofs.AcceptedFine.{AreFineNodes, IsFineNode, body_fine}
use Rattle.core_accepted.proofs.FineTrees.{IsFine}
use Rattle.core_accepted.proofs.Membership.{InAny, placed, placed_any}
use Rattle.core_accepted.proofs.ProgramKnown.{IsFineModule}
use Rattle.core_accepted.proofs.Shapes.{stable_nat}

module _ (program : Program) (accepted : IsAccepted program) where
  node_fine : (i j k : ℕ) (m : Module) (n : Node) → IsNode program i j k m n → IsFineNode program m n
  node_fine i j k m n here = record {
    bound = λ u. accepted _ (unbound_variable here u);
    form = λ f u. accepted _ (forbidden_form here u);
    values = λ u. accepted _ (wrong_values here u);
    guard = λ u. accepted _ (forbidden_in_guard here u);
    function = λ u. accepted _ (unknown_function here u);
  }

  nodes_fine : (i j : ℕ) (m : Module) (f : Function) → IsGivenFunction program i j m f → AreFineNodes program m (nodes_of f)
  nodes_fine i j m f here n within =
      let k = placed (nodes_of f) n within in
      node_fine i j k.0 m n (record { f = f; around = here; stands = k.1 })

  function_fine : (i j : ℕ) (m : Module) (f : Function) → IsGivenFunction program i j m f → IsFine program m (with_variables [] f.params) [] 1 (syntax_of f.body)
  function_fine i j m f here =
      body_fine program m f (syntax_of f.body)
      (subst (λ x. AreFineNodes program m (nodes x (record { scope = f.params; locals = []; needs = 1; in_guard = false; place = Anywhere }))) (sym (comes_back f.body)) (nodes_fine i j m f here))

  pub given_fine : (m : Module) → InAny m program.given → IsFineModule program m
  given_fine m within =
      let i = placed_any program.given m within in
      let given : IsGivenModule program i.0 m = i.1 in
      record {
        sound = record {
          exports = λ f exported undefined. let k = placed m.exports f exported in accepted _ (undefined_export given k.1 undefined);
          fit = λ f here. let j = placed_any m.functions f here in stable_nat _ _ (λ unfit. accepted _ (other_arity (record { given = given; defined = j.1 }) unfit));
        };
        functions = λ f here. let j = placed_any m.functions f here in function_fine i.0 j.0 m f (record { given = given; defined = j.1 });
      }
