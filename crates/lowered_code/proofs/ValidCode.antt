-- The code that lowering makes is valid.
use Rattle.std.proofs.Common.{◌≡◌, ℕ, ◌<◌, ◌≤◌, List, [], ◌∷◌, length, map, Some, refl}
use Rattle.std.proofs.Common.{sym, ◌∙◌, subst, arith}
use Rattle.std.specs.Prelude.{slice_get}
use Rattle.std.specs.List.{All}
use Rattle.std.proofs.lemmas.List.{length-map}
use Rattle.std.proofs.lemmas.List.Elements.{All-nil, All-cons, All-head, All-tail}
use Rattle.core_accepted.specs.TreeSites.{tree_sites, program_tree_sites}
use Rattle.hy_core.specs.declared.info.FunInfo.{FunInfo}
use Rattle.hy_core.specs.declared.info.SiteInfo.{SiteInfo}
use Rattle.hy_core.specs.KnownTrees.{IsKnown, IsKnownFunction, arities_of}
use Rattle.hy_core.specs.Resolved.{FunctionTree}
use Rattle.hy_ir.specs.Code.{Code}
use Rattle.hy_ir.specs.Valid.{Takes, IsValid, IsValidFunction}
use Rattle.lifted_program.specs.Flat.{IsFlat}
use Rattle.program_code.specs.ProgramCode.{parameter_registers}
use Rattle.lowered_code.specs.Builder.{Tail, beginning}
use Rattle.lowered_code.specs.InBounds.{IsInBounds, IsInLimits}
use Rattle.lowered_code.specs.LoweredCode.{lowered_code, lowered_function}
use Rattle.lowered_code.specs.LoweringLaws.{IsLowerable}
use Rattle.lowered_code.proofs.Arities.{function_takes}
use Rattle.lowered_code.proofs.Below.{bound_below, parameters_below}
use Rattle.lowered_code.proofs.Expressions.{variables_bound}
use Rattle.lowered_code.proofs.Functions.{parameters_held, body_of, are_sites}
use Rattle.lowered_code.proofs.Numbers.{length_parameters}
use Rattle.lowered_code.proofs.Pieces.{AreSites, sites_front, sites_back}
use Rattle.lowered_code.proofs.ValidExpressions.{lowered_sound}
use Rattle.lowered_code.proofs.ValidPieces.{beginning_sound, tree_sound}

module _ (code : Code) (arities : List ℕ) (takes : (f n : ℕ) → slice_get arities f ≡ Some n
    → (registers : ℕ) → Takes code registers f n) where
  function_valid : (f : FunctionTree) → IsKnownFunction arities f → IsFlat f.body
      → AreSites code.sites (tree_sites f.body) → IsInBounds f.body
      → IsValidFunction code (lowered_function f)
  function_valid f k flat s i =
      let n = length f.parameters in
      let rs = parameter_registers 0 f.parameters in
      let known = subst (λ scope. IsKnown arities scope [] 1 f.body)
      (sym (variables_bound f.parameters rs [])) k in
      let below = bound_below n f.parameters rs [] (length_parameters 0 f.parameters)
      (parameters_below 0 n f.parameters (omega arith)) tt in
      let t = tree_sound code Tail 1 n (body_of f).0 (body_of f).1 refl
      (lowered_sound code arities takes f.body (parameters_held f) 1 Tail (beginning n) refl known
      flat s i below (beginning_sound code n)) in record {
        params = t.rises;
        body = t.tree (body_of f).0.next (omega arith);
      }

  functions_valid : (fs : List FunctionTree) → All (IsKnownFunction arities) fs
      → All (λ (f : FunctionTree). IsFlat f.body) fs
      → AreSites code.sites (program_tree_sites fs)
      → All (λ (f : FunctionTree). IsInBounds f.body) fs
      → All (IsValidFunction code) (map lowered_function fs)
  functions_valid [] k flat s i = All-nil (IsValidFunction code)
  functions_valid (f ∷ fs) k flat s i =
      All-cons (IsValidFunction code) (lowered_function f) (map lowered_function fs)
      (function_valid f (All-head (IsKnownFunction arities) f fs k)
      (All-head (λ (g : FunctionTree). IsFlat g.body) f fs flat)
      (sites_front code.sites (tree_sites f.body) (program_tree_sites fs) s)
      (All-head (λ (g : FunctionTree). IsInBounds g.body) f fs i))
      (functions_valid fs (All-tail (IsKnownFunction arities) f fs k)
      (All-tail (λ (g : FunctionTree). IsFlat g.body) f fs flat)
      (sites_back code.sites (tree_sites f.body) (program_tree_sites fs) s)
      (All-tail (λ (g : FunctionTree). IsInBounds g.body) f fs i))

pub lowered_valid : (sites : List SiteInfo) (names : List FunInfo) (atoms : List (List ℕ))
    (lifted : List FunctionTree) → IsLowerable sites lifted → IsInLimits sites names lifted
    → IsValid (lowered_code sites names atoms lifted)
lowered_valid sites names atoms lifted h limits =
    let code = lowered_code sites names atoms lifted in
    let count = length-map lifted lowered_function in record {
      few_functions = subst (λ n. n ≤ 65535) (sym count) limits.few_functions;
      few_sites = limits.few_sites;
      names = limits.as_many_names ∙ sym count;
      sites = subst (λ n. All (λ (site : SiteInfo). site.function < n) sites) (sym count)
          limits.in_functions;
      functions = functions_valid code (arities_of lifted)
          (λ f n e registers. function_takes lifted f n e) lifted h.known h.flat
          (are_sites sites (program_tree_sites lifted) h.stand) limits.bodies;
    }
