-- The functions that lowering makes are those of the program.
use Rattle.std.proofs.Common.{◌≡◌, ℕ, ◌+◌, List, [], ◌∷◌, ◌++◌, length, map, Some, false}
use Rattle.std.proofs.Common.{refl, sym, ap, ◌∙◌, subst, arith}
use Rattle.std.specs.Prelude.{◌==◌}
use Rattle.std.specs.List.{All, AllByRecursion, IsDistinct}
use Rattle.std.proofs.lemmas.Bool.{ne_eqb}
use Rattle.std.proofs.lemmas.List.Elements.{All-nil, All-cons, All-head, All-tail}
use Rattle.core_accepted.specs.TreeSites.{Site, tree_sites, program_tree_sites}
use Rattle.hy_core.specs.declared.info.SiteInfo.{SiteInfo}
use Rattle.hy_core.specs.KnownTrees.{IsKnown, IsKnownFunction, arities_of}
use Rattle.hy_core.specs.Resolved.{FunctionTree}
use Rattle.hy_ir.specs.Meaning.{kind_at}
use Rattle.hy_ir.specs.View.{parts_in}
use Rattle.lifted_program.specs.Flat.{IsFlat}
use Rattle.lifted_program.proofs.Variables.{Out}
use Rattle.program_code.specs.HeldRegisters.{Held}
use Rattle.program_code.specs.ProgramCode.{IsFunctionOf, AreFunctionsOf, parameter_registers}
use Rattle.program_code.specs.WrittenRegisters.{tree_writes}
use Rattle.program_code.proofs.RegisterLemmas.{NoTwice}
use Rattle.lowered_code.specs.Builder.{Builder, Tail, End, beginning, written_last, written_tree}
use Rattle.lowered_code.specs.Builder.{registers_from}
use Rattle.lowered_code.specs.LoweredCode.{lowered_function}
use Rattle.lowered_code.specs.LoweredExpressions.{lowered}
use Rattle.lowered_code.specs.LoweredGuards.{bound_to}
use Rattle.lowered_code.specs.LoweringLaws.{IsLowerable, WritesEachRegister}
use Rattle.lowered_code.proofs.Expressions.{variables_bound, lowered_meets}
use Rattle.lowered_code.proofs.Numbers.{numbers_append, numbers_once, parameters_are}
use Rattle.lowered_code.proofs.Numbers.{length_parameters}
use Rattle.lowered_code.proofs.Pieces.{AreSites, sites_front, sites_back, holding_is}
use Rattle.lowered_code.proofs.Wholes.{Whole, whole}

others_differ : (q : ℕ) (ws : List ℕ) → Out q ws → AllByRecursion (λ w. (q == w) ≡ false) ws
others_differ q [] h = tt
others_differ q (w ∷ ws) h = (ne_eqb q w h.0, others_differ q ws h.1)

distinct : (ws : List ℕ) → NoTwice ws → IsDistinct ◌==◌ ws
unfolding IsDistinct
distinct [] h = tt
distinct (w ∷ ws) h = (others_differ w ws h.0, distinct ws h.1)

-- the registers of the parameters
abbrev pub parameters_held : FunctionTree → Held
parameters_held f = bound_to f.parameters (parameter_registers 0 f.parameters) []

abbrev pub body_of : FunctionTree → Builder × End
body_of f = lowered f.body (parameters_held f) 1 Tail (beginning (length f.parameters))

module _ (sites : List SiteInfo) (arities : List ℕ) where
  body_meets : (f : FunctionTree) → IsKnownFunction arities f → IsFlat f.body
      → AreSites sites (tree_sites f.body)
      → Whole sites (parameters_held f) f.body Tail 1 (length f.parameters) (body_of f)
  body_meets f k flat s =
      let known = subst (λ scope. IsKnown arities scope [] 1 f.body)
      (sym (variables_bound f.parameters (parameter_registers 0 f.parameters) [])) k in
      whole sites (parameters_held f) f.body Tail 1 (length f.parameters) (body_of f).0
      (body_of f).1 refl (lowered_meets sites arities f.body (parameters_held f) 1 Tail
      (beginning (length f.parameters)) refl known flat s)

  in_order : (f : FunctionTree)
      → Whole sites (parameters_held f) f.body Tail 1 (length f.parameters) (body_of f)
      → WritesEachRegister f
  in_order f w =
      let n = length f.parameters in
      let zero_first : n ≡ 0 + n = omega arith in
      (λ i. parameters_are 0 f.parameters i ++ w.outs i)
      ∙ sym (numbers_append 0 n w.new n zero_first) ∙ sym (ap (registers_from 0) w.moved)

  function_is : (f : FunctionTree)
      → Whole sites (parameters_held f) f.body Tail 1 (length f.parameters) (body_of f)
      → IsFunctionOf sites f (lowered_function f)
  function_is f w = record {
    params = refl;
    held = parameters_held f;
    holds = holding_is f.parameters (parameter_registers 0 f.parameters) []
        (length_parameters 0 f.parameters);
    parts = parts_in (body_of f).0.parts;
    last = written_last (body_of f).1 (body_of f).0.registers;
    body = refl;
    carries_out = w.code;
    once = distinct (parameter_registers 0 f.parameters ++ tree_writes (written_tree (body_of f)))
        (subst NoTwice (sym (in_order f w)) (numbers_once 0 (body_of f).0.next));
  }

  pub functions_are : (fs : List FunctionTree) → All (IsKnownFunction arities) fs
      → All (λ (f : FunctionTree). IsFlat f.body) fs → AreSites sites (program_tree_sites fs)
      → AreFunctionsOf sites fs (map lowered_function fs)
  functions_are [] k flat s = tt
  functions_are (f ∷ fs) k flat s = (
    function_is f (body_meets f (All-head (IsKnownFunction arities) f fs k)
        (All-head (λ (g : FunctionTree). IsFlat g.body) f fs flat)
        (sites_front sites (tree_sites f.body) (program_tree_sites fs) s)),
    functions_are fs (All-tail (IsKnownFunction arities) f fs k)
        (All-tail (λ (g : FunctionTree). IsFlat g.body) f fs flat)
        (sites_back sites (tree_sites f.body) (program_tree_sites fs) s),
  )

  pub all_in_order : (fs : List FunctionTree) → All (IsKnownFunction arities) fs
      → All (λ (f : FunctionTree). IsFlat f.body) fs → AreSites sites (program_tree_sites fs)
      → All WritesEachRegister fs
  all_in_order [] k flat s = All-nil WritesEachRegister
  all_in_order (f ∷ fs) k flat s =
      All-cons WritesEachRegister f fs
      (in_order f (body_meets f (All-head (IsKnownFunction arities) f fs k)
      (All-head (λ (g : FunctionTree). IsFlat g.body) f fs flat)
      (sites_front sites (tree_sites f.body) (program_tree_sites fs) s)))
      (all_in_order fs (All-tail (IsKnownFunction arities) f fs k)
      (All-tail (λ (g : FunctionTree). IsFlat g.body) f fs flat)
      (sites_back sites (tree_sites f.body) (program_tree_sites fs) s))

pub are_sites : (sites : List SiteInfo) (ss : List Site)
    → All (λ (s : Site). kind_at sites s.0 ≡ Some s.1) ss → AreSites sites ss
are_sites sites [] h = tt
are_sites sites (s ∷ ss) h = (
  All-head (λ (q : Site). kind_at sites q.0 ≡ Some q.1) s ss h,
  are_sites sites ss (All-tail (λ (q : Site). kind_at sites q.0 ≡ Some q.1) s ss h),
)

pub lowered_are : (sites : List SiteInfo) (lifted : List FunctionTree) → IsLowerable sites lifted
    → AreFunctionsOf sites lifted (map lowered_function lifted)
lowered_are sites lifted h =
    functions_are sites (arities_of lifted) lifted h.known h.flat
    (are_sites sites (program_tree_sites lifted) h.stand)

pub registers_in_order : (sites : List SiteInfo) (lifted : List FunctionTree)
    → IsLowerable sites lifted → All WritesEachRegister lifted
registers_in_order sites lifted h =
    all_in_order sites (arities_of lifted) lifted h.known h.flat
    (are_sites sites (program_tree_sites lifted) h.stand)
