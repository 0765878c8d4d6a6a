-- Lifted functions that have the numbers of trees are read as these.
use Rattle.std.proofs.Common.{◌≡◌, ℕ, suc, List, [], ◌∷◌, map, refl, sym, ap, ◌∙◌}
use Rattle.std.specs.List.{All}
use Rattle.hy_core.specs.ProgramTrees.{function_trees}
use Rattle.hy_core.specs.Resolve.{Names}
use Rattle.hy_core.specs.Resolved.{FunctionTree}
use Rattle.hy_core.specs.Supplied.{supplied}
use Rattle.hy_core.specs.declared.info.SiteInfo.{SiteInfo}
use Rattle.hy_core.specs.declared.tree.Module.{Module}
use Rattle.lifted_numbers.specs.NumberLaws.{HaveNumbers, lifted_texts}
use Rattle.lifted_numbers.specs.TreeNumbers.{bare_function}
use Rattle.lifted_numbers.proofs.BareLifted.{program-bare}
use Rattle.lifted_numbers.proofs.BareResolved.{modules_from-bare}
use Rattle.lifted_numbers.proofs.Numbering.{tree_supplied}
use Rattle.lifted_program.specs.LiftedProgram as tree
use Rattle.lifted_syntax.specs.ExtractedSyntax.{lifted_program, plain_function}
use Rattle.lifted_syntax.specs.LiftedFunctions.{trees_from}
use Rattle.lifted_syntax.specs.LiftingLaws.{modules_resolved}
use Rattle.lifted_syntax.specs.Whole.{IsWhole}
use Rattle.lifted_syntax.specs.declared.lifted.LiftedFunction.{LiftedFunction}
use Rattle.lifted_syntax.proofs.ProgramResolved.{program-plain}

abbrev head_of : {A : Type 0} → (d : A) → List A → A
head_of d [] = d
head_of d (x ∷ xs) = x

abbrev tail_of : {A : Type 0} → List A → List A
tail_of [] = []
tail_of (x ∷ xs) = xs

pub trees_read : (names : Names) (sites : List SiteInfo) (k : ℕ) (fs : List LiftedFunction)
    (ts : List FunctionTree)
    → map (plain_function names) (lifted_texts fs) ≡ map bare_function ts
    → HaveNumbers sites k fs ts → trees_from names sites k fs ≡ ts
trees_read names sites k [] [] same h = refl
trees_read names sites k [] (t ∷ ts) same h = absurd h
trees_read names sites k (f ∷ fs) [] same h = absurd h
trees_read names sites k (f ∷ fs) (t ∷ ts) same h =
    let one : FunctionTree = bare_function t in
    let first = ap (head_of one) same in
    let rest = trees_read names sites (suc k) fs ts (ap tail_of same) h.3 in
    let body =
    (λ i. supplied (first i).body (record { events = h.1 i; sites = h.2 i }))
    ∙ tree_supplied t.body h.0 in
    λ i. record { parameters = (first i).parameters; body = body i } ∷ rest i

pub program-read : (names : Names) (sites : List ℕ) (captured : ℕ → List ℕ)
    (modules : List Module) → All (λ f. IsWhole f.body) (modules_resolved names modules)
    → map (plain_function names) (lifted_program names captured modules)
    ≡ map bare_function (tree.lifted_program captured (function_trees names sites modules))
program-read names sites captured modules h =
    program-plain captured names modules h
    ∙ sym (program-bare captured (function_trees names sites modules)
    ∙ ap (tree.lifted_program captured) (modules_from-bare names sites modules))
