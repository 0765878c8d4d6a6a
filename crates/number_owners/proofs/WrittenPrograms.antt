-- The owners of the events of a program's trees are those of its syntax.
use Rattle.std.proofs.Common.{◌≡◌, ℕ, suc, ◌+◌, List, [], ◌∷◌, ◌++◌, length, map, refl, sym, ap, ◌∙◌}
use Rattle.std.proofs.lemmas.List.{length-append}
use Rattle.std.proofs.lemmas.List.Elements.{All-head, All-tail}
use Rattle.std.specs.List.{All}
use Rattle.hy_core.specs.Numbered.{function_count}
use Rattle.hy_core.specs.ProgramTrees.{function_trees, resolved}
use Rattle.hy_core.specs.Resolve.{Names}
use Rattle.hy_core.specs.Resolved as r
use Rattle.hy_core.specs.Resolved.{Head, Expression, Expressions, NoExpressions, MoreExpressions}
use Rattle.hy_core.specs.Resolved.{Clauses, NoClauses, MoreClauses}
use Rattle.hy_core.specs.Resolved.{Functions, NoFunctions, MoreFunctions, FunctionTree}
use Rattle.hy_core.specs.Syntax.{syntax_of}
use Rattle.hy_core.specs.declared.tree.Function.{Function}
use Rattle.hy_core.specs.declared.tree.Module.{Module}
use Rattle.lifted_numbers.proofs.BareResolved.{modules_from-bare}
use Rattle.lifted_numbers.specs.TreeNumbers.{all_bare, bare, bare_function, bare_head, clauses_bare}
use Rattle.lifted_numbers.specs.TreeNumbers.{functions_bare}
use Rattle.lifted_program.specs.LetrecNumbers as tree
use Rattle.lifted_program.specs.LetrecNumbers.{count_all, count_clauses, count_functions}
use Rattle.lifted_syntax.specs.LiftedSyntax.{count}
use Rattle.lifted_syntax.specs.LiftingLaws.{functions_resolved, modules_resolved}
use Rattle.lifted_syntax.specs.Whole.{IsWhole}
use Rattle.lifted_syntax.proofs.LiftedCounts.{counted}
use Rattle.number_owners.specs.EventLaws.{WrittenOwnersAreTrees}
use Rattle.number_owners.specs.EventOwners.{all_event_owners, clauses_event_owners, event_owners}
use Rattle.number_owners.specs.EventOwners.{event_owners_from, functions_event_owners}
use Rattle.number_owners.specs.EventOwners.{head_event_owners}
use Rattle.number_owners.specs.WrittenOwners.{functions_written_owners, modules_functions}
use Rattle.number_owners.proofs.WrittenOwners.{owners_are}

-- numbers are no matter

head_same : (k : ℕ) (head : Head)
    → head_event_owners k (bare_head head) ≡ head_event_owners k head
head_same k (r.Setelement site) = refl
head_same k (r.Send node) = refl
head_same k (r.Spawn node f) = refl
head_same k (r.Display node) = refl
head_same k _ = refl

mutual
  counts_bare : (e : Expression) → tree.count (bare e) ≡ tree.count e
  counts_bare (r.Tuple site es) = all_counts_bare es
  counts_bare (r.ListOf site es e) = λ i. all_counts_bare es i + counts_bare e i
  counts_bare (r.Values es) = all_counts_bare es
  counts_bare (r.Let xs e b) = λ i. counts_bare e i + counts_bare b i
  counts_bare (r.Do e b) = λ i. counts_bare e i + counts_bare b i
  counts_bare (r.Case e cs) = λ i. counts_bare e i + clauses_counts_bare cs i
  counts_bare (r.Letrec fs e) = λ i. functions_counts_bare fs i + counts_bare e i
  counts_bare (r.Call head es) = all_counts_bare es
  counts_bare (r.Receive cs timeout e) = λ i. clauses_counts_bare cs i + counts_bare e i
  counts_bare _ = refl

  all_counts_bare : (es : Expressions) → count_all (all_bare es) ≡ count_all es
  all_counts_bare NoExpressions = refl
  all_counts_bare (MoreExpressions e es) = λ i. counts_bare e i + all_counts_bare es i

  clauses_counts_bare : (cs : Clauses) → count_clauses (clauses_bare cs) ≡ count_clauses cs
  clauses_counts_bare NoClauses = refl
  clauses_counts_bare (MoreClauses ps g b cs) =
      λ i. counts_bare g i + (counts_bare b i + clauses_counts_bare cs i)

  functions_counts_bare : (fs : Functions)
      → count_functions (functions_bare fs) ≡ count_functions fs
  functions_counts_bare NoFunctions = refl
  functions_counts_bare (MoreFunctions f xs b fs) =
      λ i. suc (counts_bare b i + functions_counts_bare fs i)

mutual
  owners_bare : (e : Expression) (k n : ℕ) → event_owners k n (bare e) ≡ event_owners k n e
  owners_bare (r.Tuple site es) k n = all_owners_bare es k n
  owners_bare (r.ListOf site es e) k n =
      λ i. all_owners_bare es k n i ++ owners_bare e k (n + all_counts_bare es i) i
  owners_bare (r.Values es) k n = all_owners_bare es k n
  owners_bare (r.Let xs e b) k n =
      λ i. owners_bare e k n i ++ owners_bare b k (n + counts_bare e i) i
  owners_bare (r.Do e b) k n =
      λ i. owners_bare e k n i ++ owners_bare b k (n + counts_bare e i) i
  owners_bare (r.Case e cs) k n =
      λ i. owners_bare e k n i ++ clauses_owners_bare cs k (n + counts_bare e i) i
  owners_bare (r.Letrec fs e) k n =
      λ i. functions_owners_bare fs n i ++ owners_bare e k (n + functions_counts_bare fs i) i
  owners_bare (r.Call head es) k n = λ i. head_same k head i ++ all_owners_bare es k n i
  owners_bare (r.Receive cs timeout e) k n =
      λ i. clauses_owners_bare cs k n i ++ owners_bare e k (n + clauses_counts_bare cs i) i
  owners_bare _ k n = refl

  all_owners_bare : (es : Expressions) (k n : ℕ)
      → all_event_owners k n (all_bare es) ≡ all_event_owners k n es
  all_owners_bare NoExpressions k n = refl
  all_owners_bare (MoreExpressions e es) k n =
      λ i. owners_bare e k n i ++ all_owners_bare es k (n + counts_bare e i) i

  clauses_owners_bare : (cs : Clauses) (k n : ℕ)
      → clauses_event_owners k n (clauses_bare cs) ≡ clauses_event_owners k n cs
  clauses_owners_bare NoClauses k n = refl
  clauses_owners_bare (MoreClauses ps g b cs) k n =
      λ i. owners_bare g k n i
      ++ (owners_bare b k (n + counts_bare g i) i
      ++ clauses_owners_bare cs k (n + counts_bare g i + counts_bare b i) i)

  functions_owners_bare : (fs : Functions) (n : ℕ)
      → functions_event_owners n (functions_bare fs) ≡ functions_event_owners n fs
  functions_owners_bare NoFunctions n = refl
  functions_owners_bare (MoreFunctions f xs b fs) n =
      λ i. owners_bare b n (suc n) i ++ functions_owners_bare fs (suc (n + counts_bare b i)) i

trees_bare : (k n : ℕ) (fs : List FunctionTree)
    → event_owners_from k n (map bare_function fs) ≡ event_owners_from k n fs
trees_bare k n [] = refl
trees_bare k n (f ∷ fs) =
    λ i. owners_bare f.body k n i
    ++ (ap (λ c. event_owners_from (suc k) (n + c) (map bare_function fs)) (counts_bare f.body)
    ∙ trees_bare (suc k) (n + tree.count f.body) fs) i

bare_many : (fs : List FunctionTree) → length (map bare_function fs) ≡ length fs
bare_many [] = refl
bare_many (f ∷ fs) = ap (λ c. suc c) (bare_many fs)

-- functions of modules

module _ (names : Names) where
  functions_many : (current : ℕ) (fs : List Function)
      → length (functions_resolved names current fs) ≡ length fs
  functions_many current [] = refl
  functions_many current (f ∷ fs) = ap (λ c. suc c) (functions_many current fs)

  modules_many : (ms : List Module) → length (modules_resolved names ms) ≡ function_count ms
  modules_many [] = refl
  modules_many (m ∷ ms) =
      length-append (functions_resolved names m.name m.functions) (modules_resolved names ms)
      ∙ (λ i. functions_many m.name m.functions i + modules_many ms i)

  -- functions of one module, and behind them others
  functions_are : (current : ℕ) (fs : List Function) (ts : List FunctionTree) (gs : List Function)
      (k n : ℕ)
      → ((j m : ℕ) → All (λ f. IsWhole f.body) ts
      → event_owners_from j m ts ≡ functions_written_owners names.atoms j m gs)
      → All (λ f. IsWhole f.body) (functions_resolved names current fs ++ ts)
      → event_owners_from k n (functions_resolved names current fs ++ ts)
      ≡ functions_written_owners names.atoms k n (fs ++ gs)
  functions_are current [] ts gs k n behind whole = behind k n whole
  functions_are current (f ∷ fs) ts gs k n behind whole =
      let body = resolved names current f in
      let first : FunctionTree = record { parameters = f.params; body = body } in
      let others = functions_resolved names current fs ++ ts in
      let here = All-head (λ f. IsWhole f.body) first others whole in
      let later = All-tail (λ f. IsWhole f.body) first others whole in
      λ i. sym (owners_are names current (syntax_of f.body) k n [] here) i
      ++ (ap (λ c. event_owners_from (suc k) (n + c) others)
      (counted names current (syntax_of f.body) [] here)
      ∙ functions_are current fs ts gs (suc k) (n + count (syntax_of f.body)) behind later) i

  modules_are : (ms : List Module) (k n : ℕ)
      → All (λ f. IsWhole f.body) (modules_resolved names ms)
      → event_owners_from k n (modules_resolved names ms)
      ≡ functions_written_owners names.atoms k n (modules_functions ms)
  modules_are [] k n whole = refl
  modules_are (m ∷ ms) k n whole =
      functions_are m.name m.functions (modules_resolved names ms)
      (modules_functions ms) k n (λ j m. modules_are ms j m) whole

pub written_owners_are : WrittenOwnersAreTrees
written_owners_are names sites ms whole =
    let trees = function_trees names sites ms in
    let bared = modules_from-bare names sites ms in
    let long : length trees ≡ function_count ms =
    sym (bare_many trees) ∙ ap length bared ∙ modules_many names ms in
    sym (trees_bare 0 (length trees) trees)
    ∙ (λ i. event_owners_from 0 (long i) (bared i))
    ∙ modules_are names ms 0 (function_count ms) whole
