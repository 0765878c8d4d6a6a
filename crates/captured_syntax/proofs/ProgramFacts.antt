-- What is gathered of the modules of a program are the facts of its functions.
use Rattle.std.proofs.Common.{◌≡◌, ℕ, suc, ◌+◌, List, [], ◌∷◌, ◌++◌, refl, sym, ap, ◌∙◌, arith}
use Rattle.std.proofs.Common.{append_assoc, length, length-append}
use Rattle.std.specs.List.{All}
use Rattle.std.proofs.lemmas.List.Elements.{All-nil, All-cons, All-head, All-tail}
use Rattle.hy_core.specs.Numbered.{function_count}
use Rattle.hy_core.specs.ProgramTrees.{function_trees, functions_from, modules_from, resolved}
use Rattle.hy_core.specs.ProgramTrees.{supply_of}
use Rattle.hy_core.specs.Resolve.{Names}
use Rattle.hy_core.specs.Resolved.{FunctionTree}
use Rattle.hy_core.specs.Scopes.{with_variables}
use Rattle.hy_core.specs.Supplied.{behind}
use Rattle.hy_core.specs.Syntax.{syntax_of}
use Rattle.hy_core.specs.declared.tree.Function.{Function}
use Rattle.hy_core.specs.declared.tree.Module.{Module}
use Rattle.capture_flow.specs.declared.fact.Fact.{Fact}
use Rattle.lifted_program.specs.LetrecNumbers as tree
use Rattle.lifted_syntax.specs.ExtractedSyntax.{count_module}
use Rattle.lifted_syntax.specs.LiftedSyntax.{count}
use Rattle.lifted_syntax.specs.LiftingLaws.{functions_resolved, modules_resolved}
use Rattle.lifted_syntax.specs.Whole.{IsWhole}
use Rattle.lifted_syntax.proofs.LiftedCounts.{counted}
use Rattle.captured_facts.specs.Facts.{facts, facts_of, outermost}
use Rattle.captured_syntax.specs.Gathered.{binding, each_gathered, gathered_function}
use Rattle.captured_syntax.specs.Gathered.{gathered_module, gathered_modules}
use Rattle.captured_syntax.specs.Gathered.{Gathering}
use Rattle.captured_facts.proofs.FactsSupplied.{count-supplied, facts-supplied}
use Rattle.captured_syntax.proofs.GatheredFacts.{after, after-none, back-bound, follows}
use Rattle.captured_syntax.proofs.GatheredFacts.{gathered-is}

abbrev BodyIsWhole : FunctionTree → Type 0
BodyIsWhole f = IsWhole f.body

abbrev AllWhole : List FunctionTree → Type 0
AllWhole = All BodyIsWhole

whole_left : (xs ys : List FunctionTree) → AllWhole (xs ++ ys) → AllWhole xs
whole_left [] ys h = All-nil BodyIsWhole
whole_left (x ∷ xs) ys h =
    All-cons BodyIsWhole x xs (All-head BodyIsWhole x (xs ++ ys) h)
    (whole_left xs ys (All-tail BodyIsWhole x (xs ++ ys) h))

whole_right : (xs ys : List FunctionTree) → AllWhole (xs ++ ys) → AllWhole ys
whole_right [] ys h = h
whole_right (x ∷ xs) ys h = whole_right xs ys (All-tail BodyIsWhole x (xs ++ ys) h)

abbrev count_trees : List FunctionTree → ℕ
count_trees [] = 0
count_trees (f ∷ fs) = tree.count f.body + count_trees fs

facts-append : (n : ℕ) (xs ys : List FunctionTree)
    → facts_of n (xs ++ ys) ≡ facts_of n xs ++ facts_of (n + count_trees xs) ys
facts-append n [] ys = ap (λ k. facts_of k ys) (omega arith)
facts-append n (x ∷ xs) ys =
    let c = tree.count x.body in
    let sums : (n + c) + count_trees xs ≡ n + (c + count_trees xs) = omega arith in
    let own = facts outermost (with_variables [] x.parameters) [] n x.body in
    let others = facts_of (n + c) xs in
    ap (λ q. own ++ q) (facts-append (n + c) xs ys ∙ ap (λ k. others ++ facts_of k ys) sums)
    ∙ sym (append_assoc own others (facts_of (n + (c + count_trees xs)) ys))

-- a state in which nothing is bound
abbrev outside : ℕ → List Fact → Gathering
outside n q = record { scope = []; around = []; next = n; facts = q }

module _ (names : Names) where
  function-is : (current : ℕ) (f : Function) (n : ℕ) (q : List Fact)
      → IsWhole (resolved names current f)
      → gathered_function (outside n q) f ≡ after (outside n q) (count (syntax_of f.body))
      (facts outermost (with_variables [] f.params) [] n (resolved names current f))
  function-is current f n q h =
      let w = outside n q in
      back-bound w _ f.params (count (syntax_of f.body))
      (facts outermost (with_variables [] f.params) [] n (resolved names current f))
      (gathered-is names current (syntax_of f.body) outermost (binding w f.params) [] refl h)

  functions-are : (current : ℕ) (fs : List Function) (n : ℕ) (q : List Fact)
      → AllWhole (functions_resolved names current fs)
      → each_gathered gathered_function (outside n q) fs ≡ after (outside n q) (count_module fs)
      (facts_of n (functions_resolved names current fs))
  functions-are current [] n q h =
      after-none (outside n q)
  functions-are current (f ∷ fs) n q h =
      let w = outside n q in
      let rest = functions_resolved names current fs in
      let whole = All-head BodyIsWhole _ rest h in
      let c = count (syntax_of f.body) in
      let p = facts outermost (with_variables [] f.params) [] n (resolved names current f) in
      follows w (λ v. each_gathered gathered_function v fs) c (count_module fs) p
      (λ n. facts_of n rest) (function-is current f n q whole)
      (functions-are current fs (n + c) (q ++ p) (All-tail BodyIsWhole _ rest h))
      (counted names current (syntax_of f.body) [] whole)

  functions-counted : (current : ℕ) (fs : List Function)
      → AllWhole (functions_resolved names current fs)
      → count_trees (functions_resolved names current fs) ≡ count_module fs
  functions-counted current [] h = refl
  functions-counted current (f ∷ fs) h =
      let rest = functions_resolved names current fs in
      λ i. counted names current (syntax_of f.body) [] (All-head BodyIsWhole _ rest h) i
      + functions-counted current fs (All-tail BodyIsWhole _ rest h) i

  abbrev count_modules : List Module → ℕ
  count_modules [] = 0
  count_modules (m ∷ ms) = count_module m.functions + count_modules ms

  pub modules-are : (ms : List Module) (n : ℕ) (q : List Fact)
      → AllWhole (modules_resolved names ms)
      → gathered_modules (outside n q) ms
      ≡ after (outside n q) (count_modules ms) (facts_of n (modules_resolved names ms))
  modules-are [] n q h = after-none (outside n q)
  modules-are (m ∷ ms) n q h =
      let w = outside n q in
      let these = functions_resolved names m.name m.functions in
      let rest = modules_resolved names ms in
      let own = whole_left these rest h in
      let c = count_module m.functions in
      let p = facts_of n these in
      follows w (λ v. gathered_modules v ms) c (count_modules ms) p
      (λ n. facts_of n rest) (functions-are m.name m.functions n q own)
      (modules-are ms (n + c) (q ++ p) (whole_right these rest h))
      (functions-counted m.name m.functions own)
      ∙ ap (after w (c + count_modules ms)) (sym (facts-append n these rest))

  -- with the numbers of events and sites
  functions-supplied : (current : ℕ) (sites : List ℕ) (fs : List Function) (n : ℕ)
      → facts_of n (functions_from names current sites fs).0
      ≡ facts_of n (functions_resolved names current fs)
  functions-supplied current sites [] n = refl
  functions-supplied current sites (f ∷ fs) n =
      let e = resolved names current f in
      let supply = supply_of names.atoms f sites in
      let scope = with_variables [] f.params in
      let others = (functions_from names current (behind e supply).sites fs).0 in
      (λ i. facts-supplied e supply outermost scope [] n i
      ++ facts_of (n + count-supplied e supply i) others)
      ∙ ap (λ q. facts outermost scope [] n e ++ q)
      (functions-supplied current (behind e supply).sites fs (n + tree.count e))

  trees-counted : (current : ℕ) (sites : List ℕ) (fs : List Function)
      → count_trees (functions_from names current sites fs).0
      ≡ count_trees (functions_resolved names current fs)
  trees-counted current sites [] = refl
  trees-counted current sites (f ∷ fs) =
      let e = resolved names current f in
      let supply = supply_of names.atoms f sites in
      λ i. count-supplied e supply i
      + trees-counted current (behind e supply).sites fs i

  modules-supplied : (sites : List ℕ) (ms : List Module) (n : ℕ)
      → facts_of n (modules_from names sites ms) ≡ facts_of n (modules_resolved names ms)
  modules-supplied sites [] n = refl
  modules-supplied sites (m ∷ ms) n =
      let from = functions_from names m.name sites m.functions in
      let these = functions_resolved names m.name m.functions in
      let rest = modules_from names from.1 ms in
      facts-append n from.0 rest
      ∙ (λ i. functions-supplied m.name sites m.functions n i
      ++ facts_of (n + trees-counted m.name sites m.functions i) rest)
      ∙ ap (λ q. facts_of n these ++ q)
      (modules-supplied from.1 ms (n + count_trees these))
      ∙ sym (facts-append n these (modules_resolved names ms))

  functions-length : (current : ℕ) (sites : List ℕ) (fs : List Function)
      → length (functions_from names current sites fs).0 ≡ length fs
  functions-length current sites [] = refl
  functions-length current sites (f ∷ fs) =
      let e = resolved names current f in
      let supply = supply_of names.atoms f sites in
      ap suc (functions-length current (behind e supply).sites fs)

  pub trees-length : (sites : List ℕ) (ms : List Module)
      → length (modules_from names sites ms) ≡ function_count ms
  trees-length sites [] = refl
  trees-length sites (m ∷ ms) =
      let from = functions_from names m.name sites m.functions in
      length-append from.0 (modules_from names from.1 ms)
      ∙ (λ i. functions-length m.name sites m.functions i + trees-length from.1 ms i)

  -- gathered from the start, they are the facts of the program
  pub program-facts : (sites : List ℕ) (ms : List Module) → AllWhole (modules_resolved names ms)
      → (gathered_modules
      (record { scope = []; around = []; next = function_count ms; facts = [] }) ms).facts
      ≡ facts_of (length (function_trees names sites ms)) (function_trees names sites ms)
  program-facts sites ms h =
      let trees = function_trees names sites ms in
      ap (λ (w : Gathering). w.facts) (modules-are ms (function_count ms) [] h)
      ∙ sym (modules-supplied sites ms (function_count ms))
      ∙ ap (λ n. facts_of n trees) (sym (trees-length sites ms))

-- the modules of a program are the given ones and then the others
pub gathered-append : (w : Gathering) (ms ns : List Module)
    → gathered_modules w (ms ++ ns) ≡ gathered_modules (gathered_modules w ms) ns
gathered-append w [] ns = refl
gathered-append w (m ∷ ms) ns = gathered-append (gathered_module w m) ms ns

pub functions-append : (ms ns : List Module)
    → function_count (ms ++ ns) ≡ function_count ms + function_count ns
functions-append [] ns = omega arith
functions-append (m ∷ ms) ns =
    let rest = functions-append ms ns in omega (arith, rest)
