-- The functions of a lifted program are those of its lifted trees.
use Rattle.std.proofs.Common.{◌≡◌, ℕ, suc, ◌+◌, List, [], ◌∷◌, ◌++◌, map, length, refl, sym, ap}
use Rattle.std.proofs.Common.{◌∙◌, arith, append_assoc, length-append}
use Rattle.std.specs.List.{All}
use Rattle.std.proofs.lemmas.List.{map-append}
use Rattle.std.proofs.lemmas.List.Elements.{All-nil, All-cons, All-head, All-tail}
use Rattle.hy_core.specs.Numbered.{function_count}
use Rattle.hy_core.specs.Resolve.{Names}
use Rattle.hy_core.specs.Resolved.{FunctionTree}
use Rattle.hy_core.specs.Syntax.{syntax_of}
use Rattle.hy_core.specs.declared.tree.Function.{Function}
use Rattle.hy_core.specs.declared.tree.Module.{Module}
use Rattle.lifted_program.specs.LetrecNumbers as tree
use Rattle.lifted_program.specs.LiftedProgram as in_tree
use Rattle.lifted_syntax.specs.ExtractedSyntax.{FunctionSyntax, count_module, extracted_module}
use Rattle.lifted_syntax.specs.ExtractedSyntax.{extracted_program, lifted_functions, lifted_program}
use Rattle.lifted_syntax.specs.ExtractedSyntax.{lifted_tops, plain_function}
use Rattle.lifted_syntax.specs.LiftedSyntax.{count}
use Rattle.lifted_syntax.specs.LiftingLaws.{functions_resolved, modules_resolved}
use Rattle.lifted_syntax.specs.Whole.{IsWhole}
use Rattle.lifted_syntax.proofs.ExtractedResolved.{extracted-plain}
use Rattle.lifted_syntax.proofs.LiftedCounts.{counted}
use Rattle.lifted_syntax.proofs.LiftedResolved.{lifted-plain}

abbrev BodyIsWhole : FunctionTree → Type 0
BodyIsWhole f = IsWhole f.body

abbrev AllWhole : List FunctionTree → Type 0
AllWhole = All BodyIsWhole

whole_left : (xs ys : List FunctionTree) → AllWhole (xs ++ ys) → AllWhole xs
whole_left [] ys h = All-nil BodyIsWhole
whole_left (x ∷ xs) ys h =
    All-cons BodyIsWhole x xs (All-head BodyIsWhole x (xs ++ ys) h)
    (whole_left xs ys (All-tail BodyIsWhole x (xs ++ ys) h))

whole_right : (xs ys : List FunctionTree) → AllWhole (xs ++ ys) → AllWhole ys
whole_right [] ys h = h
whole_right (x ∷ xs) ys h = whole_right xs ys (All-tail BodyIsWhole x (xs ++ ys) h)

-- how many functions of letrecs stand in functions
abbrev count_trees : List FunctionTree → ℕ
count_trees [] = 0
count_trees (f ∷ fs) = tree.count f.body + count_trees fs

module _ (captured : ℕ → List ℕ) where
  tops-append : (n : ℕ) (xs ys : List FunctionTree)
      → in_tree.lifted_tops captured n (xs ++ ys)
      ≡ in_tree.lifted_tops captured n xs ++ in_tree.lifted_tops captured (n + count_trees xs) ys
  tops-append n [] ys = ap (λ k. in_tree.lifted_tops captured k ys) (omega arith)
  tops-append n (x ∷ xs) ys =
      let c = tree.count x.body in
      let sums : (n + c) + count_trees xs ≡ n + (c + count_trees xs) = omega arith in
      let first : FunctionTree =
      record { parameters = x.parameters; body = in_tree.lifted captured [] n x.body } in
      ap (◌∷◌ first) (tops-append (n + c) xs ys
      ∙ ap (λ k. in_tree.lifted_tops captured (n + c) xs ++ in_tree.lifted_tops captured k ys) sums)

  extracted-append : (n : ℕ) (xs ys : List FunctionTree)
      → in_tree.extracted_program captured n (xs ++ ys)
      ≡ in_tree.extracted_program captured n xs
      ++ in_tree.extracted_program captured (n + count_trees xs) ys
  extracted-append n [] ys = ap (λ k. in_tree.extracted_program captured k ys) (omega arith)
  extracted-append n (x ∷ xs) ys =
      let c = tree.count x.body in
      let sums : (n + c) + count_trees xs ≡ n + (c + count_trees xs) = omega arith in
      let own = in_tree.extracted captured [] n x.body in
      let others = in_tree.extracted_program captured (n + c) xs in
      ap (λ l. own ++ l) (extracted-append (n + c) xs ys
      ∙ ap (λ k. others ++ in_tree.extracted_program captured k ys) sums)
      ∙ sym (append_assoc own others
      (in_tree.extracted_program captured (n + (c + count_trees xs)) ys))

  module _ (names : Names) where
    abbrev shown : List FunctionSyntax → List FunctionTree
    shown = map (plain_function names)

    functions-counted : (current : ℕ) (fs : List Function)
        → AllWhole (functions_resolved names current fs)
        → count_trees (functions_resolved names current fs) ≡ count_module fs
    functions-counted current [] h = refl
    functions-counted current (f ∷ fs) h =
        let rest = functions_resolved names current fs in
        λ i. counted names current (syntax_of f.body) [] (All-head BodyIsWhole _ rest h) i
        + functions-counted current fs (All-tail BodyIsWhole _ rest h) i

    functions-tops : (current n : ℕ) (fs : List Function)
        → AllWhole (functions_resolved names current fs)
        → shown (lifted_functions names current captured n fs)
        ≡ in_tree.lifted_tops captured n (functions_resolved names current fs)
    functions-tops current n [] h = refl
    functions-tops current n (f ∷ fs) h =
        let rest = functions_resolved names current fs in
        let whole = All-head BodyIsWhole _ rest h in
        let e = syntax_of f.body in
        let others = functions-tops current (n + count e) fs (All-tail BodyIsWhole _ rest h)
        ∙ ap (λ k. in_tree.lifted_tops captured (n + k) rest)
        (sym (counted names current e [] whole)) in
        λ i. record {
          parameters = f.params;
          body = lifted-plain names current captured e [] n [] refl whole i;
        } ∷ others i

    functions-extracted : (current n : ℕ) (fs : List Function)
        → AllWhole (functions_resolved names current fs)
        → shown (extracted_module names current captured n fs)
        ≡ in_tree.extracted_program captured n (functions_resolved names current fs)
    functions-extracted current n [] h = refl
    functions-extracted current n (f ∷ fs) h =
        let rest = functions_resolved names current fs in
        let whole = All-head BodyIsWhole _ rest h in
        let e = syntax_of f.body in
        let others = functions-extracted current (n + count e) fs (All-tail BodyIsWhole _ rest h)
        ∙ ap (λ k. in_tree.extracted_program captured (n + k) rest)
        (sym (counted names current e [] whole)) in
        map-append (plain_function names) _ _
        ∙ (λ i. extracted-plain names current captured e [] n [] refl whole i ++ others i)

    modules-tops : (n : ℕ) (ms : List Module) → AllWhole (modules_resolved names ms)
        → shown (lifted_tops names captured n ms)
        ≡ in_tree.lifted_tops captured n (modules_resolved names ms)
    modules-tops n [] h = refl
    modules-tops n (m ∷ ms) h =
        let these = functions_resolved names m.name m.functions in
        let rest = modules_resolved names ms in
        let own = whole_left these rest h in
        let others = whole_right these rest h in
        let counts = functions-counted m.name m.functions own in
        map-append (plain_function names) _ _
        ∙ (λ i. functions-tops m.name n m.functions own i
        ++ modules-tops (n + count_module m.functions) ms others i)
        ∙ ap (λ k. in_tree.lifted_tops captured n these ++ in_tree.lifted_tops captured (n + k)
        rest)
        (sym counts)
        ∙ sym (tops-append n these rest)

    modules-extracted : (n : ℕ) (ms : List Module) → AllWhole (modules_resolved names ms)
        → shown (extracted_program names captured n ms)
        ≡ in_tree.extracted_program captured n (modules_resolved names ms)
    modules-extracted n [] h = refl
    modules-extracted n (m ∷ ms) h =
        let these = functions_resolved names m.name m.functions in
        let rest = modules_resolved names ms in
        let own = whole_left these rest h in
        let others = whole_right these rest h in
        let counts = functions-counted m.name m.functions own in
        map-append (plain_function names) _ _
        ∙ (λ i. functions-extracted m.name n m.functions own i
        ++ modules-extracted (n + count_module m.functions) ms others i)
        ∙ ap (λ k. in_tree.extracted_program captured n these
        ++ in_tree.extracted_program captured (n + k) rest) (sym counts)
        ∙ sym (extracted-append n these rest)

    functions-length : (current : ℕ) (fs : List Function)
        → length (functions_resolved names current fs) ≡ length fs
    functions-length current [] = refl
    functions-length current (f ∷ fs) = ap suc (functions-length current fs)

    modules-length : (ms : List Module) → length (modules_resolved names ms) ≡ function_count ms
    modules-length [] = refl
    modules-length (m ∷ ms) =
        length-append (functions_resolved names m.name m.functions) (modules_resolved names ms)
        ∙ (λ i. functions-length m.name m.functions i + modules-length ms i)

    pub program-plain : (ms : List Module) → AllWhole (modules_resolved names ms)
        → shown (lifted_program names captured ms)
        ≡ in_tree.lifted_program captured (modules_resolved names ms)
    program-plain ms h =
        let n = function_count ms in
        let trees = modules_resolved names ms in
        map-append (plain_function names) _ _
        ∙ (λ i. modules-tops n ms h i ++ modules-extracted n ms h i)
        ∙ ap (λ n. in_tree.lifted_tops captured n trees ++ in_tree.extracted_program captured n
        trees)
        (sym (modules-length ms))
