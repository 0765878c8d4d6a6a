-- Lifting leaves the numbers of a tree to it.
use Rattle.std.proofs.Common.{◌≡◌, ℕ, suc, ◌+◌, List, [], ◌∷◌, ◌++◌, map, length, Option, Some, None}
use Rattle.std.proofs.Common.{refl, sym, ap, ◌∙◌}
use Rattle.std.proofs.lemmas.List.{length-map, map-append}
use Rattle.hy_core.specs.Resolved as r
use Rattle.hy_core.specs.Resolved.{Head, Expression, Expressions, NoExpressions, MoreExpressions}
use Rattle.hy_core.specs.Resolved.{Clauses, NoClauses, MoreClauses}
use Rattle.hy_core.specs.Resolved.{Functions, NoFunctions, MoreFunctions, FunctionTree}
use Rattle.lifted_numbers.specs.TreeNumbers.{all_bare, bare, bare_function, bare_head}
use Rattle.lifted_numbers.specs.TreeNumbers.{clauses_bare, functions_bare}
use Rattle.lifted_program.specs.LetrecNumbers.{Reach, count, count_all, count_clauses}
use Rattle.lifted_program.specs.LetrecNumbers.{count_functions, number_in, reach_of}
use Rattle.lifted_program.specs.LiftedProgram.{call_lifted, call_of, extracted, extracted_all}
use Rattle.lifted_program.specs.LiftedProgram.{extracted_clauses, extracted_functions}
use Rattle.lifted_program.specs.LiftedProgram.{extracted_program, lifted, lifted_all}
use Rattle.lifted_program.specs.LiftedProgram.{lifted_clauses, lifted_program, lifted_tops, passing}

mutual
  count-bare : (e : Expression) → count (bare e) ≡ count e
  count-bare (r.Tuple site es) = count_all-bare es
  count-bare (r.ListOf site es e) = λ i. count_all-bare es i + count-bare e i
  count-bare (r.Values es) = count_all-bare es
  count-bare (r.Let xs e b) = λ i. count-bare e i + count-bare b i
  count-bare (r.Do e b) = λ i. count-bare e i + count-bare b i
  count-bare (r.Case e cs) = λ i. count-bare e i + count_clauses-bare cs i
  count-bare (r.Letrec fs e) = λ i. count_functions-bare fs i + count-bare e i
  count-bare (r.Call head es) = count_all-bare es
  count-bare (r.Receive cs timeout e) = λ i. count_clauses-bare cs i + count-bare e i
  count-bare _ = refl

  count_all-bare : (es : Expressions) → count_all (all_bare es) ≡ count_all es
  count_all-bare NoExpressions = refl
  count_all-bare (MoreExpressions e es) = λ i. count-bare e i + count_all-bare es i

  count_clauses-bare : (cs : Clauses) → count_clauses (clauses_bare cs) ≡ count_clauses cs
  count_clauses-bare NoClauses = refl
  count_clauses-bare (MoreClauses ps g b cs) =
      λ i. count-bare g i + (count-bare b i + count_clauses-bare cs i)

  count_functions-bare : (fs : Functions) → count_functions (functions_bare fs) ≡ count_functions fs
  count_functions-bare NoFunctions = refl
  count_functions-bare (MoreFunctions f xs b fs) =
      λ i. suc (count-bare b i + count_functions-bare fs i)

reach-bare : (n : ℕ) (fs : Functions) → reach_of n (functions_bare fs) ≡ reach_of n fs
reach-bare n NoFunctions = refl
reach-bare n (MoreFunctions f xs b fs) =
    ap (◌∷◌ (f, n))
    (ap (λ k. reach_of (suc (n + k)) (functions_bare fs)) (count-bare b)
    ∙ reach-bare (suc (n + count b)) fs)

passing-bare : (xs : List ℕ) (es : Expressions)
    → all_bare (passing xs es) ≡ passing xs (all_bare es)
passing-bare [] es = refl
passing-bare (x ∷ xs) es = ap (MoreExpressions (r.Variable x)) (passing-bare xs es)

module _ (captured : (function : ℕ) → List ℕ) where
  call-bare : (reach : Reach) (head : Head) (es : Expressions)
      → bare (call_of captured reach head es) ≡ call_of captured reach (bare_head head) (all_bare es)
  call-bare reach (r.Local f) es = by (number_in reach f)
    where
      by : (o : Option ℕ)
          → bare (call_lifted captured o es) ≡ call_lifted captured o (all_bare es)
      by None = refl
      by (Some k) = ap (r.Call (r.Function k)) (passing-bare (captured k) es)
  call-bare reach (r.BuiltIn b) es = refl
  call-bare reach (r.Function k) es = refl
  call-bare reach (r.Setelement site) es = refl
  call-bare reach (r.Send node) es = refl
  call-bare reach (r.Spawn node k) es = refl
  call-bare reach (r.Display node) es = refl
  call-bare reach (r.Raising class) es = refl
  call-bare reach r.MatchFail es = refl

  mutual
    pub lifted-bare : (reach : Reach) (n : ℕ) (e : Expression)
        → bare (lifted captured reach n e) ≡ lifted captured reach n (bare e)
    lifted-bare reach n (r.Tuple site es) = ap (r.Tuple 0) (lifted_all-bare reach n es)
    lifted-bare reach n (r.ListOf site es e) =
        let tail = lifted-bare reach (n + count_all es) e
        ∙ ap (λ k. lifted captured reach (n + k) (bare e)) (sym (count_all-bare es)) in
        λ i. r.ListOf 0 (lifted_all-bare reach n es i) (tail i)
    lifted-bare reach n (r.Values es) = ap r.Values (lifted_all-bare reach n es)
    lifted-bare reach n (r.Let xs e b) =
        let body = lifted-bare reach (n + count e) b
        ∙ ap (λ k. lifted captured reach (n + k) (bare b)) (sym (count-bare e)) in
        λ i. r.Let xs (lifted-bare reach n e i) (body i)
    lifted-bare reach n (r.Do e b) =
        let body = lifted-bare reach (n + count e) b
        ∙ ap (λ k. lifted captured reach (n + k) (bare b)) (sym (count-bare e)) in
        λ i. r.Do (lifted-bare reach n e i) (body i)
    lifted-bare reach n (r.Case e cs) =
        let clauses = lifted_clauses-bare reach (n + count e) cs
        ∙ ap (λ k. lifted_clauses captured reach (n + k) (clauses_bare cs)) (sym (count-bare e)) in
        λ i. r.Case (lifted-bare reach n e i) (clauses i)
    lifted-bare reach n (r.Letrec fs e) =
        lifted-bare (reach_of n fs ++ reach) (n + count_functions fs) e
        ∙ (λ i. lifted captured (sym (reach-bare n fs) i ++ reach)
        (n + sym (count_functions-bare fs) i) (bare e))
    lifted-bare reach n (r.Call head es) =
        call-bare reach head (lifted_all captured reach n es)
        ∙ ap (call_of captured reach (bare_head head)) (lifted_all-bare reach n es)
    lifted-bare reach n (r.Receive cs timeout e) =
        let body = lifted-bare reach (n + count_clauses cs) e
        ∙ ap (λ k. lifted captured reach (n + k) (bare e)) (sym (count_clauses-bare cs)) in
        λ i. r.Receive (lifted_clauses-bare reach n cs i) timeout (body i)
    lifted-bare reach n _ = refl

    lifted_all-bare : (reach : Reach) (n : ℕ) (es : Expressions)
        → all_bare (lifted_all captured reach n es) ≡ lifted_all captured reach n (all_bare es)
    lifted_all-bare reach n NoExpressions = refl
    lifted_all-bare reach n (MoreExpressions e es) =
        let rest = lifted_all-bare reach (n + count e) es
        ∙ ap (λ k. lifted_all captured reach (n + k) (all_bare es)) (sym (count-bare e)) in
        λ i. MoreExpressions (lifted-bare reach n e i) (rest i)

    lifted_clauses-bare : (reach : Reach) (n : ℕ) (cs : Clauses)
        → clauses_bare (lifted_clauses captured reach n cs)
        ≡ lifted_clauses captured reach n (clauses_bare cs)
    lifted_clauses-bare reach n NoClauses = refl
    lifted_clauses-bare reach n (MoreClauses ps g b cs) =
        let body = lifted-bare reach (n + count g) b
        ∙ ap (λ k. lifted captured reach (n + k) (bare b)) (sym (count-bare g)) in
        let rest = lifted_clauses-bare reach (n + count g + count b) cs
        ∙ (λ i. lifted_clauses captured reach (n + sym (count-bare g) i + sym (count-bare b) i)
        (clauses_bare cs)) in
        λ i. MoreClauses ps (lifted-bare reach n g i) (body i) (rest i)

  joined : (xs ys : List FunctionTree) {us vs : List FunctionTree} → map bare_function xs ≡ us
      → map bare_function ys ≡ vs → map bare_function (xs ++ ys) ≡ us ++ vs
  joined xs ys p q = map-append bare_function xs ys ∙ (λ i. p i ++ q i)

  two-bare : (reach : Reach) (n : ℕ) (e b : Expression)
      → map bare_function (extracted captured reach n e) ≡ extracted captured reach n (bare e)
      → map bare_function (extracted captured reach (n + count e) b)
      ≡ extracted captured reach (n + count e) (bare b)
      → map bare_function
      (extracted captured reach n e ++ extracted captured reach (n + count e) b)
      ≡ extracted captured reach n (bare e)
      ++ extracted captured reach (n + count (bare e)) (bare b)
  two-bare reach n e b p q =
      joined (extracted captured reach n e) (extracted captured reach (n + count e) b) p
      (q ∙ ap (λ k. extracted captured reach (n + k) (bare b)) (sym (count-bare e)))

  mutual
    extracted-bare : (reach : Reach) (n : ℕ) (e : Expression)
        → map bare_function (extracted captured reach n e) ≡ extracted captured reach n (bare e)
    extracted-bare reach n (r.Tuple site es) = extracted_all-bare reach n es
    extracted-bare reach n (r.ListOf site es e) =
        joined (extracted_all captured reach n es)
        (extracted captured reach (n + count_all es) e) (extracted_all-bare reach n es)
        (extracted-bare reach (n + count_all es) e
        ∙ ap (λ k. extracted captured reach (n + k) (bare e)) (sym (count_all-bare es)))
    extracted-bare reach n (r.Values es) = extracted_all-bare reach n es
    extracted-bare reach n (r.Let xs e b) =
        two-bare reach n e b (extracted-bare reach n e) (extracted-bare reach (n + count e) b)
    extracted-bare reach n (r.Do e b) =
        two-bare reach n e b (extracted-bare reach n e) (extracted-bare reach (n + count e) b)
    extracted-bare reach n (r.Case e cs) =
        joined (extracted captured reach n e)
        (extracted_clauses captured reach (n + count e) cs) (extracted-bare reach n e)
        (extracted_clauses-bare reach (n + count e) cs
        ∙ ap (λ k. extracted_clauses captured reach (n + k) (clauses_bare cs))
        (sym (count-bare e)))
    extracted-bare reach n (r.Letrec fs e) =
        let inside = reach_of n fs ++ reach in
        let at = ap (λ l. l ++ reach) (sym (reach-bare n fs)) in
        joined (extracted_functions captured inside n fs)
        (extracted captured inside (n + count_functions fs) e)
        (extracted_functions-bare inside n fs
        ∙ ap (λ l. extracted_functions captured l n (functions_bare fs)) at)
        (extracted-bare inside (n + count_functions fs) e
        ∙ (λ i. extracted captured (at i) (n + sym (count_functions-bare fs) i) (bare e)))
    extracted-bare reach n (r.Call head es) = extracted_all-bare reach n es
    extracted-bare reach n (r.Receive cs timeout e) =
        joined (extracted_clauses captured reach n cs)
        (extracted captured reach (n + count_clauses cs) e) (extracted_clauses-bare reach n cs)
        (extracted-bare reach (n + count_clauses cs) e
        ∙ ap (λ k. extracted captured reach (n + k) (bare e)) (sym (count_clauses-bare cs)))
    extracted-bare reach n _ = refl

    extracted_all-bare : (reach : Reach) (n : ℕ) (es : Expressions)
        → map bare_function (extracted_all captured reach n es)
        ≡ extracted_all captured reach n (all_bare es)
    extracted_all-bare reach n NoExpressions = refl
    extracted_all-bare reach n (MoreExpressions e es) =
        joined (extracted captured reach n e) (extracted_all captured reach (n + count e) es)
        (extracted-bare reach n e)
        (extracted_all-bare reach (n + count e) es
        ∙ ap (λ k. extracted_all captured reach (n + k) (all_bare es)) (sym (count-bare e)))

    extracted_clauses-bare : (reach : Reach) (n : ℕ) (cs : Clauses)
        → map bare_function (extracted_clauses captured reach n cs)
        ≡ extracted_clauses captured reach n (clauses_bare cs)
    extracted_clauses-bare reach n NoClauses = refl
    extracted_clauses-bare reach n (MoreClauses ps g b cs) =
        let body = extracted captured reach (n + count g) b in
        let rest = extracted_clauses captured reach (n + count g + count b) cs in
        joined (extracted captured reach n g) (body ++ rest) (extracted-bare reach n g)
        (joined body rest
        (extracted-bare reach (n + count g) b
        ∙ ap (λ k. extracted captured reach (n + k) (bare b)) (sym (count-bare g)))
        (extracted_clauses-bare reach (n + count g + count b) cs
        ∙ (λ i. extracted_clauses captured reach
        (n + sym (count-bare g) i + sym (count-bare b) i) (clauses_bare cs))))

    extracted_functions-bare : (reach : Reach) (n : ℕ) (fs : Functions)
        → map bare_function (extracted_functions captured reach n fs)
        ≡ extracted_functions captured reach n (functions_bare fs)
    extracted_functions-bare reach n NoFunctions = refl
    extracted_functions-bare reach n (MoreFunctions f xs b fs) =
        let nested = extracted captured reach (suc n) b in
        let rest = extracted_functions captured reach (suc (n + count b)) fs in
        let behind = joined nested rest (extracted-bare reach (suc n) b)
        (extracted_functions-bare reach (suc (n + count b)) fs
        ∙ ap (λ k. extracted_functions captured reach (suc (n + k)) (functions_bare fs))
        (sym (count-bare b))) in
        λ i. record {
          parameters = captured n ++ xs;
          body = lifted-bare reach (suc n) b i;
        } ∷ behind i

  tops-bare : (n : ℕ) (fs : List FunctionTree)
      → map bare_function (lifted_tops captured n fs)
      ≡ lifted_tops captured n (map bare_function fs)
  tops-bare n [] = refl
  tops-bare n (f ∷ fs) =
      let rest = tops-bare (n + count f.body) fs
      ∙ ap (λ k. lifted_tops captured (n + k) (map bare_function fs)) (sym (count-bare f.body)) in
      λ i. record { parameters = f.parameters; body = lifted-bare [] n f.body i } ∷ rest i

  others-bare : (n : ℕ) (fs : List FunctionTree)
      → map bare_function (extracted_program captured n fs)
      ≡ extracted_program captured n (map bare_function fs)
  others-bare n [] = refl
  others-bare n (f ∷ fs) =
      joined (extracted captured [] n f.body)
      (extracted_program captured (n + count f.body) fs) (extracted-bare [] n f.body)
      (others-bare (n + count f.body) fs
      ∙ ap (λ k. extracted_program captured (n + k) (map bare_function fs))
      (sym (count-bare f.body)))

  pub program-bare : (fs : List FunctionTree)
      → map bare_function (lifted_program captured fs)
      ≡ lifted_program captured (map bare_function fs)
  program-bare fs =
      let n = length fs in
      let at = sym (length-map fs bare_function) in
      joined (lifted_tops captured n fs) (extracted_program captured n fs) (tops-bare n fs)
      (others-bare n fs)
      ∙ (λ i. lifted_tops captured (at i) (map bare_function fs)
      ++ extracted_program captured (at i) (map bare_function fs))
