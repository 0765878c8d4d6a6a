-- No list notation becomes empty where numbers are supplied, names are new, or letrecs are lifted.
use Rattle.std.proofs.Common.{◌≡◌, ℕ, suc, ◌+◌, List, [], ◌∷◌, ◌++◌, length, refl, ap, arith}
use Rattle.std.proofs.Common.{Option, Some, None}
use Rattle.hy_core.specs.Resolved as r
use Rattle.hy_core.specs.Resolved.{Head, Expression, Expressions, NoExpressions, MoreExpressions}
use Rattle.hy_core.specs.Resolved.{Clauses, NoClauses, MoreClauses}
use Rattle.hy_core.specs.Resolved.{Functions, NoFunctions, MoreFunctions, FunctionTree}
use Rattle.hy_core.specs.Scopes.{Scope}
use Rattle.hy_core.specs.Supplied.{Supply, all_supplied, behind}
use Rattle.hy_core.specs.Supplied.{behind_sites, clauses_supplied}
use Rattle.hy_core.specs.Supplied.{expression_count, functions_supplied, supplied}
use Rattle.lifted_numbers.specs.TreeNumbers.{AllHaveHeads, ClausesHaveHeads, FunctionsHaveHeads}
use Rattle.lifted_numbers.specs.TreeNumbers.{HasHeads}
use Rattle.lifted_program.specs.LetrecNumbers.{Reach, count}
use Rattle.lifted_program.specs.LetrecNumbers.{number_in}
use Rattle.lifted_program.specs.LiftedProgram.{call_lifted, call_of, extracted, extracted_all}
use Rattle.lifted_program.specs.LiftedProgram.{extracted_clauses, extracted_functions}
use Rattle.lifted_program.specs.LiftedProgram.{extracted_program, lifted, lifted_all}
use Rattle.lifted_program.specs.LiftedProgram.{lifted_clauses, lifted_program, lifted_tops, passing}
use Rattle.lifted_program.specs.Renaming.{renamed, renamed_all, renamed_clauses}
use Rattle.lifted_program.specs.Renaming.{renamed_functions, renamed_program}
use Rattle.list_heads.specs.HeadLaws.{FunctionsHaveHeads as TreesHaveHeads}

-- numbers

count_supplied : (es : Expressions) (s : Supply)
    → expression_count (all_supplied es s) ≡ expression_count es
count_supplied NoExpressions s = refl
count_supplied (MoreExpressions e es) s = ap (λ n. suc n) (count_supplied es (behind e s))

mutual
  pub supplied_has : (e : Expression) (s : Supply) → HasHeads e → HasHeads (supplied e s)
  supplied_has (r.Int n) s h = tt
  supplied_has (r.Atom a) s h = tt
  supplied_has r.Nil s h = tt
  supplied_has (r.Text site text) s h = tt
  supplied_has (r.Variable x) s h = tt
  supplied_has r.Refused s h = tt
  supplied_has (r.Tuple site es) s h = all_supplied_have es _ h
  supplied_has (r.ListOf site es e) s h =
      let inside = behind_sites (expression_count es) s in
      let same = count_supplied es inside in (
        omega (arith, h.0, same),
        all_supplied_have es inside h.1,
        supplied_has e _ h.2,
      )
  supplied_has (r.Values es) s h = all_supplied_have es s h
  supplied_has (r.Let xs e b) s h = (supplied_has e s h.0, supplied_has b _ h.1)
  supplied_has (r.Do e b) s h = (supplied_has e s h.0, supplied_has b _ h.1)
  supplied_has (r.Case e cs) s h = (supplied_has e s h.0, clauses_supplied_have cs _ h.1)
  supplied_has (r.Letrec fs e) s h = (functions_supplied_have fs s h.0, supplied_has e _ h.1)
  supplied_has (r.Call head es) s h = all_supplied_have es _ h
  supplied_has (r.Receive cs timeout e) s h =
      (clauses_supplied_have cs s h.0, supplied_has e _ h.1)

  all_supplied_have : (es : Expressions) (s : Supply) → AllHaveHeads es
      → AllHaveHeads (all_supplied es s)
  all_supplied_have NoExpressions s h = tt
  all_supplied_have (MoreExpressions e es) s h =
      (supplied_has e s h.0, all_supplied_have es _ h.1)

  clauses_supplied_have : (cs : Clauses) (s : Supply) → ClausesHaveHeads cs
      → ClausesHaveHeads (clauses_supplied cs s)
  clauses_supplied_have NoClauses s h = tt
  clauses_supplied_have (MoreClauses ps g b cs) s h =
      (supplied_has g s h.0, supplied_has b _ h.1, clauses_supplied_have cs _ h.2)

  functions_supplied_have : (fs : Functions) (s : Supply) → FunctionsHaveHeads fs
      → FunctionsHaveHeads (functions_supplied fs s)
  functions_supplied_have NoFunctions s h = tt
  functions_supplied_have (MoreFunctions f xs b fs) s h =
      (supplied_has b s h.0, functions_supplied_have fs _ h.1)

-- names

module _ (limit : ℕ) where
  count_renamed : (es : Expressions) (scope : Scope)
      → expression_count (renamed_all limit scope es) ≡ expression_count es
  count_renamed NoExpressions scope = refl
  count_renamed (MoreExpressions e es) scope = ap (λ n. suc n) (count_renamed es scope)

  mutual
    renamed_has : (e : Expression) (scope : Scope) → HasHeads e → HasHeads (renamed limit scope e)
    renamed_has (r.Int n) scope h = tt
    renamed_has (r.Atom a) scope h = tt
    renamed_has r.Nil scope h = tt
    renamed_has (r.Text site text) scope h = tt
    renamed_has (r.Variable x) scope h = tt
    renamed_has r.Refused scope h = tt
    renamed_has (r.Tuple site es) scope h = all_renamed_have es scope h
    renamed_has (r.ListOf site es e) scope h =
        let same = count_renamed es scope in (
          omega (arith, h.0, same),
          all_renamed_have es scope h.1,
          renamed_has e scope h.2,
        )
    renamed_has (r.Values es) scope h = all_renamed_have es scope h
    renamed_has (r.Let xs e b) scope h = (renamed_has e scope h.0, renamed_has b _ h.1)
    renamed_has (r.Do e b) scope h = (renamed_has e scope h.0, renamed_has b scope h.1)
    renamed_has (r.Case e cs) scope h = (renamed_has e scope h.0, clauses_renamed_have cs scope h.1)
    renamed_has (r.Letrec fs e) scope h =
        (functions_renamed_have fs scope h.0, renamed_has e scope h.1)
    renamed_has (r.Call head es) scope h = all_renamed_have es scope h
    renamed_has (r.Receive cs timeout e) scope h =
        (clauses_renamed_have cs scope h.0, renamed_has e scope h.1)

    all_renamed_have : (es : Expressions) (scope : Scope) → AllHaveHeads es
        → AllHaveHeads (renamed_all limit scope es)
    all_renamed_have NoExpressions scope h = tt
    all_renamed_have (MoreExpressions e es) scope h =
        (renamed_has e scope h.0, all_renamed_have es scope h.1)

    clauses_renamed_have : (cs : Clauses) (scope : Scope) → ClausesHaveHeads cs
        → ClausesHaveHeads (renamed_clauses limit scope cs)
    clauses_renamed_have NoClauses scope h = tt
    clauses_renamed_have (MoreClauses ps g b cs) scope h =
        (renamed_has g _ h.0, renamed_has b _ h.1, clauses_renamed_have cs scope h.2)

    functions_renamed_have : (fs : Functions) (scope : Scope) → FunctionsHaveHeads fs
        → FunctionsHaveHeads (renamed_functions limit scope fs)
    functions_renamed_have NoFunctions scope h = tt
    functions_renamed_have (MoreFunctions f xs b fs) scope h =
        (renamed_has b _ h.0, functions_renamed_have fs scope h.1)

  pub program_renamed_has : (fs : List FunctionTree) → TreesHaveHeads fs
      → TreesHaveHeads (renamed_program limit fs)
  program_renamed_has [] h = tt
  program_renamed_has (f ∷ fs) h = (renamed_has f.body _ h.0, program_renamed_has fs h.1)

-- lifting

pub both_have : (fs gs : List FunctionTree) → TreesHaveHeads fs → TreesHaveHeads gs
    → TreesHaveHeads (fs ++ gs)
both_have [] gs h k = k
both_have (f ∷ fs) gs h k = (h.0, both_have fs gs h.1 k)

module _ (captured : ℕ → List ℕ) where
  passed_have : (xs : List ℕ) (es : Expressions) → AllHaveHeads es → AllHaveHeads (passing xs es)
  passed_have [] es h = h
  passed_have (x ∷ xs) es h = (tt, passed_have xs es h)

  lifted_call : (k : Option ℕ) (es : Expressions) → AllHaveHeads es
      → HasHeads (call_lifted captured k es)
  lifted_call None es h = tt
  lifted_call (Some k) es h = passed_have (captured k) es h

  called : (reach : Reach) (head : Head) (es : Expressions) → AllHaveHeads es
      → HasHeads (call_of captured reach head es)
  called reach (r.Local f) es h = lifted_call (number_in reach f) es h
  called reach (r.BuiltIn b) es h = h
  called reach (r.Function f) es h = h
  called reach (r.Setelement site) es h = h
  called reach (r.Send node) es h = h
  called reach (r.Spawn node f) es h = h
  called reach (r.Display node) es h = h
  called reach (r.Raising class) es h = h
  called reach r.MatchFail es h = h

  count_lifted : (reach : Reach) (n : ℕ) (es : Expressions)
      → expression_count (lifted_all captured reach n es) ≡ expression_count es
  count_lifted reach n NoExpressions = refl
  count_lifted reach n (MoreExpressions e es) =
      ap (λ c. suc c) (count_lifted reach (n + count e) es)

  mutual
    lifted_has : (e : Expression) (reach : Reach) (n : ℕ) → HasHeads e
        → HasHeads (lifted captured reach n e)
    lifted_has (r.Int v) reach n h = tt
    lifted_has (r.Atom a) reach n h = tt
    lifted_has r.Nil reach n h = tt
    lifted_has (r.Text site text) reach n h = tt
    lifted_has (r.Variable x) reach n h = tt
    lifted_has r.Refused reach n h = tt
    lifted_has (r.Tuple site es) reach n h = all_lifted_have es reach n h
    lifted_has (r.ListOf site es e) reach n h =
        let same = count_lifted reach n es in (
          omega (arith, h.0, same),
          all_lifted_have es reach n h.1,
          lifted_has e reach _ h.2,
        )
    lifted_has (r.Values es) reach n h = all_lifted_have es reach n h
    lifted_has (r.Let xs e b) reach n h = (lifted_has e reach n h.0, lifted_has b reach _ h.1)
    lifted_has (r.Do e b) reach n h = (lifted_has e reach n h.0, lifted_has b reach _ h.1)
    lifted_has (r.Case e cs) reach n h =
        (lifted_has e reach n h.0, clauses_lifted_have cs reach _ h.1)
    lifted_has (r.Letrec fs e) reach n h = lifted_has e _ _ h.1
    lifted_has (r.Call head es) reach n h = called reach head _ (all_lifted_have es reach n h)
    lifted_has (r.Receive cs timeout e) reach n h =
        (clauses_lifted_have cs reach n h.0, lifted_has e reach _ h.1)

    all_lifted_have : (es : Expressions) (reach : Reach) (n : ℕ) → AllHaveHeads es
        → AllHaveHeads (lifted_all captured reach n es)
    all_lifted_have NoExpressions reach n h = tt
    all_lifted_have (MoreExpressions e es) reach n h =
        (lifted_has e reach n h.0, all_lifted_have es reach _ h.1)

    clauses_lifted_have : (cs : Clauses) (reach : Reach) (n : ℕ) → ClausesHaveHeads cs
        → ClausesHaveHeads (lifted_clauses captured reach n cs)
    clauses_lifted_have NoClauses reach n h = tt
    clauses_lifted_have (MoreClauses ps g b cs) reach n h =
        (lifted_has g reach n h.0, lifted_has b reach _ h.1, clauses_lifted_have cs reach _ h.2)

  mutual
    extracted_have : (e : Expression) (reach : Reach) (n : ℕ) → HasHeads e
        → TreesHaveHeads (extracted captured reach n e)
    extracted_have (r.Tuple site es) reach n h = all_extracted_have es reach n h
    extracted_have (r.ListOf site es e) reach n h =
        both_have _ _ (all_extracted_have es reach n h.1) (extracted_have e reach _ h.2)
    extracted_have (r.Values es) reach n h = all_extracted_have es reach n h
    extracted_have (r.Let xs e b) reach n h =
        both_have _ _ (extracted_have e reach n h.0) (extracted_have b reach _ h.1)
    extracted_have (r.Do e b) reach n h =
        both_have _ _ (extracted_have e reach n h.0) (extracted_have b reach _ h.1)
    extracted_have (r.Case e cs) reach n h =
        both_have _ _ (extracted_have e reach n h.0) (clauses_extracted_have cs reach _ h.1)
    extracted_have (r.Letrec fs e) reach n h =
        both_have _ _ (functions_extracted_have fs _ n h.0) (extracted_have e _ _ h.1)
    extracted_have (r.Call head es) reach n h = all_extracted_have es reach n h
    extracted_have (r.Receive cs timeout e) reach n h =
        both_have _ _ (clauses_extracted_have cs reach n h.0) (extracted_have e reach _ h.1)
    extracted_have _ reach n h = tt

    all_extracted_have : (es : Expressions) (reach : Reach) (n : ℕ) → AllHaveHeads es
        → TreesHaveHeads (extracted_all captured reach n es)
    all_extracted_have NoExpressions reach n h = tt
    all_extracted_have (MoreExpressions e es) reach n h =
        both_have _ _ (extracted_have e reach n h.0) (all_extracted_have es reach _ h.1)

    clauses_extracted_have : (cs : Clauses) (reach : Reach) (n : ℕ) → ClausesHaveHeads cs
        → TreesHaveHeads (extracted_clauses captured reach n cs)
    clauses_extracted_have NoClauses reach n h = tt
    clauses_extracted_have (MoreClauses ps g b cs) reach n h =
        both_have _ _ (extracted_have g reach n h.0)
        (both_have _ _ (extracted_have b reach _ h.1) (clauses_extracted_have cs reach _ h.2))

    functions_extracted_have : (fs : Functions) (reach : Reach) (n : ℕ) → FunctionsHaveHeads fs
        → TreesHaveHeads (extracted_functions captured reach n fs)
    functions_extracted_have NoFunctions reach n h = tt
    functions_extracted_have (MoreFunctions f xs b fs) reach n h = (
      lifted_has b reach _ h.0,
      both_have _ _ (extracted_have b reach _ h.0) (functions_extracted_have fs reach _ h.1),
    )

  tops_have : (fs : List FunctionTree) (n : ℕ) → TreesHaveHeads fs
      → TreesHaveHeads (lifted_tops captured n fs)
  tops_have [] n h = tt
  tops_have (f ∷ fs) n h = (lifted_has f.body [] n h.0, tops_have fs _ h.1)

  inner_have : (fs : List FunctionTree) (n : ℕ) → TreesHaveHeads fs
      → TreesHaveHeads (extracted_program captured n fs)
  inner_have [] n h = tt
  inner_have (f ∷ fs) n h = both_have _ _ (extracted_have f.body [] n h.0) (inner_have fs _ h.1)

  pub program_lifted_has : (program : List FunctionTree) → TreesHaveHeads program
      → TreesHaveHeads (lifted_program captured program)
  program_lifted_has program h =
      both_have _ _ (tops_have program (length program) h) (inner_have program (length program) h)
