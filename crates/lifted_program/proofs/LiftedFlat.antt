-- A lifted program has no letrecs, and no calls of their functions.
use Rattle.std.proofs.Common.{ℕ, suc, ◌+◌, List, [], ◌∷◌, ◌++◌, length, Option, Some, None}
use Rattle.std.specs.List.{All}
use Rattle.std.proofs.lemmas.List.Elements.{All-nil, All-cons, All-append}
use Rattle.hy_core.specs.Resolved as r
use Rattle.hy_core.specs.Resolved.{Head, Expression, Expressions, NoExpressions, MoreExpressions}
use Rattle.hy_core.specs.Resolved.{Clauses, NoClauses, MoreClauses, Functions, NoFunctions}
use Rattle.hy_core.specs.Resolved.{MoreFunctions, FunctionTree}
use Rattle.lifted_program.specs.Flat.{IsFlat, AreFlat, ClausesAreFlat}
use Rattle.lifted_program.specs.LetrecNumbers.{count, count_all, count_clauses, count_functions}
use Rattle.lifted_program.specs.LetrecNumbers.{Reach, reach_of, number_in}
use Rattle.lifted_program.specs.LiftedProgram.{passing, call_lifted, call_of, lifted, lifted_all}
use Rattle.lifted_program.specs.LiftedProgram.{lifted_clauses, extracted, extracted_all}
use Rattle.lifted_program.specs.LiftedProgram.{extracted_clauses, extracted_functions, lifted_tops}
use Rattle.lifted_program.specs.LiftedProgram.{extracted_program, lifted_program}

passing_flat : (xs : List ℕ) (es : Expressions) → AreFlat es → AreFlat (passing xs es)
passing_flat [] es h = h
passing_flat (x ∷ xs) es h = (tt, passing_flat xs es h)

abbrev pub FlatBody : FunctionTree → Type 0
FlatBody f = IsFlat f.body

module _ (captured : ℕ → List ℕ) where
  call_flat : (o : Option ℕ) (es : Expressions) → AreFlat es → IsFlat (call_lifted captured o es)
  call_flat None es h = tt
  call_flat (Some k) es h = (tt, passing_flat (captured k) es h)

  head_flat : (reach : Reach) (head : Head) (es : Expressions) → AreFlat es
      → IsFlat (call_of captured reach head es)
  head_flat reach (r.Local f) es h = call_flat (number_in reach f) es h
  head_flat reach (r.BuiltIn b) es h = (tt, h)
  head_flat reach (r.Function f) es h = (tt, h)
  head_flat reach (r.Setelement site) es h = (tt, h)
  head_flat reach (r.Send node) es h = (tt, h)
  head_flat reach (r.Spawn node f) es h = (tt, h)
  head_flat reach (r.Display node) es h = (tt, h)
  head_flat reach (r.Raising class) es h = (tt, h)
  head_flat reach r.MatchFail es h = (tt, h)

  mutual
    flat : (e : Expression) (reach : Reach) (n : ℕ) → IsFlat (lifted captured reach n e)
    flat (r.Int v) reach n = tt
    flat (r.Atom a) reach n = tt
    flat r.Nil reach n = tt
    flat (r.Text site t) reach n = tt
    flat (r.Variable x) reach n = tt
    flat (r.Tuple site es) reach n = all_flat es reach n
    flat (r.ListOf site es e) reach n = (all_flat es reach n, flat e reach (n + count_all es))
    flat (r.Values es) reach n = all_flat es reach n
    flat (r.Let xs e b) reach n = (flat e reach n, flat b reach (n + count e))
    flat (r.Do e b) reach n = (flat e reach n, flat b reach (n + count e))
    flat (r.Case e cs) reach n = (flat e reach n, clauses_flat cs reach (n + count e))
    flat (r.Letrec fs e) reach n = flat e (reach_of n fs ++ reach) (n + count_functions fs)
    flat (r.Call head es) reach n =
        head_flat reach head (lifted_all captured reach n es) (all_flat es reach n)
    flat (r.Receive cs timeout e) reach n =
        (clauses_flat cs reach n, flat e reach (n + count_clauses cs))
    flat r.Refused reach n = tt

    all_flat : (es : Expressions) (reach : Reach) (n : ℕ) → AreFlat (lifted_all captured reach n es)
    all_flat NoExpressions reach n = tt
    all_flat (MoreExpressions e es) reach n = (flat e reach n, all_flat es reach (n + count e))

    clauses_flat : (cs : Clauses) (reach : Reach) (n : ℕ)
        → ClausesAreFlat (lifted_clauses captured reach n cs)
    clauses_flat NoClauses reach n = tt
    clauses_flat (MoreClauses ps g b cs) reach n =
        (flat g reach n, flat b reach (n + count g), clauses_flat cs reach (n + count g + count b))

  abbrev AllFlat : List FunctionTree → Type 0
  AllFlat fs = All FlatBody fs

  both : (fs gs : List FunctionTree) → AllFlat fs → AllFlat gs → AllFlat (fs ++ gs)
  both fs gs h k = All-append FlatBody fs gs h k

  mutual
    extracted_flat : (e : Expression) (reach : Reach) (n : ℕ)
        → AllFlat (extracted captured reach n e)
    extracted_flat (r.Tuple site es) reach n = all_extracted_flat es reach n
    extracted_flat (r.ListOf site es e) reach n =
        both (extracted_all captured reach n es) (extracted captured reach (n + count_all es) e)
        (all_extracted_flat es reach n) (extracted_flat e reach (n + count_all es))
    extracted_flat (r.Values es) reach n = all_extracted_flat es reach n
    extracted_flat (r.Let xs e b) reach n =
        both (extracted captured reach n e) (extracted captured reach (n + count e) b)
        (extracted_flat e reach n) (extracted_flat b reach (n + count e))
    extracted_flat (r.Do e b) reach n =
        both (extracted captured reach n e) (extracted captured reach (n + count e) b)
        (extracted_flat e reach n) (extracted_flat b reach (n + count e))
    extracted_flat (r.Case e cs) reach n =
        both (extracted captured reach n e) (extracted_clauses captured reach (n + count e) cs)
        (extracted_flat e reach n) (clauses_extracted_flat cs reach (n + count e))
    extracted_flat (r.Letrec fs e) reach n =
        let inside = reach_of n fs ++ reach in
        both (extracted_functions captured inside n fs)
        (extracted captured inside (n + count_functions fs) e)
        (functions_extracted_flat fs inside n) (extracted_flat e inside (n + count_functions fs))
    extracted_flat (r.Call head es) reach n = all_extracted_flat es reach n
    extracted_flat (r.Receive cs timeout e) reach n =
        both (extracted_clauses captured reach n cs)
        (extracted captured reach (n + count_clauses cs) e) (clauses_extracted_flat cs reach n)
        (extracted_flat e reach (n + count_clauses cs))
    extracted_flat _ reach n = All-nil FlatBody

    all_extracted_flat : (es : Expressions) (reach : Reach) (n : ℕ)
        → AllFlat (extracted_all captured reach n es)
    all_extracted_flat NoExpressions reach n = All-nil FlatBody
    all_extracted_flat (MoreExpressions e es) reach n =
        both (extracted captured reach n e) (extracted_all captured reach (n + count e) es)
        (extracted_flat e reach n) (all_extracted_flat es reach (n + count e))

    clauses_extracted_flat : (cs : Clauses) (reach : Reach) (n : ℕ)
        → AllFlat (extracted_clauses captured reach n cs)
    clauses_extracted_flat NoClauses reach n = All-nil FlatBody
    clauses_extracted_flat (MoreClauses ps g b cs) reach n =
        let others = extracted_clauses captured reach (n + count g + count b) cs in
        both (extracted captured reach n g) (extracted captured reach (n + count g) b ++ others)
        (extracted_flat g reach n)
        (both (extracted captured reach (n + count g) b) others
        (extracted_flat b reach (n + count g))
        (clauses_extracted_flat cs reach (n + count g + count b)))

    functions_extracted_flat : (fs : Functions) (reach : Reach) (n : ℕ)
        → AllFlat (extracted_functions captured reach n fs)
    functions_extracted_flat NoFunctions reach n = All-nil FlatBody
    functions_extracted_flat (MoreFunctions f xs b fs) reach n =
        let inner = extracted captured reach (suc n) b in
        let others = extracted_functions captured reach (suc (n + count b)) fs in
        All-cons FlatBody
        (record { parameters = captured n ++ xs; body = lifted captured reach (suc n) b })
        (inner ++ others) (flat b reach (suc n))
        (both inner others (extracted_flat b reach (suc n))
        (functions_extracted_flat fs reach (suc (n + count b))))

  tops_flat : (fs : List FunctionTree) (n : ℕ) → AllFlat (lifted_tops captured n fs)
  tops_flat [] n = All-nil FlatBody
  tops_flat (f ∷ fs) n =
      All-cons FlatBody (record { parameters = f.parameters; body = lifted captured [] n f.body })
      (lifted_tops captured (n + count f.body) fs) (flat f.body [] n)
      (tops_flat fs (n + count f.body))

  program_flat : (fs : List FunctionTree) (n : ℕ) → AllFlat (extracted_program captured n fs)
  program_flat [] n = All-nil FlatBody
  program_flat (f ∷ fs) n =
      both (extracted captured [] n f.body) (extracted_program captured (n + count f.body) fs)
      (extracted_flat f.body [] n) (program_flat fs (n + count f.body))

  pub lifted_flat : (program : List FunctionTree) → All FlatBody (lifted_program captured program)
  lifted_flat program =
      let n = length program in
      both (lifted_tops captured n program) (extracted_program captured n program)
      (tops_flat program n) (program_flat program n)
