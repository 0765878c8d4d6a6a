-- Renaming takes and leaves the numbers that are supplied.
use Rattle.std.proofs.Common.{◌≡◌, ℕ, suc, [], refl, ap, ◌∙◌}
use Rattle.hy_core.specs.Resolved as r
use Rattle.hy_core.specs.Resolved.{Expression, Expressions, NoExpressions, MoreExpressions}
use Rattle.hy_core.specs.Resolved.{Clauses, NoClauses, MoreClauses}
use Rattle.hy_core.specs.Resolved.{Functions, NoFunctions, MoreFunctions}
use Rattle.hy_core.specs.Scopes.{Scope, with_variables, with_patterns}
use Rattle.hy_core.specs.Supplied.{Supply, behind, behind_all, behind_clauses, behind_functions}
use Rattle.hy_core.specs.Supplied.{behind_head, behind_sites, expression_count, supplied}
use Rattle.hy_core.specs.Supplied.{all_supplied, clauses_supplied, functions_supplied}
use Rattle.hy_core.specs.Supplied.{supplied_head}
use Rattle.lifted_program.specs.Renaming.{names_for, renamed, renamed_all, renamed_clauses}
use Rattle.lifted_program.specs.Renaming.{renamed_functions, renamed_patterns}

-- the first site that is supplied
abbrev site_of : Expression → ℕ
site_of (r.Text site text) = site
site_of _ = 0

abbrev first_site : Supply → ℕ
first_site n = site_of (supplied (r.Text 0 []) n)

module _ (limit : ℕ) where
  count-renamed : (scope : Scope) (es : Expressions)
      → expression_count (renamed_all limit scope es) ≡ expression_count es
  count-renamed scope NoExpressions = refl
  count-renamed scope (MoreExpressions e es) = ap suc (count-renamed scope es)

  mutual
    pub behind-renamed : (scope : Scope) (e : Expression) (n : Supply)
        → behind (renamed limit scope e) n ≡ behind e n
    behind-renamed scope (r.Tuple site es) n = behind-all scope es (behind_sites 1 n)
    behind-renamed scope (r.ListOf site es e) n =
        let inside = behind_sites (expression_count es) n in
        ap (λ k. behind (renamed limit scope e)
        (behind_all (renamed_all limit scope es) (behind_sites k n))) (count-renamed scope es)
        ∙ ap (behind (renamed limit scope e)) (behind-all scope es inside)
        ∙ behind-renamed scope e (behind_all es inside)
    behind-renamed scope (r.Values es) n = behind-all scope es n
    behind-renamed scope (r.Let xs e b) n =
        let inside = with_variables scope xs in
        ap (behind (renamed limit inside b)) (behind-renamed scope e n)
        ∙ behind-renamed inside b (behind e n)
    behind-renamed scope (r.Do e b) n =
        ap (behind (renamed limit scope b)) (behind-renamed scope e n)
        ∙ behind-renamed scope b (behind e n)
    behind-renamed scope (r.Case e cs) n =
        ap (behind_clauses (renamed_clauses limit scope cs)) (behind-renamed scope e n)
        ∙ behind-clauses scope cs (behind e n)
    behind-renamed scope (r.Letrec fs e) n =
        ap (behind (renamed limit scope e)) (behind-functions scope fs n)
        ∙ behind-renamed scope e (behind_functions fs n)
    behind-renamed scope (r.Call head es) n = behind-all scope es (behind_head head n)
    behind-renamed scope (r.Receive cs t e) n =
        ap (behind (renamed limit scope e)) (behind-clauses scope cs n)
        ∙ behind-renamed scope e (behind_clauses cs n)
    behind-renamed scope _ n = refl

    behind-all : (scope : Scope) (es : Expressions) (n : Supply)
        → behind_all (renamed_all limit scope es) n ≡ behind_all es n
    behind-all scope NoExpressions n = refl
    behind-all scope (MoreExpressions e es) n =
        ap (behind_all (renamed_all limit scope es)) (behind-renamed scope e n)
        ∙ behind-all scope es (behind e n)

    behind-clauses : (scope : Scope) (cs : Clauses) (n : Supply)
        → behind_clauses (renamed_clauses limit scope cs) n ≡ behind_clauses cs n
    behind-clauses scope NoClauses n = refl
    behind-clauses scope (MoreClauses ps g b cs) n =
        let inside = with_patterns scope ps in
        ap (λ m. behind_clauses (renamed_clauses limit scope cs)
        (behind (renamed limit inside b) m))
        (behind-renamed inside g n)
        ∙ ap (behind_clauses (renamed_clauses limit scope cs))
        (behind-renamed inside b (behind g n))
        ∙ behind-clauses scope cs (behind b (behind g n))

    behind-functions : (scope : Scope) (fs : Functions) (n : Supply)
        → behind_functions (renamed_functions limit scope fs) n ≡ behind_functions fs n
    behind-functions scope NoFunctions n = refl
    behind-functions scope (MoreFunctions f xs b fs) n =
        ap (behind_functions (renamed_functions limit scope fs))
        (behind-renamed (with_variables scope xs) b n)
        ∙ behind-functions scope fs (behind b n)

  mutual
    pub supplied-renamed : (scope : Scope) (e : Expression) (n : Supply)
        → supplied (renamed limit scope e) n ≡ renamed limit scope (supplied e n)
    supplied-renamed scope (r.Tuple site es) n =
        ap (r.Tuple (first_site n)) (all-renamed scope es (behind_sites 1 n))
    supplied-renamed scope (r.ListOf site es e) n =
        let inside = behind_sites (expression_count es) n in
        let later = behind_all es inside in
        ap (λ k. r.ListOf (first_site n)
        (all_supplied (renamed_all limit scope es) (behind_sites k n))
        (supplied (renamed limit scope e)
        (behind_all (renamed_all limit scope es) (behind_sites k n)))) (count-renamed scope es)
        ∙ (λ i. r.ListOf (first_site n) (all-renamed scope es inside i)
        (supplied (renamed limit scope e) (behind-all scope es inside i)))
        ∙ ap (r.ListOf (first_site n) (renamed_all limit scope (all_supplied es inside)))
        (supplied-renamed scope e later)
    supplied-renamed scope (r.Values es) n = ap r.Values (all-renamed scope es n)
    supplied-renamed scope (r.Let xs e b) n =
        let inside = with_variables scope xs in
        let ys = names_for limit scope xs in
        (λ i. r.Let ys (supplied-renamed scope e n i)
        (supplied (renamed limit inside b) (behind-renamed scope e n i)))
        ∙ ap (r.Let ys (renamed limit scope (supplied e n)))
        (supplied-renamed inside b (behind e n))
    supplied-renamed scope (r.Do e b) n =
        (λ i. r.Do (supplied-renamed scope e n i)
        (supplied (renamed limit scope b) (behind-renamed scope e n i)))
        ∙ ap (r.Do (renamed limit scope (supplied e n))) (supplied-renamed scope b (behind e n))
    supplied-renamed scope (r.Case e cs) n =
        (λ i. r.Case (supplied-renamed scope e n i)
        (clauses_supplied (renamed_clauses limit scope cs) (behind-renamed scope e n i)))
        ∙ ap (r.Case (renamed limit scope (supplied e n))) (clauses-renamed scope cs (behind e n))
    supplied-renamed scope (r.Letrec fs e) n =
        (λ i. r.Letrec (functions-renamed scope fs n i)
        (supplied (renamed limit scope e) (behind-functions scope fs n i)))
        ∙ ap (r.Letrec (renamed_functions limit scope (functions_supplied fs n)))
        (supplied-renamed scope e (behind_functions fs n))
    supplied-renamed scope (r.Call head es) n =
        ap (r.Call (supplied_head head n)) (all-renamed scope es (behind_head head n))
    supplied-renamed scope (r.Receive cs t e) n =
        (λ i. r.Receive (clauses-renamed scope cs n i) t
        (supplied (renamed limit scope e) (behind-clauses scope cs n i)))
        ∙ ap (r.Receive (renamed_clauses limit scope (clauses_supplied cs n)) t)
        (supplied-renamed scope e (behind_clauses cs n))
    supplied-renamed scope _ n = refl

    all-renamed : (scope : Scope) (es : Expressions) (n : Supply)
        → all_supplied (renamed_all limit scope es) n ≡ renamed_all limit scope (all_supplied es n)
    all-renamed scope NoExpressions n = refl
    all-renamed scope (MoreExpressions e es) n =
        (λ i. MoreExpressions (supplied-renamed scope e n i)
        (all_supplied (renamed_all limit scope es) (behind-renamed scope e n i)))
        ∙ ap (MoreExpressions (renamed limit scope (supplied e n)))
        (all-renamed scope es (behind e n))

    clauses-renamed : (scope : Scope) (cs : Clauses) (n : Supply)
        → clauses_supplied (renamed_clauses limit scope cs) n
        ≡ renamed_clauses limit scope (clauses_supplied cs n)
    clauses-renamed scope NoClauses n = refl
    clauses-renamed scope (MoreClauses ps g b cs) n =
        let inside = with_patterns scope ps in
        let qs = renamed_patterns limit scope ps in
        let after_guard = behind g n in
        (λ i. MoreClauses qs (supplied-renamed inside g n i)
        (supplied (renamed limit inside b) (behind-renamed inside g n i))
        (clauses_supplied (renamed_clauses limit scope cs)
        (behind (renamed limit inside b) (behind-renamed inside g n i))))
        ∙ (λ i. MoreClauses qs (renamed limit inside (supplied g n))
        (supplied-renamed inside b after_guard i)
        (clauses_supplied (renamed_clauses limit scope cs) (behind-renamed inside b after_guard i)))
        ∙ ap (MoreClauses qs (renamed limit inside (supplied g n))
        (renamed limit inside (supplied b after_guard)))
        (clauses-renamed scope cs (behind b after_guard))

    functions-renamed : (scope : Scope) (fs : Functions) (n : Supply)
        → functions_supplied (renamed_functions limit scope fs) n
        ≡ renamed_functions limit scope (functions_supplied fs n)
    functions-renamed scope NoFunctions n = refl
    functions-renamed scope (MoreFunctions f xs b fs) n =
        let inside = with_variables scope xs in
        let ys = names_for limit scope xs in
        (λ i. MoreFunctions f ys (supplied-renamed inside b n i)
        (functions_supplied (renamed_functions limit scope fs) (behind-renamed inside b n i)))
        ∙ ap (MoreFunctions f ys (renamed limit inside (supplied b n)))
        (functions-renamed scope fs (behind b n))
