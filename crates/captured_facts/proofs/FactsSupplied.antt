-- The facts of trees don't depend on the numbers of their events and sites.
use Rattle.std.proofs.Common.{◌≡◌, ℕ, suc, ◌+◌, ◌∷◌, ◌++◌, length, refl, ap, ◌∙◌}
use Rattle.hy_core.specs.Resolved as r
use Rattle.hy_core.specs.Resolved.{Head, Expression, Expressions, NoExpressions, MoreExpressions}
use Rattle.hy_core.specs.Resolved.{Clauses, NoClauses, MoreClauses}
use Rattle.hy_core.specs.Resolved.{Functions, NoFunctions, MoreFunctions}
use Rattle.hy_core.specs.Scopes.{Scope, with_variables, with_patterns}
use Rattle.hy_core.specs.Supplied.{Supply, behind, behind_all, behind_clauses, behind_functions}
use Rattle.hy_core.specs.Supplied.{behind_head, behind_sites, expression_count, supplied}
use Rattle.hy_core.specs.Supplied.{all_supplied, clauses_supplied, functions_supplied}
use Rattle.hy_core.specs.Supplied.{supplied_head}
use Rattle.lifted_program.specs.LetrecNumbers.{count, count_all, count_clauses, count_functions}
use Rattle.lifted_program.specs.LetrecNumbers.{Reach, reach_of}
use Rattle.captured_facts.specs.Facts.{facts, facts_all, facts_clauses, facts_functions}
use Rattle.captured_facts.specs.Facts.{head_facts, using}
use Rattle.captured_facts.specs.declared.owner.Owner.{Owner}

mutual
  pub count-supplied : (e : Expression) (k : Supply) → count (supplied e k) ≡ count e
  count-supplied (r.Tuple site es) k = all-count es (behind_sites 1 k)
  count-supplied (r.ListOf site es e) k =
      let inside = behind_sites (expression_count es) k in
      λ i. all-count es inside i + count-supplied e (behind_all es inside) i
  count-supplied (r.Values es) k = all-count es k
  count-supplied (r.Let xs e b) k =
      λ i. count-supplied e k i + count-supplied b (behind e k) i
  count-supplied (r.Do e b) k = λ i. count-supplied e k i + count-supplied b (behind e k) i
  count-supplied (r.Case e cs) k = λ i. count-supplied e k i + clauses-count cs (behind e k) i
  count-supplied (r.Letrec fs e) k =
      λ i. functions-count fs k i + count-supplied e (behind_functions fs k) i
  count-supplied (r.Call head es) k = all-count es (behind_head head k)
  count-supplied (r.Receive cs timeout e) k =
      λ i. clauses-count cs k i + count-supplied e (behind_clauses cs k) i
  count-supplied _ k = refl

  all-count : (es : Expressions) (k : Supply) → count_all (all_supplied es k) ≡ count_all es
  all-count NoExpressions k = refl
  all-count (MoreExpressions e es) k = λ i. count-supplied e k i + all-count es (behind e k) i

  clauses-count : (cs : Clauses) (k : Supply)
      → count_clauses (clauses_supplied cs k) ≡ count_clauses cs
  clauses-count NoClauses k = refl
  clauses-count (MoreClauses ps g b cs) k =
      let after_guard = behind g k in
      λ i. count-supplied g k i
      + (count-supplied b after_guard i + clauses-count cs (behind b after_guard) i)

  functions-count : (fs : Functions) (k : Supply)
      → count_functions (functions_supplied fs k) ≡ count_functions fs
  functions-count NoFunctions k = refl
  functions-count (MoreFunctions f xs b fs) k =
      λ i. suc (count-supplied b k i + functions-count fs (behind b k) i)

reach-supplied : (fs : Functions) (k : Supply) (n : ℕ)
    → reach_of n (functions_supplied fs k) ≡ reach_of n fs
reach-supplied NoFunctions k n = refl
reach-supplied (MoreFunctions f xs b fs) k n =
    ap (λ c. (f, n) ∷ reach_of (suc (n + c)) (functions_supplied fs (behind b k)))
    (count-supplied b k)
    ∙ ap (◌∷◌ (f, n)) (reach-supplied fs (behind b k) (suc (n + count b)))

head-supplied : (head : Head) (k : Supply) (o : Owner) (reach : Reach)
    → head_facts o reach (supplied_head head k) ≡ head_facts o reach head
head-supplied (r.BuiltIn b) k o reach = refl
head-supplied (r.Function f) k o reach = refl
head-supplied (r.Local f) k o reach = refl
head-supplied (r.Setelement site) k o reach = refl
head-supplied (r.Send node) k o reach = refl
head-supplied (r.Spawn node f) k o reach = refl
head-supplied (r.Display node) k o reach = refl
head-supplied (r.Raising class) k o reach = refl
head-supplied r.MatchFail k o reach = refl

mutual
  pub facts-supplied : (e : Expression) (k : Supply) (o : Owner) (s : Scope) (reach : Reach)
      (n : ℕ) → facts o s reach n (supplied e k) ≡ facts o s reach n e
  facts-supplied (r.Tuple site es) k o s reach n = all-facts es (behind_sites 1 k) o s reach n
  facts-supplied (r.ListOf site es e) k o s reach n =
      let inside = behind_sites (expression_count es) k in
      let last = supplied e (behind_all es inside) in
      (λ i. all-facts es inside o s reach n i
      ++ facts o s reach (n + all-count es inside i) last)
      ∙ ap (λ q. facts_all o s reach n es ++ q)
      (facts-supplied e (behind_all es inside) o s reach (n + count_all es))
  facts-supplied (r.Values es) k o s reach n = all-facts es k o s reach n
  facts-supplied (r.Let xs e b) k o s reach n =
      let inner = with_variables s xs in
      (λ i. facts-supplied e k o s reach n i
      ++ facts o inner reach (n + count-supplied e k i) (supplied b (behind e k)))
      ∙ ap (λ q. facts o s reach n e ++ q)
      (facts-supplied b (behind e k) o inner reach (n + count e))
  facts-supplied (r.Do e b) k o s reach n =
      (λ i. facts-supplied e k o s reach n i
      ++ facts o s reach (n + count-supplied e k i) (supplied b (behind e k)))
      ∙ ap (λ q. facts o s reach n e ++ q)
      (facts-supplied b (behind e k) o s reach (n + count e))
  facts-supplied (r.Case e cs) k o s reach n =
      (λ i. facts-supplied e k o s reach n i
      ++ facts_clauses o s reach (n + count-supplied e k i) (clauses_supplied cs (behind e k)))
      ∙ ap (λ q. facts o s reach n e ++ q)
      (clauses-facts cs (behind e k) o s reach (n + count e))
  facts-supplied (r.Letrec fs e) k o s reach n =
      let last = supplied e (behind_functions fs k) in
      let inside = reach_of n fs ++ reach in
      (λ i. facts_functions o s (reach-supplied fs k n i ++ reach) n (functions_supplied fs k)
      ++ facts o s (reach-supplied fs k n i ++ reach) (n + functions-count fs k i) last)
      ∙ (λ i. functions-facts fs k o s inside n i
      ++ facts-supplied e (behind_functions fs k) o s inside (n + count_functions fs) i)
  facts-supplied (r.Call head es) k o s reach n =
      λ i. head-supplied head k o reach i ++ all-facts es (behind_head head k) o s reach n i
  facts-supplied (r.Receive cs timeout e) k o s reach n =
      (λ i. clauses-facts cs k o s reach n i
      ++ facts o s reach (n + clauses-count cs k i) (supplied e (behind_clauses cs k)))
      ∙ ap (λ q. facts_clauses o s reach n cs ++ q)
      (facts-supplied e (behind_clauses cs k) o s reach (n + count_clauses cs))
  facts-supplied _ k o s reach n = refl

  all-facts : (es : Expressions) (k : Supply) (o : Owner) (s : Scope) (reach : Reach) (n : ℕ)
      → facts_all o s reach n (all_supplied es k) ≡ facts_all o s reach n es
  all-facts NoExpressions k o s reach n = refl
  all-facts (MoreExpressions e es) k o s reach n =
      (λ i. facts-supplied e k o s reach n i
      ++ facts_all o s reach (n + count-supplied e k i) (all_supplied es (behind e k)))
      ∙ ap (λ q. facts o s reach n e ++ q) (all-facts es (behind e k) o s reach (n + count e))

  clauses-facts : (cs : Clauses) (k : Supply) (o : Owner) (s : Scope) (reach : Reach) (n : ℕ)
      → facts_clauses o s reach n (clauses_supplied cs k) ≡ facts_clauses o s reach n cs
  clauses-facts NoClauses k o s reach n = refl
  clauses-facts (MoreClauses ps g b cs) k o s reach n =
      let inner = with_patterns s ps in
      let after_guard = behind g k in
      let rest = clauses_supplied cs (behind b after_guard) in
      (λ i. facts-supplied g k o inner reach n i
      ++ (facts o inner reach (n + count-supplied g k i) (supplied b after_guard)
      ++ facts_clauses o s reach
      (n + count-supplied g k i + count-supplied b after_guard i) rest))
      ∙ (λ i. facts o inner reach n g
      ++ (facts-supplied b after_guard o inner reach (n + count g) i
      ++ clauses-facts cs (behind b after_guard) o s reach (n + count g + count b) i))

  functions-facts : (fs : Functions) (k : Supply) (o : Owner) (s : Scope) (reach : Reach) (n : ℕ)
      → facts_functions o s reach n (functions_supplied fs k) ≡ facts_functions o s reach n fs
  functions-facts NoFunctions k o s reach n = refl
  functions-facts (MoreFunctions f xs b fs) k o s reach n =
      let inner : Owner = record { function = n; depth = length s } in
      let rest = functions_supplied fs (behind b k) in
      (λ i. using o n
      ++ (facts-supplied b k inner (with_variables s xs) reach (suc n) i
      ++ facts_functions o s reach (suc (n + count-supplied b k i)) rest))
      ∙ ap (λ q. using o n ++ (facts inner (with_variables s xs) reach (suc n) b ++ q))
      (functions-facts fs (behind b k) o s reach (suc (n + count b)))
