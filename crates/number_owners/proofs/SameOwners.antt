-- Neither numbers nor the names of variables matter to the functions in which sites stand.
use Rattle.std.proofs.Common.{◌≡◌, ℕ, suc, ◌+◌, List, [], ◌∷◌, ◌++◌, map, replicate}
use Rattle.std.proofs.Common.{refl, ap, ◌∙◌}
use Rattle.core_accepted.specs.TreeSites.{all_sites, clauses_sites, conses, functions_sites}
use Rattle.core_accepted.specs.TreeSites.{head_sites, program_tree_sites, tree_sites}
use Rattle.hy_core.specs.Resolved as r
use Rattle.hy_core.specs.Resolved.{Head, Expression, Expressions, NoExpressions, MoreExpressions}
use Rattle.hy_core.specs.Resolved.{Clauses, NoClauses, MoreClauses}
use Rattle.hy_core.specs.Resolved.{Functions, NoFunctions, MoreFunctions, FunctionTree}
use Rattle.hy_core.specs.Scopes.{Scope, with_patterns, with_variables}
use Rattle.hy_core.specs.Supplied.{expression_count}
use Rattle.lifted_numbers.specs.TreeNumbers.{all_bare, bare, bare_function, bare_head, clauses_bare}
use Rattle.hy_core.specs.declared.info.SiteKind.TheVariants as kind
use Rattle.hy_core.specs.declared.tree.FunName.{FunName}
use Rattle.lifted_numbers.specs.TreeNumbers.{functions_bare}
use Rattle.lifted_program.specs.LetrecNumbers.{count, count_all, count_clauses, count_functions}
use Rattle.lifted_program.specs.Renaming.{renamed, renamed_all, renamed_clauses}
use Rattle.lifted_program.specs.Renaming.{renamed_functions, renamed_program}
use Rattle.number_owners.specs.SiteOwners.{all_owners, clauses_owners, functions_owners}
use Rattle.number_owners.specs.SiteOwners.{head_owners, owners, owners_from}

-- as many functions of letrecs, and the same owners
record Same (e f : Expression) : Type 0 where
  counts : count e ≡ count f
  owns : (k n : ℕ) → owners k n e ≡ owners k n f

record AllSame (es fs : Expressions) : Type 0 where
  many : expression_count es ≡ expression_count fs
  counts : count_all es ≡ count_all fs
  owns : (k n : ℕ) → all_owners k n es ≡ all_owners k n fs

record ClausesSame (cs ds : Clauses) : Type 0 where
  counts : count_clauses cs ≡ count_clauses ds
  owns : (k n : ℕ) → clauses_owners k n cs ≡ clauses_owners k n ds

record FunctionsSame (fs gs : Functions) : Type 0 where
  counts : count_functions fs ≡ count_functions gs
  owns : (n : ℕ) → functions_owners n fs ≡ functions_owners n gs

same : (e : Expression) → Same e e
same e = record { counts = refl; owns = λ k n. refl }

none_same : AllSame NoExpressions NoExpressions
none_same = record { many = refl; counts = refl; owns = λ k n. refl }

more_same : {e f : Expression} {es fs : Expressions} → Same e f → AllSame es fs
    → AllSame (MoreExpressions e es) (MoreExpressions f fs)
more_same h g = record {
  many = ap (λ c. suc c) g.many;
  counts = λ i. h.counts i + g.counts i;
  owns = λ k n i. h.owns k n i ++ g.owns k (n + h.counts i) i;
}

list_same : (site other : ℕ) {e f : Expression} {es fs : Expressions} → AllSame es fs → Same e f
    → Same (r.ListOf site es e) (r.ListOf other fs f)
list_same site other h g = record {
  counts = λ i. h.counts i + g.counts i;
  owns = λ k n i.
      replicate (h.many i) k ++ (h.owns k n i ++ g.owns k (n + h.counts i) i);
}

let_same : (xs ys : List ℕ) {e f b c : Expression} → Same e f → Same b c
    → Same (r.Let xs e b) (r.Let ys f c)
let_same xs ys h g = record {
  counts = λ i. h.counts i + g.counts i;
  owns = λ k n i. h.owns k n i ++ g.owns k (n + h.counts i) i;
}

do_same : {e f b c : Expression} → Same e f → Same b c → Same (r.Do e b) (r.Do f c)
do_same h g = record {
  counts = λ i. h.counts i + g.counts i;
  owns = λ k n i. h.owns k n i ++ g.owns k (n + h.counts i) i;
}

case_same : {e f : Expression} {cs ds : Clauses} → Same e f → ClausesSame cs ds
    → Same (r.Case e cs) (r.Case f ds)
case_same h g = record {
  counts = λ i. h.counts i + g.counts i;
  owns = λ k n i. h.owns k n i ++ g.owns k (n + h.counts i) i;
}

letrec_same : {fs gs : Functions} {e f : Expression} → FunctionsSame fs gs → Same e f
    → Same (r.Letrec fs e) (r.Letrec gs f)
letrec_same h g = record {
  counts = λ i. h.counts i + g.counts i;
  owns = λ k n i. h.owns n i ++ g.owns k (n + h.counts i) i;
}

receive_same : (timeout : r.Timeout) {cs ds : Clauses} {e f : Expression} → ClausesSame cs ds
    → Same e f → Same (r.Receive cs timeout e) (r.Receive ds timeout f)
receive_same timeout h g = record {
  counts = λ i. h.counts i + g.counts i;
  owns = λ k n i. h.owns k n i ++ g.owns k (n + h.counts i) i;
}

clauses_same : (ps qs : r.Patterns) {g h b c : Expression} {cs ds : Clauses} → Same g h
    → Same b c → ClausesSame cs ds → ClausesSame (MoreClauses ps g b cs) (MoreClauses qs h c ds)
clauses_same ps qs p q s = record {
  counts = λ i. p.counts i + (q.counts i + s.counts i);
  owns = λ k n i.
      p.owns k n i
      ++ (q.owns k (n + p.counts i) i ++ s.owns k (n + p.counts i + q.counts i) i);
}

functions_same : (f : FunName) (xs ys : List ℕ) {b c : Expression} {fs gs : Functions}
    → Same b c → FunctionsSame fs gs
    → FunctionsSame (MoreFunctions f xs b fs) (MoreFunctions f ys c gs)
functions_same f xs ys h g = record {
  counts = λ i. suc (h.counts i + g.counts i);
  owns = λ n i. h.owns n (suc n) i ++ g.owns (suc (n + h.counts i)) i;
}

call_same : {head other : Head} {es fs : Expressions}
    → ((k : ℕ) → head_owners k head ≡ head_owners k other) → AllSame es fs
    → Same (r.Call head es) (r.Call other fs)
call_same h g = record { counts = g.counts; owns = λ k n i. h k i ++ g.owns k n i }

head_same : (k : ℕ) (head : Head) → head_owners k (bare_head head) ≡ head_owners k head
head_same k (r.Setelement site) = refl
head_same k (r.Send node) = refl
head_same k (r.Spawn node f) = refl
head_same k (r.Display node) = refl
head_same k _ = refl

mutual
  bare_same : (e : Expression) → Same (bare e) e
  bare_same (r.Text site text) = record { counts = refl; owns = λ k n. refl }
  bare_same (r.Tuple site es) =
      let h = all_bare_same es in
      record { counts = h.counts; owns = λ k n i. k ∷ h.owns k n i }
  bare_same (r.ListOf site es e) = list_same 0 site (all_bare_same es) (bare_same e)
  bare_same (r.Values es) =
      let h = all_bare_same es in record { counts = h.counts; owns = h.owns }
  bare_same (r.Let xs e b) = let_same xs xs (bare_same e) (bare_same b)
  bare_same (r.Do e b) = do_same (bare_same e) (bare_same b)
  bare_same (r.Case e cs) = case_same (bare_same e) (clauses_bare_same cs)
  bare_same (r.Letrec fs e) = letrec_same (functions_bare_same fs) (bare_same e)
  bare_same (r.Call head es) = call_same (λ k. head_same k head) (all_bare_same es)
  bare_same (r.Receive cs timeout e) = receive_same timeout (clauses_bare_same cs) (bare_same e)
  bare_same e = same e

  all_bare_same : (es : Expressions) → AllSame (all_bare es) es
  all_bare_same NoExpressions = none_same
  all_bare_same (MoreExpressions e es) = more_same (bare_same e) (all_bare_same es)

  clauses_bare_same : (cs : Clauses) → ClausesSame (clauses_bare cs) cs
  clauses_bare_same NoClauses = record { counts = refl; owns = λ k n. refl }
  clauses_bare_same (MoreClauses ps g b cs) =
      clauses_same ps ps (bare_same g) (bare_same b) (clauses_bare_same cs)

  functions_bare_same : (fs : Functions) → FunctionsSame (functions_bare fs) fs
  functions_bare_same NoFunctions = record { counts = refl; owns = λ n. refl }
  functions_bare_same (MoreFunctions f xs b fs) =
      functions_same f xs xs (bare_same b) (functions_bare_same fs)

pub owners_bare : (k n : ℕ) (fs : List FunctionTree)
    → owners_from k n (map bare_function fs) ≡ owners_from k n fs
owners_bare k n [] = refl
owners_bare k n (f ∷ fs) =
    let h = bare_same f.body in
    λ i. h.owns k n i
    ++ (ap (λ c. owners_from (suc k) (n + c) (map bare_function fs)) h.counts
    ∙ owners_bare (suc k) (n + count f.body) fs) i

module _ (limit : ℕ) where
  mutual
    renamed_same : (e : Expression) (scope : Scope) → Same (renamed limit scope e) e
    renamed_same (r.Tuple site es) scope =
        let h = all_renamed_same es scope in
        record { counts = h.counts; owns = λ k n i. k ∷ h.owns k n i }
    renamed_same (r.ListOf site es e) scope =
        list_same site site (all_renamed_same es scope) (renamed_same e scope)
    renamed_same (r.Values es) scope =
        let h = all_renamed_same es scope in record { counts = h.counts; owns = h.owns }
    renamed_same (r.Variable x) scope = record { counts = refl; owns = λ k n. refl }
    renamed_same (r.Let xs e b) scope =
        let_same _ xs (renamed_same e scope) (renamed_same b (with_variables scope xs))
    renamed_same (r.Do e b) scope = do_same (renamed_same e scope) (renamed_same b scope)
    renamed_same (r.Case e cs) scope =
        case_same (renamed_same e scope) (clauses_renamed_same cs scope)
    renamed_same (r.Letrec fs e) scope =
        letrec_same (functions_renamed_same fs scope) (renamed_same e scope)
    renamed_same (r.Call head es) scope = call_same (λ k. refl) (all_renamed_same es scope)
    renamed_same (r.Receive cs timeout e) scope =
        receive_same timeout (clauses_renamed_same cs scope) (renamed_same e scope)
    renamed_same e scope = same e

    all_renamed_same : (es : Expressions) (scope : Scope) → AllSame (renamed_all limit scope es) es
    all_renamed_same NoExpressions scope = none_same
    all_renamed_same (MoreExpressions e es) scope =
        more_same (renamed_same e scope) (all_renamed_same es scope)

    clauses_renamed_same : (cs : Clauses) (scope : Scope)
        → ClausesSame (renamed_clauses limit scope cs) cs
    clauses_renamed_same NoClauses scope = record { counts = refl; owns = λ k n. refl }
    clauses_renamed_same (MoreClauses ps g b cs) scope =
        let inside = with_patterns scope ps in
        clauses_same _ ps (renamed_same g inside) (renamed_same b inside)
        (clauses_renamed_same cs scope)

    functions_renamed_same : (fs : Functions) (scope : Scope)
        → FunctionsSame (renamed_functions limit scope fs) fs
    functions_renamed_same NoFunctions scope = record { counts = refl; owns = λ n. refl }
    functions_renamed_same (MoreFunctions f xs b fs) scope =
        functions_same f _ xs (renamed_same b (with_variables scope xs))
        (functions_renamed_same fs scope)

  many_renamed : (es : Expressions) (scope : Scope)
      → expression_count (renamed_all limit scope es) ≡ expression_count es
  many_renamed es scope = (all_renamed_same es scope).many

  mutual
    sites_renamed : (e : Expression) (scope : Scope) → tree_sites (renamed limit scope e) ≡ tree_sites e
    sites_renamed (r.Tuple site es) scope = ap (λ ss. (site, kind.Tuple) ∷ ss) (all_sites_renamed es scope)
    sites_renamed (r.ListOf site es e) scope =
        λ i. (conses site (many_renamed es scope i) ++ all_sites_renamed es scope i)
        ++ sites_renamed e scope i
    sites_renamed (r.Values es) scope = all_sites_renamed es scope
    sites_renamed (r.Variable x) scope = refl
    sites_renamed (r.Let xs e b) scope =
        λ i. sites_renamed e scope i ++ sites_renamed b (with_variables scope xs) i
    sites_renamed (r.Do e b) scope = λ i. sites_renamed e scope i ++ sites_renamed b scope i
    sites_renamed (r.Case e cs) scope =
        λ i. sites_renamed e scope i ++ clauses_sites_renamed cs scope i
    sites_renamed (r.Letrec fs e) scope =
        λ i. functions_sites_renamed fs scope i ++ sites_renamed e scope i
    sites_renamed (r.Call head es) scope =
        ap (λ ss. head_sites head ++ ss) (all_sites_renamed es scope)
    sites_renamed (r.Receive cs timeout e) scope =
        λ i. clauses_sites_renamed cs scope i ++ sites_renamed e scope i
    sites_renamed e scope = refl

    all_sites_renamed : (es : Expressions) (scope : Scope)
        → all_sites (renamed_all limit scope es) ≡ all_sites es
    all_sites_renamed NoExpressions scope = refl
    all_sites_renamed (MoreExpressions e es) scope =
        λ i. sites_renamed e scope i ++ all_sites_renamed es scope i

    clauses_sites_renamed : (cs : Clauses) (scope : Scope)
        → clauses_sites (renamed_clauses limit scope cs) ≡ clauses_sites cs
    clauses_sites_renamed NoClauses scope = refl
    clauses_sites_renamed (MoreClauses ps g b cs) scope =
        let inside = with_patterns scope ps in
        λ i. (sites_renamed g inside i ++ sites_renamed b inside i)
        ++ clauses_sites_renamed cs scope i

    functions_sites_renamed : (fs : Functions) (scope : Scope)
        → functions_sites (renamed_functions limit scope fs) ≡ functions_sites fs
    functions_sites_renamed NoFunctions scope = refl
    functions_sites_renamed (MoreFunctions f xs b fs) scope =
        λ i. sites_renamed b (with_variables scope xs) i ++ functions_sites_renamed fs scope i

  pub program_sites_renamed : (fs : List FunctionTree)
      → program_tree_sites (renamed_program limit fs) ≡ program_tree_sites fs
  program_sites_renamed [] = refl
  program_sites_renamed (f ∷ fs) =
      λ i. sites_renamed f.body (with_variables [] f.parameters) i ++ program_sites_renamed fs i

  pub owners_renamed : (k n : ℕ) (fs : List FunctionTree)
      → owners_from k n (renamed_program limit fs) ≡ owners_from k n fs
  owners_renamed k n [] = refl
  owners_renamed k n (f ∷ fs) =
      let h = renamed_same f.body (with_variables [] f.parameters) in
      λ i. h.owns k n i
      ++ (ap (λ c. owners_from (suc k) (n + c) (renamed_program limit fs)) h.counts
      ∙ owners_renamed (suc k) (n + count f.body) fs) i
