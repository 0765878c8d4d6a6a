-- The sites of a lifted program are sites of the program.
use Rattle.std.proofs.Common.{◌≡◌, ℕ, suc, ◌+◌, List, [], ◌∷◌, ◌++◌, length, Option, Some, None}
use Rattle.std.proofs.Common.{refl, sym, ap, subst}
use Rattle.std.proofs.lemmas.List.{append_assoc}
use Rattle.core_accepted.specs.TreeSites.{conses, head_sites, tree_sites, all_sites, clauses_sites}
use Rattle.core_accepted.specs.TreeSites.{functions_sites, program_tree_sites, kinds_from, Site}
use Rattle.hy_core.specs.declared.info.SiteInfo.{SiteInfo}
use Rattle.hy_core.specs.Resolved as r
use Rattle.hy_core.specs.Resolved.{Head, Expression, Expressions, NoExpressions, MoreExpressions}
use Rattle.hy_core.specs.Resolved.{Clauses, NoClauses, MoreClauses, Functions, NoFunctions}
use Rattle.hy_core.specs.Resolved.{MoreFunctions, FunctionTree}
use Rattle.hy_core.specs.Supplied.{expression_count}
use Rattle.hy_ir.specs.Meaning.{kind_at}
use Rattle.lifted_program.specs.LetrecNumbers.{count, count_all, count_clauses, count_functions}
use Rattle.lifted_program.specs.LetrecNumbers.{Reach, reach_of, number_in}
use Rattle.lifted_program.specs.LiftedProgram.{passing, call_lifted, call_of, lifted, lifted_all}
use Rattle.lifted_program.specs.LiftedProgram.{lifted_clauses, extracted, extracted_all}
use Rattle.lifted_program.specs.LiftedProgram.{extracted_clauses, extracted_functions, lifted_tops}
use Rattle.lifted_program.specs.LiftedProgram.{extracted_program, lifted_program}
use Rattle.lowered_code.proofs.Pieces.{AreSites, sites_front, sites_back}

sites_both : (sites : List SiteInfo) (a b : List Site) → AreSites sites a → AreSites sites b
    → AreSites sites (a ++ b)
sites_both sites [] b h k = k
sites_both sites (s ∷ a) b h k = (h.0, sites_both sites a b h.1 k)

-- a table has its own sites
table_stands : (before sites : List SiteInfo)
    → AreSites (before ++ sites) (kinds_from (length before) sites)
table_stands before [] = tt
table_stands before (s ∷ sites) = (
  here before,
  subst (λ all. AreSites all (kinds_from (suc (length before)) sites))
      (append_assoc before (s ∷ []) sites)
      (subst (λ n. AreSites ((before ++ s ∷ []) ++ sites) (kinds_from n sites)) (one_more before)
      (table_stands (before ++ s ∷ []) sites)),
)
  where
    here : (bs : List SiteInfo) → kind_at (bs ++ s ∷ sites) (length bs) ≡ Some s.kind
    here [] = refl
    here (b ∷ bs) = here bs

    one_more : (bs : List SiteInfo) → length (bs ++ s ∷ []) ≡ suc (length bs)
    one_more [] = refl
    one_more (b ∷ bs) = ap suc (one_more bs)

pub own_sites : (sites : List SiteInfo) → AreSites sites (kinds_from 0 sites)
own_sites sites = table_stands [] sites

passing_sites : (xs : List ℕ) (es : Expressions) → all_sites (passing xs es) ≡ all_sites es
passing_sites [] es = refl
passing_sites (x ∷ xs) es = passing_sites xs es

module _ (sites : List SiteInfo) where
  abbrev Stand : List FunctionTree → Type 0
  Stand fs = AreSites sites (program_tree_sites fs)

  both_stand : (fs gs : List FunctionTree) → Stand fs → Stand gs → Stand (fs ++ gs)
  both_stand [] gs h k = k
  both_stand (f ∷ fs) gs h k =
      sites_both sites (tree_sites f.body) (program_tree_sites (fs ++ gs))
      (sites_front sites (tree_sites f.body) (program_tree_sites fs) h)
      (both_stand fs gs (sites_back sites (tree_sites f.body) (program_tree_sites fs) h) k)

  module _ (captured : ℕ → List ℕ) where
    lifted_count : (es : Expressions) (reach : Reach) (n : ℕ)
        → expression_count (lifted_all captured reach n es) ≡ expression_count es
    lifted_count NoExpressions reach n = refl
    lifted_count (MoreExpressions e es) reach n = ap suc (lifted_count es reach (n + count e))

    lifted_call : (o : Option ℕ) (es : Expressions) → AreSites sites (all_sites es)
        → AreSites sites (tree_sites (call_lifted captured o es))
    lifted_call None es h = tt
    lifted_call (Some k) es h = subst (AreSites sites) (sym (passing_sites (captured k) es)) h

    call_stands : (head : Head) (reach : Reach) (es : Expressions)
        → AreSites sites (head_sites head) → AreSites sites (all_sites es)
        → AreSites sites (tree_sites (call_of captured reach head es))
    call_stands (r.Local f) reach es h k = lifted_call (number_in reach f) es k
    call_stands (r.BuiltIn b) reach es h k = k
    call_stands (r.Function f) reach es h k = k
    call_stands (r.Setelement site) reach es h k = (h.0, k)
    call_stands (r.Send node) reach es h k = k
    call_stands (r.Spawn node f) reach es h k = k
    call_stands (r.Display node) reach es h k = k
    call_stands (r.Raising class) reach es h k = k
    call_stands r.MatchFail reach es h k = k

    mutual
      stands : (e : Expression) (reach : Reach) (n : ℕ) → AreSites sites (tree_sites e)
          → AreSites sites (tree_sites (lifted captured reach n e))
      stands (r.Int v) reach n h = h
      stands (r.Atom a) reach n h = h
      stands r.Nil reach n h = h
      stands (r.Text site t) reach n h = h
      stands (r.Variable x) reach n h = h
      stands (r.Tuple site es) reach n h = (h.0, all_stand es reach n h.1)
      stands (r.ListOf site es e) reach n h =
          let own = conses site (expression_count es) in
          let front = sites_front sites (own ++ all_sites es) (tree_sites e) h in
          let heads = lifted_all captured reach n es in
          sites_both sites (conses site (expression_count heads) ++ all_sites heads)
          (tree_sites (lifted captured reach (n + count_all es) e))
          (sites_both sites (conses site (expression_count heads)) (all_sites heads)
          (subst (λ m. AreSites sites (conses site m)) (sym (lifted_count es reach n))
          (sites_front sites own (all_sites es) front))
          (all_stand es reach n (sites_back sites own (all_sites es) front)))
          (stands e reach (n + count_all es)
          (sites_back sites (own ++ all_sites es) (tree_sites e) h))
      stands (r.Values es) reach n h = all_stand es reach n h
      stands (r.Let xs e b) reach n h =
          sites_both sites (tree_sites (lifted captured reach n e))
          (tree_sites (lifted captured reach (n + count e) b))
          (stands e reach n (sites_front sites (tree_sites e) (tree_sites b) h))
          (stands b reach (n + count e) (sites_back sites (tree_sites e) (tree_sites b) h))
      stands (r.Do e b) reach n h =
          sites_both sites (tree_sites (lifted captured reach n e))
          (tree_sites (lifted captured reach (n + count e) b))
          (stands e reach n (sites_front sites (tree_sites e) (tree_sites b) h))
          (stands b reach (n + count e) (sites_back sites (tree_sites e) (tree_sites b) h))
      stands (r.Case e cs) reach n h =
          sites_both sites (tree_sites (lifted captured reach n e))
          (clauses_sites (lifted_clauses captured reach (n + count e) cs))
          (stands e reach n (sites_front sites (tree_sites e) (clauses_sites cs) h))
          (clauses_stand cs reach (n + count e)
          (sites_back sites (tree_sites e) (clauses_sites cs) h))
      stands (r.Letrec fs e) reach n h =
          stands e (reach_of n fs ++ reach) (n + count_functions fs)
          (sites_back sites (functions_sites fs) (tree_sites e) h)
      stands (r.Call head es) reach n h =
          call_stands head reach (lifted_all captured reach n es)
          (sites_front sites (head_sites head) (all_sites es) h)
          (all_stand es reach n (sites_back sites (head_sites head) (all_sites es) h))
      stands (r.Receive cs timeout e) reach n h =
          sites_both sites (clauses_sites (lifted_clauses captured reach n cs))
          (tree_sites (lifted captured reach (n + count_clauses cs) e))
          (clauses_stand cs reach n (sites_front sites (clauses_sites cs) (tree_sites e) h))
          (stands e reach (n + count_clauses cs)
          (sites_back sites (clauses_sites cs) (tree_sites e) h))
      stands r.Refused reach n h = h

      all_stand : (es : Expressions) (reach : Reach) (n : ℕ) → AreSites sites (all_sites es)
          → AreSites sites (all_sites (lifted_all captured reach n es))
      all_stand NoExpressions reach n h = tt
      all_stand (MoreExpressions e es) reach n h =
          sites_both sites (tree_sites (lifted captured reach n e))
          (all_sites (lifted_all captured reach (n + count e) es))
          (stands e reach n (sites_front sites (tree_sites e) (all_sites es) h))
          (all_stand es reach (n + count e) (sites_back sites (tree_sites e) (all_sites es) h))

      clauses_stand : (cs : Clauses) (reach : Reach) (n : ℕ) → AreSites sites (clauses_sites cs)
          → AreSites sites (clauses_sites (lifted_clauses captured reach n cs))
      clauses_stand NoClauses reach n h = tt
      clauses_stand (MoreClauses ps g b cs) reach n h =
          let here = sites_front sites (tree_sites g ++ tree_sites b) (clauses_sites cs) h in
          let guard = tree_sites (lifted captured reach n g) in
          let body = tree_sites (lifted captured reach (n + count g) b) in
          sites_both sites (guard ++ body)
          (clauses_sites (lifted_clauses captured reach (n + count g + count b) cs))
          (sites_both sites guard body
          (stands g reach n (sites_front sites (tree_sites g) (tree_sites b) here))
          (stands b reach (n + count g) (sites_back sites (tree_sites g) (tree_sites b) here)))
          (clauses_stand cs reach (n + count g + count b)
          (sites_back sites (tree_sites g ++ tree_sites b) (clauses_sites cs) h))

    mutual
      extracted_stand : (e : Expression) (reach : Reach) (n : ℕ) → AreSites sites (tree_sites e)
          → Stand (extracted captured reach n e)
      extracted_stand (r.Tuple site es) reach n h = all_extracted_stand es reach n h.1
      extracted_stand (r.ListOf site es e) reach n h =
          let own = conses site (expression_count es) in
          let front = sites_front sites (own ++ all_sites es) (tree_sites e) h in
          both_stand (extracted_all captured reach n es)
          (extracted captured reach (n + count_all es) e)
          (all_extracted_stand es reach n (sites_back sites own (all_sites es) front))
          (extracted_stand e reach (n + count_all es)
          (sites_back sites (own ++ all_sites es) (tree_sites e) h))
      extracted_stand (r.Values es) reach n h = all_extracted_stand es reach n h
      extracted_stand (r.Let xs e b) reach n h =
          both_stand (extracted captured reach n e) (extracted captured reach (n + count e) b)
          (extracted_stand e reach n (sites_front sites (tree_sites e) (tree_sites b) h))
          (extracted_stand b reach (n + count e) (sites_back sites (tree_sites e) (tree_sites b) h))
      extracted_stand (r.Do e b) reach n h =
          both_stand (extracted captured reach n e) (extracted captured reach (n + count e) b)
          (extracted_stand e reach n (sites_front sites (tree_sites e) (tree_sites b) h))
          (extracted_stand b reach (n + count e) (sites_back sites (tree_sites e) (tree_sites b) h))
      extracted_stand (r.Case e cs) reach n h =
          both_stand (extracted captured reach n e)
          (extracted_clauses captured reach (n + count e) cs)
          (extracted_stand e reach n (sites_front sites (tree_sites e) (clauses_sites cs) h))
          (clauses_extracted_stand cs reach (n + count e)
          (sites_back sites (tree_sites e) (clauses_sites cs) h))
      extracted_stand (r.Letrec fs e) reach n h =
          let inside = reach_of n fs ++ reach in
          both_stand (extracted_functions captured inside n fs)
          (extracted captured inside (n + count_functions fs) e)
          (functions_extracted_stand fs inside n
          (sites_front sites (functions_sites fs) (tree_sites e) h))
          (extracted_stand e inside (n + count_functions fs)
          (sites_back sites (functions_sites fs) (tree_sites e) h))
      extracted_stand (r.Call head es) reach n h =
          all_extracted_stand es reach n (sites_back sites (head_sites head) (all_sites es) h)
      extracted_stand (r.Receive cs timeout e) reach n h =
          both_stand (extracted_clauses captured reach n cs)
          (extracted captured reach (n + count_clauses cs) e)
          (clauses_extracted_stand cs reach n
          (sites_front sites (clauses_sites cs) (tree_sites e) h))
          (extracted_stand e reach (n + count_clauses cs)
          (sites_back sites (clauses_sites cs) (tree_sites e) h))
      extracted_stand _ reach n h = tt

      all_extracted_stand : (es : Expressions) (reach : Reach) (n : ℕ)
          → AreSites sites (all_sites es) → Stand (extracted_all captured reach n es)
      all_extracted_stand NoExpressions reach n h = tt
      all_extracted_stand (MoreExpressions e es) reach n h =
          both_stand (extracted captured reach n e) (extracted_all captured reach (n + count e) es)
          (extracted_stand e reach n (sites_front sites (tree_sites e) (all_sites es) h))
          (all_extracted_stand es reach (n + count e)
          (sites_back sites (tree_sites e) (all_sites es) h))

      clauses_extracted_stand : (cs : Clauses) (reach : Reach) (n : ℕ)
          → AreSites sites (clauses_sites cs) → Stand (extracted_clauses captured reach n cs)
      clauses_extracted_stand NoClauses reach n h = tt
      clauses_extracted_stand (MoreClauses ps g b cs) reach n h =
          let here = sites_front sites (tree_sites g ++ tree_sites b) (clauses_sites cs) h in
          let others = extracted_clauses captured reach (n + count g + count b) cs in
          both_stand (extracted captured reach n g)
          (extracted captured reach (n + count g) b ++ others)
          (extracted_stand g reach n (sites_front sites (tree_sites g) (tree_sites b) here))
          (both_stand (extracted captured reach (n + count g) b) others
          (extracted_stand b reach (n + count g)
          (sites_back sites (tree_sites g) (tree_sites b) here))
          (clauses_extracted_stand cs reach (n + count g + count b)
          (sites_back sites (tree_sites g ++ tree_sites b) (clauses_sites cs) h)))

      functions_extracted_stand : (fs : Functions) (reach : Reach) (n : ℕ)
          → AreSites sites (functions_sites fs) → Stand (extracted_functions captured reach n fs)
      functions_extracted_stand NoFunctions reach n h = tt
      functions_extracted_stand (MoreFunctions f xs b fs) reach n h =
          let here = sites_front sites (tree_sites b) (functions_sites fs) h in
          let inner = extracted captured reach (suc n) b in
          let others = extracted_functions captured reach (suc (n + count b)) fs in
          sites_both sites (tree_sites (lifted captured reach (suc n) b))
          (program_tree_sites (inner ++ others)) (stands b reach (suc n) here)
          (both_stand inner others (extracted_stand b reach (suc n) here)
          (functions_extracted_stand fs reach (suc (n + count b))
          (sites_back sites (tree_sites b) (functions_sites fs) h)))

    tops_stand : (fs : List FunctionTree) (n : ℕ) → Stand fs → Stand (lifted_tops captured n fs)
    tops_stand [] n h = tt
    tops_stand (f ∷ fs) n h =
        sites_both sites (tree_sites (lifted captured [] n f.body))
        (program_tree_sites (lifted_tops captured (n + count f.body) fs))
        (stands f.body [] n (sites_front sites (tree_sites f.body) (program_tree_sites fs) h))
        (tops_stand fs (n + count f.body)
        (sites_back sites (tree_sites f.body) (program_tree_sites fs) h))

    inner_stand : (fs : List FunctionTree) (n : ℕ) → Stand fs
        → Stand (extracted_program captured n fs)
    inner_stand [] n h = tt
    inner_stand (f ∷ fs) n h =
        both_stand (extracted captured [] n f.body)
        (extracted_program captured (n + count f.body) fs)
        (extracted_stand f.body [] n
        (sites_front sites (tree_sites f.body) (program_tree_sites fs) h))
        (inner_stand fs (n + count f.body)
        (sites_back sites (tree_sites f.body) (program_tree_sites fs) h))

    pub lifted_stand : (fs : List FunctionTree) → AreSites sites (program_tree_sites fs)
        → AreSites sites (program_tree_sites (lifted_program captured fs))
    lifted_stand fs h =
        let n = length fs in
        both_stand (lifted_tops captured n fs) (extracted_program captured n fs)
        (tops_stand fs n h) (inner_stand fs n h)
