-- A tree takes its own numbers, and leaves those behind them.
use Rattle.std.proofs.Common.{◌≡◌, ℕ, zero, suc, ◌<◌, List, [], ◌∷◌, ◌++◌, map, drop}
use Rattle.std.proofs.Common.{refl, sym, ap, ◌∙◌, append_assoc, append-nil, arith}
use Rattle.std.proofs.lemmas.List.{map-append}
use Rattle.core_accepted.specs.TreeSites.{Site, tree_sites, all_sites, clauses_sites}
use Rattle.core_accepted.specs.TreeSites.{functions_sites, head_sites, conses}
use Rattle.hy_core.specs.Resolved as r
use Rattle.hy_core.specs.Resolved.{Head, Expression, Expressions, NoExpressions, MoreExpressions}
use Rattle.hy_core.specs.Resolved.{Clauses, NoClauses, MoreClauses}
use Rattle.hy_core.specs.Resolved.{Functions, NoFunctions, MoreFunctions}
use Rattle.hy_core.specs.Supplied.{Supply, all_supplied, behind, behind_all, behind_clauses}
use Rattle.hy_core.specs.Supplied.{behind_functions, behind_head, behind_sites, clauses_supplied}
use Rattle.hy_core.specs.Supplied.{expression_count, functions_supplied, supplied}
use Rattle.hy_core.specs.Supplied.{supplied_head}
use Rattle.lifted_numbers.specs.TreeNumbers.{AllHaveHeads, ClausesHaveHeads, FunctionsHaveHeads}
use Rattle.lifted_numbers.specs.TreeNumbers.{HasHeads, all_bare, all_numbers, bare, bare_head}
use Rattle.lifted_numbers.specs.TreeNumbers.{clauses_bare, clauses_numbers, from, functions_bare}
use Rattle.lifted_numbers.specs.TreeNumbers.{functions_numbers, head_numbers, numbers, onto}
use Rattle.lifted_numbers.specs.TreeNumbers.{sites_from}

onto_both : (a b s : Supply) → onto (onto a b) s ≡ onto a (onto b s)
onto_both a b s = λ i. record {
  events = append_assoc a.events b.events s.events i;
  sites = append_assoc a.sites b.sites s.sites i;
}

-- what a part gives, and what it leaves
record Takes (given numbered : Expression) (n s : Supply) : Type 0 where
  tree : supplied given (onto n s) ≡ numbered
  left : behind given (onto n s) ≡ s

record AllTake (given numbered : Expressions) (n s : Supply) : Type 0 where
  tree : all_supplied given (onto n s) ≡ numbered
  left : behind_all given (onto n s) ≡ s

record ClausesTake (given numbered : Clauses) (n s : Supply) : Type 0 where
  tree : clauses_supplied given (onto n s) ≡ numbered
  left : behind_clauses given (onto n s) ≡ s

record FunctionsTake (given numbered : Functions) (n s : Supply) : Type 0 where
  tree : functions_supplied given (onto n s) ≡ numbered
  left : behind_functions given (onto n s) ≡ s

behind_from : (n k : ℕ) (ns : List ℕ) → drop k (from n k ++ ns) ≡ ns
behind_from n zero ns = refl
behind_from n (suc k) ns = behind_from (suc n) k ns

-- the number that is supplied first
abbrev site_of : Expression → ℕ
site_of (r.Text site text) = site
site_of _ = 0

abbrev first : List ℕ → ℕ
first ns = site_of (supplied (r.Text 0 []) (record { events = []; sites = ns }))

first_from : (n k : ℕ) (ns : List ℕ) → 0 < k → first (from n k ++ ns) ≡ n
first_from n zero ns h = absurd (omega (arith, h))
first_from n (suc k) ns h = refl

count-bare : (es : Expressions) → expression_count (all_bare es) ≡ expression_count es
count-bare NoExpressions = refl
count-bare (MoreExpressions e es) = ap suc (count-bare es)

head_tree : (h : Head) (s : Supply) → supplied_head (bare_head h) (onto (head_numbers h) s) ≡ h
head_tree (r.Setelement site) s = refl
head_tree (r.Send node) s = refl
head_tree (r.Spawn node function) s = refl
head_tree (r.Display node) s = refl
head_tree _ s = refl

head_left : (h : Head) (s : Supply) → behind_head (bare_head h) (onto (head_numbers h) s) ≡ s
head_left (r.Setelement site) s = refl
head_left (r.Send node) s = refl
head_left (r.Spawn node function) s = refl
head_left (r.Display node) s = refl
head_left _ s = refl

mutual
  takes : (e : Expression) (s : Supply) → HasHeads e → Takes (bare e) e (numbers e) s
  takes (r.Text site text) s h = record { tree = refl; left = refl }
  takes (r.Tuple site es) s h =
      let p = all_take es s h in
      record { tree = ap (r.Tuple site) p.tree; left = p.left }
  takes (r.ListOf site es e) s h =
      let k = expression_count es in
      let rest = onto (all_numbers es) (onto (numbers e) s) in
      let p = all_take es (onto (numbers e) s) h.1 in
      let q = takes e s h.2 in
      let whole : onto (numbers (r.ListOf site es e)) s ≡ onto (sites_from site k) rest =
      onto_both (sites_from site k) (onto (all_numbers es) (numbers e)) s
      ∙ ap (onto (sites_from site k)) (onto_both (all_numbers es) (numbers e) s) in
      let inside : behind_sites (expression_count (all_bare es)) (onto (sites_from site k) rest)
      ≡ rest =
      ap (λ j. behind_sites j (onto (sites_from site k) rest)) (count-bare es)
      ∙ (λ i. record { events = rest.events; sites = behind_from site k rest.sites i }) in
      record {
        tree =
            ap (supplied (r.ListOf 0 (all_bare es) (bare e))) whole
            ∙ (λ i. r.ListOf (first_from site k rest.sites h.0 i)
            (all_supplied (all_bare es) (inside i))
            (supplied (bare e) (behind_all (all_bare es) (inside i))))
            ∙ (λ i. r.ListOf site (p.tree i) ((ap (supplied (bare e)) p.left ∙ q.tree) i));
        left =
            ap (behind (r.ListOf 0 (all_bare es) (bare e))) whole
            ∙ ap (λ n. behind (bare e) (behind_all (all_bare es) n)) inside
            ∙ ap (behind (bare e)) p.left ∙ q.left;
      }
  takes (r.Values es) s h =
      let p = all_take es s h in record { tree = ap r.Values p.tree; left = p.left }
  takes (r.Let xs e b) s h =
      let p = takes e (onto (numbers b) s) h.0 in
      let q = takes b s h.1 in
      let both = onto_both (numbers e) (numbers b) s in
      record {
        tree =
            ap (supplied (r.Let xs (bare e) (bare b))) both
            ∙ (λ i. r.Let xs (p.tree i) ((ap (supplied (bare b)) p.left ∙ q.tree) i));
        left =
            ap (behind (r.Let xs (bare e) (bare b))) both ∙ ap (behind (bare b)) p.left ∙ q.left;
      }
  takes (r.Do e b) s h =
      let p = takes e (onto (numbers b) s) h.0 in
      let q = takes b s h.1 in
      let both = onto_both (numbers e) (numbers b) s in
      record {
        tree =
            ap (supplied (r.Do (bare e) (bare b))) both
            ∙ (λ i. r.Do (p.tree i) ((ap (supplied (bare b)) p.left ∙ q.tree) i));
        left = ap (behind (r.Do (bare e) (bare b))) both ∙ ap (behind (bare b)) p.left ∙ q.left;
      }
  takes (r.Case e cs) s h =
      let p = takes e (onto (clauses_numbers cs) s) h.0 in
      let q = clauses_take cs s h.1 in
      let both = onto_both (numbers e) (clauses_numbers cs) s in
      record {
        tree =
            ap (supplied (r.Case (bare e) (clauses_bare cs))) both
            ∙ (λ i. r.Case (p.tree i) ((ap (clauses_supplied (clauses_bare cs)) p.left ∙ q.tree) i));
        left =
            ap (behind (r.Case (bare e) (clauses_bare cs))) both
            ∙ ap (behind_clauses (clauses_bare cs)) p.left ∙ q.left;
      }
  takes (r.Letrec fs e) s h =
      let p = functions_take fs (onto (numbers e) s) h.0 in
      let q = takes e s h.1 in
      let both = onto_both (functions_numbers fs) (numbers e) s in
      record {
        tree =
            ap (supplied (r.Letrec (functions_bare fs) (bare e))) both
            ∙ (λ i. r.Letrec (p.tree i) ((ap (supplied (bare e)) p.left ∙ q.tree) i));
        left =
            ap (behind (r.Letrec (functions_bare fs) (bare e))) both
            ∙ ap (behind (bare e)) p.left ∙ q.left;
      }
  takes (r.Call head es) s h =
      let rest = onto (all_numbers es) s in
      let p = all_take es s h in
      let both = onto_both (head_numbers head) (all_numbers es) s in
      record {
        tree =
            ap (supplied (r.Call (bare_head head) (all_bare es))) both
            ∙ (λ i. r.Call (head_tree head rest i)
            ((ap (all_supplied (all_bare es)) (head_left head rest) ∙ p.tree) i));
        left =
            ap (behind (r.Call (bare_head head) (all_bare es))) both
            ∙ ap (behind_all (all_bare es)) (head_left head rest) ∙ p.left;
      }
  takes (r.Receive cs timeout e) s h =
      let p = clauses_take cs (onto (numbers e) s) h.0 in
      let q = takes e s h.1 in
      let both = onto_both (clauses_numbers cs) (numbers e) s in
      record {
        tree =
            ap (supplied (r.Receive (clauses_bare cs) timeout (bare e))) both
            ∙ (λ i. r.Receive (p.tree i) timeout ((ap (supplied (bare e)) p.left ∙ q.tree) i));
        left =
            ap (behind (r.Receive (clauses_bare cs) timeout (bare e))) both
            ∙ ap (behind (bare e)) p.left ∙ q.left;
      }
  takes (r.Int n) s h = record { tree = refl; left = refl }
  takes (r.Atom a) s h = record { tree = refl; left = refl }
  takes r.Nil s h = record { tree = refl; left = refl }
  takes (r.Variable x) s h = record { tree = refl; left = refl }
  takes r.Refused s h = record { tree = refl; left = refl }

  all_take : (es : Expressions) (s : Supply) → AllHaveHeads es
      → AllTake (all_bare es) es (all_numbers es) s
  all_take NoExpressions s h = record { tree = refl; left = refl }
  all_take (MoreExpressions e es) s h =
      let p = takes e (onto (all_numbers es) s) h.0 in
      let q = all_take es s h.1 in
      let both = onto_both (numbers e) (all_numbers es) s in
      record {
        tree =
            ap (all_supplied (MoreExpressions (bare e) (all_bare es))) both
            ∙ (λ i. MoreExpressions (p.tree i)
            ((ap (all_supplied (all_bare es)) p.left ∙ q.tree) i));
        left =
            ap (behind_all (MoreExpressions (bare e) (all_bare es))) both
            ∙ ap (behind_all (all_bare es)) p.left ∙ q.left;
      }

  clauses_take : (cs : Clauses) (s : Supply) → ClausesHaveHeads cs
      → ClausesTake (clauses_bare cs) cs (clauses_numbers cs) s
  clauses_take NoClauses s h = record { tree = refl; left = refl }
  clauses_take (MoreClauses ps g b cs) s h =
      let o = takes g (onto (numbers b) (onto (clauses_numbers cs) s)) h.0 in
      let p = takes b (onto (clauses_numbers cs) s) h.1 in
      let q = clauses_take cs s h.2 in
      let both =
      onto_both (numbers g) (onto (numbers b) (clauses_numbers cs)) s
      ∙ ap (onto (numbers g)) (onto_both (numbers b) (clauses_numbers cs) s) in
      let behind_both = ap (behind (bare b)) o.left ∙ p.left in
      record {
        tree =
            ap (clauses_supplied (MoreClauses ps (bare g) (bare b) (clauses_bare cs))) both
            ∙ (λ i. MoreClauses ps (o.tree i) ((ap (supplied (bare b)) o.left ∙ p.tree) i)
            ((ap (clauses_supplied (clauses_bare cs)) behind_both ∙ q.tree) i));
        left =
            ap (behind_clauses (MoreClauses ps (bare g) (bare b) (clauses_bare cs))) both
            ∙ ap (behind_clauses (clauses_bare cs)) behind_both ∙ q.left;
      }

  functions_take : (fs : Functions) (s : Supply) → FunctionsHaveHeads fs
      → FunctionsTake (functions_bare fs) fs (functions_numbers fs) s
  functions_take NoFunctions s h = record { tree = refl; left = refl }
  functions_take (MoreFunctions f xs b fs) s h =
      let p = takes b (onto (functions_numbers fs) s) h.0 in
      let q = functions_take fs s h.1 in
      let both = onto_both (numbers b) (functions_numbers fs) s in
      record {
        tree =
            ap (functions_supplied (MoreFunctions f xs (bare b) (functions_bare fs))) both
            ∙ (λ i. MoreFunctions f xs (p.tree i)
            ((ap (functions_supplied (functions_bare fs)) p.left ∙ q.tree) i));
        left =
            ap (behind_functions (MoreFunctions f xs (bare b) (functions_bare fs))) both
            ∙ ap (behind_functions (functions_bare fs)) p.left ∙ q.left;
      }

onto_none : (n : Supply) → onto n (record { events = []; sites = [] }) ≡ n
onto_none n = λ i. record {
  events = append-nil n.events i;
  sites = append-nil n.sites i;
}

pub tree_supplied : (e : Expression) → HasHeads e → supplied (bare e) (numbers e) ≡ e
tree_supplied e h =
    sym (ap (supplied (bare e)) (onto_none (numbers e)))
    ∙ (takes e (record { events = []; sites = [] }) h).tree

-- the numbers of sites

abbrev number : Site → ℕ
number s = s.0

number-conses : (n k : ℕ) → from n k ≡ map number (conses n k)
number-conses n zero = refl
number-conses n (suc k) = ap (◌∷◌ n) (number-conses (suc n) k)

head_numbered : (h : Head) → (head_numbers h).sites ≡ map number (head_sites h)
head_numbered (r.Setelement site) = refl
head_numbered (r.Send node) = refl
head_numbered (r.Spawn node function) = refl
head_numbered (r.Display node) = refl
head_numbered _ = refl

two : {ms ns : List ℕ} (xs ys : List Site) → ms ≡ map number xs → ns ≡ map number ys
    → ms ++ ns ≡ map number (xs ++ ys)
two xs ys p q = (λ i. p i ++ q i) ∙ sym (map-append number xs ys)

mutual
  pub sites_numbered : (e : Expression) → (numbers e).sites ≡ map number (tree_sites e)
  sites_numbered (r.Text site text) = refl
  sites_numbered (r.Tuple site es) = ap (◌∷◌ site) (all_numbered es)
  sites_numbered (r.ListOf site es e) =
      let k = expression_count es in
      two (conses site k) (all_sites es ++ tree_sites e) (number-conses site k)
      (two (all_sites es) (tree_sites e) (all_numbered es) (sites_numbered e))
      ∙ ap (map number) (sym (append_assoc (conses site k) (all_sites es) (tree_sites e)))
  sites_numbered (r.Values es) = all_numbered es
  sites_numbered (r.Let xs e b) =
      two (tree_sites e) (tree_sites b) (sites_numbered e) (sites_numbered b)
  sites_numbered (r.Do e b) =
      two (tree_sites e) (tree_sites b) (sites_numbered e) (sites_numbered b)
  sites_numbered (r.Case e cs) =
      two (tree_sites e) (clauses_sites cs) (sites_numbered e) (clauses_numbered cs)
  sites_numbered (r.Letrec fs e) =
      two (functions_sites fs) (tree_sites e) (functions_numbered fs) (sites_numbered e)
  sites_numbered (r.Call head es) =
      two (head_sites head) (all_sites es) (head_numbered head) (all_numbered es)
  sites_numbered (r.Receive cs timeout e) =
      two (clauses_sites cs) (tree_sites e) (clauses_numbered cs) (sites_numbered e)
  sites_numbered _ = refl

  all_numbered : (es : Expressions) → (all_numbers es).sites ≡ map number (all_sites es)
  all_numbered NoExpressions = refl
  all_numbered (MoreExpressions e es) =
      two (tree_sites e) (all_sites es) (sites_numbered e) (all_numbered es)

  clauses_numbered : (cs : Clauses) → (clauses_numbers cs).sites ≡ map number (clauses_sites cs)
  clauses_numbered NoClauses = refl
  clauses_numbered (MoreClauses ps g b cs) =
      two (tree_sites g) (tree_sites b ++ clauses_sites cs) (sites_numbered g)
      (two (tree_sites b) (clauses_sites cs) (sites_numbered b) (clauses_numbered cs))
      ∙ ap (map number) (sym (append_assoc (tree_sites g) (tree_sites b) (clauses_sites cs)))

  functions_numbered : (fs : Functions)
      → (functions_numbers fs).sites ≡ map number (functions_sites fs)
  functions_numbered NoFunctions = refl
  functions_numbered (MoreFunctions f xs b fs) =
      two (tree_sites b) (functions_sites fs) (sites_numbered b) (functions_numbered fs)
