-- Trees that are supplied with numbers one after another have these at their sites, in the order of the text.
use Rattle.std.proofs.Common.{◌≡◌, ℕ, zero, suc, ◌+◌, List, [], ◌∷◌, ◌++◌, length, drop, replicate, refl, sym, ap, ◌∙◌, subst, arith}
use Rattle.std.proofs.lemmas.List.{length-replicate}
use Rattle.hy_core.specs.Resolved as r
use Rattle.hy_core.specs.Resolved.{Head, Expression, Expressions, NoExpressions, MoreExpressions, Clauses, NoClauses, MoreClauses, Functions, NoFunctions, MoreFunctions}
use Rattle.hy_core.specs.Supplied.{Supply, supplied, all_supplied, clauses_supplied, functions_supplied, supplied_head, behind, behind_all, behind_clauses, behind_functions, behind_head, behind_sites, expression_count}
use Rattle.hy_core.specs.declared.info.SiteKind.{SiteKind}
use Rattle.hy_core.specs.declared.info.SiteKind.TheVariants as kind
use Rattle.core_accepted.specs.TreeSites.{Site, conses, head_sites, tree_sites, all_sites, clauses_sites, functions_sites}
use Rattle.core_accepted.proofs.SuppliedKnown.{count_supplied}

-- the kinds of the sites of a tree

abbrev pub head_kinds : Head → List SiteKind
head_kinds (r.Setelement site) = kind.Setelement ∷ []
head_kinds _ = []

abbrev mutual
  pub kinds : Expression → List SiteKind
  kinds (r.Text site text) = kind.String ∷ []
  kinds (r.Tuple site es) = kind.Tuple ∷ all_kinds es
  kinds (r.ListOf site es e) = replicate (expression_count es) kind.Cons ++ all_kinds es ++ kinds e
  kinds (r.Values es) = all_kinds es
  kinds (r.Let xs e b) = kinds e ++ kinds b
  kinds (r.Do e b) = kinds e ++ kinds b
  kinds (r.Case e cs) = kinds e ++ clauses_kinds cs
  kinds (r.Letrec fs e) = functions_kinds fs ++ kinds e
  kinds (r.Call head es) = head_kinds head ++ all_kinds es
  kinds (r.Receive cs timeout e) = clauses_kinds cs ++ kinds e
  kinds _ = []

  pub all_kinds : Expressions → List SiteKind
  all_kinds NoExpressions = []
  all_kinds (MoreExpressions e es) = kinds e ++ all_kinds es

  pub clauses_kinds : Clauses → List SiteKind
  clauses_kinds NoClauses = []
  clauses_kinds (MoreClauses ps guard body cs) = (kinds guard ++ kinds body) ++ clauses_kinds cs

  pub functions_kinds : Functions → List SiteKind
  functions_kinds NoFunctions = []
  functions_kinds (MoreFunctions f xs body fs) = kinds body ++ functions_kinds fs

-- these kinds with numbers one after another
abbrev pub numbered_kinds : ℕ → List SiteKind → List Site
numbered_kinds n [] = []
numbered_kinds n (k ∷ ks) = (n, k) ∷ numbered_kinds (suc n) ks

-- numbers one after another at the front of a list, one for each kind
abbrev pub From : ℕ → List SiteKind → List ℕ → Type 0
From n [] xs = Unit {0}
From n (k ∷ ks) [] = ⊥
From n (k ∷ ks) (x ∷ xs) = (x ≡ n) × From (suc n) ks xs

abbrev pub past : List SiteKind → List ℕ → List ℕ
past ks xs = drop (length ks) xs

past_none : (ks : List SiteKind) → past ks [] ≡ []
past_none [] = refl
past_none (k ∷ ks) = refl

pub past_both : (ks js : List SiteKind) (xs : List ℕ) → past (ks ++ js) xs ≡ past js (past ks xs)
past_both [] js xs = refl
past_both (k ∷ ks) js [] = past_none (k ∷ ks ++ js) ∙ sym (past_none js)
past_both (k ∷ ks) js (x ∷ xs) = past_both ks js xs

plus_suc : (n : ℕ) (ks : List SiteKind) → suc n + length ks ≡ n + suc (length ks)
plus_suc n ks = omega arith

pub from_first : (ks js : List SiteKind) (n : ℕ) (xs : List ℕ) → From n (ks ++ js) xs → From n ks xs
from_first [] js n xs h = tt
from_first (k ∷ ks) js n [] h = h
from_first (k ∷ ks) js n (x ∷ xs) h = (h.0, from_first ks js (suc n) xs h.1)

pub from_second : (ks js : List SiteKind) (n : ℕ) (xs : List ℕ) → From n (ks ++ js) xs → From (n + length ks) js (past ks xs)
from_second [] js n xs h = let none : n ≡ n + 0 = omega arith in subst (λ n. From n js xs) none h
from_second (k ∷ ks) js n [] h = absurd h
from_second (k ∷ ks) js n (x ∷ xs) h = subst (λ n. From n js (past ks xs)) (plus_suc n ks) (from_second ks js (suc n) xs h.1)

pub numbered_both : (ks js : List SiteKind) (n : ℕ) → numbered_kinds n (ks ++ js) ≡ numbered_kinds n ks ++ numbered_kinds (n + length ks) js
numbered_both [] js n = let none : n ≡ n + 0 = omega arith in ap (λ n. numbered_kinds n js) none
numbered_both (k ∷ ks) js n = ap (λ sites. (n, k) ∷ sites) (numbered_both ks js (suc n) ∙ ap (λ j. numbered_kinds (suc n) ks ++ numbered_kinds j js) (plus_suc n ks))

-- what is supplied in a part, and the supply that it leaves
pub record Takes (made : Supply → List Site) (after : Supply → Supply) (ks : List SiteKind) : Type 0 where
  pub sites : (s : Supply) (n : ℕ) → From n ks s.sites → made s ≡ numbered_kinds n ks
  pub left : (s : Supply) → (after s).sites ≡ past ks s.sites

takes_none : Takes (λ s. []) (λ s. s) []
takes_none = record { sites = λ s n h. refl; left = λ s. refl }

takes_both : {f g : Supply → List Site} {a b : Supply → Supply} {ks js : List SiteKind} → Takes f a ks → Takes g b js → Takes (λ s. f s ++ g (a s)) (λ s. b (a s)) (ks ++ js)
takes_both {a = a} {ks = ks} {js = js} h k = record {
  sites = λ s n from.
      (λ i. h.sites s n (from_first ks js n s.sites from) i
      ++ k.sites (a s) (n + length ks) (subst (From (n + length ks) js) (sym (h.left s)) (from_second ks js n s.sites from)) i)
      ∙ sym (numbered_both ks js n);
  left = λ s. k.left (a s) ∙ ap (past js) (h.left s) ∙ sym (past_both ks js s.sites);
}

-- the next number of a supply
abbrev site_number : Head → ℕ
site_number (r.Setelement site) = site
site_number _ = 0

abbrev number : Supply → ℕ
number s = site_number (supplied_head (r.Setelement 0) s)

abbrev one_of : SiteKind → ℕ → List Site
one_of k n = (n, k) ∷ []

takes_one : (k : SiteKind) → Takes (λ s. (number s, k) ∷ []) (behind_sites 1) (k ∷ [])
takes_one k = record { sites = λ s n h. by s.events s.sites n h; left = λ s. refl }
  where
    by : (events sites : List ℕ) (n : ℕ) → From n (k ∷ []) sites → one_of k (number (record { events = events; sites = sites })) ≡ one_of k n
    by events [] n h = absurd h
    by events (x ∷ xs) n h = ap (one_of k) h.0

conses_are : (n heads : ℕ) → conses n heads ≡ numbered_kinds n (replicate heads kind.Cons)
conses_are n zero = refl
conses_are n (suc heads) = ap (λ sites. (n, kind.Cons) ∷ sites) (conses_are (suc n) heads)

takes_conses : (heads : ℕ) → Takes (λ s. conses (number s) heads) (behind_sites heads) (replicate heads kind.Cons)
takes_conses heads = record {
  sites = λ s n h. by s.events s.sites n heads h ∙ conses_are n heads;
  left = λ s. ap (λ j. drop j s.sites) (sym (length-replicate heads kind.Cons));
}
  where
    by : (events sites : List ℕ) (n heads : ℕ) → From n (replicate heads kind.Cons) sites → conses (number (record { events = events; sites = sites })) heads ≡ conses n heads
    by events sites n zero h = refl
    by events [] n (suc heads) h = absurd h
    by events (x ∷ xs) n (suc heads) h = ap (λ m. conses m (suc heads)) h.0

takes_head : (head : Head) → Takes (λ s. head_sites (supplied_head head s)) (behind_head head) (head_kinds head)
takes_head (r.Setelement site) = takes_one kind.Setelement
takes_head (r.Send node) = record { sites = λ s n h. refl; left = λ s. refl }
takes_head (r.Spawn node f) = record { sites = λ s n h. refl; left = λ s. refl }
takes_head (r.Display node) = record { sites = λ s n h. refl; left = λ s. refl }
takes_head _ = takes_none

mutual
  pub takes : (e : Expression) → Takes (λ s. tree_sites (supplied e s)) (behind e) (kinds e)
  takes (r.Int n) = takes_none
  takes (r.Atom a) = takes_none
  takes r.Nil = takes_none
  takes (r.Variable x) = takes_none
  takes r.Refused = takes_none
  takes (r.Text site text) = takes_one kind.String
  takes (r.Tuple site es) = takes_both (takes_one kind.Tuple) (all_take es)
  takes (r.ListOf site es e) = counted (takes_both (takes_both (takes_conses (expression_count es)) (all_take es)) (takes e))
    where
      counted : Takes (λ s. (conses (number s) (expression_count es) ++ all_sites (all_supplied es (behind_sites (expression_count es) s))) ++ tree_sites (supplied e (behind_all es (behind_sites (expression_count es) s)))) (λ s. behind e (behind_all es (behind_sites (expression_count es) s))) ((replicate (expression_count es) kind.Cons ++ all_kinds es) ++ kinds e)
          → Takes (λ s. tree_sites (supplied (r.ListOf site es e) s)) (behind (r.ListOf site es e)) (kinds (r.ListOf site es e))
      counted h = record {
        sites = λ s n from.
            let inside = behind_sites (expression_count es) s in
            ap (λ heads. (conses (number s) heads ++ all_sites (all_supplied es inside)) ++ tree_sites (supplied e (behind_all es inside))) (count_supplied es inside) ∙ h.sites s n from;
        left = h.left;
      }
  takes (r.Values es) = all_take es
  takes (r.Let xs e b) = takes_both (takes e) (takes b)
  takes (r.Do e b) = takes_both (takes e) (takes b)
  takes (r.Case e cs) = takes_both (takes e) (clauses_take cs)
  takes (r.Letrec fs e) = takes_both (functions_take fs) (takes e)
  takes (r.Call head es) = takes_both (takes_head head) (all_take es)
  takes (r.Receive cs timeout e) = takes_both (clauses_take cs) (takes e)

  all_take : (es : Expressions) → Takes (λ s. all_sites (all_supplied es s)) (behind_all es) (all_kinds es)
  all_take NoExpressions = takes_none
  all_take (MoreExpressions e es) = takes_both (takes e) (all_take es)

  clauses_take : (cs : Clauses) → Takes (λ s. clauses_sites (clauses_supplied cs s)) (behind_clauses cs) (clauses_kinds cs)
  clauses_take NoClauses = takes_none
  clauses_take (MoreClauses ps guard body cs) = takes_both (takes_both (takes guard) (takes body)) (clauses_take cs)

  functions_take : (fs : Functions) → Takes (λ s. functions_sites (functions_supplied fs s)) (behind_functions fs) (functions_kinds fs)
  functions_take NoFunctions = takes_none
  functions_take (MoreFunctions f xs body fs) = takes_both (takes body) (functions_take fs)
