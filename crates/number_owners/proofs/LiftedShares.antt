-- The numbers of an expression are shared out among the lifted one and the functions of its
-- letrecs.
use Rattle.std.proofs.Common.{◌≡◌, ℕ, suc, ◌+◌, ◌<◌, Bool, true, false, List, [], ◌∷◌, ◌++◌, Some}
use Rattle.std.proofs.Common.{length, replicate, refl, sym, ap, ◌∙◌, subst, arith}
use Rattle.std.specs.Prelude.{◌||◌, if◌then◌else◌}
use Rattle.hy_core.specs.KnownTrees.{defined, width, IsCallable, IsKnown, AreKnown}
use Rattle.hy_core.specs.KnownTrees.{ClausesAreKnown, FunctionsAreKnown}
use Rattle.hy_core.specs.Resolve.{is_local}
use Rattle.hy_core.specs.Resolved as r
use Rattle.hy_core.specs.Resolved.{Head, Expression, Expressions, NoExpressions, MoreExpressions}
use Rattle.hy_core.specs.Resolved.{Clauses, NoClauses, MoreClauses, is_name}
use Rattle.hy_core.specs.Resolved.{Functions, NoFunctions, MoreFunctions, FunctionTree}
use Rattle.hy_core.specs.Scopes.{Scope, with_patterns, with_variables}
use Rattle.hy_core.specs.Supplied.{expression_count}
use Rattle.hy_core.specs.declared.tree.FunName.{FunName}
use Rattle.lifted_numbers.specs.TreeNumbers.{all_numbers, clauses_numbers, functions_numbers}
use Rattle.lifted_numbers.specs.TreeNumbers.{event, head_numbers, none, numbers, onto, sites_from}
use Rattle.hy_core.specs.Supplied.{Supply}
use Rattle.lifted_program.specs.LetrecNumbers.{Reach, count, count_all, count_clauses}
use Rattle.lifted_program.specs.LetrecNumbers.{count_functions, number_in, reach_of}
use Rattle.lifted_program.specs.LiftedProgram.{call_lifted, call_of, extracted, extracted_all}
use Rattle.lifted_program.specs.LiftedProgram.{extracted_clauses, extracted_functions, lifted}
use Rattle.lifted_program.specs.LiftedProgram.{lifted_all, lifted_clauses, passing}
use Rattle.number_owners.specs.EventOwners.{all_event_owners, clauses_event_owners}
use Rattle.number_owners.specs.EventOwners.{event_owners, functions_event_owners, head_event_owners}
use Rattle.number_owners.specs.SiteOwners.{all_owners, clauses_owners, functions_owners, head_owners}
use Rattle.number_owners.specs.SiteOwners.{owners}
use Rattle.number_owners.proofs.Shares.{Shares, no_sites, shares_both, shares_function, shares_own}

abbrev pub sites_in : FunctionTree → List ℕ
sites_in t = (numbers t.body).sites

abbrev pub events_in : FunctionTree → List ℕ
events_in t = (numbers t.body).events

-- The numbers of a part, by the owners of its sites and events: those of the function k around are
-- `own`, and those of m functions of letrecs, of which the first has the number n, are those of the
-- functions `inner`.
pub record Parted (k n m : ℕ) (os es : List ℕ) (all own : Supply) (inner : List FunctionTree)
    : Type 0 where
  pub sites : Shares sites_in k n m os all.sites own.sites inner
  pub events : Shares events_in k n m es all.events own.events inner

nothing : (k n : ℕ) → Parted k n 0 [] [] none none []
nothing k n = record { sites = no_sites sites_in k n; events = no_sites events_in k n }

both : {k n m l : ℕ} {os es ps fs : List ℕ} {all own more others : Supply}
    {xs ys : List FunctionTree} → k < n → Parted k n m os es all own xs
    → Parted k (n + m) l ps fs more others ys
    → Parted k n (m + l) (os ++ ps) (es ++ fs) (onto all more) (onto own others) (xs ++ ys)
both low h g = record {
  sites = shares_both sites_in low h.sites g.sites;
  events = shares_both events_in low h.events g.events;
}

-- so many sites of the function around, and behind them others
own_sites : {k n m : ℕ} {os es : List ℕ} {all own : Supply} {inner : List FunctionTree}
    (site heads : ℕ) → k < n → Parted k n m os es all own inner
    → Parted k n m (replicate heads k ++ os) es (onto (sites_from site heads) all)
    (onto (sites_from site heads) own) inner
own_sites site heads low h = record {
  sites = shares_own sites_in site heads low h.sites;
  events = h.events;
}

-- an event of the function around, and behind it others
own_event : {k n m : ℕ} {os es : List ℕ} {all own : Supply} {inner : List FunctionTree}
    (node : ℕ) → k < n → Parted k n m os es all own inner
    → Parted k n m os (k ∷ es) (onto (event node) all) (onto (event node) own) inner
own_event node low h = record {
  sites = h.sites;
  events = shares_own events_in node 1 low h.events;
}

passed : (xs : List ℕ) (es : Expressions) → all_numbers (passing xs es) ≡ all_numbers es
passed [] es = refl
passed (x ∷ xs) es = passed xs es

module _ (arities : List ℕ) (captured : ℕ → List ℕ) where
  -- the functions in reach have these names
  abbrev pub Covers : List FunName → Reach → Type 0
  Covers names reach =
      (f : FunName) → is_local f names ≡ true → (k : ℕ) × (number_in reach f ≡ Some k)

  covers_more : (fs : Functions) (names : List FunName) (reach : Reach) (n : ℕ)
      → Covers names reach → Covers (defined fs ++ names) (reach_of n fs ++ reach)
  covers_more NoFunctions names reach n h = h
  covers_more (MoreFunctions g xs b fs) names reach n h =
      λ f p. by f (covers_more fs names reach (suc (n + count b)) h) (is_name g f) refl p
    where
      by : (f : FunName)
          → Covers (defined fs ++ names) (reach_of (suc (n + count b)) fs ++ reach)
          → (c : Bool) → is_name g f ≡ c → (c || is_local f (defined fs ++ names)) ≡ true
          → (k : ℕ) × (number_in (reach_of n (MoreFunctions g xs b fs) ++ reach) f ≡ Some k)
      by f rest true q p = (
        n,
        ap
            (λ c. if c then Some n
            else number_in (reach_of (suc (n + count b)) fs ++ reach) f) q,
      )
      by f rest false q p =
          let found = rest f p in (
            found.0,
            ap
                (λ c. if c then Some n
                else number_in (reach_of (suc (n + count b)) fs ++ reach) f) q ∙ found.1,
          )

  -- a call has its own sites and those of its arguments
  called : (reach : Reach) (names : List FunName) (n : ℕ) (head : Head) (es : Expressions)
      → Covers names reach → IsCallable arities names n head
      → numbers (call_of captured reach head es) ≡ onto (head_numbers head) (all_numbers es)
  called reach names n (r.Local f) es covers may =
      let found = covers f may.0 in
      ap (λ k. numbers (call_lifted captured k es)) found.1
      ∙ ap (onto none) (passed (captured found.0) es)
  called reach names n (r.BuiltIn b) es covers may = refl
  called reach names n (r.Function f) es covers may = refl
  called reach names n (r.Setelement site) es covers may = refl
  called reach names n (r.Send node) es covers may = refl
  called reach names n (r.Spawn node f) es covers may = refl
  called reach names n (r.Display node) es covers may = refl
  called reach names n (r.Raising class) es covers may = refl
  called reach names n r.MatchFail es covers may = refl

  head_shares : {k n m : ℕ} {os es : List ℕ} {all own : Supply} {inner : List FunctionTree}
      (head : Head) → k < n → Parted k n m os es all own inner
      → Parted k n m (head_owners k head ++ os) (head_event_owners k head ++ es)
      (onto (head_numbers head) all) (onto (head_numbers head) own) inner
  head_shares (r.Setelement site) low h = own_sites site 1 low h
  head_shares (r.Send node) low h = own_event node low h
  head_shares (r.Spawn node f) low h = own_event node low h
  head_shares (r.Display node) low h = own_event node low h
  head_shares (r.BuiltIn b) low h = record { sites = h.sites; events = h.events }
  head_shares (r.Function f) low h = record { sites = h.sites; events = h.events }
  head_shares (r.Local f) low h = record { sites = h.sites; events = h.events }
  head_shares (r.Raising class) low h = record { sites = h.sites; events = h.events }
  head_shares r.MatchFail low h = record { sites = h.sites; events = h.events }

  count_lifted : (reach : Reach) (n : ℕ) (es : Expressions)
      → expression_count (lifted_all captured reach n es) ≡ expression_count es
  count_lifted reach n NoExpressions = refl
  count_lifted reach n (MoreExpressions e es) =
      ap (λ c. suc c) (count_lifted reach (n + count e) es)

  -- the numbers of an expression in the function k, by the lifted one and its functions
  abbrev pub Shared : (k n : ℕ) → Reach → Expression → Type 0
  Shared k n reach e =
      Parted k n (count e) (owners k n e) (event_owners k n e) (numbers e)
      (numbers (lifted captured reach n e)) (extracted captured reach n e)

  abbrev AllShared : (k n : ℕ) → Reach → Expressions → Type 0
  AllShared k n reach es =
      Parted k n (count_all es) (all_owners k n es) (all_event_owners k n es) (all_numbers es)
      (all_numbers (lifted_all captured reach n es)) (extracted_all captured reach n es)

  abbrev ClausesShared : (k n : ℕ) → Reach → Clauses → Type 0
  ClausesShared k n reach cs =
      Parted k n (count_clauses cs) (clauses_owners k n cs) (clauses_event_owners k n cs)
      (clauses_numbers cs) (clauses_numbers (lifted_clauses captured reach n cs))
      (extracted_clauses captured reach n cs)

  abbrev FunctionsShared : (k n : ℕ) → Reach → Functions → Type 0
  FunctionsShared k n reach fs =
      Parted k n (count_functions fs) (functions_owners n fs) (functions_event_owners n fs)
      (functions_numbers fs) none (extracted_functions captured reach n fs)

  low_after : (k n m : ℕ) → k < n → k < n + m
  low_after k n m low = omega (arith, low)

  mutual
    pub shared : (e : Expression) (scope : Scope) (names : List FunName) (needs : ℕ)
        (reach : Reach) (k n : ℕ) → k < n → Covers names reach
        → IsKnown arities scope names needs e → Shared k n reach e
    shared (r.Int v) scope names needs reach k n low c h = nothing k n
    shared (r.Atom a) scope names needs reach k n low c h = nothing k n
    shared r.Nil scope names needs reach k n low c h = nothing k n
    shared (r.Variable x) scope names needs reach k n low c h = nothing k n
    shared (r.Text site text) scope names needs reach k n low c h =
        own_sites site 1 low (nothing k n)
    shared (r.Tuple site es) scope names needs reach k n low c h =
        own_sites site 1 low (all_shared es scope names reach k n low c h.1)
    shared (r.ListOf site es e) scope names needs reach k n low c h =
        let m = n + count_all es in
        subst
        (λ heads. Parted k n (count_all es + count e) (owners k n (r.ListOf site es e))
        (event_owners k n (r.ListOf site es e)) (numbers (r.ListOf site es e))
        (onto (sites_from site heads)
        (onto (all_numbers (lifted_all captured reach n es))
        (numbers (lifted captured reach m e))))
        (extracted_all captured reach n es ++ extracted captured reach m e))
        (sym (count_lifted reach n es))
        (own_sites site (expression_count es) low
        (both low (all_shared es scope names reach k n low c h.1)
        (shared e scope names 1 reach k m (low_after k n (count_all es) low) c h.2)))
    shared (r.Values es) scope names needs reach k n low c h =
        all_shared es scope names reach k n low c h.1
    shared (r.Let xs e b) scope names needs reach k n low c h =
        both low (shared e scope names (length xs) reach k n low c h.0)
        (shared b (with_variables scope xs) names needs reach k (n + count e)
        (low_after k n (count e) low) c h.1)
    shared (r.Do e b) scope names needs reach k n low c h =
        both low (shared e scope names 1 reach k n low c h.0)
        (shared b scope names needs reach k (n + count e) (low_after k n (count e) low) c h.1)
    shared (r.Case e cs) scope names needs reach k n low c h =
        both low (shared e scope names (width cs) reach k n low c h.0)
        (clauses_shared cs scope names (width cs) needs reach k (n + count e)
        (low_after k n (count e) low) c h.1)
    shared (r.Letrec fs e) scope names needs reach k n low c h =
        let inside = reach_of n fs ++ reach in
        let around = covers_more fs names reach n c in
        both low
        (functions_shared fs scope (defined fs ++ names) inside k n low around h.0)
        (shared e scope (defined fs ++ names) needs inside k (n + count_functions fs)
        (low_after k n (count_functions fs) low) around h.1)
    shared (r.Call head es) scope names needs reach k n low c h =
        subst
        (λ own. Parted k n (count_all es) (owners k n (r.Call head es))
        (event_owners k n (r.Call head es)) (numbers (r.Call head es)) own
        (extracted_all captured reach n es))
        (sym (called reach names (expression_count es) head (lifted_all captured reach n es) c h.1))
        (head_shares head low (all_shared es scope names reach k n low c h.2))
    shared (r.Receive cs timeout e) scope names needs reach k n low c h =
        both low (clauses_shared cs scope names 1 needs reach k n low c h.0)
        (shared e scope names needs reach k (n + count_clauses cs)
        (low_after k n (count_clauses cs) low) c h.1)
    shared r.Refused scope names needs reach k n low c h = absurd h

    all_shared : (es : Expressions) (scope : Scope) (names : List FunName) (reach : Reach)
        (k n : ℕ) → k < n → Covers names reach → AreKnown arities scope names es
        → AllShared k n reach es
    all_shared NoExpressions scope names reach k n low c h = nothing k n
    all_shared (MoreExpressions e es) scope names reach k n low c h =
        both low (shared e scope names 1 reach k n low c h.0)
        (all_shared es scope names reach k (n + count e) (low_after k n (count e) low) c h.1)

    clauses_shared : (cs : Clauses) (scope : Scope) (names : List FunName) (values needs : ℕ)
        (reach : Reach) (k n : ℕ) → k < n → Covers names reach
        → ClausesAreKnown arities scope names values needs cs → ClausesShared k n reach cs
    clauses_shared NoClauses scope names values needs reach k n low c h = nothing k n
    clauses_shared (MoreClauses ps g b cs) scope names values needs reach k n low c h =
        let inside = with_patterns scope ps in
        let m = n + count g in
        both low (shared g inside names 1 reach k n low c h.2)
        (both (low_after k n (count g) low)
        (shared b inside names needs reach k m (low_after k n (count g) low) c h.3)
        (clauses_shared cs scope names values needs reach k (m + count b)
        (low_after k m (count b) (low_after k n (count g) low)) c h.4))

    functions_shared : (fs : Functions) (scope : Scope) (names : List FunName) (reach : Reach)
        (k n : ℕ) → k < n → Covers names reach → FunctionsAreKnown arities scope names fs
        → FunctionsShared k n reach fs
    functions_shared NoFunctions scope names reach k n low c h = nothing k n
    functions_shared (MoreFunctions f xs b fs) scope names reach k n low c h =
        let lifted_one : FunctionTree = record {
          parameters = captured n ++ xs;
          body = lifted captured reach (suc n) b;
        } in
        let behind : n + suc (count b) ≡ suc (n + count b) = omega arith in
        let all : suc (count b) + count_functions fs ≡ suc (count b + count_functions fs) =
        omega arith in
        let inside = shared b (with_variables scope xs) names 1 reach n (suc n) (omega arith) c h.1 in
        let first : Parted k n (suc (count b)) (owners n (suc n) b) (event_owners n (suc n) b)
        (numbers b) none (lifted_one ∷ extracted captured reach (suc n) b) =
        record {
          sites = shares_function sites_in lifted_one low refl inside.sites;
          events = shares_function events_in lifted_one low refl inside.events;
        } in
        subst
        (λ m. Parted k n m (functions_owners n (MoreFunctions f xs b fs))
        (functions_event_owners n (MoreFunctions f xs b fs))
        (functions_numbers (MoreFunctions f xs b fs)) none
        (extracted_functions captured reach n (MoreFunctions f xs b fs))) all
        (both low first
        (subst
        (λ m. Parted k m (count_functions fs) (functions_owners (suc (n + count b)) fs)
        (functions_event_owners (suc (n + count b)) fs) (functions_numbers fs) none
        (extracted_functions captured reach (suc (n + count b)) fs)) (sym behind)
        (functions_shared fs scope names reach k (suc (n + count b)) (omega (arith, low)) c h.2)))
