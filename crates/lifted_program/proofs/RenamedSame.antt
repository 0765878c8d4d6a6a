-- A program whose bindings are apart already is left as it is.
use Rattle.std.proofs.Common.{◌≡◌, ◌≢◌, ℕ, ◌<◌, List, [], ◌∷◌, ◌++◌, length, Some, true, false}
use Rattle.std.proofs.Common.{refl, sym, ap, ◌∙◌, ◌⊎◌, ⊎_elim}
use Rattle.std.specs.Prelude.{◌==◌, ◌||◌, unwrap_or, if◌then◌else◌}
use Rattle.std.specs.List.{All}
use Rattle.std.proofs.lemmas.Bool.{lt-leb}
use Rattle.std.proofs.lemmas.Bool.Decides.{eqb_tells}
use Rattle.std.proofs.lemmas.List.Elements.{All-head, All-tail}
use Rattle.hy_core.specs.declared.tree.FunName.{FunName}
use Rattle.hy_core.specs.KnownTrees.{defined, width, IsKnown, AreKnown, ClausesAreKnown}
use Rattle.hy_core.specs.KnownTrees.{FunctionsAreKnown, IsKnownFunction, arities_of, TreesAreKnown}
use Rattle.hy_core.specs.Resolved as r
use Rattle.hy_core.specs.Resolved.{Pattern, Patterns, NoPatterns, MorePatterns, FunctionTree}
use Rattle.hy_core.specs.Resolved.{Expression, Expressions, NoExpressions, MoreExpressions, Clauses}
use Rattle.hy_core.specs.Resolved.{NoClauses, MoreClauses, Functions, NoFunctions, MoreFunctions}
use Rattle.hy_core.specs.Scopes.{Scope, is_bound, with_variables, with_pattern, with_patterns}
use Rattle.lifted_program.specs.Apart.{AreNew, IsNewPattern, AreNewPatterns, BindsApart, BindApart}
use Rattle.lifted_program.specs.Apart.{ClausesBindApart, FunctionsBindApart, FunctionBindsApart}
use Rattle.lifted_program.specs.Below.{AreBelow, PatternIsBelow, PatternsAreBelow, BindsBelow}
use Rattle.lifted_program.specs.Below.{BindBelow, ClausesBindBelow, FunctionsBindBelow}
use Rattle.lifted_program.specs.Below.{FunctionBindsBelow}
use Rattle.lifted_program.specs.Renaming.{new_name, name_for, name_in, name_of, names_for}
use Rattle.lifted_program.specs.Renaming.{renamed_pattern, renamed_patterns, renamed, renamed_all}
use Rattle.lifted_program.specs.Renaming.{renamed_clauses, renamed_functions, renamed_program}
use Rattle.lifted_program.proofs.Variables.{In, bound_in}

module _ (limit : ℕ) where
  -- each variable in scope has its own name
  abbrev Own : Scope → Type 0
  Own [] = Unit {0}
  Own (x ∷ scope) = (name_for limit scope x ≡ x) × Own scope

  own_name : (scope : Scope) (x : ℕ) → is_bound x scope ≡ false → x < limit → name_for limit scope x
      ≡ x
  own_name scope x new below =
      λ i. if new i || lt-leb limit x below i then new_name limit scope else x

  own_found : (scope : Scope) (x : ℕ) → Own scope → In x scope → name_in limit scope x ≡ Some x
  own_found [] x own h = absurd h
  own_found (z ∷ scope) x own h = by_case (λ k. own_found scope x own.1 k) (eqb_tells x z) h
    where
      by_case : (In x scope → name_in limit scope x ≡ Some x) → ((x == z) ≡ true) × (x ≡ z)
          ⊎ ((x == z) ≡ false) × (x ≢ z) → (x ≡ z) ⊎ In x scope → name_in limit (z ∷ scope) x
          ≡ Some x
      by_case rest s h =
          ⊎_elim
          (λ e. ap (λ c. if c then Some (name_for limit scope z) else name_in limit scope x) e.0
          ∙ ap Some (own.0 ∙ sym e.1))
          (λ n. ap (λ c. if c then Some (name_for limit scope z) else name_in limit scope x) n.0
          ∙ ⊎_elim (λ e. absurd (n.1 e)) rest h) s

  own_variable : (scope : Scope) (x : ℕ) → Own scope → In x scope → name_of limit scope x ≡ x
  own_variable scope x own h =
      ap (λ o. unwrap_or o (new_name limit scope)) (own_found scope x own h)

  own_names : (xs : List ℕ) (scope : Scope) → AreNew scope xs → AreBelow limit xs
      → names_for limit scope xs ≡ xs
  own_names [] scope n b = refl
  own_names (x ∷ xs) scope n b =
      λ i. own_name scope x n.0 b.0 i ∷ own_names xs (x ∷ scope) n.1 b.1 i

  own_with : (xs : List ℕ) (scope : Scope) → Own scope → AreNew scope xs → AreBelow limit xs
      → Own (with_variables scope xs)
  own_with [] scope own n b = own
  own_with (x ∷ xs) scope own n b = own_with xs (x ∷ scope) (own_name scope x n.0 b.0, own) n.1 b.1

  mutual
    own_pattern : (p : Pattern) (scope : Scope) → IsNewPattern scope p → PatternIsBelow limit p
        → renamed_pattern limit scope p ≡ p
    own_pattern (r.AnyTerm x) scope n b = ap r.AnyTerm (own_name scope x n b)
    own_pattern (r.TheTuple ps) scope n b = ap r.TheTuple (own_patterns ps scope n b)
    own_pattern (r.TheList ps p) scope n b =
        λ i. r.TheList (own_patterns ps scope n.0 b.0 i)
        (own_pattern p (with_patterns scope ps) n.1 b.1 i)
    own_pattern (r.Alias x p) scope n b =
        λ i. r.Alias (own_name scope x n.0 b.0 i) (own_pattern p (x ∷ scope) n.1 b.1 i)
    own_pattern _ scope n b = refl

    own_patterns : (ps : Patterns) (scope : Scope) → AreNewPatterns scope ps
        → PatternsAreBelow limit ps → renamed_patterns limit scope ps ≡ ps
    own_patterns NoPatterns scope n b = refl
    own_patterns (MorePatterns p ps) scope n b =
        λ i. MorePatterns (own_pattern p scope n.0 b.0 i)
        (own_patterns ps (with_pattern scope p) n.1 b.1 i)

  mutual
    with_own : (p : Pattern) (scope : Scope) → Own scope → IsNewPattern scope p
        → PatternIsBelow limit p → Own (with_pattern scope p)
    with_own (r.AnyTerm x) scope own n b = (own_name scope x n b, own)
    with_own (r.TheTuple ps) scope own n b = all_with_own ps scope own n b
    with_own (r.TheList ps p) scope own n b =
        with_own p (with_patterns scope ps) (all_with_own ps scope own n.0 b.0) n.1 b.1
    with_own (r.Alias x p) scope own n b =
        with_own p (x ∷ scope) (own_name scope x n.0 b.0, own) n.1 b.1
    with_own _ scope own n b = own

    all_with_own : (ps : Patterns) (scope : Scope) → Own scope → AreNewPatterns scope ps
        → PatternsAreBelow limit ps → Own (with_patterns scope ps)
    all_with_own NoPatterns scope own n b = own
    all_with_own (MorePatterns p ps) scope own n b =
        all_with_own ps (with_pattern scope p) (with_own p scope own n.0 b.0) n.1 b.1

  module _ (arities : List ℕ) where
    mutual
      same : (e : Expression) (s : Scope) (locals : List FunName) (needs : ℕ) → Own s
          → IsKnown arities s locals needs e → BindsApart s e → BindsBelow limit e
          → renamed limit s e ≡ e
      same (r.Int v) s locals needs own k n b = refl
      same (r.Atom a) s locals needs own k n b = refl
      same r.Nil s locals needs own k n b = refl
      same (r.Text site t) s locals needs own k n b = refl
      same (r.Variable x) s locals needs own k n b =
          ap r.Variable (own_variable s x own (bound_in x s k.1))
      same (r.Tuple site es) s locals needs own k n b =
          ap (r.Tuple site) (all_same es s locals own k.1 n b)
      same (r.ListOf site es e) s locals needs own k n b =
          λ i. r.ListOf site (all_same es s locals own k.1 n.0 b.0 i)
          (same e s locals 1 own k.2 n.1 b.1 i)
      same (r.Values es) s locals needs own k n b = ap r.Values (all_same es s locals own k.1 n b)
      same (r.Let xs e c) s locals needs own k n b =
          λ i. r.Let (own_names xs s n.1 b.1 i) (same e s locals (length xs) own k.0 n.0 b.0 i)
          (same c (with_variables s xs) locals needs (own_with xs s own n.1 b.1) k.1 n.2 b.2 i)
      same (r.Do e c) s locals needs own k n b =
          λ i. r.Do (same e s locals 1 own k.0 n.0 b.0 i) (same c s locals needs own k.1 n.1 b.1 i)
      same (r.Case e cs) s locals needs own k n b =
          λ i. r.Case (same e s locals (width cs) own k.0 n.0 b.0 i)
          (clauses_same cs s locals (width cs) needs own k.1 n.1 b.1 i)
      same (r.Letrec fs e) s locals needs own k n b =
          λ i. r.Letrec (functions_same fs s (defined fs ++ locals) own k.0 n.0 b.0 i)
          (same e s (defined fs ++ locals) needs own k.1 n.1 b.1 i)
      same (r.Call head es) s locals needs own k n b =
          ap (r.Call head) (all_same es s locals own k.2 n b)
      same (r.Receive cs timeout e) s locals needs own k n b =
          λ i. r.Receive (clauses_same cs s locals 1 needs own k.0 n.0 b.0 i) timeout
          (same e s locals needs own k.1 n.1 b.1 i)
      same r.Refused s locals needs own k n b = refl

      all_same : (es : Expressions) (s : Scope) (locals : List FunName) → Own s
          → AreKnown arities s locals es → BindApart s es → BindBelow limit es
          → renamed_all limit s es ≡ es
      all_same NoExpressions s locals own k n b = refl
      all_same (MoreExpressions e es) s locals own k n b =
          λ i. MoreExpressions (same e s locals 1 own k.0 n.0 b.0 i)
          (all_same es s locals own k.1 n.1 b.1 i)

      clauses_same : (cs : Clauses) (s : Scope) (locals : List FunName) (values needs : ℕ) → Own s
          → ClausesAreKnown arities s locals values needs cs → ClausesBindApart s cs
          → ClausesBindBelow limit cs → renamed_clauses limit s cs ≡ cs
      clauses_same NoClauses s locals values needs own k n b = refl
      clauses_same (MoreClauses ps g c cs) s locals values needs own k n b =
          let inside = with_patterns s ps in
          let own' = all_with_own ps s own n.0 b.0 in
          λ i. MoreClauses (own_patterns ps s n.0 b.0 i) (same g inside locals 1 own' k.2 n.1 b.1 i)
          (same c inside locals needs own' k.3 n.2 b.2 i)
          (clauses_same cs s locals values needs own k.4 n.3 b.3 i)

      functions_same : (fs : Functions) (s : Scope) (locals : List FunName) → Own s
          → FunctionsAreKnown arities s locals fs → FunctionsBindApart s fs
          → FunctionsBindBelow limit fs → renamed_functions limit s fs ≡ fs
      functions_same NoFunctions s locals own k n b = refl
      functions_same (MoreFunctions f xs c fs) s locals own k n b =
          λ i. MoreFunctions f (own_names xs s n.0 b.0 i)
          (same c (with_variables s xs) locals 1 (own_with xs s own n.0 b.0) k.1 n.1 b.1 i)
          (functions_same fs s locals own k.2 n.2 b.2 i)

    tops_same : (fs : List FunctionTree) → All (IsKnownFunction arities) fs
        → All FunctionBindsApart fs → All (FunctionBindsBelow limit) fs → renamed_program limit fs
        ≡ fs
    tops_same [] k n b = refl
    tops_same (f ∷ fs) k n b =
        let xs = f.parameters in
        let known = All-head (IsKnownFunction arities) f fs k in
        let apart = All-head FunctionBindsApart f fs n in
        let below = All-head (FunctionBindsBelow limit) f fs b in
        let body = same f.body (with_variables [] xs) [] 1
        (own_with xs [] tt apart.0 below.0) known apart.1 below.1 in
        let rest = tops_same fs (All-tail (IsKnownFunction arities) f fs k)
        (All-tail FunctionBindsApart f fs n) (All-tail (FunctionBindsBelow limit) f fs b) in
        λ i. record { parameters = own_names xs [] apart.0 below.0 i; body = body i } ∷ rest i

  pub renamed_same : (source : List FunctionTree) → TreesAreKnown source
      → All FunctionBindsApart source → All (FunctionBindsBelow limit) source
      → renamed_program limit source ≡ source
  renamed_same source known apart below = tops_same (arities_of source) source known apart below
