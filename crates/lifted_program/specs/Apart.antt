-- Programs in which no binding stands in the scope of another of its variable. This project's own.
use Rattle.std.specs.Prelude.{◌≡◌, ℕ, List, [], ◌∷◌, false}
use Rattle.hy_core.specs.Resolved as r
use Rattle.hy_core.specs.Resolved.{Pattern, Patterns, NoPatterns, MorePatterns, FunctionTree}
use Rattle.hy_core.specs.Resolved.{Expression, Expressions, NoExpressions, MoreExpressions}
use Rattle.hy_core.specs.Resolved.{Clauses, NoClauses, MoreClauses}
use Rattle.hy_core.specs.Resolved.{Functions, NoFunctions, MoreFunctions}
use Rattle.hy_core.specs.Scopes.{Scope, is_bound, with_variables, with_pattern, with_patterns}

-- variables that are bound one after another, each where it isn't in scope yet
abbrev pub AreNew : Scope → List ℕ → Type 0
AreNew scope [] = Unit {0}
AreNew scope (x ∷ xs) = (is_bound x scope ≡ false) × AreNew (x ∷ scope) xs

-- the same of the variables of patterns
abbrev mutual
  pub IsNewPattern : Scope → Pattern → Type 0
  IsNewPattern scope (r.AnyTerm x) = is_bound x scope ≡ false
  IsNewPattern scope (r.TheTuple ps) = AreNewPatterns scope ps
  IsNewPattern scope (r.TheList ps p) =
      AreNewPatterns scope ps × IsNewPattern (with_patterns scope ps) p
  IsNewPattern scope (r.Alias x p) = (is_bound x scope ≡ false) × IsNewPattern (x ∷ scope) p
  IsNewPattern scope _ = Unit {0}

  pub AreNewPatterns : Scope → Patterns → Type 0
  AreNewPatterns scope NoPatterns = Unit {0}
  AreNewPatterns scope (MorePatterns p ps) =
      IsNewPattern scope p × AreNewPatterns (with_pattern scope p) ps

-- whatever an expression binds isn't in scope yet
abbrev mutual
  pub BindsApart : Scope → Expression → Type 0
  BindsApart scope (r.Tuple site es) = BindApart scope es
  BindsApart scope (r.ListOf site es e) = BindApart scope es × BindsApart scope e
  BindsApart scope (r.Values es) = BindApart scope es
  BindsApart scope (r.Let xs e b) =
      BindsApart scope e × AreNew scope xs × BindsApart (with_variables scope xs) b
  BindsApart scope (r.Do e b) = BindsApart scope e × BindsApart scope b
  BindsApart scope (r.Case e cs) = BindsApart scope e × ClausesBindApart scope cs
  BindsApart scope (r.Letrec fs e) = FunctionsBindApart scope fs × BindsApart scope e
  BindsApart scope (r.Call head es) = BindApart scope es
  BindsApart scope (r.Receive cs timeout e) = ClausesBindApart scope cs × BindsApart scope e
  BindsApart scope _ = Unit {0}

  pub BindApart : Scope → Expressions → Type 0
  BindApart scope NoExpressions = Unit {0}
  BindApart scope (MoreExpressions e es) = BindsApart scope e × BindApart scope es

  pub ClausesBindApart : Scope → Clauses → Type 0
  ClausesBindApart scope NoClauses = Unit {0}
  ClausesBindApart scope (MoreClauses ps g b cs) =
      let inside = with_patterns scope ps in
      AreNewPatterns scope ps × BindsApart inside g × BindsApart inside b
      × ClausesBindApart scope cs

  pub FunctionsBindApart : Scope → Functions → Type 0
  FunctionsBindApart scope NoFunctions = Unit {0}
  FunctionsBindApart scope (MoreFunctions f xs b fs) =
      AreNew scope xs × BindsApart (with_variables scope xs) b × FunctionsBindApart scope fs

-- a function of a program
abbrev pub FunctionBindsApart : FunctionTree → Type 0
FunctionBindsApart f = AreNew [] f.parameters × BindsApart (with_variables [] f.parameters) f.body
