-- Programs that bind no name from a limit on. This project's own.
use Rattle.std.specs.Prelude.{ℕ, ◌<◌, List, [], ◌∷◌}
use Rattle.hy_core.specs.Resolved as r
use Rattle.hy_core.specs.Resolved.{Pattern, Patterns, NoPatterns, MorePatterns, FunctionTree}
use Rattle.hy_core.specs.Resolved.{Expression, Expressions, NoExpressions, MoreExpressions}
use Rattle.hy_core.specs.Resolved.{Clauses, NoClauses, MoreClauses}
use Rattle.hy_core.specs.Resolved.{Functions, NoFunctions, MoreFunctions}

module _ (limit : ℕ) where
  abbrev pub AreBelow : List ℕ → Type 0
  AreBelow [] = Unit {0}
  AreBelow (x ∷ xs) = (x < limit) × AreBelow xs

  abbrev mutual
    pub PatternIsBelow : Pattern → Type 0
    PatternIsBelow (r.AnyTerm x) = x < limit
    PatternIsBelow (r.TheTuple ps) = PatternsAreBelow ps
    PatternIsBelow (r.TheList ps p) = PatternsAreBelow ps × PatternIsBelow p
    PatternIsBelow (r.Alias x p) = (x < limit) × PatternIsBelow p
    PatternIsBelow _ = Unit {0}

    pub PatternsAreBelow : Patterns → Type 0
    PatternsAreBelow NoPatterns = Unit {0}
    PatternsAreBelow (MorePatterns p ps) = PatternIsBelow p × PatternsAreBelow ps

  -- what an expression binds is below the limit
  abbrev mutual
    pub BindsBelow : Expression → Type 0
    BindsBelow (r.Tuple site es) = BindBelow es
    BindsBelow (r.ListOf site es e) = BindBelow es × BindsBelow e
    BindsBelow (r.Values es) = BindBelow es
    BindsBelow (r.Let xs e b) = BindsBelow e × AreBelow xs × BindsBelow b
    BindsBelow (r.Do e b) = BindsBelow e × BindsBelow b
    BindsBelow (r.Case e cs) = BindsBelow e × ClausesBindBelow cs
    BindsBelow (r.Letrec fs e) = FunctionsBindBelow fs × BindsBelow e
    BindsBelow (r.Call head es) = BindBelow es
    BindsBelow (r.Receive cs timeout e) = ClausesBindBelow cs × BindsBelow e
    BindsBelow _ = Unit {0}

    pub BindBelow : Expressions → Type 0
    BindBelow NoExpressions = Unit {0}
    BindBelow (MoreExpressions e es) = BindsBelow e × BindBelow es

    pub ClausesBindBelow : Clauses → Type 0
    ClausesBindBelow NoClauses = Unit {0}
    ClausesBindBelow (MoreClauses ps g b cs) =
        PatternsAreBelow ps × BindsBelow g × BindsBelow b × ClausesBindBelow cs

    pub FunctionsBindBelow : Functions → Type 0
    FunctionsBindBelow NoFunctions = Unit {0}
    FunctionsBindBelow (MoreFunctions f xs b fs) =
        AreBelow xs × BindsBelow b × FunctionsBindBelow fs

  -- a function of a program
  abbrev pub FunctionBindsBelow : FunctionTree → Type 0
  FunctionBindsBelow f = AreBelow f.parameters × BindsBelow f.body
