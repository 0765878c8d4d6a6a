-- Expressions of which no form is refused. This project's own.
use Rattle.hy_core.specs.Resolved as r
use Rattle.hy_core.specs.Resolved.{Expression, Expressions, NoExpressions, MoreExpressions}
use Rattle.hy_core.specs.Resolved.{Clauses, NoClauses, MoreClauses}
use Rattle.hy_core.specs.Resolved.{Functions, NoFunctions, MoreFunctions}

abbrev mutual
  pub IsWhole : Expression → Type 0
  IsWhole (r.Tuple site es) = AreWhole es
  IsWhole (r.ListOf site es e) = AreWhole es × IsWhole e
  IsWhole (r.Values es) = AreWhole es
  IsWhole (r.Let xs e b) = IsWhole e × IsWhole b
  IsWhole (r.Do e b) = IsWhole e × IsWhole b
  IsWhole (r.Case e cs) = IsWhole e × ClausesAreWhole cs
  IsWhole (r.Letrec fs e) = FunctionsAreWhole fs × IsWhole e
  IsWhole (r.Call head es) = AreWhole es
  IsWhole (r.Receive cs timeout e) = ClausesAreWhole cs × IsWhole e
  IsWhole r.Refused = ⊥
  IsWhole _ = Unit {0}

  pub AreWhole : Expressions → Type 0
  AreWhole NoExpressions = Unit {0}
  AreWhole (MoreExpressions e es) = IsWhole e × AreWhole es

  pub ClausesAreWhole : Clauses → Type 0
  ClausesAreWhole NoClauses = Unit {0}
  ClausesAreWhole (MoreClauses ps g b cs) = IsWhole g × IsWhole b × ClausesAreWhole cs

  pub FunctionsAreWhole : Functions → Type 0
  FunctionsAreWhole NoFunctions = Unit {0}
  FunctionsAreWhole (MoreFunctions f xs b fs) = IsWhole b × FunctionsAreWhole fs
