-- Expressions without letrecs and without calls of their functions. This project's own.
use Rattle.hy_core.specs.Resolved as r
use Rattle.hy_core.specs.Resolved.{Head, Expression, Expressions, NoExpressions, MoreExpressions}
use Rattle.hy_core.specs.Resolved.{Clauses, NoClauses, MoreClauses}

abbrev pub IsFlatHead : Head → Type 0
IsFlatHead (r.Local f) = ⊥
IsFlatHead _ = Unit {0}

abbrev mutual
  pub IsFlat : Expression → Type 0
  IsFlat (r.Tuple site es) = AreFlat es
  IsFlat (r.ListOf site es e) = AreFlat es × IsFlat e
  IsFlat (r.Values es) = AreFlat es
  IsFlat (r.Let xs e b) = IsFlat e × IsFlat b
  IsFlat (r.Do e b) = IsFlat e × IsFlat b
  IsFlat (r.Case e cs) = IsFlat e × ClausesAreFlat cs
  IsFlat (r.Letrec fs e) = ⊥
  IsFlat (r.Call head es) = IsFlatHead head × AreFlat es
  IsFlat (r.Receive cs timeout e) = ClausesAreFlat cs × IsFlat e
  IsFlat _ = Unit {0}

  pub AreFlat : Expressions → Type 0
  AreFlat NoExpressions = Unit {0}
  AreFlat (MoreExpressions e es) = IsFlat e × AreFlat es

  pub ClausesAreFlat : Clauses → Type 0
  ClausesAreFlat NoClauses = Unit {0}
  ClausesAreFlat (MoreClauses ps g b cs) = IsFlat g × IsFlat b × ClausesAreFlat cs
