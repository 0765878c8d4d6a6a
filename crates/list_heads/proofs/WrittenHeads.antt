-- Syntax in which no list notation is empty. This project's own.
use Rattle.std.specs.Prelude.{◌<◌}
use Rattle.hy_core.specs.Syntax as s
use Rattle.hy_core.specs.Syntax.{Syntax, Syntaxes, NoSyntax, MoreSyntax, count}
use Rattle.hy_core.specs.Syntax.{Clauses, NoClauses, MoreClauses}
use Rattle.hy_core.specs.Syntax.{Definitions, NoDefinitions, MoreDefinitions}

abbrev mutual
  pub HasHeads : Syntax → Type 0
  HasHeads (s.Tuple site es) = AllHaveHeads es
  HasHeads (s.ListOf site es e) = (0 < count es) × AllHaveHeads es × HasHeads e
  HasHeads (s.Values es) = AllHaveHeads es
  HasHeads (s.Let xs e b) = HasHeads e × HasHeads b
  HasHeads (s.Do e b) = HasHeads e × HasHeads b
  HasHeads (s.Case e cs) = HasHeads e × ClausesHaveHeads cs
  HasHeads (s.Letrec fs e) = DefinitionsHaveHeads fs × HasHeads e
  HasHeads (s.Apply e es) = HasHeads e × AllHaveHeads es
  HasHeads (s.Call m f es) = HasHeads m × HasHeads f × AllHaveHeads es
  HasHeads (s.Primop a es) = AllHaveHeads es
  HasHeads (s.Receive cs t e) = ClausesHaveHeads cs × HasHeads t × HasHeads e
  HasHeads (s.Try e xs b ys c) = HasHeads e × HasHeads b × HasHeads c
  HasHeads (s.Catch e) = HasHeads e
  HasHeads (s.Fun xs e) = HasHeads e
  HasHeads _ = Unit {0}

  pub AllHaveHeads : Syntaxes → Type 0
  AllHaveHeads NoSyntax = Unit {0}
  AllHaveHeads (MoreSyntax e es) = HasHeads e × AllHaveHeads es

  pub ClausesHaveHeads : Clauses → Type 0
  ClausesHaveHeads NoClauses = Unit {0}
  ClausesHaveHeads (MoreClauses ps g b cs) = HasHeads g × HasHeads b × ClausesHaveHeads cs

  pub DefinitionsHaveHeads : Definitions → Type 0
  DefinitionsHaveHeads NoDefinitions = Unit {0}
  DefinitionsHaveHeads (MoreDefinitions f xs b fs) = HasHeads b × DefinitionsHaveHeads fs
