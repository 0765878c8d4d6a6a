-- Functions of letrecs, counted one part after another. This project's own.
use Rattle.std.specs.Prelude.{ℕ, suc}
use Rattle.hy_core.specs.Syntax as s
use Rattle.hy_core.specs.Syntax.{Syntax, Syntaxes, NoSyntax, MoreSyntax}
use Rattle.hy_core.specs.Syntax.{Clauses, NoClauses, MoreClauses, ClauseSyntax}
use Rattle.hy_core.specs.Syntax.{Definitions, NoDefinitions, MoreDefinitions, DefinitionSyntax}

-- n: how many are counted so far
abbrev mutual
  pub counted : ℕ → Syntax → ℕ
  counted n (s.Tuple site es) = counted_all n es
  counted n (s.ListOf site es e) = counted (counted_all n es) e
  counted n (s.Values es) = counted_all n es
  counted n (s.Let xs e b) = counted (counted n e) b
  counted n (s.Do e b) = counted (counted n e) b
  counted n (s.Case e cs) = counted_clauses (counted n e) cs
  counted n (s.Letrec fs e) = counted (counted_definitions n fs) e
  counted n (s.Apply e es) = counted_all n es
  counted n (s.Call m f es) = counted_all n es
  counted n (s.Primop a es) = counted_all n es
  counted n (s.Receive cs t e) = counted (counted_clauses n cs) e
  counted n (s.Try e xs b ys c) = counted n e
  counted n _ = n

  pub counted_all : ℕ → Syntaxes → ℕ
  counted_all n NoSyntax = n
  counted_all n (MoreSyntax e es) = counted_all (counted n e) es

  pub counted_clauses : ℕ → Clauses → ℕ
  counted_clauses n NoClauses = n
  counted_clauses n (MoreClauses ps g b cs) = counted_clauses (counted (counted n g) b) cs

  pub counted_definitions : ℕ → Definitions → ℕ
  counted_definitions n NoDefinitions = n
  counted_definitions n (MoreDefinitions f xs b fs) = counted_definitions (counted (suc n) b) fs

abbrev pub counted_clause : ℕ → ClauseSyntax → ℕ
counted_clause n c = counted (counted n c.guard) c.body

abbrev pub counted_definition : ℕ → DefinitionSyntax → ℕ
counted_definition n f = counted (suc n) f.body
