-- Counts, put behind others as a text is gone through: the place of one is kept until the body is
-- passed.
use Rattle.std.specs.Prelude.{ℕ, ◌-◌, List, [], ◌∷◌, ◌++◌, length, slice_set}
use Rattle.hy_core.specs.Syntax as s
use Rattle.hy_core.specs.Syntax.{Syntax, Syntaxes, NoSyntax, MoreSyntax, syntax_of}
use Rattle.hy_core.specs.Syntax.{Clauses, NoClauses, MoreClauses, ClauseSyntax}
use Rattle.hy_core.specs.Syntax.{Definitions, NoDefinitions, MoreDefinitions, DefinitionSyntax}
use Rattle.hy_core.specs.declared.tree.Function.{Function}
use Rattle.hy_core.specs.declared.tree.Module.{Module}

-- the count whose place this is
abbrev pub finished : (place : ℕ) → List ℕ → List ℕ
finished k ns = slice_set ns k (length ns - k - 1)

abbrev mutual
  pub passed : List ℕ → Syntax → List ℕ
  passed ns (s.Tuple site es) = passed_all ns es
  passed ns (s.ListOf site es e) = passed (passed_all ns es) e
  passed ns (s.Values es) = passed_all ns es
  passed ns (s.Let xs e b) = passed (passed ns e) b
  passed ns (s.Do e b) = passed (passed ns e) b
  passed ns (s.Case e cs) = passed_clauses (passed ns e) cs
  passed ns (s.Letrec fs e) = passed (passed_definitions ns fs) e
  passed ns (s.Apply e es) = passed_all ns es
  passed ns (s.Call m f es) = passed_all ns es
  passed ns (s.Primop a es) = passed_all ns es
  passed ns (s.Receive cs t e) = passed (passed_clauses ns cs) e
  passed ns (s.Try e xs b ys c) = passed ns e
  passed ns _ = ns

  pub passed_all : List ℕ → Syntaxes → List ℕ
  passed_all ns NoSyntax = ns
  passed_all ns (MoreSyntax e es) = passed_all (passed ns e) es

  pub passed_clauses : List ℕ → Clauses → List ℕ
  passed_clauses ns NoClauses = ns
  passed_clauses ns (MoreClauses ps g b cs) = passed_clauses (passed (passed ns g) b) cs

  pub passed_definitions : List ℕ → Definitions → List ℕ
  passed_definitions ns NoDefinitions = ns
  passed_definitions ns (MoreDefinitions f xs b fs) =
      passed_definitions (finished (length ns) (passed (ns ++ 0 ∷ []) b)) fs

abbrev pub passed_clause : List ℕ → ClauseSyntax → List ℕ
passed_clause ns c = passed (passed ns c.guard) c.body

abbrev pub passed_definition : List ℕ → DefinitionSyntax → List ℕ
passed_definition ns f = finished (length ns) (passed (ns ++ 0 ∷ []) f.body)

abbrev pub passed_functions : List ℕ → List Function → List ℕ
passed_functions ns [] = ns
passed_functions ns (f ∷ fs) = passed_functions (passed ns (syntax_of f.body)) fs

abbrev pub passed_modules : List ℕ → List Module → List ℕ
passed_modules ns [] = ns
passed_modules ns (m ∷ ms) = passed_modules (passed_functions ns m.functions) ms
