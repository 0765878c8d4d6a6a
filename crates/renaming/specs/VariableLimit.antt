-- One past the greatest variable that a program binds: the names from there on are no variables of
-- it. This project's own.
use Rattle.std.specs.Prelude.{ℕ, ◌+◌, nat_le, List, [], ◌∷◌, if◌then◌else◌, map}
use Rattle.hy_core.specs.NameFaults.{modules_of}
use Rattle.hy_core.specs.Resolved as r
use Rattle.hy_core.specs.Resolved.{Pattern, Patterns, NoPatterns, MorePatterns}
use Rattle.hy_core.specs.Syntax as s
use Rattle.hy_core.specs.Syntax.{Syntax, Syntaxes, NoSyntax, MoreSyntax}
use Rattle.hy_core.specs.Syntax.{Clauses, NoClauses, MoreClauses, ClauseSyntax}
use Rattle.hy_core.specs.Syntax.{Definitions, NoDefinitions, MoreDefinitions, DefinitionSyntax}
use Rattle.hy_core.specs.Syntax.{definitions_of}
use Rattle.hy_core.specs.declared.tree.Module.{Module}
use Rattle.hy_core.specs.declared.tree.Program.{Program}
use Rattle.renaming.specs.RenamedSyntax.{function_syntax}

-- above each of these, one after another, and above what was before
abbrev pub above_each : {A : Type 0} → (ℕ → A → ℕ) → ℕ → List A → ℕ
above_each above n [] = n
above_each above n (x ∷ xs) = above_each above (above n x) xs

-- above a variable
abbrev pub above : ℕ → ℕ → ℕ
above n x = if nat_le n x then x + 1 else n

abbrev pub above_all : ℕ → List ℕ → ℕ
above_all = above_each above

abbrev mutual
  pub above_pattern : ℕ → Pattern → ℕ
  above_pattern n (r.AnyTerm x) = above n x
  above_pattern n (r.TheTuple ps) = above_patterns n ps
  above_pattern n (r.TheList ps p) = above_pattern (above_patterns n ps) p
  above_pattern n (r.Alias x p) = above_pattern (above n x) p
  above_pattern n _ = n

  pub above_patterns : ℕ → Patterns → ℕ
  above_patterns n NoPatterns = n
  above_patterns n (MorePatterns p ps) = above_patterns (above_pattern n p) ps

abbrev mutual
  -- above what an expression binds
  pub above_syntax : ℕ → Syntax → ℕ
  above_syntax n (s.Tuple site es) = above_syntaxes n es
  above_syntax n (s.ListOf site es e) = above_syntax (above_syntaxes n es) e
  above_syntax n (s.Values es) = above_syntaxes n es
  above_syntax n (s.Let xs e b) = above_syntax (above_syntax (above_all n xs) e) b
  above_syntax n (s.Do e b) = above_syntax (above_syntax n e) b
  above_syntax n (s.Case e cs) = above_clauses (above_syntax n e) cs
  above_syntax n (s.Letrec fs e) = above_syntax (above_definitions n fs) e
  above_syntax n (s.Apply e es) = above_syntaxes (above_syntax n e) es
  above_syntax n (s.Call m f es) = above_syntaxes (above_syntax (above_syntax n m) f) es
  above_syntax n (s.Primop a es) = above_syntaxes n es
  above_syntax n (s.Receive cs t e) = above_syntax (above_syntax (above_clauses n cs) t) e
  above_syntax n (s.Try e xs b ys c) =
      above_syntax (above_all (above_syntax (above_all (above_syntax n e) xs) b) ys) c
  above_syntax n (s.Catch e) = above_syntax n e
  above_syntax n (s.Fun xs e) = above_syntax (above_all n xs) e
  above_syntax n _ = n

  pub above_syntaxes : ℕ → Syntaxes → ℕ
  above_syntaxes n NoSyntax = n
  above_syntaxes n (MoreSyntax e es) = above_syntaxes (above_syntax n e) es

  pub above_clauses : ℕ → Clauses → ℕ
  above_clauses n NoClauses = n
  above_clauses n (MoreClauses ps g b cs) =
      above_clauses (above_syntax (above_syntax (above_patterns n ps) g) b) cs

  pub above_definitions : ℕ → Definitions → ℕ
  above_definitions n NoDefinitions = n
  above_definitions n (MoreDefinitions f xs b fs) =
      above_definitions (above_syntax (above_all n xs) b) fs

abbrev pub above_clause : ℕ → ClauseSyntax → ℕ
above_clause n c = above_syntax (above_syntax (above_patterns n c.patterns) c.guard) c.body

abbrev pub above_definition : ℕ → DefinitionSyntax → ℕ
above_definition n f = above_syntax (above_all n f.parameters) f.body

abbrev pub above_module : ℕ → Module → ℕ
above_module n m = above_definitions n (definitions_of (map function_syntax m.functions))

-- one past the greatest
abbrev pub variable_limit : Program → ℕ
variable_limit program = above_each above_module 0 (modules_of program)
