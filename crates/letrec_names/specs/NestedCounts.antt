-- How many functions of letrecs stand in the body of each, in the order of their numbers, and the
-- functions of a letrec with the numbers that these counts give them. This project's own.
use Rattle.std.specs.Prelude.{ℕ, suc, ◌+◌, ◌-◌, nat_le, List, [], ◌∷◌, ◌++◌, get_or}
use Rattle.std.specs.Prelude.{if◌then◌else◌}
use Rattle.hy_core.specs.Numbered.{function_count}
use Rattle.hy_core.specs.Syntax as s
use Rattle.hy_core.specs.Syntax.{Syntax, Syntaxes, NoSyntax, MoreSyntax, syntax_of}
use Rattle.hy_core.specs.Syntax.{Clauses, NoClauses, MoreClauses}
use Rattle.hy_core.specs.Syntax.{Definitions, NoDefinitions, MoreDefinitions}
use Rattle.hy_core.specs.declared.tree.Function.{Function}
use Rattle.hy_core.specs.declared.tree.Module.{Module}
use Rattle.lifted_program.specs.LetrecNumbers.{Reach}
use Rattle.lifted_syntax.specs.LiftedSyntax.{count}

abbrev mutual
  pub nested_counts : Syntax → List ℕ
  nested_counts (s.Tuple site es) = nested_counts_all es
  nested_counts (s.ListOf site es e) = nested_counts_all es ++ nested_counts e
  nested_counts (s.Values es) = nested_counts_all es
  nested_counts (s.Let xs e b) = nested_counts e ++ nested_counts b
  nested_counts (s.Do e b) = nested_counts e ++ nested_counts b
  nested_counts (s.Case e cs) = nested_counts e ++ nested_counts_clauses cs
  nested_counts (s.Letrec fs e) = nested_counts_definitions fs ++ nested_counts e
  nested_counts (s.Apply e es) = nested_counts_all es
  nested_counts (s.Call m f es) = nested_counts_all es
  nested_counts (s.Primop a es) = nested_counts_all es
  nested_counts (s.Receive cs t e) = nested_counts_clauses cs ++ nested_counts e
  nested_counts (s.Try e xs b ys c) = nested_counts e
  nested_counts _ = []

  pub nested_counts_all : Syntaxes → List ℕ
  nested_counts_all NoSyntax = []
  nested_counts_all (MoreSyntax e es) = nested_counts e ++ nested_counts_all es

  pub nested_counts_clauses : Clauses → List ℕ
  nested_counts_clauses NoClauses = []
  nested_counts_clauses (MoreClauses ps g b cs) =
      nested_counts g ++ (nested_counts b ++ nested_counts_clauses cs)

  -- the count of a function stands before those of the functions in it
  pub nested_counts_definitions : Definitions → List ℕ
  nested_counts_definitions NoDefinitions = []
  nested_counts_definitions (MoreDefinitions f xs b fs) =
      count b ∷ (nested_counts b ++ nested_counts_definitions fs)

abbrev pub nested_counts_functions : List Function → List ℕ
nested_counts_functions [] = []
nested_counts_functions (f ∷ fs) = nested_counts (syntax_of f.body) ++ nested_counts_functions fs

abbrev pub nested_counts_modules : List Module → List ℕ
nested_counts_modules [] = []
nested_counts_modules (m ∷ ms) =
    nested_counts_functions m.functions ++ nested_counts_modules ms

-- the counts of functions of letrecs, and the number of the first of these functions
pub record Counts : Type 0 where
  pub first : ℕ
  pub counts : List ℕ

-- those of a program
abbrev pub program_counts : List Module → Counts
program_counts ms = record { first = function_count ms; counts = nested_counts_modules ms }

-- the count of the function with this number, and 0 where there is none
abbrev pub within : Counts → (function : ℕ) → ℕ
within c n = if nat_le c.first n then get_or c.counts (n - c.first) 0 else 0

-- the functions of a letrec, of which the first has the number n, with the numbers that follow from
-- the counts
abbrev pub numbered : Counts → (n : ℕ) → Definitions → Reach
numbered c n NoDefinitions = []
numbered c n (MoreDefinitions f xs b fs) = (f, n) ∷ numbered c (suc (n + within c n)) fs
