-- The function in which each event of syntax stands, in the order of the text. This project's own.
use Rattle.std.specs.Prelude.{ℕ, suc, ◌+◌, List, [], ◌∷◌, ◌++◌, if◌then◌else◌}
use Rattle.hy_core.specs.Numbered.{function_count}
use Rattle.hy_core.specs.ProgramTrees.{is_event}
use Rattle.hy_core.specs.Syntax as s
use Rattle.hy_core.specs.Syntax.{Syntax, Syntaxes, NoSyntax, MoreSyntax, syntax_of}
use Rattle.hy_core.specs.Syntax.{Clauses, NoClauses, MoreClauses}
use Rattle.hy_core.specs.Syntax.{Definitions, NoDefinitions, MoreDefinitions}
use Rattle.hy_core.specs.declared.tree.Function.{Function}
use Rattle.hy_core.specs.declared.tree.Module.{Module}
use Rattle.lifted_syntax.specs.LiftedSyntax.{count, count_all, count_clauses, count_definitions}

abbrev pub modules_functions : List Module → List Function
modules_functions [] = []
modules_functions (m ∷ ms) = m.functions ++ modules_functions ms

-- atoms: the table of the program
module _ (atoms : List (List ℕ)) where
  abbrev mutual
    -- owner: the function around; n: the number of the first function of a letrec in the text
    pub written_owners : (owner n : ℕ) → Syntax → List ℕ
    written_owners k n (s.Tuple site es) = all_written_owners k n es
    written_owners k n (s.ListOf site es e) =
        all_written_owners k n es ++ written_owners k (n + count_all es) e
    written_owners k n (s.Values es) = all_written_owners k n es
    written_owners k n (s.Let xs e b) = written_owners k n e ++ written_owners k (n + count e) b
    written_owners k n (s.Do e b) = written_owners k n e ++ written_owners k (n + count e) b
    written_owners k n (s.Case e cs) =
        written_owners k n e ++ clauses_written_owners k (n + count e) cs
    written_owners k n (s.Letrec fs e) =
        definitions_written_owners n fs ++ written_owners k (n + count_definitions fs) e
    written_owners k n (s.Apply e es) = written_owners k n e ++ all_written_owners k n es
    written_owners k n (s.Call m f es) =
        (if is_event atoms (s.Call m f es) then k ∷ [] else [])
        ++ (written_owners k n m ++ (written_owners k n f ++ all_written_owners k n es))
    written_owners k n (s.Primop a es) = all_written_owners k n es
    written_owners k n (s.Receive cs t e) =
        clauses_written_owners k n cs
        ++ (written_owners k n t ++ written_owners k (n + count_clauses cs) e)
    written_owners k n (s.Try e xs b ys c) =
        written_owners k n e ++ (written_owners k n b ++ written_owners k n c)
    written_owners k n (s.Catch e) = written_owners k n e
    written_owners k n (s.Fun xs e) = written_owners k n e
    written_owners k n _ = []

    pub all_written_owners : (owner n : ℕ) → Syntaxes → List ℕ
    all_written_owners k n NoSyntax = []
    all_written_owners k n (MoreSyntax e es) =
        written_owners k n e ++ all_written_owners k (n + count e) es

    pub clauses_written_owners : (owner n : ℕ) → Clauses → List ℕ
    clauses_written_owners k n NoClauses = []
    clauses_written_owners k n (MoreClauses ps g b cs) =
        written_owners k n g
        ++ (written_owners k (n + count g) b
        ++ clauses_written_owners k (n + count g + count b) cs)

    -- the first of the functions has the number n
    pub definitions_written_owners : (n : ℕ) → Definitions → List ℕ
    definitions_written_owners n NoDefinitions = []
    definitions_written_owners n (MoreDefinitions f xs b fs) =
        written_owners n (suc n) b ++ definitions_written_owners (suc (n + count b)) fs

  -- of functions of modules, of which the first has the number k
  abbrev pub functions_written_owners : (k n : ℕ) → List Function → List ℕ
  functions_written_owners k n [] = []
  functions_written_owners k n (f ∷ fs) =
      written_owners k n (syntax_of f.body)
      ++ functions_written_owners (suc k) (n + count (syntax_of f.body)) fs

  -- those of a program
  abbrev pub program_written_owners : List Module → List ℕ
  program_written_owners ms =
      functions_written_owners 0 (function_count ms) (modules_functions ms)
