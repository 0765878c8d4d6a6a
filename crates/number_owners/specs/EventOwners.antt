-- The function in which each event of a program stands, in the order of the text: a function of a
-- letrec has a number of its own. This project's own.
use Rattle.std.specs.Prelude.{ℕ, suc, ◌+◌, List, [], ◌∷◌, ◌++◌, length}
use Rattle.hy_core.specs.Resolved as r
use Rattle.hy_core.specs.Resolved.{Head, Expression, Expressions, NoExpressions, MoreExpressions}
use Rattle.hy_core.specs.Resolved.{Clauses, NoClauses, MoreClauses}
use Rattle.hy_core.specs.Resolved.{Functions, NoFunctions, MoreFunctions, FunctionTree}
use Rattle.lifted_numbers.specs.TreeNumbers.{numbers}
use Rattle.lifted_program.specs.LetrecNumbers.{count, count_all, count_clauses, count_functions}

abbrev pub head_event_owners : (owner : ℕ) → Head → List ℕ
head_event_owners k (r.Send node) = k ∷ []
head_event_owners k (r.Spawn node function) = k ∷ []
head_event_owners k (r.Display node) = k ∷ []
head_event_owners k _ = []

abbrev mutual
  -- owner: the function around; n: the number of the first function of a letrec in the expression
  pub event_owners : (owner n : ℕ) → Expression → List ℕ
  event_owners k n (r.Tuple site es) = all_event_owners k n es
  event_owners k n (r.ListOf site es e) =
      all_event_owners k n es ++ event_owners k (n + count_all es) e
  event_owners k n (r.Values es) = all_event_owners k n es
  event_owners k n (r.Let xs e b) = event_owners k n e ++ event_owners k (n + count e) b
  event_owners k n (r.Do e b) = event_owners k n e ++ event_owners k (n + count e) b
  event_owners k n (r.Case e cs) = event_owners k n e ++ clauses_event_owners k (n + count e) cs
  event_owners k n (r.Letrec fs e) =
      functions_event_owners n fs ++ event_owners k (n + count_functions fs) e
  event_owners k n (r.Call head es) = head_event_owners k head ++ all_event_owners k n es
  event_owners k n (r.Receive cs timeout e) =
      clauses_event_owners k n cs ++ event_owners k (n + count_clauses cs) e
  event_owners k n _ = []

  pub all_event_owners : (owner n : ℕ) → Expressions → List ℕ
  all_event_owners k n NoExpressions = []
  all_event_owners k n (MoreExpressions e es) =
      event_owners k n e ++ all_event_owners k (n + count e) es

  pub clauses_event_owners : (owner n : ℕ) → Clauses → List ℕ
  clauses_event_owners k n NoClauses = []
  clauses_event_owners k n (MoreClauses ps g b cs) =
      event_owners k n g
      ++ (event_owners k (n + count g) b
      ++ clauses_event_owners k (n + count g + count b) cs)

  -- the first of the functions has the number n
  pub functions_event_owners : (n : ℕ) → Functions → List ℕ
  functions_event_owners n NoFunctions = []
  functions_event_owners n (MoreFunctions f xs b fs) =
      event_owners n (suc n) b ++ functions_event_owners (suc (n + count b)) fs

-- those of functions of modules, of which the first has the number k
abbrev pub event_owners_from : (k n : ℕ) → List FunctionTree → List ℕ
event_owners_from k n [] = []
event_owners_from k n (f ∷ fs) =
    event_owners k n f.body ++ event_owners_from (suc k) (n + count f.body) fs

abbrev pub program_event_owners : List FunctionTree → List ℕ
program_event_owners program = event_owners_from 0 (length program) program

-- the nodes of the events, in the same order
abbrev pub program_events : List FunctionTree → List ℕ
program_events [] = []
program_events (f ∷ fs) = (numbers f.body).events ++ program_events fs
