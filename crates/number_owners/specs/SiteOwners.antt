-- The function in which each site of a program stands, in the order of the text: a function of a
-- letrec has a number of its own. This project's own.
use Rattle.std.specs.Prelude.{ℕ, suc, ◌+◌, List, [], ◌∷◌, ◌++◌, length, replicate}
use Rattle.hy_core.specs.Resolved as r
use Rattle.hy_core.specs.Resolved.{Head, Expression, Expressions, NoExpressions, MoreExpressions}
use Rattle.hy_core.specs.Resolved.{Clauses, NoClauses, MoreClauses}
use Rattle.hy_core.specs.Resolved.{Functions, NoFunctions, MoreFunctions, FunctionTree}
use Rattle.hy_core.specs.Supplied.{expression_count}
use Rattle.lifted_program.specs.LetrecNumbers.{count, count_all, count_clauses, count_functions}

abbrev pub head_owners : (owner : ℕ) → Head → List ℕ
head_owners k (r.Setelement site) = k ∷ []
head_owners k _ = []

abbrev mutual
  -- owner: the function around; n: the number of the first function of a letrec in the expression
  pub owners : (owner n : ℕ) → Expression → List ℕ
  owners k n (r.Text site text) = k ∷ []
  owners k n (r.Tuple site es) = k ∷ all_owners k n es
  owners k n (r.ListOf site es e) =
      replicate (expression_count es) k ++ (all_owners k n es ++ owners k (n + count_all es) e)
  owners k n (r.Values es) = all_owners k n es
  owners k n (r.Let xs e b) = owners k n e ++ owners k (n + count e) b
  owners k n (r.Do e b) = owners k n e ++ owners k (n + count e) b
  owners k n (r.Case e cs) = owners k n e ++ clauses_owners k (n + count e) cs
  owners k n (r.Letrec fs e) = functions_owners n fs ++ owners k (n + count_functions fs) e
  owners k n (r.Call head es) = head_owners k head ++ all_owners k n es
  owners k n (r.Receive cs timeout e) =
      clauses_owners k n cs ++ owners k (n + count_clauses cs) e
  owners k n _ = []

  pub all_owners : (owner n : ℕ) → Expressions → List ℕ
  all_owners k n NoExpressions = []
  all_owners k n (MoreExpressions e es) = owners k n e ++ all_owners k (n + count e) es

  pub clauses_owners : (owner n : ℕ) → Clauses → List ℕ
  clauses_owners k n NoClauses = []
  clauses_owners k n (MoreClauses ps g b cs) =
      owners k n g
      ++ (owners k (n + count g) b ++ clauses_owners k (n + count g + count b) cs)

  -- the first of the functions has the number n
  pub functions_owners : (n : ℕ) → Functions → List ℕ
  functions_owners n NoFunctions = []
  functions_owners n (MoreFunctions f xs b fs) =
      owners n (suc n) b ++ functions_owners (suc (n + count b)) fs

-- those of functions of modules, of which the first has the number k
abbrev pub owners_from : (k n : ℕ) → List FunctionTree → List ℕ
owners_from k n [] = []
owners_from k n (f ∷ fs) = owners k n f.body ++ owners_from (suc k) (n + count f.body) fs

abbrev pub program_owners : List FunctionTree → List ℕ
program_owners program = owners_from 0 (length program) program
