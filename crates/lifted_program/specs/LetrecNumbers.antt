-- How the functions of letrecs are numbered: in the order in which their definitions begin, over
-- the whole program. This project's own.
use Rattle.std.specs.Prelude.{ℕ, suc, ◌+◌, List, [], ◌∷◌, Option, Some, None, if◌then◌else◌}
use Rattle.hy_core.specs.declared.tree.FunName.{FunName}
use Rattle.hy_core.specs.Resolved as r
use Rattle.hy_core.specs.Resolved.{Expression, Expressions, NoExpressions, MoreExpressions, is_name}
use Rattle.hy_core.specs.Resolved.{Clauses, NoClauses, MoreClauses}
use Rattle.hy_core.specs.Resolved.{Functions, NoFunctions, MoreFunctions}

-- how many functions of letrecs stand in an expression
abbrev mutual
  pub count : Expression → ℕ
  count (r.Tuple site es) = count_all es
  count (r.ListOf site es e) = count_all es + count e
  count (r.Values es) = count_all es
  count (r.Let xs e b) = count e + count b
  count (r.Do e b) = count e + count b
  count (r.Case e cs) = count e + count_clauses cs
  count (r.Letrec fs e) = count_functions fs + count e
  count (r.Call head es) = count_all es
  count (r.Receive cs timeout e) = count_clauses cs + count e
  count _ = 0

  pub count_all : Expressions → ℕ
  count_all NoExpressions = 0
  count_all (MoreExpressions e es) = count e + count_all es

  pub count_clauses : Clauses → ℕ
  count_clauses NoClauses = 0
  count_clauses (MoreClauses ps g b cs) = count g + (count b + count_clauses cs)

  pub count_functions : Functions → ℕ
  count_functions NoFunctions = 0
  count_functions (MoreFunctions f xs b fs) = suc (count b + count_functions fs)

-- the functions of the letrecs around, the innermost first, with their numbers
abbrev pub Reach : Type 0
Reach = List (FunName × ℕ)

-- the functions of a letrec, of which the first has the number n
abbrev pub reach_of : (n : ℕ) → Functions → Reach
reach_of n NoFunctions = []
reach_of n (MoreFunctions f xs b fs) = (f, n) ∷ reach_of (suc (n + count b)) fs

-- the number of the innermost one of this name
abbrev pub number_in : Reach → FunName → Option ℕ
number_in [] f = None
number_in (g ∷ reach) f = if is_name g.0 f then Some g.1 else number_in reach f
