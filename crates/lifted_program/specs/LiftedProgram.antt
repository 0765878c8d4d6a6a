-- A program with its functions of letrecs lifted: each becomes a function of the program that takes
-- the variables that it captured, and then its own parameters. This project's own, after T.
-- Johnsson's lambda lifting (1985).
use Rattle.std.specs.Prelude.{ℕ, suc, ◌+◌, List, [], ◌∷◌, ◌++◌, length, Option, Some, None}
use Rattle.hy_core.specs.Resolved as r
use Rattle.hy_core.specs.Resolved.{Head, Expression, Expressions, NoExpressions, MoreExpressions}
use Rattle.hy_core.specs.Resolved.{Clauses, NoClauses, MoreClauses}
use Rattle.hy_core.specs.Resolved.{Functions, NoFunctions, MoreFunctions, FunctionTree}
use Rattle.lifted_program.specs.LetrecNumbers.{Reach, reach_of, number_in}
use Rattle.lifted_program.specs.LetrecNumbers.{count, count_all, count_clauses, count_functions}

-- variables as arguments before others
abbrev pub passing : List ℕ → Expressions → Expressions
passing [] es = es
passing (x ∷ xs) es = MoreExpressions (r.Variable x) (passing xs es)

-- captured: the variables that each function of a letrec captures, in the order in which they are
-- passed
module _ (captured : (function : ℕ) → List ℕ) where
  -- a call of a function of a letrec passes what it captured, and then its arguments
  abbrev pub call_lifted : Option ℕ → Expressions → Expression
  call_lifted None es = r.Refused
  call_lifted (Some k) es = r.Call (r.Function k) (passing (captured k) es)

  abbrev pub call_of : Reach → Head → Expressions → Expression
  call_of reach (r.Local f) es = call_lifted (number_in reach f) es
  call_of reach head es = r.Call head es

  abbrev mutual
    -- an expression with its letrecs lifted; n: the number of the first function of a letrec in it
    pub lifted : Reach → (n : ℕ) → Expression → Expression
    lifted reach n (r.Tuple site es) = r.Tuple site (lifted_all reach n es)
    lifted reach n (r.ListOf site es e) =
        r.ListOf site (lifted_all reach n es) (lifted reach (n + count_all es) e)
    lifted reach n (r.Values es) = r.Values (lifted_all reach n es)
    lifted reach n (r.Let xs e b) = r.Let xs (lifted reach n e) (lifted reach (n + count e) b)
    lifted reach n (r.Do e b) = r.Do (lifted reach n e) (lifted reach (n + count e) b)
    lifted reach n (r.Case e cs) =
        r.Case (lifted reach n e) (lifted_clauses reach (n + count e) cs)
    -- a letrec becomes its body
    lifted reach n (r.Letrec fs e) =
        lifted (reach_of n fs ++ reach) (n + count_functions fs) e
    lifted reach n (r.Call head es) = call_of reach head (lifted_all reach n es)
    lifted reach n (r.Receive cs timeout e) =
        r.Receive (lifted_clauses reach n cs) timeout (lifted reach (n + count_clauses cs) e)
    lifted reach n e = e

    pub lifted_all : Reach → (n : ℕ) → Expressions → Expressions
    lifted_all reach n NoExpressions = NoExpressions
    lifted_all reach n (MoreExpressions e es) =
        MoreExpressions (lifted reach n e) (lifted_all reach (n + count e) es)

    pub lifted_clauses : Reach → (n : ℕ) → Clauses → Clauses
    lifted_clauses reach n NoClauses = NoClauses
    lifted_clauses reach n (MoreClauses ps g b cs) =
        MoreClauses ps (lifted reach n g) (lifted reach (n + count g) b)
        (lifted_clauses reach (n + count g + count b) cs)

  abbrev mutual
    -- the functions of letrecs in an expression as functions of the program, in the order of their
    -- numbers
    pub extracted : Reach → (n : ℕ) → Expression → List FunctionTree
    extracted reach n (r.Tuple site es) = extracted_all reach n es
    extracted reach n (r.ListOf site es e) =
        extracted_all reach n es ++ extracted reach (n + count_all es) e
    extracted reach n (r.Values es) = extracted_all reach n es
    extracted reach n (r.Let xs e b) = extracted reach n e ++ extracted reach (n + count e) b
    extracted reach n (r.Do e b) = extracted reach n e ++ extracted reach (n + count e) b
    extracted reach n (r.Case e cs) =
        extracted reach n e ++ extracted_clauses reach (n + count e) cs
    extracted reach n (r.Letrec fs e) =
        let inside = reach_of n fs ++ reach in
        extracted_functions inside n fs ++ extracted inside (n + count_functions fs) e
    extracted reach n (r.Call head es) = extracted_all reach n es
    extracted reach n (r.Receive cs timeout e) =
        extracted_clauses reach n cs ++ extracted reach (n + count_clauses cs) e
    extracted reach n _ = []

    pub extracted_all : Reach → (n : ℕ) → Expressions → List FunctionTree
    extracted_all reach n NoExpressions = []
    extracted_all reach n (MoreExpressions e es) =
        extracted reach n e ++ extracted_all reach (n + count e) es

    pub extracted_clauses : Reach → (n : ℕ) → Clauses → List FunctionTree
    extracted_clauses reach n NoClauses = []
    extracted_clauses reach n (MoreClauses ps g b cs) =
        extracted reach n g
        ++ (extracted reach (n + count g) b
        ++ extracted_clauses reach (n + count g + count b) cs)

    -- what a function captured comes before its parameters
    pub extracted_functions : Reach → (n : ℕ) → Functions → List FunctionTree
    extracted_functions reach n NoFunctions = []
    extracted_functions reach n (MoreFunctions f xs b fs) =
        record { parameters = captured n ++ xs; body = lifted reach (suc n) b }
        ∷ (extracted reach (suc n) b ++ extracted_functions reach (suc (n + count b)) fs)

  -- the functions of modules
  abbrev pub lifted_tops : (n : ℕ) → List FunctionTree → List FunctionTree
  lifted_tops n [] = []
  lifted_tops n (f ∷ fs) =
      record { parameters = f.parameters; body = lifted [] n f.body }
      ∷ lifted_tops (n + count f.body) fs

  -- and the functions of letrecs in them
  abbrev pub extracted_program : (n : ℕ) → List FunctionTree → List FunctionTree
  extracted_program n [] = []
  extracted_program n (f ∷ fs) =
      extracted [] n f.body ++ extracted_program (n + count f.body) fs

  -- the first come first
  abbrev pub lifted_program : List FunctionTree → List FunctionTree
  lifted_program program =
      lifted_tops (length program) program ++ extracted_program (length program) program
