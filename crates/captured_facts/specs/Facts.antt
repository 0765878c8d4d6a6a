-- What a program says of the functions of its letrecs: which variables occur in them, and whom they
-- use. A function uses those that its own text applies and those that are defined in it, whose
-- texts are parts of its text. This project's own.
use Rattle.std.specs.Prelude.{ℕ, suc, ◌+◌, ◌==◌, ◌&&◌, nat_le, nat_lt, List, [], ◌∷◌, ◌++◌, length}
use Rattle.std.specs.Prelude.{Option, Some, None, if◌then◌else◌}
use Rattle.hy_core.specs.Resolved as r
use Rattle.hy_core.specs.Resolved.{Head, Expression, Expressions, NoExpressions, MoreExpressions}
use Rattle.hy_core.specs.Resolved.{Clauses, NoClauses, MoreClauses}
use Rattle.hy_core.specs.Resolved.{Functions, NoFunctions, MoreFunctions, FunctionTree}
use Rattle.hy_core.specs.Scopes.{Scope, with_variables, with_patterns}
use Rattle.capture_flow.specs.declared.fact.Fact.{Fact}
use Rattle.capture_flow.specs.declared.fact.Fact.TheVariants.{Occurs, Uses}
use Rattle.captured_facts.specs.declared.owner.Owner.{Owner}
use Rattle.lifted_program.specs.LetrecNumbers.{Reach, reach_of, number_in}
use Rattle.lifted_program.specs.LetrecNumbers.{count, count_all, count_clauses, count_functions}

-- the place of a variable in the scope around, or else its own
abbrev pub place_by : (around own : ℕ) → ℕ
place_by around own = if nat_lt 0 around then around else own

-- the place of the outermost binding of a variable in a scope, counted from 1, or 0
abbrev pub first_place : Scope → ℕ → ℕ
first_place [] x = 0
first_place (y ∷ scope) x =
    place_by (first_place scope x) (if x == y then suc (length scope) else 0)

-- a variable occurs in the text of a function, in whose scope its place is
abbrev pub occurring : Owner → (variable place : ℕ) → List Fact
occurring o x p =
    if nat_lt 0 p && nat_le p o.depth
    then Occurs (record { function = o.function; variable = x; place = p }) ∷ []
    else []

-- a function with nothing in scope has nothing by those that it uses
abbrev pub using : Owner → (used : ℕ) → List Fact
using o g =
    if nat_lt 0 o.depth
    then Uses (record { function = o.function; used = g; depth = o.depth }) ∷ []
    else []

abbrev pub using_some : Owner → Option ℕ → List Fact
using_some o None = []
using_some o (Some g) = using o g

abbrev pub head_facts : Owner → Reach → Head → List Fact
head_facts o reach (r.Local f) = using_some o (number_in reach f)
head_facts o reach _ = []

-- o: the function around an expression; n: the number of the first function of a letrec in it
abbrev mutual
  pub facts : Owner → Scope → Reach → (n : ℕ) → Expression → List Fact
  facts o scope reach n (r.Variable x) = occurring o x (first_place scope x)
  facts o scope reach n (r.Tuple site es) = facts_all o scope reach n es
  facts o scope reach n (r.ListOf site es e) =
      facts_all o scope reach n es ++ facts o scope reach (n + count_all es) e
  facts o scope reach n (r.Values es) = facts_all o scope reach n es
  facts o scope reach n (r.Let xs e b) =
      facts o scope reach n e ++ facts o (with_variables scope xs) reach (n + count e) b
  facts o scope reach n (r.Do e b) =
      facts o scope reach n e ++ facts o scope reach (n + count e) b
  facts o scope reach n (r.Case e cs) =
      facts o scope reach n e ++ facts_clauses o scope reach (n + count e) cs
  facts o scope reach n (r.Letrec fs e) =
      let inside = reach_of n fs ++ reach in
      facts_functions o scope inside n fs ++ facts o scope inside (n + count_functions fs) e
  facts o scope reach n (r.Call head es) =
      head_facts o reach head ++ facts_all o scope reach n es
  facts o scope reach n (r.Receive cs timeout e) =
      facts_clauses o scope reach n cs ++ facts o scope reach (n + count_clauses cs) e
  facts o scope reach n _ = []

  pub facts_all : Owner → Scope → Reach → (n : ℕ) → Expressions → List Fact
  facts_all o scope reach n NoExpressions = []
  facts_all o scope reach n (MoreExpressions e es) =
      facts o scope reach n e ++ facts_all o scope reach (n + count e) es

  pub facts_clauses : Owner → Scope → Reach → (n : ℕ) → Clauses → List Fact
  facts_clauses o scope reach n NoClauses = []
  facts_clauses o scope reach n (MoreClauses ps g b cs) =
      let inside = with_patterns scope ps in
      facts o inside reach n g
      ++ (facts o inside reach (n + count g) b
      ++ facts_clauses o scope reach (n + count g + count b) cs)

  pub facts_functions : Owner → Scope → Reach → (n : ℕ) → Functions → List Fact
  facts_functions o scope reach n NoFunctions = []
  facts_functions o scope reach n (MoreFunctions f xs b fs) =
      let inner : Owner = record { function = n; depth = length scope } in
      using o n
      ++ (facts inner (with_variables scope xs) reach (suc n) b
      ++ facts_functions o scope reach (suc (n + count b)) fs)

-- a function of a module, which has nothing in scope
abbrev pub outermost : Owner
outermost = record { function = 0; depth = 0 }

-- those of a program; n: the number of the first function of a letrec
abbrev pub facts_of : (n : ℕ) → List FunctionTree → List Fact
facts_of n [] = []
facts_of n (f ∷ fs) =
    facts outermost (with_variables [] f.parameters) [] n f.body
    ++ facts_of (n + count f.body) fs
