-- Which variables a function of a letrec captures: those that are free in it, or in a function that
-- it applies, and so on. It is said of programs in which no binding stands in the scope of another
-- of its variable: there a variable that is in scope of the letrec and occurs in the function is
-- free in it. After T. Johnsson's lambda lifting (1985).
use Rattle.std.specs.Prelude.{◌≡◌, ℕ, suc, ◌+◌, ◌==◌, List, [], ◌∷◌, ◌++◌, length, Option, Some}
use Rattle.std.specs.Prelude.{None, true, slice_get}
use Rattle.std.specs.List.{Contains, IsDistinct}
use Rattle.hy_core.specs.Resolved as r
use Rattle.hy_core.specs.Resolved.{Head, Expression, Expressions, NoExpressions, MoreExpressions}
use Rattle.hy_core.specs.Resolved.{Clauses, NoClauses, MoreClauses}
use Rattle.hy_core.specs.Resolved.{Functions, NoFunctions, MoreFunctions, FunctionTree}
use Rattle.hy_core.specs.Scopes.{Scope, is_bound, with_variables, with_patterns}
use Rattle.lifted_program.specs.LetrecNumbers.{Reach, reach_of, number_in}
use Rattle.lifted_program.specs.LetrecNumbers.{count, count_all, count_clauses, count_functions}

-- what an expression uses: a variable, or a function of a letrec by its number
pub data Use : Type 0 where
  OfVariable : ℕ → Use
  OfFunction : ℕ → Use

abbrev pub use_of : Option ℕ → List Use
use_of None = []
use_of (Some k) = OfFunction k ∷ []

abbrev pub head_uses : Reach → Head → List Use
head_uses reach (r.Local f) = use_of (number_in reach f)
head_uses reach _ = []

-- the variables that occur in an expression and the functions of letrecs that it applies, in the
-- functions that are defined in it too; n: the number of the first of these
abbrev mutual
  pub uses : Reach → (n : ℕ) → Expression → List Use
  uses reach n (r.Variable x) = OfVariable x ∷ []
  uses reach n (r.Tuple site es) = uses_all reach n es
  uses reach n (r.ListOf site es e) = uses_all reach n es ++ uses reach (n + count_all es) e
  uses reach n (r.Values es) = uses_all reach n es
  uses reach n (r.Let xs e b) = uses reach n e ++ uses reach (n + count e) b
  uses reach n (r.Do e b) = uses reach n e ++ uses reach (n + count e) b
  uses reach n (r.Case e cs) = uses reach n e ++ uses_clauses reach (n + count e) cs
  uses reach n (r.Letrec fs e) =
      let inside = reach_of n fs ++ reach in
      uses_functions inside n fs ++ uses inside (n + count_functions fs) e
  uses reach n (r.Call head es) = head_uses reach head ++ uses_all reach n es
  uses reach n (r.Receive cs timeout e) =
      uses_clauses reach n cs ++ uses reach (n + count_clauses cs) e
  uses reach n _ = []

  pub uses_all : Reach → (n : ℕ) → Expressions → List Use
  uses_all reach n NoExpressions = []
  uses_all reach n (MoreExpressions e es) = uses reach n e ++ uses_all reach (n + count e) es

  pub uses_clauses : Reach → (n : ℕ) → Clauses → List Use
  uses_clauses reach n NoClauses = []
  uses_clauses reach n (MoreClauses ps g b cs) =
      uses reach n g
      ++ (uses reach (n + count g) b ++ uses_clauses reach (n + count g + count b) cs)

  pub uses_functions : Reach → (n : ℕ) → Functions → List Use
  uses_functions reach n NoFunctions = []
  uses_functions reach n (MoreFunctions f xs b fs) =
      uses reach (suc n) b ++ uses_functions reach (suc (n + count b)) fs

-- a function of a letrec where it stands: the variables in scope of its letrec, and what its text
-- uses
pub record Definition : Type 0 where
  pub scope : Scope
  pub uses : List Use

-- the functions of letrecs in an expression, in the order of their numbers
abbrev mutual
  pub definitions : Scope → Reach → (n : ℕ) → Expression → List Definition
  definitions scope reach n (r.Tuple site es) = definitions_all scope reach n es
  definitions scope reach n (r.ListOf site es e) =
      definitions_all scope reach n es ++ definitions scope reach (n + count_all es) e
  definitions scope reach n (r.Values es) = definitions_all scope reach n es
  definitions scope reach n (r.Let xs e b) =
      definitions scope reach n e ++ definitions (with_variables scope xs) reach (n + count e) b
  definitions scope reach n (r.Do e b) =
      definitions scope reach n e ++ definitions scope reach (n + count e) b
  definitions scope reach n (r.Case e cs) =
      definitions scope reach n e ++ definitions_clauses scope reach (n + count e) cs
  definitions scope reach n (r.Letrec fs e) =
      let inside = reach_of n fs ++ reach in
      definitions_functions scope inside n fs ++ definitions scope inside (n + count_functions fs) e
  definitions scope reach n (r.Call head es) = definitions_all scope reach n es
  definitions scope reach n (r.Receive cs timeout e) =
      definitions_clauses scope reach n cs ++ definitions scope reach (n + count_clauses cs) e
  definitions scope reach n _ = []

  pub definitions_all : Scope → Reach → (n : ℕ) → Expressions → List Definition
  definitions_all scope reach n NoExpressions = []
  definitions_all scope reach n (MoreExpressions e es) =
      definitions scope reach n e ++ definitions_all scope reach (n + count e) es

  pub definitions_clauses : Scope → Reach → (n : ℕ) → Clauses → List Definition
  definitions_clauses scope reach n NoClauses = []
  definitions_clauses scope reach n (MoreClauses ps g b cs) =
      let inside = with_patterns scope ps in
      definitions inside reach n g
      ++ (definitions inside reach (n + count g) b
      ++ definitions_clauses scope reach (n + count g + count b) cs)

  pub definitions_functions : Scope → Reach → (n : ℕ) → Functions → List Definition
  definitions_functions scope reach n NoFunctions = []
  definitions_functions scope reach n (MoreFunctions f xs b fs) =
      record { scope = scope; uses = uses reach (suc n) b }
      ∷ (definitions (with_variables scope xs) reach (suc n) b
      ++ definitions_functions scope reach (suc (n + count b)) fs)

-- those of a program; n: the number of the first
abbrev pub definitions_of : (n : ℕ) → List FunctionTree → List Definition
definitions_of n [] = []
definitions_of n (f ∷ fs) =
    definitions (with_variables [] f.parameters) [] n f.body ++ definitions_of (n + count f.body) fs

-- the functions of letrecs have the numbers behind those of the functions of modules
module _ (program : List FunctionTree) where
  -- the function of this number is defined so
  abbrev pub IsDefined : (function : ℕ) → Definition → Type 0
  IsDefined f d =
      (k : ℕ) × (f ≡ length program + k)
      × (slice_get (definitions_of (length program) program) k ≡ Some d)

  -- the least family: a variable in scope of a letrec is free in a function of it where it occurs
  -- in its text, or is free in a function that its text applies
  pub data IsFree : (function variable : ℕ) → Type 0 where
    occurs : {f x : ℕ} (d : Definition) → IsDefined f d → is_bound x d.scope ≡ true
        → Contains d.uses (OfVariable x) → IsFree f x
    passed : {f x : ℕ} (d : Definition) (g : ℕ) → IsDefined f d → is_bound x d.scope ≡ true
        → Contains d.uses (OfFunction g) → IsFree g x → IsFree f x

  -- the variables that each function captures are its free ones, each once, in any order
  pub record AreCaptured (captured : (function : ℕ) → List ℕ) : Type 0 where
    pub free : (f x : ℕ) → Contains (captured f) x → IsFree f x
    pub all : (f x : ℕ) → IsFree f x → Contains (captured f) x
    pub once : (f : ℕ) → IsDistinct ◌==◌ (captured f)
