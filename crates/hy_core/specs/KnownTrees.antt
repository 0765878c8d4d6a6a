-- Trees of which all that a later pass needs is known: variables are bound, what is called is there
-- and takes as many arguments as it is given, each part gives as many values as its place needs,
-- guards are of the forms of guards, and none is refused. The trees of an accepted program are
-- such. This project's own.
use Rattle.std.specs.Prelude.{◌≡◌, ℕ, suc, List, [], ◌∷◌, ◌++◌, length, map, Some, true, slice_get}
use Rattle.std.specs.List.{All}
use Rattle.hy_terms.specs.Term.{Term}
use Rattle.hy_core.specs.BuiltIn.{NoAnswer, answer}
use Rattle.hy_core.specs.Resolve.{is_local}
use Rattle.hy_core.specs.Resolved as r
use Rattle.hy_core.specs.Resolved.{Head, Patterns, NoPatterns, MorePatterns, Expression, Expressions, NoExpressions, MoreExpressions, Clauses, NoClauses, MoreClauses, Functions, NoFunctions, MoreFunctions, FunctionTree}
use Rattle.hy_core.specs.Scopes.{Scope, is_bound, with_variables, with_patterns}
use Rattle.hy_core.specs.Supplied.{expression_count}
use Rattle.hy_core.specs.declared.bif.Bif.{Bif}
use Rattle.hy_core.specs.declared.tree.FunName.{FunName}

-- the functions that a letrec defines
abbrev pub defined : Functions → List FunName
defined NoFunctions = []
defined (MoreFunctions f xs body fs) = f ∷ defined fs

abbrev pub pattern_count : Patterns → ℕ
pattern_count NoPatterns = 0
pattern_count (MorePatterns p ps) = suc (pattern_count ps)

-- how many values the clauses of a `case` are for: as many as the first has patterns
abbrev pub width : Clauses → ℕ
width NoClauses = 0
width (MoreClauses ps guard body cs) = pattern_count ps

-- the built-in has an answer for each list of so many arguments
abbrev pub Answers : Bif → (arguments : ℕ) → Type 0
Answers b n =
    (atoms : List (List ℕ)) (pid : ℕ) (ts : List Term) → length ts ≡ n
    → answer atoms pid b ts ≡ NoAnswer → ⊥

abbrev mutual
  -- an expression of the forms of guards
  pub HasGuardForms : Expression → Type 0
  HasGuardForms (r.Int n) = Unit {0}
  HasGuardForms (r.Atom a) = Unit {0}
  HasGuardForms r.Nil = Unit {0}
  HasGuardForms (r.Variable x) = Unit {0}
  HasGuardForms (r.Let xs e b) = HasGuardForms e × HasGuardForms b
  HasGuardForms (r.Call (r.BuiltIn b) es) = HaveGuardForms es
  HasGuardForms _ = ⊥

  pub HaveGuardForms : Expressions → Type 0
  HaveGuardForms NoExpressions = Unit {0}
  HaveGuardForms (MoreExpressions e es) = HasGuardForms e × HaveGuardForms es

-- arities: how many arguments each function of the modules takes, by its number
module _ (arities : List ℕ) where
  abbrev pub Takes : (function arguments : ℕ) → Type 0
  Takes f n = slice_get arities f ≡ Some n

  -- what is called is there, and takes so many arguments
  abbrev pub IsCallable : (locals : List FunName) → (arguments : ℕ) → Head → Type 0
  IsCallable locals n (r.BuiltIn b) = Answers b n
  IsCallable locals n (r.Function f) = Takes f n
  IsCallable locals n (r.Local f) = (is_local f locals ≡ true) × (f.arity ≡ n)
  IsCallable locals n (r.Setelement site) = n ≡ 3
  IsCallable locals n (r.Send node) = n ≡ 2
  IsCallable locals n (r.Spawn node f) = Takes f n
  IsCallable locals n (r.Display node) = n ≡ 1
  IsCallable locals n (r.Raising class) = n ≡ 1
  IsCallable locals n r.MatchFail = n ≡ 1

  -- a call gives one value; `match_fail` stands at any place
  abbrev pub GivesAsNeeded : (needs : ℕ) → Head → Type 0
  GivesAsNeeded needs r.MatchFail = Unit {0}
  GivesAsNeeded needs _ = needs ≡ 1

  abbrev mutual
    -- in this scope, under these functions of letrecs, at a place for so many values
    pub IsKnown : Scope → (locals : List FunName) → (needs : ℕ) → Expression → Type 0
    IsKnown scope locals needs (r.Int n) = needs ≡ 1
    IsKnown scope locals needs (r.Atom a) = needs ≡ 1
    IsKnown scope locals needs r.Nil = needs ≡ 1
    IsKnown scope locals needs (r.Text site text) = needs ≡ 1
    IsKnown scope locals needs (r.Variable x) = (needs ≡ 1) × (is_bound x scope ≡ true)
    IsKnown scope locals needs (r.Tuple site es) = (needs ≡ 1) × AreKnown scope locals es
    IsKnown scope locals needs (r.ListOf site es e) =
        (needs ≡ 1) × AreKnown scope locals es × IsKnown scope locals 1 e
    IsKnown scope locals needs (r.Values es) =
        (needs ≡ expression_count es) × AreKnown scope locals es
    IsKnown scope locals needs (r.Let xs e b) =
        IsKnown scope locals (length xs) e × IsKnown (with_variables scope xs) locals needs b
    IsKnown scope locals needs (r.Do e b) = IsKnown scope locals 1 e × IsKnown scope locals needs b
    IsKnown scope locals needs (r.Case e cs) =
        IsKnown scope locals (width cs) e × ClausesAreKnown scope locals (width cs) needs cs
    IsKnown scope locals needs (r.Letrec fs e) =
        let inside = defined fs ++ locals in
        FunctionsAreKnown scope inside fs × IsKnown scope inside needs e
    IsKnown scope locals needs (r.Call head es) =
        GivesAsNeeded needs head × IsCallable locals (expression_count es) head
        × AreKnown scope locals es
    IsKnown scope locals needs (r.Receive cs timeout e) =
        ClausesAreKnown scope locals 1 needs cs × IsKnown scope locals needs e
    IsKnown scope locals needs r.Refused = ⊥

    -- parts, each for one value
    pub AreKnown : Scope → List FunName → Expressions → Type 0
    AreKnown scope locals NoExpressions = Unit {0}
    AreKnown scope locals (MoreExpressions e es) =
        IsKnown scope locals 1 e × AreKnown scope locals es

    -- clauses for so many values
    pub ClausesAreKnown : Scope → List FunName → (values needs : ℕ) → Clauses → Type 0
    ClausesAreKnown scope locals values needs NoClauses = Unit {0}
    ClausesAreKnown scope locals values needs (MoreClauses ps guard body cs) =
        let inside = with_patterns scope ps in
        (pattern_count ps ≡ values) × HasGuardForms guard × IsKnown inside locals 1 guard
        × IsKnown inside locals needs body × ClausesAreKnown scope locals values needs cs

    -- the functions of a letrec
    pub FunctionsAreKnown : Scope → List FunName → Functions → Type 0
    FunctionsAreKnown scope locals NoFunctions = Unit {0}
    FunctionsAreKnown scope locals (MoreFunctions f xs body fs) =
        (length xs ≡ f.arity) × IsKnown (with_variables scope xs) locals 1 body
        × FunctionsAreKnown scope locals fs

  -- a function of a module
  abbrev pub IsKnownFunction : FunctionTree → Type 0
  IsKnownFunction f = IsKnown (with_variables [] f.parameters) [] 1 f.body

-- how many arguments each function takes
abbrev pub arities_of : List FunctionTree → List ℕ
arities_of = map (λ f. length f.parameters)

-- the functions of the modules of a program
abbrev pub TreesAreKnown : List FunctionTree → Type 0
TreesAreKnown trees = All (IsKnownFunction (arities_of trees)) trees
