-- What matching finds, and when a clause holds.
use Rattle.std.specs.Prelude.{◌≡◌, ◌↔◌, ◌⊎◌, ℕ, List, [], ◌∷◌, Some, true}
use Rattle.hy_terms.specs.Term.{Term}
use Rattle.hy_core.specs.declared.tree.FunName.{FunName}
use Rattle.hy_core.specs.BuiltIn.{truth}
use Rattle.hy_core.specs.Computation.{Input, ended}
use Rattle.hy_core.specs.Evaluation.{Wait, accepts, denote, eval, holds, local_callee}
use Rattle.hy_core.specs.EvaluationLaws.{one_value}
use Rattle.hy_core.specs.Instance.{AreInstances, OneHas, HaveEachOnce}
use Rattle.hy_core.specs.Match.{Env, lookup, match_all}
use Rattle.hy_core.specs.Resolved.{Patterns, Expression, Clauses, NoClauses, MoreClauses, FunctionTree}

module _ (ps : Patterns) (ts : List Term) (env : Env) where
  abbrev Matches : Env → Type 0
  Matches bound = match_all ps ts env ≡ Some bound

  -- matching fills in
  pub record MatchingFillsIn : Type 0 where
    -- where patterns without a variable twice match, they are the terms once they are filled in
    pub filled : HaveEachOnce ps → (bound : Env) → Matches bound → AreInstances ps bound ts
    -- where patterns can be filled in so that they are the terms, they match
    pub found : (filling : Env) → AreInstances ps filling ts → (bound : Env) × Matches bound
    -- other variables are bound as before, and so are the names of functions
    pub others :
        (x : ℕ) → (OneHas ps x → ⊥) → (bound : Env) → Matches bound → lookup x bound ≡ lookup x env
    pub functions :
        (f : FunName) (bound : Env) → Matches bound → local_callee f bound ≡ local_callee f env

module _ (atoms : List (List ℕ)) (pid : ℕ) where
  -- the guard evaluates to 'true' in each program, without a call, an event or an input
  abbrev pub GivesTrue : Expression → Env → Type 0
  GivesTrue guard env =
      (program : List FunctionTree) (calls : ℕ) (inputs : List (Input Term)) →
      eval program atoms pid calls env guard inputs ≡ ended calls inputs (one_value (truth true))

  abbrev pub GuardHolds : Type 0
  GuardHolds =
      (guard : Expression) (env : Env) →
      (holds (denote atoms pid guard env) ≡ true) ↔ GivesTrue guard env

  -- the patterns of some clause match, and its guard gives 'true'
  abbrev pub SomeClauseHolds : Clauses → List Term → Env → Type 0
  SomeClauseHolds NoClauses ts env = ⊥
  SomeClauseHolds (MoreClauses ps guard body cs) ts env =
      ((bound : Env) × (match_all ps ts env ≡ Some bound) × GivesTrue guard bound)
      ⊎ SomeClauseHolds cs ts env

  -- a receive accepts a message exactly where some clause holds of it
  abbrev pub AcceptsByClause : Type 0
  AcceptsByClause =
      (wait : Wait) (message : Term) →
      (accepts atoms pid wait message ≡ true) ↔ SomeClauseHolds wait.clauses (message ∷ []) wait.env
