-- When an expression is another with its letrecs lifted: what lifting keeps is proved by this
-- relation.
use Rattle.std.specs.Prelude.{◌≡◌, ℕ, ◌<◌, List, [], ◌∷◌, ◌++◌, length, Option, Some, None}
use Rattle.std.specs.Prelude.{if◌then◌else◌, slice_get, ℤ}
use Rattle.hy_core.specs.declared.tree.FunName.{FunName}
use Rattle.hy_core.specs.Scopes.{with_variables, with_patterns}
use Rattle.lifted_program.specs.LiftedProgram.{passing}
use Rattle.lifted_program.proofs.Variables.{In, AllIn, AllOut, patterns_variables}
use Rattle.hy_core.specs.Resolved as r
use Rattle.hy_core.specs.Resolved.{Pattern, Patterns, NoPatterns, MorePatterns, Head, Timeout}
use Rattle.hy_core.specs.Resolved.{Expression, Expressions, NoExpressions, MoreExpressions, Clauses}
use Rattle.hy_core.specs.Resolved.{NoClauses, MoreClauses, Functions, NoFunctions, MoreFunctions}
use Rattle.hy_core.specs.Resolved.{FunctionTree, is_name}

-- a function of a letrec around: its name, its number, and the variables that it is passed before
-- its arguments
pub record LocalFunction : Type 0 where
  pub name : FunName
  pub number : ℕ
  pub captured : List ℕ

-- the innermost one of this name
abbrev pub find : FunName → List LocalFunction → Option LocalFunction
find f [] = None
find f (l ∷ ls) = if is_name l.name f then Some l else find f ls

abbrev pub all_captured : List LocalFunction → List ℕ
all_captured [] = []
all_captured (l ∷ ls) = l.captured ++ all_captured ls

-- tops: how many functions of modules there are; program: the functions of the lifted program
module _ (tops : ℕ) (program : List FunctionTree) where
  -- what lifting leaves as it is
  abbrev pub IsPlain : Head → Type 0
  IsPlain (r.Local f) = ⊥
  IsPlain (r.Function f) = f < tops
  IsPlain (r.Spawn node f) = f < tops
  IsPlain _ = Unit {0}

  mutual
    -- with these functions of letrecs around and these variables in scope of the lifted function,
    -- the second is the first with its letrecs lifted
    pub data LiftOf : List LocalFunction → List ℕ → Expression → Expression → Type 0 where
      lift_int : {ls : List LocalFunction} {vs : List ℕ} {n : ℤ} → LiftOf ls vs (r.Int n) (r.Int n)
      lift_atom : {ls : List LocalFunction} {vs : List ℕ} {n : ℕ}
          → LiftOf ls vs (r.Atom n) (r.Atom n)
      lift_nil : {ls : List LocalFunction} {vs : List ℕ} → LiftOf ls vs r.Nil r.Nil
      lift_text : {ls : List LocalFunction} {vs : List ℕ} {site : ℕ} {s : List ℕ}
          → LiftOf ls vs (r.Text site s) (r.Text site s)
      lift_variable : {ls : List LocalFunction} {vs : List ℕ} {x : ℕ} → In x vs
          → LiftOf ls vs (r.Variable x) (r.Variable x)
      lift_tuple : {ls : List LocalFunction} {vs : List ℕ} {site : ℕ} {es es' : Expressions}
          → LiftsOf ls vs es es' → LiftOf ls vs (r.Tuple site es) (r.Tuple site es')
      lift_list : {ls : List LocalFunction} {vs : List ℕ} {site : ℕ} {es es' : Expressions}
          {e e' : Expression} → LiftsOf ls vs es es' → LiftOf ls vs e e'
          → LiftOf ls vs (r.ListOf site es e) (r.ListOf site es' e')
      lift_values : {ls : List LocalFunction} {vs : List ℕ} {es es' : Expressions}
          → LiftsOf ls vs es es' → LiftOf ls vs (r.Values es) (r.Values es')
      lift_let : {ls : List LocalFunction} {vs xs : List ℕ} {e e' b b' : Expression}
          → LiftOf ls vs e e' → AllOut xs (all_captured ls) → LiftOf ls (with_variables vs xs) b b'
          → LiftOf ls vs (r.Let xs e b) (r.Let xs e' b')
      lift_do : {ls : List LocalFunction} {vs : List ℕ} {e e' b b' : Expression} → LiftOf ls vs e e'
          → LiftOf ls vs b b' → LiftOf ls vs (r.Do e b) (r.Do e' b')
      lift_case : {ls : List LocalFunction} {vs : List ℕ} {e e' : Expression} {cs cs' : Clauses}
          → LiftOf ls vs e e' → LiftClauses ls vs cs cs'
          → LiftOf ls vs (r.Case e cs) (r.Case e' cs')
      lift_receive : {ls : List LocalFunction} {vs : List ℕ} {e e' : Expression} {cs cs' : Clauses}
          {timeout : Timeout} → LiftClauses ls vs cs cs' → LiftOf ls vs e e'
          → LiftOf ls vs (r.Receive cs timeout e) (r.Receive cs' timeout e')
      lift_call : {ls : List LocalFunction} {vs : List ℕ} {head : Head} {es es' : Expressions}
          → IsPlain head → LiftsOf ls vs es es' → LiftOf ls vs (r.Call head es) (r.Call head es')
      -- a call of a function of a letrec passes the variables that it needs
      lift_local : {ls : List LocalFunction} {vs : List ℕ} {f : FunName} {l : LocalFunction}
          {es es' : Expressions} → find f ls ≡ Some l → AllIn l.captured vs → LiftsOf ls vs es es'
          → LiftOf ls vs (r.Call (r.Local f) es)
          (r.Call (r.Function l.number) (passing l.captured es'))
      lift_letrec : {ls gs : List LocalFunction} {vs : List ℕ} {fs : Functions} {e e' : Expression}
          → GroupOf ls vs gs fs gs → LiftOf (gs ++ ls) vs e e' → LiftOf ls vs (r.Letrec fs e) e'
      lift_refused : {ls : List LocalFunction} {vs : List ℕ} → LiftOf ls vs r.Refused r.Refused

    pub data LiftsOf : List LocalFunction → List ℕ → Expressions → Expressions → Type 0 where
      lifts_none : {ls : List LocalFunction} {vs : List ℕ}
          → LiftsOf ls vs NoExpressions NoExpressions
      lifts_more : {ls : List LocalFunction} {vs : List ℕ} {e e' : Expression}
          {es es' : Expressions} → LiftOf ls vs e e' → LiftsOf ls vs es es'
          → LiftsOf ls vs (MoreExpressions e es) (MoreExpressions e' es')

    pub data LiftClauses : List LocalFunction → List ℕ → Clauses → Clauses → Type 0 where
      clauses_none : {ls : List LocalFunction} {vs : List ℕ} → LiftClauses ls vs NoClauses NoClauses
      clauses_more : {ls : List LocalFunction} {vs : List ℕ} {ps : Patterns}
          {g g' b b' : Expression} {cs cs' : Clauses}
          → AllOut (patterns_variables ps) (all_captured ls) → LiftOf ls (with_patterns vs ps) g g'
          → LiftOf ls (with_patterns vs ps) b b' → LiftClauses ls vs cs cs'
          → LiftClauses ls vs (MoreClauses ps g b cs) (MoreClauses ps g' b' cs')

    -- the functions of a letrec, each with its number; all of them are gs
    pub data GroupOf : List LocalFunction → List ℕ → List LocalFunction → Functions
        → List LocalFunction → Type 0 where
      group_none : {ls gs : List LocalFunction} {vs : List ℕ} → GroupOf ls vs gs NoFunctions []
      group_more : {ls gs hs : List LocalFunction} {vs xs : List ℕ} {l : LocalFunction}
          {b b' : Expression} {fs : Functions} → slice_get program l.number
          ≡ Some (record { parameters = l.captured ++ xs; body = b' }) → AllIn l.captured vs
          → AllOut xs (all_captured (gs ++ ls))
          → LiftOf (gs ++ ls) (with_variables l.captured xs) b b' → GroupOf ls vs gs fs hs
          → GroupOf ls vs gs (MoreFunctions l.name xs b fs) (l ∷ hs)

  -- with the same parameters, and its letrecs lifted
  abbrev pub IsLiftedFunction : Option FunctionTree → Option FunctionTree → Type 0
  IsLiftedFunction (Some f) (Some g) =
      (g.parameters ≡ f.parameters) × LiftOf [] (with_variables [] f.parameters) f.body g.body
  IsLiftedFunction _ _ = ⊥

-- each function of the source stands at its number
pub record IsLifted (source program : List FunctionTree) : Type 0 where
  pub functions : (f : ℕ) → f < length source
      → IsLiftedFunction (length source) program (slice_get source f) (slice_get program f)
