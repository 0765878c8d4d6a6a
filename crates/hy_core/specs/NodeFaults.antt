-- The faults that a node shows by itself: what its module and its context tell. Which forms there
-- are is this project's own; scopes, numbers of values and the forms of guards are those of the
-- Core Erlang 1.0.3 report, restricted.
use Rattle.std.specs.Prelude.{◌≡◌, ℕ, pos, ℤ, true, if◌then◌else◌, List, [], ◌∷◌, length, codes, Option, Some, None, Contains}
use Rattle.hy_terms.specs.Naming.{text_of}
use Rattle.hy_core.specs.BuiltIn.{Plain, Spawns, operation_named}
use Rattle.hy_core.specs.Nodes.{AnExpr, FirstPattern, Context, Node, node, patterns_of_first}
use Rattle.hy_core.specs.Resolve.{is_match_fail}
use Rattle.hy_core.specs.SubPatterns.{clause_variables}
use Rattle.hy_core.specs.declared.bif.Bif.{Bif}
use Rattle.hy_core.specs.declared.fault.Form.{Form}
use Rattle.hy_core.specs.declared.fault.Form.TheVariants as form
use Rattle.hy_core.specs.declared.place.Place.{Place}
use Rattle.hy_core.specs.declared.place.Place.TheVariants.{Applied, Timeout, WholeGuard}
use Rattle.hy_core.specs.declared.tree.Clause.{Clause}
use Rattle.hy_core.specs.declared.tree.Expr.{Expr}
use Rattle.hy_core.specs.declared.tree.Expr.TheOpen as layer
use Rattle.hy_core.specs.declared.tree.Expr.TheOpen.{Expr-F}
use Rattle.hy_core.specs.declared.tree.Expr.TheVariants as e
use Rattle.hy_core.specs.declared.tree.Expr.TheViews.{out-Expr}
use Rattle.hy_core.specs.declared.tree.FunName.{FunName}
use Rattle.hy_core.specs.declared.tree.Function.{Function}
use Rattle.hy_core.specs.declared.tree.Module.{Module}
use Rattle.hy_core.specs.declared.tree.Pattern.{Pattern}

-- something stands twice in a list
pub data Repeats {A : Type 0} : List A → Type 0 where
  first_again : {x : A} {xs : List A} → Contains xs x → Repeats (x ∷ xs)
  behind_first : {x : A} {xs : List A} → Repeats xs → Repeats (x ∷ xs)

-- a variable that isn't bound
pub data IsUnbound : Node → Type 0 where
  unbound : {c : Context} (x : ℕ) → (Contains c.scope x → ⊥) → IsUnbound (node (AnExpr (e.Var x)) c)

-- a variable that is bound twice at once: by the patterns of a clause, by a `let` or a `fun`,
-- behind the `of` or the `catch` of a `try`, or as a parameter of a definition of a letrec
pub data RepeatsVariable : Node → Type 0 where
  in_patterns : {c : Context} (ps : List Pattern) → Repeats (clause_variables ps)
      → RepeatsVariable (node (FirstPattern ps) c)
  in_let : {c : Context} (vars : List ℕ) (value body : Expr) → Repeats vars
      → RepeatsVariable (node (AnExpr (e.Let vars value body)) c)
  in_fun : {c : Context} (params : List ℕ) (body : Expr) → Repeats params
      → RepeatsVariable (node (AnExpr (e.Fun params body)) c)
  in_try : {c : Context} (vars catch_vars : List ℕ) (value body catch_body : Expr) → Repeats vars
      → RepeatsVariable (node (AnExpr (e.Try value vars body catch_vars catch_body)) c)
  in_catch : {c : Context} (vars catch_vars : List ℕ) (value body catch_body : Expr)
      → Repeats catch_vars
      → RepeatsVariable (node (AnExpr (e.Try value vars body catch_vars catch_body)) c)
  in_definition : {c : Context} (f : Function) (functions : List Function) (body : Expr)
      → Contains functions f → Repeats f.params
      → RepeatsVariable (node (AnExpr (e.Letrec functions body)) c)

pub data IsAtom : Expr → Type 0 where
  an_atom : (a : ℕ) → IsAtom (e.Atom a)

pub data IsName : Expr → Type 0 where
  a_name : (f : FunName) → IsName (e.Name f)

-- a list of so many elements that is written out
pub data IsListOf : Expr → ℕ → Type 0 where
  no_element : IsListOf e.Nil 0
  elements : (site : ℕ) (heads : List Expr) → IsListOf (e.List site heads e.Nil) (length heads)

-- The texts of atoms are those of the module.
module _ (m : Module) where
  -- `try E of <X> -> X catch <A,B> -> 'false'`, with two or three variables behind `catch`: as a
  -- whole guard it is read as E
  pub data IsGuardForm : Expr → Type 0 where
    two_caught : (value : Expr) (x a b no_answer : ℕ) → text_of m.atoms no_answer ≡ codes "false"
        → IsGuardForm (e.Try value (x ∷ []) (e.Var x) (a ∷ b ∷ []) (e.Atom no_answer))
    three_caught : (value : Expr) (x a b d no_answer : ℕ)
        → text_of m.atoms no_answer ≡ codes "false"
        → IsGuardForm (e.Try value (x ∷ []) (e.Var x) (a ∷ b ∷ d ∷ []) (e.Atom no_answer))

  -- the timeouts 0 and 'infinity'
  pub data IsTimeout : Expr → Type 0 where
    at_once : IsTimeout (e.Int (pos 0))
    never : (a : ℕ) → text_of m.atoms a ≡ codes "infinity" → IsTimeout (e.Atom a)

  -- a module, a function and a list written out
  pub data IsSpawnable : List Expr → Type 0 where
    spawnable : (x y list : Expr) (n : ℕ) → IsAtom x → IsAtom y → IsListOf list n
        → IsSpawnable (x ∷ y ∷ list ∷ [])

  -- a form outside the subset
  pub data IsForbiddenForm : Node → Form → Type 0 where
    a_fun : {c : Context} (params : List ℕ) (body : Expr)
        → IsForbiddenForm (node (AnExpr (e.Fun params body)) c) form.Fun
    -- a function's name that isn't applied
    a_value : {c : Context} (f : FunName) → (c.place ≡ Applied → ⊥)
        → IsForbiddenForm (node (AnExpr (e.Name f)) c) form.Name
    applies_value : {c : Context} (what : Expr) (args : List Expr) → (IsName what → ⊥)
        → IsForbiddenForm (node (AnExpr (e.Apply what args)) c) form.Apply
    calls_computed : {c : Context} (x y : Expr) (args : List Expr) → (IsAtom x × IsAtom y → ⊥)
        → IsForbiddenForm (node (AnExpr (e.Call x y args)) c) form.Call
    a_try : {c : Context} (vars catch_vars : List ℕ) (value body catch_body : Expr)
        → ((c.place ≡ WholeGuard) × IsGuardForm (e.Try value vars body catch_vars catch_body) → ⊥)
        → IsForbiddenForm (node (AnExpr (e.Try value vars body catch_vars catch_body)) c) form.Try
    a_catch : {c : Context} (body : Expr)
        → IsForbiddenForm (node (AnExpr (e.Catch body)) c) form.Catch
    a_primop : {c : Context} (name : ℕ) (args : List Expr)
        → (is_match_fail (text_of m.atoms name) (length args) ≡ true → ⊥)
        → IsForbiddenForm (node (AnExpr (e.Primop name args)) c) form.Primop
    a_timeout : {c : Context} (x : Expr) → c.place ≡ Timeout → (IsTimeout x → ⊥)
        → IsForbiddenForm (node (AnExpr x) c) form.Timeout
    a_spawn : {c : Context} (a b : ℕ) (args : List Expr) → operation_named (text_of m.atoms a)
        (text_of m.atoms b) (length args) ≡ Some Spawns → (IsSpawnable args → ⊥)
        → IsForbiddenForm (node (AnExpr (e.Call (e.Atom a) (e.Atom b) args)) c) form.Spawn

  -- how many values an expression gives by itself; none where it gives what its parts give, or fits
  -- every place
  abbrev pub gives_layer : Expr-F Expr Clause Function → Option ℕ
  gives_layer (layer.Values parts) = Some (length parts)
  gives_layer (layer.Let vars value body) = None
  gives_layer (layer.Do first second) = None
  gives_layer (layer.Case value clauses) = None
  gives_layer (layer.Letrec functions body) = None
  gives_layer (layer.Receive clauses timeout body) = None
  gives_layer (layer.Try value vars body catch_vars catch_body) = None
  gives_layer (layer.Primop name args) =
      if is_match_fail (text_of m.atoms name) (length args) then None else Some 1
  gives_layer _ = Some 1

  abbrev pub gives : Expr → Option ℕ
  gives x = gives_layer (out-Expr x)

  -- another number of values than the place needs, or of patterns than a clause has to have
  pub data HasWrongValues : Node → Type 0 where
    other_number : {c : Context} (x : Expr) (n : ℕ) → gives x ≡ Some n → (n ≡ c.needs → ⊥)
        → HasWrongValues (node (AnExpr x) c)
    case_patterns : {c : Context} (value : Expr) (clauses : List Clause) (clause : Clause)
        → Contains clauses clause
        → (length clause.patterns ≡ patterns_of_first clauses → ⊥)
        → HasWrongValues (node (AnExpr (e.Case value clauses)) c)
    receive_patterns : {c : Context} (timeout body : Expr) (clauses : List Clause) (clause : Clause)
        → Contains clauses clause
        → (length clause.patterns ≡ 1 → ⊥)
        → HasWrongValues (node (AnExpr (e.Receive clauses timeout body)) c)

  -- a form that a guard may hold at such a place
  pub data IsGuardExpr : Place → Expr → Type 0 where
    integer : {place : Place} (n : ℤ) → IsGuardExpr place (e.Int n)
    atom : {place : Place} (a : ℕ) → IsGuardExpr place (e.Atom a)
    nil : {place : Place} → IsGuardExpr place e.Nil
    variable : {place : Place} (x : ℕ) → IsGuardExpr place (e.Var x)
    let_in : {place : Place} (vars : List ℕ) (value body : Expr)
        → IsGuardExpr place (e.Let vars value body)
    -- a built-in that gives a value or raises, and does nothing else
    built_in : {place : Place} (a b : ℕ) (args : List Expr) (bif : Bif)
        → operation_named (text_of m.atoms a) (text_of m.atoms b) (length args) ≡ Some (Plain bif)
        → IsGuardExpr place (e.Call (e.Atom a) (e.Atom b) args)
    whole : (x : Expr) → IsGuardForm x → IsGuardExpr WholeGuard x

  -- a form that a guard may not hold
  pub data IsForbiddenInGuard : Node → Type 0 where
    forbidden : {c : Context} (x : Expr) → c.in_guard ≡ true → (IsGuardExpr c.place x → ⊥)
        → IsForbiddenInGuard (node (AnExpr x) c)
