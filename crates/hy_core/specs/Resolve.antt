-- From the trees of a program to expressions in which each call says what it calls. What an applied
-- name and a call name is as in the Core Erlang 1.0.3 report; which built-ins there are and the
-- guard form of `try` are this project's own.
use Rattle.std.specs.Prelude.{ℕ, ◌==◌, ◌&&◌, ◌||◌, if◌then◌else◌, List, [], ◌∷◌, ◌++◌, length, codes, Option, Some, None, Bool, false, pos}
use Rattle.std.specs.Ordering.{int_eq}
use Rattle.std.specs.Str.{bytes_eq}
use Rattle.hy_terms.specs.Naming.{one_on, text_of}
use Rattle.hy_core.specs.declared.info.FunInfo.{FunInfo}
use Rattle.hy_core.specs.declared.tree.FunName.{FunName}
use Rattle.hy_core.specs.BuiltIn.{Operation, Plain, SetsElement, Sends, Spawns, Displays, RaisesAs, operation_named}
use Rattle.hy_core.specs.Resolved as r
use Rattle.hy_core.specs.Resolved.{Head, Timeout, AtOnce, Never, Expression, Expressions, NoExpressions, MoreExpressions, is_name}
use Rattle.hy_core.specs.Syntax as s
use Rattle.hy_core.specs.Syntax.{Syntax, Syntaxes, NoSyntax, MoreSyntax, count}

-- the texts of a program's atoms, and its functions by their numbers
pub record Names : Type 0 where
  pub atoms : List (List ℕ)
  pub functions : List FunInfo

-- the number of the first function with this module and name
abbrev pub function_number : List FunInfo → (module_name : ℕ) → FunName → Option ℕ
function_number [] m f = None
function_number (i ∷ is) m f =
    if (i.module == m) && is_name i.name f then Some 0 else one_on (function_number is m f)

abbrev pub name_with : ℕ → ℕ → FunName
name_with name arity = record { name = name; arity = arity }

-- a letrec around defines the name
abbrev pub is_local : FunName → List FunName → Bool
is_local f [] = false
is_local f (g ∷ gs) = is_name g f || is_local f gs

abbrev pub call_of : Option Head → Expressions → Expression
call_of None es = r.Refused
call_of (Some head) es = r.Call head es

abbrev pub function_head : Option ℕ → Option Head
function_head None = None
function_head (Some k) = Some (r.Function k)

abbrev pub spawn_head : Option ℕ → Option Head
spawn_head None = None
spawn_head (Some k) = Some (r.Spawn 0 k)

-- what an operation does with its arguments, as they are resolved; a spawn has its own
abbrev pub operation_call : Operation → Expressions → (spawned : Expression) → Expression
operation_call (Plain b) es spawned = r.Call (r.BuiltIn b) es
operation_call SetsElement es spawned = r.Call (r.Setelement 0) es
operation_call Sends es spawned = r.Call (r.Send 0) es
operation_call Spawns es spawned = spawned
operation_call Displays es spawned = r.Call (r.Display 0) es
operation_call (RaisesAs class) es spawned = r.Call (r.Raising class) es

abbrev pub received : r.Clauses → Option Timeout → Expression → Expression
received cs None e = r.Refused
received cs (Some t) e = r.Receive cs t e

abbrev pub are_two_or_three : List ℕ → Bool
are_two_or_three xs = (length xs == 2) || (length xs == 3)

abbrev pub is_one_variable : List ℕ → ℕ → Bool
is_one_variable (x ∷ []) y = x == y
is_one_variable _ y = false

-- the one primop of the subset, by its text and its number of arguments
abbrev pub is_match_fail : List ℕ → ℕ → Bool
is_match_fail text arity = bytes_eq text (codes "match_fail") && (arity == 1)

abbrev pub defined_names : s.Definitions → List FunName
defined_names s.NoDefinitions = []
defined_names (s.MoreDefinitions f xs body fs) = f ∷ defined_names fs

module _ (names : Names) (current : ℕ) where
  -- the text of an atom, as a name
  abbrev pub is_called : ℕ → List ℕ → Bool
  is_called a text = bytes_eq (text_of names.atoms a) text

  -- an applied name: the innermost letrec around that defines it, else the module
  abbrev pub applied_head : FunName → List FunName → Option Head
  applied_head f locals = if is_local f locals then Some (r.Local f)
      else function_head (function_number names.functions current f)

  -- the built-in that a call names, where it is one
  abbrev pub erlang_operation : (m f arity : ℕ) → Option Operation
  erlang_operation m f arity = operation_named (text_of names.atoms m) (text_of names.atoms f) arity

  abbrev pub function_called : (m f arity : ℕ) → Option ℕ
  function_called m f arity = function_number names.functions m (name_with f arity)

  -- a call of a built-in, or else of a function
  abbrev pub named_call : (m f arity : ℕ) → Option Operation → Expressions
      → (spawned : Expression) → Expression
  named_call m f arity None es spawned = call_of (function_head (function_called m f arity)) es
  named_call m f arity (Some operation) es spawned = operation_call operation es spawned

  -- the literals 0 and 'infinity'
  abbrev pub timeout_of : Syntax → Option Timeout
  timeout_of (s.Int n) = if int_eq n (pos 0) then Some AtOnce else None
  timeout_of (s.Atom a) = if is_called a (codes "infinity") then Some Never else None
  timeout_of _ = None

  -- it gives what its first part gives, and 'false' where that raises
  abbrev pub is_guard_form : List ℕ → ℕ → List ℕ → ℕ → Bool
  is_guard_form vars x catch_vars a =
      is_one_variable vars x && (are_two_or_three catch_vars && is_called a (codes "false"))

  -- under the names of the letrecs around; all numbers of events and sites are 0
  abbrev mutual
    pub resolve : Syntax → (locals : List FunName) → Expression
    resolve (s.Int n) locals = r.Int n
    resolve (s.Atom a) locals = r.Atom a
    resolve s.Nil locals = r.Nil
    resolve (s.Str text) locals = r.Text 0 text
    resolve (s.Var x) locals = r.Variable x
    resolve (s.Tuple site parts) locals = r.Tuple 0 (resolve_all parts locals)
    resolve (s.ListOf site heads tail) locals =
        r.ListOf 0 (resolve_all heads locals) (resolve tail locals)
    resolve (s.Values parts) locals = r.Values (resolve_all parts locals)
    resolve (s.Let vars value body) locals = r.Let vars (resolve value locals) (resolve body locals)
    resolve (s.Do first second) locals = r.Do (resolve first locals) (resolve second locals)
    resolve (s.Case value clauses) locals =
        r.Case (resolve value locals) (resolve_clauses clauses locals)
    resolve (s.Letrec definitions body) locals =
        let inside = defined_names definitions ++ locals in
        r.Letrec (resolve_definitions definitions inside) (resolve body inside)
    resolve (s.Apply (s.Name f) args) locals =
        call_of (applied_head f locals) (resolve_all args locals)
    resolve (s.Call (s.Atom m) (s.Atom f) args) locals =
        let arity = count args in
        named_call m f arity (erlang_operation m f arity) (resolve_all args locals)
        (resolve_spawn args locals)
    resolve (s.Primop name args) locals =
        if is_match_fail (text_of names.atoms name) (count args)
        then r.Call r.MatchFail (resolve_all args locals)
        else r.Refused
    resolve (s.Receive clauses timeout body) locals =
        received (resolve_clauses clauses locals) (timeout_of timeout) (resolve body locals)
    resolve _ locals = r.Refused

    pub resolve_all : Syntaxes → (locals : List FunName) → Expressions
    resolve_all NoSyntax locals = NoExpressions
    resolve_all (MoreSyntax x xs) locals =
        MoreExpressions (resolve x locals) (resolve_all xs locals)

    -- a spawn, whose module and function are atoms, and whose arguments are nil or one list
    -- notation
    pub resolve_spawn : Syntaxes → (locals : List FunName) → Expression
    resolve_spawn (MoreSyntax (s.Atom m) (MoreSyntax (s.Atom f) (MoreSyntax s.Nil NoSyntax))) locals =
        call_of (spawn_head (function_called m f 0)) NoExpressions
    resolve_spawn (MoreSyntax (s.Atom m) (MoreSyntax (s.Atom f) (MoreSyntax (s.ListOf site heads s.Nil) NoSyntax))) locals =
        call_of (spawn_head (function_called m f (count heads))) (resolve_all heads locals)
    resolve_spawn _ locals = r.Refused

    -- the guard of a clause: the guard form of `try` is read as its first part, else it is the
    -- expression
    pub resolve_guard : Syntax → Expression → (locals : List FunName) → Expression
    resolve_guard (s.Try value vars (s.Var x) catch_vars (s.Atom a)) otherwise locals =
        if is_guard_form vars x catch_vars a then resolve value locals else otherwise
    resolve_guard guard otherwise locals = otherwise

    pub resolve_clauses : s.Clauses → (locals : List FunName) → r.Clauses
    resolve_clauses s.NoClauses locals = r.NoClauses
    resolve_clauses (s.MoreClauses patterns guard body clauses) locals =
        r.MoreClauses patterns (resolve_guard guard (resolve guard locals) locals)
        (resolve body locals)
        (resolve_clauses clauses locals)

    pub resolve_definitions : s.Definitions → (locals : List FunName) → r.Functions
    resolve_definitions s.NoDefinitions locals = r.NoFunctions
    resolve_definitions (s.MoreDefinitions f params body fs) locals =
        r.MoreFunctions f params (resolve body locals) (resolve_definitions fs locals)
