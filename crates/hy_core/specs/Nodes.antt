-- The nodes of a function: its expressions and patterns in the order of the text, a node before its
-- parts. A node's number is its place in this list. The forms and what they bind are those of the
-- Core Erlang 1.0.3 report; which parts are nodes is this project's own.
use Rattle.std.specs.Prelude.{ℕ, Bool, true, false, if◌then◌else◌, List, [], ◌∷◌, ◌++◌, map, length}
use Rattle.hy_core.specs.declared.place.Place.{Place}
use Rattle.hy_core.specs.declared.place.Place.TheVariants.{Anywhere, Applied, Timeout, WholeGuard}
use Rattle.hy_core.specs.declared.tree.Clause.{Clause}
use Rattle.hy_core.specs.declared.tree.Expr.{Expr}
use Rattle.hy_core.specs.declared.tree.Expr.TheFolds.{para-Expr, para-Clause, para-Function}
use Rattle.hy_core.specs.declared.tree.Expr.TheOpen as layer
use Rattle.hy_core.specs.declared.tree.Expr.TheOpen.{Expr-F, Clause-F, Function-F}
use Rattle.hy_core.specs.declared.tree.Expr.TheVariants as e
use Rattle.hy_core.specs.declared.tree.Expr.TheViews.{out-Expr}
use Rattle.hy_core.specs.declared.tree.FunName.{FunName}
use Rattle.hy_core.specs.declared.tree.Function.{Function}
use Rattle.hy_core.specs.declared.tree.Pattern.{Pattern}
use Rattle.hy_core.specs.SubPatterns.{within, patterns_in, clause_variables}

-- what stands at a node
pub data Piece : Type 0 where
  AnExpr : Expr → Piece
  APattern : Pattern → Piece
  -- the first pattern of a clause, which has these patterns
  FirstPattern : List Pattern → Piece

-- what is around a node
pub record Context : Type 0 where
  -- the variables that are bound, the outermost first
  pub scope : List ℕ
  -- the functions of the letrecs around, the outermost first
  pub locals : List FunName
  -- how many values the place needs
  pub needs : ℕ
  pub in_guard : Bool
  pub place : Place

pub record Node : Type 0 where
  pub piece : Piece
  pub context : Context

-- the contexts of parts

-- the whole's own place: as many values as the whole needs
abbrev pub inside : Context → Context
inside c = record c { place = Anywhere }

-- a place for so many values
abbrev pub for_values : ℕ → Context → Context
for_values n c = record c { needs = n; place = Anywhere }

abbrev pub for_one : Context → Context
for_one = for_values 1

-- what needs one value, at a place of its own kind
abbrev pub at_place : Place → Context → Context
at_place place c = record c { needs = 1; place = place }

-- in reach of these variables
abbrev pub binding : List ℕ → Context → Context
binding variables c = record c { scope = c.scope ++ variables; place = Anywhere }

-- in reach of the functions of a letrec
abbrev pub defining : List FunName → Context → Context
defining names c = record c { locals = c.locals ++ names; place = Anywhere }

-- the guard of a clause
abbrev pub guarding : List ℕ → Context → Context
guarding variables c =
    record c { scope = c.scope ++ variables; needs = 1; in_guard = true; place = WholeGuard }

-- nodes from their context

abbrev pub Nodes : Type 0
Nodes = Context → List Node

abbrev pub node : Piece → Context → Node
node piece context = record { piece = piece; context = context }

-- an expression, with its nodes as a part of a whole; likewise a clause and a definition
abbrev pub ExprPart : Type 0
ExprPart = Expr × Nodes

abbrev pub ClausePart : Type 0
ClausePart = Clause × Nodes

abbrev pub FunctionPart : Type 0
FunctionPart = Function × Nodes

abbrev pub trees : List ExprPart → List Expr
trees = map (λ part. part.0)

abbrev pub clauses_of : List ClausePart → List Clause
clauses_of = map (λ part. part.0)

abbrev pub definitions_of : List FunctionPart → List Function
definitions_of = map (λ part. part.0)

abbrev pub names_of : List Function → List FunName
names_of = map (λ f. f.name)

-- parts one after another, in one context
abbrev pub all_nodes : {A : Type 0} → List (A × Nodes) → Nodes
all_nodes [] c = []
all_nodes (part ∷ parts) c = part.1 c ++ all_nodes parts c

abbrev pub is_nil_layer : Expr-F Expr Clause Function → Bool
is_nil_layer layer.Nil = true
is_nil_layer _ = false

-- nil at the end of a list notation has no text there, so it is no node
abbrev pub tail_nodes : ExprPart → Nodes
tail_nodes tail c = if is_nil_layer (out-Expr tail.0) then [] else tail.1 c

-- how many values the clauses of a `case` are for: as many as the first has patterns
abbrev pub patterns_of_first : List Clause → ℕ
patterns_of_first [] = 0
patterns_of_first (clause ∷ clauses) = length clause.patterns

-- the patterns of a clause
abbrev pub pattern_nodes : List Pattern → Nodes
pattern_nodes [] c = []
pattern_nodes (p ∷ ps) c =
    node (FirstPattern (p ∷ ps)) c ∷ map (λ q. node (APattern q) c) (within p ++ patterns_in ps)

-- an expression, and then its parts
abbrev pub at : Expr → Nodes → Nodes
at x parts c = node (AnExpr x) c ∷ parts c

abbrev pub expr_step : Expr-F ExprPart ClausePart FunctionPart → Nodes
expr_step (layer.Int n) = at (e.Int n) λ c. []
expr_step (layer.Atom a) = at (e.Atom a) λ c. []
expr_step layer.Nil = at e.Nil λ c. []
expr_step (layer.Str text) = at (e.Str text) λ c. []
expr_step (layer.Var x) = at (e.Var x) λ c. []
expr_step (layer.Name f) = at (e.Name f) λ c. []
expr_step (layer.Tuple site parts) =
    at (e.Tuple site (trees parts)) λ c. all_nodes parts (for_one c)
expr_step (layer.List site heads tail) = at (e.List site (trees heads) tail.0) λ c. all_nodes heads
    (for_one c) ++ tail_nodes tail (for_one c)
expr_step (layer.Values parts) = at (e.Values (trees parts)) λ c. all_nodes parts (for_one c)
expr_step (layer.Let vars value body) = at (e.Let vars value.0 body.0) λ c. value.1
    (for_values (length vars) c) ++ body.1 (binding vars c)
expr_step (layer.Do first second) =
    at (e.Do first.0 second.0) λ c. first.1 (for_one c) ++ second.1 (inside c)
expr_step (layer.Case value clauses) =
    at (e.Case value.0 (clauses_of clauses)) λ c. value.1
    (for_values (patterns_of_first (clauses_of clauses)) c) ++ all_nodes clauses (inside c)
expr_step (layer.Letrec functions body) =
    at (e.Letrec (definitions_of functions) body.0) λ c. let within =
    defining (names_of (definitions_of functions)) c in all_nodes functions within
    ++ body.1 within
expr_step (layer.Apply what args) =
    at (e.Apply what.0 (trees args)) λ c. what.1 (at_place Applied c) ++ all_nodes args (for_one c)
expr_step (layer.Call m f args) = at (e.Call m.0 f.0 (trees args)) λ c. m.1 (for_one c)
    ++ f.1 (for_one c) ++ all_nodes args (for_one c)
expr_step (layer.Primop name args) = at (e.Primop name (trees args)) λ c. all_nodes args (for_one c)
expr_step (layer.Receive clauses timeout body) =
    at (e.Receive (clauses_of clauses) timeout.0 body.0) λ c. all_nodes clauses (inside c)
    ++ timeout.1 (at_place Timeout c) ++ body.1 (inside c)
expr_step (layer.Try value vars body catch_vars catch_body) =
    at (e.Try value.0 vars body.0 catch_vars catch_body.0) λ c. value.1 (for_values (length vars) c)
    ++ body.1 (binding vars c) ++ catch_body.1 (binding catch_vars c)
expr_step (layer.Catch body) = at (e.Catch body.0) λ c. body.1 (for_one c)
expr_step (layer.Fun params body) =
    at (e.Fun params body.0) λ c. body.1 (for_one (binding params c))

-- the patterns, the guard and the body
abbrev pub clause_step : Clause-F ExprPart ClausePart FunctionPart → Nodes
clause_step clause c =
    let variables = clause_variables clause.patterns in
    pattern_nodes clause.patterns c ++ clause.guard.1 (guarding variables c)
    ++ clause.body.1 (binding variables c)

-- a definition of a letrec gives the nodes of its body
abbrev pub function_step : Function-F ExprPart ClausePart FunctionPart → Nodes
function_step f c = f.body.1 (for_one (binding f.params c))

-- the nodes of an expression
abbrev pub nodes : Expr → Nodes
nodes = para-Expr Nodes Nodes Nodes expr_step clause_step function_step

-- the nodes of a clause, and those of a definition of a letrec
abbrev pub clause_nodes : Clause → Nodes
clause_nodes = para-Clause Nodes Nodes Nodes expr_step clause_step function_step

abbrev pub definition_nodes : Function → Nodes
definition_nodes = para-Function Nodes Nodes Nodes expr_step clause_step function_step

-- the nodes of a function of a module
abbrev pub nodes_of : Function → List Node
nodes_of f =
    nodes f.body (record {
      scope = f.params;
      locals = [];
      needs = 1;
      in_guard = false;
      place = Anywhere;
    })
