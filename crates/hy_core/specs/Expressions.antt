-- Expressions, clauses and local functions of the Core Erlang 1.0.3 report, with their trees. Each
-- relation says which marked tokens are read, and which are left, between the tables before and
-- after them. Levels are this project's own.
use Rattle.std.specs.Prelude.{◌≡◌, ℕ, ◌+◌, pos, List, [], ◌∷◌, ◌++◌}
use Rattle.hy_core.specs.Marks.{Marked, at, symbol, arity, value, number}
use Rattle.hy_core.specs.Numbering.{atom_number, with_atom, variable_number, with_variable}
use Rattle.hy_core.specs.Annotations.{IsNote, IsAtom, IsName}
use Rattle.hy_core.specs.Patterns.{AreVariables, BindsValues, IsNotBefore, IsPattern, ArePatterns}
use Rattle.hy_core.specs.declared.token.Symbol.{Symbol}
use Rattle.hy_core.specs.declared.token.Symbol.TheVariants as w
use Rattle.hy_core.specs.declared.token.Sign.{Sign}
use Rattle.hy_core.specs.declared.token.Token.TheVariants as t
use Rattle.hy_core.specs.declared.tables.Tables.{Tables}
use Rattle.hy_core.specs.declared.tree.Pattern.{Pattern}
use Rattle.hy_core.specs.declared.tree.FunName.{FunName}
use Rattle.hy_core.specs.declared.tree.Function.{Function}
use Rattle.hy_core.specs.declared.tree.Clause.{Clause}
use Rattle.hy_core.specs.declared.tree.Expr.{Expr}
use Rattle.hy_core.specs.declared.tree.Expr.TheVariants as e
use Rattle.hy_core.specs.declared.tree.Expr.TheOpen as layer
use Rattle.hy_core.specs.declared.tree.Expr.TheViews.{out-Expr}

-- a function's name, by the number of its atom and the digits of its arity
abbrev pub named_by : ℕ → List ℕ → FunName
named_by atom digits = record { name = atom; arity = value digits }

abbrev pub function : FunName → List ℕ → Expr → Function
function name params body = record { name = name; params = params; body = body }

abbrev pub clause_of : List Pattern → Expr → Expr → Clause
clause_of patterns guard body = record { patterns = patterns; guard = guard; body = body }

abbrev pub string_expr : List ℕ → Expr
string_expr [] = e.Nil
string_expr (b ∷ bs) = e.Str (b ∷ bs)

abbrev pub joined_at : List Expr → Expr → layer.Expr-F Expr Clause Function → Expr
joined_at xs end (layer.List site heads tail) = e.List 0 (xs ++ heads) tail
joined_at xs end _ = e.List 0 xs end

-- a list notation with these heads and this tail, which is joined with it where it is a list
-- notation
abbrev pub joined : List Expr → Expr → Expr
joined xs end = joined_at xs end (out-Expr end)

-- The parts of an expression of level n have level n + 1. Sites are left at 0.
mutual
  -- An expression of level n. An atom before / begins a function's name.
  pub data IsExpr : ℕ → Tables → List Marked → Expr → Tables → List Marked → Type 0 where
    integer : {n : ℕ} {s : Tables} {q : List Marked} (sign : Sign) (digits : List ℕ)
        → IsExpr n s (at n (t.Integer sign digits) ∷ q) (e.Int (number sign (value digits))) s q
    character : {n : ℕ} {s : Tables} {q : List Marked} (code : ℕ)
        → IsExpr n s (at n (t.Character code) ∷ q) (e.Int (pos code)) s q
    atom : {n : ℕ} {s : Tables} {q : List Marked} (text : List ℕ) → IsNotBefore w.Slash q
        → IsExpr n s (at n (t.Atom text) ∷ q) (e.Atom (atom_number s text)) (with_atom s text) q
    name : {n : ℕ} {s : Tables} {q : List Marked} (text digits : List ℕ)
        → IsExpr n s (at n (t.Atom text) ∷ symbol w.Slash ∷ arity digits ∷ q)
        (e.Name (named_by (atom_number s text) digits)) (with_atom s text) q
    string : {n : ℕ} {s : Tables} {q : List Marked} (text : List ℕ)
        → IsExpr n s (at n (t.Str text) ∷ q) (string_expr text) s q
    variable : {n : ℕ} {s : Tables} {q : List Marked} (name : List ℕ)
        → IsExpr n s (at n (t.Variable name) ∷ q) (e.Var (variable_number s name))
        (with_variable s name) q
    tuple : {n : ℕ} {s u : Tables} {ms q : List Marked} {xs : List Expr}
        → AreExprs (n + 1) w.CloseTuple s ms xs u q → IsExpr n s (at n (t.Symbol w.OpenTuple) ∷ ms)
        (e.Tuple 0 xs) u q
    list : {n : ℕ} {s u : Tables} {ms q : List Marked} {x : Expr} → IsList n s ms x u q
        → IsExpr n s (at n (t.Symbol w.OpenList) ∷ ms) x u q
    values : {n : ℕ} {s u : Tables} {ms q : List Marked} {xs : List Expr}
        → AreExprs (n + 1) w.Greater s ms xs u q → IsExpr n s (at n (t.Symbol w.Less) ∷ ms)
        (e.Values xs) u q
    let_in : {n : ℕ} {s i u v : Tables} {ms q r o : List Marked} {vs : List ℕ} {x y : Expr}
        → BindsValues (n + 1) s ms vs i (symbol w.Equals ∷ q)
        → IsExpr (n + 1) i q x u (symbol w.In ∷ r)
        → IsExpr (n + 1) u r y v o
        → IsExpr n s (at n (t.Symbol w.Let) ∷ ms) (e.Let vs x y) v o
    do_both : {n : ℕ} {s i u : Tables} {ms q r : List Marked} {x y : Expr}
        → IsExpr (n + 1) s ms x i q → IsExpr (n + 1) i q y u r
        → IsExpr n s (at n (t.Symbol w.Do) ∷ ms) (e.Do x y) u r
    case_of : {n : ℕ} {s i u v : Tables} {ms q r o : List Marked} {x : Expr} {c : Clause}
        {cs : List Clause}
        → IsExpr (n + 1) s ms x i (symbol w.Of ∷ q) → IsClause (n + 1) i q c u r
        → AreClauses (n + 1) w.End u r cs v o
        → IsExpr n s (at n (t.Symbol w.Case) ∷ ms) (e.Case x (c ∷ cs)) v o
    letrec_in : {n : ℕ} {s i u : Tables} {ms q r : List Marked} {fs : List Function} {x : Expr}
        → AreFunctions (n + 1) s ms fs i q → IsExpr (n + 1) i q x u r
        → IsExpr n s (at n (t.Symbol w.Letrec) ∷ ms) (e.Letrec fs x) u r
    apply : {n : ℕ} {s i u : Tables} {ms q r : List Marked} {x : Expr} {xs : List Expr}
        → IsExpr (n + 1) s ms x i (symbol w.Open ∷ q) → AreExprs (n + 1) w.Close i q xs u r
        → IsExpr n s (at n (t.Symbol w.Apply) ∷ ms) (e.Apply x xs) u r
    call : {n : ℕ} {s i u v : Tables} {ms q r o : List Marked} {x y : Expr} {xs : List Expr}
        → IsExpr (n + 1) s ms x i (symbol w.Colon ∷ q) → IsExpr (n + 1) i q y u (symbol w.Open ∷ r)
        → AreExprs (n + 1) w.Close u r xs v o
        → IsExpr n s (at n (t.Symbol w.Call) ∷ ms) (e.Call x y xs) v o
    primop : {n : ℕ} {s u : Tables} {ms q r : List Marked} {text : List ℕ} {xs : List Expr}
        → IsAtom (n + 1) ms text (symbol w.Open ∷ q)
        → AreExprs (n + 1) w.Close (with_atom s text) q xs u r
        → IsExpr n s (at n (t.Symbol w.Primop) ∷ ms) (e.Primop (atom_number s text) xs) u r
    receive_after : {n : ℕ} {s i u v : Tables} {ms q r o : List Marked}
        {cs : List Clause} {x y : Expr}
        → AreClauses (n + 1) w.After s ms cs i q → IsExpr (n + 1) i q x u (symbol w.Arrow ∷ r)
        → IsExpr (n + 1) u r y v o
        → IsExpr n s (at n (t.Symbol w.Receive) ∷ ms) (e.Receive cs x y) v o
    try_of : {n : ℕ} {s i u v o k : Tables} {ms q r a b c : List Marked}
        {vs ws : List ℕ} {x y z : Expr}
        → IsExpr (n + 1) s ms x i (symbol w.Of ∷ q) → BindsValues (n + 1) i q vs u
        (symbol w.Arrow ∷ r)
        → IsExpr (n + 1) u r y v (symbol w.Catch ∷ a)
        → BindsValues (n + 1) v a ws o (symbol w.Arrow ∷ b) → IsExpr (n + 1) o b z k c
        → IsExpr n s (at n (t.Symbol w.Try) ∷ ms) (e.Try x vs y ws z) k c
    catch_all : {n : ℕ} {s u : Tables} {ms q : List Marked} {x : Expr} → IsExpr (n + 1) s ms x u q
        → IsExpr n s (at n (t.Symbol w.Catch) ∷ ms) (e.Catch x) u q
    fun : {n : ℕ} {s i u : Tables} {ms q r : List Marked} {vs : List ℕ} {x : Expr}
        → AreVariables (n + 1) w.Close s ms vs i (symbol w.Arrow ∷ q) → IsExpr (n + 1) i q x u r
        → IsExpr n s (at n (t.Symbol w.Fun) ∷ symbol w.Open ∷ ms) (e.Fun vs x) u r
    noted : {n : ℕ} {s u : Tables} {ms q r : List Marked} {x : Expr} → IsExpr (n + 1) s ms x u q
        → IsNote n q r → IsExpr n s (at n (t.Symbol w.Open) ∷ ms) x u r

  -- expressions of level n with commas between them, and the mark that closes them
  pub data AreExprs : ℕ → Symbol → Tables → List Marked → List Expr → Tables
      → List Marked → Type 0 where
    no_exprs : {n : ℕ} {close : Symbol} {s : Tables} {q : List Marked}
        → AreExprs n close s (symbol close ∷ q) [] s q
    some_exprs : {n : ℕ} {close : Symbol} {s u o : Tables} {ms q r : List Marked} {x : Expr}
        {xs : List Expr} → IsExpr n s ms x u q → AreMoreExprs n close u q xs o r
        → AreExprs n close s ms (x ∷ xs) o r

  pub data AreMoreExprs : ℕ → Symbol → Tables → List Marked → List Expr → Tables
      → List Marked → Type 0 where
    no_more : {n : ℕ} {close : Symbol} {s : Tables} {q : List Marked}
        → AreMoreExprs n close s (symbol close ∷ q) [] s q
    one_more : {n : ℕ} {close : Symbol} {s u o : Tables} {ms q r : List Marked} {x : Expr}
        {xs : List Expr} → IsExpr n s ms x u q → AreMoreExprs n close u q xs o r
        → AreMoreExprs n close s (symbol w.Comma ∷ ms) (x ∷ xs) o r

  -- what is behind the bracket of a list notation of level n
  pub data IsList : ℕ → Tables → List Marked → Expr → Tables → List Marked → Type 0 where
    nil : {n : ℕ} {s : Tables} {q : List Marked} → IsList n s (symbol w.CloseList ∷ q) e.Nil s q
    heads : {n : ℕ} {s u o : Tables} {ms q r : List Marked} {x tail : Expr} {xs : List Expr}
        → IsExpr (n + 1) s ms x u q → IsListEnd n u q xs tail o r
        → IsList n s ms (joined (x ∷ xs) tail) o r

  -- more heads and the tail, behind a head of a list notation of level n
  pub data IsListEnd : ℕ → Tables → List Marked → List Expr → Expr → Tables
      → List Marked → Type 0 where
    closed : {n : ℕ} {s : Tables} {q : List Marked}
        → IsListEnd n s (symbol w.CloseList ∷ q) [] e.Nil s q
    next_head : {n : ℕ} {s u o : Tables} {ms q r : List Marked} {x tail : Expr} {xs : List Expr}
        → IsExpr (n + 1) s ms x u q → IsListEnd n u q xs tail o r
        → IsListEnd n s (symbol w.Comma ∷ ms) (x ∷ xs) tail o r
    tail : {n : ℕ} {s u : Tables} {ms q : List Marked} {tail : Expr}
        → IsTail n s ms tail u (symbol w.CloseList ∷ q)
        → IsListEnd n s (symbol w.Bar ∷ ms) [] tail u q

  -- the tail of a list notation of level n: a list notation has that level, anything else one more
  pub data IsTail : ℕ → Tables → List Marked → Expr → Tables → List Marked → Type 0 where
    list_tail : {n : ℕ} {s u : Tables} {ms q : List Marked} {x : Expr} → IsList n s ms x u q
        → IsTail n s (at n (t.Symbol w.OpenList) ∷ ms) x u q
    other_tail : {n : ℕ} {s u : Tables} {m : Marked} {ms q : List Marked} {x : Expr}
        → (m.token ≡ t.Symbol w.OpenList → ⊥) → IsExpr (n + 1) s (m ∷ ms) x u q
        → IsTail n s (m ∷ ms) x u q

  -- a clause whose patterns, guard and body have level n; annotations round it have the levels
  -- before
  pub data IsClause : ℕ → Tables → List Marked → Clause → Tables → List Marked → Type 0 where
    one_pattern : {n : ℕ} {s i u v : Tables} {ms q r o : List Marked} {x : Pattern} {g y : Expr}
        → IsPattern n s ms x i (symbol w.When ∷ q) → IsExpr n i q g u (symbol w.Arrow ∷ r)
        → IsExpr n u r y v o → IsClause n s ms (clause_of (x ∷ []) g y) v o
    patterns : {n : ℕ} {s i u v : Tables} {ms q r o : List Marked} {xs : List Pattern} {g y : Expr}
        → ArePatterns n w.Greater s ms xs i (symbol w.When ∷ q)
        → IsExpr n i q g u (symbol w.Arrow ∷ r)
        → IsExpr n u r y v o → IsClause n s (symbol w.Less ∷ ms) (clause_of xs g y) v o
    noted_clause : {n : ℕ} {s u : Tables} {ms q r : List Marked} {c : Clause}
        → IsClause (n + 1) s ms c u q → IsNote n q r
        → IsClause n s (at n (t.Symbol w.Open) ∷ ms) c u r

  -- clauses, and the keyword behind them
  pub data AreClauses : ℕ → Symbol → Tables → List Marked → List Clause → Tables
      → List Marked → Type 0 where
    no_clauses : {n : ℕ} {close : Symbol} {s : Tables} {q : List Marked}
        → AreClauses n close s (symbol close ∷ q) [] s q
    some_clauses : {n : ℕ} {close : Symbol} {s u o : Tables} {ms q r : List Marked} {c : Clause}
        {cs : List Clause} → IsClause n s ms c u q → AreClauses n close u q cs o r
        → AreClauses n close s ms (c ∷ cs) o r

  -- the parameters and the body of a definition, whose body has level n where nothing is annotated
  pub data IsFunction : ℕ → Tables → List Marked → List ℕ → Expr → Tables
      → List Marked → Type 0 where
    function_of : {n : ℕ} {s i u : Tables} {ms q r : List Marked} {vs : List ℕ} {x : Expr}
        → AreVariables n w.Close s ms vs i (symbol w.Arrow ∷ q) → IsExpr n i q x u r
        → IsFunction n s (symbol w.Fun ∷ symbol w.Open ∷ ms) vs x u r
    noted_function : {n : ℕ} {s u : Tables} {ms q r : List Marked} {vs : List ℕ} {x : Expr}
        → IsFunction (n + 1) s ms vs x u q → IsNote n q r
        → IsFunction n s (at n (t.Symbol w.Open) ∷ ms) vs x u r

  -- the definitions of a letrec, and the keyword behind them
  pub data AreFunctions : ℕ → Tables → List Marked → List Function → Tables
      → List Marked → Type 0 where
    no_functions : {n : ℕ} {s : Tables} {q : List Marked}
        → AreFunctions n s (symbol w.In ∷ q) [] s q
    some_functions : {n : ℕ} {s u o : Tables} {ms q r k : List Marked} {text digits vs : List ℕ}
        {x : Expr} {fs : List Function}
        → IsName n ms text digits (symbol w.Equals ∷ q) → IsFunction n (with_atom s text) q vs x u r
        → AreFunctions n u r fs o k
        → AreFunctions n s ms (function (named_by (atom_number s text) digits) vs x ∷ fs) o k
