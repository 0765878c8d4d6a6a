-- What each form builds of the values on top, and what is put behind the parts before it.
use Rattle.std.specs.Prelude.{ℕ, List, [], ◌∷◌, ◌++◌, Option, Some, None}
use Rattle.hy_core.specs.Patterns.{joined_pattern}
use Rattle.hy_core.specs.Expressions.{function, clause_of, joined}
use Rattle.hy_core.specs.declared.tables.Tables.{Tables}
use Rattle.hy_core.specs.declared.tree.Expr.{Expr}
use Rattle.hy_core.specs.declared.tree.Expr.TheVariants as e
use Rattle.hy_core.specs.declared.tree.FunName.{FunName}
use Rattle.hy_core.specs.declared.tree.Pattern.{Pattern}
use Rattle.hy_core.specs.declared.tree.Pattern.TheVariants as p
use Rattle.core_build.specs.Tops.{with_top, top_expr, top_exprs, top_pattern, top_patterns, top_variable, top_variables, top_clauses, top_functions, top_name, top_atom, top_head}
use Rattle.core_build.specs.declared.form.Part.{Part}
use Rattle.core_build.specs.declared.form.Part.TheVariants as part
use Rattle.core_build.specs.declared.value.Head.{Head}
use Rattle.core_build.specs.declared.value.Head.TheVariants as h
use Rattle.core_build.specs.declared.value.Value.{Value}
use Rattle.core_build.specs.declared.value.Value.TheVariants as v

-- a list notation, whose heads stand behind these
abbrev pub behind_heads : List Expr → Expr → Expr
behind_heads [] x = x
behind_heads (h ∷ hs) x = joined (h ∷ hs) x

abbrev pub behind_head_patterns : List Pattern → Pattern → Pattern
behind_head_patterns [] x = x
behind_head_patterns (h ∷ hs) x = joined_pattern (h ∷ hs) x

abbrev pub Built : Type 0
Built = Option (List Value)

-- an expression on top
abbrev pub expr_on : List Value → Expr → Built
expr_on vs x = Some (v.Expr x ∷ vs)

abbrev pub one_variable_built : List Value → Built
one_variable_built vs = with_top (top_variable vs) (λ x ws. Some (v.Variables (x ∷ []) ∷ ws))

abbrev pub tuple_built : List Value → Built
tuple_built vs = with_top (top_exprs vs) (λ xs ws. expr_on ws (e.Tuple 0 xs))

abbrev pub values_built : List Value → Built
values_built vs = with_top (top_exprs vs) (λ xs ws. expr_on ws (e.Values xs))

abbrev pub let_built : List Value → Built
let_built vs = with_top (top_expr vs)
    (λ y ws. with_top (top_expr ws)
    (λ x us. with_top (top_variables us) (λ xs os. expr_on os (e.Let xs x y))))

abbrev pub do_built : List Value → Built
do_built vs =
    with_top (top_expr vs) (λ y ws. with_top (top_expr ws) (λ x us. expr_on us (e.Do x y)))

abbrev pub case_built : List Value → Built
case_built vs =
    with_top (top_clauses vs) (λ cs ws. with_top (top_expr ws) (λ x us. expr_on us (e.Case x cs)))

abbrev pub letrec_built : List Value → Built
letrec_built vs = with_top (top_expr vs)
    (λ x ws. with_top (top_functions ws) (λ fs us. expr_on us (e.Letrec fs x)))

abbrev pub apply_built : List Value → Built
apply_built vs =
    with_top (top_exprs vs) (λ xs ws. with_top (top_expr ws) (λ x us. expr_on us (e.Apply x xs)))

abbrev pub call_built : List Value → Built
call_built vs = with_top (top_exprs vs)
    (λ xs ws. with_top (top_expr ws)
    (λ y us. with_top (top_expr us) (λ x os. expr_on os (e.Call x y xs))))

abbrev pub primop_built : List Value → Built
primop_built vs =
    with_top (top_exprs vs) (λ xs ws. with_top (top_atom ws) (λ k us. expr_on us (e.Primop k xs)))

abbrev pub receive_built : List Value → Built
receive_built vs = with_top (top_expr vs)
    (λ y ws. with_top (top_expr ws)
    (λ x us. with_top (top_clauses us) (λ cs os. expr_on os (e.Receive cs x y))))

-- behind the catch part's variables and its body
abbrev pub try_built_of : List ℕ → Expr → List Value → Built
try_built_of ys z vs = with_top (top_expr vs)
    (λ y ws. with_top (top_variables ws)
    (λ xs us. with_top (top_expr us) (λ x os. expr_on os (e.Try x xs y ys z))))

abbrev pub try_built : List Value → Built
try_built vs =
    with_top (top_expr vs) (λ z ws. with_top (top_variables ws) (λ ys us. try_built_of ys z us))

abbrev pub catch_built : List Value → Built
catch_built vs = with_top (top_expr vs) (λ x ws. expr_on ws (e.Catch x))

abbrev pub fun_built : List Value → Built
fun_built vs =
    with_top (top_expr vs) (λ x ws. with_top (top_variables ws) (λ xs us. expr_on us (e.Fun xs x)))

abbrev pub clause_built : List Value → Built
clause_built vs = with_top (top_expr vs)
    (λ y ws. with_top (top_expr ws)
    (λ x us. with_top (top_patterns us)
    (λ ps os. with_top (top_clauses os)
    (λ cs rs. Some (v.Clauses (cs ++ clause_of ps x y ∷ []) ∷ rs)))))

-- a function of this name behind those before it
abbrev pub function_added : FunName → List ℕ → Expr → List Value → Built
function_added name xs x vs =
    with_top (top_functions vs) (λ fs ws. Some (v.Functions (fs ++ function name xs x ∷ []) ∷ ws))

abbrev pub function_built : List Value → Built
function_built vs = with_top (top_expr vs)
    (λ x ws. with_top (top_variables ws)
    (λ xs us. with_top (top_name us) (λ name os. function_added name xs x os)))

-- with the tables as they are
abbrev pub with_tables : Tables → Built → Option (List Value × Tables)
with_tables s None = None
with_tables s (Some vs) = Some (vs, s)

-- there are functions on top
abbrev pub functions_kept : List Value → Built
functions_kept vs = with_top (top_functions vs) (λ fs ws. Some (v.Functions fs ∷ ws))

-- a definition, or the tables before a dropped one
abbrev pub defined : Head → List ℕ → Expr → List Value → Tables → Option (List Value × Tables)
defined (h.Name name) xs x vs s = with_tables s (function_added name xs x vs)
defined (h.Dropped before) xs x vs s = with_tables before (functions_kept vs)

abbrev pub definition_built : List Value → Tables → Option (List Value × Tables)
definition_built vs s = with_top (top_expr vs)
    (λ x ws. with_top (top_variables ws)
    (λ xs us. with_top (top_head us) (λ head os. defined head xs x os s)))

abbrev pub exprs_joined : List Value → Built
exprs_joined vs = with_top (top_expr vs)
    (λ x ws. with_top (top_exprs ws) (λ xs us. expr_on us (behind_heads xs x)))

abbrev pub patterns_joined : List Value → Built
patterns_joined vs = with_top (top_pattern vs)
    (λ x ws. with_top (top_patterns ws)
    (λ xs us. Some (v.Pattern (behind_head_patterns xs x) ∷ us)))

abbrev pub pattern_tuple_built : List Value → Built
pattern_tuple_built vs = with_top (top_patterns vs) (λ xs ws. Some (v.Pattern (p.Tuple xs) ∷ ws))

abbrev pub alias_built : List Value → Built
alias_built vs = with_top (top_pattern vs)
    (λ x ws. with_top (top_variable ws) (λ y us. Some (v.Pattern (p.Alias y x) ∷ us)))

abbrev pub joined_on : Part → List Value → Built
joined_on part.Expr vs = exprs_joined vs
joined_on part.Pattern vs = patterns_joined vs
joined_on part.Constant vs = Some vs
joined_on _ vs = None

abbrev pub expr_added : List Value → Built
expr_added vs = with_top (top_expr vs)
    (λ x ws. with_top (top_exprs ws) (λ xs us. Some (v.Exprs (xs ++ x ∷ []) ∷ us)))

abbrev pub pattern_added : List Value → Built
pattern_added vs = with_top (top_pattern vs)
    (λ x ws. with_top (top_patterns ws) (λ xs us. Some (v.Patterns (xs ++ x ∷ []) ∷ us)))

abbrev pub variable_added : List Value → Built
variable_added vs = with_top (top_variable vs)
    (λ x ws. with_top (top_variables ws) (λ xs us. Some (v.Variables (xs ++ x ∷ []) ∷ us)))

abbrev pub exprs_closed : List Value → Built
exprs_closed vs = with_top (top_exprs vs) (λ xs ws. expr_on ws (behind_heads xs e.Nil))

abbrev pub patterns_closed : List Value → Built
patterns_closed vs =
    with_top (top_patterns vs) (λ xs ws. Some (v.Pattern (behind_head_patterns xs p.Nil) ∷ ws))
