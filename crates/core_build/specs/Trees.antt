-- What is built of the values on top, by its form or by the kind of its parts.
use Rattle.std.specs.Prelude.{List, [], ◌∷◌, ◌++◌, Option, Some, None}
use Rattle.hy_core.specs.declared.tables.Tables.{Tables}
use Rattle.hy_core.specs.declared.tree.Expr.{Expr}
use Rattle.hy_core.specs.declared.tree.Expr.TheVariants as e
use Rattle.hy_core.specs.declared.tree.FunName.{FunName}
use Rattle.hy_core.specs.declared.tree.Pattern.{Pattern}
use Rattle.core_build.specs.Tops.{with_top, top_names, top_atom}
use Rattle.core_build.specs.declared.form.Part.{Part}
use Rattle.core_build.specs.declared.form.Part.TheVariants as part
use Rattle.core_build.specs.declared.form.Form.{Form}
use Rattle.core_build.specs.declared.form.Form.TheVariants as f
use Rattle.core_build.specs.declared.value.Value.{Value}
use Rattle.core_build.specs.declared.value.Value.TheVariants as v
use Rattle.core_build.specs.code.Forms.{Built, expr_on, one_variable_built, tuple_built, values_built, let_built, do_built, case_built, letrec_built, apply_built, call_built, primop_built, receive_built, try_built, catch_built, fun_built, clause_built, function_built, with_tables, definition_built, pattern_tuple_built, alias_built, joined_on, expr_added, pattern_added, variable_added, exprs_closed, patterns_closed}

abbrev pub built : Form → List Value → Tables → Option (List Value × Tables)
built f.OneVariable vs s = with_tables s (one_variable_built vs)
built f.Tuple vs s = with_tables s (tuple_built vs)
built f.Values vs s = with_tables s (values_built vs)
built f.Let vs s = with_tables s (let_built vs)
built f.Do vs s = with_tables s (do_built vs)
built f.NoClauses vs s = Some (v.Clauses [] ∷ vs, s)
built f.Case vs s = with_tables s (case_built vs)
built f.Letrec vs s = with_tables s (letrec_built vs)
built f.Apply vs s = with_tables s (apply_built vs)
built f.Call vs s = with_tables s (call_built vs)
built f.Primop vs s = with_tables s (primop_built vs)
built f.Receive vs s = with_tables s (receive_built vs)
built f.Try vs s = with_tables s (try_built vs)
built f.Catch vs s = with_tables s (catch_built vs)
built f.Fun vs s = with_tables s (fun_built vs)
built f.Clause vs s = with_tables s (clause_built vs)
built f.Function vs s = with_tables s (function_built vs)
built f.NoFunctions vs s = Some (v.Functions [] ∷ vs, s)
built f.Definition vs s = definition_built vs s
built (f.Join k) vs s = with_tables s (joined_on k vs)
built f.PatternTuple vs s = with_tables s (pattern_tuple_built vs)
built f.Alias vs s = with_tables s (alias_built vs)

-- the list of parts that is empty
abbrev pub opened : Part → List Value → List Value
opened part.Expr vs = v.Exprs [] ∷ vs
opened part.Pattern vs = v.Patterns [] ∷ vs
opened part.Variable vs = v.Variables [] ∷ vs
opened part.Export vs = v.Names [] ∷ vs
opened _ vs = vs

-- a part behind those before it; an export stands there already, and nothing is kept of constants
-- and attributes
abbrev pub added : Part → List Value → Built
added part.Expr vs = expr_added vs
added part.Pattern vs = pattern_added vs
added part.Variable vs = variable_added vs
added _ vs = Some vs

-- the list notation of the heads so far, closed by its bracket
abbrev pub closed : Part → List Value → Built
closed part.Expr vs = exprs_closed vs
closed part.Pattern vs = patterns_closed vs
closed part.Constant vs = Some vs
closed _ vs = None

-- the atom on top is an expression
abbrev pub atom_built : List Value → Built
atom_built vs = with_top (top_atom vs) (λ k ws. expr_on ws (e.Atom k))

abbrev pub name_added : FunName → List Value → Built
name_added name vs = with_top (top_names vs) (λ names ws. Some (v.Names (names ++ name ∷ []) ∷ ws))

-- there are names on top
abbrev pub names_kept : List Value → Built
names_kept vs = with_top (top_names vs) (λ names ws. Some (v.Names names ∷ ws))
