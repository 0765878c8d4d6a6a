-- Reading one token after the other: what is still to be read lies on a stack of goals, and what
-- was read on a stack of values.
use Rattle.std.specs.Prelude.{Bool, true, false, ◌==◌, ℕ, suc, ◌+◌, pos, nat_le, nat_lt, List, [], ◌∷◌, Option, Some, None, Result, Ok, Err, if◌then◌else◌}
use Rattle.std.specs.Str.{bytes_eq}
use Rattle.hy_terms.specs.Range.{is_in_range}
use Rattle.hy_core.specs.Marks.{Marked, Role, Value as OfValue, Arity as OfArity, at, constant, plain, value, number}
use Rattle.hy_core.specs.Numbering.{atom_number, with_atom, variable_number, with_variable, no_tables}
use Rattle.hy_core.specs.Patterns.{string_pattern}
use Rattle.hy_core.specs.Expressions.{named_by, string_expr}
use Rattle.core_build.specs.Tops.{with_top, top_pattern, top_functions, top_names, top_atom, has_pattern}
use Rattle.core_build.specs.Trees.{built, opened, added, closed, atom_built, name_added, names_kept}
use Rattle.core_build.specs.code.Forms.{Built, expr_on}
use Rattle.hy_core.specs.Grammar.{the_module_info, module_of}
use Rattle.hy_core.specs.declared.token.Symbol.{Symbol}
use Rattle.hy_core.specs.declared.token.Symbol.TheVariants as w
use Rattle.hy_core.specs.declared.token.Sign.{Sign}
use Rattle.hy_core.specs.declared.token.Sign.TheVariants as sign
use Rattle.hy_core.specs.declared.token.Token.{Token}
use Rattle.hy_core.specs.declared.token.Token.TheVariants as t
use Rattle.hy_core.specs.declared.refusal.RefusalKind.{RefusalKind}
use Rattle.hy_core.specs.declared.refusal.RefusalKind.TheVariants.{Unexpected, Ended, NumberRange, TooDeep}
use Rattle.hy_core.specs.declared.tables.Tables.{Tables}
use Rattle.hy_core.specs.declared.tree.Pattern.{Pattern}
use Rattle.hy_core.specs.declared.tree.Pattern.TheVariants as p
use Rattle.hy_core.specs.declared.tree.Expr.TheVariants as e
use Rattle.hy_core.specs.declared.tree.Module.{Module}
use Rattle.core_build.specs.declared.form.Part.{Part}
use Rattle.core_build.specs.declared.form.Part.TheVariants as part
use Rattle.core_parse.specs.declared.goal.Closer.{Closer}
use Rattle.core_parse.specs.declared.goal.Closer.TheVariants as closer
use Rattle.core_build.specs.declared.form.Form.TheVariants as f
use Rattle.core_parse.specs.declared.goal.Goal.{Goal}
use Rattle.core_parse.specs.declared.goal.Goal.TheVariants as g
use Rattle.core_build.specs.declared.value.Value.{Value}
use Rattle.core_build.specs.declared.value.Value.TheVariants as v
use Rattle.core_parse.specs.declared.state.State.{State}

abbrev pub state : List Goal → List Value → Tables → State
state gs vs s = record { goals = gs; values = vs; tables = s }

-- ---- tokens

-- symbols are told apart by their numbers
abbrev pub code : Symbol → ℕ
code w.After = 0
code w.Apply = 1
code w.Attributes = 2
code w.Call = 3
code w.Case = 4
code w.Catch = 5
code w.Do = 6
code w.End = 7
code w.Fun = 8
code w.In = 9
code w.Let = 10
code w.Letrec = 11
code w.Module = 12
code w.Of = 13
code w.Primop = 14
code w.Receive = 15
code w.Try = 16
code w.When = 17
code w.Open = 18
code w.Close = 19
code w.OpenTuple = 20
code w.CloseTuple = 21
code w.OpenList = 22
code w.CloseList = 23
code w.Less = 24
code w.Greater = 25
code w.Comma = 26
code w.Colon = 27
code w.Slash = 28
code w.Equals = 29
code w.Bar = 30
code w.Arrow = 31
code w.NoteBar = 32

abbrev pub is_symbol : Symbol → Token → Bool
is_symbol symbol (t.Symbol found) = code found == code symbol
is_symbol symbol _ = false

-- the symbol that a token is
abbrev pub symbol_in : Token → Option Symbol
symbol_in (t.Symbol k) = Some k
symbol_in _ = None

-- the next token is this symbol
abbrev pub is_next : Symbol → Option Symbol → Bool
is_next symbol (Some found) = code found == code symbol
is_next symbol None = false

abbrev pub closing : Closer → Symbol
closing closer.Tuple = w.CloseTuple
closing closer.List = w.CloseList
closing closer.Arguments = w.Close
closing closer.Values = w.Greater
closing closer.Case = w.End
closing closer.Receive = w.After

abbrev pub on : {A : Type 0} → Bool → A → Option A
on true a = Some a
on false a = None

-- ---- the first token of a part, with what follows the part below it on the stack of goals

-- behind the bar of an annotation
abbrev pub note_rest : ℕ → List Goal → List Goal
note_rest n gs =
    g.Symbol w.OpenList ∷ g.Parts part.Constant (n + 1) closer.List ∷ g.Symbol w.Close ∷ gs

-- a guard and a body
abbrev pub clause_rest : ℕ → List Goal → List Goal
clause_rest n gs =
    g.Part part.Expr n ∷ g.Symbol w.Arrow ∷ g.Part part.Expr n ∷ g.Build f.Clause ∷ gs

abbrev pub expr_opened : ℕ → List Goal → List Value → Tables → Symbol → Option State
expr_opened n gs vs s w.OpenList = Some (state (g.Heads part.Expr n ∷ gs) (v.Exprs [] ∷ vs) s)
expr_opened n gs vs s w.OpenTuple =
    Some (state (g.Parts part.Expr (n + 1) closer.Tuple ∷ g.Build f.Tuple ∷ gs) vs s)
expr_opened n gs vs s w.Less =
    Some (state (g.Parts part.Expr (n + 1) closer.Values ∷ g.Build f.Values ∷ gs) vs s)
expr_opened n gs vs s w.Let =
    Some (state (g.Bindings (n + 1) ∷ g.Symbol w.Equals ∷ g.Part part.Expr (n + 1) ∷ g.Symbol w.In
    ∷ g.Part part.Expr (n + 1) ∷ g.Build f.Let ∷ gs) vs s)
expr_opened n gs vs s w.Do =
    Some (state (g.Part part.Expr (n + 1) ∷ g.Part part.Expr (n + 1) ∷ g.Build f.Do ∷ gs) vs s)
expr_opened n gs vs s w.Case =
    Some (state (g.Part part.Expr (n + 1) ∷ g.Symbol w.Of ∷ g.Build f.NoClauses
    ∷ g.Clause (n + 1) false ∷ g.Clauses (n + 1) closer.Case ∷ g.Build f.Case ∷ gs) vs s)
expr_opened n gs vs s w.Letrec =
    Some (state (g.Functions (n + 1) ∷ g.Part part.Expr (n + 1) ∷ g.Build f.Letrec ∷ gs)
    (v.Functions [] ∷ vs) s)
expr_opened n gs vs s w.Apply =
    Some (state (g.Part part.Expr (n + 1) ∷ g.Symbol w.Open ∷ g.Parts part.Expr (n + 1)
    closer.Arguments ∷ g.Build f.Apply ∷ gs) vs s)
expr_opened n gs vs s w.Call =
    Some (state (g.Part part.Expr (n + 1) ∷ g.Symbol w.Colon ∷ g.Part part.Expr (n + 1)
    ∷ g.Symbol w.Open ∷ g.Parts part.Expr (n + 1) closer.Arguments ∷ g.Build f.Call ∷ gs) vs s)
expr_opened n gs vs s w.Primop =
    Some (state (g.Primop (n + 1) ∷ g.Symbol w.Open ∷ g.Parts part.Expr (n + 1) closer.Arguments
    ∷ g.Build f.Primop ∷ gs) vs s)
expr_opened n gs vs s w.Receive =
    Some (state (g.Clauses (n + 1) closer.Receive ∷ g.Part part.Expr (n + 1) ∷ g.Symbol w.Arrow
    ∷ g.Part part.Expr (n + 1) ∷ g.Build f.Receive ∷ gs) (v.Clauses [] ∷ vs) s)
expr_opened n gs vs s w.Try = Some (state
    (g.Part part.Expr (n + 1) ∷ g.Symbol w.Of ∷ g.Bindings (n + 1) ∷ g.Symbol w.Arrow
    ∷ g.Part part.Expr (n + 1) ∷ g.Symbol w.Catch
    ∷ g.Bindings (n + 1) ∷ g.Symbol w.Arrow ∷ g.Part part.Expr (n + 1) ∷ g.Build f.Try ∷ gs) vs s)
expr_opened n gs vs s w.Catch = Some (state (g.Part part.Expr (n + 1) ∷ g.Build f.Catch ∷ gs) vs s)
expr_opened n gs vs s w.Fun =
    Some (state (g.Symbol w.Open ∷ g.Parts part.Variable (n + 1) closer.Arguments ∷ g.Symbol w.Arrow
    ∷ g.Part part.Expr (n + 1) ∷ g.Build f.Fun ∷ gs) vs s)
expr_opened n gs vs s w.Open = Some (state (g.Part part.Expr (n + 1) ∷ g.Note n ∷ gs) vs s)
expr_opened n gs vs s _ = None

abbrev pub expr_begun : ℕ → List Goal → List Value → Tables → Token → Option State
expr_begun n gs vs s (t.Integer sign digits) =
    Some (state gs (v.Expr (e.Int (number sign (value digits))) ∷ vs) s)
expr_begun n gs vs s (t.Character byte) = Some (state gs (v.Expr (e.Int (pos byte)) ∷ vs) s)
expr_begun n gs vs s (t.Atom text) =
    Some (state (g.NameOrAtom ∷ gs) (v.Atom (atom_number s text) ∷ vs) (with_atom s text))
expr_begun n gs vs s (t.Str text) = Some (state gs (v.Expr (string_expr text) ∷ vs) s)
expr_begun n gs vs s (t.Variable name) =
    Some (state gs (v.Expr (e.Var (variable_number s name)) ∷ vs) (with_variable s name))
expr_begun n gs vs s (t.Symbol symbol) = expr_opened n gs vs s symbol

abbrev pub pattern_opened : ℕ → List Goal → List Value → Tables → Symbol → Option State
pattern_opened n gs vs s w.OpenList =
    Some (state (g.Heads part.Pattern n ∷ gs) (v.Patterns [] ∷ vs) s)
pattern_opened n gs vs s w.OpenTuple =
    Some (state (g.Parts part.Pattern (n + 1) closer.Tuple ∷ g.Build f.PatternTuple ∷ gs) vs s)
pattern_opened n gs vs s w.Open =
    Some (state (g.Part part.Pattern (n + 1) ∷ g.Note n ∷ g.Alias n ∷ gs) vs s)
pattern_opened n gs vs s _ = None

abbrev pub pattern_begun : ℕ → List Goal → List Value → Tables → Token → Option State
pattern_begun n gs vs s (t.Integer sign digits) =
    Some (state gs (v.Pattern (p.Int (number sign (value digits))) ∷ vs) s)
pattern_begun n gs vs s (t.Character byte) = Some (state gs (v.Pattern (p.Int (pos byte)) ∷ vs) s)
pattern_begun n gs vs s (t.Atom text) =
    Some (state gs (v.Pattern (p.Atom (atom_number s text)) ∷ vs) (with_atom s text))
pattern_begun n gs vs s (t.Str text) = Some (state gs (v.Pattern (string_pattern text) ∷ vs) s)
pattern_begun n gs vs s (t.Variable name) =
    Some (state (g.Alias n ∷ gs) (v.Pattern (p.Var (variable_number s name)) ∷ vs)
    (with_variable s name))
pattern_begun n gs vs s (t.Symbol symbol) = pattern_opened n gs vs s symbol

abbrev pub constant_opened : ℕ → List Goal → List Value → Tables → Symbol → Option State
constant_opened n gs vs s w.OpenList = Some (state (g.Heads part.Constant n ∷ gs) vs s)
constant_opened n gs vs s w.OpenTuple =
    Some (state (g.Parts part.Constant (n + 1) closer.Tuple ∷ gs) vs s)
constant_opened n gs vs s _ = None

abbrev pub constant_begun : ℕ → List Goal → List Value → Tables → Token → Option State
constant_begun n gs vs s (t.Variable name) = None
constant_begun n gs vs s (t.Symbol symbol) = constant_opened n gs vs s symbol
constant_begun n gs vs s _ = Some (state gs vs s)

abbrev pub variable_begun : ℕ → List Goal → List Value → Tables → Token → Option State
variable_begun n gs vs s (t.Variable name) =
    Some (state gs (v.Variable (variable_number s name) ∷ vs) (with_variable s name))
variable_begun n gs vs s (t.Symbol w.Open) =
    Some (state (g.Part part.Variable (n + 1) ∷ g.Note n ∷ gs) vs s)
variable_begun n gs vs s _ = None

abbrev pub is_info : List ℕ → Bool
is_info text = bytes_eq text the_module_info

abbrev pub export_begun : ℕ → List Goal → List Value → Tables → Token → Option State
export_begun n gs vs s (t.Atom text) =
    if is_info text then Some (state (g.Symbol w.Slash ∷ g.InfoExportArity ∷ gs) vs s)
    else Some (state (g.Symbol w.Slash ∷ g.ExportArity ∷ gs) (v.Atom (atom_number s text) ∷ vs)
    (with_atom s text))
export_begun n gs vs s (t.Symbol w.Open) =
    Some (state (g.Part part.Export (n + 1) ∷ g.Note n ∷ gs) vs s)
export_begun n gs vs s _ = None

abbrev pub key_begun : ℕ → List Goal → List Value → Tables → Token → Option State
key_begun n gs vs s (t.Atom text) = Some (state gs vs s)
key_begun n gs vs s (t.Symbol w.Open) = Some (state (g.Key (n + 1) ∷ g.Note n ∷ gs) vs s)
key_begun n gs vs s _ = None

abbrev pub attribute_begun : ℕ → List Goal → List Value → Tables → Token → Option State
attribute_begun n gs vs s token =
    key_begun n (g.Symbol w.Equals ∷ g.AttributeValue n ∷ gs) vs s token

abbrev pub part_begun : Part → ℕ → List Goal → List Value → Tables → Token → Option State
part_begun part.Expr n gs vs s token = expr_begun n gs vs s token
part_begun part.Pattern n gs vs s token = pattern_begun n gs vs s token
part_begun part.Constant n gs vs s token = constant_begun n gs vs s token
part_begun part.Variable n gs vs s token = variable_begun n gs vs s token
part_begun part.Export n gs vs s token = export_begun n gs vs s token
part_begun part.Attribute n gs vs s token = attribute_begun n gs vs s token

abbrev pub value_begun : ℕ → List Goal → List Value → Tables → Token → Option State
value_begun n gs vs s (t.Symbol w.Open) =
    Some (state (g.AttributeValue (n + 1) ∷ g.Note n ∷ gs) vs s)
value_begun n gs vs s token = constant_begun n gs vs s token

abbrev pub primop_begun : ℕ → List Goal → List Value → Tables → Token → Option State
primop_begun n gs vs s (t.Atom text) =
    Some (state gs (v.Atom (atom_number s text) ∷ vs) (with_atom s text))
primop_begun n gs vs s (t.Symbol w.Open) = Some (state (g.Primop (n + 1) ∷ g.Note n ∷ gs) vs s)
primop_begun n gs vs s _ = None

abbrev pub function_begun : ℕ → List Goal → List Value → Tables → Token → Option State
function_begun n gs vs s (t.Atom text) =
    Some (state (g.Symbol w.Slash ∷ g.FunctionArity ∷ gs) (v.Atom (atom_number s text) ∷ vs)
    (with_atom s text))
function_begun n gs vs s (t.Symbol w.Open) =
    Some (state (g.FunctionName (n + 1) ∷ g.Note n ∷ gs) vs s)
function_begun n gs vs s _ = None

abbrev pub definition_begun : ℕ → List Goal → List Value → Tables → Token → Option State
definition_begun n gs vs s (t.Atom text) =
    if is_info text then Some (state (g.Symbol w.Slash ∷ g.InfoArity ∷ gs) vs s)
    else Some (state (g.Symbol w.Slash ∷ g.FunctionArity ∷ gs) (v.Atom (atom_number s text) ∷ vs)
    (with_atom s text))
definition_begun n gs vs s (t.Symbol w.Open) =
    Some (state (g.DefinitionName (n + 1) ∷ g.Note n ∷ gs) vs s)
definition_begun n gs vs s _ = None

abbrev pub body_begun : ℕ → List Goal → List Value → Tables → Token → Option State
body_begun n gs vs s (t.Symbol w.Fun) =
    Some (state (g.Symbol w.Open ∷ g.Parts part.Variable n closer.Arguments ∷ g.Symbol w.Arrow
    ∷ g.Part part.Expr n ∷ gs) vs s)
body_begun n gs vs s (t.Symbol w.Open) = Some (state (g.FunctionBody (n + 1) ∷ g.Note n ∷ gs) vs s)
body_begun n gs vs s _ = None

abbrev pub clause_begun : ℕ → Bool → List Goal → List Value → Tables → Token → Option State
clause_begun n inner gs vs s (t.Symbol w.Open) =
    Some (state (g.Clause (n + 1) true ∷ g.ClauseNote n inner ∷ gs) vs s)
clause_begun n inner gs vs s (t.Symbol w.Less) =
    Some (state (g.Parts part.Pattern n closer.Values ∷ g.Symbol w.When ∷ clause_rest n gs) vs s)
clause_begun n inner gs vs s token = pattern_begun n (g.ClauseRest n inner ∷ gs) vs s token

abbrev pub module_begun : ℕ → List Goal → List Value → Tables → Token → Option State
module_begun n gs vs s (t.Symbol w.Module) = Some (state
    (g.ModuleName ∷ g.Symbol w.OpenList ∷ g.Parts part.Export (n + 1) closer.List
    ∷ g.Symbol w.Attributes ∷ g.Symbol w.OpenList ∷ g.Parts part.Attribute (n + 1) closer.List
    ∷ g.Build f.NoFunctions ∷ g.Definitions (n + 1) ∷ gs) vs s)
module_begun n gs vs s (t.Symbol w.Open) = Some (state (g.Module (n + 1) ∷ g.Note n ∷ gs) vs s)
module_begun n gs vs s _ = None

-- ---- a goal's token

-- where the values are such
abbrev pub with_values : Option (List Value) → (List Value → Option State) → Option State
with_values None go = None
with_values (Some vs) go = go vs

abbrev pub parts_moved : Part → ℕ → Closer → List Goal → List Value → Tables → Token → Option State
parts_moved k n c gs vs s token =
    if is_symbol (closing c) token then Some (state gs (opened k vs) s)
    else part_begun k n (g.MoreParts k n c ∷ gs) (opened k vs) s token

abbrev pub more_parts_moved : Part → ℕ → Closer → List Goal → List Value → Tables
    → Token → Option State
more_parts_moved k n c gs vs s token =
    if is_symbol (closing c) token then with_values (added k vs) (λ ws. Some (state gs ws s))
    else if is_symbol w.Comma token then with_values (added k vs)
    (λ ws. Some (state (g.Part k n ∷ g.MoreParts k n c ∷ gs) ws s))
    else None

abbrev pub heads_moved : Part → ℕ → List Goal → List Value → Tables → Token → Option State
heads_moved k n gs vs s token =
    if is_symbol w.CloseList token then with_values (closed k vs) (λ ws. Some (state gs ws s))
    else part_begun k (n + 1) (g.MoreHeads k n ∷ gs) vs s token

abbrev pub more_heads_moved : Part → ℕ → List Goal → List Value → Tables → Token → Option State
more_heads_moved k n gs vs s token =
    if is_symbol w.CloseList token then with_values (added k vs)
    (λ ws. with_values (closed k ws) (λ os. Some (state gs os s)))
    else if is_symbol w.Comma token then with_values (added k vs)
    (λ ws. Some (state (g.Part k (n + 1) ∷ g.MoreHeads k n ∷ gs) ws s))
    else if is_symbol w.Bar token then with_values (added k vs)
    (λ ws. Some (state (g.Tail k n ∷ gs) ws s))
    else None

abbrev pub tail_moved : Part → ℕ → List Goal → List Value → Tables → Token → Option State
tail_moved k n gs vs s token =
    if is_symbol w.OpenList token then Some (state (g.Heads k n ∷ g.Symbol w.CloseList ∷ gs) vs s)
    else part_begun k (n + 1) (g.Symbol w.CloseList ∷ g.Build (f.Join k) ∷ gs) vs s token

-- where the values are such
abbrev pub on_values : List Goal → Tables → Option (List Value) → Option State
on_values gs s None = None
on_values gs s (Some vs) = Some (state gs vs s)

abbrev pub name_built : ℕ → List Value → Built
name_built n vs =
    with_top (top_atom vs) (λ k ws. expr_on ws (e.Name (record { name = k; arity = n })))

abbrev pub function_name_built : ℕ → List Value → Built
function_name_built n vs =
    with_top (top_atom vs) (λ k ws. Some (v.Name (record { name = k; arity = n }) ∷ ws))

abbrev pub export_built : ℕ → List Value → Built
export_built n vs = with_top (top_atom vs) (λ k ws. name_added (record { name = k; arity = n }) ws)

-- the arity of a function's name whose atom is on top
abbrev pub arity_moved : List Goal → List Value → Tables → Token → Option State
arity_moved gs vs s (t.Integer sign.Absent digits) = on_values gs s (name_built (value digits) vs)
arity_moved gs vs s token = None

abbrev pub function_arity_moved : List Goal → List Value → Tables → Token → Option State
function_arity_moved gs vs s (t.Integer sign.Absent digits) =
    on_values gs s (function_name_built (value digits) vs)
function_arity_moved gs vs s token = None

abbrev pub info_arity_moved : List Goal → List Value → Tables → Token → Option State
info_arity_moved gs vs s (t.Integer sign.Absent digits) =
    if nat_le (value digits) 1 then Some (state gs (v.Dropped s ∷ vs) no_tables)
    else Some (state gs (v.Name (named_by (atom_number s the_module_info) digits) ∷ vs)
    (with_atom s the_module_info))
info_arity_moved gs vs s token = None

abbrev pub export_arity_moved : List Goal → List Value → Tables → Token → Option State
export_arity_moved gs vs s (t.Integer sign.Absent digits) =
    on_values gs s (export_built (value digits) vs)
export_arity_moved gs vs s token = None

abbrev pub info_export_moved : List Goal → List Value → Tables → Token → Option State
info_export_moved gs vs s (t.Integer sign.Absent digits) =
    if nat_le (value digits) 1 then on_values gs s (names_kept vs)
    else on_values gs (with_atom s the_module_info)
    (name_added (named_by (atom_number s the_module_info) digits) vs)
info_export_moved gs vs s token = None

-- behind a pattern, the rest of an alias
abbrev pub aliased_by : ℕ → List Goal → Pattern → List Value → Tables → Option State
aliased_by n gs (p.Var y) vs s =
    Some (state (g.Part part.Pattern (n + 1) ∷ g.Build f.Alias ∷ gs) (v.Variable y ∷ vs) s)
aliased_by n gs _ vs s = None

abbrev pub alias_moved : ℕ → List Goal → List Value → Tables → Token → Option State
alias_moved n gs vs s token = if is_symbol w.Equals token then with_top (top_pattern vs)
    (λ x ws. aliased_by n gs x ws s) else None

abbrev pub bindings_moved : ℕ → List Goal → List Value → Tables → Token → Option State
bindings_moved n gs vs s token =
    if is_symbol w.Less token then Some (state (g.Parts part.Variable n closer.Values ∷ gs) vs s)
    else variable_begun n (g.Build f.OneVariable ∷ gs) vs s token

abbrev pub clauses_moved : ℕ → Closer → List Goal → List Value → Tables → Token → Option State
clauses_moved n c gs vs s token =
    if is_symbol (closing c) token then Some (state gs vs s)
    else clause_begun n false (g.Clauses n c ∷ gs) vs s token

abbrev pub clause_rest_moved : ℕ → List Goal → List Value → Tables → Token → Option State
clause_rest_moved n gs vs s token = if is_symbol w.When token then with_top (top_pattern vs)
    (λ x ws. Some (state (clause_rest n gs) (v.Patterns (x ∷ []) ∷ ws) s)) else None

-- behind the annotation round a pattern, the clause goes on; behind that round a clause, nothing
-- does
abbrev pub behind_note : ℕ → Bool → List Goal → List Value → List Goal
behind_note n inner gs vs = if has_pattern vs then g.Alias n ∷ g.ClauseRest n inner ∷ gs else gs

abbrev pub functions_moved : ℕ → List Goal → List Value → Tables → Token → Option State
functions_moved n gs vs s token =
    if is_symbol w.In token then Some (state gs vs s)
    else function_begun n (g.Symbol w.Equals ∷ g.FunctionBody n ∷ g.Build f.Function ∷ g.Functions n
    ∷ gs) vs s token

abbrev pub definitions_moved : ℕ → List Goal → List Value → Tables → Token → Option State
definitions_moved n gs vs s token =
    if is_symbol w.End token then Some (state gs vs s)
    else definition_begun n (g.Symbol w.Equals ∷ g.FunctionBody n ∷ g.Build f.Definition
    ∷ g.Definitions n ∷ gs) vs s token

abbrev pub name_moved : List Goal → List Value → Tables → Token → Option State
name_moved gs vs s (t.Atom text) =
    Some (state gs (v.Atom (atom_number s text) ∷ vs) (with_atom s text))
name_moved gs vs s _ = None

-- the goal on top takes the token, with no look at levels and ranges
abbrev pub goal_moved : Goal → List Goal → List Value → Tables → Token → Option State
goal_moved (g.Symbol symbol) gs vs s token = on (is_symbol symbol token) (state gs vs s)
goal_moved (g.Part k n) gs vs s token = part_begun k n gs vs s token
goal_moved (g.Parts k n c) gs vs s token = parts_moved k n c gs vs s token
goal_moved (g.MoreParts k n c) gs vs s token = more_parts_moved k n c gs vs s token
goal_moved (g.Heads k n) gs vs s token = heads_moved k n gs vs s token
goal_moved (g.MoreHeads k n) gs vs s token = more_heads_moved k n gs vs s token
goal_moved (g.Tail k n) gs vs s token = tail_moved k n gs vs s token
goal_moved g.NameOrAtom gs vs s token = on (is_symbol w.Slash token) (state (g.Arity ∷ gs) vs s)
goal_moved g.Arity gs vs s token = arity_moved gs vs s token
goal_moved (g.Alias n) gs vs s token = alias_moved n gs vs s token
goal_moved (g.Bindings n) gs vs s token = bindings_moved n gs vs s token
goal_moved (g.Clauses n c) gs vs s token = clauses_moved n c gs vs s token
goal_moved (g.Clause n inner) gs vs s token = clause_begun n inner gs vs s token
goal_moved (g.ClauseRest n inner) gs vs s token = clause_rest_moved n gs vs s token
goal_moved (g.ClauseNote n inner) gs vs s token =
    on (is_symbol w.NoteBar token) (state (note_rest n (behind_note n inner gs vs)) vs s)
goal_moved (g.Note n) gs vs s token = on (is_symbol w.NoteBar token) (state (note_rest n gs) vs s)
goal_moved (g.Key n) gs vs s token = key_begun n gs vs s token
goal_moved (g.AttributeValue n) gs vs s token = value_begun n gs vs s token
goal_moved (g.Primop n) gs vs s token = primop_begun n gs vs s token
goal_moved g.ExportArity gs vs s token = export_arity_moved gs vs s token
goal_moved g.InfoExportArity gs vs s token = info_export_moved gs vs s token
goal_moved g.FunctionArity gs vs s token = function_arity_moved gs vs s token
goal_moved g.InfoArity gs vs s token = info_arity_moved gs vs s token
goal_moved (g.Functions n) gs vs s token = functions_moved n gs vs s token
goal_moved (g.FunctionName n) gs vs s token = function_begun n gs vs s token
goal_moved (g.Definitions n) gs vs s token = definitions_moved n gs vs s token
goal_moved (g.DefinitionName n) gs vs s token = definition_begun n gs vs s token
goal_moved (g.FunctionBody n) gs vs s token = body_begun n gs vs s token
goal_moved (g.Module n) gs vs s token = module_begun n gs vs s token
goal_moved g.ModuleName gs vs s token = name_moved gs vs s token
goal_moved (g.Build form) gs vs s token = None

-- ---- marks

abbrev pub open_list : Token
open_list = t.Symbol w.OpenList

-- what can't be annotated has no level, but its annotation has
abbrev pub annotation_mark : ℕ → Token → Marked
annotation_mark n (t.Symbol w.Open) = at n (t.Symbol w.Open)
annotation_mark n token = plain token

abbrev pub part_mark : Part → ℕ → Token → Marked
part_mark part.Expr n token = at n token
part_mark part.Pattern n token = at n token
part_mark part.Constant n token = constant n token
part_mark _ n token = annotation_mark n token

abbrev pub value_mark : ℕ → Token → Marked
value_mark n (t.Symbol w.Open) = at n (t.Symbol w.Open)
value_mark n token = constant n token

abbrev pub clause_mark : ℕ → Token → Marked
clause_mark n (t.Symbol w.Less) = plain (t.Symbol w.Less)
clause_mark n token = at n token

abbrev pub arity_mark : Token → Marked
arity_mark token = record { level = 0; role = OfArity; token = token }

abbrev pub mark : Goal → Token → Marked
mark (g.Part k n) token = part_mark k n token
mark (g.Parts k n c) token =
    if is_symbol (closing c) token then plain token else part_mark k n token
mark (g.Heads k n) token =
    if is_symbol w.CloseList token then plain token else part_mark k (n + 1) token
mark (g.Tail k n) token =
    if is_symbol w.OpenList token then part_mark k n token else part_mark k (n + 1) token
mark (g.Bindings n) token = annotation_mark n token
mark (g.Clauses n c) token =
    if is_symbol (closing c) token then plain token else clause_mark n token
mark (g.Clause n inner) token = clause_mark n token
mark (g.Key n) token = annotation_mark n token
mark (g.AttributeValue n) token = value_mark n token
mark (g.Primop n) token = annotation_mark n token
mark g.Arity token = arity_mark token
mark g.ExportArity token = arity_mark token
mark g.InfoExportArity token = arity_mark token
mark g.FunctionArity token = arity_mark token
mark g.InfoArity token = arity_mark token
mark (g.Functions n) token = annotation_mark n token
mark (g.FunctionName n) token = annotation_mark n token
mark (g.Definitions n) token = annotation_mark n token
mark (g.DefinitionName n) token = annotation_mark n token
mark (g.FunctionBody n) token = annotation_mark n token
mark (g.Module n) token = at n token
mark _ token = plain token

abbrev pub in_range : Sign → ℕ → Bool
in_range sign n = is_in_range (number sign n)

abbrev pub fits : Role → Token → Bool
fits OfValue (t.Integer sign digits) = in_range sign (value digits)
fits OfArity (t.Integer sign digits) = nat_le (value digits) 65535
fits _ _ = true

-- a move whose token is neither too deep nor out of range
abbrev pub checked : Marked → Option State → Result State RefusalKind
checked m None = Err Unexpected
checked m (Some r) = if nat_lt 400 m.level then Err TooDeep else if fits m.role m.token then Ok r
    else Err NumberRange

-- ---- the whole machine

abbrev pub with_built : Option (List Value × Tables) → (List Value → Tables → Option State)
    → Option State
with_built None go = None
with_built (Some r) go = go r.0 r.1

-- What takes the next token, which may be a symbol: trees whose parts are read are built, and goals
-- that may be nothing are passed over where the symbol doesn't go on with them.
unfoldable pub settled : List Goal → List Value → Tables → Option Symbol → Option State
settled [] vs s next = Some (state [] vs s)
settled (g.Build form ∷ gs) vs s next = with_built (built form vs s) (λ ws u. settled gs ws u next)
settled (g.NameOrAtom ∷ gs) vs s next =
    if is_next w.Slash next then Some (state (g.NameOrAtom ∷ gs) vs s)
    else with_values (atom_built vs) (λ ws. settled gs ws s next)
settled (g.Alias n ∷ gs) vs s next =
    if is_next w.Equals next then Some (state (g.Alias n ∷ gs) vs s) else settled gs vs s next
settled (g.ClauseRest n true ∷ gs) vs s next = if is_next w.When next
    then Some (state (g.ClauseRest n true ∷ gs) vs s) else settled gs vs s next
settled (goal ∷ gs) vs s next = Some (state (goal ∷ gs) vs s)

-- the goal on top of these takes the token
abbrev pub taken : List Goal → List Value → Tables → Token → Result State RefusalKind
taken [] vs s token = Err Unexpected
taken (goal ∷ gs) vs s token = checked (mark goal token) (goal_moved goal gs vs s token)

abbrev pub taken_from : Option State → Token → Result State RefusalKind
taken_from None token = Err Unexpected
taken_from (Some r) token = taken r.goals r.values r.tables token

abbrev pub stepped : State → Token → Result State RefusalKind
stepped r token = taken_from (settled r.goals r.values r.tables (symbol_in token)) token

-- the module of these parts, where nothing else was read
abbrev pub alone : Module → List Value → Option Module
alone z [] = Some z
alone z vs = None

-- the module whose parts are read
abbrev pub module_built : List Value → Tables → Option Module
module_built vs s = with_top (top_functions vs)
    (λ fs ws. with_top (top_names ws)
    (λ names us. with_top (top_atom us) (λ name os. alone (module_of name names fs s) os)))

abbrev pub finished : List Goal → List Value → Tables → Option Module
finished [] vs s = module_built vs s
finished gs vs s = None

abbrev pub finished_from : Option State → Option Module
finished_from None = None
finished_from (Some r) = finished r.goals r.values r.tables

-- no token is left
abbrev pub ended : State → Option Module
ended r = finished_from (settled r.goals r.values r.tables None)

-- a module, or the kind of a refusal and the number of tokens before it
abbrev pub Reading : Type 0
Reading = Result Module (RefusalKind × ℕ)

abbrev pub ended_at : ℕ → Option Module → Reading
ended_at i None = Err (Ended, i)
ended_at i (Some z) = Ok z

abbrev pub goes_on : ℕ → Result State RefusalKind → (State → Reading) → Reading
goes_on i (Err kind) go = Err (kind, i)
goes_on i (Ok r) go = go r

unfoldable pub run : ℕ → List Token → State → Reading
run i [] r = ended_at i (ended r)
run i (token ∷ ts) r = goes_on i (stepped r token) (λ q. run (suc i) ts q)

-- a module is to be read
abbrev pub start : State
start = state (g.Module 0 ∷ []) [] no_tables
