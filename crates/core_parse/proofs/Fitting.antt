-- Values fit the goals: whatever is read next, each tree finds its parts. So each state that is reached can be completed.
use Rattle.std.proofs.Common.{◌≡◌, ℕ, ◌+◌, leb, Bool, true, false, cond, List, [], ◌∷◌, Option, Some, None, refl}
use Rattle.hy_core.specs.Marks.{value}
use Rattle.hy_core.specs.declared.token.Symbol.{Symbol}
use Rattle.hy_core.specs.declared.token.Symbol.TheVariants as w
use Rattle.hy_core.specs.declared.token.Sign.TheVariants as sign
use Rattle.hy_core.specs.declared.token.Token.{Token}
use Rattle.hy_core.specs.declared.token.Token.TheVariants as t
use Rattle.hy_core.specs.declared.tables.Tables.{Tables}
use Rattle.core_build.specs.declared.form.Part.{Part}
use Rattle.core_build.specs.declared.form.Part.TheVariants as part
use Rattle.core_parse.specs.declared.goal.Closer.{Closer}
use Rattle.core_build.specs.declared.form.Form.TheVariants as f
use Rattle.core_parse.specs.declared.goal.Goal.{Goal}
use Rattle.core_parse.specs.declared.goal.Goal.TheVariants as g
use Rattle.core_build.specs.declared.value.Value.{Value}
use Rattle.core_build.specs.declared.value.Value.TheVariants as v
use Rattle.core_parse.specs.declared.state.State.{State}
use Rattle.core_parse.specs.code.Pushdown.{closing, on, is_symbol, is_next, is_info, with_built, part_begun, expr_begun, pattern_begun, constant_begun, variable_begun, export_begun, key_begun, value_begun, primop_begun, function_begun, definition_begun, body_begun, clause_begun, module_begun, aliased_by, goal_moved, settled, finished_from}
use Rattle.core_build.specs.Trees.{built}
use Rattle.hy_core.specs.declared.tree.FunName.{FunName}
use Rattle.hy_core.specs.declared.tree.Function.{Function}
use Rattle.hy_core.specs.declared.tree.Clause.{Clause}
use Rattle.hy_core.specs.declared.tree.Pattern.{Pattern}
use Rattle.hy_core.specs.declared.tree.Pattern.TheVariants as p
use Rattle.hy_core.specs.declared.tree.Expr.{Expr}
use Rattle.hy_core.specs.declared.tree.Expr.TheVariants as e

-- ---- what fits

-- what completes the goals needn't begin with =
abbrev pub Quiet : List Goal → Type 0
Quiet [] = Unit {0}
Quiet (g.Symbol k ∷ gs) = is_symbol w.Equals (t.Symbol k) ≡ false
Quiet (g.MoreParts k n c ∷ gs) = Unit {0}
Quiet (g.MoreHeads k n ∷ gs) = Unit {0}
Quiet (g.Build form ∷ gs) = Quiet gs
Quiet (g.Alias n ∷ gs) = Quiet gs
Quiet (g.ClauseRest n inner ∷ gs) = Unit {0}
Quiet (g.ClauseNote n inner ∷ gs) = Unit {0}
Quiet (g.Note n ∷ gs) = Unit {0}
Quiet _ = ⊥

-- the parts of a module, and nothing else
abbrev pub IsDone : List Value → Type 0
IsDone (v.Functions fs ∷ v.Names es ∷ v.Atom k ∷ []) = Unit {0}
IsDone _ = ⊥

abbrev pub IfBuilt : Option (List Value × Tables) → (List Value → Type 0) → Type 0
IfBuilt None fits = ⊥
IfBuilt (Some r) fits = fits r.0

-- behind a parenthesis a clause may turn out to be a pattern
abbrev pub IfInner : Bool → Type 0 → Type 0
IfInner false A = Unit {0}
IfInner true A = A

-- Below, fits says which values fit the goals behind the first.
abbrev pub Fitting : Type 1
Fitting = List Value → Type 0

abbrev pub PartFits : Part → List Goal → List Value → Fitting → Type 0
PartFits part.Expr gs vs fits = (x : Expr) → fits (v.Expr x ∷ vs)
PartFits part.Pattern gs vs fits = Quiet gs × ((x : Pattern) → fits (v.Pattern x ∷ vs))
PartFits part.Variable gs vs fits = (x : ℕ) → fits (v.Variable x ∷ vs)
PartFits part.Export gs (v.Names es ∷ vs) fits = (xs : List FunName) → fits (v.Names xs ∷ vs)
PartFits part.Export gs _ fits = ⊥
PartFits _ gs vs fits = fits vs

abbrev pub PartsFit : Part → List Value → Fitting → Type 0
PartsFit part.Expr vs fits = (xs : List Expr) → fits (v.Exprs xs ∷ vs)
PartsFit part.Pattern vs fits = (xs : List Pattern) → fits (v.Patterns xs ∷ vs)
PartsFit part.Variable vs fits = (xs : List ℕ) → fits (v.Variables xs ∷ vs)
PartsFit part.Export vs fits = (xs : List FunName) → fits (v.Names xs ∷ vs)
PartsFit _ vs fits = fits vs

abbrev pub MorePartsFit : Part → List Value → Fitting → Type 0
MorePartsFit part.Expr (v.Expr x ∷ v.Exprs xs ∷ vs) fits = (ys : List Expr) → fits (v.Exprs ys ∷ vs)
MorePartsFit part.Pattern (v.Pattern x ∷ v.Patterns xs ∷ vs) fits = (ys : List Pattern) → fits (v.Patterns ys ∷ vs)
MorePartsFit part.Variable (v.Variable x ∷ v.Variables xs ∷ vs) fits = (ys : List ℕ) → fits (v.Variables ys ∷ vs)
MorePartsFit part.Export (v.Names es ∷ vs) fits = (xs : List FunName) → fits (v.Names xs ∷ vs)
MorePartsFit part.Constant vs fits = fits vs
MorePartsFit part.Attribute vs fits = fits vs
MorePartsFit _ _ fits = ⊥

abbrev pub HeadsFit : Part → List Value → Fitting → Type 0
HeadsFit part.Expr (v.Exprs xs ∷ vs) fits = (x : Expr) → fits (v.Expr x ∷ vs)
HeadsFit part.Pattern (v.Patterns xs ∷ vs) fits = (x : Pattern) → fits (v.Pattern x ∷ vs)
HeadsFit part.Constant vs fits = fits vs
HeadsFit _ _ fits = ⊥

abbrev pub MoreHeadsFit : Part → List Value → Fitting → Type 0
MoreHeadsFit part.Expr (v.Expr x ∷ v.Exprs xs ∷ vs) fits = (y : Expr) → fits (v.Expr y ∷ vs)
MoreHeadsFit part.Pattern (v.Pattern x ∷ v.Patterns xs ∷ vs) fits = (y : Pattern) → fits (v.Pattern y ∷ vs)
MoreHeadsFit part.Constant vs fits = fits vs
MoreHeadsFit _ _ fits = ⊥

abbrev pub AtomFits : List Value → Fitting → Type 0
AtomFits (v.Atom a ∷ vs) fits = (x : Expr) → fits (v.Expr x ∷ vs)
AtomFits _ fits = ⊥

abbrev pub AliasFits : List Goal → List Value → Fitting → Type 0
AliasFits gs (v.Pattern x ∷ vs) fits = Quiet gs × ((y : Pattern) → fits (v.Pattern y ∷ vs))
AliasFits gs _ fits = ⊥

abbrev pub EitherFits : Bool → List Clause → List Value → Fitting → Type 0
EitherFits inner bs vs fits = ((cs : List Clause) → fits (v.Clauses cs ∷ vs)) × IfInner inner ((x : Pattern) → fits (v.Pattern x ∷ v.Clauses bs ∷ vs))

abbrev pub ClauseFits : Bool → List Value → Fitting → Type 0
ClauseFits inner (v.Clauses bs ∷ vs) fits = EitherFits inner bs vs fits
ClauseFits inner _ fits = ⊥

abbrev pub ClauseRestFits : Bool → List Value → Fitting → Type 0
ClauseRestFits inner (v.Pattern x ∷ v.Clauses bs ∷ vs) fits = EitherFits inner bs vs fits
ClauseRestFits inner _ fits = ⊥

abbrev pub ClauseNoteFits : Bool → List Value → Fitting → Type 0
ClauseNoteFits inner (v.Pattern x ∷ v.Clauses bs ∷ vs) fits = EitherFits inner bs vs fits
ClauseNoteFits inner (v.Clauses bs ∷ vs) fits = fits (v.Clauses bs ∷ vs)
ClauseNoteFits inner _ fits = ⊥

abbrev pub ClausesFit : List Value → Fitting → Type 0
ClausesFit (v.Clauses bs ∷ vs) fits = (cs : List Clause) → fits (v.Clauses cs ∷ vs)
ClausesFit _ fits = ⊥

abbrev pub FunctionsFit : List Value → Fitting → Type 0
FunctionsFit (v.Functions es ∷ vs) fits = (fs : List Function) → fits (v.Functions fs ∷ vs)
FunctionsFit _ fits = ⊥

abbrev pub ExportArityFits : List Value → Fitting → Type 0
ExportArityFits (v.Atom a ∷ v.Names es ∷ vs) fits = (xs : List FunName) → fits (v.Names xs ∷ vs)
ExportArityFits _ fits = ⊥

abbrev pub InfoExportFits : List Value → Fitting → Type 0
InfoExportFits (v.Names es ∷ vs) fits = (xs : List FunName) → fits (v.Names xs ∷ vs)
InfoExportFits _ fits = ⊥

abbrev pub FunctionArityFits : List Value → Fitting → Type 0
FunctionArityFits (v.Atom a ∷ vs) fits = (x : FunName) → fits (v.Name x ∷ vs)
FunctionArityFits _ fits = ⊥

-- a name that is kept, and one that is dropped
abbrev pub NameFits : List Value → Fitting → Type 0
NameFits vs fits = ((x : FunName) → fits (v.Name x ∷ vs)) × ((s : Tables) → fits (v.Dropped s ∷ vs))

-- no goal is left and the parts of a module are read, or this
abbrev pub OrDone : List Goal → List Value → Type 0 → Type 0
OrDone [] vs A = IsDone vs
OrDone (goal ∷ gs) vs A = A

-- the values fit the goals, of which there is one; the last is a symbol, a note, definitions or a module, so it takes a token
abbrev pub Fits : List Goal → List Value → Type 0
Fits [] vs = ⊥
Fits (g.Symbol k ∷ gs) vs = OrDone gs vs (Fits gs vs)
Fits (g.Part k n ∷ gs) vs = PartFits k gs vs (λ ws. Fits gs ws)
Fits (g.Parts k n c ∷ gs) vs = PartsFit k vs (λ ws. Fits gs ws)
Fits (g.MoreParts k n c ∷ gs) vs = MorePartsFit k vs (λ ws. Fits gs ws)
Fits (g.Heads k n ∷ gs) vs = HeadsFit k vs (λ ws. Fits gs ws)
Fits (g.MoreHeads k n ∷ gs) vs = MoreHeadsFit k vs (λ ws. Fits gs ws)
Fits (g.Tail k n ∷ gs) vs = HeadsFit k vs (λ ws. Fits gs ws)
Fits (g.NameOrAtom ∷ gs) vs = AtomFits vs (λ ws. Fits gs ws)
Fits (g.Arity ∷ gs) vs = AtomFits vs (λ ws. Fits gs ws)
Fits (g.Alias n ∷ gs) vs = AliasFits gs vs (λ ws. Fits gs ws)
Fits (g.Bindings n ∷ gs) vs = (xs : List ℕ) → Fits gs (v.Variables xs ∷ vs)
Fits (g.Clauses n c ∷ gs) vs = ClausesFit vs (λ ws. Fits gs ws)
Fits (g.Clause n inner ∷ gs) vs = ClauseFits inner vs (λ ws. Fits gs ws)
Fits (g.ClauseRest n inner ∷ gs) vs = ClauseRestFits inner vs (λ ws. Fits gs ws)
Fits (g.ClauseNote n inner ∷ gs) vs = ClauseNoteFits inner vs (λ ws. Fits gs ws)
Fits (g.Note n ∷ gs) vs = OrDone gs vs (Fits gs vs)
Fits (g.Key n ∷ gs) vs = Fits gs vs
Fits (g.AttributeValue n ∷ gs) vs = Fits gs vs
Fits (g.Primop n ∷ gs) vs = (k : ℕ) → Fits gs (v.Atom k ∷ vs)
Fits (g.ExportArity ∷ gs) vs = ExportArityFits vs (λ ws. Fits gs ws)
Fits (g.InfoExportArity ∷ gs) vs = InfoExportFits vs (λ ws. Fits gs ws)
Fits (g.FunctionArity ∷ gs) vs = FunctionArityFits vs (λ ws. Fits gs ws)
Fits (g.InfoArity ∷ gs) vs = NameFits vs (λ ws. Fits gs ws)
Fits (g.Functions n ∷ gs) vs = FunctionsFit vs (λ ws. Fits gs ws)
Fits (g.FunctionName n ∷ gs) vs = (x : FunName) → Fits gs (v.Name x ∷ vs)
Fits (g.Definitions n ∷ gs) vs = FunctionsFit vs (λ ws. OrDone gs ws (Fits gs ws))
Fits (g.DefinitionName n ∷ gs) vs = NameFits vs (λ ws. Fits gs ws)
Fits (g.FunctionBody n ∷ gs) vs = (xs : List ℕ) (x : Expr) → Fits gs (v.Expr x ∷ v.Variables xs ∷ vs)
Fits (g.Module n ∷ gs) vs = (fs : List Function) (es : List FunName) (k : ℕ) → OrDone gs (v.Functions fs ∷ v.Names es ∷ v.Atom k ∷ vs) (Fits gs (v.Functions fs ∷ v.Names es ∷ v.Atom k ∷ vs))
Fits (g.ModuleName ∷ gs) vs = (k : ℕ) → Fits gs (v.Atom k ∷ vs)
Fits (g.Build form ∷ gs) vs = (s : Tables) → IfBuilt (built form vs s) (λ ws. Fits gs ws)

-- ---- a move keeps it

-- the values fit the goals, or the module is read
abbrev pub FitsOrDone : List Goal → List Value → Type 0
FitsOrDone gs vs = OrDone gs vs (Fits gs vs)

fits_or : (gs : List Goal) (vs : List Value) → Fits gs vs → FitsOrDone gs vs
fits_or [] vs h = absurd h
fits_or (goal ∷ gs) vs h = h

abbrev pub FitsState : Option State → Type 0
FitsState None = Unit {0}
FitsState (Some r) = FitsOrDone r.goals r.values

fits_if : (b : Bool) (x y : Option State) → FitsState x → FitsState y → FitsState (cond b x y)
fits_if true x y h k = h
fits_if false x y h k = k

fits_on : (b : Bool) (r : State) → FitsOrDone r.goals r.values → FitsState (on b r)
fits_on true r h = h
fits_on false r h = tt

expr_fits : (n : ℕ) (gs : List Goal) (vs : List Value) (s : Tables) (token : Token) → ((x : Expr) → Fits gs (v.Expr x ∷ vs)) → FitsState (expr_begun n gs vs s token)
expr_fits n gs vs s (t.Integer sign digits) h = fits_or gs _ (h _)
expr_fits n gs vs s (t.Character byte) h = fits_or gs _ (h _)
expr_fits n gs vs s (t.Atom text) h = h
expr_fits n gs vs s (t.Str text) h = fits_or gs _ (h _)
expr_fits n gs vs s (t.Variable name) h = fits_or gs _ (h _)
expr_fits n gs vs s (t.Symbol w.OpenList) h = h
expr_fits n gs vs s (t.Symbol w.OpenTuple) h = λ xs o. h (e.Tuple 0 xs)
expr_fits n gs vs s (t.Symbol w.Less) h = λ xs o. h (e.Values xs)
expr_fits n gs vs s (t.Symbol w.Let) h = λ xs x y o. h (e.Let xs x y)
expr_fits n gs vs s (t.Symbol w.Do) h = λ x y o. h (e.Do x y)
expr_fits n gs vs s (t.Symbol w.Case) h = λ x o. ((λ cs ds i. h (e.Case x ds)), tt)
expr_fits n gs vs s (t.Symbol w.Letrec) h = λ fs x o. h (e.Letrec fs x)
expr_fits n gs vs s (t.Symbol w.Apply) h = λ x xs o. h (e.Apply x xs)
expr_fits n gs vs s (t.Symbol w.Call) h = λ x y xs o. h (e.Call x y xs)
expr_fits n gs vs s (t.Symbol w.Primop) h = λ k xs o. h (e.Primop k xs)
expr_fits n gs vs s (t.Symbol w.Receive) h = λ cs x y o. h (e.Receive cs x y)
expr_fits n gs vs s (t.Symbol w.Try) h = λ x xs y ys z o. h (e.Try x xs y ys z)
expr_fits n gs vs s (t.Symbol w.Catch) h = λ x o. h (e.Catch x)
expr_fits n gs vs s (t.Symbol w.Fun) h = λ xs x o. h (e.Fun xs x)
expr_fits n gs vs s (t.Symbol w.Open) h = λ x. fits_or gs _ (h x)
expr_fits n gs vs s (t.Symbol _) h = tt

pattern_fits : (n : ℕ) (gs : List Goal) (vs : List Value) (s : Tables) (token : Token) → Quiet gs → ((x : Pattern) → Fits gs (v.Pattern x ∷ vs)) → FitsState (pattern_begun n gs vs s token)
pattern_fits n gs vs s (t.Integer sign digits) quiet h = fits_or gs _ (h _)
pattern_fits n gs vs s (t.Character byte) quiet h = fits_or gs _ (h _)
pattern_fits n gs vs s (t.Atom text) quiet h = fits_or gs _ (h _)
pattern_fits n gs vs s (t.Str text) quiet h = fits_or gs _ (h _)
pattern_fits n gs vs s (t.Variable name) quiet h = (quiet, h)
pattern_fits n gs vs s (t.Symbol w.OpenList) quiet h = h
pattern_fits n gs vs s (t.Symbol w.OpenTuple) quiet h = λ xs o. h (p.Tuple xs)
pattern_fits n gs vs s (t.Symbol w.Open) quiet h = (tt, λ x. (quiet, h))
pattern_fits n gs vs s (t.Symbol _) quiet h = tt

constant_fits : (n : ℕ) (gs : List Goal) (vs : List Value) (s : Tables) (token : Token) → Fits gs vs → FitsState (constant_begun n gs vs s token)
constant_fits n gs vs s (t.Symbol w.OpenList) h = h
constant_fits n gs vs s (t.Symbol w.OpenTuple) h = h
constant_fits n gs vs s (t.Symbol _) h = tt
constant_fits n gs vs s (t.Variable name) h = tt
constant_fits n gs vs s _ h = fits_or gs _ h

variable_fits : (n : ℕ) (gs : List Goal) (vs : List Value) (s : Tables) (token : Token) → ((x : ℕ) → Fits gs (v.Variable x ∷ vs)) → FitsState (variable_begun n gs vs s token)
variable_fits n gs vs s (t.Variable name) h = fits_or gs _ (h _)
variable_fits n gs vs s (t.Symbol w.Open) h = λ x. fits_or gs _ (h x)
variable_fits n gs vs s _ h = tt

export_fits : (n : ℕ) (gs : List Goal) (es : List FunName) (vs : List Value) (s : Tables) (token : Token) → ((xs : List FunName) → Fits gs (v.Names xs ∷ vs)) → FitsState (export_begun n gs (v.Names es ∷ vs) s token)
export_fits n gs es vs s (t.Atom text) h = fits_if (is_info text) _ _ h h
export_fits n gs es vs s (t.Symbol w.Open) h = λ xs. fits_or gs _ (h xs)
export_fits n gs es vs s _ h = tt

key_fits : (n : ℕ) (gs : List Goal) (vs : List Value) (s : Tables) (token : Token) → Fits gs vs → FitsState (key_begun n gs vs s token)
key_fits n gs vs s (t.Atom text) h = fits_or gs _ h
key_fits n gs vs s (t.Symbol w.Open) h = fits_or gs _ h
key_fits n gs vs s _ h = tt

part_fits : (k : Part) (n : ℕ) (gs : List Goal) (vs : List Value) (s : Tables) (token : Token) → PartFits k gs vs (λ ws. Fits gs ws) → FitsState (part_begun k n gs vs s token)
part_fits part.Expr n gs vs s token h = expr_fits n gs vs s token h
part_fits part.Pattern n gs vs s token h = pattern_fits n gs vs s token h.0 h.1
part_fits part.Constant n gs vs s token h = constant_fits n gs vs s token h
part_fits part.Variable n gs vs s token h = variable_fits n gs vs s token h
part_fits part.Export n gs (v.Names es ∷ vs) s token h = export_fits n gs es vs s token h
part_fits part.Export n gs _ s token h = absurd h
part_fits part.Attribute n gs vs s token h = key_fits n (g.Symbol w.Equals ∷ g.AttributeValue n ∷ gs) vs s token h

value_fits : (n : ℕ) (gs : List Goal) (vs : List Value) (s : Tables) (token : Token) → Fits gs vs → FitsState (value_begun n gs vs s token)
value_fits n gs vs s (t.Symbol w.Open) h = fits_or gs _ h
value_fits n gs vs s token h = constant_fits n gs vs s token h

primop_fits : (n : ℕ) (gs : List Goal) (vs : List Value) (s : Tables) (token : Token) → ((k : ℕ) → Fits gs (v.Atom k ∷ vs)) → FitsState (primop_begun n gs vs s token)
primop_fits n gs vs s (t.Atom text) h = fits_or gs _ (h _)
primop_fits n gs vs s (t.Symbol w.Open) h = λ k. fits_or gs _ (h k)
primop_fits n gs vs s _ h = tt

function_fits : (n : ℕ) (gs : List Goal) (vs : List Value) (s : Tables) (token : Token) → ((x : FunName) → Fits gs (v.Name x ∷ vs)) → FitsState (function_begun n gs vs s token)
function_fits n gs vs s (t.Atom text) h = h
function_fits n gs vs s (t.Symbol w.Open) h = λ x. fits_or gs _ (h x)
function_fits n gs vs s _ h = tt

definition_fits : (n : ℕ) (gs : List Goal) (vs : List Value) (s : Tables) (token : Token) → NameFits vs (λ ws. Fits gs ws) → FitsState (definition_begun n gs vs s token)
definition_fits n gs vs s (t.Atom text) h = fits_if (is_info text) _ _ h h.0
definition_fits n gs vs s (t.Symbol w.Open) h = ((λ x. fits_or gs _ (h.0 x)), (λ before. fits_or gs _ (h.1 before)))
definition_fits n gs vs s _ h = tt

body_fits : (n : ℕ) (gs : List Goal) (vs : List Value) (s : Tables) (token : Token) → ((xs : List ℕ) (x : Expr) → Fits gs (v.Expr x ∷ v.Variables xs ∷ vs)) → FitsState (body_begun n gs vs s token)
body_fits n gs vs s (t.Symbol w.Fun) h = h
body_fits n gs vs s (t.Symbol w.Open) h = λ xs x. fits_or gs _ (h xs x)
body_fits n gs vs s _ h = tt

clause_fits : (n : ℕ) (inner : Bool) (gs : List Goal) (bs : List Clause) (vs : List Value) (s : Tables) (token : Token) → EitherFits inner bs vs (λ ws. Fits gs ws) → FitsState (clause_begun n inner gs (v.Clauses bs ∷ vs) s token)
clause_fits n inner gs bs vs s (t.Symbol w.Open) h = (h.0, λ x. h)
clause_fits n inner gs bs vs s (t.Symbol w.Less) h = λ xs x y o. h.0 _
clause_fits n inner gs bs vs s token h = pattern_fits n (g.ClauseRest n inner ∷ gs) (v.Clauses bs ∷ vs) s token tt (λ x. h)

module_fits : (n : ℕ) (gs : List Goal) (vs : List Value) (s : Tables) (token : Token) → ((fs : List Function) (es : List FunName) (k : ℕ) → FitsOrDone gs (v.Functions fs ∷ v.Names es ∷ v.Atom k ∷ vs)) → FitsState (module_begun n gs vs s token)
module_fits n gs vs s (t.Symbol w.Module) h = λ k es o fs. h fs es k
module_fits n gs vs s (t.Symbol w.Open) h = h
module_fits n gs vs s _ h = tt

-- ---- lists of parts

parts_fit : (k : Part) (n : ℕ) (c : Closer) (gs : List Goal) (vs : List Value) (s : Tables) (token : Token) → PartsFit k vs (λ ws. Fits gs ws) → FitsState (goal_moved (g.Parts k n c) gs vs s token)
parts_fit part.Expr n c gs vs s token h = fits_if (is_symbol (closing c) token) _ _ (fits_or gs _ (h [])) (expr_fits n (g.MoreParts part.Expr n c ∷ gs) (v.Exprs [] ∷ vs) s token (λ x. h))
parts_fit part.Pattern n c gs vs s token h = fits_if (is_symbol (closing c) token) _ _ (fits_or gs _ (h [])) (pattern_fits n (g.MoreParts part.Pattern n c ∷ gs) (v.Patterns [] ∷ vs) s token tt (λ x. h))
parts_fit part.Constant n c gs vs s token h = fits_if (is_symbol (closing c) token) _ _ (fits_or gs _ h) (constant_fits n (g.MoreParts part.Constant n c ∷ gs) vs s token h)
parts_fit part.Variable n c gs vs s token h = fits_if (is_symbol (closing c) token) _ _ (fits_or gs _ (h [])) (variable_fits n (g.MoreParts part.Variable n c ∷ gs) (v.Variables [] ∷ vs) s token (λ x. h))
parts_fit part.Export n c gs vs s token h = fits_if (is_symbol (closing c) token) _ _ (fits_or gs _ (h [])) (export_fits n (g.MoreParts part.Export n c ∷ gs) [] vs s token (λ x. h))
parts_fit part.Attribute n c gs vs s token h = fits_if (is_symbol (closing c) token) _ _ (fits_or gs _ h) (key_fits n (g.Symbol w.Equals ∷ g.AttributeValue n ∷ g.MoreParts part.Attribute n c ∷ gs) vs s token h)

more_parts_fit : (k : Part) (n : ℕ) (c : Closer) (gs : List Goal) (vs : List Value) (s : Tables) (token : Token) → MorePartsFit k vs (λ ws. Fits gs ws) → FitsState (goal_moved (g.MoreParts k n c) gs vs s token)
more_parts_fit part.Expr n c gs (v.Expr x ∷ v.Exprs xs ∷ vs) s token h = fits_if (is_symbol (closing c) token) _ _ (fits_or gs _ (h _)) (fits_if (is_symbol w.Comma token) _ _ (λ y. h) tt)
more_parts_fit part.Pattern n c gs (v.Pattern x ∷ v.Patterns xs ∷ vs) s token h = fits_if (is_symbol (closing c) token) _ _ (fits_or gs _ (h _)) (fits_if (is_symbol w.Comma token) _ _ (tt, λ y. h) tt)
more_parts_fit part.Variable n c gs (v.Variable x ∷ v.Variables xs ∷ vs) s token h = fits_if (is_symbol (closing c) token) _ _ (fits_or gs _ (h _)) (fits_if (is_symbol w.Comma token) _ _ (λ y. h) tt)
more_parts_fit part.Export n c gs (v.Names es ∷ vs) s token h = fits_if (is_symbol (closing c) token) _ _ (fits_or gs _ (h _)) (fits_if (is_symbol w.Comma token) _ _ (λ y. h) tt)
more_parts_fit part.Constant n c gs vs s token h = fits_if (is_symbol (closing c) token) _ _ (fits_or gs _ h) (fits_if (is_symbol w.Comma token) _ _ h tt)
more_parts_fit part.Attribute n c gs vs s token h = fits_if (is_symbol (closing c) token) _ _ (fits_or gs _ h) (fits_if (is_symbol w.Comma token) _ _ h tt)
more_parts_fit _ n c gs _ s token h = absurd h

heads_fit : (k : Part) (n : ℕ) (gs : List Goal) (vs : List Value) (s : Tables) (token : Token) → HeadsFit k vs (λ ws. Fits gs ws) → FitsState (goal_moved (g.Heads k n) gs vs s token)
heads_fit part.Expr n gs (v.Exprs xs ∷ vs) s token h = fits_if (is_symbol w.CloseList token) _ _ (fits_or gs _ (h _)) (expr_fits (n + 1) (g.MoreHeads part.Expr n ∷ gs) (v.Exprs xs ∷ vs) s token (λ x. h))
heads_fit part.Pattern n gs (v.Patterns xs ∷ vs) s token h = fits_if (is_symbol w.CloseList token) _ _ (fits_or gs _ (h _)) (pattern_fits (n + 1) (g.MoreHeads part.Pattern n ∷ gs) (v.Patterns xs ∷ vs) s token tt (λ x. h))
heads_fit part.Constant n gs vs s token h = fits_if (is_symbol w.CloseList token) _ _ (fits_or gs _ h) (constant_fits (n + 1) (g.MoreHeads part.Constant n ∷ gs) vs s token h)
heads_fit _ n gs _ s token h = absurd h

more_heads_fit : (k : Part) (n : ℕ) (gs : List Goal) (vs : List Value) (s : Tables) (token : Token) → MoreHeadsFit k vs (λ ws. Fits gs ws) → FitsState (goal_moved (g.MoreHeads k n) gs vs s token)
more_heads_fit part.Expr n gs (v.Expr x ∷ v.Exprs xs ∷ vs) s token h =
    fits_if (is_symbol w.CloseList token) _ _ (fits_or gs _ (h _)) (fits_if (is_symbol w.Comma token) _ _ (λ y. h) (fits_if (is_symbol w.Bar token) _ _ h tt))
more_heads_fit part.Pattern n gs (v.Pattern x ∷ v.Patterns xs ∷ vs) s token h =
    fits_if (is_symbol w.CloseList token) _ _ (fits_or gs _ (h _)) (fits_if (is_symbol w.Comma token) _ _ (tt, λ y. h) (fits_if (is_symbol w.Bar token) _ _ h tt))
more_heads_fit part.Constant n gs vs s token h = fits_if (is_symbol w.CloseList token) _ _ (fits_or gs _ h) (fits_if (is_symbol w.Comma token) _ _ h (fits_if (is_symbol w.Bar token) _ _ h tt))
more_heads_fit _ n gs _ s token h = absurd h

tail_fits : (k : Part) (n : ℕ) (gs : List Goal) (vs : List Value) (s : Tables) (token : Token) → HeadsFit k vs (λ ws. Fits gs ws) → FitsState (goal_moved (g.Tail k n) gs vs s token)
tail_fits part.Expr n gs (v.Exprs xs ∷ vs) s token h = fits_if (is_symbol w.OpenList token) _ _ (λ x. fits_or gs _ (h x)) (expr_fits (n + 1) (g.Symbol w.CloseList ∷ g.Build (f.Join part.Expr) ∷ gs) (v.Exprs xs ∷ vs) s token (λ x o. h _))
tail_fits part.Pattern n gs (v.Patterns xs ∷ vs) s token h =
    fits_if (is_symbol w.OpenList token) _ _ (λ x. fits_or gs _ (h x)) (pattern_fits (n + 1) (g.Symbol w.CloseList ∷ g.Build (f.Join part.Pattern) ∷ gs) (v.Patterns xs ∷ vs) s token refl (λ x o. h _))
tail_fits part.Constant n gs vs s token h = fits_if (is_symbol w.OpenList token) _ _ (fits_or gs _ h) (constant_fits (n + 1) (g.Symbol w.CloseList ∷ g.Build (f.Join part.Constant) ∷ gs) vs s token (λ o. h))
tail_fits _ n gs _ s token h = absurd h

-- ---- every goal

aliased_fits : (n : ℕ) (gs : List Goal) (x : Pattern) (vs : List Value) (s : Tables) → Quiet gs → ((y : Pattern) → Fits gs (v.Pattern y ∷ vs)) → FitsState (aliased_by n gs x vs s)
aliased_fits n gs (p.Var y) vs s quiet h = (quiet, λ x o. h (p.Alias y x))
aliased_fits n gs _ vs s quiet h = tt

clause_note_fits : (n : ℕ) (inner : Bool) (gs : List Goal) (vs : List Value) (s : Tables) (token : Token) → ClauseNoteFits inner vs (λ ws. Fits gs ws) → FitsState (goal_moved (g.ClauseNote n inner) gs vs s token)
clause_note_fits n inner gs (v.Pattern x ∷ v.Clauses bs ∷ vs) s token h = fits_on (is_symbol w.NoteBar token) _ (tt, λ y. h)
clause_note_fits n inner gs (v.Clauses bs ∷ vs) s token h = fits_on (is_symbol w.NoteBar token) _ (fits_or gs _ h)
clause_note_fits n inner gs _ s token h = absurd h

pub goal_fits : (goal : Goal) (gs : List Goal) (vs : List Value) (s : Tables) (token : Token) → Fits (goal ∷ gs) vs → FitsState (goal_moved goal gs vs s token)
goal_fits (g.Symbol k) gs vs s token h = fits_on (is_symbol k token) _ h
goal_fits (g.Part k n) gs vs s token h = part_fits k n gs vs s token h
goal_fits (g.Parts k n c) gs vs s token h = parts_fit k n c gs vs s token h
goal_fits (g.MoreParts k n c) gs vs s token h = more_parts_fit k n c gs vs s token h
goal_fits (g.Heads k n) gs vs s token h = heads_fit k n gs vs s token h
goal_fits (g.MoreHeads k n) gs vs s token h = more_heads_fit k n gs vs s token h
goal_fits (g.Tail k n) gs vs s token h = tail_fits k n gs vs s token h
goal_fits g.NameOrAtom gs (v.Atom a ∷ vs) s token h = fits_on (is_symbol w.Slash token) _ h
goal_fits g.NameOrAtom gs _ s token h = absurd h
goal_fits g.Arity gs (v.Atom a ∷ vs) s (t.Integer sign.Absent digits) h = fits_or gs _ (h _)
goal_fits g.Arity gs (v.Atom a ∷ vs) s _ h = tt
goal_fits g.Arity gs _ s token h = absurd h
goal_fits (g.Alias n) gs (v.Pattern x ∷ vs) s token h = fits_if (is_symbol w.Equals token) _ _ (aliased_fits n gs x vs s h.0 h.1) tt
goal_fits (g.Alias n) gs _ s token h = absurd h
goal_fits (g.Bindings n) gs vs s token h = fits_if (is_symbol w.Less token) _ _ h (variable_fits n (g.Build f.OneVariable ∷ gs) vs s token (λ x o. h _))
goal_fits (g.Clauses n c) gs (v.Clauses bs ∷ vs) s token h = fits_if (is_symbol (closing c) token) _ _ (fits_or gs _ (h _)) (clause_fits n false (g.Clauses n c ∷ gs) bs vs s token ((λ cs. h), tt))
goal_fits (g.Clauses n c) gs _ s token h = absurd h
goal_fits (g.Clause n inner) gs (v.Clauses bs ∷ vs) s token h = clause_fits n inner gs bs vs s token h
goal_fits (g.Clause n inner) gs _ s token h = absurd h
goal_fits (g.ClauseRest n inner) gs (v.Pattern x ∷ v.Clauses bs ∷ vs) s token h = fits_if (is_symbol w.When token) _ _ (λ y z o. h.0 _) tt
goal_fits (g.ClauseRest n inner) gs _ s token h = absurd h
goal_fits (g.ClauseNote n inner) gs vs s token h = clause_note_fits n inner gs vs s token h
goal_fits (g.Note n) gs vs s token h = fits_on (is_symbol w.NoteBar token) _ h
goal_fits (g.Key n) gs vs s token h = key_fits n gs vs s token h
goal_fits (g.AttributeValue n) gs vs s token h = value_fits n gs vs s token h
goal_fits (g.Primop n) gs vs s token h = primop_fits n gs vs s token h
goal_fits g.ExportArity gs (v.Atom a ∷ v.Names es ∷ vs) s (t.Integer sign.Absent digits) h = fits_or gs _ (h _)
goal_fits g.ExportArity gs (v.Atom a ∷ v.Names es ∷ vs) s _ h = tt
goal_fits g.ExportArity gs _ s token h = absurd h
goal_fits g.InfoExportArity gs (v.Names es ∷ vs) s (t.Integer sign.Absent digits) h = fits_if (leb (value digits) 1) _ _ (fits_or gs _ (h _)) (fits_or gs _ (h _))
goal_fits g.InfoExportArity gs (v.Names es ∷ vs) s _ h = tt
goal_fits g.InfoExportArity gs _ s token h = absurd h
goal_fits g.FunctionArity gs (v.Atom a ∷ vs) s (t.Integer sign.Absent digits) h = fits_or gs _ (h _)
goal_fits g.FunctionArity gs (v.Atom a ∷ vs) s _ h = tt
goal_fits g.FunctionArity gs _ s token h = absurd h
goal_fits g.InfoArity gs vs s (t.Integer sign.Absent digits) h = fits_if (leb (value digits) 1) _ _ (fits_or gs _ (h.1 s)) (fits_or gs _ (h.0 _))
goal_fits g.InfoArity gs vs s _ h = tt
goal_fits (g.Functions n) gs (v.Functions es ∷ vs) s token h =
    fits_if (is_symbol w.In token) _ _ (fits_or gs _ (h _)) (function_fits n (g.Symbol w.Equals ∷ g.FunctionBody n ∷ g.Build f.Function ∷ g.Functions n ∷ gs) (v.Functions es ∷ vs) s token (λ x xs y o. h))
goal_fits (g.Functions n) gs _ s token h = absurd h
goal_fits (g.FunctionName n) gs vs s token h = function_fits n gs vs s token h
goal_fits (g.Definitions n) gs (v.Functions es ∷ vs) s token h =
    fits_if (is_symbol w.End token) _ _ (h _)
    (definition_fits n (g.Symbol w.Equals ∷ g.FunctionBody n ∷ g.Build f.Definition ∷ g.Definitions n ∷ gs) (v.Functions es ∷ vs) s token ((λ x xs y o. h), (λ before xs y o. h)))
goal_fits (g.Definitions n) gs _ s token h = absurd h
goal_fits (g.DefinitionName n) gs vs s token h = definition_fits n gs vs s token h
goal_fits (g.FunctionBody n) gs vs s token h = body_fits n gs vs s token h
goal_fits (g.Module n) gs vs s token h = module_fits n gs vs s token h
goal_fits g.ModuleName gs vs s (t.Atom name) h = fits_or gs _ (h _)
goal_fits g.ModuleName gs vs s _ h = tt
goal_fits (g.Build form) gs vs s token h = tt

-- ---- so does what is built and passed over

-- there is a state, and its values fit
abbrev pub FitsSome : Option State → Type 0
FitsSome None = ⊥
FitsSome (Some r) = FitsOrDone r.goals r.values

some_if : (b : Bool) (x y : Option State) → FitsSome x → FitsSome y → FitsSome (cond b x y)
some_if true x y h k = h
some_if false x y h k = k

some_built : (o : Option (List Value × Tables)) (gs : List Goal) (next : Option Symbol) → IfBuilt o (λ ws. Fits gs ws) → ((ws : List Value) (u : Tables) → Fits gs ws → FitsSome (settled gs ws u next)) → FitsSome (with_built o (λ ws u. settled gs ws u next))
some_built None gs next h further = h
some_built (Some r) gs next h further = further r.0 r.1 h

settle_fit : (gs : List Goal) (vs : List Value) (s : Tables) (next : Option Symbol) → Fits gs vs → FitsSome (settled gs vs s next)
unfolding settled
settle_fit [] vs s next h = absurd h
settle_fit (g.Build form ∷ gs) vs s next h = some_built (built form vs s) gs next (h s) (λ ws u k. settle_fit gs ws u next k)
settle_fit (g.NameOrAtom ∷ gs) (v.Atom a ∷ vs) s next h = some_if (is_next w.Slash next) _ _ h (settle_fit gs (v.Expr (e.Atom a) ∷ vs) s next (h _))
settle_fit (g.NameOrAtom ∷ gs) _ s next h = absurd h
settle_fit (g.Alias n ∷ gs) (v.Pattern x ∷ vs) s next h = some_if (is_next w.Equals next) _ _ h (settle_fit gs (v.Pattern x ∷ vs) s next (h.1 x))
settle_fit (g.Alias n ∷ gs) _ s next h = absurd h
settle_fit (g.ClauseRest n true ∷ gs) (v.Pattern x ∷ v.Clauses bs ∷ vs) s next h = some_if (is_next w.When next) _ _ h (settle_fit gs (v.Pattern x ∷ v.Clauses bs ∷ vs) s next (h.1 x))
settle_fit (g.ClauseRest n true ∷ gs) _ s next h = absurd h
settle_fit (goal ∷ gs) vs s next h = h

pub settle_fits : (gs : List Goal) (vs : List Value) (s : Tables) (next : Option Symbol) → FitsOrDone gs vs → FitsSome (settled gs vs s next)
unfolding settled
settle_fits [] vs s next h = h
settle_fits (goal ∷ gs) vs s next h = settle_fit (goal ∷ gs) vs s next h

-- ---- where a goal is left, no module is read

built_over : (o : Option (List Value × Tables)) (gs : List Goal) → IfBuilt o (λ ws. Fits gs ws) → ((ws : List Value) (u : Tables) → Fits gs ws → finished_from (settled gs ws u None) ≡ None) → finished_from (with_built o (λ ws u. settled gs ws u None)) ≡ None
built_over None gs h further = refl
built_over (Some r) gs h further = further r.0 r.1 h

pub left_over : (gs : List Goal) (vs : List Value) (s : Tables) → Fits gs vs → finished_from (settled gs vs s None) ≡ None
unfolding settled
left_over [] vs s h = absurd h
left_over (g.Build form ∷ gs) vs s h = built_over (built form vs s) gs (h s) (λ ws u k. left_over gs ws u k)
left_over (g.NameOrAtom ∷ gs) (v.Atom a ∷ vs) s h = left_over gs (v.Expr (e.Atom a) ∷ vs) s (h _)
left_over (g.NameOrAtom ∷ gs) _ s h = absurd h
left_over (g.Alias n ∷ gs) (v.Pattern x ∷ vs) s h = left_over gs (v.Pattern x ∷ vs) s (h.1 x)
left_over (g.Alias n ∷ gs) _ s h = absurd h
left_over (g.ClauseRest n true ∷ gs) (v.Pattern x ∷ v.Clauses bs ∷ vs) s h = left_over gs (v.Pattern x ∷ v.Clauses bs ∷ vs) s (h.1 x)
left_over (g.ClauseRest n true ∷ gs) _ s h = absurd h
left_over (goal ∷ gs) vs s h = refl
