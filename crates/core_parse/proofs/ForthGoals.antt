-- What is to be read, one token on: every goal, and the trees that are built before it.
use Rattle.std.proofs.Common.{◌≡◌, ℕ, ◌≤◌, ◌<◌, leb, true, false, List, [], ◌∷◌, Option, Some, None, ◌⊎◌, inl, inr, refl, sym, ap, subst, ◌∙◌}
use Rattle.std.proofs.lemmas.Bool.{le-leb}
use Rattle.std.proofs.lemmas.Bool.Decides.{leb_tells}
use Rattle.hy_core.specs.Marks.{Marked, plain, symbol, arity, value}
use Rattle.hy_core.specs.declared.token.Symbol.{Symbol}
use Rattle.hy_core.specs.declared.token.Symbol.TheVariants as w
use Rattle.hy_core.specs.declared.token.Sign.TheVariants as sign
use Rattle.hy_core.specs.declared.token.Token.TheVariants as t
use Rattle.hy_core.specs.declared.tables.Tables.{Tables}
use Rattle.hy_core.specs.declared.tree.Module.{Module}
use Rattle.core_build.specs.declared.form.Part.TheVariants as part
use Rattle.core_parse.specs.declared.goal.Closer.{Closer}
use Rattle.core_parse.specs.declared.goal.Goal.{Goal}
use Rattle.core_parse.specs.declared.goal.Goal.TheVariants as g
use Rattle.core_build.specs.declared.value.Value.{Value}
use Rattle.core_build.specs.declared.value.Value.TheVariants as v
use Rattle.core_parse.specs.declared.state.State.{State}
use Rattle.hy_core.specs.Patterns.{IsNotBefore}
use Rattle.hy_core.specs.Grammar.{the_module_info}
use Rattle.core_parse.specs.code.Pushdown.{state, closing, symbol_in, is_next, with_built, goal_moved, info_arity_moved, info_export_moved, aliased_by, mark, settled, taken_from, stepped, checked}
use Rattle.core_build.specs.Trees.{built}
use Rattle.core_parse.proofs.Tests.{first_of, is_itself, not_next}
use Rattle.core_parse.proofs.Meaning.{Completes, OnBuilt, DefinedThen, ExportedThen}
use Rattle.core_parse.proofs.Forth.{Moves, Forth, forth_at, constant_forth, constants_forth, more_constants_forth, constant_list_forth, constant_end_forth, constant_tail_forth, note_forth, key_forth, primop_forth, value_forth, attribute_forth, attributes_forth, more_attributes_forth, variable_forth, variables_forth, more_variables_forth, bindings_forth, pattern_forth, patterns_forth, more_patterns_forth, pattern_list_forth, pattern_end_forth, pattern_tail_forth}
use Rattle.core_parse.proofs.ForthExprs.{expr_forth, exprs_forth, more_exprs_forth, list_forth, list_end_forth, tail_forth, clause_forth, clauses_forth, body_forth, function_name_forth, definition_name_forth, export_forth, exports_forth, more_exports_forth, functions_forth, definitions_forth, module_forth}
use Rattle.hy_core.specs.declared.tree.FunName.{FunName}
use Rattle.hy_core.specs.declared.tree.Pattern.{Pattern}
use Rattle.hy_core.specs.declared.tree.Expr.TheVariants as e

-- the goal takes the first token: nothing is to be built, and it isn't passed over
abbrev pub Sits : Goal → Option Symbol → Type 0
Sits (g.Build form) o = ⊥
Sits g.NameOrAtom o = is_next w.Slash o ≡ true
Sits (g.Alias n) o = is_next w.Equals o ≡ true
Sits (g.ClauseRest n true) o = is_next w.When o ≡ true
Sits _ o = Unit {0}

-- one says that it is next, the other that it isn't
both_ways : {A : Type 0} (k : Symbol) (ms : List Marked) → is_next k (first_of ms) ≡ true → IsNotBefore k ms → A
both_ways k ms is never = let bad : true ≡ false = sym is ∙ not_next k ms never in absurd cc

symbol_next : (k : Symbol) (ms q : List Marked) → ms ≡ symbol k ∷ q → is_next k (first_of ms) ≡ true
symbol_next k ms q is = ap (λ (os : List Marked). is_next k (first_of os)) is ∙ is_itself k

symbol_forth : (goal : Goal) (gs : List Goal) (vs : List Value) (s : Tables) (k : Symbol) (ms q : List Marked) (z : Module) → ms ≡ symbol k ∷ q → mark goal (t.Symbol k) ≡ symbol k → Moves (goal_moved goal gs vs s (t.Symbol k)) q z
    → Forth (mark goal) (goal_moved goal gs vs s) ms z
symbol_forth goal gs vs s k ms q z is marked h = forth_at (mark goal) (goal_moved goal gs vs s) (symbol k) ms q z is marked h

-- ---- arities of what may be dropped

info_forth : (gs : List Goal) (vs : List Value) (s : Tables) (digits : List ℕ) (q : List Marked) (z : Module) → DefinedThen the_module_info digits vs s q (λ ws u r. Completes gs ws u r z)
    → Moves (info_arity_moved gs vs s (t.Integer sign.Absent digits)) q z
info_forth gs vs s digits q z (inl (never, h)) = by (leb_tells (value digits) 1)
  where
    by : ((leb (value digits) 1 ≡ true) × (value digits ≤ 1)) ⊎ ((leb (value digits) 1 ≡ false) × (1 < value digits)) → Moves (info_arity_moved gs vs s (t.Integer sign.Absent digits)) q z
    by (inl (is, le)) = absurd (never (refl, le))
    by (inr (is, gt)) = rw is h
info_forth gs vs s digits q z (inr (is, h)) = rw (le-leb (value digits) 1 is.1) h

info_export_forth : (gs : List Goal) (es : List FunName) (vs : List Value) (s : Tables) (digits : List ℕ) (q : List Marked) (z : Module) → ExportedThen the_module_info digits es vs s q (λ ws u r. Completes gs ws u r z)
    → Moves (info_export_moved gs (v.Names es ∷ vs) s (t.Integer sign.Absent digits)) q z
info_export_forth gs es vs s digits q z (inl (never, h)) = by (leb_tells (value digits) 1)
  where
    by : ((leb (value digits) 1 ≡ true) × (value digits ≤ 1)) ⊎ ((leb (value digits) 1 ≡ false) × (1 < value digits)) → Moves (info_export_moved gs (v.Names es ∷ vs) s (t.Integer sign.Absent digits)) q z
    by (inl (is, le)) = absurd (never (refl, le))
    by (inr (is, gt)) = rw is h
info_export_forth gs es vs s digits q z (inr (is, h)) = rw (le-leb (value digits) 1 is.1) h

-- ---- lists, whether or not their beginning is on top

more_exports_next : (n : ℕ) (c : Closer) (gs : List Goal) (vs : List Value) (s : Tables) (ms : List Marked) (z : Module) → Completes (g.MoreParts part.Export n c ∷ gs) vs s ms z
    → Forth (mark (g.MoreParts part.Export n c)) (goal_moved (g.MoreParts part.Export n c) gs vs s) ms z
more_exports_next n c gs (v.Names es ∷ vs) s ms z h = more_exports_forth c h.3 es gs vs z h.4
more_exports_next n c gs [] s ms z h = symbol_forth (g.MoreParts part.Export n c) gs [] s (closing c) ms h.0 z h.1 refl (rw (is_itself (closing c)) h.2)
more_exports_next n c gs (x ∷ vs) s ms z h = symbol_forth (g.MoreParts part.Export n c) gs (x ∷ vs) s (closing c) ms h.0 z h.1 refl (rw (is_itself (closing c)) h.2)

clauses_next : (n : ℕ) (c : Closer) (gs : List Goal) (vs : List Value) (s : Tables) (ms : List Marked) (z : Module) → Completes (g.Clauses n c ∷ gs) vs s ms z
    → Forth (mark (g.Clauses n c)) (goal_moved (g.Clauses n c) gs vs s) ms z
clauses_next n c gs (v.Clauses bs ∷ vs) s ms z h = clauses_forth c h.3 bs gs vs z h.4
clauses_next n c gs [] s ms z h = symbol_forth (g.Clauses n c) gs [] s (closing c) ms h.0 z h.1 (rw (is_itself (closing c)) refl) (rw (is_itself (closing c)) h.2)
clauses_next n c gs (x ∷ vs) s ms z h = symbol_forth (g.Clauses n c) gs (x ∷ vs) s (closing c) ms h.0 z h.1 (rw (is_itself (closing c)) refl) (rw (is_itself (closing c)) h.2)

functions_next : (n : ℕ) (gs : List Goal) (vs : List Value) (s : Tables) (ms : List Marked) (z : Module) → Completes (g.Functions n ∷ gs) vs s ms z
    → Forth (mark (g.Functions n)) (goal_moved (g.Functions n) gs vs s) ms z
functions_next n gs (v.Functions es ∷ vs) s ms z h = functions_forth h.3 es gs vs z h.4
functions_next n gs [] s ms z h = symbol_forth (g.Functions n) gs [] s w.In ms h.0 z h.1 refl h.2
functions_next n gs (x ∷ vs) s ms z h = symbol_forth (g.Functions n) gs (x ∷ vs) s w.In ms h.0 z h.1 refl h.2

definitions_next : (n : ℕ) (gs : List Goal) (vs : List Value) (s : Tables) (ms : List Marked) (z : Module) → Completes (g.Definitions n ∷ gs) vs s ms z
    → Forth (mark (g.Definitions n)) (goal_moved (g.Definitions n) gs vs s) ms z
definitions_next n gs (v.Functions es ∷ vs) s ms z h = definitions_forth h.3 es gs vs z h.4
definitions_next n gs [] s ms z h = symbol_forth (g.Definitions n) gs [] s w.End ms h.0 z h.1 refl h.2
definitions_next n gs (x ∷ vs) s ms z h = symbol_forth (g.Definitions n) gs (x ∷ vs) s w.End ms h.0 z h.1 refl h.2

-- ---- every goal

pub goal_forth : (goal : Goal) (gs : List Goal) (vs : List Value) (s : Tables) (ms : List Marked) (z : Module) → Sits goal (first_of ms) → Completes (goal ∷ gs) vs s ms z
    → Forth (mark goal) (goal_moved goal gs vs s) ms z
goal_forth (g.Symbol k) gs vs s ms z sits (q, is, h) = symbol_forth (g.Symbol k) gs vs s k ms q z is refl (rw (is_itself k) h)
goal_forth (g.Part part.Expr n) gs vs s ms z sits (x, u, q, d, h) = expr_forth d gs vs z h
goal_forth (g.Part part.Pattern n) gs vs s ms z sits (x, u, q, d, h) = pattern_forth d gs vs z h
goal_forth (g.Part part.Constant n) gs vs s ms z sits (q, d, h) = constant_forth d gs vs s z h
goal_forth (g.Part part.Variable n) gs vs s ms z sits (x, u, q, d, h) = variable_forth d gs vs z h
goal_forth (g.Part part.Export n) gs (v.Names es ∷ vs) s ms z sits (xs, u, q, d, h) = export_forth d es gs vs z h
goal_forth (g.Part part.Export n) gs _ s ms z sits h = absurd h
goal_forth (g.Part part.Attribute n) gs vs s ms z sits (key, q, r, d, b, h) = attribute_forth d b gs vs s z h
goal_forth (g.Parts part.Expr n c) gs vs s ms z sits (xs, u, q, d, h) = exprs_forth c d gs vs z h
goal_forth (g.Parts part.Pattern n c) gs vs s ms z sits (xs, u, q, d, h) = patterns_forth c d gs vs z h
goal_forth (g.Parts part.Constant n c) gs vs s ms z sits (q, d, h) = constants_forth c d gs vs s z h
goal_forth (g.Parts part.Variable n c) gs vs s ms z sits (xs, u, q, d, h) = variables_forth c d gs vs z h
goal_forth (g.Parts part.Export n c) gs vs s ms z sits (xs, u, q, d, h) = exports_forth c d gs vs z h
goal_forth (g.Parts part.Attribute n c) gs vs s ms z sits (q, d, h) = attributes_forth c d gs vs s z h
goal_forth (g.MoreParts part.Expr n c) gs (v.Expr x ∷ v.Exprs xs ∷ vs) s ms z sits (ys, u, q, d, h) = more_exprs_forth c d x xs gs vs z h
goal_forth (g.MoreParts part.Pattern n c) gs (v.Pattern x ∷ v.Patterns xs ∷ vs) s ms z sits (ys, u, q, d, h) = more_patterns_forth c d x xs gs vs z h
goal_forth (g.MoreParts part.Variable n c) gs (v.Variable x ∷ v.Variables xs ∷ vs) s ms z sits (ys, u, q, d, h) = more_variables_forth c d x xs gs vs z h
goal_forth (g.MoreParts part.Export n c) gs vs s ms z sits h = more_exports_next n c gs vs s ms z h
goal_forth (g.MoreParts part.Constant n c) gs vs s ms z sits (q, d, h) = more_constants_forth c d gs vs s z h
goal_forth (g.MoreParts part.Attribute n c) gs vs s ms z sits (q, d, h) = more_attributes_forth c d gs vs s z h
goal_forth (g.MoreParts _ n c) gs _ s ms z sits h = absurd h
goal_forth (g.Heads part.Expr n) gs (v.Exprs xs ∷ vs) s ms z sits (x, u, q, d, h) = list_forth d xs gs vs z h
goal_forth (g.Heads part.Pattern n) gs (v.Patterns xs ∷ vs) s ms z sits (x, u, q, d, h) = pattern_list_forth d xs gs vs z h
goal_forth (g.Heads part.Constant n) gs vs s ms z sits (q, d, h) = constant_list_forth d gs vs s z h
goal_forth (g.Heads _ n) gs _ s ms z sits h = absurd h
goal_forth (g.MoreHeads part.Expr n) gs (v.Expr x ∷ v.Exprs xs ∷ vs) s ms z sits (ys, tail, u, q, d, h) = list_end_forth d x xs gs vs z h
goal_forth (g.MoreHeads part.Pattern n) gs (v.Pattern x ∷ v.Patterns xs ∷ vs) s ms z sits (ys, tail, u, q, d, h) = pattern_end_forth d x xs gs vs z h
goal_forth (g.MoreHeads part.Constant n) gs vs s ms z sits (q, d, h) = constant_end_forth d gs vs s z h
goal_forth (g.MoreHeads _ n) gs _ s ms z sits h = absurd h
goal_forth (g.Tail part.Expr n) gs (v.Exprs xs ∷ vs) s ms z sits (x, u, q, d, h) = tail_forth d xs gs vs z h
goal_forth (g.Tail part.Pattern n) gs (v.Patterns xs ∷ vs) s ms z sits (x, u, q, d, h) = pattern_tail_forth d xs gs vs z h
goal_forth (g.Tail part.Constant n) gs vs s ms z sits (q, d, h) = constant_tail_forth d gs vs s z h
goal_forth (g.Tail _ n) gs _ s ms z sits h = absurd h
goal_forth g.NameOrAtom gs (v.Atom a ∷ vs) s ms z sits (inl (before, h)) = both_ways w.Slash ms sits before
goal_forth g.NameOrAtom gs (v.Atom a ∷ vs) s ms z sits (inr (q, is, h)) = symbol_forth g.NameOrAtom gs (v.Atom a ∷ vs) s w.Slash ms q z is refl h
goal_forth g.NameOrAtom gs _ s ms z sits h = absurd h
goal_forth g.Arity gs (v.Atom a ∷ vs) s ms z sits (digits, (q, is, h)) = forth_at (mark g.Arity) (goal_moved g.Arity gs (v.Atom a ∷ vs) s) (arity digits) ms q z is refl h
goal_forth g.Arity gs _ s ms z sits h = absurd h
goal_forth (g.Alias n) gs vs s ms z sits (inl (before, h)) = both_ways w.Equals ms sits before
goal_forth (g.Alias n) gs (v.Pattern x ∷ vs) s ms z sits (inr (y, var, (q, is, h))) =
    symbol_forth (g.Alias n) gs (v.Pattern x ∷ vs) s w.Equals ms q z is refl (subst (λ (k : Pattern). Moves (aliased_by n gs k vs s) q z) (sym var) h)
goal_forth (g.Alias n) gs _ s ms z sits (inr h) = absurd h
goal_forth (g.Bindings n) gs vs s ms z sits (xs, u, q, d, h) = bindings_forth d gs vs z h
goal_forth (g.Clauses n c) gs vs s ms z sits h = clauses_next n c gs vs s ms z h
goal_forth (g.Clause n inner) gs vs s ms z sits h = clause_forth n inner gs vs s ms z h
goal_forth (g.ClauseRest n false) gs (v.Pattern x ∷ vs) s ms z sits (q, is, h) = symbol_forth (g.ClauseRest n false) gs (v.Pattern x ∷ vs) s w.When ms q z is refl h
goal_forth (g.ClauseRest n true) gs (v.Pattern x ∷ vs) s ms z sits (inr (q, is, h)) = symbol_forth (g.ClauseRest n true) gs (v.Pattern x ∷ vs) s w.When ms q z is refl h
goal_forth (g.ClauseRest n true) gs vs s ms z sits (inl (before, h)) = both_ways w.When ms sits before
goal_forth (g.ClauseRest n false) gs _ s ms z sits h = absurd h
goal_forth (g.ClauseRest n true) gs _ s ms z sits (inr h) = absurd h
goal_forth (g.ClauseNote n inner) gs (v.Pattern x ∷ vs) s ms z sits (q, d, h) = note_forth d (g.Alias n ∷ g.ClauseRest n inner ∷ gs) (v.Pattern x ∷ vs) s z h
goal_forth (g.ClauseNote n inner) gs [] s ms z sits (q, d, h) = note_forth d gs [] s z h
goal_forth (g.ClauseNote n inner) gs (value ∷ vs) s ms z sits (q, d, h) = note_forth d gs (value ∷ vs) s z h
goal_forth (g.Note n) gs vs s ms z sits (q, d, h) = note_forth d gs vs s z h
goal_forth (g.Key n) gs vs s ms z sits (key, q, d, h) = key_forth d gs vs s z h
goal_forth (g.AttributeValue n) gs vs s ms z sits (q, d, h) = value_forth d gs vs s z h
goal_forth (g.Primop n) gs vs s ms z sits (text, q, d, h) = primop_forth d gs vs s z h
goal_forth g.ExportArity gs (v.Atom a ∷ v.Names es ∷ vs) s ms z sits (digits, (q, is, h)) = forth_at (mark g.ExportArity) (goal_moved g.ExportArity gs (v.Atom a ∷ v.Names es ∷ vs) s) (arity digits) ms q z is refl h
goal_forth g.ExportArity gs _ s ms z sits h = absurd h
goal_forth g.InfoExportArity gs (v.Names es ∷ vs) s ms z sits (digits, (q, is, h)) =
    forth_at (mark g.InfoExportArity) (goal_moved g.InfoExportArity gs (v.Names es ∷ vs) s) (arity digits) ms q z is refl (info_export_forth gs es vs s digits q z h)
goal_forth g.InfoExportArity gs _ s ms z sits h = absurd h
goal_forth g.FunctionArity gs (v.Atom a ∷ vs) s ms z sits (digits, (q, is, h)) = forth_at (mark g.FunctionArity) (goal_moved g.FunctionArity gs (v.Atom a ∷ vs) s) (arity digits) ms q z is refl h
goal_forth g.FunctionArity gs _ s ms z sits h = absurd h
goal_forth g.InfoArity gs vs s ms z sits (digits, (q, is, h)) = forth_at (mark g.InfoArity) (goal_moved g.InfoArity gs vs s) (arity digits) ms q z is refl (info_forth gs vs s digits q z h)
goal_forth (g.Functions n) gs vs s ms z sits h = functions_next n gs vs s ms z h
goal_forth (g.FunctionName n) gs vs s ms z sits (text, digits, q, d, h) = function_name_forth d gs vs s z h
goal_forth (g.Definitions n) gs vs s ms z sits h = definitions_next n gs vs s ms z h
goal_forth (g.DefinitionName n) gs vs s ms z sits (text, digits, q, d, h) = definition_name_forth d gs vs s z h
goal_forth (g.FunctionBody n) gs vs s ms z sits (xs, x, u, q, d, h) = body_forth d gs vs z h
goal_forth (g.Module n) gs vs s ms z sits (y, q, d, h) = module_forth d gs vs z h
goal_forth g.ModuleName gs vs s ms z sits (name, (q, is, h)) = forth_at (mark g.ModuleName) (goal_moved g.ModuleName gs vs s) (plain (t.Atom name)) ms q z is refl h
goal_forth (g.Build form) gs vs s ms z sits h = absurd sits

-- ---- what is built and passed over before

abbrev pub SitsOn : List Goal → Option Symbol → Type 0
SitsOn [] o = Unit {0}
SitsOn (goal ∷ gs) o = Sits goal o

-- the tokens complete a state that sits on the first of them
pub record Settles (gs : List Goal) (vs : List Value) (s : Tables) (ms : List Marked) (z : Module) : Type 0 where
  pub rest : State
  pub is : settled gs vs s (first_of ms) ≡ Some rest
  pub sits : SitsOn rest.goals (first_of ms)
  pub completes : Completes rest.goals rest.values rest.tables ms z

pub settle_forth : (gs : List Goal) (vs : List Value) (s : Tables) (ms : List Marked) (z : Module) → Completes gs vs s ms z → Settles gs vs s ms z
unfolding settled
settle_forth [] vs s ms z h = record { rest = state [] vs s; is = refl; sits = tt; completes = h }
settle_forth (g.Build form ∷ gs) vs s ms z h = on_built (built form vs s) refl h (λ ws u k. settle_forth gs ws u ms z k)
  where
    on_built : (o : Option (List Value × Tables)) → built form vs s ≡ o → OnBuilt o (λ ws u. Completes gs ws u ms z)
        → ((ws : List Value) (u : Tables) → Completes gs ws u ms z → Settles gs ws u ms z) → Settles (g.Build form ∷ gs) vs s ms z
    on_built None is k further = absurd k
    on_built (Some r) is k further =
        let next = further r.0 r.1 k in
        record { rest = next.rest; is = ap (λ (o : Option (List Value × Tables)). with_built o (λ ws u. settled gs ws u (first_of ms))) is ∙ next.is; sits = next.sits; completes = next.completes }
settle_forth (g.NameOrAtom ∷ gs) (v.Atom a ∷ vs) s ms z (inl (before, h)) =
    let next = settle_forth gs (v.Expr (e.Atom a) ∷ vs) s ms z h in
    record { rest = next.rest; is = rw (not_next w.Slash ms before) next.is; sits = next.sits; completes = next.completes }
settle_forth (g.NameOrAtom ∷ gs) (v.Atom a ∷ vs) s ms z (inr (q, is, h)) =
    let here = symbol_next w.Slash ms q is in
    record { rest = state (g.NameOrAtom ∷ gs) (v.Atom a ∷ vs) s; is = rw here refl; sits = here; completes = inr (q, is, h) }
settle_forth (g.NameOrAtom ∷ gs) _ s ms z h = absurd h
settle_forth (g.Alias n ∷ gs) vs s ms z (inl (before, h)) =
    let next = settle_forth gs vs s ms z h in
    record { rest = next.rest; is = rw (not_next w.Equals ms before) next.is; sits = next.sits; completes = next.completes }
settle_forth (g.Alias n ∷ gs) (v.Pattern x ∷ vs) s ms z (inr (y, var, (q, is, h))) =
    let here = symbol_next w.Equals ms q is in
    record { rest = state (g.Alias n ∷ gs) (v.Pattern x ∷ vs) s; is = rw here refl; sits = here; completes = inr (y, var, (q, is, h)) }
settle_forth (g.Alias n ∷ gs) _ s ms z (inr h) = absurd h
settle_forth (g.ClauseRest n true ∷ gs) vs s ms z (inl (before, h)) =
    let next = settle_forth gs vs s ms z h in
    record { rest = next.rest; is = rw (not_next w.When ms before) next.is; sits = next.sits; completes = next.completes }
settle_forth (g.ClauseRest n true ∷ gs) (v.Pattern x ∷ vs) s ms z (inr (q, is, h)) =
    let here = symbol_next w.When ms q is in
    record { rest = state (g.ClauseRest n true ∷ gs) (v.Pattern x ∷ vs) s; is = rw here refl; sits = here; completes = inr (q, is, h) }
settle_forth (g.ClauseRest n true ∷ gs) _ s ms z (inr h) = absurd h
settle_forth (goal ∷ gs) vs s ms z h = record { rest = state (goal ∷ gs) vs s; is = refl; sits = tt; completes = h }

-- ---- one step

-- the state behind the first token, which has this mark
pub record Next (r : State) (m : Marked) (q : List Marked) (z : Module) : Type 0 where
  pub state : State
  pub steps : stepped r m.token ≡ checked m (Some state)
  pub completes : Completes state.goals state.values state.tables q z

next_of : (r : State) (m : Marked) (q : List Marked) (z : Module) (o : Option State) → stepped r m.token ≡ checked m o → Moves o q z → Next r m q z
next_of r m q z None is h = absurd h
next_of r m q z (Some state) is h = record { state = state; steps = is; completes = h }

pub step_forth : (r : State) (m : Marked) (q : List Marked) (z : Module) → Completes r.goals r.values r.tables (m ∷ q) z → Next r m q z
step_forth r m q z h =
    let first = settle_forth r.goals r.values r.tables (m ∷ q) z h in
    at first.rest.goals first.rest.values first.rest.tables first.is first.sits first.completes
  where
    at : (gs : List Goal) (vs : List Value) (s : Tables) → settled r.goals r.values r.tables (symbol_in m.token) ≡ Some (state gs vs s) → SitsOn gs (symbol_in m.token) → Completes gs vs s (m ∷ q) z → Next r m q z
    at [] vs s is sits c = absurd (let bad : m ∷ q ≡ [] = c.0 in cc)
    at (goal ∷ gs) vs s is sits c =
        let forth = goal_forth goal gs vs s (m ∷ q) z sits c in
        let steps : stepped r m.token ≡ checked m (goal_moved goal gs vs s m.token) =
        ap (λ (o : Option State). taken_from o m.token) is ∙ ap (λ (k : Marked). checked k (goal_moved goal gs vs s m.token)) forth.0 in
        next_of r m q z (goal_moved goal gs vs s m.token) steps forth.1
