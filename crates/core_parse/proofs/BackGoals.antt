-- From what is to be read behind a token to what is to be read before it: every goal, and one step.
use Rattle.std.proofs.Common.{◌≡◌, ℕ, ◌≤◌, ◌<◌, leb, Bool, true, false, cond, List, [], ◌∷◌, ◌++◌, Option, Some, None, ◌⊎◌, inl, inr, refl, sym, ap, subst, ◌∙◌, arith}
use Rattle.std.proofs.lemmas.List.{append_assoc, append-nil}
use Rattle.std.proofs.lemmas.Bool.Decides.{leb_tells}
use Rattle.hy_core.specs.Marks.{Marked, plain, symbol, value}
use Rattle.hy_core.specs.Numbering.{atom_number, with_atom, no_tables}
use Rattle.hy_core.specs.Annotations.{IsNote}
use Rattle.hy_core.specs.declared.token.Symbol.TheVariants as w
use Rattle.hy_core.specs.declared.token.Sign.TheVariants as sign
use Rattle.hy_core.specs.declared.token.Token.{Token}
use Rattle.hy_core.specs.declared.token.Token.TheVariants as t
use Rattle.hy_core.specs.declared.tables.Tables.{Tables}
use Rattle.hy_core.specs.declared.tree.Module.{Module}
use Rattle.core_parse.specs.declared.goal.Closer.{Closer}
use Rattle.core_build.specs.declared.form.Form.TheVariants as f
use Rattle.core_parse.specs.declared.goal.Goal.{Goal}
use Rattle.core_parse.specs.declared.goal.Goal.TheVariants as g
use Rattle.core_build.specs.declared.value.Value.{Value}
use Rattle.core_build.specs.declared.value.Value.TheVariants as v
use Rattle.core_parse.specs.declared.state.State.{State}
use Rattle.hy_core.specs.Patterns.{IsNotBefore}
use Rattle.hy_core.specs.Expressions as exprs
use Rattle.hy_core.specs.Expressions.{named_by}
use Rattle.hy_core.specs.Grammar as mods
use Rattle.hy_core.specs.Grammar.{the_module_info, IsDropped}
use Rattle.core_parse.specs.code.Pushdown.{state, closing, is_symbol, is_next, with_values, with_built, clause_begun, function_begun, definition_begun, info_arity_moved, info_export_moved, aliased_by, behind_note, clause_rest, goal_moved, annotation_mark, clause_mark, mark, settled}
use Rattle.core_build.specs.Trees.{built, atom_built}
use Rattle.core_build.specs.Tops.{with_top, top_pattern}
use Rattle.core_parse.proofs.Tests.{first_of, symbol_at, next_not}
use Rattle.core_parse.proofs.Meaning.{Completes, OnBuilt, DefinedThen, ExportedThen}
use Rattle.core_parse.proofs.Forth.{Moves}
use Rattle.core_parse.proofs.Back.{if_back, on_back, at_symbol, note_back, key_back, primop_back, value_back, bindings_back}
use Rattle.core_parse.proofs.BackExprs.{clause_back, body_back, function_name_back, definition_name_back, name_to, module_back}
use Rattle.core_parse.proofs.BackLists.{part_back, parts_back, more_back, heads_back, ends_back, tail_back}
use Rattle.hy_core.specs.declared.tree.FunName.{FunName}
use Rattle.hy_core.specs.declared.tree.Function.{Function}
use Rattle.hy_core.specs.declared.tree.Clause.{Clause}
use Rattle.hy_core.specs.declared.tree.Pattern.{Pattern}
use Rattle.hy_core.specs.declared.tree.Pattern.TheVariants as p
use Rattle.hy_core.specs.declared.tree.Expr.TheVariants as e

-- ---- names

name_back : (gs : List Goal) (vs : List Value) (s : Tables) (token : Token) (q : List Marked) (z : Module) → Moves (goal_moved g.NameOrAtom gs vs s token) q z → Completes (g.NameOrAtom ∷ gs) vs s (plain token ∷ q) z
name_back gs vs s token q z h = at_symbol (g.NameOrAtom ∷ gs) vs s w.Slash token q z (on_back w.Slash token _ q z h).0 (rest vs (on_back w.Slash token _ q z h).1)
  where
    rest : (vs : List Value) → Completes (g.Arity ∷ gs) vs s q z → Completes (g.NameOrAtom ∷ gs) vs s (symbol w.Slash ∷ q) z
    rest (v.Atom a ∷ vs) c = inr (q, refl, c)
    rest _ c = absurd c

alias_from : (n : ℕ) (gs : List Goal) (x : Pattern) (vs : List Value) (s : Tables) (q : List Marked) (z : Module) → Moves (aliased_by n gs x vs s) q z → Completes (g.Alias n ∷ gs) (v.Pattern x ∷ vs) s (symbol w.Equals ∷ q) z
alias_from n gs (p.Var y) vs s q z h = inr (y, refl, (q, refl, h))
alias_from n gs _ vs s q z h = absurd h

alias_on : (n : ℕ) (gs : List Goal) (vs : List Value) (s : Tables) (q : List Marked) (z : Module) → Moves (with_top (top_pattern vs) (λ x ws. aliased_by n gs x ws s)) q z → Completes (g.Alias n ∷ gs) vs s (symbol w.Equals ∷ q) z
alias_on n gs (v.Pattern x ∷ vs) s q z h = alias_from n gs x vs s q z h
alias_on n gs _ s q z h = absurd h

alias_back : (n : ℕ) (gs : List Goal) (vs : List Value) (s : Tables) (token : Token) (q : List Marked) (z : Module) → Moves (goal_moved (g.Alias n) gs vs s token) q z → Completes (g.Alias n ∷ gs) vs s (plain token ∷ q) z
alias_back n gs vs s token q z h = by (if_back (is_symbol w.Equals token) _ _ q z h)
  where
    by : ((is_symbol w.Equals token ≡ true) × Moves (with_top (top_pattern vs) (λ x ws. aliased_by n gs x ws s)) q z) ⊎ ((is_symbol w.Equals token ≡ false) × ⊥) → Completes (g.Alias n ∷ gs) vs s (plain token ∷ q) z
    by (inl (is, r)) = at_symbol (g.Alias n ∷ gs) vs s w.Equals token q z (symbol_at w.Equals token is) (alias_on n gs vs s q z r)
    by (inr (is, r)) = absurd r

-- ---- clauses

clauses_none : (n : ℕ) (c : Closer) (gs : List Goal) (vs : List Value) (s : Tables) (q : List Marked) (z : Module) → Completes gs vs s q z → Completes (g.Clauses n c ∷ gs) vs s (symbol (closing c) ∷ q) z
clauses_none n c gs (v.Clauses bs ∷ vs) s q z h = ([], s, q, exprs.no_clauses, subst (λ (k : List Clause). Completes gs (v.Clauses k ∷ vs) s q z) (sym (append-nil bs)) h)
clauses_none n c gs [] s q z h = (q, refl, h)
clauses_none n c gs (x ∷ vs) s q z h = (q, refl, h)

clauses_from : (n : ℕ) (c : Closer) (gs : List Goal) (vs : List Value) (s : Tables) (ms : List Marked) (z : Module) → Completes (g.Clause n false ∷ g.Clauses n c ∷ gs) vs s ms z → Completes (g.Clauses n c ∷ gs) vs s ms z
clauses_from n c gs (v.Clauses bs ∷ vs) s ms z (b, u, q, d, (cs, i, r, more, h)) =
    (b ∷ cs, i, r, exprs.some_clauses d more, subst (λ (k : List Clause). Completes gs (v.Clauses k ∷ vs) i r z) (append_assoc bs (b ∷ []) cs) h)
clauses_from n c gs _ s ms z h = absurd h

clauses_back : (n : ℕ) (c : Closer) (gs : List Goal) (vs : List Value) (s : Tables) (token : Token) (q : List Marked) (z : Module) → Moves (goal_moved (g.Clauses n c) gs vs s token) q z
    → Completes (g.Clauses n c ∷ gs) vs s (mark (g.Clauses n c) token ∷ q) z
clauses_back n c gs vs s token q z h = by (if_back (is_symbol (closing c) token) _ _ q z h)
  where
    by : ((is_symbol (closing c) token ≡ true) × Completes gs vs s q z) ⊎ ((is_symbol (closing c) token ≡ false) × Moves (clause_begun n false (g.Clauses n c ∷ gs) vs s token) q z)
        → Completes (g.Clauses n c ∷ gs) vs s (mark (g.Clauses n c) token ∷ q) z
    by (inl (is, r)) = rw is (at_symbol (g.Clauses n c ∷ gs) vs s (closing c) token q z (symbol_at (closing c) token is) (clauses_none n c gs vs s q z r))
    by (inr (is, r)) = rw is (clauses_from n c gs vs s (clause_mark n token ∷ q) z (clause_back n false (g.Clauses n c ∷ gs) vs s token q z r))

rest_on : (n : ℕ) (inner : Bool) (gs : List Goal) (vs : List Value) (s : Tables) (q : List Marked) (z : Module)
    → Moves (with_top (top_pattern vs) (λ x ws. Some (state (clause_rest n gs) (v.Patterns (x ∷ []) ∷ ws) s))) q z → Completes (g.ClauseRest n inner ∷ gs) vs s (symbol w.When ∷ q) z
rest_on n false gs (v.Pattern x ∷ vs) s q z h = (q, refl, h)
rest_on n true gs (v.Pattern x ∷ vs) s q z h = inr (q, refl, h)
rest_on n inner gs _ s q z h = absurd h

rest_back : (n : ℕ) (inner : Bool) (gs : List Goal) (vs : List Value) (s : Tables) (token : Token) (q : List Marked) (z : Module) → Moves (goal_moved (g.ClauseRest n inner) gs vs s token) q z
    → Completes (g.ClauseRest n inner ∷ gs) vs s (plain token ∷ q) z
rest_back n inner gs vs s token q z h = by (if_back (is_symbol w.When token) _ _ q z h)
  where
    by : ((is_symbol w.When token ≡ true) × Moves (with_top (top_pattern vs) (λ x ws. Some (state (clause_rest n gs) (v.Patterns (x ∷ []) ∷ ws) s))) q z) ⊎ ((is_symbol w.When token ≡ false) × ⊥)
        → Completes (g.ClauseRest n inner ∷ gs) vs s (plain token ∷ q) z
    by (inl (is, r)) = at_symbol (g.ClauseRest n inner ∷ gs) vs s w.When token q z (symbol_at w.When token is) (rest_on n inner gs vs s q z r)
    by (inr (is, r)) = absurd r

behind_note_back : (n : ℕ) (inner : Bool) (gs : List Goal) (vs : List Value) (s : Tables) (ms r : List Marked) (z : Module) → IsNote n ms r → Completes (behind_note n inner gs vs) vs s r z
    → Completes (g.ClauseNote n inner ∷ gs) vs s ms z
behind_note_back n inner gs (v.Pattern x ∷ vs) s ms r z d h = (r, d, h)
behind_note_back n inner gs [] s ms r z d h = (r, d, h)
behind_note_back n inner gs (x ∷ vs) s ms r z d h = (r, d, h)

clause_note_back : (n : ℕ) (inner : Bool) (gs : List Goal) (vs : List Value) (s : Tables) (token : Token) (q : List Marked) (z : Module) → Moves (goal_moved (g.ClauseNote n inner) gs vs s token) q z
    → Completes (g.ClauseNote n inner ∷ gs) vs s (plain token ∷ q) z
clause_note_back n inner gs vs s token q z h =
    let r = on_back w.NoteBar token _ q z h in
    let d = note_back n (behind_note n inner gs vs) vs s token q z r.0 r.1 in
    behind_note_back n inner gs vs s (plain token ∷ q) d.0 z d.1 d.2

-- ---- arities of what may be dropped

info_back : (gs : List Goal) (vs : List Value) (s : Tables) (digits : List ℕ) (q : List Marked) (z : Module) → Moves (info_arity_moved gs vs s (t.Integer sign.Absent digits)) q z
    → DefinedThen the_module_info digits vs s q (λ ws u r. Completes gs ws u r z)
info_back gs vs s digits q z h = by (leb_tells (value digits) 1)
  where
    by : ((leb (value digits) 1 ≡ true) × (value digits ≤ 1)) ⊎ ((leb (value digits) 1 ≡ false) × (1 < value digits)) → DefinedThen the_module_info digits vs s q (λ ws u r. Completes gs ws u r z)
    by (inl (is, le)) = inr ((refl, le), subst (λ (b : Bool). Moves (cond b (Some (state gs (v.Dropped s ∷ vs) no_tables)) (Some (state gs (v.Name (named_by (atom_number s the_module_info) digits) ∷ vs) (with_atom s the_module_info)))) q z) is h)
    by (inr (is, gt)) = inl (λ dropped. let le = dropped.1 in omega (arith, le, gt), subst (λ (b : Bool). Moves (cond b (Some (state gs (v.Dropped s ∷ vs) no_tables)) (Some (state gs (v.Name (named_by (atom_number s the_module_info) digits) ∷ vs) (with_atom s the_module_info)))) q z) is h)

info_export_back : (gs : List Goal) (es : List FunName) (vs : List Value) (s : Tables) (digits : List ℕ) (q : List Marked) (z : Module) → Moves (info_export_moved gs (v.Names es ∷ vs) s (t.Integer sign.Absent digits)) q z
    → ExportedThen the_module_info digits es vs s q (λ ws u r. Completes gs ws u r z)
info_export_back gs es vs s digits q z h = by (leb_tells (value digits) 1)
  where
    by : ((leb (value digits) 1 ≡ true) × (value digits ≤ 1)) ⊎ ((leb (value digits) 1 ≡ false) × (1 < value digits)) → ExportedThen the_module_info digits es vs s q (λ ws u r. Completes gs ws u r z)
    by (inl (is, le)) = inr ((refl, le), subst (λ (b : Bool). Moves (cond b (Some (state gs (v.Names es ∷ vs) s)) (Some (state gs (v.Names (es ++ named_by (atom_number s the_module_info) digits ∷ []) ∷ vs) (with_atom s the_module_info)))) q z) is h)
    by (inr (is, gt)) = inl (λ dropped. let le = dropped.1 in omega (arith, le, gt), subst (λ (b : Bool). Moves (cond b (Some (state gs (v.Names es ∷ vs) s)) (Some (state gs (v.Names (es ++ named_by (atom_number s the_module_info) digits ∷ []) ∷ vs) (with_atom s the_module_info)))) q z) is h)

-- ---- definitions

functions_none : (n : ℕ) (gs : List Goal) (vs : List Value) (s : Tables) (q : List Marked) (z : Module) → Completes gs vs s q z → Completes (g.Functions n ∷ gs) vs s (symbol w.In ∷ q) z
functions_none n gs (v.Functions es ∷ vs) s q z h = ([], s, q, exprs.no_functions, subst (λ (k : List Function). Completes gs (v.Functions k ∷ vs) s q z) (sym (append-nil es)) h)
functions_none n gs [] s q z h = (q, refl, h)
functions_none n gs (x ∷ vs) s q z h = (q, refl, h)

functions_from : (n : ℕ) (gs : List Goal) (vs : List Value) (s : Tables) (ms : List Marked) (z : Module)
    → Completes (g.FunctionName n ∷ g.Symbol w.Equals ∷ g.FunctionBody n ∷ g.Build f.Function ∷ g.Functions n ∷ gs) vs s ms z → Completes (g.Functions n ∷ gs) vs s ms z
functions_from n gs (v.Functions es ∷ vs) s ms z (text, digits, q, d, (r, is, (xs, x, u, o, body, (fs, i, k, more, h)))) = (
  exprs.function (named_by (atom_number s text) digits) xs x ∷ fs,
  i,
  k,
  exprs.some_functions (name_to d is) body more,
  subst (λ (j : List Function). Completes gs (v.Functions j ∷ vs) i k z) (append_assoc es (exprs.function (named_by (atom_number s text) digits) xs x ∷ []) fs) h,
)
functions_from n gs _ s ms z (text, digits, q, d, (r, is, (xs, x, u, o, body, h))) = absurd h

functions_back : (n : ℕ) (gs : List Goal) (vs : List Value) (s : Tables) (token : Token) (q : List Marked) (z : Module) → Moves (goal_moved (g.Functions n) gs vs s token) q z
    → Completes (g.Functions n ∷ gs) vs s (annotation_mark n token ∷ q) z
functions_back n gs vs s token q z h = by (if_back (is_symbol w.In token) _ _ q z h)
  where
    by : ((is_symbol w.In token ≡ true) × Completes gs vs s q z)
        ⊎ ((is_symbol w.In token ≡ false) × Moves (function_begun n (g.Symbol w.Equals ∷ g.FunctionBody n ∷ g.Build f.Function ∷ g.Functions n ∷ gs) vs s token) q z)
        → Completes (g.Functions n ∷ gs) vs s (annotation_mark n token ∷ q) z
    by (inl (is, r)) = subst (λ (o : Token). Completes (g.Functions n ∷ gs) vs s (annotation_mark n o ∷ q) z) (sym (symbol_at w.In token is)) (functions_none n gs vs s q z r)
    by (inr (is, r)) = functions_from n gs vs s (annotation_mark n token ∷ q) z (function_name_back n (g.Symbol w.Equals ∷ g.FunctionBody n ∷ g.Build f.Function ∷ g.Functions n ∷ gs) vs s token q z r)

definitions_none : (n : ℕ) (gs : List Goal) (vs : List Value) (s : Tables) (q : List Marked) (z : Module) → Completes gs vs s q z → Completes (g.Definitions n ∷ gs) vs s (symbol w.End ∷ q) z
definitions_none n gs (v.Functions es ∷ vs) s q z h = ([], s, q, mods.no_definitions, subst (λ (k : List Function). Completes gs (v.Functions k ∷ vs) s q z) (sym (append-nil es)) h)
definitions_none n gs [] s q z h = (q, refl, h)
definitions_none n gs (x ∷ vs) s q z h = (q, refl, h)

definitions_from : (n : ℕ) (gs : List Goal) (vs : List Value) (s : Tables) (ms : List Marked) (z : Module)
    → Completes (g.DefinitionName n ∷ g.Symbol w.Equals ∷ g.FunctionBody n ∷ g.Build f.Definition ∷ g.Definitions n ∷ gs) vs s ms z → Completes (g.Definitions n ∷ gs) vs s ms z
definitions_from n gs (v.Functions es ∷ vs) s ms z (text, digits, q, d, inl (never, (r, is, (xs, x, u, o, body, (fs, i, k, more, h))))) = (
  exprs.function (named_by (atom_number s text) digits) xs x ∷ fs,
  i,
  k,
  mods.kept_definition (name_to d is) never body more,
  subst (λ (j : List Function). Completes gs (v.Functions j ∷ vs) i k z) (append_assoc es (exprs.function (named_by (atom_number s text) digits) xs x ∷ []) fs) h,
)
definitions_from n gs (v.Functions es ∷ vs) s ms z (text, digits, q, d, inr (dropped, (r, is, (xs, x, u, o, body, (fs, i, k, more, h))))) =
    (fs, i, k, mods.dropped_definition (name_to d is) dropped body more, h)
definitions_from n gs _ s ms z (text, digits, q, d, inl (never, (r, is, (xs, x, u, o, body, h)))) = absurd h
definitions_from n gs _ s ms z (text, digits, q, d, inr (dropped, (r, is, (xs, x, u, o, body, h)))) = absurd h

definitions_back : (n : ℕ) (gs : List Goal) (vs : List Value) (s : Tables) (token : Token) (q : List Marked) (z : Module) → Moves (goal_moved (g.Definitions n) gs vs s token) q z
    → Completes (g.Definitions n ∷ gs) vs s (annotation_mark n token ∷ q) z
definitions_back n gs vs s token q z h = by (if_back (is_symbol w.End token) _ _ q z h)
  where
    by : ((is_symbol w.End token ≡ true) × Completes gs vs s q z)
        ⊎ ((is_symbol w.End token ≡ false) × Moves (definition_begun n (g.Symbol w.Equals ∷ g.FunctionBody n ∷ g.Build f.Definition ∷ g.Definitions n ∷ gs) vs s token) q z)
        → Completes (g.Definitions n ∷ gs) vs s (annotation_mark n token ∷ q) z
    by (inl (is, r)) = subst (λ (o : Token). Completes (g.Definitions n ∷ gs) vs s (annotation_mark n o ∷ q) z) (sym (symbol_at w.End token is)) (definitions_none n gs vs s q z r)
    by (inr (is, r)) = definitions_from n gs vs s (annotation_mark n token ∷ q) z (definition_name_back n (g.Symbol w.Equals ∷ g.FunctionBody n ∷ g.Build f.Definition ∷ g.Definitions n ∷ gs) vs s token q z r)

no_names : {A : Type 0} (digits : List ℕ) → ((leb (value digits) 1 ≡ true) × ⊥) ⊎ ((leb (value digits) 1 ≡ false) × ⊥) → A
no_names digits (inl (is, r)) = absurd r
no_names digits (inr (is, r)) = absurd r

-- ---- every goal

pub goal_back : (goal : Goal) (gs : List Goal) (vs : List Value) (s : Tables) (token : Token) (q : List Marked) (z : Module) → Moves (goal_moved goal gs vs s token) q z → Completes (goal ∷ gs) vs s (mark goal token ∷ q) z
goal_back (g.Symbol k) gs vs s token q z h = let r = on_back k token _ q z h in at_symbol (g.Symbol k ∷ gs) vs s k token q z r.0 (q, refl, r.1)
goal_back (g.Part k n) gs vs s token q z h = part_back k n gs vs s token q z h
goal_back (g.Parts k n c) gs vs s token q z h = parts_back k n c gs vs s token q z h
goal_back (g.MoreParts k n c) gs vs s token q z h = more_back k n c gs vs s token q z h
goal_back (g.Heads k n) gs vs s token q z h = heads_back k n gs vs s token q z h
goal_back (g.MoreHeads k n) gs vs s token q z h = ends_back k n gs vs s token q z h
goal_back (g.Tail k n) gs vs s token q z h = tail_back k n gs vs s token q z h
goal_back g.NameOrAtom gs vs s token q z h = name_back gs vs s token q z h
goal_back g.Arity gs (v.Atom a ∷ vs) s (t.Integer sign.Absent digits) q z h = (digits, (q, refl, h))
goal_back g.Arity gs _ s (t.Integer sign.Absent digits) q z h = absurd h
goal_back g.Arity gs vs s _ q z h = absurd h
goal_back (g.Alias n) gs vs s token q z h = alias_back n gs vs s token q z h
goal_back (g.Bindings n) gs vs s token q z h = bindings_back n gs vs s token q z h
goal_back (g.Clauses n c) gs vs s token q z h = clauses_back n c gs vs s token q z h
goal_back (g.Clause n inner) gs vs s token q z h = clause_back n inner gs vs s token q z h
goal_back (g.ClauseRest n inner) gs vs s token q z h = rest_back n inner gs vs s token q z h
goal_back (g.ClauseNote n inner) gs vs s token q z h = clause_note_back n inner gs vs s token q z h
goal_back (g.Note n) gs vs s token q z h = let r = on_back w.NoteBar token _ q z h in note_back n gs vs s token q z r.0 r.1
goal_back (g.Key n) gs vs s token q z h = key_back n gs vs s token q z h
goal_back (g.AttributeValue n) gs vs s token q z h = value_back n gs vs s token q z h
goal_back (g.Primop n) gs vs s token q z h = primop_back n gs vs s token q z h
goal_back g.ExportArity gs (v.Atom a ∷ v.Names es ∷ vs) s (t.Integer sign.Absent digits) q z h = (digits, (q, refl, h))
goal_back g.ExportArity gs _ s (t.Integer sign.Absent digits) q z h = absurd h
goal_back g.ExportArity gs vs s _ q z h = absurd h
goal_back g.InfoExportArity gs (v.Names es ∷ vs) s (t.Integer sign.Absent digits) q z h = (digits, (q, refl, info_export_back gs es vs s digits q z h))
goal_back g.InfoExportArity gs _ s (t.Integer sign.Absent digits) q z h = no_names digits (if_back (leb (value digits) 1) _ _ q z h)
goal_back g.InfoExportArity gs vs s _ q z h = absurd h
goal_back g.FunctionArity gs (v.Atom a ∷ vs) s (t.Integer sign.Absent digits) q z h = (digits, (q, refl, h))
goal_back g.FunctionArity gs _ s (t.Integer sign.Absent digits) q z h = absurd h
goal_back g.FunctionArity gs vs s _ q z h = absurd h
goal_back g.InfoArity gs vs s (t.Integer sign.Absent digits) q z h = (digits, (q, refl, info_back gs vs s digits q z h))
goal_back g.InfoArity gs vs s _ q z h = absurd h
goal_back (g.Functions n) gs vs s token q z h = functions_back n gs vs s token q z h
goal_back (g.FunctionName n) gs vs s token q z h = function_name_back n gs vs s token q z h
goal_back (g.Definitions n) gs vs s token q z h = definitions_back n gs vs s token q z h
goal_back (g.DefinitionName n) gs vs s token q z h = definition_name_back n gs vs s token q z h
goal_back (g.FunctionBody n) gs vs s token q z h = body_back n gs vs s token q z h
goal_back (g.Module n) gs vs s token q z h = module_back n gs vs s token q z h
goal_back g.ModuleName gs vs s (t.Atom name) q z h = (name, (q, refl, h))
goal_back g.ModuleName gs vs s _ q z h = absurd h
goal_back (g.Build form) gs vs s token q z h = absurd h

-- ---- what is built and passed over before

at_rest : (o r : State) (ms : List Marked) (z : Module) → Some o ≡ Some r → Completes r.goals r.values r.tables ms z → Completes o.goals o.values o.tables ms z
at_rest o r ms z is h = let same : r ≡ o = cc in subst (λ (k : State). Completes k.goals k.values k.tables ms z) same h

pub settle_back : (gs : List Goal) (vs : List Value) (s : Tables) (ms : List Marked) (z : Module) (r : State) → settled gs vs s (first_of ms) ≡ Some r → Completes r.goals r.values r.tables ms z → Completes gs vs s ms z
unfolding settled
settle_back [] vs s ms z r is h = at_rest (state [] vs s) r ms z is h
settle_back (g.Build form ∷ gs) vs s ms z r is h = on_built (built form vs s) refl is (λ ws u eq. settle_back gs ws u ms z r eq h)
  where
    on_built : (o : Option (List Value × Tables)) → built form vs s ≡ o → with_built (built form vs s) (λ ws u. settled gs ws u (first_of ms)) ≡ Some r
        → ((ws : List Value) (u : Tables) → settled gs ws u (first_of ms) ≡ Some r → Completes gs ws u ms z) → Completes (g.Build form ∷ gs) vs s ms z
    on_built None eq k further = absurd (let bad : None ≡ Some r = ap (λ (o : Option (List Value × Tables)). with_built o (λ ws u. settled gs ws u (first_of ms))) (sym eq) ∙ k in cc)
    on_built (Some o) eq k further =
        let next : settled gs o.0 o.1 (first_of ms) ≡ Some r = ap (λ (o : Option (List Value × Tables)). with_built o (λ ws u. settled gs ws u (first_of ms))) (sym eq) ∙ k in
        subst (λ (o : Option (List Value × Tables)). OnBuilt o (λ ws u. Completes gs ws u ms z)) (sym eq) (further o.0 o.1 next)
settle_back (g.NameOrAtom ∷ gs) vs s ms z r is h = by (is_next w.Slash (first_of ms)) refl is (λ ws eq. settle_back gs ws s ms z r eq h)
  where
    passed : (vs : List Value) → IsNotBefore w.Slash ms → with_values (atom_built vs) (λ ws. settled gs ws s (first_of ms)) ≡ Some r
        → ((ws : List Value) → settled gs ws s (first_of ms) ≡ Some r → Completes gs ws s ms z) → Completes (g.NameOrAtom ∷ gs) vs s ms z
    passed (v.Atom a ∷ vs) never k further = inl (never, further (v.Expr (e.Atom a) ∷ vs) k)
    passed _ never k further = absurd cc

    by : (b : Bool) → is_next w.Slash (first_of ms) ≡ b → cond b (Some (state (g.NameOrAtom ∷ gs) vs s)) (with_values (atom_built vs) (λ ws. settled gs ws s (first_of ms))) ≡ Some r
        → ((ws : List Value) → settled gs ws s (first_of ms) ≡ Some r → Completes gs ws s ms z) → Completes (g.NameOrAtom ∷ gs) vs s ms z
    by true eq k further = at_rest (state (g.NameOrAtom ∷ gs) vs s) r ms z k h
    by false eq k further = passed vs (next_not w.Slash ms eq) k further
settle_back (g.Alias n ∷ gs) vs s ms z r is h = by (is_next w.Equals (first_of ms)) refl is (λ eq. settle_back gs vs s ms z r eq h)
  where
    by : (b : Bool) → is_next w.Equals (first_of ms) ≡ b → cond b (Some (state (g.Alias n ∷ gs) vs s)) (settled gs vs s (first_of ms)) ≡ Some r
        → (settled gs vs s (first_of ms) ≡ Some r → Completes gs vs s ms z) → Completes (g.Alias n ∷ gs) vs s ms z
    by true eq k further = at_rest (state (g.Alias n ∷ gs) vs s) r ms z k h
    by false eq k further = inl (next_not w.Equals ms eq, further k)
settle_back (g.ClauseRest n true ∷ gs) vs s ms z r is h = by (is_next w.When (first_of ms)) refl is (λ eq. settle_back gs vs s ms z r eq h)
  where
    by : (b : Bool) → is_next w.When (first_of ms) ≡ b → cond b (Some (state (g.ClauseRest n true ∷ gs) vs s)) (settled gs vs s (first_of ms)) ≡ Some r
        → (settled gs vs s (first_of ms) ≡ Some r → Completes gs vs s ms z) → Completes (g.ClauseRest n true ∷ gs) vs s ms z
    by true eq k further = at_rest (state (g.ClauseRest n true ∷ gs) vs s) r ms z k h
    by false eq k further = inl (next_not w.When ms eq, further k)
settle_back (goal ∷ gs) vs s ms z r is h = at_rest (state (goal ∷ gs) vs s) r ms z is h
