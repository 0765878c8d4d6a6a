-- From what is to be read behind a token to what is to be read before it: expressions, clauses, definitions and the module.
use Rattle.std.proofs.Common.{◌≡◌, ℕ, ◌+◌, Bool, true, false, List, [], ◌∷◌, ◌⊎◌, inl, inr, sym, ap, subst, ◌∙◌}
use Rattle.std.proofs.lemmas.List.{append-nil}
use Rattle.hy_core.specs.Marks.{Marked, at, plain, symbol, arity, value}
use Rattle.hy_core.specs.Numbering.{atom_number, with_atom}
use Rattle.hy_core.specs.Annotations as notes
use Rattle.hy_core.specs.Annotations.{IsConstant, AreConstants, AreMoreConstants, IsConstantList, IsConstantEnd, IsConstantTail, IsNote, IsAtom, IsName, IsAttributeValue, AreAttributes, AreMoreAttributes}
use Rattle.hy_core.specs.declared.token.Symbol.{Symbol}
use Rattle.hy_core.specs.declared.token.Symbol.TheVariants as w
use Rattle.hy_core.specs.declared.token.Token.{Token}
use Rattle.hy_core.specs.declared.token.Token.TheVariants as t
use Rattle.hy_core.specs.declared.tables.Tables.{Tables}
use Rattle.hy_core.specs.declared.tree.Module.{Module}
use Rattle.core_build.specs.declared.form.Part.TheVariants as part
use Rattle.core_parse.specs.declared.goal.Closer.TheVariants as closer
use Rattle.core_parse.specs.declared.goal.Goal.{Goal}
use Rattle.core_parse.specs.declared.goal.Goal.TheVariants as g
use Rattle.core_build.specs.declared.value.Value.{Value}
use Rattle.core_build.specs.declared.value.Value.TheVariants as v
use Rattle.hy_core.specs.Patterns as pats
use Rattle.hy_core.specs.Patterns.{AreVariables, BindsValues, IsNotBefore, IsPattern, ArePatterns}
use Rattle.hy_core.specs.Expressions as exprs
use Rattle.hy_core.specs.Expressions.{named_by, IsExpr, AreExprs, AreMoreExprs, IsList, IsListEnd, IsTail, IsClause, AreClauses, IsFunction, AreFunctions}
use Rattle.hy_core.specs.Grammar as mods
use Rattle.hy_core.specs.Grammar.{the_module_info, IsDropped, IsExport, AreExports, AreMoreExports, AreDefinitions, IsModuleAt}
use Rattle.core_parse.specs.code.Pushdown.{is_info, expr_begun, function_begun, definition_begun, export_begun, clause_begun, body_begun, module_begun, clause_rest, annotation_mark, clause_mark}
use Rattle.core_parse.proofs.Meaning.{Completes, DefinedThen, ExportedThen}
use Rattle.core_parse.proofs.Forth.{Moves}
use Rattle.core_parse.proofs.ForthExprs.{info_is, not_info}
use Rattle.core_parse.proofs.Back.{if_back, note_to, atom_to, pattern_to, pattern_aliased, pattern_back}
use Rattle.hy_core.specs.declared.tree.FunName.{FunName}
use Rattle.hy_core.specs.declared.tree.Pattern.{Pattern}
use Rattle.hy_core.specs.declared.tree.Expr.{Expr}
use Rattle.hy_core.specs.declared.tree.Expr.TheVariants as e

-- ---- another way to write the tokens that are left

expr_to : {n : ℕ} {s u : Tables} {ms q r : List Marked} {x : Expr} → IsExpr n s ms x u q → q ≡ r → IsExpr n s ms x u r
expr_to {n = n} {s = s} {u = u} {ms = ms} {x = x} d is = subst (λ (o : List Marked). IsExpr n s ms x u o) is d

binds_to : {n : ℕ} {s u : Tables} {ms q r : List Marked} {xs : List ℕ} → BindsValues n s ms xs u q → q ≡ r → BindsValues n s ms xs u r
binds_to {n = n} {s = s} {u = u} {ms = ms} {xs = xs} d is = subst (λ (o : List Marked). BindsValues n s ms xs u o) is d

variables_to : {n : ℕ} {c : Symbol} {s u : Tables} {ms q r : List Marked} {xs : List ℕ} → AreVariables n c s ms xs u q → q ≡ r → AreVariables n c s ms xs u r
variables_to {n = n} {c = c} {s = s} {u = u} {ms = ms} {xs = xs} d is = subst (λ (o : List Marked). AreVariables n c s ms xs u o) is d

patterns_to : {n : ℕ} {c : Symbol} {s u : Tables} {ms q r : List Marked} {xs : List Pattern} → ArePatterns n c s ms xs u q → q ≡ r → ArePatterns n c s ms xs u r
patterns_to {n = n} {c = c} {s = s} {u = u} {ms = ms} {xs = xs} d is = subst (λ (o : List Marked). ArePatterns n c s ms xs u o) is d

pub name_to : {n : ℕ} {ms q r : List Marked} {text digits : List ℕ} → IsName n ms text digits q → q ≡ r → IsName n ms text digits r
name_to {n = n} {ms = ms} {text = text} {digits = digits} d is = subst (λ (o : List Marked). IsName n ms text digits o) is d

exports_to : {n : ℕ} {c : Symbol} {s u : Tables} {ms q r : List Marked} {xs : List FunName} → AreExports n c s ms xs u q → q ≡ r → AreExports n c s ms xs u r
exports_to {n = n} {c = c} {s = s} {u = u} {ms = ms} {xs = xs} d is = subst (λ (o : List Marked). AreExports n c s ms xs u o) is d

-- ---- expressions

-- the slash and the arity behind an atom
slash_arity : (q a b : List Marked) (digits : List ℕ) → q ≡ symbol w.Slash ∷ a → a ≡ arity digits ∷ b → q ≡ symbol w.Slash ∷ arity digits ∷ b
slash_arity q a b digits is then = is ∙ ap (λ (o : List Marked). symbol w.Slash ∷ o) then

pub expr_back : (n : ℕ) (gs : List Goal) (vs : List Value) (s : Tables) (token : Token) (q : List Marked) (z : Module) → Moves (expr_begun n gs vs s token) q z
    → Completes (g.Part part.Expr n ∷ gs) vs s (at n token ∷ q) z
expr_back n gs vs s (t.Integer sign digits) q z h = (_, _, _, exprs.integer sign digits, h)
expr_back n gs vs s (t.Character byte) q z h = (_, _, _, exprs.character byte, h)
expr_back n gs vs s (t.Atom text) q z (inl (before, h)) = (_, _, _, exprs.atom text before, h)
expr_back n gs vs s (t.Atom text) q z (inr (a, is, (digits, (b, then, h)))) =
    let x = e.Name (named_by (atom_number s text) digits) in
    (x, with_atom s text, b, subst (λ (o : List Marked). IsExpr n s (at n (t.Atom text) ∷ o) x (with_atom s text) b) (sym (slash_arity q a b digits is then)) (exprs.name text digits), h)
expr_back n gs vs s (t.Str text) q z h = (_, _, _, exprs.string text, h)
expr_back n gs vs s (t.Variable name) q z h = (_, _, _, exprs.variable name, h)
expr_back n gs vs s (t.Symbol w.OpenList) q z (x, u, r, d, h) = (_, _, _, exprs.list d, h)
expr_back n gs vs s (t.Symbol w.OpenTuple) q z (xs, u, r, d, h) = (_, _, _, exprs.tuple d, h)
expr_back n gs vs s (t.Symbol w.Less) q z (xs, u, r, d, h) = (_, _, _, exprs.values d, h)
expr_back n gs vs s (t.Symbol w.Let) q z (xs, u1, q1, d1, (q2, e1, (x, u2, q3, d2, (q4, e2, (y, u3, q5, d3, h))))) = (_, _, _, exprs.let_in (binds_to d1 e1) (expr_to d2 e2) d3, h)
expr_back n gs vs s (t.Symbol w.Do) q z (x, u1, q1, d1, (y, u2, q2, d2, h)) = (_, _, _, exprs.do_both d1 d2, h)
expr_back n gs vs s (t.Symbol w.Case) q z (x, u1, q1, d1, (q2, e1, (c, u2, q3, d2, (cs, u3, q4, d3, h)))) = (_, _, _, exprs.case_of (expr_to d1 e1) d2 d3, h)
expr_back n gs vs s (t.Symbol w.Letrec) q z (fs, u1, q1, d1, (x, u2, q2, d2, h)) = (_, _, _, exprs.letrec_in d1 d2, h)
expr_back n gs vs s (t.Symbol w.Apply) q z (x, u1, q1, d1, (q2, e1, (xs, u2, q3, d2, h))) = (_, _, _, exprs.apply (expr_to d1 e1) d2, h)
expr_back n gs vs s (t.Symbol w.Call) q z (x, u1, q1, d1, (q2, e1, (y, u2, q3, d2, (q4, e2, (xs, u3, q5, d3, h))))) = (_, _, _, exprs.call (expr_to d1 e1) (expr_to d2 e2) d3, h)
expr_back n gs vs s (t.Symbol w.Primop) q z (text, q1, d1, (q2, e1, (xs, u2, q3, d2, h))) = (_, _, _, exprs.primop (atom_to d1 e1) d2, h)
expr_back n gs vs s (t.Symbol w.Receive) q z (cs, u1, q1, d1, (x, u2, q2, d2, (q3, e1, (y, u3, q4, d3, h)))) = (_, _, _, exprs.receive_after d1 (expr_to d2 e1) d3, h)
expr_back n gs vs s (t.Symbol w.Try) q z
    (x, u1, q1, d1, (q2, e1, (xs, u2, q3, d2, (q4, e2, (y, u3, q5, d3, (q6, e3, (ys, u4, q7, d4, (q8, e4, (o, u5, q9, d5, h))))))))) =
    (_, _, _, exprs.try_of (expr_to d1 e1) (binds_to d2 e2) (expr_to d3 e3) (binds_to d4 e4) d5, h)
expr_back n gs vs s (t.Symbol w.Catch) q z (x, u, r, d, h) = (_, _, _, exprs.catch_all d, h)
expr_back n gs vs s (t.Symbol w.Fun) q z (q1, e0, (xs, u1, q2, d1, (q3, e1, (x, u2, q4, d2, h)))) =
    (e.Fun xs x, u2, q4, subst (λ (o : List Marked). IsExpr n s (at n (t.Symbol w.Fun) ∷ o) (e.Fun xs x) u2 q4) (sym e0) (exprs.fun (variables_to d1 e1) d2), h)
expr_back n gs vs s (t.Symbol w.Open) q z (x, u, r, d, (o, end, h)) = (_, _, _, exprs.noted d end, h)
expr_back n gs vs s (t.Symbol _) q z h = absurd h

-- ---- clauses

-- a clause of one pattern, whose rest is read
whole_from : (n : ℕ) (inner : Bool) (gs : List Goal) (vs : List Value) (s u : Tables) (ms q : List Marked) (x : Pattern) (z : Module) → IsPattern n s ms x u q
    → Completes (g.ClauseRest n false ∷ gs) (v.Pattern x ∷ vs) u q z → Completes (g.Clause n false ∷ gs) vs s ms z
whole_from n inner gs (v.Clauses cs ∷ vs) s u ms q x z d (q1, e1, (o, u2, q2, guard, (q3, e2, (y, u3, q4, body, h)))) =
    (_, _, _, exprs.one_pattern (pattern_to d e1) (expr_to guard e2) body, h)
whole_from n inner gs _ s u ms q x z d (q1, e1, (o, u2, q2, guard, (q3, e2, (y, u3, q4, body, h)))) = absurd h

clause_from : (n : ℕ) (inner : Bool) (gs : List Goal) (vs : List Value) (s u : Tables) (ms q : List Marked) (x : Pattern) (z : Module) → IsPattern n s ms x u q
    → Completes (g.ClauseRest n inner ∷ gs) (v.Pattern x ∷ vs) u q z → Completes (g.Clause n inner ∷ gs) vs s ms z
clause_from n false gs vs s u ms q x z d h = whole_from n false gs vs s u ms q x z d h
clause_from n true gs vs s u ms q x z d (inl (before, h)) = inr (x, u, q, d, (before, h))
clause_from n true gs vs s u ms q x z d (inr h) = inl (whole_from n true gs vs s u ms q x z d h)

-- a clause that had to be one is one where it didn't
either_clause : (n : ℕ) (inner : Bool) (gs : List Goal) (vs : List Value) (s : Tables) (ms : List Marked) (z : Module) → Completes (g.Clause n false ∷ gs) vs s ms z → Completes (g.Clause n inner ∷ gs) vs s ms z
either_clause n false gs vs s ms z h = h
either_clause n true gs vs s ms z h = inl h

noted_clause_back : (n : ℕ) (inner : Bool) (gs : List Goal) (vs : List Value) (s : Tables) (q : List Marked) (z : Module) → Completes (g.Clause (n + 1) true ∷ g.ClauseNote n inner ∷ gs) vs s q z
    → Completes (g.Clause n inner ∷ gs) vs s (at n (t.Symbol w.Open) ∷ q) z
noted_clause_back n inner gs (v.Clauses cs ∷ vs) s q z (inl (c, u, r, d, (o, end, h))) =
    either_clause n inner gs (v.Clauses cs ∷ vs) s (at n (t.Symbol w.Open) ∷ q) z (c, u, o, exprs.noted_clause d end, h)
noted_clause_back n inner gs vs s q z (inr (x, u, r, d, (before, (o, end, inl (never, rest))))) =
    clause_from n inner gs vs s u (at n (t.Symbol w.Open) ∷ q) o x z (pats.noted d end never) rest
noted_clause_back n inner gs vs s q z (inr (x, u, r, d, (before, (o, end, inr (y, var, (a, is, (b, i, k, d2, rest))))))) =
    clause_from n inner gs vs s i (at n (t.Symbol w.Open) ∷ q) k _ z (pats.alias (pats.noted (pattern_aliased d y var) (note_to end is)) d2) rest
noted_clause_back n inner gs _ s q z (inl h) = absurd h

listed_clause_back : (n : ℕ) (inner : Bool) (gs : List Goal) (vs : List Value) (s : Tables) (q : List Marked) (z : Module) → Completes (g.Parts part.Pattern n closer.Values ∷ g.Symbol w.When ∷ clause_rest n gs) vs s q z
    → Completes (g.Clause n inner ∷ gs) vs s (symbol w.Less ∷ q) z
listed_clause_back n inner gs (v.Clauses cs ∷ vs) s q z (xs, u1, q1, d, (q2, e1, (x, u2, q3, guard, (q4, e2, (y, u3, q5, body, h))))) =
    either_clause n inner gs (v.Clauses cs ∷ vs) s (symbol w.Less ∷ q) z (_, _, _, exprs.patterns (patterns_to d e1) (expr_to guard e2) body, h)
listed_clause_back n inner gs _ s q z (xs, u1, q1, d, (q2, e1, (x, u2, q3, guard, (q4, e2, (y, u3, q5, body, h))))) = absurd h

pub clause_back : (n : ℕ) (inner : Bool) (gs : List Goal) (vs : List Value) (s : Tables) (token : Token) (q : List Marked) (z : Module) → Moves (clause_begun n inner gs vs s token) q z
    → Completes (g.Clause n inner ∷ gs) vs s (clause_mark n token ∷ q) z
clause_back n inner gs vs s (t.Symbol w.Open) q z h = noted_clause_back n inner gs vs s q z h
clause_back n inner gs vs s (t.Symbol w.Less) q z h = listed_clause_back n inner gs vs s q z h
clause_back n inner gs vs s token q z h =
    let r = pattern_back n (g.ClauseRest n inner ∷ gs) vs s token q z h in
    clause_from n inner gs vs s r.1 (at n token ∷ q) r.2 r.0 z r.3 r.4

-- ---- definitions

pub body_back : (n : ℕ) (gs : List Goal) (vs : List Value) (s : Tables) (token : Token) (q : List Marked) (z : Module) → Moves (body_begun n gs vs s token) q z
    → Completes (g.FunctionBody n ∷ gs) vs s (annotation_mark n token ∷ q) z
body_back n gs vs s (t.Symbol w.Fun) q z (q1, e0, (xs, u1, q2, d1, (q3, e1, (x, u2, q4, d2, h)))) =
    (xs, x, u2, q4, subst (λ (o : List Marked). IsFunction n s (symbol w.Fun ∷ o) xs x u2 q4) (sym e0) (exprs.function_of (variables_to d1 e1) d2), h)
body_back n gs vs s (t.Symbol w.Open) q z (xs, x, u, r, d, (o, end, h)) = (xs, x, u, o, exprs.noted_function d end, h)
body_back n gs vs s _ q z h = absurd h

-- a function's name of these tokens
name_at : (n : ℕ) (text digits : List ℕ) (q a b : List Marked) → q ≡ symbol w.Slash ∷ a → a ≡ arity digits ∷ b → IsName n (plain (t.Atom text) ∷ q) text digits b
name_at n text digits q a b is then = subst (λ (o : List Marked). IsName n (plain (t.Atom text) ∷ o) text digits b) (sym (slash_arity q a b digits is then)) (notes.name text digits)

pub function_name_back : (n : ℕ) (gs : List Goal) (vs : List Value) (s : Tables) (token : Token) (q : List Marked) (z : Module) → Moves (function_begun n gs vs s token) q z
    → Completes (g.FunctionName n ∷ gs) vs s (annotation_mark n token ∷ q) z
function_name_back n gs vs s (t.Atom text) q z (a, is, (digits, (b, then, h))) = (text, digits, b, name_at n text digits q a b is then, h)
function_name_back n gs vs s (t.Symbol w.Open) q z (text, digits, r, d, (o, end, h)) = (text, digits, o, notes.noted d end, h)
function_name_back n gs vs s _ q z h = absurd h

pub definition_name_back : (n : ℕ) (gs : List Goal) (vs : List Value) (s : Tables) (token : Token) (q : List Marked) (z : Module) → Moves (definition_begun n gs vs s token) q z
    → Completes (g.DefinitionName n ∷ gs) vs s (annotation_mark n token ∷ q) z
definition_name_back n gs vs s (t.Atom text) q z h = by (if_back (is_info text) _ _ q z h)
  where
    by : ((is_info text ≡ true) × Completes (g.Symbol w.Slash ∷ g.InfoArity ∷ gs) vs s q z)
        ⊎ ((is_info text ≡ false) × Completes (g.Symbol w.Slash ∷ g.FunctionArity ∷ gs) (v.Atom (atom_number s text) ∷ vs) (with_atom s text) q z)
        → Completes (g.DefinitionName n ∷ gs) vs s (plain (t.Atom text) ∷ q) z
    by (inl (info, (a, is, (digits, (b, then, k))))) =
        (text, digits, b, name_at n text digits q a b is then, subst (λ (o : List ℕ). DefinedThen o digits vs s b (λ ws u r. Completes gs ws u r z)) (sym (info_is text info)) k)
    by (inr (info, (a, is, (digits, (b, then, k))))) = (text, digits, b, name_at n text digits q a b is then, inl (λ dropped. not_info text info dropped.0, k))
definition_name_back n gs vs s (t.Symbol w.Open) q z (text, digits, r, d, inl (never, (o, end, h))) = (text, digits, o, notes.noted d end, inl (never, h))
definition_name_back n gs vs s (t.Symbol w.Open) q z (text, digits, r, d, inr (is, (o, end, h))) = (text, digits, o, notes.noted d end, inr (is, h))
definition_name_back n gs vs s _ q z h = absurd h

-- an export of this name, kept or dropped
export_of : {n : ℕ} {ms q : List Marked} {text digits : List ℕ} (es : List FunName) (gs : List Goal) (vs : List Value) (s : Tables) (z : Module) → IsName n ms text digits q
    → ExportedThen text digits es vs s q (λ ws u r. Completes gs ws u r z) → Completes (g.Part part.Export n ∷ gs) (v.Names es ∷ vs) s ms z
export_of es gs vs s z d (inl (never, h)) = (_, _, _, mods.kept d never, h)
export_of {q = q} es gs vs s z d (inr (is, h)) = ([], s, q, mods.dropped d is, subst (λ (o : List FunName). Completes gs (v.Names o ∷ vs) s q z) (sym (append-nil es)) h)

-- no export is read where no list of names is on top
no_export : (text : List ℕ) (q : List Marked)
    → ((is_info text ≡ true) × ((a : List Marked) × (q ≡ symbol w.Slash ∷ a) × ⊥)) ⊎ ((is_info text ≡ false) × ((a : List Marked) × (q ≡ symbol w.Slash ∷ a) × ⊥)) → ⊥
no_export text q (inl (info, (a, is, k))) = k
no_export text q (inr (info, (a, is, k))) = k

-- an annotated export
noted_export : {n : ℕ} {s u : Tables} {ms q r : List Marked} {xs : List FunName} → IsExport (n + 1) s ms xs u q → IsNote n q r → IsExport n s (at n (t.Symbol w.Open) ∷ ms) xs u r
noted_export (mods.kept d never) end = mods.kept (notes.noted d end) never
noted_export (mods.dropped d is) end = mods.dropped (notes.noted d end) is

pub export_back : (n : ℕ) (gs : List Goal) (vs : List Value) (s : Tables) (token : Token) (q : List Marked) (z : Module) → Moves (export_begun n gs vs s token) q z
    → Completes (g.Part part.Export n ∷ gs) vs s (annotation_mark n token ∷ q) z
export_back n gs (v.Names es ∷ vs) s (t.Atom text) q z h = by (if_back (is_info text) _ _ q z h)
  where
    by : ((is_info text ≡ true) × Completes (g.Symbol w.Slash ∷ g.InfoExportArity ∷ gs) (v.Names es ∷ vs) s q z)
        ⊎ ((is_info text ≡ false) × Completes (g.Symbol w.Slash ∷ g.ExportArity ∷ gs) (v.Atom (atom_number s text) ∷ v.Names es ∷ vs) (with_atom s text) q z)
        → Completes (g.Part part.Export n ∷ gs) (v.Names es ∷ vs) s (plain (t.Atom text) ∷ q) z
    by (inl (info, (a, is, (digits, (b, then, k))))) =
        export_of es gs vs s z (name_at n text digits q a b is then) (subst (λ (o : List ℕ). ExportedThen o digits es vs s b (λ ws u r. Completes gs ws u r z)) (sym (info_is text info)) k)
    by (inr (info, (a, is, (digits, (b, then, k))))) = export_of es gs vs s z (name_at n text digits q a b is then) (inl (λ dropped. not_info text info dropped.0, k))
export_back n gs (v.Names es ∷ vs) s (t.Symbol w.Open) q z (xs, u, r, d, (o, end, h)) = (xs, u, o, noted_export d end, h)
export_back n gs (v.Names es ∷ vs) s _ q z h = absurd h
export_back n gs [] s (t.Atom text) q z h = absurd (no_export text q (if_back (is_info text) _ _ q z h))
export_back n gs (value ∷ vs) s (t.Atom text) q z h = absurd (no_export text q (if_back (is_info text) _ _ q z h))
export_back n gs [] s (t.Symbol w.Open) q z h = absurd h
export_back n gs (value ∷ vs) s (t.Symbol w.Open) q z h = absurd h
export_back n gs vs s _ q z h = absurd h

-- ---- the module

pub module_back : (n : ℕ) (gs : List Goal) (vs : List Value) (s : Tables) (token : Token) (q : List Marked) (z : Module) → Moves (module_begun n gs vs s token) q z
    → Completes (g.Module n ∷ gs) vs s (at n token ∷ q) z
module_back n gs vs s (t.Symbol w.Module) q z (name, (q1, e1, (q2, e2, (es, u1, q3, d1, (q4, e3, (q5, e4, (q6, d2, (fs, u2, q7, d3, h)))))))) =
    let head : q ≡ plain (t.Atom name) ∷ symbol w.OpenList ∷ q2 = e1 ∙ ap (λ (o : List Marked). plain (t.Atom name) ∷ o) e2 in
    let tail : q3 ≡ symbol w.Attributes ∷ symbol w.OpenList ∷ q5 = e3 ∙ ap (λ (o : List Marked). symbol w.Attributes ∷ o) e4 in
    let y = mods.module_of (atom_number s name) es fs u2 in
    (y, q7, subst (λ (o : List Marked). IsModuleAt n s (at n (t.Symbol w.Module) ∷ o) y q7) (sym head) (mods.plain_module name (exports_to d1 tail) d2 d3), h)
module_back n gs vs s (t.Symbol w.Open) q z (y, r, d, (o, end, h)) = (y, o, mods.noted d end, h)
module_back n gs vs s _ q z h = absurd h
