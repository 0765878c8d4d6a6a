-- What is to be read, one token on: expressions, clauses, definitions and the module.
use Rattle.std.proofs.Common.{◌≡◌, ℕ, ◌+◌, Bool, true, false, List, [], ◌∷◌, ◌++◌, inl, inr, refl, sym, ap, subst, ◌∙◌}
use Rattle.std.proofs.lemmas.List.{append_assoc, append-nil}
use Rattle.std.proofs.lemmas.Slice.Eq.{bytes_eq-Decides}
use Rattle.hy_terms.proofs.NamingLemmas.{bytes_eq-same}
use Rattle.hy_core.specs.Marks.{Marked, at, symbol, arity}
use Rattle.hy_core.specs.Numbering.{atom_number, with_atom}
use Rattle.hy_core.specs.Annotations as notes
use Rattle.hy_core.specs.Annotations.{IsConstant, AreConstants, AreMoreConstants, IsConstantList, IsConstantEnd, IsConstantTail, IsNote, IsAtom, IsName, IsAttributeValue, AreAttributes, AreMoreAttributes}
use Rattle.hy_core.specs.declared.token.Symbol.TheVariants as w
use Rattle.hy_core.specs.declared.token.Token.TheVariants as t
use Rattle.hy_core.specs.declared.tables.Tables.{Tables}
use Rattle.hy_core.specs.declared.tree.Module.{Module}
use Rattle.core_build.specs.declared.form.Part.TheVariants as part
use Rattle.core_parse.specs.declared.goal.Closer.{Closer}
use Rattle.core_parse.specs.declared.goal.Closer.TheVariants as closer
use Rattle.core_build.specs.declared.form.Form.TheVariants as f
use Rattle.core_parse.specs.declared.goal.Goal.{Goal}
use Rattle.core_parse.specs.declared.goal.Goal.TheVariants as g
use Rattle.core_build.specs.declared.value.Value.{Value}
use Rattle.core_build.specs.declared.value.Value.TheVariants as v
use Rattle.hy_core.specs.Patterns as pats
use Rattle.hy_core.specs.Patterns.{AreVariables, BindsValues, IsNotBefore, IsPattern, ArePatterns}
use Rattle.hy_core.specs.Expressions as exprs
use Rattle.hy_core.specs.Expressions.{named_by, IsExpr, AreExprs, AreMoreExprs, IsList, IsListEnd, IsTail, IsClause, AreClauses, IsFunction, AreFunctions}
use Rattle.hy_core.specs.Grammar as mods
use Rattle.hy_core.specs.Grammar.{the_module_info, IsDropped, IsExport, AreExports, AreMoreExports, AreDefinitions, IsModuleAt}
use Rattle.core_parse.specs.code.Pushdown.{closing, is_info, expr_begun, function_begun, definition_begun, export_begun, clause_begun, body_begun, module_begun, goal_moved, parts_moved, annotation_mark, clause_mark, mark}
use Rattle.core_build.specs.code.Forms.{behind_heads}
use Rattle.core_parse.proofs.Tests.{Opens, not_closing, is_itself, is_not}
use Rattle.core_parse.proofs.Meaning.{Completes, DefinedThen, ExportedThen, tables_of}
use Rattle.core_build.proofs.Joins.{join_front}
use Rattle.core_parse.proofs.Forth.{Moves, Forth, parts_first, parts_closed, heads_first, tail_first, note_not_before, aliased_pattern, pattern_opens, pattern_forth}
use Rattle.hy_core.specs.declared.tree.FunName.{FunName}
use Rattle.hy_core.specs.declared.tree.Function.{Function}
use Rattle.hy_core.specs.declared.tree.Clause.{Clause}
use Rattle.hy_core.specs.declared.tree.Pattern.{Pattern}
use Rattle.hy_core.specs.declared.tree.Expr.{Expr}
use Rattle.hy_core.specs.declared.tree.Expr.TheVariants as e

-- ---- the first tokens

pub expr_opens : {n : ℕ} {s u : Tables} {ms q : List Marked} {x : Expr} → IsExpr n s ms x u q → Opens ms
expr_opens (exprs.integer sign digits) = refl
expr_opens (exprs.character code) = refl
expr_opens (exprs.atom text before) = refl
expr_opens (exprs.name text digits) = refl
expr_opens (exprs.string text) = refl
expr_opens (exprs.variable name) = refl
expr_opens (exprs.tuple d) = refl
expr_opens (exprs.list d) = refl
expr_opens (exprs.values d) = refl
expr_opens (exprs.let_in d1 d2 d3) = refl
expr_opens (exprs.do_both d1 d2) = refl
expr_opens (exprs.case_of d1 d2 d3) = refl
expr_opens (exprs.letrec_in d1 d2) = refl
expr_opens (exprs.apply d1 d2) = refl
expr_opens (exprs.call d1 d2 d3) = refl
expr_opens (exprs.primop d1 d2) = refl
expr_opens (exprs.receive_after d1 d2 d3) = refl
expr_opens (exprs.try_of d1 d2 d3 d4 d5) = refl
expr_opens (exprs.catch_all d) = refl
expr_opens (exprs.fun d1 d2) = refl
expr_opens (exprs.noted d end) = refl

pub clause_opens : {n : ℕ} {s u : Tables} {ms q : List Marked} {c : Clause} → IsClause n s ms c u q → Opens ms
clause_opens (exprs.one_pattern d g b) = pattern_opens d
clause_opens (exprs.patterns d g b) = refl
clause_opens (exprs.noted_clause d end) = refl

pub name_opens : {n : ℕ} {ms q : List Marked} {text digits : List ℕ} → IsName n ms text digits q → Opens ms
name_opens (notes.name text digits) = refl
name_opens (notes.noted d end) = refl

pub export_opens : {n : ℕ} {s u : Tables} {ms q : List Marked} {xs : List FunName} → IsExport n s ms xs u q → Opens ms
export_opens (mods.kept d never) = name_opens d
export_opens (mods.dropped d is) = name_opens d

-- ---- expressions

pub expr_forth : {n : ℕ} {s u : Tables} {ms q : List Marked} {x : Expr} → IsExpr n s ms x u q → (gs : List Goal) (vs : List Value) (z : Module) → Completes gs (v.Expr x ∷ vs) u q z
    → Forth (at n) (expr_begun n gs vs s) ms z
expr_forth (exprs.integer sign digits) gs vs z h = (refl, h)
expr_forth (exprs.character code) gs vs z h = (refl, h)
expr_forth (exprs.atom text before) gs vs z h = (refl, inl (before, h))
expr_forth (exprs.name text digits) gs vs z h = (refl, inr (_, refl, (digits, (_, refl, h))))
expr_forth (exprs.string text) gs vs z h = (refl, h)
expr_forth (exprs.variable name) gs vs z h = (refl, h)
expr_forth (exprs.tuple d) gs vs z h = (refl, (_, _, _, d, h))
expr_forth (exprs.list d) gs vs z h = (refl, (_, _, _, d, h))
expr_forth (exprs.values d) gs vs z h = (refl, (_, _, _, d, h))
expr_forth (exprs.let_in d1 d2 d3) gs vs z h = (refl, (_, _, _, d1, (_, refl, (_, _, _, d2, (_, refl, (_, _, _, d3, h))))))
expr_forth (exprs.do_both d1 d2) gs vs z h = (refl, (_, _, _, d1, (_, _, _, d2, h)))
expr_forth (exprs.case_of d1 d2 d3) gs vs z h = (refl, (_, _, _, d1, (_, refl, (_, _, _, d2, (_, _, _, d3, h)))))
expr_forth (exprs.letrec_in d1 d2) gs vs z h = (refl, (_, _, _, d1, (_, _, _, d2, h)))
expr_forth (exprs.apply d1 d2) gs vs z h = (refl, (_, _, _, d1, (_, refl, (_, _, _, d2, h))))
expr_forth (exprs.call d1 d2 d3) gs vs z h = (refl, (_, _, _, d1, (_, refl, (_, _, _, d2, (_, refl, (_, _, _, d3, h))))))
expr_forth (exprs.primop d1 d2) gs vs z h = (refl, (_, _, d1, (_, refl, (_, _, _, d2, h))))
expr_forth (exprs.receive_after d1 d2 d3) gs vs z h = (refl, (_, _, _, d1, (_, _, _, d2, (_, refl, (_, _, _, d3, h)))))
expr_forth (exprs.try_of d1 d2 d3 d4 d5) gs vs z h =
    (refl, (_, _, _, d1, (_, refl, (_, _, _, d2, (_, refl, (_, _, _, d3, (_, refl, (_, _, _, d4, (_, refl, (_, _, _, d5, h))))))))))
expr_forth (exprs.catch_all d) gs vs z h = (refl, (_, _, _, d, h))
expr_forth (exprs.fun d1 d2) gs vs z h = (refl, (_, refl, (_, _, _, d1, (_, refl, (_, _, _, d2, h)))))
expr_forth (exprs.noted d end) gs vs z h = (refl, (_, _, _, d, (_, end, h)))

pub exprs_forth : {n : ℕ} {s u : Tables} {ms q : List Marked} {xs : List Expr} (c : Closer) → AreExprs n (closing c) s ms xs u q → (gs : List Goal) (vs : List Value) (z : Module)
    → Completes gs (v.Exprs xs ∷ vs) u q z → Forth (mark (g.Parts part.Expr n c)) (parts_moved part.Expr n c gs vs s) ms z
exprs_forth {n = n} {s = s} {q = q} c exprs.no_exprs gs vs z h = parts_closed part.Expr n c gs vs s q z h
exprs_forth {n = n} {s = s} {ms = ms} c (exprs.some_exprs d more) gs vs z h =
    parts_first part.Expr n c gs vs s ms z (expr_opens d) (expr_forth d (g.MoreParts part.Expr n c ∷ gs) (v.Exprs [] ∷ vs) z (_, _, _, more, h))

pub more_exprs_forth : {n : ℕ} {s u : Tables} {ms q : List Marked} {ys : List Expr} (c : Closer) → AreMoreExprs n (closing c) s ms ys u q
    → (x : Expr) (xs : List Expr) (gs : List Goal) (vs : List Value) (z : Module) → Completes gs (v.Exprs ((xs ++ x ∷ []) ++ ys) ∷ vs) u q z
    → Forth (mark (g.MoreParts part.Expr n c)) (goal_moved (g.MoreParts part.Expr n c) gs (v.Expr x ∷ v.Exprs xs ∷ vs) s) ms z
more_exprs_forth {u = u} {q = q} c exprs.no_more x xs gs vs z h =
    rw (is_itself (closing c)) (refl, subst (λ (k : List Expr). Completes gs (v.Exprs k ∷ vs) u q z) (append-nil (xs ++ x ∷ [])) h)
more_exprs_forth {u = u} {q = q} c (exprs.one_more {x = y} {xs = ys} d more) x xs gs vs z h =
    rw (not_closing c (t.Symbol w.Comma) refl)
    (refl, (_, _, _, d, (_, _, _, more, subst (λ (k : List Expr). Completes gs (v.Exprs k ∷ vs) u q z) (sym (append_assoc (xs ++ x ∷ []) (y ∷ []) ys)) h)))

pub list_forth : {n : ℕ} {s u : Tables} {ms q : List Marked} {x : Expr} → IsList n s ms x u q → (xs : List Expr) (gs : List Goal) (vs : List Value) (z : Module)
    → Completes gs (v.Expr (behind_heads xs x) ∷ vs) u q z → Forth (mark (g.Heads part.Expr n)) (goal_moved (g.Heads part.Expr n) gs (v.Exprs xs ∷ vs) s) ms z
list_forth exprs.nil xs gs vs z h = (refl, h)
list_forth {n = n} {s = s} {u = u} {ms = ms} {q = q} (exprs.heads {x = y} {tail = tail} {xs = ys} d more) xs gs vs z h =
    heads_first part.Expr n gs (v.Exprs xs ∷ vs) s ms z (expr_opens d)
    (expr_forth d (g.MoreHeads part.Expr n ∷ gs) (v.Exprs xs ∷ vs) z
    (_, _, _, _, more, subst (λ (k : Expr). Completes gs (v.Expr k ∷ vs) u q z) (join_front xs y ys tail) h))

pub list_end_forth : {n : ℕ} {s u : Tables} {ms q : List Marked} {ys : List Expr} {tail : Expr} → IsListEnd n s ms ys tail u q
    → (x : Expr) (xs : List Expr) (gs : List Goal) (vs : List Value) (z : Module) → Completes gs (v.Expr (behind_heads ((xs ++ x ∷ []) ++ ys) tail) ∷ vs) u q z
    → Forth (mark (g.MoreHeads part.Expr n)) (goal_moved (g.MoreHeads part.Expr n) gs (v.Expr x ∷ v.Exprs xs ∷ vs) s) ms z
list_end_forth {u = u} {q = q} exprs.closed x xs gs vs z h =
    (refl, subst (λ (k : List Expr). Completes gs (v.Expr (behind_heads k e.Nil) ∷ vs) u q z) (append-nil (xs ++ x ∷ [])) h)
list_end_forth {u = u} {q = q} (exprs.next_head {x = y} {tail = tail} {xs = ys} d more) x xs gs vs z h =
    (refl, (_, _, _, d, (_, _, _, _, more, subst (λ (k : List Expr). Completes gs (v.Expr (behind_heads k tail) ∷ vs) u q z) (sym (append_assoc (xs ++ x ∷ []) (y ∷ []) ys)) h)))
list_end_forth {u = u} {q = q} (exprs.tail {tail = tail} d) x xs gs vs z h =
    (refl, (_, _, _, d, subst (λ (k : List Expr). Completes gs (v.Expr (behind_heads k tail) ∷ vs) u q z) (append-nil (xs ++ x ∷ [])) h))

pub tail_forth : {n : ℕ} {s u : Tables} {ms q : List Marked} {x : Expr} → IsTail n s ms x u (symbol w.CloseList ∷ q) → (xs : List Expr) (gs : List Goal) (vs : List Value) (z : Module)
    → Completes gs (v.Expr (behind_heads xs x) ∷ vs) u q z → Forth (mark (g.Tail part.Expr n)) (goal_moved (g.Tail part.Expr n) gs (v.Exprs xs ∷ vs) s) ms z
tail_forth (exprs.list_tail d) xs gs vs z h = (refl, (_, _, _, d, (_, refl, h)))
tail_forth {n = n} {s = s} (exprs.other_tail {m = m} {ms = ms} never d) xs gs vs z h =
    tail_first part.Expr n gs (v.Exprs xs ∷ vs) s m ms z never (expr_forth d (g.Symbol w.CloseList ∷ g.Build (f.Join part.Expr) ∷ gs) (v.Exprs xs ∷ vs) z (_, refl, h))

-- ---- clauses

-- a pattern with which a clause begins
clause_pattern_forth : {n : ℕ} {s u : Tables} {ms q : List Marked} {x : Pattern} → IsPattern n s ms x u q → (inner : Bool) (gs : List Goal) (vs : List Value) (z : Module)
    → Completes (g.ClauseRest n inner ∷ gs) (v.Pattern x ∷ vs) u q z → Forth (clause_mark n) (clause_begun n inner gs vs s) ms z
clause_pattern_forth {n = n} (pats.integer sign digits) inner gs vs z h = pattern_forth (pats.integer sign digits) (g.ClauseRest n inner ∷ gs) vs z h
clause_pattern_forth {n = n} (pats.character code) inner gs vs z h = pattern_forth (pats.character code) (g.ClauseRest n inner ∷ gs) vs z h
clause_pattern_forth {n = n} (pats.atom text) inner gs vs z h = pattern_forth (pats.atom text) (g.ClauseRest n inner ∷ gs) vs z h
clause_pattern_forth {n = n} (pats.string text) inner gs vs z h = pattern_forth (pats.string text) (g.ClauseRest n inner ∷ gs) vs z h
clause_pattern_forth {n = n} (pats.variable name before) inner gs vs z h = pattern_forth (pats.variable name before) (g.ClauseRest n inner ∷ gs) vs z h
clause_pattern_forth {n = n} (pats.alias (pats.variable name) d) inner gs vs z h = pattern_forth (pats.alias (pats.variable name) d) (g.ClauseRest n inner ∷ gs) vs z h
clause_pattern_forth (pats.alias (pats.noted a end) d) inner gs vs z h =
    (refl, inr (_, _, _, aliased_pattern a (note_not_before w.Equals end (λ is. cc)), (note_not_before w.When end (λ is. cc), (_, end, inr (_, refl, (_, refl, (_, _, _, d, h)))))))
clause_pattern_forth {n = n} (pats.tuple d) inner gs vs z h = pattern_forth (pats.tuple d) (g.ClauseRest n inner ∷ gs) vs z h
clause_pattern_forth {n = n} (pats.list d) inner gs vs z h = pattern_forth (pats.list d) (g.ClauseRest n inner ∷ gs) vs z h
clause_pattern_forth (pats.noted d end before) inner gs vs z h =
    (refl, inr (_, _, _, d, (note_not_before w.When end (λ is. cc), (_, end, inl (before, h)))))

-- where a clause follows, one that has to be one or one behind a parenthesis
when_forth : (inner : Bool) (n : ℕ) (gs : List Goal) (x : Pattern) (vs : List Value) (s : Tables) (ms : List Marked) (z : Module) → Completes (g.ClauseRest n false ∷ gs) (v.Pattern x ∷ vs) s ms z
    → Completes (g.ClauseRest n inner ∷ gs) (v.Pattern x ∷ vs) s ms z
when_forth false n gs x vs s ms z h = h
when_forth true n gs x vs s ms z h = inr h

whole_clause_forth : {n : ℕ} {s u : Tables} {ms q : List Marked} {c : Clause} → IsClause n s ms c u q → (inner : Bool) (cs : List Clause) (gs : List Goal) (vs : List Value) (z : Module)
    → Completes gs (v.Clauses (cs ++ c ∷ []) ∷ vs) u q z → Forth (clause_mark n) (clause_begun n inner gs (v.Clauses cs ∷ vs) s) ms z
whole_clause_forth {n = n} (exprs.one_pattern {i = i} {q = q} {x = x} d guard body) inner cs gs vs z h =
    clause_pattern_forth d inner gs (v.Clauses cs ∷ vs) z
    (when_forth inner n gs x (v.Clauses cs ∷ vs) i (symbol w.When ∷ q) z (_, refl, (_, _, _, guard, (_, refl, (_, _, _, body, h)))))
whole_clause_forth (exprs.patterns d guard body) inner cs gs vs z h = (refl, (_, _, _, d, (_, refl, (_, _, _, guard, (_, refl, (_, _, _, body, h))))))
whole_clause_forth (exprs.noted_clause d end) inner cs gs vs z h = (refl, inl (_, _, _, d, (_, end, h)))

pub clause_forth : (n : ℕ) (inner : Bool) (gs : List Goal) (vs : List Value) (s : Tables) (ms : List Marked) (z : Module) → Completes (g.Clause n inner ∷ gs) vs s ms z
    → Forth (clause_mark n) (clause_begun n inner gs vs s) ms z
clause_forth n false gs (v.Clauses cs ∷ vs) s ms z (c, u, q, d, h) = whole_clause_forth d false cs gs vs z h
clause_forth n true gs (v.Clauses cs ∷ vs) s ms z (inl (c, u, q, d, h)) = whole_clause_forth d true cs gs vs z h
clause_forth n true gs vs s ms z (inr (x, u, q, d, (before, h))) = clause_pattern_forth d true gs vs z (inl (before, h))
clause_forth n false gs _ s ms z h = absurd h
clause_forth n true gs _ s ms z (inl h) = absurd h

pub clauses_forth : {n : ℕ} {s u : Tables} {ms q : List Marked} {cs : List Clause} (c : Closer) → AreClauses n (closing c) s ms cs u q → (bs : List Clause) (gs : List Goal) (vs : List Value) (z : Module)
    → Completes gs (v.Clauses (bs ++ cs) ∷ vs) u q z → Forth (mark (g.Clauses n c)) (goal_moved (g.Clauses n c) gs (v.Clauses bs ∷ vs) s) ms z
clauses_forth {u = u} {q = q} c exprs.no_clauses bs gs vs z h =
    rw (is_itself (closing c)) (refl, subst (λ (k : List Clause). Completes gs (v.Clauses k ∷ vs) u q z) (append-nil bs) h)
clauses_forth {n = n} {s = s} {u = u} {ms = ms} {q = r} c (exprs.some_clauses {c = b} {cs = cs} d more) bs gs vs z h =
    at_first ms (clause_opens d)
    (whole_clause_forth d false bs (g.Clauses n c ∷ gs) vs z (_, _, _, more, subst (λ (k : List Clause). Completes gs (v.Clauses k ∷ vs) u r z) (sym (append_assoc bs (b ∷ []) cs)) h))
  where
    at_first : (os : List Marked) → Opens os → Forth (clause_mark n) (clause_begun n false (g.Clauses n c ∷ gs) (v.Clauses bs ∷ vs) s) os z
        → Forth (mark (g.Clauses n c)) (goal_moved (g.Clauses n c) gs (v.Clauses bs ∷ vs) s) os z
    at_first [] opens k = k
    at_first (m ∷ os) opens k = rw (not_closing c m.token opens) k

-- ---- definitions

pub body_forth : {n : ℕ} {s u : Tables} {ms q : List Marked} {xs : List ℕ} {x : Expr} → IsFunction n s ms xs x u q → (gs : List Goal) (vs : List Value) (z : Module)
    → Completes gs (v.Expr x ∷ v.Variables xs ∷ vs) u q z → Forth (annotation_mark n) (body_begun n gs vs s) ms z
body_forth (exprs.function_of d1 d2) gs vs z h = (refl, (_, refl, (_, _, _, d1, (_, refl, (_, _, _, d2, h)))))
body_forth (exprs.noted_function d end) gs vs z h = (refl, (_, _, _, _, d, (_, end, h)))

pub function_name_forth : {n : ℕ} {ms q : List Marked} {text digits : List ℕ} → IsName n ms text digits q → (gs : List Goal) (vs : List Value) (s : Tables) (z : Module)
    → Completes gs (v.Name (named_by (atom_number s text) digits) ∷ vs) (with_atom s text) q z → Forth (annotation_mark n) (function_begun n gs vs s) ms z
function_name_forth (notes.name text digits) gs vs s z h = (refl, (_, refl, (_, (_, refl, h))))
function_name_forth (notes.noted d end) gs vs s z h = (refl, (_, _, _, d, (_, end, h)))

pub info_is : (text : List ℕ) → is_info text ≡ true → text ≡ the_module_info
info_is text h = (bytes_eq-Decides text the_module_info).0 h

pub not_info : (text : List ℕ) → is_info text ≡ false → text ≡ the_module_info → ⊥
not_info text h is = let bad : true ≡ false = sym (ap is_info is ∙ bytes_eq-same the_module_info) ∙ h in cc

pub definition_name_forth : {n : ℕ} {ms q : List Marked} {text digits : List ℕ} → IsName n ms text digits q → (gs : List Goal) (vs : List Value) (s : Tables) (z : Module)
    → DefinedThen text digits vs s q (λ ws u r. Completes gs ws u r z) → Forth (annotation_mark n) (definition_begun n gs vs s) ms z
definition_name_forth {n = n} {q = q} (notes.name text digits) gs vs s z h = (refl, test (is_info text) refl)
  where
    kept : is_info text ≡ false → DefinedThen text digits vs s q (λ ws u r. Completes gs ws u r z) → Completes gs (v.Name (named_by (atom_number s text) digits) ∷ vs) (with_atom s text) q z
    kept never (inl (kept_one, k)) = k
    kept never (inr (is, k)) = absurd (not_info text never is.0)

    test : (b : Bool) → is_info text ≡ b → Moves (definition_begun n gs vs s (t.Atom text)) (symbol w.Slash ∷ arity digits ∷ q) z
    test true is = rw is (_, refl, (digits, (_, refl, subst (λ (k : List ℕ). DefinedThen k digits vs s q (λ ws u r. Completes gs ws u r z)) (info_is text is) h)))
    test false is = rw is (_, refl, (digits, (_, refl, kept is h)))
definition_name_forth {n = n} {q = r} (notes.noted {q = q} {text = text} {digits = digits} d end) gs vs s z h = (refl, (text, digits, q, d, further h))
  where
    further : DefinedThen text digits vs s r (λ ws u o. Completes gs ws u o z) → DefinedThen text digits vs s q (λ ws u o. Completes (g.Note n ∷ gs) ws u o z)
    further (inl (never, k)) = inl (never, (_, end, k))
    further (inr (is, k)) = inr (is, (_, end, k))

pub export_name_forth : {n : ℕ} {ms q : List Marked} {text digits : List ℕ} → IsName n ms text digits q → (es : List FunName) (gs : List Goal) (vs : List Value) (s : Tables) (z : Module)
    → ExportedThen text digits es vs s q (λ ws u r. Completes gs ws u r z) → Forth (annotation_mark n) (export_begun n gs (v.Names es ∷ vs) s) ms z
export_name_forth {n = n} {q = q} (notes.name text digits) es gs vs s z h = (refl, test (is_info text) refl)
  where
    kept : is_info text ≡ false → ExportedThen text digits es vs s q (λ ws u r. Completes gs ws u r z) → Completes gs (v.Names (es ++ named_by (atom_number s text) digits ∷ []) ∷ vs) (with_atom s text) q z
    kept never (inl (kept_one, k)) = k
    kept never (inr (is, k)) = absurd (not_info text never is.0)

    test : (b : Bool) → is_info text ≡ b → Moves (export_begun n gs (v.Names es ∷ vs) s (t.Atom text)) (symbol w.Slash ∷ arity digits ∷ q) z
    test true is = rw is (_, refl, (digits, (_, refl, subst (λ (k : List ℕ). ExportedThen k digits es vs s q (λ ws u r. Completes gs ws u r z)) (info_is text is) h)))
    test false is = rw is (_, refl, (digits, (_, refl, kept is h)))
export_name_forth {n = n} {q = r} (notes.noted {ms = ms} {q = q} {text = text} {digits = digits} d end) es gs vs s z h = (refl, further h)
  where
    further : ExportedThen text digits es vs s r (λ ws u o. Completes gs ws u o z) → Completes (g.Part part.Export (n + 1) ∷ g.Note n ∷ gs) (v.Names es ∷ vs) s ms z
    further (inl (never, k)) = (named_by (atom_number s text) digits ∷ [], with_atom s text, q, mods.kept d never, (_, end, k))
    further (inr (is, k)) = ([], s, q, mods.dropped d is, (_, end, subst (λ (o : List FunName). Completes gs (v.Names o ∷ vs) s r z) (sym (append-nil es)) k))

pub export_forth : {n : ℕ} {s u : Tables} {ms q : List Marked} {xs : List FunName} → IsExport n s ms xs u q → (es : List FunName) (gs : List Goal) (vs : List Value) (z : Module)
    → Completes gs (v.Names (es ++ xs) ∷ vs) u q z → Forth (annotation_mark n) (export_begun n gs (v.Names es ∷ vs) s) ms z
export_forth {s = s} (mods.kept d never) es gs vs z h = export_name_forth d es gs vs s z (inl (never, h))
export_forth {s = s} {q = q} (mods.dropped d is) es gs vs z h = export_name_forth d es gs vs s z (inr (is, subst (λ (o : List FunName). Completes gs (v.Names o ∷ vs) s q z) (append-nil es) h))

pub exports_forth : {n : ℕ} {s u : Tables} {ms q : List Marked} {xs : List FunName} (c : Closer) → AreExports n (closing c) s ms xs u q → (gs : List Goal) (vs : List Value) (z : Module)
    → Completes gs (v.Names xs ∷ vs) u q z → Forth (mark (g.Parts part.Export n c)) (parts_moved part.Export n c gs vs s) ms z
exports_forth {n = n} {s = s} {q = q} c mods.no_exports gs vs z h = parts_closed part.Export n c gs vs s q z h
exports_forth {n = n} {s = s} {ms = ms} c (mods.some_exports d more) gs vs z h =
    parts_first part.Export n c gs vs s ms z (export_opens d) (export_forth d [] (g.MoreParts part.Export n c ∷ gs) vs z (_, _, _, more, h))

pub more_exports_forth : {n : ℕ} {s u : Tables} {ms q : List Marked} {xs : List FunName} (c : Closer) → AreMoreExports n (closing c) s ms xs u q → (es : List FunName) (gs : List Goal) (vs : List Value) (z : Module)
    → Completes gs (v.Names (es ++ xs) ∷ vs) u q z → Forth (mark (g.MoreParts part.Export n c)) (goal_moved (g.MoreParts part.Export n c) gs (v.Names es ∷ vs) s) ms z
more_exports_forth {u = u} {q = q} c mods.no_more es gs vs z h =
    rw (is_itself (closing c)) (refl, subst (λ (k : List FunName). Completes gs (v.Names k ∷ vs) u q z) (append-nil es) h)
more_exports_forth {u = u} {q = r} c (mods.one_more {xs = xs} {ys = ys} d more) es gs vs z h =
    rw (not_closing c (t.Symbol w.Comma) refl)
    (refl, (_, _, _, d, (_, _, _, more, subst (λ (k : List FunName). Completes gs (v.Names k ∷ vs) u r z) (sym (append_assoc es xs ys)) h)))

pub functions_forth : {n : ℕ} {s u : Tables} {ms q : List Marked} {fs : List Function} → AreFunctions n s ms fs u q → (es : List Function) (gs : List Goal) (vs : List Value) (z : Module)
    → Completes gs (v.Functions (es ++ fs) ∷ vs) u q z → Forth (annotation_mark n) (goal_moved (g.Functions n) gs (v.Functions es ∷ vs) s) ms z
functions_forth {u = u} {q = q} exprs.no_functions es gs vs z h = (refl, subst (λ (k : List Function). Completes gs (v.Functions k ∷ vs) u q z) (append-nil es) h)
functions_forth {n = n} {s = s} {u = u} {ms = ms} {q = r} (exprs.some_functions {text = text} {digits = digits} {vs = xs} {x = x} {fs = fs} d body more) es gs vs z h =
    at_first ms (name_first d)
    (function_name_forth d (g.Symbol w.Equals ∷ g.FunctionBody n ∷ g.Build f.Function ∷ g.Functions n ∷ gs) (v.Functions es ∷ vs) s z
    (_, refl, (_, _, _, _, body, (_, _, _, more, subst (λ (k : List Function). Completes gs (v.Functions k ∷ vs) u r z) (sym (append_assoc es (exprs.function (named_by (atom_number s text) digits) xs x ∷ []) fs)) h))))
  where
    name_first : {n : ℕ} {ms q : List Marked} {text digits : List ℕ} → IsName n ms text digits q → IsNotBefore w.In ms
    name_first (notes.name text digits) = λ is. cc
    name_first (notes.noted d end) = λ is. cc

    at_first : (os : List Marked) → IsNotBefore w.In os → Forth (annotation_mark n) (function_begun n (g.Symbol w.Equals ∷ g.FunctionBody n ∷ g.Build f.Function ∷ g.Functions n ∷ gs) (v.Functions es ∷ vs) s) os z
        → Forth (annotation_mark n) (goal_moved (g.Functions n) gs (v.Functions es ∷ vs) s) os z
    at_first [] never k = k
    at_first (m ∷ os) never k = rw (is_not w.In m.token never) k

definition_first : (n : ℕ) (ms : List Marked) (gs : List Goal) (es : List Function) (vs : List Value) (s : Tables) (z : Module) → Opens ms
    → Forth (annotation_mark n) (definition_begun n (g.Symbol w.Equals ∷ g.FunctionBody n ∷ g.Build f.Definition ∷ g.Definitions n ∷ gs) (v.Functions es ∷ vs) s) ms z
    → Forth (annotation_mark n) (goal_moved (g.Definitions n) gs (v.Functions es ∷ vs) s) ms z
definition_first n [] gs es vs s z opens k = k
definition_first n (m ∷ ms) gs es vs s z opens k = rw (not_closing closer.Case m.token opens) k

pub definitions_forth : {n : ℕ} {s u : Tables} {ms q : List Marked} {fs : List Function} → AreDefinitions n s ms fs u q → (es : List Function) (gs : List Goal) (vs : List Value) (z : Module)
    → Completes gs (v.Functions (es ++ fs) ∷ vs) u q z → Forth (annotation_mark n) (goal_moved (g.Definitions n) gs (v.Functions es ∷ vs) s) ms z
definitions_forth {u = u} {q = q} mods.no_definitions es gs vs z h = (refl, subst (λ (k : List Function). Completes gs (v.Functions k ∷ vs) u q z) (append-nil es) h)
definitions_forth {n = n} {s = s} {u = u} {ms = ms} {q = r} (mods.kept_definition {text = text} {digits = digits} {vs = xs} {x = x} {fs = fs} d never body more) es gs vs z h =
    definition_first n ms gs es vs s z (name_opens d)
    (definition_name_forth d (g.Symbol w.Equals ∷ g.FunctionBody n ∷ g.Build f.Definition ∷ g.Definitions n ∷ gs) (v.Functions es ∷ vs) s z
    (inl (never, (_, refl, (_, _, _, _, body, (_, _, _, more, subst (λ (k : List Function). Completes gs (v.Functions k ∷ vs) u r z) (sym (append_assoc es (exprs.function (named_by (atom_number s text) digits) xs x ∷ []) fs)) h))))))
definitions_forth {n = n} {s = s} {ms = ms} (mods.dropped_definition d is body more) es gs vs z h =
    definition_first n ms gs es vs s z (name_opens d)
    (definition_name_forth d (g.Symbol w.Equals ∷ g.FunctionBody n ∷ g.Build f.Definition ∷ g.Definitions n ∷ gs) (v.Functions es ∷ vs) s z
    (inr (is, (_, refl, (_, _, _, _, body, (_, _, _, more, h))))))

-- ---- the module

pub module_forth : {n : ℕ} {s : Tables} {ms q : List Marked} {y : Module} → IsModuleAt n s ms y q → (gs : List Goal) (vs : List Value) (z : Module)
    → Completes gs (v.Functions y.functions ∷ v.Names y.exports ∷ v.Atom y.name ∷ vs) (tables_of y) q z → Forth (at n) (module_begun n gs vs s) ms z
module_forth (mods.plain_module name d1 d2 d3) gs vs z h = (refl, (name, (_, refl, (_, refl, (_, _, _, d1, (_, refl, (_, refl, (_, d2, (_, _, _, d3, h)))))))))
module_forth (mods.noted d end) gs vs z h = (refl, (_, _, d, (_, end, h)))
