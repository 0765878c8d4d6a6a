-- Expressions, clauses and local functions are read again from their canonical tokens.
use Rattle.std.proofs.Common.{◌≡◌, ℕ, ◌+◌, ◌≤◌, true, List, [], ◌∷◌, ◌++◌, codes, map, refl, sym, ap, subst, ◌∙◌}
use Rattle.std.proofs.lemmas.List.{append_assoc}
use Rattle.std.specs.Fmt.{decimal}
use Rattle.hy_core.specs.Marks.{Marked, at, symbol, value, arity}
use Rattle.hy_core.specs.Numbering.{atom_number, with_atom, variable_number}
use Rattle.hy_core.specs.Annotations as notes
use Rattle.hy_core.specs.Patterns as pats
use Rattle.hy_core.specs.Expressions as exprs
use Rattle.hy_core.specs.Expressions.{named_by, function, clause_of, joined_at, IsExpr, AreExprs, AreMoreExprs, IsList, IsListEnd, IsTail, IsClause, AreClauses, IsFunction, AreFunctions}
use Rattle.hy_core.specs.Canonical.{token, after_commas, with_commas, one_after_another, texts_of, variables_text, fun_text, pattern_part, expr_part, expr_text, clause_text, function_text}
use Rattle.hy_core.specs.declared.token.Symbol.{Symbol}
use Rattle.hy_core.specs.declared.token.Symbol.TheVariants as w
use Rattle.hy_core.specs.declared.token.Token.TheVariants as t
use Rattle.hy_core.specs.declared.tables.Tables.{Tables}
use Rattle.hy_core.specs.declared.tree.Module.{Module}
use Rattle.hy_core.specs.declared.tree.FunName.{FunName}
use Rattle.hy_core.specs.declared.tree.Function.{Function}
use Rattle.hy_core.specs.declared.tree.Clause.{Clause}
use Rattle.hy_core.specs.declared.tree.Pattern.{Pattern}
use Rattle.hy_core.specs.declared.tree.Expr.{Expr}
use Rattle.hy_core.specs.declared.tree.Expr.TheVariants as e
use Rattle.hy_core.specs.declared.tree.Expr.TheViews as views
use Rattle.core_print.proofs.Spelling.{symbol_text, AreFine}
use Rattle.core_print.proofs.Numbers.{integer_spelled, character_spelled}
use Rattle.core_print.proofs.Tables.{Keeps, before_atom, before_variable, variable_kept}
use Rattle.core_print.proofs.CanonicalForms as forms
use Rattle.core_print.proofs.AgainPieces.{Piece, one_symbol, opened, ◌▷◌, before, deeper, same_text, first_part, next_part, another_part}
use Rattle.core_print.proofs.AgainLeft.{atom_left, name_left, binding_left, variables_left, pattern_left, patterns_left, expr_left, clause_left, clauses_left, function_left, functions_left}
use Rattle.core_print.proofs.AgainStarts.{is_apart, IsApart, no_slash}
use Rattle.core_print.proofs.AgainParts.{Again, again_no_deeper}
use Rattle.core_print.proofs.AgainNames.{IsFineName, atom_bytes, fine_name, arity_again, arity_piece, atom_spelled, atom_piece, name_piece}
use Rattle.core_print.proofs.AgainVariables.{variables_again, binding_again}
use Rattle.core_print.proofs.AgainPatterns.{as_pattern, pattern_again, patterns_again}
use Rattle.core_print.proofs.AgainLists.{EndAgain, ListAgain, ExprAgain, list, as_expr, as_tail, expr_no_deeper, form, integer_form, nil_form, heads_form, next_head, string_form}

module _ (z : Module) where
  abbrev expr_texts : List Expr → List (List ℕ)
  expr_texts xs = texts_of (map (expr_part z) xs)

  abbrev pattern_texts : List Pattern → List (List ℕ)
  pattern_texts xs = texts_of (map (pattern_part z) xs)

  -- parameters and a body
  fun_spelled : (vs body : List ℕ) → ((codes " fun (" ++ (variables_text z vs ++ codes " )")) ++ codes " ->") ++ body ≡ fun_text z vs body
  fun_spelled vs body = ap (λ (x : List ℕ). codes " fun (" ++ x ++ body) (append_assoc (variables_text z vs) (codes " )") (codes " ->"))

  -- patterns, a guard and a body
  clause_spelled : (xs : List Pattern) (g y : Expr) → codes " <" ++ (with_commas (pattern_texts xs) ++ codes " >") ++ codes " when" ++ expr_text z g ++ codes " ->" ++ expr_text z y ≡ clause_text z (clause_of xs g y)
  clause_spelled xs g y =
      ap (λ (x : List ℕ). codes " <" ++ x ++ expr_text z g ++ codes " ->" ++ expr_text z y) (append_assoc (with_commas (pattern_texts xs)) (codes " >") (codes " when")) ∙ sym (forms.clause_text-is z (clause_of xs g y))

module _ {z : Module} where
  -- a definition, by the piece of its parameters and its body
  abbrev pub function_piece : {n : ℕ} (s : Tables) (text ds vs : List ℕ) (x : Expr) → IsFineName text ds → Keeps (with_atom s text) z → Piece n (fun_text z vs (expr_text z x))
      → Piece n (function_text z (function (named_by (atom_number s text) ds) vs x))
  function_piece s text ds vs x is keeps p =
      same_text (sym (forms.function_text-is z (function (named_by (atom_number s text) ds) vs x))) (name_piece s text keeps is ▷ one_symbol w.Equals ▷ p)

  -- each part is read again between the same tables
  mutual
    expr_again : {n : ℕ} {s u : Tables} {ms q : List Marked} {x : Expr} → IsExpr n s ms x u q → Keeps u z → AreFine ms → ExprAgain n z s x u
    expr_again (exprs.integer sign digits) keeps f = integer_form _ f.0.0.0 (integer_spelled sign (value digits) f.0.0.1) keeps
    expr_again (exprs.character code) keeps f = integer_form _ f.0.0.0 (character_spelled code f.0.1) keeps
    expr_again {s = s} (exprs.atom text after) keeps f =
        let a = atom_number s text in
        form (forms.part-Atom z a) (λ xs. ap (joined_at xs (e.Atom a)) (views.outs-Atom a)) (same_text (atom_spelled s text keeps) (opened (t.Atom text) f.0))
        (λ k r. refl) (λ k r apart. exprs.atom text (no_slash r apart)) (before_atom s text keeps)
    expr_again {s = s} (exprs.name text ds) keeps f =
        let a = atom_number s text in
        let name = named_by a ds in
        let is : IsFineName text ds = record { bytes = f.0.1; small = f.1.1.0.0.1 } in
        form (forms.part-Name z name) (λ xs. ap (joined_at xs (e.Name name)) (views.outs-Name name))
        (same_text (atom_spelled s text keeps) (opened (t.Atom text) f.0) ▷ one_symbol w.Slash ▷ arity_piece is)
        (λ k r. refl)
        (λ k r apart. subst (λ (g : FunName). IsExpr k s (at k (t.Atom text) ∷ symbol w.Slash ∷ arity (decimal (value ds)) ∷ r) (e.Name g) (with_atom s text) r) (arity_again a is) (exprs.name text (decimal (value ds))))
        (before_atom s text keeps)
    expr_again (exprs.string text) keeps f = string_form text f.0 keeps
    expr_again {s = s} (exprs.variable name) keeps f =
        let v = variable_number s name in
        form (forms.part-Var z v) (λ xs. ap (joined_at xs (e.Var v)) (views.outs-Var v)) (same_text (ap token (sym (variable_kept s name keeps))) (opened (t.Variable name) f.0))
        (λ k r. refl) (λ k r apart. exprs.variable name) (before_variable s name keeps)
    expr_again (exprs.tuple {xs = xs} d) keeps f =
        let a = exprs_again refl d keeps f.1 in
        form (forms.part-Tuple z 0 xs) (λ ys. ap (joined_at ys (e.Tuple 0 xs)) (views.outs-Tuple 0 xs)) (opened (t.Symbol w.OpenTuple) f.0 ▷ deeper a.piece)
        (λ k r. refl) (λ k r apart. exprs.tuple (a.reads (k + 1) r)) a.keeps
    expr_again (exprs.list d) keeps f = list (list_again d keeps f.1 f.0.0.0)
    expr_again (exprs.values {xs = xs} d) keeps f =
        let a = exprs_again refl d keeps f.1 in
        form (forms.part-Values z xs) (λ ys. ap (joined_at ys (e.Values xs)) (views.outs-Values xs)) (opened (t.Symbol w.Less) f.0 ▷ deeper a.piece)
        (λ k r. refl) (λ k r apart. exprs.values (a.reads (k + 1) r)) a.keeps
    expr_again (exprs.let_in {vs = vs} {x = x} {y = y} d1 d2 d3) keeps f =
        let f2 = (binding_left d1 f.1).1 in
        let c = as_expr (expr_again d3 keeps (expr_left d2 f2).1) in
        let b = as_expr (expr_again d2 c.keeps f2) in
        let a = binding_again d1 b.keeps f.1 in
        form (forms.part-Let z vs x y) (λ xs. ap (joined_at xs (e.Let vs x y)) (views.outs-Let vs x y))
        (opened (t.Symbol w.Let) f.0 ▷ deeper a.piece ▷ one_symbol w.Equals ▷ deeper b.piece ▷ one_symbol w.In ▷ deeper c.piece)
        (λ k r. refl)
        (λ k r apart.
        let r2 = symbol w.In ∷ c.piece.front (k + 1) r in
        exprs.let_in (a.reads (k + 1) (symbol w.Equals ∷ b.piece.front (k + 1) r2)) ((b.reads (k + 1) r2).1 refl) ((c.reads (k + 1) r).1 apart))
        a.keeps
    expr_again (exprs.do_both {x = x} {y = y} d1 d2) keeps f =
        let b = as_expr (expr_again d2 keeps (expr_left d1 f.1)) in
        let a = as_expr (expr_again d1 b.keeps f.1) in
        form (forms.part-Do z x y) (λ xs. ap (joined_at xs (e.Do x y)) (views.outs-Do x y)) (opened (t.Symbol w.Do) f.0 ▷ deeper a.piece ▷ deeper b.piece)
        (λ k r. refl)
        (λ k r apart. exprs.do_both ((a.reads (k + 1) (b.piece.front (k + 1) r)).1 (b.reads (k + 1) r).0) ((b.reads (k + 1) r).1 apart))
        a.keeps
    expr_again (exprs.case_of {x = x} {c = clause} {cs = cs} d1 d2 d3) keeps f =
        let f2 = (expr_left d1 f.1).1 in
        let c = clauses_again refl d3 keeps (clause_left d2 f2) in
        let b = clause_again d2 c.keeps f2 in
        let a = as_expr (expr_again d1 b.keeps f.1) in
        let texts = map (clause_text z) cs in
        form (forms.part-Case z x (clause ∷ cs)) (λ xs. ap (joined_at xs (e.Case x (clause ∷ cs))) (views.outs-Case x (clause ∷ cs)))
        (before (one_after_another (clause_text z clause ∷ texts)) (codes " end") (opened (t.Symbol w.Case) f.0 ▷ deeper a.piece ▷ one_symbol w.Of) (another_part texts (codes " end") (deeper b.piece) (deeper c.piece)))
        (λ k r. refl)
        (λ k r apart.
        let r2 = c.piece.front (k + 1) r in
        exprs.case_of ((a.reads (k + 1) (symbol w.Of ∷ b.piece.front (k + 1) r2)).1 refl) ((b.reads (k + 1) r2).1 (c.reads (k + 1) r).0) (c.reads (k + 1) r).1)
        a.keeps
    expr_again (exprs.letrec_in {fs = fs} {x = x} d1 d2) keeps f =
        let b = as_expr (expr_again d2 keeps (functions_left d1 f.1)) in
        let a = functions_again d1 b.keeps f.1 in
        form (forms.part-Letrec z fs x) (λ xs. ap (joined_at xs (e.Letrec fs x)) (views.outs-Letrec fs x)) (opened (t.Symbol w.Letrec) f.0 ▷ deeper a.piece ▷ deeper b.piece)
        (λ k r. refl)
        (λ k r apart. exprs.letrec_in (a.reads (k + 1) (b.piece.front (k + 1) r)).1 ((b.reads (k + 1) r).1 apart))
        a.keeps
    expr_again (exprs.apply {x = x} {xs = xs} d1 d2) keeps f =
        let b = exprs_again refl d2 keeps (expr_left d1 f.1).1 in
        let a = as_expr (expr_again d1 b.keeps f.1) in
        form (forms.part-Apply z x xs) (λ ys. ap (joined_at ys (e.Apply x xs)) (views.outs-Apply x xs))
        (before (with_commas (expr_texts z xs)) (codes " )") (opened (t.Symbol w.Apply) f.0 ▷ deeper a.piece ▷ one_symbol w.Open) (deeper b.piece))
        (λ k r. refl)
        (λ k r apart. exprs.apply ((a.reads (k + 1) (symbol w.Open ∷ b.piece.front (k + 1) r)).1 refl) (b.reads (k + 1) r))
        a.keeps
    expr_again (exprs.call {x = x} {y = y} {xs = xs} d1 d2 d3) keeps f =
        let f2 = (expr_left d1 f.1).1 in
        let c = exprs_again refl d3 keeps (expr_left d2 f2).1 in
        let b = as_expr (expr_again d2 c.keeps f2) in
        let a = as_expr (expr_again d1 b.keeps f.1) in
        form (forms.part-Call z x y xs) (λ ys. ap (joined_at ys (e.Call x y xs)) (views.outs-Call x y xs))
        (before (with_commas (expr_texts z xs)) (codes " )") (opened (t.Symbol w.Call) f.0 ▷ deeper a.piece ▷ one_symbol w.Colon ▷ deeper b.piece ▷ one_symbol w.Open) (deeper c.piece))
        (λ k r. refl)
        (λ k r apart.
        let r2 = symbol w.Open ∷ c.piece.front (k + 1) r in
        exprs.call ((a.reads (k + 1) (symbol w.Colon ∷ b.piece.front (k + 1) r2)).1 refl) ((b.reads (k + 1) r2).1 refl) (c.reads (k + 1) r))
        a.keeps
    expr_again {s = s} (exprs.primop {text = text} {xs = xs} d1 d2) keeps f =
        let a = exprs_again refl d2 keeps (atom_left d1 f.1).1 in
        let name = atom_number s text in
        form (forms.part-Primop z name xs) (λ ys. ap (joined_at ys (e.Primop name xs)) (views.outs-Primop name xs))
        (before (with_commas (expr_texts z xs)) (codes " )") (opened (t.Symbol w.Primop) f.0 ▷ atom_piece s text a.keeps (atom_bytes d1 f.1) ▷ one_symbol w.Open) (deeper a.piece))
        (λ k r. refl)
        (λ k r apart. exprs.primop (notes.atom text) (a.reads (k + 1) r))
        (before_atom s text a.keeps)
    expr_again (exprs.receive_after {cs = cs} {x = x} {y = y} d1 d2 d3) keeps f =
        let f2 = clauses_left d1 f.1 in
        let c = as_expr (expr_again d3 keeps (expr_left d2 f2).1) in
        let b = as_expr (expr_again d2 c.keeps f2) in
        let a = clauses_again refl d1 b.keeps f.1 in
        form (forms.part-Receive z cs x y) (λ xs. ap (joined_at xs (e.Receive cs x y)) (views.outs-Receive cs x y))
        (opened (t.Symbol w.Receive) f.0 ▷ deeper a.piece ▷ deeper b.piece ▷ one_symbol w.Arrow ▷ deeper c.piece)
        (λ k r. refl)
        (λ k r apart.
        let r2 = symbol w.Arrow ∷ c.piece.front (k + 1) r in
        exprs.receive_after (a.reads (k + 1) (b.piece.front (k + 1) r2)).1 ((b.reads (k + 1) r2).1 refl) ((c.reads (k + 1) r).1 apart))
        a.keeps
    expr_again (exprs.try_of {vs = vs} {ws = ws} {x = x} {y = y} {z = caught} d1 d2 d3 d4 d5) keeps f =
        let f2 = (expr_left d1 f.1).1 in
        let f3 = (binding_left d2 f2).1 in
        let f4 = (expr_left d3 f3).1 in
        let h = as_expr (expr_again d5 keeps (binding_left d4 f4).1) in
        let g = binding_again d4 h.keeps f4 in
        let c = as_expr (expr_again d3 g.keeps f3) in
        let b = binding_again d2 c.keeps f2 in
        let a = as_expr (expr_again d1 b.keeps f.1) in
        form (forms.part-Try z x vs y ws caught) (λ xs. ap (joined_at xs (e.Try x vs y ws caught)) (views.outs-Try x vs y ws caught))
        (opened (t.Symbol w.Try) f.0 ▷ deeper a.piece ▷ one_symbol w.Of ▷ (deeper b.piece ▷ one_symbol w.Arrow ▷ deeper c.piece) ▷ one_symbol w.Catch ▷ (deeper g.piece ▷ one_symbol w.Arrow ▷ deeper h.piece))
        (λ k r. refl)
        (λ k r apart.
        let r4 = symbol w.Arrow ∷ h.piece.front (k + 1) r in
        let r3 = symbol w.Catch ∷ g.piece.front (k + 1) r4 in
        let r2 = symbol w.Arrow ∷ c.piece.front (k + 1) r3 in
        exprs.try_of ((a.reads (k + 1) (symbol w.Of ∷ b.piece.front (k + 1) r2)).1 refl) (b.reads (k + 1) r2) ((c.reads (k + 1) r3).1 refl) (g.reads (k + 1) r4) ((h.reads (k + 1) r).1 apart))
        a.keeps
    expr_again (exprs.catch_all {x = x} d) keeps f =
        let a = as_expr (expr_again d keeps f.1) in
        form (forms.part-Catch z x) (λ xs. ap (joined_at xs (e.Catch x)) (views.outs-Catch x)) (opened (t.Symbol w.Catch) f.0 ▷ deeper a.piece)
        (λ k r. refl) (λ k r apart. exprs.catch_all ((a.reads (k + 1) r).1 apart)) a.keeps
    expr_again (exprs.fun {vs = vs} {x = x} d1 d2) keeps f =
        let b = as_expr (expr_again d2 keeps (variables_left d1 f.1.1).1) in
        let a = variables_again d1 b.keeps f.1.1 in
        form (forms.part-Fun z vs x) (λ xs. ap (joined_at xs (e.Fun vs x)) (views.outs-Fun vs x))
        (same_text (fun_spelled z vs (expr_text z x)) (opened (t.Symbol w.Fun) f.0 ▷ one_symbol w.Open ▷ deeper a.piece ▷ one_symbol w.Arrow ▷ deeper b.piece))
        (λ k r. refl)
        (λ k r apart. exprs.fun (a.reads (k + 1) (symbol w.Arrow ∷ b.piece.front (k + 1) r)) ((b.reads (k + 1) r).1 apart))
        a.keeps
    expr_again (exprs.noted d end) keeps f = expr_no_deeper (expr_again d keeps f.1)

    exprs_again : {n : ℕ} {close : Symbol} {s u : Tables} {ms q : List Marked} {xs : List Expr} → is_apart (t.Symbol close) ≡ true → AreExprs n close s ms xs u q → Keeps u z → AreFine ms
        → Again n z s (with_commas (expr_texts z xs) ++ token (symbol_text close)) (λ k ms r. AreExprs k close s ms xs u r)
    exprs_again {close = close} is exprs.no_exprs keeps f = record { piece = one_symbol close; reads = λ k r. exprs.no_exprs; keeps = keeps }
    exprs_again {close = close} is (exprs.some_exprs {xs = xs} d more) keeps f =
        let b = more_exprs_again is more keeps (expr_left d f) in
        let a = as_expr (expr_again d b.keeps f) in
        record {
          piece = first_part (expr_texts z xs) (token (symbol_text close)) a.piece b.piece;
          reads = λ k r. exprs.some_exprs ((a.reads k (b.piece.front k r)).1 (b.reads k r).0) (b.reads k r).1;
          keeps = a.keeps;
        }

    more_exprs_again : {n : ℕ} {close : Symbol} {s u : Tables} {ms q : List Marked} {xs : List Expr} → is_apart (t.Symbol close) ≡ true → AreMoreExprs n close s ms xs u q → Keeps u z → AreFine ms
        → Again n z s (after_commas (expr_texts z xs) ++ token (symbol_text close)) (λ k ms r. IsApart ms × AreMoreExprs k close s ms xs u r)
    more_exprs_again {close = close} is exprs.no_more keeps f = record { piece = one_symbol close; reads = λ k r. (is, exprs.no_more); keeps = keeps }
    more_exprs_again {close = close} is (exprs.one_more {xs = xs} d more) keeps f =
        let b = more_exprs_again is more keeps (expr_left d f.1) in
        let a = as_expr (expr_again d b.keeps f.1) in
        record {
          piece = next_part (expr_texts z xs) (token (symbol_text close)) a.piece b.piece;
          reads = λ k r. (refl, exprs.one_more ((a.reads k (b.piece.front k r)).1 (b.reads k r).0) (b.reads k r).1);
          keeps = a.keeps;
        }

    list_again : {n : ℕ} {s u : Tables} {ms q : List Marked} {x : Expr} → IsList n s ms x u q → Keeps u z → AreFine ms → n ≤ 400 → ListAgain n z s x u
    list_again exprs.nil keeps f shallow = nil_form shallow keeps
    list_again (exprs.heads d more) keeps f shallow =
        let behind = list_end_again more keeps (expr_left d f) shallow in heads_form shallow (as_expr (expr_again d behind.again.keeps f)) behind

    list_end_again : {n : ℕ} {s u : Tables} {ms q : List Marked} {xs : List Expr} {tail : Expr} → IsListEnd n s ms xs tail u q → Keeps u z → AreFine ms → n ≤ 400 → EndAgain n z s xs tail u
    list_end_again exprs.closed keeps f shallow = (nil_form shallow keeps).end
    list_end_again (exprs.next_head d more) keeps f shallow =
        let behind = list_end_again more keeps (expr_left d f.1) shallow in next_head (as_expr (expr_again d behind.again.keeps f.1)) behind
    list_end_again (exprs.tail d) keeps f shallow = tail_again d keeps f.1 shallow

    tail_again : {n : ℕ} {s u : Tables} {ms q : List Marked} {x : Expr} → IsTail n s ms x u q → Keeps u z → AreFine ms → n ≤ 400 → EndAgain n z s [] x u
    tail_again (exprs.list_tail d) keeps f shallow = (list_again d keeps f.1 shallow).end
    tail_again (exprs.other_tail never d) keeps f shallow = as_tail (expr_again d keeps f)

    clause_again : {n : ℕ} {s u : Tables} {ms q : List Marked} {c : Clause} → IsClause n s ms c u q → Keeps u z → AreFine ms
        → Again n z s (clause_text z c) (λ k ms r. IsApart ms × (IsApart r → IsClause k s ms c u r))
    clause_again (exprs.one_pattern {x = x} {g = g} {y = y} d1 d2 d3) keeps f =
        let f2 = (pattern_left d1 f).1 in
        let c = as_expr (expr_again d3 keeps (expr_left d2 f2).1) in
        let b = as_expr (expr_again d2 c.keeps f2) in
        let a = as_pattern (pattern_again d1 b.keeps f) in
        record {
          piece = same_text (clause_spelled z (x ∷ []) g y)
              (one_symbol w.Less ▷ first_part [] (codes " >") a.piece (one_symbol w.Greater) ▷ one_symbol w.When ▷ b.piece ▷ one_symbol w.Arrow ▷ c.piece);
          reads = λ k r. (
            refl,
            λ apart.
                let r3 = symbol w.Arrow ∷ c.piece.front k r in
                let r2 = symbol w.When ∷ b.piece.front k r3 in
                exprs.patterns (pats.some_patterns ((a.reads k (symbol w.Greater ∷ r2)).1 refl) pats.no_more) ((b.reads k r3).1 refl) ((c.reads k r).1 apart),
          );
          keeps = a.keeps;
        }
    clause_again (exprs.patterns {xs = xs} {g = g} {y = y} d1 d2 d3) keeps f =
        let f2 = (patterns_left d1 f.1).1 in
        let c = as_expr (expr_again d3 keeps (expr_left d2 f2).1) in
        let b = as_expr (expr_again d2 c.keeps f2) in
        let a = patterns_again refl d1 b.keeps f.1 in
        record {
          piece = same_text (clause_spelled z xs g y) (one_symbol w.Less ▷ a.piece ▷ one_symbol w.When ▷ b.piece ▷ one_symbol w.Arrow ▷ c.piece);
          reads = λ k r. (
            refl,
            λ apart.
                let r3 = symbol w.Arrow ∷ c.piece.front k r in
                exprs.patterns (a.reads k (symbol w.When ∷ b.piece.front k r3)) ((b.reads k r3).1 refl) ((c.reads k r).1 apart),
          );
          keeps = a.keeps;
        }
    clause_again (exprs.noted_clause d end) keeps f = again_no_deeper (clause_again d keeps f.1)

    clauses_again : {n : ℕ} {close : Symbol} {s u : Tables} {ms q : List Marked} {cs : List Clause} → is_apart (t.Symbol close) ≡ true → AreClauses n close s ms cs u q → Keeps u z → AreFine ms
        → Again n z s (one_after_another (map (clause_text z) cs) ++ token (symbol_text close)) (λ k ms r. IsApart ms × AreClauses k close s ms cs u r)
    clauses_again {close = close} is exprs.no_clauses keeps f = record { piece = one_symbol close; reads = λ k r. (is, exprs.no_clauses); keeps = keeps }
    clauses_again {close = close} is (exprs.some_clauses {cs = cs} d more) keeps f =
        let b = clauses_again is more keeps (clause_left d f) in
        let a = clause_again d b.keeps f in
        record {
          piece = another_part (map (clause_text z) cs) (token (symbol_text close)) a.piece b.piece;
          reads = λ k r. let first = a.reads k (b.piece.front k r) in (first.0, exprs.some_clauses (first.1 (b.reads k r).0) (b.reads k r).1);
          keeps = a.keeps;
        }

    pub function_again : {n : ℕ} {s u : Tables} {ms q : List Marked} {vs : List ℕ} {x : Expr} → IsFunction n s ms vs x u q → Keeps u z → AreFine ms
        → Again n z s (fun_text z vs (expr_text z x)) (λ k ms r. IsApart r → IsFunction k s ms vs x u r)
    function_again (exprs.function_of {vs = vs} {x = x} d1 d2) keeps f =
        let b = as_expr (expr_again d2 keeps (variables_left d1 f.1.1).1) in
        let a = variables_again d1 b.keeps f.1.1 in
        record {
          piece = same_text (fun_spelled z vs (expr_text z x)) (one_symbol w.Fun ▷ one_symbol w.Open ▷ a.piece ▷ one_symbol w.Arrow ▷ b.piece);
          reads = λ k r apart. exprs.function_of (a.reads k (symbol w.Arrow ∷ b.piece.front k r)) ((b.reads k r).1 apart);
          keeps = a.keeps;
        }
    function_again (exprs.noted_function d end) keeps f = again_no_deeper (function_again d keeps f.1)

    functions_again : {n : ℕ} {s u : Tables} {ms q : List Marked} {fs : List Function} → AreFunctions n s ms fs u q → Keeps u z → AreFine ms
        → Again n z s (one_after_another (map (function_text z) fs) ++ codes " in") (λ k ms r. IsApart ms × AreFunctions k s ms fs u r)
    functions_again exprs.no_functions keeps f = record { piece = one_symbol w.In; reads = λ k r. (refl, exprs.no_functions); keeps = keeps }
    functions_again {s = s} (exprs.some_functions {o = o} {text = text} {digits = ds} {vs = vs} {x = x} {fs = fs} d1 d2 more) keeps f =
        let is = fine_name d1 f in
        let f2 = (name_left d1 f).1 in
        let b = functions_again more keeps (function_left d2 f2) in
        let a = function_again d2 b.keeps f2 in
        let p = another_part (map (function_text z) fs) (codes " in") (function_piece s text ds vs x is a.keeps a.piece) b.piece in
        record {
          piece = p;
          reads = λ k r. (
            refl,
            subst (λ (g : FunName). AreFunctions k s (p.front k r) (function g vs x ∷ fs) o r) (arity_again (atom_number s text) is)
                (exprs.some_functions (notes.name text (decimal (value ds))) (a.reads k (b.piece.front k r) (b.reads k r).0) (b.reads k r).1),
          );
          keeps = before_atom s text a.keeps;
        }
