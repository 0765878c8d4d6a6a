-- The atoms of what the grammar gives stand in the table behind it.
use Rattle.std.proofs.Common.{◌≡◌, ℕ, suc, ◌+◌, ◌<◌, ◌≤◌, List, [], ◌∷◌, ◌++◌, length, map, arith}
use Rattle.std.proofs.Common.{refl, sym, ap, ◌∙◌, subst, append_assoc}
use Rattle.hy_terms.proofs.NamingLemmas.{named-Names}
use Rattle.hy_core.specs.Annotations as names
use Rattle.hy_core.specs.Expressions as g
use Rattle.hy_core.specs.Expressions.{IsExpr, AreExprs, AreMoreExprs, IsList, IsListEnd, IsTail}
use Rattle.hy_core.specs.Expressions.{IsClause, AreClauses, IsFunction, AreFunctions, clause_of}
use Rattle.hy_core.specs.Expressions.{function, joined, joined_at, named_by, string_expr}
use Rattle.hy_core.specs.Grammar as m
use Rattle.hy_core.specs.Grammar.{AreDefinitions, AreExports, AreMoreExports, IsExport, IsModuleAt}
use Rattle.hy_core.specs.Marks.{Marked}
use Rattle.hy_core.specs.Numbering.{atom_number, with_atom}
use Rattle.hy_core.specs.Patterns as q
use Rattle.hy_core.specs.Patterns.{AreMorePatterns, ArePatterns, AreMoreVariables, AreVariables}
use Rattle.hy_core.specs.Patterns.{BindsValues, IsAliased, IsPattern, IsPatternEnd, IsPatternList}
use Rattle.hy_core.specs.Patterns.{IsPatternTail, IsVariable, joined_pattern, string_pattern}
use Rattle.hy_core.specs.SubPatterns.{joined as flat}
use Rattle.hy_core.specs.declared.tables.Tables.{Tables}
use Rattle.hy_core.specs.declared.token.Symbol.{Symbol}
use Rattle.hy_core.specs.declared.tree.Clause.{Clause}
use Rattle.hy_core.specs.declared.tree.Expr.{Expr}
use Rattle.hy_core.specs.declared.tree.Expr.TheFolds.{fold-roll-Expr, fold_out-Clause}
use Rattle.hy_core.specs.declared.tree.Expr.TheFolds.{fold_out-Function, map-Expr}
use Rattle.hy_core.specs.declared.tree.Expr.TheOpen as layer
use Rattle.hy_core.specs.declared.tree.Expr.TheOpen.{Expr-F}
use Rattle.hy_core.specs.declared.tree.Expr.TheVariants as e
use Rattle.hy_core.specs.declared.tree.Expr.TheViews.{out-Expr, roll-Expr, roll-out-Expr}
use Rattle.hy_core.specs.declared.tree.FunName.{FunName}
use Rattle.hy_core.specs.declared.tree.Function.{Function}
use Rattle.hy_core.specs.declared.tree.Module.{Module}
use Rattle.hy_core.specs.declared.tree.Pattern.{Pattern}
use Rattle.hy_core.specs.declared.tree.Pattern.TheFolds.{fold-roll-Pattern, map-Pattern}
use Rattle.hy_core.specs.declared.tree.Pattern.TheOpen as pattern_layer
use Rattle.hy_core.specs.declared.tree.Pattern.TheOpen.{Pattern-F}
use Rattle.hy_core.specs.declared.tree.Pattern.TheVariants as p
use Rattle.hy_core.specs.declared.tree.Pattern.TheViews.{out-Pattern, roll-Pattern}
use Rattle.hy_core.specs.declared.tree.Pattern.TheViews.{roll-out-Pattern}
use Rattle.core_lint.specs.ModuleAtoms.{clause_atoms, clause_step, expr_atoms, expr_step}
use Rattle.core_lint.specs.ModuleAtoms.{function_atoms, function_step, module_atoms, pattern_atoms}
use Rattle.core_lint.specs.ModuleAtoms.{pattern_step}
use Rattle.read_atoms.proofs.Below.{Below, below_both, below_more}

-- between tables: the atoms of the one behind are no fewer, and these stand in it
pub record Reads (s u : Tables) (xs : List ℕ) : Type 0 where
  pub grows : length s.atoms ≤ length u.atoms
  pub below : Below (length u.atoms) xs

pub nothing : (s : Tables) → Reads s s []
nothing s = record { grows = omega arith; below = tt }

pub both : {s u v : Tables} {xs ys : List ℕ} → Reads s u xs → Reads u v ys → Reads s v (xs ++ ys)
both {u = u} {v = v} {xs = xs} {ys = ys} h k = record {
  grows = let a = h.grows in let b = k.grows in omega (arith, a, b);
  below = below_both (length v.atoms) xs ys (below_more (length u.atoms) (length v.atoms) xs k.grows h.below) k.below;
}

-- where no atom is read first, or last
after_none : {s u v : Tables} {ys : List ℕ} → Reads s u [] → Reads u v ys → Reads s v ys
after_none h k = record { grows = (both h k).grows; below = k.below }

before_none : {s u v : Tables} {xs : List ℕ} → Reads s u xs → Reads u v [] → Reads s v xs
before_none {u = u} {v = v} {xs = xs} h k = record {
  grows = (both h k).grows;
  below = below_more (length u.atoms) (length v.atoms) xs k.grows h.below;
}

an_atom : (s : Tables) (text : List ℕ) → Reads s (with_atom s text) (atom_number s text ∷ [])
an_atom s text =
    let n = named-Names s.atoms text in record { grows = n.no_shorter; below = (n.below, tt) }

-- variables

variable_none : {n : ℕ} {s u : Tables} {ms r : List Marked} {v : ℕ} → IsVariable n s ms v u r
    → Reads s u []
variable_none (q.variable name) = record { grows = omega arith; below = tt }
variable_none (q.noted d _) = variable_none d

mutual
  variables_none : {n : ℕ} {close : Symbol} {s u : Tables} {ms r : List Marked} {vs : List ℕ}
      → AreVariables n close s ms vs u r → Reads s u []
  variables_none (q.none {s = s}) = nothing s
  variables_none (q.some a b) = both (variable_none a) (more_variables_none b)

  more_variables_none : {n : ℕ} {close : Symbol} {s u : Tables} {ms r : List Marked}
      {vs : List ℕ} → AreMoreVariables n close s ms vs u r → Reads s u []
  more_variables_none (q.no_more {s = s}) = nothing s
  more_variables_none (q.one_more a b) = both (variable_none a) (more_variables_none b)

values_none : {n : ℕ} {s u : Tables} {ms r : List Marked} {vs : List ℕ}
    → BindsValues n s ms vs u r → Reads s u []
values_none (q.one a) = variable_none a
values_none (q.many a) = variables_none a

aliased_none : {n : ℕ} {s u : Tables} {ms r : List Marked} {v : ℕ} → IsAliased n s ms v u r
    → Reads s u []
aliased_none (q.variable name) = record { grows = omega arith; below = tt }
aliased_none (q.noted d _) = aliased_none d

-- patterns

abbrev pub OfPatterns : List Pattern → List ℕ
OfPatterns xs = flat (map pattern_atoms xs)

pattern_is : (z : Pattern-F Pattern) (x : Pattern) → roll-Pattern z ≡ x
    → pattern_atoms x ≡ pattern_step (map-Pattern Pattern (List ℕ) pattern_atoms z)
pattern_is z x rolled = ap pattern_atoms (sym rolled) ∙ fold-roll-Pattern (List ℕ) pattern_step z

pub pattern_as : {s u : Tables} (z : Pattern-F Pattern) (x : Pattern) → roll-Pattern z ≡ x
    → Reads s u (pattern_step (map-Pattern Pattern (List ℕ) pattern_atoms z))
    → Reads s u (pattern_atoms x)
pattern_as {s = s} {u = u} z x rolled h = subst (Reads s u) (sym (pattern_is z x rolled)) h

string_pattern_none : (s : Tables) (text : List ℕ) → Reads s s (pattern_atoms (string_pattern text))
string_pattern_none s [] = pattern_as pattern_layer.Nil p.Nil p.rolls-Nil (nothing s)
string_pattern_none s (b ∷ bs) =
    pattern_as (pattern_layer.Str (b ∷ bs)) (p.Str (b ∷ bs)) (p.rolls-Str (b ∷ bs)) (nothing s)

flat_both : (xs ys : List Pattern) → OfPatterns (xs ++ ys) ≡ OfPatterns xs ++ OfPatterns ys
flat_both [] ys = refl
flat_both (x ∷ xs) ys =
    ap (λ os. pattern_atoms x ++ os) (flat_both xs ys)
    ∙ sym (append_assoc (pattern_atoms x) (OfPatterns xs) (OfPatterns ys))

-- a list notation is joined with its tail, whose atoms are those behind its own
pattern_joined : (xs : List Pattern) (end : Pattern)
    → pattern_atoms (joined_pattern xs end) ≡ OfPatterns xs ++ pattern_atoms end
pattern_joined xs end = by (out-Pattern end) refl
  where
    plain : pattern_atoms (p.List xs end) ≡ OfPatterns xs ++ pattern_atoms end
    plain = pattern_is (pattern_layer.List xs end) (p.List xs end) (p.rolls-List xs end)

    by : (z : Pattern-F Pattern) → out-Pattern end ≡ z
        → pattern_atoms (q.joined_at xs end z) ≡ OfPatterns xs ++ pattern_atoms end
    by (pattern_layer.List heads tail) same =
        let rolled : roll-Pattern (pattern_layer.List heads tail) ≡ end =
        ap roll-Pattern (sym same) ∙ roll-out-Pattern end in
        pattern_is (pattern_layer.List (xs ++ heads) tail) (p.List (xs ++ heads) tail)
        (p.rolls-List (xs ++ heads) tail)
        ∙ ap (λ os. os ++ pattern_atoms tail) (flat_both xs heads)
        ∙ append_assoc (OfPatterns xs) (OfPatterns heads) (pattern_atoms tail)
        ∙ ap (λ os. OfPatterns xs ++ os)
        (sym (pattern_is (pattern_layer.List heads tail) end rolled))
    by _ same = plain

mutual
  pattern_reads : {n : ℕ} {s u : Tables} {ms r : List Marked} {x : Pattern}
      → IsPattern n s ms x u r → Reads s u (pattern_atoms x)
  pattern_reads (q.integer {s = s} sign digits) =
      pattern_as (pattern_layer.Int _) _ (p.rolls-Int _) (nothing s)
  pattern_reads (q.character {s = s} code) =
      pattern_as (pattern_layer.Int _) _ (p.rolls-Int _) (nothing s)
  pattern_reads (q.atom {s = s} text) =
      pattern_as (pattern_layer.Atom _) _ (p.rolls-Atom _) (an_atom s text)
  pattern_reads (q.string {s = s} text) = string_pattern_none s text
  pattern_reads (q.variable name after) =
      pattern_as (pattern_layer.Var _) _ (p.rolls-Var _)
      (record { grows = omega arith; below = tt })
  pattern_reads (q.alias a b) =
      pattern_as (pattern_layer.Alias _ _) _ (p.rolls-Alias _ _)
      (after_none (aliased_none a) (pattern_reads b))
  pattern_reads (q.tuple d) =
      pattern_as (pattern_layer.Tuple _) _ (p.rolls-Tuple _) (patterns_read d)
  pattern_reads (q.list d) = notation_reads d
  pattern_reads (q.noted d _ _) = pattern_reads d

  patterns_read : {n : ℕ} {close : Symbol} {s u : Tables} {ms r : List Marked}
      {xs : List Pattern} → ArePatterns n close s ms xs u r → Reads s u (OfPatterns xs)
  patterns_read (q.no_patterns {s = s}) = nothing s
  patterns_read (q.some_patterns a b) = both (pattern_reads a) (more_patterns_read b)

  more_patterns_read : {n : ℕ} {close : Symbol} {s u : Tables} {ms r : List Marked}
      {xs : List Pattern} → AreMorePatterns n close s ms xs u r → Reads s u (OfPatterns xs)
  more_patterns_read (q.no_more {s = s}) = nothing s
  more_patterns_read (q.one_more a b) = both (pattern_reads a) (more_patterns_read b)

  notation_reads : {n : ℕ} {s u : Tables} {ms r : List Marked} {x : Pattern}
      → IsPatternList n s ms x u r → Reads s u (pattern_atoms x)
  notation_reads (q.nil {s = s}) = pattern_as pattern_layer.Nil p.Nil p.rolls-Nil (nothing s)
  notation_reads (q.heads {s = s} {o = o} {x = x} {tail = tail} {xs = xs} a b) =
      subst (Reads s o)
      (sym (pattern_joined (x ∷ xs) tail
      ∙ append_assoc (pattern_atoms x) (OfPatterns xs) (pattern_atoms tail)))
      (both (pattern_reads a) (end_reads b))

  end_reads : {n : ℕ} {s u : Tables} {ms r : List Marked} {xs : List Pattern} {tail : Pattern}
      → IsPatternEnd n s ms xs tail u r → Reads s u (OfPatterns xs ++ pattern_atoms tail)
  end_reads (q.closed {s = s}) = pattern_as pattern_layer.Nil p.Nil p.rolls-Nil (nothing s)
  end_reads (q.next_head {s = s} {o = o} {x = x} {tail = tail} {xs = xs} a b) =
      subst (Reads s o)
      (sym (append_assoc (pattern_atoms x) (OfPatterns xs) (pattern_atoms tail)))
      (both (pattern_reads a) (end_reads b))
  end_reads (q.tail a) = tail_reads a

  tail_reads : {n : ℕ} {s u : Tables} {ms r : List Marked} {x : Pattern}
      → IsPatternTail n s ms x u r → Reads s u (pattern_atoms x)
  tail_reads (q.list_tail a) = notation_reads a
  tail_reads (q.other_tail not a) = pattern_reads a

-- expressions

abbrev OfExprs : List Expr → List ℕ
OfExprs xs = flat (map expr_atoms xs)

abbrev pub atoms_in : Expr-F Expr Clause Function → List ℕ
atoms_in z =
    expr_step
    (map-Expr Expr Clause Function (List ℕ) (List ℕ) (List ℕ) expr_atoms clause_atoms
    function_atoms z)

expr_is : (z : Expr-F Expr Clause Function) (x : Expr) → roll-Expr z ≡ x
    → expr_atoms x ≡ atoms_in z
expr_is z x rolled =
    ap expr_atoms (sym rolled)
    ∙ fold-roll-Expr (List ℕ) (List ℕ) (List ℕ) expr_step clause_step function_step z

pub expr_as : {s u : Tables} (z : Expr-F Expr Clause Function) (x : Expr) → roll-Expr z ≡ x
    → Reads s u (atoms_in z) → Reads s u (expr_atoms x)
expr_as {s = s} {u = u} z x rolled h = subst (Reads s u) (sym (expr_is z x rolled)) h

string_none : (s : Tables) (text : List ℕ) → Reads s s (expr_atoms (string_expr text))
string_none s [] = expr_as layer.Nil e.Nil e.rolls-Nil (nothing s)
string_none s (b ∷ bs) = expr_as (layer.Str (b ∷ bs)) (e.Str (b ∷ bs)) (e.rolls-Str (b ∷ bs)) (nothing s)

exprs_both : (xs ys : List Expr) → OfExprs (xs ++ ys) ≡ OfExprs xs ++ OfExprs ys
exprs_both [] ys = refl
exprs_both (x ∷ xs) ys =
    ap (λ os. expr_atoms x ++ os) (exprs_both xs ys)
    ∙ sym (append_assoc (expr_atoms x) (OfExprs xs) (OfExprs ys))

expr_joined : (xs : List Expr) (end : Expr)
    → expr_atoms (joined xs end) ≡ OfExprs xs ++ expr_atoms end
expr_joined xs end = by (out-Expr end) refl
  where
    plain : expr_atoms (e.List 0 xs end) ≡ OfExprs xs ++ expr_atoms end
    plain = expr_is (layer.List 0 xs end) (e.List 0 xs end) (e.rolls-List 0 xs end)

    by : (z : Expr-F Expr Clause Function) → out-Expr end ≡ z
        → expr_atoms (joined_at xs end z) ≡ OfExprs xs ++ expr_atoms end
    by (layer.List site heads tail) same =
        let rolled : roll-Expr (layer.List site heads tail) ≡ end =
        ap roll-Expr (sym same) ∙ roll-out-Expr end in
        expr_is (layer.List 0 (xs ++ heads) tail) (e.List 0 (xs ++ heads) tail)
        (e.rolls-List 0 (xs ++ heads) tail)
        ∙ ap (λ os. os ++ expr_atoms tail) (exprs_both xs heads)
        ∙ append_assoc (OfExprs xs) (OfExprs heads) (expr_atoms tail)
        ∙ ap (λ os. OfExprs xs ++ os) (sym (expr_is (layer.List site heads tail) end rolled))
    by _ same = plain

pub clause_is : (c : Clause)
    → clause_atoms c ≡ OfPatterns c.patterns ++ expr_atoms c.guard ++ expr_atoms c.body
clause_is c =
    fold_out-Clause (List ℕ) (List ℕ) (List ℕ) expr_step clause_step function_step c

function_is : (f : Function) → function_atoms f ≡ f.name.name ∷ expr_atoms f.body
function_is f =
    fold_out-Function (List ℕ) (List ℕ) (List ℕ) expr_step clause_step function_step f

abbrev of_functions : List Function → List ℕ
of_functions fs = flat (map function_atoms fs)

pub a_function : {s u v : Tables} (f : Function) → Reads s u (f.name.name ∷ [])
    → Reads u v (expr_atoms f.body) → Reads s v (function_atoms f)
a_function {s = s} {v = v} f h k = subst (Reads s v) (sym (function_is f)) (both h k)

mutual
  expr_reads : {n : ℕ} {s u : Tables} {ms r : List Marked} {x : Expr} → IsExpr n s ms x u r
      → Reads s u (expr_atoms x)
  expr_reads (g.integer {s = s} sign digits) =
      expr_as (layer.Int _) _ (e.rolls-Int _) (nothing s)
  expr_reads (g.character {s = s} code) = expr_as (layer.Int _) _ (e.rolls-Int _) (nothing s)
  expr_reads (g.atom {s = s} text after) =
      expr_as (layer.Atom _) _ (e.rolls-Atom _) (an_atom s text)
  expr_reads (g.name {s = s} text digits) =
      expr_as (layer.Name _) _ (e.rolls-Name _) (an_atom s text)
  expr_reads (g.string {s = s} text) = string_none s text
  expr_reads (g.variable name) =
      expr_as (layer.Var _) _ (e.rolls-Var _) (record { grows = omega arith; below = tt })
  expr_reads (g.tuple d) = expr_as (layer.Tuple 0 _) _ (e.rolls-Tuple 0 _) (exprs_read d)
  expr_reads (g.list d) = list_reads d
  expr_reads (g.values d) = expr_as (layer.Values _) _ (e.rolls-Values _) (exprs_read d)
  expr_reads (g.let_in vs a b) =
      expr_as (layer.Let _ _ _) _ (e.rolls-Let _ _ _)
      (after_none (values_none vs) (both (expr_reads a) (expr_reads b)))
  expr_reads (g.do_both a b) =
      expr_as (layer.Do _ _) _ (e.rolls-Do _ _) (both (expr_reads a) (expr_reads b))
  expr_reads (g.case_of a b d) =
      expr_as (layer.Case _ _) _ (e.rolls-Case _ _)
      (both (expr_reads a) (both (clause_reads b) (clauses_read d)))
  expr_reads (g.letrec_in a b) =
      expr_as (layer.Letrec _ _) _ (e.rolls-Letrec _ _) (both (functions_read a) (expr_reads b))
  expr_reads (g.apply a b) =
      expr_as (layer.Apply _ _) _ (e.rolls-Apply _ _) (both (expr_reads a) (exprs_read b))
  expr_reads (g.call a b d) =
      expr_as (layer.Call _ _ _) _ (e.rolls-Call _ _ _)
      (both (both (expr_reads a) (expr_reads b)) (exprs_read d))
  expr_reads (g.primop {s = s} {text = text} a d) =
      expr_as (layer.Primop _ _) _ (e.rolls-Primop _ _) (both (an_atom s text) (exprs_read d))
  expr_reads (g.receive_after a b c) =
      expr_as (layer.Receive _ _ _) _ (e.rolls-Receive _ _ _)
      (both (both (clauses_read a) (expr_reads b)) (expr_reads c))
  expr_reads (g.try_of a vs b ws c) =
      expr_as (layer.Try _ _ _ _ _) _ (e.rolls-Try _ _ _ _ _)
      (both (both (before_none (expr_reads a) (values_none vs))
      (before_none (expr_reads b) (values_none ws))) (expr_reads c))
  expr_reads (g.catch_all a) = expr_as (layer.Catch _) _ (e.rolls-Catch _) (expr_reads a)
  expr_reads (g.fun vs a) =
      expr_as (layer.Fun _ _) _ (e.rolls-Fun _ _)
      (after_none (variables_none vs) (expr_reads a))
  expr_reads (g.noted a _) = expr_reads a

  exprs_read : {n : ℕ} {close : Symbol} {s u : Tables} {ms r : List Marked} {xs : List Expr}
      → AreExprs n close s ms xs u r → Reads s u (OfExprs xs)
  exprs_read (g.no_exprs {s = s}) = nothing s
  exprs_read (g.some_exprs a b) = both (expr_reads a) (more_read b)

  more_read : {n : ℕ} {close : Symbol} {s u : Tables} {ms r : List Marked} {xs : List Expr}
      → AreMoreExprs n close s ms xs u r → Reads s u (OfExprs xs)
  more_read (g.no_more {s = s}) = nothing s
  more_read (g.one_more a b) = both (expr_reads a) (more_read b)

  list_reads : {n : ℕ} {s u : Tables} {ms r : List Marked} {x : Expr} → IsList n s ms x u r
      → Reads s u (expr_atoms x)
  list_reads (g.nil {s = s}) = expr_as layer.Nil e.Nil e.rolls-Nil (nothing s)
  list_reads (g.heads {s = s} {o = o} {x = x} {tail = tail} {xs = xs} a b) =
      subst (Reads s o)
      (sym (expr_joined (x ∷ xs) tail
      ∙ append_assoc (expr_atoms x) (OfExprs xs) (expr_atoms tail)))
      (both (expr_reads a) (list_end_reads b))

  list_end_reads : {n : ℕ} {s u : Tables} {ms r : List Marked} {xs : List Expr} {tail : Expr}
      → IsListEnd n s ms xs tail u r → Reads s u (OfExprs xs ++ expr_atoms tail)
  list_end_reads (g.closed {s = s}) = expr_as layer.Nil e.Nil e.rolls-Nil (nothing s)
  list_end_reads (g.next_head {s = s} {o = o} {x = x} {tail = tail} {xs = xs} a b) =
      subst (Reads s o) (sym (append_assoc (expr_atoms x) (OfExprs xs) (expr_atoms tail)))
      (both (expr_reads a) (list_end_reads b))
  list_end_reads (g.tail a) = list_tail_reads a

  list_tail_reads : {n : ℕ} {s u : Tables} {ms r : List Marked} {x : Expr}
      → IsTail n s ms x u r → Reads s u (expr_atoms x)
  list_tail_reads (g.list_tail a) = list_reads a
  list_tail_reads (g.other_tail not a) = expr_reads a

  clause_reads : {n : ℕ} {s u : Tables} {ms r : List Marked} {c : Clause} → IsClause n s ms c u r
      → Reads s u (clause_atoms c)
  clause_reads (g.one_pattern {s = s} {v = v} {x = x} {g = guard} {y = y} p a b) =
      subst (Reads s v) (sym (clause_is (clause_of (x ∷ []) guard y)))
      (both (both (both (pattern_reads p) (nothing _)) (expr_reads a)) (expr_reads b))
  clause_reads (g.patterns {s = s} {v = v} {xs = xs} {g = guard} {y = y} p a b) =
      subst (Reads s v) (sym (clause_is (clause_of xs guard y)))
      (both (both (patterns_read p) (expr_reads a)) (expr_reads b))
  clause_reads (g.noted_clause a _) = clause_reads a

  clauses_read : {n : ℕ} {close : Symbol} {s u : Tables} {ms r : List Marked} {cs : List Clause}
      → AreClauses n close s ms cs u r → Reads s u (flat (map clause_atoms cs))
  clauses_read (g.no_clauses {s = s}) = nothing s
  clauses_read (g.some_clauses a b) = both (clause_reads a) (clauses_read b)

  body_reads : {n : ℕ} {s u : Tables} {ms r : List Marked} {vs : List ℕ} {x : Expr}
      → IsFunction n s ms vs x u r → Reads s u (expr_atoms x)
  body_reads (g.function_of vs a) = after_none (variables_none vs) (expr_reads a)
  body_reads (g.noted_function a _) = body_reads a

  functions_read : {n : ℕ} {s u : Tables} {ms r : List Marked} {fs : List Function}
      → AreFunctions n s ms fs u r → Reads s u (of_functions fs)
  functions_read (g.no_functions {s = s}) = nothing s
  functions_read (g.some_functions {s = s} {text = text} {fs = fs} _ a b) =
      both (a_function _ (an_atom s text) (body_reads a)) (functions_read b)

-- modules

abbrev of_exports : List FunName → List ℕ
of_exports fs = map (λ (f : FunName). f.name) fs

exports_both : (fs gs : List FunName) → of_exports (fs ++ gs) ≡ of_exports fs ++ of_exports gs
exports_both [] gs = refl
exports_both (f ∷ fs) gs = ap (λ os. f.name ∷ os) (exports_both fs gs)

export_reads : {n : ℕ} {s u : Tables} {ms r : List Marked} {fs : List FunName}
    → IsExport n s ms fs u r → Reads s u (of_exports fs)
export_reads (m.kept {s = s} {text = text} _ kept) = an_atom s text
export_reads (m.dropped {s = s} _ dropped) = nothing s

mutual
  exports_read : {n : ℕ} {close : Symbol} {s u : Tables} {ms r : List Marked} {fs : List FunName}
      → AreExports n close s ms fs u r → Reads s u (of_exports fs)
  exports_read (m.no_exports {s = s}) = nothing s
  exports_read (m.some_exports {s = s} {o = o} {xs = xs} {ys = ys} a b) =
      subst (Reads s o) (sym (exports_both xs ys)) (both (export_reads a) (more_exports_read b))

  more_exports_read : {n : ℕ} {close : Symbol} {s u : Tables} {ms r : List Marked}
      {fs : List FunName} → AreMoreExports n close s ms fs u r → Reads s u (of_exports fs)
  more_exports_read (m.no_more {s = s}) = nothing s
  more_exports_read (m.one_more {s = s} {o = o} {xs = xs} {ys = ys} a b) =
      subst (Reads s o) (sym (exports_both xs ys)) (both (export_reads a) (more_exports_read b))

definitions_read : {n : ℕ} {s u : Tables} {ms r : List Marked} {fs : List Function}
    → AreDefinitions n s ms fs u r → Reads s u (of_functions fs)
definitions_read (m.no_definitions {s = s}) = nothing s
definitions_read (m.kept_definition {s = s} {text = text} _ kept a b) =
    both (a_function _ (an_atom s text) (body_reads a)) (definitions_read b)
definitions_read (m.dropped_definition _ dropped a b) = definitions_read b

pub module_reads : {n : ℕ} {s : Tables} {ms r : List Marked} {z : Module}
    → IsModuleAt n s ms z r → Below (length z.atoms) (module_atoms z)
module_reads (m.plain_module {s = s} name exports attributes definitions) =
    (both (both (an_atom s name) (exports_read exports)) (definitions_read definitions)).below
module_reads (m.noted a _) = module_reads a
