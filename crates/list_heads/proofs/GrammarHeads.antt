-- The grammar gives no empty list notation.
use Rattle.std.proofs.Common.{◌≡◌, ℕ, List, [], ◌∷◌, ◌++◌, map, refl, sym, ap, ◌∙◌, subst, arith}
use Rattle.std.specs.List.{AllByRecursion}
use Rattle.hy_core.specs.Expressions as g
use Rattle.hy_core.specs.Expressions.{IsExpr, AreExprs, AreMoreExprs, IsList, IsListEnd, IsTail}
use Rattle.hy_core.specs.Expressions.{IsClause, AreClauses, IsFunction, AreFunctions, clause_of}
use Rattle.hy_core.specs.Expressions.{function, joined, joined_at, named_by, string_expr}
use Rattle.hy_core.specs.Grammar.{AreDefinitions, IsModule, IsModuleAt}
use Rattle.hy_core.specs.Grammar as m
use Rattle.hy_core.specs.Marks.{Marked}
use Rattle.hy_core.specs.Reading.{IsModuleText}
use Rattle.hy_core.specs.Syntax as s
use Rattle.hy_core.specs.Syntax.{MoreSyntax, NoSyntax, Syntax, Syntaxes, clauses_of, count}
use Rattle.hy_core.specs.Syntax.{definitions_of, syntax_of, syntaxes_of}
use Rattle.hy_core.specs.declared.tables.Tables.{Tables}
use Rattle.hy_core.specs.declared.token.Symbol.{Symbol}
use Rattle.hy_core.specs.declared.tree.Clause.{Clause}
use Rattle.hy_core.specs.declared.tree.Expr.{Expr}
use Rattle.hy_core.specs.declared.tree.Expr.TheOpen as layer
use Rattle.hy_core.specs.declared.tree.Expr.TheOpen.{Expr-F}
use Rattle.hy_core.specs.declared.tree.Expr.TheVariants as e
use Rattle.hy_core.specs.declared.tree.Expr.TheViews.{out-Expr, roll-Expr, roll-out-Expr}
use Rattle.hy_core.specs.declared.tree.Function.{Function}
use Rattle.hy_core.specs.declared.tree.Module.{Module}
use Rattle.hy_core.proofs.SyntaxLemmas as l
use Rattle.hy_core.proofs.SyntaxLemmas.{definition_of}
use Rattle.list_heads.proofs.WrittenHeads.{AllHaveHeads, ClausesHaveHeads, DefinitionsHaveHeads}
use Rattle.list_heads.proofs.WrittenHeads.{HasHeads}

-- of declared trees
abbrev pub Has : Expr → Type 0
Has x = HasHeads (syntax_of x)

abbrev pub All : List Expr → Type 0
All xs = AllHaveHeads (syntaxes_of (map syntax_of xs))

abbrev OfClauses : List Clause → Type 0
OfClauses cs = ClausesHaveHeads (clauses_of (map l.clause_of cs))

abbrev OfDefinitions : List Function → Type 0
OfDefinitions fs = DefinitionsHaveHeads (definitions_of (map definition_of fs))

-- a tree whose syntax is this one
is : (x : Expr) (t : Syntax) → syntax_of x ≡ t → HasHeads t → Has x
is x t same h = subst HasHeads (sym same) h

one_clause : (c : Clause) (cs : List Clause) → Has c.guard → Has c.body → OfClauses cs
    → OfClauses (c ∷ cs)
one_clause c cs guard body h =
    subst
    (λ d. HasHeads d.guard × HasHeads d.body × OfClauses cs) (sym (l.clause_of-is c))
    (guard, body, h)

one_definition : (f : Function) (fs : List Function) → Has f.body → OfDefinitions fs
    → OfDefinitions (f ∷ fs)
one_definition f fs body h =
    subst (λ d. HasHeads d.body × OfDefinitions fs) (sym (l.definition_of-is f)) (body, h)

string_has : (text : List ℕ) → Has (string_expr text)
string_has [] = is e.Nil s.Nil l.syntax_of-Nil tt
string_has (b ∷ bs) = is (e.Str (b ∷ bs)) (s.Str (b ∷ bs)) (l.syntax_of-Str (b ∷ bs)) tt

-- list notations

all_both : (xs ys : List Expr) → All xs → All ys → All (xs ++ ys)
all_both [] ys h k = k
all_both (x ∷ xs) ys h k = (h.0, all_both xs ys h.1 k)

list_has : (site : ℕ) (x : Expr) (xs : List Expr) (tail : Expr) → Has x → All xs → Has tail
    → Has (e.List site (x ∷ xs) tail)
list_has site x xs tail h k t =
    is (e.List site (x ∷ xs) tail)
    (s.ListOf site (syntaxes_of (map syntax_of (x ∷ xs))) (syntax_of tail))
    (l.syntax_of-List site (x ∷ xs) tail) (omega arith, (h, k), t)

joined_has : (x : Expr) (xs : List Expr) (tail : Expr) → Has x → All xs → Has tail
    → Has (joined (x ∷ xs) tail)
joined_has x xs tail h k t = by (out-Expr tail) refl
  where
    by : (y : Expr-F Expr Clause Function) → out-Expr tail ≡ y → Has (joined_at (x ∷ xs) tail y)
    by (layer.List site heads end) same =
        let rolled : tail ≡ e.List site heads end =
        sym (roll-out-Expr tail) ∙ ap roll-Expr same ∙ e.rolls-List site heads end in
        let inside = subst HasHeads (ap syntax_of rolled ∙ l.syntax_of-List site heads end) t in
        list_has 0 x (xs ++ heads) end h (all_both xs heads k inside.1) inside.2
    by _ same = list_has 0 x xs tail h k t

mutual
  pub expr_has : {n : ℕ} {s u : Tables} {ms q : List Marked} {x : Expr} → IsExpr n s ms x u q
      → Has x
  expr_has (g.integer sign digits) = is _ _ (l.syntax_of-Int _) tt
  expr_has (g.character code) = is _ _ (l.syntax_of-Int _) tt
  expr_has (g.atom text after) = is _ _ (l.syntax_of-Atom _) tt
  expr_has (g.name text digits) = is _ _ (l.syntax_of-Name _) tt
  expr_has (g.string text) = string_has text
  expr_has (g.variable name) = is _ _ (l.syntax_of-Var _) tt
  expr_has (g.tuple d) = is _ _ (l.syntax_of-Tuple 0 _) (exprs_have d)
  expr_has (g.list d) = notation_has d
  expr_has (g.values d) = is _ _ (l.syntax_of-Values _) (exprs_have d)
  expr_has (g.let_in vs a b) = is _ _ (l.syntax_of-Let _ _ _) (expr_has a, expr_has b)
  expr_has (g.do_both a b) = is _ _ (l.syntax_of-Do _ _) (expr_has a, expr_has b)
  expr_has (g.case_of {c = c} {cs = cs} a b d) =
      is _ _ (l.syntax_of-Case _ _)
      (expr_has a, one_clause c cs (clause_has b).0 (clause_has b).1 (clauses_have d))
  expr_has (g.letrec_in a b) = is _ _ (l.syntax_of-Letrec _ _) (functions_have a, expr_has b)
  expr_has (g.apply a b) = is _ _ (l.syntax_of-Apply _ _) (expr_has a, exprs_have b)
  expr_has (g.call a b d) =
      is _ _ (l.syntax_of-Call _ _ _) (expr_has a, expr_has b, exprs_have d)
  expr_has (g.primop a d) = is _ _ (l.syntax_of-Primop _ _) (exprs_have d)
  expr_has (g.receive_after a b c) =
      is _ _ (l.syntax_of-Receive _ _ _) (clauses_have a, expr_has b, expr_has c)
  expr_has (g.try_of a vs b ws c) =
      is _ _ (l.syntax_of-Try _ _ _ _ _) (expr_has a, expr_has b, expr_has c)
  expr_has (g.catch_all a) = is _ _ (l.syntax_of-Catch _) (expr_has a)
  expr_has (g.fun vs a) = is _ _ (l.syntax_of-Fun _ _) (expr_has a)
  expr_has (g.noted a _) = expr_has a

  exprs_have : {n : ℕ} {close : Symbol} {s u : Tables} {ms q : List Marked} {xs : List Expr}
      → AreExprs n close s ms xs u q → All xs
  exprs_have g.no_exprs = tt
  exprs_have (g.some_exprs a b) = (expr_has a, more_have b)

  more_have : {n : ℕ} {close : Symbol} {s u : Tables} {ms q : List Marked} {xs : List Expr}
      → AreMoreExprs n close s ms xs u q → All xs
  more_have g.no_more = tt
  more_have (g.one_more a b) = (expr_has a, more_have b)

  notation_has : {n : ℕ} {s u : Tables} {ms q : List Marked} {x : Expr} → IsList n s ms x u q
      → Has x
  notation_has g.nil = is e.Nil s.Nil l.syntax_of-Nil tt
  notation_has (g.heads {x = x} {tail = tail} {xs = xs} a b) =
      joined_has x xs tail (expr_has a) (end_has b).0 (end_has b).1

  end_has : {n : ℕ} {s u : Tables} {ms q : List Marked} {xs : List Expr} {tail : Expr}
      → IsListEnd n s ms xs tail u q → All xs × Has tail
  end_has g.closed = (tt, is e.Nil s.Nil l.syntax_of-Nil tt)
  end_has (g.next_head a b) = ((expr_has a, (end_has b).0), (end_has b).1)
  end_has (g.tail a) = (tt, tail_has a)

  tail_has : {n : ℕ} {s u : Tables} {ms q : List Marked} {x : Expr} → IsTail n s ms x u q
      → Has x
  tail_has (g.list_tail a) = notation_has a
  tail_has (g.other_tail not a) = expr_has a

  clause_has : {n : ℕ} {s u : Tables} {ms q : List Marked} {c : Clause} → IsClause n s ms c u q
      → Has c.guard × Has c.body
  clause_has (g.one_pattern p a b) = (expr_has a, expr_has b)
  clause_has (g.patterns p a b) = (expr_has a, expr_has b)
  clause_has (g.noted_clause a _) = clause_has a

  clauses_have : {n : ℕ} {close : Symbol} {s u : Tables} {ms q : List Marked} {cs : List Clause}
      → AreClauses n close s ms cs u q → OfClauses cs
  clauses_have g.no_clauses = tt
  clauses_have (g.some_clauses {c = c} {cs = cs} a b) =
      one_clause c cs (clause_has a).0 (clause_has a).1 (clauses_have b)

  pub function_has : {n : ℕ} {s u : Tables} {ms q : List Marked} {vs : List ℕ} {x : Expr}
      → IsFunction n s ms vs x u q → Has x
  function_has (g.function_of vs a) = expr_has a
  function_has (g.noted_function a _) = function_has a

  functions_have : {n : ℕ} {s u : Tables} {ms q : List Marked} {fs : List Function}
      → AreFunctions n s ms fs u q → OfDefinitions fs
  functions_have g.no_functions = tt
  functions_have (g.some_functions {fs = fs} name a b) =
      one_definition _ fs (function_has a) (functions_have b)

-- the functions of a module
abbrev pub FunctionsHave : List Function → Type 0
FunctionsHave = AllByRecursion (λ f. Has f.body)

definitions_have : {n : ℕ} {s u : Tables} {ms q : List Marked} {fs : List Function}
    → AreDefinitions n s ms fs u q → FunctionsHave fs
definitions_have m.no_definitions = tt
definitions_have (m.kept_definition name kept a b) = (function_has a, definitions_have b)
definitions_have (m.dropped_definition name dropped a b) = definitions_have b

module_has : {n : ℕ} {s : Tables} {ms q : List Marked} {z : Module} → IsModuleAt n s ms z q
    → FunctionsHave z.functions
module_has (m.plain_module name exports attributes definitions) = definitions_have definitions
module_has (m.noted a _) = module_has a

pub text_has : (text : List ℕ) (z : Module) → IsModuleText text z → FunctionsHave z.functions
text_has text z h = module_has h.1.2.3
