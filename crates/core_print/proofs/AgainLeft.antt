-- What a part leaves to be read is fine where all of it is.
use Rattle.std.proofs.Common.{ℕ, List}
use Rattle.hy_core.specs.Marks.{Marked}
use Rattle.hy_core.specs.Annotations as notes
use Rattle.hy_core.specs.Annotations.{IsConstant, AreConstants, AreMoreConstants, IsConstantList, IsConstantEnd, IsConstantTail, IsNote, IsAtom, IsName, IsAttributeValue, AreAttributes, AreMoreAttributes}
use Rattle.hy_core.specs.Patterns as pats
use Rattle.hy_core.specs.Patterns.{IsVariable, AreVariables, AreMoreVariables, BindsValues, IsAliased, IsPattern, ArePatterns, AreMorePatterns, IsPatternList, IsPatternEnd, IsPatternTail}
use Rattle.hy_core.specs.Expressions as exprs
use Rattle.hy_core.specs.Expressions.{IsExpr, AreExprs, AreMoreExprs, IsList, IsListEnd, IsTail, IsClause, AreClauses, IsFunction, AreFunctions}
use Rattle.hy_core.specs.Grammar as mods
use Rattle.hy_core.specs.Grammar.{IsExport, AreExports, AreMoreExports}
use Rattle.hy_core.specs.declared.token.Symbol.{Symbol}
use Rattle.hy_core.specs.declared.tables.Tables.{Tables}
use Rattle.hy_core.specs.declared.tree.FunName.{FunName}
use Rattle.hy_core.specs.declared.tree.Function.{Function}
use Rattle.hy_core.specs.declared.tree.Clause.{Clause}
use Rattle.hy_core.specs.declared.tree.Pattern.{Pattern}
use Rattle.hy_core.specs.declared.tree.Expr.{Expr}
use Rattle.core_print.proofs.Spelling.{AreFine}

-- ---- constants, annotations, names and attributes

mutual
  constant_left : {n : ℕ} {ms q : List Marked} → IsConstant n ms q → AreFine ms → AreFine q
  constant_left (notes.integer sign digits) f = f.1
  constant_left (notes.character code) f = f.1
  constant_left (notes.atom text) f = f.1
  constant_left (notes.string text) f = f.1
  constant_left (notes.tuple d) f = constants_left d f.1
  constant_left (notes.list d) f = constant_list_left d f.1

  constants_left : {n : ℕ} {close : Symbol} {ms q : List Marked} → AreConstants n close ms q → AreFine ms → AreFine q
  constants_left notes.no_constants f = f.1
  constants_left (notes.some_constants d more) f = more_constants_left more (constant_left d f)

  more_constants_left : {n : ℕ} {close : Symbol} {ms q : List Marked} → AreMoreConstants n close ms q → AreFine ms → AreFine q
  more_constants_left notes.no_more f = f.1
  more_constants_left (notes.one_more d more) f = more_constants_left more (constant_left d f.1)

  constant_list_left : {n : ℕ} {ms q : List Marked} → IsConstantList n ms q → AreFine ms → AreFine q
  constant_list_left notes.nil f = f.1
  constant_list_left (notes.heads d more) f = constant_end_left more (constant_left d f)

  constant_end_left : {n : ℕ} {ms q : List Marked} → IsConstantEnd n ms q → AreFine ms → AreFine q
  constant_end_left notes.closed f = f.1
  constant_end_left (notes.next_head d more) f = constant_end_left more (constant_left d f.1)
  constant_end_left (notes.tail d) f = (constant_tail_left d f.1).1

  constant_tail_left : {n : ℕ} {ms q : List Marked} → IsConstantTail n ms q → AreFine ms → AreFine q
  constant_tail_left (notes.list_tail d) f = constant_list_left d f.1
  constant_tail_left (notes.other_tail never d) f = constant_left d f

note_left : {n : ℕ} {ms q : List Marked} → IsNote n ms q → AreFine ms → AreFine q
note_left (notes.note d) f = (constants_left d f.1.1).1

pub atom_left : {n : ℕ} {ms q : List Marked} {text : List ℕ} → IsAtom n ms text q → AreFine ms → AreFine q
atom_left (notes.atom text) f = f.1
atom_left (notes.noted d end) f = note_left end (atom_left d f.1)

pub name_left : {n : ℕ} {ms q : List Marked} {text digits : List ℕ} → IsName n ms text digits q → AreFine ms → AreFine q
name_left (notes.name text digits) f = f.1.1.1
name_left (notes.noted d end) f = note_left end (name_left d f.1)

attribute_value_left : {n : ℕ} {ms q : List Marked} → IsAttributeValue n ms q → AreFine ms → AreFine q
attribute_value_left (notes.unannotated d) f = constant_left d f
attribute_value_left (notes.noted d end) f = note_left end (attribute_value_left d f.1)

more_attributes_left : {n : ℕ} {close : Symbol} {ms q : List Marked} → AreMoreAttributes n close ms q → AreFine ms → AreFine q
more_attributes_left notes.no_more f = f.1
more_attributes_left (notes.one_more d value more) f = more_attributes_left more (attribute_value_left value (atom_left d f.1).1)

pub attributes_left : {n : ℕ} {close : Symbol} {ms q : List Marked} → AreAttributes n close ms q → AreFine ms → AreFine q
attributes_left notes.none f = f.1
attributes_left (notes.some d value more) f = more_attributes_left more (attribute_value_left value (atom_left d f).1)

-- ---- variables and patterns

pub variable_left : {n : ℕ} {s u : Tables} {ms q : List Marked} {v : ℕ} → IsVariable n s ms v u q → AreFine ms → AreFine q
variable_left (pats.variable name) f = f.1
variable_left (pats.noted d end) f = note_left end (variable_left d f.1)

more_variables_left : {n : ℕ} {close : Symbol} {s u : Tables} {ms q : List Marked} {vs : List ℕ} → AreMoreVariables n close s ms vs u q → AreFine ms → AreFine q
more_variables_left pats.no_more f = f.1
more_variables_left (pats.one_more d more) f = more_variables_left more (variable_left d f.1)

pub variables_left : {n : ℕ} {close : Symbol} {s u : Tables} {ms q : List Marked} {vs : List ℕ} → AreVariables n close s ms vs u q → AreFine ms → AreFine q
variables_left pats.none f = f.1
variables_left (pats.some d more) f = more_variables_left more (variable_left d f)

pub binding_left : {n : ℕ} {s u : Tables} {ms q : List Marked} {vs : List ℕ} → BindsValues n s ms vs u q → AreFine ms → AreFine q
binding_left (pats.one d) f = variable_left d f
binding_left (pats.many d) f = variables_left d f.1

pub aliased_left : {n : ℕ} {s u : Tables} {ms q : List Marked} {v : ℕ} → IsAliased n s ms v u q → AreFine ms → AreFine q
aliased_left (pats.variable name) f = f.1
aliased_left (pats.noted d end) f = note_left end (aliased_left d f.1)

mutual
  pub pattern_left : {n : ℕ} {s u : Tables} {ms q : List Marked} {x : Pattern} → IsPattern n s ms x u q → AreFine ms → AreFine q
  pattern_left (pats.integer sign digits) f = f.1
  pattern_left (pats.character code) f = f.1
  pattern_left (pats.atom text) f = f.1
  pattern_left (pats.string text) f = f.1
  pattern_left (pats.variable name before) f = f.1
  pattern_left (pats.alias d1 d2) f = pattern_left d2 (aliased_left d1 f).1
  pattern_left (pats.tuple d) f = patterns_left d f.1
  pattern_left (pats.list d) f = pattern_list_left d f.1
  pattern_left (pats.noted d end before) f = note_left end (pattern_left d f.1)

  pub patterns_left : {n : ℕ} {close : Symbol} {s u : Tables} {ms q : List Marked} {xs : List Pattern} → ArePatterns n close s ms xs u q → AreFine ms → AreFine q
  patterns_left pats.no_patterns f = f.1
  patterns_left (pats.some_patterns d more) f = more_patterns_left more (pattern_left d f)

  more_patterns_left : {n : ℕ} {close : Symbol} {s u : Tables} {ms q : List Marked} {xs : List Pattern} → AreMorePatterns n close s ms xs u q → AreFine ms → AreFine q
  more_patterns_left pats.no_more f = f.1
  more_patterns_left (pats.one_more d more) f = more_patterns_left more (pattern_left d f.1)

  pattern_list_left : {n : ℕ} {s u : Tables} {ms q : List Marked} {x : Pattern} → IsPatternList n s ms x u q → AreFine ms → AreFine q
  pattern_list_left pats.nil f = f.1
  pattern_list_left (pats.heads d more) f = pattern_end_left more (pattern_left d f)

  pattern_end_left : {n : ℕ} {s u : Tables} {ms q : List Marked} {xs : List Pattern} {tail : Pattern} → IsPatternEnd n s ms xs tail u q → AreFine ms → AreFine q
  pattern_end_left pats.closed f = f.1
  pattern_end_left (pats.next_head d more) f = pattern_end_left more (pattern_left d f.1)
  pattern_end_left (pats.tail d) f = (pattern_tail_left d f.1).1

  pattern_tail_left : {n : ℕ} {s u : Tables} {ms q : List Marked} {x : Pattern} → IsPatternTail n s ms x u q → AreFine ms → AreFine q
  pattern_tail_left (pats.list_tail d) f = pattern_list_left d f.1
  pattern_tail_left (pats.other_tail never d) f = pattern_left d f

-- ---- expressions, clauses and definitions

mutual
  pub expr_left : {n : ℕ} {s u : Tables} {ms q : List Marked} {x : Expr} → IsExpr n s ms x u q → AreFine ms → AreFine q
  expr_left (exprs.integer sign digits) f = f.1
  expr_left (exprs.character code) f = f.1
  expr_left (exprs.atom text before) f = f.1
  expr_left (exprs.name text digits) f = f.1.1.1
  expr_left (exprs.string text) f = f.1
  expr_left (exprs.variable name) f = f.1
  expr_left (exprs.tuple d) f = exprs_left d f.1
  expr_left (exprs.list d) f = list_left d f.1
  expr_left (exprs.values d) f = exprs_left d f.1
  expr_left (exprs.let_in d1 d2 d3) f = expr_left d3 (expr_left d2 (binding_left d1 f.1).1).1
  expr_left (exprs.do_both d1 d2) f = expr_left d2 (expr_left d1 f.1)
  expr_left (exprs.case_of d1 d2 d3) f = clauses_left d3 (clause_left d2 (expr_left d1 f.1).1)
  expr_left (exprs.letrec_in d1 d2) f = expr_left d2 (functions_left d1 f.1)
  expr_left (exprs.apply d1 d2) f = exprs_left d2 (expr_left d1 f.1).1
  expr_left (exprs.call d1 d2 d3) f = exprs_left d3 (expr_left d2 (expr_left d1 f.1).1).1
  expr_left (exprs.primop d1 d2) f = exprs_left d2 (atom_left d1 f.1).1
  expr_left (exprs.receive_after d1 d2 d3) f = expr_left d3 (expr_left d2 (clauses_left d1 f.1)).1
  expr_left (exprs.try_of d1 d2 d3 d4 d5) f = expr_left d5 (binding_left d4 (expr_left d3 (binding_left d2 (expr_left d1 f.1).1).1).1).1
  expr_left (exprs.catch_all d) f = expr_left d f.1
  expr_left (exprs.fun d1 d2) f = expr_left d2 (variables_left d1 f.1.1).1
  expr_left (exprs.noted d end) f = note_left end (expr_left d f.1)

  exprs_left : {n : ℕ} {close : Symbol} {s u : Tables} {ms q : List Marked} {xs : List Expr} → AreExprs n close s ms xs u q → AreFine ms → AreFine q
  exprs_left exprs.no_exprs f = f.1
  exprs_left (exprs.some_exprs d more) f = more_exprs_left more (expr_left d f)

  more_exprs_left : {n : ℕ} {close : Symbol} {s u : Tables} {ms q : List Marked} {xs : List Expr} → AreMoreExprs n close s ms xs u q → AreFine ms → AreFine q
  more_exprs_left exprs.no_more f = f.1
  more_exprs_left (exprs.one_more d more) f = more_exprs_left more (expr_left d f.1)

  list_left : {n : ℕ} {s u : Tables} {ms q : List Marked} {x : Expr} → IsList n s ms x u q → AreFine ms → AreFine q
  list_left exprs.nil f = f.1
  list_left (exprs.heads d more) f = list_end_left more (expr_left d f)

  list_end_left : {n : ℕ} {s u : Tables} {ms q : List Marked} {xs : List Expr} {tail : Expr} → IsListEnd n s ms xs tail u q → AreFine ms → AreFine q
  list_end_left exprs.closed f = f.1
  list_end_left (exprs.next_head d more) f = list_end_left more (expr_left d f.1)
  list_end_left (exprs.tail d) f = (tail_left d f.1).1

  tail_left : {n : ℕ} {s u : Tables} {ms q : List Marked} {x : Expr} → IsTail n s ms x u q → AreFine ms → AreFine q
  tail_left (exprs.list_tail d) f = list_left d f.1
  tail_left (exprs.other_tail never d) f = expr_left d f

  pub clause_left : {n : ℕ} {s u : Tables} {ms q : List Marked} {c : Clause} → IsClause n s ms c u q → AreFine ms → AreFine q
  clause_left (exprs.one_pattern d g y) f = expr_left y (expr_left g (pattern_left d f).1).1
  clause_left (exprs.patterns d g y) f = expr_left y (expr_left g (patterns_left d f.1).1).1
  clause_left (exprs.noted_clause d end) f = note_left end (clause_left d f.1)

  pub clauses_left : {n : ℕ} {close : Symbol} {s u : Tables} {ms q : List Marked} {cs : List Clause} → AreClauses n close s ms cs u q → AreFine ms → AreFine q
  clauses_left exprs.no_clauses f = f.1
  clauses_left (exprs.some_clauses d more) f = clauses_left more (clause_left d f)

  pub function_left : {n : ℕ} {s u : Tables} {ms q : List Marked} {vs : List ℕ} {x : Expr} → IsFunction n s ms vs x u q → AreFine ms → AreFine q
  function_left (exprs.function_of d1 d2) f = expr_left d2 (variables_left d1 f.1.1).1
  function_left (exprs.noted_function d end) f = note_left end (function_left d f.1)

  pub functions_left : {n : ℕ} {s u : Tables} {ms q : List Marked} {fs : List Function} → AreFunctions n s ms fs u q → AreFine ms → AreFine q
  functions_left exprs.no_functions f = f.1
  functions_left (exprs.some_functions d function more) f = functions_left more (function_left function (name_left d f).1)

-- ---- exports

pub export_left : {n : ℕ} {s u : Tables} {ms q : List Marked} {xs : List FunName} → IsExport n s ms xs u q → AreFine ms → AreFine q
export_left (mods.kept d never) f = name_left d f
export_left (mods.dropped d is) f = name_left d f

more_exports_left : {n : ℕ} {close : Symbol} {s u : Tables} {ms q : List Marked} {xs : List FunName} → AreMoreExports n close s ms xs u q → AreFine ms → AreFine q
more_exports_left mods.no_more f = f.1
more_exports_left (mods.one_more d more) f = more_exports_left more (export_left d f.1)

pub exports_left : {n : ℕ} {close : Symbol} {s u : Tables} {ms q : List Marked} {xs : List FunName} → AreExports n close s ms xs u q → AreFine ms → AreFine q
exports_left mods.no_exports f = f.1
exports_left (mods.some_exports d more) f = more_exports_left more (export_left d f)
