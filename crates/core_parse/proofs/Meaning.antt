-- What is still to be read: the meaning of goals, in the grammar's terms.
use Rattle.std.proofs.Common.{◌≡◌, ℕ, ◌+◌, Bool, true, false, List, [], ◌∷◌, ◌++◌, Option, Some, None, ◌⊎◌}
use Rattle.hy_core.specs.Marks.{Marked, plain, symbol, arity}
use Rattle.hy_core.specs.Numbering.{atom_number, with_atom, no_tables}
use Rattle.hy_core.specs.Annotations.{IsConstant, AreConstants, AreMoreConstants, IsConstantList, IsConstantEnd, IsConstantTail, IsNote, IsAtom, IsName, IsAttributeValue, AreAttributes, AreMoreAttributes}
use Rattle.hy_core.specs.Patterns.{IsVariable, AreVariables, AreMoreVariables, BindsValues, IsNotBefore, IsPattern, ArePatterns, AreMorePatterns, IsPatternList, IsPatternEnd, IsPatternTail}
use Rattle.hy_core.specs.Expressions.{named_by, IsExpr, AreExprs, AreMoreExprs, IsList, IsListEnd, IsTail, IsClause, AreClauses, IsFunction, AreFunctions}
use Rattle.hy_core.specs.Grammar.{the_module_info, IsDropped, IsExport, AreExports, AreMoreExports, AreDefinitions, IsModuleAt}
use Rattle.core_parse.specs.code.Pushdown.{closing, finished}
use Rattle.core_build.specs.code.Forms.{behind_heads, behind_head_patterns}
use Rattle.core_build.specs.Trees.{built}
use Rattle.hy_core.specs.declared.token.Symbol.{Symbol}
use Rattle.hy_core.specs.declared.token.Symbol.TheVariants as w
use Rattle.hy_core.specs.declared.token.Token.TheVariants as t
use Rattle.hy_core.specs.declared.tables.Tables.{Tables}
use Rattle.hy_core.specs.declared.tree.Pattern.{Pattern}
use Rattle.hy_core.specs.declared.tree.Pattern.TheVariants as p
use Rattle.hy_core.specs.declared.tree.FunName.{FunName}
use Rattle.hy_core.specs.declared.tree.Function.{Function}
use Rattle.hy_core.specs.declared.tree.Clause.{Clause}
use Rattle.hy_core.specs.declared.tree.Expr.{Expr}
use Rattle.hy_core.specs.declared.tree.Expr.TheVariants as e
use Rattle.hy_core.specs.declared.tree.Module.{Module}
use Rattle.core_build.specs.declared.form.Part.{Part}
use Rattle.core_build.specs.declared.form.Part.TheVariants as part
use Rattle.core_parse.specs.declared.goal.Closer.{Closer}
use Rattle.core_build.specs.declared.form.Form.{Form}
use Rattle.core_build.specs.declared.form.Form.TheVariants as f
use Rattle.core_parse.specs.declared.goal.Goal.{Goal}
use Rattle.core_parse.specs.declared.goal.Goal.TheVariants as g
use Rattle.core_build.specs.declared.value.Value.{Value}
use Rattle.core_build.specs.declared.value.Value.TheVariants as v

-- what holds of the values, the tables and the tokens behind a part
abbrev pub Rest : Type 1
Rest = List Value → Tables → List Marked → Type 0

-- a marked token, and then ..
abbrev pub MarkThen : Marked → List Marked → (List Marked → Type 0) → Type 0
MarkThen m ms k = (q : List Marked) × (ms ≡ m ∷ q) × k q

abbrev pub WordThen : Symbol → List Marked → (List Marked → Type 0) → Type 0
WordThen x ms k = MarkThen (symbol x) ms k

abbrev pub OnBuilt : Option (List Value × Tables) → (List Value → Tables → Type 0) → Type 0
OnBuilt None k = ⊥
OnBuilt (Some r) k = k r.0 r.1

abbrev pub BuiltThen : Form → List Value → Tables → List Marked → Rest → Type 0
BuiltThen form vs s ms k = OnBuilt (built form vs s) (λ ws u. k ws u ms)

abbrev pub ExprThen : ℕ → List Value → Tables → List Marked → Rest → Type 0
ExprThen n vs s ms k = (x : Expr) × (u : Tables) × (q : List Marked) × IsExpr n s ms x u q × k (v.Expr x ∷ vs) u q

abbrev pub PatternThen : ℕ → List Value → Tables → List Marked → Rest → Type 0
PatternThen n vs s ms k = (x : Pattern) × (u : Tables) × (q : List Marked) × IsPattern n s ms x u q × k (v.Pattern x ∷ vs) u q

abbrev pub ExportThen : ℕ → List Value → Tables → List Marked → Rest → Type 0
ExportThen n (v.Names es ∷ vs) s ms k = (xs : List FunName) × (u : Tables) × (q : List Marked) × IsExport n s ms xs u q × k (v.Names (es ++ xs) ∷ vs) u q
ExportThen n vs s ms k = ⊥

abbrev pub AttributeThen : ℕ → List Value → Tables → List Marked → Rest → Type 0
AttributeThen n vs s ms k = (key : List ℕ) × (q r : List Marked) × IsAtom n ms key (symbol w.Equals ∷ q) × IsAttributeValue n q r × k vs s r

abbrev pub PartThen : Part → ℕ → List Value → Tables → List Marked → Rest → Type 0
PartThen part.Expr n vs s ms k = ExprThen n vs s ms k
PartThen part.Pattern n vs s ms k = PatternThen n vs s ms k
PartThen part.Constant n vs s ms k = (q : List Marked) × IsConstant n ms q × k vs s q
PartThen part.Variable n vs s ms k = (x : ℕ) × (u : Tables) × (q : List Marked) × IsVariable n s ms x u q × k (v.Variable x ∷ vs) u q
PartThen part.Export n vs s ms k = ExportThen n vs s ms k
PartThen part.Attribute n vs s ms k = AttributeThen n vs s ms k

abbrev pub PartsThen : Part → ℕ → Closer → List Value → Tables → List Marked → Rest → Type 0
PartsThen part.Expr n c vs s ms k = (xs : List Expr) × (u : Tables) × (q : List Marked) × AreExprs n (closing c) s ms xs u q × k (v.Exprs xs ∷ vs) u q
PartsThen part.Pattern n c vs s ms k = (xs : List Pattern) × (u : Tables) × (q : List Marked) × ArePatterns n (closing c) s ms xs u q × k (v.Patterns xs ∷ vs) u q
PartsThen part.Constant n c vs s ms k = (q : List Marked) × AreConstants n (closing c) ms q × k vs s q
PartsThen part.Variable n c vs s ms k = (xs : List ℕ) × (u : Tables) × (q : List Marked) × AreVariables n (closing c) s ms xs u q × k (v.Variables xs ∷ vs) u q
PartsThen part.Export n c vs s ms k = (xs : List FunName) × (u : Tables) × (q : List Marked) × AreExports n (closing c) s ms xs u q × k (v.Names xs ∷ vs) u q
PartsThen part.Attribute n c vs s ms k = (q : List Marked) × AreAttributes n (closing c) ms q × k vs s q

abbrev pub MorePartsThen : Part → ℕ → Closer → List Value → Tables → List Marked → Rest → Type 0
MorePartsThen part.Expr n c (v.Expr x ∷ v.Exprs xs ∷ vs) s ms k = (ys : List Expr) × (u : Tables) × (q : List Marked) × AreMoreExprs n (closing c) s ms ys u q × k (v.Exprs ((xs ++ x ∷ []) ++ ys) ∷ vs) u q
MorePartsThen part.Pattern n c (v.Pattern x ∷ v.Patterns xs ∷ vs) s ms k =
    (ys : List Pattern) × (u : Tables) × (q : List Marked) × AreMorePatterns n (closing c) s ms ys u q × k (v.Patterns ((xs ++ x ∷ []) ++ ys) ∷ vs) u q
MorePartsThen part.Variable n c (v.Variable x ∷ v.Variables xs ∷ vs) s ms k =
    (ys : List ℕ) × (u : Tables) × (q : List Marked) × AreMoreVariables n (closing c) s ms ys u q × k (v.Variables ((xs ++ x ∷ []) ++ ys) ∷ vs) u q
MorePartsThen part.Export n c (v.Names es ∷ vs) s ms k = (xs : List FunName) × (u : Tables) × (q : List Marked) × AreMoreExports n (closing c) s ms xs u q × k (v.Names (es ++ xs) ∷ vs) u q
MorePartsThen part.Constant n c vs s ms k = (q : List Marked) × AreMoreConstants n (closing c) ms q × k vs s q
MorePartsThen part.Attribute n c vs s ms k = (q : List Marked) × AreMoreAttributes n (closing c) ms q × k vs s q
MorePartsThen part.Expr n c vs s ms k = ⊥
MorePartsThen part.Pattern n c vs s ms k = ⊥
MorePartsThen part.Variable n c vs s ms k = ⊥
MorePartsThen part.Export n c vs s ms k = WordThen (closing c) ms (λ q. k vs s q)

abbrev pub HeadsThen : Part → ℕ → List Value → Tables → List Marked → Rest → Type 0
HeadsThen part.Expr n (v.Exprs xs ∷ vs) s ms k = (x : Expr) × (u : Tables) × (q : List Marked) × IsList n s ms x u q × k (v.Expr (behind_heads xs x) ∷ vs) u q
HeadsThen part.Pattern n (v.Patterns xs ∷ vs) s ms k = (x : Pattern) × (u : Tables) × (q : List Marked) × IsPatternList n s ms x u q × k (v.Pattern (behind_head_patterns xs x) ∷ vs) u q
HeadsThen part.Constant n vs s ms k = (q : List Marked) × IsConstantList n ms q × k vs s q
HeadsThen _ n vs s ms k = ⊥

abbrev pub MoreHeadsThen : Part → ℕ → List Value → Tables → List Marked → Rest → Type 0
MoreHeadsThen part.Expr n (v.Expr x ∷ v.Exprs xs ∷ vs) s ms k =
    (ys : List Expr) × (tail : Expr) × (u : Tables) × (q : List Marked) × IsListEnd n s ms ys tail u q × k (v.Expr (behind_heads ((xs ++ x ∷ []) ++ ys) tail) ∷ vs) u q
MoreHeadsThen part.Pattern n (v.Pattern x ∷ v.Patterns xs ∷ vs) s ms k =
    (ys : List Pattern) × (tail : Pattern) × (u : Tables) × (q : List Marked) × IsPatternEnd n s ms ys tail u q × k (v.Pattern (behind_head_patterns ((xs ++ x ∷ []) ++ ys) tail) ∷ vs) u q
MoreHeadsThen part.Constant n vs s ms k = (q : List Marked) × IsConstantEnd n ms q × k vs s q
MoreHeadsThen _ n vs s ms k = ⊥

abbrev pub TailThen : Part → ℕ → List Value → Tables → List Marked → Rest → Type 0
TailThen part.Expr n (v.Exprs xs ∷ vs) s ms k = (x : Expr) × (u : Tables) × (q : List Marked) × IsTail n s ms x u (symbol w.CloseList ∷ q) × k (v.Expr (behind_heads xs x) ∷ vs) u q
TailThen part.Pattern n (v.Patterns xs ∷ vs) s ms k = (x : Pattern) × (u : Tables) × (q : List Marked) × IsPatternTail n s ms x u (symbol w.CloseList ∷ q) × k (v.Pattern (behind_head_patterns xs x) ∷ vs) u q
TailThen part.Constant n vs s ms k = (q : List Marked) × IsConstantTail n ms (symbol w.CloseList ∷ q) × k vs s q
TailThen _ n vs s ms k = ⊥

abbrev pub ArityThen : List Value → Tables → List Marked → Rest → Type 0
ArityThen (v.Atom a ∷ vs) s ms k = (digits : List ℕ) × MarkThen (arity digits) ms (λ q. k (v.Expr (e.Name (named_by a digits)) ∷ vs) s q)
ArityThen vs s ms k = ⊥

abbrev pub NameOrAtomThen : List Value → Tables → List Marked → Rest → Type 0
NameOrAtomThen (v.Atom a ∷ vs) s ms k = (IsNotBefore w.Slash ms × k (v.Expr (e.Atom a) ∷ vs) s ms) ⊎ WordThen w.Slash ms (λ q. ArityThen (v.Atom a ∷ vs) s q k)
NameOrAtomThen vs s ms k = ⊥

abbrev pub AliasRestThen : ℕ → List Value → Tables → List Marked → Rest → Type 0
AliasRestThen n (v.Pattern x ∷ vs) s ms k = (y : ℕ) × (x ≡ p.Var y) × WordThen w.Equals ms (λ q. PatternThen (n + 1) (v.Variable y ∷ vs) s q (λ ws u r. BuiltThen f.Alias ws u r k))
AliasRestThen n vs s ms k = ⊥

abbrev pub AliasThen : ℕ → List Value → Tables → List Marked → Rest → Type 0
AliasThen n vs s ms k = (IsNotBefore w.Equals ms × k vs s ms) ⊎ AliasRestThen n vs s ms k

-- a guard, a body, and the clause that they make
abbrev pub ClauseBodyThen : ℕ → List Value → Tables → List Marked → Rest → Type 0
ClauseBodyThen n vs s ms k = ExprThen n vs s ms (λ ws u q. WordThen w.Arrow q (λ r. ExprThen n ws u r (λ os i o. BuiltThen f.Clause os i o k)))

abbrev pub ClauseWhenThen : ℕ → List Value → Tables → List Marked → Rest → Type 0
ClauseWhenThen n (v.Pattern x ∷ vs) s ms k = WordThen w.When ms (λ q. ClauseBodyThen n (v.Patterns (x ∷ []) ∷ vs) s q k)
ClauseWhenThen n vs s ms k = ⊥

abbrev pub ClauseRestThen : ℕ → Bool → List Value → Tables → List Marked → Rest → Type 0
ClauseRestThen n false vs s ms k = ClauseWhenThen n vs s ms k
ClauseRestThen n true vs s ms k = (IsNotBefore w.When ms × k vs s ms) ⊎ ClauseWhenThen n vs s ms k

abbrev pub WholeClauseThen : ℕ → List Value → Tables → List Marked → Rest → Type 0
WholeClauseThen n (v.Clauses cs ∷ vs) s ms k = (c : Clause) × (u : Tables) × (q : List Marked) × IsClause n s ms c u q × k (v.Clauses (cs ++ c ∷ []) ∷ vs) u q
WholeClauseThen n vs s ms k = ⊥

-- a clause, or behind a parenthesis a pattern with which one begins
abbrev pub ClauseThen : ℕ → Bool → List Value → Tables → List Marked → Rest → Type 0
ClauseThen n false vs s ms k = WholeClauseThen n vs s ms k
ClauseThen n true vs s ms k = WholeClauseThen n vs s ms k ⊎ PatternThen n vs s ms (λ ws u q. IsNotBefore w.When q × k ws u q)

abbrev pub NoteThen : ℕ → List Marked → (List Marked → Type 0) → Type 0
NoteThen n ms k = (q : List Marked) × IsNote n ms q × k q

abbrev pub ClauseNoteThen : ℕ → Bool → List Value → Tables → List Marked → Rest → Type 0
ClauseNoteThen n inner (v.Pattern x ∷ vs) s ms k = NoteThen n ms (λ q. AliasThen n (v.Pattern x ∷ vs) s q (λ ws u r. ClauseRestThen n inner ws u r k))
ClauseNoteThen n inner vs s ms k = NoteThen n ms (λ q. k vs s q)

abbrev pub ClausesThen : ℕ → Closer → List Value → Tables → List Marked → Rest → Type 0
ClausesThen n c (v.Clauses bs ∷ vs) s ms k = (cs : List Clause) × (u : Tables) × (q : List Marked) × AreClauses n (closing c) s ms cs u q × k (v.Clauses (bs ++ cs) ∷ vs) u q
ClausesThen n c vs s ms k = WordThen (closing c) ms (λ q. k vs s q)

abbrev pub FunctionsThen : ℕ → List Value → Tables → List Marked → Rest → Type 0
FunctionsThen n (v.Functions es ∷ vs) s ms k = (fs : List Function) × (u : Tables) × (q : List Marked) × AreFunctions n s ms fs u q × k (v.Functions (es ++ fs) ∷ vs) u q
FunctionsThen n vs s ms k = WordThen w.In ms (λ q. k vs s q)

abbrev pub DefinitionsThen : ℕ → List Value → Tables → List Marked → Rest → Type 0
DefinitionsThen n (v.Functions es ∷ vs) s ms k = (fs : List Function) × (u : Tables) × (q : List Marked) × AreDefinitions n s ms fs u q × k (v.Functions (es ++ fs) ∷ vs) u q
DefinitionsThen n vs s ms k = WordThen w.End ms (λ q. k vs s q)

-- a name that is kept
abbrev pub NameThen : ℕ → List Value → Tables → List Marked → Rest → Type 0
NameThen n vs s ms k = (text digits : List ℕ) × (q : List Marked) × IsName n ms text digits q × k (v.Name (named_by (atom_number s text) digits) ∷ vs) (with_atom s text) q

-- the name of a definition: kept, or dropped, and then the tables are put aside
abbrev pub DefinedThen : List ℕ → List ℕ → List Value → Tables → List Marked → Rest → Type 0
DefinedThen text digits vs s q k =
    ((IsDropped text digits → ⊥) × k (v.Name (named_by (atom_number s text) digits) ∷ vs) (with_atom s text) q) ⊎ (IsDropped text digits × k (v.Dropped s ∷ vs) no_tables q)

abbrev pub DefinitionNameThen : ℕ → List Value → Tables → List Marked → Rest → Type 0
DefinitionNameThen n vs s ms k = (text digits : List ℕ) × (q : List Marked) × IsName n ms text digits q × DefinedThen text digits vs s q k

abbrev pub FunctionArityThen : List Value → Tables → List Marked → Rest → Type 0
FunctionArityThen (v.Atom a ∷ vs) s ms k = (digits : List ℕ) × MarkThen (arity digits) ms (λ q. k (v.Name (named_by a digits) ∷ vs) s q)
FunctionArityThen vs s ms k = ⊥

abbrev pub ExportArityThen : List Value → Tables → List Marked → Rest → Type 0
ExportArityThen (v.Atom a ∷ v.Names es ∷ vs) s ms k = (digits : List ℕ) × MarkThen (arity digits) ms (λ q. k (v.Names (es ++ named_by a digits ∷ []) ∷ vs) s q)
ExportArityThen vs s ms k = ⊥

-- an export of this name: kept, or dropped
abbrev pub ExportedThen : List ℕ → List ℕ → List FunName → List Value → Tables → List Marked → Rest → Type 0
ExportedThen text digits es vs s q k =
    ((IsDropped text digits → ⊥) × k (v.Names (es ++ named_by (atom_number s text) digits ∷ []) ∷ vs) (with_atom s text) q) ⊎ (IsDropped text digits × k (v.Names es ∷ vs) s q)

abbrev pub InfoExportThen : List Value → Tables → List Marked → Rest → Type 0
InfoExportThen (v.Names es ∷ vs) s ms k = (digits : List ℕ) × MarkThen (arity digits) ms (λ q. ExportedThen the_module_info digits es vs s q k)
InfoExportThen vs s ms k = ⊥

abbrev pub tables_of : Module → Tables
tables_of z = record { atoms = z.atoms; variables = z.variables }

abbrev pub Then : Goal → List Value → Tables → List Marked → Rest → Type 0
Then (g.Symbol x) vs s ms k = WordThen x ms (λ q. k vs s q)
Then (g.Part o n) vs s ms k = PartThen o n vs s ms k
Then (g.Parts o n c) vs s ms k = PartsThen o n c vs s ms k
Then (g.MoreParts o n c) vs s ms k = MorePartsThen o n c vs s ms k
Then (g.Heads o n) vs s ms k = HeadsThen o n vs s ms k
Then (g.MoreHeads o n) vs s ms k = MoreHeadsThen o n vs s ms k
Then (g.Tail o n) vs s ms k = TailThen o n vs s ms k
Then g.NameOrAtom vs s ms k = NameOrAtomThen vs s ms k
Then g.Arity vs s ms k = ArityThen vs s ms k
Then (g.Alias n) vs s ms k = AliasThen n vs s ms k
Then (g.Bindings n) vs s ms k = (xs : List ℕ) × (u : Tables) × (q : List Marked) × BindsValues n s ms xs u q × k (v.Variables xs ∷ vs) u q
Then (g.Clauses n c) vs s ms k = ClausesThen n c vs s ms k
Then (g.Clause n inner) vs s ms k = ClauseThen n inner vs s ms k
Then (g.ClauseRest n inner) vs s ms k = ClauseRestThen n inner vs s ms k
Then (g.ClauseNote n inner) vs s ms k = ClauseNoteThen n inner vs s ms k
Then (g.Note n) vs s ms k = NoteThen n ms (λ q. k vs s q)
Then (g.Key n) vs s ms k = (key : List ℕ) × (q : List Marked) × IsAtom n ms key q × k vs s q
Then (g.AttributeValue n) vs s ms k = (q : List Marked) × IsAttributeValue n ms q × k vs s q
Then (g.Primop n) vs s ms k = (text : List ℕ) × (q : List Marked) × IsAtom n ms text q × k (v.Atom (atom_number s text) ∷ vs) (with_atom s text) q
Then g.ExportArity vs s ms k = ExportArityThen vs s ms k
Then g.InfoExportArity vs s ms k = InfoExportThen vs s ms k
Then g.FunctionArity vs s ms k = FunctionArityThen vs s ms k
Then g.InfoArity vs s ms k = (digits : List ℕ) × MarkThen (arity digits) ms (λ q. DefinedThen the_module_info digits vs s q k)
Then (g.Functions n) vs s ms k = FunctionsThen n vs s ms k
Then (g.FunctionName n) vs s ms k = NameThen n vs s ms k
Then (g.Definitions n) vs s ms k = DefinitionsThen n vs s ms k
Then (g.DefinitionName n) vs s ms k = DefinitionNameThen n vs s ms k
Then (g.FunctionBody n) vs s ms k = (xs : List ℕ) × (x : Expr) × (u : Tables) × (q : List Marked) × IsFunction n s ms xs x u q × k (v.Expr x ∷ v.Variables xs ∷ vs) u q
Then (g.Module n) vs s ms k = (z : Module) × (q : List Marked) × IsModuleAt n s ms z q × k (v.Functions z.functions ∷ v.Names z.exports ∷ v.Atom z.name ∷ vs) (tables_of z) q
Then g.ModuleName vs s ms k = (name : List ℕ) × MarkThen (plain (t.Atom name)) ms (λ q. k (v.Atom (atom_number s name) ∷ vs) (with_atom s name) q)
Then (g.Build form) vs s ms k = BuiltThen form vs s ms k

-- the tokens ms complete the module z
abbrev pub Completes : List Goal → List Value → Tables → List Marked → Module → Type 0
Completes [] vs s ms z = (ms ≡ []) × (finished [] vs s ≡ Some z)
Completes (goal ∷ gs) vs s ms z = Then goal vs s ms (λ ws u q. Completes gs ws u q z)
