-- Which marked tokens are a module, and its tree: the grammar of the Core Erlang 1.0.3 report,
-- floats and binaries aside. What is dropped, levels and the numbering of names are this project's
-- own.
use Rattle.std.specs.Prelude.{◌≡◌, ℕ, ◌+◌, ◌≤◌, List, [], ◌∷◌, ◌++◌, codes}
use Rattle.hy_core.specs.Marks.{Marked, at, plain, symbol, value}
use Rattle.hy_core.specs.Numbering.{atom_number, with_atom, no_tables}
use Rattle.hy_core.specs.Annotations.{IsNote, IsName, AreAttributes}
use Rattle.hy_core.specs.Expressions.{named_by, function, IsFunction}
use Rattle.hy_core.specs.declared.token.Symbol.{Symbol}
use Rattle.hy_core.specs.declared.token.Symbol.TheVariants as w
use Rattle.hy_core.specs.declared.token.Token.TheVariants as t
use Rattle.hy_core.specs.declared.tables.Tables.{Tables}
use Rattle.hy_core.specs.declared.tree.FunName.{FunName}
use Rattle.hy_core.specs.declared.tree.Function.{Function}
use Rattle.hy_core.specs.declared.tree.Expr.{Expr}
use Rattle.hy_core.specs.declared.tree.Module.{Module}

abbrev pub the_module_info : List ℕ
the_module_info = codes "module_info"

-- 'module_info'/0 and /1, which compilers add to a module, are dropped
abbrev pub IsDropped : List ℕ → List ℕ → Type 0
IsDropped text digits = (text ≡ the_module_info) × (value digits ≤ 1)

-- an exported name, or none where it is dropped
pub data IsExport : ℕ → Tables → List Marked → List FunName → Tables → List Marked → Type 0 where
  kept : {n : ℕ} {s : Tables} {ms q : List Marked} {text digits : List ℕ}
      → IsName n ms text digits q → (IsDropped text digits → ⊥)
      → IsExport n s ms (named_by (atom_number s text) digits ∷ []) (with_atom s text) q
  dropped : {n : ℕ} {s : Tables} {ms q : List Marked} {text digits : List ℕ}
      → IsName n ms text digits q → IsDropped text digits → IsExport n s ms [] s q

-- exported names with commas between them, and the mark that closes them
mutual
  pub data AreExports : ℕ → Symbol → Tables → List Marked → List FunName → Tables
      → List Marked → Type 0 where
    no_exports : {n : ℕ} {close : Symbol} {s : Tables} {q : List Marked}
        → AreExports n close s (symbol close ∷ q) [] s q
    some_exports : {n : ℕ} {close : Symbol} {s u o : Tables} {ms q r : List Marked}
        {xs ys : List FunName} → IsExport n s ms xs u q → AreMoreExports n close u q ys o r
        → AreExports n close s ms (xs ++ ys) o r

  pub data AreMoreExports : ℕ → Symbol → Tables → List Marked → List FunName → Tables
      → List Marked → Type 0 where
    no_more : {n : ℕ} {close : Symbol} {s : Tables} {q : List Marked}
        → AreMoreExports n close s (symbol close ∷ q) [] s q
    one_more : {n : ℕ} {close : Symbol} {s u o : Tables} {ms q r : List Marked}
        {xs ys : List FunName}
        → IsExport n s ms xs u q → AreMoreExports n close u q ys o r
        → AreMoreExports n close s (symbol w.Comma ∷ ms) (xs ++ ys) o r

-- the definitions of a module, whose bodies have level n where nothing is annotated, and the
-- keyword behind them; the names in a dropped one aren't kept
pub data AreDefinitions : ℕ → Tables → List Marked → List Function → Tables
    → List Marked → Type 0 where
  no_definitions : {n : ℕ} {s : Tables} {q : List Marked}
      → AreDefinitions n s (symbol w.End ∷ q) [] s q
  kept_definition : {n : ℕ} {s u o : Tables} {ms q r k : List Marked} {text digits vs : List ℕ}
      {x : Expr} {fs : List Function}
      → IsName n ms text digits (symbol w.Equals ∷ q) → (IsDropped text digits → ⊥)
      → IsFunction n (with_atom s text) q vs x u r → AreDefinitions n u r fs o k
      → AreDefinitions n s ms (function (named_by (atom_number s text) digits) vs x ∷ fs) o k
  dropped_definition : {n : ℕ} {s u o : Tables} {ms q r k : List Marked} {text digits vs : List ℕ}
      {x : Expr} {fs : List Function}
      → IsName n ms text digits (symbol w.Equals ∷ q) → IsDropped text digits
      → IsFunction n no_tables q vs x u r → AreDefinitions n s r fs o k
      → AreDefinitions n s ms fs o k

abbrev pub module_of : ℕ → List FunName → List Function → Tables → Module
module_of name exports functions s = record {
  name = name;
  exports = exports;
  functions = functions;
  atoms = s.atoms;
  variables = s.variables;
}

-- A module of level n, behind the names of these tables. Its attributes are dropped.
pub data IsModuleAt : ℕ → Tables → List Marked → Module → List Marked → Type 0 where
  plain_module : {n : ℕ} {s u o : Tables} {ms q r k : List Marked} {exports : List FunName}
      {functions : List Function} (name : List ℕ)
      → AreExports (n + 1) w.CloseList (with_atom s name) ms exports u
      (symbol w.Attributes ∷ symbol w.OpenList ∷ q) → AreAttributes (n + 1) w.CloseList q r
      → AreDefinitions (n + 1) u r functions o k
      → IsModuleAt n s (at n (t.Symbol w.Module) ∷ plain (t.Atom name) ∷ symbol w.OpenList ∷ ms)
      (module_of (atom_number s name) exports functions o) k
  noted : {n : ℕ} {s : Tables} {ms q r : List Marked} {z : Module} → IsModuleAt (n + 1) s ms z q
      → IsNote n q r → IsModuleAt n s (at n (t.Symbol w.Open) ∷ ms) z r

-- the tokens are a module of this tree: one of level 0, with nothing before it and nothing behind
-- it
abbrev pub IsModule : List Marked → Module → Type 0
IsModule ms z = IsModuleAt 0 no_tables ms z []
