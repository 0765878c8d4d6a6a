-- Variables and patterns of the Core Erlang 1.0.3 report, with their trees. Each relation says
-- which marked tokens are read, and which are left, between the tables before and after them.
-- Levels are this project's own.
use Rattle.std.specs.Prelude.{◌≡◌, ℕ, ◌+◌, pos, List, [], ◌∷◌, ◌++◌}
use Rattle.hy_core.specs.Marks.{Marked, at, plain, symbol, value, number}
use Rattle.hy_core.specs.Numbering.{atom_number, with_atom, variable_number, with_variable}
use Rattle.hy_core.specs.Annotations.{IsNote}
use Rattle.hy_core.specs.declared.token.Symbol.{Symbol}
use Rattle.hy_core.specs.declared.token.Symbol.TheVariants as w
use Rattle.hy_core.specs.declared.token.Sign.{Sign}
use Rattle.hy_core.specs.declared.token.Token.TheVariants as t
use Rattle.hy_core.specs.declared.tables.Tables.{Tables}
use Rattle.hy_core.specs.declared.tree.Pattern.{Pattern}
use Rattle.hy_core.specs.declared.tree.Pattern.TheVariants as p
use Rattle.hy_core.specs.declared.tree.Pattern.TheOpen as layer
use Rattle.hy_core.specs.declared.tree.Pattern.TheViews.{out-Pattern}

-- a variable that is bound, where an annotation round it has level n
pub data IsVariable : ℕ → Tables → List Marked → ℕ → Tables → List Marked → Type 0 where
  variable : {n : ℕ} {s : Tables} {q : List Marked} (name : List ℕ)
      → IsVariable n s (plain (t.Variable name) ∷ q) (variable_number s name)
      (with_variable s name) q
  noted : {n : ℕ} {s u : Tables} {ms q r : List Marked} {v : ℕ} → IsVariable (n + 1) s ms v u q
      → IsNote n q r → IsVariable n s (at n (t.Symbol w.Open) ∷ ms) v u r

-- variables with commas between them, and the mark that closes them
mutual
  pub data AreVariables : ℕ → Symbol → Tables → List Marked → List ℕ → Tables
      → List Marked → Type 0 where
    none : {n : ℕ} {close : Symbol} {s : Tables} {q : List Marked}
        → AreVariables n close s (symbol close ∷ q) [] s q
    some : {n : ℕ} {close : Symbol} {s u o : Tables} {ms q r : List Marked} {v : ℕ} {vs : List ℕ}
        → IsVariable n s ms v u q → AreMoreVariables n close u q vs o r
        → AreVariables n close s ms (v ∷ vs) o r

  pub data AreMoreVariables : ℕ → Symbol → Tables → List Marked → List ℕ → Tables
      → List Marked → Type 0 where
    no_more : {n : ℕ} {close : Symbol} {s : Tables} {q : List Marked}
        → AreMoreVariables n close s (symbol close ∷ q) [] s q
    one_more : {n : ℕ} {close : Symbol} {s u o : Tables} {ms q r : List Marked}
        {v : ℕ} {vs : List ℕ}
        → IsVariable n s ms v u q → AreMoreVariables n close u q vs o r
        → AreMoreVariables n close s (symbol w.Comma ∷ ms) (v ∷ vs) o r

-- the variables that are bound to values side by side: one, or any number between < and >
pub data BindsValues : ℕ → Tables → List Marked → List ℕ → Tables → List Marked → Type 0 where
  one : {n : ℕ} {s u : Tables} {ms q : List Marked} {v : ℕ} → IsVariable n s ms v u q
      → BindsValues n s ms (v ∷ []) u q
  many : {n : ℕ} {s u : Tables} {ms q : List Marked} {vs : List ℕ}
      → AreVariables n w.Greater s ms vs u q → BindsValues n s (symbol w.Less ∷ ms) vs u q

-- the first token isn't this symbol
abbrev pub IsNotBefore : Symbol → List Marked → Type 0
IsNotBefore k [] = Unit {0}
IsNotBefore k (m ∷ ms) = m.token ≡ t.Symbol k → ⊥

abbrev pub string_pattern : List ℕ → Pattern
string_pattern [] = p.Nil
string_pattern (b ∷ bs) = p.Str (b ∷ bs)

abbrev pub joined_at : List Pattern → Pattern → layer.Pattern-F Pattern → Pattern
joined_at xs end (layer.List heads tail) = p.List (xs ++ heads) tail
joined_at xs end _ = p.List xs end

-- a list notation with these heads and this tail, which is joined with it where it is a list
-- notation
abbrev pub joined_pattern : List Pattern → Pattern → Pattern
joined_pattern xs end = joined_at xs end (out-Pattern end)

-- the variable of an alias of level n; it has the levels that it would have as a pattern
pub data IsAliased : ℕ → Tables → List Marked → ℕ → Tables → List Marked → Type 0 where
  variable : {n : ℕ} {s : Tables} {q : List Marked} (name : List ℕ)
      → IsAliased n s (at n (t.Variable name) ∷ q) (variable_number s name) (with_variable s name) q
  noted : {n : ℕ} {s u : Tables} {ms q r : List Marked} {v : ℕ} → IsAliased (n + 1) s ms v u q
      → IsNote n q r → IsAliased n s (at n (t.Symbol w.Open) ∷ ms) v u r

mutual
  -- A pattern of level n. What stands before = begins an alias.
  pub data IsPattern : ℕ → Tables → List Marked → Pattern → Tables → List Marked → Type 0 where
    integer : {n : ℕ} {s : Tables} {q : List Marked} (sign : Sign) (digits : List ℕ)
        → IsPattern n s (at n (t.Integer sign digits) ∷ q) (p.Int (number sign (value digits))) s q
    character : {n : ℕ} {s : Tables} {q : List Marked} (code : ℕ)
        → IsPattern n s (at n (t.Character code) ∷ q) (p.Int (pos code)) s q
    atom : {n : ℕ} {s : Tables} {q : List Marked} (text : List ℕ)
        → IsPattern n s (at n (t.Atom text) ∷ q) (p.Atom (atom_number s text)) (with_atom s text) q
    string : {n : ℕ} {s : Tables} {q : List Marked} (text : List ℕ)
        → IsPattern n s (at n (t.Str text) ∷ q) (string_pattern text) s q
    variable : {n : ℕ} {s : Tables} {q : List Marked} (name : List ℕ) → IsNotBefore w.Equals q
        → IsPattern n s (at n (t.Variable name) ∷ q) (p.Var (variable_number s name))
        (with_variable s name) q
    alias : {n : ℕ} {s u o : Tables} {ms q r : List Marked} {v : ℕ} {x : Pattern}
        → IsAliased n s ms v u (symbol w.Equals ∷ q) → IsPattern (n + 1) u q x o r
        → IsPattern n s ms (p.Alias v x) o r
    tuple : {n : ℕ} {s u : Tables} {ms q : List Marked} {xs : List Pattern}
        → ArePatterns (n + 1) w.CloseTuple s ms xs u q
        → IsPattern n s (at n (t.Symbol w.OpenTuple) ∷ ms) (p.Tuple xs) u q
    list : {n : ℕ} {s u : Tables} {ms q : List Marked} {x : Pattern} → IsPatternList n s ms x u q
        → IsPattern n s (at n (t.Symbol w.OpenList) ∷ ms) x u q
    noted : {n : ℕ} {s u : Tables} {ms q r : List Marked} {x : Pattern}
        → IsPattern (n + 1) s ms x u q → IsNote n q r → IsNotBefore w.Equals r
        → IsPattern n s (at n (t.Symbol w.Open) ∷ ms) x u r

  -- patterns of level n with commas between them, and the mark that closes them
  pub data ArePatterns : ℕ → Symbol → Tables → List Marked → List Pattern → Tables
      → List Marked → Type 0 where
    no_patterns : {n : ℕ} {close : Symbol} {s : Tables} {q : List Marked}
        → ArePatterns n close s (symbol close ∷ q) [] s q
    some_patterns : {n : ℕ} {close : Symbol} {s u o : Tables} {ms q r : List Marked} {x : Pattern}
        {xs : List Pattern} → IsPattern n s ms x u q → AreMorePatterns n close u q xs o r
        → ArePatterns n close s ms (x ∷ xs) o r

  pub data AreMorePatterns : ℕ → Symbol → Tables → List Marked → List Pattern → Tables
      → List Marked → Type 0 where
    no_more : {n : ℕ} {close : Symbol} {s : Tables} {q : List Marked}
        → AreMorePatterns n close s (symbol close ∷ q) [] s q
    one_more : {n : ℕ} {close : Symbol} {s u o : Tables} {ms q r : List Marked} {x : Pattern}
        {xs : List Pattern} → IsPattern n s ms x u q → AreMorePatterns n close u q xs o r
        → AreMorePatterns n close s (symbol w.Comma ∷ ms) (x ∷ xs) o r

  -- what is behind the bracket of a list notation of level n
  pub data IsPatternList : ℕ → Tables → List Marked → Pattern → Tables → List Marked → Type 0 where
    nil : {n : ℕ} {s : Tables} {q : List Marked}
        → IsPatternList n s (symbol w.CloseList ∷ q) p.Nil s q
    heads : {n : ℕ} {s u o : Tables} {ms q r : List Marked} {x tail : Pattern} {xs : List Pattern}
        → IsPattern (n + 1) s ms x u q → IsPatternEnd n u q xs tail o r
        → IsPatternList n s ms (joined_pattern (x ∷ xs) tail) o r

  -- more heads and the tail, behind a head of a list notation of level n
  pub data IsPatternEnd : ℕ → Tables → List Marked → List Pattern → Pattern → Tables
      → List Marked → Type 0 where
    closed : {n : ℕ} {s : Tables} {q : List Marked}
        → IsPatternEnd n s (symbol w.CloseList ∷ q) [] p.Nil s q
    next_head : {n : ℕ} {s u o : Tables} {ms q r : List Marked} {x tail : Pattern}
        {xs : List Pattern} → IsPattern (n + 1) s ms x u q → IsPatternEnd n u q xs tail o r
        → IsPatternEnd n s (symbol w.Comma ∷ ms) (x ∷ xs) tail o r
    tail : {n : ℕ} {s u : Tables} {ms q : List Marked} {tail : Pattern}
        → IsPatternTail n s ms tail u (symbol w.CloseList ∷ q)
        → IsPatternEnd n s (symbol w.Bar ∷ ms) [] tail u q

  -- the tail of a list notation of level n: a list notation has that level, anything else one more
  pub data IsPatternTail : ℕ → Tables → List Marked → Pattern → Tables → List Marked → Type 0 where
    list_tail : {n : ℕ} {s u : Tables} {ms q : List Marked} {x : Pattern}
        → IsPatternList n s ms x u q → IsPatternTail n s (at n (t.Symbol w.OpenList) ∷ ms) x u q
    other_tail : {n : ℕ} {s u : Tables} {m : Marked} {ms q : List Marked} {x : Pattern}
        → (m.token ≡ t.Symbol w.OpenList → ⊥) → IsPattern (n + 1) s (m ∷ ms) x u q
        → IsPatternTail n s (m ∷ ms) x u q
