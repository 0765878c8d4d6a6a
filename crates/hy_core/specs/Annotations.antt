-- Constants, annotations and names: the parts of the grammar of the Core Erlang 1.0.3 report that
-- stand by themselves. Each relation says which marked tokens are read, and which are left. Levels
-- and the dropping of annotations are this project's own.
use Rattle.std.specs.Prelude.{◌≡◌, ℕ, ◌+◌, List, ◌∷◌}
use Rattle.hy_core.specs.Marks.{Marked, at, constant, plain, symbol, arity}
use Rattle.hy_core.specs.declared.token.Symbol.{Symbol}
use Rattle.hy_core.specs.declared.token.Symbol.TheVariants as w
use Rattle.hy_core.specs.declared.token.Sign.{Sign}
use Rattle.hy_core.specs.declared.token.Token.TheVariants as t

mutual
  -- a constant of level n
  pub data IsConstant : ℕ → List Marked → List Marked → Type 0 where
    integer : {n : ℕ} {q : List Marked} (sign : Sign) (digits : List ℕ)
        → IsConstant n (constant n (t.Integer sign digits) ∷ q) q
    character : {n : ℕ} {q : List Marked} (code : ℕ)
        → IsConstant n (constant n (t.Character code) ∷ q) q
    atom : {n : ℕ} {q : List Marked} (text : List ℕ) → IsConstant n (constant n (t.Atom text) ∷ q) q
    string : {n : ℕ} {q : List Marked} (text : List ℕ)
        → IsConstant n (constant n (t.Str text) ∷ q) q
    tuple : {n : ℕ} {ms q : List Marked} → AreConstants (n + 1) w.CloseTuple ms q
        → IsConstant n (constant n (t.Symbol w.OpenTuple) ∷ ms) q
    list : {n : ℕ} {ms q : List Marked} → IsConstantList n ms q
        → IsConstant n (constant n (t.Symbol w.OpenList) ∷ ms) q

  -- constants of level n with commas between them, and the mark that closes them
  pub data AreConstants : ℕ → Symbol → List Marked → List Marked → Type 0 where
    no_constants : {n : ℕ} {close : Symbol} {q : List Marked}
        → AreConstants n close (symbol close ∷ q) q
    some_constants : {n : ℕ} {close : Symbol} {ms q r : List Marked} → IsConstant n ms q
        → AreMoreConstants n close q r → AreConstants n close ms r

  pub data AreMoreConstants : ℕ → Symbol → List Marked → List Marked → Type 0 where
    no_more : {n : ℕ} {close : Symbol} {q : List Marked}
        → AreMoreConstants n close (symbol close ∷ q) q
    one_more : {n : ℕ} {close : Symbol} {ms q r : List Marked} → IsConstant n ms q
        → AreMoreConstants n close q r → AreMoreConstants n close (symbol w.Comma ∷ ms) r

  -- what is behind the bracket of a list notation of level n
  pub data IsConstantList : ℕ → List Marked → List Marked → Type 0 where
    nil : {n : ℕ} {q : List Marked} → IsConstantList n (symbol w.CloseList ∷ q) q
    heads : {n : ℕ} {ms q r : List Marked} → IsConstant (n + 1) ms q → IsConstantEnd n q r
        → IsConstantList n ms r

  -- what is behind a head of a list notation of level n
  pub data IsConstantEnd : ℕ → List Marked → List Marked → Type 0 where
    closed : {n : ℕ} {q : List Marked} → IsConstantEnd n (symbol w.CloseList ∷ q) q
    next_head : {n : ℕ} {ms q r : List Marked} → IsConstant (n + 1) ms q → IsConstantEnd n q r
        → IsConstantEnd n (symbol w.Comma ∷ ms) r
    tail : {n : ℕ} {ms q : List Marked} → IsConstantTail n ms (symbol w.CloseList ∷ q)
        → IsConstantEnd n (symbol w.Bar ∷ ms) q

  -- the tail of a list notation of level n: a list notation has that level, anything else one more
  pub data IsConstantTail : ℕ → List Marked → List Marked → Type 0 where
    list_tail : {n : ℕ} {ms q : List Marked} → IsConstantList n ms q
        → IsConstantTail n (constant n (t.Symbol w.OpenList) ∷ ms) q
    other_tail : {n : ℕ} {m : Marked} {ms q : List Marked} → (m.token ≡ t.Symbol w.OpenList → ⊥)
        → IsConstant (n + 1) (m ∷ ms) q → IsConstantTail n (m ∷ ms) q

-- the end of an annotation whose parenthesis has level n: the list, and the parenthesis that closes
-- it
pub data IsNote : ℕ → List Marked → List Marked → Type 0 where
  note : {n : ℕ} {ms q : List Marked} → AreConstants (n + 1) w.CloseList ms (symbol w.Close ∷ q)
      → IsNote n (symbol w.NoteBar ∷ symbol w.OpenList ∷ ms) q

-- an atom of this text, where an annotation round it has level n
pub data IsAtom : ℕ → List Marked → List ℕ → List Marked → Type 0 where
  atom : {n : ℕ} {q : List Marked} (text : List ℕ) → IsAtom n (plain (t.Atom text) ∷ q) text q
  noted : {n : ℕ} {ms q r : List Marked} {text : List ℕ} → IsAtom (n + 1) ms text q → IsNote n q r
      → IsAtom n (at n (t.Symbol w.Open) ∷ ms) text r

-- a function's name of this text and these digits, where an annotation round it has level n
pub data IsName : ℕ → List Marked → List ℕ → List ℕ → List Marked → Type 0 where
  name : {n : ℕ} {q : List Marked} (text digits : List ℕ)
      → IsName n (plain (t.Atom text) ∷ symbol w.Slash ∷ arity digits ∷ q) text digits q
  noted : {n : ℕ} {ms q r : List Marked} {text digits : List ℕ} → IsName (n + 1) ms text digits q
      → IsNote n q r → IsName n (at n (t.Symbol w.Open) ∷ ms) text digits r

-- the value of an attribute: a constant of level n, or an annotation of that level round one
pub data IsAttributeValue : ℕ → List Marked → List Marked → Type 0 where
  unannotated : {n : ℕ} {ms q : List Marked} → IsConstant n ms q → IsAttributeValue n ms q
  noted : {n : ℕ} {ms q r : List Marked} → IsAttributeValue (n + 1) ms q → IsNote n q r
      → IsAttributeValue n (at n (t.Symbol w.Open) ∷ ms) r

-- attributes with commas between them, and the mark that closes them, where constants in them have
-- level n
mutual
  pub data AreAttributes : ℕ → Symbol → List Marked → List Marked → Type 0 where
    none : {n : ℕ} {close : Symbol} {q : List Marked} → AreAttributes n close (symbol close ∷ q) q
    some : {n : ℕ} {close : Symbol} {ms q r o : List Marked} {key : List ℕ}
        → IsAtom n ms key (symbol w.Equals ∷ q) → IsAttributeValue n q r
        → AreMoreAttributes n close r o → AreAttributes n close ms o

  pub data AreMoreAttributes : ℕ → Symbol → List Marked → List Marked → Type 0 where
    no_more : {n : ℕ} {close : Symbol} {q : List Marked} → AreMoreAttributes n close
        (symbol close ∷ q) q
    one_more : {n : ℕ} {close : Symbol} {ms q r o : List Marked} {key : List ℕ}
        → IsAtom n ms key (symbol w.Equals ∷ q) → IsAttributeValue n q r
        → AreMoreAttributes n close r o
        → AreMoreAttributes n close (symbol w.Comma ∷ ms) o
