-- Expressions in which each call says what it calls: what evaluation reads. They come from the
-- trees of the sources and from lifted trees alike. The forms are those of the Core Erlang 1.0.3
-- report.
use Rattle.std.specs.Prelude.{ℕ, ◌==◌, ◌&&◌, List, ℤ, Bool}
use Rattle.hy_core.specs.declared.bif.Bif.{Bif}
use Rattle.hy_core.specs.declared.class.Class.{Class}
use Rattle.hy_core.specs.declared.tree.FunName.{FunName}

mutual
  pub data Pattern : Type 0 where
    AnyTerm : (variable : ℕ) → Pattern
    TheInt : ℤ → Pattern
    TheAtom : ℕ → Pattern
    TheNil : Pattern
    TheText : List ℕ → Pattern
    TheTuple : Patterns → Pattern
    TheList : (heads : Patterns) → (tail : Pattern) → Pattern
    Alias : (variable : ℕ) → Pattern → Pattern

  pub data Patterns : Type 0 where
    NoPatterns : Patterns
    MorePatterns : Pattern → Patterns → Patterns

-- what a call calls. Nodes and sites are the numbers of events and of places that build.
pub data Head : Type 0 where
  BuiltIn : Bif → Head
  Function : (function : ℕ) → Head
  -- of the innermost letrec around the call that defines this name
  Local : FunName → Head
  Setelement : (site : ℕ) → Head
  Send : (node : ℕ) → Head
  Spawn : (node function : ℕ) → Head
  Display : (node : ℕ) → Head
  -- error, exit and throw
  Raising : Class → Head
  MatchFail : Head

-- the two timeouts of the subset: 0 and 'infinity'
pub data Timeout : Type 0 where
  AtOnce : Timeout
  Never : Timeout

mutual
  pub data Expression : Type 0 where
    Int : ℤ → Expression
    Atom : ℕ → Expression
    Nil : Expression
    Text : (site : ℕ) → List ℕ → Expression
    Variable : ℕ → Expression
    Tuple : (site : ℕ) → Expressions → Expression
    -- the site of the first head; each further head has the next
    ListOf : (site : ℕ) → (heads : Expressions) → (tail : Expression) → Expression
    Values : Expressions → Expression
    Let : (variables : List ℕ) → (value body : Expression) → Expression
    Do : (first second : Expression) → Expression
    Case : (value : Expression) → Clauses → Expression
    Letrec : Functions → (body : Expression) → Expression
    Call : Head → (arguments : Expressions) → Expression
    Receive : Clauses → Timeout → (lapse : Expression) → Expression
    -- a form outside the subset, or a call of nothing
    Refused : Expression

  pub data Expressions : Type 0 where
    NoExpressions : Expressions
    MoreExpressions : Expression → Expressions → Expressions

  pub data Clauses : Type 0 where
    NoClauses : Clauses
    MoreClauses : Patterns → (guard body : Expression) → Clauses → Clauses

  pub data Functions : Type 0 where
    NoFunctions : Functions
    MoreFunctions : FunName → (parameters : List ℕ) → (body : Expression) → Functions → Functions

-- a function of a program: its parameters and its body
pub record FunctionTree : Type 0 where
  pub parameters : List ℕ
  pub body : Expression

abbrev pub is_name : FunName → FunName → Bool
is_name f g = (f.name == g.name) && (f.arity == g.arity)
