-- Syntax with its letrecs lifted, as `lifted_program` lifts resolved trees: each applied name
-- becomes the number of the function that it names. This project's own.
use Rattle.std.specs.Prelude.{ℕ, suc, ◌+◌, List, [], ◌∷◌, ◌++◌, length, Option, Some, None}
use Rattle.hy_core.specs.Resolve.{Names, function_number, name_with}
use Rattle.hy_core.specs.Syntax as s
use Rattle.hy_core.specs.Syntax.{Syntax, Syntaxes, NoSyntax, MoreSyntax}
use Rattle.hy_core.specs.Syntax.{Clauses, NoClauses, MoreClauses, DefinitionSyntax}
use Rattle.hy_core.specs.Syntax.{Definitions, NoDefinitions, MoreDefinitions}
use Rattle.hy_core.specs.declared.tree.FunName.{FunName}
use Rattle.lifted_program.specs.LetrecNumbers.{Reach, number_in}

-- how many functions of letrecs stand in a text
abbrev mutual
  pub count : Syntax → ℕ
  count (s.Tuple site es) = count_all es
  count (s.ListOf site es e) = count_all es + count e
  count (s.Values es) = count_all es
  count (s.Let xs e b) = count e + count b
  count (s.Do e b) = count e + count b
  count (s.Case e cs) = count e + count_clauses cs
  count (s.Letrec fs e) = count_definitions fs + count e
  count (s.Apply e es) = count_all es
  count (s.Call m f es) = count_all es
  count (s.Primop a es) = count_all es
  count (s.Receive cs t e) = count_clauses cs + count e
  -- the guard form, which stands for its first part
  count (s.Try e xs b ys c) = count e
  count _ = 0

  pub count_all : Syntaxes → ℕ
  count_all NoSyntax = 0
  count_all (MoreSyntax e es) = count e + count_all es

  pub count_clauses : Clauses → ℕ
  count_clauses NoClauses = 0
  count_clauses (MoreClauses ps g b cs) = count g + (count b + count_clauses cs)

  pub count_definitions : Definitions → ℕ
  count_definitions NoDefinitions = 0
  count_definitions (MoreDefinitions f xs b fs) = suc (count b + count_definitions fs)

-- the functions of a letrec, of which the first has the number n
abbrev pub reach_of : (n : ℕ) → Definitions → Reach
reach_of n NoDefinitions = []
reach_of n (MoreDefinitions f xs b fs) = (f, n) ∷ reach_of (suc (n + count b)) fs

-- variables as arguments before others
abbrev pub passing : List ℕ → Syntaxes → Syntaxes
passing [] es = es
passing (x ∷ xs) es = MoreSyntax (s.Var x) (passing xs es)

-- names, current: the functions of the program, and the module of this one;
-- captured: the variables that each function of a letrec captures
module _ (names : Names) (current : ℕ) (captured : (function : ℕ) → List ℕ) where
  -- a call of the function of a letrec that has this number, or else of one of the module; it holds
  -- how many parameters that takes
  abbrev pub applied : FunName → (local top : Option ℕ) → Syntaxes → Syntax
  applied f (Some k) top es =
      s.Apply (s.Name (name_with k (length (captured k) + f.arity))) (passing (captured k) es)
  applied f None (Some k) es = s.Apply (s.Name (name_with k f.arity)) es
  applied f None None es = s.Name f

  abbrev mutual
    -- an expression with its letrecs lifted; n: the number of the first function of a letrec in it
    pub lifted : Reach → (n : ℕ) → Syntax → Syntax
    lifted reach n (s.Tuple site es) = s.Tuple site (lifted_all reach n es)
    lifted reach n (s.ListOf site es e) =
        s.ListOf site (lifted_all reach n es) (lifted reach (n + count_all es) e)
    lifted reach n (s.Values es) = s.Values (lifted_all reach n es)
    lifted reach n (s.Let xs e b) = s.Let xs (lifted reach n e) (lifted reach (n + count e) b)
    lifted reach n (s.Do e b) = s.Do (lifted reach n e) (lifted reach (n + count e) b)
    lifted reach n (s.Case e cs) =
        s.Case (lifted reach n e) (lifted_clauses reach (n + count e) cs)
    -- a letrec becomes its body
    lifted reach n (s.Letrec fs e) =
        lifted (reach_of n fs ++ reach) (n + count_definitions fs) e
    lifted reach n (s.Apply (s.Name f) es) =
        applied f (number_in reach f) (function_number names.functions current f)
        (lifted_all reach n es)
    lifted reach n (s.Call m f es) = s.Call m f (lifted_all reach n es)
    lifted reach n (s.Primop a es) = s.Primop a (lifted_all reach n es)
    lifted reach n (s.Receive cs t e) =
        s.Receive (lifted_clauses reach n cs) t (lifted reach (n + count_clauses cs) e)
    lifted reach n (s.Try e xs b ys c) = s.Try (lifted reach n e) xs b ys c
    lifted reach n e = e

    pub lifted_all : Reach → (n : ℕ) → Syntaxes → Syntaxes
    lifted_all reach n NoSyntax = NoSyntax
    lifted_all reach n (MoreSyntax e es) =
        MoreSyntax (lifted reach n e) (lifted_all reach (n + count e) es)

    pub lifted_clauses : Reach → (n : ℕ) → Clauses → Clauses
    lifted_clauses reach n NoClauses = NoClauses
    lifted_clauses reach n (MoreClauses ps g b cs) =
        MoreClauses ps (lifted reach n g) (lifted reach (n + count g) b)
        (lifted_clauses reach (n + count g + count b) cs)
