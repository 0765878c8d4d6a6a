-- The functions of letrecs as functions of the program, in syntax; and a whole program lifted. This
-- project's own.
use Rattle.std.specs.Prelude.{ℕ, suc, ◌+◌, List, [], ◌∷◌, ◌++◌}
use Rattle.hy_core.specs.Numbered.{function_count}
use Rattle.hy_core.specs.Resolve.{Names}
use Rattle.hy_core.specs.Resolved.{FunctionTree}
use Rattle.hy_core.specs.Syntax as s
use Rattle.hy_core.specs.Syntax.{Syntax, Syntaxes, NoSyntax, MoreSyntax, syntax_of}
use Rattle.hy_core.specs.Syntax.{Clauses, NoClauses, MoreClauses}
use Rattle.hy_core.specs.Syntax.{Definitions, NoDefinitions, MoreDefinitions}
use Rattle.hy_core.specs.declared.tree.Function.{Function}
use Rattle.hy_core.specs.declared.tree.Module.{Module}
use Rattle.lifted_program.specs.LetrecNumbers.{Reach}
use Rattle.lifted_syntax.specs.LiftedSyntax.{count, count_all, count_clauses, count_definitions}
use Rattle.lifted_syntax.specs.LiftedSyntax.{reach_of, lifted}
use Rattle.lifted_syntax.specs.LiftedTrees.{plain}

-- a function of a lifted program
pub record FunctionSyntax : Type 0 where
  pub parameters : List ℕ
  pub body : Syntax

module _ (names : Names) (current : ℕ) (captured : (function : ℕ) → List ℕ) where
  abbrev mutual
    -- the functions of letrecs in an expression, in the order of their numbers
    pub extracted : Reach → (n : ℕ) → Syntax → List FunctionSyntax
    extracted reach n (s.Tuple site es) = extracted_all reach n es
    extracted reach n (s.ListOf site es e) =
        extracted_all reach n es ++ extracted reach (n + count_all es) e
    extracted reach n (s.Values es) = extracted_all reach n es
    extracted reach n (s.Let xs e b) = extracted reach n e ++ extracted reach (n + count e) b
    extracted reach n (s.Do e b) = extracted reach n e ++ extracted reach (n + count e) b
    extracted reach n (s.Case e cs) =
        extracted reach n e ++ extracted_clauses reach (n + count e) cs
    extracted reach n (s.Letrec fs e) =
        let inside = reach_of n fs ++ reach in
        extracted_functions inside n fs ++ extracted inside (n + count_definitions fs) e
    extracted reach n (s.Apply e es) = extracted_all reach n es
    extracted reach n (s.Call m f es) = extracted_all reach n es
    extracted reach n (s.Primop a es) = extracted_all reach n es
    extracted reach n (s.Receive cs t e) =
        extracted_clauses reach n cs ++ extracted reach (n + count_clauses cs) e
    extracted reach n (s.Try e xs b ys c) = extracted reach n e
    extracted reach n _ = []

    pub extracted_all : Reach → (n : ℕ) → Syntaxes → List FunctionSyntax
    extracted_all reach n NoSyntax = []
    extracted_all reach n (MoreSyntax e es) =
        extracted reach n e ++ extracted_all reach (n + count e) es

    pub extracted_clauses : Reach → (n : ℕ) → Clauses → List FunctionSyntax
    extracted_clauses reach n NoClauses = []
    extracted_clauses reach n (MoreClauses ps g b cs) =
        extracted reach n g
        ++ (extracted reach (n + count g) b
        ++ extracted_clauses reach (n + count g + count b) cs)

    -- what a function captured comes before its parameters
    pub extracted_functions : Reach → (n : ℕ) → Definitions → List FunctionSyntax
    extracted_functions reach n NoDefinitions = []
    extracted_functions reach n (MoreDefinitions f xs b fs) =
        record {
          parameters = captured n ++ xs;
          body = lifted names current captured reach (suc n) b;
        }
        ∷ (extracted reach (suc n) b ++ extracted_functions reach (suc (n + count b)) fs)

  -- the functions of a module, n: the number of the first function of a letrec in them
  abbrev pub lifted_functions : (n : ℕ) → List Function → List FunctionSyntax
  lifted_functions n [] = []
  lifted_functions n (f ∷ fs) =
      record {
        parameters = f.params;
        body = lifted names current captured [] n (syntax_of f.body);
      }
      ∷ lifted_functions (n + count (syntax_of f.body)) fs

  -- and the functions of letrecs in them
  abbrev pub extracted_module : (n : ℕ) → List Function → List FunctionSyntax
  extracted_module n [] = []
  extracted_module n (f ∷ fs) =
      extracted [] n (syntax_of f.body) ++ extracted_module (n + count (syntax_of f.body)) fs

abbrev pub count_module : List Function → ℕ
count_module [] = 0
count_module (f ∷ fs) = count (syntax_of f.body) + count_module fs

module _ (names : Names) (captured : (function : ℕ) → List ℕ) where
  abbrev pub lifted_tops : (n : ℕ) → List Module → List FunctionSyntax
  lifted_tops n [] = []
  lifted_tops n (m ∷ ms) =
      lifted_functions names m.name captured n m.functions
      ++ lifted_tops (n + count_module m.functions) ms

  abbrev pub extracted_program : (n : ℕ) → List Module → List FunctionSyntax
  extracted_program n [] = []
  extracted_program n (m ∷ ms) =
      extracted_module names m.name captured n m.functions
      ++ extracted_program (n + count_module m.functions) ms

  -- the functions of a lifted program: those of modules, and then those of letrecs
  abbrev pub lifted_program : List Module → List FunctionSyntax
  lifted_program ms =
      lifted_tops (function_count ms) ms ++ extracted_program (function_count ms) ms

-- the tree of a function of a lifted program, with all numbers of events and sites 0
abbrev pub plain_function : Names → FunctionSyntax → FunctionTree
plain_function names f = record { parameters = f.parameters; body = plain names f.body }
