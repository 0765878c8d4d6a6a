-- Counts that tell of each function of a letrec in a text how many such functions stand in its
-- body. This project's own.
use Rattle.std.specs.Prelude.{◌≡◌, ℕ, suc, ◌+◌, List, [], ◌∷◌}
use Rattle.hy_core.specs.Numbered.{function_count}
use Rattle.hy_core.specs.Syntax as s
use Rattle.hy_core.specs.Syntax.{Syntax, Syntaxes, NoSyntax, MoreSyntax, syntax_of}
use Rattle.hy_core.specs.Syntax.{Clauses, NoClauses, MoreClauses}
use Rattle.hy_core.specs.Syntax.{Definitions, NoDefinitions, MoreDefinitions}
use Rattle.hy_core.specs.declared.tree.Function.{Function}
use Rattle.hy_core.specs.declared.tree.Module.{Module}
use Rattle.lifted_syntax.specs.ExtractedSyntax.{count_module}
use Rattle.lifted_syntax.specs.LiftedSyntax.{count, count_all, count_clauses, count_definitions}
use Rattle.lifted_syntax.specs.LiftedSyntax.{reach_of}
use Rattle.letrec_names.specs.NestedCounts.{Counts, within, numbered, program_counts}

module _ (c : Counts) where
  -- n: the number of the first function of a letrec in the text
  abbrev mutual
    pub Gives : (n : ℕ) → Syntax → Type 0
    Gives n (s.Tuple site es) = GivesAll n es
    Gives n (s.ListOf site es e) = GivesAll n es × Gives (n + count_all es) e
    Gives n (s.Values es) = GivesAll n es
    Gives n (s.Let xs e b) = Gives n e × Gives (n + count e) b
    Gives n (s.Do e b) = Gives n e × Gives (n + count e) b
    Gives n (s.Case e cs) = Gives n e × GivesClauses (n + count e) cs
    Gives n (s.Letrec fs e) = GivesDefinitions n fs × Gives (n + count_definitions fs) e
    Gives n (s.Apply e es) = GivesAll n es
    Gives n (s.Call m f es) = GivesAll n es
    Gives n (s.Primop a es) = GivesAll n es
    Gives n (s.Receive cs t e) = GivesClauses n cs × Gives (n + count_clauses cs) e
    Gives n (s.Try e xs b ys d) = Gives n e
    Gives n _ = Unit

    pub GivesAll : (n : ℕ) → Syntaxes → Type 0
    GivesAll n NoSyntax = Unit
    GivesAll n (MoreSyntax e es) = Gives n e × GivesAll (n + count e) es

    pub GivesClauses : (n : ℕ) → Clauses → Type 0
    GivesClauses n NoClauses = Unit
    GivesClauses n (MoreClauses ps g b cs) =
        Gives n g × Gives (n + count g) b × GivesClauses (n + count g + count b) cs

    pub GivesDefinitions : (n : ℕ) → Definitions → Type 0
    GivesDefinitions n NoDefinitions = Unit
    GivesDefinitions n (MoreDefinitions f xs b fs) =
        (within c n ≡ count b) × Gives (suc n) b × GivesDefinitions (suc (n + count b)) fs

  abbrev pub GivesFunctions : (n : ℕ) → List Function → Type 0
  GivesFunctions n [] = Unit
  GivesFunctions n (f ∷ fs) =
      Gives n (syntax_of f.body) × GivesFunctions (n + count (syntax_of f.body)) fs

  abbrev pub GivesModules : (n : ℕ) → List Module → Type 0
  GivesModules n [] = Unit
  GivesModules n (m ∷ ms) =
      GivesFunctions n m.functions × GivesModules (n + count_module m.functions) ms

-- a program's own counts
abbrev pub CountsAreGiven : Type 0
CountsAreGiven = (ms : List Module) → GivesModules (program_counts ms) (function_count ms) ms

-- by which the functions of a letrec have their numbers
abbrev pub NumbersAreGiven : Type 0
NumbersAreGiven =
    (c : Counts) (n : ℕ) (fs : Definitions) → GivesDefinitions c n fs
    → numbered c n fs ≡ reach_of n fs
