-- The facts of a program, gathered as the code does: the functions of a letrec have the numbers
-- that the counts give.
use Rattle.std.specs.Prelude.{ℕ, List, [], ◌∷◌, ◌++◌, length}
use Rattle.hy_core.specs.Syntax as s
use Rattle.hy_core.specs.Syntax.{Syntax, Syntaxes, NoSyntax, MoreSyntax, syntax_of}
use Rattle.hy_core.specs.Syntax.{Clauses, NoClauses, MoreClauses, ClauseSyntax}
use Rattle.hy_core.specs.Syntax.{Definitions, NoDefinitions, MoreDefinitions, DefinitionSyntax}
use Rattle.hy_core.specs.declared.tree.Function.{Function}
use Rattle.hy_core.specs.declared.tree.Module.{Module}
use Rattle.captured_facts.specs.Facts.{first_place, occurring, outermost}
use Rattle.captured_facts.specs.declared.owner.Owner.{Owner}
use Rattle.captured_syntax.specs.Gathered.{Gathering, noting, binding, matching, back_to, leaving}
use Rattle.captured_syntax.specs.Gathered.{beginning, begun, applying}
use Rattle.letrec_names.specs.NestedCounts.{Counts, numbered}

module _ (c : Counts) where
  abbrev pub entering_by : Gathering → Definitions → Gathering
  entering_by w fs = record w { around = numbered c w.next fs ++ w.around }

  abbrev mutual
    pub walked : Owner → Gathering → Syntax → Gathering
    walked o w (s.Var x) = noting w (occurring o x (first_place w.scope x))
    walked o w (s.Tuple site es) = walked_all o w es
    walked o w (s.ListOf site es e) = walked o (walked_all o w es) e
    walked o w (s.Values es) = walked_all o w es
    walked o w (s.Let xs e b) =
        let first = walked o w e in
        back_to (length first.scope) (walked o (binding first xs) b)
    walked o w (s.Do e b) = walked o (walked o w e) b
    walked o w (s.Case e cs) = walked_clauses o (walked o w e) cs
    walked o w (s.Letrec fs e) =
        leaving (length w.around) (walked o (walked_definitions o (entering_by w fs) fs) e)
    walked o w (s.Apply e es) = walked_all o (applying o w e) es
    walked o w (s.Call m f es) = walked_all o w es
    walked o w (s.Primop a es) = walked_all o w es
    walked o w (s.Receive cs t e) = walked o (walked_clauses o w cs) e
    walked o w (s.Try e xs b ys d) = walked o w e
    walked o w _ = w

    pub walked_all : Owner → Gathering → Syntaxes → Gathering
    walked_all o w NoSyntax = w
    walked_all o w (MoreSyntax e es) = walked_all o (walked o w e) es

    pub walked_clauses : Owner → Gathering → Clauses → Gathering
    walked_clauses o w NoClauses = w
    walked_clauses o w (MoreClauses ps g b cs) =
        walked_clauses o (back_to (length w.scope) (walked o (walked o (matching w ps) g) b)) cs

    pub walked_definitions : Owner → Gathering → Definitions → Gathering
    walked_definitions o w NoDefinitions = w
    walked_definitions o w (MoreDefinitions f xs b fs) =
        walked_definitions o
        (back_to (length w.scope) (walked (beginning w) (binding (begun o w) xs) b)) fs

  abbrev pub walked_bound : Owner → Gathering → List ℕ → Syntax → Gathering
  walked_bound o w xs b = back_to (length w.scope) (walked o (binding w xs) b)

  abbrev pub walked_clause : Owner → Gathering → ClauseSyntax → Gathering
  walked_clause o w d =
      back_to (length w.scope) (walked o (walked o (matching w d.patterns) d.guard) d.body)

  abbrev pub walked_definition : Owner → Gathering → DefinitionSyntax → Gathering
  walked_definition o w f = walked_bound (beginning w) (begun o w) f.parameters f.body

  -- the functions of modules
  abbrev pub walked_functions : Gathering → List Function → Gathering
  walked_functions w [] = w
  walked_functions w (f ∷ fs) =
      walked_functions (walked_bound outermost w f.params (syntax_of f.body)) fs

  abbrev pub walked_modules : Gathering → List Module → Gathering
  walked_modules w [] = w
  walked_modules w (m ∷ ms) = walked_modules (walked_functions w m.functions) ms

-- where nothing is bound
abbrev pub nothing_gathered : (next : ℕ) → Gathering
nothing_gathered n = record { scope = []; around = []; next = n; facts = [] }
