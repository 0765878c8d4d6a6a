-- The facts of a program, gathered one part of its syntax after another. This project's own.
use Rattle.std.specs.Prelude.{ℕ, suc, ◌-◌, List, [], ◌∷◌, ◌++◌, length, drop}
use Rattle.hy_core.specs.Numbered.{function_count}
use Rattle.hy_core.specs.Resolved.{Patterns}
use Rattle.hy_core.specs.Scopes.{Scope, with_variables, with_patterns}
use Rattle.hy_core.specs.Syntax as s
use Rattle.hy_core.specs.Syntax.{Syntax, Syntaxes, NoSyntax, MoreSyntax, syntax_of}
use Rattle.hy_core.specs.Syntax.{Clauses, NoClauses, MoreClauses}
use Rattle.hy_core.specs.Syntax.{Definitions, NoDefinitions, MoreDefinitions}
use Rattle.hy_core.specs.declared.tree.Function.{Function}
use Rattle.hy_core.specs.declared.tree.FunName.{FunName}
use Rattle.hy_core.specs.declared.tree.Module.{Module}
use Rattle.capture_flow.specs.declared.fact.Fact.{Fact}
use Rattle.lifted_program.specs.LetrecNumbers.{Reach, number_in}
use Rattle.lifted_syntax.specs.LiftedSyntax.{reach_of}
use Rattle.captured_facts.specs.Facts.{first_place, occurring, using, using_some, outermost}
use Rattle.captured_facts.specs.declared.owner.Owner.{Owner}

-- what is gathered so far: the variables in scope and the functions of letrecs around the place that
-- is reached, the number of the next such function, and the facts
pub record Gathering : Type 0 where
  pub scope : Scope
  pub around : Reach
  pub next : ℕ
  pub facts : List Fact

abbrev pub noting : Gathering → List Fact → Gathering
noting w fs = record w { facts = w.facts ++ fs }

-- with variables, or those of patterns, in scope; and with as many in scope as there were
abbrev pub binding : Gathering → List ℕ → Gathering
binding w xs = record w { scope = with_variables w.scope xs }

abbrev pub matching : Gathering → Patterns → Gathering
matching w ps = record w { scope = with_patterns w.scope ps }

abbrev pub back_to : (depth : ℕ) → Gathering → Gathering
back_to depth w = record w { scope = drop (length w.scope - depth) w.scope }

-- with the functions of a letrec around; and with as many around as there were
abbrev pub entering : Gathering → Definitions → Gathering
entering w fs = record w { around = reach_of w.next fs ++ w.around }

abbrev pub leaving : (height : ℕ) → Gathering → Gathering
leaving height w = record w { around = drop (length w.around - height) w.around }

-- the function whose definition begins here
abbrev pub beginning : Gathering → Owner
beginning w = record { function = w.next; depth = length w.scope }

-- its definition has begun, in the text of another one
abbrev pub begun : Owner → Gathering → Gathering
begun o w = record w { next = suc w.next; facts = w.facts ++ using o w.next }

abbrev pub applying_name : Owner → Gathering → FunName → Gathering
applying_name o w f = noting w (using_some o (number_in w.around f))

abbrev pub applying : Owner → Gathering → Syntax → Gathering
applying o w (s.Name f) = applying_name o w f
applying o w _ = w

abbrev mutual
  pub gathered : Owner → Gathering → Syntax → Gathering
  gathered o w (s.Var x) = noting w (occurring o x (first_place w.scope x))
  gathered o w (s.Tuple site es) = gathered_all o w es
  gathered o w (s.ListOf site es e) = gathered o (gathered_all o w es) e
  gathered o w (s.Values es) = gathered_all o w es
  gathered o w (s.Let xs e b) =
      let first = gathered o w e in
      back_to (length first.scope) (gathered o (binding first xs) b)
  gathered o w (s.Do e b) = gathered o (gathered o w e) b
  gathered o w (s.Case e cs) = gathered_clauses o (gathered o w e) cs
  gathered o w (s.Letrec fs e) =
      leaving (length w.around) (gathered o (gathered_definitions o (entering w fs) fs) e)
  gathered o w (s.Apply e es) = gathered_all o (applying o w e) es
  gathered o w (s.Call m f es) = gathered_all o w es
  gathered o w (s.Primop a es) = gathered_all o w es
  gathered o w (s.Receive cs t e) = gathered o (gathered_clauses o w cs) e
  gathered o w (s.Try e xs b ys c) = gathered o w e
  gathered o w _ = w

  pub gathered_all : Owner → Gathering → Syntaxes → Gathering
  gathered_all o w NoSyntax = w
  gathered_all o w (MoreSyntax e es) = gathered_all o (gathered o w e) es

  pub gathered_clauses : Owner → Gathering → Clauses → Gathering
  gathered_clauses o w NoClauses = w
  gathered_clauses o w (MoreClauses ps g b cs) =
      gathered_clauses o
      (back_to (length w.scope) (gathered o (gathered o (matching w ps) g) b)) cs

  pub gathered_definitions : Owner → Gathering → Definitions → Gathering
  gathered_definitions o w NoDefinitions = w
  gathered_definitions o w (MoreDefinitions f xs b fs) =
      gathered_definitions o
      (back_to (length w.scope) (gathered (beginning w) (binding (begun o w) xs) b)) fs

abbrev pub gathered_bound : Owner → Gathering → List ℕ → Syntax → Gathering
gathered_bound o w xs b = back_to (length w.scope) (gathered o (binding w xs) b)

-- the functions of modules
abbrev pub gathered_function : Gathering → Function → Gathering
gathered_function w f = gathered_bound outermost w f.params (syntax_of f.body)

abbrev pub each_gathered : {A : Type 0} → (Gathering → A → Gathering) → Gathering → List A
    → Gathering
each_gathered step w [] = w
each_gathered step w (x ∷ xs) = each_gathered step (step w x) xs

abbrev pub gathered_module : Gathering → Module → Gathering
gathered_module w m = each_gathered gathered_function w m.functions

abbrev pub gathered_modules : Gathering → List Module → Gathering
gathered_modules = each_gathered gathered_module

-- from where nothing is bound
abbrev pub program_facts : List Module → List Fact
program_facts ms =
    (gathered_modules
    (record { scope = []; around = []; next = function_count ms; facts = [] }) ms).facts
