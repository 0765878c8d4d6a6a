-- Lifting as the code does it: what it looks up stands in tables, and the number of the next
-- function of a letrec goes from one part to the next.
use Rattle.std.specs.Prelude.{ℕ, suc, ◌+◌, List, ◌++◌, length, Option, Some, None}
use Rattle.hy_core.specs.Resolve.{name_with}
use Rattle.hy_core.specs.Syntax as s
use Rattle.hy_core.specs.Syntax.{Syntax, Syntaxes, NoSyntax, MoreSyntax}
use Rattle.hy_core.specs.Syntax.{Clauses, NoClauses, MoreClauses, ClauseSyntax}
use Rattle.hy_core.specs.Syntax.{Definitions, NoDefinitions, MoreDefinitions}
use Rattle.hy_core.specs.declared.tree.FunName.{FunName}
use Rattle.letrec_names.specs.NestedCounts.{Counts, numbered, within}
use Rattle.lifted_functions.specs.code.CapturedLists.{captured_at}
use Rattle.lifted_functions.specs.code.FunctionNumbers.{number_at}
use Rattle.lifted_functions.specs.declared.tables.Tables.{Tables}
use Rattle.lifted_program.specs.LetrecNumbers.{Reach, number_in}
use Rattle.lifted_syntax.specs.LiftedSyntax.{passing}

-- the number behind the functions of a letrec, of which the first has the number n
abbrev pub number_behind : Counts → (n : ℕ) → Definitions → ℕ
number_behind counts n NoDefinitions = n
number_behind counts n (MoreDefinitions f xs b fs) =
    number_behind counts (suc (n + within counts n)) fs

-- the number behind an expression; the functions of letrecs are passed over
module _ (counts : Counts) where
  abbrev mutual
    pub next_by : (n : ℕ) → Syntax → ℕ
    next_by n (s.Tuple site es) = next_all n es
    next_by n (s.ListOf site es e) = next_by (next_all n es) e
    next_by n (s.Values es) = next_all n es
    next_by n (s.Let xs e b) = next_by (next_by n e) b
    next_by n (s.Do e b) = next_by (next_by n e) b
    next_by n (s.Case e cs) = next_clauses (next_by n e) cs
    next_by n (s.Letrec fs e) = next_by (number_behind counts n fs) e
    next_by n (s.Apply e es) = next_all n es
    next_by n (s.Call m f es) = next_all n es
    next_by n (s.Primop a es) = next_all n es
    next_by n (s.Receive cs t e) = next_by (next_clauses n cs) e
    next_by n (s.Try e xs b ys c) = next_by n e
    next_by n _ = n

    pub next_all : (n : ℕ) → Syntaxes → ℕ
    next_all n NoSyntax = n
    next_all n (MoreSyntax e es) = next_all (next_by n e) es

    pub next_clauses : (n : ℕ) → Clauses → ℕ
    next_clauses n NoClauses = n
    next_clauses n (MoreClauses ps g b cs) = next_clauses (next_by (next_by n g) b) cs

  abbrev pub next_clause : (n : ℕ) → ClauseSyntax → ℕ
  next_clause n c = next_by (next_by n c.guard) c.body

-- a call of the function of a letrec that has this number, or else of one of the module
abbrev pub applied_by : (captured : (function : ℕ) → List ℕ) → FunName → (local top : Option ℕ)
    → Syntaxes → Syntax
applied_by captured f (Some k) top es =
    s.Apply (s.Name (name_with k (length (captured k) + f.arity))) (passing (captured k) es)
applied_by captured f None (Some k) es = s.Apply (s.Name (name_with k f.arity)) es
applied_by captured f None None es = s.Name f

module _ (t : Tables) (current : ℕ) where
  abbrev mutual
    pub lifted_by : Reach → (n : ℕ) → Syntax → Syntax
    lifted_by reach n (s.Tuple site es) = s.Tuple site (lifted_all_by reach n es)
    lifted_by reach n (s.ListOf site es e) =
        s.ListOf site (lifted_all_by reach n es) (lifted_by reach (next_all t.counts n es) e)
    lifted_by reach n (s.Values es) = s.Values (lifted_all_by reach n es)
    lifted_by reach n (s.Let xs e b) =
        s.Let xs (lifted_by reach n e) (lifted_by reach (next_by t.counts n e) b)
    lifted_by reach n (s.Do e b) =
        s.Do (lifted_by reach n e) (lifted_by reach (next_by t.counts n e) b)
    lifted_by reach n (s.Case e cs) =
        s.Case (lifted_by reach n e) (lifted_clauses_by reach (next_by t.counts n e) cs)
    lifted_by reach n (s.Letrec fs e) =
        lifted_by (numbered t.counts n fs ++ reach) (number_behind t.counts n fs) e
    lifted_by reach n (s.Apply (s.Name f) es) =
        applied_by (captured_at t.captured) f (number_in reach f)
        (number_at t.functions current f) (lifted_all_by reach n es)
    lifted_by reach n (s.Call m f es) = s.Call m f (lifted_all_by reach n es)
    lifted_by reach n (s.Primop a es) = s.Primop a (lifted_all_by reach n es)
    lifted_by reach n (s.Receive cs time e) =
        s.Receive (lifted_clauses_by reach n cs) time
        (lifted_by reach (next_clauses t.counts n cs) e)
    lifted_by reach n (s.Try e xs b ys c) = s.Try (lifted_by reach n e) xs b ys c
    lifted_by reach n e = e

    pub lifted_all_by : Reach → (n : ℕ) → Syntaxes → Syntaxes
    lifted_all_by reach n NoSyntax = NoSyntax
    lifted_all_by reach n (MoreSyntax e es) =
        MoreSyntax (lifted_by reach n e) (lifted_all_by reach (next_by t.counts n e) es)

    pub lifted_clauses_by : Reach → (n : ℕ) → Clauses → Clauses
    lifted_clauses_by reach n NoClauses = NoClauses
    lifted_clauses_by reach n (MoreClauses ps g b cs) =
        let between = next_by t.counts n g in
        MoreClauses ps (lifted_by reach n g) (lifted_by reach between b)
        (lifted_clauses_by reach (next_by t.counts between b) cs)

  abbrev pub lifted_clause_by : Reach → (n : ℕ) → ClauseSyntax → ClauseSyntax
  lifted_clause_by reach n c = record {
    patterns = c.patterns;
    guard = lifted_by reach n c.guard;
    body = lifted_by reach (next_by t.counts n c.guard) c.body;
  }
