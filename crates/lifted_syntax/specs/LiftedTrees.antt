-- Expressions of lifted syntax: an applied name holds the number of the function. Otherwise they
-- are
-- resolved as those of sources are. This project's own.
use Rattle.std.specs.Prelude.{ℕ, if◌then◌else◌}
use Rattle.hy_terms.specs.Naming.{text_of}
use Rattle.hy_core.specs.Resolve.{Names, call_of, erlang_operation, function_called, is_guard_form}
use Rattle.hy_core.specs.Resolve.{is_match_fail, named_call, received, spawn_head, timeout_of}
use Rattle.hy_core.specs.Resolved as r
use Rattle.hy_core.specs.Resolved.{Expression, Expressions, NoExpressions, MoreExpressions}
use Rattle.hy_core.specs.Syntax as s
use Rattle.hy_core.specs.Syntax.{Syntax, Syntaxes, NoSyntax, MoreSyntax, count}

-- A lifted body applies no name of its module, so that it can be read as one of any module.
abbrev any : ℕ
any = 0

module _ (names : Names) where
  -- all numbers of events and sites are 0
  abbrev mutual
    pub plain : Syntax → Expression
    plain (s.Int n) = r.Int n
    plain (s.Atom a) = r.Atom a
    plain s.Nil = r.Nil
    plain (s.Str text) = r.Text 0 text
    plain (s.Var x) = r.Variable x
    plain (s.Tuple site es) = r.Tuple 0 (plain_all es)
    plain (s.ListOf site es e) = r.ListOf 0 (plain_all es) (plain e)
    plain (s.Values es) = r.Values (plain_all es)
    plain (s.Let xs e b) = r.Let xs (plain e) (plain b)
    plain (s.Do e b) = r.Do (plain e) (plain b)
    plain (s.Case e cs) = r.Case (plain e) (plain_clauses cs)
    plain (s.Apply (s.Name f) es) = r.Call (r.Function f.name) (plain_all es)
    plain (s.Call (s.Atom m) (s.Atom f) es) =
        named_call names any m f (count es) (erlang_operation names any m f (count es))
        (plain_all es) (plain_spawn es)
    plain (s.Primop a es) =
        if is_match_fail (text_of names.atoms a) (count es)
        then r.Call r.MatchFail (plain_all es)
        else r.Refused
    plain (s.Receive cs t e) = received (plain_clauses cs) (timeout_of names any t) (plain e)
    plain _ = r.Refused

    pub plain_all : Syntaxes → Expressions
    plain_all NoSyntax = NoExpressions
    plain_all (MoreSyntax e es) = MoreExpressions (plain e) (plain_all es)

    pub plain_spawn : Syntaxes → Expression
    plain_spawn (MoreSyntax (s.Atom m) (MoreSyntax (s.Atom f) (MoreSyntax s.Nil NoSyntax))) =
        call_of (spawn_head (function_called names any m f 0)) NoExpressions
    plain_spawn
        (MoreSyntax (s.Atom m)
        (MoreSyntax (s.Atom f) (MoreSyntax (s.ListOf site es s.Nil) NoSyntax))) =
        call_of (spawn_head (function_called names any m f (count es))) (plain_all es)
    plain_spawn _ = r.Refused

    pub plain_guard : Syntax → Expression → Expression
    plain_guard (s.Try e xs (s.Var x) ys (s.Atom a)) otherwise =
        if is_guard_form names any xs x ys a then plain e else otherwise
    plain_guard guard otherwise = otherwise

    pub plain_clauses : s.Clauses → r.Clauses
    plain_clauses s.NoClauses = r.NoClauses
    plain_clauses (s.MoreClauses ps g b cs) =
        r.MoreClauses ps (plain_guard g (plain g)) (plain b) (plain_clauses cs)
