-- A program in which no binding stands in the scope of another of its variable: a variable whose
-- name is in scope already gets a name that isn't, and every other keeps its own. This project's
-- own.
use Rattle.std.specs.Prelude.{ℕ, ◌+◌, ◌==◌, ◌||◌, nat_le, List, [], ◌∷◌, length, map}
use Rattle.std.specs.Prelude.{Option, Some, None, unwrap_or, if◌then◌else◌}
use Rattle.hy_core.specs.Resolved as r
use Rattle.hy_core.specs.Resolved.{Pattern, Patterns, NoPatterns, MorePatterns, FunctionTree}
use Rattle.hy_core.specs.Resolved.{Expression, Expressions, NoExpressions, MoreExpressions}
use Rattle.hy_core.specs.Resolved.{Clauses, NoClauses, MoreClauses}
use Rattle.hy_core.specs.Resolved.{Functions, NoFunctions, MoreFunctions}
use Rattle.hy_core.specs.Scopes.{Scope, is_bound, with_variables, with_pattern, with_patterns}

-- limit: the names from here on are no variables of the source
module _ (limit : ℕ) where
  -- a name that no binding in scope has
  abbrev pub new_name : Scope → ℕ
  new_name scope = limit + length scope

  -- the name of a variable that is bound here: its own, unless it is in scope already
  abbrev pub name_for : Scope → ℕ → ℕ
  name_for scope x = if is_bound x scope || nat_le limit x then new_name scope else x

  -- the name of a variable in scope, by its innermost binding
  abbrev pub name_in : Scope → ℕ → Option ℕ
  name_in [] x = None
  name_in (y ∷ scope) x = if x == y then Some (name_for scope y) else name_in scope x

  -- a variable that isn't in scope isn't in scope under its name
  abbrev pub name_of : Scope → ℕ → ℕ
  name_of scope x = unwrap_or (name_in scope x) (new_name scope)

  -- the names of variables that are bound here, one after another
  abbrev pub names_for : Scope → List ℕ → List ℕ
  names_for scope [] = []
  names_for scope (x ∷ xs) = name_for scope x ∷ names_for (x ∷ scope) xs

  abbrev mutual
    pub renamed_pattern : Scope → Pattern → Pattern
    renamed_pattern scope (r.AnyTerm x) = r.AnyTerm (name_for scope x)
    renamed_pattern scope (r.TheInt n) = r.TheInt n
    renamed_pattern scope (r.TheAtom a) = r.TheAtom a
    renamed_pattern scope r.TheNil = r.TheNil
    renamed_pattern scope (r.TheText s) = r.TheText s
    renamed_pattern scope (r.TheTuple ps) = r.TheTuple (renamed_patterns scope ps)
    renamed_pattern scope (r.TheList ps p) =
        r.TheList (renamed_patterns scope ps) (renamed_pattern (with_patterns scope ps) p)
    renamed_pattern scope (r.Alias x p) =
        r.Alias (name_for scope x) (renamed_pattern (x ∷ scope) p)

    pub renamed_patterns : Scope → Patterns → Patterns
    renamed_patterns scope NoPatterns = NoPatterns
    renamed_patterns scope (MorePatterns p ps) =
        MorePatterns (renamed_pattern scope p) (renamed_patterns (with_pattern scope p) ps)

  abbrev mutual
    pub renamed : Scope → Expression → Expression
    renamed scope (r.Int n) = r.Int n
    renamed scope (r.Atom a) = r.Atom a
    renamed scope r.Nil = r.Nil
    renamed scope (r.Text site s) = r.Text site s
    renamed scope (r.Variable x) = r.Variable (name_of scope x)
    renamed scope (r.Tuple site es) = r.Tuple site (renamed_all scope es)
    renamed scope (r.ListOf site es e) = r.ListOf site (renamed_all scope es) (renamed scope e)
    renamed scope (r.Values es) = r.Values (renamed_all scope es)
    renamed scope (r.Let xs e b) =
        r.Let (names_for scope xs) (renamed scope e) (renamed (with_variables scope xs) b)
    renamed scope (r.Do e b) = r.Do (renamed scope e) (renamed scope b)
    renamed scope (r.Case e cs) = r.Case (renamed scope e) (renamed_clauses scope cs)
    renamed scope (r.Letrec fs e) = r.Letrec (renamed_functions scope fs) (renamed scope e)
    renamed scope (r.Call head es) = r.Call head (renamed_all scope es)
    renamed scope (r.Receive cs timeout e) =
        r.Receive (renamed_clauses scope cs) timeout (renamed scope e)
    renamed scope r.Refused = r.Refused

    pub renamed_all : Scope → Expressions → Expressions
    renamed_all scope NoExpressions = NoExpressions
    renamed_all scope (MoreExpressions e es) =
        MoreExpressions (renamed scope e) (renamed_all scope es)

    pub renamed_clauses : Scope → Clauses → Clauses
    renamed_clauses scope NoClauses = NoClauses
    renamed_clauses scope (MoreClauses ps g b cs) =
        let inside = with_patterns scope ps in
        MoreClauses (renamed_patterns scope ps) (renamed inside g) (renamed inside b)
        (renamed_clauses scope cs)

    -- the parameters of a function are bound in the scope of its letrec
    pub renamed_functions : Scope → Functions → Functions
    renamed_functions scope NoFunctions = NoFunctions
    renamed_functions scope (MoreFunctions f xs b fs) =
        MoreFunctions f (names_for scope xs) (renamed (with_variables scope xs) b)
        (renamed_functions scope fs)

  abbrev pub renamed_function : Scope → FunctionTree → FunctionTree
  renamed_function scope f = record {
    parameters = names_for scope f.parameters;
    body = renamed (with_variables scope f.parameters) f.body;
  }

  abbrev pub renamed_program : List FunctionTree → List FunctionTree
  renamed_program = map (renamed_function [])
