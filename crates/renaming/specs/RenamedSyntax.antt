-- Syntax with its variables renamed, as `lifted_program` renames resolved trees. The numbers that
-- the trees carry stay. This project's own.
use Rattle.std.specs.Prelude.{ℕ, map}
use Rattle.hy_core.specs.Scopes.{Scope, with_variables, with_patterns}
use Rattle.hy_core.specs.Syntax as s
use Rattle.hy_core.specs.Syntax.{Syntax, Syntaxes, NoSyntax, MoreSyntax}
use Rattle.hy_core.specs.Syntax.{Clauses, NoClauses, MoreClauses, ClauseSyntax}
use Rattle.hy_core.specs.Syntax.{Definitions, NoDefinitions, MoreDefinitions, DefinitionSyntax}
use Rattle.hy_core.specs.Syntax.{syntax_of, pattern_of, patterns_of}
use Rattle.hy_core.specs.declared.tree.Clause.{Clause}
use Rattle.hy_core.specs.declared.tree.Function.{Function}
use Rattle.lifted_program.specs.Renaming.{name_of, names_for, renamed_patterns}

-- the syntax of a clause, and of a function
abbrev pub clause_syntax : Clause → ClauseSyntax
clause_syntax c = record {
  patterns = patterns_of (map pattern_of c.patterns);
  guard = syntax_of c.guard;
  body = syntax_of c.body;
}

abbrev pub function_syntax : Function → DefinitionSyntax
function_syntax f = record { name = f.name; parameters = f.params; body = syntax_of f.body }

-- limit: the names from here on are no variables of the source
module _ (limit : ℕ) where
  abbrev mutual
    pub renamed_syntax : Scope → Syntax → Syntax
    renamed_syntax scope (s.Int n) = s.Int n
    renamed_syntax scope (s.Atom a) = s.Atom a
    renamed_syntax scope s.Nil = s.Nil
    renamed_syntax scope (s.Str text) = s.Str text
    renamed_syntax scope (s.Var x) = s.Var (name_of limit scope x)
    renamed_syntax scope (s.Name f) = s.Name f
    renamed_syntax scope (s.Tuple site parts) = s.Tuple site (renamed_syntaxes scope parts)
    renamed_syntax scope (s.ListOf site heads tail) =
        s.ListOf site (renamed_syntaxes scope heads) (renamed_syntax scope tail)
    renamed_syntax scope (s.Values parts) = s.Values (renamed_syntaxes scope parts)
    renamed_syntax scope (s.Let xs value body) =
        s.Let (names_for limit scope xs) (renamed_syntax scope value)
        (renamed_syntax (with_variables scope xs) body)
    renamed_syntax scope (s.Do first second) =
        s.Do (renamed_syntax scope first) (renamed_syntax scope second)
    renamed_syntax scope (s.Case value clauses) =
        s.Case (renamed_syntax scope value) (renamed_clauses scope clauses)
    renamed_syntax scope (s.Letrec functions body) =
        s.Letrec (renamed_definitions scope functions) (renamed_syntax scope body)
    renamed_syntax scope (s.Apply what args) =
        s.Apply (renamed_syntax scope what) (renamed_syntaxes scope args)
    renamed_syntax scope (s.Call m f args) =
        s.Call (renamed_syntax scope m) (renamed_syntax scope f) (renamed_syntaxes scope args)
    renamed_syntax scope (s.Primop name args) = s.Primop name (renamed_syntaxes scope args)
    renamed_syntax scope (s.Receive clauses timeout body) =
        s.Receive (renamed_clauses scope clauses) (renamed_syntax scope timeout)
        (renamed_syntax scope body)
    renamed_syntax scope (s.Try value xs body ys catch_body) =
        s.Try (renamed_syntax scope value)
        (names_for limit scope xs) (renamed_syntax (with_variables scope xs) body)
        (names_for limit scope ys) (renamed_syntax (with_variables scope ys) catch_body)
    renamed_syntax scope (s.Catch body) = s.Catch (renamed_syntax scope body)
    renamed_syntax scope (s.Fun xs body) =
        s.Fun (names_for limit scope xs) (renamed_syntax (with_variables scope xs) body)

    pub renamed_syntaxes : Scope → Syntaxes → Syntaxes
    renamed_syntaxes scope NoSyntax = NoSyntax
    renamed_syntaxes scope (MoreSyntax e es) =
        MoreSyntax (renamed_syntax scope e) (renamed_syntaxes scope es)

    pub renamed_clauses : Scope → Clauses → Clauses
    renamed_clauses scope NoClauses = NoClauses
    renamed_clauses scope (MoreClauses ps guard body cs) =
        let inside = with_patterns scope ps in
        MoreClauses (renamed_patterns limit scope ps) (renamed_syntax inside guard)
        (renamed_syntax inside body) (renamed_clauses scope cs)

    -- the parameters of a function are bound in the scope of its letrec
    pub renamed_definitions : Scope → Definitions → Definitions
    renamed_definitions scope NoDefinitions = NoDefinitions
    renamed_definitions scope (MoreDefinitions f xs body fs) =
        MoreDefinitions f (names_for limit scope xs)
        (renamed_syntax (with_variables scope xs) body) (renamed_definitions scope fs)

  abbrev pub renamed_clause : Scope → ClauseSyntax → ClauseSyntax
  renamed_clause scope c =
      let inside = with_patterns scope c.patterns in
      record {
        patterns = renamed_patterns limit scope c.patterns;
        guard = renamed_syntax inside c.guard;
        body = renamed_syntax inside c.body;
      }

  abbrev pub renamed_definition : Scope → DefinitionSyntax → DefinitionSyntax
  renamed_definition scope f = record {
    name = f.name;
    parameters = names_for limit scope f.parameters;
    body = renamed_syntax (with_variables scope f.parameters) f.body;
  }
