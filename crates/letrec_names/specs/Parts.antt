-- The syntax of a clause, and of a function.
use Rattle.std.specs.Prelude.{map}
use Rattle.hy_core.specs.Syntax.{ClauseSyntax, DefinitionSyntax}
use Rattle.hy_core.specs.Syntax.{syntax_of, pattern_of, patterns_of}
use Rattle.hy_core.specs.declared.tree.Clause.{Clause}
use Rattle.hy_core.specs.declared.tree.Function.{Function}

abbrev pub clause_syntax : Clause → ClauseSyntax
clause_syntax c = record {
  patterns = patterns_of (map pattern_of c.patterns);
  guard = syntax_of c.guard;
  body = syntax_of c.body;
}

abbrev pub function_syntax : Function → DefinitionSyntax
function_syntax f = record { name = f.name; parameters = f.params; body = syntax_of f.body }
