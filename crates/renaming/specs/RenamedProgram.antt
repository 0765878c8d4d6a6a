-- A program with its variables renamed. This project's own.
use Rattle.std.specs.Prelude.{ℕ, [], map}
use Rattle.hy_core.specs.Scopes.{with_variables}
use Rattle.hy_core.specs.Syntax.{syntax_of, tree}
use Rattle.hy_core.specs.declared.tree.Function.{Function}
use Rattle.hy_core.specs.declared.tree.Module.{Module}
use Rattle.hy_core.specs.declared.tree.Program.{Program}
use Rattle.lifted_program.specs.Renaming.{names_for}
use Rattle.renaming.specs.RenamedSyntax.{renamed_syntax}

-- limit: the names from here on are no variables of the program
module _ (limit : ℕ) where
  abbrev pub renamed_function : Function → Function
  renamed_function f = record {
    name = f.name;
    params = names_for limit [] f.params;
    body = tree (renamed_syntax limit (with_variables [] f.params) (syntax_of f.body));
  }

  abbrev pub renamed_module : Module → Module
  renamed_module m = record m { functions = map renamed_function m.functions }

  abbrev pub renamed_modules : Program → Program
  renamed_modules program = record {
    given = map renamed_module program.given;
    prelude = map renamed_module program.prelude;
  }
