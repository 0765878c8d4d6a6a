-- A function of a module and a module with the numbers of the program.
use Rattle.std.specs.Prelude.{ℕ, List, [], map}
use Rattle.hy_core.specs.Counting.{Counts}
use Rattle.hy_core.specs.Expressions.{function}
use Rattle.hy_core.specs.Numbered.{numbered_functions, numbered_tree}
use Rattle.hy_core.specs.Tables.{renamed, renamed_name}
use Rattle.hy_core.specs.declared.tree.Function.{Function}
use Rattle.hy_core.specs.declared.tree.Module.{Module}

module _ (table : List (List ℕ)) where
  -- the function of this number of a module
  abbrev pub numbered_function : (m : Module) → (number : ℕ) → Function → Counts → Function × Counts
  numbered_function m k f counts = let this = numbered_tree table m f.body k
      (record counts { node = 0 }) in
      (function (renamed_name table m f.name) f.params this.0, this.1)

  -- a module whose first function has this number
  abbrev pub numbered_module : (first : ℕ) → Module → Counts → Module × Counts
  numbered_module k m counts =
      let these = numbered_functions table m k m.functions counts in (
        record {
          name = renamed table m m.name;
          exports = map (renamed_name table m) m.exports;
          functions = these.0;
          atoms = [];
          variables = m.variables;
        },
        these.1,
      )
