-- The sites of a call, and the numbering of its arguments, by what it does.
use Rattle.std.specs.Prelude.{ℕ, List, Option, Some}
use Rattle.hy_core.specs.Counting.{Numbering}
use Rattle.hy_core.specs.declared.tree.Expr.{Expr}
use Rattle.hy_core.specs.declared.tree.Module.{Module}
use Rattle.core_names.specs.declared.built_in.BuiltIn.{BuiltIn}
use Rattle.core_names.specs.declared.built_in.BuiltIn.TheVariants as built
use Rattle.core_tables.specs.code.NumberedParts.{numbered_each, spawn_args}

-- how many sites a call of this built-in has of its own: `setelement` builds a tuple
abbrev pub call_sites : Option BuiltIn → ℕ
call_sites (Some built.Setelement) = 1
call_sites _ = 0

module _ (table : List (List ℕ)) (m : Module) where
  -- the arguments of a call of this built-in
  abbrev pub built_in_args : Option BuiltIn → List Expr → Numbering (List Expr)
  built_in_args (Some built.Spawn) args = spawn_args table m args
  built_in_args _ args = numbered_each table m args
