-- The check for definitions with too great an arity.
use Rattle.std.specs.Prelude.{◌<◌, nat_lt, Bool, List, None, Contains}
use Rattle.std.specs.List.{list_any}
use Rattle.hy_core.specs.Faults.{Defines}
use Rattle.hy_core.specs.Tables.{definitions_layer}
use Rattle.hy_core.specs.declared.tree.Expr.TheViews.{out-Expr}
use Rattle.hy_core.specs.declared.tree.Function.{Function}
use Rattle.hy_core.specs.declared.tree.Module.{Module}
use Rattle.core_walk.specs.Walk.{Forms, form_if}

-- a definition has too great an arity
abbrev pub is_great : Function → Bool
is_great f = nat_lt 255 f.name.arity

abbrev pub any_is_great : List Function → Bool
any_is_great functions = list_any is_great functions

-- a node has the fault where it defines such a function, as a letrec may
abbrev pub great : Forms
great = record {
  of_expr = λ m x c. form_if (any_is_great (definitions_layer (out-Expr x)));
  of_patterns = λ ps. None;
  of_function = λ m j f. is_great f;
}

-- one of the modules has a definition with too great an arity
pub record HasGreat (modules : List Module) : Type 0 where
  pub m : Module
  pub f : Function
  pub stands : Contains modules m
  pub defines : Defines m f
  pub is_great : 255 < f.name.arity
