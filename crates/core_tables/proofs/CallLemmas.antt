-- What a call does, as its module and name tell it, and as its operation does.
use Rattle.std.proofs.Common.{◌≡◌, ℕ, List, replicate, Option, Some, None, refl}
use Rattle.hy_core.specs.BuiltIn as operation
use Rattle.hy_core.specs.BuiltIn.{Operation}
use Rattle.hy_core.specs.Numbered.{called, sites_of}
use Rattle.hy_core.specs.declared.info.SiteKind.TheVariants.{Setelement}
use Rattle.hy_core.specs.declared.tree.Expr.{Expr}
use Rattle.hy_core.specs.declared.tree.Module.{Module}
use Rattle.core_names.specs.Called as names
use Rattle.core_names.specs.Called.{built_in_as}
use Rattle.core_tables.specs.code.CallParts.{built_in_args, call_sites}
use Rattle.core_tables.specs.code.NumberedParts.{call_args}

pub sites-does : (o : Option Operation) → replicate (call_sites (built_in_as o)) Setelement ≡ sites_of o
sites-does None = refl
sites-does (Some (operation.Plain b)) = refl
sites-does (Some operation.SetsElement) = refl
sites-does (Some operation.Sends) = refl
sites-does (Some operation.Spawns) = refl
sites-does (Some operation.Displays) = refl
sites-does (Some (operation.RaisesAs class)) = refl

module _ (table : List (List ℕ)) (m : Module) where
  pub called-does : (a b : Option ℕ) (arity : ℕ) → names.called m.atoms a b arity ≡ built_in_as (called table m a b arity)
  called-does (Some a) (Some b) arity = refl
  called-does (Some a) None arity = refl
  called-does None b arity = refl

  pub args-does : (o : Option Operation) (args : List Expr) → built_in_args table m (built_in_as o) args ≡ call_args table m o args
  args-does None args = refl
  args-does (Some (operation.Plain b)) args = refl
  args-does (Some operation.SetsElement) args = refl
  args-does (Some operation.Sends) args = refl
  args-does (Some operation.Spawns) args = refl
  args-does (Some operation.Displays) args = refl
  args-does (Some (operation.RaisesAs class)) args = refl
