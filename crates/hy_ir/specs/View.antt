-- The code trees that declared ones are.
use Rattle.std.specs.Prelude.{List, [], ◌∷◌, map, Option, Some, None}
use Rattle.hy_ir.specs.Code as c
use Rattle.hy_ir.specs.declared.code.Arm.{Arm}
use Rattle.hy_ir.specs.declared.code.Code.{Code}
use Rattle.hy_ir.specs.declared.code.CodeFunction.{CodeFunction}
use Rattle.hy_ir.specs.declared.code.Guard.{Guard}
use Rattle.hy_ir.specs.declared.code.Last.{Last}
use Rattle.hy_ir.specs.declared.code.Last.TheFolds.{fold-Last, fold-Part, fold-Arm, fold-Tree}
use Rattle.hy_ir.specs.declared.code.Last.TheOpen as layer
use Rattle.hy_ir.specs.declared.code.Last.TheOpen.{Last-F, Part-F, Arm-F, Tree-F}
use Rattle.hy_ir.specs.declared.code.Part.{Part}
use Rattle.hy_ir.specs.declared.code.Test.{Test}
use Rattle.hy_ir.specs.declared.code.Tree.{Tree}

pub record ArmView : Type 0 where
  pub tests : List Test
  pub guard : Guard
  pub body : c.Tree

abbrev pub parts_in : List c.Part → c.Parts
parts_in [] = c.NoParts
parts_in (p ∷ ps) = c.MoreParts p (parts_in ps)

abbrev pub arms_in : List ArmView → c.Arms
arms_in [] = c.NoArms
arms_in (a ∷ xs) = c.MoreArms a.tests a.guard a.body (arms_in xs)

abbrev pub lapse_in : Option c.Tree → c.Lapse
lapse_in None = c.NoLapse
lapse_in (Some t) = c.LapseTo t

abbrev pub last_step : Last-F c.Last c.Part ArmView c.Tree → c.Last
last_step (layer.Give registers) = c.Give registers
last_step (layer.Tail function arguments) = c.Tail function arguments
last_step (layer.Raise class reason) = c.Raise class reason
last_step (layer.Fail reason) = c.Fail reason
last_step (layer.Choose arms) = c.Choose (arms_in arms)
last_step (layer.Receive message arms lapse) = c.Receive message (arms_in arms) (lapse_in lapse)

abbrev pub part_step : Part-F c.Last c.Part ArmView c.Tree → c.Part
part_step (layer.Do operation) = c.Do operation
part_step (layer.Within outs inner) = c.Within outs inner

abbrev pub arm_step : Arm-F c.Last c.Part ArmView c.Tree → ArmView
arm_step a = record { tests = a.tests; guard = a.guard; body = a.body }

abbrev pub tree_step : Tree-F c.Last c.Part ArmView c.Tree → c.Tree
tree_step t = c.MakeTree (parts_in t.parts) t.last

-- the tree, part, last part and arm that a declared one is

abbrev pub last_of : Last → c.Last
last_of = fold-Last c.Last c.Part ArmView c.Tree last_step part_step arm_step tree_step

abbrev pub part_of : Part → c.Part
part_of = fold-Part c.Last c.Part ArmView c.Tree last_step part_step arm_step tree_step

abbrev pub arm_of : Arm → ArmView
arm_of = fold-Arm c.Last c.Part ArmView c.Tree last_step part_step arm_step tree_step

abbrev pub tree_of : Tree → c.Tree
tree_of = fold-Tree c.Last c.Part ArmView c.Tree last_step part_step arm_step tree_step

abbrev pub function_of : CodeFunction → c.Function
function_of f = record { params = f.params; registers = f.registers; body = tree_of f.body }

abbrev pub code_of : Code → c.Code
code_of code = record {
  functions = map function_of code.functions;
  sites = code.sites;
  names = code.names;
  atoms = code.atoms;
}
