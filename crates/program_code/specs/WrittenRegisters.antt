-- The registers that code writes, in order, each as often as it is written. This project's own.
use Rattle.std.specs.Prelude.{ℕ, List, [], ◌∷◌, ◌++◌}
use Rattle.hy_ir.specs.Code as c
use Rattle.hy_ir.specs.Code.{Arms, NoArms, MoreArms, Lapse, NoLapse, LapseTo, Last, MakeTree, Part}
use Rattle.hy_ir.specs.Code.{Parts, NoParts, MoreParts, Tree}
use Rattle.hy_ir.specs.declared.code.Op.{Op}
use Rattle.hy_ir.specs.declared.code.Op.TheVariants as op
use Rattle.hy_ir.specs.declared.code.Test.{Test}
use Rattle.hy_ir.specs.declared.code.Test.TheVariants as test

abbrev pub test_writes : Test → List ℕ
test_writes (test.Bind out from) = out ∷ []
test_writes (test.IsInt from n) = []
test_writes (test.IsAtom from a) = []
test_writes (test.IsNil from) = []
test_writes (test.IsText from text) = []
test_writes (test.IsTuple from size outs) = outs
test_writes (test.IsCons from head tail) = head ∷ tail ∷ []

abbrev pub tests_write : List Test → List ℕ
tests_write [] = []
tests_write (t ∷ ts) = test_writes t ++ tests_write ts

abbrev pub out_of : Op → ℕ
out_of (op.Const out value) = out
out_of (op.Move out from) = out
out_of (op.Build site out args) = out
out_of (op.Text site out text) = out
out_of (op.Set site out index tuple value) = out
out_of (op.Bif out bif args) = out
out_of (op.Call out function args) = out
out_of (op.Send node out to message) = out
out_of (op.Spawn node out function args) = out
out_of (op.Show out value) = out

abbrev pub operations_write : List Op → List ℕ
operations_write [] = []
operations_write (o ∷ os) = out_of o ∷ operations_write os

abbrev mutual
  pub tree_writes : Tree → List ℕ
  tree_writes (MakeTree ps end) = parts_write ps ++ last_writes end

  pub parts_write : Parts → List ℕ
  parts_write NoParts = []
  parts_write (MoreParts p ps) = part_writes p ++ parts_write ps

  pub part_writes : Part → List ℕ
  part_writes (c.Do o) = out_of o ∷ []
  part_writes (c.Within outs inner) = tree_writes inner ++ outs

  pub last_writes : Last → List ℕ
  last_writes (c.Choose xs) = arms_write xs
  last_writes (c.Receive message xs lapse) = message ∷ (arms_write xs ++ lapse_writes lapse)
  last_writes _ = []

  pub lapse_writes : Lapse → List ℕ
  lapse_writes NoLapse = []
  lapse_writes (LapseTo t) = tree_writes t

  pub arms_write : Arms → List ℕ
  arms_write NoArms = []
  arms_write (MoreArms ts guard body xs) =
      (tests_write ts ++ operations_write guard.operations) ++ (tree_writes body ++ arms_write xs)
