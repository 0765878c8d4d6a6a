-- The inclusions between sets of sites that a code gives, form by form. This project's own.
use Rattle.std.specs.Prelude.{ℕ, ◌+◌, List, [], ◌∷◌, ◌++◌, map}
use Rattle.std.specs.List.{Contains, flat_map}
use Rattle.flow_sets.specs.Least.{Family, Flows}
use Rattle.flow_sets.specs.declared.inclusion.FlowSet.{FlowSet}
use Rattle.flow_sets.specs.declared.inclusion.FlowSet.TheVariants.{Only, Register, Result, Field}
use Rattle.flow_sets.specs.declared.inclusion.FlowSet.TheVariants.{Message, Sent}
use Rattle.flow_sets.specs.declared.inclusion.Inclusion.{Inclusion}
use Rattle.flow_sets.specs.declared.inclusion.Inclusion.TheVariants.{Whole, Part, Parts}
use Rattle.hy_core.specs.declared.bif.Bif.{Bif}
use Rattle.hy_core.specs.declared.bif.Bif.TheVariants.{Element, Hd, Tl}
use Rattle.hy_ir.specs.Code as c
use Rattle.hy_ir.specs.Code.{Arms, NoArms, MoreArms, Function, Lapse, NoLapse, LapseTo, Last}
use Rattle.hy_ir.specs.Code.{NoParts, MoreParts, Tree, MakeTree}
use Rattle.hy_ir.specs.declared.code.Op.{Op}
use Rattle.hy_ir.specs.declared.code.Op.TheVariants as op
use Rattle.hy_ir.specs.declared.code.Test.{Test}
use Rattle.hy_ir.specs.declared.code.Test.TheVariants as test

-- code of the function of this number
module _ (f : ℕ) where
  -- arguments go into the fields of a site, from a number on
  abbrev pub into_fields : (site field : ℕ) → (args : List ℕ) → List Inclusion
  into_fields site field [] = []
  into_fields site field (a ∷ more) =
      Whole (Register f a) (Field site field) ∷ into_fields site (field + 1) more

  -- arguments go into the parameters of a function, from a number on
  abbrev pub into_params : (function param : ℕ) → (args : List ℕ) → List Inclusion
  into_params g param [] = []
  into_params g param (a ∷ more) =
      Whole (Register f a) (Register g param) ∷ into_params g (param + 1) more

  -- arguments are sent
  abbrev pub into_sent : (args : List ℕ) → List Inclusion
  into_sent [] = []
  into_sent (a ∷ more) = Whole (Register f a) Sent ∷ into_sent more

  -- the fields of what a register holds go into registers, from a number on
  abbrev pub from_fields : (base field : ℕ) → (outs : List ℕ) → List Inclusion
  from_fields base field [] = []
  from_fields base field (r ∷ more) =
      Part (Register f base) field (Register f r) ∷ from_fields base (field + 1) more

  -- registers go into sets, one into each
  abbrev pub into_sets : (registers : List ℕ) → (goes : List FlowSet) → List Inclusion
  into_sets [] goes = []
  into_sets (r ∷ rs) [] = []
  into_sets (r ∷ rs) (X ∷ Xs) = Whole (Register f r) X ∷ into_sets rs Xs

  abbrev pub registers_of : (registers : List ℕ) → List FlowSet
  registers_of rs = map (λ r. Register f r) rs

  abbrev pub bif_inclusions : Bif → (out : ℕ) → (args : List ℕ) → List Inclusion
  bif_inclusions Hd out (a ∷ more) = Part (Register f a) 1 (Register f out) ∷ []
  bif_inclusions Tl out (a ∷ more) = Part (Register f a) 2 (Register f out) ∷ []
  bif_inclusions Element out (index ∷ (a ∷ more)) = Parts (Register f a) (Register f out) ∷ []
  bif_inclusions bif out args = []

  abbrev pub operation_inclusions : Op → List Inclusion
  operation_inclusions (op.Const out value) = []
  operation_inclusions (op.Move out from) = Whole (Register f from) (Register f out) ∷ []
  operation_inclusions (op.Build site out args) =
      Whole (Only site) (Register f out) ∷ into_fields site 1 args
  operation_inclusions (op.Text site out text) =
      Whole (Only site) (Register f out) ∷ Whole (Only site) (Field site 2) ∷ []
  operation_inclusions (op.Set site out index tuple value) =
      Whole (Only site) (Register f out) ∷ Whole (Register f value) (Field site 0)
      ∷ Parts (Register f tuple) (Field site 0) ∷ []
  operation_inclusions (op.Bif out bif args) = bif_inclusions bif out args
  operation_inclusions (op.Call out g args) =
      Whole (Result g) (Register f out) ∷ into_params g 0 args
  operation_inclusions (op.Send node out to message) =
      Whole (Register f message) Message ∷ Whole (Register f message) Sent
      ∷ Whole (Register f message) (Register f out) ∷ []
  operation_inclusions (op.Spawn node out g args) = into_params g 0 args ++ into_sent args
  operation_inclusions (op.Show out value) = []

  abbrev pub test_inclusions : Test → List Inclusion
  test_inclusions (test.Bind out from) = Whole (Register f from) (Register f out) ∷ []
  test_inclusions (test.IsTuple from size outs) = from_fields from 1 outs
  test_inclusions (test.IsCons from head tail) =
      Part (Register f from) 1 (Register f head) ∷ Part (Register f from) 2 (Register f tail) ∷ []
  test_inclusions other = []

  -- of a tree whose values go into these sets
  abbrev mutual
    pub tree_inclusions : Tree → (goes : List FlowSet) → List Inclusion
    tree_inclusions (MakeTree ps end) goes = parts_inclusions ps ++ last_inclusions end goes

    pub parts_inclusions : c.Parts → List Inclusion
    parts_inclusions NoParts = []
    parts_inclusions (MoreParts p ps) = part_inclusions p ++ parts_inclusions ps

    pub part_inclusions : c.Part → List Inclusion
    part_inclusions (c.Do o) = operation_inclusions o
    part_inclusions (c.Within outs inner) = tree_inclusions inner (registers_of outs)

    pub last_inclusions : Last → (goes : List FlowSet) → List Inclusion
    last_inclusions (c.Give rs) goes = into_sets rs goes
    last_inclusions (c.Tail g args) goes =
        Whole (Result g) (Result f) ∷ into_params g 0 args
    last_inclusions (c.Raise class reason) goes = []
    last_inclusions (c.Fail reason) goes = []
    last_inclusions (c.Choose xs) goes = arms_inclusions xs goes
    last_inclusions (c.Receive message xs lapse) goes =
        Whole Message (Register f message) ∷ arms_inclusions xs goes ++ lapse_inclusions lapse goes

    pub arms_inclusions : Arms → (goes : List FlowSet) → List Inclusion
    arms_inclusions NoArms goes = []
    arms_inclusions (MoreArms tests guard body xs) goes =
        flat_map test_inclusions tests ++ flat_map operation_inclusions guard.operations
        ++ tree_inclusions body goes ++ arms_inclusions xs goes

    pub lapse_inclusions : Lapse → (goes : List FlowSet) → List Inclusion
    lapse_inclusions NoLapse goes = []
    lapse_inclusions (LapseTo t) goes = tree_inclusions t goes

-- of functions that are numbered from f on; the value of each goes into its result
abbrev pub functions_inclusions : (f : ℕ) → List Function → List Inclusion
functions_inclusions f [] = []
functions_inclusions f (fn ∷ fns) =
    tree_inclusions f fn.body (Result f ∷ []) ++ functions_inclusions (f + 1) fns

-- of a code; what stands in what is sent is sent
abbrev pub code_inclusions : List Function → List Inclusion
code_inclusions fns = Parts Sent Sent ∷ functions_inclusions 0 fns

-- the flow of a code: the least sets that are closed under its inclusions
abbrev pub FlowOf : List Function → Family
FlowOf fns = Flows (Contains (code_inclusions fns))
