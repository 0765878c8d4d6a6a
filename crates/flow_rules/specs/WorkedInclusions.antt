-- The inclusions of small codes, each written out.
use Rattle.std.specs.Prelude.{◌≡◌, List, [], ◌∷◌, ◌++◌, codes}
use Rattle.flow_sets.specs.declared.inclusion.FlowSet.TheVariants.{Only, Register, Result, Field}
use Rattle.flow_sets.specs.declared.inclusion.FlowSet.TheVariants.{Message, Sent}
use Rattle.flow_sets.specs.declared.inclusion.Inclusion.{Inclusion}
use Rattle.flow_sets.specs.declared.inclusion.Inclusion.TheVariants.{Whole, Part, Parts}
use Rattle.hy_core.specs.declared.bif.Bif.TheVariants as b
use Rattle.hy_core.specs.declared.class.Class.TheVariants.{Throw}
use Rattle.hy_ir.specs.Code.{Give, LapseTo, MakeTree, MoreArms, MoreParts, NoArms, NoParts}
use Rattle.hy_ir.specs.Code.{Raise, Receive, Tree, Within}
use Rattle.hy_ir.specs.Inclusions.{code_inclusions, last_inclusions, operation_inclusions}
use Rattle.hy_ir.specs.Inclusions.{test_inclusions, tree_inclusions}
use Rattle.hy_ir.specs.WorkedCodes.{always, loop_code, steps}
use Rattle.hy_ir.specs.declared.code.Op.TheVariants as op
use Rattle.hy_ir.specs.declared.code.Test.TheVariants as test

-- A state goes round and is then sent:
--   'main'/0 = fun () -> apply 'loop'/2(3,{'s',0})
--   'loop'/2 = fun (N,S) -> case N of
--     <0> when 'true' -> do erlang:!(erlang:self(),S) S
--     <X> when 'true' -> apply 'loop'/2(erlang:-(N,1),{'s',N}) end

-- function 0, 'main'/0: {'s',0} is built at site 0 and handed to 'loop'/2
abbrev pub main_inclusions : List Inclusion
main_inclusions =
    Whole (Only 0) (Register 0 3) ∷ Whole (Register 0 1) (Field 0 1)
    ∷ Whole (Register 0 2) (Field 0 2) ∷ Whole (Result 1) (Result 0)
    ∷ Whole (Register 0 0) (Register 1 0) ∷ Whole (Register 0 3) (Register 1 1) ∷ []

-- function 1, 'loop'/2: S is sent and given; {'s',N} is built at site 1 and goes round
abbrev pub loop_inclusions : List Inclusion
loop_inclusions =
    Whole (Register 1 1) Message ∷ Whole (Register 1 1) Sent
    ∷ Whole (Register 1 1) (Register 1 4) ∷ Whole (Register 1 1) (Result 1)
    ∷ Whole (Register 1 0) (Register 1 5) ∷ Whole (Only 1) (Register 1 10)
    ∷ Whole (Register 1 9) (Field 1 1) ∷ Whole (Register 1 0) (Field 1 2)
    ∷ Whole (Result 1) (Result 1) ∷ Whole (Register 1 8) (Register 1 0)
    ∷ Whole (Register 1 10) (Register 1 1) ∷ []

-- functions 2 to 5, which each program has: '++'/2, reverse/1, reverse/2 and append/2
abbrev pub join_inclusions : List Inclusion
join_inclusions =
    Whole (Register 2 1) (Result 2) ∷ Part (Register 2 0) 1 (Register 2 3)
    ∷ Part (Register 2 0) 2 (Register 2 4) ∷ Whole (Result 2) (Register 2 6)
    ∷ Whole (Register 2 4) (Register 2 0) ∷ Whole (Register 2 1) (Register 2 1)
    ∷ Whole (Only 2) (Register 2 7) ∷ Whole (Register 2 3) (Field 2 1)
    ∷ Whole (Register 2 6) (Field 2 2) ∷ Whole (Register 2 7) (Result 2)
    ∷ Whole (Register 2 0) (Register 2 8) ∷ []

abbrev pub reverse_inclusions : List Inclusion
reverse_inclusions =
    Whole (Result 4) (Result 3) ∷ Whole (Register 3 0) (Register 4 0)
    ∷ Whole (Register 3 1) (Register 4 1) ∷ []

abbrev pub reverse_onto_inclusions : List Inclusion
reverse_onto_inclusions =
    Whole (Register 4 1) (Result 4) ∷ Part (Register 4 0) 1 (Register 4 3)
    ∷ Part (Register 4 0) 2 (Register 4 4) ∷ Whole (Only 3) (Register 4 6)
    ∷ Whole (Register 4 3) (Field 3 1) ∷ Whole (Register 4 1) (Field 3 2)
    ∷ Whole (Result 4) (Result 4) ∷ Whole (Register 4 4) (Register 4 0)
    ∷ Whole (Register 4 6) (Register 4 1) ∷ Whole (Register 4 0) (Register 4 7) ∷ []

abbrev pub append_inclusions : List Inclusion
append_inclusions =
    Whole (Result 2) (Result 5) ∷ Whole (Register 5 0) (Register 2 0)
    ∷ Whole (Register 5 1) (Register 2 1) ∷ []

abbrev pub all_inclusions : List Inclusion
all_inclusions =
    Parts Sent Sent
    ∷ main_inclusions ++ loop_inclusions ++ join_inclusions ++ reverse_inclusions
    ++ reverse_onto_inclusions ++ append_inclusions

-- the other forms, in function 7

pub record Operations : Type 0 where
  pub move : operation_inclusions 7 (op.Move 1 0) ≡ Whole (Register 7 0) (Register 7 1) ∷ []
  pub text : operation_inclusions 7 (op.Text 4 1 (codes "a"))
      ≡ Whole (Only 4) (Register 7 1) ∷ Whole (Only 4) (Field 4 2) ∷ []
  pub set : operation_inclusions 7 (op.Set 4 3 0 1 2)
      ≡ Whole (Only 4) (Register 7 3) ∷ Whole (Register 7 2) (Field 4 0)
      ∷ Parts (Register 7 1) (Field 4 0) ∷ []
  pub hd : operation_inclusions 7 (op.Bif 1 b.Hd (0 ∷ []))
      ≡ Part (Register 7 0) 1 (Register 7 1) ∷ []
  pub tl : operation_inclusions 7 (op.Bif 1 b.Tl (0 ∷ []))
      ≡ Part (Register 7 0) 2 (Register 7 1) ∷ []
  pub element : operation_inclusions 7 (op.Bif 2 b.Element (0 ∷ 1 ∷ []))
      ≡ Parts (Register 7 1) (Register 7 2) ∷ []
  pub call : operation_inclusions 7 (op.Call 2 9 (0 ∷ 1 ∷ []))
      ≡ Whole (Result 9) (Register 7 2) ∷ Whole (Register 7 0) (Register 9 0)
      ∷ Whole (Register 7 1) (Register 9 1) ∷ []
  pub spawn : operation_inclusions 7 (op.Spawn 5 2 9 (0 ∷ 1 ∷ []))
      ≡ Whole (Register 7 0) (Register 9 0) ∷ Whole (Register 7 1) (Register 9 1)
      ∷ Whole (Register 7 0) Sent ∷ Whole (Register 7 1) Sent ∷ []
  pub show : operation_inclusions 7 (op.Show 1 0) ≡ []

pub record Tests : Type 0 where
  pub tuple : test_inclusions 7 (test.IsTuple 0 2 (1 ∷ 2 ∷ []))
      ≡ Part (Register 7 0) 1 (Register 7 1) ∷ Part (Register 7 0) 2 (Register 7 2) ∷ []
  pub nil : test_inclusions 7 (test.IsNil 0) ≡ []

-- two values of an inner tree, which raises in one arm
abbrev pub inner : Tree
inner =
    steps []
    (Receive 3 (MoreArms [] (always 4) (steps [] (Give (3 ∷ 0 ∷ []))) NoArms)
    (LapseTo (steps [] (Raise Throw 0))))

pub record Trees : Type 0 where
  pub within : tree_inclusions 7
      (MakeTree (MoreParts (Within (1 ∷ 2 ∷ []) inner) NoParts) (Give (2 ∷ [])))
      (Result 7 ∷ [])
      ≡ Whole Message (Register 7 3) ∷ Whole (Register 7 3) (Register 7 1)
      ∷ Whole (Register 7 0) (Register 7 2) ∷ Whole (Register 7 2) (Result 7) ∷ []
  pub lapse : last_inclusions 7 (Receive 3 NoArms (LapseTo (steps [] (Give (0 ∷ [])))))
      (Result 7 ∷ [])
      ≡ Whole Message (Register 7 3) ∷ Whole (Register 7 0) (Result 7) ∷ []

pub record WorkedInclusions : Type 0 where
  -- of no function, what stands in what is sent is sent
  pub empty : code_inclusions [] ≡ Parts Sent Sent ∷ []
  pub goes_round : code_inclusions loop_code.functions ≡ all_inclusions
  pub operations : Operations
  pub tests : Tests
  pub trees : Trees
