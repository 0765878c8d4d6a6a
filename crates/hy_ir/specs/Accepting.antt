-- When an arm accepts, and the registers as its tests and its guard leave them. An arm that does
-- not accept leaves no register changed. This project's own, after the clauses of the Core Erlang
-- 1.0.3 report.
use Rattle.std.specs.Prelude.{ℕ, ◌==◌, if◌then◌else◌, List, [], ◌∷◌, ℤ, Option, Some, None}
use Rattle.std.specs.Prelude.{Bool, true, false}
use Rattle.std.specs.Ordering.{int_eq}
use Rattle.hy_terms.specs.Labelled.{Labelled, Labels, NoLabels, MoreLabels, erase, part_count}
use Rattle.hy_terms.specs.Labelled as l
use Rattle.hy_core.specs.Evaluation.{is_some}
use Rattle.hy_core.specs.Match.{is_text}
use Rattle.hy_ir.specs.Code.{Arms, NoArms, MoreArms}
use Rattle.hy_ir.specs.LabelledBuiltIns.{LabelledAnswer, Value, Raises, NoAnswer, labelled_answer}
use Rattle.hy_ir.specs.Registers.{Registers, set, gets}
use Rattle.hy_ir.specs.declared.code.Constant.{Constant}
use Rattle.hy_ir.specs.declared.code.Constant.TheVariants as constant
use Rattle.hy_ir.specs.declared.code.Guard.{Guard}
use Rattle.hy_ir.specs.declared.code.Op.{Op}
use Rattle.hy_ir.specs.declared.code.Op.TheVariants as op
use Rattle.hy_ir.specs.declared.code.Test.{Test}
use Rattle.hy_ir.specs.declared.code.Test.TheVariants as test

abbrev pub constant_value : Constant → Labelled
constant_value (constant.Int n) = l.Int n
constant_value (constant.Atom atom) = l.Atom atom
constant_value constant.Nil = l.Nil

abbrev pub where_holds : Bool → Registers → Option Registers
where_holds true regs = Some regs
where_holds false regs = None

abbrev pub and_then : Option Registers → (Registers → Option Registers) → Option Registers
and_then None follows = None
and_then (Some regs) follows = follows regs

-- tests

abbrev pub int_test : ℤ → Labelled → Registers → Option Registers
int_test n (l.Int m) regs = where_holds (int_eq n m) regs
int_test n _ regs = None

abbrev pub atom_test : ℕ → Labelled → Registers → Option Registers
atom_test atom (l.Atom other) regs = where_holds (atom == other) regs
atom_test atom _ regs = None

abbrev pub nil_test : Labelled → Registers → Option Registers
nil_test l.Nil regs = Some regs
nil_test _ regs = None

-- one part for each register, in order
abbrev pub set_parts : List ℕ → Labels → Registers → Option Registers
set_parts [] NoLabels regs = Some regs
set_parts [] (MoreLabels t ts) regs = None
set_parts (r ∷ rs) NoLabels regs = None
set_parts (r ∷ rs) (MoreLabels t ts) regs = set_parts rs ts (set r t regs)

abbrev pub tuple_test : (size : ℕ) → List ℕ → Labelled → Registers → Option Registers
tuple_test size outs (l.Tuple site colour parts) regs =
    if size == part_count parts then set_parts outs parts regs else None
tuple_test size outs _ regs = None

abbrev pub cons_test : (head tail : ℕ) → Labelled → Registers → Option Registers
cons_test head tail (l.Cons site colour h t) regs = Some (set tail t (set head h regs))
cons_test head tail _ regs = None

-- the registers behind a test that holds
abbrev pub tested : Test → Registers → Option Registers
tested (test.Bind out from) regs = Some (set out (regs from) regs)
tested (test.IsInt from value) regs = int_test value (regs from) regs
tested (test.IsAtom from atom) regs = atom_test atom (regs from) regs
tested (test.IsNil from) regs = nil_test (regs from) regs
tested (test.IsText from text) regs = where_holds (is_text text (erase (regs from))) regs
tested (test.IsTuple from size outs) regs = tuple_test size outs (regs from) regs
tested (test.IsCons from head tail) regs = cons_test head tail (regs from) regs

abbrev pub all_tested : List Test → Registers → Option Registers
all_tested [] regs = Some regs
all_tested (t ∷ ts) regs = and_then (tested t regs) (all_tested ts)

-- guards

abbrev pub set_answer : (out : ℕ) → LabelledAnswer → Registers → Option Registers
set_answer out (Value t) regs = Some (set out t regs)
set_answer out (Raises class reason) regs = None
set_answer out NoAnswer regs = None

abbrev pub is_true : Labelled → Bool
is_true (l.Atom atom) = atom == 0
is_true _ = false

abbrev pub where_true : (register : ℕ) → Registers → Option Registers
where_true register regs = where_holds (is_true (regs register)) regs

module _ (atoms : List (List ℕ)) (pid : ℕ) where
  -- an operation of a guard; one that raises, and one that no guard has, gives no registers
  abbrev pub guard_done : Op → Registers → Option Registers
  guard_done (op.Const out value) regs = Some (set out (constant_value value) regs)
  guard_done (op.Move out from) regs = Some (set out (regs from) regs)
  guard_done (op.Bif out bif args) regs =
      set_answer out (labelled_answer atoms pid bif (gets args regs)) regs
  guard_done _ regs = None

  abbrev pub all_guard_done : List Op → Registers → Option Registers
  all_guard_done [] regs = Some regs
  all_guard_done (o ∷ os) regs = and_then (guard_done o regs) (all_guard_done os)

  -- a guard holds where its value is 'true'
  abbrev pub guarded : Guard → Registers → Option Registers
  guarded guard regs = and_then (all_guard_done guard.operations regs) (where_true guard.register)

  -- an arm accepts where its tests and then its guard hold
  abbrev pub accepted : List Test → Guard → Registers → Option Registers
  accepted tests guard regs = and_then (all_tested tests regs) (guarded guard)

  -- some arm accepts
  abbrev pub accept_some : Arms → Registers → Bool
  accept_some NoArms regs = false
  accept_some (MoreArms tests guard body arms) regs =
      if is_some (accepted tests guard regs) then true else accept_some arms regs
