-- What lowering writes for expressions, form by form: parts before the whole, from left to right.
-- Each value has a register of its own, given out in the order in which they are written. This
-- project's own.
use Rattle.std.specs.Prelude.{ℕ, ◌+◌, List, [], ◌∷◌, ◌++◌, length}
use Rattle.hy_core.specs.KnownTrees.{width}
use Rattle.hy_core.specs.Resolved as r
use Rattle.hy_core.specs.Resolved.{Head, Timeout, Expression, Expressions, NoExpressions}
use Rattle.hy_core.specs.Resolved.{MoreExpressions, Clauses, NoClauses, MoreClauses}
use Rattle.hy_ir.specs.Code as c
use Rattle.hy_ir.specs.Code.{NoLapse, LapseTo}
use Rattle.hy_ir.specs.View.{ArmView, arms_in}
use Rattle.hy_ir.specs.declared.code.Constant.TheVariants as constant
use Rattle.hy_ir.specs.declared.code.Op.TheVariants as op
use Rattle.program_code.specs.HeldRegisters.{Held}
use Rattle.lowered_code.specs.Builder.{Builder, Place, Piece, Tail, End, Given, Ended}
use Rattle.lowered_code.specs.Builder.{beginning, with_registers, first, rest, operation_into}
use Rattle.lowered_code.specs.Builder.{constant_into, conses_into, written_tree, inside, opened}
use Rattle.lowered_code.specs.Builder.{closed}
use Rattle.lowered_code.specs.LoweredGuards.{Guarded, bound_to, register_in, guarded}
use Rattle.lowered_code.specs.LoweredPatterns.{Checks, tested_all}

-- what is done with the values that are done, behind those that are kept

abbrev pub tuple_into : (site : ℕ) → (kept : List ℕ) → Builder → Builder
tuple_into site kept b = operation_into (λ out. op.Build site out b.registers) kept b

-- behind the values that are kept
abbrev pub values_into : (kept : List ℕ) → Builder → Builder
values_into kept b = with_registers (kept ++ b.registers) b

-- the heads of a list notation, whose tail is done
abbrev pub list_into : (site : ℕ) → (kept heads : List ℕ) → Builder → Builder
list_into site kept heads b = values_into kept (conses_into site heads (first b.registers) b)

-- the tail of a list notation, whose heads are done
abbrev pub tail_into : (site : ℕ) → (kept : List ℕ) → (tail : Builder → Builder) → Builder
    → Builder
tail_into site kept tail b = list_into site kept b.registers (tail (with_registers [] b))

abbrev pub set_into : (site : ℕ) → (kept : List ℕ) → Builder → Builder
set_into site kept b =
    operation_into (λ out. op.Set site out (first b.registers) (first (rest b.registers))
    (first (rest (rest b.registers)))) kept b

abbrev pub send_into : (node : ℕ) → (kept : List ℕ) → Builder → Builder
send_into node kept b =
    operation_into (λ out. op.Send node out (first b.registers) (first (rest b.registers))) kept b

-- a call of a function is the last part of its function where it stands last there
abbrev pub call_into : (function : ℕ) → Place → (kept : List ℕ) → Builder → Builder × End
call_into f Tail kept b = (with_registers kept b, Ended (c.Tail f b.registers))
call_into f _ kept b = (operation_into (λ out. op.Call out f b.registers) kept b, Given)

-- raises end a tree; the arguments of other calls stand among the parts
abbrev pub opened_for : Head → Place → Builder → Builder
opened_for (r.Raising class) place b = opened place b
opened_for r.MatchFail place b = opened place b
opened_for _ place b = with_registers [] b

-- a call whose arguments are done; b: what was written before them
abbrev pub called : Head → (wanted : ℕ) → Place → (b : Builder) → Builder → Builder × End
called (r.BuiltIn f) wanted place b t =
    (operation_into (λ out. op.Bif out f t.registers) b.registers t, Given)
called (r.Function f) wanted place b t = call_into f place b.registers t
called (r.Setelement site) wanted place b t = (set_into site b.registers t, Given)
called (r.Send node) wanted place b t = (send_into node b.registers t, Given)
called (r.Spawn node f) wanted place b t =
    (operation_into (λ out. op.Spawn node out f t.registers) b.registers t, Given)
called (r.Display node) wanted place b t =
    (operation_into (λ out. op.Show out (first t.registers)) b.registers t, Given)
called (r.Raising class) wanted place b t =
    closed place wanted b t.parts t.next (c.Raise class (first t.registers))
called r.MatchFail wanted place b t =
    closed place wanted b t.parts t.next (c.Fail (first t.registers))
-- a lifted program has no call of a function of a letrec
called (r.Local f) wanted place b t = (b, Given)

-- arms, and the first register that isn't in use
pub record Branches : Type 0 where
  pub arms : List ArmView
  pub next : ℕ

abbrev pub no_branches : (next : ℕ) → Branches
no_branches next = record { arms = []; next = next }

abbrev pub with_arm : Branches → Checks → Guarded → Builder × End → Branches
with_arm a t g w = record {
  arms = a.arms ++ record {
    tests = t.tests;
    guard = record { operations = g.operations; register = first g.registers };
    body = written_tree w;
  } ∷ [];
  next = w.0.next;
}

-- the arm of a clause: its tests, then the guard, then the body
abbrev pub guarded_arm : (Held → Builder → Builder × End) → Branches → Held × Checks → Guarded
    → Branches
guarded_arm body a t g = with_arm a t.1 g (body t.0 (beginning g.next))

abbrev pub arm_into : (guard : Expression) → (Held → Builder → Builder × End) → Branches
    → Held × Checks → Branches
arm_into guard body a t =
    guarded_arm body a t
    (guarded guard t.0 (record { operations = []; next = t.1.next; registers = [] }))

-- a choice with these arms; t: its value is done
abbrev pub chosen : Place → (wanted : ℕ) → (b t : Builder) → Branches → Builder × End
chosen place wanted b t a = closed place wanted b t.parts a.next (c.Choose (arms_in a.arms))

abbrev pub choice : Place → (wanted : ℕ) → Builder → (List ℕ → Branches → Branches) → Builder
    → Builder × End
choice place wanted b arms t = chosen place wanted b t (arms t.registers (no_branches t.next))

-- a receive with these arms; t: the tree for a lapse is written
abbrev pub lapsing : Place → (wanted : ℕ) → Builder → Branches → Builder × End → Builder × End
lapsing place wanted b a t =
    closed place wanted b (opened place b).parts t.0.next
    (c.Receive b.next (arms_in a.arms) (LapseTo (written_tree t)))

-- only a timeout of 0 lapses
abbrev pub received : Timeout → Place → (wanted : ℕ) → Builder → (Builder → Builder × End)
    → Branches → Builder × End
received r.AtOnce place wanted b lapse a = lapsing place wanted b a (lapse (beginning a.next))
received r.Never place wanted b lapse a =
    closed place wanted b (opened place b).parts a.next
    (c.Receive b.next (arms_in a.arms) NoLapse)

-- what stands behind the value of a let; kept: the values that were done before it
abbrev pub let_into : (variables : List ℕ) → Held → (kept : List ℕ)
    → (Held → Builder → Builder × End) → Builder → Builder × End
let_into xs held kept body t = body (bound_to xs t.registers held) (with_registers kept t)

abbrev mutual
  -- wanted: how many values its place needs
  pub lowered : Expression → Held → (wanted : ℕ) → Place → Builder → Builder × End
  lowered (r.Int n) held wanted place b = (constant_into (constant.Int n) b, Given)
  lowered (r.Atom a) held wanted place b = (constant_into (constant.Atom a) b, Given)
  lowered r.Nil held wanted place b = (constant_into constant.Nil b, Given)
  lowered (r.Text site text) held wanted place b =
      (operation_into (λ out. op.Text site out text) b.registers b, Given)
  -- the register of its binding
  lowered (r.Variable x) held wanted place b =
      (with_registers (b.registers ++ register_in held x ∷ []) b, Given)
  lowered (r.Tuple site es) held wanted place b =
      (tuple_into site b.registers (all_lowered es held (with_registers [] b)), Given)
  lowered (r.ListOf site es e) held wanted place b = (
    tail_into site b.registers (λ t. (lowered e held 1 Piece t).0)
        (all_lowered es held (with_registers [] b)),
    Given,
  )
  lowered (r.Values es) held wanted place b =
      (values_into b.registers (all_lowered es held (with_registers [] b)), Given)
  lowered (r.Let xs e c) held wanted place b =
      let_into xs held b.registers (λ inside t. lowered c inside wanted place t)
      (lowered e held (length xs) Piece (with_registers [] b)).0
  lowered (r.Do e c) held wanted place b =
      lowered c held wanted place
      (with_registers b.registers (lowered e held 1 Piece (with_registers [] b)).0)
  lowered (r.Case e cs) held wanted place b =
      choice place wanted b (λ rs a. arms_lowered cs held rs wanted (inside place) a)
      (lowered e held (width cs) Piece (opened place b)).0
  lowered (r.Call head es) held wanted place b =
      called head wanted place b (all_lowered es held (opened_for head place b))
  -- the message goes to a register of its own
  lowered (r.Receive cs timeout e) held wanted place b =
      received timeout place wanted b (λ t. lowered e held wanted (inside place) t)
      (arms_lowered cs held (b.next ∷ []) wanted (inside place) (no_branches (b.next + 1)))
  -- a lifted program has no letrec, and a known one no form that is refused
  lowered _ held wanted place b = (b, Given)

  -- parts, one value each
  pub all_lowered : Expressions → Held → Builder → Builder
  all_lowered NoExpressions held b = b
  all_lowered (MoreExpressions e es) held b =
      all_lowered es held (lowered e held 1 Piece b).0

  -- clauses, on values in these registers
  pub arms_lowered : Clauses → Held → List ℕ → (wanted : ℕ) → Place → Branches → Branches
  arms_lowered NoClauses held rs wanted place a = a
  arms_lowered (MoreClauses ps g c cs) held rs wanted place a =
      arms_lowered cs held rs wanted place
      (arm_into g (λ inside t. lowered c inside wanted place t) a
      (tested_all ps rs (held, record { tests = []; next = a.next })))
