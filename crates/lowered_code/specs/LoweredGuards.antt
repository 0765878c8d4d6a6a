-- The operations that lowering writes for a guard. This project's own.
use Rattle.std.specs.Prelude.{ℕ, ◌+◌, List, [], ◌∷◌, ◌++◌, unwrap_or}
use Rattle.hy_core.specs.declared.bif.Bif.{Bif}
use Rattle.hy_core.specs.Resolved as r
use Rattle.hy_core.specs.Resolved.{Expression, Expressions, NoExpressions, MoreExpressions}
use Rattle.hy_ir.specs.declared.code.Constant.TheVariants as constant
use Rattle.hy_ir.specs.declared.code.Op.{Op}
use Rattle.hy_ir.specs.declared.code.Op.TheVariants as op
use Rattle.program_code.specs.HeldRegisters.{Held, register_of}
use Rattle.lowered_code.specs.Builder.{first, rest}

-- operations, the first register that isn't in use, and the registers of the values that are done
pub record Guarded : Type 0 where
  pub operations : List Op
  pub next : ℕ
  pub registers : List ℕ

-- variables are bound to registers, one after another
abbrev pub bound_to : (variables registers : List ℕ) → Held → Held
bound_to [] rs held = held
bound_to (x ∷ xs) rs held = bound_to xs (rest rs) ((x, first rs) ∷ held)

-- the register of a variable that is bound
abbrev pub register_in : Held → ℕ → ℕ
register_in held x = unwrap_or (register_of x held) 0

abbrev pub guard_with : List ℕ → Guarded → Guarded
guard_with rs g = record { operations = g.operations; next = g.next; registers = rs }

abbrev pub operation_in : (ℕ → Op) → (kept : List ℕ) → Guarded → Guarded
operation_in o kept g = record {
  operations = g.operations ++ o g.next ∷ [];
  next = g.next + 1;
  registers = kept ++ g.next ∷ [];
}

abbrev pub bif_in : Bif → (kept : List ℕ) → Guarded → Guarded
bif_in b kept g = operation_in (λ out. op.Bif out b g.registers) kept g

-- the body of a let, on the values of its variables
abbrev pub let_in : (variables : List ℕ) → Held → (kept : List ℕ)
    → (Held → Guarded → Guarded) → Guarded → Guarded
let_in xs held kept body g = body (bound_to xs g.registers held) (guard_with kept g)

abbrev mutual
  pub guarded : Expression → Held → Guarded → Guarded
  guarded (r.Int n) held g = operation_in (λ out. op.Const out (constant.Int n)) g.registers g
  guarded (r.Atom a) held g = operation_in (λ out. op.Const out (constant.Atom a)) g.registers g
  guarded r.Nil held g = operation_in (λ out. op.Const out constant.Nil) g.registers g
  guarded (r.Variable x) held g = guard_with (g.registers ++ register_in held x ∷ []) g
  guarded (r.Call (r.BuiltIn b) es) held g =
      bif_in b g.registers (all_guarded es held (guard_with [] g))
  guarded (r.Let xs e b) held g =
      let_in xs held g.registers (λ inside h. guarded b inside h)
      (guarded e held (guard_with [] g))
  -- the other forms stand in no guard
  guarded _ held g = g

  pub all_guarded : Expressions → Held → Guarded → Guarded
  all_guarded NoExpressions held g = g
  all_guarded (MoreExpressions e es) held g = all_guarded es held (guarded e held g)
