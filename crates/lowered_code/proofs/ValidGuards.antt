-- The operations that are written for guards are valid.
use Rattle.std.proofs.Common.{◌≡◌, ℕ, zero, suc, ◌+◌, ◌<◌, ◌≤◌, List, [], ◌∷◌, ◌++◌, length}
use Rattle.std.proofs.Common.{◌∙◌, arith}
use Rattle.std.specs.List.{All}
use Rattle.std.proofs.lemmas.List.{length-append}
use Rattle.std.proofs.lemmas.List.Elements.{All-push}
use Rattle.hy_core.specs.KnownTrees.{HasGuardForms, HaveGuardForms, IsKnown, AreKnown}
use Rattle.hy_core.specs.Resolved as r
use Rattle.hy_core.specs.Resolved.{Expression, Expressions, NoExpressions, MoreExpressions}
use Rattle.hy_core.specs.Supplied.{expression_count}
use Rattle.hy_ir.specs.Code.{Code}
use Rattle.hy_ir.specs.Valid.{IsConstant, IsValidOperation}
use Rattle.hy_ir.specs.declared.code.Constant.{Constant}
use Rattle.hy_ir.specs.declared.code.Constant.TheVariants as constant
use Rattle.hy_ir.specs.declared.code.Op.{Op}
use Rattle.hy_ir.specs.declared.code.Op.TheVariants as op
use Rattle.program_code.specs.HeldRegisters.{Held}
use Rattle.lowered_code.specs.Builder.{first}
use Rattle.lowered_code.specs.InBounds.{IsInBounds, AreInBounds}
use Rattle.lowered_code.specs.LoweredGuards.{Guarded, register_in, guard_with, operation_in}
use Rattle.lowered_code.specs.LoweredGuards.{guarded, all_guarded}
use Rattle.lowered_code.proofs.Numbers.{counted}
use Rattle.lowered_code.proofs.Arities.{bif_takes}
use Rattle.lowered_code.proofs.Below.{AllBelow, HeldBelow, held_more, below_none, below_more}
use Rattle.lowered_code.proofs.Below.{below_push, first_below, found_below}
use Rattle.lowered_code.proofs.Guards.{guard_one, no_value, two_values}
use Rattle.lowered_code.proofs.Tests.{variables_of}

module _ (code : Code) (arities : List ℕ) where
  -- operations that are valid where all registers in use are there, and registers that are in use
  pub record Sound (g : Guarded) : Type 0 where
    pub operations : (n : ℕ) → g.next ≤ n → All (IsValidOperation code n) g.operations
    pub registers : AllBelow g.next g.registers

  pub record After (wanted : ℕ) (g h : Guarded) : Type 0 where
    pub rises : g.next ≤ h.next
    pub sound : Sound h
    pub many : length h.registers ≡ length g.registers + wanted

  operation_after : (o : ℕ → Op) (g t : Guarded) → g.next ≤ t.next
      → AllBelow g.next g.registers → Sound t
      → ((n : ℕ) → t.next + 1 ≤ n → IsValidOperation code n (o t.next))
      → After 1 g (operation_in o g.registers t)
  operation_after o g t rises below s v = record {
    rises = omega (arith, rises);
    sound = record {
      operations = λ n less. All-push (IsValidOperation code n) t.operations (o t.next)
          (s.operations n (omega (arith, less))) (v n less);
      registers = below_push (t.next + 1) g.registers t.next
          (below_more g.next (t.next + 1) g.registers (omega (arith, rises)) below) (omega arith);
    };
    many = length-append g.registers (t.next ∷ []);
  }

  constant_after : (value : Constant) (g : Guarded) → IsConstant value → Sound g
      → After 1 g (operation_in (λ out. op.Const out value) g.registers g)
  constant_after value g v s =
      operation_after (λ out. op.Const out value) g g (omega arith) s.registers s
      (λ n less. (omega (arith, less), v))

  cleared : (g : Guarded) → Sound g → Sound (guard_with [] g)
  cleared g s = record { operations = s.operations; registers = below_none g.next }

  kept : (g t : Guarded) → g.next ≤ t.next → Sound g → Sound t
      → Sound (guard_with g.registers t)
  kept g t h s u = record {
    operations = u.operations;
    registers = below_more g.next t.next g.registers h s.registers;
  }

  variable_after : (x : ℕ) (held : Held) (g : Guarded) → register_in held x < g.next → Sound g
      → After 1 g (guard_with (g.registers ++ register_in held x ∷ []) g)
  variable_after x held g h s = record {
    rises = omega arith;
    sound = record {
      operations = s.operations;
      registers = below_push g.next g.registers (register_in held x) s.registers h;
    };
    many = length-append g.registers (register_in held x ∷ []);
  }

  mutual
    pub guarded_sound : (e : Expression) (held : Held) (g : Guarded) → HasGuardForms e
        → IsKnown arities (variables_of held) [] 1 e → IsInBounds e → HeldBelow g.next held
        → Sound g → After 1 g (guarded e held g)
    guarded_sound (r.Int n) held g f k b h s = constant_after (constant.Int n) g b s
    guarded_sound (r.Atom a) held g f k b h s = constant_after (constant.Atom a) g tt s
    guarded_sound r.Nil held g f k b h s = constant_after constant.Nil g tt s
    guarded_sound (r.Variable x) held g f k b h s =
        variable_after x held g (found_below g.next x held k.1 h) s
    guarded_sound (r.Call (r.BuiltIn c) es) held g f k b h s =
        let t = all_guarded es held (guard_with [] g) in
        let a = all_guarded_sound es held (guard_with [] g) f k.2 b.1 h (cleared g s) in
        let m = a.many in
        let count : length t.registers ≡ expression_count es = omega (arith, m) in
        operation_after (λ out. op.Bif out c t.registers) g t a.rises s.registers a.sound
        (λ n less. (
          omega (arith, less),
          below_more t.next n t.registers (omega (arith, less)) a.sound.registers,
          count ∙ bif_takes c (expression_count es) k.1,
        ))
    guarded_sound (r.Let [] e d) held g f k b h s =
        absurd (no_value (guard_one arities e _ [] zero f.0 k.0))
    guarded_sound (r.Let (x ∷ []) e d) held g f k b h s =
        let t = guarded e held (guard_with [] g) in
        let a = guarded_sound e held (guard_with [] g) f.0 k.0 b.0 h (cleared g s) in
        let inside = (x, first t.registers) ∷ held in
        let m = a.many in
        let one : 1 ≤ length t.registers = omega (arith, m) in
        let before = a.rises in
        let v = guarded_sound d inside (guard_with g.registers t) f.1 k.1 b.1 (
          first_below t.next t.registers one a.sound.registers,
          held_more g.next t.next held before h,
        ) (kept g t before s a.sound) in
        let behind = v.rises in record {
          rises = omega (arith, before, behind);
          sound = v.sound;
          many = v.many;
        }
    guarded_sound (r.Let (x ∷ y ∷ xs) e d) held g f k b h s =
        absurd (two_values (length xs) (guard_one arities e _ [] (suc (suc (length xs))) f.0 k.0))
    guarded_sound _ held g f k b h s = absurd f

    all_guarded_sound : (es : Expressions) (held : Held) (g : Guarded) → HaveGuardForms es
        → AreKnown arities (variables_of held) [] es → AreInBounds es → HeldBelow g.next held
        → Sound g → After (expression_count es) g (all_guarded es held g)
    all_guarded_sound NoExpressions held g f k b h s = record {
      rises = omega arith;
      sound = s;
      many = omega arith;
    }
    all_guarded_sound (MoreExpressions e es) held g f k b h s =
        let t = guarded e held g in
        let a = guarded_sound e held g f.0 k.0 b.0 h s in
        let v = all_guarded_sound es held t f.1 k.1 b.1 (held_more g.next t.next held a.rises h)
        a.sound in
        let before = a.rises in
        let behind = v.rises in
        let one = a.many in
        let others = v.many in record {
          rises = omega (arith, before, behind);
          sound = v.sound;
          many = counted (length (all_guarded es held t).registers) (length t.registers)
              (length g.registers) (expression_count es) others one;
        }
