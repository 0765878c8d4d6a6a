-- The operations that are written for a guard are its own.
use Rattle.std.proofs.Common.{◌≡◌, ℕ, zero, suc, ◌+◌, List, [], ◌∷◌, ◌++◌, length, Bool, true}
use Rattle.std.proofs.Common.{false}
use Rattle.std.proofs.Common.{true≢false, Some, refl, sym, ap, ◌∙◌, subst, arith}
use Rattle.std.specs.Prelude.{◌==◌, ◌||◌, if◌then◌else◌, unwrap_or}
use Rattle.hy_core.specs.declared.bif.Bif.{Bif}
use Rattle.hy_core.specs.KnownTrees.{HasGuardForms, HaveGuardForms, IsKnown, AreKnown}
use Rattle.hy_core.specs.Resolved as r
use Rattle.hy_core.specs.Resolved.{Expression, Expressions, NoExpressions, MoreExpressions}
use Rattle.hy_core.specs.Scopes.{Scope, is_bound}
use Rattle.hy_core.specs.declared.tree.FunName.{FunName}
use Rattle.hy_ir.specs.declared.code.Constant.{Constant}
use Rattle.hy_ir.specs.declared.code.Constant.TheVariants as constant
use Rattle.hy_ir.specs.declared.code.Op.{Op}
use Rattle.hy_ir.specs.declared.code.Op.TheVariants as op
use Rattle.program_code.specs.GuardOperations.{GuardOf, guard_int, guard_atom, guard_nil}
use Rattle.program_code.specs.GuardOperations.{guard_variable, guard_bif, guard_let, GuardsOf}
use Rattle.program_code.specs.GuardOperations.{guards_none, guards_more}
use Rattle.program_code.specs.HeldRegisters.{Held, register_of}
use Rattle.program_code.specs.WrittenRegisters.{operations_write}
use Rattle.program_code.proofs.GuardLemmas.{operations_append}
use Rattle.lowered_code.specs.Builder.{first, registers_from}
use Rattle.lowered_code.specs.LoweredGuards.{Guarded, register_in, guard_with, operation_in}
use Rattle.lowered_code.specs.LoweredGuards.{guarded, all_guarded}
use Rattle.lowered_code.proofs.Appending.{grown_more, grown_none, outs_more, moved_more, moved_none}
use Rattle.lowered_code.proofs.Tests.{variables_of}

-- a variable that is bound has its register
pub found : (x : ℕ) (held : Held) → is_bound x (variables_of held) ≡ true
    → register_of x held ≡ Some (register_in held x)
found x [] h = absurd (true≢false (sym h))
found x (b ∷ held) h = go (found x held) (x == b.0) h
  where
    go : (is_bound x (variables_of held) ≡ true
        → register_of x held ≡ Some (register_in held x)) → (c : Bool)
        → (c || is_bound x (variables_of held)) ≡ true
        → (if c then Some b.1 else register_of x held)
        ≡ Some (unwrap_or (if c then Some b.1 else register_of x held) 0)
    go others true p = refl
    go others false p = others p

pub record GuardWrote (held : Held) (e : Expression) (g h : Guarded) : Type 0 where
  pub added : List Op
  pub value : ℕ
  pub new : ℕ
  pub grown : h.operations ≡ g.operations ++ added
  pub kept : h.registers ≡ g.registers ++ value ∷ []
  pub code : GuardOf held e added value
  pub outs : operations_write added ≡ registers_from g.next new
  pub moved : h.next ≡ g.next + new

pub record GuardsWrote (held : Held) (es : Expressions) (g h : Guarded) : Type 0 where
  pub added : List Op
  pub new : ℕ
  pub grown : h.operations ≡ g.operations ++ added
  pub code : GuardsOf held g.registers es added h.registers
  pub outs : operations_write added ≡ registers_from g.next new
  pub moved : h.next ≡ g.next + new

constant_wrote : (held : Held) (e : Expression) (value : Constant) (g : Guarded)
    → ((out : ℕ) → GuardOf held e (op.Const out value ∷ []) out)
    → GuardWrote held e g (operation_in (λ out. op.Const out value) g.registers g)
constant_wrote held e value g d = record {
  added = op.Const g.next value ∷ [];
  value = g.next;
  new = 1;
  grown = refl;
  kept = refl;
  code = d g.next;
  outs = refl;
  moved = refl;
}

bif_wrote : (held : Held) (b : Bif) (es : Expressions) (g t : Guarded)
    → GuardsWrote held es (guard_with [] g) t
    → GuardWrote held (r.Call (r.BuiltIn b) es) g
    (operation_in (λ out. op.Bif out b t.registers) g.registers t)
bif_wrote held b es g t h =
    let o = op.Bif t.next b t.registers in record {
      added = h.added ++ o ∷ [];
      value = t.next;
      new = h.new + 1;
      grown = grown_more g.operations t.operations (t.operations ++ o ∷ []) h.added (o ∷ []) h.grown
          refl;
      kept = refl;
      code = guard_bif h.code;
      outs = operations_append h.added (o ∷ []) ∙ outs_more (operations_write h.added)
          (t.next ∷ []) g.next h.new 1 t.next h.outs refl h.moved;
      moved = moved_more g.next h.new 1 t.next (t.next + 1) h.moved refl;
    }

let_wrote : (held : Held) (x : ℕ) (e b : Expression) (g t v : Guarded)
    → GuardWrote held e (guard_with [] g) t
    → GuardWrote ((x, first t.registers) ∷ held) b (guard_with g.registers t) v
    → GuardWrote held (r.Let (x ∷ []) e b) g v
let_wrote held x e b g t v h m = record {
  added = h.added ++ m.added;
  value = m.value;
  new = h.new + m.new;
  grown = grown_more g.operations t.operations v.operations h.added m.added h.grown m.grown;
  kept = m.kept;
  code = guard_let (subst (GuardOf held e h.added) (sym (ap first h.kept)) h.code) m.code;
  outs = operations_append h.added m.added ∙ outs_more (operations_write h.added)
      (operations_write m.added) g.next h.new m.new t.next h.outs m.outs h.moved;
  moved = moved_more g.next h.new m.new t.next v.next h.moved m.moved;
}

one_and_more : (held : Held) (e : Expression) (es : Expressions) (g t v : Guarded)
    → GuardWrote held e g t → GuardsWrote held es t v
    → GuardsWrote held (MoreExpressions e es) g v
one_and_more held e es g t v h m = record {
  added = h.added ++ m.added;
  new = h.new + m.new;
  grown = grown_more g.operations t.operations v.operations h.added m.added h.grown m.grown;
  code = guards_more h.code
      (subst (λ done. GuardsOf held done es m.added v.registers) h.kept m.code);
  outs = operations_append h.added m.added ∙ outs_more (operations_write h.added)
      (operations_write m.added) g.next h.new m.new t.next h.outs m.outs h.moved;
  moved = moved_more g.next h.new m.new t.next v.next h.moved m.moved;
}

pub no_value : zero ≡ suc zero → ⊥
no_value h = cc

pub two_values : (n : ℕ) → suc (suc n) ≡ 1 → ⊥
two_values n h = omega (arith, h)

module _ (arities : List ℕ) where
  -- a guard gives one value
  pub guard_one : (e : Expression) (scope : Scope) (locals : List FunName) (n : ℕ) → HasGuardForms e
      → IsKnown arities scope locals n e → n ≡ 1
  guard_one (r.Int m) scope locals n f k = k
  guard_one (r.Atom a) scope locals n f k = k
  guard_one r.Nil scope locals n f k = k
  guard_one (r.Variable x) scope locals n f k = k.0
  guard_one (r.Let xs e b) scope locals n f k = guard_one b _ locals n f.1 k.1
  guard_one (r.Call (r.BuiltIn b) es) scope locals n f k = k.0
  guard_one _ scope locals n f k = absurd f

  mutual
    pub guarded_meets : (e : Expression) (held : Held) (g : Guarded) → HasGuardForms e
        → IsKnown arities (variables_of held) [] 1 e
        → GuardWrote held e g (guarded e held g)
    guarded_meets (r.Int n) held g f k =
        constant_wrote held (r.Int n) (constant.Int n) g (λ out. guard_int)
    guarded_meets (r.Atom a) held g f k =
        constant_wrote held (r.Atom a) (constant.Atom a) g (λ out. guard_atom)
    guarded_meets r.Nil held g f k =
        constant_wrote held r.Nil constant.Nil g (λ out. guard_nil)
    guarded_meets (r.Variable x) held g f k = record {
      added = [];
      value = register_in held x;
      new = 0;
      grown = grown_none g.operations;
      kept = refl;
      code = guard_variable (found x held k.1);
      outs = refl;
      moved = moved_none g.next;
    }
    guarded_meets (r.Call (r.BuiltIn b) es) held g f k =
        bif_wrote held b es g (all_guarded es held (guard_with [] g))
        (all_guarded_meet es held (guard_with [] g) f k.2)
    guarded_meets (r.Let [] e b) held g f k = absurd (no_value (guard_one e _ [] zero f.0 k.0))
    guarded_meets (r.Let (x ∷ []) e b) held g f k =
        let t = guarded e held (guard_with [] g) in
        let inside = (x, first t.registers) ∷ held in
        let_wrote held x e b g t (guarded b inside (guard_with g.registers t))
        (guarded_meets e held (guard_with [] g) f.0 k.0)
        (guarded_meets b inside (guard_with g.registers t) f.1 k.1)
    guarded_meets (r.Let (x ∷ y ∷ xs) e b) held g f k =
        absurd (two_values (length xs) (guard_one e _ [] (suc (suc (length xs))) f.0 k.0))
    guarded_meets _ held g f k = absurd f

    pub all_guarded_meet : (es : Expressions) (held : Held) (g : Guarded) → HaveGuardForms es
        → AreKnown arities (variables_of held) [] es
        → GuardsWrote held es g (all_guarded es held g)
    all_guarded_meet NoExpressions held g f k = record {
      added = [];
      new = 0;
      grown = grown_none g.operations;
      code = guards_none;
      outs = refl;
      moved = moved_none g.next;
    }
    all_guarded_meet (MoreExpressions e es) held g f k =
        let t = guarded e held g in
        one_and_more held e es g t (all_guarded es held t) (guarded_meets e held g f.0 k.0)
        (all_guarded_meet es held t f.1 k.1)
