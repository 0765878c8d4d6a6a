-- The operations of a guard: parts before the whole, from left to right. This project's own.
use Rattle.std.specs.Prelude.{◌≡◌, ℕ, ℤ, List, [], ◌∷◌, ◌++◌, Some}
use Rattle.hy_core.specs.declared.bif.Bif.{Bif}
use Rattle.hy_core.specs.Resolved as r
use Rattle.hy_core.specs.Resolved.{Expression, Expressions, NoExpressions, MoreExpressions}
use Rattle.hy_ir.specs.declared.code.Constant.TheVariants as constant
use Rattle.hy_ir.specs.declared.code.Op.{Op}
use Rattle.hy_ir.specs.declared.code.Op.TheVariants as op
use Rattle.program_code.specs.HeldRegisters.{Held, register_of, Between}

mutual
  -- the operations leave the value of the guard in the register
  pub data GuardOf : Held → Expression → List Op → ℕ → Type 0 where
    guard_int : {held : Held} {n : ℤ} {out : ℕ}
        → GuardOf held (r.Int n) (op.Const out (constant.Int n) ∷ []) out
    guard_atom : {held : Held} {a out : ℕ}
        → GuardOf held (r.Atom a) (op.Const out (constant.Atom a) ∷ []) out
    guard_nil : {held : Held} {out : ℕ} → GuardOf held r.Nil (op.Const out constant.Nil ∷ []) out
    guard_variable : {held : Held} {x from : ℕ} → register_of x held ≡ Some from
        → GuardOf held (r.Variable x) [] from
    guard_bif : {held : Held} {b : Bif} {es : Expressions} {os : List Op} {rs : List ℕ} {out : ℕ}
        → GuardsOf held [] es os rs
        → GuardOf held (r.Call (r.BuiltIn b) es) (os ++ op.Bif out b rs ∷ []) out
    guard_let : {held : Held} {x from out : ℕ} {e b : Expression} {os us : List Op}
        → GuardOf held e os from → GuardOf ((x, from) ∷ held) b us out
        → GuardOf held (r.Let (x ∷ []) e b) (os ++ us) out
    -- further constants and moves may stand before a guard and behind it
    guard_behind : {held held' : Held} {e : Expression} {o : Op} {os : List Op} {out : ℕ}
        → Between o held [] held' [] → GuardOf held' e os out → GuardOf held e (o ∷ os) out
    guard_before : {held : Held} {e : Expression} {o : Op} {os : List Op} {from out : ℕ}
        → GuardOf held e os from → Between o held (from ∷ []) held (out ∷ [])
        → GuardOf held e (os ++ o ∷ []) out

  -- parts, of which some are done already: the registers of all
  pub data GuardsOf : Held → (done : List ℕ) → Expressions → List Op → List ℕ → Type 0 where
    guards_none : {held : Held} {done : List ℕ} → GuardsOf held done NoExpressions [] done
    guards_more : {held : Held} {done : List ℕ} {e : Expression} {es : Expressions}
        {os us : List Op} {from : ℕ} {rs : List ℕ} → GuardOf held e os from
        → GuardsOf held (done ++ from ∷ []) es us rs
        → GuardsOf held done (MoreExpressions e es) (os ++ us) rs
    guards_between : {held held' : Held} {done done' : List ℕ} {es : Expressions} {o : Op}
        {os : List Op} {rs : List ℕ} → Between o held done held' done'
        → GuardsOf held' done' es os rs → GuardsOf held done es (o ∷ os) rs
