-- Which registers hold what, and the operations that may stand between pieces of code. This
-- project's own.
use Rattle.std.specs.Prelude.{ℕ, ◌==◌, List, [], ◌∷◌, Option, Some, None, if◌then◌else◌}
use Rattle.hy_ir.specs.declared.code.Constant.{Constant}
use Rattle.hy_ir.specs.declared.code.Op.{Op}
use Rattle.hy_ir.specs.declared.code.Op.TheVariants as op

-- the register of each variable in scope, the last bound first
abbrev pub Held : Type 0
Held = List (ℕ × ℕ)

-- a variable's register, by its innermost binding
abbrev pub register_of : ℕ → Held → Option ℕ
register_of x [] = None
register_of x (b ∷ held) = if x == b.0 then Some b.1 else register_of x held

-- variables are bound to registers, one after another: as many as there are
abbrev pub holding : (variables registers : List ℕ) → Held → Option Held
holding [] [] held = Some held
holding [] (r ∷ rs) held = None
holding (x ∷ xs) [] held = None
holding (x ∷ xs) (r ∷ rs) held = holding xs rs ((x, r) ∷ held)

-- out was filled from the other register: some values that were in this one are now read from out
pub data Moved (out from : ℕ) : List ℕ → List ℕ → Type 0 where
  moved_none : Moved out from [] []
  stays : {r : ℕ} {rs ss : List ℕ} → Moved out from rs ss → Moved out from (r ∷ rs) (r ∷ ss)
  moves : {rs ss : List ℕ} → Moved out from rs ss → Moved out from (from ∷ rs) (out ∷ ss)

-- the same of variables
pub data MovedHeld (out from : ℕ) : Held → Held → Type 0 where
  held_none : MovedHeld out from [] []
  held_stays : {b : ℕ × ℕ} {bs cs : Held} → MovedHeld out from bs cs
      → MovedHeld out from (b ∷ bs) (b ∷ cs)
  held_moves : {x : ℕ} {bs cs : Held} → MovedHeld out from bs cs
      → MovedHeld out from ((x, from) ∷ bs) ((x, out) ∷ cs)

-- An operation that may stand between pieces: where the variables and the values of the parts that
-- are done are before it and behind it.
pub data Between : Op → Held → List ℕ → Held → List ℕ → Type 0 where
  a_const : {out : ℕ} {value : Constant} {held : Held} {done : List ℕ}
      → Between (op.Const out value) held done held done
  a_move : {out from : ℕ} {held held' : Held} {done done' : List ℕ} → MovedHeld out from held held'
      → Moved out from done done' → Between (op.Move out from) held done held' done'
