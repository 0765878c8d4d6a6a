-- Environments and the registers of their variables, and operations between pieces.
use Rattle.std.proofs.Common.{◌≡◌, ℕ, List, [], ◌∷◌, map, Bool, true, false, Some, refl, sym, ap}
use Rattle.std.proofs.Common.{◌∙◌, subst}
use Rattle.std.specs.Prelude.{◌==◌, if◌then◌else◌}
use Rattle.std.proofs.lemmas.Option.{none-some, same_Some}
use Rattle.hy_terms.specs.Labelled.{Labelled, erase}
use Rattle.hy_terms.specs.declared.term.Colour.{Colour}
use Rattle.hy_core.specs.declared.class.Class.{Class}
use Rattle.hy_core.specs.Match.{Env, Empty, Bound, Locals, lookup, bind_variables}
use Rattle.hy_ir.specs.Accepting.{constant_value, guard_done}
use Rattle.hy_ir.specs.Code.{Code}
use Rattle.hy_ir.specs.Meaning.{Doing, operation}
use Rattle.hy_ir.specs.Registers.{Registers, set, gets}
use Rattle.hy_ir.specs.declared.code.Op.{Op}
use Rattle.program_code.specs.HeldRegisters.{Held, register_of, holding, Moved, moved_none, stays}
use Rattle.program_code.specs.HeldRegisters.{moves, MovedHeld, held_none, held_stays, held_moves}
use Rattle.program_code.specs.HeldRegisters.{Between, a_const, a_move}
use Rattle.program_code.specs.WrittenRegisters.{out_of}
use Rattle.lifted_program.proofs.Variables.{Out, AllOut}
use Rattle.program_code.proofs.RegisterLemmas.{Keeps, set_same, set_other, keeps_set}

abbrev pub registers_of : Held → List ℕ
registers_of [] = []
registers_of (b ∷ held) = b.1 ∷ registers_of held

-- each variable's term is in its register
abbrev pub Agree : Env → Held → Registers → Type 0
Agree Empty [] regs = Unit {0}
Agree (Bound x t env) (b ∷ held) regs = (b.0 ≡ x) × (erase (regs b.1) ≡ t) × Agree env held regs
Agree _ _ regs = ⊥

pub agree_keep : (env : Env) (held : Held) (ws : List ℕ) (regs regs' : Registers)
    → Agree env held regs → AllOut (registers_of held) ws → Keeps ws regs regs'
    → Agree env held regs'
agree_keep Empty [] ws regs regs' h o k = tt
agree_keep (Bound x t env) (b ∷ held) ws regs regs' h o k =
    (h.0, ap erase (k b.1 o.0) ∙ h.1, agree_keep env held ws regs regs' h.2 o.1 k)
agree_keep _ _ ws regs regs' h o k = absurd h

pub agree_look : (x : ℕ) (env : Env) (held : Held) (regs : Registers) → Agree env held regs
    → (r : ℕ) → register_of x held ≡ Some r → lookup x env ≡ Some (erase (regs r))
agree_look x Empty [] regs h r e = absurd (none-some _ e)
agree_look x (Bound y t env) (b ∷ held) regs h r e =
    go (agree_look x env held regs h.2 r) (x == y)
    (subst (λ z. (if x == z then Some b.1 else register_of x held) ≡ Some r) h.0 e)
  where
    go : (register_of x held ≡ Some r → lookup x env ≡ Some (erase (regs r))) → (c : Bool)
        → (if c then Some b.1 else register_of x held) ≡ Some r
        → (if c then Some t else lookup x env) ≡ Some (erase (regs r))
    go rest true p = ap Some (sym h.1 ∙ ap (λ q. erase (regs q)) (same_Some b.1 r p))
    go rest false p = rest p
agree_look x _ _ regs h r e = absurd h

pub agree_bind : (xs rs : List ℕ) (env : Env) (held inside : Held) (regs : Registers)
    → holding xs rs held ≡ Some inside → Agree env held regs
    → (env' : Env) × (bind_variables xs (map erase (gets rs regs)) env ≡ Some env') × Agree env'
    inside regs
agree_bind [] [] env held inside regs e h =
    (env, refl, subst (λ c. Agree env c regs) (same_Some held inside e) h)
agree_bind (x ∷ xs) (r ∷ rs) env held inside regs e h = agree_bind xs rs
    (Bound x (erase (regs r)) env) ((x, r) ∷ held) inside regs e (refl, refl, h)
agree_bind [] (r ∷ rs) env held inside regs e h = absurd (none-some _ e)
agree_bind (x ∷ xs) [] env held inside regs e h = absurd (none-some _ e)

pub all_bind : (xs rs : List ℕ) (held inside : Held) (ws : List ℕ)
    → holding xs rs held ≡ Some inside → AllOut (registers_of held) ws → AllOut rs ws
    → AllOut (registers_of inside) ws
all_bind [] [] held inside ws e h o = subst (λ c. AllOut (registers_of c) ws)
    (same_Some held inside e) h
all_bind (x ∷ xs) (r ∷ rs) held inside ws e h o = all_bind xs rs ((x, r) ∷ held) inside ws e
    (o.0, h) o.1
all_bind [] (r ∷ rs) held inside ws e h o = absurd (none-some _ e)
all_bind (x ∷ xs) [] held inside ws e h o = absurd (none-some _ e)

pub all_look : (x : ℕ) (held : Held) (ws : List ℕ) (r : ℕ) → register_of x held ≡ Some r
    → AllOut (registers_of held) ws → Out r ws
all_look x [] ws r e h = absurd (none-some _ e)
all_look x (b ∷ held) ws r e h = go (λ p. all_look x held ws r p h.1) (x == b.0) e
  where
    go : (register_of x held ≡ Some r → Out r ws) → (c : Bool)
        → (if c then Some b.1 else register_of x held) ≡ Some r → Out r ws
    go rest true p = subst (λ q. Out q ws) (same_Some b.1 r p) h.0
    go rest false p = rest p

-- moves

all_moved : {out from : ℕ} {rs ss : List ℕ} → Moved out from rs ss → (ws : List ℕ) → AllOut rs ws
    → Out out ws → AllOut ss ws
all_moved moved_none ws h o = tt
all_moved (stays m) ws h o = (h.0, all_moved m ws h.1 o)
all_moved (moves m) ws h o = (o, all_moved m ws h.1 o)

all_moved_held : {out from : ℕ} {bs cs : Held} → MovedHeld out from bs cs → (ws : List ℕ)
    → AllOut (registers_of bs) ws → Out out ws → AllOut (registers_of cs) ws
all_moved_held held_none ws h o = tt
all_moved_held (held_stays m) ws h o = (h.0, all_moved_held m ws h.1 o)
all_moved_held (held_moves m) ws h o = (o, all_moved_held m ws h.1 o)

gets_moved : {out from : ℕ} {rs ss : List ℕ} → Moved out from rs ss → (regs : Registers)
    → AllOut rs (out ∷ []) → gets ss (set out (regs from) regs) ≡ gets rs regs
gets_moved moved_none regs h = refl
gets_moved {out} {from} (stays {r = r} m) regs h = λ i. set_other out r (regs from) regs h.0.0 i
    ∷ gets_moved m regs h.1 i
gets_moved {out} {from} (moves m) regs h = λ i. set_same out (regs from) regs i ∷ gets_moved m regs
    h.1 i

agree_moved : {out from : ℕ} {bs cs : Held} → MovedHeld out from bs cs
    → (env : Env) (regs : Registers) → AllOut (registers_of bs) (out ∷ []) → Agree env bs regs
    → Agree env cs (set out (regs from) regs)
agree_moved held_none Empty regs o h = tt
agree_moved {out} {from} (held_stays {b = b} m) (Bound x t env) regs o h =
    (h.0, ap erase (set_other out b.1 (regs from) regs o.0.0) ∙ h.1, agree_moved m env regs o.1 h.2)
agree_moved {out} {from} (held_moves m) (Bound x t env) regs o h =
    (h.0, ap erase (set_same out (regs from) regs) ∙ h.1, agree_moved m env regs o.1 h.2)
agree_moved held_none (Bound x t env) regs o h = absurd h
agree_moved held_none (Locals fs env) regs o h = absurd h
agree_moved (held_stays m) Empty regs o h = absurd h
agree_moved (held_stays m) (Locals fs env) regs o h = absurd h
agree_moved (held_moves m) Empty regs o h = absurd h
agree_moved (held_moves m) (Locals fs env) regs o h = absurd h

gets_set : (rs : List ℕ) (out : ℕ) (t : Labelled) (regs : Registers) → AllOut rs (out ∷ [])
    → gets rs (set out t regs) ≡ gets rs regs
gets_set [] out t regs h = refl
gets_set (r ∷ rs) out t regs h = λ i. set_other out r t regs h.0.0 i ∷ gets_set rs out t regs h.1 i

-- an operation between pieces: the registers behind it

abbrev pub filled : {o : Op} {held held' : Held} {done done' : List ℕ}
    → Between o held done held' done' → Registers → Registers
filled (a_const {out = out} {value = value}) regs = set out (constant_value value) regs
filled (a_move {out = out} {from = from} m n) regs = set out (regs from) regs

pub filled_keeps : {o : Op} {held held' : Held} {done done' : List ℕ}
    (b : Between o held done held' done') (regs : Registers)
    → Keeps (out_of o ∷ []) regs (filled b regs)
filled_keeps (a_const {out = out} {value = value}) regs = keeps_set out (constant_value value) regs
filled_keeps (a_move {out = out} {from = from} m n) regs = keeps_set out (regs from) regs

pub filled_agree : {o : Op} {held held' : Held} {done done' : List ℕ}
    (b : Between o held done held' done') (env : Env) (regs : Registers)
    → AllOut (registers_of held) (out_of o ∷ []) → Agree env held regs
    → Agree env held' (filled b regs)
filled_agree (a_const {out = out} {value = value} {held = held}) env regs o h = agree_keep env held
    (out ∷ []) regs (set out (constant_value value) regs) h o
    (keeps_set out (constant_value value) regs)
filled_agree (a_move m n) env regs o h = agree_moved m env regs o h

pub filled_gets : {o : Op} {held held' : Held} {done done' : List ℕ}
    (b : Between o held done held' done') (regs : Registers) → AllOut done (out_of o ∷ [])
    → gets done' (filled b regs) ≡ gets done regs
filled_gets (a_const {out = out} {value = value} {done = done}) regs o = gets_set done out
    (constant_value value) regs o
filled_gets (a_move m n) regs o = gets_moved n regs o

pub held_behind : {o : Op} {held held' : Held} {done done' : List ℕ}
    → Between o held done held' done' → (ws : List ℕ) → AllOut (registers_of held) ws
    → Out (out_of o) ws → AllOut (registers_of held') ws
held_behind a_const ws h o = h
held_behind (a_move m n) ws h o = all_moved_held m ws h o

pub done_behind : {o : Op} {held held' : Held} {done done' : List ℕ}
    → Between o held done held' done' → (ws : List ℕ) → AllOut done ws → Out (out_of o) ws
    → AllOut done' ws
done_behind a_const ws h o = h
done_behind (a_move m n) ws h o = all_moved n ws h o

-- it does nothing else, outside guards and in them

pub filled_done : {o : Op} {held held' : Held} {done done' : List ℕ}
    (b : Between o held done held' done') (code : Code) (place : ℕ → Colour) (pid : ℕ)
    (regs : Registers) (k : Registers → Doing) (h : Class → Labelled → Registers → Doing)
    → operation code place pid o regs k h ≡ k (filled b regs)
filled_done a_const code place pid regs k h = refl
filled_done (a_move m n) code place pid regs k h = refl

pub filled_guard : {o : Op} {held held' : Held} {done done' : List ℕ}
    (b : Between o held done held' done') (atoms : List (List ℕ)) (pid : ℕ) (regs : Registers)
    → guard_done atoms pid o regs ≡ Some (filled b regs)
filled_guard a_const atoms pid regs = refl
filled_guard (a_move m n) atoms pid regs = refl
