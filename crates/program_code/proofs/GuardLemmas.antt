-- The operations of a guard give what the guard gives.
use Rattle.std.proofs.Common.{◌≡◌, ℕ, List, [], ◌∷◌, ◌++◌, map, Option, Some, None, refl, sym, ap}
use Rattle.std.proofs.Common.{◌∙◌, subst}
use Rattle.std.proofs.lemmas.List.{append_assoc, append-nil, map-append}
use Rattle.hy_terms.specs.Labelled as l
use Rattle.hy_terms.specs.Labelled.{Labelled, erase}
use Rattle.hy_terms.specs.Term.{Term}
use Rattle.hy_core.specs.BuiltIn.{Answer, answer}
use Rattle.hy_core.specs.Computation.{Give, Raise, Fault, bind}
use Rattle.hy_core.specs.Evaluation as evaluation
use Rattle.hy_core.specs.Evaluation.{Doing, single, in_env, value_of, holds, act_on, denote}
use Rattle.hy_core.specs.Evaluation.{denote_all}
use Rattle.hy_core.specs.Match.{Env, Bound, bind_variables}
use Rattle.hy_core.specs.Resolved as r
use Rattle.hy_core.specs.Resolved.{Expression, Expressions, NoExpressions, MoreExpressions}
use Rattle.hy_ir.specs.Accepting.{and_then, constant_value, set_answer, is_true, guard_done}
use Rattle.hy_ir.specs.Accepting.{all_guard_done}
use Rattle.hy_ir.specs.LabelledBuiltIns.{LabelledAnswer, Value, Raises, NoAnswer, labelled_answer}
use Rattle.hy_ir.specs.LabelledLaws.{erase_answer}
use Rattle.hy_ir.specs.Registers.{Registers, set, gets}
use Rattle.hy_ir.specs.declared.code.Constant.{Constant}
use Rattle.hy_ir.specs.declared.code.Constant.TheVariants as constant
use Rattle.hy_ir.specs.declared.code.Op.{Op}
use Rattle.hy_ir.specs.declared.code.Op.TheVariants as op
use Rattle.hy_ir.proofs.Erasing.{answers_erased}
use Rattle.program_code.specs.GuardOperations.{GuardOf, guard_int, guard_atom, guard_nil}
use Rattle.program_code.specs.GuardOperations.{guard_variable, guard_bif, guard_let, guard_behind}
use Rattle.program_code.specs.GuardOperations.{guard_before, GuardsOf, guards_none, guards_more}
use Rattle.program_code.specs.GuardOperations.{guards_between}
use Rattle.program_code.specs.HeldRegisters.{Held, Between}
use Rattle.program_code.specs.WrittenRegisters.{out_of, operations_write}
use Rattle.lifted_program.proofs.Variables.{Out, AllOut, out_left, out_right, all_out_append}
use Rattle.program_code.proofs.RegisterLemmas.{NoTwice, Keeps, set_same, keeps_set, keeps_on}
use Rattle.program_code.proofs.RegisterLemmas.{gets_keep, gets_append, all_front, all_back}
use Rattle.program_code.proofs.RegisterLemmas.{twice_front, twice_back, twice_apart}
use Rattle.program_code.proofs.HeldLemmas.{registers_of, Agree, agree_keep, agree_look, all_look}
use Rattle.program_code.proofs.HeldLemmas.{filled, filled_keeps, filled_agree, filled_gets}
use Rattle.program_code.proofs.HeldLemmas.{filled_guard, held_behind, done_behind}

-- the values that come behind, and the registers: an operation that raises gives neither
abbrev pub Guards : (before : List Term) → List ℕ → List ℕ → Registers → Doing → Option Registers
    → Type 0
Guards before rs ws regs (Give ts) (Some regs') = (map erase (gets rs regs') ≡ before ++ ts) × Keeps
    ws regs regs'
Guards before rs ws regs (Raise c t) None = Unit {0}
Guards before rs ws regs Fault None = Unit {0}
Guards before rs ws regs _ _ = ⊥

guards_then : (before : List Term) (rs ss v w : List ℕ) (regs : Registers) (p : Doing)
    (o : Option Registers) (f : List Term → Doing) (g : Registers → Option Registers)
    → Guards [] rs v regs p o → ((regs' : Registers) → Keeps v regs regs'
    → Guards before ss w regs' (f (map erase (gets rs regs'))) (g regs'))
    → Guards before ss (v ++ w) regs (bind p f) (and_then o g)
guards_then before rs ss v w regs (Give ts) (Some regs') f g h k =
    go (f ts) (g regs') (subst (λ us. Guards before ss w regs' (f us) (g regs')) h.0 (k regs' h.1))
  where
    go : (p : Doing) (o : Option Registers) → Guards before ss w regs' p o
        → Guards before ss (v ++ w) regs p o
    go (Give us) (Some regs'') m = (m.0, keeps_on v w regs regs' regs'' h.1 m.1)
    go (Raise c t) None m = tt
    go Fault None m = tt
    go _ _ m = absurd m
guards_then before rs ss v w regs (Raise c t) None f g h k = tt
guards_then before rs ss v w regs Fault None f g h k = tt
guards_then before rs ss v w regs _ _ f g h k = absurd h

pub operations_append : (os us : List Op)
    → operations_write (os ++ us) ≡ operations_write os ++ operations_write us
operations_append [] us = refl
operations_append (o ∷ os) us = ap (◌∷◌ (out_of o)) (operations_append os us)

-- the registers of the values are those of variables, or written
mutual
  guard_inside : {held : Held} {g : Expression} {os : List Op} {out : ℕ} → GuardOf held g os out
      → (ws : List ℕ) → AllOut (registers_of held) ws → AllOut (operations_write os) ws → Out out ws
  guard_inside guard_int ws h a = a.0
  guard_inside guard_atom ws h a = a.0
  guard_inside guard_nil ws h a = a.0
  guard_inside (guard_variable {held = held} {x = x} {from = from} e) ws h a = all_look x held ws
      from e h
  guard_inside (guard_bif {b = b} {os = os} {rs = rs} {out = out} ds) ws h a =
      (out_right (operations_write os) (out ∷ []) ws
      (subst (λ l. AllOut l ws) (operations_append os (op.Bif out b rs ∷ [])) a)).0
  guard_inside (guard_let {os = os} {us = us} d d') ws h a =
      let b = subst (λ l. AllOut l ws) (operations_append os us) a in
      guard_inside d' ws (
        guard_inside d ws h
            (out_left (operations_write os) (operations_write us) ws b),
        h,
      )
      (out_right (operations_write os) (operations_write us) ws b)
  guard_inside (guard_behind b d) ws h a = guard_inside d ws (held_behind b ws h a.0) a.1
  guard_inside (guard_before {o = o} {os = os} d b) ws h a =
      let c = subst (λ l. AllOut l ws) (operations_append os (o ∷ [])) a in
      (done_behind b ws (
        guard_inside d ws h (out_left (operations_write os) (out_of o ∷ []) ws c),
        tt,
      ) (out_right (operations_write os) (out_of o ∷ []) ws c).0).0

  guards_inside : {held : Held} {done : List ℕ} {es : Expressions} {os : List Op} {rs : List ℕ}
      → GuardsOf held done es os rs → (ws : List ℕ) → AllOut (registers_of held) ws → AllOut done ws
      → AllOut (operations_write os) ws → AllOut rs ws
  guards_inside guards_none ws h k a = k
  guards_inside (guards_more {done = done} {os = os} {us = us} {from = from} d ds) ws h k a =
      let b = subst (λ l. AllOut l ws) (operations_append os us) a in
      guards_inside ds ws h (all_out_append done (from ∷ []) ws k
      (guard_inside d ws h (out_left (operations_write os) (operations_write us) ws b), tt))
      (out_right (operations_write os) (operations_write us) ws b)
  guards_inside (guards_between b ds) ws h k a = guards_inside ds ws (held_behind b ws h a.0)
      (done_behind b ws k a.0) a.1

-- the value that comes next stands behind those that are done
pub with_done : (done : List ℕ) (from : ℕ) (regs regs' : Registers)
    → gets done regs' ≡ gets done regs
    → map erase (gets (done ++ from ∷ []) regs') ≡ map erase (gets done regs) ++ erase (regs' from)
    ∷ []
with_done done from regs regs' e =
    ap (map erase) (gets_append done (from ∷ []) regs') ∙ map-append erase (gets done regs')
    (regs' from ∷ [])
    ∙ ap (λ l. map erase l ++ erase (regs' from) ∷ []) e

module _ (atoms : List (List ℕ)) (pid : ℕ) where
  done_append : (os us : List Op) (regs : Registers)
      → all_guard_done atoms pid (os ++ us) regs ≡ and_then (all_guard_done atoms pid os regs)
      (all_guard_done atoms pid us)
  done_append [] us regs = refl
  done_append (o ∷ os) us regs = go (guard_done atoms pid o regs) (λ r. done_append os us r)
    where
      go : (m : Option Registers) → ((r : Registers)
          → all_guard_done atoms pid (os ++ us) r ≡ and_then (all_guard_done atoms pid os r)
          (all_guard_done atoms pid us))
          → and_then m (all_guard_done atoms pid (os ++ us)) ≡ and_then
          (and_then m (all_guard_done atoms pid os)) (all_guard_done atoms pid us)
      go None h = refl
      go (Some r) h = h r

  -- two lists of operations, one after the other
  guards_at : (before : List Term) (rs : List ℕ) (os us : List Op) (regs : Registers) (p : Doing)
      → Guards before rs (operations_write os ++ operations_write us) regs p
      (and_then (all_guard_done atoms pid os regs) (all_guard_done atoms pid us))
      → Guards before rs (operations_write (os ++ us)) regs p
      (all_guard_done atoms pid (os ++ us) regs)
  guards_at before rs os us regs p h =
      subst (λ l. Guards before rs l regs p (all_guard_done atoms pid (os ++ us) regs))
      (sym (operations_append os us))
      (subst (Guards before rs (operations_write os ++ operations_write us) regs p)
      (sym (done_append os us regs)) h)

  const_guard : (out : ℕ) (value : Constant) (regs : Registers)
      → Guards [] (out ∷ []) (out ∷ []) regs (Give (erase (constant_value value) ∷ []))
      (Some (set out (constant_value value) regs))
  const_guard out value regs = (
    ap (λ u. erase u ∷ []) (set_same out (constant_value value) regs),
    keeps_set out (constant_value value) regs,
  )

  bif_guard : (out : ℕ) (a : LabelledAnswer) (a' : Answer) (regs : Registers) → erase_answer a ≡ a'
      → Guards [] (out ∷ []) (out ∷ []) regs (evaluation.answered a')
      (and_then (set_answer out a regs) (all_guard_done atoms pid []))
  bif_guard out a a' regs e = subst
      (λ b. Guards [] (out ∷ []) (out ∷ []) regs (evaluation.answered b)
      (and_then (set_answer out a regs) (all_guard_done atoms pid []))) e (go a)
    where
      go : (a : LabelledAnswer) → Guards [] (out ∷ []) (out ∷ []) regs
          (evaluation.answered (erase_answer a))
          (and_then (set_answer out a regs) (all_guard_done atoms pid []))
      go (Value t) = (ap (λ u. erase u ∷ []) (set_same out t regs), keeps_set out t regs)
      go (Raises c t) = tt
      go NoAnswer = tt

  -- an operation between, before what follows
  filled_first : {o : Op} {held held' : Held} {done done' : List ℕ}
      (b : Between o held done held' done') (before : List Term) (rs : List ℕ) (os : List Op)
      (regs : Registers) (p : Doing)
      → Guards before rs (operations_write os) (filled b regs) p
      (all_guard_done atoms pid os (filled b regs))
      → Guards before rs (operations_write (o ∷ os)) regs p (all_guard_done atoms pid (o ∷ os) regs)
  filled_first {o} b before rs os regs p h =
      subst (λ m. Guards before rs (out_of o ∷ operations_write os) regs p
      (and_then m (all_guard_done atoms pid os))) (sym (filled_guard b atoms pid regs))
      (go p (all_guard_done atoms pid os (filled b regs)) h)
    where
      go : (p : Doing) (m : Option Registers)
          → Guards before rs (operations_write os) (filled b regs) p m
          → Guards before rs (out_of o ∷ operations_write os) regs p m
      go (Give ts) (Some regs'') g = (
        g.0,
        keeps_on (out_of o ∷ []) (operations_write os) regs (filled b regs) regs''
            (filled_keeps b regs) g.1,
      )
      go (Raise c t) None g = tt
      go Fault None g = tt
      go _ _ g = absurd g

  -- and behind it
  filled_last : {o : Op} {held : Held} {from out : ℕ}
      (b : Between o held (from ∷ []) held (out ∷ [])) (os : List Op) (regs : Registers) (p : Doing)
      → Out from (out_of o ∷ []) → Guards [] (from ∷ []) (operations_write os) regs p
      (all_guard_done atoms pid os regs)
      → Guards [] (out ∷ []) (operations_write (os ++ o ∷ [])) regs p
      (all_guard_done atoms pid (os ++ o ∷ []) regs)
  filled_last {o} {held} {from} {out} b os regs p away h =
      guards_at [] (out ∷ []) os (o ∷ []) regs p (go p (all_guard_done atoms pid os regs) h)
    where
      go : (p : Doing) (m : Option Registers) → Guards [] (from ∷ []) (operations_write os) regs p m
          → Guards [] (out ∷ []) (operations_write os ++ out_of o ∷ []) regs p
          (and_then m (all_guard_done atoms pid (o ∷ [])))
      go (Give ts) (Some regs') g =
          subst (λ m. Guards [] (out ∷ []) (operations_write os ++ out_of o ∷ []) regs (Give ts)
          (and_then m (all_guard_done atoms pid []))) (sym (filled_guard b atoms pid regs')) (
            ap (map erase) (filled_gets b regs' (away, tt)) ∙ g.0,
            keeps_on (operations_write os)
                (out_of o ∷ []) regs regs' (filled b regs') g.1 (filled_keeps b regs'),
          )
      go (Raise c t) None g = tt
      go Fault None g = tt
      go _ _ g = absurd g

  -- what is done already is kept before the values that come
  guards_before : (before : List Term) (rs ws : List ℕ) (regs : Registers) (p : Doing)
      (o : Option Registers) (t : Term) → Guards (before ++ t ∷ []) rs ws regs p o
      → Guards before rs ws regs (bind p (λ ts. Give (t ∷ ts))) o
  guards_before before rs ws regs (Give ts) (Some regs') t h =
      (h.0 ∙ append_assoc before (t ∷ []) ts, h.1)
  guards_before before rs ws regs (Raise c u) None t h = tt
  guards_before before rs ws regs Fault None t h = tt
  guards_before before rs ws regs _ _ t h = absurd h

  mutual
    pub guard_ok : {held : Held} {g : Expression} {os : List Op} {out : ℕ} → GuardOf held g os out
        → (env : Env) (regs : Registers) → Agree env held regs
        → AllOut (registers_of held) (operations_write os) → NoTwice (operations_write os)
        → Guards [] (out ∷ []) (operations_write os) regs (denote atoms pid g env)
        (all_guard_done atoms pid os regs)
    guard_ok (guard_int {n = n} {out = out}) env regs h a t = const_guard out (constant.Int n) regs
    guard_ok (guard_atom {a = m} {out = out}) env regs h a t = const_guard out (constant.Atom m)
        regs
    guard_ok (guard_nil {out = out}) env regs h a t = const_guard out constant.Nil regs
    guard_ok (guard_variable {held = held} {x = x} {from = from} e) env regs h a t =
        subst (λ o. Guards [] (from ∷ []) [] regs (value_of o) (Some regs))
        (sym (agree_look x env held regs h from e)) (refl, λ q k. refl)
    guard_ok (guard_bif {held = held} {b = b} {es = es} {os = os} {rs = rs} {out = out} ds) env regs
        h a t =
        let ws = operations_write os in
        let e = operations_append os (op.Bif out b rs ∷ []) in
        let a1 = subst (AllOut (registers_of held)) e a in
        let t1 = subst NoTwice e t in
        guards_at [] (out ∷ []) os (op.Bif out b rs ∷ []) regs
        (bind (denote_all atoms pid es env) (act_on atoms pid (r.BuiltIn b) env))
        (guards_then [] rs (out ∷ []) ws (out ∷ []) regs (denote_all atoms pid es env)
        (all_guard_done atoms pid os regs) (act_on atoms pid (r.BuiltIn b) env)
        (all_guard_done atoms pid (op.Bif out b rs ∷ []))
        (guards_ok ds env regs h (all_front (registers_of held) ws (out ∷ []) a1) tt
        (twice_front ws (out ∷ []) t1))
        (λ regs' k. bif_guard out (labelled_answer atoms pid b (gets rs regs'))
        (answer atoms pid b (map erase (gets rs regs'))) regs'
        (answers_erased atoms pid b (gets rs regs'))))
    guard_ok (guard_let {held = held} {x = x} {from = from} {out = out} {e = e} {b = b} {os = os}
        {us = us} d d') env regs h a t =
        let ws = operations_write os in
        let vs = operations_write us in
        let z = operations_append os us in
        let a1 = subst (AllOut (registers_of held)) z a in
        let t1 = subst NoTwice z t in
        let away = guard_inside d vs (all_back (registers_of held) ws vs a1)
        (twice_apart ws vs t1) in
        guards_at [] (out ∷ []) os us regs (denote atoms pid (r.Let (x ∷ []) e b) env)
        (guards_then [] (from ∷ []) (out ∷ []) ws vs regs (denote atoms pid e env)
        (all_guard_done atoms pid os regs)
        (λ ts. in_env (denote atoms pid b) (bind_variables (x ∷ []) ts env))
        (all_guard_done atoms pid us)
        (guard_ok d env regs h (all_front (registers_of held) ws vs a1) (twice_front ws vs t1))
        (λ regs' k. guard_ok d' (Bound x (erase (regs' from)) env) regs' (
          refl,
          refl,
          agree_keep env held ws regs regs' h
              (all_front (registers_of held) ws vs a1) k,
        )
        (away, all_back (registers_of held) ws vs a1) (twice_back ws vs t1)))
    guard_ok (guard_behind {held = held} {e = e} {o = o} {os = os} {out = out} b d) env regs h a t =
        filled_first b [] (out ∷ []) os regs (denote atoms pid e env)
        (guard_ok d env (filled b regs)
        (filled_agree b env regs (all_front (registers_of held) (out_of o ∷ [])
        (operations_write os) a) h) (held_behind b (operations_write os)
        (all_back (registers_of held) (out_of o ∷ []) (operations_write os) a) t.0) t.1)
    guard_ok (guard_before {held = held} {e = e} {o = o} {os = os} {from = from} d b) env regs h a
        t =
        let ws = operations_write os in
        let us = out_of o ∷ [] in
        let a1 = subst (AllOut (registers_of held)) (operations_append os (o ∷ [])) a in
        let t1 = subst NoTwice (operations_append os (o ∷ [])) t in
        filled_last b os regs (denote atoms pid e env)
        (guard_inside d us (all_back (registers_of held) ws us a1) (twice_apart ws us t1))
        (guard_ok d env regs h (all_front (registers_of held) ws us a1) (twice_front ws us t1))

    guards_ok : {held : Held} {done : List ℕ} {es : Expressions} {os : List Op} {rs : List ℕ}
        → GuardsOf held done es os rs → (env : Env) (regs : Registers) → Agree env held regs
        → AllOut (registers_of held) (operations_write os) → AllOut done (operations_write os)
        → NoTwice (operations_write os)
        → Guards (map erase (gets done regs)) rs (operations_write os) regs
        (denote_all atoms pid es env) (all_guard_done atoms pid os regs)
    guards_ok (guards_none {done = done}) env regs h a k t =
        (sym (append-nil (map erase (gets done regs))), λ q o. refl)
    guards_ok (guards_more {held = held} {done = done} {e = e} {es = es} {os = os} {us = us}
        {from = from} {rs = rs} d ds) env regs h a k t =
        let ws = operations_write os in
        let vs = operations_write us in
        let q = operations_append os us in
        let a1 = subst (AllOut (registers_of held)) q a in
        let k1 = subst (AllOut done) q k in
        let t1 = subst NoTwice q t in
        let away = guard_inside d vs (all_back (registers_of held) ws vs a1)
        (twice_apart ws vs t1) in
        let before = map erase (gets done regs) in
        guards_at before rs os us regs (denote_all atoms pid (MoreExpressions e es) env)
        (guards_then before (from ∷ []) rs ws vs regs (denote atoms pid e env)
        (all_guard_done atoms pid os regs)
        (single (λ v. bind (denote_all atoms pid es env) (λ ts. Give (v ∷ ts))))
        (all_guard_done atoms pid us)
        (guard_ok d env regs h (all_front (registers_of held) ws vs a1) (twice_front ws vs t1))
        (λ regs' keep.
        guards_before before rs vs regs' (denote_all atoms pid es env)
        (all_guard_done atoms pid us regs') (erase (regs' from))
        (subst (λ l. Guards l rs vs regs' (denote_all atoms pid es env)
        (all_guard_done atoms pid us regs'))
        (with_done done from regs regs'
        (gets_keep done ws regs regs' (all_front done ws vs k1) keep))
        (guards_ok ds env regs' (agree_keep env held ws regs regs' h
        (all_front (registers_of held) ws vs a1) keep) (all_back (registers_of held) ws vs a1)
        (all_out_append done (from ∷ []) vs (all_back done ws vs k1) (away, tt))
        (twice_back ws vs t1)))))
    guards_ok (guards_between {held = held} {done = done} {es = es} {o = o} {os = os} {rs = rs} b
        ds) env regs h a k t =
        let us = out_of o ∷ [] in
        let ws = operations_write os in
        filled_first b (map erase (gets done regs)) rs os regs (denote_all atoms pid es env)
        (subst (λ l. Guards (map erase l) rs ws (filled b regs) (denote_all atoms pid es env)
        (all_guard_done atoms pid os (filled b regs)))
        (filled_gets b regs (all_front done us ws k))
        (guards_ok ds env (filled b regs)
        (filled_agree b env regs (all_front (registers_of held) us ws a) h)
        (held_behind b ws (all_back (registers_of held) us ws a) t.0)
        (done_behind b ws (all_back done us ws k) t.0) t.1))

pub holds_true : (t : Labelled) → holds (Give (erase t ∷ [])) ≡ is_true t
holds_true (l.Atom n) = refl
holds_true (l.Int n) = refl
holds_true (l.Pid n) = refl
holds_true l.Nil = refl
holds_true (l.Cons s c x y) = refl
holds_true (l.Tuple s c ts) = refl
