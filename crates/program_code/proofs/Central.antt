-- The code of an expression does what the expression does.
use Rattle.std.proofs.Common.{◌≡◌, ℕ, List, [], ◌∷◌, ◌++◌, length, map, Bool, true, false, Option}
use Rattle.std.proofs.Common.{Some, None, refl, sym, ap, ◌∙◌, subst}
use Rattle.std.specs.Prelude.{if◌then◌else◌}
use Rattle.std.proofs.Math.Path.{fun_ext}
use Rattle.std.proofs.lemmas.List.{append_assoc, append-nil}
use Rattle.hy_terms.specs.Labelled.{Labelled, erase}
use Rattle.hy_terms.specs.Term as term
use Rattle.hy_terms.specs.Term.{Term, terms_of}
use Rattle.hy_terms.specs.declared.term.Colour.{Colour}
use Rattle.hy_core.specs.declared.class.Class.{Class}
use Rattle.hy_core.specs.declared.class.Class.TheVariants.{Error}
use Rattle.hy_core.specs.Computation as doing
use Rattle.hy_core.specs.Computation.{Give, Raise, Fault, attempt, bind}
use Rattle.hy_core.specs.Evaluation as evaluation
use Rattle.hy_core.specs.Evaluation.{single, give, in_env, value_of, first_of_two, holds, conses}
use Rattle.hy_core.specs.Evaluation.{act_on, denote, denote_all, choose, is_some}
use Rattle.hy_core.specs.Match.{Env, bind_variables, match_all}
use Rattle.hy_core.specs.Resolved as r
use Rattle.hy_core.specs.Resolved.{Timeout, Expression, Expressions, NoExpressions, MoreExpressions}
use Rattle.hy_core.specs.Resolved.{Clauses, NoClauses, MoreClauses}
use Rattle.hy_core.proofs.Runs.{attempt_assoc}
use Rattle.hy_ir.specs.Accepting.{accepted, accept_some, all_tested, all_guard_done, guarded}
use Rattle.hy_ir.specs.Accepting.{where_true, where_holds, is_true, and_then}
use Rattle.hy_ir.specs.Code as c
use Rattle.hy_ir.specs.Code.{Arms, NoArms, MoreArms, Code, Lapse, NoLapse, LapseTo, Last, MakeTree}
use Rattle.hy_ir.specs.Code.{Parts, NoParts, MoreParts, Tree}
use Rattle.hy_ir.specs.LabelledBuiltIns as labelled
use Rattle.hy_ir.specs.Meaning.{Doing, operation, or_fault, or_no_clause, first_arm, timeout_of}
use Rattle.hy_ir.specs.Meaning.{tree, parts, last, arms, lapse}
use Rattle.hy_ir.specs.Registers.{Registers, set, gets, sets}
use Rattle.hy_ir.specs.Valid.{Values, GivesSoMany}
use Rattle.hy_ir.specs.declared.code.Constant.TheVariants as constant
use Rattle.hy_ir.specs.declared.code.Guard.{Guard}
use Rattle.hy_ir.specs.declared.code.Op.{Op}
use Rattle.hy_ir.specs.declared.code.Op.TheVariants as op
use Rattle.hy_ir.proofs.RegisterLemmas.{gets_length}
use Rattle.lifted_program.proofs.Variables.{Out, AllOut, out_left, out_right, all_out_append}
use Rattle.program_code.specs.ExpressionCode.{join, does, ConsesOf, conses_none, conses_more}
use Rattle.program_code.specs.ExpressionCode.{PieceOf, of_int, of_atom, of_nil, of_variable}
use Rattle.program_code.specs.ExpressionCode.{of_tuple, of_list, of_text, of_setelement, of_send}
use Rattle.program_code.specs.ExpressionCode.{of_spawn, of_display, of_bif, of_call, of_values}
use Rattle.program_code.specs.ExpressionCode.{of_let, of_do, of_within, of_behind, of_before}
use Rattle.program_code.specs.ExpressionCode.{PiecesOf, of_none, of_more, of_between, WholeOf}
use Rattle.program_code.specs.ExpressionCode.{gives, calls_last, raises, fails, chooses, waits}
use Rattle.program_code.specs.ExpressionCode.{waits_or_lapses, let_whole, do_whole, behind_whole}
use Rattle.program_code.specs.ExpressionCode.{ArmsOf, no_arms, more_arms}
use Rattle.program_code.specs.HeldRegisters.{Held, Between}
use Rattle.program_code.specs.WrittenRegisters.{out_of, operations_write, tests_write, tree_writes}
use Rattle.program_code.specs.WrittenRegisters.{part_writes, parts_write, last_writes, lapse_writes}
use Rattle.program_code.specs.WrittenRegisters.{arms_write}
use Rattle.program_code.proofs.RegisterLemmas.{NoTwice, Keeps, set_same, set_other, keeps_set}
use Rattle.program_code.proofs.RegisterLemmas.{keeps_sets, keeps_on, keeps_left, gets_sets}
use Rattle.program_code.proofs.RegisterLemmas.{gets_keep, out_front, out_back, all_front, all_back}
use Rattle.program_code.proofs.RegisterLemmas.{twice_front, twice_back, twice_apart}
use Rattle.program_code.proofs.HeldLemmas.{registers_of, Agree, agree_keep, agree_look, agree_bind}
use Rattle.program_code.proofs.HeldLemmas.{all_bind, all_look, filled, filled_keeps, filled_agree}
use Rattle.program_code.proofs.HeldLemmas.{filled_gets, filled_done, held_behind, done_behind}
use Rattle.program_code.proofs.PatternLemmas.{Matches, parts_inside, parts_ok}
use Rattle.program_code.proofs.GuardLemmas.{Guards, guard_ok, holds_true, with_done}
use Rattle.program_code.proofs.Following.{parts_then, Follows, run_then, OnRaise, Sim, SimWhole}
use Rattle.program_code.proofs.Following.{sim_bind, sim_bind_whole, sim_last, sim_const, sim_tuple}
use Rattle.program_code.proofs.Following.{sim_cons, sim_text, sim_set, sim_bif, sim_call, sim_send}
use Rattle.program_code.proofs.Following.{sim_show, sim_spawn, sim_tail, sim_raise, sim_fail}

-- parts one after the other

all_ps : (rs : List ℕ) (ps qs : Parts) → AllOut rs (parts_write (join ps qs))
    → AllOut rs (parts_write ps)
all_ps rs ps qs h = all_front rs (parts_write ps) (parts_write qs)
    (subst (AllOut rs) (parts_then ps qs) h)

all_qs : (rs : List ℕ) (ps qs : Parts) → AllOut rs (parts_write (join ps qs))
    → AllOut rs (parts_write qs)
all_qs rs ps qs h = all_back rs (parts_write ps) (parts_write qs)
    (subst (AllOut rs) (parts_then ps qs) h)

twice_ps : (ps qs : Parts) → NoTwice (parts_write (join ps qs)) → NoTwice (parts_write ps)
twice_ps ps qs h = twice_front (parts_write ps) (parts_write qs)
    (subst NoTwice (parts_then ps qs) h)

twice_qs : (ps qs : Parts) → NoTwice (parts_write (join ps qs)) → NoTwice (parts_write qs)
twice_qs ps qs h = twice_back (parts_write ps) (parts_write qs) (subst NoTwice (parts_then ps qs) h)

apart : (ps qs : Parts) → NoTwice (parts_write (join ps qs))
    → AllOut (parts_write ps) (parts_write qs)
apart ps qs h = twice_apart (parts_write ps) (parts_write qs) (subst NoTwice (parts_then ps qs) h)

left_of : (ps qs : Parts) (ws : List ℕ) → AllOut (parts_write (join ps qs)) ws
    → AllOut (parts_write ps) ws
left_of ps qs ws h = out_left (parts_write ps) (parts_write qs) ws
    (subst (λ l. AllOut l ws) (parts_then ps qs) h)

right_of : (ps qs : Parts) (ws : List ℕ) → AllOut (parts_write (join ps qs)) ws
    → AllOut (parts_write qs) ws
right_of ps qs ws h = out_right (parts_write ps) (parts_write qs) ws
    (subst (λ l. AllOut l ws) (parts_then ps qs) h)

last_then : (ps qs : Parts) (end : Last)
    → parts_write (join ps qs) ++ last_writes end ≡ parts_write ps
    ++ (parts_write qs ++ last_writes end)
last_then ps qs end = ap (λ ws. ws ++ last_writes end) (parts_then ps qs) ∙ append_assoc
    (parts_write ps) (parts_write qs) (last_writes end)

all_last : (rs : List ℕ) (ps qs : Parts) (end : Last)
    → AllOut rs (parts_write (join ps qs) ++ last_writes end)
    → AllOut rs (parts_write ps ++ (parts_write qs ++ last_writes end))
all_last rs ps qs end h = subst (AllOut rs) (last_then ps qs end) h

twice_last : (ps qs : Parts) (end : Last) → NoTwice (parts_write (join ps qs) ++ last_writes end)
    → NoTwice (parts_write ps ++ (parts_write qs ++ last_writes end))
twice_last ps qs end h = subst NoTwice (last_then ps qs end) h

module _ (code : Code) (place : ℕ → Colour) (pid : ℕ) where
  -- the register of a list is that of its tail, or written
  conses_inside : {site tail out : ℕ} {heads : List ℕ} {ps : Parts}
      → ConsesOf code.sites site heads tail ps out → (ws : List ℕ) → Out tail ws
      → AllOut (parts_write ps) ws → Out out ws
  conses_inside conses_none ws o a = o
  conses_inside (conses_more {site = site} {head = x} {rest = rest} {out = out} {ps = ps} m k) ws o
      a = (right_of ps (does (op.Build site out (x ∷ rest ∷ []))) ws a).0

  -- the registers of the values are those of variables and of what is done, or written by the parts
  mutual
    piece_inside : {held : Held} {e : Expression} {ps : Parts} {rs : List ℕ}
        → PieceOf code.sites held e ps rs → (ws : List ℕ) → AllOut (registers_of held) ws
        → AllOut (parts_write ps) ws → AllOut rs ws
    piece_inside of_int ws h a = a
    piece_inside of_atom ws h a = a
    piece_inside of_nil ws h a = a
    piece_inside (of_variable {held = held} {x = x} {from = from} e) ws h a =
        (all_look x held ws from e h, tt)
    piece_inside (of_tuple {site = site} {out = out} {ps = ps} {rs = rs} ds k) ws h a = right_of ps
        (does (op.Build site out rs)) ws a
    piece_inside (of_list {ps = ps} {qs = qs} {us = us} ds d m) ws h a = (
      conses_inside m ws (piece_inside d ws h
          (left_of qs us ws (right_of ps (join qs us) ws a))).0
          (right_of qs us ws (right_of ps (join qs us) ws a)),
      tt,
    )
    piece_inside (of_text k) ws h a = a
    piece_inside (of_setelement {site = site} {out = out} {index = index} {tuple = tuple}
        {value = value} {ps = ps} ds k) ws h a = right_of ps
        (does (op.Set site out index tuple value)) ws a
    piece_inside (of_send {node = node} {out = out} {to = to} {message = message} {ps = ps} ds) ws h
        a = right_of ps (does (op.Send node out to message)) ws a
    piece_inside (of_spawn {node = node} {function = f} {out = out} {ps = ps} {rs = rs} ds) ws h a =
        right_of ps (does (op.Spawn node out f rs)) ws a
    piece_inside (of_display {out = out} {value = value} {ps = ps} ds) ws h a = right_of ps
        (does (op.Show out value)) ws a
    piece_inside (of_bif {b = b} {out = out} {ps = ps} {rs = rs} ds) ws h a = right_of ps
        (does (op.Bif out b rs)) ws a
    piece_inside (of_call {function = f} {out = out} {ps = ps} {rs = rs} ds) ws h a = right_of ps
        (does (op.Call out f rs)) ws a
    piece_inside (of_values ds) ws h a = pieces_inside ds ws h tt a
    piece_inside (of_let {held = held} {inside = inside} {xs = xs} {rs = rs} {ps = ps} {qs = qs} d e
        d') ws h a =
        piece_inside d' ws (all_bind xs rs held inside ws e h
        (piece_inside d ws h (left_of ps qs ws a))) (right_of ps qs ws a)
    piece_inside (of_do {ps = ps} {qs = qs} d d') ws h a = piece_inside d' ws h
        (right_of ps qs ws a)
    piece_inside (of_within {ps = ps} {end = end} {outs = outs} d) ws h a =
        out_right (tree_writes (MakeTree ps end)) outs ws
        (out_left (part_writes (c.Within outs (MakeTree ps end))) [] ws a)
    piece_inside (of_behind b d) ws h a = piece_inside d ws (held_behind b ws h a.0) a.1
    piece_inside (of_before {o = o} {ps = ps} d b) ws h a =
        done_behind b ws (piece_inside d ws h (left_of ps (does o) ws a))
        (right_of ps (does o) ws a).0

    pieces_inside : {held : Held} {done : List ℕ} {es : Expressions} {ps : Parts} {rs : List ℕ}
        → PiecesOf code.sites held done es ps rs → (ws : List ℕ) → AllOut (registers_of held) ws
        → AllOut done ws → AllOut (parts_write ps) ws → AllOut rs ws
    pieces_inside of_none ws h k a = k
    pieces_inside (of_more {done = done} {from = from} {ps = ps} {qs = qs} d ds) ws h k a =
        pieces_inside ds ws h (all_out_append done (from ∷ []) ws k
        (piece_inside d ws h (left_of ps qs ws a))) (right_of ps qs ws a)
    pieces_inside (of_between b ds) ws h k a = pieces_inside ds ws (held_behind b ws h a.0)
        (done_behind b ws k a.0) a.1

  -- an operation between

  sim_filled : {o : Op} {held held' : Held} {done done' : List ℕ}
      (b : Between o held done held' done') (before : List Term) (p : evaluation.Doing) (ps : Parts)
      (rs : List ℕ) (regs : Registers) → Sim code place pid before p ps rs (filled b regs)
      → Sim code place pid before p (MoreParts (c.Do o) ps) rs regs
  sim_filled {o} b before p ps rs regs s =
      record {
        go = λ kS hS kT hT h g.
            subst (λ q. Follows code place pid (attempt p (λ ts. kS (before ++ ts)) hS) q)
            (sym (filled_done b code place pid regs (λ r. parts code place pid ps r kT hT) hT))
            (s.go kS hS kT hT (λ regs' keep. h regs'
            (keeps_on (out_of o ∷ []) (parts_write ps) regs (filled b regs) regs'
            (filled_keeps b regs) keep)) (λ class t regs' keep. g class t regs'
            (keeps_on (out_of o ∷ []) (parts_write ps) regs (filled b regs) regs'
            (filled_keeps b regs) keep)));
      }

  sim_before : {o : Op} {held held' : Held} {rs ss : List ℕ} (b : Between o held rs held' ss)
      (p : evaluation.Doing) (ps : Parts) (regs : Registers) → AllOut rs (out_of o ∷ [])
      → Sim code place pid [] p ps rs regs → Sim code place pid [] p (join ps (does o)) ss regs
  sim_before {o} {held} {held'} {rs} {ss} b p ps regs away s =
      record {
        go = λ kS hS kT hT h g.
            subst (λ q. Follows code place pid (attempt p kS hS) q)
            (sym (run_then code place pid ps (does o) regs kT hT))
            (s.go kS hS (λ r. operation code place pid o r kT hT) hT
            (λ regs' keep.
            subst (λ q. Follows code place pid (kS (map erase (gets rs regs'))) q)
            (sym (filled_done b code place pid regs' kT hT))
            (subst (λ us. Follows code place pid (kS (map erase us)) (kT (filled b regs')))
            (filled_gets b regs' away)
            (h (filled b regs') (subst (λ ws. Keeps ws regs (filled b regs'))
            (sym (parts_then ps (does o)))
            (keeps_on (parts_write ps) (out_of o ∷ []) regs regs' (filled b regs') keep
            (filled_keeps b regs'))))))
            (λ class t regs' keep. g class t regs'
            (subst (λ ws. Keeps ws regs regs') (sym (parts_then ps (does o)))
            (keeps_left (parts_write ps) (out_of o ∷ []) regs regs' keep))));
      }

  whole_filled : {o : Op} {held held' : Held} {done done' : List ℕ}
      (b : Between o held done held' done') (values : Values) (p : evaluation.Doing) (ps : Parts)
      (end : Last) (regs : Registers) → SimWhole code place pid values p ps end (filled b regs)
      → SimWhole code place pid values p (MoreParts (c.Do o) ps) end regs
  whole_filled {o} b values p ps end regs s =
      record {
        go = λ kS hS kT hT h g.
            let ws = parts_write ps ++ last_writes end in
            let more : (regs' : Registers) → Keeps ws (filled b regs) regs'
            → Keeps (out_of o ∷ ws) regs regs' = λ regs' keep. keeps_on (out_of o ∷ []) ws regs
            (filled b regs) regs' (filled_keeps b regs) keep in
            subst (λ q. Follows code place pid (attempt p kS hS) q)
            (sym (filled_done b code place pid regs
            (λ r. parts code place pid ps r (λ r'. last code place pid end r' kT hT) hT) hT))
            (s.go kS hS kT hT (λ ts regs' e keep. h ts regs' e (more regs' keep))
            (λ class t regs' keep. g class t regs' (more regs' keep)));
      }

  -- the value that came stands behind those before
  before_more : (before : List Term) (t : Term) (p : evaluation.Doing) (qs : Parts) (rs : List ℕ)
      (regs : Registers) → Sim code place pid (before ++ t ∷ []) p qs rs regs
      → Sim code place pid before (bind p (λ ts. Give (t ∷ ts))) qs rs regs
  before_more before t p qs rs regs s =
      record {
        go = λ kS hS kT hT h g.
            let k2 : List Term → evaluation.Doing = λ ts. kS (before ++ ts) in
            let same : (λ ts. kS ((before ++ t ∷ []) ++ ts)) ≡ (λ ts. kS (before ++ (t ∷ ts))) =
            fun_ext λ ts. ap kS (append_assoc before (t ∷ []) ts) in
            subst (λ x. Follows code place pid x (parts code place pid qs regs kT hT))
            (sym (attempt_assoc p (λ ts. Give (t ∷ ts)) Raise k2 hS))
            (subst (λ k. Follows code place pid (attempt p k hS)
            (parts code place pid qs regs kT hT)) same (s.go kS hS kT hT h g));
      }

  -- the conses of a list notation
  sim_conses : {site tail out : ℕ} {heads : List ℕ} {ps : Parts}
      → ConsesOf code.sites site heads tail ps out → (regs : Registers)
      → AllOut heads (parts_write ps) → Out tail (parts_write ps) → NoTwice (parts_write ps)
      → Sim code place pid [] (give (conses (map erase (gets heads regs)) (erase (regs tail)))) ps
      (out ∷ []) regs
  sim_conses conses_none regs a o t = record { go = λ kS hS kT hT k y. k regs (λ q z. refl) }
  sim_conses (conses_more {site = site} {head = x} {tail = v} {rest = w} {out = out} {heads = heads}
      {ps = ps} m built) regs a o t =
      let qs = does (op.Build site out (x ∷ w ∷ [])) in
      let oo = subst (λ l. Out v l) (parts_then ps qs) o in
      sim_bind code place pid [] (give (conses (map erase (gets heads regs)) (erase (regs v))))
      (single (λ u. give (term.Cons (erase (regs x)) u))) ps qs (w ∷ []) (out ∷ []) regs
      (sim_conses m regs (all_ps heads ps qs a.1)
      (out_front v (parts_write ps) (parts_write qs) oo) (twice_ps ps qs t))
      (λ regs' k. subst (λ y. Sim code place pid [] (give (term.Cons (erase y) (erase (regs' w))))
      qs (out ∷ []) regs') (k x (out_front x (parts_write ps) (parts_write qs)
      (subst (λ l. Out x l) (parts_then ps qs) a.0)))
      (sim_cons code place pid site out x w regs' built))

  -- arms

  -- both give a tree that follows, or neither does
  abbrev FollowsOption : (List Term → evaluation.Doing) → (Class → Term → evaluation.Doing)
      → Option evaluation.Doing → Option Doing → Type 0
  FollowsOption kS hS None None = Unit {0}
  FollowsOption kS hS (Some p) (Some q) = Follows code place pid (attempt p kS hS) q
  FollowsOption kS hS _ _ = ⊥

  or_clause : (kS : List Term → evaluation.Doing) (hS : Class → Term → evaluation.Doing)
      (o : Option evaluation.Doing) (o' : Option Doing) (j : Class → Labelled → Doing)
      → FollowsOption kS hS o o' → ((class : Class) (t : Labelled)
      → Follows code place pid (hS class (erase t)) (j class t))
      → Follows code place pid (attempt (evaluation.or_no_clause o) kS hS) (or_no_clause j o')
  or_clause kS hS None None j h g = g Error labelled.no_clause
  or_clause kS hS (Some p) (Some q) j h g = h
  or_clause kS hS _ _ j h g = absurd h

  or_none : (kS : List Term → evaluation.Doing) (hS : Class → Term → evaluation.Doing)
      (o : Option evaluation.Doing) (o' : Option Doing) → FollowsOption kS hS o o'
      → Follows code place pid (attempt (evaluation.or_fault o) kS hS) (or_fault o')
  or_none kS hS None None h = tt
  or_none kS hS (Some p) (Some q) h = h
  or_none kS hS _ _ h = absurd h

  both_some : (kS : List Term → evaluation.Doing) (hS : Class → Term → evaluation.Doing)
      (o : Option evaluation.Doing) (o' : Option Doing) → FollowsOption kS hS o o'
      → is_some o' ≡ is_some o
  both_some kS hS None None h = refl
  both_some kS hS (Some p) (Some q) h = refl
  both_some kS hS _ _ h = absurd h

  record SimArms (values : Values) (o : Option evaluation.Doing) (xs : Arms)
      (regs : Registers) : Type 0 where
    go : (kS : List Term → evaluation.Doing) (hS : Class → Term → evaluation.Doing)
        (kT : List Labelled → Registers → Doing) (hT : Class → Labelled → Registers → Doing)
        → ((ts : List Labelled) (regs' : Registers) → GivesSoMany values (length ts)
        → Keeps (arms_write xs) regs regs'
        → Follows code place pid (kS (map erase ts)) (kT ts regs'))
        → OnRaise code place pid hS hT (arms_write xs) regs
        → FollowsOption kS hS o (arms code place pid xs regs kT hT)

  some_arm : (xs : Arms) (regs : Registers) (k : List Labelled → Registers → Doing)
      (h : Class → Labelled → Registers → Doing)
      → is_some (arms code place pid xs regs k h) ≡ accept_some code.atoms pid xs regs
  some_arm NoArms regs k h = refl
  some_arm (MoreArms ts guard body xs) regs k h = first (accepted code.atoms pid ts guard regs)
      (some_arm xs regs k h)
    where
      first : (o : Option Registers)
          → is_some (arms code place pid xs regs k h) ≡ accept_some code.atoms pid xs regs
          → is_some (first_arm o (λ regs'. tree code place pid body regs' k h)
          (arms code place pid xs regs k h))
          ≡ (if is_some o then true else accept_some code.atoms pid xs regs)
      first None e = e
      first (Some regs') e = refl

  -- one arm, and those behind it
  arm_ok : (inside : Held) (ws vs : List ℕ) (g b : Expression) (guard : Guard)
      (kS : List Term → evaluation.Doing) (hS : Class → Term → evaluation.Doing)
      (body : Registers → Doing) (regs : Registers) (o : Option Env) (o' : Option Registers)
      (rest : Option evaluation.Doing) (rest' : Option Doing) → Matches inside ws regs o o'
      → ((env' : Env) (regs' : Registers) → Agree env' inside regs' → Keeps ws regs regs'
      → Guards [] (guard.register ∷ []) vs regs' (denote code.atoms pid g env')
      (all_guard_done code.atoms pid guard.operations regs'))
      → ((env' : Env) (regs' regs'' : Registers) → Agree env' inside regs' → Keeps ws regs regs'
      → Keeps vs regs' regs'' → Follows code place pid
      (attempt (denote code.atoms pid b env') kS hS) (body regs'')) → FollowsOption kS hS rest rest'
      → FollowsOption kS hS (first_of_two o (λ env'. holds (denote code.atoms pid g env'))
      (λ env'. denote code.atoms pid b env') rest)
      (first_arm (and_then o' (guarded code.atoms pid guard)) body rest')
  arm_ok inside ws vs g b guard kS hS body regs None None rest rest' m gd bd h = h
  arm_ok inside ws vs g b guard kS hS body regs (Some env') (Some regs') rest rest' m gd bd h =
      go (denote code.atoms pid g env') (all_guard_done code.atoms pid guard.operations regs')
      (gd env' regs' m.0 m.1)
    where
      decide : (regs'' : Registers) → Keeps vs regs' regs'' → (b' : Bool)
          → FollowsOption kS hS (if b' then Some (denote code.atoms pid b env') else rest)
          (first_arm (where_holds b' regs'') body rest')
      decide regs'' k true = bd env' regs' regs'' m.0 m.1 k
      decide regs'' k false = h

      go : (p : evaluation.Doing) (q : Option Registers)
          → Guards [] (guard.register ∷ []) vs regs' p q
          → FollowsOption kS hS (if holds p then Some (denote code.atoms pid b env') else rest)
          (first_arm (and_then q (where_true guard.register)) body rest')
      go (Give ts) (Some regs'') y =
          subst (λ us. FollowsOption kS hS
          (if holds (Give us) then Some (denote code.atoms pid b env') else rest)
          (first_arm (where_holds (is_true (regs'' guard.register)) regs'') body rest')) y.0
          (subst (λ b'. FollowsOption kS hS
          (if b' then Some (denote code.atoms pid b env') else rest)
          (first_arm (where_holds (is_true (regs'' guard.register)) regs'') body rest'))
          (sym (holds_true (regs'' guard.register)))
          (decide regs'' y.1 (is_true (regs'' guard.register))))
      go (Raise class u) None y = h
      go Fault None y = h
      go _ _ y = absurd y
  arm_ok inside ws vs g b guard kS hS body regs _ _ rest rest' m gd bd h = absurd m

  received : (env : Env) (message : ℕ) (cs : Clauses) (timeout : Timeout) (p : evaluation.Doing)
      (xs : Arms) (otherwise : Lapse) (values : Values) (regs : Registers)
      → ((v : Labelled) → SimArms values
      (choose code.atoms pid cs (map erase (gets (message ∷ []) (set message v regs))) env) xs
      (set message v regs)) → timeout_of otherwise ≡ timeout
      → ((kS : List Term → evaluation.Doing) (hS : Class → Term → evaluation.Doing)
      (kT : List Labelled → Registers → Doing) (hT : Class → Labelled → Registers → Doing)
      → ((ts : List Labelled) (regs' : Registers) → GivesSoMany values (length ts)
      → Keeps (message ∷ (arms_write xs ++ lapse_writes otherwise)) regs regs'
      → Follows code place pid (kS (map erase ts)) (kT ts regs'))
      → OnRaise code place pid hS hT (message ∷ (arms_write xs ++ lapse_writes otherwise)) regs
      → Follows code place pid (attempt p kS hS) (lapse code place pid otherwise regs kT hT))
      → SimWhole code place pid values
      (doing.Receive (record { env = env; clauses = cs; timeout = timeout })
      (λ t. evaluation.or_fault (choose code.atoms pid cs (t ∷ []) env)) p) NoParts
      (c.Receive message xs otherwise) regs
  received env message cs timeout p xs otherwise values regs s f g =
      record {
        go = λ kS hS kT hT k y. (
          record { timeout = f; accepts = accept_same },
          (λ v. got kS hS kT hT k y v),
          g kS hS kT
              hT k y,
        );
      }
    where
      chosen : (v : Labelled) → SimArms values (choose code.atoms pid cs (erase v ∷ []) env) xs
          (set message v regs)
      chosen v = subst (λ u. SimArms values (choose code.atoms pid cs (erase u ∷ []) env) xs
          (set message v regs)) (set_same message v regs) (s v)

      accept_same : (v : Labelled) → accept_some code.atoms pid xs (set message v regs) ≡ is_some
          (choose code.atoms pid cs (erase v ∷ []) env)
      accept_same v =
          sym (some_arm xs (set message v regs) (λ ts r. Fault) (λ class t r. Fault)) ∙ both_some
          (λ ts. Fault) (λ class t. Fault) (choose code.atoms pid cs (erase v ∷ []) env)
          (arms code place pid xs (set message v regs) (λ ts r. Fault) (λ class t r. Fault))
          ((chosen v).go (λ ts. Fault) (λ class t. Fault) (λ ts r. Fault) (λ class t r. Fault)
          (λ ts r q k. tt) (λ class t r k. tt))

      wider : (v : Labelled) (regs' : Registers) → Keeps (arms_write xs) (set message v regs) regs'
          → Keeps (message ∷ (arms_write xs ++ lapse_writes otherwise)) regs regs'
      wider v regs' keep = λ r o. keep r (out_front r (arms_write xs) (lapse_writes otherwise) o.1)
          ∙ set_other message r v regs o.0

      got : (kS : List Term → evaluation.Doing) (hS : Class → Term → evaluation.Doing)
          (kT : List Labelled → Registers → Doing) (hT : Class → Labelled → Registers → Doing)
          → ((ts : List Labelled) (regs' : Registers) → GivesSoMany values (length ts)
          → Keeps (message ∷ (arms_write xs ++ lapse_writes otherwise)) regs regs'
          → Follows code place pid (kS (map erase ts)) (kT ts regs'))
          → OnRaise code place pid hS hT (message ∷ (arms_write xs ++ lapse_writes otherwise)) regs
          → (v : Labelled) → Follows code place pid
          (attempt (evaluation.or_fault (choose code.atoms pid cs (erase v ∷ []) env)) kS hS)
          (or_fault (arms code place pid xs (set message v regs) kT hT))
      got kS hS kT hT k y v =
          or_none kS hS (choose code.atoms pid cs (erase v ∷ []) env)
          (arms code place pid xs (set message v regs) kT hT)
          ((chosen v).go kS hS kT hT (λ ts regs' q keep. k ts regs' q (wider v regs' keep))
          (λ class u regs' keep. y class u regs' (wider v regs' keep)))

  keeps_nil : (ws : List ℕ) (regs regs' : Registers) → Keeps ws regs regs'
      → Keeps (ws ++ []) regs regs'
  keeps_nil ws regs regs' k = keeps_left ws [] regs regs' k

  mutual
    sim_piece : {held : Held} {e : Expression} {ps : Parts} {rs : List ℕ}
        → PieceOf code.sites held e ps rs → (env : Env) (regs : Registers) → Agree env held regs
        → AllOut (registers_of held) (parts_write ps) → NoTwice (parts_write ps)
        → Sim code place pid [] (denote code.atoms pid e env) ps rs regs
    sim_piece (of_int {n = n} {out = out}) env regs h a t = sim_const code place pid out
        (constant.Int n) regs
    sim_piece (of_atom {a = m} {out = out}) env regs h a t = sim_const code place pid out
        (constant.Atom m) regs
    sim_piece (of_nil {out = out}) env regs h a t = sim_const code place pid out constant.Nil regs
    sim_piece (of_variable {held = held} {x = x} {from = from} e) env regs h a t =
        subst (λ o. Sim code place pid [] (value_of o) NoParts (from ∷ []) regs)
        (sym (agree_look x env held regs h from e))
        (record { go = λ kS hS kT hT k y. k regs (λ q o. refl) })
    sim_piece (of_tuple {held = held} {site = site} {out = out} {es = es} {ps = ps} {rs = rs} ds
        built) env regs h a t =
        let qs = does (op.Build site out rs) in
        sim_bind code place pid [] (denote_all code.atoms pid es env)
        (λ ts. give (term.Tuple (terms_of ts))) ps qs rs (out ∷ []) regs
        (sim_pieces ds env regs h (all_ps (registers_of held) ps qs a) tt (twice_ps ps qs t))
        (λ regs' k. sim_tuple code place pid site out rs regs' built)
    sim_piece (of_list {held = held} {site = site} {out = out} {tail = v} {es = es} {e = e}
        {ps = ps} {qs = qs} {us = ms} {heads = rs} ds d m) env regs h a t =
        let us = join qs ms in
        let inside = pieces_inside ds (parts_write us) (all_qs (registers_of held) ps us a) tt
        (apart ps us t) in
        let a1 = all_qs (registers_of held) ps us a in
        let t1 = twice_qs ps us t in
        let v_out = (piece_inside d (parts_write ms) (all_qs (registers_of held) qs ms a1)
        (apart qs ms t1)).0 in
        sim_bind code place pid [] (denote_all code.atoms pid es env)
        (λ ts. bind (denote code.atoms pid e env) (single (λ u. give (conses ts u)))) ps us rs
        (out ∷ []) regs (sim_pieces ds env regs h (all_ps (registers_of held) ps us a) tt
        (twice_ps ps us t))
        (λ regs' k. sim_bind code place pid [] (denote code.atoms pid e env)
        (single (λ u. give (conses (map erase (gets rs regs')) u))) qs ms (v ∷ []) (out ∷ [])
        regs' (sim_piece d env regs' (agree_keep env held (parts_write ps) regs regs' h
        (all_ps (registers_of held) ps us a) k) (all_ps (registers_of held) qs ms a1)
        (twice_ps qs ms t1))
        (λ regs'' k'. subst (λ ts. Sim code place pid [] (give (conses ts (erase (regs'' v)))) ms
        (out ∷ []) regs'') (ap (map erase)
        (gets_keep rs (parts_write qs) regs' regs'' (all_ps rs qs ms inside) k'))
        (sim_conses m regs'' (all_qs rs qs ms inside) v_out (twice_qs qs ms t1))))
    sim_piece (of_text {site = site} {out = out} {text = text} built) env regs h a t = sim_text code
        place pid site out text regs
    sim_piece (of_setelement {held = held} {site = site} {out = out} {index = i} {tuple = j}
        {value = v} {es = es} {ps = ps} ds built) env regs h a t =
        let qs = does (op.Set site out i j v) in
        sim_bind code place pid [] (denote_all code.atoms pid es env)
        (act_on code.atoms pid (r.Setelement site) env) ps qs (i ∷ j ∷ v ∷ []) (out ∷ []) regs
        (sim_pieces ds env regs h (all_ps (registers_of held) ps qs a) tt (twice_ps ps qs t))
        (λ regs' k. sim_set code place pid site out i j v env regs')
    sim_piece (of_send {held = held} {node = node} {out = out} {to = to} {message = m} {es = es}
        {ps = ps} ds) env regs h a t =
        let qs = does (op.Send node out to m) in
        sim_bind code place pid [] (denote_all code.atoms pid es env)
        (act_on code.atoms pid (r.Send node) env) ps qs (to ∷ m ∷ []) (out ∷ []) regs
        (sim_pieces ds env regs h (all_ps (registers_of held) ps qs a) tt (twice_ps ps qs t))
        (λ regs' k. sim_send code place pid node out to m env regs')
    sim_piece (of_spawn {held = held} {node = node} {function = f} {out = out} {es = es} {ps = ps}
        {rs = rs} ds) env regs h a t =
        let qs = does (op.Spawn node out f rs) in
        sim_bind code place pid [] (denote_all code.atoms pid es env)
        (act_on code.atoms pid (r.Spawn node f) env) ps qs rs (out ∷ []) regs
        (sim_pieces ds env regs h (all_ps (registers_of held) ps qs a) tt (twice_ps ps qs t))
        (λ regs' k. sim_spawn code place pid node f out rs env regs')
    sim_piece (of_display {held = held} {node = node} {out = out} {value = v} {es = es} {ps = ps}
        ds) env regs h a t =
        let qs = does (op.Show out v) in
        sim_bind code place pid [] (denote_all code.atoms pid es env)
        (act_on code.atoms pid (r.Display node) env) ps qs (v ∷ []) (out ∷ []) regs
        (sim_pieces ds env regs h (all_ps (registers_of held) ps qs a) tt (twice_ps ps qs t))
        (λ regs' k. sim_show code place pid node out v env regs')
    sim_piece (of_bif {held = held} {b = b} {out = out} {es = es} {ps = ps} {rs = rs} ds) env regs h
        a t =
        let qs = does (op.Bif out b rs) in
        sim_bind code place pid [] (denote_all code.atoms pid es env)
        (act_on code.atoms pid (r.BuiltIn b) env) ps qs rs (out ∷ []) regs
        (sim_pieces ds env regs h (all_ps (registers_of held) ps qs a) tt (twice_ps ps qs t))
        (λ regs' k. sim_bif code place pid b out rs env regs')
    sim_piece (of_call {held = held} {function = f} {out = out} {es = es} {ps = ps} {rs = rs} ds)
        env regs h a t =
        let qs = does (op.Call out f rs) in
        sim_bind code place pid [] (denote_all code.atoms pid es env)
        (act_on code.atoms pid (r.Function f) env) ps qs rs (out ∷ []) regs
        (sim_pieces ds env regs h (all_ps (registers_of held) ps qs a) tt (twice_ps ps qs t))
        (λ regs' k. sim_call code place pid f out rs env regs')
    sim_piece (of_values ds) env regs h a t = sim_pieces ds env regs h a tt t
    sim_piece (of_let {held = held} {inside = held'} {xs = xs} {rs = rs} {ss = ss} {e = e} {b = b}
        {ps = ps} {qs = qs} d q d') env regs h a t =
        sim_bind code place pid [] (denote code.atoms pid e env)
        (λ ts. in_env (denote code.atoms pid b) (bind_variables xs ts env)) ps qs rs ss regs
        (sim_piece d env regs h (all_ps (registers_of held) ps qs a) (twice_ps ps qs t))
        (λ regs' k.
        let g = agree_bind xs rs env held held' regs' q
        (agree_keep env held (parts_write ps) regs regs' h (all_ps (registers_of held) ps qs a)
        k) in
        let a' = all_bind xs rs held held' (parts_write qs) q (all_qs (registers_of held) ps qs a)
        (piece_inside d (parts_write qs) (all_qs (registers_of held) ps qs a)
        (apart ps qs t)) in
        subst (λ o. Sim code place pid [] (in_env (denote code.atoms pid b) o) qs ss regs')
        (sym g.1) (sim_piece d' g.0 regs' g.2 a' (twice_qs ps qs t)))
    sim_piece (of_do {held = held} {first = v} {ss = ss} {e = e} {b = b} {ps = ps} {qs = qs} d d')
        env regs h a t =
        sim_bind code place pid [] (denote code.atoms pid e env)
        (single (λ v. denote code.atoms pid b env)) ps qs (v ∷ []) ss regs
        (sim_piece d env regs h (all_ps (registers_of held) ps qs a) (twice_ps ps qs t))
        (λ regs' k. sim_piece d' env regs'
        (agree_keep env held (parts_write ps) regs regs' h (all_ps (registers_of held) ps qs a)
        k) (all_qs (registers_of held) ps qs a) (twice_qs ps qs t))
    sim_piece (of_within {held = held} {e = e} {ps = ps} {end = end} {outs = outs} d) env regs h a
        t =
        let ws = tree_writes (MakeTree ps end) in
        let a' = all_front (registers_of held) ws outs
        (all_front (registers_of held) (ws ++ outs) [] a) in
        let t' = twice_front (ws ++ outs) [] t in
        record {
          go = λ kS hS kT hT k y. (sim_whole d env regs h a' (twice_front ws outs t')).go kS hS
              (λ ts regs'. kT (sets outs ts regs')) hT
              (λ ts regs' q keep.
              let keep' = keeps_nil (ws ++ outs) regs (sets outs ts regs')
              (keeps_on ws outs regs regs' (sets outs ts regs') keep
              (keeps_sets outs ts regs')) in
              subst (λ us. Follows code place pid (kS (map erase us)) (kT (sets outs ts regs')))
              (gets_sets outs ts regs' q (twice_back ws outs t'))
              (k (sets outs ts regs') keep'))
              (λ class u regs' keep. y class u regs'
              (keeps_nil (ws ++ outs) regs regs' (keeps_left ws outs regs regs' keep)));
        }
    sim_piece (of_behind {held = held} {e = e} {o = o} {ps = ps} {rs = rs} b d) env regs h a t =
        let us = out_of o ∷ [] in
        sim_filled b [] (denote code.atoms pid e env) ps rs regs
        (sim_piece d env (filled b regs)
        (filled_agree b env regs (all_front (registers_of held) us (parts_write ps) a) h)
        (held_behind b (parts_write ps) (all_back (registers_of held) us (parts_write ps) a)
        t.0) t.1)
    sim_piece (of_before {held = held} {e = e} {o = o} {ps = ps} d b) env regs h a t =
        let qs = does o in
        sim_before b (denote code.atoms pid e env) ps regs
        (piece_inside d (out_of o ∷ []) (all_qs (registers_of held) ps qs a) (apart ps qs t))
        (sim_piece d env regs h (all_ps (registers_of held) ps qs a) (twice_ps ps qs t))

    sim_pieces : {held : Held} {done : List ℕ} {es : Expressions} {ps : Parts} {rs : List ℕ}
        → PiecesOf code.sites held done es ps rs → (env : Env) (regs : Registers)
        → Agree env held regs → AllOut (registers_of held) (parts_write ps)
        → AllOut done (parts_write ps) → NoTwice (parts_write ps)
        → Sim code place pid (map erase (gets done regs)) (denote_all code.atoms pid es env) ps rs
        regs
    sim_pieces (of_none {done = done}) env regs h a o t =
        record {
          go = λ kS hS kT hT k y. subst (λ us. Follows code place pid (kS us) (kT regs))
              (sym (append-nil (map erase (gets done regs)))) (k regs (λ q z. refl));
        }
    sim_pieces (of_more {held = held} {done = done} {rs = rs} {from = from} {e = e} {es = es}
        {ps = ps} {qs = qs} d ds) env regs h a o t =
        let away = piece_inside d (parts_write qs) (all_qs (registers_of held) ps qs a)
        (apart ps qs t) in
        let before = map erase (gets done regs) in
        sim_bind code place pid before (denote code.atoms pid e env)
        (single (λ v. bind (denote_all code.atoms pid es env) (λ ts. Give (v ∷ ts)))) ps qs
        (from ∷ []) rs regs (sim_piece d env regs h (all_ps (registers_of held) ps qs a)
        (twice_ps ps qs t))
        (λ regs' k.
        before_more before (erase (regs' from)) (denote_all code.atoms pid es env) qs rs regs'
        (subst (λ us. Sim code place pid us (denote_all code.atoms pid es env) qs rs regs')
        (with_done done from regs regs'
        (gets_keep done (parts_write ps) regs regs' (all_ps done ps qs o) k))
        (sim_pieces ds env regs' (agree_keep env held (parts_write ps) regs regs' h
        (all_ps (registers_of held) ps qs a) k) (all_qs (registers_of held) ps qs a)
        (all_out_append done (from ∷ []) (parts_write qs) (all_qs done ps qs o) away)
        (twice_qs ps qs t))))
    sim_pieces (of_between {held = held} {done = done} {rs = rs} {es = es} {o = op'} {ps = ps} b ds)
        env regs h a o t =
        let us = out_of op' ∷ [] in
        let ws = parts_write ps in
        sim_filled b (map erase (gets done regs)) (denote_all code.atoms pid es env) ps rs regs
        (subst (λ l. Sim code place pid (map erase l) (denote_all code.atoms pid es env) ps rs
        (filled b regs)) (filled_gets b regs (all_front done us ws o))
        (sim_pieces ds env (filled b regs)
        (filled_agree b env regs (all_front (registers_of held) us ws a) h)
        (held_behind b ws (all_back (registers_of held) us ws a) t.0)
        (done_behind b ws (all_back done us ws o) t.0) t.1))

    pub sim_whole : {held : Held} {values : Values} {e : Expression} {ps : Parts} {end : Last}
        → WholeOf code.sites held values e ps end → (env : Env) (regs : Registers)
        → Agree env held regs → AllOut (registers_of held) (parts_write ps ++ last_writes end)
        → NoTwice (parts_write ps ++ last_writes end)
        → SimWhole code place pid values (denote code.atoms pid e env) ps end regs
    sim_whole (gives {held = held} {values = values} {e = e} {ps = ps} {rs = rs} d n) env regs h a
        t =
        let s = sim_piece d env regs h (all_front (registers_of held) (parts_write ps) [] a)
        (twice_front (parts_write ps) [] t) in
        record {
          go = λ kS hS kT hT k y. s.go kS hS (λ r. kT (gets rs r) r) hT
              (λ regs' keep. k (gets rs regs') regs'
              (subst (GivesSoMany values) (sym (gets_length rs regs')) n)
              (keeps_nil (parts_write ps) regs regs' keep))
              (λ class u regs' keep. y class u regs' (keeps_nil (parts_write ps) regs regs' keep));
        }
    sim_whole (calls_last {held = held} {function = f} {es = es} {ps = ps} {rs = rs} ds) env regs h
        a t =
        sim_last code place pid None (denote_all code.atoms pid es env)
        (act_on code.atoms pid (r.Function f) env) ps (c.Tail f rs) rs regs
        (sim_pieces ds env regs h (all_front (registers_of held) (parts_write ps) [] a) tt
        (twice_front (parts_write ps) [] t)) (λ regs' k. sim_tail code place pid f rs env regs')
    sim_whole (raises {held = held} {values = values} {class = class} {reason = v} {es = es}
        {ps = ps} ds) env regs h a t =
        sim_last code place pid values (denote_all code.atoms pid es env)
        (act_on code.atoms pid (r.Raising class) env) ps (c.Raise class v) (v ∷ []) regs
        (sim_pieces ds env regs h (all_front (registers_of held) (parts_write ps) [] a) tt
        (twice_front (parts_write ps) [] t))
        (λ regs' k. sim_raise code place pid values class v env regs')
    sim_whole (fails {held = held} {values = values} {reason = v} {es = es} {ps = ps} ds) env regs h
        a t =
        sim_last code place pid values (denote_all code.atoms pid es env)
        (act_on code.atoms pid r.MatchFail env) ps (c.Fail v) (v ∷ []) regs
        (sim_pieces ds env regs h (all_front (registers_of held) (parts_write ps) [] a) tt
        (twice_front (parts_write ps) [] t))
        (λ regs' k. sim_fail code place pid values v env regs')
    sim_whole (chooses {held = held} {values = values} {e = e} {cs = cs} {ps = ps} {rs = rs}
        {xs = xs} d ds) env regs h a t =
        let ws = parts_write ps in
        let vs = arms_write xs in
        let inside = piece_inside d vs (all_back (registers_of held) ws vs a)
        (twice_apart ws vs t) in
        sim_last code place pid values (denote code.atoms pid e env)
        (λ ts. evaluation.or_no_clause (choose code.atoms pid cs ts env)) ps (c.Choose xs) rs
        regs (sim_piece d env regs h (all_front (registers_of held) ws vs a)
        (twice_front ws vs t))
        (λ regs' k.
        let s = sim_arms ds env regs' (agree_keep env held ws regs regs' h
        (all_front (registers_of held) ws vs a) k) (all_back (registers_of held) ws vs a) inside
        (twice_back ws vs t) in
        record {
          go = λ kS hS kT hT k' y. or_clause kS hS
              (choose code.atoms pid cs (map erase (gets rs regs')) env)
              (arms code place pid xs regs' kT hT) (λ class u. hT class u regs')
              (s.go kS hS kT hT k' y) (λ class u. y class u regs' (λ q o. refl));
        })
    sim_whole (waits {held = held} {values = values} {message = m} {cs = cs} {e = e} {xs = xs} ds)
        env regs h a t =
        let vs = arms_write xs in
        let a1 = all_front (registers_of held) (m ∷ vs) [] a in
        let t1 = twice_front (m ∷ vs) [] t in
        received env m cs r.Never Fault xs NoLapse values regs
        (λ v. sim_arms ds env (set m v regs)
        (agree_keep env held (m ∷ []) regs (set m v regs) h
        (all_front (registers_of held) (m ∷ []) vs a1) (keeps_set m v regs))
        (all_back (registers_of held) (m ∷ []) vs a1) (t1.0, tt) t1.1) refl
        (λ kS hS kT hT k y. tt)
    sim_whole (waits_or_lapses {held = held} {values = values} {message = m} {cs = cs} {e = e}
        {xs = xs} {ps = ps} {end = end} ds d) env regs h a t =
        let vs = arms_write xs in
        let us = parts_write ps ++ last_writes end in
        let a1 = all_front (registers_of held) (m ∷ vs) us a in
        let t1 = twice_front (m ∷ vs) us t in
        let s = sim_whole d env regs h (all_back (registers_of held) (m ∷ vs) us a)
        (twice_back (m ∷ vs) us t) in
        received env m cs r.AtOnce (denote code.atoms pid e env) xs (LapseTo (MakeTree ps end))
        values regs (λ v. sim_arms ds env (set m v regs)
        (agree_keep env held (m ∷ []) regs (set m v regs) h
        (all_front (registers_of held) (m ∷ []) vs a1) (keeps_set m v regs))
        (all_back (registers_of held) (m ∷ []) vs a1) (t1.0, tt) t1.1) refl
        (λ kS hS kT hT k y. s.go kS hS kT hT
        (λ ts regs' q keep. k ts regs' q (λ r o. keep r (out_back r (m ∷ vs) us o)))
        (λ class u regs' keep. y class u regs' (λ r o. keep r (out_back r (m ∷ vs) us o))))
    sim_whole (let_whole {held = held} {inside = held'} {values = values} {xs = xs} {rs = rs}
        {e = e} {b = b} {ps = ps} {qs = qs} {end = end} d q d') env regs h a t =
        let us = parts_write ps in
        let vs = parts_write qs ++ last_writes end in
        let a1 = all_last (registers_of held) ps qs end a in
        let t1 = twice_last ps qs end t in
        sim_bind_whole code place pid values (denote code.atoms pid e env)
        (λ ts. in_env (denote code.atoms pid b) (bind_variables xs ts env)) ps qs end rs regs
        (sim_piece d env regs h (all_front (registers_of held) us vs a1) (twice_front us vs t1))
        (λ regs' k.
        let g = agree_bind xs rs env held held' regs' q
        (agree_keep env held us regs regs' h (all_front (registers_of held) us vs a1) k) in
        let a' = all_bind xs rs held held' vs q (all_back (registers_of held) us vs a1)
        (piece_inside d vs (all_back (registers_of held) us vs a1) (twice_apart us vs t1)) in
        subst (λ o. SimWhole code place pid values (in_env (denote code.atoms pid b) o) qs end
        regs') (sym g.1) (sim_whole d' g.0 regs' g.2 a' (twice_back us vs t1)))
    sim_whole (do_whole {held = held} {values = values} {first = v} {e = e} {b = b} {ps = ps}
        {qs = qs} {end = end} d d') env regs h a t =
        let us = parts_write ps in
        let vs = parts_write qs ++ last_writes end in
        let a1 = all_last (registers_of held) ps qs end a in
        let t1 = twice_last ps qs end t in
        sim_bind_whole code place pid values (denote code.atoms pid e env)
        (single (λ v. denote code.atoms pid b env)) ps qs end (v ∷ []) regs
        (sim_piece d env regs h (all_front (registers_of held) us vs a1) (twice_front us vs t1))
        (λ regs' k. sim_whole d' env regs'
        (agree_keep env held us regs regs' h (all_front (registers_of held) us vs a1) k)
        (all_back (registers_of held) us vs a1) (twice_back us vs t1))
    sim_whole (behind_whole {held = held} {values = values} {e = e} {o = o} {ps = ps} {end = end} b
        d) env regs h a t =
        let us = out_of o ∷ [] in
        let vs = parts_write ps ++ last_writes end in
        whole_filled b values (denote code.atoms pid e env) ps end regs
        (sim_whole d env (filled b regs)
        (filled_agree b env regs (all_front (registers_of held) us vs a) h)
        (held_behind b vs (all_back (registers_of held) us vs a) t.0) t.1)

    sim_arms : {held : Held} {values : Values} {rs : List ℕ} {cs : Clauses} {xs : Arms}
        → ArmsOf code.sites held values rs cs xs → (env : Env) (regs : Registers)
        → Agree env held regs → AllOut (registers_of held) (arms_write xs)
        → AllOut rs (arms_write xs) → NoTwice (arms_write xs)
        → SimArms values (choose code.atoms pid cs (map erase (gets rs regs)) env) xs regs
    sim_arms no_arms env regs h a o t = record { go = λ kS hS kT hT k y. tt }
    sim_arms (more_arms {held = held} {inside = held'} {values = values} {rs = rs} {pats = pats}
        {g = g} {b = b} {cs = cs} {ts = ts} {guard = guard} {ps = ps} {end = end} {xs = xs} d gd w
        ds) env regs h a o t =
        let ws = tests_write ts in
        let gs = operations_write guard.operations in
        let us = parts_write ps ++ last_writes end in
        let vs = arms_write xs in
        let a1 = all_front (registers_of held) (ws ++ gs) (us ++ vs) a in
        let a2 = all_back (registers_of held) (ws ++ gs) (us ++ vs) a in
        let o1 = all_front rs (ws ++ gs) (us ++ vs) o in
        let o2 = all_back rs (ws ++ gs) (us ++ vs) o in
        let t1 = twice_front (ws ++ gs) (us ++ vs) t in
        let t2 = twice_back (ws ++ gs) (us ++ vs) t in
        let between = out_left ws gs (us ++ vs) (twice_apart (ws ++ gs) (us ++ vs) t) in
        let in_guard = parts_inside d gs (all_back (registers_of held) ws gs a1)
        (all_back rs ws gs o1) (twice_apart ws gs t1) in
        let in_body = parts_inside d us (all_front (registers_of held) us vs a2)
        (all_front rs us vs o2) (all_front ws us vs between) in
        let tested = parts_ok d env regs h (all_front (registers_of held) ws gs a1)
        (all_front rs ws gs o1) (twice_front ws gs t1) in
        let rest = sim_arms ds env regs h (all_back (registers_of held) us vs a2)
        (all_back rs us vs o2) (twice_back us vs t2) in
        record {
          go = λ kS hS kT hT k y.
              arm_ok held' ws gs g b guard kS hS
              (λ regs'. tree code place pid (MakeTree ps end) regs' kT hT) regs
              (match_all pats (map erase (gets rs regs)) env) (all_tested ts regs)
              (choose code.atoms pid cs (map erase (gets rs regs)) env)
              (arms code place pid xs regs kT hT) tested
              (λ env' regs' ag k1. guard_ok code.atoms pid gd env' regs' ag in_guard
              (twice_back ws gs t1))
              (λ env' regs' regs'' ag k1 k2.
              let wide : (regs3 : Registers) → Keeps us regs'' regs3
              → Keeps ((ws ++ gs) ++ (us ++ vs)) regs regs3 = λ regs3 keep. keeps_on (ws ++ gs)
              (us ++ vs) regs regs'' regs3 (keeps_on ws gs regs regs' regs'' k1 k2)
              (keeps_left us vs regs'' regs3 keep) in
              (sim_whole w env' regs'' (agree_keep env' held' gs regs' regs'' ag in_guard k2)
              in_body (twice_front us vs t2)).go kS hS kT hT
              (λ vals regs3 q keep. k vals regs3 q (wide regs3 keep))
              (λ class u regs3 keep. y class u regs3 (wide regs3 keep)))
              (rest.go kS hS kT hT (λ vals regs3 q keep. k vals regs3 q
              (λ r' z. keep r' (out_back r' us vs (out_back r' (ws ++ gs) (us ++ vs) z))))
              (λ class u regs3 keep. y class u regs3
              (λ r' z. keep r' (out_back r' us vs (out_back r' (ws ++ gs) (us ++ vs) z)))));
        }
