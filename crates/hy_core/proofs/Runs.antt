-- Laws of computations and of their runs.
use Rattle.std.proofs.Common.{◌≡◌, ℕ, zero, suc, List, [], ◌∷◌, ◌++◌, refl, sym, ap, ◌∙◌}
use Rattle.std.proofs.lemmas.List.{append-nil}
use Rattle.std.proofs.Math.Path.{fun_ext}
use Rattle.hy_core.specs.Computation.{Computation, Give, Raise, Fault, Act, Call, Birth, Receive, attempt, bind, Input, Got, Lapsed, Born, Outcome, Values, Raised, Needs, NeedsPid, Spent, Wrong, Moment, Did, Used, Run, run, after, after_all, stop, dones, result_of, with_values, then_run}

pub attempt_assoc : {V C F A W : Type 0} (p : Computation V C F A W) (k : List V → Computation V C F A W) (h : C → V → Computation V C F A W) (g : List V → Computation V C F A W) (j : C → V → Computation V C F A W) → attempt (attempt p k h) g j ≡ attempt p (λ vs. attempt (k vs) g j) (λ c v. attempt (h c v) g j)
attempt_assoc (Give vs) k h g j = refl
attempt_assoc (Raise c v) k h g j = refl
attempt_assoc Fault k h g j = refl
attempt_assoc (Act a p) k h g j = ap (Act a) (attempt_assoc p k h g j)
attempt_assoc (Call f vs m n) k h g j = λ i. Call f vs (λ ws. attempt_assoc (m ws) k h g j i) (λ c v. attempt_assoc (n c v) k h g j i)
attempt_assoc (Birth m) k h g j = ap Birth (fun_ext λ n. attempt_assoc (m n) k h g j)
attempt_assoc (Receive w m p) k h g j = λ i. Receive w (λ v. attempt_assoc (m v) k h g j i) (attempt_assoc p k h g j i)

-- goes on where a part gives values or raises; each other end of a part is the whole's
abbrev pub go_on : {V C B W : Type 0} → List (Moment V B) → ℕ → List (Input V) → Outcome V C W → (List V → ℕ → List (Input V) → Run V C B W) → (C → V → ℕ → List (Input V) → Run V C B W) → Run V C B W
go_on ms n ins (Values vs) k h = let r = k vs n ins in record r { moments = ms ++ r.moments }
go_on ms n ins (Raised c v) k h = let r = h c v n ins in record r { moments = ms ++ r.moments }
go_on ms n ins (Needs w) k h = record { moments = ms; calls = n; inputs = ins; end = Needs w }
go_on ms n ins NeedsPid k h = record { moments = ms; calls = n; inputs = ins; end = NeedsPid }
go_on ms n ins Spent k h = record { moments = ms; calls = n; inputs = ins; end = Spent }
go_on ms n ins Wrong k h = record { moments = ms; calls = n; inputs = ins; end = Wrong }

abbrev pub then_attempt : {V C B W : Type 0} → Run V C B W → (List V → ℕ → List (Input V) → Run V C B W) → (C → V → ℕ → List (Input V) → Run V C B W) → Run V C B W
then_attempt r k h = go_on r.moments r.calls r.inputs r.end k h

go_on_after : {V C B W : Type 0} (m : Moment V B) (ms : List (Moment V B)) (n : ℕ) (ins : List (Input V)) (e : Outcome V C W) (k : List V → ℕ → List (Input V) → Run V C B W) (h : C → V → ℕ → List (Input V) → Run V C B W) → after m (go_on ms n ins e k h) ≡ go_on (m ∷ ms) n ins e k h
go_on_after m ms n ins (Values vs) k h = refl
go_on_after m ms n ins (Raised c v) k h = refl
go_on_after m ms n ins (Needs w) k h = refl
go_on_after m ms n ins NeedsPid k h = refl
go_on_after m ms n ins Spent k h = refl
go_on_after m ms n ins Wrong k h = refl

go_on_after_all : {V C B W : Type 0} (note : List B) (ms : List (Moment V B)) (n : ℕ) (ins : List (Input V)) (e : Outcome V C W) (k : List V → ℕ → List (Input V) → Run V C B W) (h : C → V → ℕ → List (Input V) → Run V C B W) → after_all note (go_on ms n ins e k h) ≡ then_attempt (after_all note (record { moments = ms; calls = n; inputs = ins; end = e })) k h
go_on_after_all [] ms n ins e k h = refl
go_on_after_all (b ∷ note) ms n ins e k h =
    let r = after_all note (record { moments = ms; calls = n; inputs = ins; end = e }) in
    ap (after (Did b)) (go_on_after_all note ms n ins e k h) ∙ go_on_after (Did b) r.moments r.calls r.inputs r.end k h

module _ {V C F A W B : Type 0} (did : A → B) (note : List B) (body : F → List V → Computation V C F A W) where
  abbrev running : ℕ → Computation V C F A W → List (Input V) → Run V C B W
  running n p ins = run did note body n p ins

  -- a part first, and then what follows it, with the calls and the inputs that are left
  pub run_attempt : (n : ℕ) (p : Computation V C F A W) (k : List V → Computation V C F A W) (h : C → V → Computation V C F A W) (ins : List (Input V)) → run did note body n (attempt p k h) ins ≡ then_attempt (run did note body n p ins) (λ vs m ins'. run did note body m (k vs) ins') (λ c v m ins'. run did note body m (h c v) ins')
  run_attempt n (Give vs) k h ins = refl
  run_attempt n (Raise c v) k h ins = refl
  run_attempt n Fault k h ins = refl
  run_attempt n (Act a p) k h ins =
      let r = running n p ins in
      ap (after (Did (did a))) (run_attempt n p k h ins) ∙ go_on_after (Did (did a)) r.moments r.calls r.inputs r.end (λ vs m ins'. running m (k vs) ins') (λ c v m ins'. running m (h c v) ins')
  run_attempt zero (Call f vs g j) k h ins = refl
  run_attempt (suc n) (Call f vs g j) k h ins =
      let r = running n (attempt (body f vs) g j) ins in
      ap (λ q. after_all note (running n q ins)) (sym (attempt_assoc (body f vs) g j k h)) ∙ ap (after_all note) (run_attempt n (attempt (body f vs) g j) k h ins)
      ∙ go_on_after_all note r.moments r.calls r.inputs r.end (λ vs m ins'. running m (k vs) ins') (λ c v m ins'. running m (h c v) ins')
  run_attempt n (Birth g) k h [] = refl
  run_attempt n (Birth g) k h (Born pid ∷ ins) =
      let r = running n (g pid) ins in
      ap (after (Used (Born pid))) (run_attempt n (g pid) k h ins) ∙ go_on_after (Used (Born pid)) r.moments r.calls r.inputs r.end (λ vs m ins'. running m (k vs) ins') (λ c v m ins'. running m (h c v) ins')
  run_attempt n (Birth g) k h (Got v ∷ ins) = refl
  run_attempt n (Birth g) k h (Lapsed ∷ ins) = refl
  run_attempt n (Receive w g p) k h [] = refl
  run_attempt n (Receive w g p) k h (Got v ∷ ins) =
      let r = running n (g v) ins in
      ap (after (Used (Got v))) (run_attempt n (g v) k h ins) ∙ go_on_after (Used (Got v)) r.moments r.calls r.inputs r.end (λ vs m ins'. running m (k vs) ins') (λ c v m ins'. running m (h c v) ins')
  run_attempt n (Receive w g p) k h (Lapsed ∷ ins) =
      let r = running n p ins in
      ap (after (Used Lapsed)) (run_attempt n p k h ins) ∙ go_on_after (Used Lapsed) r.moments r.calls r.inputs r.end (λ vs m ins'. running m (k vs) ins') (λ c v m ins'. running m (h c v) ins')
  run_attempt n (Receive w g p) k h (Born pid ∷ ins) = refl

-- the same of results

pub dones-append : {V B : Type 0} (ms ns : List (Moment V B)) → dones (ms ++ ns) ≡ dones ms ++ dones ns
dones-append [] ns = refl
dones-append (Did b ∷ ms) ns = ap (◌∷◌ b) (dones-append ms ns)
dones-append (Used i ∷ ms) ns = dones-append ms ns

result_of_go_on : {V C B W : Type 0} (ms : List (Moment V B)) (n : ℕ) (ins : List (Input V)) (e : Outcome V C W) (k : List V → ℕ → List (Input V) → Run V C B W) → result_of (go_on ms n ins e k (λ c v m jns. stop m jns (Raised c v))) ≡ with_values (dones ms) n ins e (λ vs m jns. result_of (k vs m jns))
result_of_go_on ms n ins (Values vs) k = let r = k vs n ins in ap (λ events. record { events = events; calls = r.calls; inputs = r.inputs; end = r.end }) (dones-append ms r.moments)
result_of_go_on ms n ins (Raised c v) k = ap (λ events. record { events = events; calls = n; inputs = ins; end = Raised c v }) (ap dones (append-nil ms))
result_of_go_on ms n ins (Needs w) k = refl
result_of_go_on ms n ins NeedsPid k = refl
result_of_go_on ms n ins Spent k = refl
result_of_go_on ms n ins Wrong k = refl

module _ {V C F A W B : Type 0} (did : A → B) (note : List B) (body : F → List V → Computation V C F A W) where
  pub result_bind : (n : ℕ) (p : Computation V C F A W) (k : List V → Computation V C F A W) (ins : List (Input V)) → result_of (run did note body n (bind p k) ins) ≡ then_run (result_of (run did note body n p ins)) (λ vs m jns. result_of (run did note body m (k vs) jns))
  result_bind n p k ins =
      let r = run did note body n p ins in
      ap result_of (run_attempt did note body n p k Raise ins) ∙ result_of_go_on r.moments r.calls r.inputs r.end (λ vs m jns. run did note body m (k vs) jns)
