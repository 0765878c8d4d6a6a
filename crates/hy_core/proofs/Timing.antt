-- How a run goes on with more inputs or more calls, and where it stands at each input that it uses.
use Rattle.std.proofs.Common.{◌≡◌, ℕ, zero, suc, List, [], ◌∷◌, ◌++◌, refl, sym, ap, ◌∙◌, subst}
use Rattle.std.proofs.lemmas.List.{append-nil}
use Rattle.hy_core.specs.Computation.{Computation, Give, Raise, Fault, Act, Call, Birth, Receive, attempt, Input, Got, Lapsed, Born, Outcome, Needs, NeedsPid, Moment, Did, Used, Run, run, after, after_all, dones, uses, IsDue, StandsBefore}
use Rattle.hy_core.proofs.Runs.{dones-append}

-- a run that begins with another
pub record Continues {V C B W : Type 0} (before later : Run V C B W) : Type 0 where
  pub more : List (Moment V B)
  pub moments : later.moments ≡ before.moments ++ more

continues_after : {V C B W : Type 0} (m : Moment V B) (r s : Run V C B W) → Continues r s → Continues (after m r) (after m s)
continues_after m r s h = record { more = h.more; moments = ap (◌∷◌ m) h.moments }

continues_after_all : {V C B W : Type 0} (note : List B) (r s : Run V C B W) → Continues r s → Continues (after_all note r) (after_all note s)
continues_after_all [] r s h = h
continues_after_all (b ∷ note) r s h = continues_after (Did b) _ _ (continues_after_all note r s h)

same_moments : {V C B W : Type 0} (r s : Run V C B W) → s.moments ≡ r.moments → Continues r s
same_moments r s h = record { more = []; moments = h ∙ sym (append-nil r.moments) }

inputs_after_all : {V C B W : Type 0} (note : List B) (r : Run V C B W) → (after_all note r).inputs ≡ r.inputs
inputs_after_all [] r = refl
inputs_after_all (b ∷ note) r = inputs_after_all note r

nil_cons : {A : Type 0} (before : List A) (x : A) (xs : List A) → [] ≡ before ++ x ∷ xs → ⊥
nil_cons [] x xs p = cc
nil_cons (b ∷ before) x xs p = cc

head_same : {A : Type 0} (a b : A) (xs ys : List A) → a ∷ xs ≡ b ∷ ys → a ≡ b
head_same a b xs ys p = cc

tail_same : {A : Type 0} (a b : A) (xs ys : List A) → a ∷ xs ≡ b ∷ ys → xs ≡ ys
tail_same a b xs ys p = cc

-- what is done is no use, and a use tells its input
did_used : {V B : Type 0} (b : B) (i : Input V) → Did b ≡ Used i → ⊥
did_used b i p = cc

abbrev use_of : {V B : Type 0} → Input V → Moment V B
use_of i = Used i

used_same : {V B : Type 0} (i j : Input V) → use_of {V = V} {B = B} i ≡ use_of j → i ≡ j
used_same i j p = cc

module _ {V C F A W B : Type 0} (did : A → B) (note : List B) (body : F → List V → Computation V C F A W) where
  abbrev running : ℕ → Computation V C F A W → List (Input V) → Run V C B W
  running n p ins = run did note body n p ins

  pub more_inputs : (n : ℕ) (p : Computation V C F A W) (ins jns : List (Input V)) → Continues (run did note body n p ins) (run did note body n p (ins ++ jns))
  more_inputs n (Give vs) ins jns = same_moments _ _ refl
  more_inputs n (Raise c v) ins jns = same_moments _ _ refl
  more_inputs n Fault ins jns = same_moments _ _ refl
  more_inputs n (Act a p) ins jns = continues_after (Did (did a)) _ _ (more_inputs n p ins jns)
  more_inputs zero (Call f vs k h) ins jns = same_moments _ _ refl
  more_inputs (suc n) (Call f vs k h) ins jns = continues_after_all note _ _ (more_inputs n (attempt (body f vs) k h) ins jns)
  more_inputs n (Birth k) [] jns = record { more = (running n (Birth k) jns).moments; moments = refl }
  more_inputs n (Birth k) (Born pid ∷ ins) jns = continues_after (Used (Born pid)) _ _ (more_inputs n (k pid) ins jns)
  more_inputs n (Birth k) (Got v ∷ ins) jns = same_moments _ _ refl
  more_inputs n (Birth k) (Lapsed ∷ ins) jns = same_moments _ _ refl
  more_inputs n (Receive w k p) [] jns = record { more = (running n (Receive w k p) jns).moments; moments = refl }
  more_inputs n (Receive w k p) (Got v ∷ ins) jns = continues_after (Used (Got v)) _ _ (more_inputs n (k v) ins jns)
  more_inputs n (Receive w k p) (Lapsed ∷ ins) jns = continues_after (Used Lapsed) _ _ (more_inputs n p ins jns)
  more_inputs n (Receive w k p) (Born pid ∷ ins) jns = same_moments _ _ refl

  pub more_calls : (n : ℕ) (p : Computation V C F A W) (ins : List (Input V)) → Continues (run did note body n p ins) (run did note body (suc n) p ins)
  more_calls n (Give vs) ins = same_moments _ _ refl
  more_calls n (Raise c v) ins = same_moments _ _ refl
  more_calls n Fault ins = same_moments _ _ refl
  more_calls n (Act a p) ins = continues_after (Did (did a)) _ _ (more_calls n p ins)
  more_calls zero (Call f vs k h) ins = record { more = (running 1 (Call f vs k h) ins).moments; moments = refl }
  more_calls (suc n) (Call f vs k h) ins = continues_after_all note _ _ (more_calls n (attempt (body f vs) k h) ins)
  more_calls n (Birth k) [] = same_moments _ _ refl
  more_calls n (Birth k) (Born pid ∷ ins) = continues_after (Used (Born pid)) _ _ (more_calls n (k pid) ins)
  more_calls n (Birth k) (Got v ∷ ins) = same_moments _ _ refl
  more_calls n (Birth k) (Lapsed ∷ ins) = same_moments _ _ refl
  more_calls n (Receive w k p) [] = same_moments _ _ refl
  more_calls n (Receive w k p) (Got v ∷ ins) = continues_after (Used (Got v)) _ _ (more_calls n (k v) ins)
  more_calls n (Receive w k p) (Lapsed ∷ ins) = continues_after (Used Lapsed) _ _ (more_calls n p ins)
  more_calls n (Receive w k p) (Born pid ∷ ins) = same_moments _ _ refl

  pub none_left : (n : ℕ) (p : Computation V C F A W) → (run did note body n p []).inputs ≡ []
  none_left n (Give vs) = refl
  none_left n (Raise c v) = refl
  none_left n Fault = refl
  none_left n (Act a p) = none_left n p
  none_left zero (Call f vs k h) = refl
  none_left (suc n) (Call f vs k h) = inputs_after_all note (running n (attempt (body f vs) k h) []) ∙ none_left n (attempt (body f vs) k h)
  none_left n (Birth k) = refl
  none_left n (Receive w k p) = refl

-- where an input is used
module _ {V C F A W B : Type 0} (did : A → B) (note : List B) (body : F → List V → Computation V C F A W) where
  done_first : (r : Run V C B W) (b : B) (before : List (Moment V B)) (i : Input V) → StandsBefore r before i → StandsBefore (after (Did b) r) (Did b ∷ before) i
  done_first r b before i h = record { moments = ap (◌∷◌ (Did b)) h.moments; inputs = h.inputs; due = h.due }

  used_first : (r : Run V C B W) (j : Input V) (before : List (Moment V B)) (i : Input V) → StandsBefore r before i → StandsBefore (after (Used j) r) (Used j ∷ before) i
  used_first r j before i h = record { moments = ap (◌∷◌ (Used j)) h.moments; inputs = h.inputs; due = h.due }

  abbrev StandsOn : (List (Input V) → Run V C B W) → List (Moment V B) → Input V → Type 0
  StandsOn result before i = StandsBefore (result (uses before)) before i

  -- behind what a call itself does
  noted : (result : List (Input V) → Run V C B W) (ins : List (Input V)) (i : Input V) (later : List (Moment V B)) → ((before : List (Moment V B)) → (result ins).moments ≡ before ++ Used i ∷ later → StandsOn result before i) → (bs : List B) (before : List (Moment V B)) → (after_all bs (result ins)).moments ≡ before ++ Used i ∷ later → StandsOn (λ jns. after_all bs (result jns)) before i
  noted result ins i later h [] before e = h before e
  noted result ins i later h (b ∷ bs) [] e = absurd (did_used b i (head_same (Did b) (Used i) _ later e))
  noted result ins i later h (b ∷ bs) (x ∷ before) e =
      subst (λ y. StandsOn (λ jns. after (Did b) (after_all bs (result jns))) (y ∷ before) i) (head_same (Did b) x _ _ e)
      (done_first (after_all bs (result (uses before))) b before i (noted result ins i later h bs before (tail_same (Did b) x _ _ e)))

  same_due : (o : Outcome V C W) (i j : Input V) → use_of {V = V} {B = B} i ≡ use_of j → IsDue o i → IsDue o j
  same_due o i j e = subst (IsDue o) (used_same i j e)

  pub at_use : (n : ℕ) (p : Computation V C F A W) (ins : List (Input V)) (before : List (Moment V B)) (i : Input V) (later : List (Moment V B)) → (run did note body n p ins).moments ≡ before ++ Used i ∷ later → StandsBefore (run did note body n p (uses before)) before i
  at_use n (Give vs) ins before i later e = absurd (nil_cons before _ _ e)
  at_use n (Raise c v) ins before i later e = absurd (nil_cons before _ _ e)
  at_use n Fault ins before i later e = absurd (nil_cons before _ _ e)
  at_use n (Act a p) ins [] i later e = absurd (did_used (did a) i (head_same (Did (did a)) (Used i) _ later e))
  at_use n (Act a p) ins (x ∷ before) i later e =
      subst (λ y. StandsOn (λ jns. run did note body n (Act a p) jns) (y ∷ before) i) (head_same (Did (did a)) x _ _ e)
      (done_first (run did note body n p (uses before)) (did a) before i (at_use n p ins before i later (tail_same (Did (did a)) x _ _ e)))
  at_use zero (Call f vs k h) ins before i later e = absurd (nil_cons before _ _ e)
  at_use (suc n) (Call f vs k h) ins before i later e =
      let q = attempt (body f vs) k h in
      noted (λ jns. run did note body n q jns) ins i later (λ before' e'. at_use n q ins before' i later e') note before e
  at_use n (Birth k) [] before i later e = absurd (nil_cons before _ _ e)
  at_use n (Birth k) (Born pid ∷ ins) [] i later e =
      record { moments = refl; inputs = refl; due = same_due NeedsPid (Born pid) i (head_same (Used (Born pid)) (Used i) _ later e) tt }
  at_use n (Birth k) (Born pid ∷ ins) (x ∷ before) i later e =
      subst (λ y. StandsOn (λ jns. run did note body n (Birth k) jns) (y ∷ before) i) (head_same (Used (Born pid)) x _ _ e)
      (used_first (run did note body n (k pid) (uses before)) (Born pid) before i (at_use n (k pid) ins before i later (tail_same (Used (Born pid)) x _ _ e)))
  at_use n (Birth k) (Got v ∷ ins) before i later e = absurd (nil_cons before _ _ e)
  at_use n (Birth k) (Lapsed ∷ ins) before i later e = absurd (nil_cons before _ _ e)
  at_use n (Receive w k p) [] before i later e = absurd (nil_cons before _ _ e)
  at_use n (Receive w k p) (Got v ∷ ins) [] i later e =
      record { moments = refl; inputs = refl; due = same_due (Needs w) (Got v) i (head_same (Used (Got v)) (Used i) _ later e) tt }
  at_use n (Receive w k p) (Got v ∷ ins) (x ∷ before) i later e =
      subst (λ y. StandsOn (λ jns. run did note body n (Receive w k p) jns) (y ∷ before) i) (head_same (Used (Got v)) x _ _ e)
      (used_first (run did note body n (k v) (uses before)) (Got v) before i (at_use n (k v) ins before i later (tail_same (Used (Got v)) x _ _ e)))
  at_use n (Receive w k p) (Lapsed ∷ ins) [] i later e =
      record { moments = refl; inputs = refl; due = same_due (Needs w) Lapsed i (head_same (Used Lapsed) (Used i) _ later e) tt }
  at_use n (Receive w k p) (Lapsed ∷ ins) (x ∷ before) i later e =
      subst (λ y. StandsOn (λ jns. run did note body n (Receive w k p) jns) (y ∷ before) i) (head_same (Used Lapsed) x _ _ e)
      (used_first (run did note body n p (uses before)) Lapsed before i (at_use n p ins before i later (tail_same (Used Lapsed) x _ _ e)))
  at_use n (Receive w k p) (Born pid ∷ ins) before i later e = absurd (nil_cons before _ _ e)

-- events alone
pub events_begin : {V C W : Type 0} {B : Type 0} (r s : Run V C B W) (h : Continues r s) → dones s.moments ≡ dones r.moments ++ dones h.more
events_begin r s h = ap dones h.moments ∙ dones-append r.moments h.more
