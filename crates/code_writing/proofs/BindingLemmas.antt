-- The bindings in force are found by their variables.
use Rattle.std.proofs.Common.{◌≡◌, ◌≢◌, ℕ, zero, suc, ◌+◌, ◌-◌, ◌<◌, ◌≤◌, List, [], ◌∷◌, ◌++◌, length, drop, get_or, set, Option, Some, None, refl, sym, ap, ◌∙◌, subst, arith, append_assoc, ⊎_elim, ◌⊎◌, length-append, length-drop, length-set, Bool, true, false}
use Rattle.std.specs.Prelude.{◌==◌, if◌then◌else◌}
use Rattle.std.proofs.lemmas.Bool.{eq-eqb}
use Rattle.std.proofs.lemmas.Bool.Decides.{eqb_tells}
use Rattle.std.proofs.lemmas.List.{get_or-set_other, get_or-set_same, set-set, set-get_or, get_or_past, get_or_append_left, get_or_at, drop-drop}
use Rattle.program_code.specs.HeldRegisters.{register_of}
use Rattle.code_writing.specs.code.Bindings.{onto, pairs, Linked}
use Rattle.code_writing.specs.declared.scope.Entry.{Entry}

pub onto_done : (es fs : List Entry) → onto es fs ≡ onto es [] ++ fs
onto_done [] fs = refl
onto_done (e ∷ es) fs = onto_done es (e ∷ fs) ∙ sym (append_assoc (onto es []) (e ∷ []) fs) ∙ ap (λ l. l ++ fs) (sym (onto_done es (e ∷ [])))

pub onto_last : (es : List Entry) (e : Entry) (fs : List Entry) → onto (es ++ e ∷ []) fs ≡ e ∷ onto es fs
onto_last [] e fs = refl
onto_last (x ∷ es) e fs = onto_last es e (x ∷ fs)

pub onto_length : (es fs : List Entry) → length (onto es fs) ≡ length es + length fs
onto_length [] fs = omega arith
onto_length (e ∷ es) fs = let h = onto_length es (e ∷ fs) in omega (arith, h)

pub onto_twice : (es : List Entry) → onto (onto es []) [] ≡ es
onto_twice [] = refl
onto_twice (e ∷ es) = ap (λ l. onto l []) (onto_done es (e ∷ [])) ∙ onto_last (onto es []) e [] ∙ ap (◌∷◌ e) (onto_twice es)

pub pairs_length : (es : List Entry) → length (pairs es) ≡ length es
pairs_length [] = refl
pairs_length (e ∷ es) = ap suc (pairs_length es)

pub depth_is : (es : List Entry) → length (pairs (onto es [])) ≡ length es
depth_is es = let a = pairs_length (onto es []) in let b = onto_length es [] in omega (arith, a, b)

look_here : (x v r : ℕ) (bs : List (ℕ × ℕ)) → x ≡ v → register_of x ((v, r) ∷ bs) ≡ Some r
look_here x v r bs h = ap (λ b. if b then Some r else register_of x bs) (eq-eqb x v h)

look_past : (x v r : ℕ) (bs : List (ℕ × ℕ)) → x ≢ v → register_of x ((v, r) ∷ bs) ≡ register_of x bs
look_past x v r bs h = ap (λ b. if b then Some r else register_of x bs) (⊎_elim (λ y. absurd (h y.1)) (λ n. n.0) (eqb_tells x v))

pub find_none : (es : List Entry) (last : List ℕ) (x : ℕ) → Linked es last → get_or last x 0 ≡ 0 → register_of x (pairs es) ≡ None
find_none [] last x k h = refl
find_none (e ∷ es) last x k h =
    ⊎_elim (λ y. absurd (clash (get_or last x 0) (length es) h (ap (λ z. get_or last z 0) y.1 ∙ k.0)))
    (λ n. look_past x e.variable e.register (pairs es) n.1 ∙ find_none es (set last e.variable e.before) x k.2 (get_or-set_other last e.variable x e.before 0 n.1 ∙ h))
    (eqb_tells x e.variable)
  where
    clash : (a b : ℕ) → a ≡ 0 → a ≡ b + 1 → ⊥
    clash a b p q = omega (arith, p, q)

pub record Found (es : List Entry) (x n : ℕ) (d : Entry) : Type 0 where
  pub inside : n < length es
  pub there : register_of x (pairs es) ≡ Some (get_or (onto es []) n d).register

pub find_some : (es : List Entry) (last : List ℕ) (x n : ℕ) (d : Entry) → Linked es last → get_or last x 0 ≡ n + 1 → Found es x n d
find_some [] last x n d k h = absurd (clash (get_or last x 0) n (k x) h)
  where
    clash : (a b : ℕ) → a ≡ 0 → a ≡ b + 1 → ⊥
    clash a b p q = omega (arith, p, q)
find_some (e ∷ es) last x n d k h =
    ⊎_elim
    (λ y.
    let at : length es ≡ n = (let a = ap (λ z. get_or last z 0) y.1 in let b = k.0 in omega (arith, a, b, h)) in
    let len : length (onto es []) ≡ n = (let l = onto_length es [] in omega (arith, l, at)) in
    let get : get_or (onto es (e ∷ [])) n d ≡ e = ap (λ l. get_or l n d) (onto_done es (e ∷ [])) ∙ get_or_at (onto es []) e [] d n len in
    record { inside = omega (arith, at); there = look_here x e.variable e.register (pairs es) y.1 ∙ ap (λ z. Some z.register) (sym get) })
    (λ m.
    let f = find_some es (set last e.variable e.before) x n d k.2 (get_or-set_other last e.variable x e.before 0 m.1 ∙ h) in
    let less : n < length (onto es []) = (let l = onto_length es [] in let i = f.inside in omega (arith, l, i)) in
    let get : get_or (onto es (e ∷ [])) n d ≡ get_or (onto es []) n d = ap (λ l. get_or l n d) (onto_done es (e ∷ [])) ∙ get_or_append_left (onto es []) (e ∷ []) d n less in
    record { inside = (let i = f.inside in omega (arith, i)); there = look_past x e.variable e.register (pairs es) m.1 ∙ f.there ∙ ap (λ z. Some z.register) (sym get) })
    (eqb_tells x e.variable)

pub back_step : (b b' : List (ℕ × ℕ)) (d n : ℕ) → n ≡ length b → d < n → b' ≡ drop 1 b → drop (length b' - d) b' ≡ drop (length b - d) b
back_step b b' d n e lt h =
    let l : length b' ≡ length b - 1 = ap length h ∙ length-drop 1 b in
    let m : 1 + (length b' - d) ≡ length b - d = omega (arith, e, lt, l) in
    ap (drop (length b' - d)) h ∙ drop-drop (length b' - d) 1 b ∙ ap (λ k. drop k b) m

same_set : (l m : List ℕ) (i a : ℕ) → i < length l → i < length m → ((x : ℕ) → get_or m x 0 ≡ get_or l x 0) → (x : ℕ) → get_or (set m i a) x 0 ≡ get_or (set l i a) x 0
same_set l m i a h k s x =
    ⊎_elim
    (λ y. ap (λ z. get_or (set m i a) z 0) y.1 ∙ get_or-set_same m i a 0 k ∙ sym (ap (λ z. get_or (set l i a) z 0) y.1 ∙ get_or-set_same l i a 0 h))
    (λ n. get_or-set_other m i x a 0 n.1 ∙ s x ∙ sym (get_or-set_other l i x a 0 n.1))
    (eqb_tells x i)

pub linked_same : (es : List Entry) (l m : List ℕ) → length l ≤ length m → ((x : ℕ) → get_or m x 0 ≡ get_or l x 0) → Linked es l → Linked es m
linked_same [] l m h s k = λ x. s x ∙ k x
linked_same (e ∷ es) l m h s k =
    let a = k.1 in
    let less : e.variable < length m = omega (arith, a, h) in
    let p = length-set l e.variable e.before in
    let q = length-set m e.variable e.before in
    (s e.variable ∙ k.0, less, linked_same es (set l e.variable e.before) (set m e.variable e.before) (omega (arith, p, q, h)) (same_set l m e.variable e.before k.1 less s) k.2)

pub linked_more : (e : Entry) (es : List Entry) (l : List ℕ) (n : ℕ) → Linked es l → e.variable < length l → e.before ≡ get_or l e.variable 0 → n ≡ length es + 1 → Linked (e ∷ es) (set l e.variable n)
linked_more e es l n k h b c =
    let p = length-set l e.variable n in
    (get_or-set_same l e.variable n 0 h ∙ c, omega (arith, p, h), subst (Linked es) (sym (set-set l e.variable n e.before ∙ ap (set l e.variable) b ∙ set-get_or l e.variable 0)) k)
