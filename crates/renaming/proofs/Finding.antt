-- How bindings are found by the places of their variables.
use Rattle.std.proofs.Common.{◌≡◌, ℕ, suc, ◌+◌, ◌-◌, ◌<◌, ◌≤◌, List, [], ◌∷◌, ◌++◌}
use Rattle.std.proofs.Common.{length, drop, get_or, set, Some, None, Bool, true}
use Rattle.std.proofs.Common.{refl, sym, ap, ◌∙◌, subst, arith, append_assoc, ⊎_elim}
use Rattle.std.proofs.Common.{length-drop, length-set, nat_lt, lt-ltb}
use Rattle.std.specs.Prelude.{◌||◌, nat_le, if◌then◌else◌, unwrap_or}
use Rattle.std.proofs.lemmas.Bool.Decides.{eqb_tells}
use Rattle.std.proofs.lemmas.List.{get_or-set_other, get_or-set_same, set-set, set-get_or}
use Rattle.std.proofs.lemmas.List.{get_or_append_left, get_or_at, drop-drop}
use Rattle.hy_core.specs.Scopes.{is_bound}
use Rattle.lifted_program.specs.Renaming.{new_name, name_for, name_in, name_of}
use Rattle.renaming.specs.Bindings.{onto, variables, Linked}
use Rattle.renaming.specs.declared.scope.Binding.{Binding}

onto_done : (bs done : List Binding) → onto bs done ≡ onto bs [] ++ done
onto_done [] done = refl
onto_done (b ∷ bs) done =
    onto_done bs (b ∷ done) ∙ sym (append_assoc (onto bs []) (b ∷ []) done)
    ∙ ap (λ l. l ++ done) (sym (onto_done bs (b ∷ [])))

pub onto_last : (bs : List Binding) (b : Binding) (done : List Binding)
    → onto (bs ++ b ∷ []) done ≡ b ∷ onto bs done
onto_last [] b done = refl
onto_last (x ∷ bs) b done = onto_last bs b (x ∷ done)

pub onto_length : (bs done : List Binding) → length (onto bs done) ≡ length bs + length done
onto_length [] done = omega arith
onto_length (b ∷ bs) done = let h = onto_length bs (b ∷ done) in omega (arith, h)

pub onto_twice : (bs : List Binding) → onto (onto bs []) [] ≡ bs
onto_twice [] = refl
onto_twice (b ∷ bs) =
    ap (λ l. onto l []) (onto_done bs (b ∷ [])) ∙ onto_last (onto bs []) b []
    ∙ ap (◌∷◌ b) (onto_twice bs)

pub variables_length : (bs : List Binding) → length (variables bs) ≡ length bs
variables_length [] = refl
variables_length (b ∷ bs) = ap suc (variables_length bs)

pub depth_is : (bs : List Binding) → length (variables (onto bs [])) ≡ length bs
depth_is bs =
    let a = variables_length (onto bs []) in
    let b = onto_length bs [] in
    omega (arith, a, b)

-- a variable is bound where it has a place
pub bound_is : (bs : List Binding) (places : List ℕ) (x : ℕ) → Linked bs places
    → nat_lt 0 (get_or places x 0) ≡ is_bound x (variables bs)
bound_is [] places x k = ap (nat_lt 0) (k x)
bound_is (b ∷ bs) places x k =
    ⊎_elim
    (λ y.
    let at = ap (λ z. get_or places z 0) y.1 ∙ k.0 in
    let some : 0 < get_or places x 0 = omega (arith, at) in
    lt-ltb 0 (get_or places x 0) some ∙ sym (ap (λ c. c || is_bound x (variables bs)) y.0))
    (λ n.
    let other = get_or-set_other places b.variable x b.around 0 n.1 in
    ap (nat_lt 0) (sym other) ∙ bound_is bs (set places b.variable b.around) x k.2
    ∙ sym (ap (λ c. c || is_bound x (variables bs)) n.0))
    (eqb_tells x b.variable)

pub find_none : (limit : ℕ) (bs : List Binding) (places : List ℕ) (x : ℕ) → Linked bs places
    → get_or places x 0 ≡ 0 → name_in limit (variables bs) x ≡ None
find_none limit [] places x k h = refl
find_none limit (b ∷ bs) places x k h =
    let name = name_for limit (variables bs) b.variable in
    ⊎_elim
    (λ y. absurd (clash (get_or places x 0) (length bs) h (ap (λ z. get_or places z 0) y.1 ∙ k.0)))
    (λ n.
    ap (λ c. if c then Some name else name_in limit (variables bs) x) n.0
    ∙ find_none limit bs (set places b.variable b.around) x k.2
    (get_or-set_other places b.variable x b.around 0 n.1 ∙ h))
    (eqb_tells x b.variable)
  where
    clash : (a b : ℕ) → a ≡ 0 → a ≡ b + 1 → ⊥
    clash a b p q = omega (arith, p, q)

-- the name at a place, by what is bound there
abbrev pub named : (limit depth : ℕ) → (bound : Bool) → (variable : ℕ) → ℕ
named limit depth bound x = if bound || nat_le limit x then limit + depth else x

pub record Found (limit : ℕ) (bs : List Binding) (x n : ℕ) (d : Binding) : Type 0 where
  pub inside : n < length bs
  pub there
      : name_in limit (variables bs) x
      ≡ Some (named limit n (nat_lt 0 (get_or (onto bs []) n d).around) x)

pub find_some : (limit : ℕ) (bs : List Binding) (places : List ℕ) (x n : ℕ) (d : Binding)
    → Linked bs places → get_or places x 0 ≡ n + 1 → Found limit bs x n d
find_some limit [] places x n d k h = absurd (clash (get_or places x 0) n (k x) h)
  where
    clash : (a b : ℕ) → a ≡ 0 → a ≡ b + 1 → ⊥
    clash a b p q = omega (arith, p, q)
find_some limit (b ∷ bs) places x n d k h =
    let name = name_for limit (variables bs) b.variable in
    let rest = set places b.variable b.around in
    ⊎_elim
    (λ y.
    let a = ap (λ z. get_or places z 0) y.1 in
    let c = k.0 in
    let at : length bs ≡ n = omega (arith, a, c, h) in
    let l = onto_length bs [] in
    let len : length (onto bs []) ≡ n = omega (arith, l, at) in
    let got : get_or (onto bs (b ∷ [])) n d ≡ b =
    ap (λ l. get_or l n d) (onto_done bs (b ∷ [])) ∙ get_or_at (onto bs []) b [] d n len in
    let around : get_or rest b.variable 0 ≡ b.around =
    get_or-set_same places b.variable b.around 0 k.1 in
    let bound : is_bound b.variable (variables bs) ≡ nat_lt 0 b.around =
    sym (bound_is bs rest b.variable k.2) ∙ ap (nat_lt 0) around in
    let deep : length (variables bs) ≡ n = variables_length bs ∙ at in
    record {
      inside = omega (arith, at);
      there =
          ap (λ c. if c then Some name else name_in limit (variables bs) x) y.0
          ∙ (λ i. Some (named limit (deep i) (bound i) b.variable))
          ∙ (λ i. Some (named limit n (nat_lt 0 (sym got i).around) (sym y.1 i)));
    })
    (λ m.
    let f = find_some limit bs rest x n d k.2
    (get_or-set_other places b.variable x b.around 0 m.1 ∙ h) in
    let l = onto_length bs [] in
    let i = f.inside in
    let less : n < length (onto bs []) = omega (arith, l, i) in
    let got : get_or (onto bs (b ∷ [])) n d ≡ get_or (onto bs []) n d =
    ap (λ l. get_or l n d) (onto_done bs (b ∷ []))
    ∙ get_or_append_left (onto bs []) (b ∷ []) d n less in
    record {
      inside = omega (arith, i);
      there =
          ap (λ c. if c then Some name else name_in limit (variables bs) x) m.0 ∙ f.there
          ∙ (λ i. Some (named limit n (nat_lt 0 (sym got i).around) x));
    })
    (eqb_tells x b.variable)

pub back_step : (b b' : List ℕ) (d n : ℕ) → n ≡ length b → d < n → b' ≡ drop 1 b
    → drop (length b' - d) b' ≡ drop (length b - d) b
back_step b b' d n e lt h =
    let l : length b' ≡ length b - 1 = ap length h ∙ length-drop 1 b in
    let m : 1 + (length b' - d) ≡ length b - d = omega (arith, e, lt, l) in
    ap (drop (length b' - d)) h ∙ drop-drop (length b' - d) 1 b ∙ ap (λ k. drop k b) m

same_set : (l m : List ℕ) (i a : ℕ) → i < length l → i < length m
    → ((x : ℕ) → get_or m x 0 ≡ get_or l x 0) → (x : ℕ)
    → get_or (set m i a) x 0 ≡ get_or (set l i a) x 0
same_set l m i a h k s x =
    ⊎_elim
    (λ y. ap (λ z. get_or (set m i a) z 0) y.1 ∙ get_or-set_same m i a 0 k
    ∙ sym (ap (λ z. get_or (set l i a) z 0) y.1 ∙ get_or-set_same l i a 0 h))
    (λ n. get_or-set_other m i x a 0 n.1 ∙ s x ∙ sym (get_or-set_other l i x a 0 n.1))
    (eqb_tells x i)

pub linked_same : (bs : List Binding) (l m : List ℕ) → length l ≤ length m
    → ((x : ℕ) → get_or m x 0 ≡ get_or l x 0) → Linked bs l → Linked bs m
linked_same [] l m h s k = λ x. s x ∙ k x
linked_same (b ∷ bs) l m h s k =
    let a = k.1 in
    let less : b.variable < length m = omega (arith, a, h) in
    let p = length-set l b.variable b.around in
    let q = length-set m b.variable b.around in (
      s b.variable ∙ k.0,
      less,
      linked_same bs (set l b.variable b.around) (set m b.variable b.around)
          (omega (arith, p, q, h)) (same_set l m b.variable b.around k.1 less s) k.2,
    )

pub linked_more : (b : Binding) (bs : List Binding) (l : List ℕ) (n : ℕ) → Linked bs l
    → b.variable < length l → b.around ≡ get_or l b.variable 0 → n ≡ length bs + 1
    → Linked (b ∷ bs) (set l b.variable n)
linked_more b bs l n k h e c =
    let p = length-set l b.variable n in (
      get_or-set_same l b.variable n 0 h ∙ c,
      omega (arith, p, h),
      subst (Linked bs)
          (sym (set-set l b.variable n b.around ∙ ap (set l b.variable) e
          ∙ set-get_or l b.variable 0)) k,
    )

-- the name of a variable that is bound here
pub name_for_is : (limit : ℕ) (bs : List Binding) (places : List ℕ) (x place depth : ℕ)
    → Linked bs places → place ≡ get_or places x 0 → depth ≡ length (variables bs)
    → named limit depth (nat_lt 0 place) x ≡ name_for limit (variables bs) x
name_for_is limit bs places x place depth k p d =
    let bound = ap (nat_lt 0) p ∙ bound_is bs places x k in
    λ i. named limit (d i) (bound i) x

-- the name of a variable with no binding, and of one with its binding at this place
pub name_of_none : (limit : ℕ) (bs : List Binding) (places : List ℕ) (x place depth : ℕ)
    → Linked bs places → place ≡ get_or places x 0 → depth ≡ length (variables bs) → place ≡ 0
    → named limit depth true x ≡ name_of limit (variables bs) x
name_of_none limit bs places x place depth k p d none =
    (λ i. limit + d i)
    ∙ sym (ap (λ o. unwrap_or o (new_name limit (variables bs)))
    (find_none limit bs places x k (sym p ∙ none)))

pub name_of_some : (limit : ℕ) (bs : List Binding) (places : List ℕ) (x place depth : ℕ)
    (b : Binding) → Linked (onto bs []) places → place ≡ get_or places x 0 → place ≡ depth + 1
    → b ≡ get_or bs depth b
    → named limit depth (nat_lt 0 b.around) x ≡ name_of limit (variables (onto bs [])) x
name_of_some limit bs places x place depth b k p at is =
    let f = find_some limit (onto bs []) places x depth b k (sym p ∙ at) in
    let got : b ≡ get_or (onto (onto bs []) []) depth b =
    is ∙ ap (λ l. get_or l depth b) (sym (onto_twice bs)) in
    (λ i. named limit depth (nat_lt 0 (got i).around) x)
    ∙ sym (ap (λ o. unwrap_or o (new_name limit (variables (onto bs [])))) f.there)
