-- Lists of views: one of them changed, one more at the end.
use Rattle.std.proofs.Common.{◌≡◌, ◌≢◌, ◌⊎◌, ℕ, zero, suc, ◌+◌, ◌<◌, List, [], ◌∷◌, ◌++◌, length, set, sym, refl, ap, ◌∙◌, inl, inr, ⊎_elim, subst, arith}
use Rattle.std.specs.Prelude.{slice_index}
use mathlib.Core.Option.{some, some-injective, some-ne-none}
use lib.ListN.{get_elem?}
use native.Mathlib.Decide.{ℕ_discrete}
use mathlib.Core.Logic.{dite}
use Rattle.commons.specs.declared.view.View.{View}
use Rattle.hy_words.specs.Lists.{Has, total}
use Rattle.commons.specs.Rule.{At, HasParent}
use Rattle.commons.specs.Log.{actor_of}

-- no key stands twice
abbrev pub Once : {A : Type 0} → (A → ℕ) → List A → Type 0
Once {A} key l = (j k : ℕ) (a b : A) → get_elem? l j ≡ some a → get_elem? l k ≡ some b → key a ≡ key b → j ≡ k

module _ {A : Type 0} where
  pub at_set : (l : List A) (i j : ℕ) (a b : A) → get_elem? (set l i a) j ≡ some b → ((j ≡ i) × (a ≡ b)) ⊎ ((j ≢ i) × (get_elem? l j ≡ some b))
  at_set [] i j a b e = absurd (some-ne-none b (sym e))
  at_set (x ∷ xs) zero zero a b e = inl (refl, some-injective a b e)
  at_set (x ∷ xs) zero (suc j) a b e = inr ((λ h. omega arith), e)
  at_set (x ∷ xs) (suc i) zero a b e = inr ((λ h. omega arith), e)
  at_set (x ∷ xs) (suc i) (suc j) a b e = ⊎_elim (λ t. inl (ap suc t.0, t.1)) (λ t. let n = t.0 in inr ((λ h. n (omega arith)), t.1)) (at_set xs i j a b e)

  pub set_here : (l : List A) (i : ℕ) (a b : A) → get_elem? l i ≡ some b → get_elem? (set l i a) i ≡ some a
  set_here [] i a b e = absurd (some-ne-none b (sym e))
  set_here (x ∷ xs) zero a b e = refl
  set_here (x ∷ xs) (suc i) a b e = set_here xs i a b e

  pub set_else : (l : List A) (i j : ℕ) (a : A) → j ≢ i → get_elem? (set l i a) j ≡ get_elem? l j
  set_else [] i j a n = refl
  set_else (x ∷ xs) zero zero a n = absurd (n refl)
  set_else (x ∷ xs) zero (suc j) a n = refl
  set_else (x ∷ xs) (suc i) zero a n = refl
  set_else (x ∷ xs) (suc i) (suc j) a n = set_else xs i j a (λ e. n (ap suc e))

  pub set_again : (l : List A) (i : ℕ) (a : A) → get_elem? l i ≡ some a → set l i a ≡ l
  set_again [] i a e = refl
  set_again (x ∷ xs) zero a e = ap (λ (y : A). y ∷ xs) (sym (some-injective x a e))
  set_again (x ∷ xs) (suc i) a e = ap (λ (ys : List A). x ∷ ys) (set_again xs i a e)

  pub total_set : (f : A → ℕ) (l : List A) (i : ℕ) (a b : A) → get_elem? l i ≡ some a → total f (set l i b) + f a ≡ total f l + f b
  total_set f [] i a b e = absurd (some-ne-none a (sym e))
  total_set f (x ∷ xs) zero a b e = let h : f x ≡ f a = ap f (some-injective x a e) in let t : ℕ = total f xs in let g : (f b + t) + f a ≡ (f x + t) + f b = omega arith in g
  total_set f (x ∷ xs) (suc i) a b e = let h = total_set f xs i a b e in let t : ℕ = total f xs in let u : ℕ = total f (set xs i b) in let h' : u + f a ≡ t + f b = h in let g : (f x + u) + f a ≡ (f x + t) + f b = omega arith in g

  pub each_set : (P : A → Type 0) (l : List A) (i : ℕ) (b : A) → ((j : ℕ) (a : A) → j ≢ i → get_elem? l j ≡ some a → P a) → P b → (j : ℕ) (a : A) → get_elem? (set l i b) j ≡ some a → P a
  each_set P l i b others here j a e = ⊎_elim (λ (t : (j ≡ i) × (b ≡ a)). subst P t.1 here) (λ (t : (j ≢ i) × (get_elem? l j ≡ some a)). others j a t.0 t.1) (at_set l i j b a e)

  pub pairs_set : (R : A → A → Type 0) → ((x y : A) → R x y → R y x) → (l : List A) (i : ℕ) (b : A) → ((j k : ℕ) (x y : A) → j ≢ k → get_elem? l j ≡ some x → get_elem? l k ≡ some y → R x y)
      → ((j : ℕ) (x : A) → j ≢ i → get_elem? l j ≡ some x → R b x) → (j k : ℕ) (x y : A) → j ≢ k → get_elem? (set l i b) j ≡ some x → get_elem? (set l i b) k ≡ some y → R x y
  pairs_set R turn l i b old new j k x y n e f = ⊎_elim
      (λ (t : (j ≡ i) × (b ≡ x)). ⊎_elim (λ (u : (k ≡ i) × (b ≡ y)). absurd (n (t.0 ∙ sym u.0))) (λ (u : (k ≢ i) × (get_elem? l k ≡ some y)). subst (λ z. R z y) t.1 (new k y u.0 u.1)) (at_set l i k b y f))
      (λ (t : (j ≢ i) × (get_elem? l j ≡ some x)). ⊎_elim (λ (u : (k ≡ i) × (b ≡ y)). subst (λ z. R x z) u.1 (turn b x (new j x t.0 t.1))) (λ (u : (k ≢ i) × (get_elem? l k ≡ some y)). old j k x y n t.1 u.1) (at_set l i k b y f))
      (at_set l i j b x e)

  pub at_snoc : (l : List A) (a b : A) (j : ℕ) → get_elem? (l ++ a ∷ []) j ≡ some b → ((j < length l) × (get_elem? l j ≡ some b)) ⊎ ((j ≡ length l) × (a ≡ b))
  at_snoc [] a b zero e = inr (refl, some-injective a b e)
  at_snoc [] a b (suc j) e = absurd (some-ne-none b (sym e))
  at_snoc (x ∷ xs) a b zero e = inl (omega arith, e)
  at_snoc (x ∷ xs) a b (suc j) e = ⊎_elim (λ (t : (j < length xs) × (get_elem? xs j ≡ some b)). let t0 = t.0 in inl (omega arith, t.1)) (λ (t : (j ≡ length xs) × (a ≡ b)). let t0 = t.0 in inr (omega arith, t.1)) (at_snoc xs a b j e)

  pub at_longer : (l m : List A) (j : ℕ) (a : A) → get_elem? l j ≡ some a → get_elem? (l ++ m) j ≡ some a
  at_longer [] m j a e = absurd (some-ne-none a (sym e))
  at_longer (x ∷ xs) m zero a e = e
  at_longer (x ∷ xs) m (suc j) a e = at_longer xs m j a e

  pub at_last : (l : List A) (a : A) → get_elem? (l ++ a ∷ []) (length l) ≡ some a
  at_last [] a = refl
  at_last (x ∷ xs) a = at_last xs a

  pub at_append : (l m : List A) (j : ℕ) (a : A) → get_elem? (l ++ m) j ≡ some a → ((j < length l) × (get_elem? l j ≡ some a)) ⊎ ((i : ℕ) × (j ≡ length l + i) × (get_elem? m i ≡ some a))
  at_append [] m j a e = inr (j, omega arith, e)
  at_append (x ∷ xs) m zero a e = inl (omega arith, e)
  at_append (x ∷ xs) m (suc j) a e = ⊎_elim (λ (t : (j < length xs) × (get_elem? xs j ≡ some a)). let t0 = t.0 in inl (omega arith, t.1)) (λ (t : (i : ℕ) × (j ≡ length xs + i) × (get_elem? m i ≡ some a)). let t1 = t.1 in inr (t.0, omega arith, t.2)) (at_append xs m j a e)

  pub once_append : (key : A → ℕ) (l m : List A) → Once key l → Once key m → ((j k : ℕ) (a b : A) → get_elem? l j ≡ some a → get_elem? m k ≡ some b → key a ≢ key b) → Once key (l ++ m)
  once_append key l m p q apart j k a b e f same = ⊎_elim
      (λ (t : (j < length l) × (get_elem? l j ≡ some a)). ⊎_elim (λ (u : (k < length l) × (get_elem? l k ≡ some b)). p j k a b t.1 u.1 same) (λ (u : (i : ℕ) × (k ≡ length l + i) × (get_elem? m i ≡ some b)). absurd (apart j u.0 a b t.1 u.2 same)) (at_append l m k b f))
      (λ (t : (i : ℕ) × (j ≡ length l + i) × (get_elem? m i ≡ some a)). ⊎_elim (λ (u : (k < length l) × (get_elem? l k ≡ some b)). absurd (apart k t.0 b a u.1 t.2 (sym same))) (λ (u : (i : ℕ) × (k ≡ length l + i) × (get_elem? m i ≡ some b)). let n = q t.0 u.0 a b t.2 u.2 same in let t1 = t.1 in let u1 = u.1 in omega arith) (at_append l m k b f))
      (at_append l m j a e)

  pub once_cons : (key : A → ℕ) (x : A) (l : List A) → Once key l → ((j : ℕ) (a : A) → get_elem? l j ≡ some a → key a ≢ key x) → Once key (x ∷ l)
  once_cons key x l p other zero zero a b e f same = refl
  once_cons key x l p other zero (suc k) a b e f same = absurd (other k b f (sym same ∙ ap key (sym (some-injective x a e))))
  once_cons key x l p other (suc j) zero a b e f same = absurd (other j a e (same ∙ ap key (sym (some-injective x b f))))
  once_cons key x l p other (suc j) (suc k) a b e f same = ap suc (p j k a b e f same)

  pub total_snoc : (f : A → ℕ) (l : List A) (a : A) → total f (l ++ a ∷ []) ≡ total f l + f a
  total_snoc f [] a = omega arith
  total_snoc f (x ∷ xs) a = let h = total_snoc f xs a in let t : ℕ = total f xs in let u : ℕ = total f (xs ++ a ∷ []) in let h' : u ≡ t + f a = h in let g : f x + u ≡ f x + t + f a = omega arith in g

  pub each_snoc : (P : A → Type 0) (l : List A) (b : A) → ((j : ℕ) (a : A) → get_elem? l j ≡ some a → P a) → P b → (j : ℕ) (a : A) → get_elem? (l ++ b ∷ []) j ≡ some a → P a
  each_snoc P l b old new j a e = ⊎_elim (λ (t : (j < length l) × (get_elem? l j ≡ some a)). old j a t.1) (λ (t : (j ≡ length l) × (b ≡ a)). subst P t.1 new) (at_snoc l b a j e)

  pub pairs_snoc : (R : A → A → Type 0) → ((x y : A) → R x y → R y x) → (l : List A) (b : A) → ((j k : ℕ) (x y : A) → j ≢ k → get_elem? l j ≡ some x → get_elem? l k ≡ some y → R x y)
      → ((j : ℕ) (x : A) → get_elem? l j ≡ some x → R b x) → (j k : ℕ) (x y : A) → j ≢ k → get_elem? (l ++ b ∷ []) j ≡ some x → get_elem? (l ++ b ∷ []) k ≡ some y → R x y
  pairs_snoc R turn l b old new j k x y n e f = ⊎_elim
      (λ (t : (j < length l) × (get_elem? l j ≡ some x)). ⊎_elim (λ (u : (k < length l) × (get_elem? l k ≡ some y)). old j k x y n t.1 u.1) (λ (u : (k ≡ length l) × (b ≡ y)). subst (λ z. R x z) u.1 (turn b x (new j x t.1))) (at_snoc l b y k f))
      (λ (t : (j ≡ length l) × (b ≡ x)). ⊎_elim (λ (u : (k < length l) × (get_elem? l k ≡ some y)). subst (λ z. R z y) t.1 (new k y u.1)) (λ (u : (k ≡ length l) × (b ≡ y)). absurd (n (t.0 ∙ sym u.0))) (at_snoc l b y k f))
      (at_snoc l b x j e)

-- a pid stays somewhere where a view keeps it
pub same_pid : (views : List View) (k j : ℕ) (v w u : View) → At views k v → w.pid ≡ v.pid → At views j u → (x : ℕ) × (u' : View) × At (set views k w) x u' × (u.pid ≡ u'.pid)
same_pid views k j v w u at same e = dite (ℕ_discrete j k)
    (λ h. (k, w, set_here views k w v at, ap (λ (z : View). z.pid) (some-injective u v (sym e ∙ (ap (get_elem? views) h ∙ at))) ∙ sym same))
    (λ n. (j, u, set_else views k j w n ∙ e, refl))

-- a parent stays, where a view keeps its pid and its children, and the log goes on
pub parents_set : (log log' area : List ℕ) (views : List View) (k : ℕ) (v w : View) → At views k v → w.pid ≡ v.pid → ((p : ℕ) → Has v.born p → Has w.born p)
    → ((j : ℕ) (u : View) (place : ℕ) → At views j u → u.pid ≡ suc place → actor_of area (slice_index log' place) ≡ actor_of area (slice_index log place))
    → ((j : ℕ) (u : View) → At views j u → HasParent log area views u) → (j : ℕ) (u : View) → At (set views k w) j u → HasParent log' area (set views k w) u
parents_set log log' area views k v w at same more actor old j u e place up = ⊎_elim
    (λ (t : (j ≡ k) × (w ≡ u)).
    let v_up : v.pid ≡ suc place = sym same ∙ (ap (λ (x : View). x.pid) t.1 ∙ up) in
    let r = old k v at place v_up in
    move u.pid (subst (λ (q : ℕ). Parent views log' q) (sym same ∙ ap (λ (x : View). x.pid) t.1) (r.0, r.1, r.2, actor k v place at v_up ∙ r.3, r.4)))
    (λ (t : (j ≢ k) × (get_elem? views j ≡ some u)). let r = old j u t.1 place up in move u.pid (r.0, r.1, r.2, actor j u place t.1 up ∙ r.3, r.4))
    (at_set views k j w u e)
  where
    Parent : List View → List ℕ → ℕ → Type 0
    Parent vs ws q = (i : ℕ) × (x : View) × At vs i x × (actor_of area (slice_index ws place) ≡ x.pid) × Has x.born q

    move : (q : ℕ) → Parent views log' q → Parent (set views k w) log' q
    move q r = dite (ℕ_discrete r.0 k)
        (λ is. let x_is : r.1 ≡ v = some-injective r.1 v (sym r.2 ∙ (ap (get_elem? views) is ∙ at)) in (k, w, set_here views k w v at, r.3 ∙ (ap (λ (x : View). x.pid) x_is ∙ sym same), more q (subst (λ (x : View). Has x.born q) x_is r.4)))
        (λ other. (r.0, r.1, set_else views k r.0 w other ∙ r.2, r.3, r.4))
