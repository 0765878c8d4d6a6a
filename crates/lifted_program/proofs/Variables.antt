-- Membership by recursion, and which variables are in scope.
use Rattle.std.proofs.Common.{◌≡◌, ◌≢◌, ℕ, zero, suc, ◌<◌, List, [], ◌∷◌, ◌++◌, length, Bool, true}
use Rattle.std.proofs.Common.{false, true≢false, refl, sym, ap, ◌∙◌, subst, ◌⊎◌, inl, inr, ⊎_elim}
use Rattle.std.proofs.Common.{arith}
use Rattle.std.specs.Prelude.{◌==◌, ◌||◌, slice_index_or}
use Rattle.std.specs.List.{Contains}
use Rattle.std.proofs.lemmas.Bool.{eq-eqb, ne_eqb}
use Rattle.std.proofs.Math.Bool.{or-true}
use Rattle.std.proofs.lemmas.Bool.Decides.{eqb_tells}
use Rattle.hy_core.specs.Resolved as r
use Rattle.hy_core.specs.Resolved.{Pattern, Patterns, NoPatterns, MorePatterns}
use Rattle.hy_core.specs.Scopes.{Scope, is_bound, with_variables, with_pattern, with_patterns}

abbrev pub In : {A : Type 0} → A → List A → Type 0
In a [] = ⊥
In a (b ∷ bs) = (a ≡ b) ⊎ In a bs

pub in_left : {A : Type 0} (x : A) (a b : List A) → In x a → In x (a ++ b)
in_left x [] b h = absurd h
in_left x (w ∷ a) b h = ⊎_elim inl (λ k. inr (in_left x a b k)) h

pub in_right : {A : Type 0} (x : A) (a b : List A) → In x b → In x (a ++ b)
in_right x [] b h = h
in_right x (w ∷ a) b h = inr (in_right x a b h)

pub in_split : {A : Type 0} (x : A) (a b : List A) → In x (a ++ b) → In x a ⊎ In x b
in_split x [] b h = inr h
in_split x (w ∷ a) b h =
    ⊎_elim (λ e. inl (inl e)) (λ k. ⊎_elim (λ m. inl (inr m)) inr (in_split x a b k)) h

in_at : {A : Type 0} (x : A) (xs : List A) (k : ℕ) → k < length xs → slice_index_or xs k x ≡ x
    → In x xs
in_at x [] k h e = absurd (omega arith)
in_at x (y ∷ ys) zero h e = inl (sym e)
in_at x (y ∷ ys) (suc k) h e = inr (in_at x ys k (omega arith) e)

pub contained_in : {A : Type 0} (x : A) (xs : List A) → Contains xs x → In x xs
contained_in x xs c = in_at x xs c.0 c.1 c.2

pub in_contained : {A : Type 0} (x : A) (xs : List A) → In x xs → Contains xs x
in_contained x [] h = absurd h
in_contained x (y ∷ ys) h =
    ⊎_elim (λ e. (0, omega arith, sym e)) (λ k. later (in_contained x ys k)) h
  where
    later : Contains ys x → Contains (y ∷ ys) x
    later c = let b = c.1 in (suc c.0, omega arith, c.2)

pub bound_in : (x : ℕ) (scope : Scope) → is_bound x scope ≡ true → In x scope
bound_in x [] h = absurd (true≢false (sym h))
bound_in x (y ∷ scope) h =
    ⊎_elim (λ s. inl s.1)
    (λ n. inr (bound_in x scope (sym (ap (λ c. c || is_bound x scope) n.0) ∙ h))) (eqb_tells x y)

pub in_bound : (x : ℕ) (scope : Scope) → In x scope → is_bound x scope ≡ true
in_bound x [] h = absurd h
in_bound x (y ∷ scope) h =
    ⊎_elim (λ e. ap (λ c. c || is_bound x scope) (eq-eqb x y e))
    (λ k. ap (λ c. (x == y) || c) (in_bound x scope k) ∙ or-true (x == y)) h

abbrev pub AllIn : List ℕ → List ℕ → Type 0
AllIn [] ws = Unit {0}
AllIn (x ∷ xs) ws = In x ws × AllIn xs ws

abbrev pub Out : ℕ → List ℕ → Type 0
Out x [] = Unit {0}
Out x (w ∷ ws) = (x ≢ w) × Out x ws

abbrev pub AllOut : List ℕ → List ℕ → Type 0
AllOut [] ws = Unit {0}
AllOut (x ∷ xs) ws = Out x ws × AllOut xs ws

pub out_unbound : (x : ℕ) (scope : Scope) → Out x scope → is_bound x scope ≡ false
out_unbound x [] o = refl
out_unbound x (y ∷ scope) o =
    ap (λ c. c || is_bound x scope) (ne_eqb x y o.0) ∙ out_unbound x scope o.1

pub unbound_out : (x : ℕ) (scope : Scope) → is_bound x scope ≡ false → Out x scope
unbound_out x [] h = tt
unbound_out x (y ∷ scope) h = (
  λ e. true≢false (sym (in_bound x (y ∷ scope) (inl e)) ∙ h),
  unbound_out x scope (later (x == y) h),
)
  where
    later : (c : Bool) → (c || is_bound x scope) ≡ false → is_bound x scope ≡ false
    later true q = absurd (true≢false q)
    later false q = q

pub all_in_from : (ys vs : List ℕ) → ((x : ℕ) → In x ys → In x vs) → AllIn ys vs
all_in_from [] vs h = tt
all_in_from (y ∷ ys) vs h = (h y (inl refl), all_in_from ys vs (λ x k. h x (inr k)))

pub not_in : (x w : ℕ) (ws : List ℕ) → Out x ws → In w ws → x ≢ w
not_in x w [] o h = absurd h
not_in x w (v ∷ ws) o h = ⊎_elim (λ e p. o.0 (p ∙ e)) (λ k. not_in x w ws o.1 k) h

pub out_from : (x : ℕ) (ws s : List ℕ) → ((y : ℕ) → In y ws → In y s) → Out x s → Out x ws
out_from x [] s h o = tt
out_from x (w ∷ ws) s h o =
    (not_in x w s o (h w (inl refl)), out_from x ws s (λ y k. h y (inr k)) o)

pub all_out_from : (xs ws s : List ℕ) → ((y : ℕ) → In y ws → In y s) → AllOut xs s → AllOut xs ws
all_out_from [] ws s h o = tt
all_out_from (x ∷ xs) ws s h o = (out_from x ws s h o.0, all_out_from xs ws s h o.1)

pub out_left : (a b ws : List ℕ) → AllOut (a ++ b) ws → AllOut a ws
out_left [] b ws h = tt
out_left (x ∷ a) b ws h = (h.0, out_left a b ws h.1)

pub out_right : (a b ws : List ℕ) → AllOut (a ++ b) ws → AllOut b ws
out_right [] b ws h = h
out_right (x ∷ a) b ws h = out_right a b ws h.1

pub all_out_append : (a b ws : List ℕ) → AllOut a ws → AllOut b ws → AllOut (a ++ b) ws
all_out_append [] b ws h k = k
all_out_append (x ∷ a) b ws h k = (h.0, all_out_append a b ws h.1 k)

-- the variables of patterns

abbrev mutual
  pub pattern_variables : Pattern → List ℕ
  pattern_variables (r.AnyTerm x) = x ∷ []
  pattern_variables (r.TheInt n) = []
  pattern_variables (r.TheAtom a) = []
  pattern_variables r.TheNil = []
  pattern_variables (r.TheText s) = []
  pattern_variables (r.TheTuple ps) = patterns_variables ps
  pattern_variables (r.TheList ps p) = patterns_variables ps ++ pattern_variables p
  pattern_variables (r.Alias x p) = x ∷ pattern_variables p

  pub patterns_variables : Patterns → List ℕ
  patterns_variables NoPatterns = []
  patterns_variables (MorePatterns p ps) = pattern_variables p ++ patterns_variables ps

pub with_append : (a b vs : List ℕ) → with_variables vs (a ++ b)
    ≡ with_variables (with_variables vs a) b
with_append [] b vs = refl
with_append (x ∷ a) b vs = with_append a b (x ∷ vs)

mutual
  pattern_binds : (p : Pattern) (vs : Scope) → with_variables vs (pattern_variables p)
      ≡ with_pattern vs p
  pattern_binds (r.TheTuple ps) vs = patterns_bind ps vs
  pattern_binds (r.TheList ps p) vs =
      with_append (patterns_variables ps) (pattern_variables p) vs
      ∙ ap (λ s. with_variables s (pattern_variables p)) (patterns_bind ps vs)
      ∙ pattern_binds p (with_patterns vs ps)
  pattern_binds (r.Alias x p) vs = pattern_binds p (x ∷ vs)
  pattern_binds _ vs = refl

  -- patterns bind their variables one after another
  pub patterns_bind : (ps : Patterns) (vs : Scope) → with_variables vs (patterns_variables ps)
      ≡ with_patterns vs ps
  patterns_bind NoPatterns vs = refl
  patterns_bind (MorePatterns p ps) vs =
      with_append (pattern_variables p) (patterns_variables ps) vs
      ∙ ap (λ s. with_variables s (patterns_variables ps)) (pattern_binds p vs)
      ∙ patterns_bind ps (with_pattern vs p)

-- what is in scope stays in scope
pub in_with : (xs vs : List ℕ) (y : ℕ) → In y vs → In y (with_variables vs xs)
in_with [] vs y h = h
in_with (x ∷ xs) vs y h = in_with xs (x ∷ vs) y (inr h)

pub in_these : (xs vs : List ℕ) (y : ℕ) → In y xs → In y (with_variables vs xs)
in_these [] vs y h = absurd h
in_these (x ∷ xs) vs y h =
    ⊎_elim (λ e. in_with xs (x ∷ vs) y (inl e)) (λ k. in_these xs (x ∷ vs) y k) h

pub in_with_pattern : (p : Pattern) (vs : Scope) (y : ℕ) → In y vs → In y (with_pattern vs p)
in_with_pattern p vs y h = subst (In y) (pattern_binds p vs) (in_with (pattern_variables p) vs y h)

pub in_with_patterns : (ps : Patterns) (vs : Scope) (y : ℕ) → In y vs → In y (with_patterns vs ps)
in_with_patterns ps vs y h =
    subst (In y) (patterns_bind ps vs) (in_with (patterns_variables ps) vs y h)

-- a wider scope stays wider
pub with_wider : (xs vs s : List ℕ) → ((y : ℕ) → In y vs → In y s) → (y : ℕ)
    → In y (with_variables vs xs) → In y (with_variables s xs)
with_wider [] vs s h = h
with_wider (x ∷ xs) vs s h = with_wider xs (x ∷ vs) (x ∷ s) (λ y i. ⊎_elim inl (λ k. inr (h y k)) i)

pub with_pattern_wider : (p : Pattern) (vs s : Scope) → ((y : ℕ) → In y vs → In y s) → (y : ℕ)
    → In y (with_pattern vs p) → In y (with_pattern s p)
with_pattern_wider p vs s h y i =
    subst (In y) (pattern_binds p s)
    (with_wider (pattern_variables p) vs s h y (subst (In y) (sym (pattern_binds p vs)) i))

pub with_patterns_wider : (ps : Patterns) (vs s : Scope) → ((y : ℕ) → In y vs → In y s) → (y : ℕ)
    → In y (with_patterns vs ps) → In y (with_patterns s ps)
with_patterns_wider ps vs s h y i =
    subst (In y) (patterns_bind ps s)
    (with_wider (patterns_variables ps) vs s h y (subst (In y) (sym (patterns_bind ps vs)) i))
