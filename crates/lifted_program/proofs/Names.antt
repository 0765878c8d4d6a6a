-- Names that aren't in scope yet, and what is bound under them.
use Rattle.std.proofs.Common.{◌≡◌, ◌≢◌, ℕ, ◌+◌, ◌<◌, ◌≤◌, List, [], ◌∷◌, length, Option, Some, None}
use Rattle.std.proofs.Common.{Bool, true, false, true≢false, refl, sym, ap, ◌∙◌, ◌⊎◌, inl, inr}
use Rattle.std.proofs.Common.{⊎_elim, arith}
use Rattle.std.specs.Prelude.{◌==◌, ◌||◌, nat_le, unwrap_or, if◌then◌else◌}
use Rattle.std.proofs.lemmas.Bool.{eq-eqb, ne_eqb, leb-false}
use Rattle.std.proofs.Math.Bool.{or-true}
use Rattle.std.proofs.lemmas.Option.{none-some, same_Some}
use Rattle.hy_terms.specs.Term.{Term}
use Rattle.hy_core.specs.Match.{Env, Empty, Bound, Locals, lookup}
use Rattle.hy_core.specs.Resolved.{Functions}
use Rattle.hy_core.specs.Scopes.{Scope, is_bound}
use Rattle.lifted_program.proofs.Variables.{In, Out, not_in}
use Rattle.lifted_program.specs.Renaming.{new_name, name_for, name_in, name_of, renamed_functions}

module _ (limit : ℕ) where
  -- the name of a variable that is bound here: a new one, or its own where it is below the limit
  -- and isn't bound yet
  pub record NameFor (scope : Scope) (z w : ℕ) : Type 0 where
    pub which : (w ≡ new_name limit scope) ⊎ ((w ≡ z) × (z < limit) × (is_bound z scope ≡ false))

  pub name_for_is : (scope : Scope) (z : ℕ) → NameFor scope z (name_for limit scope z)
  name_for_is scope z = by_case (is_bound z scope) refl (nat_le limit z) refl
    where
      by_case : (c : Bool) → is_bound z scope ≡ c → (d : Bool) → nat_le limit z ≡ d
          → NameFor scope z (if c || d then new_name limit scope else z)
      by_case true p d q = record { which = inl refl }
      by_case false p true q = record { which = inl refl }
      by_case false p false q = record { which = inr (refl, leb-false limit z q, p) }

  -- the names of the variables in scope
  abbrev pub names_in : Scope → List ℕ
  names_in [] = []
  names_in (x ∷ scope) = name_for limit scope x ∷ names_in scope

  record Taken (scope : Scope) (y : ℕ) : Type 0 where
    below : y < limit + length scope
    which : (limit ≤ y) ⊎ (is_bound y scope ≡ true)

  taken_first : (z y : ℕ) (scope : Scope) (w : ℕ) → NameFor scope z w → y ≡ w
      → Taken (z ∷ scope) y
  taken_first z y scope w n e =
      ⊎_elim (λ k. record { below = omega arith; which = inl (omega arith) })
      (λ k. let a = k.0 in let b = k.1 in
      record {
        below = omega arith;
        which = inr (ap (λ c. c || is_bound y scope) (eq-eqb y z (e ∙ k.0)));
      }) n.which

  taken : (scope : Scope) (y : ℕ) → In y (names_in scope) → Taken scope y
  taken [] y h = absurd h
  taken (z ∷ scope) y h =
      ⊎_elim (λ e. taken_first z y scope (name_for limit scope z) (name_for_is scope z) e)
      (λ k. let t = taken scope y k in let b = t.below in
      record {
        below = omega arith;
        which = ⊎_elim inl (λ q. inr (ap (λ c. (y == z) || c) q ∙ or-true (y == z))) t.which;
      }) h

  out_all : (w : ℕ) (ws : List ℕ) → ((y : ℕ) → In y ws → w ≢ y) → Out w ws
  out_all w [] h = tt
  out_all w (y ∷ ws) h = (h y (inl refl), out_all w ws (λ z k. h z (inr k)))

  pub name_fresh : (scope : Scope) (x : ℕ) → Out (name_for limit scope x) (names_in scope)
  name_fresh scope x =
      out_all (name_for limit scope x) (names_in scope)
      (λ y i e. apart y (name_for limit scope x) (name_for_is scope x) (taken scope y i) e)
    where
      apart : (y w : ℕ) → NameFor scope x w → Taken scope y → w ≡ y → ⊥
      apart y w n t e =
          ⊎_elim (λ k. let b = t.below in omega arith)
          (λ k. let a = k.0 in let b = k.1 in
          ⊎_elim (λ q. omega arith)
          (λ q. true≢false (sym q ∙ ap (λ v. is_bound v scope) (sym e ∙ k.0) ∙ k.2)) t.which)
          n.which

  -- what a variable in scope is named is a name in scope
  named_in : (scope : Scope) (x y : ℕ) → name_in limit scope x ≡ Some y → In y (names_in scope)
  named_in [] x y h = absurd (none-some y h)
  named_in (z ∷ scope) x y h = by_case (named_in scope x y) (x == z) h
    where
      by_case : (name_in limit scope x ≡ Some y → In y (names_in scope)) → (c : Bool)
          → (if c then Some (name_for limit scope z) else name_in limit scope x) ≡ Some y
          → In y (names_in (z ∷ scope))
      by_case rest true q = inl (sym (same_Some (name_for limit scope z) y q))
      by_case rest false q = inr (rest q)

  -- so it isn't that of a variable that is bound now
  names_apart : (scope : Scope) (x y z : ℕ) → name_in limit scope x ≡ Some y
      → (y == name_for limit scope z) ≡ false
  names_apart scope x y z h =
      let w = name_for limit scope z in
      ne_eqb y w
      (λ e. not_in w y (names_in scope) (name_fresh scope z) (named_in scope x y h) (sym e))

  -- the variables of an environment, and the environment of a renamed program
  abbrev pub scope_of : Env → Scope
  scope_of Empty = []
  scope_of (Bound x t env) = x ∷ scope_of env
  scope_of (Locals fs env) = scope_of env

  abbrev pub renamed_env : Env → Env
  renamed_env Empty = Empty
  renamed_env (Bound x t env) = Bound (name_for limit (scope_of env) x) t (renamed_env env)
  renamed_env (Locals fs env) = Locals (renamed_functions limit (scope_of env) fs) (renamed_env env)

  -- no binding has a new name
  new_free : (env : Env) (k : ℕ) → new_name limit (scope_of env) ≤ k → lookup k (renamed_env env)
      ≡ None
  new_free Empty k h = refl
  new_free (Bound z t env) k h =
      skip (name_for limit (scope_of env) z) (name_for_is (scope_of env) z)
      (new_free env k (omega arith))
    where
      skip : (w : ℕ) → NameFor (scope_of env) z w → lookup k (renamed_env env) ≡ None
          → (if k == w then Some t else lookup k (renamed_env env)) ≡ None
      skip w n rest =
          ap (λ c. if c then Some t else lookup k (renamed_env env))
          (ne_eqb k w
          (λ e. ⊎_elim (λ p. omega arith) (λ p. let a = p.0 in let b = p.1 in omega arith) n.which))
          ∙ rest
  new_free (Locals fs env) k h = new_free env k h

  -- what a name is bound to
  abbrev bound_to : Option ℕ → Env → Option Term
  bound_to None env = None
  bound_to (Some y) env = lookup y env

  bound_outside : (o : Option ℕ) (fs : Functions) (env : Env) → bound_to o (Locals fs env)
      ≡ bound_to o env
  bound_outside None fs env = refl
  bound_outside (Some y) fs env = refl

  bound_first : (x z : ℕ) (t : Term) (scope : Scope) (env env' : Env) (o : Option ℕ)
      → name_in limit scope x ≡ o → bound_to o env' ≡ lookup x env → (c : Bool)
      → bound_to (if c then Some (name_for limit scope z) else o)
      (Bound (name_for limit scope z) t env') ≡ (if c then Some t else lookup x env)
  bound_first x z t scope env env' o n h true =
      ap (λ c. if c then Some t else lookup (name_for limit scope z) env')
      (eq-eqb (name_for limit scope z) (name_for limit scope z) refl)
  bound_first x z t scope env env' None n h false = h
  bound_first x z t scope env env' (Some y) n h false =
      ap (λ c. if c then Some t else lookup y env') (names_apart scope x y z n) ∙ h

  lookup_named : (env : Env) (x : ℕ) → bound_to (name_in limit (scope_of env) x) (renamed_env env)
      ≡ lookup x env
  lookup_named Empty x = refl
  lookup_named (Bound z t env) x =
      bound_first x z t (scope_of env) env (renamed_env env) (name_in limit (scope_of env) x) refl
      (lookup_named env x) (x == z)
  lookup_named (Locals fs env) x =
      bound_outside (name_in limit (scope_of env) x) (renamed_functions limit (scope_of env) fs)
      (renamed_env env) ∙ lookup_named env x

  -- a variable has its term under its name
  pub lookup_renamed : (env : Env) (x : ℕ)
      → lookup (name_of limit (scope_of env) x) (renamed_env env) ≡ lookup x env
  lookup_renamed env x = by_case (name_in limit (scope_of env) x) (lookup_named env x)
    where
      by_case : (o : Option ℕ) → bound_to o (renamed_env env) ≡ lookup x env
          → lookup (unwrap_or o (new_name limit (scope_of env))) (renamed_env env) ≡ lookup x env
      by_case (Some y) h = h
      by_case None h = new_free env (new_name limit (scope_of env)) (omega arith) ∙ h
