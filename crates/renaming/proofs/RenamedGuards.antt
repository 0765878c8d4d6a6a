-- Renaming leaves the guard form of `try` what it is.
use Rattle.std.proofs.Common.{◌≡◌, ◌≢◌, ℕ, suc, List, [], ◌∷◌, length, Option, Some, None}
use Rattle.std.proofs.Common.{Bool, true, false, refl, sym, ap, ◌∙◌, inl, inr, ⊎_elim, arith}
use Rattle.std.specs.Prelude.{◌==◌, ◌&&◌, ◌||◌, codes, if◌then◌else◌, unwrap_or}
use Rattle.std.proofs.lemmas.Bool.{eq-eqb, ne_eqb}
use Rattle.std.proofs.lemmas.Bool.Decides.{eqb_tells}
use Rattle.std.proofs.lemmas.Option.{none-some, same_Some}
use Rattle.hy_core.specs.Resolve.{Names, is_called, is_guard_form, is_one_variable}
use Rattle.hy_core.specs.Scopes.{Scope, with_variables}
use Rattle.lifted_program.specs.Renaming.{new_name, name_for, name_in, name_of, names_for}
use Rattle.lifted_program.proofs.Names.{name_for_is, names_in, name_fresh}
use Rattle.lifted_program.proofs.Variables.{In, not_in}

module _ (limit : ℕ) where
  pub names_for-length : (scope : Scope) (xs : List ℕ)
      → length (names_for limit scope xs) ≡ length xs
  names_for-length scope [] = refl
  names_for-length scope (x ∷ xs) = ap suc (names_for-length (x ∷ scope) xs)

  named_in : (scope : Scope) (x y : ℕ) → name_in limit scope x ≡ Some y
      → In y (names_in limit scope)
  named_in [] x y h = absurd (none-some y h)
  named_in (z ∷ scope) x y h = by_case (named_in scope x y) (x == z) h
    where
      by_case : (name_in limit scope x ≡ Some y → In y (names_in limit scope)) → (c : Bool)
          → (if c then Some (name_for limit scope z) else name_in limit scope x) ≡ Some y
          → In y (names_in limit (z ∷ scope))
      by_case rest true q = inl (sym (same_Some (name_for limit scope z) y q))
      by_case rest false q = inr (rest q)

  -- another variable has another name
  named_apart : (scope : Scope) (x z : ℕ) (o : Option ℕ) → name_in limit scope x ≡ o
      → name_for limit scope z ≢ unwrap_or o (new_name limit (z ∷ scope))
  named_apart scope x z (Some y) h e =
      not_in (name_for limit scope z) y (names_in limit scope) (name_fresh limit scope z)
      (named_in scope x y h) e
  named_apart scope x z None h e =
      ⊎_elim (λ k. omega (arith, k, e)) (λ k. omega (arith, k.0, k.1, e))
      (name_for_is limit scope z).which

  one_variable : (scope : Scope) (xs : List ℕ) (x : ℕ)
      → is_one_variable (names_for limit scope xs) (name_of limit (with_variables scope xs) x)
      ≡ is_one_variable xs x
  one_variable scope [] x = refl
  one_variable scope (y ∷ z ∷ xs) x = refl
  one_variable scope (y ∷ []) x =
      let own = name_for limit scope y in
      let other = new_name limit (y ∷ scope) in
      let name = λ (c : Bool). unwrap_or (if c then Some own else name_in limit scope x) other in
      ⊎_elim
      (λ e. eq-eqb own (name (x == y)) (sym (ap name e.0)) ∙ sym (eq-eqb y x (sym e.1)))
      (λ n. ap (λ c. own == name c) n.0
      ∙ ne_eqb own (name false) (named_apart scope x y (name_in limit scope x) refl)
      ∙ sym (ne_eqb y x (λ e. n.1 (sym e))))
      (eqb_tells x y)

  pub guard_form : (names : Names) (current : ℕ) (scope : Scope) (xs : List ℕ) (x : ℕ)
      (ys : List ℕ) (a : ℕ)
      → is_guard_form names current (names_for limit scope xs)
      (name_of limit (with_variables scope xs) x) (names_for limit scope ys) a
      ≡ is_guard_form names current xs x ys a
  guard_form names current scope xs x ys a =
      let false_atom = is_called names current a in
      λ i. one_variable scope xs x i
      && (((names_for-length scope ys i == 2) || (names_for-length scope ys i == 3)) && false_atom
      (codes "false"))
