-- The names of the variables in scope of a renamed program.
use Rattle.std.proofs.Common.{◌≡◌, ◌≢◌, ℕ, List, [], ◌∷◌, Some, true, false, refl, sym, ap}
use Rattle.std.proofs.Common.{◌∙◌, subst, ◌⊎◌, inl, inr, ⊎_elim}
use Rattle.std.specs.Prelude.{◌==◌, if◌then◌else◌, unwrap_or}
use Rattle.std.proofs.lemmas.Bool.Decides.{eqb_tells}
use Rattle.hy_core.specs.Resolved as r
use Rattle.hy_core.specs.Resolved.{Pattern, Patterns, NoPatterns, MorePatterns}
use Rattle.hy_core.specs.Scopes.{Scope, with_variables, with_pattern, with_patterns}
use Rattle.lifted_program.specs.Renaming.{new_name, name_for, name_in, name_of, names_for}
use Rattle.lifted_program.specs.Renaming.{renamed_pattern, renamed_patterns}
use Rattle.lifted_program.proofs.Names.{names_in}
use Rattle.lifted_program.proofs.Variables.{In}

module _ (limit : ℕ) where
  pub names_with : (scope : Scope) (xs : List ℕ)
      → with_variables (names_in limit scope) (names_for limit scope xs)
      ≡ names_in limit (with_variables scope xs)
  names_with scope [] = refl
  names_with scope (x ∷ xs) = names_with (x ∷ scope) xs

  mutual
    pub names_with_pattern : (p : Pattern) (scope : Scope)
        → with_pattern (names_in limit scope) (renamed_pattern limit scope p)
        ≡ names_in limit (with_pattern scope p)
    names_with_pattern (r.TheTuple ps) scope = names_with_patterns ps scope
    names_with_pattern (r.TheList ps p) scope =
        let inside = with_patterns scope ps in
        ap (λ s. with_pattern s (renamed_pattern limit inside p)) (names_with_patterns ps scope)
        ∙ names_with_pattern p inside
    names_with_pattern (r.Alias x p) scope = names_with_pattern p (x ∷ scope)
    names_with_pattern _ scope = refl

    pub names_with_patterns : (ps : Patterns) (scope : Scope)
        → with_patterns (names_in limit scope) (renamed_patterns limit scope ps)
        ≡ names_in limit (with_patterns scope ps)
    names_with_patterns NoPatterns scope = refl
    names_with_patterns (MorePatterns p ps) scope =
        let inside = with_pattern scope p in
        ap (λ s. with_patterns s (renamed_patterns limit inside ps)) (names_with_pattern p scope)
        ∙ names_with_patterns ps inside

  -- a bound variable has a name
  name_there : (scope : Scope) (x : ℕ) → In x scope → (w : ℕ) × (name_in limit scope x ≡ Some w)
      × In w (names_in limit scope)
  name_there [] x h = absurd h
  name_there (z ∷ scope) x h = by_case (λ k. name_there scope x k) (eqb_tells x z) h
    where
      by_case
          : (In x scope → (w : ℕ) × (name_in limit scope x ≡ Some w) × In w (names_in limit scope))
          → ((x == z) ≡ true) × (x ≡ z) ⊎ ((x == z) ≡ false) × (x ≢ z) → (x ≡ z) ⊎ In x scope
          → (w : ℕ) × (name_in limit (z ∷ scope) x ≡ Some w) × In w (names_in limit (z ∷ scope))
      by_case rest s h =
          ⊎_elim
          (λ e. (
            name_for limit scope z,
            ap (λ c. if c then Some (name_for limit scope z) else name_in limit scope x) e.0,
            inl refl,
          ))
          (λ n. ⊎_elim (λ e. absurd (n.1 e))
          (λ k. let o = rest k in (
            o.0,
            ap (λ c. if c then Some (name_for limit scope z) else name_in limit scope x) n.0
                ∙ o.1,
            inr o.2,
          )) h) s

  pub variable_scoped : (scope : Scope) (x : ℕ) → In x scope
      → In (name_of limit scope x) (names_in limit scope)
  variable_scoped scope x h =
      let o = name_there scope x h in
      subst (λ y. In y (names_in limit scope))
      (sym (ap (λ p. unwrap_or p (new_name limit scope)) o.1)) o.2
