-- A commons at whose end there are the first pass and one child.
use Rattle.std.proofs.Common.{◌≡◌, ℕ, zero, suc, ◌<◌, List, [], ◌∷◌, length, map, get_or, sym, refl, ap, ◌∙◌, subst, arith}
use Rattle.std.specs.List.{All, AllPairs}
use mathlib.Core.Option.{some-injective, some-ne-none}
use Rattle.hy_words.specs.Lists.{Has}
use Rattle.commons.specs.declared.view.View.{View}
use Rattle.commons.specs.declared.plain.PlainCommons.{PlainCommons}
use Rattle.commons.specs.declared.plain.PlainPass.{PlainPass}
use Rattle.commons.specs.Rule.{At}
use Rattle.commons.specs.Closing.{HasChildren}
use Rattle.commons.specs.Plain.{IsPassIn, IsApartIn, view_in}

pub both_passes : (c : PlainCommons) (p q : PlainPass) (ps : List PlainPass) → ps ≡ p ∷ q ∷ [] → IsPassIn c p → IsPassIn c q → All (λ r. IsPassIn c r) ps
both_passes c p q ps e hp hq = subst (λ (rs : List PlainPass). All (λ r. IsPassIn c r) rs) (sym e) each
  where
    each : (k : ℕ) (d : PlainPass) → k < length (p ∷ q ∷ []) → IsPassIn c (get_or (p ∷ q ∷ []) k d)
    each zero d h = hp
    each (suc zero) d h = hq
    each (suc (suc k)) d h = absurd (omega arith)

pub both_apart : (p q : PlainPass) (ps : List PlainPass) → ps ≡ p ∷ q ∷ [] → IsApartIn p q → AllPairs IsApartIn ps
both_apart p q ps e n = subst (AllPairs IsApartIn) (sym e) pair
  where
    pair : (i j : ℕ) (d : PlainPass) → i < j → j < length (p ∷ q ∷ []) → IsApartIn (get_or (p ∷ q ∷ []) i d) (get_or (p ∷ q ∷ []) j d)
    pair zero (suc zero) d l h = n
    pair zero zero d l h = absurd (omega arith)
    pair zero (suc (suc j)) d l h = absurd (omega arith)
    pair (suc i) zero d l h = absurd (omega arith)
    pair (suc i) (suc zero) d l h = absurd (omega arith)
    pair (suc i) (suc (suc j)) d l h = absurd (omega arith)

family : (v w : View) (q : ℕ) → v.pid ≡ 0 → v.born ≡ q ∷ [] → w.pid ≡ q → w.born ≡ [] → HasChildren (v ∷ w ∷ [])
family v w q root born pid none = record { first = (0, v, refl, root); children = child }
  where
    only : (x : ℕ) → Has (q ∷ []) x → x ≡ q
    only x (zero, b, e) = sym e
    only x (suc k, b, e) = absurd (omega arith)

    no_one : (x : ℕ) → Has [] x → ⊥
    no_one x h = let b = h.1 in omega arith

    child : (j : ℕ) (u : View) (x : ℕ) → At (v ∷ w ∷ []) j u → Has u.born x → (i : ℕ) × (y : View) × At (v ∷ w ∷ []) i y × (y.pid ≡ x)
    child zero u x e h = (1, w, refl, pid ∙ sym (only x (subst (λ (xs : List ℕ). Has xs x) (ap (λ (y : View). y.born) (sym (some-injective v u e)) ∙ born) h)))
    child (suc zero) u x e h = absurd (no_one x (subst (λ (xs : List ℕ). Has xs x) (ap (λ (y : View). y.born) (sym (some-injective w u e)) ∙ none) h))
    child (suc (suc j)) u x e h = absurd (some-ne-none u (sym e))

pub one_child : (c : PlainCommons) (p q : PlainPass) (ps : List PlainPass) (pid : ℕ) → ps ≡ p ∷ q ∷ [] → (view_in c p).pid ≡ 0 → (view_in c p).born ≡ pid ∷ [] → (view_in c q).pid ≡ pid → (view_in c q).born ≡ [] → HasChildren (map (view_in c) ps)
one_child c p q ps pid e root born named none = subst (λ (rs : List PlainPass). HasChildren (map (view_in c) rs)) (sym e) (family (view_in c p) (view_in c q) pid root born named none)
