-- Bindings with one more at their end.
use Rattle.std.proofs.Common.{◌≡◌, ℕ, zero, suc, ◌-◌, ◌<◌, ◌≤◌, ◌==◌, true, false, List, [], ◌∷◌, ◌++◌, length, take, get_or, Some, refl, sym, ap, subst, ◌∙◌, arith, eq-eqb}
use Rattle.std.proofs.lemmas.Bool.Decides.{Decides-eqb}
use Rattle.std.proofs.Math.Seq.{take-suc, take-length}
use Rattle.std.proofs.lemmas.Bool.{false_from_ne_true}
use Rattle.std.specs.Prelude.{Contains}
use Rattle.hy_core.specs.Match.{Env, Bound, lookup}
use Rattle.hybrid_run.specs.Arithmetic.{term_of, env_onto, env_of, variables_onto, variables_of}
use Rattle.hybrid_run.specs.declared.evaluate.Binding.{Binding}

onto_push : (env : Env) (bs : List Binding) (b : Binding) → env_onto env (bs ++ b ∷ []) ≡ Bound b.var (term_of b.value) (env_onto env bs)
onto_push env [] b = refl
onto_push env (a ∷ bs) b = onto_push (Bound a.var (term_of a.value) env) bs b

pub env_push : (bs : List Binding) (b : Binding) → env_of (bs ++ b ∷ []) ≡ Bound b.var (term_of b.value) (env_of bs)
env_push bs b = onto_push _ bs b

variables_onto_push : (vs : List ℕ) (bs : List Binding) (b : Binding) → variables_onto vs (bs ++ b ∷ []) ≡ b.var ∷ variables_onto vs bs
variables_onto_push vs [] b = refl
variables_onto_push vs (a ∷ bs) b = variables_onto_push (a.var ∷ vs) bs b

pub variables_push : (bs : List Binding) (b : Binding) → variables_of (bs ++ b ∷ []) ≡ b.var ∷ variables_of bs
variables_push bs b = variables_onto_push [] bs b

-- a list that isn't empty is its front and its last
split_last : (bs : List Binding) (d : Binding) → 1 ≤ length bs → take (length bs - 1) bs ++ get_or bs (length bs - 1) d ∷ [] ≡ bs
split_last bs d h =
    let here : length bs - 1 < length bs = omega arith in
    let whole : suc (length bs - 1) ≡ length bs = omega arith in
    sym (take-suc bs (length bs - 1) d here) ∙ ap (λ (n : ℕ). take n bs) whole ∙ take-length bs

pub last_found : (bs : List Binding) (d : Binding) (var : ℕ) → 1 ≤ length bs → (get_or bs (length bs - 1) d).var ≡ var → lookup var (env_of bs) ≡ Some (term_of (get_or bs (length bs - 1) d).value)
last_found bs d var h is =
    let last = get_or bs (length bs - 1) d in
    let env : env_of bs ≡ Bound last.var (term_of last.value) (env_of (take (length bs - 1) bs)) = ap env_of (sym (split_last bs d h)) ∙ env_push (take (length bs - 1) bs) last in
    let same : (var == last.var) ≡ true = eq-eqb var last.var (sym is) in
    rw (env, same) refl

pub last_passed : (bs : List Binding) (d : Binding) (var : ℕ) → 1 ≤ length bs → ((get_or bs (length bs - 1) d).var ≡ var → ⊥) → lookup var (env_of bs) ≡ lookup var (env_of (take (length bs - 1) bs))
last_passed bs d var h differs =
    let last = get_or bs (length bs - 1) d in
    let env : env_of bs ≡ Bound last.var (term_of last.value) (env_of (take (length bs - 1) bs)) = ap env_of (sym (split_last bs d h)) ∙ env_push (take (length bs - 1) bs) last in
    let other : (var == last.var) ≡ false = false_from_ne_true (var == last.var) (λ t. differs (sym ((Decides-eqb var last.var).0 t))) in
    rw (env, other) refl

outer_contains : (v var : ℕ) (vs : List ℕ) → Contains (v ∷ vs) var → (v ≡ var → ⊥) → Contains vs var
outer_contains v var vs (zero, within, is) differs = absurd (differs is)
outer_contains v var vs (suc k, within, is) differs = (k, omega arith, is)

pub outer_bound : (bs : List Binding) (d : Binding) (var : ℕ) → 1 ≤ length bs → ((get_or bs (length bs - 1) d).var ≡ var → ⊥) → Contains (variables_of bs) var → Contains (variables_of (take (length bs - 1) bs)) var
outer_bound bs d var h differs here =
    let last = get_or bs (length bs - 1) d in
    let front = take (length bs - 1) bs in
    let all : variables_of bs ≡ last.var ∷ variables_of front = ap variables_of (sym (split_last bs d h)) ∙ variables_push front last in
    outer_contains last.var var (variables_of front) (subst (λ (vs : List ℕ). Contains vs var) all here) differs
