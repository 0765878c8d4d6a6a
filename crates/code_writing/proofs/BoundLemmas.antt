-- Bindings that are added are taken back.
use Rattle.std.proofs.Common.{◌≡◌, ℕ, zero, suc, ◌+◌, ◌-◌, ◌<◌, List, [], ◌∷◌, ◌++◌, length, drop, refl, sym, ap, ◌∙◌, arith, append_assoc, subst, length-append, get_or}
use Rattle.std.proofs.lemmas.List.{drop_at, drop_more}
use Rattle.lowered_code.specs.Builder.{first, rest}
use Rattle.lowered_code.specs.LoweredGuards.{bound_to}

-- an environment with some bindings more
pub record Under (env env' : List (ℕ × ℕ)) : Type 0 where
  pub more : List (ℕ × ℕ)
  pub is : env' ≡ more ++ env

pub under_here : (env : List (ℕ × ℕ)) → Under env env
under_here env = record { more = []; is = refl }

pub under_more : (env env' : List (ℕ × ℕ)) (b : ℕ × ℕ) → Under (b ∷ env) env' → Under env env'
under_more env env' b u = record { more = u.more ++ b ∷ []; is = u.is ∙ sym (append_assoc u.more (b ∷ []) env) }

pub under_on : (a b c : List (ℕ × ℕ)) → Under a b → Under b c → Under a c
under_on a b c u v = record { more = v.more ++ u.more; is = v.is ∙ ap (λ l. v.more ++ l) u.is ∙ sym (append_assoc v.more u.more a) }

drops : (more env : List (ℕ × ℕ)) (n : ℕ) → n ≡ length more → drop n (more ++ env) ≡ env
drops more env n e = drop_at more env n (sym e)

pub under_back : (env env' : List (ℕ × ℕ)) → Under env env' → drop (length env' - length env) env' ≡ env
under_back env env' u =
    let l : length env' ≡ length u.more + length env = ap length u.is ∙ length-append u.more env in
    ap (λ z. drop (length env' - length env) z) u.is ∙ drops u.more env (length env' - length env) (omega (arith, l))

pub bound_under : (xs rs : List ℕ) (env : List (ℕ × ℕ)) → Under env (bound_to xs rs env)
bound_under [] rs env = under_here env
bound_under (x ∷ xs) rs env = under_more env _ (x, first rs) (bound_under xs (rest rs) ((x, first rs) ∷ env))

-- the forms that a goal needs
pub let_back : (xs rs : List ℕ) (env env' : List (ℕ × ℕ)) → env' ≡ bound_to xs rs env → drop (length env' - length env) env' ≡ env
let_back xs rs env env' e = subst (λ z. drop (length z - length env) z ≡ env) (sym e) (under_back env _ (bound_under xs rs env))

pub rest_drop : (i : ℕ) (rs : List ℕ) → rest (drop i rs) ≡ drop (suc i) rs
rest_drop zero [] = refl
rest_drop zero (r ∷ rs) = refl
rest_drop (suc i) [] = refl
rest_drop (suc i) (r ∷ rs) = rest_drop i rs

pub bound_step : (i j : ℕ) (xs rs : List ℕ) (env env' : List (ℕ × ℕ)) (x : ℕ) → i < length xs → x ≡ get_or xs i x → env' ≡ (x, first (drop j rs)) ∷ env → bound_to (drop (i + 1) xs) (drop (j + 1) rs) env' ≡ bound_to (drop i xs) (drop j rs) env
bound_step i j xs rs env env' x lt e f =
    let d : drop i xs ≡ x ∷ drop (i + 1) xs = drop_more xs i x lt ∙ ap (λ z. z ∷ drop (i + 1) xs) (sym e) in
    let r : rest (drop j rs) ≡ drop (j + 1) rs = (let n : suc j ≡ j + 1 = omega arith in rest_drop j rs ∙ ap (λ k. drop k rs) n) in
    let a : bound_to (drop i xs) (drop j rs) env ≡ bound_to (drop (i + 1) xs) (rest (drop j rs)) ((x, first (drop j rs)) ∷ env) = ap (λ l. bound_to l (drop j rs) env) d in
    let b : bound_to (drop (i + 1) xs) (rest (drop j rs)) ((x, first (drop j rs)) ∷ env) ≡ bound_to (drop (i + 1) xs) (drop (j + 1) rs) env' = ap (λ l. bound_to (drop (i + 1) xs) l ((x, first (drop j rs)) ∷ env)) r ∙ ap (bound_to (drop (i + 1) xs) (drop (j + 1) rs)) (sym f) in
    sym (a ∙ b)
