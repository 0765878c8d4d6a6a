-- The texts of atoms, one after another.
use Rattle.std.proofs.Common.{◌≡◌, ℕ, zero, suc, ◌+◌, ◌<◌, List, [], ◌∷◌, ◌++◌, length, drop, slice_get, Some, codes, refl, sym, ap, ◌∙◌, arith}
use Rattle.std.proofs.lemmas.Option.{slice_get_read}
use Rattle.std.specs.List.{slice_index_or}
use Rattle.std.specs.Prelude.{Result, IsErrAnd, IsErrOf}
use Rattle.std.specs.declared.result.Result.TheVariants.{Ok, Err}
use Rattle.hy_core.specs.BuiltIn.{own_atoms}
use Rattle.hy_core.specs.Tables.{with_modules, with_texts}
use Rattle.hy_core.specs.declared.tree.Module.{Module}
use Rattle.hy_terms.specs.Naming.{named}

pub with_modules-append : (table : List (List ℕ)) (ms ns : List Module) → with_modules table (ms ++ ns) ≡ with_modules (with_modules table ms) ns
with_modules-append table [] ns = refl
with_modules-append table (m ∷ ms) ns = with_modules-append (with_texts table m.atoms) ms ns

-- the further ones from a place on
drop-suc : {A : Type 0} (xs : List A) (i : ℕ) (x : A) → slice_get xs i ≡ Some x → drop i xs ≡ x ∷ drop (suc i) xs
drop-suc [] i x h = absurd cc
drop-suc (y ∷ ys) zero x h = let same : y ≡ x = cc in ap (λ z. z ∷ ys) same
drop-suc (y ∷ ys) (suc i) x h = drop-suc ys i x h

pub drop-at : {A : Type 0} (xs : List A) (i : ℕ) (x : A) → slice_get xs i ≡ Some x → drop i xs ≡ x ∷ drop (i + 1) xs
drop-at xs i x h = let one : suc i ≡ i + 1 = omega arith in drop-suc xs i x h ∙ ap (λ n. x ∷ drop n xs) one

pub drop-item : {A : Type 0} (xs : List A) (i : ℕ) (x : A) → i < length xs → x ≡ slice_index_or xs i x → drop i xs ≡ x ∷ drop (i + 1) xs
drop-item xs i x below is = drop-at xs i x (slice_get_read xs (length xs) i x refl below is)

-- the own atoms are numbered in their order
pub own : with_texts [] own_atoms ≡ own_atoms
unfolding named
own = refl

pub with_own : (a b c d e f g : List ℕ) → a ≡ codes "true" → b ≡ codes "false" → c ≡ codes "badarith" → d ≡ codes "badarg" → e ≡ codes "system_limit" → f ≡ codes "no_clause" → g ≡ codes "function_clause"
    → with_texts [] (a ∷ b ∷ c ∷ d ∷ e ∷ f ∷ g ∷ []) ≡ own_atoms
with_own a b c d e f g is_a is_b is_c is_d is_e is_f is_g = (λ i. with_texts [] (is_a i ∷ is_b i ∷ is_c i ∷ is_d i ∷ is_e i ∷ is_f i ∷ is_g i ∷ [])) ∙ own

-- an error that is passed on
pub same_error : {T E : Type 0} (r : Result T E) (e k : E) → IsErrAnd r (λ x. x ≡ e) → IsErrOf r k → e ≡ k
same_error (Ok x) e k is h = absurd is
same_error (Err x) e k is h = sym is ∙ cc
