-- The functions of letrecs change no function's number, for they have the names of the functions round them.
use Rattle.std.proofs.Common.{◌≡◌, ◌==◌, ◌&&◌, if◌then◌else◌, ℕ, zero, suc, Bool, true, false, List, [], ◌∷◌, ◌++◌, length, map, replicate, Option, Some, None, refl, ap, ◌∙◌}
use Rattle.hy_terms.specs.Naming.{one_on}
use Rattle.hy_core.specs.Resolve.{function_number}
use Rattle.hy_core.specs.Resolved.{is_name}
use Rattle.hy_core.specs.SubPatterns.{joined}
use Rattle.hy_core.specs.Tables.{info_of, local_functions, local_infos, top_infos}
use Rattle.hy_core.specs.declared.info.FunInfo.{FunInfo}
use Rattle.hy_core.specs.declared.tree.FunName.{FunName}
use Rattle.hy_core.specs.declared.tree.Function.{Function}
use Rattle.hy_core.specs.declared.tree.Module.{Module}

module _ (mm : ℕ) (ff : FunName) where
  abbrev number : List FunInfo → Option ℕ
  number is = function_number is mm ff

  abbrev matches : FunInfo → Bool
  matches i = (i.module == mm) && is_name i.name ff

  abbrev place : Bool → Option ℕ → Option ℕ
  place b k = if b then Some 0 else one_on k

  place_none : (b : Bool) (o : Option ℕ) → place b o ≡ None → (b ≡ false) × (o ≡ None)
  place_none true o h = absurd cc
  place_none false None h = (refl, refl)
  place_none false (Some k) h = absurd cc

  place_behind : (b : Bool) (o p q : Option ℕ) → (place b o ≡ None → q ≡ None) → ((o ≡ None → q ≡ None) → p ≡ o) → place b p ≡ place b o
  place_behind true o p q h same = refl
  place_behind false o p q h same = ap one_on (same (λ none. h (ap one_on none)))

  -- those behind others change nothing where they are found only if the others are
  behind_others : (is js : List FunInfo) → (number is ≡ None → number js ≡ None) → number (is ++ js) ≡ number is
  behind_others [] js h = h refl
  behind_others (i ∷ is) js h = place_behind (matches i) (number is) (number (is ++ js)) (number js) h (behind_others is js)

  none_left : (is js : List FunInfo) → number (is ++ js) ≡ None → number is ≡ None
  none_left [] js h = refl
  none_left (i ∷ is) js h =
      let both = place_none (matches i) (number (is ++ js)) h in
      (λ k. place (both.0 k) (none_left is js both.1 k))

  none_right : (is js : List FunInfo) → number (is ++ js) ≡ None → number js ≡ None
  none_right [] js h = h
  none_right (i ∷ is) js h = none_right is js (place_none (matches i) (number (is ++ js)) h).1

  none_appended : (is js : List FunInfo) → number is ≡ None → number js ≡ None → number (is ++ js) ≡ None
  none_appended is js h k = behind_others is js (λ e. k) ∙ h

  none_of_one : (n : ℕ) (i : FunInfo) → matches i ≡ false → number (replicate n i) ≡ None
  none_of_one zero i h = refl
  none_of_one (suc n) i h = (λ k. place (h k) (none_of_one n i h k))

  module _ (table : List (List ℕ)) where
    none_in : (m : Module) (fs : List Function) → number (map (info_of table m) fs) ≡ None
        → number (joined (map (λ f. replicate (length (local_functions f)) (info_of table m f)) fs)) ≡ None
    none_in m [] h = refl
    none_in m (f ∷ fs) h =
        let both = place_none (matches (info_of table m f)) (number (map (info_of table m) fs)) h in
        none_appended _ _ (none_of_one (length (local_functions f)) (info_of table m f) both.0) (none_in m fs both.1)

    none_local : (ms : List Module) → number (top_infos table ms) ≡ None → number (local_infos table ms) ≡ None
    none_local [] h = refl
    none_local (m ∷ ms) h =
        let infos = map (info_of table m) m.functions in
        none_appended _ _ (none_in m m.functions (none_left infos (top_infos table ms) h)) (none_local ms (none_right infos (top_infos table ms) h))

    pub number_on_top : (ms : List Module) → number (top_infos table ms ++ local_infos table ms) ≡ number (top_infos table ms)
    number_on_top ms = behind_others (top_infos table ms) (local_infos table ms) (none_local ms)
