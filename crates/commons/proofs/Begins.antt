-- Beginnings of the log, and an actor's own places.
use Rattle.std.proofs.Common.{◌≡◌, ◌≢◌, ◌⊎◌, ℕ, suc, ◌+◌, ◌<◌, ◌≤◌, List, [], ◌∷◌, ◌++◌, length, length-append, append_assoc, append-nil, lt_of_not-le, sym, refl, ap, ◌∙◌, inl, inr, arith, Bool, true, false, eq-eqb, ne_eqb, lit≤, add-zero}
use Rattle.std.proofs.lemmas.List.{get_or_append_left}
use Rattle.std.specs.Prelude.{slice_index, Option, Some, None, if◌then◌else◌, ◌==◌}
use native.Mathlib.Decide.{dec_le}
use mathlib.Core.Logic.{dite}
use Rattle.hy_words.specs.Lists.{StartsWith, Has}
use Rattle.commons.specs.Log.{actor_of, own_places}
use Rattle.commons.specs.Rule.{one_if_some}

pub at_most_one : {T : Type 0} (o : Option T) → one_if_some o ≤ 1
at_most_one None = lit≤ tt
at_most_one (Some x) = lit≤ tt

pub last_of : (log : List ℕ) (e : ℕ) → slice_index (log ++ e ∷ []) (length log) ≡ e
last_of [] e = refl
last_of (x ∷ xs) e = last_of xs e

pub begins_more : (log known more : List ℕ) → StartsWith log known → StartsWith (log ++ more) known
begins_more log known more s = (s.0 ++ more, ap (λ (xs : List ℕ). xs ++ more) s.1 ∙ append_assoc known s.0 more)

further : (known rest log : List ℕ) → log ≡ known ++ rest → length known < length log → StartsWith log (known ++ slice_index log (length known) ∷ [])
further known [] log e h = let l = ap length e in absurd (omega (arith, length-append known []))
further known (x ∷ xs) log e h =
    let at : slice_index log (length known) ≡ x = ap (λ (ys : List ℕ). slice_index ys (length known)) e ∙ seam known x xs in (xs, e ∙ (sym (append_assoc known (x ∷ []) xs) ∙ ap (λ (y : ℕ). (known ++ y ∷ []) ++ xs) (sym at)))
  where
    seam : (ys : List ℕ) (x : ℕ) (xs : List ℕ) → slice_index (ys ++ x ∷ xs) (length ys) ≡ x
    seam [] x xs = refl
    seam (y ∷ ys) x xs = seam ys x xs

pub one_further : (log known : List ℕ) → StartsWith log known → length known < length log → StartsWith log (known ++ slice_index log (length known) ∷ [])
one_further log known s h = further known s.0 log s.1 h

whole : (known rest log : List ℕ) → log ≡ known ++ rest → length known ≡ length log → known ≡ log
whole known [] log e h = sym (e ∙ append-nil known)
whole known (x ∷ xs) log e h = let l = ap length e in absurd (omega (arith, length-append known (x ∷ xs)))

pub whole_begin : (log known : List ℕ) → StartsWith log known → length known ≡ length log → known ≡ log
whole_begin log known s h = whole known s.0 log s.1 h

pub own_else : (area : List ℕ) (pid n : ℕ) (log : List ℕ) (e : ℕ) → actor_of area e ≢ pid → own_places area pid n (log ++ e ∷ []) ≡ own_places area pid n log
own_else area pid n [] e h = ap (λ (b : Bool). if b then n ∷ [] else []) (ne_eqb (actor_of area e) pid h)
own_else area pid n (x ∷ xs) e h = ap (λ (ys : List ℕ). if actor_of area x == pid then n ∷ ys else ys) (own_else area pid (suc n) xs e h)

cons_if : (b : Bool) (n : ℕ) (xs ys : List ℕ) → (if b then n ∷ (xs ++ ys) else (xs ++ ys)) ≡ (if b then n ∷ xs else xs) ++ ys
cons_if true n xs ys = refl
cons_if false n xs ys = refl

pub own_from : (area : List ℕ) (pid n : ℕ) (log : List ℕ) (e : ℕ) → actor_of area e ≡ pid → own_places area pid n (log ++ e ∷ []) ≡ own_places area pid n log ++ (n + length log) ∷ []
own_from area pid n [] e h = ap (λ (b : Bool). if b then n ∷ [] else []) (eq-eqb (actor_of area e) pid h) ∙ ap (λ (k : ℕ). k ∷ []) (sym (add-zero n))
own_from area pid n (x ∷ xs) e h =
    let at : suc n + length xs ≡ n + length (x ∷ xs) = omega arith in
    ap (λ (ys : List ℕ). if actor_of area x == pid then n ∷ ys else ys) (own_from area pid (suc n) xs e h ∙ ap (λ (k : ℕ). own_places area pid (suc n) xs ++ k ∷ []) at)
    ∙ cons_if (actor_of area x == pid) n (own_places area pid (suc n) xs) ((n + length (x ∷ xs)) ∷ [])

pub own_here : (area : List ℕ) (pid n : ℕ) (log : List ℕ) (e : ℕ) → actor_of area e ≡ pid → own_places area pid 0 (log ++ e ∷ []) ≡ own_places area pid 0 log ++ length log ∷ []
own_here area pid n log e h = own_from area pid 0 log e h ∙ ap (λ (k : ℕ). own_places area pid 0 log ++ k ∷ []) (let z : 0 + length log ≡ length log = omega arith in z)

pub has_last : (xs : List ℕ) (y x : ℕ) → Has (xs ++ y ∷ []) x → Has xs x ⊎ (x ≡ y)
has_last xs y x h = dite (dec_le (length xs) h.0)
    (λ past. let b = h.1 in let e : h.0 ≡ length xs = omega (arith, length-append xs (y ∷ [])) in inr (sym h.2 ∙ (ap (λ (k : ℕ). slice_index (xs ++ y ∷ []) k) e ∙ last_of xs y)))
    (λ before. let b = lt_of_not-le before in inl (h.0, b, sym (get_or_append_left xs (y ∷ []) 0 h.0 b) ∙ h.2))
