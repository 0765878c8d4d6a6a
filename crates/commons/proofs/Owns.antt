-- The places of an actor's entries.
use Rattle.std.proofs.Common.{◌≡◌, ◌⊎◌, ℕ, zero, suc, ◌+◌, ◌<◌, List, [], ◌∷◌, ◌++◌, length, sym, refl, ap, ◌∙◌, inl, inr, ⊎_elim, subst, arith, Bool, true, false, eq-eqb, ne_eqb}
use Rattle.std.specs.Prelude.{slice_index, if◌then◌else◌, ◌==◌, ◌&&◌}
use Rattle.std.proofs.lemmas.List.{get_or_append_left}
use native.Mathlib.Decide.{ℕ_discrete}
use mathlib.Core.Logic.{dite}
use Rattle.hy_words.specs.Lists.{StartsWith, Has}
use Rattle.hy_words.specs.Words.{tag_of}
use Rattle.commons.specs.Log.{header_at, actor_of, own_places, prints, prints_at}

no_place : (p : ℕ) → Has [] p → ⊥
no_place p h = let b = h.1 in omega arith

at_front : (x p : ℕ) (xs : List ℕ) → Has (x ∷ xs) p → (p ≡ x) ⊎ Has xs p
at_front x p xs (zero, b, e) = inl (sym e)
at_front x p xs (suc k, b, e) = inr (k, omega arith, e)

behind : (x p : ℕ) (xs : List ℕ) → Has xs p → Has (x ∷ xs) p
behind x p xs h = let b = h.1 in (suc h.0, omega arith, h.2)

abbrev Named : (area : List ℕ) → (pid n : ℕ) → (log : List ℕ) → ℕ → Type 0
Named area pid n log p = (k : ℕ) × (k < length log) × (p ≡ n + k) × (actor_of area (slice_index log k) ≡ pid)

further : (area : List ℕ) (pid n w : ℕ) (ws : List ℕ) (p : ℕ) → Named area pid (suc n) ws p → Named area pid n (w ∷ ws) p
further area pid n w ws p t = let b = t.1 in let e = t.2 in (suc t.0, omega arith, omega arith, t.3)

-- each own place is that of an entry which names the pid
pub own_names : (area : List ℕ) (pid n : ℕ) (log : List ℕ) (p : ℕ) → Has (own_places area pid n log) p → Named area pid n log p
own_names area pid n [] p h = absurd (no_place p h)
own_names area pid n (w ∷ ws) p h = dite (ℕ_discrete (actor_of area w) pid)
    (λ is. let h' : Has (n ∷ own_places area pid (suc n) ws) p = subst (λ (b : Bool). Has (if b then n ∷ own_places area pid (suc n) ws else own_places area pid (suc n) ws) p) (eq-eqb (actor_of area w) pid is) h in
    ⊎_elim (λ (e : p ≡ n). (0, omega arith, omega arith, is)) (λ (t : Has (own_places area pid (suc n) ws) p). further area pid n w ws p (own_names area pid (suc n) ws p t)) (at_front n p (own_places area pid (suc n) ws) h'))
    (λ no. let h' : Has (own_places area pid (suc n) ws) p = subst (λ (b : Bool). Has (if b then n ∷ own_places area pid (suc n) ws else own_places area pid (suc n) ws) p) (ne_eqb (actor_of area w) pid no) h in
    further area pid n w ws p (own_names area pid (suc n) ws p h'))

-- and each such place is an own one
pub own_has : (area : List ℕ) (pid n : ℕ) (log : List ℕ) (k : ℕ) → k < length log → actor_of area (slice_index log k) ≡ pid → Has (own_places area pid n log) (n + k)
own_has area pid n [] k h e = absurd (omega arith)
own_has area pid n (w ∷ ws) zero h e =
    let z : n + 0 ≡ n = omega arith in
    subst (λ (q : ℕ). Has (own_places area pid n (w ∷ ws)) q) (sym z) (subst (λ (b : Bool). Has (if b then n ∷ own_places area pid (suc n) ws else own_places area pid (suc n) ws) n) (sym (eq-eqb (actor_of area w) pid e)) (0, omega arith, refl))
own_has area pid n (w ∷ ws) (suc k) h e =
    let z : suc n + k ≡ n + suc k = omega arith in
    let t : Has (own_places area pid (suc n) ws) (n + suc k) = subst (λ (q : ℕ). Has (own_places area pid (suc n) ws) q) z (own_has area pid (suc n) ws k (omega arith) e) in
    either (actor_of area w == pid) n (n + suc k) (own_places area pid (suc n) ws) t
  where
    either : (b : Bool) (n p : ℕ) (xs : List ℕ) → Has xs p → Has (if b then n ∷ xs else xs) p
    either true n p xs h = behind n p xs h
    either false n p xs h = h

-- the prints among an actor's entries, by their places
prints_from : (area : List ℕ) (pid n : ℕ) (log whole : List ℕ) → ((k : ℕ) → k < length log → slice_index whole (n + k) ≡ slice_index log k) → prints_at area whole (own_places area pid n log) ≡ prints area pid log
prints_from area pid n [] whole same = refl
prints_from area pid n (w ∷ ws) whole same =
    let here : slice_index whole n ≡ w = ap (slice_index whole) (let z : n ≡ n + 0 = omega arith in z) ∙ same 0 (omega arith) in
    let rest = prints_from area pid (suc n) ws whole (λ k h. ap (slice_index whole) (let z : suc n + k ≡ n + suc k = omega arith in z) ∙ same (suc k) (omega arith)) in
    one (actor_of area w == pid) (tag_of (header_at area (slice_index whole n)) == 11) (tag_of (header_at area w) == 11) n (own_places area pid (suc n) ws) (prints area pid ws) (ap (λ (x : ℕ). tag_of (header_at area x) == 11) here) refl rest
  where
    one : (b x y : Bool) (n : ℕ) (ps : List ℕ) (m : ℕ) → x ≡ y → (tag_of (header_at area (slice_index whole n)) == 11) ≡ x → prints_at area whole ps ≡ m → prints_at area whole (if b then n ∷ ps else ps) ≡ (if b && y then 1 else 0) + m
    one true x y n ps m e f r = ap (λ (z : Bool). (if z then 1 else 0) + prints_at area whole ps) (f ∙ e) ∙ ap (λ (z : ℕ). (if y then 1 else 0) + z) r
    one false x y n ps m e f r = r ∙ (let z : m ≡ 0 + m = omega arith in z)

pub prints_own : (area : List ℕ) (pid : ℕ) (log : List ℕ) → prints_at area log (own_places area pid 0 log) ≡ prints area pid log
prints_own area pid log = prints_from area pid 0 log log (λ k h. ap (slice_index log) (let z : 0 + k ≡ k = omega arith in z))

-- they are the same in a log that goes on
pub prints_more : (area log known own : List ℕ) → StartsWith log known → ((place : ℕ) → Has own place → place < length known) → prints_at area log own ≡ prints_at area known own
prints_more area log known [] s h = refl
prints_more area log known (p ∷ ps) s h =
    let at : slice_index log p ≡ slice_index known p = ap (λ (xs : List ℕ). slice_index xs p) s.1 ∙ get_or_append_left known s.0 0 p (h p (0, omega arith, refl)) in
    ap (λ (x : ℕ). (if tag_of (header_at area x) == 11 then 1 else 0) + prints_at area log ps) at
    ∙ ap (λ (n : ℕ). (if tag_of (header_at area (slice_index known p)) == 11 then 1 else 0) + n) (prints_more area log known ps s (λ place i. h place (behind p place ps i)))

-- with one place more
pub prints_last : (area log own : List ℕ) (place : ℕ) → prints_at area log (own ++ place ∷ []) ≡ prints_at area log own + (if tag_of (header_at area (slice_index log place)) == 11 then 1 else 0)
prints_last area log [] place = let bit : ℕ = (if tag_of (header_at area (slice_index log place)) == 11 then 1 else 0) in let g : bit + 0 ≡ 0 + bit = omega arith in g
prints_last area log (p ∷ ps) place =
    let r = prints_last area log ps place in
    let bit : ℕ = (if tag_of (header_at area (slice_index log place)) == 11 then 1 else 0) in
    let first : ℕ = (if tag_of (header_at area (slice_index log p)) == 11 then 1 else 0) in
    let old : ℕ = prints_at area log ps in
    let new : ℕ = prints_at area log (ps ++ place ∷ []) in
    let r' : new ≡ old + bit = r in
    let g : first + new ≡ first + old + bit = omega arith in g
