-- Where words stand in the table: the claim word, the log behind it, and the area behind the log.
use Rattle.std.proofs.Common.{◌≡◌, ℕ, suc, ◌+◌, ◌-◌, ◌<◌, ◌≤◌, List, [], ◌∷◌, ◌++◌, length, set, length-append, zero-add, refl, ap, ◌∙◌, arith}
use Rattle.std.specs.Prelude.{slice_index, replicate}
use Rattle.std.proofs.lemmas.List.{get_or_append_left, get_or-append-add, length-replicate}
use Rattle.commons_words.specs.Held.{padded}

-- words behind the log
pub set_behind : (xs ys : List ℕ) (p w : ℕ) → set (xs ++ ys) (length xs + p) w ≡ xs ++ set ys p w
set_behind [] ys p w = ap (λ (k : ℕ). set ys k w) (zero-add p)
set_behind (x ∷ xs) ys p w = ap (λ (k : ℕ). set (x ∷ (xs ++ ys)) k w) (let e : suc (length xs) + p ≡ suc (length xs + p) = omega arith in e) ∙ ap (λ (zs : List ℕ). x ∷ zs) (set_behind xs ys p w)

pub length_padded : (l : ℕ) (log : List ℕ) → length log ≤ l → length (padded l log) ≡ l
length_padded l log h = omega (arith, length-append log (replicate (l - length log) 0), length-replicate {A = ℕ} (l - length log) 0)

pub set_area : (l c p w : ℕ) (log area : List ℕ) → length log ≤ l → set (c ∷ (padded l log ++ area)) (1 + l + p) w ≡ c ∷ (padded l log ++ set area p w)
set_area l c p w log area h = let n = length_padded l log h in ap (λ (k : ℕ). set (c ∷ (padded l log ++ area)) k w) (let e : 1 + l + p ≡ suc (length (padded l log) + p) = omega arith in e) ∙ ap (λ (zs : List ℕ). c ∷ zs) (set_behind (padded l log) area p w)

pub area_at : (l c p : ℕ) (log area : List ℕ) → length log ≤ l → slice_index (c ∷ (padded l log ++ area)) (1 + l + p) ≡ slice_index area p
area_at l c p log area h = let n = length_padded l log h in ap (λ (k : ℕ). slice_index (c ∷ (padded l log ++ area)) k) (let e : 1 + l + p ≡ suc (length (padded l log) + p) = omega arith in e) ∙ get_or-append-add (padded l log) area p 0

-- the log among the words
pub seam : (log area : List ℕ) (m e : ℕ) → set ((log ++ replicate (suc m) 0) ++ area) (length log) e ≡ ((log ++ e ∷ []) ++ replicate m 0) ++ area
seam [] area m e = refl
seam (x ∷ xs) area m e = ap (λ (ys : List ℕ). x ∷ ys) (seam xs area m e)

pub set_next : (l c e : ℕ) (log area : List ℕ) → length log < l → set (c ∷ (padded l log ++ area)) (1 + length log) e ≡ c ∷ (padded l (log ++ e ∷ []) ++ area)
set_next l c e log area h =
    let m : ℕ = l - suc (length log) in
    let one : l - length log ≡ suc m = omega arith in
    let two : m ≡ l - length (log ++ e ∷ []) = omega (arith, length-append log (e ∷ [])) in
    ap (λ (k : ℕ). set (c ∷ ((log ++ replicate k 0) ++ area)) (1 + length log) e) one
    ∙ (ap (λ (k : ℕ). set (c ∷ ((log ++ replicate (suc m) 0) ++ area)) k e) (let z : 1 + length log ≡ suc (length log) = omega arith in z)
    ∙ (ap (λ (ys : List ℕ). c ∷ ys) (seam log area m e) ∙ ap (λ (k : ℕ). c ∷ (((log ++ e ∷ []) ++ replicate k 0) ++ area)) two))

pub log_at : (l c k : ℕ) (log area : List ℕ) → k < length log → slice_index (c ∷ (padded l log ++ area)) (1 + k) ≡ slice_index log k
log_at l c k log area h =
    let n = length-append log (replicate (l - length log) 0) in
    ap (λ (q : ℕ). slice_index (c ∷ (padded l log ++ area)) q) (let z : 1 + k ≡ suc k = omega arith in z)
    ∙ (get_or_append_left (padded l log) area 0 k (omega arith) ∙ get_or_append_left log (replicate (l - length log) 0) 0 k h)

pub log_end : (l c : ℕ) (log area : List ℕ) → length log < l → slice_index (c ∷ (padded l log ++ area)) (1 + length log) ≡ 0
log_end l c log area h =
    let m : ℕ = l - suc (length log) in
    let one : l - length log ≡ suc m = omega arith in
    ap (λ (k : ℕ). slice_index (c ∷ ((log ++ replicate k 0) ++ area)) (1 + length log)) one
    ∙ (ap (λ (q : ℕ). slice_index (c ∷ ((log ++ replicate (suc m) 0) ++ area)) q) (let z : 1 + length log ≡ suc (length log) = omega arith in z) ∙ nought log area m)
  where
    nought : (log area : List ℕ) (m : ℕ) → slice_index ((log ++ replicate (suc m) 0) ++ area) (length log) ≡ 0
    nought [] area m = refl
    nought (x ∷ xs) area m = nought xs area m
