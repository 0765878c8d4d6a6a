-- Where the outermost bindings of variables are, in scopes of which one goes on from the other.
use Rattle.std.proofs.Common.{◌≡◌, ℕ, suc, ◌<◌, ◌≤◌, List, [], ◌∷◌, ◌++◌, length, Bool, true}
use Rattle.std.proofs.Common.{false, true≢false, refl, sym, ap, ◌∙◌, arith, append_assoc}
use Rattle.std.proofs.Common.{length-append, lt-ltb}
use Rattle.std.specs.Prelude.{◌==◌, ◌||◌, nat_lt, if◌then◌else◌}
use Rattle.std.proofs.lemmas.Bool.{ltb-false, ltb-true}
use Rattle.std.proofs.lemmas.List.{append-nil}
use Rattle.hy_core.specs.Resolved as r
use Rattle.hy_core.specs.Resolved.{Pattern, Patterns, NoPatterns, MorePatterns}
use Rattle.hy_core.specs.Scopes.{Scope, is_bound, with_variables, with_pattern, with_patterns}
use Rattle.captured_facts.specs.Facts.{first_place, place_by}

-- the second scope goes on from the first
pub record Within (s t : Scope) : Type 0 where
  pub front : List ℕ
  pub is : t ≡ front ++ s

pub within_same : (s t : Scope) → t ≡ s → Within s t
within_same s t e = record { front = []; is = e }

pub within_then : {s t u : Scope} → Within s t → Within t u → Within s u
within_then {s} a b = record {
  front = b.front ++ a.front;
  is = b.is ∙ ap (λ t. b.front ++ t) a.is ∙ sym (append_assoc b.front a.front s);
}

pub within_one : (x : ℕ) (s : Scope) → Within s (x ∷ s)
within_one x s = record { front = x ∷ []; is = refl }

pub within_all : (s : Scope) → Within [] s
within_all s = record { front = s; is = sym (append-nil s) }

pub within_variables : (s : Scope) (xs : List ℕ) → Within s (with_variables s xs)
within_variables s [] = within_same s s refl
within_variables s (x ∷ xs) = within_then (within_one x s) (within_variables (x ∷ s) xs)

mutual
  within_pattern : (s : Scope) (p : Pattern) → Within s (with_pattern s p)
  within_pattern s (r.AnyTerm x) = within_one x s
  within_pattern s (r.TheTuple ps) = within_patterns s ps
  within_pattern s (r.TheList ps p) =
      within_then (within_patterns s ps) (within_pattern (with_patterns s ps) p)
  within_pattern s (r.Alias x p) = within_then (within_one x s) (within_pattern (x ∷ s) p)
  within_pattern s _ = within_same s s refl

  pub within_patterns : (s : Scope) (ps : Patterns) → Within s (with_patterns s ps)
  within_patterns s NoPatterns = within_same s s refl
  within_patterns s (MorePatterns p ps) =
      within_then (within_pattern s p) (within_patterns (with_pattern s p) ps)

-- a variable has this place in a scope
abbrev pub Placed : Scope → (variable place : ℕ) → Type 0
Placed s x p = (first_place s x ≡ p) × (0 < p)

place_some : (around own : ℕ) → 0 < around → place_by around own ≡ around
place_some around own l = ap (λ b. if b then around else own) (lt-ltb 0 around l)

kept : (front s : Scope) (x p : ℕ) → Placed s x p → first_place (front ++ s) x ≡ p
kept [] s x p h = h.0
kept (y ∷ front) s x p h =
    let k = kept front s x p h in
    let own = if x == y then suc (length (front ++ s)) else 0 in
    ap (λ q. place_by q own) k ∙ place_some p own h.1

pub place_kept : {s t : Scope} (x p : ℕ) → Within s t → Placed s x p → Placed t x p
place_kept {s} x p w h = (ap (λ t. first_place t x) w.is ∙ kept w.front s x p h, h.1)

held : (front s : Scope) (x p : ℕ) → first_place (front ++ s) x ≡ p → 0 < p → p ≤ length s
    → first_place s x ≡ p
held [] s x p h l b = h
held (y ∷ front) s x p h l b =
    by (nat_lt 0 (first_place (front ++ s) x)) (x == y) h (λ k. held front s x p k l b)
  where
    by : (some same : Bool)
        → (if some then first_place (front ++ s) x
        else if same then suc (length (front ++ s)) else 0) ≡ p
        → (first_place (front ++ s) x ≡ p → first_place s x ≡ p) → first_place s x ≡ p
    by true same e rest = rest e
    by false true e rest =
        let m = length-append front s in absurd (omega (arith, e, b, m))
    by false false e rest = absurd (omega (arith, e, l))

pub place_held : {s t : Scope} (x p : ℕ) → Within s t → Placed t x p → p ≤ length s → Placed s x p
place_held {s} x p w h b =
    (held w.front s x p (ap (λ t. first_place t x) (sym w.is) ∙ h.0) h.1 b, h.1)

pub place_below : (s : Scope) (x : ℕ) → first_place s x ≤ length s
place_below [] x = omega arith
place_below (y ∷ s) x =
    by (nat_lt 0 (first_place s x)) (x == y) (place_below s x)
  where
    by : (some same : Bool) → first_place s x ≤ length s
        → (if some then first_place s x else if same then suc (length s) else 0) ≤ suc (length s)
    by true same h = omega (arith, h)
    by false true h = omega arith
    by false false h = omega arith

pub placed_below : (s : Scope) (x p : ℕ) → Placed s x p → p ≤ length s
placed_below s x p h = let b = place_below s x in let e = h.0 in omega (arith, b, e)

-- a variable has a place where it is bound
pub bound_placed : (s : Scope) (x : ℕ) → is_bound x s ≡ true → 0 < first_place s x
bound_placed [] x h = absurd (true≢false (sym h))
bound_placed (y ∷ s) x h =
    by (nat_lt 0 (first_place s x)) refl (x == y) h (λ k. bound_placed s x k)
  where
    by : (some : Bool) → nat_lt 0 (first_place s x) ≡ some → (same : Bool)
        → (same || is_bound x s) ≡ true → (is_bound x s ≡ true → 0 < first_place s x)
        → 0 < (if some then first_place s x else if same then suc (length s) else 0)
    by true e same k rest = ltb-true 0 (first_place s x) e
    by false e true k rest = omega arith
    by false e false k rest =
        let l = rest k in
        let n = ltb-false 0 (first_place s x) e in
        absurd (omega (arith, n, l))

pub placed_bound : (s : Scope) (x p : ℕ) → Placed s x p → is_bound x s ≡ true
placed_bound [] x p h = let e = h.0 in let l = h.1 in absurd (omega (arith, e, l))
placed_bound (y ∷ s) x p h =
    by (nat_lt 0 (first_place s x)) refl (x == y) h.0
    (λ k. placed_bound s x (first_place s x) (refl, k))
  where
    by : (some : Bool) → nat_lt 0 (first_place s x) ≡ some → (same : Bool)
        → (if some then first_place s x else if same then suc (length s) else 0) ≡ p
        → (0 < first_place s x → is_bound x s ≡ true) → (same || is_bound x s) ≡ true
    by some e true k rest = refl
    by true e false k rest = rest (ltb-true 0 (first_place s x) e)
    by false e false k rest = let l = h.1 in absurd (omega (arith, k, l))
