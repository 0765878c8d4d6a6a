-- How often a name stands in a list, and the counts that say so.
use Rattle.std.proofs.Common.{◌≡◌, ◌⊎◌, inl, inr, zero, cond, Option, Some, unwrap_or, ℕ, suc, ◌+◌, ◌<◌, ◌≤◌, ◌-◌, ◌==◌, ◌&&◌, ◌||◌, nat_lt, Bool, true, false, if◌then◌else◌, List, [], ◌∷◌, ◌++◌, length, refl, sym, ap, ◌∙◌, arith, eq-eqb, eqb-true, lt-ltb}
use Rattle.hy_core.specs.Resolve.{is_local}
use Rattle.hy_core.specs.Resolved.{is_name}
use Rattle.hy_core.specs.declared.tree.FunName.{FunName}
use Rattle.std.proofs.lemmas.Bool.{or_cases, or_left, or_right}
use Rattle.std.specs.List.{Contains, slice_index_or}
use Rattle.std.specs.Map.{lookup}
use Rattle.indexmap.specs.IndexMap.{IndexMap, Updates, get}
use Rattle.core_walk.specs.NameCounts.{Key, is_key, key_of, count_of, times_named, CountsNames}

times_named-append : (gs : List FunName) (g f : FunName) → times_named (gs ++ g ∷ []) f ≡ (if is_name g f then suc (times_named gs f) else times_named gs f)
times_named-append [] g f = refl
times_named-append (h ∷ hs) g f = ap (λ n. if is_name h f then suc n else n) (times_named-append hs g f) ∙ swapped (is_name h f) (is_name g f) (times_named hs f)
  where
    swapped : (a b : Bool) (n : ℕ) → (if a then suc (if b then suc n else n) else (if b then suc n else n)) ≡ (if b then suc (if a then suc n else n) else (if a then suc n else n))
    swapped true true n = refl
    swapped true false n = refl
    swapped false true n = refl
    swapped false false n = refl

pub times_named-≤ : (gs : List FunName) (f : FunName) → times_named gs f ≤ length gs
times_named-≤ [] f = omega arith
times_named-≤ (g ∷ gs) f = by (is_name g f) (times_named gs f) (times_named-≤ gs f)
  where
    by : (b : Bool) (n : ℕ) → n ≤ length gs → (if b then suc n else n) ≤ suc (length gs)
    by true n h = omega arith
    by false n h = omega arith

-- a name is there where it stands at least once
pub is_local-times : (gs : List FunName) (f : FunName) → nat_lt 0 (times_named gs f) ≡ is_local f gs
is_local-times [] f = refl
is_local-times (g ∷ gs) f = by (is_name g f) (times_named gs f) (is_local f gs) (is_local-times gs f)
  where
    by : (b : Bool) (n : ℕ) (rest : Bool) → nat_lt 0 n ≡ rest → nat_lt 0 (if b then suc n else n) ≡ (b || rest)
    by true n rest h = lt-ltb 0 (suc n) (omega arith)
    by false n rest h = h

-- the test of names is their equality
pub is_name-same : (g f : FunName) → is_name g f ≡ true → g ≡ f
is_name-same g f e = by (g.name == f.name) refl (g.arity == f.arity) refl e
  where
    by : (a : Bool) → (g.name == f.name) ≡ a → (b : Bool) → (g.arity == f.arity) ≡ b → (a && b) ≡ true → g ≡ f
    by true p true q h =
        let names = eqb-true g.name f.name p in
        let arities = eqb-true g.arity f.arity q in
        λ i. record { name = names i; arity = arities i }
    by true p false q h = absurd cc
    by false p b q h = absurd cc

pub same-is_name : (g : FunName) → is_name g g ≡ true
same-is_name g = λ i. eq-eqb g.name g.name refl i && eq-eqb g.arity g.arity refl i

pub times_named-last : (gs : List FunName) (g : FunName) → times_named (gs ++ g ∷ []) g ≡ suc (times_named gs g)
times_named-last gs g = times_named-append gs g g ∙ ap (λ b. if b then suc (times_named gs g) else times_named gs g) (same-is_name g)

-- the counts after a name comes in, and after the last is left
pub counts-pushed : {S : Type 0} (counts more : IndexMap Key ℕ S) (gs : List FunName) (g : FunName) (n : ℕ) → CountsNames counts gs → n ≡ count_of counts g + 1
    → ((f : FunName) → count_of more f ≡ (if is_name g f then n else count_of counts f)) → CountsNames more (gs ++ g ∷ [])
counts-pushed counts more gs g n h is now = record { at = λ f. now f ∙ by f (is_name g f) refl ∙ sym (times_named-append gs g f) }
  where
    by : (f : FunName) (b : Bool) → is_name g f ≡ b → (if b then n else count_of counts f) ≡ (if b then suc (times_named gs f) else times_named gs f)
    by f true e =
        let same : g ≡ f = is_name-same g f e in
        is ∙ omega (arith, h.at g) ∙ ap (λ f. suc (times_named gs f)) same
    by f false e = h.at f

pub counts-popped : {S : Type 0} (counts fewer : IndexMap Key ℕ S) (gs : List FunName) (g : FunName) → CountsNames counts (gs ++ g ∷ [])
    → ((f : FunName) → count_of fewer f ≡ (if is_name g f then count_of counts g - 1 else count_of counts f)) → CountsNames fewer gs
counts-popped counts fewer gs g h now = record { at = λ f. now f ∙ by f (is_name g f) refl }
  where
    by : (f : FunName) (b : Bool) → is_name g f ≡ b → (if b then count_of counts g - 1 else count_of counts f) ≡ times_named gs f
    by f true e =
        let same : g ≡ f = is_name-same g f e in
        omega (arith, h.at g, times_named-last gs g) ∙ ap (times_named gs) same
    by f false e = h.at f ∙ times_named-append gs g f ∙ ap (λ b. if b then suc (times_named gs f) else times_named gs f) e

-- the last name is counted
pub counts-last : {S : Type 0} (counts : IndexMap Key ℕ S) (gs : List FunName) (g : FunName) → CountsNames counts (gs ++ g ∷ []) → 0 < count_of counts g
counts-last counts gs g h = omega (arith, h.at g, times_named-last gs g)

-- a map in which the number at a name is another
pub count-set : {S : Type 0} (old new : IndexMap Key ℕ S) (g : FunName) (key : Key) (n : ℕ) → key ≡ key_of g → Updates is_key old new key (Some n)
    → (f : FunName) → count_of new f ≡ (if is_name g f then n else count_of old f)
count-set old new g key n is u f =
    ap (λ o. unwrap_or o 0) (u.0 (key_of f))
    ∙ ap (λ k. unwrap_or (cond (is_key k (key_of f)) (Some n) (get is_key old (key_of f))) 0) is
    ∙ chosen (is_name g f) (get is_key old (key_of f))
  where
    chosen : (b : Bool) (o : Option ℕ) → unwrap_or (cond b (Some n) o) 0 ≡ (if b then n else unwrap_or o 0)
    chosen true o = refl
    chosen false o = refl

-- the number that is found at a name
pub count-read : {S : Type 0} (counts : IndexMap Key ℕ S) (g : FunName) (key : Key) (n : ℕ) → key ≡ key_of g → Some n ≡ get is_key counts key → n ≡ count_of counts g
count-read counts g key n is found = ap (λ o. unwrap_or o 0) found ∙ ap (λ k. unwrap_or (get is_key counts k) 0) is

-- counts whose entries stay
pub counts-kept : {S : Type 0} (old new : IndexMap Key ℕ S) (gs : List FunName) → new.entries ≡ old.entries → CountsNames old gs → CountsNames new gs
counts-kept old new gs same h = record { at = λ f. ap (λ es. unwrap_or (lookup (is_key (key_of f)) es) 0) same ∙ h.at f }

-- the test of whether a name is there
pub is_local-Contains : (gs : List FunName) (f : FunName) → is_local f gs ≡ true → Contains gs f
is_local-Contains [] f e = absurd cc
is_local-Contains (g ∷ gs) f e = by (or_cases (is_name g f) (is_local f gs) e) (is_local-Contains gs f)
  where
    by : (is_name g f ≡ true) ⊎ (is_local f gs ≡ true) → (is_local f gs ≡ true → Contains gs f) → Contains (g ∷ gs) f
    by (inl same) behind = (0, omega arith, is_name-same g f same)
    by (inr there) behind = let h = behind there in (suc h.0, omega (arith, h.1), h.2)

pub Contains-is_local : (gs : List FunName) (f : FunName) → Contains gs f → is_local f gs ≡ true
Contains-is_local gs f h = at gs h.0 h.1 h.2
  where
    at : (gs : List FunName) (k : ℕ) → k < length gs → slice_index_or gs k f ≡ f → is_local f gs ≡ true
    at [] k below is = absurd (omega arith)
    at (g ∷ gs) zero below is = or_left (is_name g f) (is_local f gs) (ap (λ g. is_name g f) is ∙ same-is_name f)
    at (g ∷ gs) (suc k) below is = or_right (is_name g f) (is_local f gs) (at gs k (omega arith) is)
