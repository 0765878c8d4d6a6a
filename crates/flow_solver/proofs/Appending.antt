-- Lists with further items behind them.
use Rattle.std.proofs.Common.{◌≡◌, ◌⊎◌, ℕ, ◌+◌, ◌<◌, ◌≤◌, Bool, true, false, cond, if◌then◌else◌}
use Rattle.std.proofs.Common.{List, [], ◌∷◌, ◌++◌, length, take, filter, get_or, refl, sym, ap, ◌∙◌}
use Rattle.std.proofs.Common.{subst, inl, inr, arith}
use Rattle.std.specs.List.{All, Contains, list_any}
use Rattle.std.proofs.lemmas.List.{append-nil, append_assoc, get_or_append_left, length-append}
use Rattle.std.proofs.lemmas.List.{take_more, take_all}
use Rattle.std.proofs.lemmas.List.Elements.{All-nil, All-cons, All-append, All-weaker, All-contains}
use Rattle.std.proofs.lemmas.List.Elements.{All-filter, All-contains_itself, filter_passes}
use Rattle.std.proofs.lemmas.List.Elements.{filter_more, Contains-append_left}
use Rattle.std.proofs.lemmas.List.Elements.{Contains-append_right, Contains-append_cases}
use Rattle.std.proofs.lemmas.List.Elements.{Contains-push, Contains-push_cases}
use Rattle.indexmap.specs.IndexSet.{insert_key}
use Rattle.indexmap.proofs.CallerLemmas.{Contains-insert_key}
use Rattle.flow_solver.specs.code.Members.{Appends, Adds, AddsEach}

pub appends-none : {X : Type 0} (P : X → Type 0) (xs : List X) → Appends P xs xs
appends-none P xs = record { more = []; is = sym (append-nil xs); each = All-nil P }

module _ {X : Type 0} {P : X → Type 0} {xs ys : List X} (a : Appends P xs ys) where
  pub appends-then : {zs : List X} → Appends P ys zs → Appends P xs zs
  appends-then b = record {
    more = a.more ++ b.more;
    is = b.is ∙ ap (λ l. l ++ b.more) a.is ∙ append_assoc xs a.more b.more;
    each = All-append P a.more b.more a.each b.each;
  }

  pub appends-weaker : {Q : X → Type 0} → ((x : X) → P x → Q x) → Appends Q xs ys
  appends-weaker {Q} f = record { more = a.more; is = a.is; each = All-weaker P Q f a.more a.each }

  pub appends-keeps : (x : X) → Contains xs x → Contains ys x
  appends-keeps x h = subst (λ l. Contains l x) (sym a.is) (Contains-append_left xs a.more x h)

  pub appends-all : All P xs → All P ys
  appends-all h = subst (All P) (sym a.is) (All-append P xs a.more h a.each)

  pub appends-at : (k : ℕ) (d : X) → k < length xs → get_or ys k d ≡ get_or xs k d
  appends-at k d h = ap (λ l. get_or l k d) a.is ∙ get_or_append_left xs a.more d k h

  pub appends-length : length xs ≤ length ys
  appends-length = omega (arith, ap length a.is, length-append xs a.more)

pub adds-insert_key : {X : Type 0} (eq : X → X → Bool) → ((x y : X) → eq x y ≡ true → x ≡ y)
    → (x : X) (xs ys : List X) → ys ≡ insert_key eq xs x → Adds x xs ys
adds-insert_key {X} eq same x xs ys e =
    record {
      grown = by (list_any (eq x) xs) e;
      there = subst (λ l. Contains l x) (sym e)
          (Contains-insert_key eq same xs x);
    }
  where
    by : (b : Bool) → ys ≡ (if b then xs else xs ++ x ∷ []) → Appends (λ y. y ≡ x) xs ys
    by true i = record { more = []; is = i ∙ sym (append-nil xs); each = All-nil (λ y. y ≡ x) }
    by false i =
        record
        { more = x ∷ []; is = i; each = All-cons (λ y. y ≡ x) x [] refl (All-nil (λ y. y ≡ x)) }

pub contains-nil : {X : Type 0} (x : X) → Contains [] x → ⊥
contains-nil x h = let l = h.1 in omega arith

module _ {X Z : Type 0} (f : Z → X) where
  pub adds_each-none : (xs : List X) → AddsEach f [] xs xs
  adds_each-none xs = record { grown = appends-none _ xs; there = λ z h. absurd (contains-nil z h) }

  adds_each-push : (zs : List Z) (z : Z) (xs ys ws : List X) → AddsEach f zs xs ys
      → Adds (f z) ys ws → AddsEach f (zs ++ z ∷ []) xs ws
  adds_each-push zs z xs ys ws a b = record {
    grown = appends-then
        (appends-weaker a.grown (λ y (v, c, e). (v, Contains-append_left zs (z ∷ []) v c, e)))
        (appends-weaker b.grown (λ y e. (z, Contains-push zs z, e)));
    there = λ v h. by v (Contains-push_cases zs z v h);
  }
    where
      by : (v : Z) → Contains zs v ⊎ (z ≡ v) → Contains ws (f v)
      by v (inl c) = appends-keeps b.grown (f v) (a.there v c)
      by v (inr e) = subst (λ u. Contains ws (f u)) e b.there

  pub adds_each-append : (zs vs : List Z) (xs ys ws : List X) → AddsEach f zs xs ys
      → AddsEach f vs ys ws → AddsEach f (zs ++ vs) xs ws
  adds_each-append zs vs xs ys ws a b = record {
    grown = appends-then
        (appends-weaker a.grown (λ y (v, c, e). (v, Contains-append_left zs vs v c, e)))
        (appends-weaker b.grown (λ y (v, c, e). (v, Contains-append_right zs vs v c, e)));
    there = λ v h. both v (Contains-append_cases zs vs v h);
  }
    where
      both : (v : Z) → Contains zs v ⊎ Contains vs v → Contains ws (f v)
      both v (inl c) = appends-keeps b.grown (f v) (a.there v c)
      both v (inr c) = b.there v c

  pub adds_each-more : (zs : List Z) (i : ℕ) (d : Z) (xs ys ws : List X) → i < length zs
      → AddsEach f (take i zs) xs ys → Adds (f (get_or zs i d)) ys ws
      → AddsEach f (take (i + 1) zs) xs ws
  adds_each-more zs i d xs ys ws h a b =
      subst (λ l. AddsEach f l xs ws) (sym (take_more zs i d h))
      (adds_each-push (take i zs) (get_or zs i d) xs ys ws a b)

  pub adds_each-all : (zs : List Z) (i : ℕ) (xs ys : List X) → length zs ≤ i
      → AddsEach f (take i zs) xs ys → AddsEach f zs xs ys
  adds_each-all zs i xs ys h a = subst (λ l. AddsEach f l xs ys) (take_all i zs h) a

pub filter-more : {X : Type 0} (p : X → Bool) (zs : List X) (i : ℕ) (d : X) (xs ys : List X)
    → i < length zs → xs ≡ filter p (take i zs) → ys
    ≡ (if p (get_or zs i d) then xs ++ get_or zs i d ∷ [] else xs) → ys ≡ filter p (take (i + 1) zs)
filter-more {X} p zs i d xs ys h e is = is ∙ by (p (get_or zs i d)) ∙ sym (filter_more p zs i d h)
  where
    by : (b : Bool) → (if b then xs ++ get_or zs i d ∷ [] else xs)
        ≡ filter p (take i zs) ++ cond b (get_or zs i d ∷ []) []
    by true = ap (λ l. l ++ get_or zs i d ∷ []) e
    by false = e ∙ sym (append-nil (filter p (take i zs)))

module _ {X : Type 0} (p : X → Bool) (xs : List X) (x : X) where
  pub contains-filtered : Contains (filter p xs) x → Contains xs x × (p x ≡ true)
  contains-filtered h = (
    All-contains (Contains xs) (filter p xs) x
        (All-filter p (Contains xs) xs (All-contains_itself xs)) h,
    All-contains (λ y. p y ≡ true) (filter p xs) x (filter_passes p xs) h,
  )

pub contains-cons_cases : {X : Type 0} (x : X) (xs : List X) (y : X) → Contains (x ∷ xs) y → (x ≡ y)
    ⊎ Contains xs y
contains-cons_cases {X} x xs y h = by (Contains-append_cases (x ∷ []) xs y h)
  where
    by : Contains (x ∷ []) y ⊎ Contains xs y → (x ≡ y) ⊎ Contains xs y
    by (inl c) =
        inl
        (All-contains (λ z. x ≡ z) (x ∷ []) y
        (All-cons (λ z. x ≡ z) x [] refl (All-nil (λ z. x ≡ z))) c)
    by (inr c) = inr c

pub contains-head : {X : Type 0} (x : X) (xs : List X) → Contains (x ∷ xs) x
contains-head x xs = Contains-append_left (x ∷ []) xs x (Contains-push [] x)

pub contains-tail : {X : Type 0} (x : X) (xs : List X) (y : X) → Contains xs y → Contains (x ∷ xs) y
contains-tail x xs y h = Contains-append_right (x ∷ []) xs y h

pub contains-filter : {X : Type 0} (p : X → Bool) (xs : List X) (x : X) → Contains xs x → p x ≡ true
    → Contains (filter p xs) x
contains-filter p [] x h e = absurd (contains-nil x h)
contains-filter {X} p (y ∷ ys) x h e =
    by (p y) refl (contains-cons_cases y ys x h) (λ c. contains-filter p ys x c e)
  where
    by : (b : Bool) → p y ≡ b → (y ≡ x) ⊎ Contains ys x → (Contains ys x → Contains (filter p ys) x)
        → Contains (if b then y ∷ filter p ys else filter p ys) x
    by true i (inl s) rest =
        subst (λ z. Contains (y ∷ filter p ys) z) s (contains-head y (filter p ys))
    by true i (inr c) rest = contains-tail y (filter p ys) x (rest c)
    by false i (inl s) rest = absurd (let j : p x ≡ false = sym (ap p s) ∙ i in cc)
    by false i (inr c) rest = rest c
