-- Lists with further items behind them, and members that are added.
use Rattle.std.proofs.Common.{◌≡◌, ◌⊎◌, ℕ, ◌<◌, ◌≤◌, Bool, true, false, if◌then◌else◌, List}
use Rattle.std.proofs.Common.{[], ◌∷◌, ◌++◌, length, get_or, refl, sym, ap, ◌∙◌, subst}
use Rattle.std.proofs.Common.{inl, inr, arith, eqb, eqb-true, true≢false}
use Rattle.std.specs.Prelude.{nat_le, fold, ◌&&◌}
use Rattle.std.specs.List.{All, Contains, list_any}
use Rattle.std.proofs.lemmas.Bool.{and_parts, le-leb, leb-true}
use Rattle.std.proofs.lemmas.List.{append-nil, append_assoc, get_or_append_left, length-append}
use Rattle.std.proofs.lemmas.List.Elements.{All-nil, All-cons, All-append, All-contains}
use Rattle.std.proofs.lemmas.List.Elements.{Contains-append_left, Contains-append_right}
use Rattle.std.proofs.lemmas.List.Elements.{Contains-append_cases, Contains-push}
use Rattle.indexmap.specs.IndexSet.{insert_key}
use Rattle.indexmap.proofs.CallerLemmas.{Contains-insert_key}
use Rattle.capture_flow.specs.Least.{is_member}
use Rattle.capture_flow.specs.code.Members.{Extends, moved, passed, seeded}
use Rattle.capture_flow.specs.declared.fact.Edge.{Edge}
use Rattle.capture_flow.specs.declared.fact.Fact.{Fact}
use Rattle.capture_flow.specs.declared.fact.Fact.TheVariants.{Occurs, Uses}
use Rattle.capture_flow.specs.declared.fact.Member.{Member}

pub contains-nil : {X : Type 0} (x : X) → Contains [] x → ⊥
contains-nil x h = let l = h.1 in omega arith

pub contains-cons_cases : {X : Type 0} (x : X) (xs : List X) (y : X) → Contains (x ∷ xs) y
    → (x ≡ y) ⊎ Contains xs y
contains-cons_cases {X} x xs y h = by (Contains-append_cases (x ∷ []) xs y h)
  where
    by : Contains (x ∷ []) y ⊎ Contains xs y → (x ≡ y) ⊎ Contains xs y
    by (inl c) =
        inl (All-contains (λ z. x ≡ z) (x ∷ []) y
        (All-cons (λ z. x ≡ z) x [] refl (All-nil (λ z. x ≡ z))) c)
    by (inr c) = inr c

pub contains-head : {X : Type 0} (x : X) (xs : List X) → Contains (x ∷ xs) x
contains-head x xs = Contains-append_left (x ∷ []) xs x (Contains-push [] x)

pub contains-tail : {X : Type 0} (x : X) (xs : List X) (y : X) → Contains xs y
    → Contains (x ∷ xs) y
contains-tail x xs y h = Contains-append_right (x ∷ []) xs y h

pub extends-none : {X : Type 0} (xs : List X) → Extends xs xs
extends-none xs = record { more = []; is = sym (append-nil xs) }

module _ {X : Type 0} {xs ys : List X} (a : Extends xs ys) where
  pub extends-then : {zs : List X} → Extends ys zs → Extends xs zs
  extends-then b = record {
    more = a.more ++ b.more;
    is = b.is ∙ ap (λ l. l ++ b.more) a.is ∙ append_assoc xs a.more b.more;
  }

  pub extends-keeps : (x : X) → Contains xs x → Contains ys x
  extends-keeps x h =
      subst (λ l. Contains l x) (sym a.is) (Contains-append_left xs a.more x h)

  pub extends-at : (k : ℕ) (d : X) → k < length xs → get_or ys k d ≡ get_or xs k d
  extends-at k d h = ap (λ l. get_or l k d) a.is ∙ get_or_append_left xs a.more d k h

  pub extends-length : length xs ≤ length ys
  extends-length = omega (arith, ap length a.is, length-append xs a.more)

pub is_member-same : (x y : Member) → is_member x y ≡ true → x ≡ y
is_member-same x y h =
    let p =
    and_parts (eqb x.function y.function) (eqb x.variable y.variable && eqb x.place y.place) h in
    let q = and_parts (eqb x.variable y.variable) (eqb x.place y.place) p.1 in
    λ i. record {
      function = eqb-true x.function y.function p.0 i;
      variable = eqb-true x.variable y.variable q.0 i;
      place = eqb-true x.place y.place q.1 i;
    }

-- one member more, where it is new
module _ (ms : List Member) (m : Member) where
  inserted-extends : Extends ms (insert_key is_member ms m)
  inserted-extends = by (list_any (is_member m) ms)
    where
      by : (b : Bool) → Extends ms (if b then ms else ms ++ m ∷ [])
      by true = extends-none ms
      by false = record { more = m ∷ []; is = refl }

  inserted-all : (P : Member → Type 0) → All P ms → P m → All P (insert_key is_member ms m)
  inserted-all P h p = by (list_any (is_member m) ms)
    where
      by : (b : Bool) → All P (if b then ms else ms ++ m ∷ [])
      by true = h
      by false = All-append P ms (m ∷ []) h (All-cons P m [] p (All-nil P))

  inserted-there : Contains (insert_key is_member ms m) m
  inserted-there = Contains-insert_key is_member is_member-same ms m

-- a member that is carried along edges
module _ (m : Member) where
  passed-extends : (ms : List Member) (e : Edge) → Extends ms (passed m ms e)
  passed-extends ms e = by (nat_le m.place e.depth)
    where
      by : (b : Bool) → Extends ms (if b then insert_key is_member ms (moved m e) else ms)
      by true = inserted-extends ms (moved m e)
      by false = extends-none ms

  pub carried-extends : (ms : List Member) (es : List Edge) → Extends ms (fold (passed m) ms es)
  carried-extends ms [] = extends-none ms
  carried-extends ms (e ∷ es) =
      extends-then (passed-extends ms e) (carried-extends (passed m ms e) es)

  pub carried-all : (P : Member → Type 0) (ms : List Member) (es : List Edge)
      → ((e : Edge) → Contains es e → m.place ≤ e.depth → P (moved m e)) → All P ms
      → All P (fold (passed m) ms es)
  carried-all P ms [] f h = h
  carried-all P ms (e ∷ es) f h =
      carried-all P (passed m ms e) es (λ e' c. f e' (contains-tail e es e' c))
      (by (nat_le m.place e.depth) (λ l. f e (contains-head e es) (leb-true m.place e.depth l)))
    where
      by : (b : Bool) → (b ≡ true → P (moved m e))
          → All P (if b then insert_key is_member ms (moved m e) else ms)
      by true p = inserted-all ms (moved m e) P h (p refl)
      by false p = h

  pub carried-there : (ms : List Member) (es : List Edge) (e : Edge) → Contains es e
      → m.place ≤ e.depth → Contains (fold (passed m) ms es) (moved m e)
  carried-there ms [] e c l = absurd (contains-nil e c)
  carried-there ms (e' ∷ es) e c l =
      by (contains-cons_cases e' es e c) (λ k. carried-there (passed m ms e') es e k l)
    where
      here : (b : Bool) → (nat_le m.place e.depth) ≡ b
          → Contains (if b then insert_key is_member ms (moved m e) else ms) (moved m e)
      here true i = inserted-there ms (moved m e)
      here false i = absurd (true≢false (sym (le-leb m.place e.depth l) ∙ i))

      by : (e' ≡ e) ⊎ Contains es e
          → (Contains es e → Contains (fold (passed m) (passed m ms e') es) (moved m e))
          → Contains (fold (passed m) (passed m ms e') es) (moved m e)
      by (inl s) rest =
          extends-keeps (carried-extends (passed m ms e') es) (moved m e)
          (subst (λ e'. Contains (passed m ms e') (moved m e)) (sym s)
          (here (nat_le m.place e.depth) refl))
      by (inr k) rest = rest k

-- the members of facts
seeded-extends : (ms : List Member) (f : Fact) → Extends ms (seeded ms f)
seeded-extends ms (Occurs m) = inserted-extends ms m
seeded-extends ms (Uses e) = extends-none ms

pub seeds-extend : (ms : List Member) (fs : List Fact) → Extends ms (fold seeded ms fs)
seeds-extend ms [] = extends-none ms
seeds-extend ms (f ∷ fs) = extends-then (seeded-extends ms f) (seeds-extend (seeded ms f) fs)

pub seeds-all : (P : Member → Type 0) (ms : List Member) (fs : List Fact)
    → ((m : Member) → Contains fs (Occurs m) → P m) → All P ms → All P (fold seeded ms fs)
seeds-all P ms [] h k = k
seeds-all P ms (f ∷ fs) h k =
    seeds-all P (seeded ms f) fs (λ m c. h m (contains-tail f fs (Occurs m) c))
    (by f (λ m e. h m (subst (Contains (f ∷ fs)) e (contains-head f fs))))
  where
    by : (g : Fact) → ((m : Member) → g ≡ Occurs m → P m) → All P (seeded ms g)
    by (Occurs m) p = inserted-all ms m P k (p m refl)
    by (Uses e) p = k

pub seeds-there : (ms : List Member) (fs : List Fact) (m : Member) → Contains fs (Occurs m)
    → Contains (fold seeded ms fs) m
seeds-there ms [] m c = absurd (contains-nil (Occurs m) c)
seeds-there ms (f ∷ fs) m c =
    by (contains-cons_cases f fs (Occurs m) c) (λ k. seeds-there (seeded ms f) fs m k)
  where
    by : (f ≡ Occurs m) ⊎ Contains fs (Occurs m)
        → (Contains fs (Occurs m) → Contains (fold seeded (seeded ms f) fs) m)
        → Contains (fold seeded (seeded ms f) fs) m
    by (inl s) rest =
        extends-keeps (seeds-extend (seeded ms f) fs) m
        (subst (λ f. Contains (seeded ms f) m) (sym s) (inserted-there ms m))
    by (inr k) rest = rest k
