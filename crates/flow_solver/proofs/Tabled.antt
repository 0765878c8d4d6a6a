-- A table of the members says what is in the sets.
use Rattle.std.proofs.Common.{◌≡◌, ◌⊎◌, ◌↔◌, ◌||◌, ◌&&◌, ℕ, ◌≤◌, Bool, true, List}
use Rattle.std.proofs.Common.{[], ◌∷◌, length, take, refl, sym, ap, ◌∙◌, subst, inl, inr}
use Rattle.std.proofs.Common.{eqb-true, eq-eqb, true≢false}
use Rattle.std.specs.List.{list_any, list_all, Contains}
use Rattle.std.proofs.lemmas.Bool.{and_parts, or_right}
use Rattle.std.proofs.lemmas.List.{take_all}
use Rattle.indexmap.proofs.CallerLemmas.{Contains-list_any}
use Rattle.flow_sets.specs.Least.{Flows, itself, along, by_field, by_any, by_each}
use Rattle.flow_sets.specs.Table.{in_table, is_of}
use Rattle.flow_sets.specs.declared.inclusion.FlowSet.{FlowSet}
use Rattle.flow_sets.specs.declared.inclusion.FlowSet.TheVariants.{Only, Register, Result, Field}
use Rattle.flow_sets.specs.declared.inclusion.FlowSet.TheVariants.{Message, Sent}
use Rattle.flow_sets.specs.declared.inclusion.Inclusion.{Inclusion}
use Rattle.flow_sets.specs.declared.inclusion.Inclusion.TheVariants.{Whole, Part, Parts}
use Rattle.flow_sets.specs.declared.table.FlowTable.{FlowTable}
use Rattle.flow_sets.specs.Targets.{is_many, goes_to_many}
use Rattle.flow_solver.specs.declared.members.Member.{Member}
use Rattle.flow_solver.specs.code.Members.{IsIn}
use Rattle.flow_solver.proofs.Appending.{contains-nil, contains-cons_cases}
use Rattle.flow_solver.proofs.Same.{is_member, is_member-same, is_set-itself}

is_of-is_member : (X : FlowSet) (x : ℕ) (Y : FlowSet) (y : ℕ) → is_of X x Y y
    ≡ is_member (record { set = X; site = x }) (record { set = Y; site = y })
is_of-is_member (Only s) x (Only t) y = refl
is_of-is_member (Register f r) x (Register g q) y = refl
is_of-is_member (Result f) x (Result g) y = refl
is_of-is_member (Field s field) x (Field t other) y = refl
is_of-is_member Message x Message y = refl
is_of-is_member Sent x Sent y = refl
is_of-is_member X x Y y = refl

abbrev pub any-of : FlowSet → ℕ → List Member → Bool
any-of X s ms = list_any (λ (m : Member). is_of m.set m.site X s) ms

abbrev is_this : Member → Member → Bool
is_this k m = is_of m.set m.site k.set k.site

is_this-same : (k m : Member) → is_this k m ≡ true → k ≡ m
is_this-same k m h = sym (is_member-same m k (sym (is_of-is_member m.set m.site k.set k.site) ∙ h))

is_this-itself : (k : Member) → is_this k k ≡ true
is_this-itself k =
    is_of-is_member k.set k.site k.set k.site
    ∙ (λ i. is_set-itself k.set i && eq-eqb k.site k.site refl i)

contains-list_any : {X : Type 0} (p : X → Bool) (xs : List X) (x : X) → Contains xs x → p x ≡ true
    → list_any p xs ≡ true
contains-list_any p [] x h e = absurd (contains-nil x h)
contains-list_any {X} p (y ∷ ys) x h e =
    by (contains-cons_cases y ys x h) (λ c. contains-list_any p ys x c e)
  where
    by : (y ≡ x) ⊎ Contains ys x → (Contains ys x → list_any p ys ≡ true) → (p y || list_any p ys)
        ≡ true
    by (inl s) rest = ap (λ b. b || list_any p ys) (ap p s ∙ e)
    by (inr c) rest = ap (λ b. p y || b) (rest c) ∙ or_right (p y) true refl

pub any-all : {X : Type 0} (p : X → Bool) (xs : List X) (i : ℕ) → length xs ≤ i
    → list_any p (take i xs) ≡ list_any p xs
any-all p xs i h = ap (list_any p) (take_all i xs h)

pub each-list_all : {X : Type 0} (p : X → Bool) (xs : List X) → list_all p xs ≡ true → (x : X)
    → Contains xs x → p x ≡ true
each-list_all p [] a x h = absurd (contains-nil x h)
each-list_all {X} p (y ∷ ys) a x h =
    by (contains-cons_cases y ys x h)
    (λ c. each-list_all p ys (and_parts (p y) (list_all p ys) a).1 x c)
  where
    by : (y ≡ x) ⊎ Contains ys x → (Contains ys x → p x ≡ true) → p x ≡ true
    by (inl s) rest = sym (ap p s) ∙ (and_parts (p y) (list_all p ys) a).0
    by (inr c) rest = rest c

module _ (given : Inclusion → Type 0) (many : (r : Inclusion) → given r → goes_to_many r ≡ true)
  where
    grown : (to : FlowSet) (s : ℕ) → is_many to ≡ true → to ≡ Only s → ⊥
    grown to s h e = true≢false (sym h ∙ ap is_many e)

    only-alone : {X : FlowSet} {t : ℕ} → Flows given X t → (s : ℕ) → X ≡ Only s → s ≡ t
    only-alone itself s e = cc
    only-alone (along {from} {to} g d) s e = absurd (grown to s (many (Whole from to) g) e)
    only-alone (by_field {base} {to} {field} g d f) s e =
        absurd (grown to s (many (Part base field to) g) e)
    only-alone (by_any {base} {to} {field} g d f) s e =
        absurd (grown to s (many (Part base field to) g) e)
    only-alone (by_each {base} {to} g d f) s e = absurd (grown to s (many (Parts base to) g) e)

    module _ (t : FlowTable) (ms : List Member)
        (is : (X : FlowSet) (s : ℕ) → is_many X ≡ true → in_table t X s
        ≡ list_any (λ (m : Member). is_of m.set m.site X s) ms)
        (exact : (X : FlowSet) (s : ℕ) → IsIn ms X s ↔ Flows given X s) where
      of_many : (X : FlowSet) (s : ℕ) → is_many X ≡ true → (in_table t X s ≡ true) ↔ Flows given X s
      of_many X s m = (there, λ d. back ((exact X s).1 d))
        where
          there : in_table t X s ≡ true → Flows given X s
          there h =
              (exact X s).0
              (inl
              (Contains-list_any is_this is_this-same ms (record { set = X; site = s })
              (sym (is X s m) ∙ h)))

          back : IsIn ms X s → in_table t X s ≡ true
          back (inl c) =
              is X s m ∙ contains-list_any (is_this (record { set = X; site = s })) ms
              (record { set = X; site = s }) c (is_this-itself (record { set = X; site = s }))
          back (inr e) = absurd (true≢false (sym m ∙ ap is_many e))

      pub tabled : (X : FlowSet) (s : ℕ) → (in_table t X s ≡ true) ↔ Flows given X s
      tabled (Only u) s = (
        λ h. subst (λ v. Flows given (Only u) v) (eqb-true u s h) itself,
        λ d. eq-eqb u s
            (only-alone d u refl),
      )
      tabled (Register f r) s = of_many (Register f r) s refl
      tabled (Result f) s = of_many (Result f) s refl
      tabled (Field o field) s = of_many (Field o field) s refl
      tabled Message s = of_many Message s refl
      tabled Sent s = of_many Sent s refl
