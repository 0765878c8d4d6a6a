-- Parts that are numbered one after another.
use Rattle.std.proofs.Common.{◌≡◌, ℕ, zero, suc, ◌+◌, ◌<◌, List, [], ◌∷◌, ◌++◌, length, map, take, replicate, refl, sym, ap, ◌∙◌, arith}
use Rattle.std.proofs.lemmas.List.{append-nil, take_more}
use Rattle.std.specs.List.{slice_index_or}
use Rattle.hy_core.specs.Counting.{Counts, Numbering, made, next, at_node}
use Rattle.hy_core.specs.declared.info.SiteInfo.{SiteInfo}
use Rattle.hy_core.specs.declared.info.SiteKind.{SiteKind}
use Rattle.core_tables.specs.code.NumberedParts.{each}

map-replicate : {A B : Type 0} (f : A → B) (x : A) (n : ℕ) → map f (replicate n x) ≡ replicate n (f x)
map-replicate f x zero = refl
map-replicate f x (suc n) = ap (λ ys. f x ∷ ys) (map-replicate f x n)

-- a node with so many sites
pub node-built : (function : ℕ) (kind : SiteKind) (times : ℕ) (old new : Counts) (first : ℕ) (sites : List SiteInfo) → first ≡ length old.sites
    → sites ≡ old.sites ++ replicate times (record { function = function; node = old.node; kind = kind })
    → new ≡ record { node = old.node + 1; local = old.local; sites = sites } → (first, new) ≡ at_node (replicate times kind) made function old
node-built function kind times old new first sites is_first is_sites is_new =
    let one : old.node + 1 ≡ suc old.node = omega arith in
    let all = is_sites ∙ ap (λ these. old.sites ++ these) (sym (map-replicate (λ k. record { function = function; node = old.node; kind = k }) kind times)) in
    (λ i. (is_first i, is_new i)) ∙ (λ i. (length old.sites, record { node = one i; local = old.local; sites = all i }))

-- one part, and behind it what follows
pub then : {A B : Type 0} (part : Numbering A) (more : A → Numbering B) (function : ℕ) {before middle : Counts} {a : A} {r : B × Counts} → (a, middle) ≡ part function before → r ≡ more a function middle → r ≡ next part more function before
then part more function p q = q ∙ (λ i. more (p i).0 function (p i).1)

-- a node without sites, and behind it what follows
pub past : {A : Type 0} (more : Numbering A) (function : ℕ) {before middle : Counts} {r : A × Counts} → middle ≡ record before { node = before.node + 1 } → r ≡ more function middle → r ≡ at_node [] (λ _. more) function before
past more function {before = before} p q =
    let one : before.node + 1 ≡ suc before.node = omega arith in
    q ∙ ap (more function) p ∙ (λ i. more function (record { node = one i; local = before.local; sites = sym (append-nil before.sites) i }))

-- forms with one part, with two and with three
pub of_one : {A B : Type 0} (f : Numbering A) (make : A → B) (function : ℕ) {before middle after : Counts} {a : A} → middle ≡ record before { node = before.node + 1 } → (a, after) ≡ f function middle
    → (make a, after) ≡ at_node [] (λ _. next f λ a. made (make a)) function before
of_one f make function p q = past (next f λ a. made (make a)) function p (then f (λ a. made (make a)) function q refl)

pub of_two : {A B C : Type 0} (f : Numbering A) (g : Numbering B) (make : A → B → C) (function : ℕ) {before n1 n2 after : Counts} {a : A} {b : B} → n1 ≡ record before { node = before.node + 1 }
    → (a, n2) ≡ f function n1 → (b, after) ≡ g function n2 → (make a b, after) ≡ at_node [] (λ _. next f λ a. next g λ b. made (make a b)) function before
of_two f g make function {a = a} p q r =
    past (next f λ a. next g λ b. made (make a b)) function p (then f (λ a. next g λ b. made (make a b)) function q (then g (λ b. made (make a b)) function r refl))

pub of_three : {A B C D : Type 0} (f : Numbering A) (g : Numbering B) (h : Numbering C) (make : A → B → C → D) (function : ℕ) {before n1 n2 n3 after : Counts} {a : A} {b : B} {c : C} → n1 ≡ record before { node = before.node + 1 }
    → (a, n2) ≡ f function n1 → (b, n3) ≡ g function n2 → (c, after) ≡ h function n3 → (make a b c, after) ≡ at_node [] (λ _. next f λ a. next g λ b. next h λ c. made (make a b c)) function before
of_three f g h make function {a = a} {b = b} p q r s =
    past (next f λ a. next g λ b. next h λ c. made (make a b c)) function p
    (then f (λ a. next g λ b. next h λ c. made (make a b c)) function q (then g (λ b. next h λ c. made (make a b c)) function r (then h (λ c. made (make a b c)) function s refl)))

each-append : {A B : Type 0} (f : A → Numbering B) (xs ys : List A) (function : ℕ) (counts : Counts) → each f (xs ++ ys) function counts ≡ next (each f xs) (λ firsts. next (each f ys) λ others. made (firsts ++ others)) function counts
each-append f [] ys function counts = refl
each-append f (x ∷ xs) ys function counts = let first = f x function counts in ap (λ (others : List _ × Counts). (first.0 ∷ others.0, others.1)) (each-append f xs ys function first.1)

-- one more of them
pub each-take : {A B : Type 0} (f : A → Numbering B) (xs : List A) (i : ℕ) (x : A) (function : ℕ) (before : Counts) {middle after : Counts} {ys zs : List B} {y : B} → i < length xs → x ≡ slice_index_or xs i x
    → (ys, middle) ≡ each f (take i xs) function before → (y, after) ≡ f x function middle → zs ≡ ys ++ y ∷ [] → (zs, after) ≡ each f (take (i + 1) xs) function before
each-take f xs i x function before {middle = middle} {after = after} {ys = ys} below is p q r =
    (λ k. (r k, after))
    ∙ (λ k. (ys ++ (q k).0 ∷ [], (q k).1))
    ∙ (λ k. ((p k).0 ++ (f x function (p k).1).0 ∷ [], (f x function (p k).1).1))
    ∙ sym (each-append f (take i xs) (x ∷ []) function before)
    ∙ ap (λ zs. each f zs function before) (ap (λ z. take i xs ++ z ∷ []) is ∙ sym (take_more xs i x below))
