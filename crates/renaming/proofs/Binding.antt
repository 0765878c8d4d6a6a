-- Variables and patterns that are bound one after another, and how their scope is left.
use Rattle.std.proofs.Common.{◌≡◌, ℕ, ◌+◌, ◌-◌, ◌<◌, List, [], ◌∷◌, ◌++◌, map, length, take, drop}
use Rattle.std.proofs.Common.{refl, sym, ap, ◌∙◌, append_assoc, arith, length-append}
use Rattle.std.specs.List.{slice_index_or}
use Rattle.std.proofs.lemmas.List.{take_more, map-append}
use Rattle.hy_core.specs.Resolved as r
use Rattle.hy_core.specs.Resolved.{Pattern, Patterns, NoPatterns, MorePatterns}
use Rattle.hy_core.specs.Scopes.{Scope, with_variables, with_pattern, with_patterns}
use Rattle.hy_core.specs.Syntax.{patterns_of}
use Rattle.lifted_program.specs.Renaming.{name_for, names_for, renamed_pattern, renamed_patterns}

pub one_more : {A : Type 0} (xs : List A) (i : ℕ) (x : A) → i < length xs
    → x ≡ slice_index_or xs i x → take i xs ++ x ∷ [] ≡ take (i + 1) xs
one_more xs i x below is =
    ap (λ z. take i xs ++ z ∷ []) is ∙ sym (take_more xs i x below)

names_for-more : (limit : ℕ) (s : Scope) (xs : List ℕ) (x : ℕ)
    → names_for limit s (xs ++ x ∷ [])
    ≡ names_for limit s xs ++ name_for limit (with_variables s xs) x ∷ []
names_for-more limit s [] x = refl
names_for-more limit s (y ∷ xs) x =
    ap (◌∷◌ (name_for limit s y)) (names_for-more limit (y ∷ s) xs x)

with_variables-more : (s : Scope) (xs : List ℕ) (x : ℕ)
    → with_variables s (xs ++ x ∷ []) ≡ x ∷ with_variables s xs
with_variables-more s [] x = refl
with_variables-more s (y ∷ xs) x = with_variables-more (y ∷ s) xs x

pub names_step : (limit : ℕ) (s0 : Scope) {s : Scope} (xs : List ℕ) (i x : ℕ)
    {ys zs : List ℕ} {y : ℕ} → i < length xs → x ≡ slice_index_or xs i x
    → ys ≡ names_for limit s0 (take i xs) → s ≡ with_variables s0 (take i xs)
    → y ≡ name_for limit s x → zs ≡ ys ++ y ∷ [] → zs ≡ names_for limit s0 (take (i + 1) xs)
names_step limit s0 xs i x below is h e k q =
    q ∙ (λ j. h j ++ (k ∙ ap (λ s. name_for limit s x) e) j ∷ [])
    ∙ sym (names_for-more limit s0 (take i xs) x)
    ∙ ap (names_for limit s0) (one_more xs i x below is)

pub bound_step : (s0 : Scope) {s t : Scope} (xs : List ℕ) (i x : ℕ) → i < length xs
    → x ≡ slice_index_or xs i x → s ≡ with_variables s0 (take i xs) → t ≡ x ∷ s
    → t ≡ with_variables s0 (take (i + 1) xs)
bound_step s0 xs i x below is e f =
    f ∙ ap (◌∷◌ x) e ∙ sym (with_variables-more s0 (take i xs) x)
    ∙ ap (with_variables s0) (one_more xs i x below is)

-- patterns one after another

abbrev one : Pattern → Patterns
one p = MorePatterns p NoPatterns

joined : Patterns → Patterns → Patterns
joined NoPatterns qs = qs
joined (MorePatterns p ps) qs = MorePatterns p (joined ps qs)

joined_is : (xs : List Pattern) (x : Pattern)
    → patterns_of (xs ++ x ∷ []) ≡ joined (patterns_of xs) (one x)
unfolding joined
joined_is [] x = refl
joined_is (y ∷ xs) x = ap (MorePatterns y) (joined_is xs x)

renamed-joined : (limit : ℕ) (s : Scope) (ps : Patterns) (p : Pattern)
    → renamed_patterns limit s (joined ps (one p))
    ≡ joined (renamed_patterns limit s ps) (one (renamed_pattern limit (with_patterns s ps) p))
unfolding joined
renamed-joined limit s NoPatterns p = refl
renamed-joined limit s (MorePatterns q ps) p =
    ap (MorePatterns (renamed_pattern limit s q)) (renamed-joined limit (with_pattern s q) ps p)

with-joined : (s : Scope) (ps : Patterns) (p : Pattern)
    → with_patterns s (joined ps (one p)) ≡ with_pattern (with_patterns s ps) p
unfolding joined
with-joined s NoPatterns p = refl
with-joined s (MorePatterns q ps) p = with-joined (with_pattern s q) ps p

-- declared patterns, as the code takes them
module _ {D : Type 0} (shape : D → Pattern) where
  abbrev shapes : List D → Patterns
  shapes ds = patterns_of (map shape ds)

  shapes-more : (ds : List D) (d : D) → shapes (ds ++ d ∷ []) ≡ joined (shapes ds) (one (shape d))
  shapes-more ds d =
      ap patterns_of (map-append shape ds (d ∷ [])) ∙ joined_is (map shape ds) (shape d)

  pub patterns_step : (limit : ℕ) (s0 : Scope) {s : Scope} (xs : List D) (i : ℕ) (x : D)
      (ys : List D) (y : D) {zs : List D} → i < length xs → x ≡ slice_index_or xs i x
      → patterns_of (map shape ys) ≡ renamed_patterns limit s0 (patterns_of (map shape (take i xs)))
      → s ≡ with_patterns s0 (patterns_of (map shape (take i xs)))
      → shape y ≡ renamed_pattern limit s (shape x) → zs ≡ ys ++ y ∷ []
      → patterns_of (map shape zs)
      ≡ renamed_patterns limit s0 (patterns_of (map shape (take (i + 1) xs)))
  patterns_step limit s0 xs i x ys y below is h e k q =
      ap shapes q ∙ shapes-more ys y
      ∙ (λ j. joined (h j) (one ((k ∙ ap (λ s. renamed_pattern limit s (shape x)) e) j)))
      ∙ sym (renamed-joined limit s0 (shapes (take i xs)) (shape x))
      ∙ ap (renamed_patterns limit s0) (sym (shapes-more (take i xs) x))
      ∙ ap (λ ds. renamed_patterns limit s0 (shapes ds)) (one_more xs i x below is)

  pub scope_step : (s0 : Scope) {s t : Scope} (xs : List D) (i : ℕ) (x : D) → i < length xs
      → x ≡ slice_index_or xs i x → s ≡ with_patterns s0 (patterns_of (map shape (take i xs)))
      → t ≡ with_pattern s (shape x)
      → t ≡ with_patterns s0 (patterns_of (map shape (take (i + 1) xs)))
  scope_step s0 xs i x below is e f =
      f ∙ ap (λ s. with_pattern s (shape x)) e
      ∙ sym (with-joined s0 (shapes (take i xs)) (shape x))
      ∙ ap (with_patterns s0) (sym (shapes-more (take i xs) x))
      ∙ ap (λ ds. with_patterns s0 (shapes ds)) (one_more xs i x below is)

-- what is bound stands in front of what was in scope
record Grown (s t : Scope) : Type 0 where
  front : List ℕ
  whole : t ≡ front ++ s

grown_by : {s t u : Scope} → Grown s t → Grown t u → Grown s u
grown_by {s} g h = record {
  front = h.front ++ g.front;
  whole = h.whole ∙ ap (λ t. h.front ++ t) g.whole ∙ sym (append_assoc h.front g.front s);
}

mutual
  grown : (s : Scope) (p : Pattern) → Grown s (with_pattern s p)
  grown s (r.AnyTerm x) = record { front = x ∷ []; whole = refl }
  grown s (r.TheTuple ps) = grown_all s ps
  grown s (r.TheList ps p) = grown_by (grown_all s ps) (grown (with_patterns s ps) p)
  grown s (r.Alias x p) = grown_by (record { front = x ∷ []; whole = refl }) (grown (x ∷ s) p)
  grown s _ = record { front = []; whole = refl }

  grown_all : (s : Scope) (ps : Patterns) → Grown s (with_patterns s ps)
  grown_all s NoPatterns = record { front = []; whole = refl }
  grown_all s (MorePatterns p ps) = grown_by (grown s p) (grown_all (with_pattern s p) ps)

grown_variables : (s : Scope) (xs : List ℕ) → Grown s (with_variables s xs)
grown_variables s [] = record { front = []; whole = refl }
grown_variables s (x ∷ xs) =
    grown_by (record { front = x ∷ []; whole = refl }) (grown_variables (x ∷ s) xs)

behind_front : (n : ℕ) (front s : List ℕ) → n ≡ length front → drop n (front ++ s) ≡ s
behind_front n [] s h = ap (λ n. drop n s) h
behind_front n (x ∷ front) s h =
    ap (λ n. drop n (x ∷ front ++ s)) h ∙ behind_front (length front) front s refl

back : {s t : Scope} → Grown s t → drop (length t - length s) t ≡ s
back {s} g =
    ap (λ t. drop (length t - length s) t) g.whole
    ∙ behind_front (length (g.front ++ s) - length s) g.front s (rw length-append (omega arith))

pub patterns_back : {s t : Scope} (ps : Patterns) → t ≡ with_patterns s ps
    → drop (length t - length s) t ≡ s
patterns_back {s} ps e = ap (λ t. drop (length t - length s) t) e ∙ back (grown_all s ps)

pub variables_back : {s t : Scope} (xs : List ℕ) → t ≡ with_variables s xs
    → drop (length t - length s) t ≡ s
variables_back {s} xs e = ap (λ t. drop (length t - length s) t) e ∙ back (grown_variables s xs)

-- back in the scope that was left
pub returned : {s0 s1 s2 s3 s4 : Scope} {d : ℕ} → s1 ≡ s0 → d ≡ length s1
    → drop (length s2 - length s1) s2 ≡ s1 → s3 ≡ s2 → s4 ≡ drop (length s3 - d) s3 → s4 ≡ s0
returned {s2 = s2} {d = d} a b back e f =
    f ∙ ap (λ s. drop (length s - d) s) e ∙ ap (λ n. drop (length s2 - n) s2) b ∙ back ∙ a
