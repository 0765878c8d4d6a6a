-- Matching fills patterns in.
use Rattle.std.proofs.Common.{◌≡◌, ◌==◌, ℕ, ℤ, pos, Bool, true, false, if◌then◌else◌, List, [], ◌∷◌, Option, Some, None, refl, sym, ap, ◌∙◌, subst, inl, inr}
use Rattle.std.proofs.lemmas.Bool.Decides.{Decides-eqb, Decides-int_eq}
use Rattle.std.specs.Ordering.{int_eq}
use Rattle.hy_terms.specs.Term.{Term, Int, Atom, Pid, Nil, Cons, Tuple, Terms, NoTerms, MoreTerms, terms_of, list_of}
use Rattle.hy_core.specs.Evaluation.{text_term, conses, local_callee}
use Rattle.hy_core.specs.Instance.{IsInstance, AreInstances, Has, OneHas, HasEachOnce, HaveEachOnce}
use Rattle.hy_core.specs.Match.{Env, Bound, lookup, and_then, on_true, is_text, match, match_parts, match_heads, match_all}
use Rattle.hy_core.specs.MatchLaws.{MatchingFillsIn}
use Rattle.hy_core.specs.Resolved.{Pattern, AnyTerm, TheInt, TheAtom, TheNil, TheText, TheTuple, TheList, Alias, Patterns, NoPatterns, MorePatterns}

-- steps of a match

record Middle (o : Option Env) (k : Env → Option Env) (bound : Env) : Type 0 where
  env : Env
  first : o ≡ Some env
  then_rest : k env ≡ Some bound

middle : (o : Option Env) (k : Env → Option Env) (bound : Env) → and_then o k ≡ Some bound → Middle o k bound
middle None k bound h = absurd cc
middle (Some env) k bound h = record { env = env; first = refl; then_rest = h }

by_middle : (o : Option Env) (k : Env → Option Env) (env : Env) → o ≡ Some env → and_then o k ≡ k env
by_middle o k env h = ap (λ x. and_then x k) h

some_same : (x y : Env) → Some x ≡ Some y → x ≡ y
some_same x y h = cc

test_true : (b : Bool) (env bound : Env) → on_true b env ≡ Some bound → b ≡ true
test_true true env bound h = refl
test_true false env bound h = absurd cc

test_same : (b : Bool) (env bound : Env) → on_true b env ≡ Some bound → env ≡ bound
test_same true env bound h = some_same env bound h
test_same false env bound h = absurd cc

-- the elements of a tuple are matched as values side by side are

then_same : (o : Option Env) (k j : Env → Option Env) → ((env : Env) → k env ≡ j env) → and_then o k ≡ and_then o j
then_same None k j h = refl
then_same (Some env) k j h = h env

parts-all : (ps : Patterns) (ts : Terms) (env : Env) → match_parts ps ts env ≡ match_all ps (list_of ts) env
parts-all NoPatterns NoTerms env = refl
parts-all NoPatterns (MoreTerms t ts) env = refl
parts-all (MorePatterns p ps) NoTerms env = refl
parts-all (MorePatterns p ps) (MoreTerms t ts) env = then_same (match p t env) _ _ (λ e. parts-all ps ts e)

terms_of-list_of : (ts : Terms) → terms_of (list_of ts) ≡ ts
terms_of-list_of NoTerms = refl
terms_of-list_of (MoreTerms t ts) = ap (MoreTerms t) (terms_of-list_of ts)

list_of-terms_of : (ts : List Term) → list_of (terms_of ts) ≡ ts
list_of-terms_of [] = refl
list_of-terms_of (t ∷ ts) = ap (◌∷◌ t) (list_of-terms_of ts)

-- the heads of a list notation as well, in front of the rest

record Split (ps : Patterns) (rest : Term → Env → Option Env) (t : Term) (env bound : Env) : Type 0 where
  heads : List Term
  tail : Term
  between : Env
  is : t ≡ conses heads tail
  first : match_all ps heads env ≡ Some between
  then_rest : rest tail between ≡ Some bound

more_split : (p : Pattern) (ps : Patterns) (rest : Term → Env → Option Env) (h t : Term) (env e bound : Env) → match p h env ≡ Some e → Split ps rest t e bound → Split (MorePatterns p ps) rest (Cons h t) env bound
more_split p ps rest h t env e bound m s = record {
  heads = h ∷ s.heads;
  tail = s.tail;
  between = s.between;
  is = ap (Cons h) s.is;
  first = by_middle (match p h env) (λ env'. match_all ps s.heads env') e m ∙ s.first;
  then_rest = s.then_rest;
}

split : (ps : Patterns) (rest : Term → Env → Option Env) (t : Term) (env bound : Env) → match_heads ps rest t env ≡ Some bound → Split ps rest t env bound
split NoPatterns rest t env bound h = record { heads = []; tail = t; between = env; is = refl; first = refl; then_rest = h }
split (MorePatterns p ps) rest (Cons h t) env bound m =
    let mid = middle (match p h env) (λ e. match_heads ps rest t e) bound m in
    more_split p ps rest h t env mid.env bound mid.first (split ps rest t mid.env bound mid.then_rest)
split (MorePatterns p ps) rest Nil env bound m = absurd cc
split (MorePatterns p ps) rest (Int n) env bound m = absurd cc
split (MorePatterns p ps) rest (Atom a) env bound m = absurd cc
split (MorePatterns p ps) rest (Pid a) env bound m = absurd cc
split (MorePatterns p ps) rest (Tuple ts) env bound m = absurd cc

heads_then : (ps : Patterns) (rest : Term → Env → Option Env) (hs : List Term) (t : Term) (env between : Env) → match_all ps hs env ≡ Some between → match_heads ps rest (conses hs t) env ≡ rest t between
heads_then NoPatterns rest [] t env between h = ap (rest t) (some_same env between h)
heads_then NoPatterns rest (u ∷ hs) t env between h = absurd cc
heads_then (MorePatterns p ps) rest [] t env between h = absurd cc
heads_then (MorePatterns p ps) rest (u ∷ hs) t env between h =
    let mid = middle (match p u env) (λ e. match_all ps hs e) between h in
    by_middle (match p u env) (λ e. match_heads ps rest (conses hs t) e) mid.env mid.first ∙ heads_then ps rest hs t mid.env between mid.then_rest

-- what a binding of the pattern's variables keeps, matching keeps

module _ {A : Type 0} (f : Env → A) where
  test_keeps : (b : Bool) (env bound : Env) → on_true b env ≡ Some bound → f bound ≡ f env
  test_keeps b env bound h = ap f (sym (test_same b env bound h))

  mutual
    keeps : (p : Pattern) (t : Term) (env bound : Env) → ((x : ℕ) → Has p x → (u : Term) (e : Env) → f (Bound x u e) ≡ f e) → match p t env ≡ Some bound → f bound ≡ f env
    keeps (AnyTerm x) t env bound k h = ap f (sym (some_same (Bound x t env) bound h)) ∙ k x refl t env
    keeps (TheInt n) (Int m) env bound k h = test_keeps (int_eq n m) env bound h
    keeps (TheInt n) t env bound k h = absurd cc
    keeps (TheAtom a) (Atom b) env bound k h = test_keeps (a == b) env bound h
    keeps (TheAtom a) t env bound k h = absurd cc
    keeps TheNil Nil env bound k h = ap f (sym (some_same env bound h))
    keeps TheNil t env bound k h = absurd cc
    keeps (TheText s) t env bound k h = test_keeps (is_text s t) env bound h
    keeps (TheTuple ps) (Tuple ts) env bound k h = all_keep ps (list_of ts) env bound k (sym (parts-all ps ts env) ∙ h)
    keeps (TheTuple ps) t env bound k h = absurd cc
    keeps (TheList ps p) t env bound k h =
        let s = split ps (λ rest e. match p rest e) t env bound h in
        keeps p s.tail s.between bound (λ x i. k x (inr i)) s.then_rest ∙ all_keep ps s.heads env s.between (λ x i. k x (inl i)) s.first
    keeps (Alias x p) t env bound k h = keeps p t (Bound x t env) bound (λ y i. k y (inr i)) h ∙ k x (inl refl) t env

    all_keep : (ps : Patterns) (ts : List Term) (env bound : Env) → ((x : ℕ) → OneHas ps x → (u : Term) (e : Env) → f (Bound x u e) ≡ f e) → match_all ps ts env ≡ Some bound → f bound ≡ f env
    all_keep NoPatterns [] env bound k h = ap f (sym (some_same env bound h))
    all_keep NoPatterns (t ∷ ts) env bound k h = absurd cc
    all_keep (MorePatterns p ps) [] env bound k h = absurd cc
    all_keep (MorePatterns p ps) (t ∷ ts) env bound k h =
        let mid = middle (match p t env) (λ e. match_all ps ts e) bound h in
        all_keep ps ts mid.env bound (λ x i. k x (inr i)) mid.then_rest ∙ keeps p t env mid.env (λ x i. k x (inl i)) mid.first

-- a variable and its binding

same_number : (x : ℕ) → (x == x) ≡ true
same_number x = (Decides-eqb x x).1 refl

when_equal : (b : Bool) (t : Term) (o : Option Term) → b ≡ true → (if b then Some t else o) ≡ Some t
when_equal true t o h = refl
when_equal false t o h = absurd cc

when_other : (b : Bool) (t : Term) (o : Option Term) → (b ≡ true → ⊥) → (if b then Some t else o) ≡ o
when_other true t o n = absurd (n refl)
when_other false t o n = refl

lookup_bound : (x : ℕ) (t : Term) (env : Env) → lookup x (Bound x t env) ≡ Some t
lookup_bound x t env = when_equal (x == x) t (lookup x env) (same_number x)

lookup_other : (x y : ℕ) (t : Term) (env : Env) → (x ≡ y → ⊥) → lookup x (Bound y t env) ≡ lookup x env
lookup_other x y t env n = when_other (x == y) t (lookup x env) (λ h. n ((Decides-eqb x y).0 h))

-- variables that the patterns don't have
pub others_kept : (ps : Patterns) (ts : List Term) (env bound : Env) (x : ℕ) → (OneHas ps x → ⊥) → match_all ps ts env ≡ Some bound → lookup x bound ≡ lookup x env
others_kept ps ts env bound x n h = all_keep (lookup x) ps ts env bound (λ y i t e. lookup_other x y t e (λ same. n (subst (OneHas ps) (sym same) i))) h

other_kept : (p : Pattern) (t : Term) (env bound : Env) (x : ℕ) → (Has p x → ⊥) → match p t env ≡ Some bound → lookup x bound ≡ lookup x env
other_kept p t env bound x n h = keeps (lookup x) p t env bound (λ y i u e. lookup_other x y u e (λ same. n (subst (Has p) (sym same) i))) h

-- a pattern filled in depends on its variables alone

mutual
  instance_kept : (p : Pattern) (env later : Env) (t : Term) → ((x : ℕ) → Has p x → lookup x later ≡ lookup x env) → IsInstance p env t → IsInstance p later t
  instance_kept (AnyTerm x) env later t k h = k x refl ∙ h
  instance_kept (TheInt n) env later t k h = h
  instance_kept (TheAtom a) env later t k h = h
  instance_kept TheNil env later t k h = h
  instance_kept (TheText s) env later t k h = h
  instance_kept (TheTuple ps) env later t k h = (h.0, instances_kept ps env later h.0 k h.1, h.2)
  instance_kept (TheList ps p) env later t k h =
      (h.0, h.1, instances_kept ps env later h.0 (λ x i. k x (inl i)) h.2, instance_kept p env later h.1 (λ x i. k x (inr i)) h.3, h.4)
  instance_kept (Alias x p) env later t k h = (k x (inl refl) ∙ h.0, instance_kept p env later t (λ y i. k y (inr i)) h.1)

  instances_kept : (ps : Patterns) (env later : Env) (ts : List Term) → ((x : ℕ) → OneHas ps x → lookup x later ≡ lookup x env) → AreInstances ps env ts → AreInstances ps later ts
  instances_kept NoPatterns env later ts k h = h
  instances_kept (MorePatterns p ps) env later ts k h =
      (h.0, h.1, instance_kept p env later h.0 (λ x i. k x (inl i)) h.2, instances_kept ps env later h.1 (λ x i. k x (inr i)) h.3, h.4)

-- texts

both_true : (b c : Bool) → (if b then c else false) ≡ true → (b ≡ true) × (c ≡ true)
both_true true c h = (refl, h)
both_true false c h = absurd cc

text_is : (s : List ℕ) (t : Term) → is_text s t ≡ true → t ≡ text_term s
text_is [] Nil h = refl
text_is [] t h = absurd cc
text_is (c ∷ cs) (Cons (Int n) t) h =
    let both = both_true (int_eq n (pos c)) (is_text cs t) h in
    λ i. Cons (Int ((Decides-int_eq n (pos c)).0 both.0 i)) (text_is cs t both.1 i)
text_is (c ∷ cs) t h = absurd cc

same_int : (n : ℤ) → int_eq n n ≡ true
same_int n = (Decides-int_eq n n).1 refl

is_text-itself : (s : List ℕ) → is_text s (text_term s) ≡ true
is_text-itself [] = refl
is_text-itself (c ∷ cs) = ap (λ b. if b then is_text cs (text_term cs) else false) (same_int (pos c)) ∙ is_text-itself cs

-- where patterns match, they are the terms once they are filled in

mutual
  filled : (p : Pattern) (t : Term) (env bound : Env) → HasEachOnce p → match p t env ≡ Some bound → IsInstance p bound t
  filled (AnyTerm x) t env bound once h = ap (lookup x) (sym (some_same (Bound x t env) bound h)) ∙ lookup_bound x t env
  filled (TheInt n) (Int m) env bound once h = ap Int (sym ((Decides-int_eq n m).0 (test_true (int_eq n m) env bound h)))
  filled (TheInt n) t env bound once h = absurd cc
  filled (TheAtom a) (Atom b) env bound once h = ap Atom (sym ((Decides-eqb a b).0 (test_true (a == b) env bound h)))
  filled (TheAtom a) t env bound once h = absurd cc
  filled TheNil Nil env bound once h = refl
  filled TheNil t env bound once h = absurd cc
  filled (TheText s) t env bound once h = text_is s t (test_true (is_text s t) env bound h)
  filled (TheTuple ps) (Tuple ts) env bound once h =
      (list_of ts, all_filled ps (list_of ts) env bound once (sym (parts-all ps ts env) ∙ h), ap Tuple (sym (terms_of-list_of ts)))
  filled (TheTuple ps) t env bound once h = absurd cc
  filled (TheList ps p) t env bound once h =
      let s = split ps (λ rest e. match p rest e) t env bound h in
      let heads = all_filled ps s.heads env s.between once.0 s.first in (
        s.heads,
        s.tail,
        instances_kept ps s.between bound s.heads (λ x i. other_kept p s.tail s.between bound x (once.2 x i) s.then_rest) heads,
        filled p s.tail s.between bound once.1 s.then_rest,
        s.is,
      )
  filled (Alias x p) t env bound once h =
      (other_kept p t (Bound x t env) bound x once.0 h ∙ lookup_bound x t env, filled p t (Bound x t env) bound once.1 h)

  pub all_filled : (ps : Patterns) (ts : List Term) (env bound : Env) → HaveEachOnce ps → match_all ps ts env ≡ Some bound → AreInstances ps bound ts
  all_filled NoPatterns [] env bound once h = refl
  all_filled NoPatterns (t ∷ ts) env bound once h = absurd cc
  all_filled (MorePatterns p ps) [] env bound once h = absurd cc
  all_filled (MorePatterns p ps) (t ∷ ts) env bound once h =
      let mid = middle (match p t env) (λ e. match_all ps ts e) bound h in
      let first = filled p t env mid.env once.0 mid.first in (
        t,
        ts,
        instance_kept p mid.env bound t (λ x i. others_kept ps ts mid.env bound x (once.2 x i) mid.then_rest) first,
        all_filled ps ts mid.env bound once.1 mid.then_rest,
        refl,
      )

-- where patterns can be filled in so that they are the terms, they match

abbrev Matches : Option Env → Type 0
Matches o = (bound : Env) × (o ≡ Some bound)

matches_then : (o : Option Env) (k : Env → Option Env) → Matches o → ((env : Env) → Matches (k env)) → Matches (and_then o k)
matches_then o k m h =
    let later = h m.0 in
    (later.0, by_middle o k m.0 m.1 ∙ later.1)

mutual
  found : (p : Pattern) (t : Term) (filling env : Env) → IsInstance p filling t → Matches (match p t env)
  found (AnyTerm x) t filling env h = (Bound x t env, refl)
  found (TheInt n) t filling env h = subst (λ u. Matches (match (TheInt n) u env)) (sym h) (env, ap (λ b. on_true b env) (same_int n))
  found (TheAtom a) t filling env h = subst (λ u. Matches (match (TheAtom a) u env)) (sym h) (env, ap (λ b. on_true b env) (same_number a))
  found TheNil t filling env h = subst (λ u. Matches (match TheNil u env)) (sym h) (env, refl)
  found (TheText s) t filling env h = (env, ap (λ u. on_true (is_text s u) env) h ∙ ap (λ b. on_true b env) (is_text-itself s))
  found (TheTuple ps) t filling env h =
      let all = all_found ps h.0 filling env h.1 in
      subst (λ u. Matches (match (TheTuple ps) u env)) (sym h.2)
      (all.0, parts-all ps (terms_of h.0) env ∙ ap (λ ts. match_all ps ts env) (list_of-terms_of h.0) ∙ all.1)
  found (TheList ps p) t filling env h =
      let heads = all_found ps h.0 filling env h.2 in
      let rest = found p h.1 filling heads.0 h.3 in
      subst (λ u. Matches (match (TheList ps p) u env)) (sym h.4)
      (rest.0, heads_then ps (λ u e. match p u e) h.0 h.1 env heads.0 heads.1 ∙ rest.1)
  found (Alias x p) t filling env h = found p t filling (Bound x t env) h.1

  pub all_found : (ps : Patterns) (ts : List Term) (filling env : Env) → AreInstances ps filling ts → Matches (match_all ps ts env)
  all_found NoPatterns ts filling env h = subst (λ us. Matches (match_all NoPatterns us env)) (sym h) (env, refl)
  all_found (MorePatterns p ps) ts filling env h =
      subst (λ us. Matches (match_all (MorePatterns p ps) us env)) (sym h.4)
      (matches_then (match p h.0 env) (λ e. match_all ps h.1 e) (found p h.0 filling env h.2) (λ e. all_found ps h.1 filling e h.3))

pub matching_fills_in : (ps : Patterns) (ts : List Term) (env : Env) → MatchingFillsIn ps ts env
matching_fills_in ps ts env = record {
  filled = λ once bound h. all_filled ps ts env bound once h;
  found = λ filling h. all_found ps ts filling env h;
  others = λ x n bound h. others_kept ps ts env bound x n h;
  functions = λ f bound h. all_keep (local_callee f) ps ts env bound (λ x i t e. refl) h;
}
