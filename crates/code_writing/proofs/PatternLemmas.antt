-- Patterns, and the bindings that their tests add.
use Rattle.std.proofs.Common.{◌≡◌, ℕ, zero, suc, ◌+◌, ◌-◌, ◌<◌, List, [], ◌∷◌, length, drop, map, refl, sym, ap, ◌∙◌, arith, subst, get_or, Bool, true, false}
use Rattle.std.proofs.lemmas.List.{drop_more}
use Rattle.hy_core.specs.KnownTrees.{pattern_count}
use Rattle.hy_core.specs.Resolved as r
use Rattle.hy_core.specs.Resolved.{Pattern, Patterns, NoPatterns, MorePatterns}
use Rattle.hy_core.specs.Syntax.{pattern_of, patterns_of}
use Rattle.hy_core.specs.declared.tree.Pattern as declared
use Rattle.lowered_code.specs.Builder.{first, rest}
use Rattle.lowered_code.specs.LoweredPatterns.{Checks, tested, tested_all, tested_heads, tested_parts, with_bind, with_cons, with_tuple, with_variable}
use Rattle.program_code.specs.HeldRegisters.{Held}
use Rattle.code_writing.proofs.BoundLemmas.{Under, under_here, under_more, under_on, under_back, rest_drop}

pub count_is : (ps : List declared.Pattern) → pattern_count (patterns_of (map pattern_of ps)) ≡ length ps
count_is [] = refl
count_is (p ∷ ps) = let h = count_is ps in omega (arith, h)

variable_under : (inside : Bool) (x from : ℕ) (t : Held × Checks) → Under t.0 (with_variable inside x from t).0
variable_under true x from t = under_more _ _ (x, from) (under_here _)
variable_under false x from t = under_more _ _ (x, t.1.next) (under_here _)

mutual
  tested_under : (inside : Bool) (p : Pattern) (from : ℕ) (t : Held × Checks) → Under t.0 (tested inside p from t).0
  tested_under inside (r.AnyTerm x) from t = variable_under inside x from t
  tested_under inside (r.TheInt n) from t = under_here _
  tested_under inside (r.TheAtom a) from t = under_here _
  tested_under inside r.TheNil from t = under_here _
  tested_under inside (r.TheText text) from t = under_here _
  tested_under inside (r.TheTuple ps) from t = parts_under ps t.1.next (t.0, with_tuple from (pattern_count ps) t.1)
  tested_under inside (r.TheList ps p) from t = heads_under inside ps (λ i q u. tested i p q u) (λ i q u. tested_under i p q u) from t
  tested_under inside (r.Alias x p) from t = under_on _ _ _ (variable_under inside x from t) (tested_under inside p from (with_variable inside x from t))

  parts_under : (ps : Patterns) (from : ℕ) (t : Held × Checks) → Under t.0 (tested_parts ps from t).0
  parts_under NoPatterns from t = under_here _
  parts_under (MorePatterns p ps) from t = under_on _ _ _ (tested_under true p from t) (parts_under ps (from + 1) (tested true p from t))

  heads_under : (inside : Bool) (ps : Patterns) (tail : Bool → ℕ → Held × Checks → Held × Checks) → ((i : Bool) (q : ℕ) (u : Held × Checks) → Under u.0 (tail i q u).0) → (from : ℕ) (t : Held × Checks) → Under t.0 (tested_heads inside ps tail from t).0
  heads_under inside NoPatterns tail h from t = h inside from t
  heads_under inside (MorePatterns p ps) tail h from t =
      under_on _ _ _ (tested_under true p t.1.next (t.0, with_cons from t.1)) (heads_under true ps tail h (t.1.next + 1) (tested true p t.1.next (t.0, with_cons from t.1)))

all_under : (ps : Patterns) (rs : List ℕ) (t : Held × Checks) → Under t.0 (tested_all ps rs t).0
all_under NoPatterns rs t = under_here _
all_under (MorePatterns p ps) rs t = under_on _ _ _ (tested_under false p (first rs) t) (all_under ps (rest rs) (tested false p (first rs) t))

pub tests_back : (ps : Patterns) (rs : List ℕ) (held held' : Held) (c c' : Checks) → (held', c') ≡ tested_all ps rs (held, c) → drop (length held' - length held) held' ≡ held
tests_back ps rs held held' c c' e =
    let e0 : held' ≡ (tested_all ps rs (held, c)).0 = ap (λ z. z.0) e in
    subst (λ z. drop (length z - length held) z ≡ held) (sym e0) (under_back held _ (all_under ps rs (held, c)))

pub tests_step : (i j : ℕ) (ps : List declared.Pattern) (rs : List ℕ) (t u : Held × Checks) (p : declared.Pattern) → i < length ps → p ≡ get_or ps i p → u ≡ tested false (pattern_of p) (first (drop j rs)) t
    → tested_all (patterns_of (map pattern_of (drop (i + 1) ps))) (drop (j + 1) rs) u ≡ tested_all (patterns_of (map pattern_of (drop i ps))) (drop j rs) t
tests_step i j ps rs t u p lt e f =
    let d : drop i ps ≡ p ∷ drop (i + 1) ps = drop_more ps i p lt ∙ ap (λ z. z ∷ drop (i + 1) ps) (sym e) in
    let later : List declared.Pattern → Patterns = λ l. patterns_of (map pattern_of l) in
    let s : rest (drop j rs) ≡ drop (j + 1) rs = (let n : suc j ≡ j + 1 = omega arith in rest_drop j rs ∙ ap (λ k. drop k rs) n) in
    let v = tested false (pattern_of p) (first (drop j rs)) t in
    let a : tested_all (later (drop i ps)) (drop j rs) t ≡ tested_all (later (drop (i + 1) ps)) (rest (drop j rs)) v = ap (λ l. tested_all (later l) (drop j rs) t) d in
    let b : tested_all (later (drop (i + 1) ps)) (rest (drop j rs)) v ≡ tested_all (later (drop (i + 1) ps)) (drop (j + 1) rs) u = ap (λ l. tested_all (later (drop (i + 1) ps)) l v) s ∙ ap (tested_all (later (drop (i + 1) ps)) (drop (j + 1) rs)) (sym f) in
    sym (a ∙ b)
