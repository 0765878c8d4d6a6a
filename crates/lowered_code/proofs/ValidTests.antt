-- The tests that are written for patterns are valid.
use Rattle.std.proofs.Common.{◌≡◌, ℕ, zero, suc, ◌+◌, ◌<◌, ◌≤◌, List, [], ◌∷◌, ◌++◌, length, Bool}
use Rattle.std.proofs.Common.{true, false, arith}
use Rattle.std.specs.List.{All}
use Rattle.std.proofs.lemmas.List.Elements.{All-push}
use Rattle.hy_core.specs.KnownTrees.{pattern_count}
use Rattle.hy_core.specs.Resolved as r
use Rattle.hy_core.specs.Resolved.{Pattern, Patterns, NoPatterns, MorePatterns}
use Rattle.hy_ir.specs.Code.{Code}
use Rattle.hy_ir.specs.Valid.{IsValidTest}
use Rattle.hy_ir.specs.declared.code.Test.{Test}
use Rattle.hy_ir.specs.declared.code.Test.TheVariants as test
use Rattle.program_code.specs.HeldRegisters.{Held}
use Rattle.lowered_code.specs.Builder.{registers_from}
use Rattle.lowered_code.specs.LoweredPatterns.{Checks, with_test, with_bind, with_tuple, with_cons}
use Rattle.lowered_code.specs.LoweredPatterns.{with_variable, tested, tested_parts, tested_heads}
use Rattle.lowered_code.specs.LoweredPatterns.{tested_all}
use Rattle.lowered_code.proofs.Below.{AllBelow, HeldBelow, held_more, numbers_below, below_more}
use Rattle.lowered_code.proofs.Below.{first_below, rest_below}
use Rattle.lowered_code.proofs.Numbers.{length_numbers, one_less}

module _ (code : Code) where
  -- the tests are valid where all registers in use are there
  abbrev pub Sound : Checks → Type 0
  Sound k = (n : ℕ) → k.next ≤ n → All (IsValidTest code n) k.tests

  pub record After (m : ℕ) (u : Held × Checks) : Type 0 where
    pub rises : m ≤ u.1.next
    pub held : HeldBelow u.1.next u.0
    pub sound : Sound u.1

  after_more : (m n : ℕ) (u : Held × Checks) → m ≤ n → After n u → After m u
  after_more m n u h a = record {
    rises = let b = a.rises in omega (arith, h, b);
    held = a.held;
    sound = a.sound;
  }

  test_sound : (k : Checks) (t : Test) (next : ℕ) → k.next ≤ next → Sound k
      → ((n : ℕ) → next ≤ n → IsValidTest code n t)
      → Sound (record { tests = k.tests ++ t ∷ []; next = next })
  test_sound k t next h s v n less =
      All-push (IsValidTest code n) k.tests t (s n (omega (arith, h, less))) (v n less)

  bind_sound : (from : ℕ) (k : Checks) → from < k.next → Sound k → Sound (with_bind from k)
  bind_sound from k h s =
      test_sound k (test.Bind k.next from) (k.next + 1) (omega arith) s
      (λ n less. (omega (arith, less), omega (arith, h, less)))

  -- a test that writes nothing
  leaf : (t : Test) (held : Held) (k : Checks) → HeldBelow k.next held → Sound k
      → ((n : ℕ) → k.next ≤ n → IsValidTest code n t) → After k.next (held, with_test t k)
  leaf t held k h s v = record {
    rises = omega arith;
    held = h;
    sound = test_sound k t k.next (omega arith) s v;
  }

  variable_sound : (inside : Bool) (x from : ℕ) (held : Held) (k : Checks) → from < k.next
      → HeldBelow k.next held → Sound k → After k.next (with_variable inside x from (held, k))
  variable_sound true x from held k f h s = record {
    rises = omega arith;
    held = (f, h);
    sound = s;
  }
  variable_sound false x from held k f h s = record {
    rises = omega arith;
    held = (omega arith, held_more k.next (k.next + 1) held (omega arith) h);
    sound = bind_sound from k f s;
  }

  tuple_sound : (from size : ℕ) (k : Checks) → from < k.next → Sound k
      → Sound (with_tuple from size k)
  tuple_sound from size k h s =
      test_sound k (test.IsTuple from size (registers_from k.next size)) (k.next + size)
      (omega arith) s (λ n less. (
        omega (arith, h, less),
        numbers_below k.next size n less,
        length_numbers k.next size,
      ))

  cons_sound : (from : ℕ) (k : Checks) → from < k.next → Sound k → Sound (with_cons from k)
  cons_sound from k h s =
      test_sound k (test.IsCons from k.next (k.next + 1)) (k.next + 2) (omega arith) s
      (λ n less. (omega (arith, h, less), omega (arith, less), omega (arith, less)))

  mutual
    tested_sound : (p : Pattern) (inside : Bool) (from : ℕ) (held : Held) (k : Checks)
        → from < k.next → HeldBelow k.next held → Sound k
        → After k.next (tested inside p from (held, k))
    tested_sound (r.AnyTerm x) inside from held k f h s =
        variable_sound inside x from held k f h s
    tested_sound (r.TheInt n) inside from held k f h s =
        leaf (test.IsInt from n) held k h s (λ m less. omega (arith, f, less))
    tested_sound (r.TheAtom a) inside from held k f h s =
        leaf (test.IsAtom from a) held k h s (λ m less. omega (arith, f, less))
    tested_sound r.TheNil inside from held k f h s =
        leaf (test.IsNil from) held k h s (λ m less. omega (arith, f, less))
    tested_sound (r.TheText text) inside from held k f h s =
        leaf (test.IsText from text) held k h s (λ m less. omega (arith, f, less))
    tested_sound (r.TheTuple ps) inside from held k f h s =
        let size = pattern_count ps in
        after_more k.next (k.next + size)
        (tested_parts ps k.next (held, with_tuple from size k)) (omega arith)
        (parts_sound ps k.next held (with_tuple from size k) (omega arith)
        (held_more k.next (k.next + size) held (omega arith) h) (tuple_sound from size k f s))
    tested_sound (r.TheList ps p) inside from held k f h s =
        heads_sound ps inside (λ i q u. tested i p q u)
        (λ i q e c g l d. tested_sound p i q e c g l d) from held k f h s
    tested_sound (r.Alias x p) true from held k f h s =
        tested_sound p true from ((x, from) ∷ held) k f (f, h) s
    tested_sound (r.Alias x p) false from held k f h s =
        let inner = (x, k.next) ∷ held in
        after_more k.next (k.next + 1) (tested false p from (inner, with_bind from k)) (omega arith)
        (tested_sound p false from inner (with_bind from k) (omega (arith, f))
        (omega arith, held_more k.next (k.next + 1) held (omega arith) h) (bind_sound from k f s))

    -- parts in registers from a first one on
    parts_sound : (ps : Patterns) (from : ℕ) (held : Held) (k : Checks)
        → from + pattern_count ps ≤ k.next → HeldBelow k.next held → Sound k
        → After k.next (tested_parts ps from (held, k))
    parts_sound NoPatterns from held k f h s = record { rises = omega arith; held = h; sound = s }
    parts_sound (MorePatterns p ps) from held k f h s =
        let m = tested true p from (held, k) in
        let a = tested_sound p true from held k (omega (arith, f)) h s in
        let b = a.rises in
        after_more k.next m.1.next (tested_parts ps (from + 1) m) b
        (parts_sound ps (from + 1) m.0 m.1 (omega (arith, f, b)) a.held a.sound)

    heads_sound : (ps : Patterns) (inside : Bool)
        (tail : Bool → ℕ → Held × Checks → Held × Checks)
        → ((i : Bool) (q : ℕ) (e : Held) (c : Checks) → q < c.next → HeldBelow c.next e → Sound c
        → After c.next (tail i q (e, c)))
        → (from : ℕ) (held : Held) (k : Checks) → from < k.next → HeldBelow k.next held → Sound k
        → After k.next (tested_heads inside ps tail from (held, k))
    heads_sound NoPatterns inside tail d from held k f h s = d inside from held k f h s
    heads_sound (MorePatterns q ps) inside tail d from held k f h s =
        let m = tested true q k.next (held, with_cons from k) in
        let a = tested_sound q true k.next held (with_cons from k) (omega arith)
        (held_more k.next (k.next + 2) held (omega arith) h) (cons_sound from k f s) in
        let b = a.rises in
        after_more k.next m.1.next (tested_heads true ps tail (k.next + 1) m) (omega (arith, b))
        (heads_sound ps true tail d (k.next + 1) m.0 m.1 (omega (arith, b)) a.held a.sound)

  pub all_sound : (ps : Patterns) (rs : List ℕ) (held : Held) (k : Checks)
      → length rs ≡ pattern_count ps → AllBelow k.next rs → HeldBelow k.next held → Sound k
      → After k.next (tested_all ps rs (held, k))
  all_sound NoPatterns rs held k e f h s = record { rises = omega arith; held = h; sound = s }
  all_sound (MorePatterns p ps) [] held k e f h s = absurd (no (pattern_count ps) e)
    where
      no : (n : ℕ) → zero ≡ suc n → ⊥
      no n h = omega (arith, h)
  all_sound (MorePatterns p ps) (q ∷ rs) held k e f h s =
      let m = tested false p q (held, k) in
      let a = tested_sound p false q held k
      (first_below k.next (q ∷ rs) (omega arith) f) h s in
      let b = a.rises in
      after_more k.next m.1.next (tested_all ps rs m) b
      (all_sound ps rs m.0 m.1 (one_less (length rs) (pattern_count ps) e)
      (below_more k.next m.1.next rs b (rest_below k.next (q ∷ rs) f)) a.held a.sound)
