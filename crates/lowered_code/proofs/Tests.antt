-- The tests that are written for patterns are theirs.
use Rattle.std.proofs.Common.{◌≡◌, ℕ, zero, suc, ◌+◌, List, [], ◌∷◌, ◌++◌, length, Bool, true}
use Rattle.std.proofs.Common.{false}
use Rattle.std.proofs.Common.{refl, sym, ap, ◌∙◌, subst, arith}
use Rattle.hy_core.specs.KnownTrees.{pattern_count}
use Rattle.hy_core.specs.Resolved as r
use Rattle.hy_core.specs.Resolved.{Pattern, Patterns, NoPatterns, MorePatterns}
use Rattle.hy_core.specs.Scopes.{Scope, with_pattern, with_patterns}
use Rattle.hy_ir.specs.declared.code.Test.{Test}
use Rattle.hy_ir.specs.declared.code.Test.TheVariants as test
use Rattle.program_code.specs.HeldRegisters.{Held}
use Rattle.program_code.specs.PatternTests.{TestsOf, test_bind, test_out, test_int, test_atom}
use Rattle.program_code.specs.PatternTests.{test_nil, test_text, test_tuple, test_list, test_alias}
use Rattle.program_code.specs.PatternTests.{test_alias_out, HeadsTests, heads_none, heads_more}
use Rattle.program_code.specs.PatternTests.{PartsTests, parts_none, parts_more}
use Rattle.program_code.specs.WrittenRegisters.{test_writes, tests_write}
use Rattle.program_code.proofs.PatternLemmas.{tests_append}
use Rattle.lowered_code.specs.Builder.{registers_from}
use Rattle.lowered_code.specs.LoweredPatterns.{Checks, with_test, with_bind, with_tuple, with_cons}
use Rattle.lowered_code.specs.LoweredPatterns.{tested, tested_parts, tested_heads}
use Rattle.lowered_code.specs.LoweredPatterns.{tested_all}
use Rattle.lowered_code.proofs.Appending.{grown_more, grown_none, outs_more, moved_more, moved_none}
use Rattle.lowered_code.proofs.Numbers.{numbers_first, length_numbers}

abbrev pub variables_of : Held → Scope
variables_of [] = []
variables_of (b ∷ held) = b.0 ∷ variables_of held

pub record Tested (inside : Bool) (held : Held) (p : Pattern) (from : ℕ) (k : Checks)
    (u : Held × Checks) : Type 0 where
  pub added : List Test
  pub new : ℕ
  pub grown : u.1.tests ≡ k.tests ++ added
  pub code : TestsOf inside held p from added u.0
  pub outs : tests_write added ≡ registers_from k.next new
  pub moved : u.1.next ≡ k.next + new
  pub scope : variables_of u.0 ≡ with_pattern (variables_of held) p

pub record HeadsTested (inside : Bool) (held : Held) (ps : Patterns) (p : Pattern) (from : ℕ)
    (k : Checks) (u : Held × Checks) : Type 0 where
  pub added : List Test
  pub new : ℕ
  pub grown : u.1.tests ≡ k.tests ++ added
  pub code : HeadsTests inside held ps p from added u.0
  pub outs : tests_write added ≡ registers_from k.next new
  pub moved : u.1.next ≡ k.next + new
  pub scope : variables_of u.0 ≡ with_pattern (with_patterns (variables_of held) ps) p

pub record AllTested (inside : Bool) (held : Held) (ps : Patterns) (rs : List ℕ) (k : Checks)
    (u : Held × Checks) : Type 0 where
  pub added : List Test
  pub new : ℕ
  pub grown : u.1.tests ≡ k.tests ++ added
  pub code : PartsTests inside held ps rs added u.0
  pub outs : tests_write added ≡ registers_from k.next new
  pub moved : u.1.next ≡ k.next + new
  pub scope : variables_of u.0 ≡ with_patterns (variables_of held) ps

-- a test that writes nothing
leaf : (inside : Bool) (held : Held) (p : Pattern) (from : ℕ) (k : Checks) (t : Test)
    → TestsOf inside held p from (t ∷ []) held → test_writes t ≡ []
    → variables_of held ≡ with_pattern (variables_of held) p
    → Tested inside held p from k (held, with_test t k)
leaf inside held p from k t d e s = record {
  added = t ∷ [];
  new = 0;
  grown = refl;
  code = d;
  outs = ap (λ l. l ++ []) e;
  moved = moved_none k.next;
  scope = s;
}

-- a pattern, and then others
one_and_more : {inside : Bool} (held : Held) (p : Pattern) (ps : Patterns) (r : ℕ) (rs : List ℕ)
    (k : Checks) (m u : Held × Checks) → Tested inside held p r k m
    → AllTested inside m.0 ps rs m.1 u → AllTested inside held (MorePatterns p ps) (r ∷ rs) k u
one_and_more held p ps r rs k m u h g = record {
  added = h.added ++ g.added;
  new = h.new + g.new;
  grown = grown_more k.tests m.1.tests u.1.tests h.added g.added h.grown g.grown;
  code = parts_more h.code g.code;
  outs = tests_append h.added g.added ∙ outs_more (tests_write h.added) (tests_write g.added) k.next
      h.new g.new m.1.next h.outs g.outs h.moved;
  moved = moved_more k.next h.new g.new m.1.next u.1.next h.moved g.moved;
  scope = g.scope ∙ ap (λ s. with_patterns s ps) h.scope;
}

-- an alias that is the out of a test
alias_out : (held : Held) (x : ℕ) (p : Pattern) (from : ℕ) (k : Checks) (u : Held × Checks)
    → Tested true ((x, from) ∷ held) p from k u → Tested true held (r.Alias x p) from k u
alias_out held x p from k u h = record {
  added = h.added;
  new = h.new;
  grown = h.grown;
  code = test_alias_out h.code;
  outs = h.outs;
  moved = h.moved;
  scope = h.scope;
}

alias_bound : (held : Held) (x : ℕ) (p : Pattern) (from : ℕ) (k : Checks) (u : Held × Checks)
    → Tested false ((x, k.next) ∷ held) p from (with_bind from k) u
    → Tested false held (r.Alias x p) from k u
alias_bound held x p from k u h = record {
  added = test.Bind k.next from ∷ h.added;
  new = 1 + h.new;
  grown = grown_more k.tests (with_bind from k).tests u.1.tests (test.Bind k.next from ∷ []) h.added
      refl h.grown;
  code = test_alias h.code;
  outs = outs_more (k.next ∷ []) (tests_write h.added) k.next 1 h.new (k.next + 1) refl h.outs refl;
  moved = moved_more k.next 1 h.new (k.next + 1) u.1.next refl h.moved;
  scope = h.scope;
}

-- a tuple, and then its parts
tuple_tested : (inside : Bool) (held : Held) (ps : Patterns) (from : ℕ) (k : Checks)
    (u : Held × Checks)
    → AllTested true held ps (registers_from k.next (pattern_count ps))
    (with_tuple from (pattern_count ps) k) u
    → Tested inside held (r.TheTuple ps) from k u
tuple_tested inside held ps from k u h =
    let n = pattern_count ps in
    let outs = registers_from k.next n in
    let t = test.IsTuple from n outs in record {
      added = t ∷ h.added;
      new = n + h.new;
      grown = grown_more k.tests (with_tuple from n k).tests u.1.tests (t ∷ []) h.added refl
          h.grown;
      code = subst (λ m. TestsOf inside held (r.TheTuple ps) from
          (test.IsTuple from m outs ∷ h.added) u.0) (length_numbers k.next n) (test_tuple h.code);
      outs = outs_more outs (tests_write h.added) k.next n h.new (k.next + n) refl h.outs refl;
      moved = moved_more k.next n h.new (k.next + n) u.1.next refl h.moved;
      scope = h.scope;
    }

-- a cons: its head, and then the rest
cons_tested : (inside : Bool) (held : Held) (q : Pattern) (ps : Patterns) (p : Pattern) (from : ℕ)
    (k : Checks) (m u : Held × Checks) → Tested true held q k.next (with_cons from k) m
    → HeadsTested true m.0 ps p (k.next + 1) m.1 u
    → HeadsTested inside held (MorePatterns q ps) p from k u
cons_tested inside held q ps p from k m u h g =
    let t = test.IsCons from k.next (k.next + 1) in record {
      added = t ∷ (h.added ++ g.added);
      new = 2 + (h.new + g.new);
      grown = grown_more k.tests (with_cons from k).tests u.1.tests (t ∷ []) (h.added ++ g.added)
          refl (grown_more (with_cons from k).tests m.1.tests u.1.tests h.added g.added h.grown
          g.grown);
      code = heads_more h.code g.code;
      outs = outs_more (k.next ∷ (k.next + 1) ∷ []) (tests_write (h.added ++ g.added)) k.next 2
          (h.new + g.new) (k.next + 2) two (tests_append h.added g.added
          ∙ outs_more (tests_write h.added) (tests_write g.added) (k.next + 2) h.new g.new m.1.next
          h.outs g.outs h.moved) refl;
      moved = moved_more k.next 2 (h.new + g.new) (k.next + 2) u.1.next refl
          (moved_more (k.next + 2) h.new g.new m.1.next u.1.next h.moved g.moved);
      scope = g.scope ∙ ap (λ s. with_pattern (with_patterns s ps) p) h.scope;
    }
  where
    two : k.next ∷ (k.next + 1) ∷ [] ≡ registers_from k.next 2
    two = sym (numbers_first k.next 2 1 (omega arith) ∙ ap (λ l. k.next ∷ l) refl)

mutual
  pub tested_meets : (p : Pattern) (inside : Bool) (from : ℕ) (held : Held) (k : Checks)
      → Tested inside held p from k (tested inside p from (held, k))
  tested_meets (r.AnyTerm x) true from held k = record {
    added = [];
    new = 0;
    grown = grown_none k.tests;
    code = test_out;
    outs = refl;
    moved = moved_none k.next;
    scope = refl;
  }
  tested_meets (r.AnyTerm x) false from held k = record {
    added = test.Bind k.next from ∷ [];
    new = 1;
    grown = refl;
    code = test_bind;
    outs = refl;
    moved = refl;
    scope = refl;
  }
  tested_meets (r.TheInt n) inside from held k =
      leaf inside held (r.TheInt n) from k (test.IsInt from n) test_int refl refl
  tested_meets (r.TheAtom a) inside from held k =
      leaf inside held (r.TheAtom a) from k (test.IsAtom from a) test_atom refl refl
  tested_meets r.TheNil inside from held k =
      leaf inside held r.TheNil from k (test.IsNil from) test_nil refl refl
  tested_meets (r.TheText text) inside from held k =
      leaf inside held (r.TheText text) from k (test.IsText from text) test_text refl refl
  tested_meets (r.TheTuple ps) inside from held k =
      tuple_tested inside held ps from k
      (tested_parts ps k.next (held, with_tuple from (pattern_count ps) k))
      (parts_meet ps k.next held (with_tuple from (pattern_count ps) k))
  tested_meets (r.TheList ps p) inside from held k =
      list_tested (heads_meet ps inside p (λ i q u. tested i p q u)
      (λ i q h c. tested_meets p i q h c) from held k)
    where
      list_tested : {u : Held × Checks} → HeadsTested inside held ps p from k u
          → Tested inside held (r.TheList ps p) from k u
      list_tested h = record {
        added = h.added;
        new = h.new;
        grown = h.grown;
        code = test_list h.code;
        outs = h.outs;
        moved = h.moved;
        scope = h.scope;
      }
  tested_meets (r.Alias x p) true from held k =
      alias_out held x p from k (tested true p from ((x, from) ∷ held, k))
      (tested_meets p true from ((x, from) ∷ held) k)
  tested_meets (r.Alias x p) false from held k =
      alias_bound held x p from k (tested false p from ((x, k.next) ∷ held, with_bind from k))
      (tested_meets p false from ((x, k.next) ∷ held) (with_bind from k))

  pub parts_meet : (ps : Patterns) (from : ℕ) (held : Held) (k : Checks)
      → AllTested true held ps (registers_from from (pattern_count ps)) k
      (tested_parts ps from (held, k))
  parts_meet NoPatterns from held k = record {
    added = [];
    new = 0;
    grown = grown_none k.tests;
    code = parts_none;
    outs = refl;
    moved = moved_none k.next;
    scope = refl;
  }
  parts_meet (MorePatterns p ps) from held k =
      let m = tested true p from (held, k) in
      let u = tested_parts ps (from + 1) m in
      let n = pattern_count ps in
      subst (λ rs. AllTested true held (MorePatterns p ps) rs k u)
      (sym (numbers_first from (suc n) n (omega arith)))
      (one_and_more held p ps from (registers_from (from + 1) n) k m u
      (tested_meets p true from held k) (parts_meet ps (from + 1) m.0 m.1))

  pub heads_meet : (ps : Patterns) (inside : Bool) (p : Pattern)
      (tail : Bool → ℕ → Held × Checks → Held × Checks)
      → ((i : Bool) (q : ℕ) (h : Held) (c : Checks) → Tested i h p q c (tail i q (h, c)))
      → (from : ℕ) (held : Held) (k : Checks)
      → HeadsTested inside held ps p from k (tested_heads inside ps tail from (held, k))
  heads_meet NoPatterns inside p tail d from held k =
      last_tested (d inside from held k)
    where
      last_tested : {u : Held × Checks} → Tested inside held p from k u
          → HeadsTested inside held NoPatterns p from k u
      last_tested h = record {
        added = h.added;
        new = h.new;
        grown = h.grown;
        code = heads_none h.code;
        outs = h.outs;
        moved = h.moved;
        scope = h.scope;
      }
  heads_meet (MorePatterns q ps) inside p tail d from held k =
      let m = tested true q k.next (held, with_cons from k) in
      cons_tested inside held q ps p from k m (tested_heads true ps tail (k.next + 1) m)
      (tested_meets q true k.next held (with_cons from k))
      (heads_meet ps true p tail d (k.next + 1) m.0 m.1)

-- patterns on values
pub all_meet : (ps : Patterns) (rs : List ℕ) (held : Held) (k : Checks)
    → length rs ≡ pattern_count ps → AllTested false held ps rs k (tested_all ps rs (held, k))
all_meet NoPatterns [] held k e = record {
  added = [];
  new = 0;
  grown = grown_none k.tests;
  code = parts_none;
  outs = refl;
  moved = moved_none k.next;
  scope = refl;
}
all_meet NoPatterns (r ∷ rs) held k e = absurd (no (length rs) e)
  where
    no : (n : ℕ) → suc n ≡ zero → ⊥
    no n h = omega (arith, h)
all_meet (MorePatterns p ps) [] held k e = absurd (no (pattern_count ps) e)
  where
    no : (n : ℕ) → zero ≡ suc n → ⊥
    no n h = omega (arith, h)
all_meet (MorePatterns p ps) (r ∷ rs) held k e =
    let m = tested false p r (held, k) in
    let less : length rs ≡ pattern_count ps = omega (arith, e) in
    one_and_more held p ps r rs k m (tested_all ps rs m) (tested_meets p false r held k)
    (all_meet ps rs m.0 m.1 less)
