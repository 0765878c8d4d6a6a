-- The tests that lowering writes for patterns. This project's own.
use Rattle.std.specs.Prelude.{ℕ, ◌+◌, List, [], ◌∷◌, ◌++◌, Bool, true, false}
use Rattle.hy_core.specs.KnownTrees.{pattern_count}
use Rattle.hy_core.specs.Resolved as r
use Rattle.hy_core.specs.Resolved.{Pattern, Patterns, NoPatterns, MorePatterns}
use Rattle.hy_ir.specs.declared.code.Test.{Test}
use Rattle.hy_ir.specs.declared.code.Test.TheVariants as test
use Rattle.program_code.specs.HeldRegisters.{Held}
use Rattle.lowered_code.specs.Builder.{first, rest, registers_from}

-- tests, and the first register that isn't in use
pub record Checks : Type 0 where
  pub tests : List Test
  pub next : ℕ

abbrev pub with_test : Test → Checks → Checks
with_test t c = record { tests = c.tests ++ t ∷ []; next = c.next }

abbrev pub with_bind : (from : ℕ) → Checks → Checks
with_bind from c = record { tests = c.tests ++ test.Bind c.next from ∷ []; next = c.next + 1 }

abbrev pub with_tuple : (from size : ℕ) → Checks → Checks
with_tuple from size c = record {
  tests = c.tests ++ test.IsTuple from size (registers_from c.next size) ∷ [];
  next = c.next + size;
}

abbrev pub with_cons : (from : ℕ) → Checks → Checks
with_cons from c = record {
  tests = c.tests ++ test.IsCons from c.next (c.next + 1) ∷ [];
  next = c.next + 2;
}

-- A variable is the out of the test around it; where none stands around, it has a test of its own.
abbrev pub with_variable : (inside : Bool) → (variable from : ℕ) → Held × Checks → Held × Checks
with_variable true x from t = ((x, from) ∷ t.0, t.1)
with_variable false x from t = ((x, t.1.next) ∷ t.0, with_bind from t.1)

abbrev mutual
  -- the tests of a pattern on the value in a register; inside: a test stands around
  pub tested : (inside : Bool) → Pattern → (from : ℕ) → Held × Checks → Held × Checks
  tested inside (r.AnyTerm x) from t = with_variable inside x from t
  tested inside (r.TheInt n) from t = (t.0, with_test (test.IsInt from n) t.1)
  tested inside (r.TheAtom a) from t = (t.0, with_test (test.IsAtom from a) t.1)
  tested inside r.TheNil from t = (t.0, with_test (test.IsNil from) t.1)
  tested inside (r.TheText text) from t = (t.0, with_test (test.IsText from text) t.1)
  tested inside (r.TheTuple ps) from t =
      tested_parts ps t.1.next (t.0, with_tuple from (pattern_count ps) t.1)
  tested inside (r.TheList ps p) from t = tested_heads inside ps (λ i q u. tested i p q u) from t
  tested inside (r.Alias x p) from t = tested inside p from (with_variable inside x from t)

  -- the parts of a tuple, in registers from a first one on
  pub tested_parts : Patterns → (from : ℕ) → Held × Checks → Held × Checks
  tested_parts NoPatterns from t = t
  tested_parts (MorePatterns p ps) from t = tested_parts ps (from + 1) (tested true p from t)

  -- the heads of a list notation, a cons for each, and then its tail
  pub tested_heads : (inside : Bool) → Patterns
      → (tail : (inside : Bool) → (from : ℕ) → Held × Checks → Held × Checks) → (from : ℕ)
      → Held × Checks → Held × Checks
  tested_heads inside NoPatterns tail from t = tail inside from t
  tested_heads inside (MorePatterns p ps) tail from t =
      tested_heads true ps tail (t.1.next + 1)
      (tested true p t.1.next (t.0, with_cons from t.1))

-- patterns on values, which no test gave to their registers
abbrev pub tested_all : Patterns → List ℕ → Held × Checks → Held × Checks
tested_all NoPatterns rs t = t
tested_all (MorePatterns p ps) rs t = tested_all ps (rest rs) (tested false p (first rs) t)
