-- The tests of patterns: each pattern before its parts, from left to right. This project's own.
use Rattle.std.specs.Prelude.{ℕ, ℤ, List, [], ◌∷◌, ◌++◌, length, Bool, true}
use Rattle.hy_core.specs.Resolved as r
use Rattle.hy_core.specs.Resolved.{Pattern, Patterns, NoPatterns, MorePatterns}
use Rattle.hy_ir.specs.declared.code.Test.{Test}
use Rattle.hy_ir.specs.declared.code.Test.TheVariants as test
use Rattle.program_code.specs.HeldRegisters.{Held}

mutual
  -- The tests of a pattern on the value in a register, with the registers of the variables before
  -- and behind them. inside: a test stands around, and gave the value to the register.
  pub data TestsOf : (inside : Bool) → Held → Pattern → (from : ℕ) → List Test → Held → Type 0 where
    test_bind : {inside : Bool} {held : Held} {x from out : ℕ}
        → TestsOf inside held (r.AnyTerm x) from (test.Bind out from ∷ []) ((x, out) ∷ held)
    -- a variable is the out of the test around it
    test_out : {held : Held} {x from : ℕ}
        → TestsOf true held (r.AnyTerm x) from [] ((x, from) ∷ held)
    test_int : {inside : Bool} {held : Held} {n : ℤ} {from : ℕ}
        → TestsOf inside held (r.TheInt n) from (test.IsInt from n ∷ []) held
    test_atom : {inside : Bool} {held : Held} {a from : ℕ}
        → TestsOf inside held (r.TheAtom a) from (test.IsAtom from a ∷ []) held
    test_nil : {inside : Bool} {held : Held} {from : ℕ}
        → TestsOf inside held r.TheNil from (test.IsNil from ∷ []) held
    test_text : {inside : Bool} {held : Held} {text : List ℕ} {from : ℕ}
        → TestsOf inside held (r.TheText text) from (test.IsText from text ∷ []) held
    test_tuple : {inside : Bool} {held held' : Held} {ps : Patterns} {from : ℕ} {outs : List ℕ}
        {ts : List Test} → PartsTests true held ps outs ts held'
        → TestsOf inside held (r.TheTuple ps) from (test.IsTuple from (length outs) outs ∷ ts) held'
    test_list : {inside : Bool} {held held' : Held} {ps : Patterns} {p : Pattern} {from : ℕ}
        {ts : List Test} → HeadsTests inside held ps p from ts held'
        → TestsOf inside held (r.TheList ps p) from ts held'
    -- an alias, and then its pattern
    test_alias : {inside : Bool} {held held' : Held} {x from out : ℕ} {p : Pattern}
        {ts : List Test} → TestsOf inside ((x, out) ∷ held) p from ts held'
        → TestsOf inside held (r.Alias x p) from (test.Bind out from ∷ ts) held'
    test_alias_out : {held held' : Held} {x from : ℕ} {p : Pattern} {ts : List Test}
        → TestsOf true ((x, from) ∷ held) p from ts held'
        → TestsOf true held (r.Alias x p) from ts held'

  -- those of the heads of a list notation, a cons for each, and then of its tail
  pub data HeadsTests : (inside : Bool) → Held → Patterns → (tail : Pattern) → (from : ℕ)
      → List Test → Held → Type 0 where
    heads_none : {inside : Bool} {held held' : Held} {p : Pattern} {from : ℕ} {ts : List Test}
        → TestsOf inside held p from ts held' → HeadsTests inside held NoPatterns p from ts held'
    heads_more : {inside : Bool} {held held' held'' : Held} {q p : Pattern} {ps : Patterns}
        {from head tail : ℕ} {ts us : List Test} → TestsOf true held q head ts held'
        → HeadsTests true held' ps p tail us held''
        → HeadsTests inside held (MorePatterns q ps) p from
        (test.IsCons from head tail ∷ (ts ++ us)) held''

  -- those of patterns, each on a register of its own
  pub data PartsTests : (inside : Bool) → Held → Patterns → List ℕ → List Test → Held
      → Type 0 where
    parts_none : {inside : Bool} {held : Held} → PartsTests inside held NoPatterns [] [] held
    parts_more : {inside : Bool} {held held' held'' : Held} {p : Pattern} {ps : Patterns}
        {from : ℕ} {rs : List ℕ} {ts us : List Test} → TestsOf inside held p from ts held'
        → PartsTests inside held' ps rs us held''
        → PartsTests inside held (MorePatterns p ps) (from ∷ rs) (ts ++ us) held''
