-- What code does, its registers, constants and moves aside, and what an expression asks for: each
-- part before its whole, from left to right. This project's own.
use Rattle.std.specs.Prelude.{ℕ, ℤ, zero, suc, List, [], ◌∷◌, ◌++◌}
use Rattle.hy_core.specs.declared.bif.Bif.{Bif}
use Rattle.hy_core.specs.declared.class.Class.{Class}
use Rattle.hy_core.specs.Resolved as r
use Rattle.hy_core.specs.KnownTrees.{pattern_count}
use Rattle.hy_core.specs.Resolved.{Pattern, Patterns, NoPatterns, MorePatterns, Head, Timeout}
use Rattle.hy_core.specs.Resolved.{Expression, Expressions, NoExpressions, MoreExpressions, Clauses}
use Rattle.hy_core.specs.Resolved.{NoClauses, MoreClauses}
use Rattle.hy_core.specs.Supplied.{expression_count}
use Rattle.hy_ir.specs.Code as c
use Rattle.hy_ir.specs.Code.{Arms, NoArms, MoreArms, Lapse, NoLapse, LapseTo, Last, MakeTree, Part}
use Rattle.hy_ir.specs.Code.{Parts, NoParts, MoreParts, Tree}
use Rattle.hy_ir.specs.Meaning.{timeout_of}
use Rattle.hy_ir.specs.declared.code.Op.{Op}
use Rattle.hy_ir.specs.declared.code.Op.TheVariants as op
use Rattle.hy_ir.specs.declared.code.Test.{Test}
use Rattle.hy_ir.specs.declared.code.Test.TheVariants as test

pub data Piece : Type 0 where
  -- a tuple or a cons
  Builds : (site : ℕ) → Piece
  Writes : (site : ℕ) → (text : List ℕ) → Piece
  Changes : (site : ℕ) → Piece
  Computes : Bif → Piece
  Calls : (function : ℕ) → Piece
  Sends : (node : ℕ) → Piece
  Spawns : (node function : ℕ) → Piece
  Shows : Piece
  Raises : Class → Piece
  Fails : Piece
  Chooses : Piece
  Receives : Timeout → Piece
  -- the arm of a choice or of a receive begins
  Accepts : Piece
  -- its tests, those that bind aside
  AsksInt : ℤ → Piece
  AsksAtom : ℕ → Piece
  AsksNil : Piece
  AsksText : List ℕ → Piece
  AsksTuple : (size : ℕ) → Piece
  AsksCons : Piece

-- of code

abbrev pub operation_pieces : Op → List Piece
operation_pieces (op.Const out value) = []
operation_pieces (op.Move out from) = []
operation_pieces (op.Build site out args) = Builds site ∷ []
operation_pieces (op.Text site out text) = Writes site text ∷ []
operation_pieces (op.Set site out index tuple value) = Changes site ∷ []
operation_pieces (op.Bif out bif args) = Computes bif ∷ []
operation_pieces (op.Call out function args) = Calls function ∷ []
operation_pieces (op.Send node out to message) = Sends node ∷ []
operation_pieces (op.Spawn node out function args) = Spawns node function ∷ []
operation_pieces (op.Show out value) = Shows ∷ []

abbrev pub operations_pieces : List Op → List Piece
operations_pieces [] = []
operations_pieces (o ∷ os) = operation_pieces o ++ operations_pieces os

abbrev pub test_pieces : Test → List Piece
test_pieces (test.Bind out from) = []
test_pieces (test.IsInt from n) = AsksInt n ∷ []
test_pieces (test.IsAtom from a) = AsksAtom a ∷ []
test_pieces (test.IsNil from) = AsksNil ∷ []
test_pieces (test.IsText from text) = AsksText text ∷ []
test_pieces (test.IsTuple from size outs) = AsksTuple size ∷ []
test_pieces (test.IsCons from head tail) = AsksCons ∷ []

abbrev pub tests_pieces : List Test → List Piece
tests_pieces [] = []
tests_pieces (t ∷ ts) = test_pieces t ++ tests_pieces ts

abbrev mutual
  pub tree_pieces : Tree → List Piece
  tree_pieces (MakeTree ps end) = parts_pieces ps ++ last_pieces end

  pub parts_pieces : Parts → List Piece
  parts_pieces NoParts = []
  parts_pieces (MoreParts p ps) = part_pieces p ++ parts_pieces ps

  pub part_pieces : Part → List Piece
  part_pieces (c.Do o) = operation_pieces o
  part_pieces (c.Within outs inner) = tree_pieces inner

  pub last_pieces : Last → List Piece
  last_pieces (c.Give rs) = []
  last_pieces (c.Tail function args) = Calls function ∷ []
  last_pieces (c.Raise class reason) = Raises class ∷ []
  last_pieces (c.Fail reason) = Fails ∷ []
  last_pieces (c.Choose xs) = Chooses ∷ arms_pieces xs
  last_pieces (c.Receive message xs lapse) =
      Receives (timeout_of lapse) ∷ (arms_pieces xs ++ lapse_pieces lapse)

  pub lapse_pieces : Lapse → List Piece
  lapse_pieces NoLapse = []
  lapse_pieces (LapseTo t) = tree_pieces t

  pub arms_pieces : Arms → List Piece
  arms_pieces NoArms = []
  arms_pieces (MoreArms ts guard body xs) =
      Accepts
      ∷ (tests_pieces ts
      ++ (operations_pieces guard.operations ++ (tree_pieces body ++ arms_pieces xs)))

-- of patterns

abbrev mutual
  pub pattern_pieces : Pattern → List Piece
  pattern_pieces (r.AnyTerm x) = []
  pattern_pieces (r.TheInt n) = AsksInt n ∷ []
  pattern_pieces (r.TheAtom a) = AsksAtom a ∷ []
  pattern_pieces r.TheNil = AsksNil ∷ []
  pattern_pieces (r.TheText text) = AsksText text ∷ []
  pattern_pieces (r.TheTuple ps) = AsksTuple (pattern_count ps) ∷ patterns_pieces ps
  pattern_pieces (r.TheList ps p) = heads_pieces ps (pattern_pieces p)
  pattern_pieces (r.Alias x p) = pattern_pieces p

  pub patterns_pieces : Patterns → List Piece
  patterns_pieces NoPatterns = []
  patterns_pieces (MorePatterns p ps) = pattern_pieces p ++ patterns_pieces ps

  -- a cons for each head, and what the tail asks for
  pub heads_pieces : Patterns → (tail : List Piece) → List Piece
  heads_pieces NoPatterns tail = tail
  heads_pieces (MorePatterns p ps) tail = AsksCons ∷ (pattern_pieces p ++ heads_pieces ps tail)

-- of expressions without letrecs

abbrev pub head_pieces : Head → List Piece
head_pieces (r.BuiltIn b) = Computes b ∷ []
head_pieces (r.Function f) = Calls f ∷ []
head_pieces (r.Local f) = []
head_pieces (r.Setelement site) = Changes site ∷ []
head_pieces (r.Send node) = Sends node ∷ []
head_pieces (r.Spawn node f) = Spawns node f ∷ []
head_pieces (r.Display node) = Shows ∷ []
head_pieces (r.Raising class) = Raises class ∷ []
head_pieces r.MatchFail = Fails ∷ []

-- a cons for each head, from the last to the first; the first head has this site
abbrev pub cons_pieces : (site heads : ℕ) → List Piece
cons_pieces site zero = []
cons_pieces site (suc heads) = cons_pieces (suc site) heads ++ Builds site ∷ []

-- only a timeout of 0 lapses
abbrev pub where_lapses : Timeout → List Piece → List Piece
where_lapses r.AtOnce pieces = pieces
where_lapses r.Never pieces = []

abbrev mutual
  pub pieces_of : Expression → List Piece
  pieces_of (r.Text site text) = Writes site text ∷ []
  pieces_of (r.Tuple site es) = all_pieces es ++ Builds site ∷ []
  pieces_of (r.ListOf site es e) =
      all_pieces es ++ (pieces_of e ++ cons_pieces site (expression_count es))
  pieces_of (r.Values es) = all_pieces es
  pieces_of (r.Let xs e b) = pieces_of e ++ pieces_of b
  pieces_of (r.Do e b) = pieces_of e ++ pieces_of b
  pieces_of (r.Case e cs) = pieces_of e ++ Chooses ∷ clause_pieces cs
  pieces_of (r.Call head es) = all_pieces es ++ head_pieces head
  pieces_of (r.Receive cs timeout e) =
      Receives timeout ∷ (clause_pieces cs ++ where_lapses timeout (pieces_of e))
  pieces_of _ = []

  pub all_pieces : Expressions → List Piece
  all_pieces NoExpressions = []
  all_pieces (MoreExpressions e es) = pieces_of e ++ all_pieces es

  pub clause_pieces : Clauses → List Piece
  clause_pieces NoClauses = []
  clause_pieces (MoreClauses ps g b cs) =
      Accepts ∷ (patterns_pieces ps ++ (pieces_of g ++ (pieces_of b ++ clause_pieces cs)))
