-- How many registers an expression needs: one for each value but those of variables, for each cons
-- of a list notation, and for each out of a test and of an inner tree. This project's own.
use Rattle.std.specs.Prelude.{◌≡◌, ℕ, ◌+◌, List, length, Bool, true, false}
use Rattle.std.specs.List.{All}
use Rattle.hy_core.specs.KnownTrees.{pattern_count, width}
use Rattle.hy_core.specs.Resolved as r
use Rattle.hy_core.specs.Resolved.{Pattern, Patterns, NoPatterns, MorePatterns, Head, Timeout}
use Rattle.hy_core.specs.Resolved.{Expression, Expressions, NoExpressions, MoreExpressions, Clauses}
use Rattle.hy_core.specs.Resolved.{NoClauses, MoreClauses, FunctionTree}
use Rattle.hy_core.specs.Supplied.{expression_count}
use Rattle.hy_core.specs.declared.info.SiteInfo.{SiteInfo}
use Rattle.hy_ir.specs.Code.{Function}
use Rattle.lowered_code.specs.Builder.{Place, Piece, Inner, Tail, inside}
use Rattle.lowered_code.specs.LoweredCode.{lowered_function}
use Rattle.lowered_code.specs.LoweringLaws.{IsLowerable}

-- a variable needs none where a test stands around
abbrev pub variable_needs : (inside : Bool) → ℕ
variable_needs true = 0
variable_needs false = 1

abbrev mutual
  pub pattern_needs : (inside : Bool) → Pattern → ℕ
  pattern_needs inside (r.AnyTerm x) = variable_needs inside
  pattern_needs inside (r.TheTuple ps) = pattern_count ps + parts_need ps
  pattern_needs inside (r.TheList ps p) = heads_need inside ps (λ i. pattern_needs i p)
  pattern_needs inside (r.Alias x p) = variable_needs inside + pattern_needs inside p
  pattern_needs inside _ = 0

  pub parts_need : Patterns → ℕ
  parts_need NoPatterns = 0
  parts_need (MorePatterns p ps) = pattern_needs true p + parts_need ps

  -- a head and a tail for each
  pub heads_need : (inside : Bool) → Patterns → (tail : (inside : Bool) → ℕ) → ℕ
  heads_need inside NoPatterns tail = tail inside
  heads_need inside (MorePatterns p ps) tail = 2 + (pattern_needs true p + heads_need true ps tail)

abbrev pub patterns_need : Patterns → ℕ
patterns_need NoPatterns = 0
patterns_need (MorePatterns p ps) = pattern_needs false p + patterns_need ps

abbrev mutual
  pub guard_needs : Expression → ℕ
  guard_needs (r.Int n) = 1
  guard_needs (r.Atom a) = 1
  guard_needs r.Nil = 1
  guard_needs (r.Let xs e b) = guard_needs e + guard_needs b
  guard_needs (r.Call (r.BuiltIn b) es) = guards_need es + 1
  guard_needs _ = 0

  pub guards_need : Expressions → ℕ
  guards_need NoExpressions = 0
  guards_need (MoreExpressions e es) = guard_needs e + guards_need es

-- the outs of an inner tree
abbrev pub outs_at : Place → (wanted : ℕ) → ℕ
outs_at Piece wanted = wanted
outs_at Inner wanted = 0
outs_at Tail wanted = 0

abbrev pub call_needs : Head → (wanted : ℕ) → Place → ℕ
call_needs (r.Function f) wanted Tail = 0
call_needs (r.Raising class) wanted place = outs_at place wanted
call_needs r.MatchFail wanted place = outs_at place wanted
call_needs _ wanted place = 1

abbrev pub where_lapses : Timeout → ℕ → ℕ
where_lapses r.AtOnce n = n
where_lapses r.Never n = 0

abbrev mutual
  pub needs : Expression → (wanted : ℕ) → Place → ℕ
  needs (r.Int n) wanted place = 1
  needs (r.Atom a) wanted place = 1
  needs r.Nil wanted place = 1
  needs (r.Text site text) wanted place = 1
  needs (r.Tuple site es) wanted place = all_need es + 1
  needs (r.ListOf site es e) wanted place = all_need es + (needs e 1 Piece + expression_count es)
  needs (r.Values es) wanted place = all_need es
  needs (r.Let xs e b) wanted place = needs e (length xs) Piece + needs b wanted place
  needs (r.Do e b) wanted place = needs e 1 Piece + needs b wanted place
  needs (r.Case e cs) wanted place =
      (needs e (width cs) Piece + arms_need cs wanted (inside place)) + outs_at place wanted
  needs (r.Call head es) wanted place = all_need es + call_needs head wanted place
  -- the message has one
  needs (r.Receive cs timeout e) wanted place =
      ((1 + arms_need cs wanted (inside place))
      + where_lapses timeout (needs e wanted (inside place))) + outs_at place wanted
  needs _ wanted place = 0

  pub all_need : Expressions → ℕ
  all_need NoExpressions = 0
  all_need (MoreExpressions e es) = needs e 1 Piece + all_need es

  pub arms_need : Clauses → (wanted : ℕ) → Place → ℕ
  arms_need NoClauses wanted place = 0
  arms_need (MoreClauses ps g b cs) wanted place =
      (patterns_need ps + (guard_needs g + needs b wanted place)) + arms_need cs wanted place

-- a function has its parameters' registers and those that its body needs
abbrev pub HasNeededRegisters : FunctionTree → Type 0
HasNeededRegisters f =
    let made : Function = lowered_function f in
    made.registers ≡ length f.parameters + needs f.body 1 Tail

abbrev pub RegistersAreNeeded : Type 0
RegistersAreNeeded =
    (sites : List SiteInfo) (lifted : List FunctionTree) → IsLowerable sites lifted
    → All HasNeededRegisters lifted
