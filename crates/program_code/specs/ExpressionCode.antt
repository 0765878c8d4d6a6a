-- The code of an expression: one case for each form. Parts come before the whole, from left to
-- right, and an argument is the register of its part. This project's own.
use Rattle.std.specs.Prelude.{◌≡◌, ℕ, suc, ℤ, List, [], ◌∷◌, ◌++◌, length, Some, None, false}
use Rattle.hy_core.specs.declared.bif.Bif.{Bif}
use Rattle.hy_core.specs.declared.class.Class.{Class}
use Rattle.hy_core.specs.declared.info.SiteInfo.{SiteInfo}
use Rattle.hy_core.specs.declared.info.SiteKind.TheVariants as kind
use Rattle.hy_core.specs.Resolved as r
use Rattle.hy_core.specs.Resolved.{Patterns, Expression, Expressions, NoExpressions}
use Rattle.hy_core.specs.Resolved.{MoreExpressions, Clauses, NoClauses, MoreClauses}
use Rattle.hy_ir.specs.Code as c
use Rattle.hy_ir.specs.Code.{Arms, NoArms, MoreArms, Last, MakeTree, NoLapse, LapseTo, Parts}
use Rattle.hy_ir.specs.Code.{NoParts, MoreParts}
use Rattle.hy_ir.specs.Meaning.{kind_at}
use Rattle.hy_ir.specs.Valid.{Values, GivesSoMany}
use Rattle.hy_ir.specs.declared.code.Constant.TheVariants as constant
use Rattle.hy_ir.specs.declared.code.Guard.{Guard}
use Rattle.hy_ir.specs.declared.code.Op.{Op}
use Rattle.hy_ir.specs.declared.code.Op.TheVariants as op
use Rattle.hy_ir.specs.declared.code.Test.{Test}
use Rattle.program_code.specs.GuardOperations.{GuardOf}
use Rattle.program_code.specs.HeldRegisters.{Held, register_of, holding, Between}
use Rattle.program_code.specs.PatternTests.{PartsTests}

-- parts, and then others
abbrev pub join : Parts → Parts → Parts
join NoParts qs = qs
join (MoreParts p ps) qs = MoreParts p (join ps qs)

-- one operation
abbrev pub does : Op → Parts
does o = MoreParts (c.Do o) NoParts

-- sites: the sites of the code
module _ (sites : List SiteInfo) where
  -- the conses of a list notation, from the last head to the first: heads have their sites from
  -- left to right; the register of the tail, and that of the whole list
  pub data ConsesOf : (site : ℕ) → (heads : List ℕ) → (tail : ℕ) → Parts → ℕ → Type 0 where
    conses_none : {site tail : ℕ} → ConsesOf site [] tail NoParts tail
    conses_more : {site head tail rest out : ℕ} {heads : List ℕ} {ps : Parts}
        → ConsesOf (suc site) heads tail ps rest → kind_at sites site ≡ Some kind.Cons
        → ConsesOf site (head ∷ heads) tail
        (join ps (does (op.Build site out (head ∷ rest ∷ [])))) out

  mutual
    -- the parts carry the expression out, and leave its values in the registers
    pub data PieceOf : Held → Expression → Parts → List ℕ → Type 0 where
      of_int : {held : Held} {n : ℤ} {out : ℕ}
          → PieceOf held (r.Int n) (does (op.Const out (constant.Int n))) (out ∷ [])
      of_atom : {held : Held} {a out : ℕ}
          → PieceOf held (r.Atom a) (does (op.Const out (constant.Atom a))) (out ∷ [])
      of_nil : {held : Held} {out : ℕ}
          → PieceOf held r.Nil (does (op.Const out constant.Nil)) (out ∷ [])
      of_variable : {held : Held} {x from : ℕ} → register_of x held ≡ Some from
          → PieceOf held (r.Variable x) NoParts (from ∷ [])
      of_tuple : {held : Held} {site out : ℕ} {es : Expressions} {ps : Parts} {rs : List ℕ}
          → PiecesOf held [] es ps rs → kind_at sites site ≡ Some kind.Tuple
          → PieceOf held (r.Tuple site es) (join ps (does (op.Build site out rs))) (out ∷ [])
      of_list : {held : Held} {site out tail : ℕ} {es : Expressions} {e : Expression}
          {ps qs us : Parts} {heads : List ℕ} → PiecesOf held [] es ps heads
          → PieceOf held e qs (tail ∷ []) → ConsesOf site heads tail us out
          → PieceOf held (r.ListOf site es e) (join ps (join qs us)) (out ∷ [])
      of_text : {held : Held} {site out : ℕ} {text : List ℕ}
          → kind_at sites site ≡ Some kind.String
          → PieceOf held (r.Text site text) (does (op.Text site out text)) (out ∷ [])
      of_setelement : {held : Held} {site out index tuple value : ℕ} {es : Expressions} {ps : Parts}
          → PiecesOf held [] es ps (index ∷ tuple ∷ value ∷ [])
          → kind_at sites site ≡ Some kind.Setelement
          → PieceOf held (r.Call (r.Setelement site) es)
          (join ps (does (op.Set site out index tuple value))) (out ∷ [])
      of_send : {held : Held} {node out to message : ℕ} {es : Expressions} {ps : Parts}
          → PiecesOf held [] es ps (to ∷ message ∷ [])
          → PieceOf held (r.Call (r.Send node) es) (join ps (does (op.Send node out to message)))
          (out ∷ [])
      of_spawn : {held : Held} {node function out : ℕ} {es : Expressions} {ps : Parts}
          {rs : List ℕ} → PiecesOf held [] es ps rs
          → PieceOf held (r.Call (r.Spawn node function) es)
          (join ps (does (op.Spawn node out function rs))) (out ∷ [])
      of_display : {held : Held} {node out value : ℕ} {es : Expressions} {ps : Parts}
          → PiecesOf held [] es ps (value ∷ [])
          → PieceOf held (r.Call (r.Display node) es) (join ps (does (op.Show out value)))
          (out ∷ [])
      of_bif : {held : Held} {b : Bif} {out : ℕ} {es : Expressions} {ps : Parts} {rs : List ℕ}
          → PiecesOf held [] es ps rs
          → PieceOf held (r.Call (r.BuiltIn b) es) (join ps (does (op.Bif out b rs))) (out ∷ [])
      of_call : {held : Held} {function out : ℕ} {es : Expressions} {ps : Parts} {rs : List ℕ}
          → PiecesOf held [] es ps rs
          → PieceOf held (r.Call (r.Function function) es)
          (join ps (does (op.Call out function rs))) (out ∷ [])
      -- these have no piece of their own
      of_values : {held : Held} {es : Expressions} {ps : Parts} {rs : List ℕ}
          → PiecesOf held [] es ps rs → PieceOf held (r.Values es) ps rs
      of_let : {held inside : Held} {xs rs ss : List ℕ} {e b : Expression} {ps qs : Parts}
          → PieceOf held e ps rs → holding xs rs held ≡ Some inside → PieceOf inside b qs ss
          → PieceOf held (r.Let xs e b) (join ps qs) ss
      of_do : {held : Held} {first : ℕ} {ss : List ℕ} {e b : Expression} {ps qs : Parts}
          → PieceOf held e ps (first ∷ []) → PieceOf held b qs ss
          → PieceOf held (r.Do e b) (join ps qs) ss
      -- an inner tree, whose values go to the outs
      of_within : {held : Held} {e : Expression} {ps : Parts} {end : Last} {outs : List ℕ}
          → WholeOf held (Some (length outs)) e ps end
          → PieceOf held e (MoreParts (c.Within outs (MakeTree ps end)) NoParts) outs
      -- further constants and moves may stand before a piece and behind it
      of_behind : {held held' : Held} {e : Expression} {o : Op} {ps : Parts} {rs : List ℕ}
          → Between o held [] held' [] → PieceOf held' e ps rs
          → PieceOf held e (MoreParts (c.Do o) ps) rs
      of_before : {held : Held} {e : Expression} {o : Op} {ps : Parts} {rs ss : List ℕ}
          → PieceOf held e ps rs → Between o held rs held ss
          → PieceOf held e (join ps (does o)) ss

    -- the parts of a whole, one value each, of which some are done already: the registers of all
    pub data PiecesOf : Held → (done : List ℕ) → Expressions → Parts → List ℕ → Type 0 where
      of_none : {held : Held} {done : List ℕ} → PiecesOf held done NoExpressions NoParts done
      of_more : {held : Held} {done rs : List ℕ} {from : ℕ} {e : Expression} {es : Expressions}
          {ps qs : Parts} → PieceOf held e ps (from ∷ [])
          → PiecesOf held (done ++ from ∷ []) es qs rs
          → PiecesOf held done (MoreExpressions e es) (join ps qs) rs
      of_between : {held held' : Held} {done done' rs : List ℕ} {es : Expressions} {o : Op}
          {ps : Parts} → Between o held done held' done' → PiecesOf held' done' es ps rs
          → PiecesOf held done es (MoreParts (c.Do o) ps) rs

    -- The parts and the last part carry the expression out and give its values. values: how many an
    -- inner tree gives; the body of a function gives one.
    pub data WholeOf : Held → (values : Values) → Expression → Parts → Last → Type 0 where
      gives : {held : Held} {values : Values} {e : Expression} {ps : Parts} {rs : List ℕ}
          → PieceOf held e ps rs → GivesSoMany values (length rs)
          → WholeOf held values e ps (c.Give rs)
      -- no call ends an inner tree
      calls_last : {held : Held} {function : ℕ} {es : Expressions} {ps : Parts} {rs : List ℕ}
          → PiecesOf held [] es ps rs
          → WholeOf held None (r.Call (r.Function function) es) ps (c.Tail function rs)
      raises : {held : Held} {values : Values} {class : Class} {reason : ℕ} {es : Expressions}
          {ps : Parts} → PiecesOf held [] es ps (reason ∷ [])
          → WholeOf held values (r.Call (r.Raising class) es) ps (c.Raise class reason)
      fails : {held : Held} {values : Values} {reason : ℕ} {es : Expressions} {ps : Parts}
          → PiecesOf held [] es ps (reason ∷ [])
          → WholeOf held values (r.Call r.MatchFail es) ps (c.Fail reason)
      chooses : {held : Held} {values : Values} {e : Expression} {cs : Clauses} {ps : Parts}
          {rs : List ℕ} {xs : Arms} → PieceOf held e ps rs → ArmsOf held values rs cs xs
          → WholeOf held values (r.Case e cs) ps (c.Choose xs)
      -- the body behind 'infinity' has no piece
      waits : {held : Held} {values : Values} {message : ℕ} {cs : Clauses} {e : Expression}
          {xs : Arms} → ArmsOf held values (message ∷ []) cs xs
          → WholeOf held values (r.Receive cs r.Never e) NoParts (c.Receive message xs NoLapse)
      waits_or_lapses : {held : Held} {values : Values} {message : ℕ} {cs : Clauses}
          {e : Expression} {xs : Arms} {ps : Parts} {end : Last}
          → ArmsOf held values (message ∷ []) cs xs → WholeOf held values e ps end
          → WholeOf held values (r.Receive cs r.AtOnce e) NoParts
          (c.Receive message xs (LapseTo (MakeTree ps end)))
      let_whole : {held inside : Held} {values : Values} {xs rs : List ℕ} {e b : Expression}
          {ps qs : Parts} {end : Last} → PieceOf held e ps rs → holding xs rs held ≡ Some inside
          → WholeOf inside values b qs end → WholeOf held values (r.Let xs e b) (join ps qs) end
      do_whole : {held : Held} {values : Values} {first : ℕ} {e b : Expression} {ps qs : Parts}
          {end : Last} → PieceOf held e ps (first ∷ []) → WholeOf held values b qs end
          → WholeOf held values (r.Do e b) (join ps qs) end
      behind_whole : {held held' : Held} {values : Values} {e : Expression} {o : Op} {ps : Parts}
          {end : Last} → Between o held [] held' [] → WholeOf held' values e ps end
          → WholeOf held values e (MoreParts (c.Do o) ps) end

    -- the arms are the clauses, in order, on values in these registers
    pub data ArmsOf : Held → (values : Values) → List ℕ → Clauses → Arms → Type 0 where
      no_arms : {held : Held} {values : Values} {rs : List ℕ}
          → ArmsOf held values rs NoClauses NoArms
      more_arms : {held inside : Held} {values : Values} {rs : List ℕ} {pats : Patterns}
          {g b : Expression} {cs : Clauses} {ts : List Test} {guard : Guard} {ps : Parts}
          {end : Last} {xs : Arms} → PartsTests false held pats rs ts inside
          → GuardOf inside g guard.operations guard.register → WholeOf inside values b ps end
          → ArmsOf held values rs cs xs
          → ArmsOf held values rs (MoreClauses pats g b cs) (MoreArms ts guard (MakeTree ps end) xs)
