-- What is written for expressions that end a tree: raises, choices, receives, and their arms.
use Rattle.std.proofs.Common.{◌≡◌, ℕ, ◌+◌, List, [], ◌∷◌, ◌++◌, length, Some}
use Rattle.std.proofs.Common.{refl, sym, ap, ◌∙◌, subst, false}
use Rattle.std.proofs.lemmas.List.{append_assoc, append-nil}
use Rattle.hy_core.specs.declared.info.SiteInfo.{SiteInfo}
use Rattle.hy_core.specs.Resolved as r
use Rattle.hy_core.specs.Resolved.{Expression, Expressions, Patterns, Clauses, NoClauses}
use Rattle.hy_core.specs.Resolved.{MoreClauses}
use Rattle.hy_ir.specs.Code as c
use Rattle.hy_ir.specs.Code.{Part, Parts, NoParts, Last, MakeTree, NoLapse, LapseTo}
use Rattle.hy_ir.specs.Valid.{Values, GivesSoMany}
use Rattle.hy_ir.specs.View.{ArmView, parts_in, arms_in}
use Rattle.hy_ir.specs.declared.code.Guard.{Guard}
use Rattle.program_code.specs.ExpressionCode.{PieceOf, of_within, WholeOf, gives}
use Rattle.program_code.specs.ExpressionCode.{chooses, waits, waits_or_lapses}
use Rattle.program_code.specs.ExpressionCode.{ArmsOf, no_arms, more_arms}
use Rattle.program_code.specs.GuardOperations.{GuardOf}
use Rattle.program_code.specs.HeldRegisters.{Held}
use Rattle.program_code.specs.PatternTests.{PartsTests}
use Rattle.program_code.specs.WrittenRegisters.{parts_write, last_writes, tree_writes, arms_write}
use Rattle.program_code.specs.WrittenRegisters.{tests_write, operations_write}
use Rattle.lowered_code.specs.Builder.{Builder, Place, Piece, Inner, Tail, End, Given, Ended}
use Rattle.lowered_code.specs.Builder.{registers_from, first, beginning, opened}
use Rattle.lowered_code.specs.Builder.{closed, written_tree, written_last, inside}
use Rattle.lowered_code.specs.LoweredExpressions.{Branches, with_arm, chosen, lapsing}
use Rattle.lowered_code.specs.LoweredGuards.{Guarded}
use Rattle.lowered_code.specs.LoweredPatterns.{Checks}
use Rattle.lowered_code.proofs.Appending.{grown_none, outs_more, moved_more, moved_none}
use Rattle.lowered_code.proofs.Guards.{GuardWrote}
use Rattle.lowered_code.proofs.Numbers.{length_numbers}
use Rattle.lowered_code.proofs.Pieces.{values_at, Wrote, AllWrote, MetBy, Met}
use Rattle.lowered_code.proofs.Tests.{AllTested}

-- a function gives one value
abbrev pub Fits : Place → (wanted : ℕ) → Type 0
Fits Tail wanted = wanted ≡ 1
Fits _ wanted = Unit {0}

pub fits_inside : (place : Place) (wanted : ℕ) → Fits place wanted → Fits (inside place) wanted
fits_inside Piece wanted h = tt
fits_inside Inner wanted h = tt
fits_inside Tail wanted h = h

pub values_inside : (place : Place) (wanted : ℕ)
    → values_at (inside place) wanted ≡ values_at place wanted
values_inside Piece wanted = refl
values_inside Inner wanted = refl
values_inside Tail wanted = refl

pub opened_registers : (place : Place) (b : Builder) → (opened place b).registers ≡ []
opened_registers Piece b = refl
opened_registers Inner b = refl
opened_registers Tail b = refl

pub opened_next : (place : Place) (b : Builder) → (opened place b).next ≡ b.next
opened_next Piece b = refl
opened_next Inner b = refl
opened_next Tail b = refl

pub inner_piece : Inner ≡ Piece → ⊥
inner_piece h = cc

pub tail_piece : Tail ≡ Piece → ⊥
tail_piece h = cc

pub fits_so_many : (place : Place) (wanted count : ℕ) → Fits place wanted → count ≡ wanted
    → GivesSoMany (values_at place wanted) count
fits_so_many Piece wanted count f e = e
fits_so_many Inner wanted count f e = e
fits_so_many Tail wanted count f e = e ∙ f

module _ (sites : List SiteInfo) where
  -- a last part ends the tree, or the inner tree that is opened for it
  pub closed_met : (held : Held) (e : Expression) (wanted : ℕ) (place : Place) (b : Builder)
      (added parts : List Part) (next new : ℕ) (end : Last) → parts ≡ (opened place b).parts ++
      added
      → WholeOf sites held (values_at place wanted) e (parts_in added) end
      → parts_write (parts_in added) ++ last_writes end ≡ registers_from b.next new
      → next ≡ b.next + new → Met sites held e wanted place b (closed place wanted b parts next end)
  closed_met held e wanted Piece b added parts next new end g code w m =
      let outs = registers_from next wanted in
      let many = length_numbers next wanted in
      let tree = MakeTree (parts_in parts) end in
      let whole = subst (λ n. WholeOf sites held (Some n) e (parts_in added) end) (sym many) code
      in record {
        added = c.Within outs tree ∷ [];
        values = outs;
        new = new + wanted;
        grown = refl;
        kept = refl;
        many = many;
        code = of_within (subst (λ ps. WholeOf sites held (Some (length outs)) e (parts_in ps) end)
            (sym g) whole);
        outs = append-nil ((parts_write (parts_in parts) ++ last_writes end) ++ outs) ∙ outs_more
            (parts_write (parts_in parts) ++ last_writes end) outs b.next new wanted next
            (ap (λ ps. parts_write (parts_in ps) ++ last_writes end) g ∙ w) refl m;
        moved = moved_more b.next new wanted next (next + wanted) m refl;
      }
  closed_met held e wanted Inner b added parts next new end g code w m = (
    inner_piece,
    record {
      added = added;
      new = new;
      grown = g;
      code = code;
      outs = w;
      moved = m;
    },
  )
  closed_met held e wanted Tail b added parts next new end g code w m =
      (tail_piece, record { added = added; new = new; grown = g; code = code; outs = w; moved = m })

  -- a raise, whose arguments are done in the tree that is opened for it
  pub raise_met : (held : Held) (e : Expression) (es : Expressions) (wanted : ℕ) (place : Place)
      (b t : Builder) (end : Last) (h : AllWrote sites held es (opened place b) t)
      → WholeOf sites held (values_at place wanted) e (parts_in h.added) end
      → last_writes end ≡ []
      → Met sites held e wanted place b (closed place wanted b t.parts t.next end)
  raise_met held e es wanted place b t end h code w =
      let start = opened_next place b in
      closed_met held e wanted place b h.added t.parts t.next h.new end h.grown code
      (ap (λ l. parts_write (parts_in h.added) ++ l) w ∙ append-nil (parts_write (parts_in h.added))
      ∙ h.outs ∙ ap (λ n. registers_from n h.new) start)
      (h.moved ∙ ap (λ n. n + h.new) start)

  -- the tree of an expression that stands last in it
  pub record Whole (held : Held) (e : Expression) (place : Place) (wanted next : ℕ)
      (w : Builder × End) : Type 0 where
    pub new : ℕ
    pub code : WholeOf sites held (values_at place wanted) e (parts_in w.0.parts)
        (written_last w.1 w.0.registers)
    pub outs : tree_writes (written_tree w) ≡ registers_from next new
    pub moved : w.0.next ≡ next + new

  pub whole : (held : Held) (e : Expression) (place : Place) (wanted next : ℕ) (b : Builder)
      (n : End) → Fits place wanted → MetBy sites held e wanted place (beginning next) b n
      → Whole held e place wanted next (b, n)
  whole held e place wanted next b Given f h =
      let values = values_at place wanted in
      let piece = subst (λ rs. PieceOf sites held e (parts_in h.added) rs) (sym h.kept) h.code in
      let many = ap length h.kept ∙ h.many in record {
        new = h.new;
        code = subst (λ ps. WholeOf sites held values e (parts_in ps) (c.Give b.registers))
            (sym h.grown) (gives piece (fits_so_many place wanted (length b.registers) f many));
        outs = append-nil (parts_write (parts_in b.parts))
            ∙ ap (λ ps. parts_write (parts_in ps)) h.grown ∙ h.outs;
        moved = h.moved;
      }
  whole held e place wanted next b (Ended end) f (not, h) = record {
    new = h.new;
    code = subst (λ ps. WholeOf sites held (values_at place wanted) e (parts_in ps) end)
        (sym h.grown) h.code;
    outs = ap (λ ps. parts_write (parts_in ps) ++ last_writes end) h.grown ∙ h.outs;
    moved = h.moved;
  }

  -- arms

  pub record ArmsWrote (held : Held) (values : Values) (rs : List ℕ) (cs : Clauses)
      (a a' : Branches) : Type 0 where
    pub added : List ArmView
    pub new : ℕ
    pub grown : a'.arms ≡ a.arms ++ added
    pub code : ArmsOf sites held values rs cs (arms_in added)
    pub outs : arms_write (arms_in added) ≡ registers_from a.next new
    pub moved : a'.next ≡ a.next + new

  pub no_arms_wrote : (held : Held) (values : Values) (rs : List ℕ) (a : Branches)
      → ArmsWrote held values rs NoClauses a a
  no_arms_wrote held values rs a = record {
    added = [];
    new = 0;
    grown = grown_none a.arms;
    code = no_arms;
    outs = refl;
    moved = moved_none a.next;
  }

  -- the arm of a clause, and then others
  pub arm_and_more : (held : Held) (rs : List ℕ) (ps : Patterns) (g e : Expression) (cs : Clauses)
      (place : Place) (wanted : ℕ) (a a' : Branches) (u : Held × Checks) (h : Guarded)
      (w : Builder × End)
      → AllTested false held ps rs (record { tests = []; next = a.next }) u
      → GuardWrote u.0 g (record { operations = []; next = u.1.next; registers = [] }) h
      → Whole u.0 e place wanted h.next w
      → ArmsWrote held (values_at place wanted) rs cs (with_arm a u.1 h w) a'
      → ArmsWrote held (values_at place wanted) rs (MoreClauses ps g e cs) a a'
  arm_and_more held rs ps g e cs place wanted a a' u h w t q b m =
      let guard : Guard = record { operations = h.operations; register = first h.registers } in
      let arm : ArmView = record { tests = u.1.tests; guard = guard; body = written_tree w } in
      let tests = subst (λ ts. PartsTests false held ps rs ts u.0) (sym t.grown) t.code in
      let value = subst (GuardOf u.0 g q.added) (sym (ap first q.kept)) q.code in
      let operations = subst (λ os. GuardOf u.0 g os (first h.registers)) (sym q.grown) value in
      record {
        added = arm ∷ m.added;
        new = (t.new + q.new) + (b.new + m.new);
        grown = m.grown ∙ append_assoc a.arms (arm ∷ []) m.added;
        code = more_arms tests operations b.code m.code;
        outs = outs_more (tests_write u.1.tests ++ operations_write h.operations)
            (tree_writes (written_tree w) ++ arms_write (arms_in m.added)) a.next (t.new + q.new)
            (b.new + m.new) h.next
            (outs_more (tests_write u.1.tests) (operations_write h.operations) a.next t.new q.new
            u.1.next (ap tests_write t.grown ∙ t.outs) (ap operations_write q.grown ∙ q.outs)
            t.moved)
            (outs_more (tree_writes (written_tree w)) (arms_write (arms_in m.added)) h.next b.new
            m.new
            w.0.next b.outs m.outs b.moved)
            (moved_more a.next t.new q.new u.1.next h.next t.moved q.moved);
        moved = moved_more a.next (t.new + q.new) (b.new + m.new) h.next a'.next
            (moved_more a.next t.new q.new u.1.next h.next t.moved q.moved)
            (moved_more h.next b.new m.new w.0.next a'.next b.moved m.moved);
      }

  -- a choice: its value, and then its arms
  pub choice_met : (held : Held) (e : Expression) (cs : Clauses) (wanted many : ℕ) (place : Place)
      (b t : Builder) (from a : Branches) → from.arms ≡ [] → from.next ≡ t.next
      → Wrote sites held e many (opened place b) t
      → ArmsWrote held (values_at (inside place) wanted) t.registers cs from a
      → Met sites held (r.Case e cs) wanted place b (chosen place wanted b t a)
  choice_met held e cs wanted many place b t from a none at h m =
      let start = opened_next place b in
      let arms : a.arms ≡ m.added = m.grown ∙ ap (λ l. l ++ m.added) none in
      let read : t.registers ≡ h.values = h.kept ∙ ap (λ l. l ++ h.values)
      (opened_registers place b) in
      let piece = subst (λ rs. PieceOf sites held e (parts_in h.added) rs) (sym read) h.code in
      let moved : t.next ≡ b.next + h.new = h.moved ∙ ap (λ n. n + h.new) start in
      let code = subst (λ v. ArmsOf sites held v t.registers cs (arms_in m.added))
      (values_inside place wanted) m.code in
      closed_met held (r.Case e cs) wanted place b h.added t.parts a.next (h.new + m.new)
      (c.Choose (arms_in a.arms)) h.grown
      (subst (λ xs. WholeOf sites held (values_at place wanted) (r.Case e cs) (parts_in h.added)
      (c.Choose (arms_in xs))) (sym arms) (chooses piece code))
      (ap (λ xs. parts_write (parts_in h.added) ++ arms_write (arms_in xs)) arms
      ∙ outs_more (parts_write (parts_in h.added)) (arms_write (arms_in m.added)) b.next h.new m.new
      t.next (h.outs ∙ ap (λ n. registers_from n h.new) start)
      (m.outs ∙ ap (λ n. registers_from n m.new) at) moved)
      (moved_more b.next h.new m.new t.next a.next moved
      (m.moved ∙ ap (λ n. n + m.new) at))

  -- a receive: its message, its arms, and the tree for a lapse

  pub waits_met : (held : Held) (e : Expression) (cs : Clauses) (wanted : ℕ) (place : Place)
      (b : Builder) (from a : Branches) → from.arms ≡ [] → from.next ≡ b.next + 1
      → ArmsWrote held (values_at (inside place) wanted) (b.next ∷ []) cs from a
      → Met sites held (r.Receive cs r.Never e) wanted place b
      (closed place wanted b (opened place b).parts a.next
      (c.Receive b.next (arms_in a.arms) NoLapse))
  waits_met held e cs wanted place b from a none at m =
      let arms : a.arms ≡ m.added = m.grown ∙ ap (λ l. l ++ m.added) none in
      let code = subst (λ v. ArmsOf sites held v (b.next ∷ []) cs (arms_in m.added))
      (values_inside place wanted) m.code in
      closed_met held (r.Receive cs r.Never e) wanted place b [] (opened place b).parts a.next
      (1 + m.new) (c.Receive b.next (arms_in a.arms) NoLapse) (grown_none (opened place b).parts)
      (subst (λ xs. WholeOf sites held (values_at place wanted) (r.Receive cs r.Never e) NoParts
      (c.Receive b.next (arms_in xs) NoLapse)) (sym arms) (waits code))
      (ap (λ xs. b.next ∷ (arms_write (arms_in xs) ++ [])) arms
      ∙ ap (λ l. b.next ∷ l) (append-nil (arms_write (arms_in m.added)))
      ∙ outs_more (b.next ∷ []) (arms_write (arms_in m.added)) b.next 1 m.new (b.next + 1) refl
      (m.outs ∙ ap (λ n. registers_from n m.new) at) refl)
      (moved_more b.next 1 m.new (b.next + 1) a.next refl (m.moved ∙ ap (λ n. n + m.new) at))

  pub lapses_met : (held : Held) (e : Expression) (cs : Clauses) (wanted : ℕ) (place : Place)
      (b : Builder) (from a : Branches) (w : Builder × End) → from.arms ≡ []
      → from.next ≡ b.next + 1
      → ArmsWrote held (values_at (inside place) wanted) (b.next ∷ []) cs from a
      → Whole held e (inside place) wanted a.next w
      → Met sites held (r.Receive cs r.AtOnce e) wanted place b (lapsing place wanted b a w)
  lapses_met held e cs wanted place b from a w none at m k =
      let arms : a.arms ≡ m.added = m.grown ∙ ap (λ l. l ++ m.added) none in
      let code = subst (λ v. ArmsOf sites held v (b.next ∷ []) cs (arms_in m.added))
      (values_inside place wanted) m.code in
      let lapse = subst (λ v. WholeOf sites held v e (parts_in w.0.parts)
      (written_last w.1 w.0.registers)) (values_inside place wanted) k.code in
      let moved : a.next ≡ (b.next + 1) + m.new = m.moved ∙ ap (λ n. n + m.new) at in
      closed_met held (r.Receive cs r.AtOnce e) wanted place b [] (opened place b).parts w.0.next
      (1 + (m.new + k.new)) (c.Receive b.next (arms_in a.arms) (LapseTo (written_tree w)))
      (grown_none (opened place b).parts)
      (subst (λ xs. WholeOf sites held (values_at place wanted) (r.Receive cs r.AtOnce e) NoParts
      (c.Receive b.next (arms_in xs) (LapseTo (written_tree w)))) (sym arms) (waits_or_lapses
      code lapse))
      (ap (λ xs. b.next ∷ (arms_write (arms_in xs) ++ tree_writes (written_tree w))) arms
      ∙ outs_more (b.next ∷ []) (arms_write (arms_in m.added) ++ tree_writes (written_tree w))
      b.next 1
      (m.new + k.new) (b.next + 1) refl
      (outs_more (arms_write (arms_in m.added)) (tree_writes (written_tree w)) (b.next + 1) m.new
      k.new
      a.next (m.outs ∙ ap (λ n. registers_from n m.new) at) k.outs moved) refl)
      (moved_more b.next 1 (m.new + k.new) (b.next + 1) w.0.next refl
      (moved_more (b.next + 1) m.new k.new a.next w.0.next moved k.moved))
