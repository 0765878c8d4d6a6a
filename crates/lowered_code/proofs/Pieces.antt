-- What is written for expressions that give values: operations, lists, `let` and `do`.
use Rattle.std.proofs.Common.{◌≡◌, ◌≢◌, ℕ, zero, suc, ◌+◌, List, [], ◌∷◌, ◌++◌, length, Some, None}
use Rattle.std.proofs.Common.{refl, sym, ap, ◌∙◌, subst, arith}
use Rattle.std.proofs.lemmas.List.{append_assoc, length-append}
use Rattle.core_accepted.specs.TreeSites.{Site, conses}
use Rattle.hy_core.specs.declared.info.SiteInfo.{SiteInfo}
use Rattle.hy_core.specs.declared.info.SiteKind.TheVariants as kind
use Rattle.hy_core.specs.Resolved as r
use Rattle.hy_core.specs.Resolved.{Expression, Expressions, NoExpressions, MoreExpressions}
use Rattle.hy_core.specs.Supplied.{expression_count}
use Rattle.hy_ir.specs.Code as c
use Rattle.hy_ir.specs.Code.{Part, Parts, NoParts, Last}
use Rattle.hy_ir.specs.Meaning.{kind_at}
use Rattle.hy_ir.specs.Valid.{Values}
use Rattle.hy_ir.specs.View.{parts_in}
use Rattle.hy_ir.specs.declared.code.Op.{Op}
use Rattle.hy_ir.specs.declared.code.Op.TheVariants as op
use Rattle.program_code.specs.ExpressionCode.{join, does, ConsesOf, conses_none, conses_more}
use Rattle.program_code.specs.ExpressionCode.{PieceOf, of_variable, of_list, of_values, of_let}
use Rattle.program_code.specs.ExpressionCode.{of_do, PiecesOf, of_none, of_more, WholeOf}
use Rattle.program_code.specs.ExpressionCode.{let_whole, do_whole}
use Rattle.program_code.specs.HeldRegisters.{Held, register_of, holding}
use Rattle.program_code.specs.WrittenRegisters.{out_of, parts_write, last_writes}
use Rattle.program_code.proofs.Following.{parts_then}
use Rattle.lowered_code.specs.Builder.{Builder, Place, Piece, Inner, Tail, End, Given, Ended}
use Rattle.lowered_code.specs.Builder.{registers_from, with_registers, first, rest, operation_into}
use Rattle.lowered_code.specs.Builder.{conses_into}
use Rattle.lowered_code.specs.LoweredExpressions.{list_into, values_into}
use Rattle.lowered_code.specs.LoweredGuards.{bound_to}
use Rattle.lowered_code.proofs.Appending.{grown_more, grown_none, outs_more, moved_more, moved_none}
use Rattle.lowered_code.proofs.Appending.{parts_append}
use Rattle.lowered_code.proofs.Numbers.{counted, one_less}

pub writes_append : (a b : List Part)
    → parts_write (parts_in (a ++ b)) ≡ parts_write (parts_in a) ++ parts_write (parts_in b)
writes_append a b = ap parts_write (parts_append a b) ∙ parts_then (parts_in a) (parts_in b)

-- sites that stand with their kinds in the table
abbrev pub AreSites : List SiteInfo → List Site → Type 0
AreSites sites [] = Unit {0}
AreSites sites (s ∷ ss) = (kind_at sites s.0 ≡ Some s.1) × AreSites sites ss

pub sites_front : (sites : List SiteInfo) (a b : List Site) → AreSites sites (a ++ b)
    → AreSites sites a
sites_front sites [] b h = tt
sites_front sites (s ∷ a) b h = (h.0, sites_front sites a b h.1)

pub sites_back : (sites : List SiteInfo) (a b : List Site) → AreSites sites (a ++ b)
    → AreSites sites b
sites_back sites [] b h = h
sites_back sites (s ∷ a) b h = sites_back sites a b h.1

-- parts, and then parts with a last one
both_write : (a b : List Part) (end : Last) (k n m j : ℕ)
    → parts_write (parts_in a) ≡ registers_from k n
    → parts_write (parts_in b) ++ last_writes end ≡ registers_from j m → j ≡ k + n
    → parts_write (parts_in (a ++ b)) ++ last_writes end ≡ registers_from k (n + m)
both_write a b end k n m j e f g =
    ap (λ l. l ++ last_writes end) (writes_append a b)
    ∙ append_assoc (parts_write (parts_in a)) (parts_write (parts_in b)) (last_writes end)
    ∙ outs_more (parts_write (parts_in a)) (parts_write (parts_in b) ++ last_writes end) k n m j e
    f g

-- so many values

pub one_value : (rs : List ℕ) → length rs ≡ 1 → rs ≡ first rs ∷ []
one_value [] e = absurd (no e)
  where
    no : zero ≡ suc zero → ⊥
    no h = cc
one_value (r ∷ []) e = refl
one_value (r ∷ s ∷ rs) e = absurd (no (length rs) e)
  where
    no : (n : ℕ) → suc (suc n) ≡ 1 → ⊥
    no n h = omega (arith, h)

none_is_some : {n : ℕ} → zero ≡ suc n → ⊥
none_is_some h = cc

some_is_none : {n : ℕ} → suc n ≡ zero → ⊥
some_is_none h = cc

pub two_values : (rs : List ℕ) → length rs ≡ suc (suc zero)
    → rs ≡ first rs ∷ first (rest rs) ∷ []
two_values [] e = absurd (none_is_some e)
two_values (r ∷ rs) e = ap (◌∷◌ r) (one_value rs (one_less (length rs) 1 e))

pub three_values : (rs : List ℕ) → length rs ≡ suc (suc (suc zero))
    → rs ≡ first rs ∷ first (rest rs) ∷ first (rest (rest rs)) ∷ []
three_values [] e = absurd (none_is_some e)
three_values (r ∷ rs) e = ap (◌∷◌ r) (two_values rs (one_less (length rs) 2 e))

pub holding_is : (xs rs : List ℕ) (held : Held) → length rs ≡ length xs
    → holding xs rs held ≡ Some (bound_to xs rs held)
holding_is [] [] held e = refl
holding_is [] (r ∷ rs) held e = absurd (some_is_none e)
holding_is (x ∷ xs) [] held e = absurd (none_is_some e)
holding_is (x ∷ xs) (r ∷ rs) held e =
    holding_is xs rs ((x, r) ∷ held) (one_less (length rs) (length xs) e)

-- how many values a tree gives at a place for so many
abbrev pub values_at : Place → (wanted : ℕ) → Values
values_at Tail wanted = None
values_at Inner wanted = Some wanted
values_at Piece wanted = Some wanted

module _ (sites : List SiteInfo) where
  -- What has been written for an expression. The registers that it writes are the new ones, in
  -- order.
  pub record Wrote (held : Held) (e : Expression) (wanted : ℕ) (b b' : Builder) : Type 0 where
    pub added : List Part
    pub values : List ℕ
    pub new : ℕ
    pub grown : b'.parts ≡ b.parts ++ added
    pub kept : b'.registers ≡ b.registers ++ values
    pub many : length values ≡ wanted
    pub code : PieceOf sites held e (parts_in added) values
    pub outs : parts_write (parts_in added) ≡ registers_from b.next new
    pub moved : b'.next ≡ b.next + new

  pub record AllWrote (held : Held) (es : Expressions) (b b' : Builder) : Type 0 where
    pub added : List Part
    pub new : ℕ
    pub grown : b'.parts ≡ b.parts ++ added
    pub many : length b'.registers ≡ length b.registers + expression_count es
    pub code : PiecesOf sites held b.registers es (parts_in added) b'.registers
    pub outs : parts_write (parts_in added) ≡ registers_from b.next new
    pub moved : b'.next ≡ b.next + new

  pub record Ends (held : Held) (e : Expression) (values : Values) (b b' : Builder) (end : Last)
      : Type 0 where
    pub added : List Part
    pub new : ℕ
    pub grown : b'.parts ≡ b.parts ++ added
    pub code : WholeOf sites held values e (parts_in added) end
    pub outs : parts_write (parts_in added) ++ last_writes end ≡ registers_from b.next new
    pub moved : b'.next ≡ b.next + new

  -- at the place of a piece nothing ends the tree
  abbrev pub MetBy : Held → Expression → (wanted : ℕ) → Place → (b b' : Builder) → End → Type 0
  MetBy held e wanted place b b' Given = Wrote held e wanted b b'
  MetBy held e wanted place b b' (Ended end) =
      (place ≢ Piece) × Ends held e (values_at place wanted) b b' end

  abbrev pub Met : Held → Expression → (wanted : ℕ) → Place → Builder → Builder × End → Type 0
  Met held e wanted place b w = MetBy held e wanted place b w.0 w.1

  pub as_piece : (held : Held) (e : Expression) (wanted : ℕ) (b b' : Builder) (n : End)
      → MetBy held e wanted Piece b b' n → Wrote held e wanted b b'
  as_piece held e wanted b b' Given h = h
  as_piece held e wanted b b' (Ended end) h = absurd (h.0 refl)

  pub for_one : (held : Held) (e : Expression) (wanted : ℕ) (b b' : Builder) → wanted ≡ 1
      → Wrote held e 1 b b' → Wrote held e wanted b b'
  for_one held e wanted b b' h k = subst (λ n. Wrote held e n b b') (sym h) k

  -- one operation behind what has been written
  pub operation_wrote : (held : Held) (e : Expression) (o : ℕ → Op) (b t : Builder)
      (added : List Part) (new : ℕ) → t.parts ≡ b.parts ++ added
      → parts_write (parts_in added) ≡ registers_from b.next new → t.next ≡ b.next + new
      → PieceOf sites held e (join (parts_in added) (does (o t.next))) (t.next ∷ [])
      → out_of (o t.next) ≡ t.next → Wrote held e 1 b (operation_into o b.registers t)
  operation_wrote held e o b t added new g w m code same =
      let part = c.Do (o t.next) in record {
        added = added ++ part ∷ [];
        values = t.next ∷ [];
        new = new + 1;
        grown = grown_more b.parts t.parts (t.parts ++ part ∷ []) added (part ∷ []) g refl;
        kept = refl;
        many = refl;
        code = subst (λ ps. PieceOf sites held e ps (t.next ∷ []))
            (sym (parts_append added (part ∷ []))) code;
        outs = writes_append added (part ∷ []) ∙ outs_more (parts_write (parts_in added))
            (out_of (o t.next) ∷ []) b.next new 1 t.next w (ap (λ n. n ∷ []) same) m;
        moved = moved_more b.next new 1 t.next (t.next + 1) m refl;
      }

  -- alone
  pub alone_wrote : (held : Held) (e : Expression) (o : ℕ → Op) (b : Builder)
      → PieceOf sites held e (does (o b.next)) (b.next ∷ []) → out_of (o b.next) ≡ b.next
      → Wrote held e 1 b (operation_into o b.registers b)
  alone_wrote held e o b code same =
      operation_wrote held e o b b [] 0 (grown_none b.parts) refl (moved_none b.next) code same

  -- behind its arguments
  pub behind_wrote : (held : Held) (e : Expression) (es : Expressions) (o : ℕ → Op) (b t : Builder)
      → (h : AllWrote held es (with_registers [] b) t)
      → PieceOf sites held e (join (parts_in h.added) (does (o t.next))) (t.next ∷ [])
      → out_of (o t.next) ≡ t.next → Wrote held e 1 b (operation_into o b.registers t)
  behind_wrote held e es o b t h code same =
      operation_wrote held e o b t h.added h.new h.grown h.outs h.moved code same

  pub variable_wrote : (held : Held) (x from : ℕ) (b : Builder) → register_of x held ≡ Some from
      → Wrote held (r.Variable x) 1 b (with_registers (b.registers ++ from ∷ []) b)
  variable_wrote held x from b h = record {
    added = [];
    values = from ∷ [];
    new = 0;
    grown = grown_none b.parts;
    kept = refl;
    many = refl;
    code = of_variable h;
    outs = refl;
    moved = moved_none b.next;
  }

  pub nothing_wrote : (held : Held) (b : Builder) → AllWrote held NoExpressions b b
  nothing_wrote held b = record {
    added = [];
    new = 0;
    grown = grown_none b.parts;
    many = moved_none (length b.registers);
    code = of_none;
    outs = refl;
    moved = moved_none b.next;
  }

  pub one_and_more : (held : Held) (e : Expression) (es : Expressions) (b m b' : Builder)
      → Wrote held e 1 b m → AllWrote held es m b' → AllWrote held (MoreExpressions e es) b b'
  one_and_more held e es b m b' h k =
      let v = one_value h.values h.many in
      let kept = h.kept ∙ ap (λ l. b.registers ++ l) v in
      let before = ap length kept ∙ length-append b.registers (first h.values ∷ []) in
      let all = k.many in record {
        added = h.added ++ k.added;
        new = h.new + k.new;
        grown = grown_more b.parts m.parts b'.parts h.added k.added h.grown k.grown;
        many = counted (length b'.registers) (length m.registers) (length b.registers)
            (expression_count es) all before;
        code = subst (λ ps. PiecesOf sites held b.registers (MoreExpressions e es) ps b'.registers)
            (sym (parts_append h.added k.added)) (of_more
            (subst (PieceOf sites held e (parts_in h.added)) v h.code)
            (subst (λ done. PiecesOf sites held done es (parts_in k.added) b'.registers) kept
            k.code));
        outs = writes_append h.added k.added ∙ outs_more (parts_write (parts_in h.added))
            (parts_write (parts_in k.added)) b.next h.new k.new m.next h.outs k.outs h.moved;
        moved = moved_more b.next h.new k.new m.next b'.next h.moved k.moved;
      }

  pub values_wrote : (held : Held) (es : Expressions) (wanted : ℕ) (b t : Builder)
      → wanted ≡ expression_count es → AllWrote held es (with_registers [] b) t
      → Wrote held (r.Values es) wanted b (values_into b.registers t)
  values_wrote held es wanted b t e h = record {
    added = h.added;
    values = t.registers;
    new = h.new;
    grown = h.grown;
    kept = refl;
    many = let n = h.many in omega (arith, n, e);
    code = of_values h.code;
    outs = h.outs;
    moved = h.moved;
  }

  -- the conses of a list notation

  pub record ConsesWrote (site : ℕ) (heads : List ℕ) (tail : ℕ) (b b' : Builder) : Type 0 where
    pub added : List Part
    pub new : ℕ
    pub out : ℕ
    pub grown : b'.parts ≡ b.parts ++ added
    pub kept : b'.registers ≡ out ∷ []
    pub code : ConsesOf sites site heads tail (parts_in added) out
    pub outs : parts_write (parts_in added) ≡ registers_from b.next new
    pub moved : b'.next ≡ b.next + new

  cons_wrote : (site head : ℕ) (heads : List ℕ) (tail : ℕ) (b m : Builder)
      → kind_at sites site ≡ Some kind.Cons → ConsesWrote (site + 1) heads tail b m
      → ConsesWrote site (head ∷ heads) tail b
      (operation_into (λ out. op.Build site out (head ∷ first m.registers ∷ [])) [] m)
  cons_wrote site head heads tail b m k h =
      let next : site + 1 ≡ suc site = omega arith in
      let part = c.Do (op.Build site m.next (head ∷ first m.registers ∷ [])) in
      let read = sym (ap first h.kept) in record {
        added = h.added ++ part ∷ [];
        new = h.new + 1;
        out = m.next;
        grown = grown_more b.parts m.parts (m.parts ++ part ∷ []) h.added (part ∷ []) h.grown refl;
        kept = refl;
        code = subst (λ ps. ConsesOf sites site (head ∷ heads) tail ps m.next)
            (sym (parts_append h.added (part ∷ []))) (subst
            (λ from. ConsesOf sites site (head ∷ heads) tail (join (parts_in h.added)
            (does (op.Build site m.next (head ∷ from ∷ [])))) m.next) read (conses_more
            (subst (λ s. ConsesOf sites s heads tail (parts_in h.added) h.out) next h.code) k));
        outs = writes_append h.added (part ∷ []) ∙ outs_more (parts_write (parts_in h.added))
            (m.next ∷ []) b.next h.new 1 m.next h.outs refl h.moved;
        moved = moved_more b.next h.new 1 m.next (m.next + 1) h.moved refl;
      }

  pub conses_wrote : (heads : List ℕ) (site tail : ℕ) (b : Builder)
      → AreSites sites (conses site (length heads))
      → ConsesWrote site heads tail b (conses_into site heads tail b)
  conses_wrote [] site tail b h = record {
    added = [];
    new = 0;
    out = tail;
    grown = grown_none b.parts;
    kept = refl;
    code = conses_none;
    outs = refl;
    moved = moved_none b.next;
  }
  conses_wrote (head ∷ heads) site tail b h =
      let next : suc site ≡ site + 1 = omega arith in
      cons_wrote site head heads tail b (conses_into (site + 1) heads tail b) h.0
      (conses_wrote heads (site + 1) tail b
      (subst (λ s. AreSites sites (conses s (length heads))) next h.1))

  pub list_wrote : (held : Held) (site : ℕ) (es : Expressions) (e : Expression) (b t u : Builder)
      → AreSites sites (conses site (expression_count es))
      → AllWrote held es (with_registers [] b) t → Wrote held e 1 (with_registers [] t) u
      → Wrote held (r.ListOf site es e) 1 b (list_into site b.registers t.registers u)
  list_wrote held site es e b t u s h k =
      let many : length t.registers ≡ expression_count es = (let n = h.many in omega (arith, n)) in
      let m = conses_wrote t.registers site (first u.registers) u
      (subst (λ n. AreSites sites (conses site n)) (sym many) s) in
      listed m
    where
      listed : {v : Builder} → ConsesWrote site t.registers (first u.registers) u v
          → Wrote held (r.ListOf site es e) 1 b (with_registers (b.registers ++ v.registers) v)
      listed {v} m =
          let tail : k.values ≡ first u.registers ∷ [] = one_value k.values k.many
          ∙ ap (λ l. first l ∷ []) (sym k.kept) in record {
            added = h.added ++ (k.added ++ m.added);
            values = m.out ∷ [];
            new = h.new + (k.new + m.new);
            grown = grown_more b.parts t.parts v.parts h.added (k.added ++ m.added) h.grown
                (grown_more t.parts u.parts v.parts k.added m.added k.grown m.grown);
            kept = ap (λ l. b.registers ++ l) m.kept;
            many = refl;
            code = subst (λ ps. PieceOf sites held (r.ListOf site es e) ps (m.out ∷ []))
                (sym (parts_append h.added (k.added ++ m.added)
                ∙ ap (join (parts_in h.added)) (parts_append k.added m.added)))
                (of_list h.code (subst (PieceOf sites held e (parts_in k.added)) tail k.code)
                m.code);
            outs = writes_append h.added (k.added ++ m.added)
                ∙ outs_more (parts_write (parts_in h.added))
                (parts_write (parts_in (k.added ++ m.added))) b.next h.new (k.new + m.new) t.next
                h.outs (writes_append k.added m.added
                ∙ outs_more (parts_write (parts_in k.added)) (parts_write (parts_in m.added)) t.next
                k.new m.new u.next k.outs m.outs k.moved) h.moved;
            moved = moved_more b.next h.new (k.new + m.new) t.next v.next h.moved
                (moved_more t.next k.new m.new u.next v.next k.moved m.moved);
          }

  -- let and do, in whichever place: the value, and then the body

  pub let_met : (held inside : Held) (xs : List ℕ) (e d : Expression) (wanted k : ℕ) (place : Place)
      (b t v : Builder) (n : End) (h : Wrote held e k (with_registers [] b) t)
      → holding xs h.values held ≡ Some inside
      → MetBy inside d wanted place (with_registers b.registers t) v n
      → MetBy held (r.Let xs e d) wanted place b v n
  let_met held inside xs e d wanted k place b t v Given h f m = record {
    added = h.added ++ m.added;
    values = m.values;
    new = h.new + m.new;
    grown = grown_more b.parts t.parts v.parts h.added m.added h.grown m.grown;
    kept = m.kept;
    many = m.many;
    code = subst (λ ps. PieceOf sites held (r.Let xs e d) ps m.values)
        (sym (parts_append h.added m.added)) (of_let h.code f m.code);
    outs = writes_append h.added m.added ∙ outs_more (parts_write (parts_in h.added))
        (parts_write (parts_in m.added)) b.next h.new m.new t.next h.outs m.outs h.moved;
    moved = moved_more b.next h.new m.new t.next v.next h.moved m.moved;
  }
  let_met held inside xs e d wanted k place b t v (Ended end) h f (not, m) = (
    not,
    record {
      added = h.added ++ m.added;
      new = h.new + m.new;
      grown = grown_more b.parts t.parts v.parts h.added m.added h.grown m.grown;
      code = subst (λ ps. WholeOf sites held (values_at place wanted) (r.Let xs e d) ps end)
          (sym (parts_append h.added m.added)) (let_whole h.code f m.code);
      outs = both_write h.added m.added end b.next h.new m.new t.next h.outs m.outs h.moved;
      moved = moved_more b.next h.new m.new t.next v.next h.moved m.moved;
    },
  )

  pub do_met : (held : Held) (e d : Expression) (wanted : ℕ) (place : Place) (b t v : Builder)
      (n : End) → Wrote held e 1 (with_registers [] b) t
      → MetBy held d wanted place (with_registers b.registers t) v n
      → MetBy held (r.Do e d) wanted place b v n
  do_met held e d wanted place b t v Given h m =
      let one = subst (PieceOf sites held e (parts_in h.added)) (one_value h.values h.many)
      h.code in record {
        added = h.added ++ m.added;
        values = m.values;
        new = h.new + m.new;
        grown = grown_more b.parts t.parts v.parts h.added m.added h.grown m.grown;
        kept = m.kept;
        many = m.many;
        code = subst (λ ps. PieceOf sites held (r.Do e d) ps m.values)
            (sym (parts_append h.added m.added)) (of_do one m.code);
        outs = writes_append h.added m.added ∙ outs_more (parts_write (parts_in h.added))
            (parts_write (parts_in m.added)) b.next h.new m.new t.next h.outs m.outs h.moved;
        moved = moved_more b.next h.new m.new t.next v.next h.moved m.moved;
      }
  do_met held e d wanted place b t v (Ended end) h (not, m) =
      let one = subst (PieceOf sites held e (parts_in h.added)) (one_value h.values h.many)
      h.code in (
        not,
        record {
          added = h.added ++ m.added;
          new = h.new + m.new;
          grown = grown_more b.parts t.parts v.parts h.added m.added h.grown m.grown;
          code = subst (λ ps. WholeOf sites held (values_at place wanted) (r.Do e d) ps end)
              (sym (parts_append h.added m.added)) (do_whole one m.code);
          outs = both_write h.added m.added end b.next h.new m.new t.next h.outs m.outs h.moved;
          moved = moved_more b.next h.new m.new t.next v.next h.moved m.moved;
        },
      )
