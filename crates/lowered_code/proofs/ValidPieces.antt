-- What is written is valid: operations, lists, and what ends a tree.
use Rattle.std.proofs.Common.{◌≡◌, ◌≢◌, ℕ, suc, ◌+◌, ◌<◌, ◌≤◌, List, [], ◌∷◌, ◌++◌, length}
use Rattle.std.proofs.Common.{Some, refl, sym, ap, ◌∙◌, subst, arith}
use Rattle.std.proofs.lemmas.List.{length-append}
use Rattle.core_accepted.specs.TreeSites.{conses}
use Rattle.hy_core.specs.declared.info.SiteKind.TheVariants as kind
use Rattle.hy_ir.specs.Code as c
use Rattle.hy_ir.specs.Code.{Code, Part, Parts, NoParts, MoreParts, Last, MakeTree, Arms, NoArms}
use Rattle.hy_ir.specs.Code.{MoreArms}
use Rattle.hy_ir.specs.Meaning.{kind_at}
use Rattle.hy_ir.specs.Valid.{Values, IsBuilt, IsValidOperation, AreValidParts}
use Rattle.hy_ir.specs.Valid.{IsValidTree, IsValidLast, AreValidArms}
use Rattle.hy_ir.specs.View.{ArmView, parts_in, arms_in}
use Rattle.hy_ir.specs.declared.code.Op.{Op}
use Rattle.hy_ir.specs.declared.code.Op.TheVariants as op
use Rattle.program_code.specs.ExpressionCode.{join}
use Rattle.lowered_code.specs.Builder.{Builder, Place, Piece, Inner, Tail, End, Given, Ended}
use Rattle.lowered_code.specs.Builder.{registers_from, with_registers, first, beginning, opened}
use Rattle.lowered_code.specs.Builder.{closed, written_tree, operation_into, conses_into}
use Rattle.lowered_code.proofs.Appending.{parts_append}
use Rattle.lowered_code.proofs.Below.{AllBelow, below_none, below_more, below_push, below_both}
use Rattle.lowered_code.proofs.Below.{below_cons, numbers_below, first_below, rest_below}
use Rattle.lowered_code.proofs.Numbers.{length_numbers}
use Rattle.lowered_code.proofs.Pieces.{AreSites, values_at}
use Rattle.lowered_code.proofs.Wholes.{Fits, inner_piece, tail_piece, fits_so_many}

module _ (code : Code) where
  valid_join : (n : ℕ) (ps qs : Parts) → AreValidParts code n ps → AreValidParts code n qs
      → AreValidParts code n (join ps qs)
  valid_join n NoParts qs h k = k
  valid_join n (MoreParts p ps) qs h k = (h.0, valid_join n ps qs h.1 k)

  pub valid_append : (n : ℕ) (a b : List Part) → AreValidParts code n (parts_in a)
      → AreValidParts code n (parts_in b) → AreValidParts code n (parts_in (a ++ b))
  valid_append n a b h k =
      subst (AreValidParts code n) (sym (parts_append a b))
      (valid_join n (parts_in a) (parts_in b) h k)

  pub valid_arms_append : (n : ℕ) (values : Values) (a b : List ArmView)
      → AreValidArms code n values (arms_in a) → AreValidArms code n values (arms_in b)
      → AreValidArms code n values (arms_in (a ++ b))
  valid_arms_append n values [] b h k = k
  valid_arms_append n values (x ∷ a) b h k =
      (h.0, h.1, h.2, valid_arms_append n values a b h.3 k)

  -- parts that are valid where all registers in use are there
  abbrev pub SoundParts : List Part → (next : ℕ) → Type 0
  SoundParts ps next = (n : ℕ) → next ≤ n → AreValidParts code n (parts_in ps)

  abbrev pub SoundLast : Values → Last → (next : ℕ) → Type 0
  SoundLast values end next = (n : ℕ) → next ≤ n → IsValidLast code n values end

  -- and registers that are in use
  pub record Sound (b : Builder) : Type 0 where
    pub parts : SoundParts b.parts b.next
    pub registers : AllBelow b.next b.registers

  pub record After (wanted : ℕ) (b b' : Builder) : Type 0 where
    pub rises : b.next ≤ b'.next
    pub sound : Sound b'
    pub many : length b'.registers ≡ length b.registers + wanted

  pub record EndsAfter (values : Values) (b b' : Builder) (end : Last) : Type 0 where
    pub rises : b.next ≤ b'.next
    pub parts : SoundParts b'.parts b'.next
    pub last : SoundLast values end b'.next

  abbrev pub SoundBy : (wanted : ℕ) → Place → (b b' : Builder) → End → Type 0
  SoundBy wanted place b b' Given = After wanted b b'
  SoundBy wanted place b b' (Ended end) =
      (place ≢ Piece) × EndsAfter (values_at place wanted) b b' end

  pub after_piece : (wanted : ℕ) (b b' : Builder) (n : End) → SoundBy wanted Piece b b' n
      → After wanted b b'
  after_piece wanted b b' Given h = h
  after_piece wanted b b' (Ended end) h = absurd (h.0 refl)

  pub after_one : (wanted : ℕ) (b b' : Builder) → wanted ≡ 1 → After 1 b b' → After wanted b b'
  after_one wanted b b' h k = subst (λ n. After n b b') (sym h) k

  pub beginning_sound : (next : ℕ) → Sound (beginning next)
  beginning_sound next = record { parts = λ n less. tt; registers = below_none next }

  pub cleared : (b : Builder) → Sound b → Sound (with_registers [] b)
  cleared b s = record { parts = s.parts; registers = below_none b.next }

  pub kept : (b t : Builder) → b.next ≤ t.next → Sound b → Sound t
      → Sound (with_registers b.registers t)
  kept b t h s u = record {
    parts = u.parts;
    registers = below_more b.next t.next b.registers h s.registers;
  }

  pub opened_sound : (place : Place) (b : Builder) → Sound b → Sound (opened place b)
  opened_sound Piece b s = beginning_sound b.next
  opened_sound Inner b s = cleared b s
  opened_sound Tail b s = cleared b s

  -- one operation behind what is written
  pub operation_after : (o : ℕ → Op) (b t : Builder) → b.next ≤ t.next → Sound b → Sound t
      → ((n : ℕ) → t.next + 1 ≤ n → IsValidOperation code n (o t.next))
      → After 1 b (operation_into o b.registers t)
  operation_after o b t rises s u v = record {
    rises = omega (arith, rises);
    sound = record {
      parts = λ n less. valid_append n t.parts (c.Do (o t.next) ∷ [])
          (u.parts n (omega (arith, less))) (v n less, tt);
      registers = below_push (t.next + 1) b.registers t.next
          (below_more b.next (t.next + 1) b.registers (omega (arith, rises)) s.registers)
          (omega arith);
    };
    many = length-append b.registers (t.next ∷ []);
  }

  -- behind values that are done
  pub behind_after : (b v : Builder) (wanted : ℕ) → b.next ≤ v.next → Sound b → Sound v
      → length v.registers ≡ wanted → After wanted b (with_registers (b.registers ++ v.registers) v)
  behind_after b v wanted rises s u e = record {
    rises = rises;
    sound = record {
      parts = u.parts;
      registers = below_both v.next b.registers v.registers
          (below_more b.next v.next b.registers rises s.registers) u.registers;
    };
    many = length-append b.registers v.registers ∙ ap (λ n. length b.registers + n) e;
  }

  -- the conses of a list notation
  pub record ConsesAfter (b b' : Builder) : Type 0 where
    pub rises : b.next ≤ b'.next
    pub sound : Sound b'
    pub many : length b'.registers ≡ 1

  cons_after : (site head : ℕ) (b m : Builder) → head < b.next
      → kind_at code.sites site ≡ Some kind.Cons → ConsesAfter b m
      → ConsesAfter b (operation_into (λ out. op.Build site out (head ∷ first m.registers ∷ [])) []
      m)
  cons_after site head b m h k a =
      let rises = a.rises in
      let many = a.many in
      let one : 1 ≤ length m.registers = omega (arith, many) in
      let tail = first_below m.next m.registers one a.sound.registers in
      let args : AllBelow m.next (head ∷ first m.registers ∷ []) = below_cons m.next head
      (first m.registers ∷ []) (omega (arith, h, rises))
      (below_cons m.next (first m.registers) [] tail (below_none m.next)) in
      let w = operation_after (λ out. op.Build site out (head ∷ first m.registers ∷ []))
      (with_registers [] m) m (omega arith) (cleared m a.sound) a.sound
      (λ n less. (
        omega (arith, less),
        below_more m.next n (head ∷ first m.registers ∷ []) (omega (arith, less)) args,
        subst (λ q. IsBuilt q 2) (sym k) refl,
      )) in record {
        rises = omega (arith, rises);
        sound = w.sound;
        many = refl;
      }

  pub conses_after : (heads : List ℕ) (site tail : ℕ) (b : Builder) → AllBelow b.next heads
      → tail < b.next → Sound b → AreSites code.sites (conses site (length heads))
      → ConsesAfter b (conses_into site heads tail b)
  conses_after [] site tail b h t s k = record {
    rises = omega arith;
    sound = record {
      parts = s.parts;
      registers = below_cons b.next tail [] t (below_none b.next);
    };
    many = refl;
  }
  conses_after (head ∷ heads) site tail b h t s k =
      let next : suc site ≡ site + 1 = omega arith in
      cons_after site head b (conses_into (site + 1) heads tail b)
      (first_below b.next (head ∷ heads) (omega arith) h) k.0
      (conses_after heads (site + 1) tail b (rest_below b.next (head ∷ heads) h) t s
      (subst (λ q. AreSites code.sites (conses q (length heads))) next k.1))

  -- a last part
  pub closed_sound : (wanted : ℕ) (place : Place) (b : Builder) (parts : List Part) (next : ℕ)
      (end : Last) → b.next ≤ next → Sound b → SoundParts parts next
      → SoundLast (values_at place wanted) end next
      → SoundBy wanted place b (closed place wanted b parts next end).0
      (closed place wanted b parts next end).1
  closed_sound wanted Piece b parts next end rises s p l =
      let outs = registers_from next wanted in
      let many = length_numbers next wanted in record {
        rises = omega (arith, rises);
        sound = record {
          parts = λ n less. valid_append n b.parts
              (c.Within outs (MakeTree (parts_in parts) end) ∷ [])
              (s.parts n (omega (arith, rises, less))) (
                (
                  numbers_below next wanted n less,
                  (
                    p n (omega (arith, less)),
                    subst (λ m. IsValidLast code n (Some m) end) (sym many)
                        (l n (omega (arith, less))),
                  ),
                ),
                tt,
              );
          registers = below_both (next + wanted) b.registers outs
              (below_more b.next (next + wanted) b.registers (omega (arith, rises)) s.registers)
              (numbers_below next wanted (next + wanted) (omega arith));
        };
        many = length-append b.registers outs ∙ ap (λ n. length b.registers + n) many;
      }
  closed_sound wanted Inner b parts next end rises s p l =
      (inner_piece, record { rises = rises; parts = p; last = l })
  closed_sound wanted Tail b parts next end rises s p l =
      (tail_piece, record { rises = rises; parts = p; last = l })

  -- the tree of what is written
  pub record SoundTree (place : Place) (wanted next : ℕ) (w : Builder × End) : Type 0 where
    pub rises : next ≤ w.0.next
    pub tree : (n : ℕ) → w.0.next ≤ n
        → IsValidTree code n (values_at place wanted) (written_tree w)

  pub tree_sound : (place : Place) (wanted next : ℕ) (b : Builder) (n : End) → Fits place wanted
      → SoundBy wanted place (beginning next) b n → SoundTree place wanted next (b, n)
  tree_sound place wanted next b Given f a =
      let m = a.many in
      let many : length b.registers ≡ wanted = omega (arith, m) in record {
        rises = a.rises;
        tree = λ n less. (
          a.sound.parts n less,
          (
            below_more b.next n b.registers less a.sound.registers,
            fits_so_many place wanted (length b.registers) f many,
          ),
        );
      }
  tree_sound place wanted next b (Ended end) f (not, a) = record {
    rises = a.rises;
    tree = λ n less. (a.parts n less, a.last n less);
  }
