-- What lowering has written so far, and how it writes more. This project's own.
use Rattle.std.specs.Prelude.{ℕ, zero, suc, ◌+◌, List, [], ◌∷◌, ◌++◌}
use Rattle.hy_ir.specs.Code as c
use Rattle.hy_ir.specs.Code.{Last, MakeTree, Part, Tree}
use Rattle.hy_ir.specs.View.{parts_in}
use Rattle.hy_ir.specs.declared.code.Constant.{Constant}
use Rattle.hy_ir.specs.declared.code.Op.{Op}
use Rattle.hy_ir.specs.declared.code.Op.TheVariants as op

-- parts of a tree, the first register that isn't in use, and the registers of the values that are
-- done
pub record Builder : Type 0 where
  pub parts : List Part
  pub next : ℕ
  pub registers : List ℕ

-- where an expression stands: with more behind it, last in an inner tree, or last in a function
pub data Place : Type 0 where
  Piece : Place
  Inner : Place
  Tail : Place

-- an expression gives values, whose registers are done, or it ends the tree
pub data End : Type 0 where
  Given : End
  Ended : Last → End

abbrev pub beginning : (next : ℕ) → Builder
beginning next = record { parts = []; next = next; registers = [] }

abbrev pub with_registers : List ℕ → Builder → Builder
with_registers rs b = record { parts = b.parts; next = b.next; registers = rs }

-- so many registers, one after another
abbrev pub registers_from : (first count : ℕ) → List ℕ
registers_from r zero = []
registers_from r (suc n) = r ∷ registers_from (suc r) n

abbrev pub first : List ℕ → ℕ
first [] = 0
first (r ∷ rs) = r

abbrev pub rest : List ℕ → List ℕ
rest [] = []
rest (r ∷ rs) = rs

-- an operation, whose value goes to a new register, behind the values that are kept
abbrev pub operation_into : (ℕ → Op) → (kept : List ℕ) → Builder → Builder
operation_into o kept b = record {
  parts = b.parts ++ c.Do (o b.next) ∷ [];
  next = b.next + 1;
  registers = kept ++ b.next ∷ [];
}

abbrev pub constant_into : Constant → Builder → Builder
constant_into value b = operation_into (λ out. op.Const out value) b.registers b

-- the cons of a head and of the value that is done
abbrev pub cons_into : (site head : ℕ) → Builder → Builder
cons_into site head b =
    operation_into (λ out. op.Build site out (head ∷ first b.registers ∷ [])) [] b

-- One cons for each head, from the last to the first; the first head has this site. What is given
-- are the registers of the heads and of the tail; the value of the whole is the one that is done.
abbrev pub conses_into : (site : ℕ) → (heads : List ℕ) → (tail : ℕ) → Builder → Builder
conses_into site [] tail b = with_registers (tail ∷ []) b
conses_into site (head ∷ heads) tail b = cons_into site head (conses_into (site + 1) heads tail b)

-- an inner tree, which gives so many values to new registers
abbrev pub within_into : Tree → (values : ℕ) → Builder → Builder
within_into inner values b = record {
  parts = b.parts ++ c.Within (registers_from b.next values) inner ∷ [];
  next = b.next + values;
  registers = b.registers ++ registers_from b.next values;
}

-- the tree of what is written
abbrev pub written_last : End → List ℕ → Last
written_last Given rs = c.Give rs
written_last (Ended end) rs = end

abbrev pub written_tree : Builder × End → Tree
written_tree w = MakeTree (parts_in w.0.parts) (written_last w.1 w.0.registers)

-- what ends a tree stands in an inner tree where more comes behind it

abbrev pub inside : Place → Place
inside Piece = Inner
inside Inner = Inner
inside Tail = Tail

abbrev pub opened : Place → Builder → Builder
opened Piece b = beginning b.next
opened Inner b = with_registers [] b
opened Tail b = with_registers [] b

-- the tree with these parts ends; registers below next are in use
abbrev pub closed : Place → (values : ℕ) → Builder → List Part → (next : ℕ) → Last → Builder × End
closed Piece values b parts next end = (
  within_into (MakeTree (parts_in parts) end) values
      (record { parts = b.parts; next = next; registers = b.registers }),
  Given,
)
closed Inner values b parts next end =
    (record { parts = parts; next = next; registers = b.registers }, Ended end)
closed Tail values b parts next end =
    (record { parts = parts; next = next; registers = b.registers }, Ended end)
