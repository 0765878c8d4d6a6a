-- What valid code is, as it is found out: each answer is true where the condition holds.
use Rattle.std.specs.Prelude.{ℕ, ◌^◌, ◌==◌, ◌&&◌, nat_lt, nat_le, List, [], ◌∷◌, length}
use Rattle.std.specs.Prelude.{Option, Some, None, slice_get, Bool, true, false}
use Rattle.hy_terms.specs.Range.{is_in_range}
use Rattle.hy_core.specs.declared.info.SiteInfo.{SiteInfo}
use Rattle.hy_core.specs.declared.info.SiteKind.{SiteKind}
use Rattle.hy_core.specs.declared.info.SiteKind.TheVariants as kind
use Rattle.hy_ir.specs.Arity.{bif_arity}
use Rattle.hy_ir.specs.Code as c
use Rattle.hy_ir.specs.Code.{Arms, NoArms, MoreArms, Code, Function, Lapse, NoLapse, LapseTo, Last}
use Rattle.hy_ir.specs.Code.{Part, Parts, NoParts, MoreParts, Tree, MakeTree}
use Rattle.hy_ir.specs.Meaning.{kind_at}
use Rattle.hy_ir.specs.declared.code.Constant.{Constant}
use Rattle.hy_ir.specs.declared.code.Constant.TheVariants as constant
use Rattle.hy_ir.specs.declared.code.Guard.{Guard}
use Rattle.hy_ir.specs.declared.code.Op.{Op}
use Rattle.hy_ir.specs.declared.code.Op.TheVariants as op
use Rattle.hy_ir.specs.declared.code.Test.{Test}
use Rattle.hy_ir.specs.declared.code.Test.TheVariants as test

abbrev pub is_constant : Constant → Bool
is_constant (constant.Int n) = is_in_range n
is_constant _ = true

abbrev pub is_built : Option SiteKind → (parts : ℕ) → Bool
is_built (Some kind.Cons) parts = parts == 2
is_built (Some kind.Tuple) parts = nat_le parts (2 ^ 20)
is_built _ parts = false

abbrev pub is_text_site : Option SiteKind → Bool
is_text_site (Some kind.String) = true
is_text_site _ = false

abbrev pub is_set_site : Option SiteKind → Bool
is_set_site (Some kind.Setelement) = true
is_set_site _ = false

abbrev pub takes_as : Option Function → (arguments : ℕ) → Bool
takes_as None arguments = false
takes_as (Some f) arguments = arguments == f.params

abbrev pub gives_so_many : (inner : Option ℕ) → ℕ → Bool
gives_so_many None count = count == 1
gives_so_many (Some values) count = count == values

abbrev pub is_outermost : (inner : Option ℕ) → Bool
is_outermost None = true
is_outermost (Some values) = false

abbrev pub are_registers : (registers : ℕ) → List ℕ → Bool
are_registers n [] = true
are_registers n (r ∷ rs) = nat_lt r n && are_registers n rs

module _ (code : Code) (n : ℕ) where
  abbrev pub checked : Op → Bool
  checked (op.Const out value) = nat_lt out n && is_constant value
  checked (op.Move out from) = nat_lt out n && nat_lt from n
  checked (op.Build site out args) =
      nat_lt out n && (are_registers n args && is_built (kind_at code.sites site) (length args))
  checked (op.Text site out text) =
      nat_lt out n
      && (is_text_site (kind_at code.sites site)
      && (nat_le 1 (length text) && nat_le (length text) (2 ^ 20)))
  checked (op.Set site out index tuple value) =
      nat_lt out n
      && ((nat_lt index n && (nat_lt tuple n && nat_lt value n))
      && is_set_site (kind_at code.sites site))
  checked (op.Bif out bif args) =
      nat_lt out n && (are_registers n args && (length args == bif_arity bif))
  checked (op.Call out f args) =
      nat_lt out n
      && (are_registers n args && takes_as (slice_get code.functions f) (length args))
  checked (op.Send node out to message) = nat_lt out n && (nat_lt to n && nat_lt message n)
  checked (op.Spawn node out f args) =
      nat_lt out n
      && (are_registers n args
      && (takes_as (slice_get code.functions f) (length args) && nat_le (length args) 255))
  checked (op.Show out value) = nat_lt out n && nat_lt value n

  abbrev pub all_checked : List Op → Bool
  all_checked [] = true
  all_checked (o ∷ os) = checked o && all_checked os

  abbrev pub test_checked : Test → Bool
  test_checked (test.Bind out from) = nat_lt out n && nat_lt from n
  test_checked (test.IsInt from value) = nat_lt from n
  test_checked (test.IsAtom from atom) = nat_lt from n
  test_checked (test.IsNil from) = nat_lt from n
  test_checked (test.IsText from text) = nat_lt from n
  test_checked (test.IsTuple from size outs) =
      nat_lt from n && (are_registers n outs && (length outs == size))
  test_checked (test.IsCons from head tail) =
      nat_lt from n && (nat_lt head n && nat_lt tail n)

  abbrev pub tests_checked : List Test → Bool
  tests_checked [] = true
  tests_checked (t ∷ ts) = test_checked t && tests_checked ts

  abbrev pub guard_checked : Guard → Bool
  guard_checked guard = all_checked guard.operations && nat_lt guard.register n

  abbrev mutual
    pub tree_checked : (inner : Option ℕ) → Tree → Bool
    tree_checked inner (MakeTree ps end) = parts_checked ps && last_checked inner end

    pub parts_checked : Parts → Bool
    parts_checked NoParts = true
    parts_checked (MoreParts p ps) = part_checked p && parts_checked ps

    pub part_checked : Part → Bool
    part_checked (c.Do o) = checked o
    part_checked (c.Within outs inner) =
        are_registers n outs && tree_checked (Some (length outs)) inner

    pub last_checked : (inner : Option ℕ) → Last → Bool
    last_checked inner (c.Give rs) = are_registers n rs && gives_so_many inner (length rs)
    last_checked inner (c.Tail f args) =
        is_outermost inner
        && (are_registers n args && takes_as (slice_get code.functions f) (length args))
    last_checked inner (c.Raise class reason) = nat_lt reason n
    last_checked inner (c.Fail reason) = nat_lt reason n
    last_checked inner (c.Choose xs) = arms_checked inner xs
    last_checked inner (c.Receive message xs lapse) =
        nat_lt message n && (arms_checked inner xs && lapse_checked inner lapse)

    pub arms_checked : (inner : Option ℕ) → Arms → Bool
    arms_checked inner NoArms = true
    arms_checked inner (MoreArms tests guard body xs) =
        (tests_checked tests && (guard_checked guard && tree_checked inner body))
        && arms_checked inner xs

    pub lapse_checked : (inner : Option ℕ) → Lapse → Bool
    lapse_checked inner NoLapse = true
    lapse_checked inner (LapseTo t) = tree_checked inner t

abbrev pub function_checked : Code → Function → Bool
function_checked code f = nat_le f.params f.registers && tree_checked code f.registers None f.body

abbrev pub functions_checked : Code → List Function → Bool
functions_checked code [] = true
functions_checked code (f ∷ fs) = function_checked code f && functions_checked code fs

abbrev pub sites_checked : (functions : ℕ) → List SiteInfo → Bool
sites_checked functions [] = true
sites_checked functions (site ∷ sites) =
    nat_lt site.function functions && sites_checked functions sites

abbrev pub code_checked : Code → Bool
code_checked code =
    (nat_le (length code.functions) 65535 && nat_le (length code.sites) (2 ^ 20))
    && ((length code.names == length code.functions)
    && (sites_checked (length code.functions) code.sites && functions_checked code code.functions))
