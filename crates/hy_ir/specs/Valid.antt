-- Code that an engine carries out without a look at what it names: this project's own.
use Rattle.std.specs.Prelude.{◌≡◌, ℕ, ◌<◌, ◌≤◌, ◌^◌, List, [], ◌∷◌, length}
use Rattle.std.specs.Prelude.{Option, Some, None, slice_get}
use Rattle.std.specs.List.{All}
use Rattle.hy_terms.specs.Range.{IsNumber}
use Rattle.hy_core.specs.declared.info.SiteKind.{SiteKind}
use Rattle.hy_core.specs.declared.info.SiteKind.TheVariants as kind
use Rattle.hy_ir.specs.Arity.{bif_arity}
use Rattle.hy_ir.specs.Code as c
use Rattle.hy_ir.specs.Code.{Arms, NoArms, MoreArms, Code, Function, Lapse, NoLapse, LapseTo, Last}
use Rattle.hy_ir.specs.Code.{Part, Parts, NoParts, MoreParts, Tree, MakeTree}
use Rattle.hy_ir.specs.Meaning.{kind_at}
use Rattle.hy_ir.specs.declared.code.Constant.{Constant}
use Rattle.hy_ir.specs.declared.code.Constant.TheVariants as constant
use Rattle.hy_ir.specs.declared.code.Guard.{Guard}
use Rattle.hy_ir.specs.declared.code.Op.{Op}
use Rattle.hy_ir.specs.declared.code.Op.TheVariants as op
use Rattle.hy_ir.specs.declared.code.Test.{Test}
use Rattle.hy_ir.specs.declared.code.Test.TheVariants as test

-- a number is in the range of a program's numbers
abbrev pub IsConstant : Constant → Type 0
IsConstant (constant.Int n) = IsNumber n
IsConstant _ = Unit {0}

-- a cons of two parts, or a tuple of at most 2^20
abbrev pub IsBuilt : Option SiteKind → (parts : ℕ) → Type 0
IsBuilt (Some kind.Cons) parts = parts ≡ 2
IsBuilt (Some kind.Tuple) parts = parts ≤ 2 ^ 20
IsBuilt _ parts = ⊥

-- the function is there, and takes so many arguments
abbrev pub TakesAs : Option Function → (arguments : ℕ) → Type 0
TakesAs None arguments = ⊥
TakesAs (Some f) arguments = arguments ≡ f.params

-- How many values a tree gives: an inner tree as many as its part says, a function's body one.
abbrev pub Values : Type 0
Values = Option ℕ

abbrev pub GivesSoMany : (inner : Values) → ℕ → Type 0
GivesSoMany None count = count ≡ 1
GivesSoMany (Some values) count = count ≡ values

module _ (code : Code) (registers : ℕ) where
  abbrev pub IsRegister : ℕ → Type 0
  IsRegister r = r < registers

  abbrev pub AreRegisters : List ℕ → Type 0
  AreRegisters rs = All IsRegister rs

  abbrev pub Takes : (function arguments : ℕ) → Type 0
  Takes f arguments = TakesAs (slice_get code.functions f) arguments

  abbrev pub IsValidOperation : Op → Type 0
  IsValidOperation (op.Const out value) = IsRegister out × IsConstant value
  IsValidOperation (op.Move out from) = IsRegister out × IsRegister from
  IsValidOperation (op.Build site out args) =
      IsRegister out × AreRegisters args × IsBuilt (kind_at code.sites site) (length args)
  IsValidOperation (op.Text site out text) =
      IsRegister out × (kind_at code.sites site ≡ Some kind.String) × (1 ≤ length text)
      × (length text ≤ 2 ^ 20)
  IsValidOperation (op.Set site out index tuple value) =
      IsRegister out × AreRegisters (index ∷ tuple ∷ value ∷ [])
      × (kind_at code.sites site ≡ Some kind.Setelement)
  IsValidOperation (op.Bif out bif args) =
      IsRegister out × AreRegisters args × (length args ≡ bif_arity bif)
  IsValidOperation (op.Call out f args) =
      IsRegister out × AreRegisters args × Takes f (length args)
  IsValidOperation (op.Send node out to message) =
      IsRegister out × IsRegister to × IsRegister message
  IsValidOperation (op.Spawn node out f args) =
      IsRegister out × AreRegisters args × Takes f (length args) × (length args ≤ 255)
  IsValidOperation (op.Show out value) = IsRegister out × IsRegister value

  abbrev pub IsValidTest : Test → Type 0
  IsValidTest (test.Bind out from) = IsRegister out × IsRegister from
  IsValidTest (test.IsInt from n) = IsRegister from
  IsValidTest (test.IsAtom from atom) = IsRegister from
  IsValidTest (test.IsNil from) = IsRegister from
  IsValidTest (test.IsText from text) = IsRegister from
  IsValidTest (test.IsTuple from size outs) =
      IsRegister from × AreRegisters outs × (length outs ≡ size)
  IsValidTest (test.IsCons from head tail) = IsRegister from × IsRegister head × IsRegister tail

  abbrev pub IsValidGuard : Guard → Type 0
  IsValidGuard guard = All IsValidOperation guard.operations × IsRegister guard.register

  abbrev mutual
    pub IsValidTree : (inner : Values) → Tree → Type 0
    IsValidTree inner (MakeTree ps end) = AreValidParts ps × IsValidLast inner end

    pub AreValidParts : Parts → Type 0
    AreValidParts NoParts = Unit {0}
    AreValidParts (MoreParts p ps) = IsValidPart p × AreValidParts ps

    -- an inner tree gives as many values as there are outs
    pub IsValidPart : Part → Type 0
    IsValidPart (c.Do o) = IsValidOperation o
    IsValidPart (c.Within outs inner) =
        AreRegisters outs × IsValidTree (Some (length outs)) inner

    -- no tail call stands in an inner tree
    pub IsValidLast : (inner : Values) → Last → Type 0
    IsValidLast inner (c.Give rs) = AreRegisters rs × GivesSoMany inner (length rs)
    IsValidLast inner (c.Tail f args) =
        (inner ≡ None) × AreRegisters args × Takes f (length args)
    IsValidLast inner (c.Raise class reason) = IsRegister reason
    IsValidLast inner (c.Fail reason) = IsRegister reason
    IsValidLast inner (c.Choose xs) = AreValidArms inner xs
    IsValidLast inner (c.Receive message xs lapse) =
        IsRegister message × AreValidArms inner xs × IsValidLapse inner lapse

    pub AreValidArms : (inner : Values) → Arms → Type 0
    AreValidArms inner NoArms = Unit {0}
    AreValidArms inner (MoreArms tests guard body xs) =
        All IsValidTest tests × IsValidGuard guard × IsValidTree inner body
        × AreValidArms inner xs

    pub IsValidLapse : (inner : Values) → Lapse → Type 0
    IsValidLapse inner NoLapse = Unit {0}
    IsValidLapse inner (LapseTo t) = IsValidTree inner t

pub record IsValidFunction (code : Code) (f : Function) : Type 0 where
  pub params : f.params ≤ f.registers
  pub body : IsValidTree code f.registers None f.body

pub record IsValid (code : Code) : Type 0 where
  pub few_functions : length code.functions ≤ 65535
  pub few_sites : length code.sites ≤ 2 ^ 20
  pub names : length code.names ≡ length code.functions
  pub sites : All (λ site. site.function < length code.functions) code.sites
  pub functions : All (IsValidFunction code) code.functions
