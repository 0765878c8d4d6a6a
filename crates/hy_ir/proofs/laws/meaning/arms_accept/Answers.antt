use Rattle.std.proofs.Common.{◌≡◌, ℕ, Option, Some, None, refl}
use Rattle.hy_terms.specs.declared.term.Colour.{Colour}
use Rattle.hy_core.specs.Evaluation.{is_some}
use Rattle.hy_ir.specs.Accepting.{accept_some, accepted}
use Rattle.hy_ir.specs.Code.{Arms, NoArms, MoreArms, Code}
use Rattle.hy_ir.specs.Meaning.{arms, Doing, first_arm}
use Rattle.hy_ir.specs.MeaningLaws.{Follows}
use Rattle.hy_ir.specs.Registers.{Registers}
use Rattle.std.proofs.Common.{Bool, true}
use Rattle.std.specs.Prelude.{if◌then◌else◌}
use Rattle.hy_ir.proofs.laws.meaning.arms_accept.Goals as goal

one_arm : (o : Option Registers) (k : Registers → Doing) (others : Option Doing) (rest : Bool)
    → is_some others ≡ rest
    → is_some (first_arm o k others) ≡ (if is_some o then true else rest)
one_arm None k others rest same = same
one_arm (Some regs) k others rest same = refl

module _ (code : Code) (place : ℕ → Colour) (pid : ℕ) (follows : Follows) where
  some_arm : (xs : Arms) (regs : Registers)
      → is_some (arms code place pid xs regs follows.values follows.raised)
      ≡ accept_some code.atoms pid xs regs
  some_arm NoArms regs = refl
  some_arm (MoreArms tests guard body xs) regs =
      one_arm (accepted code.atoms pid tests guard regs) _ _ _ (some_arm xs regs)

pub returns : goal.returns
returns c code place pid follows = record { some = some_arm code place pid follows }
