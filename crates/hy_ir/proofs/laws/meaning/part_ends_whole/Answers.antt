use Rattle.std.proofs.Common.{[]}
use Rattle.hy_core.specs.Computation as doing
use Rattle.hy_ir.specs.Meaning.{last, parts, tree}
use Rattle.hy_ir.specs.MeaningLaws.{alone}
use Rattle.hy_ir.specs.Code.{MakeTree, MoreParts}
use Rattle.hy_ir.proofs.Endings.{comes_as_far, given, part_extends, raised}
use Rattle.hy_ir.proofs.laws.meaning.part_ends_whole.Goals as goal

pub returns : goal.returns
returns c code place pid p ps end k regs calls inputs never =
    comes_as_far code place pid calls (alone code place pid p regs)
    (tree code place pid (MakeTree (MoreParts p ps) end) regs k
    (λ class reason r. doing.Raise class reason))
    (part_extends code place pid (λ class t r. doing.Raise class t)
    (λ class t r. doing.Raise class t) (λ class t r. raised class t) p regs
    (λ r. doing.Give [])
    (λ r. parts code place pid ps r
    (λ r'. last code place pid end r' k (λ class reason r. doing.Raise class reason))
    (λ class reason r. doing.Raise class reason))
    (λ r. given [] _))
    inputs never
