use Rattle.std.proofs.Common.{◌<◌, ◌^◌, length, ap, arith}
use Rattle.hy_core.specs.Numbered.{program_sites}
use Rattle.hy_core.specs.declared.fault.Form.TheVariants.{Sites}
use Rattle.core_lint.proofs.SizesLemmas.{many_sites, the_fault}
use Rattle.core_lint.proofs.sizes.numbered_within.Goals as goal

pub returns-then-len-gt-MOST_SITES-clause-great : goal.returns-then-len-gt-MOST_SITES-clause-great
returns-then-len-gt-MOST_SITES-clause-great c fault e =
    let program = c.args.program in
    let many : 2 ^ 20 < length (program_sites program) = omega (arith, c.len.ensures, ap length c.in_ok-numbered.ensures.sites, c.if-len-gt-MOST_SITES.true) in
    the_fault program c.fault_of_size.result Sites fault c.fault_of_size.ensures e (many_sites program c.requires.within many)
