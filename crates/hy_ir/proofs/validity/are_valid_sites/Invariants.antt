use Rattle.std.proofs.Common.{◌≡◌, drop}
use Rattle.hy_ir.specs.Checking.{sites_checked}
use Rattle.hy_ir.proofs.validity.are_valid_sites.Given as goal

abbrev pub invariant-loop-site : goal.invariant-loop-site
invariant-loop-site l =
    sites_checked l.functions (drop l.site-index l.sites) ≡ sites_checked l.functions l.sites
