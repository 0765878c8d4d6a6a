use Rattle.std.proofs.Common.{◌≡◌, ◌++◌, drop}
use Rattle.std.specs.List.{flat_map}
use Rattle.language_cases.specs.Tables.{site_text}
use Rattle.language_cases.proofs.tables.sites_in.Given as goal

abbrev pub invariant-loop-site : goal.invariant-loop-site
invariant-loop-site l =
    l.line.items ++ flat_map site_text (drop l.site-index l.sites) ≡ flat_map site_text l.sites
