use Rattle.std.proofs.Common.{◌∙◌, ap}
use Rattle.hy_core.specs.Numbered.{program_sites}
use Rattle.language_cases.proofs.tables.linted_of.Goals as goal

-- the sites are those of the program of the modules
pub returns-in-Ok-clause-sites : goal.returns-in-Ok-clause-sites
returns-in-Ok-clause-sites c = c.in-Ok.ensures.sites ∙ ap program_sites c.in_ok-program.ensures
