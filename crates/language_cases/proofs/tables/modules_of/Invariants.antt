use Rattle.std.proofs.Common.{take}
use Rattle.std.specs.List.{AllZip}
use Rattle.hy_core.specs.Reading.{IsModuleText}
use Rattle.language_cases.proofs.tables.modules_of.Given as goal

-- the texts so far are those of the modules
abbrev pub invariant-loop-text : goal.invariant-loop-text
invariant-loop-text l = AllZip IsModuleText (take l.text-index l.texts) l.modules.items
