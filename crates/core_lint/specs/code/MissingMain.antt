-- The check for the export of 'main'/0.
use Rattle.std.specs.Prelude.{List, [], ◌∷◌, length, codes, Option, Some, None, if◌then◌else◌}
use Rattle.hy_core.specs.Faults.{fault}
use Rattle.hy_core.specs.declared.fault.LintFault.{LintFault}
use Rattle.hy_core.specs.declared.tree.Module.{Module}
use Rattle.core_lint.specs.code.Exports.{exports_name}

-- the fault of the first of these modules
abbrev pub first_missing : List Module → Option LintFault
first_missing [] = None
first_missing (m ∷ ms) = if exports_name m m.exports (codes "main") 0 then None
    else Some (fault 6 0 (length m.functions) 0)
