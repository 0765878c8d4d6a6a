-- What is so of the atoms of modules that are read. Each law is the clause of a function in the
-- module `laws`.
use Rattle.std.specs.Prelude.{◌≡◌, ℕ, List}
use Rattle.std.specs.List.{AllByRecursion, AllZip}
use Rattle.hy_core.specs.Canonical.{canonical_text}
use Rattle.hy_core.specs.NameFaults.{modules_of}
use Rattle.hy_core.specs.PreludeModules.{with_prelude}
use Rattle.hy_core.specs.Reading.{IsModuleText}
use Rattle.hy_core.specs.declared.tree.Module.{Module}
use Rattle.core_lint.specs.Linted.{IsOfText, KeepsText, with_table}
use Rattle.core_lint.specs.ModuleAtoms.{HasOwnAtoms}

-- each atom that a module of a text names stands in its own table
abbrev pub ReadHaveOwnAtoms : Type 0
ReadHaveOwnAtoms = (text : List ℕ) (z : Module) → IsModuleText text z → HasOwnAtoms z

-- over this table the module has the canonical text that the given one has over its own
abbrev pub HasText : (table : List (List ℕ)) → (before now : Module) → Type 0
HasText table before now = canonical_text (with_table table now) ≡ canonical_text before

-- so what the linter says of texts holds of each module of a program that is read
abbrev pub LintedKeepTexts : Type 0
LintedKeepTexts =
    (table : List (List ℕ)) (given now : List Module) → AllByRecursion IsOfText given
    → AllZip (KeepsText table) (modules_of (with_prelude given)) now
    → AllZip (HasText table) (modules_of (with_prelude given)) now
