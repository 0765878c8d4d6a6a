-- What is written for a text: its module, or its refusal. This project's own.
use Rattle.std.specs.Prelude.{◌≡◌, ℕ, List, [], ◌∷◌, ◌++◌, codes, take, drop, ◌⊎◌}
use Rattle.std.specs.Fmt.{decimal}
use Rattle.hy_terms.specs.Texts.{quoted}
use Rattle.hy_core.specs.Canonical.{canonical_text}
use Rattle.hy_core.specs.Reading.{IsModuleText}
use Rattle.hy_core.specs.Refusals.{IsRefusedText}
use Rattle.hy_core.specs.declared.refusal.RefusalKind.{RefusalKind}
use Rattle.hy_core.specs.declared.tree.Module.{Module}
use Rattle.hybrid_run.specs.Faults.{kind_name}
use Rattle.language_cases.specs.Pieces.{most_there, names_line, shortened}

-- the canonical text of a module, and its tables of atoms and variables
abbrev pub module_answer : Module → List ℕ
module_answer z =
    shortened (canonical_text z)
    ++ names_line (codes "atoms") z.atoms
    ++ names_line (codes "variables") z.variables

-- a kind of refusal, its place, and what stands there
abbrev pub refused_answer : List ℕ → RefusalKind → ℕ → List ℕ
refused_answer text kind place =
    kind_name kind
    ++ codes " at "
    ++ decimal place
    ++ codes " "
    ++ quoted 96 (take most_there (drop place text))
    ++ 10 ∷ []

-- what is written for a text: of the module that it is, or of its refusal
abbrev pub IsTreeAnswer : (text answer : List ℕ) → Type 0
IsTreeAnswer text answer =
    ((z : Module) × IsModuleText text z × (answer ≡ module_answer z))
    ⊎ ((kind : RefusalKind) × (place : ℕ) × IsRefusedText text kind place
    × (answer ≡ refused_answer text kind place))
