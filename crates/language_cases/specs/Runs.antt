-- What is written for a run of the whole program. This project's own.
use Rattle.std.specs.Prelude.{◌≡◌, ℕ, List, [], ◌∷◌, ◌++◌, codes, length, Option, Some, None, IfSome}
use Rattle.std.specs.Fmt.{decimal}
use Rattle.hybrid_run.specs.Answers.{Answers}
use Rattle.hybrid_run.specs.CommandLine.{IsCommand, NameFiles}
use Rattle.hybrid_run.specs.Faults.{IsOfFiles, text_of_fault}
use Rattle.hybrid_run.specs.Headline.{sunk}
use Rattle.hybrid_run.specs.Loading.{Sourced}
use Rattle.hybrid_run.specs.declared.command.Mode.{Mode}
use Rattle.hybrid_run.specs.declared.fault.TopFault.{TopFault}
use Rattle.language_cases.specs.Pieces.{shortened}
use Rattle.language_cases.specs.declared.commands.Run.{Run}

-- what was written into an empty sink, and the end, are what `hybrid` answers for a command
abbrev pub DoesAsHybrid : List (List ℕ) → Sourced → Run → Type 0
DoesAsHybrid words sources run =
    (mode : Mode) (files : List (List ℕ)) → IsCommand words mode files → (failed : ℕ)
    × Answers mode files sources (sunk (Some []) (Some run.written.items) 0 failed) run.finish

-- the fault names one of the files
abbrev pub NamesFiles : Run → List (List ℕ) → Type 0
NamesFiles run words =
    (names : List (List ℕ)) → NameFiles words names →
    IfSome run.finish.refused (λ fault. IsOfFiles fault (length names))

-- the line for a fault of these words
abbrev pub IsFaultLine : TopFault → List (List ℕ) → List ℕ → Type 0
IsFaultLine fault words line =
    (names : List (List ℕ)) × NameFiles words names × (line ≡ text_of_fault fault names)

-- what is said of a fault, where there is one
abbrev pub IsSaid : Option TopFault → List (List ℕ) → List ℕ → Type 0
IsSaid None words said = said ≡ []
IsSaid (Some fault) words said = IsFaultLine fault words said

-- what was written, the status, and what is said of the fault
abbrev pub IsRunText : Run → List (List ℕ) → List ℕ → Type 0
IsRunText run words text =
    (said : List ℕ) × IsSaid run.finish.refused words said
    × (text ≡
    shortened run.written.items
    ++ codes "status "
    ++ decimal run.finish.status
    ++ 10 ∷ []
    ++ said)
