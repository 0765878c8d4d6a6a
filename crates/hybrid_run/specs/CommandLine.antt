-- The words of the command line. This project's own.
use Rattle.std.specs.Prelude.{◌≡◌, ◌⊎◌, ℕ, ◌≤◌, ◌==◌, Bool, false, List, [], ◌∷◌, ◌++◌, codes, length}
use Rattle.hybrid_run.specs.declared.command.Mode.{Mode}
use Rattle.hybrid_run.specs.declared.command.Mode.TheVariants as m

-- a word that begins with `-` and isn't `-` alone
abbrev pub is_option : List ℕ → Bool
is_option [] = false
is_option (b ∷ []) = false
is_option (b ∷ c ∷ bs) = b == 45

-- The words have these values of `--mode` and these files, each in order. A value is the next word,
-- or follows `=` in the same word. Behind the first `--` every word is a file.
pub data AreWords : List (List ℕ) → List (List ℕ) → List (List ℕ) → Type 0 where
  over : AreWords [] [] []
  file : {word : List ℕ} {words modes files : List (List ℕ)} → is_option word ≡ false
      → AreWords words modes files → AreWords (word ∷ words) modes (word ∷ files)
  value_next : {value : List ℕ} {words modes files : List (List ℕ)} → AreWords words modes files
      → AreWords (codes "--mode" ∷ value ∷ words) (value ∷ modes) files
  value_inside : {value : List ℕ} {words modes files : List (List ℕ)} → AreWords words modes files
      → AreWords ((codes "--mode=" ++ value) ∷ words) (value ∷ modes) files
  files_alone : {files : List (List ℕ)} → AreWords (codes "--" ∷ files) [] files

-- the mode that the values of `--mode` give, of which there is one at most
pub data GiveMode : List (List ℕ) → Mode → Type 0 where
  absent : GiveMode [] m.Run
  run : GiveMode (codes "run" ∷ []) m.Run
  check : GiveMode (codes "check" ∷ []) m.Check

abbrev pub most_files : ℕ
most_files = 64

-- the words are a command line: this mode, for these files
pub record IsCommand (words : List (List ℕ)) (mode : Mode) (files : List (List ℕ)) : Type 0 where
  pub modes : List (List ℕ)
  pub are_words : AreWords words modes files
  pub give_mode : GiveMode modes mode
  pub some : 1 ≤ length files
  pub few : length files ≤ most_files

-- the words are no command line
abbrev pub IsUsage : List (List ℕ) → Type 0
IsUsage words = (mode : Mode) (files : List (List ℕ)) → IsCommand words mode files → ⊥

-- the files that the words name; words that are no command line name none
abbrev pub NameFiles : List (List ℕ) → List (List ℕ) → Type 0
NameFiles words files =
    ((mode : Mode) × IsCommand words mode files) ⊎ (IsUsage words × (files ≡ []))
