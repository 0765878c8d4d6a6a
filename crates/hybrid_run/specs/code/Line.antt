-- The words of the command line, one after the other.
use Rattle.std.specs.Prelude.{◌≡◌, ℕ, ◌&&◌, nat_le, if◌then◌else◌, List, [], ◌∷◌, ◌++◌, codes, length, Option, Some, None, Result, Ok, Err}
use Rattle.std.specs.Str.{bytes_eq}
use Rattle.hybrid_run.specs.CommandLine.{is_option, most_files}
use Rattle.hybrid_run.specs.declared.command.Command.{Command}
use Rattle.hybrid_run.specs.declared.command.Line.{Line}
use Rattle.hybrid_run.specs.declared.command.Mode.{Mode}
use Rattle.hybrid_run.specs.declared.command.Mode.TheVariants as m
use Rattle.hybrid_run.specs.declared.command.Next.{Next}
use Rattle.hybrid_run.specs.declared.command.Next.TheVariants as next
use Rattle.hybrid_run.specs.declared.fault.TopFault.{TopFault}
use Rattle.hybrid_run.specs.declared.fault.TopFault.TheVariants.{Usage, Memory}

abbrev pub mode_named : List ℕ → Option Mode
mode_named value =
    if bytes_eq value (codes "run") then Some m.Run
    else if bytes_eq value (codes "check") then Some m.Check
    else None

-- what is behind a prefix
abbrev pub behind : List ℕ → List ℕ → Option (List ℕ)
behind [] word = Some word
behind (p ∷ ps) [] = None
behind (p ∷ ps) (b ∷ bs) = if bytes_eq (p ∷ []) (b ∷ []) then behind ps bs else None

abbrev pub line_at : Next → Option Mode → List (List ℕ) → Line
line_at n mode files = record { next = n; mode = mode; files = files }

abbrev pub with_file : Line → List ℕ → Line
with_file line word = line_at line.next line.mode (line.files ++ word ∷ [])

-- the first value of `--mode`
abbrev pub first_mode : Option Mode → Option Mode → List (List ℕ) → Option Line
first_mode None (Some mode) files = Some (line_at next.Any (Some mode) files)
first_mode _ _ files = None

abbrev pub with_value : Line → List ℕ → Option Line
with_value line value = first_mode line.mode (mode_named value) line.files

abbrev pub with_option_value : Line → Option (List ℕ) → Option Line
with_option_value line None = None
with_option_value line (Some value) = with_value line value

-- one word that may be an option
abbrev pub with_any : Line → List ℕ → Option Line
with_any line word =
    if is_option word
    then
    (if bytes_eq word (codes "--") then Some (line_at next.File line.mode line.files)
    else if bytes_eq word (codes "--mode") then Some (line_at next.Value line.mode line.files)
    else with_option_value line (behind (codes "--mode=") word))
    else Some (with_file line word)

abbrev pub with_word_at : Next → Line → List ℕ → Option Line
with_word_at next.Any line word = with_any line word
with_word_at next.Value line word = with_value line word
with_word_at next.File line word = Some (with_file line word)

-- one word more
abbrev pub with_word : Line → List ℕ → Option Line
with_word line word = with_word_at line.next line word

abbrev pub mode_or_run : Option Mode → Mode
mode_or_run None = m.Run
mode_or_run (Some mode) = mode

-- there are 1 to 64 files
abbrev pub command_of : Mode → List (List ℕ) → Option (Mode × List (List ℕ))
command_of mode files =
    if nat_le 1 (length files) && nat_le (length files) most_files then Some (mode, files) else None

abbrev pub ended_at : Next → Line → Option (Mode × List (List ℕ))
ended_at next.Value line = None
ended_at _ line = command_of (mode_or_run line.mode) line.files

-- no word more
abbrev pub ended : Line → Option (Mode × List (List ℕ))
ended line = ended_at line.next line

abbrev pub Reading : Type 0
Reading = Line → Option (Mode × List (List ℕ))

-- the line, where there is one, read on
abbrev pub read_on : Option Line → Reading
    → Option (Mode × List (List ℕ))
read_on None reading = None
read_on (Some line) reading = reading line

-- the words behind those of the line
abbrev pub command_from : List (List ℕ) → Reading
command_from [] line = ended line
command_from (word ∷ words) line = read_on (with_word line word) (command_from words)

abbrev pub no_words : Line
no_words = line_at next.Any None []

abbrev pub command_in : List (List ℕ) → Option (Mode × List (List ℕ))
command_in words = command_from words no_words

-- the line after a word, or usage, or want of memory
abbrev pub GivesLine : Result (Unit {0}) TopFault → Line → Option Line → Type 0
GivesLine (Ok _) line o = o ≡ Some line
GivesLine (Err Usage) line o = o ≡ None
GivesLine (Err Memory) line o = Unit {0}
GivesLine (Err _) line o = ⊥

-- the command, or usage, or want of memory
abbrev pub GivesCommand : Result Command TopFault → Option (Mode × List (List ℕ)) → Type 0
GivesCommand (Ok command) o = o ≡ Some (command.mode, command.files)
GivesCommand (Err Usage) o = o ≡ None
GivesCommand (Err Memory) o = Unit {0}
GivesCommand (Err _) o = ⊥
