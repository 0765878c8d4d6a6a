-- The words, read one after the other, give the command that they are.
use Rattle.std.proofs.Common.{◌≡◌, ℕ, suc, zero, ◌+◌, ◌≤◌, Bool, true, false, nat_le, List, [], ◌∷◌, ◌++◌, codes, drop, length, slice_get, Option, Some, None, Result, Err, refl, sym, ap, subst, ◌∙◌, append_assoc, arith}
use Rattle.std.specs.Str.{bytes_eq}
use Rattle.std.proofs.lemmas.Bool.Decides.{nat_tests}
use Rattle.std.proofs.lemmas.List.{append-nil}
use Rattle.std.proofs.lemmas.Slice.Eq.{bytes_eq-Decides}
use Rattle.hybrid_run.specs.CommandLine.{is_option, AreWords, over, file, value_next, value_inside, files_alone, GiveMode, absent, run, check, most_files, IsCommand, IsUsage}
use Rattle.hybrid_run.specs.code.Line.{mode_named, behind, line_at, with_any, with_word, with_value, with_option_value, mode_or_run, command_of, command_from, command_in, read_on, GivesLine, GivesCommand}
use Rattle.hybrid_run.specs.declared.command.Command.{Command}
use Rattle.hybrid_run.specs.declared.command.Mode.{Mode}
use Rattle.hybrid_run.specs.declared.command.Mode.TheVariants as m
use Rattle.hybrid_run.specs.declared.command.Next.{Next}
use Rattle.hybrid_run.specs.declared.command.Next.TheVariants as next
use Rattle.hybrid_run.specs.declared.command.Line.{Line}
use Rattle.hybrid_run.specs.declared.fault.TopFault.{TopFault}
use Rattle.hybrid_run.specs.declared.fault.TopFault.TheVariants as f

-- the mode so far, and the values behind it, give this mode
pub data Gives : Option Mode → List (List ℕ) → Mode → Type 0 where
  first : {modes : List (List ℕ)} {mode : Mode} → GiveMode modes mode → Gives None modes mode
  already : {mode : Mode} → Gives (Some mode) [] mode

-- ---- from the words to the command

all_files : (words : List (List ℕ)) (mode : Option Mode) (files : List (List ℕ)) → command_from words (line_at next.File mode files) ≡ command_of (mode_or_run mode) (files ++ words)
all_files [] mode files = ap (command_of (mode_or_run mode)) (sym (append-nil files))
all_files (word ∷ words) mode files = all_files words mode (files ++ word ∷ []) ∙ ap (command_of (mode_or_run mode)) (append_assoc files (word ∷ []) words)

mode_at_end : (so_far : Option Mode) (mode : Mode) → Gives so_far [] mode → mode_or_run so_far ≡ mode
mode_at_end None _ (first absent) = refl
mode_at_end (Some mode) _ already = refl

-- a value is taken where none was, and then no other may follow
value_taken : (so_far : Option Mode) (value : List ℕ) (modes : List (List ℕ)) (mode : Mode) (n : Next) (files : List (List ℕ)) → Gives so_far (value ∷ modes) mode
    → (modes ≡ []) × (with_value (line_at n so_far files) value ≡ Some (line_at next.Any (Some mode) files))
value_taken None _ _ _ n files (first run) = (refl, refl)
value_taken None _ _ _ n files (first check) = (refl, refl)
value_taken (Some _) value modes mode n files gives = elim gives [ ]

given_from : (modes : List (List ℕ)) (mode : Mode) → modes ≡ [] → Gives (Some mode) modes mode
given_from modes mode is = subst (λ (vs : List (List ℕ)). Gives (Some mode) vs mode) (sym is) already

words_read : {words modes files : List (List ℕ)} → AreWords words modes files → (so_far : Option Mode) (before : List (List ℕ)) (mode : Mode) → Gives so_far modes mode
    → command_from words (line_at next.Any so_far before) ≡ command_of mode (before ++ files)
words_read over so_far before mode gives = ap (λ (k : Mode). command_of k before) (mode_at_end so_far mode gives) ∙ ap (command_of mode) (sym (append-nil before))
words_read (file {word = word} {words = words} {files = files} is d) so_far before mode gives =
    rw is (words_read d so_far (before ++ word ∷ []) mode gives ∙ ap (command_of mode) (append_assoc before (word ∷ []) files))
words_read (value_next {value = value} {words = words} {modes = modes} d) so_far before mode gives =
    let taken = value_taken so_far value modes mode next.Value before gives in
    ap (λ (o : Option Line). read_on o (command_from words)) taken.1 ∙ words_read d (Some mode) before mode (given_from modes mode taken.0)
words_read (value_inside {value = value} {words = words} {modes = modes} d) so_far before mode gives =
    let taken = value_taken so_far value modes mode next.Any before gives in
    ap (λ (o : Option Line). read_on o (command_from words)) taken.1 ∙ words_read d (Some mode) before mode (given_from modes mode taken.0)
words_read (files_alone {files = files}) so_far before mode gives = all_files files so_far before ∙ ap (λ (k : Mode). command_of k (before ++ files)) (mode_at_end so_far mode gives)

counted : (mode : Mode) (files : List (List ℕ)) → 1 ≤ length files → length files ≤ most_files → command_of mode files ≡ Some (mode, files)
counted mode files some few =
    let low : nat_le 1 (length files) ≡ true = grind (arith, nat_tests, some) in
    let high : nat_le (length files) most_files ≡ true = grind (arith, nat_tests, few) in
    rw (low, high) refl

pub command_is : (words : List (List ℕ)) (mode : Mode) (files : List (List ℕ)) → IsCommand words mode files → command_in words ≡ Some (mode, files)
command_is words mode files c = words_read c.are_words None [] mode (first c.give_mode) ∙ counted mode files c.some c.few

-- ---- from the command to the words

same_text : (a b : List ℕ) → bytes_eq a b ≡ true → a ≡ b
same_text a b is = (bytes_eq-Decides a b).0 is

abbrev Found : Type 0
Found = Option (Mode × List (List ℕ))

abbrev found : Mode → List (List ℕ) → Found
found mode files = Some (mode, files)

abbrev nothing : Found
nothing = None

abbrev mode_in : Found → Mode → Mode
mode_in None other = other
mode_in (Some command) other = command.0

abbrev files_in : Found → List (List ℕ) → List (List ℕ)
files_in None other = other
files_in (Some command) other = command.1

abbrev named_mode : Mode → Option Mode
named_mode mode = Some mode

abbrev no_mode : Option Mode
no_mode = None

abbrev no_text : Option (List ℕ)
no_text = None

abbrev some_text : List ℕ → Option (List ℕ)
some_text text = Some text

value_names : (value : List ℕ) (mode : Mode) → mode_named value ≡ named_mode mode → GiveMode (value ∷ []) mode
value_names value mode is = by (bytes_eq value (codes "run")) (bytes_eq value (codes "check")) refl refl
  where
    by : (first second : Bool) → bytes_eq value (codes "run") ≡ first → bytes_eq value (codes "check") ≡ second → GiveMode (value ∷ []) mode
    by true second p q =
        let named : named_mode m.Run ≡ named_mode mode = rw p at is in
        let same : m.Run ≡ mode = cc in
        subst (λ (k : Mode). GiveMode (value ∷ []) k) same (subst (λ (text : List ℕ). GiveMode (text ∷ []) m.Run) (sym (same_text value (codes "run") p)) run)
    by false true p q =
        let named : named_mode m.Check ≡ named_mode mode = rw (p, q) at is in
        let same : m.Check ≡ mode = cc in
        subst (λ (k : Mode). GiveMode (value ∷ []) k) same (subst (λ (text : List ℕ). GiveMode (text ∷ []) m.Check) (sym (same_text value (codes "check") q)) check)
    by false false p q = absurd (let bad : no_mode ≡ named_mode mode = rw (p, q) at is in cc)

-- there are 1 to 64 files where a command is given for them
record Counted (mode given : Mode) (files : List (List ℕ)) (named : List (List ℕ)) : Type 0 where
  same_mode : given ≡ mode
  same_files : named ≡ files
  some : 1 ≤ length files
  few : length files ≤ most_files

counts : (given mode : Mode) (named files : List (List ℕ)) → command_of given named ≡ found mode files → Counted mode given files named
counts given mode named files is = by (nat_le 1 (length named)) (nat_le (length named) most_files) refl refl
  where
    by : (low high : Bool) → nat_le 1 (length named) ≡ low → nat_le (length named) most_files ≡ high → Counted mode given files named
    by true true p q =
        let both : found given named ≡ found mode files = rw (p, q) at is in
        let same : named ≡ files = ap (λ (o : Found). files_in o named) both in
        record {
          same_mode = ap (λ (o : Found). mode_in o given) both;
          same_files = same;
          some = subst (λ (fs : List (List ℕ)). 1 ≤ length fs) same (grind (arith, nat_tests, p));
          few = subst (λ (fs : List (List ℕ)). length fs ≤ most_files) same (grind (arith, nat_tests, q));
        }
    by true false p q = absurd (let bad : nothing ≡ found mode files = rw (p, q) at is in cc)
    by false high p q = absurd (let bad : nothing ≡ found mode files = rw p at is in cc)

-- the words behind those so far, as the command has them
record Came (words : List (List ℕ)) (so_far : Option Mode) (before : List (List ℕ)) (mode : Mode) (files : List (List ℕ)) : Type 0 where
  modes : List (List ℕ)
  named : List (List ℕ)
  are_words : AreWords words modes named
  gives : Gives so_far modes mode
  same_files : before ++ named ≡ files
  some : 1 ≤ length files
  few : length files ≤ most_files

gives_at_end : (so_far : Option Mode) (mode : Mode) → mode_or_run so_far ≡ mode → Gives so_far [] mode
gives_at_end None mode is = subst (λ (k : Mode). Gives None [] k) is (first absent)
gives_at_end (Some k) mode is = subst (λ (o : Mode). Gives (Some k) [] o) is already

-- a value of `--mode`, and the words behind it
came_behind : (value : List ℕ) (n : Next) (rest : List (List ℕ)) (so_far : Option Mode) (before : List (List ℕ)) (mode : Mode) (files : List (List ℕ)) → ((k : Mode) → command_from rest (line_at next.Any (Some k) before) ≡ found mode files → Came rest (Some k) before mode files)
    → read_on (with_value (line_at n so_far before) value) (command_from rest) ≡ found mode files → (words : List (List ℕ)) → ((named : List (List ℕ)) → AreWords rest [] named → AreWords words (value ∷ []) named) → Came words so_far before mode files
came_behind value n rest (Some k) before mode files on is words with_value = absurd cc
came_behind value n rest None before mode files on is words with_value = by (mode_named value) refl
  where
    by : (o : Option Mode) → mode_named value ≡ o → Came words None before mode files
    by None p = absurd (let bad : nothing ≡ found mode files = rw p at is in cc)
    by (Some k) p = taken k p (on k (rw p at is))
      where
        taken : (k : Mode) → mode_named value ≡ Some k → Came rest (Some k) before mode files → Came words None before mode files
        taken k p c = settle k p c.modes c.named c.are_words c.gives c.same_files c.some c.few
          where
            settle : (k : Mode) → mode_named value ≡ Some k → (modes named : List (List ℕ)) → AreWords rest modes named → Gives (Some k) modes mode → before ++ named ≡ files → 1 ≤ length files → length files ≤ most_files → Came words None before mode files
            settle _ p _ named d already same some few = record {
              modes = value ∷ [];
              named = named;
              are_words = with_value named d;
              gives = first (value_names value mode p);
              same_files = same;
              some = some;
              few = few;
            }

-- the first bytes of a word and of its prefix
first_byte : (p b : ℕ) (ps bs value : List ℕ) → (behind ps bs ≡ some_text value → ps ++ value ≡ bs) → (same : Bool) → bytes_eq (p ∷ []) (b ∷ []) ≡ same → behind (p ∷ ps) (b ∷ bs) ≡ some_text value → (p ∷ ps) ++ value ≡ b ∷ bs
first_byte p b ps bs value on true q is =
    let first : p ∷ [] ≡ b ∷ [] = same_text (p ∷ []) (b ∷ []) q in
    let head : p ≡ b = cc in
    ap (λ (k : ℕ). k ∷ (ps ++ value)) head ∙ ap (λ (k : List ℕ). b ∷ k) (on (rw q at is))
first_byte p b ps bs value on false q is = absurd (let bad : no_text ≡ some_text value = rw q at is in cc)

text_behind : (prefix word value : List ℕ) → behind prefix word ≡ some_text value → prefix ++ value ≡ word
text_behind [] word value is = cc
text_behind (p ∷ ps) [] value is = absurd cc
text_behind (p ∷ ps) (b ∷ bs) value is = first_byte p b ps bs value (text_behind ps bs value) (bytes_eq (p ∷ []) (b ∷ [])) refl is

-- a word that doesn't begin so has nothing behind it
pub none_behind : (prefix word : List ℕ) → ((value : List ℕ) → word ≡ prefix ++ value → ⊥) → behind prefix word ≡ None
none_behind prefix word never = by (behind prefix word) refl
  where
    by : (o : Option (List ℕ)) → behind prefix word ≡ o → behind prefix word ≡ None
    by None p = p
    by (Some value) p = absurd (never value (sym (text_behind prefix word value p)))

-- all words behind `--` are files
came_alone : (words : List (List ℕ)) (so_far : Option Mode) (before : List (List ℕ)) (mode : Mode) (files : List (List ℕ)) → command_from words (line_at next.File so_far before) ≡ found mode files → Came (codes "--" ∷ words) so_far before mode files
came_alone words so_far before mode files is =
    let c = counts (mode_or_run so_far) mode (before ++ words) files (sym (all_files words so_far before) ∙ is) in
    record { modes = []; named = words; are_words = files_alone; gives = gives_at_end so_far mode c.same_mode; same_files = c.same_files; some = c.some; few = c.few }

came_file : (word : List ℕ) (words : List (List ℕ)) (so_far : Option Mode) (before : List (List ℕ)) (mode : Mode) (files : List (List ℕ)) → is_option word ≡ false → Came words so_far (before ++ word ∷ []) mode files → Came (word ∷ words) so_far before mode files
came_file word words so_far before mode files is c = record {
  modes = c.modes;
  named = word ∷ c.named;
  are_words = file is c.are_words;
  gives = c.gives;
  same_files = sym (append_assoc before (word ∷ []) c.named) ∙ c.same_files;
  some = c.some;
  few = c.few;
}

-- words that are others as texts
came_same : (word other : List ℕ) (words : List (List ℕ)) (so_far : Option Mode) (before : List (List ℕ)) (mode : Mode) (files : List (List ℕ)) → other ≡ word → Came (other ∷ words) so_far before mode files → Came (word ∷ words) so_far before mode files
came_same word other words so_far before mode files is c = subst (λ (text : List ℕ). Came (text ∷ words) so_far before mode files) is c

-- one word more, which may be an option, where what is behind it is known
came_word : (word : List ℕ) (words : List (List ℕ)) (so_far : Option Mode) (before : List (List ℕ)) (mode : Mode) (files : List (List ℕ))
    → ((known : Option Mode) (named : List (List ℕ)) → command_from words (line_at next.Any known named) ≡ found mode files → Came words known named mode files)
    → (command_from words (line_at next.Value so_far before) ≡ found mode files → Came (codes "--mode" ∷ words) so_far before mode files)
    → command_from (word ∷ words) (line_at next.Any so_far before) ≡ found mode files → Came (word ∷ words) so_far before mode files
came_word word words so_far before mode files on on_value is = by (is_option word) (bytes_eq word (codes "--")) (bytes_eq word (codes "--mode")) refl refl refl
  where
    inside : (o : Option (List ℕ)) → behind (codes "--mode=") word ≡ o → read_on (with_option_value (line_at next.Any so_far before) o) (command_from words) ≡ found mode files → Came (word ∷ words) so_far before mode files
    inside None p h = absurd cc
    inside (Some v) p h =
        came_same word (codes "--mode=" ++ v) words so_far before mode files (text_behind (codes "--mode=") word v p)
        (came_behind v next.Any words so_far before mode files (λ k. on (Some k) before) h ((codes "--mode=" ++ v) ∷ words) (λ named d. value_inside d))

    by : (option alone value : Bool) → is_option word ≡ option → bytes_eq word (codes "--") ≡ alone → bytes_eq word (codes "--mode") ≡ value → Came (word ∷ words) so_far before mode files
    by false alone value p q r = came_file word words so_far before mode files p (on so_far (before ++ word ∷ []) (rw p at is))
    by true true value p q r = came_same word (codes "--") words so_far before mode files (sym (same_text word (codes "--") q)) (came_alone words so_far before mode files (rw (p, q) at is))
    by true false true p q r = came_same word (codes "--mode") words so_far before mode files (sym (same_text word (codes "--mode") r)) (on_value (rw (p, q, r) at is))
    by true false false p q r = inside (behind (codes "--mode=") word) refl (rw (p, q, r) at is)

came : (words : List (List ℕ)) (so_far : Option Mode) (before : List (List ℕ)) (mode : Mode) (files : List (List ℕ)) → command_from words (line_at next.Any so_far before) ≡ found mode files → Came words so_far before mode files
came [] so_far before mode files is =
    let c = counts (mode_or_run so_far) mode before files is in
    record { modes = []; named = []; are_words = over; gives = gives_at_end so_far mode c.same_mode; same_files = append-nil before ∙ c.same_files; some = c.some; few = c.few }
came (word ∷ []) so_far before mode files is = came_word word [] so_far before mode files (λ known named h. came [] known named mode files h) (λ bad. absurd cc) is
came (word ∷ v ∷ rest) so_far before mode files is =
    came_word word (v ∷ rest) so_far before mode files (λ known named h. came (v ∷ rest) known named mode files h)
    (λ h. came_behind v next.Value rest so_far before mode files (λ k p. came rest (Some k) before mode files p) h (codes "--mode" ∷ v ∷ rest) (λ named d. value_next d)) is

first_gives : (modes : List (List ℕ)) (mode : Mode) → Gives None modes mode → GiveMode modes mode
first_gives modes mode (first gives) = gives

pub is_command : (words : List (List ℕ)) (mode : Mode) (files : List (List ℕ)) → command_in words ≡ found mode files → IsCommand words mode files
is_command words mode files is =
    let c = came words None [] mode files is in
    record {
      modes = c.modes;
      are_words = subst (λ (named : List (List ℕ)). AreWords words c.modes named) c.same_files c.are_words;
      give_mode = first_gives c.modes mode c.gives;
      some = c.some;
      few = c.few;
    }

-- words that give no command are usage
pub is_usage : (words : List (List ℕ)) → command_in words ≡ nothing → IsUsage words
is_usage words is mode files c = (let bad : nothing ≡ found mode files = sym is ∙ command_is words mode files c in absurd cc)

-- words are one command at most
pub one_command : (words : List (List ℕ)) (mode given : Mode) (files named : List (List ℕ)) → command_in words ≡ found given named → IsCommand words mode files → (given ≡ mode) × (named ≡ files)
one_command words mode given files named is c =
    let both : found given named ≡ found mode files = sym is ∙ command_is words mode files c in
    (ap (λ (o : Found). mode_in o given) both, ap (λ (o : Found). files_in o named) both)

differs : (a b : List ℕ) → (a ≡ b → ⊥) → bytes_eq a b ≡ false
differs a b other = by (bytes_eq a b) refl
  where
    by : (same : Bool) → bytes_eq a b ≡ same → bytes_eq a b ≡ false
    by true p = absurd (other (same_text a b p))
    by false p = p

-- a word that is no option that there is
pub any_none : (line : Line) (word : List ℕ) (begins : Bool) → begins ≡ is_option word → begins ≡ true → (word ≡ codes "--" → ⊥) → (word ≡ codes "--mode" → ⊥) → ((value : List ℕ) → word ≡ codes "--mode=" ++ value → ⊥) → with_any line word ≡ None
any_none line word begins is option alone value never = rw (sym is, option, differs word (codes "--") alone, differs word (codes "--mode") value, none_behind (codes "--mode=") word never) refl

-- ---- one word after the other

drop_get : (xs : List (List ℕ)) (i : ℕ) (x : List ℕ) → slice_get xs i ≡ Some x → drop i xs ≡ x ∷ drop (suc i) xs
drop_get [] i x is = absurd cc
drop_get (y ∷ ys) zero x is = (let same : y ≡ x = cc in ap (λ (k : List ℕ). k ∷ ys) same)
drop_get (y ∷ ys) (suc i) x is = drop_get ys i x is

-- a word that is taken, and one that is none that there is
next_word : (words : List (List ℕ)) (place : ℕ) (word : List ℕ) (line : Line) → slice_get words place ≡ Some word → command_from (drop place words) line ≡ command_in words → read_on (with_word line word) (command_from (drop (place + 1) words)) ≡ command_in words
next_word words place word line stands so_far =
    let next : suc place ≡ place + 1 = omega arith in
    subst (λ (i : ℕ). read_on (with_word line word) (command_from (drop i words)) ≡ command_in words) next
    (ap (λ (rest : List (List ℕ)). command_from rest line) (sym (drop_get words place word stands)) ∙ so_far)

pub word_taken : (words : List (List ℕ)) (place : ℕ) (word : List ℕ) (line now : Line) → slice_get words place ≡ Some word → command_from (drop place words) line ≡ command_in words → with_word line word ≡ Some now → command_from (drop (place + 1) words) now ≡ command_in words
word_taken words place word line now stands so_far is = ap (λ (o : Option Line). read_on o (command_from (drop (place + 1) words))) (sym is) ∙ next_word words place word line stands so_far

pub word_refused : (words : List (List ℕ)) (place : ℕ) (word : List ℕ) (line now : Line) (fault : TopFault) (r : Result Command TopFault) → slice_get words place ≡ Some word → command_from (drop place words) line ≡ command_in words → GivesLine (Err fault) now (with_word line word)
    → r ≡ Err fault → GivesCommand r (command_in words)
word_refused words place word line now f.Usage r stands so_far gives is =
    subst (λ (k : Result Command TopFault). GivesCommand k (command_in words)) (sym is) (sym (next_word words place word line stands so_far) ∙ ap (λ (o : Option Line). read_on o (command_from (drop (place + 1) words))) gives)
word_refused words place word line now (f.Read other) r stands so_far gives is = absurd gives
word_refused words place word line now (f.Refused other refused) r stands so_far gives is = absurd gives
word_refused words place word line now (f.Lint found) r stands so_far gives is = absurd gives
word_refused words place word line now f.NotBuilt r stands so_far gives is = absurd gives
word_refused words place word line now f.Write r stands so_far gives is = absurd gives
word_refused words place word line now f.Memory r stands so_far gives is = subst (λ (k : Result Command TopFault). GivesCommand k (command_in words)) (sym is) tt
