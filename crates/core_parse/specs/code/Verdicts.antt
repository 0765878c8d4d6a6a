-- What the parts of the reader answer, by what reading on lists gives.
use Rattle.std.specs.Prelude.{◌≡◌, ℕ, ◌-◌, ◌≤◌, ◌<◌, ◌^◌, List, [], ◌∷◌, length, slice_get, Option, Some, None, Result, Ok, Err}
use Rattle.hy_core.specs.Tokens.{Lexes, AreWithin, EndsWithin}
use Rattle.hy_core.specs.Reading.{tokens_in}
use Rattle.hy_core.specs.declared.token.Lexeme.{Lexeme}
use Rattle.hy_core.specs.declared.token.Ending.{Ending}
use Rattle.hy_core.specs.declared.token.Ending.TheVariants as ends
use Rattle.hy_core.specs.declared.refusal.RefusalKind.TheVariants as kinds
use Rattle.hy_core.specs.declared.refusal.RefusalKind.{RefusalKind}
use Rattle.hy_core.specs.declared.tree.Module.{Module}
use Rattle.core_parse.specs.code.Pushdown.{Reading, state, run, start}
use Rattle.core_parse.specs.declared.goal.Goal.{Goal}
use Rattle.hy_core.specs.declared.refusal.RefusalKind.TheVariants.{Unexpected}
use Rattle.core_parse.specs.declared.state.State.{State}
use Rattle.core_build.specs.declared.fault.StepFault.{StepFault}
use Rattle.core_build.specs.declared.fault.StepFault.TheVariants as steps
use Rattle.core_parse.specs.declared.answer.TokenAnswer.{TokenAnswer}
use Rattle.core_parse.specs.declared.answer.TokenAnswer.TheVariants as tokens
use Rattle.core_parse.specs.declared.answer.ReadAnswer.{ReadAnswer}
use Rattle.core_parse.specs.declared.answer.ReadAnswer.TheVariants.{Memory}
use Rattle.core_parse.specs.Answers.{Gives, Verdict}

-- the state after a step, or its fault, or want of memory
abbrev pub GivesState : {A : Type 0} → Result A StepFault → State
    → Result State RefusalKind → Type 0
GivesState (Ok _) r o = o ≡ Ok r
GivesState (Err (steps.Refused kind)) r o = o ≡ Err kind
GivesState (Err steps.Memory) r o = Unit {0}

-- the tree of the tokens, or why they have none, or want of memory
abbrev pub GivesReading : Result Module TokenAnswer → Reading → Type 0
GivesReading (Ok z) o = o ≡ Ok z
GivesReading (Err (tokens.Refused r)) o = o ≡ Err (r.kind, r.index)
GivesReading (Err tokens.Memory) o = Unit {0}

-- this, or none, or want of memory
abbrev pub GivesModule : {A : Type 0} → Result A StepFault → Option A → Type 0
GivesModule (Ok z) o = o ≡ Some z
GivesModule (Err (steps.Refused kind)) o = o ≡ None
GivesModule (Err steps.Memory) o = Unit {0}

-- the goal that takes the next token, above those that are left; or that none is left, or why there
-- is none
abbrev pub GivesGoal : Result (Option Goal) StepFault → State → Option State → Type 0
GivesGoal (Ok (Some goal)) r o = o ≡ Some (state (goal ∷ r.goals) r.values r.tables)
GivesGoal (Ok None) r o = o ≡ Some (state [] r.values r.tables)
GivesGoal (Err (steps.Refused kind)) r o = (kind ≡ Unexpected) × (o ≡ None)
GivesGoal (Err steps.Memory) r o = Unit {0}

abbrev pub left_at : Option Lexeme → ℕ
left_at None = 0
left_at (Some l) = l.left

-- where no token is wrong, the end of the text decides
abbrev pub behind : ℕ → Ending → Verdict → Verdict
behind size ends.Clean v = v
behind size ends.Open v = Err (kinds.Ended, size)
behind size (ends.Bad left) v = Err (kinds.BadToken, size - left)

-- the place of a token
abbrev pub place_of : ℕ → List Lexeme → ℕ → ℕ
place_of size ls n = size - left_at (slice_get ls n)

abbrev pub refused_as : ℕ → List Lexeme → Ending → RefusalKind → ℕ → Verdict
refused_as size ls end kinds.Ended n = behind size end (Err (kinds.Ended, size))
refused_as size ls end kind n = Err (kind, place_of size ls n)

abbrev pub verdict : ℕ → List Lexeme → Ending → Reading → Verdict
verdict size ls end (Ok z) = behind size end (Ok z)
verdict size ls end (Err fault) = refused_as size ls end fault.0 fault.1

-- the answer is the verdict on the text, or want of memory
abbrev pub GivesTokens : Result Module ReadAnswer → List ℕ → List Lexeme → Ending → Type 0
GivesTokens result bytes ls end =
    Gives result (verdict (length bytes) ls end (run 0 (tokens_in ls) start))

pub data GivesText (result : Result Module ReadAnswer) (bytes : List ℕ) : Type 0 where
  too_long : 2 ^ 20 < length bytes → Gives result (Err (kinds.TooLong, 2 ^ 20))
      → GivesText result bytes
  of_tokens : (ls : List Lexeme) (end : Ending) → length bytes ≤ 2 ^ 20 → Lexes bytes ls end
      → AreWithin (length bytes) ls → EndsWithin (length bytes) end
      → GivesTokens result bytes ls end → GivesText result bytes
  no_memory : result ≡ Err Memory → GivesText result bytes
