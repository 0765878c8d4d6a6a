-- Laws of runs compared. Each is the clause of a function in the module `laws`.
use Rattle.std.specs.Prelude.{◌≡◌, Option, Some}
use Rattle.std.specs.Option.{option_and_then}
use Rattle.hy_core.specs.Comparison.{Waiting, SameRun, SameResult}
use Rattle.hy_core.specs.Computation.{Needs, Run, result_of}

module _ (V C B W : Type 0) where
  abbrev SameHere : Waiting V W → Run V C B W → Run V C B W → Type 0
  SameHere waiting r r' = SameRun (λ v. v) waiting waiting Some r r'

  -- each run is the same as itself
  abbrev pub ComparesWithItself : Type 0
  ComparesWithItself = (waiting : Waiting V W) (r : Run V C B W) → SameHere waiting r r

  -- over the same values, and where each act is shown, the same runs are equal, but for what a
  -- receive waits for
  abbrev pub SameIsEqual : Type 0
  SameIsEqual =
      (waiting : Waiting V W) (r r' : Run V C B W) → SameHere waiting r r'
      → ((w : W) → r.end ≡ Needs w → ⊥) → r' ≡ r

-- what is the same as something that is the same as a run is the same as that run: its values stand
-- for what their values stand for, and its acts show what is shown of what they show
abbrev pub Composes : (V V' V'' C B B' B'' W W' W'' : Type 0) → Type 0
Composes V V' V'' C B B' B'' W W' W'' =
    (value : V' → V) (value' : V'' → V') (shown : B' → Option B) (shown' : B'' → Option B')
    (waiting : Waiting V W) (waiting' : Waiting V' W') (waiting'' : Waiting V'' W'')
    (r : Run V C B W) (r' : Run V' C B' W') (r'' : Run V'' C B'' W'')
    → SameRun value waiting waiting' shown r r' → SameRun value' waiting' waiting'' shown' r' r''
    → SameRun (λ v. value (value' v)) waiting waiting'' (λ b. option_and_then shown (shown' b)) r
    r''

-- so where the second is the same over the values of the first, it may be left out
abbrev pub ComposesOverSame : (V V' C B B' W W' W'' : Type 0) → Type 0
ComposesOverSame V V' C B B' W W' W'' =
    (value : V' → V) (shown : B' → Option B)
    (waiting : Waiting V W) (waiting' : Waiting V W') (waiting'' : Waiting V' W'')
    (r : Run V C B W) (r' : Run V C B W') (r'' : Run V' C B' W'')
    → SameRun (λ v. v) waiting waiting' Some r r' → SameRun value waiting' waiting'' shown r' r''
    → SameRun value waiting waiting'' shown r r''

module _ (V V' C B B' W W' : Type 0) where
  -- where one waits in a receive, so does the other, with the same timeout and accepting the same
  abbrev pub WaitsAlike : Type 0
  WaitsAlike =
      (value : V' → V) (shown : B' → Option B) (waiting : Waiting V W) (waiting' : Waiting V' W')
      (r : Run V C B W) (r' : Run V' C B' W') → SameRun value waiting waiting' shown r r'
      → (w : W) → r.end ≡ Needs w
      → (w' : W') × (r'.end ≡ Needs w') × (waiting'.timeout w' ≡ waiting.timeout w)
      × ((v : V') → waiting'.accepts w' v ≡ waiting.accepts w (value v))

  -- the same runs are the same without their order of events and inputs
  abbrev pub SameInResult : Type 0
  SameInResult =
      (value : V' → V) (shown : B' → Option B) (waiting : Waiting V W) (waiting' : Waiting V' W')
      (r : Run V C B W) (r' : Run V' C B' W') → SameRun value waiting waiting' shown r r'
      → SameResult value waiting waiting' shown (result_of r) (result_of r')
