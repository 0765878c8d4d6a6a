-- What a process does while it carries out code, and what this adds up to: this project's own.
use Rattle.std.specs.Prelude.{ℕ, ◌+◌, List, [], ◌∷◌}
use Rattle.hy_terms.specs.Labelled.{Labelled}
use Rattle.hy_core.specs.Event.{Event}

-- words of its private heap, words of the area with those that are copied among them, or an event
pub data Effect : Type 0 where
  Own : (words : ℕ) → Effect
  Area : (words copied : ℕ) → Effect
  Happens : Event Labelled → Effect

-- an act: the making of a call, or an effect
pub data Act : Type 0 where
  Called : Act
  Has : Effect → Act

-- the calls, and the words that are taken
abbrev pub calls_in : List Act → ℕ
calls_in [] = 0
calls_in (Called ∷ acts) = 1 + calls_in acts
calls_in (Has effect ∷ acts) = calls_in acts

abbrev pub private_in : List Act → ℕ
private_in [] = 0
private_in (Has (Own words) ∷ acts) = words + private_in acts
private_in (act ∷ acts) = private_in acts

abbrev pub area_in : List Act → ℕ
area_in [] = 0
area_in (Has (Area words copied) ∷ acts) = words + area_in acts
area_in (act ∷ acts) = area_in acts

abbrev pub copied_in : List Act → ℕ
copied_in [] = 0
copied_in (Has (Area words copied) ∷ acts) = copied + copied_in acts
copied_in (act ∷ acts) = copied_in acts

abbrev pub events_in : List Act → List (Event Labelled)
events_in [] = []
events_in (Has (Happens event) ∷ acts) = event ∷ events_in acts
events_in (act ∷ acts) = events_in acts
