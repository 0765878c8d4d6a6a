-- The numbers of one owner, among numbers each of which has one. This project's own.
use Rattle.std.specs.Prelude.{ℕ, ◌==◌, if◌then◌else◌, List, [], ◌∷◌}

abbrev pub chosen : (owner : ℕ) → (owners numbers : List ℕ) → List ℕ
chosen k [] ns = []
chosen k (o ∷ os) [] = []
chosen k (o ∷ os) (n ∷ ns) = if o == k then n ∷ chosen k os ns else chosen k os ns
