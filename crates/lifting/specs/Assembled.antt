-- Functions made of their origins, texts and nodes. This project's own.
use Rattle.std.specs.Prelude.{ℕ, List, [], ◌∷◌}
use Rattle.lifted_functions.specs.declared.lifted_text.LiftedText.{LiftedText}
use Rattle.lifted_syntax.specs.declared.lifted.LiftedFunction.{LiftedFunction}

abbrev pub assembled : (origins : List ℕ) → List LiftedText → (nodes : List (List ℕ))
    → List LiftedFunction
assembled [] ts ns = []
assembled (o ∷ os) [] ns = []
assembled (o ∷ os) (t ∷ ts) [] = []
assembled (o ∷ os) (t ∷ ts) (n ∷ ns) =
    record { origin = o; params = t.params; body = t.body; nodes = n } ∷ assembled os ts ns
