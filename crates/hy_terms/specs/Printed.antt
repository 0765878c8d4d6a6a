-- What a term prints as; this project's own.
use Rattle.std.specs.Prelude.{ℕ, List, [], ◌∷◌, ◌++◌}
use Rattle.hy_terms.specs.Term.{Term}
use Rattle.hy_terms.specs.TermText.{term_text}

-- its text and a line feed
abbrev pub printed_text : List (List ℕ) → Term → List ℕ
printed_text atoms term = term_text atoms term ++ 10 ∷ []
