-- The variables of each function, in the order in which they were found. This project's own.
use Rattle.std.specs.Prelude.{ℕ, ◌==◌, List, [], ◌∷◌, if◌then◌else◌}
use Rattle.std.specs.List.{flat_map}
use Rattle.capture_flow.specs.declared.fact.Member.{Member}

-- the variable of a member of this function
abbrev pub variable_if : (function : ℕ) → Member → List ℕ
variable_if f m = if m.function == f then m.variable ∷ [] else []

-- the variables of each function
abbrev pub captured_by : List Member → (function : ℕ) → List ℕ
captured_by ms f = flat_map (variable_if f) ms
