-- The patterns inside a pattern, and the variables that it binds, in the order of the text. Core
-- Erlang 1.0.3 report; that nil at the end of a list notation is no pattern of its own is this
-- project's.
use Rattle.std.specs.Prelude.{ℕ, Bool, true, false, if◌then◌else◌, List, [], ◌∷◌, ◌++◌, map}
use Rattle.hy_core.specs.declared.tree.Pattern.{Pattern}
use Rattle.hy_core.specs.declared.tree.Pattern.TheFolds.{fold-Pattern, para-Pattern}
use Rattle.hy_core.specs.declared.tree.Pattern.TheOpen as p
use Rattle.hy_core.specs.declared.tree.Pattern.TheOpen.{Pattern-F}
use Rattle.hy_core.specs.declared.tree.Pattern.TheViews.{out-Pattern}

-- lists one after another
abbrev pub joined : {A : Type 0} → List (List A) → List A
joined [] = []
joined (xs ∷ xss) = xs ++ joined xss

-- a pattern, with the patterns inside it
abbrev pub PatternPart : Type 0
PatternPart = Pattern × List Pattern

-- parts, each before those inside it
abbrev pub each_within : List PatternPart → List Pattern
each_within [] = []
each_within (part ∷ parts) = part.0 ∷ part.1 ++ each_within parts

abbrev pub is_nil_layer : Pattern-F Pattern → Bool
is_nil_layer p.Nil = true
is_nil_layer _ = false

-- nil at the end of a list notation has no text there
abbrev pub tail_within : PatternPart → List Pattern
tail_within tail = if is_nil_layer (out-Pattern tail.0) then [] else tail.0 ∷ tail.1

abbrev pub within_step : Pattern-F PatternPart → List Pattern
within_step (p.Tuple parts) = each_within parts
within_step (p.List heads tail) = each_within heads ++ tail_within tail
within_step (p.Alias x pattern) = pattern.0 ∷ pattern.1
within_step _ = []

-- the patterns inside a pattern
abbrev pub within : Pattern → List Pattern
within = para-Pattern (List Pattern) within_step

-- patterns, each before those inside it
abbrev pub patterns_in : List Pattern → List Pattern
patterns_in [] = []
patterns_in (q ∷ qs) = q ∷ within q ++ patterns_in qs

abbrev pub variables_step : Pattern-F (List ℕ) → List ℕ
variables_step (p.Var x) = x ∷ []
variables_step (p.Tuple parts) = joined parts
variables_step (p.List heads tail) = joined heads ++ tail
variables_step (p.Alias x pattern) = x ∷ pattern
variables_step _ = []

-- the variables of a pattern
abbrev pub variables : Pattern → List ℕ
variables = fold-Pattern (List ℕ) variables_step

-- the variables of a clause's patterns
abbrev pub clause_variables : List Pattern → List ℕ
clause_variables patterns = joined (map variables patterns)
