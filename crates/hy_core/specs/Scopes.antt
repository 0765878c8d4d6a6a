-- Which variables are bound where: the Core Erlang 1.0.3 report.
use Rattle.std.specs.Prelude.{ℕ, ◌==◌, ◌||◌, List, [], ◌∷◌, Bool, false}
use Rattle.hy_core.specs.Resolved.{Pattern, AnyTerm, TheInt, TheAtom, TheNil, TheText, TheTuple, TheList, Alias, Patterns, NoPatterns, MorePatterns}

-- the variables in scope, the innermost first
abbrev pub Scope : Type 0
Scope = List ℕ

abbrev pub is_bound : ℕ → Scope → Bool
is_bound x [] = false
is_bound x (y ∷ scope) = (x == y) || is_bound x scope

-- the scope of these variables, bound one after another
abbrev pub with_variables : Scope → List ℕ → Scope
with_variables scope [] = scope
with_variables scope (x ∷ xs) = with_variables (x ∷ scope) xs

abbrev mutual
  -- the scope of a pattern's variables, which are bound from left to right
  pub with_pattern : Scope → Pattern → Scope
  with_pattern scope (AnyTerm x) = x ∷ scope
  with_pattern scope (TheInt n) = scope
  with_pattern scope (TheAtom a) = scope
  with_pattern scope TheNil = scope
  with_pattern scope (TheText s) = scope
  with_pattern scope (TheTuple ps) = with_patterns scope ps
  with_pattern scope (TheList ps p) = with_pattern (with_patterns scope ps) p
  with_pattern scope (Alias x p) = with_pattern (x ∷ scope) p

  pub with_patterns : Scope → Patterns → Scope
  with_patterns scope NoPatterns = scope
  with_patterns scope (MorePatterns p ps) = with_patterns (with_pattern scope p) ps
