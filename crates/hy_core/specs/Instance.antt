-- A pattern filled in: the terms that it stands for once its variables are bound.
use Rattle.std.specs.Prelude.{◌≡◌, ℕ, List, [], ◌∷◌, Some, ◌⊎◌}
use Rattle.hy_terms.specs.Term.{Term, Int, Atom, Nil, Tuple, terms_of}
use Rattle.hy_core.specs.Evaluation.{text_term, conses}
use Rattle.hy_core.specs.Match.{Env, lookup}
use Rattle.hy_core.specs.Resolved.{Pattern, AnyTerm, TheInt, TheAtom, TheNil, TheText, TheTuple, TheList, Alias, Patterns, NoPatterns, MorePatterns}

-- the term is the pattern with its variables filled in: a tuple or a list of its parts filled in,
-- and an alias both its variable and its pattern
abbrev mutual
  pub IsInstance : Pattern → Env → Term → Type 0
  IsInstance (AnyTerm x) env t = lookup x env ≡ Some t
  IsInstance (TheInt n) env t = t ≡ Int n
  IsInstance (TheAtom a) env t = t ≡ Atom a
  IsInstance TheNil env t = t ≡ Nil
  IsInstance (TheText s) env t = t ≡ text_term s
  IsInstance (TheTuple ps) env t =
      (parts : List Term) × AreInstances ps env parts × (t ≡ Tuple (terms_of parts))
  IsInstance (TheList ps p) env t =
      (heads : List Term) × (tail : Term) × AreInstances ps env heads × IsInstance p env tail
      × (t ≡ conses heads tail)
  IsInstance (Alias x p) env t = (lookup x env ≡ Some t) × IsInstance p env t

  -- one term for each pattern
  pub AreInstances : Patterns → Env → List Term → Type 0
  AreInstances NoPatterns env ts = ts ≡ []
  AreInstances (MorePatterns p ps) env ts =
      (first : Term) × (others : List Term) × IsInstance p env first × AreInstances ps env others
      × (ts ≡ first ∷ others)

-- the pattern has the variable
abbrev mutual
  pub Has : Pattern → ℕ → Type 0
  Has (AnyTerm y) x = x ≡ y
  Has (TheInt n) x = ⊥
  Has (TheAtom a) x = ⊥
  Has TheNil x = ⊥
  Has (TheText s) x = ⊥
  Has (TheTuple ps) x = OneHas ps x
  Has (TheList ps p) x = OneHas ps x ⊎ Has p x
  Has (Alias y p) x = (x ≡ y) ⊎ Has p x

  pub OneHas : Patterns → ℕ → Type 0
  OneHas NoPatterns x = ⊥
  OneHas (MorePatterns p ps) x = Has p x ⊎ OneHas ps x

-- no variable stands twice in the pattern
abbrev mutual
  pub HasEachOnce : Pattern → Type 0
  HasEachOnce (AnyTerm x) = Unit {0}
  HasEachOnce (TheInt n) = Unit {0}
  HasEachOnce (TheAtom a) = Unit {0}
  HasEachOnce TheNil = Unit {0}
  HasEachOnce (TheText s) = Unit {0}
  HasEachOnce (TheTuple ps) = HaveEachOnce ps
  HasEachOnce (TheList ps p) =
      HaveEachOnce ps × HasEachOnce p × ((x : ℕ) → OneHas ps x → Has p x → ⊥)
  HasEachOnce (Alias x p) = (Has p x → ⊥) × HasEachOnce p

  -- nor in any two of the patterns
  pub HaveEachOnce : Patterns → Type 0
  HaveEachOnce NoPatterns = Unit {0}
  HaveEachOnce (MorePatterns p ps) =
      HasEachOnce p × HaveEachOnce ps × ((x : ℕ) → Has p x → OneHas ps x → ⊥)
