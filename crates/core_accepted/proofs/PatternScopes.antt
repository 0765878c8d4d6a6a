-- The variables that a node's context has are in scope.
use Rattle.std.proofs.Common.{◌≡◌, ◌==◌, ◌||◌, ◌<◌, ℕ, zero, suc, true, false, Bool, List, [], ◌∷◌, ◌++◌, length, refl, sym, ap, ◌∙◌, subst, arith, ◌⊎◌, inl, inr, eq-eqb}
use Rattle.std.proofs.lemmas.List.Elements.{Contains-append_cases}
use Rattle.std.specs.List.{Contains, slice_index_or}
use Rattle.hy_core.specs.Resolved.{Patterns, NoPatterns, MorePatterns, Pattern, AnyTerm, TheInt, TheAtom, TheNil, TheText, TheTuple, TheList, Alias}
use Rattle.hy_core.specs.Scopes.{Scope, is_bound, with_pattern, with_patterns, with_variables}
use Rattle.hy_core.specs.SubPatterns.{clause_variables, variables, variables_step}
use Rattle.hy_core.specs.Syntax.{pattern_tree, pattern_trees}
use Rattle.hy_core.specs.declared.tree.Pattern.TheFolds.{fold-roll-Pattern}
use Rattle.hy_core.specs.declared.tree.Pattern.TheOpen as layer
use Rattle.hy_core.specs.declared.tree.Pattern.TheVariants as p

-- each of these variables is in scope
abbrev pub Covers : List ℕ → Scope → Type 0
Covers xs scope = (x : ℕ) → Contains xs x → is_bound x scope ≡ true

later : (v w : Bool) → w ≡ true → (v || w) ≡ true
later true w h = refl
later false w h = h

bound_here : (x : ℕ) (scope : Scope) → is_bound x (x ∷ scope) ≡ true
bound_here x scope = ap (λ b. b || is_bound x scope) (eq-eqb x x refl)

none_bound : (scope : Scope) → Covers [] scope
none_bound scope x h = absurd (omega (arith, h.1))

covers_append : (xs ys : List ℕ) (scope : Scope) → Covers xs scope → Covers ys scope → Covers (xs ++ ys) scope
covers_append xs ys scope h k x here = by (Contains-append_cases xs ys x here)
  where
    by : Contains xs x ⊎ Contains ys x → is_bound x scope ≡ true
    by (inl l) = h x l
    by (inr l) = k x l

-- what is in scope stays in scope

abbrev Wider : Scope → Scope → Type 0
Wider scope inner = (x : ℕ) → is_bound x scope ≡ true → is_bound x inner ≡ true

wider_one : (y : ℕ) (scope : Scope) → Wider scope (y ∷ scope)
wider_one y scope x h = later (x == y) (is_bound x scope) h

wider_variables : (xs : List ℕ) (scope : Scope) → Wider scope (with_variables scope xs)
wider_variables [] scope x h = h
wider_variables (y ∷ ys) scope x h = wider_variables ys (y ∷ scope) x (wider_one y scope x h)

mutual
  wider_pattern : (q : Pattern) (scope : Scope) → Wider scope (with_pattern scope q)
  wider_pattern (AnyTerm y) scope x h = wider_one y scope x h
  wider_pattern (TheInt n) scope x h = h
  wider_pattern (TheAtom a) scope x h = h
  wider_pattern TheNil scope x h = h
  wider_pattern (TheText text) scope x h = h
  wider_pattern (TheTuple ps) scope x h = wider_patterns ps scope x h
  wider_pattern (TheList ps q) scope x h = wider_pattern q (with_patterns scope ps) x (wider_patterns ps scope x h)
  wider_pattern (Alias y q) scope x h = wider_pattern q (y ∷ scope) x (wider_one y scope x h)

  wider_patterns : (ps : Patterns) (scope : Scope) → Wider scope (with_patterns scope ps)
  wider_patterns NoPatterns scope x h = h
  wider_patterns (MorePatterns q ps) scope x h = wider_patterns ps (with_pattern scope q) x (wider_pattern q scope x h)

own_variables : (xs : List ℕ) (scope : Scope) → Covers xs (with_variables scope xs)
own_variables [] scope x h = none_bound scope x h
own_variables (y ∷ ys) scope x h = by h.0 h.1 h.2 (own_variables ys (y ∷ scope))
  where
    by : (k : ℕ) → k < length (y ∷ ys) → slice_index_or (y ∷ ys) k x ≡ x → Covers ys (with_variables (y ∷ scope) ys) → is_bound x (with_variables (y ∷ scope) ys) ≡ true
    by zero below is others = wider_variables ys (y ∷ scope) x (ap (λ z. (x == z) || is_bound x scope) is ∙ bound_here x scope)
    by (suc k) below is others = others x (k, omega (arith, below), is)

pub covers_variables : (bound xs : List ℕ) (scope : Scope) → Covers bound scope → Covers (bound ++ xs) (with_variables scope xs)
covers_variables bound xs scope h =
    covers_append bound xs (with_variables scope xs) (λ x here. wider_variables xs scope x (h x here)) (own_variables xs scope)

-- the variables of patterns

one_covered : (y : ℕ) (scope : Scope) → Covers (y ∷ []) (y ∷ scope)
one_covered y scope = own_variables (y ∷ []) scope

more_covered : (y : ℕ) (xs : List ℕ) (scope inner : Scope) → Wider (y ∷ scope) inner → Covers xs inner → Covers (y ∷ xs) inner
more_covered y xs scope inner wider h = covers_append (y ∷ []) xs inner (λ x here. wider x (one_covered y scope x here)) h

mutual
  pattern_covered : (q : Pattern) (scope : Scope) → Covers (variables (pattern_tree q)) (with_pattern scope q)
  pattern_covered (AnyTerm y) scope =
      subst (λ xs. Covers xs (y ∷ scope)) (sym (ap variables (sym (p.rolls-Var y)) ∙ fold-roll-Pattern (List ℕ) variables_step (layer.Var y))) (one_covered y scope)
  pattern_covered (TheInt n) scope =
      subst (λ xs. Covers xs scope) (sym (ap variables (sym (p.rolls-Int n)) ∙ fold-roll-Pattern (List ℕ) variables_step (layer.Int n))) (none_bound scope)
  pattern_covered (TheAtom a) scope =
      subst (λ xs. Covers xs scope) (sym (ap variables (sym (p.rolls-Atom a)) ∙ fold-roll-Pattern (List ℕ) variables_step (layer.Atom a))) (none_bound scope)
  pattern_covered TheNil scope =
      subst (λ xs. Covers xs scope) (sym (ap variables (sym p.rolls-Nil) ∙ fold-roll-Pattern (List ℕ) variables_step layer.Nil)) (none_bound scope)
  pattern_covered (TheText text) scope =
      subst (λ xs. Covers xs scope) (sym (ap variables (sym (p.rolls-Str text)) ∙ fold-roll-Pattern (List ℕ) variables_step (layer.Str text))) (none_bound scope)
  pattern_covered (TheTuple ps) scope =
      subst (λ xs. Covers xs (with_patterns scope ps)) (sym (ap variables (sym (p.rolls-Tuple (pattern_trees ps))) ∙ fold-roll-Pattern (List ℕ) variables_step (layer.Tuple (pattern_trees ps))))
      (patterns_covered ps scope)
  pattern_covered (TheList ps q) scope =
      let inner = with_patterns scope ps in
      subst (λ xs. Covers xs (with_pattern inner q)) (sym (ap variables (sym (p.rolls-List (pattern_trees ps) (pattern_tree q))) ∙ fold-roll-Pattern (List ℕ) variables_step (layer.List (pattern_trees ps) (pattern_tree q))))
      (covers_append (clause_variables (pattern_trees ps)) (variables (pattern_tree q)) (with_pattern inner q) (λ x here. wider_pattern q inner x (patterns_covered ps scope x here)) (pattern_covered q inner))
  pattern_covered (Alias y q) scope =
      subst (λ xs. Covers xs (with_pattern (y ∷ scope) q)) (sym (ap variables (sym (p.rolls-Alias y (pattern_tree q))) ∙ fold-roll-Pattern (List ℕ) variables_step (layer.Alias y (pattern_tree q))))
      (more_covered y (variables (pattern_tree q)) scope (with_pattern (y ∷ scope) q) (wider_pattern q (y ∷ scope)) (pattern_covered q (y ∷ scope)))

  patterns_covered : (ps : Patterns) (scope : Scope) → Covers (clause_variables (pattern_trees ps)) (with_patterns scope ps)
  patterns_covered NoPatterns scope = none_bound scope
  patterns_covered (MorePatterns q ps) scope =
      let inner = with_pattern scope q in
      covers_append (variables (pattern_tree q)) (clause_variables (pattern_trees ps)) (with_patterns inner ps) (λ x here. wider_patterns ps inner x (pattern_covered q scope x here)) (patterns_covered ps inner)

pub covers_patterns : (bound : List ℕ) (ps : Patterns) (scope : Scope) → Covers bound scope → Covers (bound ++ clause_variables (pattern_trees ps)) (with_patterns scope ps)
covers_patterns bound ps scope h =
    covers_append bound (clause_variables (pattern_trees ps)) (with_patterns scope ps) (λ x here. wider_patterns ps scope x (h x here)) (patterns_covered ps scope)
