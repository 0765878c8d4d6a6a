-- Renaming leaves the nodes of a function that are events.
use Rattle.std.proofs.Common.{◌≡◌, ℕ, suc, Bool, false, List, [], ◌∷◌, ◌++◌, drop, refl, ap, ◌∙◌}
use Rattle.std.proofs.Common.{◌-◌, take, length, arith, append_assoc, append-nil, length-append}
use Rattle.hy_terms.specs.Naming.{text_of}
use Rattle.hy_core.specs.BuiltIn.{operation_named}
use Rattle.hy_core.specs.ProgramTrees.{does_event, is_event}
use Rattle.hy_core.specs.Resolved as r
use Rattle.hy_core.specs.Resolved.{Pattern, Patterns, NoPatterns, MorePatterns}
use Rattle.hy_core.specs.Scopes.{Scope, with_variables, with_pattern, with_patterns}
use Rattle.hy_core.specs.Syntax as s
use Rattle.hy_core.specs.Syntax.{Syntax, Syntaxes, NoSyntax, MoreSyntax, count}
use Rattle.hy_core.specs.Syntax.{Clauses, NoClauses, MoreClauses}
use Rattle.hy_core.specs.Syntax.{Definitions, NoDefinitions, MoreDefinitions}
use Rattle.hy_core.proofs.EventNodes.{events, all_events, clauses_events, definitions_events}
use Rattle.lifted_program.specs.Renaming.{renamed_pattern, renamed_patterns}
use Rattle.renaming.specs.RenamedSyntax.{renamed_syntax, renamed_syntaxes, renamed_clauses}
use Rattle.renaming.specs.RenamedSyntax.{renamed_definitions}

-- the nodes of patterns, as those of a clause with nothing else
abbrev around : List Bool → List Bool
around bs = (bs ++ (false ∷ []) ++ (false ∷ [])) ++ []

inside : List Bool → List Bool
inside bs = take (length bs - 2) bs

front : (n : ℕ) (xs ys : List Bool) → n ≡ length xs → take n (xs ++ ys) ≡ xs
front n [] ys h = ap (λ n. take n ys) h
front n (x ∷ xs) ys h =
    ap (λ n. take n (x ∷ xs ++ ys)) h ∙ ap (◌∷◌ x) (front (length xs) xs ys refl)

inside_around : (xs : List Bool) → inside (around xs) ≡ xs
unfolding inside
inside_around xs =
    let two : List Bool = false ∷ false ∷ [] in
    let flat : around xs ≡ xs ++ two = append-nil _ ∙ append_assoc xs (false ∷ []) (false ∷ []) in
    ap inside flat ∙ front (length (xs ++ two) - 2) xs two (omega (arith, length-append xs two))

second : List Bool → List Bool
second bs = drop 1 bs

second_is : (b : Bool) (bs : List Bool) → second (b ∷ bs ++ []) ≡ bs
unfolding second
second_is b bs = append-nil bs

module _ (limit : ℕ) (atoms : List (List ℕ)) where
  abbrev nodes_of : Patterns → List Bool
  nodes_of ps = clauses_events atoms (MoreClauses ps s.Nil s.Nil NoClauses)

  abbrev one : Pattern → Patterns
  one p = MorePatterns p NoPatterns

  -- a pattern as the tail of a list notation, where nil is no node
  tail-renamed : (scope : Scope) (p : Pattern)
      → nodes_of (one (renamed_pattern limit scope p)) ≡ nodes_of (one p)
      → nodes_of (one (r.TheList NoPatterns (renamed_pattern limit scope p)))
      ≡ nodes_of (one (r.TheList NoPatterns p))
  tail-renamed scope r.TheNil h = refl
  tail-renamed scope (r.AnyTerm x) h = refl
  tail-renamed scope (r.TheInt n) h = refl
  tail-renamed scope (r.TheAtom a) h = refl
  tail-renamed scope (r.TheText text) h = refl
  tail-renamed scope (r.TheTuple ps) h = ap (λ bs. around (false ∷ bs))
      (simp inside_around at (ap inside h))
  tail-renamed scope (r.TheList ps p) h = ap (λ bs. around (false ∷ bs))
      (simp inside_around at (ap inside h))
  tail-renamed scope (r.Alias x p) h = ap (λ bs. around (false ∷ bs))
      (simp inside_around at (ap inside h))

  mutual
    patterns-renamed : (scope : Scope) (ps : Patterns)
        → nodes_of (renamed_patterns limit scope ps) ≡ nodes_of ps
    patterns-renamed scope NoPatterns = refl
    patterns-renamed scope (MorePatterns p ps) =
        let one = simp inside_around at (ap inside (pattern-renamed scope p)) in
        let first = simp second_is at (ap second one) in
        let others = simp inside_around at
        (ap inside (patterns-renamed (with_pattern scope p) ps)) in
        λ i. around (false ∷ first i ++ others i)

    pattern-renamed : (scope : Scope) (p : Pattern)
        → nodes_of (one (renamed_pattern limit scope p)) ≡ nodes_of (one p)
    pattern-renamed scope (r.TheTuple ps) =
        let parts = simp inside_around at (ap inside (patterns-renamed scope ps)) in
        ap (λ bs. around (false ∷ bs ++ [])) parts
    pattern-renamed scope (r.TheList ps p) =
        let inner = with_patterns scope ps in
        let heads = simp inside_around at (ap inside (patterns-renamed scope ps)) in
        let whole = tail-renamed inner p (pattern-renamed inner p) in
        let one = simp inside_around at (ap inside whole) in
        let tail = simp second_is at (ap second one) in
        λ i. around (false ∷ (heads i ++ tail i) ++ [])
    pattern-renamed scope (r.Alias x p) =
        let part = simp inside_around at (ap inside (pattern-renamed (x ∷ scope) p)) in
        ap (λ bs. around (false ∷ bs)) part
    pattern-renamed scope _ = refl

  count-renamed : (scope : Scope) (es : Syntaxes)
      → count (renamed_syntaxes limit scope es) ≡ count es
  count-renamed scope NoSyntax = refl
  count-renamed scope (MoreSyntax e es) = ap suc (count-renamed scope es)

  event-renamed : (scope : Scope) (m f : Syntax) (es : Syntaxes)
      → is_event atoms (renamed_syntax limit scope (s.Call m f es))
      ≡ is_event atoms (s.Call m f es)
  event-renamed scope (s.Atom m) (s.Atom f) es =
      ap (λ n. does_event (operation_named (text_of atoms m) (text_of atoms f) n))
      (count-renamed scope es)
  event-renamed scope (s.Atom m) _ es = refl
  event-renamed scope _ f es = refl

  -- the tail of a list notation, where nil is no node
  abbrev tail_events : Syntax → List Bool
  tail_events t = drop 1 (events atoms (s.ListOf 0 NoSyntax t))

  end-renamed : (scope : Scope) (t : Syntax)
      → events atoms (renamed_syntax limit scope t) ≡ events atoms t
      → tail_events (renamed_syntax limit scope t) ≡ tail_events t
  end-renamed scope s.Nil h = refl
  end-renamed scope (s.Int n) h = h
  end-renamed scope (s.Atom a) h = h
  end-renamed scope _ h = h

  mutual
    pub events-renamed : (scope : Scope) (e : Syntax)
        → events atoms (renamed_syntax limit scope e) ≡ events atoms e
    events-renamed scope (s.Tuple site es) = ap (◌∷◌ false) (all-renamed scope es)
    events-renamed scope (s.ListOf site es t) =
        λ i. false ∷ all-renamed scope es i ++ end-renamed scope t (events-renamed scope t) i
    events-renamed scope (s.Values es) = ap (◌∷◌ false) (all-renamed scope es)
    events-renamed scope (s.Let xs t u) =
        λ i. false ∷ events-renamed scope t i ++ events-renamed (with_variables scope xs) u i
    events-renamed scope (s.Do t u) = λ i. false ∷ events-renamed scope t i ++ events-renamed scope
        u i
    events-renamed scope (s.Case t cs) =
        λ i. false ∷ events-renamed scope t i ++ clauses-renamed scope cs i
    events-renamed scope (s.Letrec fs t) =
        λ i. false ∷ definitions-renamed scope fs i ++ events-renamed scope t i
    events-renamed scope (s.Apply t es) =
        λ i. false ∷ events-renamed scope t i ++ all-renamed scope es i
    events-renamed scope (s.Call m f es) =
        λ i. event-renamed scope m f es i
        ∷ events-renamed scope m i ++ events-renamed scope f i ++ all-renamed scope es i
    events-renamed scope (s.Primop a es) = ap (◌∷◌ false) (all-renamed scope es)
    events-renamed scope (s.Receive cs t u) =
        λ i. false ∷ clauses-renamed scope cs i ++ events-renamed scope t i
        ++ events-renamed scope u i
    events-renamed scope (s.Try t xs u ys v) =
        λ i. false ∷ events-renamed scope t i ++ events-renamed (with_variables scope xs) u i
        ++ events-renamed (with_variables scope ys) v i
    events-renamed scope (s.Catch t) = ap (◌∷◌ false) (events-renamed scope t)
    events-renamed scope (s.Fun xs t) =
        ap (◌∷◌ false) (events-renamed (with_variables scope xs) t)
    events-renamed scope _ = refl

    all-renamed : (scope : Scope) (es : Syntaxes)
        → all_events atoms (renamed_syntaxes limit scope es) ≡ all_events atoms es
    all-renamed scope NoSyntax = refl
    all-renamed scope (MoreSyntax t ts) =
        λ i. events-renamed scope t i ++ all-renamed scope ts i

    clauses-renamed : (scope : Scope) (cs : Clauses)
        → clauses_events atoms (renamed_clauses limit scope cs) ≡ clauses_events atoms cs
    clauses-renamed scope NoClauses = refl
    clauses-renamed scope (MoreClauses ps g b cs) =
        let inner = with_patterns scope ps in
        let patterns = simp inside_around at (ap inside (patterns-renamed scope ps)) in
        λ i. (patterns i ++ events-renamed inner g i ++ events-renamed inner b i)
        ++ clauses-renamed scope cs i

    definitions-renamed : (scope : Scope) (fs : Definitions)
        → definitions_events atoms (renamed_definitions limit scope fs)
        ≡ definitions_events atoms fs
    definitions-renamed scope NoDefinitions = refl
    definitions-renamed scope (MoreDefinitions f xs b fs) =
        λ i. events-renamed (with_variables scope xs) b i ++ definitions-renamed scope fs i
