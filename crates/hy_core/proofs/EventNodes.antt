-- Which nodes of a function are events, as its syntax tells.
use Rattle.std.proofs.Common.{◌≡◌, ℕ, Bool, true, false, if◌then◌else◌, List, [], ◌∷◌, ◌++◌, map, refl, ap, ◌∙◌}
use Rattle.std.proofs.lemmas.List.{map-append}
use Rattle.hy_core.specs.Nodes.{is_nil_layer as layer_is_nil, Context, Node, node, AnExpr, APattern, nodes, nodes_of, clause_nodes, definition_nodes, pattern_nodes}
use Rattle.hy_core.specs.NodeParts.{each_node, end_nodes, parts_layer}
use Rattle.hy_core.specs.ProgramTrees.{is_event, is_event_piece, are_events, true_places}
use Rattle.hy_core.specs.Resolved.{Pattern, AnyTerm, TheInt, TheAtom, TheNil, TheText, TheTuple, TheList, Alias, Patterns, NoPatterns, MorePatterns}
use Rattle.hy_core.specs.PatternParts.{end_patterns, within_layer}
use Rattle.hy_core.specs.SubPatterns.{within, patterns_in, is_nil_layer}
use Rattle.hy_core.specs.Syntax as s
use Rattle.hy_core.specs.Syntax.{Syntax, Syntaxes, NoSyntax, MoreSyntax, Clauses, NoClauses, MoreClauses, Definitions, NoDefinitions, MoreDefinitions, syntax_of, pattern_tree, pattern_trees, tree, trees, clause_trees, definition_trees}
use Rattle.hy_core.specs.declared.tree.Clause.{Clause}
use Rattle.hy_core.specs.declared.tree.Expr.{Expr}
use Rattle.hy_core.specs.declared.tree.Expr.TheOpen.{Expr-F}
use Rattle.hy_core.specs.declared.tree.Expr.TheViews as views
use Rattle.hy_core.specs.declared.tree.Expr.TheViews.{out-Expr}
use Rattle.hy_core.specs.declared.tree.FunName.{FunName}
use Rattle.hy_core.specs.declared.tree.Function.{Function}
use Rattle.hy_core.specs.declared.tree.Pattern as declared
use Rattle.hy_core.specs.declared.tree.Pattern.TheOpen as pattern_layer
use Rattle.hy_core.specs.declared.tree.Pattern.TheOpen.{Pattern-F}
use Rattle.hy_core.specs.declared.tree.Pattern.TheVariants as p
use Rattle.hy_core.specs.declared.tree.Pattern.TheViews as pattern_views
use Rattle.hy_core.specs.declared.tree.Pattern.TheViews.{out-Pattern}
use Rattle.hy_core.proofs.NodesLemmas.{nodes-parts, clause_nodes-parts, definition_nodes-parts}
use Rattle.hy_core.proofs.PatternsLemmas.{within_by_layer}
use Rattle.hy_core.proofs.SyntaxLemmas.{syntax_back}

-- patterns are no events

abbrev none : List declared.Pattern → List Bool
none = map (λ q. false)

abbrev is_nil : Pattern → Bool
is_nil TheNil = true
is_nil _ = false

abbrev mutual
  -- the patterns inside one, and each of some with those inside it
  inside : Pattern → List Bool
  inside (TheTuple ps) = all_inside ps
  inside (TheList ps q) = all_inside ps ++ (if is_nil q then [] else false ∷ inside q)
  inside (Alias x q) = false ∷ inside q
  inside _ = []

  all_inside : Patterns → List Bool
  all_inside NoPatterns = []
  all_inside (MorePatterns q ps) = false ∷ inside q ++ all_inside ps

by_form : (q : declared.Pattern) (z : Pattern-F declared.Pattern) → out-Pattern q ≡ z → none (within q) ≡ none (within_layer z)
by_form q z is = ap none (within_by_layer q ∙ ap within_layer is)

end_by : (q : declared.Pattern) {z : Pattern-F declared.Pattern} → out-Pattern q ≡ z → none (end_patterns q) ≡ none (if is_nil_layer z then [] else q ∷ within q)
end_by q is = ap (λ y. none (if is_nil_layer y then [] else q ∷ within q)) is

mutual
  inside_is : (q : Pattern) → none (within (pattern_tree q)) ≡ inside q
  inside_is (AnyTerm x) = by_form (p.Var x) (pattern_layer.Var x) (pattern_views.outs-Var x)
  inside_is (TheInt n) = by_form (p.Int n) (pattern_layer.Int n) (pattern_views.outs-Int n)
  inside_is (TheAtom a) = by_form (p.Atom a) (pattern_layer.Atom a) (pattern_views.outs-Atom a)
  inside_is TheNil = by_form p.Nil pattern_layer.Nil pattern_views.outs-Nil
  inside_is (TheText text) = by_form (p.Str text) (pattern_layer.Str text) (pattern_views.outs-Str text)
  inside_is (TheTuple ps) =
      by_form (p.Tuple (pattern_trees ps)) (pattern_layer.Tuple (pattern_trees ps)) (pattern_views.outs-Tuple (pattern_trees ps))
      ∙ all_inside_is ps
  inside_is (TheList ps q) =
      by_form (p.List (pattern_trees ps) (pattern_tree q)) (pattern_layer.List (pattern_trees ps) (pattern_tree q)) (pattern_views.outs-List (pattern_trees ps) (pattern_tree q))
      ∙ map-append (λ x. false) (patterns_in (pattern_trees ps)) (end_patterns (pattern_tree q))
      ∙ (λ i. all_inside_is ps i ++ end_is q (inside_is q) i)
  inside_is (Alias x q) =
      by_form (p.Alias x (pattern_tree q)) (pattern_layer.Alias x (pattern_tree q)) (pattern_views.outs-Alias x (pattern_tree q))
      ∙ ap (λ bs. false ∷ bs) (inside_is q)

  end_is : (q : Pattern) → none (within (pattern_tree q)) ≡ inside q → none (end_patterns (pattern_tree q)) ≡ (if is_nil q then [] else false ∷ inside q)
  end_is (AnyTerm x) h = end_by (p.Var x) (pattern_views.outs-Var x) ∙ ap (λ bs. false ∷ bs) h
  end_is (TheInt n) h = end_by (p.Int n) (pattern_views.outs-Int n) ∙ ap (λ bs. false ∷ bs) h
  end_is (TheAtom a) h = end_by (p.Atom a) (pattern_views.outs-Atom a) ∙ ap (λ bs. false ∷ bs) h
  end_is TheNil h = end_by p.Nil pattern_views.outs-Nil
  end_is (TheText text) h = end_by (p.Str text) (pattern_views.outs-Str text) ∙ ap (λ bs. false ∷ bs) h
  end_is (TheTuple ps) h =
      end_by (p.Tuple (pattern_trees ps)) (pattern_views.outs-Tuple (pattern_trees ps)) ∙ ap (λ bs. false ∷ bs) h
  end_is (TheList ps q) h =
      end_by (p.List (pattern_trees ps) (pattern_tree q)) (pattern_views.outs-List (pattern_trees ps) (pattern_tree q))
      ∙ ap (λ bs. false ∷ bs) h
  end_is (Alias x q) h =
      end_by (p.Alias x (pattern_tree q)) (pattern_views.outs-Alias x (pattern_tree q)) ∙ ap (λ bs. false ∷ bs) h

  all_inside_is : (ps : Patterns) → none (patterns_in (pattern_trees ps)) ≡ all_inside ps
  all_inside_is NoPatterns = refl
  all_inside_is (MorePatterns q ps) =
      ap (λ bs. false ∷ bs) (map-append (λ x. false) (within (pattern_tree q)) (patterns_in (pattern_trees ps)) ∙ (λ i. inside_is q i ++ all_inside_is ps i))

-- expressions

abbrev is_nil_syntax : Syntax → Bool
is_nil_syntax s.Nil = true
is_nil_syntax _ = false

module _ (atoms : List (List ℕ)) where
  abbrev flags : List Node → List Bool
  flags = are_events atoms

  abbrev mutual
    -- for each node of a syntax, in order, whether it is an event
    pub events : Syntax → List Bool
    events (s.Tuple site ss) = false ∷ all_events ss
    events (s.ListOf site ss t) = false ∷ all_events ss ++ (if is_nil_syntax t then [] else events t)
    events (s.Values ss) = false ∷ all_events ss
    events (s.Let xs t u) = false ∷ events t ++ events u
    events (s.Do t u) = false ∷ events t ++ events u
    events (s.Case t cs) = false ∷ events t ++ clauses_events cs
    events (s.Letrec fs t) = false ∷ definitions_events fs ++ events t
    events (s.Apply t ss) = false ∷ events t ++ all_events ss
    events (s.Call m f ss) = is_event atoms (s.Call m f ss) ∷ events m ++ events f ++ all_events ss
    events (s.Primop a ss) = false ∷ all_events ss
    events (s.Receive cs t u) = false ∷ clauses_events cs ++ events t ++ events u
    events (s.Try t xs u ys v) = false ∷ events t ++ events u ++ events v
    events (s.Catch t) = false ∷ events t
    events (s.Fun xs t) = false ∷ events t
    events _ = false ∷ []

    pub all_events : Syntaxes → List Bool
    all_events NoSyntax = []
    all_events (MoreSyntax t ts) = events t ++ all_events ts

    pub clauses_events : Clauses → List Bool
    clauses_events NoClauses = []
    clauses_events (MoreClauses ps guard body cs) = (all_inside ps ++ events guard ++ events body) ++ clauses_events cs

    pub definitions_events : Definitions → List Bool
    definitions_events NoDefinitions = []
    definitions_events (MoreDefinitions f xs body fs) = events body ++ definitions_events fs

  both : (xs ys : List Node) {ds bs : List Bool} → flags xs ≡ ds → flags ys ≡ bs → flags (xs ++ ys) ≡ ds ++ bs
  both xs ys p q = map-append (λ n. is_event_piece atoms n.piece) xs ys ∙ (λ i. p i ++ q i)

  -- its own node, and then its parts by its form
  by_shape : (t : Syntax) (z : Expr-F Expr Clause Function) (c : Context) {bs : List Bool} → out-Expr (tree t) ≡ z → flags (parts_layer z c) ≡ bs → flags (nodes (tree t) c) ≡ is_event atoms t ∷ bs
  by_shape t z c is parts =
      ap flags (nodes-parts (tree t) c ∙ ap (λ y. node (AnExpr (tree t)) c ∷ parts_layer y c) is)
      ∙ (λ i. is_event atoms (syntax_back t i) ∷ parts i)

  end_of : (t : Syntax) (z : Expr-F Expr Clause Function) (c : Context) → out-Expr (tree t) ≡ z → flags (end_nodes (tree t) c) ≡ flags (if layer_is_nil z then [] else nodes (tree t) c)
  end_of t z c is = ap (λ y. flags (if layer_is_nil y then [] else nodes (tree t) c)) is

  end_events : (t : Syntax) (c : Context) → flags (nodes (tree t) c) ≡ events t → flags (end_nodes (tree t) c) ≡ (if is_nil_syntax t then [] else events t)
  end_events (s.Int n) c h = end_of (s.Int n) _ c (views.outs-Int n) ∙ h
  end_events (s.Atom a) c h = end_of (s.Atom a) _ c (views.outs-Atom a) ∙ h
  end_events s.Nil c h = end_of s.Nil _ c views.outs-Nil
  end_events (s.Str text) c h = end_of (s.Str text) _ c (views.outs-Str text) ∙ h
  end_events (s.Var x) c h = end_of (s.Var x) _ c (views.outs-Var x) ∙ h
  end_events (s.Name f) c h = end_of (s.Name f) _ c (views.outs-Name f) ∙ h
  end_events (s.Tuple site ts) c h = end_of (s.Tuple site ts) _ c (views.outs-Tuple site (trees ts)) ∙ h
  end_events (s.ListOf site ts t) c h = end_of (s.ListOf site ts t) _ c (views.outs-List site (trees ts) (tree t)) ∙ h
  end_events (s.Values ts) c h = end_of (s.Values ts) _ c (views.outs-Values (trees ts)) ∙ h
  end_events (s.Let xs t u) c h = end_of (s.Let xs t u) _ c (views.outs-Let xs (tree t) (tree u)) ∙ h
  end_events (s.Do t u) c h = end_of (s.Do t u) _ c (views.outs-Do (tree t) (tree u)) ∙ h
  end_events (s.Case t cs) c h = end_of (s.Case t cs) _ c (views.outs-Case (tree t) (clause_trees cs)) ∙ h
  end_events (s.Letrec fs t) c h = end_of (s.Letrec fs t) _ c (views.outs-Letrec (definition_trees fs) (tree t)) ∙ h
  end_events (s.Apply t ts) c h = end_of (s.Apply t ts) _ c (views.outs-Apply (tree t) (trees ts)) ∙ h
  end_events (s.Call m f ts) c h = end_of (s.Call m f ts) _ c (views.outs-Call (tree m) (tree f) (trees ts)) ∙ h
  end_events (s.Primop a ts) c h = end_of (s.Primop a ts) _ c (views.outs-Primop a (trees ts)) ∙ h
  end_events (s.Receive cs t u) c h =
      end_of (s.Receive cs t u) _ c (views.outs-Receive (clause_trees cs) (tree t) (tree u)) ∙ h
  end_events (s.Try t xs u ys v) c h = end_of (s.Try t xs u ys v) _ c (views.outs-Try (tree t) xs (tree u) ys (tree v)) ∙ h
  end_events (s.Catch t) c h = end_of (s.Catch t) _ c (views.outs-Catch (tree t)) ∙ h
  end_events (s.Fun xs t) c h = end_of (s.Fun xs t) _ c (views.outs-Fun xs (tree t)) ∙ h

  patterns_flags : (qs : List declared.Pattern) (c : Context) → flags (map (λ q. node (APattern q) c) qs) ≡ none qs
  patterns_flags [] c = refl
  patterns_flags (q ∷ qs) c = ap (λ bs. false ∷ bs) (patterns_flags qs c)

  patterns_are : (ps : Patterns) (c : Context) → flags (pattern_nodes (pattern_trees ps) c) ≡ all_inside ps
  patterns_are NoPatterns c = refl
  patterns_are (MorePatterns q ps) c =
      ap (λ bs. false ∷ bs) (patterns_flags (within (pattern_tree q) ++ patterns_in (pattern_trees ps)) c)
      ∙ all_inside_is (MorePatterns q ps)

  mutual
    pub events_are : (t : Syntax) (c : Context) → flags (nodes (tree t) c) ≡ events t
    events_are (s.Int n) c = by_shape (s.Int n) _ c (views.outs-Int n) refl
    events_are (s.Atom a) c = by_shape (s.Atom a) _ c (views.outs-Atom a) refl
    events_are s.Nil c = by_shape s.Nil _ c views.outs-Nil refl
    events_are (s.Str text) c = by_shape (s.Str text) _ c (views.outs-Str text) refl
    events_are (s.Var x) c = by_shape (s.Var x) _ c (views.outs-Var x) refl
    events_are (s.Name f) c = by_shape (s.Name f) _ c (views.outs-Name f) refl
    events_are (s.Tuple site ts) c = by_shape (s.Tuple site ts) _ c (views.outs-Tuple site (trees ts)) (all_events_are ts _)
    events_are (s.ListOf site ts t) c =
        by_shape (s.ListOf site ts t) _ c (views.outs-List site (trees ts) (tree t))
        (both _ _ (all_events_are ts _) (end_events t _ (events_are t _)))
    events_are (s.Values ts) c = by_shape (s.Values ts) _ c (views.outs-Values (trees ts)) (all_events_are ts _)
    events_are (s.Let xs t u) c =
        by_shape (s.Let xs t u) _ c (views.outs-Let xs (tree t) (tree u)) (both _ _ (events_are t _) (events_are u _))
    events_are (s.Do t u) c = by_shape (s.Do t u) _ c (views.outs-Do (tree t) (tree u)) (both _ _ (events_are t _) (events_are u _))
    events_are (s.Case t cs) c =
        by_shape (s.Case t cs) _ c (views.outs-Case (tree t) (clause_trees cs))
        (both _ _ (events_are t _) (clauses_events_are cs _))
    events_are (s.Letrec fs t) c =
        by_shape (s.Letrec fs t) _ c (views.outs-Letrec (definition_trees fs) (tree t))
        (both _ _ (definitions_events_are fs _) (events_are t _))
    events_are (s.Apply t ts) c =
        by_shape (s.Apply t ts) _ c (views.outs-Apply (tree t) (trees ts)) (both _ _ (events_are t _) (all_events_are ts _))
    events_are (s.Call m f ts) c =
        by_shape (s.Call m f ts) _ c (views.outs-Call (tree m) (tree f) (trees ts))
        (both _ _ (both _ _ (events_are m _) (events_are f _)) (all_events_are ts _))
    events_are (s.Primop a ts) c = by_shape (s.Primop a ts) _ c (views.outs-Primop a (trees ts)) (all_events_are ts _)
    events_are (s.Receive cs t u) c =
        by_shape (s.Receive cs t u) _ c (views.outs-Receive (clause_trees cs) (tree t) (tree u))
        (both _ _ (both _ _ (clauses_events_are cs _) (events_are t _)) (events_are u _))
    events_are (s.Try t xs u ys v) c =
        by_shape (s.Try t xs u ys v) _ c (views.outs-Try (tree t) xs (tree u) ys (tree v))
        (both _ _ (both _ _ (events_are t _) (events_are u _)) (events_are v _))
    events_are (s.Catch t) c = by_shape (s.Catch t) _ c (views.outs-Catch (tree t)) (events_are t _)
    events_are (s.Fun xs t) c = by_shape (s.Fun xs t) _ c (views.outs-Fun xs (tree t)) (events_are t _)

    all_events_are : (ts : Syntaxes) (c : Context) → flags (each_node nodes (trees ts) c) ≡ all_events ts
    all_events_are NoSyntax c = refl
    all_events_are (MoreSyntax t ts) c = both _ _ (events_are t c) (all_events_are ts c)

    clauses_events_are : (cs : Clauses) (c : Context) → flags (each_node clause_nodes (clause_trees cs) c) ≡ clauses_events cs
    clauses_events_are NoClauses c = refl
    clauses_events_are (MoreClauses ps guard body cs) c =
        both _ _ (ap flags (clause_nodes-parts (record { patterns = pattern_trees ps; guard = tree guard; body = tree body }) c)
        ∙ both _ _ (both _ _ (patterns_are ps c) (events_are guard _)) (events_are body _)) (clauses_events_are cs c)

    definitions_events_are : (fs : Definitions) (c : Context) → flags (each_node definition_nodes (definition_trees fs) c) ≡ definitions_events fs
    definitions_events_are NoDefinitions c = refl
    definitions_events_are (MoreDefinitions f xs body fs) c =
        both _ _ (ap flags (definition_nodes-parts (record { name = f; params = xs; body = tree body }) c) ∙ events_are body _)
        (definitions_events_are fs c)

  -- the supply of a function that is written as syntax
  pub written_events : (f : FunName) (xs : List ℕ) (t : Syntax) → true_places 0 (flags (nodes_of (record { name = f; params = xs; body = tree t }))) ≡ true_places 0 (events t)
  written_events f xs t = ap (true_places 0) (events_are t _)
