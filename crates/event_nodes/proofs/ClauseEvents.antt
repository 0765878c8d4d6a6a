-- The nodes of clauses: those of a clause's patterns are no events, and come before its guard and
-- its body.
use Rattle.std.proofs.Common.{◌≡◌, ℕ, Bool, false, List, [], ◌∷◌, ◌++◌, map, drop}
use Rattle.std.proofs.Common.{refl, sym, ap, ◌∙◌}
use Rattle.std.proofs.Common.{append_assoc}
use Rattle.std.proofs.lemmas.List.{map-append}
use Rattle.hy_core.specs.Nodes.{Context, Node, node, AnExpr, APattern, binding, clause_nodes}
use Rattle.hy_core.specs.Nodes.{for_values, guarding, inside, nodes, nodes_of, pattern_nodes}
use Rattle.hy_core.specs.Nodes.{patterns_of_first}
use Rattle.hy_core.specs.NodeParts.{each_node, parts_layer}
use Rattle.hy_core.specs.ProgramTrees.{are_events}
use Rattle.hy_core.specs.Resolved.{Patterns, NoPatterns, MorePatterns}
use Rattle.hy_core.specs.SubPatterns.{clause_variables, patterns_in, within}
use Rattle.hy_core.specs.Syntax as s
use Rattle.hy_core.specs.Syntax.{Syntax, Clauses, MoreClauses, NoClauses, clause_trees}
use Rattle.hy_core.specs.Syntax.{pattern_tree, pattern_trees, syntax_of, tree}
use Rattle.hy_core.specs.declared.place.Place.TheVariants.{Anywhere}
use Rattle.hy_core.specs.declared.tree.Clause.{Clause}
use Rattle.hy_core.specs.declared.tree.Expr.TheVariants as e
use Rattle.hy_core.specs.declared.tree.Expr.TheViews as views
use Rattle.hy_core.specs.declared.tree.Function.{Function}
use Rattle.hy_core.specs.declared.tree.Pattern as declared
use Rattle.hy_core.proofs.EventNodes.{clauses_events, events, events_are}
use Rattle.hy_core.proofs.NodesLemmas.{clause_nodes-parts, nodes-parts}
use Rattle.hy_core.proofs.SyntaxLemmas.{comes_back}

-- the context of a function without parameters
abbrev outside : Context
outside = record {
  scope = [];
  locals = [];
  needs = 1;
  in_guard = false;
  place = Anywhere;
}

module _ (atoms : List (List ℕ)) where
  abbrev flags : List Node → List Bool
  flags = are_events atoms

  abbrev none : List declared.Pattern → List Bool
  none = map (λ q. false)

  both : (xs ys : List Node) {ds bs : List Bool} → flags xs ≡ ds → flags ys ≡ bs
      → flags (xs ++ ys) ≡ ds ++ bs
  both xs ys p q = map-append _ xs ys ∙ (λ i. p i ++ q i)

  patterns_flags : (qs : List declared.Pattern) (c : Context)
      → flags (map (λ q. node (APattern q) c) qs) ≡ none qs
  patterns_flags [] c = refl
  patterns_flags (q ∷ qs) c = ap (λ bs. false ∷ bs) (patterns_flags qs c)

  patterns_are : (ps : Patterns) (c : Context)
      → flags (pattern_nodes (pattern_trees ps) c) ≡ none (patterns_in (pattern_trees ps))
  patterns_are NoPatterns c = refl
  patterns_are (MorePatterns q ps) c =
      ap (λ bs. false ∷ bs)
      (patterns_flags (within (pattern_tree q) ++ patterns_in (pattern_trees ps)) c)

  -- clauses are the parts of a `case` behind its value, which has one node here
  clauses_are : (cs : Clauses)
      → flags (each_node clause_nodes (clause_trees cs) (inside outside)) ≡ clauses_events atoms cs
  clauses_are cs =
      let whole = e.Case e.Nil (clause_trees cs) in
      let at = for_values (patterns_of_first (clause_trees cs)) outside in
      let behind = each_node clause_nodes (clause_trees cs) (inside outside) in
      let value : nodes e.Nil at ≡ node (AnExpr e.Nil) at ∷ [] =
      nodes-parts e.Nil at
      ∙ ap (λ y. node (AnExpr e.Nil) at ∷ parts_layer y at) views.outs-Nil in
      let parts : nodes whole outside
      ≡ node (AnExpr whole) outside ∷ node (AnExpr e.Nil) at ∷ behind =
      nodes-parts whole outside
      ∙ ap (λ y. node (AnExpr whole) outside ∷ parts_layer y outside)
      (views.outs-Case e.Nil (clause_trees cs))
      ∙ ap (λ l. node (AnExpr whole) outside ∷ l ++ behind) value in
      ap (λ l. drop 2 (flags l)) (sym parts)
      ∙ ap (drop 2) (events_are atoms (s.Case s.Nil cs) outside)

  pub clause_flags : (ps : Patterns) (g b : Syntax) (cs : Clauses)
      → none (patterns_in (pattern_trees ps))
      ++ (events atoms g ++ (events atoms b ++ clauses_events atoms cs))
      ≡ clauses_events atoms (MoreClauses ps g b cs)
  clause_flags ps g b cs =
      let c = inside outside in
      let clause : Clause =
      record { patterns = pattern_trees ps; guard = tree g; body = tree b } in
      let variables = clause_variables (pattern_trees ps) in
      let patterns = none (patterns_in (pattern_trees ps)) in
      let own : flags (clause_nodes clause c) ≡ (patterns ++ events atoms g) ++ events atoms b =
      ap flags (clause_nodes-parts clause c)
      ∙ both (pattern_nodes (pattern_trees ps) c ++ nodes (tree g) (guarding variables c))
      (nodes (tree b) (binding variables c))
      (both (pattern_nodes (pattern_trees ps) c) (nodes (tree g) (guarding variables c))
      (patterns_are ps c) (events_are atoms g (guarding variables c)))
      (events_are atoms b (binding variables c)) in
      let rest = each_node clause_nodes (clause_trees cs) c in
      let whole : flags (clause_nodes clause c ++ rest)
      ≡ ((patterns ++ events atoms g) ++ events atoms b) ++ clauses_events atoms cs =
      both (clause_nodes clause c) rest own (clauses_are cs) in
      sym
      (append_assoc patterns (events atoms g) (events atoms b ++ clauses_events atoms cs))
      ∙ sym
      (append_assoc (patterns ++ events atoms g) (events atoms b) (clauses_events atoms cs))
      ∙ sym whole ∙ clauses_are (MoreClauses ps g b cs)

  -- and those of a function of a module
  pub function_flags : (f : Function) → flags (nodes_of f) ≡ events atoms (syntax_of f.body)
  function_flags f =
      let c : Context =
      record { scope = f.params; locals = []; needs = 1; in_guard = false; place = Anywhere } in
      ap (λ x. flags (nodes x c)) (sym (comes_back f.body)) ∙ events_are atoms (syntax_of f.body) c
