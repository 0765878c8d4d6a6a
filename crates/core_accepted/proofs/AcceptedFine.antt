-- Trees of a module at whose nodes no fault holds are fine as syntax.
use Rattle.std.proofs.Common.{◌≡◌, ℕ, suc, if◌then◌else◌, true, false, true≢false, List, [], ◌∷◌, ◌++◌, length, Option, Some, None, refl, sym, ap, ◌∙◌, subst, arith, ◌⊎◌, inl, inr}
use Rattle.std.proofs.lemmas.List.Elements.{Contains-append_left, Contains-append_right, Contains-append_cases}
use Rattle.std.specs.List.{Contains}
use Rattle.hy_terms.specs.Naming.{text_of}
use Rattle.hy_core.specs.BuiltIn.{Operation, Plain, SetsElement, Sends, Spawns, Displays, RaisesAs}
use Rattle.hy_core.specs.KnownTrees.{pattern_count}
use Rattle.hy_core.specs.NameFaults.{FitsArity, IsExported, IsUnknownFunction, unknown_name, other_arguments, unknown_call, unknown_spawn, other_parameters}
use Rattle.hy_core.specs.NodeFaults.{IsUnbound, unbound, IsForbiddenForm, a_fun, a_value, applies_value, calls_computed, a_try, a_catch, a_primop, a_timeout, a_spawn, HasWrongValues, other_number, case_patterns, receive_patterns, IsForbiddenInGuard, forbidden, IsGuardExpr, IsGuardForm, IsName, IsAtom, no_element, elements, IsTimeout, gives, gives_layer}
use Rattle.hy_core.specs.NodeParts.{each_node, end_nodes, parts_layer}
use Rattle.hy_core.specs.Nodes.{AnExpr, Context, Node, node, nodes, clause_nodes, definition_nodes, names_of, patterns_of_first, pattern_nodes, is_nil_layer, for_one, for_values, inside, binding, defining, guarding, at_place}
use Rattle.hy_core.specs.Resolve.{defined_names, is_match_fail, is_one_variable}
use Rattle.hy_core.specs.Resolved.{Patterns, NoPatterns, MorePatterns}
use Rattle.hy_core.specs.Scopes.{Scope, is_bound, with_patterns, with_variables}
use Rattle.hy_core.specs.SubPatterns.{clause_variables}
use Rattle.hy_core.specs.Syntax as s
use Rattle.hy_core.specs.Syntax.{Syntax, Syntaxes, NoSyntax, MoreSyntax, count, tree, trees, clause_trees, definition_trees, pattern_tree, pattern_trees}
use Rattle.hy_core.specs.declared.fault.Form.{Form}
use Rattle.hy_core.specs.declared.place.Place.TheVariants.{Anywhere, Applied, Timeout, WholeGuard}
use Rattle.hy_core.specs.declared.tree.Clause.{Clause}
use Rattle.hy_core.specs.declared.tree.Expr.{Expr}
use Rattle.hy_core.specs.declared.tree.Expr.TheOpen.{Expr-F}
use Rattle.hy_core.specs.declared.tree.Expr.TheVariants as e
use Rattle.hy_core.specs.declared.tree.Expr.TheViews as views
use Rattle.hy_core.specs.declared.tree.Expr.TheViews.{out-Expr}
use Rattle.hy_core.specs.declared.tree.FunName.{FunName}
use Rattle.hy_core.specs.declared.tree.Function.{Function}
use Rattle.hy_core.specs.declared.tree.Module.{Module}
use Rattle.hy_core.specs.declared.tree.Program.{Program}
use Rattle.hy_core.proofs.NodesLemmas.{nodes-parts, clause_nodes-parts, definition_nodes-parts}
use Rattle.core_accepted.proofs.FineTrees.{AreFine, AreGuards, CallIsFine, ClausesAreFine, FunctionsAreFine, GuardIsFine, IsFine, IsGuard, IsPlain, SpawnIsFine, TimeoutIsFine, named, width_of}
use Rattle.core_accepted.proofs.Membership.{contains_first, contains_later}
use Rattle.core_accepted.proofs.PatternScopes.{Covers, covers_variables, covers_patterns}
use Rattle.core_accepted.proofs.Shapes.{stable_nat, stable_bool, as_syntax, NameShape, name_shape, AtomShape, atom_shape, SpawnShape, as_spawn, TimeoutShape, timeout_shape, TryShape, try_shape, GuardShape, guard_shape}

count_trees : (xs : Syntaxes) → length (trees xs) ≡ count xs
count_trees NoSyntax = refl
count_trees (MoreSyntax x xs) = ap suc (count_trees xs)

count_patterns : (ps : Patterns) → length (pattern_trees ps) ≡ pattern_count ps
count_patterns NoPatterns = refl
count_patterns (MorePatterns p ps) = ap suc (count_patterns ps)

first_width : (cs : s.Clauses) → patterns_of_first (clause_trees cs) ≡ width_of cs
first_width s.NoClauses = refl
first_width (s.MoreClauses ps guard body cs) = count_patterns ps

names_are : (fs : s.Definitions) → names_of (definition_trees fs) ≡ defined_names fs
names_are s.NoDefinitions = refl
names_are (s.MoreDefinitions f xs body fs) = ap (λ gs. f ∷ gs) (names_are fs)

abbrev IsTry : Syntax → Type 0
IsTry (s.Try value vars body catch_vars catch_body) = Unit {0}
IsTry _ = ⊥

module _ (program : Program) (m : Module) where
  -- no fault of these kinds holds at the node
  pub record IsFineNode (n : Node) : Type 0 where
    pub bound : IsUnbound n → ⊥
    pub form : (f : Form) → IsForbiddenForm m n f → ⊥
    pub values : HasWrongValues m n → ⊥
    pub guard : IsForbiddenInGuard m n → ⊥
    pub function : IsUnknownFunction program m n → ⊥

  abbrev pub AreFineNodes : List Node → Type 0
  AreFineNodes ns = (n : Node) → Contains ns n → IsFineNode n

  left : (ns ks : List Node) → AreFineNodes (ns ++ ks) → AreFineNodes ns
  left ns ks h n here = h n (Contains-append_left ns ks n here)

  right : (ns ks : List Node) → AreFineNodes (ns ++ ks) → AreFineNodes ks
  right ns ks h n here = h n (Contains-append_right ns ks n here)

  -- an expression's own node, and the nodes of its parts
  own : (t : Syntax) (c : Context) → AreFineNodes (nodes (tree t) c) → IsFineNode (node (AnExpr (tree t)) c)
  own t c h = subst AreFineNodes (nodes-parts (tree t) c) h (node (AnExpr (tree t)) c) (contains_first _ _)

  parts : (t : Syntax) (z : Expr-F Expr Clause Function) (c : Context) → out-Expr (tree t) ≡ z → AreFineNodes (nodes (tree t) c) → AreFineNodes (parts_layer z c)
  parts t z c is h = subst (λ y. AreFineNodes (parts_layer y c)) is (λ n here. subst AreFineNodes (nodes-parts (tree t) c) h n (contains_later _ _ n here))

  -- as many values as are needed
  as_needed : (t : Syntax) (n : ℕ) (c : Context) → gives m (tree t) ≡ Some n → IsFineNode (node (AnExpr (tree t)) c) → c.needs ≡ n
  as_needed t n c is h = sym (stable_nat n c.needs (λ other. h.values (other_number (tree t) n is other)))

  -- one value, of a form that is this one
  one : (t : Syntax) (z : Expr-F Expr Clause Function) (c : Context) → out-Expr (tree t) ≡ z → gives_layer m z ≡ Some 1 → AreFineNodes (nodes (tree t) c) → c.needs ≡ 1
  one t z c is gives_one h = as_needed t 1 c (ap (gives_layer m) is ∙ gives_one) (own t c h)

  -- where the expression stands is no place of its own kind
  abbrev Ordinary : Syntax → Context → Type 0
  Ordinary t c = (c.place ≡ Applied → ⊥) × (IsTry t → c.place ≡ WholeGuard → ⊥)

  anywhere : (t : Syntax) (c : Context) → c.place ≡ Anywhere → Ordinary t c
  anywhere t c is = ((λ p. elsewhere_applied (sym is ∙ p)), (λ t p. elsewhere_guard (sym is ∙ p)))
    where
      elsewhere_applied : Anywhere ≡ Applied → ⊥
      elsewhere_applied p = cc

      elsewhere_guard : Anywhere ≡ WholeGuard → ⊥
      elsewhere_guard p = cc

  -- guards

  as_guard : (t : Syntax) (c : Context) → c.in_guard ≡ true → AreFineNodes (nodes (tree t) c) → (GuardShape m t → ⊥) → ⊥
  as_guard t c in_guard h other =
      (own t c h).guard (forbidden (tree t) in_guard (λ is. other (as_syntax (GuardShape m) (IsGuardExpr m c.place) (guard_shape m c.place) t is)))

  no_try : (t : Syntax) (c : Context) → c.place ≡ Anywhere → AreFineNodes (nodes (tree t) c) → IsTry t → ⊥
  no_try (s.Try value vars body catch_vars catch_body) c is h yes_try =
      (own (s.Try value vars body catch_vars catch_body) c h).form _ (a_try vars catch_vars (tree value) (tree body) (tree catch_body) (λ whole. (anywhere (s.Try value vars body catch_vars catch_body) c is).1 tt whole.0))
  no_try _ c is h yes_try = absurd yes_try

  plain_stable : (o : Option Operation) → ((IsPlain o → ⊥) → ⊥) → IsPlain o
  plain_stable (Some (Plain b)) h = tt
  plain_stable None h = absurd (h (λ x. x))
  plain_stable (Some SetsElement) h = absurd (h (λ x. x))
  plain_stable (Some Sends) h = absurd (h (λ x. x))
  plain_stable (Some Spawns) h = absurd (h (λ x. x))
  plain_stable (Some Displays) h = absurd (h (λ x. x))
  plain_stable (Some (RaisesAs class)) h = absurd (h (λ x. x))

  none : (A : Type 0) → ((⊥ → ⊥) → ⊥) → A
  none A h = absurd (h (λ x. x))

  mutual
    is_guard : (t : Syntax) (c : Context) → c.in_guard ≡ true → (IsTry t → ⊥) → AreFineNodes (nodes (tree t) c) → IsGuard program m t
    is_guard (s.Int n) c in_guard other h = tt
    is_guard (s.Atom a) c in_guard other h = tt
    is_guard s.Nil c in_guard other h = tt
    is_guard (s.Var x) c in_guard other h = tt
    is_guard (s.Let xs value body) c in_guard other h =
        let inner = parts (s.Let xs value body) _ c (views.outs-Let xs (tree value) (tree body)) h in
        let first = left _ _ inner in
        let second = right (nodes (tree value) (for_values (length xs) c)) _ inner in (
          is_guard value (for_values (length xs) c) in_guard (no_try value (for_values (length xs) c) refl first) first,
          is_guard body (binding xs c) in_guard (no_try body (binding xs c) refl second) second,
        )
    is_guard (s.Call (s.Atom a) (s.Atom b) args) c in_guard other h =
        let inner = parts (s.Call (s.Atom a) (s.Atom b) args) _ c (views.outs-Call (e.Atom a) (e.Atom b) (trees args)) h in (
          plain_stable (named program m a b (count args)) (as_guard (s.Call (s.Atom a) (s.Atom b) args) c in_guard h),
          are_guards args (for_one c) in_guard refl (right (nodes (e.Atom a) (for_one c) ++ nodes (e.Atom b) (for_one c)) _ inner),
        )
    is_guard (s.Try value vars body catch_vars catch_body) c in_guard other h = absurd (other tt)
    is_guard (s.Str text) c in_guard other h = none _ (as_guard (s.Str text) c in_guard h)
    is_guard (s.Name f) c in_guard other h = none _ (as_guard (s.Name f) c in_guard h)
    is_guard (s.Tuple site xs) c in_guard other h = none _ (as_guard (s.Tuple site xs) c in_guard h)
    is_guard (s.ListOf site xs x) c in_guard other h = none _ (as_guard (s.ListOf site xs x) c in_guard h)
    is_guard (s.Values xs) c in_guard other h = none _ (as_guard (s.Values xs) c in_guard h)
    is_guard (s.Do x y) c in_guard other h = none _ (as_guard (s.Do x y) c in_guard h)
    is_guard (s.Case x cs) c in_guard other h = none _ (as_guard (s.Case x cs) c in_guard h)
    is_guard (s.Letrec fs x) c in_guard other h = none _ (as_guard (s.Letrec fs x) c in_guard h)
    is_guard (s.Apply x xs) c in_guard other h = none _ (as_guard (s.Apply x xs) c in_guard h)
    is_guard (s.Primop a xs) c in_guard other h = none _ (as_guard (s.Primop a xs) c in_guard h)
    is_guard (s.Receive cs x y) c in_guard other h = none _ (as_guard (s.Receive cs x y) c in_guard h)
    is_guard (s.Catch x) c in_guard other h = none _ (as_guard (s.Catch x) c in_guard h)
    is_guard (s.Fun xs x) c in_guard other h = none _ (as_guard (s.Fun xs x) c in_guard h)
    is_guard (s.Call x y args) c in_guard other h = none _ (as_guard (s.Call x y args) c in_guard h)

    are_guards : (ts : Syntaxes) (c : Context) → c.in_guard ≡ true → c.place ≡ Anywhere → AreFineNodes (each_node nodes (trees ts) c) → AreGuards program m ts
    are_guards NoSyntax c in_guard place h = tt
    are_guards (MoreSyntax t ts) c in_guard place h =
        let first = left (nodes (tree t) c) _ h in
        (is_guard t c in_guard (no_try t c place first) first, are_guards ts c in_guard place (right (nodes (tree t) c) _ h))

  -- the end of a list notation: nil there is no node
  by_end : (t : Syntax) (z : Expr-F Expr Clause Function) (c : Context) → out-Expr (tree t) ≡ z → AreFineNodes (end_nodes (tree t) c) → AreFineNodes (if is_nil_layer z then [] else nodes (tree t) c)
  by_end t z c is h = subst (λ y. AreFineNodes (if is_nil_layer y then [] else nodes (tree t) c)) is h

  end_fine : (t : Syntax) (scope : Scope) (locals : List FunName) (c : Context) → AreFineNodes (end_nodes (tree t) c) → (AreFineNodes (nodes (tree t) c) → IsFine program m scope locals 1 t)
      → IsFine program m scope locals 1 t
  end_fine s.Nil scope locals c h fine = refl
  end_fine (s.Int n) scope locals c h fine = fine (by_end (s.Int n) _ c (views.outs-Int n) h)
  end_fine (s.Atom a) scope locals c h fine = fine (by_end (s.Atom a) _ c (views.outs-Atom a) h)
  end_fine (s.Str text) scope locals c h fine = fine (by_end (s.Str text) _ c (views.outs-Str text) h)
  end_fine (s.Var x) scope locals c h fine = fine (by_end (s.Var x) _ c (views.outs-Var x) h)
  end_fine (s.Name f) scope locals c h fine = fine (by_end (s.Name f) _ c (views.outs-Name f) h)
  end_fine (s.Tuple site ts) scope locals c h fine = fine (by_end (s.Tuple site ts) _ c (views.outs-Tuple site (trees ts)) h)
  end_fine (s.ListOf site ts t) scope locals c h fine = fine (by_end (s.ListOf site ts t) _ c (views.outs-List site (trees ts) (tree t)) h)
  end_fine (s.Values ts) scope locals c h fine = fine (by_end (s.Values ts) _ c (views.outs-Values (trees ts)) h)
  end_fine (s.Let xs t u) scope locals c h fine = fine (by_end (s.Let xs t u) _ c (views.outs-Let xs (tree t) (tree u)) h)
  end_fine (s.Do t u) scope locals c h fine = fine (by_end (s.Do t u) _ c (views.outs-Do (tree t) (tree u)) h)
  end_fine (s.Case t cs) scope locals c h fine = fine (by_end (s.Case t cs) _ c (views.outs-Case (tree t) (clause_trees cs)) h)
  end_fine (s.Letrec fs t) scope locals c h fine = fine (by_end (s.Letrec fs t) _ c (views.outs-Letrec (definition_trees fs) (tree t)) h)
  end_fine (s.Apply t ts) scope locals c h fine = fine (by_end (s.Apply t ts) _ c (views.outs-Apply (tree t) (trees ts)) h)
  end_fine (s.Call x y ts) scope locals c h fine = fine (by_end (s.Call x y ts) _ c (views.outs-Call (tree x) (tree y) (trees ts)) h)
  end_fine (s.Primop a ts) scope locals c h fine = fine (by_end (s.Primop a ts) _ c (views.outs-Primop a (trees ts)) h)
  end_fine (s.Receive cs t u) scope locals c h fine = fine (by_end (s.Receive cs t u) _ c (views.outs-Receive (clause_trees cs) (tree t) (tree u)) h)
  end_fine (s.Try t xs u ys v) scope locals c h fine = fine (by_end (s.Try t xs u ys v) _ c (views.outs-Try (tree t) xs (tree u) ys (tree v)) h)
  end_fine (s.Catch t) scope locals c h fine = fine (by_end (s.Catch t) _ c (views.outs-Catch (tree t)) h)
  end_fine (s.Fun xs t) scope locals c h fine = fine (by_end (s.Fun xs t) _ c (views.outs-Fun xs (tree t)) h)

  -- what is called

  -- these variables and these functions of letrecs are there
  pub record Around (xs : List ℕ) (fs : List FunName) (scope : Scope) (locals : List FunName) : Type 0 where
    pub bound : Covers xs scope
    pub defined : (f : FunName) → Contains fs f → Contains locals f

  with_bound : (bound : List ℕ) (fs : List FunName) (scope : Scope) (locals : List FunName) (xs : List ℕ) → Around bound fs scope locals → Around (bound ++ xs) fs (with_variables scope xs) locals
  with_bound bound fs scope locals xs a = record { bound = covers_variables bound xs scope a.bound; defined = a.defined }

  with_defined : (bound : List ℕ) (fs : List FunName) (scope : Scope) (locals names : List FunName) → Around bound fs scope locals → Around bound (fs ++ names) scope (names ++ locals)
  with_defined bound fs scope locals names a = record {
    bound = a.bound;
    defined = λ f here. by f (Contains-append_cases fs names f here);
  }
    where
      by : (f : FunName) → Contains fs f ⊎ Contains names f → Contains (names ++ locals) f
      by f (inl l) = Contains-append_right names locals f (a.defined f l)
      by f (inr l) = Contains-append_left names locals f l

  with_clause : (bound : List ℕ) (fs : List FunName) (ps : Patterns) (scope : Scope) (locals : List FunName) → Around bound fs scope locals → Around (bound ++ clause_variables (pattern_trees ps)) fs (with_patterns scope ps) locals
  with_clause bound fs ps scope locals a = record { bound = covers_patterns bound ps scope a.bound; defined = a.defined }

  variable_fine : (x : ℕ) (c : Context) (scope : Scope) (locals : List FunName) → Around c.scope c.locals scope locals → IsFineNode (node (AnExpr (e.Var x)) c) → is_bound x scope ≡ true
  variable_fine x c scope locals a h = stable_bool (is_bound x scope) (λ no_binding. h.bound (unbound x (λ here. no_binding (a.bound x here))))

  abbrev op : (a b n : ℕ) → Option Operation
  op = named program m

  spawned_fine : (a b : ℕ) (ts : Syntaxes) (c : Context) → op a b (count ts) ≡ Some Spawns → IsFineNode (node (AnExpr (e.Call (e.Atom a) (e.Atom b) (trees ts))) c) → SpawnShape ts → SpawnIsFine program m ts
  spawned_fine a b (MoreSyntax (s.Atom x) (MoreSyntax (s.Atom y) (MoreSyntax s.Nil NoSyntax))) c is h shape =
      λ p. h.function (unknown_spawn a b x y 0 e.Nil is no_element p)
  spawned_fine a b (MoreSyntax (s.Atom x) (MoreSyntax (s.Atom y) (MoreSyntax (s.ListOf site heads s.Nil) NoSyntax))) c is h shape =
      λ p. h.function (unknown_spawn a b x y (length (trees heads)) (e.List site (trees heads) e.Nil) is (elements site (trees heads)) (λ found. p (subst (IsExported program (text_of m.atoms x) (text_of m.atoms y)) (count_trees heads) found)))
  spawned_fine a b _ c is h shape = absurd shape

  call_fine : (a b : ℕ) (ts : Syntaxes) (c : Context) → IsFineNode (node (AnExpr (e.Call (e.Atom a) (e.Atom b) (trees ts))) c) → (o : Option Operation) → op a b (count ts) ≡ o → CallIsFine program m o a b ts
  call_fine a b ts c h None is =
      λ p. h.function (unknown_call a b (trees ts) (ap (op a b) (count_trees ts) ∙ is) (λ found. p (subst (IsExported program (text_of m.atoms a) (text_of m.atoms b)) (count_trees ts) found)))
  call_fine a b ts c h (Some (Plain f)) is = tt
  call_fine a b ts c h (Some SetsElement) is = tt
  call_fine a b ts c h (Some Sends) is = tt
  call_fine a b ts c h (Some Displays) is = tt
  call_fine a b ts c h (Some (RaisesAs class)) is = tt
  call_fine a b ts c h (Some Spawns) is = by_shape ts (λ unshaped. h.form _ (a_spawn a b (trees ts) (ap (op a b) (count_trees ts) ∙ is) (λ spawn. unshaped (as_spawn m ts spawn))))
    where
      stable_spawn : (us : Syntaxes) → ((SpawnIsFine program m us → ⊥) → ⊥) → SpawnIsFine program m us
      stable_spawn (MoreSyntax (s.Atom x) (MoreSyntax (s.Atom y) (MoreSyntax s.Nil NoSyntax))) p = λ q. p (λ may. may q)
      stable_spawn (MoreSyntax (s.Atom x) (MoreSyntax (s.Atom y) (MoreSyntax (s.ListOf site heads s.Nil) NoSyntax))) p = λ q. p (λ may. may q)
      stable_spawn _ p = p (λ x. x)

      by_shape : (us : Syntaxes) → ((SpawnShape ts → ⊥) → ⊥) → SpawnIsFine program m ts
      by_shape us p = stable_spawn ts (λ q. p (λ shape. q (spawned_fine a b ts c is h shape)))

  -- a timeout

  stable_timeout : (t : Syntax) → ((TimeoutShape m t → ⊥) → ⊥) → TimeoutIsFine program m t
  stable_timeout (s.Int n) h = stable_bool _ h
  stable_timeout (s.Atom a) h = stable_bool _ h
  stable_timeout _ h = h (λ x. x)

  timeout_fine : (t : Syntax) (c : Context) → c.place ≡ Timeout → AreFineNodes (nodes (tree t) c) → TimeoutIsFine program m t
  timeout_fine t c is h =
      stable_timeout t (λ unshaped. (own t c h).form _ (a_timeout (tree t) is (λ timeout. unshaped (as_syntax (TimeoutShape m) (IsTimeout m) (timeout_shape m) t timeout))))

  -- what a clause has

  clause_parts : (ps : Patterns) (guard body : Syntax) (c : Context) → AreFineNodes (clause_nodes (record { patterns = pattern_trees ps; guard = tree guard; body = tree body }) c)
      → (let xs = clause_variables (pattern_trees ps) in AreFineNodes (nodes (tree guard) (guarding xs c)) × AreFineNodes (nodes (tree body) (binding xs c)))
  clause_parts ps guard body c h =
      let xs = clause_variables (pattern_trees ps) in
      let k : Clause = record { patterns = pattern_trees ps; guard = tree guard; body = tree body } in
      let all = subst AreFineNodes (clause_nodes-parts k c) h in
      let before = pattern_nodes (pattern_trees ps) c in
      let of_guard = nodes (tree guard) (guarding xs c) in
      let of_body = nodes (tree body) (binding xs c) in
      (right before of_guard (left (before ++ of_guard) of_body all), right (before ++ of_guard) of_body all)

  -- the guard form of `try`

  stable_try : (t : Syntax) → ((TryShape m t → ⊥) → ⊥) → TryShape m t
  stable_try (s.Try value vars (s.Var x) catch_vars (s.Atom a)) h =
      (stable_bool _ (λ p. h (λ shape. p shape.0)), stable_bool _ (λ p. h (λ shape. p shape.1)), stable_bool _ (λ p. h (λ shape. p shape.2)))
  stable_try _ h = h (λ x. x)

  try_of : (t : Syntax) (c : Context) → IsTry t → AreFineNodes (nodes (tree t) c) → TryShape m t
  try_of (s.Try value vars body catch_vars catch_body) c is h =
      let t = s.Try value vars body catch_vars catch_body in
      stable_try t (λ unshaped. (own t c h).form _ (a_try vars catch_vars (tree value) (tree body) (tree catch_body) (λ whole. unshaped (as_syntax (TryShape m) (IsGuardForm m) (try_shape m) t whole.1))))
  try_of _ c is h = absurd is

  abbrev CallShape : Syntax → Syntax → Type 0
  CallShape (s.Atom a) (s.Atom b) = Unit {0}
  CallShape _ _ = ⊥

  atoms_shape : (x y : Syntax) → AtomShape x → AtomShape y → CallShape x y
  atoms_shape (s.Atom a) (s.Atom b) p q = tt
  atoms_shape (s.Atom a) _ p q = absurd q
  atoms_shape _ _ p q = absurd p

  as_call : (x y : Syntax) → IsAtom (tree x) × IsAtom (tree y) → CallShape x y
  as_call x y h = atoms_shape x y (as_syntax AtomShape IsAtom atom_shape x h.0) (as_syntax AtomShape IsAtom atom_shape y h.1)

  one_variable : (xs : List ℕ) (x : ℕ) → is_one_variable xs x ≡ true → length xs ≡ 1
  one_variable (y ∷ []) x h = refl
  one_variable [] x h = absurd (true≢false (sym h))
  one_variable (y ∷ z ∷ ys) x h = absurd (true≢false (sym h))

  -- one clause after another, and their numbers of patterns
  abbrev HaveSo : (values : ℕ) → s.Clauses → Type 0
  HaveSo values cs = (k : Clause) → Contains (clause_trees cs) k → length k.patterns ≡ values

  abbrev FitAll : s.Definitions → Type 0
  FitAll fs = (f : Function) → Contains (definition_trees fs) f → (FitsArity f → ⊥) → ⊥

  mutual
    fine : (t : Syntax) (c : Context) (scope : Scope) (locals : List FunName) → Around c.scope c.locals scope locals → Ordinary t c → AreFineNodes (nodes (tree t) c)
        → IsFine program m scope locals c.needs t
    fine (s.Int n) c scope locals a here h = one (s.Int n) _ c (views.outs-Int n) refl h
    fine (s.Atom x) c scope locals a here h = one (s.Atom x) _ c (views.outs-Atom x) refl h
    fine s.Nil c scope locals a here h = one s.Nil _ c views.outs-Nil refl h
    fine (s.Str text) c scope locals a here h = one (s.Str text) _ c (views.outs-Str text) refl h
    fine (s.Var x) c scope locals a here h = (one (s.Var x) _ c (views.outs-Var x) refl h, variable_fine x c scope locals a (own (s.Var x) c h))
    fine (s.Name f) c scope locals a here h = absurd ((own (s.Name f) c h).form _ (a_value f here.0))
    fine (s.Tuple site ts) c scope locals a here h =
        (one (s.Tuple site ts) _ c (views.outs-Tuple site (trees ts)) refl h, all_fine ts (for_one c) scope locals a refl refl (parts (s.Tuple site ts) _ c (views.outs-Tuple site (trees ts)) h))
    fine (s.ListOf site ts t) c scope locals a here h =
        let inner = parts (s.ListOf site ts t) _ c (views.outs-List site (trees ts) (tree t)) h in (
          one (s.ListOf site ts t) _ c (views.outs-List site (trees ts) (tree t)) refl h,
          all_fine ts (for_one c) scope locals a refl refl (left _ (end_nodes (tree t) (for_one c)) inner),
          end_fine t scope locals (for_one c) (right (each_node nodes (trees ts) (for_one c)) _ inner) (λ h. fine t (for_one c) scope locals a (anywhere t (for_one c) refl) h),
        )
    fine (s.Values ts) c scope locals a here h = (
      as_needed (s.Values ts) (length (trees ts)) c (ap (gives_layer m) (views.outs-Values (trees ts))) (own (s.Values ts) c h) ∙ count_trees ts,
      all_fine ts (for_one c) scope locals a refl refl (parts (s.Values ts) _ c (views.outs-Values (trees ts)) h),
    )
    fine (s.Let xs t u) c scope locals a here h =
        let inner = parts (s.Let xs t u) _ c (views.outs-Let xs (tree t) (tree u)) h in (
          fine t (for_values (length xs) c) scope locals a (anywhere t (for_values (length xs) c) refl) (left _ (nodes (tree u) (binding xs c)) inner),
          fine u (binding xs c) (with_variables scope xs) locals (with_bound c.scope c.locals scope locals xs a) (anywhere u (binding xs c) refl) (right (nodes (tree t) (for_values (length xs) c)) _ inner),
        )
    fine (s.Do t u) c scope locals a here h =
        let inner = parts (s.Do t u) _ c (views.outs-Do (tree t) (tree u)) h in
        (fine t (for_one c) scope locals a (anywhere t (for_one c) refl) (left _ (nodes (tree u) (inside c)) inner), fine u (inside c) scope locals a (anywhere u (inside c) refl) (right (nodes (tree t) (for_one c)) _ inner))
    fine (s.Case t cs) c scope locals a here h =
        let inner = parts (s.Case t cs) _ c (views.outs-Case (tree t) (clause_trees cs)) h in
        let inside_value = for_values (patterns_of_first (clause_trees cs)) c in
        let many : HaveSo (patterns_of_first (clause_trees cs)) cs
        = λ k within. stable_nat _ _ (λ other. (own (s.Case t cs) c h).values (case_patterns (tree t) (clause_trees cs) k within other)) in
        subst (λ n. IsFine program m scope locals n t × ClausesAreFine program m scope locals n c.needs cs) (first_width cs) (
          fine t inside_value scope locals a (anywhere t inside_value refl) (left _ (each_node clause_nodes (clause_trees cs) (inside c)) inner),
          clauses_fine cs (inside c) scope locals (patterns_of_first (clause_trees cs)) a (right (nodes (tree t) inside_value) _ inner) many,
        )
    fine (s.Letrec fs t) c scope locals a here h =
        let inner = parts (s.Letrec fs t) _ c (views.outs-Letrec (definition_trees fs) (tree t)) h in
        let within = defining (names_of (definition_trees fs)) c in
        let around : Around c.scope (c.locals ++ names_of (definition_trees fs)) scope (defined_names fs ++ locals)
        = subst (λ gs. Around c.scope (c.locals ++ names_of (definition_trees fs)) scope (gs ++ locals)) (names_are fs) (with_defined c.scope c.locals scope locals (names_of (definition_trees fs)) a) in
        let fit : FitAll fs = λ f within unfit. (own (s.Letrec fs t) c h).function (other_parameters f (definition_trees fs) (tree t) within unfit) in (
          functions_fine fs within scope (defined_names fs ++ locals) around (left _ (nodes (tree t) within) inner) fit,
          fine t within scope (defined_names fs ++ locals) around (anywhere t within refl) (right (each_node definition_nodes (definition_trees fs) within) _ inner),
        )
    fine (s.Apply (s.Name f) ts) c scope locals a here h =
        let t = s.Apply (s.Name f) ts in
        let inner = parts t _ c (views.outs-Apply (e.Name f) (trees ts)) h in (
          one t _ c (views.outs-Apply (e.Name f) (trees ts)) refl h,
          (λ p q. (own t c h).function (unknown_name f (trees ts) (λ within. p (a.defined f within)) q)),
          (sym (count_trees ts) ∙ stable_nat _ _ (λ other. (own t c h).function (other_arguments f (trees ts) other))),
          all_fine ts (for_one c) scope locals a refl refl (right (nodes (e.Name f) (at_place Applied c)) _ inner),
        )
    fine (s.Call (s.Atom x) (s.Atom y) ts) c scope locals a here h =
        let t = s.Call (s.Atom x) (s.Atom y) ts in
        let inner = parts t _ c (views.outs-Call (e.Atom x) (e.Atom y) (trees ts)) h in (
          one t _ c (views.outs-Call (e.Atom x) (e.Atom y) (trees ts)) refl h,
          call_fine x y ts c (own t c h) (op x y (count ts)) refl,
          all_fine ts (for_one c) scope locals a refl refl (right (nodes (e.Atom x) (for_one c) ++ nodes (e.Atom y) (for_one c)) _ inner),
        )
    fine (s.Primop x ts) c scope locals a here h = (
      ap (is_match_fail (text_of m.atoms x)) (sym (count_trees ts)) ∙ stable_bool _ (λ other. (own (s.Primop x ts) c h).form _ (a_primop x (trees ts) other)),
      all_fine ts (for_one c) scope locals a refl refl (parts (s.Primop x ts) _ c (views.outs-Primop x (trees ts)) h),
    )
    fine (s.Receive cs t u) c scope locals a here h =
        let inner = parts (s.Receive cs t u) _ c (views.outs-Receive (clause_trees cs) (tree t) (tree u)) h in
        let of_clauses = each_node clause_nodes (clause_trees cs) (inside c) in
        let of_timeout = nodes (tree t) (at_place Timeout c) in
        let of_body = nodes (tree u) (inside c) in
        let many : HaveSo 1 cs
        = λ k within. stable_nat _ _ (λ other. (own (s.Receive cs t u) c h).values (receive_patterns (tree t) (tree u) (clause_trees cs) k within other)) in
        let before = left (of_clauses ++ of_timeout) of_body inner in (
          clauses_fine cs (inside c) scope locals 1 a (left of_clauses of_timeout before) many,
          timeout_fine t (at_place Timeout c) refl (right of_clauses of_timeout before),
          fine u (inside c) scope locals a (anywhere u (inside c) refl) (right (of_clauses ++ of_timeout) of_body inner),
        )
    fine (s.Try t xs u ys v) c scope locals a here h =
        absurd ((own (s.Try t xs u ys v) c h).form _ (a_try xs ys (tree t) (tree u) (tree v) (λ whole. here.1 tt whole.0)))
    fine (s.Catch t) c scope locals a here h = absurd ((own (s.Catch t) c h).form _ (a_catch (tree t)))
    fine (s.Fun xs t) c scope locals a here h = absurd ((own (s.Fun xs t) c h).form _ (a_fun xs (tree t)))
    fine (s.Apply t ts) c scope locals a here h =
        absurd ((own (s.Apply t ts) c h).form _ (applies_value (tree t) (trees ts) (λ is. as_syntax NameShape IsName name_shape t is)))
    fine (s.Call x y ts) c scope locals a here h =
        absurd ((own (s.Call x y ts) c h).form _ (calls_computed (tree x) (tree y) (trees ts) (λ atoms. as_call x y atoms)))

    all_fine : (ts : Syntaxes) (c : Context) (scope : Scope) (locals : List FunName) → Around c.scope c.locals scope locals → c.needs ≡ 1 → c.place ≡ Anywhere
        → AreFineNodes (each_node nodes (trees ts) c) → AreFine program m scope locals ts
    all_fine NoSyntax c scope locals a needs place h = tt
    all_fine (MoreSyntax t ts) c scope locals a needs place h =
        (subst (λ n. IsFine program m scope locals n t) needs (fine t c scope locals a (anywhere t c place) (left (nodes (tree t) c) _ h)), all_fine ts c scope locals a needs place (right (nodes (tree t) c) _ h))

    -- a guard; where it is no guard form of `try`, the expression itself is fine
    guard_fine : (t : Syntax) (c : Context) (scope : Scope) (locals : List FunName) → Around c.scope c.locals scope locals → c.in_guard ≡ true → AreFineNodes (nodes (tree t) c)
        → ((IsTry t → ⊥) → IsFine program m scope locals 1 t) → GuardIsFine program m scope locals t (IsFine program m scope locals 1 t)
    guard_fine (s.Try t xs (s.Var x) ys (s.Atom y)) c scope locals a in_guard h other =
        let whole = s.Try t xs (s.Var x) ys (s.Atom y) in
        let shape = try_of whole c tt h in
        let inner = parts whole _ c (views.outs-Try (tree t) xs (e.Var x) ys (e.Atom y)) h in
        let first = left (nodes (tree t) (for_values (length xs) c)) _ (left _ (nodes (e.Atom y) (binding ys c)) inner) in
        let at_value = for_values (length xs) c in (
          shape,
          is_guard t at_value in_guard (no_try t at_value refl first) first,
          subst (λ n. IsFine program m scope locals n t) (one_variable xs x shape.0) (fine t at_value scope locals a (anywhere t at_value refl) first),
        )
    guard_fine (s.Try t xs u ys v) c scope locals a in_guard h other = absurd (try_of (s.Try t xs u ys v) c tt h)
    guard_fine t c scope locals a in_guard h other = (is_guard t c in_guard (λ x. x) h, other (λ x. x))

    clauses_fine : (cs : s.Clauses) (c : Context) (scope : Scope) (locals : List FunName) (values : ℕ) → Around c.scope c.locals scope locals
        → AreFineNodes (each_node clause_nodes (clause_trees cs) c) → HaveSo values cs → ClausesAreFine program m scope locals values c.needs cs
    clauses_fine s.NoClauses c scope locals values a h many = tt
    clauses_fine (s.MoreClauses ps guard body cs) c scope locals values a h many =
        let k : Clause = record { patterns = pattern_trees ps; guard = tree guard; body = tree body } in
        let xs = clause_variables (pattern_trees ps) in
        let within = clause_parts ps guard body c (left (clause_nodes k c) _ h) in
        let around = with_clause c.scope c.locals ps scope locals a in
        let scope_inside = with_patterns scope ps in (
          sym (count_patterns ps) ∙ many k (contains_first k (clause_trees cs)),
          guard_fine guard (guarding xs c) scope_inside locals around refl within.0 (λ no_try. fine guard (guarding xs c) scope_inside locals around ((λ p. not_applied p), (λ is p. no_try is)) within.0),
          fine body (binding xs c) scope_inside locals around (anywhere body (binding xs c) refl) within.1,
          clauses_fine cs c scope locals values a (right (clause_nodes k c) _ h) (λ k here. many k (contains_later _ _ k here)),
        )
      where
        not_applied : WholeGuard ≡ Applied → ⊥
        not_applied p = cc

    functions_fine : (fs : s.Definitions) (c : Context) (scope : Scope) (locals : List FunName) → Around c.scope c.locals scope locals
        → AreFineNodes (each_node definition_nodes (definition_trees fs) c) → FitAll fs → FunctionsAreFine program m scope locals fs
    functions_fine s.NoDefinitions c scope locals a h fit = tt
    functions_fine (s.MoreDefinitions f xs body fs) c scope locals a h fit =
        let g : Function = record { name = f; params = xs; body = tree body } in
        let at_body = for_one (binding xs c) in
        let within = subst AreFineNodes (definition_nodes-parts g c) (left (definition_nodes g c) _ h) in (
          stable_nat _ _ (fit g (contains_first g (definition_trees fs))),
          fine body at_body (with_variables scope xs) locals (with_bound c.scope c.locals scope locals xs a) (anywhere body at_body refl) within,
          functions_fine fs c scope locals a (right (definition_nodes g c) _ h) (λ g here. fit g (contains_later _ _ g here)),
        )

  -- the body of a function of the module
  pub body_fine : (f : Function) (t : Syntax) → AreFineNodes (nodes (tree t) (record { scope = f.params; locals = []; needs = 1; in_guard = false; place = Anywhere }))
      → IsFine program m (with_variables [] f.params) [] 1 t
  body_fine f t h =
      let c : Context = record { scope = f.params; locals = []; needs = 1; in_guard = false; place = Anywhere } in
      let around : Around f.params [] (with_variables [] f.params) [] = record { bound = covers_variables [] f.params [] (λ x here. absurd (omega (arith, here.1))); defined = λ f here. here } in
      fine t c (with_variables [] f.params) [] around (anywhere t c refl) h
