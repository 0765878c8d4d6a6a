-- Forms whose parts are numbered.
use Rattle.std.proofs.Common.{◌≡◌, ℕ, suc, ◌+◌, ◌<◌, ◌≤◌, List, [], ◌∷◌, ◌++◌, length, map, replicate, Option, Result, Ok, Err, refl, sym, ap, ◌∙◌, arith}
use Rattle.std.specs.List.{slice_index_or}
use Rattle.std.specs.Prelude.{IfOk}
use Rattle.hy_terms.specs.declared.memory.Memory.{Memory}
use Rattle.hy_core.specs.Counting.{Counts, next, made, at_node}
use Rattle.hy_core.specs.Expressions as trees
use Rattle.hy_core.specs.Expressions.{clause_of}
use Rattle.hy_core.specs.Numbered.{numbered_tree, sites_of}
use Rattle.core_tables.specs.code.NumberedParts.{numbered_pattern}
use Rattle.hy_core.specs.SubPatterns.{patterns_in}
use Rattle.hy_core.specs.Tables.{renamed_name}
use Rattle.hy_core.specs.declared.info.SiteKind.TheVariants.{Cons, Setelement}
use Rattle.hy_core.specs.declared.tree.Clause.{Clause}
use Rattle.hy_core.specs.declared.tree.Expr.{Expr}
use Rattle.hy_core.specs.declared.tree.Expr.TheOpen as layer
use Rattle.hy_core.specs.declared.tree.Expr.TheOpen.{Expr-F}
use Rattle.hy_core.specs.declared.tree.Expr.TheVariants as e
use Rattle.hy_core.specs.declared.tree.Expr.TheViews.{out-Expr, roll-Expr, roll-out-Expr, outs-List}
use Rattle.hy_core.specs.declared.tree.FunName.{FunName}
use Rattle.hy_core.specs.declared.tree.Function.{Function}
use Rattle.hy_core.specs.declared.tree.Module.{Module}
use Rattle.hy_core.specs.declared.tree.Pattern.{Pattern}
use Rattle.core_names.specs.Called.{built_in_as}
use Rattle.core_names.specs.declared.built_in.BuiltIn.{BuiltIn}
use Rattle.core_tables.proofs.CallLemmas.{args-does, sites-does}
use Rattle.core_tables.proofs.CountingLemmas.{of_two, past, then}
use Rattle.core_tables.proofs.NumberedLemmas.{by_form, by_spawned_form, numbered-parts}
use Rattle.core_tables.specs.code.CallParts.{built_in_args, call_sites}
use Rattle.core_tables.specs.code.NumberedParts.{spawned, numbered_clause, numbered_definition, numbered_each, numbered_tail, numbered_layer, spawned_layer, spawn_args, operation_of, call_args}

module _ (table : List (List ℕ)) (m : Module) where
  -- a call whose parts are numbered
  pub call-made : (x y : Expr) (args : List Expr) (function times : ℕ) (built_in : Option BuiltIn) (before : Counts) {n1 n2 n3 after : Counts} {first : ℕ} {a b : Expr} {xs : List Expr}
      → built_in ≡ built_in_as (operation_of table m x y args) → times ≡ call_sites built_in
      → (first, n1) ≡ at_node (replicate times Setelement) made function before → (a, n2) ≡ numbered_tree table m x function n1 → (b, n3) ≡ numbered_tree table m y function n2
      → (xs, after) ≡ built_in_args table m built_in args function n3 → (e.Call a b xs, after) ≡ numbered_layer table m (layer.Call x y args) function before
  call-made x y args function times built_in before {n3 = n3} {a = a} {b = b} is sites p q r s =
      let o = operation_of table m x y args in
      let own : replicate times Setelement ≡ sites_of o = ap (λ (n : ℕ). replicate n Setelement) (sites ∙ ap call_sites is) ∙ sites-does o in
      let rest = s ∙ (λ i. built_in_args table m (is i) args function n3) ∙ (λ i. args-does table m o args i function n3) in
      then (at_node (sites_of o) made) (λ _. next (numbered_tree table m x) λ a. next (numbered_tree table m y) λ b. next (call_args table m o args) λ xs. made (e.Call a b xs)) function
      (p ∙ (λ i. at_node (own i) made function before))
      (then (numbered_tree table m x) (λ a. next (numbered_tree table m y) λ b. next (call_args table m o args) λ xs. made (e.Call a b xs)) function q
      (then (numbered_tree table m y) (λ b. next (call_args table m o args) λ xs. made (e.Call a b xs)) function r
      (then (call_args table m o args) (λ xs. made (e.Call a b xs)) function rest refl)))

-- three arguments, one by one
pub three_items : {A : Type 0} (xs : List A) (x y z : A) → 3 ≤ length xs → length xs < 4 → x ≡ slice_index_or xs 0 x → y ≡ slice_index_or xs 1 y → z ≡ slice_index_or xs 2 z → xs ≡ x ∷ y ∷ z ∷ []
three_items [] x y z l u p q r = absurd (omega (arith, l))
three_items (a ∷ []) x y z l u p q r = absurd (omega (arith, l))
three_items (a ∷ b ∷ []) x y z l u p q r = absurd (omega (arith, l))
three_items (a ∷ b ∷ c ∷ []) x y z l u p q r = λ i. sym p i ∷ sym q i ∷ sym r i ∷ []
three_items (a ∷ b ∷ c ∷ d ∷ xs) x y z l u p q r = absurd (omega (arith, u))

module _ (table : List (List ℕ)) (m : Module) where
  -- an expression with no parts and no sites
  pub leaf-made : (r : Result Expr Memory) (x y expr : Expr) {z : Expr-F Expr Clause Function} (function : ℕ) (before after : Counts) → x ≡ y → out-Expr y ≡ z → at_node [] (λ _. made expr) function before ≡ numbered_layer table m z function before
      → IfOk r (λ tree. (tree ≡ expr) × (after ≡ record before { node = before.node + 1 })) → IfOk r (λ tree. (tree, after) ≡ numbered_tree table m x function before)
  leaf-made (Ok tree) x y expr function before after is outs same h = by_form table m is outs function before (past (made expr) function h.1 (λ i. (h.0 i, after)) ∙ same)
  leaf-made (Err e) x y expr function before after is outs same h = tt

  -- a list notation with sites, and one without
  pub list-made : (x : Expr) (old : ℕ) (heads : List Expr) (tail : Expr) (function count first : ℕ) (before n1 n2 after : Counts) (xs : List Expr) (t : Expr) → x ≡ e.List old heads tail → count ≡ length heads
      → (first, n1) ≡ at_node (replicate count Cons) made function before → (xs, n2) ≡ numbered_each table m heads function n1 → (t, after) ≡ numbered_tail table m tail function n2 → (e.List first xs t, after) ≡ numbered_tree table m x function before
  list-made x old heads tail function count first before n1 n2 after xs t is all p q r =
      by_form table m is (outs-List old heads tail) function before
      (then (at_node (replicate (length heads) Cons) made) (λ site. next (numbered_each table m heads) λ xs. next (numbered_tail table m tail) λ t. made (e.List site xs t)) function
      (p ∙ (λ i. at_node (replicate (all i) Cons) made function before))
      (then (numbered_each table m heads) (λ xs. next (numbered_tail table m tail) λ t. made (e.List first xs t)) function q (then (numbered_tail table m tail) (λ t. made (e.List first xs t)) function r refl)))

  pub spawned_list-made : (x : Expr) (old : ℕ) (heads : List Expr) (tail : Expr) (function : ℕ) (before n1 n2 after : Counts) (xs : List Expr) (t : Expr) → x ≡ e.List old heads tail → n1 ≡ record before { node = before.node + 1 }
      → (xs, n2) ≡ numbered_each table m heads function n1 → (t, after) ≡ numbered_tail table m tail function n2 → (e.List 0 xs t, after) ≡ spawned table m x function before
  spawned_list-made x old heads tail function before n1 n2 after xs t is p q r =
      by_spawned_form table m is (outs-List old heads tail) function before (of_two (numbered_each table m heads) (numbered_tail table m tail) (e.List 0) function p q r)

  same_layer : (z : Expr-F Expr Clause Function) → ((site : ℕ) (heads : List Expr) (tail : Expr) → z ≡ layer.List site heads tail → ⊥) → numbered_layer table m z ≡ spawned_layer table m z
  same_layer (layer.List site heads tail) other = absurd (other site heads tail refl)
  same_layer _ other = refl

  pub spawned_other-made : (r : Result Expr Memory) (x : Expr) (function : ℕ) (before after : Counts) → ((site : ℕ) (heads : List Expr) (tail : Expr) → x ≡ e.List site heads tail → ⊥)
      → IfOk r (λ tree. (tree, after) ≡ numbered_tree table m x function before) → IfOk r (λ tree. (tree, after) ≡ spawned table m x function before)
  spawned_other-made (Ok tree) x function before after other h =
      let same = same_layer (out-Expr x) (λ site heads tail is. other site heads tail (sym (roll-out-Expr x) ∙ ap roll-Expr is ∙ e.rolls-List site heads tail)) in
      by_spawned_form table m refl refl function before (h ∙ (λ i. numbered-parts table m x i function before) ∙ (λ i. same i function before))
  spawned_other-made (Err e) x function before after other h = tt

  pub spawn_args-made : (args : List Expr) (x y list : Expr) (function : ℕ) (before n1 n2 after : Counts) (t0 t1 t2 t3 : List Expr) (a b l : Expr) → args ≡ x ∷ y ∷ list ∷ []
      → t0 ≡ [] → (a, n1) ≡ numbered_tree table m x function before → t1 ≡ t0 ++ a ∷ [] → (b, n2) ≡ numbered_tree table m y function n1 → t2 ≡ t1 ++ b ∷ [] → (l, after) ≡ spawned table m list function n2 → t3 ≡ t2 ++ l ∷ []
      → (t3, after) ≡ spawn_args table m args function before
  spawn_args-made args x y list function before n1 n2 after t0 t1 t2 t3 a b l is is0 p is1 q is2 r is3 =
      let trees : t3 ≡ a ∷ b ∷ l ∷ [] = is3 ∙ ap (λ ts. ts ++ l ∷ []) (is2 ∙ ap (λ ts. ts ++ b ∷ []) (is1 ∙ ap (λ ts. ts ++ a ∷ []) is0)) in
      (λ i. (trees i, after))
      ∙ then (numbered_tree table m x) (λ a. next (numbered_tree table m y) λ b. next (spawned table m list) λ l. made (a ∷ b ∷ l ∷ [])) function p
      (then (numbered_tree table m y) (λ b. next (spawned table m list) λ l. made (a ∷ b ∷ l ∷ [])) function q (then (spawned table m list) (λ l. made (a ∷ b ∷ l ∷ [])) function r refl))
      ∙ ap (λ args. spawn_args table m args function before) (sym is)

  pub clause-made : (k : Clause) (function : ℕ) (before : Counts) {n1 n2 after : Counts} {ps rs qs : List Pattern} {g b : Expr} → n1 ≡ record before { node = before.node + length (patterns_in ps) } → ps ≡ k.patterns
      → (g, n2) ≡ numbered_tree table m k.guard function n1 → (b, after) ≡ numbered_tree table m k.body function n2 → qs ≡ map (numbered_pattern table m) rs → rs ≡ k.patterns → (clause_of qs g b, after) ≡ numbered_clause table m k function before
  clause-made k function before {after = after} {g = g} {b = b} p is q r patterns is_too =
      let passed = p ∙ (λ i. record before { node = before.node + length (patterns_in (is i)) }) in
      let renamed = patterns ∙ ap (map (numbered_pattern table m)) is_too in
      let make : Expr → Expr → Clause = λ g b. clause_of (map (numbered_pattern table m) k.patterns) g b in
      (λ i. (clause_of (renamed i) g b, after))
      ∙ then (numbered_tree table m k.guard) (λ g. next (numbered_tree table m k.body) λ b. made (make g b)) function q (then (numbered_tree table m k.body) (λ b. made (make g b)) function r refl)
      ∙ (λ i. next (numbered_tree table m k.guard) (λ g. next (numbered_tree table m k.body) λ b. made (make g b)) function (passed i))

  pub definition-made : (f : Function) (own : ℕ) (before : Counts) {middle after : Counts} {name : FunName} {params : List ℕ} {b : Expr} → (own ≡ before.local) × (middle ≡ record before { local = before.local + 1 })
      → (b, after) ≡ numbered_tree table m f.body own middle → name ≡ renamed_name table m f.name → params ≡ f.params → (outer : ℕ) → (trees.function name params b, after) ≡ numbered_definition table m f outer before
  definition-made f own before {middle = middle} {after = after} {b = b} is p is_name is_params outer =
      let one : before.local + 1 ≡ suc before.local = omega arith in
      let behind : middle ≡ record before { local = suc before.local } = is.1 ∙ (λ i. record before { local = one i }) in
      let body = next (numbered_tree table m f.body) λ b. made (trees.function (renamed_name table m f.name) f.params b) in
      (λ i. (trees.function (is_name i) (is_params i) b, after))
      ∙ then (numbered_tree table m f.body) (λ b. made (trees.function (renamed_name table m f.name) f.params b)) own p refl
      ∙ (λ i. body (is.0 i) (behind i))
