-- What acceptance says of a module of one function whose body is of the six forms: the function is
-- 'main'/0, and its body is closed.
use Rattle.std.proofs.Common.{◌≡◌, ◌⊎◌, ℕ, suc, zero, ◌==◌, Bool, true, false, List, [], ◌∷◌, ◌++◌, length, slice_get, Option, Some, None, inl, inr, refl, sym, ap, subst, ◌∙◌, arith}
use Rattle.std.specs.Prelude.{Contains, unwrap_or}
use Rattle.std.specs.List.{AllByRecursion}
use Rattle.std.specs.Str.{bytes_eq}
use Rattle.std.proofs.lemmas.Bool.Decides.{Decides-eqb}
use Rattle.std.proofs.lemmas.Slice.Eq.{bytes_eq-Decides}
use Rattle.std.proofs.lemmas.List.Elements.{Contains-append_cases}
use Rattle.hy_terms.specs.Naming.{text_of}
use Rattle.hy_core.specs.Faults.{IsAccepted, IsGivenFunction, no_main, undefined_export, other_arity, unbound_variable}
use Rattle.hy_core.specs.NameFaults.{ExportsMain, exports_main}
use Rattle.hy_core.specs.NodeFaults.{IsUnbound, unbound}
use Rattle.hy_core.specs.NodeParts.{parts_layer}
use Rattle.hy_core.specs.Nodes.{AnExpr, Context, Node, node, nodes, nodes_of, binding, for_one, for_values, inside, names_of}
use Rattle.hy_core.specs.declared.tree.Clause.{Clause}
use Rattle.hy_core.specs.declared.tree.Expr.{Expr}
use Rattle.hy_core.specs.declared.tree.Expr.TheOpen as layer
use Rattle.hy_core.specs.declared.tree.Expr.TheOpen.{Expr-F}
use Rattle.hy_core.specs.declared.tree.Expr.TheVariants as e
use Rattle.hy_core.specs.declared.tree.Expr.TheViews.{out-Expr, outs-Let, outs-Do, outs-Call}
use Rattle.hy_core.specs.declared.tree.FunName.{FunName}
use Rattle.hy_core.specs.declared.tree.Function.{Function}
use Rattle.hy_core.specs.declared.tree.Module.{Module}
use Rattle.hy_core.proofs.NodesLemmas.{nodes-parts, shaped}
use Rattle.hybrid_run.specs.Built.{HasText, IsAny, IsBuilt, IsClosed, IsOfForms, integer, variable, let_in, do_both, sum, display, call, the_main}
use Rattle.hy_core.specs.PreludeModules.{with_prelude}

-- ---- nodes without an unbound variable

abbrev AreBound : List Node → Type 0
AreBound = AllByRecursion (λ n. IsUnbound n → ⊥)

all_bound : (ns : List Node) → ((k : ℕ) (n : Node) → slice_get ns k ≡ Some n → IsUnbound n → ⊥) → AreBound ns
all_bound [] h = tt
all_bound (n ∷ ns) h = (h 0 n refl, all_bound ns (λ k m at. h (suc k) m at))

front : (ns ms : List Node) → AreBound (ns ++ ms) → AreBound ns
front [] ms h = tt
front (n ∷ ns) ms h = (h.0, front ns ms h.1)

back : (ns ms : List Node) → AreBound (ns ++ ms) → AreBound ms
back [] ms h = h
back (n ∷ ns) ms h = back ns ms h.1

-- ---- which variables are bound

among : (x : ℕ) (xs : List ℕ) → Contains xs x ⊎ (Contains xs x → ⊥)
among x [] = inr (λ h. let low = h.1 in absurd (omega arith))
among x (y ∷ ys) = by (y == x) refl (among x ys)
  where
    by : (b : Bool) → (y == x) ≡ b → Contains ys x ⊎ (Contains ys x → ⊥) → Contains (y ∷ ys) x ⊎ (Contains (y ∷ ys) x → ⊥)
    by true is others = inl (0, omega arith, (Decides-eqb y x).0 is)
    by false is (inl (k, low, at)) = inl (suc k, omega (arith, low), at)
    by false is (inr never) = inr (λ h. other h)
      where
        other : Contains (y ∷ ys) x → ⊥
        other (zero, low, at) = absurd (let yes = (Decides-eqb y x).1 at in cc)
        other (suc k, low, at) = never (k, omega (arith, low), at)

-- what is bound in a context is bound around
abbrev Covers : List ℕ → List ℕ → Type 0
Covers around scope = (x : ℕ) → Contains scope x → Contains around x

covers_more : (around scope : List ℕ) (v : ℕ) → Covers around scope → Covers (v ∷ around) (scope ++ v ∷ [])
covers_more around scope v h x there = by (Contains-append_cases scope (v ∷ []) x there)
  where
    later : Contains around x → Contains (v ∷ around) x
    later (k, low, at) = (suc k, omega (arith, low), at)

    by : Contains scope x ⊎ Contains (v ∷ []) x → Contains (v ∷ around) x
    by (inl outer) = later (h x outer)
    by (inr (zero, low, at)) = (0, omega arith, at)
    by (inr (suc k, low, at)) = absurd (omega (arith, low))

-- the nodes of the parts
parts_bound : (x : Expr) (z : Expr-F Expr Clause Function) → out-Expr x ≡ z → (c : Context) → AreBound (nodes x c) → AreBound (parts_layer z c)
parts_bound x z outs c h = (subst AreBound (nodes-parts x c ∙ ap (λ ns. node (AnExpr x) c ∷ ns) (shaped refl outs c)) h).1

module _ (atoms : List (List ℕ)) where
  -- the six forms are closed where no node has an unbound variable
  closed : {some : List ℕ} {x : Expr} → IsBuilt atoms IsAny some x → (around : List ℕ) (c : Context) → Covers around c.scope → AreBound (nodes x c) → IsClosed atoms around x
  closed (integer n) around c covers h = integer n
  closed (variable v is) around c covers h = by (among v c.scope)
    where
      here : IsUnbound (node (AnExpr (e.Var v)) c) → ⊥
      here = (subst AreBound (nodes-parts (e.Var v) c) h).0

      by : Contains c.scope v ⊎ (Contains c.scope v → ⊥) → IsClosed atoms around (e.Var v)
      by (inl bound) = variable v (covers v bound)
      by (inr never) = absurd (here (unbound v never))
  closed (let_in {x = x} {y = y} v d1 d2) around c covers h =
      let parts = parts_bound (e.Let (v ∷ []) x y) (layer.Let (v ∷ []) x y) (outs-Let (v ∷ []) x y) c h in
      let value = nodes x (for_values 1 c) in
      let body = nodes y (binding (v ∷ []) c) in
      let_in v (closed d1 around (for_values 1 c) covers (front value body parts))
      (closed d2 (v ∷ around) (binding (v ∷ []) c) (covers_more around c.scope v covers) (back value body parts))
  closed (do_both {x = x} {y = y} d1 d2) around c covers h =
      let parts = parts_bound (e.Do x y) (layer.Do x y) (outs-Do x y) c h in
      let first = nodes x (for_one c) in
      let second = nodes y (inside c) in
      do_both (closed d1 around (for_one c) covers (front first second parts)) (closed d2 around (inside c) covers (back first second parts))
  closed (sum {x = x} {y = y} m k p q d1 d2) around c covers h =
      let parts = parts_bound (call m k (x ∷ y ∷ [])) (layer.Call (e.Atom m) (e.Atom k) (x ∷ y ∷ [])) (outs-Call (e.Atom m) (e.Atom k) (x ∷ y ∷ [])) c h in
      let names = nodes (e.Atom m) (for_one c) ++ nodes (e.Atom k) (for_one c) in
      let left = nodes x (for_one c) in
      let right = nodes y (for_one c) ++ [] in
      let args = back names (left ++ right) parts in
      sum m k p q (closed d1 around (for_one c) covers (front left right args)) (closed d2 around (for_one c) covers (front (nodes y (for_one c)) [] (back left right args)))
  closed (display {x = x} m k p q d1) around c covers h =
      let parts = parts_bound (call m k (x ∷ [])) (layer.Call (e.Atom m) (e.Atom k) (x ∷ [])) (outs-Call (e.Atom m) (e.Atom k) (x ∷ [])) c h in
      let names = nodes (e.Atom m) (for_one c) ++ nodes (e.Atom k) (for_one c) in
      let shown = nodes x (for_one c) in
      display m k p q (closed d1 around (for_one c) covers (front shown [] (back names (shown ++ []) parts)))

-- ---- the one function of an accepted module

at_place : (xs : List FunName) (g : FunName) → Contains xs g → (k : ℕ) × (slice_get xs k ≡ Some g)
at_place [] g (k, low, at) = absurd (omega (arith, low))
at_place (x ∷ xs) g (zero, low, at) = (0, ap (λ (y : FunName). Some y) at)
at_place (x ∷ xs) g (suc k, low, at) = let rest = at_place xs g (k, omega (arith, low), at) in (suc rest.0, rest.1)

alone_is : (x g : FunName) → Contains (x ∷ []) g → x ≡ g
alone_is x g (zero, low, at) = at
alone_is x g (suc k, low, at) = absurd (omega (arith, low))

text_stands : (atoms : List (List ℕ)) (a : ℕ) → text_of atoms a ≡ the_main → HasText atoms a the_main
text_stands atoms a = by (slice_get atoms a)
  where
    by : (o : Option (List ℕ)) → unwrap_or o [] ≡ the_main → o ≡ Some the_main
    by None is = absurd (let long = ap length is in omega (arith, long))
    by (Some text) is = ap (λ (t : List ℕ). Some t) is

module _ (z : Module) (f : Function) (alone : z.functions ≡ f ∷ []) (accepted : IsAccepted (with_prelude (z ∷ []))) where
  around_f : IsGivenFunction (with_prelude (z ∷ [])) 0 0 z f
  around_f = record { given = refl; defined = ap (λ (fs : List Function). slice_get fs 0) alone }

  -- an exported name is that of the function
  exported : (g : FunName) → Contains z.exports g → (f.name ≡ g → ⊥) → ⊥
  exported g there other =
      let stands = at_place z.exports g there in
      accepted _ (undefined_export {i = 0} {m = z} refl stands.1 (λ defined. other (alone_is f.name g (subst (λ (fs : List Function). Contains (names_of fs) g) alone defined))))

  -- what is decided holds where it holds of an export of 'main'/0
  decided : (b : Bool) → (text_of z.atoms f.name.name ≡ the_main → f.name.arity ≡ 0 → b ≡ true) → b ≡ true
  decided true h = refl
  decided false h = absurd (accepted _ (no_main {m = z} refl none))
    where
      none : ExportsMain z → ⊥
      none (exports_main g there text arity) =
          exported g there (λ same. let yes = h (ap (λ (k : FunName). text_of z.atoms k.name) same ∙ text) (ap (λ (k : FunName). k.arity) same ∙ arity) in cc)

  pub is_called_main : HasText z.atoms f.name.name the_main
  is_called_main =
      let here = text_of z.atoms f.name.name in
      text_stands z.atoms f.name.name ((bytes_eq-Decides here the_main).0 (decided (bytes_eq here the_main) (λ text arity. (bytes_eq-Decides here the_main).1 text)))

  pub has_no_arity : f.name.arity ≡ 0
  has_no_arity = (Decides-eqb f.name.arity 0).0 (decided (f.name.arity == 0) (λ text arity. (Decides-eqb f.name.arity 0).1 arity))

  pub has_no_params : f.params ≡ []
  has_no_params = by f.params refl
    where
      by : (ps : List ℕ) → ps ≡ f.params → f.params ≡ []
      by [] is = sym is
      by (p ∷ ps) is = absurd (accepted _ (other_arity {i = 0} {j = 0} around_f (λ fits. omega (arith, fits, has_no_arity, ap length is))))

  pub is_closed : IsOfForms z.atoms f.body → IsClosed z.atoms [] f.body
  is_closed forms =
      let bound = all_bound (nodes_of f) (λ k n at is. accepted _ (unbound_variable {i = 0} {j = 0} {k = k} {m = z} {n = n} (record { f = f; around = around_f; stands = at }) is)) in
      closed z.atoms forms [] _ (λ x there. subst (λ (scope : List ℕ). Contains scope x) has_no_params there) bound
