-- What a test of the parts of an expression says of the whole.
use Rattle.std.proofs.Common.{◌≡◌, ◌⊎◌, ℕ, Bool, List, [], ◌∷◌, sym, subst, ◌∙◌, inl, inr}
use Rattle.std.specs.Prelude.{◌↔◌, IsTrue}
use Rattle.hybrid_run.specs.Built.{IsAny, IsBuilt, IsBuiltModule, IsOfForms, let_in, do_both, sum, display}
use Rattle.hy_core.specs.declared.tree.Expr.{Expr}
use Rattle.hy_core.specs.declared.tree.Expr.TheVariants as e
use Rattle.hy_core.specs.declared.tree.Function.{Function}
use Rattle.hy_core.specs.declared.tree.Module.{Module}
use Rattle.hybrid_run.proofs.BuiltParts.{let_parts, do_parts, call_parts, IsDisplay, IsSum}
use Rattle.hybrid_run.specs.code.Parts.{AreBuilt, IsBuiltUnder, IsOperation}

module _ (atoms : List (List ℕ)) (around : List ℕ) where
  abbrev Built : Expr → Type 0
  Built = IsBuilt atoms IsAny around

  under_let : (xs : List ℕ) (x y : Expr) → Built x → IsBuiltUnder atoms around xs y → Built (e.Let xs x y)
  under_let [] x y d h = absurd h
  under_let (v ∷ []) x y d h = let_in v d h
  under_let (v ∷ w ∷ xs) x y d h = absurd h

  let_under : (xs : List ℕ) (x y : Expr) → Built (e.Let xs x y) → IsBuiltUnder atoms around xs y
  let_under xs x y d =
      let parts = let_parts atoms IsAny xs x y d in
      subst (λ (k : List ℕ). IsBuiltUnder atoms around k y) (sym parts.1) parts.3

  -- where the value of a `let` is built, its body decides
  pub let_decides : (xs ys : List ℕ) (x y z w : Expr) (b : Bool) → x ≡ z → xs ≡ ys → y ≡ w → Built x
      → IsTrue b ↔ IsBuiltUnder atoms around xs y → IsTrue b ↔ Built (e.Let ys z w)
  let_decides xs ys x y z w b p r s d h =
      let value = subst Built p d in
      let under = subst (λ (k : List ℕ). IsTrue b ↔ IsBuiltUnder atoms around k w) r (subst (λ (k : Expr). IsTrue b ↔ IsBuiltUnder atoms around xs k) s h) in
      (λ t. under_let ys z w value (under.0 t), λ all. under.1 (let_under ys z w all))

  -- where the first part of a `do` is built, the second decides
  pub do_decides : (x y z w : Expr) (b : Bool) → x ≡ z → y ≡ w → Built x → IsTrue b ↔ Built y → IsTrue b ↔ Built (e.Do z w)
  do_decides x y z w b p r d h =
      let first = subst Built p d in
      let second = subst (λ (k : Expr). IsTrue b ↔ Built k) r h in
      (λ t. do_both first (second.0 t), λ all. second.1 (do_parts atoms IsAny z w all).1)

  called : (m k : Expr) (args : List Expr) → IsOperation atoms m k args → AreBuilt atoms around args → Built (e.Call m k args)
  called m k [] o h = absurd o
  called m k (x ∷ []) ((a, is_a, erlang), (b, is_b, name)) h =
      subst (λ (p : Expr). Built (e.Call p k (x ∷ []))) (sym is_a) (subst (λ (q : Expr). Built (e.Call (e.Atom a) q (x ∷ []))) (sym is_b) (display a b erlang name h))
  called m k (x ∷ y ∷ []) ((a, is_a, erlang), (b, is_b, name)) (first, second) =
      subst (λ (p : Expr). Built (e.Call p k (x ∷ y ∷ []))) (sym is_a) (subst (λ (q : Expr). Built (e.Call (e.Atom a) q (x ∷ y ∷ []))) (sym is_b) (sum a b erlang name first second))
  called m k (x ∷ y ∷ z ∷ args) o h = absurd o

  -- a call that is built names an operation, and its arguments are built
  call_asks : (m k : Expr) (args : List Expr) → Built (e.Call m k args) → IsOperation atoms m k args × AreBuilt atoms around args
  call_asks m k args d = asks (call_parts atoms IsAny m k args d)
    where
      asks : IsDisplay atoms IsAny around m k args ⊎ IsSum atoms IsAny around m k args → IsOperation atoms m k args × AreBuilt atoms around args
      asks (inl p) = subst (λ (u : List Expr). IsOperation atoms m k u × AreBuilt atoms around u) (sym p.is_args) (((p.module_atom, p.is_module, p.erlang), (p.name_atom, p.is_name, p.name)), p.built)
      asks (inr p) = subst (λ (u : List Expr). IsOperation atoms m k u × AreBuilt atoms around u) (sym p.is_args) (((p.module_atom, p.is_module, p.erlang), (p.name_atom, p.is_name, p.name)), (p.built_left, p.built_right))

  -- where a call names an operation, its arguments decide
  pub call_decides : (m k p q : Expr) (args us vs : List Expr) (b : Bool) → p ≡ m → q ≡ k → us ≡ args → vs ≡ args → IsOperation atoms p q us
      → IsTrue b ↔ AreBuilt atoms around vs → IsTrue b ↔ Built (e.Call m k args)
  call_decides m k p q args us vs b is_m is_k is_us is_vs o h =
      let names = subst (λ (u : List Expr). IsOperation atoms m k u) is_us (subst (λ (u : Expr). IsOperation atoms m u us) is_k (subst (λ (u : Expr). IsOperation atoms u q us) is_m o)) in
      let built = subst (λ (u : List Expr). IsTrue b ↔ AreBuilt atoms around u) is_vs h in
      (λ t. called m k args names (built.0 t), λ all. built.1 (call_asks m k args all).1)

-- where a module has one function, its body decides
pub alone_decides : (z : Module) (f : Function) (b : Bool) → z.functions ≡ f ∷ [] → IsTrue b ↔ IsOfForms z.atoms f.body → IsTrue b ↔ IsBuiltModule z
alone_decides z f b alone h = (
  λ t. record { f = f; alone = alone; forms = h.0 t },
  λ built.
      let same : built.f ≡ f = (let both : built.f ∷ [] ≡ f ∷ [] = sym built.alone ∙ alone in cc) in
      h.1 (subst (λ (g : Function). IsOfForms z.atoms g.body) same built.forms),
)
