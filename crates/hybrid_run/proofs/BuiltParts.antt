-- What the parts of an expression of the six forms are built of.
use Rattle.std.proofs.Common.{◌≡◌, ◌⊎◌, ℕ, List, [], ◌∷◌, refl, sym, ap, subst, ◌∙◌, inl, inr}
use Rattle.hybrid_run.specs.Built.{IsBuilt, integer, variable, let_in, do_both, sum, display, HasText, the_erlang, the_plus, the_display}
use Rattle.hy_core.specs.declared.tree.Expr.{Expr}
use Rattle.hy_core.specs.declared.tree.Expr.TheVariants as e
use Rattle.hy_core.specs.declared.tree.Expr.TheOpen as layer
use Rattle.hy_core.specs.declared.tree.Expr.TheViews.{out-Expr, outs-Let, outs-Do, outs-Call, outs-Atom}

-- a call with one argument is `display`, and one with two is `+`
pub record IsDisplay (atoms : List (List ℕ)) (Allowed : List ℕ → ℕ → Type 0) (around : List ℕ) (m k : Expr) (args : List Expr) : Type 0 where
  pub module_atom : ℕ
  pub name_atom : ℕ
  pub part : Expr
  pub is_module : m ≡ e.Atom module_atom
  pub is_name : k ≡ e.Atom name_atom
  pub is_args : args ≡ part ∷ []
  pub erlang : HasText atoms module_atom the_erlang
  pub name : HasText atoms name_atom the_display
  pub built : IsBuilt atoms Allowed around part

pub record IsSum (atoms : List (List ℕ)) (Allowed : List ℕ → ℕ → Type 0) (around : List ℕ) (m k : Expr) (args : List Expr) : Type 0 where
  pub module_atom : ℕ
  pub name_atom : ℕ
  pub left : Expr
  pub right : Expr
  pub is_module : m ≡ e.Atom module_atom
  pub is_name : k ≡ e.Atom name_atom
  pub is_args : args ≡ left ∷ right ∷ []
  pub erlang : HasText atoms module_atom the_erlang
  pub name : HasText atoms name_atom the_plus
  pub built_left : IsBuilt atoms Allowed around left
  pub built_right : IsBuilt atoms Allowed around right

module _ (atoms : List (List ℕ)) (Allowed : List ℕ → ℕ → Type 0) where
  abbrev Built : List ℕ → Expr → Type 0
  Built = IsBuilt atoms Allowed

  let_from : {around : List ℕ} {z : Expr} → Built around z → (xs : List ℕ) (x y : Expr) → z ≡ e.Let xs x y
      → (v : ℕ) × (xs ≡ v ∷ []) × Built around x × Built (v ∷ around) y
  let_from (integer n) xs x y h = absurd cc
  let_from (variable v is) xs x y h = absurd cc
  let_from {around = around} (let_in {x = p} {y = q} v d1 d2) xs x y h =
      let same : layer.Let (v ∷ []) p q ≡ layer.Let xs x y = sym (outs-Let (v ∷ []) p q) ∙ ap out-Expr h ∙ outs-Let xs x y in
      let vars : v ∷ [] ≡ xs = cc in
      let value : p ≡ x = cc in
      let body : q ≡ y = cc in
      (v, sym vars, subst (Built around) value d1, subst (Built (v ∷ around)) body d2)
  let_from (do_both d1 d2) xs x y h = absurd cc
  let_from (sum m k p q d1 d2) xs x y h = absurd cc
  let_from (display m k p q d1) xs x y h = absurd cc

  do_from : {around : List ℕ} {z : Expr} → Built around z → (x y : Expr) → z ≡ e.Do x y → Built around x × Built around y
  do_from (integer n) x y h = absurd cc
  do_from (variable v is) x y h = absurd cc
  do_from (let_in v d1 d2) x y h = absurd cc
  do_from {around = around} (do_both {x = p} {y = q} d1 d2) x y h =
      let same : layer.Do p q ≡ layer.Do x y = sym (outs-Do p q) ∙ ap out-Expr h ∙ outs-Do x y in
      let first : p ≡ x = cc in
      let second : q ≡ y = cc in
      (subst (Built around) first d1, subst (Built around) second d2)
  do_from (sum m k p q d1 d2) x y h = absurd cc
  do_from (display m k p q d1) x y h = absurd cc

  call_from : {around : List ℕ} {z : Expr} → Built around z → (m k : Expr) (args : List Expr) → z ≡ e.Call m k args
      → IsDisplay atoms Allowed around m k args ⊎ IsSum atoms Allowed around m k args
  call_from (integer n) m k args h = absurd cc
  call_from (variable v is) m k args h = absurd cc
  call_from (let_in v d1 d2) m k args h = absurd cc
  call_from (do_both d1 d2) m k args h = absurd cc
  call_from (sum {x = x} {y = y} a b p q d1 d2) m k args h =
      let same : layer.Call (e.Atom a) (e.Atom b) (x ∷ y ∷ []) ≡ layer.Call m k args = sym (outs-Call (e.Atom a) (e.Atom b) (x ∷ y ∷ [])) ∙ ap out-Expr h ∙ outs-Call m k args in
      inr (record { module_atom = a; name_atom = b; left = x; right = y; is_module = cc; is_name = cc; is_args = cc; erlang = p; name = q; built_left = d1; built_right = d2 })
  call_from (display {x = x} a b p q d1) m k args h =
      let same : layer.Call (e.Atom a) (e.Atom b) (x ∷ []) ≡ layer.Call m k args = sym (outs-Call (e.Atom a) (e.Atom b) (x ∷ [])) ∙ ap out-Expr h ∙ outs-Call m k args in
      inl (record { module_atom = a; name_atom = b; part = x; is_module = cc; is_name = cc; is_args = cc; erlang = p; name = q; built = d1 })

  pub let_parts : {around : List ℕ} (xs : List ℕ) (x y : Expr) → Built around (e.Let xs x y) → (v : ℕ) × (xs ≡ v ∷ []) × Built around x × Built (v ∷ around) y
  let_parts xs x y d = let_from d xs x y refl

  pub do_parts : {around : List ℕ} (x y : Expr) → Built around (e.Do x y) → Built around x × Built around y
  do_parts x y d = do_from d x y refl

  pub call_parts : {around : List ℕ} (m k : Expr) (args : List Expr) → Built around (e.Call m k args)
      → IsDisplay atoms Allowed around m k args ⊎ IsSum atoms Allowed around m k args
  call_parts m k args d = call_from d m k args refl

-- an atom stands for one number
pub atom_same : (a b : ℕ) → e.Atom a ≡ e.Atom b → a ≡ b
atom_same a b h = let same : layer.Atom a ≡ layer.Atom b = sym (outs-Atom a) ∙ ap out-Expr h ∙ outs-Atom b in cc
