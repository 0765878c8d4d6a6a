-- What the forms that faults ask for are as syntax.
use Rattle.std.proofs.Common.{◌≡◌, ◌==◌, ℕ, suc, pos, true, false, true≢false, Bool, List, [], ◌∷◌, length, map, codes, refl, sym, ap, ◌∙◌, subst, eq-eqb, eqb-true}
use Rattle.std.proofs.lemmas.Slice.Eq.{bytes_eq-Decides}
use Rattle.std.specs.Ordering.{int_eq}
use Rattle.std.specs.Str.{bytes_eq}
use Rattle.hy_terms.specs.Naming.{text_of}
use Rattle.hy_core.specs.BuiltIn.{operation_named}
use Rattle.hy_core.specs.NodeFaults.{IsAtom, an_atom, IsName, a_name, no_element, elements, IsGuardForm, two_caught, three_caught, IsTimeout, at_once, never, IsSpawnable, spawnable, IsGuardExpr, integer, atom, nil, variable, let_in, built_in, whole}
use Rattle.hy_core.specs.Resolve.{are_two_or_three, is_one_variable}
use Rattle.hy_core.specs.Syntax as s
use Rattle.hy_core.specs.Syntax.{Syntax, Syntaxes, NoSyntax, MoreSyntax, count, syntax_of, syntaxes_of, tree, trees}
use Rattle.hy_core.specs.declared.place.Place.{Place}
use Rattle.hy_core.specs.declared.tree.Expr.{Expr}
use Rattle.hy_core.specs.declared.tree.Expr.TheVariants as e
use Rattle.hy_core.specs.declared.tree.Module.{Module}
use Rattle.hy_core.proofs.SyntaxLemmas.{syntax_back, syntaxes_back, syntax_of-Int, syntax_of-Atom, syntax_of-Nil, syntax_of-Var, syntax_of-Name, syntax_of-List, syntax_of-Let, syntax_of-Call, syntax_of-Try}
use Rattle.core_accepted.proofs.FineTrees.{IsPlain}

-- what is no contradiction holds, where it is decided

pub stable_nat : (n k : ℕ) → ((n ≡ k → ⊥) → ⊥) → n ≡ k
stable_nat n k h = by (n == k) refl
  where
    by : (b : Bool) → (n == k) ≡ b → n ≡ k
    by true is = eqb-true n k is
    by false is = absurd (h (λ same. true≢false (sym (eq-eqb n k same) ∙ is)))

pub stable_bool : (b : Bool) → ((b ≡ true → ⊥) → ⊥) → b ≡ true
stable_bool true h = refl
stable_bool false h = absurd (h (λ is. true≢false (sym is)))

-- a form of the tree of a syntax is one of the syntax
pub as_syntax : (P : Syntax → Type 0) (Q : Expr → Type 0) → ((x : Expr) → Q x → P (syntax_of x)) → (t : Syntax) → Q (tree t) → P t
as_syntax P Q h t q = subst P (syntax_back t) (h (tree t) q)

abbrev pub NameShape : Syntax → Type 0
NameShape (s.Name f) = Unit {0}
NameShape _ = ⊥

pub name_shape : (x : Expr) → IsName x → NameShape (syntax_of x)
name_shape _ (a_name f) = subst NameShape (sym (syntax_of-Name f)) tt

abbrev pub AtomShape : Syntax → Type 0
AtomShape (s.Atom a) = Unit {0}
AtomShape _ = ⊥

pub atom_shape : (x : Expr) → IsAtom x → AtomShape (syntax_of x)
atom_shape _ (an_atom a) = subst AtomShape (sym (syntax_of-Atom a)) tt

-- a module, a function and a list written out
abbrev pub SpawnShape : Syntaxes → Type 0
SpawnShape (MoreSyntax (s.Atom a) (MoreSyntax (s.Atom b) (MoreSyntax s.Nil NoSyntax))) = Unit {0}
SpawnShape (MoreSyntax (s.Atom a) (MoreSyntax (s.Atom b) (MoreSyntax (s.ListOf site heads s.Nil) NoSyntax))) = Unit {0}
SpawnShape _ = ⊥

module _ (m : Module) where
  spawn_shape : (xs : List Expr) → IsSpawnable m xs → SpawnShape (syntaxes_of (map syntax_of xs))
  spawn_shape _ (spawnable _ _ _ _ (an_atom a) (an_atom b) no_element) =
      subst SpawnShape (λ i. MoreSyntax (sym (syntax_of-Atom a) i) (MoreSyntax (sym (syntax_of-Atom b) i) (MoreSyntax (sym syntax_of-Nil i) NoSyntax))) tt
  spawn_shape _ (spawnable _ _ _ _ (an_atom a) (an_atom b) (elements site heads)) =
      let list : syntax_of (e.List site heads e.Nil) ≡ s.ListOf site (syntaxes_of (map syntax_of heads)) s.Nil
      = syntax_of-List site heads e.Nil ∙ ap (s.ListOf site (syntaxes_of (map syntax_of heads))) syntax_of-Nil in
      subst SpawnShape (λ i. MoreSyntax (sym (syntax_of-Atom a) i) (MoreSyntax (sym (syntax_of-Atom b) i) (MoreSyntax (sym list i) NoSyntax))) tt

  pub as_spawn : (xs : Syntaxes) → IsSpawnable m (trees xs) → SpawnShape xs
  as_spawn xs h = subst SpawnShape (syntaxes_back xs) (spawn_shape (trees xs) h)

  abbrev pub TimeoutShape : Syntax → Type 0
  TimeoutShape (s.Int n) = int_eq n (pos 0) ≡ true
  TimeoutShape (s.Atom a) = bytes_eq (text_of m.atoms a) (codes "infinity") ≡ true
  TimeoutShape _ = ⊥

  pub timeout_shape : (x : Expr) → IsTimeout m x → TimeoutShape (syntax_of x)
  timeout_shape _ at_once = subst TimeoutShape (sym (syntax_of-Int (pos 0))) refl
  timeout_shape _ (never a is) = subst TimeoutShape (sym (syntax_of-Atom a)) ((bytes_eq-Decides (text_of m.atoms a) (codes "infinity")).1 is)

  abbrev pub TryShape : Syntax → Type 0
  TryShape (s.Try value vars (s.Var x) catch_vars (s.Atom a)) =
      (is_one_variable vars x ≡ true) × (are_two_or_three catch_vars ≡ true) × (bytes_eq (text_of m.atoms a) (codes "false") ≡ true)
  TryShape _ = ⊥

  try_is : (value : Expr) (vars catch_vars : List ℕ) (x a : ℕ) → syntax_of (e.Try value vars (e.Var x) catch_vars (e.Atom a)) ≡ s.Try (syntax_of value) vars (s.Var x) catch_vars (s.Atom a)
  try_is value vars catch_vars x a = syntax_of-Try value vars (e.Var x) catch_vars (e.Atom a) ∙ (λ i. s.Try (syntax_of value) vars (syntax_of-Var x i) catch_vars (syntax_of-Atom a i))

  pub try_shape : (x : Expr) → IsGuardForm m x → TryShape (syntax_of x)
  try_shape _ (two_caught value x a b no_answer is) =
      subst TryShape (sym (try_is value (x ∷ []) (a ∷ b ∷ []) x no_answer)) (eq-eqb x x refl, refl, (bytes_eq-Decides (text_of m.atoms no_answer) (codes "false")).1 is)
  try_shape _ (three_caught value x a b d no_answer is) =
      subst TryShape (sym (try_is value (x ∷ []) (a ∷ b ∷ d ∷ []) x no_answer)) (eq-eqb x x refl, refl, (bytes_eq-Decides (text_of m.atoms no_answer) (codes "false")).1 is)

  -- the forms of guards, the guard form of `try` aside
  abbrev pub GuardShape : Syntax → Type 0
  GuardShape (s.Int n) = Unit {0}
  GuardShape (s.Atom a) = Unit {0}
  GuardShape s.Nil = Unit {0}
  GuardShape (s.Var x) = Unit {0}
  GuardShape (s.Let xs value body) = Unit {0}
  GuardShape (s.Call (s.Atom a) (s.Atom b) args) = IsPlain (operation_named (text_of m.atoms a) (text_of m.atoms b) (count args))
  GuardShape (s.Try value vars body catch_vars catch_body) = Unit {0}
  GuardShape _ = ⊥

  count_syntaxes : (xs : List Expr) → count (syntaxes_of (map syntax_of xs)) ≡ length xs
  count_syntaxes [] = refl
  count_syntaxes (x ∷ xs) = ap suc (count_syntaxes xs)

  try_guard : (t : Syntax) → TryShape t → GuardShape t
  try_guard (s.Try value vars body catch_vars catch_body) h = tt
  try_guard _ h = absurd h

  pub guard_shape : (place : Place) (x : Expr) → IsGuardExpr m place x → GuardShape (syntax_of x)
  guard_shape place _ (integer n) = subst GuardShape (sym (syntax_of-Int n)) tt
  guard_shape place _ (atom a) = subst GuardShape (sym (syntax_of-Atom a)) tt
  guard_shape place _ nil = subst GuardShape (sym syntax_of-Nil) tt
  guard_shape place _ (variable x) = subst GuardShape (sym (syntax_of-Var x)) tt
  guard_shape place _ (let_in vars value body) = subst GuardShape (sym (syntax_of-Let vars value body)) tt
  guard_shape place _ (built_in a b args bif is) =
      let called : syntax_of (e.Call (e.Atom a) (e.Atom b) args) ≡ s.Call (s.Atom a) (s.Atom b) (syntaxes_of (map syntax_of args))
      = syntax_of-Call (e.Atom a) (e.Atom b) args ∙ (λ i. s.Call (syntax_of-Atom a i) (syntax_of-Atom b i) (syntaxes_of (map syntax_of args))) in
      let same = ap (operation_named (text_of m.atoms a) (text_of m.atoms b)) (count_syntaxes args) ∙ is in
      subst GuardShape (sym called) (subst IsPlain (sym same) tt)
  guard_shape _ x (whole _ form) = try_guard (syntax_of x) (try_shape x form)
