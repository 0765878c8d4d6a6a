-- Lists that hold all free variables, told by computation.
use Rattle.std.proofs.Common.{◌≡◌, ℕ, zero, suc, ◌+◌, List, [], ◌∷◌, length, Bool, true, false}
use Rattle.std.proofs.Common.{true≢false, Some, refl, sym, ap, ◌∙◌, ⊎_elim, arith}
use Rattle.std.specs.Prelude.{◌&&◌, if◌then◌else◌, slice_get}
use Rattle.std.specs.List.{Contains, list_all}
use Rattle.std.proofs.lemmas.Option.{none-some, same_Some}
use Rattle.hy_core.specs.Resolved.{FunctionTree}
use Rattle.hy_core.specs.Scopes.{Scope, is_bound}
use Rattle.lifted_program.specs.Captured.{Use, OfVariable, OfFunction, Definition, definitions_of}
use Rattle.lifted_program.specs.Captured.{IsDefined, IsFree, occurs, passed}
use Rattle.lifted_program.proofs.Variables.{In, bound_in, contained_in, in_contained}

first_true : (a b : Bool) → (a && b) ≡ true → a ≡ true
first_true true b h = refl
first_true false b h = h

pub second_true : (a b : Bool) → (a && b) ≡ true → b ≡ true
second_true true b h = h
second_true false b h = absurd (true≢false (sym h))

list_all-in : {A : Type 0} (test : A → Bool) (xs : List A) → list_all test xs ≡ true → (x : A)
    → In x xs → test x ≡ true
list_all-in test [] h x i = absurd i
list_all-in test (y ∷ ys) h x i =
    ⊎_elim (λ e. ap test e ∙ first_true (test y) (list_all test ys) h)
    (λ k. list_all-in test ys (second_true (test y) (list_all test ys) h) x k) i

when : (a b : Bool) → (if a then b else true) ≡ true → a ≡ true → b ≡ true
when true b h e = h
when false b h e = absurd (true≢false (sym e))

module _ (captured : ℕ → List ℕ) where
  -- a variable of this scope is in the list of f
  abbrev holds : ℕ → Scope → ℕ → Bool
  holds f scope x = if is_bound x scope then is_bound x (captured f) else true

  abbrev use_held : ℕ → Scope → Use → Bool
  use_held f scope (OfVariable x) = holds f scope x
  use_held f scope (OfFunction g) = list_all (holds f scope) (captured g)

  -- the lists are closed: the first of these functions has the number f
  abbrev pub are_closed : (f : ℕ) → List Definition → Bool
  are_closed f [] = true
  are_closed f (d ∷ ds) = list_all (use_held f d.scope) d.uses && are_closed (suc f) ds

  closed_at : (ds : List Definition) (n f k : ℕ) (d : Definition) → f ≡ n + k → slice_get ds k
      ≡ Some d → are_closed n ds ≡ true → list_all (use_held f d.scope) d.uses ≡ true
  closed_at [] n f k d e at h = absurd (none-some d at)
  closed_at (c ∷ ds) n f zero d e at h =
      let here = first_true (list_all (use_held n c.scope) c.uses) (are_closed (suc n) ds) h in
      (λ i. list_all
      (use_held (let q : f ≡ n = omega arith in q i) (sym (same_Some c d at) i).scope)
      (sym (same_Some c d at) i).uses) ∙ here
  closed_at (c ∷ ds) n f (suc k) d e at h =
      closed_at ds (suc n) f k d (omega arith) at
      (second_true (list_all (use_held n c.scope) c.uses) (are_closed (suc n) ds) h)

  module _ (program : List FunctionTree)
      (closed : are_closed (length program) (definitions_of (length program) program) ≡ true) where
    held : {f : ℕ} (d : Definition) → IsDefined program f d → (u : Use) → Contains d.uses u
        → use_held f d.scope u ≡ true
    held {f} d at u c =
        list_all-in (use_held f d.scope) d.uses
        (closed_at (definitions_of (length program) program)
        (length program) f at.0 d at.1 at.2 closed) u (contained_in u d.uses c)

    free_in : {f x : ℕ} → IsFree program f x → is_bound x (captured f) ≡ true
    free_in {f} {x} (occurs d at b u) =
        when (is_bound x d.scope) (is_bound x (captured f)) (held d at (OfVariable x) u) b
    free_in {f} {x} (passed d g at b u h) =
        when (is_bound x d.scope) (is_bound x (captured f))
        (list_all-in (holds f d.scope) (captured g) (held d at (OfFunction g) u) x
        (bound_in x (captured g) (free_in h))) b

    -- closed lists hold all free variables
    pub all_free : (f x : ℕ) → IsFree program f x → Contains (captured f) x
    all_free f x h = in_contained x (captured f) (bound_in x (captured f) (free_in h))
