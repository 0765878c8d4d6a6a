-- A function whose number is noted where it has none.
use Rattle.std.proofs.Common.{◌≡◌, ℕ, cond, Option, Some, None, ◌==◌, ◌&&◌, Bool, true, false}
use Rattle.std.proofs.Common.{refl, sym, ap, ◌∙◌, eqb-true}
use Rattle.std.specs.Prelude.{if◌then◌else◌}
use Rattle.hy_core.specs.Resolved.{is_name}
use Rattle.hy_core.specs.declared.info.FunInfo.{FunInfo}
use Rattle.hy_core.specs.declared.tree.FunName.{FunName}
use Rattle.indexmap.specs.IndexMap.{IndexMap, Updates}
use Rattle.lifted_functions.specs.code.FunctionNumbers.{Key, first_of, is_key, key_of, number_at}
use Rattle.lifted_functions.specs.code.FunctionNumbers.{number_if}

-- the function with this module and name
abbrev is_it : FunInfo → (m : ℕ) → FunName → Bool
is_it i m f = (i.module == m) && is_name i.name f

grouped : (a b c : Bool) → ((a && b) && c) ≡ (a && (b && c))
grouped true b c = refl
grouped false b c = refl

its-number : {S : Type 0} (numbers : IndexMap Key ℕ S) (i : FunInfo) (m : ℕ) (f : FunName)
    → is_it i m f ≡ true → number_at numbers m f ≡ number_at numbers i.module i.name
its-number numbers i m f =
    by (i.module == m) refl (i.name.name == f.name) refl (i.name.arity == f.arity) refl
  where
    by : (a : Bool) → (i.module == m) ≡ a → (b : Bool) → (i.name.name == f.name) ≡ b → (c : Bool)
        → (i.name.arity == f.arity) ≡ c → (a && (b && c)) ≡ true
        → number_at numbers m f ≡ number_at numbers i.module i.name
    by true p true q true r h =
        let modules = eqb-true i.module m p in
        let names = eqb-true i.name.name f.name q in
        let arities = eqb-true i.name.arity f.arity r in
        sym (λ j. number_at numbers (modules j) (record { name = names j; arity = arities j }))
    by true p true q false r h = absurd cc
    by true p false q c r h = absurd cc
    by false p b q c r h = absurd cc

pub one-noted : {S : Type 0} (old new : IndexMap Key ℕ S) (n : ℕ) (i : FunInfo) (key : Key)
    → number_at old i.module i.name ≡ None → key ≡ key_of i.module i.name
    → Updates is_key old new key (Some n) → (m : ℕ) (f : FunName)
    → number_at new m f ≡ first_of (number_at old m f) (number_if n i m f)
one-noted old new n i key none is u m f =
    u.0 (key_of m f)
    ∙ ap (λ k. cond (is_key k (key_of m f)) (Some n) (number_at old m f)) is
    ∙ ap (λ b. cond b (Some n) (number_at old m f))
    (grouped (i.module == m) (i.name.name == f.name) (i.name.arity == f.arity))
    ∙ by (is_it i m f) refl
  where
    by : (b : Bool) → is_it i m f ≡ b
        → cond b (Some n) (number_at old m f)
        ≡ first_of (number_at old m f) (if b then Some n else None)
    by true e = ap (λ o. first_of o (Some n)) (sym (its-number old i m f e ∙ none))
    by false e = last (number_at old m f)
      where
        last : (o : Option ℕ) → o ≡ first_of o None
        last None = refl
        last (Some k) = refl

pub none-noted : {S : Type 0} (old : IndexMap Key ℕ S) (n : ℕ) (i : FunInfo) {k : ℕ}
    → number_at old i.module i.name ≡ Some k → (m : ℕ) (f : FunName)
    → number_at old m f ≡ first_of (number_at old m f) (number_if n i m f)
none-noted old n i {k} some m f = by (is_it i m f) refl
  where
    by : (b : Bool) → is_it i m f ≡ b
        → number_at old m f ≡ first_of (number_at old m f) (if b then Some n else None)
    by true e =
        let h = its-number old i m f e ∙ some in
        h ∙ ap (λ o. first_of o (Some n)) (sym h)
    by false e = last (number_at old m f)
      where
        last : (o : Option ℕ) → o ≡ first_of o None
        last None = refl
        last (Some k) = refl
