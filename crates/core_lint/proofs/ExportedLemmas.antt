-- The test of a program's exports tells which they are.
use Rattle.std.proofs.Common.{◌≡◌, ℕ, zero, suc, ◌<◌, ◌&&◌, ◌||◌, nat_eq, Bool, true, false, List, [], ◌∷◌, ◌++◌, length, ◌⊎◌, inl, inr, refl, sym, ap, ◌∙◌, arith, eq-eqb, eqb-true}
use Rattle.std.proofs.lemmas.Bool.{and_parts, or_cases}
use Rattle.std.proofs.lemmas.Slice.Eq.{bytes_eq-Decides}
use Rattle.std.specs.List.{Contains, slice_index_or}
use Rattle.std.specs.Str.{bytes_eq}
use Rattle.hy_terms.specs.Naming.{text_of}
use Rattle.hy_core.specs.NameFaults.{IsExported, module_name, modules_of}
use Rattle.hy_core.specs.declared.tree.FunName.{FunName}
use Rattle.hy_core.specs.declared.tree.Module.{Module}
use Rattle.hy_core.specs.declared.tree.Program.{Program}
use Rattle.core_lint.specs.code.Exports.{exports_name, is_exported, module_exports}
use Rattle.core_lint.proofs.RepeatedLemmas.{or-true}

contains-first : {A : Type 0} (x : A) (xs : List A) → Contains (x ∷ xs) x
contains-first x xs = (0, omega arith, refl)

contains-later : {A : Type 0} (y : A) (ys : List A) (x : A) → Contains ys x → Contains (y ∷ ys) x
contains-later y ys x h = (suc h.0, omega (arith, h.1), h.2)

-- a module has an export of this name and arity
pub record HasExport (m : Module) (fs : List FunName) (name : List ℕ) (arity : ℕ) : Type 0 where
  pub f : FunName
  pub stands : Contains fs f
  pub same_name : text_of m.atoms f.name ≡ name
  pub same_arity : f.arity ≡ arity

pub name-found : (m : Module) (fs : List FunName) (name : List ℕ) (arity : ℕ) → exports_name m fs name arity ≡ true → HasExport m fs name arity
name-found m [] name arity e = absurd cc
name-found m (f ∷ fs) name arity e = by (or_cases (bytes_eq (text_of m.atoms f.name) name && nat_eq f.arity arity) (exports_name m fs name arity) e) (name-found m fs name arity)
  where
    by : ((bytes_eq (text_of m.atoms f.name) name && nat_eq f.arity arity) ≡ true) ⊎ (exports_name m fs name arity ≡ true) → (exports_name m fs name arity ≡ true → HasExport m fs name arity) → HasExport m (f ∷ fs) name arity
    by (inl h) later =
        let both = and_parts (bytes_eq (text_of m.atoms f.name) name) (nat_eq f.arity arity) h in
        record { f = f; stands = contains-first f fs; same_name = (bytes_eq-Decides (text_of m.atoms f.name) name).0 both.0; same_arity = eqb-true f.arity arity both.1 }
    by (inr h) later =
        let r = later h in
        record { f = r.f; stands = contains-later f fs r.f r.stands; same_name = r.same_name; same_arity = r.same_arity }

pub name-kept : (m : Module) (fs : List FunName) (f : FunName) (name : List ℕ) (arity : ℕ) → Contains fs f → text_of m.atoms f.name ≡ name → f.arity ≡ arity → exports_name m fs name arity ≡ true
name-kept m fs f name arity h same_name same_arity = at fs h.0 h.1 h.2
  where
    holds : bytes_eq (text_of m.atoms f.name) name && nat_eq f.arity arity ≡ true
    holds = λ i. (bytes_eq-Decides (text_of m.atoms f.name) name).1 same_name i && eq-eqb f.arity arity same_arity i

    at : (fs : List FunName) (k : ℕ) → k < length fs → slice_index_or fs k f ≡ f → exports_name m fs name arity ≡ true
    at [] k below is = absurd (omega arith)
    at (g ∷ gs) zero below is = ap (λ (g : FunName). (bytes_eq (text_of m.atoms g.name) name && nat_eq g.arity arity) || exports_name m gs name arity) is ∙ ap (λ b. b || exports_name m gs name arity) holds
    at (g ∷ gs) (suc k) below is =
        ap (λ b. (bytes_eq (text_of m.atoms g.name) name && nat_eq g.arity arity) || b) (at gs k (omega arith) is) ∙ or-true (bytes_eq (text_of m.atoms g.name) name && nat_eq g.arity arity)

-- one of these modules exports this function
record Exported (ms : List Module) (of_module name : List ℕ) (arity : ℕ) : Type 0 where
  m : Module
  stands : Contains ms m
  same_module : module_name m ≡ of_module
  has : HasExport m m.exports name arity

exported-found : (ms : List Module) (a b : List ℕ) (n : ℕ) → is_exported ms a b n ≡ true → Exported ms a b n
exported-found [] a b n e = absurd cc
exported-found (m ∷ ms) a b n e = by (or_cases (module_exports m a b n) (is_exported ms a b n) e) (exported-found ms a b n)
  where
    by : (module_exports m a b n ≡ true) ⊎ (is_exported ms a b n ≡ true) → (is_exported ms a b n ≡ true → Exported ms a b n) → Exported (m ∷ ms) a b n
    by (inl h) later =
        let both = and_parts (bytes_eq (module_name m) a) (exports_name m m.exports b n) h in
        record { m = m; stands = contains-first m ms; same_module = (bytes_eq-Decides (module_name m) a).0 both.0; has = name-found m m.exports b n both.1 }
    by (inr h) later =
        let r = later h in
        record { m = r.m; stands = contains-later m ms r.m r.stands; same_module = r.same_module; has = r.has }

exported-kept : (ms : List Module) (m : Module) (a b : List ℕ) (n : ℕ) → Contains ms m → module_exports m a b n ≡ true → is_exported ms a b n ≡ true
exported-kept ms m a b n h holds = at ms h.0 h.1 h.2
  where
    at : (ms : List Module) (k : ℕ) → k < length ms → slice_index_or ms k m ≡ m → is_exported ms a b n ≡ true
    at [] k below is = absurd (omega arith)
    at (l ∷ ls) zero below is = ap (λ (l : Module). module_exports l a b n || is_exported ls a b n) is ∙ ap (λ v. v || is_exported ls a b n) holds
    at (l ∷ ls) (suc k) below is = ap (λ v. module_exports l a b n || v) (at ls k (omega arith) is) ∙ or-true (module_exports l a b n)

exported-append : (ms ls : List Module) (a b : List ℕ) (n : ℕ) → is_exported (ms ++ ls) a b n ≡ (is_exported ms a b n || is_exported ls a b n)
exported-append [] ls a b n = refl
exported-append (m ∷ ms) ls a b n = ap (λ v. module_exports m a b n || v) (exported-append ms ls a b n) ∙ by (module_exports m a b n)
  where
    by : (v : Bool) → (v || (is_exported ms a b n || is_exported ls a b n)) ≡ ((v || is_exported ms a b n) || is_exported ls a b n)
    by true = refl
    by false = refl

-- what is exported by the given modules or those of the prelude is exported by the program
pub exported-from : (program : Program) (a b : List ℕ) (n : ℕ) → (is_exported program.given a b n || is_exported program.prelude a b n) ≡ true → IsExported program a b n
exported-from program a b n e =
    let r = exported-found (modules_of program) a b n (exported-append program.given program.prelude a b n ∙ e) in
    record { m = r.m; f = r.has.f; stands = r.stands; exports = r.has.stands; same_module = r.same_module; same_name = r.has.same_name; same_arity = r.has.same_arity }

pub exported-to : (program : Program) (a b : List ℕ) (n : ℕ) → IsExported program a b n → (is_exported program.given a b n || is_exported program.prelude a b n) ≡ true
exported-to program a b n h =
    let holds : module_exports h.m a b n ≡ true = λ i. (bytes_eq-Decides (module_name h.m) a).1 h.same_module i && name-kept h.m h.m.exports h.f b n h.exports h.same_name h.same_arity i in
    sym (exported-append program.given program.prelude a b n) ∙ exported-kept (modules_of program) h.m a b n h.stands holds
