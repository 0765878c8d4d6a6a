-- Each program has a table of its exports.
use Rattle.std.proofs.Common.{◌≡◌, ℕ, ◌&&◌, ◌||◌, nat_eq, Bool, true, false, List, [], ◌∷◌, length, refl, sym, ap, ◌∙◌}
use Rattle.std.specs.Prelude.{◌↔◌}
use Rattle.std.specs.Str.{bytes_eq}
use Rattle.hy_terms.specs.Naming.{named, text_of}
use Rattle.hy_core.specs.NameFaults.{IsExported, module_name}
use Rattle.hy_core.specs.declared.tree.FunName.{FunName}
use Rattle.hy_core.specs.declared.tree.Module.{Module}
use Rattle.hy_core.specs.declared.tree.Program.{Program}
use Rattle.indexmap.specs.IndexSet.{insert_key}
use Rattle.core_lint.specs.code.Exports.{ExportTable, RowsWithin, exports_name, has_export, is_export, is_exported, is_row, module_exports}
use Rattle.core_lint.proofs.ExportLemmas.{has-added, has-named, named-place, place-below, within-added, within-named}
use Rattle.core_lint.proofs.ExportedLemmas.{exported-from, exported-to}

-- a test of exports, by the module's name, the function's and its arity
abbrev Test : Type 0
Test = List ℕ → List ℕ → ℕ → Bool

-- a table with the exports for which the test holds
record TableOf (test : Test) : Type 0 where
  pub table : ExportTable
  pub within : RowsWithin (length table.texts) table.rows
  pub has : (a b : List ℕ) (n : ℕ) → has_export table a b n ≡ test a b n

no_exports : TableOf (λ a b n. false)
no_exports = record { table = record { texts = []; rows = [] }; within = record { within = λ row e. absurd cc }; has = λ a b n. refl }

-- the same for a test that answers the same
for_test : {test other : Test} → ((a b : List ℕ) (n : ℕ) → test a b n ≡ other a b n) → TableOf test → TableOf other
for_test same h = record { table = h.table; within = h.within; has = λ a b n. h.has a b n ∙ same a b n }

-- with one export more
with_export : {test : Test} (a b : List ℕ) (n : ℕ) → TableOf test → TableOf (λ c d k. test c d k || is_export a b n c d k)
with_export {test = test} a b n h =
    let texts = h.table.texts in
    let rows = h.table.rows in
    let first = named texts a in
    let second = named first.1 b in
    let place = named-place texts first.1 a first.0 refl in
    let within = within-named texts first.1 rows a first.0 refl h.within in
    record {
      table = record { texts = second.1; rows = insert_key is_row rows (first.0, second.0, n) };
      within = within-added first.1 second.1 rows b n first.0 second.0 (place-below first.1 a first.0 place) refl within;
      has = λ c d k.
          has-added first.1 second.1 rows (insert_key is_row rows (first.0, second.0, n)) a b n first.0 second.0 place refl within refl c d k
          ∙ ap (λ t. t || is_export a b n c d k) (has-named texts first.1 rows a first.0 refl h.within c d k ∙ h.has c d k);
    }

one_more : (p x y z w : Bool) → ((p || ((x && y) && z)) || (x && w)) ≡ (p || (x && ((y && z) || w)))
one_more true x y z w = refl
one_more false true y z w = refl
one_more false false y z w = refl

-- with exports of a module
with_names : (m : Module) (fs : List FunName) (test : Test) → TableOf test → TableOf (λ c d k. test c d k || (bytes_eq (module_name m) c && exports_name m fs d k))
with_names m [] test h = for_test (λ c d k. none (test c d k) (bytes_eq (module_name m) c)) h
  where
    none : (p x : Bool) → p ≡ (p || (x && false))
    none true x = refl
    none false true = refl
    none false false = refl
with_names m (f ∷ fs) test h =
    let name = text_of m.atoms f.name in
    for_test (λ c d k. one_more (test c d k) (bytes_eq (module_name m) c) (bytes_eq name d) (nat_eq f.arity k) (exports_name m fs d k))
    (with_names m fs (λ c d k. test c d k || is_export (module_name m) name f.arity c d k) (with_export (module_name m) name f.arity h))

or_or : (p q r : Bool) → ((p || q) || r) ≡ (p || (q || r))
or_or true q r = refl
or_or false q r = refl

-- with those of modules
with_modules : (ms : List Module) (test : Test) → TableOf test → TableOf (λ c d k. test c d k || is_exported ms c d k)
with_modules [] test h = for_test (λ c d k. none (test c d k)) h
  where
    none : (p : Bool) → p ≡ (p || false)
    none true = refl
    none false = refl
with_modules (m ∷ ms) test h =
    for_test (λ c d k. or_or (test c d k) (module_exports m c d k) (is_exported ms c d k))
    (with_modules ms (λ c d k. test c d k || module_exports m c d k) (with_names m m.exports test h))

-- the exports of a program
pub export_table : (program : Program) → (table : ExportTable) × ((a b : List ℕ) (n : ℕ) → (has_export table a b n ≡ true) ↔ IsExported program a b n)
export_table program =
    let given = with_modules program.given (λ a b n. false) no_exports in
    let all = with_modules program.prelude (λ a b n. false || is_exported program.given a b n) given in
    (all.table, λ a b n. (λ e. exported-from program a b n (sym (all.has a b n) ∙ e), λ h. all.has a b n ∙ exported-to program a b n h))
