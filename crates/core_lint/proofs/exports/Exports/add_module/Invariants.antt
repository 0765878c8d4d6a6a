use Rattle.std.proofs.Common.{◌≡◌, ◌||◌, ◌&&◌, drop, List, ℕ, Some}
use Rattle.std.specs.Str.{bytes_eq}
use Rattle.hy_terms.specs.Naming.{place_in}
use Rattle.hy_core.specs.NameFaults.{module_name}
use Rattle.core_lint.specs.code.Exports.{exports_name, has_export, module_exports}
use Rattle.core_lint.proofs.exports.Exports.add_module.Given as goal

abbrev pub invariant-loop-export : goal.invariant-loop-export
invariant-loop-export l = record {
  named : place_in l.self.texts (module_name l.names) ≡ Some l.place;
  exported : (a b : List ℕ) (n : ℕ)
      → (has_export l.self a b n || (bytes_eq (module_name l.names) a && exports_name l.names (drop l.export-index l.names.exports) b n)) ≡ (has_export l.fn.self a b n || module_exports l.names a b n);
}
