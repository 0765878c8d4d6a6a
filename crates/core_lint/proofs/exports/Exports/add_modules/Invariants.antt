use Rattle.std.proofs.Common.{◌≡◌, ◌||◌, drop, List, ℕ}
use Rattle.core_lint.specs.code.Exports.{has_export, is_exported}
use Rattle.core_lint.proofs.exports.Exports.add_modules.Given as goal

abbrev pub invariant-loop-names : goal.invariant-loop-names
invariant-loop-names l = (a b : List ℕ) (n : ℕ) → (has_export l.self a b n || is_exported (drop l.names-index l.modules) a b n) ≡ (has_export l.fn.self a b n || is_exported l.modules a b n)
