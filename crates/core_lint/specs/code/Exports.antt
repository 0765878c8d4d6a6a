-- The exports of a program by their texts. This project's own.
use Rattle.std.specs.Prelude.{◌≡◌, ℕ, ◌<◌, ◌&&◌, ◌||◌, nat_eq, Bool, true, false, List, [], ◌∷◌, Option, Some, None}
use Rattle.std.specs.List.{list_any}
use Rattle.std.specs.Str.{bytes_eq}
use Rattle.hy_terms.specs.Naming.{place_in, text_of}
use Rattle.hy_core.specs.NameFaults.{module_name}
use Rattle.hy_core.specs.declared.tree.FunName.{FunName}
use Rattle.hy_core.specs.declared.tree.Module.{Module}

-- the place of a module's name, that of a function's name, and an arity
abbrev pub Row : Type 0
Row = ℕ × ℕ × ℕ

abbrev pub is_row : Row → Row → Bool
is_row x y = (nat_eq x.0 y.0 && nat_eq x.1 y.1) && nat_eq x.2 y.2

-- texts, and a row for each export
pub record ExportTable : Type 0 where
  pub texts : List (List ℕ)
  pub rows : List Row

abbrev pub has_row : List Row → Option ℕ → Option ℕ → ℕ → Bool
has_row rows (Some p) (Some q) arity = list_any (is_row (p, q, arity)) rows
has_row rows (Some p) None arity = false
has_row rows None q arity = false

-- the table has this export
abbrev pub has_export : ExportTable → (of_module name : List ℕ) → (arity : ℕ) → Bool
has_export table of_module name arity =
    has_row table.rows (place_in table.texts of_module) (place_in table.texts name) arity

-- the rows name texts of the table
pub record RowsWithin (count : ℕ) (rows : List Row) : Type 0 where
  pub within : (row : Row) → list_any (is_row row) rows ≡ true → (row.0 < count) × (row.1 < count)

-- the export of this module, name and arity is the one that is asked for
abbrev pub is_export : (of_module name : List ℕ) → (arity : ℕ) → (asked_module asked_name : List ℕ)
    → (asked_arity : ℕ) → Bool
is_export of_module name arity asked_module asked_name asked_arity =
    (bytes_eq of_module asked_module && bytes_eq name asked_name) && nat_eq arity asked_arity

-- one of these exports of a module has this name and arity
abbrev pub exports_name : Module → List FunName → List ℕ → ℕ → Bool
exports_name m [] name arity = false
exports_name m (f ∷ fs) name arity =
    (bytes_eq (text_of m.atoms f.name) name && nat_eq f.arity arity) || exports_name m fs name arity

abbrev pub module_exports : Module → (of_module name : List ℕ) → (arity : ℕ) → Bool
module_exports m of_module name arity =
    bytes_eq (module_name m) of_module && exports_name m m.exports name arity

-- one of these modules has this name and exports this function
abbrev pub is_exported : List Module → (of_module name : List ℕ) → (arity : ℕ) → Bool
is_exported [] of_module name arity = false
is_exported (m ∷ ms) of_module name arity =
    module_exports m of_module name arity || is_exported ms of_module name arity
