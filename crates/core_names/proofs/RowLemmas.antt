-- The rows of names are those of the table of built-ins.
use Rattle.std.proofs.Common.{◌≡◌, ℕ, ◌==◌, ◌&&◌, Bool, true, false, List, [], ◌∷◌, ◌++◌, map, take, drop, append-nil, Some, None, if◌then◌else◌, codes, refl, sym, ap, ◌∙◌}
use Rattle.std.specs.Str.{bytes_eq}
use Rattle.hy_core.specs.BuiltIn as built
use Rattle.hy_core.specs.BuiltIn.{operation_in, operation_named, operation_of, operations}
use Rattle.core_names.specs.Called.{built_in, built_in_as}
use Rattle.core_names.specs.code.Rows.{Row, found_in, or_else, built_in_named}

abbrev named : List built.Row → List Row
named = map (λ r. (r.name, (r.arity, built_in r.operation)))

-- rows in front of others
front : (rows rest : List built.Row) (name : List ℕ) (arity : ℕ)
    → built_in_as (operation_in (rows ++ rest) name arity) ≡ or_else (found_in (named rows) name arity) (built_in_as (operation_in rest name arity))
front [] rest name arity = refl
front (r ∷ rows) rest name arity = by (bytes_eq r.name name && (r.arity == arity)) (front rows rest name arity)
  where
    by : (b : Bool) → built_in_as (operation_in (rows ++ rest) name arity) ≡ or_else (found_in (named rows) name arity) (built_in_as (operation_in rest name arity))
        → built_in_as (if b then Some r.operation else operation_in (rows ++ rest) name arity) ≡ or_else (if b then Some (built_in r.operation) else found_in (named rows) name arity) (built_in_as (operation_in rest name arity))
    by true later = refl
    by false later = later

abbrev from : ℕ → List built.Row
from n = drop n operations

-- in the order of the table
pub operation-named : (name : List ℕ) (arity : ℕ) → built_in_as (operation_of name arity) ≡ built_in_named name arity
operation-named name arity =
    front (take 6 operations) (from 6) name arity
    ∙ ap (λ o. or_else (found_in (named (take 6 operations)) name arity) o) (front (take 4 (from 6)) (from 10) name arity
    ∙ ap (λ o. or_else (found_in (named (take 4 (from 6))) name arity) o) (front (take 4 (from 10)) (from 14) name arity
    ∙ ap (λ o. or_else (found_in (named (take 4 (from 10))) name arity) o) (front (take 8 (from 14)) (from 22) name arity
    ∙ ap (λ o. or_else (found_in (named (take 8 (from 14))) name arity) o) (front (take 8 (from 22)) (from 30) name arity
    ∙ ap (λ o. or_else (found_in (named (take 8 (from 22))) name arity) o) (front (take 5 (from 30)) (from 35) name arity
    ∙ ap (λ o. or_else (found_in (named (take 5 (from 30))) name arity) o) (last name arity))))))
  where
    or-none : (o : _) → or_else o None ≡ o
    or-none None = refl
    or-none (Some b) = refl

    last : (name : List ℕ) (arity : ℕ) → built_in_as (operation_in (from 35) name arity) ≡ found_in (named (from 35)) name arity
    last name arity = ap (λ rows. built_in_as (operation_in rows name arity)) (sym (append-nil (from 35))) ∙ front (from 35) [] name arity ∙ or-none (found_in (named (from 35)) name arity)

-- the built-in of a module and a name, by the rows of the module 'erlang'
pub by_rows : (module_name name : List ℕ) (arity : ℕ) → (if bytes_eq module_name (codes "erlang") then built_in_named name arity else None) ≡ built_in_as (operation_named module_name name arity)
by_rows module_name name arity = by (bytes_eq module_name (codes "erlang"))
  where
    by : (is : Bool) → (if is then built_in_named name arity else None) ≡ built_in_as (if is then operation_of name arity else None)
    by true = sym (operation-named name arity)
    by false = refl
