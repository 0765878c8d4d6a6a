-- The checks for names of functions that repeat, and for exports without a definition.
use Rattle.std.specs.Prelude.{ℕ, not, Bool, is_some, List, take, Option, None}
use Rattle.hy_core.specs.Faults.{fault}
use Rattle.hy_core.specs.Nodes.{names_of}
use Rattle.hy_core.specs.Resolve.{is_local}
use Rattle.hy_core.specs.declared.fault.Form.{Form}
use Rattle.hy_core.specs.declared.fault.LintFault.{LintFault}
use Rattle.hy_core.specs.declared.tree.Clause.{Clause}
use Rattle.hy_core.specs.declared.tree.Expr.{Expr}
use Rattle.hy_core.specs.declared.tree.Expr.TheOpen as layer
use Rattle.hy_core.specs.declared.tree.Expr.TheOpen.{Expr-F}
use Rattle.hy_core.specs.declared.tree.Expr.TheViews.{out-Expr}
use Rattle.hy_core.specs.declared.tree.Function.{Function}
use Rattle.hy_core.specs.declared.tree.Module.{Module}
use Rattle.core_lint.specs.code.FirstPlace.{fault_at, first_by_module, first_where}
use Rattle.core_lint.specs.code.OnExprs.{on_exprs}
use Rattle.core_walk.specs.Walk.{Forms, form_if}

-- the function of this place has the name of one before it
abbrev pub repeats_earlier : List Function → ℕ → Function → Bool
repeats_earlier functions j f = is_local f.name (names_of (take j functions))

abbrev pub first_again : List Function → Option ℕ
first_again functions = first_where (repeats_earlier functions) 0 functions

-- the first function of modules, from place i on, that repeats a name of its module
abbrev pub first_repeated_function : (i : ℕ) → List Module → Option LintFault
first_repeated_function =
    first_by_module (λ i m. fault_at (λ j. fault 2 i j 0) (first_again m.functions))

abbrev pub repeated_names_layer : Expr-F Expr Clause Function → Option Form
repeated_names_layer (layer.Letrec functions body) = form_if (is_some (first_again functions))
repeated_names_layer _ = None

-- a letrec that defines a name twice
abbrev pub repeated_names : Forms
repeated_names = on_exprs (λ m x c. repeated_names_layer (out-Expr x))

-- the first export of a module that it doesn't define
abbrev pub first_undefined : Module → Option ℕ
first_undefined m = first_where (λ k f. not (is_local f (names_of m.functions))) 0 m.exports

-- the first such export of modules, from place i on
abbrev pub first_undefined_export : (i : ℕ) → List Module → Option LintFault
first_undefined_export = first_by_module (λ i m. fault_at (λ k. fault 3 i 0 k) (first_undefined m))
