-- The check for variables that are bound twice at once.
use Rattle.std.specs.Prelude.{ℕ, ◌||◌, Bool, false, List, [], ◌∷◌, ◌++◌, Option, None}
use Rattle.hy_core.specs.SubPatterns.{clause_variables}
use Rattle.hy_core.specs.declared.fault.Form.{Form}
use Rattle.hy_core.specs.declared.tree.Clause.{Clause}
use Rattle.hy_core.specs.declared.tree.Expr.{Expr}
use Rattle.hy_core.specs.declared.tree.Expr.TheOpen as layer
use Rattle.hy_core.specs.declared.tree.Expr.TheOpen.{Expr-F}
use Rattle.hy_core.specs.declared.tree.Expr.TheViews.{out-Expr}
use Rattle.hy_core.specs.declared.tree.Function.{Function}
use Rattle.core_walk.specs.Bound.{is_bound}
use Rattle.core_walk.specs.Walk.{Forms, form_if}

-- whether one of these variables was seen, or stands twice among them
abbrev pub repeats_after : List ℕ → List ℕ → Bool
repeats_after seen [] = false
repeats_after seen (x ∷ xs) = is_bound seen x || repeats_after (seen ++ x ∷ []) xs

abbrev pub repeats : List ℕ → Bool
repeats xs = repeats_after [] xs

-- whether a definition has a parameter twice
abbrev pub repeats_parameter : List Function → Bool
repeats_parameter [] = false
repeats_parameter (f ∷ fs) = repeats f.params || repeats_parameter fs

abbrev pub repeated_layer : Expr-F Expr Clause Function → Option Form
repeated_layer (layer.Let vars value body) = form_if (repeats vars)
repeated_layer (layer.Letrec functions body) = form_if (repeats_parameter functions)
repeated_layer (layer.Try value vars body catch_vars catch_body) =
    form_if (repeats vars || repeats catch_vars)
repeated_layer (layer.Fun params body) = form_if (repeats params)
repeated_layer _ = None

abbrev pub repeated : Forms
repeated = record {
  of_expr = λ m x c. repeated_layer (out-Expr x);
  of_patterns = λ ps. form_if (repeats (clause_variables ps));
  of_function = λ m j f. repeats f.params;
}
