-- What an expression is by its form, and the nodes of it behind its own.
use Rattle.std.specs.Prelude.{ℕ, if◌then◌else◌, List, [], ◌∷◌, ◌++◌, length, Option, Some, None}
use Rattle.hy_core.specs.declared.place.Place.TheVariants.{Applied, Timeout}
use Rattle.hy_core.specs.Nodes.{Nodes, clause_nodes, definition_nodes, nodes, names_of, is_nil_layer, for_one, for_values, inside, at_place, binding, defining, patterns_of_first}
use Rattle.hy_core.specs.declared.tree.Clause.{Clause}
use Rattle.hy_core.specs.declared.tree.Expr.{Expr}
use Rattle.hy_core.specs.declared.tree.Expr.TheOpen as layer
use Rattle.hy_core.specs.declared.tree.Expr.TheOpen.{Expr-F}
use Rattle.hy_core.specs.declared.tree.Expr.TheViews.{out-Expr}
use Rattle.hy_core.specs.declared.tree.Function.{Function}

-- the atom that an expression is
abbrev pub atom_layer : Expr-F Expr Clause Function → Option ℕ
atom_layer (layer.Atom a) = Some a
atom_layer _ = None

-- the nodes of each, one after another
abbrev pub each_node : {A : Type 0} → (A → Nodes) → List A → Nodes
each_node f [] c = []
each_node f (x ∷ xs) c = f x c ++ each_node f xs c

-- nil at the end of a list notation is no node
abbrev pub end_nodes : Expr → Nodes
end_nodes x c = if is_nil_layer (out-Expr x) then [] else nodes x c

-- the nodes of a letrec's definitions and of its body
abbrev pub letrec_nodes : List Function → Expr → Nodes
letrec_nodes functions body c = each_node definition_nodes functions c ++ nodes body c

abbrev pub parts_layer : Expr-F Expr Clause Function → Nodes
parts_layer (layer.Tuple site parts) c = each_node nodes parts (for_one c)
parts_layer (layer.List site heads tail) c =
    each_node nodes heads (for_one c) ++ end_nodes tail (for_one c)
parts_layer (layer.Values parts) c = each_node nodes parts (for_one c)
parts_layer (layer.Let vars value body) c =
    nodes value (for_values (length vars) c) ++ nodes body (binding vars c)
parts_layer (layer.Do first second) c = nodes first (for_one c) ++ nodes second (inside c)
parts_layer (layer.Case value clauses) c = nodes value (for_values (patterns_of_first clauses) c)
    ++ each_node clause_nodes clauses (inside c)
parts_layer (layer.Letrec functions body) c =
    letrec_nodes functions body (defining (names_of functions) c)
parts_layer (layer.Apply what args) c =
    nodes what (at_place Applied c) ++ each_node nodes args (for_one c)
parts_layer (layer.Call m f args) c =
    nodes m (for_one c) ++ nodes f (for_one c) ++ each_node nodes args (for_one c)
parts_layer (layer.Primop name args) c = each_node nodes args (for_one c)
parts_layer (layer.Receive clauses timeout body) c = each_node clause_nodes clauses (inside c)
    ++ nodes timeout (at_place Timeout c) ++ nodes body (inside c)
parts_layer (layer.Try value vars body catch_vars catch_body) c =
    nodes value (for_values (length vars) c) ++ nodes body (binding vars c)
    ++ nodes catch_body (binding catch_vars c)
parts_layer (layer.Catch body) c = nodes body (for_one c)
parts_layer (layer.Fun params body) c = nodes body (for_one (binding params c))
parts_layer _ c = []

-- the nodes of an expression behind its own
abbrev pub part_nodes : Expr → Nodes
part_nodes x = parts_layer (out-Expr x)
