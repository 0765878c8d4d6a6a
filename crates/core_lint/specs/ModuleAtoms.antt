-- The atoms that a module names, in the order of its canonical text. This project's own.
use Rattle.std.specs.Prelude.{ℕ, ◌<◌, List, [], ◌∷◌, ◌++◌, map, length, Contains}
use Rattle.hy_core.specs.SubPatterns.{joined}
use Rattle.hy_core.specs.declared.tree.Clause.{Clause}
use Rattle.hy_core.specs.declared.tree.Expr.{Expr}
use Rattle.hy_core.specs.declared.tree.Expr.TheFolds.{fold-Expr, fold-Clause, fold-Function}
use Rattle.hy_core.specs.declared.tree.Expr.TheOpen as e
use Rattle.hy_core.specs.declared.tree.Expr.TheOpen.{Expr-F, Clause-F, Function-F}
use Rattle.hy_core.specs.declared.tree.Function.{Function}
use Rattle.hy_core.specs.declared.tree.Module.{Module}
use Rattle.hy_core.specs.declared.tree.Pattern.{Pattern}
use Rattle.hy_core.specs.declared.tree.Pattern.TheFolds.{fold-Pattern}
use Rattle.hy_core.specs.declared.tree.Pattern.TheOpen as p
use Rattle.hy_core.specs.declared.tree.Pattern.TheOpen.{Pattern-F}

-- one pattern, with the atoms of its parts in their places
abbrev pub pattern_step : Pattern-F (List ℕ) → List ℕ
pattern_step (p.Atom a) = a ∷ []
pattern_step (p.Tuple parts) = joined parts
pattern_step (p.List heads tail) = joined heads ++ tail
pattern_step (p.Alias x pattern) = pattern
pattern_step _ = []

abbrev pub pattern_atoms : Pattern → List ℕ
pattern_atoms = fold-Pattern (List ℕ) pattern_step

-- one expression, with the atoms of its parts in their places
abbrev pub expr_step : Expr-F (List ℕ) (List ℕ) (List ℕ) → List ℕ
expr_step (e.Atom a) = a ∷ []
expr_step (e.Name f) = f.name ∷ []
expr_step (e.Tuple site parts) = joined parts
expr_step (e.List site heads tail) = joined heads ++ tail
expr_step (e.Values parts) = joined parts
expr_step (e.Let vars value body) = value ++ body
expr_step (e.Do first second) = first ++ second
expr_step (e.Case value clauses) = value ++ joined clauses
expr_step (e.Letrec functions body) = joined functions ++ body
expr_step (e.Apply what args) = what ++ joined args
expr_step (e.Call m f args) = m ++ f ++ joined args
expr_step (e.Primop name args) = name ∷ joined args
expr_step (e.Receive clauses timeout body) = joined clauses ++ timeout ++ body
expr_step (e.Try value vars body catch_vars catch_body) = value ++ body ++ catch_body
expr_step (e.Catch body) = body
expr_step (e.Fun params body) = body
expr_step _ = []

abbrev pub clause_step : Clause-F (List ℕ) (List ℕ) (List ℕ) → List ℕ
clause_step c = joined (map pattern_atoms c.patterns) ++ c.guard ++ c.body

abbrev pub function_step : Function-F (List ℕ) (List ℕ) (List ℕ) → List ℕ
function_step f = f.name.name ∷ f.body

abbrev pub expr_atoms : Expr → List ℕ
expr_atoms = fold-Expr (List ℕ) (List ℕ) (List ℕ) expr_step clause_step function_step

abbrev pub clause_atoms : Clause → List ℕ
clause_atoms = fold-Clause (List ℕ) (List ℕ) (List ℕ) expr_step clause_step function_step

abbrev pub function_atoms : Function → List ℕ
function_atoms = fold-Function (List ℕ) (List ℕ) (List ℕ) expr_step clause_step function_step

-- the module's name, the names that it exports, and its functions
abbrev pub module_atoms : Module → List ℕ
module_atoms m = m.name ∷ map (λ f. f.name) m.exports ++ joined (map function_atoms m.functions)

-- each of them stands in the module's own table
abbrev pub HasOwnAtoms : Module → Type 0
HasOwnAtoms m = (a : ℕ) → Contains (module_atoms m) a → a < length m.atoms
