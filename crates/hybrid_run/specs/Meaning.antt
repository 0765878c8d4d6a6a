-- What an expression of a source means: the expression is resolved where it stands, and evaluated.
use Rattle.std.specs.Prelude.{ℕ, List}
use Rattle.hy_terms.specs.Term.{Term}
use Rattle.hy_core.specs.declared.tree.Expr.{Expr}
use Rattle.hy_core.specs.declared.tree.FunName.{FunName}
use Rattle.hy_core.specs.Computation.{Input}
use Rattle.hy_core.specs.Evaluation.{Evaluated, eval}
use Rattle.hy_core.specs.Match.{Env}
use Rattle.hy_core.specs.Resolve.{Names, resolve}
use Rattle.hy_core.specs.Resolved.{FunctionTree}
use Rattle.hy_core.specs.Supplied.{Supply, behind, supplied}
use Rattle.hy_core.specs.Syntax.{syntax_of}

-- The program's functions, its table of atoms, the names by which its calls are resolved, the
-- module in which the expression stands and the process that evaluates it. The names have the same
-- table of atoms, unless no number of an atom in the trees is one of a term.
module _ (program : List FunctionTree) (atoms : List (List ℕ)) (names : Names) (current pid : ℕ)
  where
    -- under the names of the letrecs around, with the numbers that are left
    abbrev pub meaning : List FunName → Supply → (calls : ℕ) → Env → Expr → List (Input Term)
        → Evaluated
    meaning locals supply calls env e inputs =
        let whole = supplied (resolve names current (syntax_of e) locals) supply in
        eval program atoms pid calls env whole inputs

-- the numbers that an expression leaves
abbrev pub supply_after : Names → (current : ℕ) → List FunName → Supply → Expr → Supply
supply_after names current locals supply e =
    behind (resolve names current (syntax_of e) locals) supply
