-- The functions of a program as evaluation reads them: resolved, with the numbers of their events
-- and of their sites. This project's own.
use Rattle.std.specs.Prelude.{ℕ, suc, Bool, true, false, if◌then◌else◌, List, [], ◌∷◌, ◌++◌, map, Option, Some}
use Rattle.hy_terms.specs.Naming.{text_of}
use Rattle.hy_core.specs.BuiltIn.{Operation, Sends, Spawns, Displays, operation_named}
use Rattle.hy_core.specs.Nodes.{Piece, AnExpr, Node, nodes_of}
use Rattle.hy_core.specs.Resolve.{Names, resolve}
use Rattle.hy_core.specs.Resolved.{Expression, FunctionTree}
use Rattle.hy_core.specs.Supplied.{Supply, behind, supplied}
use Rattle.hy_core.specs.Syntax as s
use Rattle.hy_core.specs.Syntax.{Syntax, syntax_of, count}
use Rattle.hy_core.specs.declared.tree.Function.{Function}
use Rattle.hy_core.specs.declared.tree.Module.{Module}

abbrev pub does_event : Option Operation → Bool
does_event (Some Sends) = true
does_event (Some Spawns) = true
does_event (Some Displays) = true
does_event _ = false

-- the places of what is true, where the first has this number
abbrev pub true_places : ℕ → List Bool → List ℕ
true_places n [] = []
true_places n (b ∷ bs) = if b then n ∷ true_places (suc n) bs else true_places (suc n) bs

module _ (atoms : List (List ℕ)) where
  -- a call of `!`, `send`, `spawn` or `display`
  abbrev pub is_event : Syntax → Bool
  is_event (s.Call (s.Atom m) (s.Atom f) args) =
      does_event (operation_named (text_of atoms m) (text_of atoms f) (count args))
  is_event _ = false

  abbrev pub is_event_piece : Piece → Bool
  is_event_piece (AnExpr x) = is_event (syntax_of x)
  is_event_piece _ = false

  abbrev pub are_events : List Node → List Bool
  are_events = map (λ n. is_event_piece n.piece)

  -- the numbers for a function of a source: its event nodes, and the sites that are left
  abbrev pub supply_of : Function → (sites : List ℕ) → Supply
  supply_of f sites = record { events = true_places 0 (are_events (nodes_of f)); sites = sites }

abbrev pub resolved : Names → (current : ℕ) → Function → Expression
resolved names current f = resolve names current (syntax_of f.body) []

-- the functions of a module, and the sites that they leave
abbrev pub functions_from : Names → (current : ℕ) → (sites : List ℕ) → List Function
    → List FunctionTree × List ℕ
functions_from names current sites [] = ([], sites)
functions_from names current sites (f ∷ fs) =
    let body = resolved names current f in
    let supply = supply_of names.atoms f sites in
    let others = functions_from names current (behind body supply).sites fs in
    (record { parameters = f.params; body = supplied body supply } ∷ others.0, others.1)

abbrev pub modules_from : Names → (sites : List ℕ) → List Module → List FunctionTree
modules_from names sites [] = []
modules_from names sites (m ∷ ms) =
    let these = functions_from names m.name sites m.functions in
    these.0 ++ modules_from names these.1 ms

-- the functions of these modules by their numbers; the sites are taken in order
abbrev pub function_trees : Names → (sites : List ℕ) → List Module → List FunctionTree
function_trees names sites modules = modules_from names sites modules
