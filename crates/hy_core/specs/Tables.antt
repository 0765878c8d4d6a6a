-- The tables of a program: its atoms and its functions, each in the order of their numbers. This
-- project's own.
use Rattle.std.specs.Prelude.{ℕ, List, [], ◌∷◌, ◌++◌, map, length, replicate, unwrap_or}
use Rattle.hy_terms.specs.Naming.{named, place_in, text_of}
use Rattle.hy_core.specs.BuiltIn.{own_atoms}
use Rattle.hy_core.specs.NameFaults.{modules_of}
use Rattle.hy_core.specs.Nodes.{Piece, AnExpr, APattern, FirstPattern, nodes_of}
use Rattle.hy_core.specs.SubPatterns.{joined}
use Rattle.hy_core.specs.declared.info.FunInfo.{FunInfo}
use Rattle.hy_core.specs.declared.tree.Clause.{Clause}
use Rattle.hy_core.specs.declared.tree.Expr.{Expr}
use Rattle.hy_core.specs.declared.tree.Expr.TheOpen as layer
use Rattle.hy_core.specs.declared.tree.Expr.TheOpen.{Expr-F}
use Rattle.hy_core.specs.declared.tree.Expr.TheViews.{out-Expr}
use Rattle.hy_core.specs.declared.tree.FunName.{FunName}
use Rattle.hy_core.specs.declared.tree.Function.{Function}
use Rattle.hy_core.specs.declared.tree.Module.{Module}
use Rattle.hy_core.specs.declared.tree.Program.{Program}

-- a table with these texts behind it, each once
abbrev pub with_texts : List (List ℕ) → List (List ℕ) → List (List ℕ)
with_texts table [] = table
with_texts table (text ∷ texts) = with_texts (named table text).1 texts

abbrev pub with_modules : List (List ℕ) → List Module → List (List ℕ)
with_modules table [] = table
with_modules table (m ∷ ms) = with_modules (with_texts table m.atoms) ms

-- the program's atoms: its own first ones, then those of each module
abbrev pub program_atoms : Program → List (List ℕ)
program_atoms program = with_modules own_atoms (modules_of program)

-- An atom of a module as an atom of the program, whose table this is.
module _ (table : List (List ℕ)) (m : Module) where
  abbrev pub renamed : ℕ → ℕ
  renamed a = unwrap_or (place_in table (text_of m.atoms a)) 0

  abbrev pub renamed_name : FunName → FunName
  renamed_name f = record { name = renamed f.name; arity = f.arity }

  abbrev pub info_of : Function → FunInfo
  info_of f = record { «module» = renamed m.name; name = renamed_name f.name }

abbrev pub definitions_layer : Expr-F Expr Clause Function → List Function
definitions_layer (layer.Letrec functions body) = functions
definitions_layer _ = []

abbrev pub definitions_at : Piece → List Function
definitions_at (AnExpr x) = definitions_layer (out-Expr x)
definitions_at (APattern pattern) = []
definitions_at (FirstPattern patterns) = []

-- the functions of the letrecs of a function
abbrev pub local_functions : Function → List Function
local_functions f = joined (map (λ n. definitions_at n.piece) (nodes_of f))

-- all functions of the modules, those of letrecs aside
abbrev pub top_infos : List (List ℕ) → List Module → List FunInfo
top_infos table [] = []
top_infos table (m ∷ ms) = map (info_of table m) m.functions ++ top_infos table ms

-- the functions of letrecs, each told by the function of a module around it
abbrev pub local_infos : List (List ℕ) → List Module → List FunInfo
local_infos table [] = []
local_infos table (m ∷ ms) =
    joined (map (λ f. replicate (length (local_functions f)) (info_of table m f)) m.functions)
    ++ local_infos table ms

-- the functions of a program in order of their numbers: all of its modules, then those of letrecs
abbrev pub program_functions : Program → List FunInfo
program_functions program = let table = program_atoms program in
    top_infos table (modules_of program) ++ local_infos table (modules_of program)
