-- How the tables of a program are written in answers. This project's own.
use Rattle.std.specs.Prelude.{◌≡◌, ℕ, List, [], ◌∷◌, ◌++◌, codes}
use Rattle.std.specs.Fmt.{decimal}
use Rattle.std.specs.List.{AllZip, flat_map}
use Rattle.hy_terms.specs.Naming.{text_of}
use Rattle.hy_terms.specs.Texts.{atom_text}
use Rattle.hy_core.specs.Faults.{IsAccepted}
use Rattle.hy_core.specs.Numbered.{program_sites}
use Rattle.hy_core.specs.PreludeModules.{with_prelude}
use Rattle.hy_core.specs.Reading.{IsModuleText}
use Rattle.hy_core.specs.Tables.{program_atoms, program_functions}
use Rattle.hy_core.specs.declared.info.FunInfo.{FunInfo}
use Rattle.hy_core.specs.declared.info.SiteInfo.{SiteInfo}
use Rattle.hy_core.specs.declared.info.SiteKind.{SiteKind}
use Rattle.hy_core.specs.declared.info.SiteKind.TheVariants as kind
use Rattle.hy_core.specs.declared.tree.Module.{Module}
use Rattle.language_cases.specs.Pieces.{names_line, shortened}

-- a function, as its module's name, its own name and its arity
abbrev pub function_text : List (List ℕ) → FunInfo → List ℕ
function_text atoms info =
    codes " "
    ++ atom_text (text_of atoms info.«module»)
    ++ codes ":"
    ++ atom_text (text_of atoms info.name.name)
    ++ codes "/"
    ++ decimal info.name.arity

-- what is built at a site, by its name
abbrev pub kind_name : SiteKind → List ℕ
kind_name kind.Tuple = codes "tuple"
kind_name kind.Cons = codes "cons"
kind_name kind.String = codes "string"
kind_name kind.Setelement = codes "setelement"

-- a site, as its function's number, its node and what is built there
abbrev pub site_text : SiteInfo → List ℕ
site_text site =
    codes " "
    ++ decimal site.function
    ++ codes ":"
    ++ decimal site.node
    ++ codes " "
    ++ kind_name site.kind

-- a line of a table
abbrev pub table_line : List ℕ → List ℕ → List ℕ
table_line title text = title ++ shortened text ++ 10 ∷ []

-- the tables of a program
abbrev pub tables_text : List (List ℕ) → List FunInfo → List SiteInfo → List ℕ
tables_text atoms functions sites =
    names_line (codes "atoms") atoms
    ++ table_line (codes "functions") (flat_map (function_text atoms) functions)
    ++ table_line (codes "sites") (flat_map site_text sites)

-- what is written for the texts of an accepted program: its tables, then the numbers in its trees
pub record IsTablesAnswer (texts : List (List ℕ)) (answer : List ℕ) : Type 0 where
  pub modules : List Module
  pub read : AllZip IsModuleText texts modules
  pub accepted : IsAccepted (with_prelude modules)
  pub rest : List ℕ
  pub tables : answer ≡
      tables_text (program_atoms (with_prelude modules)) (program_functions (with_prelude modules))
      (program_sites (with_prelude modules))
      ++ rest
