-- The numbers of atoms and variables, in the order in which a text has them first. This project's
-- own.
use Rattle.std.specs.Prelude.{ℕ, List, []}
use Rattle.hy_terms.specs.Naming.{named}
use Rattle.hy_core.specs.declared.tables.Tables.{Tables}

-- the number of an atom, and the tables after it
abbrev pub atom_number : Tables → List ℕ → ℕ
atom_number s text = (named s.atoms text).0

abbrev pub with_atom : Tables → List ℕ → Tables
with_atom s text = record { atoms = (named s.atoms text).1; variables = s.variables }

-- the number of a variable, and the tables after it
abbrev pub variable_number : Tables → List ℕ → ℕ
variable_number s text = (named s.variables text).0

abbrev pub with_variable : Tables → List ℕ → Tables
with_variable s text = record { atoms = s.atoms; variables = (named s.variables text).1 }

-- the tables where nothing was met
abbrev pub no_tables : Tables
no_tables = record { atoms = []; variables = [] }
