-- Which built-in a call names.
use Rattle.std.specs.Prelude.{ℕ, List, Option, Some, None}
use Rattle.hy_terms.specs.Naming.{text_of}
use Rattle.hy_core.specs.BuiltIn as built
use Rattle.hy_core.specs.BuiltIn.{Operation, operation_named}
use Rattle.hy_terms.specs.declared.atoms.Atoms.{Atoms}
use Rattle.core_names.specs.declared.built_in.BuiltIn.{BuiltIn}
use Rattle.core_names.specs.declared.built_in.BuiltIn.TheVariants.{Plain, Setelement, Send, Spawn, Display, Raise}

abbrev pub built_in : Operation → BuiltIn
built_in (built.Plain b) = Plain b
built_in built.SetsElement = Setelement
built_in built.Sends = Send
built_in built.Spawns = Spawn
built_in built.Displays = Display
built_in (built.RaisesAs class) = Raise class

abbrev pub built_in_as : Option Operation → Option BuiltIn
built_in_as None = None
built_in_as (Some operation) = Some (built_in operation)

-- the built-in of this module and name
abbrev pub built_in_of : (module_name name : List ℕ) → (arity : ℕ) → Option BuiltIn
built_in_of module_name name arity = built_in_as (operation_named module_name name arity)

-- the built-in that a call is whose module and name are these atoms
abbrev pub called : Atoms → Option ℕ → Option ℕ → (arity : ℕ) → Option BuiltIn
called atoms (Some a) (Some b) arity = built_in_of (text_of atoms a) (text_of atoms b) arity
called atoms (Some a) None arity = None
called atoms None b arity = None
