-- How many arguments each built-in takes: this project's own choice of built-ins.
use Rattle.std.specs.Prelude.{ℕ, ◌==◌, ◌&&◌, List, [], ◌∷◌, Bool, true}
use Rattle.hy_core.specs.declared.bif.Bif.{Bif}
use Rattle.hy_core.specs.declared.bif.Bif.TheVariants as b
use Rattle.hy_core.specs.BuiltIn.{Operation, Plain, Row}

abbrev pub bif_arity : Bif → ℕ
bif_arity b.SelfPid = 0
bif_arity b.Neg = 1
bif_arity b.Abs = 1
bif_arity b.Not = 1
bif_arity b.IsInteger = 1
bif_arity b.IsNumber = 1
bif_arity b.IsAtom = 1
bif_arity b.IsBoolean = 1
bif_arity b.IsPid = 1
bif_arity b.IsList = 1
bif_arity b.IsTuple = 1
bif_arity b.TupleSize = 1
bif_arity b.Hd = 1
bif_arity b.Tl = 1
bif_arity b.Length = 1
bif_arity bif = 2

-- the rows of the table of built-ins have these numbers of arguments
abbrev pub is_arity : Operation → ℕ → Bool
is_arity (Plain bif) arity = arity == bif_arity bif
is_arity _ arity = true

abbrev pub are_arities : List Row → Bool
are_arities [] = true
are_arities (r ∷ rs) = is_arity r.operation r.arity && are_arities rs
