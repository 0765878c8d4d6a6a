-- The names of built-ins, in the rows of the code.
use Rattle.std.specs.Prelude.{ℕ, ◌==◌, ◌&&◌, List, [], ◌∷◌, codes, Option, Some, None, if◌then◌else◌}
use Rattle.std.specs.Str.{bytes_eq}
use Rattle.hy_core.specs.declared.bif.Bif.TheVariants as b
use Rattle.hy_core.specs.declared.class.Class.TheVariants as c
use Rattle.core_names.specs.declared.built_in.BuiltIn.{BuiltIn}
use Rattle.core_names.specs.declared.built_in.BuiltIn.TheVariants.{Plain, Setelement, Send, Spawn, Display, Raise}

-- a name with its number of arguments and its built-in
abbrev pub Row : Type 0
Row = List ℕ × (ℕ × BuiltIn)

abbrev pub number_rows : List Row
number_rows =
    (codes "+", (2, Plain b.Add)) ∷ (codes "-", (2, Plain b.Sub)) ∷
    (codes "*", (2, Plain b.Mul)) ∷ (codes "-", (1, Plain b.Neg)) ∷
    (codes "div", (2, Plain b.Div)) ∷ (codes "rem", (2, Plain b.Rem)) ∷ []

abbrev pub bit_rows : List Row
bit_rows =
    (codes "band", (2, Plain b.Band)) ∷ (codes "bor", (2, Plain b.Bor)) ∷
    (codes "bxor", (2, Plain b.Bxor)) ∷ (codes "abs", (1, Plain b.Abs)) ∷ []

abbrev pub truth_rows : List Row
truth_rows =
    (codes "and", (2, Plain b.And)) ∷ (codes "or", (2, Plain b.Or)) ∷
    (codes "xor", (2, Plain b.Xor)) ∷ (codes "not", (1, Plain b.Not)) ∷ []

abbrev pub test_rows : List Row
test_rows =
    (codes "is_integer", (1, Plain b.IsInteger)) ∷ (codes "is_number", (1, Plain b.IsNumber)) ∷
    (codes "is_atom", (1, Plain b.IsAtom)) ∷ (codes "is_boolean", (1, Plain b.IsBoolean)) ∷
    (codes "is_pid", (1, Plain b.IsPid)) ∷ (codes "is_list", (1, Plain b.IsList)) ∷
    (codes "is_tuple", (1, Plain b.IsTuple)) ∷ (codes "tuple_size", (1, Plain b.TupleSize)) ∷ []

abbrev pub comparison_rows : List Row
comparison_rows =
    (codes "=:=", (2, Plain b.Same)) ∷ (codes "==", (2, Plain b.Equal)) ∷
    (codes "=/=", (2, Plain b.NotSame)) ∷ (codes "/=", (2, Plain b.NotEqual)) ∷
    (codes "<", (2, Plain b.Less)) ∷ (codes ">", (2, Plain b.Greater)) ∷
    (codes "=<", (2, Plain b.AtMost)) ∷ (codes ">=", (2, Plain b.AtLeast)) ∷ []

abbrev pub part_rows : List Row
part_rows =
    (codes "element", (2, Plain b.Element)) ∷ (codes "hd", (1, Plain b.Hd)) ∷
    (codes "tl", (1, Plain b.Tl)) ∷ (codes "length", (1, Plain b.Length)) ∷
    (codes "self", (0, Plain b.SelfPid)) ∷ []

abbrev pub effect_rows : List Row
effect_rows =
    (codes "setelement", (3, Setelement)) ∷ (codes "!", (2, Send)) ∷
    (codes "send", (2, Send)) ∷ (codes "spawn", (3, Spawn)) ∷ (codes "display", (1, Display)) ∷
    (codes "error", (1, Raise c.Error)) ∷ (codes "exit", (1, Raise c.Exit)) ∷
    (codes "throw", (1, Raise c.Throw)) ∷ []

-- the built-in of the first row of this name with so many arguments
abbrev pub found_in : List Row → List ℕ → ℕ → Option BuiltIn
found_in [] name arity = None
found_in (r ∷ rows) name arity = if bytes_eq r.0 name && (r.1.0 == arity)
    then Some r.1.1 else found_in rows name arity

-- the first, where there is one, and else the second
abbrev pub or_else : Option BuiltIn → Option BuiltIn → Option BuiltIn
or_else (Some built_in) other = Some built_in
or_else None other = other

-- a built-in of the module 'erlang'
abbrev pub built_in_named : List ℕ → ℕ → Option BuiltIn
built_in_named name arity =
    or_else (found_in number_rows name arity) (or_else (found_in bit_rows name arity)
    (or_else (found_in truth_rows name arity) (or_else (found_in test_rows name arity)
    (or_else (found_in comparison_rows name arity) (or_else (found_in part_rows name arity)
    (found_in effect_rows name arity))))))
