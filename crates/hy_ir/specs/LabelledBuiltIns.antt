-- What the built-ins answer on labelled terms: a part keeps its labels, and each other answer has
-- no cell. This project's own.
use Rattle.std.specs.Prelude.{ℕ, zero, suc, ◌==◌, if◌then◌else◌, List, [], ◌∷◌, pos, map}
use Rattle.std.specs.Prelude.{Option, Some, None}
use Rattle.hy_terms.specs.Labelled.{Labelled, Int, Atom, Pid, Nil, Cons, Tuple, Labels, NoLabels}
use Rattle.hy_terms.specs.Labelled.{MoreLabels, erase}
use Rattle.hy_terms.specs.Term as bare
use Rattle.hy_core.specs.declared.bif.Bif.{Bif}
use Rattle.hy_core.specs.declared.bif.Bif.TheVariants as b
use Rattle.hy_core.specs.declared.class.Class.{Class}
use Rattle.hy_core.specs.declared.class.Class.TheVariants.{Error}
use Rattle.hy_core.specs.BuiltIn as built_in

-- a value, what is raised, or none: the built-in has another number of arguments
pub data LabelledAnswer : Type 0 where
  Value : Labelled → LabelledAnswer
  Raises : Class → Labelled → LabelledAnswer
  NoAnswer : LabelledAnswer

-- the reasons of errors
abbrev pub badarg : Labelled
badarg = Atom 3

abbrev pub no_clause : Labelled
no_clause = Atom 5

abbrev pub function_clause : Labelled
function_clause = Atom 6

-- a term without a cell
abbrev pub scalar : bare.Term → Option Labelled
scalar (bare.Int n) = Some (Int n)
scalar (bare.Atom atom) = Some (Atom atom)
scalar (bare.Pid pid) = Some (Pid pid)
scalar bare.Nil = Some Nil
scalar _ = None

abbrev pub with_scalar : (Labelled → LabelledAnswer) → Option Labelled → LabelledAnswer
with_scalar f None = NoAnswer
with_scalar f (Some t) = f t

abbrev pub scalar_answer : built_in.Answer → LabelledAnswer
scalar_answer (built_in.Value t) = with_scalar Value (scalar t)
scalar_answer (built_in.Raises class reason) = with_scalar (Raises class) (scalar reason)
scalar_answer built_in.NoAnswer = NoAnswer

-- the part at a place, counted from 0
abbrev pub part_at : ℕ → Labels → Option Labelled
part_at place NoLabels = None
part_at zero (MoreLabels t ts) = Some t
part_at (suc place) (MoreLabels t ts) = part_at place ts

-- element: places are counted from 1
abbrev pub element : Labelled → Labelled → Option Labelled
element (Int (pos (suc place))) (Tuple site colour parts) = part_at place parts
element _ _ = None

-- hd and tl
abbrev pub head_of : Labelled → Option Labelled
head_of (Cons site colour head tail) = Some head
head_of _ = None

abbrev pub tail_of : Labelled → Option Labelled
tail_of (Cons site colour head tail) = Some tail
tail_of _ = None

abbrev pub or_badarg : Option Labelled → LabelledAnswer
or_badarg None = Raises Error badarg
or_badarg (Some t) = Value t

-- a call has as many arguments as its built-in takes
abbrev pub of_one : (Labelled → LabelledAnswer) → List Labelled → LabelledAnswer
of_one f (t ∷ []) = f t
of_one f _ = NoAnswer

abbrev pub of_two : (Labelled → Labelled → LabelledAnswer) → List Labelled → LabelledAnswer
of_two f (t ∷ u ∷ []) = f t u
of_two f _ = NoAnswer

-- the answer of a built-in in the process pid
abbrev pub labelled_answer : (atoms : List (List ℕ)) (pid : ℕ) → Bif → List Labelled
    → LabelledAnswer
labelled_answer atoms pid b.Element ts = of_two (λ index tuple. or_badarg (element index tuple)) ts
labelled_answer atoms pid b.Hd ts = of_one (λ t. or_badarg (head_of t)) ts
labelled_answer atoms pid b.Tl ts = of_one (λ t. or_badarg (tail_of t)) ts
labelled_answer atoms pid bif ts = scalar_answer (built_in.answer atoms pid bif (map erase ts))

-- the parts of a tuple

abbrev pub list_of : Labels → List Labelled
list_of NoLabels = []
list_of (MoreLabels t ts) = t ∷ list_of ts

abbrev pub before : Labelled → Option (List Labelled) → Option (List Labelled)
before t None = None
before t (Some ts) = Some (t ∷ ts)

-- the parts with another at a place, counted from 0
abbrev pub with_part : ℕ → Labels → Labelled → Option (List Labelled)
with_part place NoLabels v = None
with_part zero (MoreLabels t ts) v = Some (v ∷ list_of ts)
with_part (suc place) (MoreLabels t ts) v = before t (with_part place ts v)

-- setelement: the parts of the new tuple
abbrev pub with_element : (index tuple value : Labelled) → Option (List Labelled)
with_element (Int (pos (suc place))) (Tuple site colour parts) v = with_part place parts v
with_element _ _ v = None

-- match_fail: the atom 'function_clause' for a tuple that begins with it, and else the reason
abbrev pub fail_reason : Labelled → Labelled
fail_reason (Tuple site colour (MoreLabels (Atom atom) ts)) =
    if atom == 6 then function_clause else Tuple site colour (MoreLabels (Atom atom) ts)
fail_reason t = t
