-- The functions of the letrecs around a place, the innermost first, and the table of their names.
use Rattle.std.specs.Prelude.{◌≡◌, ℕ, ◌&&◌, nat_eq, Bool, List, [], ◌∷◌, Option, None}
use Rattle.std.specs.Option.{unwrap_or}
use Rattle.hy_core.specs.declared.tree.FunName.{FunName}
use Rattle.indexmap.specs.IndexMap.{IndexMap, get}
use Rattle.lifted_program.specs.LetrecNumbers.{Reach, number_in}
use Rattle.letrec_names.specs.declared.names.Entry.{Entry}

-- a name with its number of parameters, as a key
abbrev pub Key : Type 0
Key = ℕ × ℕ

abbrev pub is_key : Key → Key → Bool
is_key x y = nat_eq x.0 y.0 && nat_eq x.1 y.1

abbrev pub key_of : FunName → Key
key_of f = (f.name, f.arity)

-- the number of a name, where the table has one
abbrev pub number_at : {S : Type 0} → IndexMap Key (Option ℕ) S → FunName → Option ℕ
number_at numbers f = unwrap_or (get is_key numbers (key_of f)) None

abbrev pub reach_in : List Entry → Reach
reach_in [] = []
reach_in (e ∷ es) = (e.name, e.number) ∷ reach_in es

-- each keeps the number that its name has without it
abbrev pub Hide : List Entry → Type 0
Hide [] = Unit
Hide (e ∷ es) = (e.around ≡ number_in (reach_in es) e.name) × Hide es

-- the table has the number of the innermost function of each name
pub record HasNumbers {S : Type 0} (numbers : IndexMap Key (Option ℕ) S) (es : List Entry)
    : Type 0 where
  pub at : (f : FunName) → number_at numbers f ≡ number_in (reach_in es) f
  pub hidden : Hide es
