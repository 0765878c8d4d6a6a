-- How often each function's name stands in a list. This project's own.
use Rattle.std.specs.Prelude.{◌≡◌, ℕ, suc, ◌&&◌, nat_eq, Bool, if◌then◌else◌, List, [], ◌∷◌, unwrap_or}
use Rattle.hy_core.specs.Resolved.{is_name}
use Rattle.hy_core.specs.declared.tree.FunName.{FunName}
use Rattle.indexmap.specs.IndexMap.{IndexMap, get}

abbrev pub times_named : List FunName → FunName → ℕ
times_named [] f = 0
times_named (g ∷ gs) f = if is_name g f then suc (times_named gs f) else times_named gs f

-- a name with its number of parameters, as a key
abbrev pub Key : Type 0
Key = ℕ × ℕ

abbrev pub is_key : Key → Key → Bool
is_key x y = nat_eq x.0 y.0 && nat_eq x.1 y.1

abbrev pub key_of : FunName → Key
key_of f = (f.name, f.arity)

-- the number at a name; one that isn't there has 0
abbrev pub count_of : {S : Type 0} → IndexMap Key ℕ S → FunName → ℕ
count_of counts f = unwrap_or (get is_key counts (key_of f)) 0

-- the number at each name says how often it stands in the list
pub record CountsNames {S : Type 0} (counts : IndexMap Key ℕ S)
    (names : List FunName) : Type 0 where
  pub at : (f : FunName) → count_of counts f ≡ times_named names f
