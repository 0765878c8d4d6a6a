-- The numbers of functions, under their modules and names.
use Rattle.std.specs.Prelude.{ℕ, suc, ◌==◌, ◌&&◌, nat_eq, Bool, List, [], ◌∷◌, Option, Some, None}
use Rattle.std.specs.Prelude.{if◌then◌else◌}
use Rattle.hy_core.specs.Resolved.{is_name}
use Rattle.hy_core.specs.declared.info.FunInfo.{FunInfo}
use Rattle.hy_core.specs.declared.tree.FunName.{FunName}
use Rattle.indexmap.specs.IndexMap.{IndexMap, get}

abbrev pub Key : Type 0
Key = ℕ × ℕ × ℕ

abbrev pub is_key : Key → Key → Bool
is_key x y = (nat_eq x.0 y.0 && nat_eq x.1 y.1) && nat_eq x.2 y.2

abbrev pub key_of : (module_name : ℕ) → FunName → Key
key_of m f = (m, f.name, f.arity)

abbrev pub number_at : {S : Type 0} → IndexMap Key ℕ S → (module_name : ℕ) → FunName → Option ℕ
number_at numbers m f = get is_key numbers (key_of m f)

-- the first of these that is there
abbrev pub first_of : Option ℕ → Option ℕ → Option ℕ
first_of None other = other
first_of (Some k) other = Some k

-- this number, where the function is the one of this module and name
abbrev pub number_if : (number : ℕ) → FunInfo → (module_name : ℕ) → FunName → Option ℕ
number_if n i m f = if (i.module == m) && is_name i.name f then Some n else None

-- the number of the first function with this module and name, where the first of all has number n
abbrev pub number_from : (n : ℕ) → List FunInfo → (module_name : ℕ) → FunName → Option ℕ
number_from n [] m f = None
number_from n (i ∷ is) m f = first_of (number_if n i m f) (number_from (suc n) is m f)
