-- Places in lists of parts and arms.
use Rattle.std.proofs.Common.{◌≡◌, ℕ, zero, suc, List, [], ◌∷◌, map, Option, Some, None, ap, refl}
use Rattle.std.proofs.Common.{◌∙◌, false, true, IsSome, subst}
use Rattle.std.specs.Option.{option_map}
use Rattle.std.specs.Prelude.{slice_get}
use Rattle.hy_ir.specs.Places.{body_at, part_at, tree_on}
use Rattle.hy_ir.specs.View.{arm_of, ArmView, arms_in, function_of, part_of, parts_in, tree_of}
use Rattle.hy_ir.specs.Code as c
use Rattle.hy_ir.specs.declared.code.Arm.{Arm}
use Rattle.hy_ir.specs.declared.code.CodeFunction.{CodeFunction}
use Rattle.hy_ir.specs.declared.code.Part.{Part}
use Rattle.hy_ir.specs.declared.place.Turn.{Turn}
use Rattle.hy_ir.proofs.ViewLemmas.{arm_view}

pub part_at_get : (ps : List Part) (k : ℕ)
    → part_at (parts_in (map part_of ps)) k ≡ option_map part_of (slice_get ps k)
part_at_get [] k = refl
part_at_get (p ∷ ps) zero = refl
part_at_get (p ∷ ps) (suc k) = part_at_get ps k

pub body_at_get : (xs : List Arm) (k : ℕ)
    → body_at (arms_in (map arm_of xs)) k
    ≡ option_map (λ (a : Arm). tree_of a.body) (slice_get xs k)
body_at_get [] k = refl
body_at_get (a ∷ xs) zero = ap (λ (v : ArmView). Some v.body) (arm_view a)
body_at_get (a ∷ xs) (suc k) = body_at_get xs k

-- no tree leads to none
pub none_on : (way : List Turn) → tree_on None way ≡ None
none_on [] = refl
none_on (t ∷ way) = none_on way

pub body_get : (fs : List CodeFunction) (k : ℕ)
    → option_map (λ (f : c.Function). f.body) (slice_get (map function_of fs) k)
    ≡ option_map (λ (f : CodeFunction). tree_of f.body) (slice_get fs k)
body_get [] k = refl
body_get (f ∷ fs) zero = refl
body_get (f ∷ fs) (suc k) = body_get fs k

-- a place that leads on does not lead to none
pub no_place : (way : List Turn) (tree : Option c.Tree) → IsSome (tree_on tree way) → tree ≡ None
    → ⊥
no_place way tree some none =
    no_some (subst IsSome (ap (λ (t : Option c.Tree). tree_on t way) none ∙ none_on way) some)
  where
    no_some : false ≡ true → ⊥
    no_some e = cc
