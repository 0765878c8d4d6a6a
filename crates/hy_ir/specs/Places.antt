-- Places in the code trees: a way down from the body of a function, turn by turn, leads to a tree.
-- This project's own.
use Rattle.std.specs.Prelude.{ℕ, zero, suc, List, Option, Some, None, slice_get}
use Rattle.std.specs.List.{fold}
use Rattle.std.specs.Option.{option_map}
use Rattle.hy_ir.specs.Code.{Arms, NoArms, MoreArms, Choose, Code, Function, Lapse, NoLapse}
use Rattle.hy_ir.specs.Code.{LapseTo, Last, MakeTree, Part, Parts, NoParts, MoreParts, Receive}
use Rattle.hy_ir.specs.Code.{Tree, Within}
use Rattle.hy_ir.specs.declared.place.Turn.{Turn}
use Rattle.hy_ir.specs.declared.place.Turn.TheVariants as turn

-- the part and the arm at a place, counted from 0

abbrev pub part_at : Parts → ℕ → Option Part
part_at NoParts place = None
part_at (MoreParts p ps) zero = Some p
part_at (MoreParts p ps) (suc place) = part_at ps place

abbrev pub body_at : Arms → ℕ → Option Tree
body_at NoArms place = None
body_at (MoreArms tests guard body xs) zero = Some body
body_at (MoreArms tests guard body xs) (suc place) = body_at xs place

abbrev pub inner_of : Option Part → Option Tree
inner_of (Some (Within outs inner)) = Some inner
inner_of _ = None

abbrev pub lapse_of : Lapse → Option Tree
lapse_of NoLapse = None
lapse_of (LapseTo t) = Some t

-- the tree behind the body of an arm, and behind a lapse

abbrev pub arm_of_last : Last → ℕ → Option Tree
arm_of_last (Choose xs) place = body_at xs place
arm_of_last (Receive message xs lapse) place = body_at xs place
arm_of_last _ place = None

abbrev pub lapse_of_last : Last → Option Tree
lapse_of_last (Receive message xs lapse) = lapse_of lapse
lapse_of_last _ = None

-- the tree behind one turn
abbrev pub tree_behind : Tree → Turn → Option Tree
tree_behind (MakeTree ps end) (turn.Part place) = inner_of (part_at ps place)
tree_behind (MakeTree ps end) (turn.Arm place) = arm_of_last end place
tree_behind (MakeTree ps end) turn.Lapse = lapse_of_last end

abbrev pub turned : Option Tree → Turn → Option Tree
turned None t = None
turned (Some tree) t = tree_behind tree t

-- the tree at the end of a way
abbrev pub tree_on : Option Tree → List Turn → Option Tree
tree_on tree way = fold turned tree way

-- the tree at a place of the code
abbrev pub tree_of_place : Code → (function : ℕ) → List Turn → Option Tree
tree_of_place code function way =
    tree_on (option_map (λ (f : Function). f.body) (slice_get code.functions function)) way
