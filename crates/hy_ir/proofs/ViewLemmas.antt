-- Each code tree is one declared tree.
use Rattle.std.proofs.Common.{◌≡◌, ℕ, List, [], ◌∷◌, map, Option, Some, None, refl, ap, sym}
use Rattle.std.proofs.Common.{subst, ◌∙◌}
use Rattle.std.specs.Option.{option_map}
use Rattle.hy_core.specs.declared.class.Class.{Class}
use Rattle.hy_ir.specs.Code as c
use Rattle.hy_ir.specs.View.{ArmView, arm_of, arm_step, arms_in, lapse_in, last_of, last_step}
use Rattle.hy_ir.specs.View.{part_of, part_step, parts_in, tree_of, tree_step}
use Rattle.hy_ir.specs.declared.code.Arm.{Arm}
use Rattle.hy_ir.specs.declared.code.Last.{Last}
use Rattle.hy_ir.specs.declared.code.Last.TheFolds.{fold-roll-Part, fold-roll-Last, fold-roll-Tree}
use Rattle.hy_ir.specs.declared.code.Last.TheFolds.{fold-roll-Arm, fold_out-Tree, fold_out-Arm}
use Rattle.hy_ir.specs.declared.code.Last.TheFolds.{ind-Tree, map-Last, map-Part}
use Rattle.hy_ir.specs.declared.code.Last.TheOpen as layer
use Rattle.hy_ir.specs.declared.code.Last.TheOpen.{Last-F, Part-F}
use Rattle.hy_ir.specs.declared.code.Last.TheVariants as last
use Rattle.hy_ir.specs.declared.code.Last.TheViews.{roll-Arm, roll-Last, roll-Part, roll-Tree}
use Rattle.hy_ir.specs.declared.code.Op.{Op}
use Rattle.hy_ir.specs.declared.code.Part.{Part}
use Rattle.hy_ir.specs.declared.code.Part.TheVariants as part
use Rattle.hy_ir.specs.declared.code.Tree.{Tree}

-- what the folds give at each form

pub tree_view : (t : Tree)
    → tree_of t ≡ c.MakeTree (parts_in (map part_of t.parts)) (last_of t.last)
tree_view t = fold_out-Tree c.Last c.Part ArmView c.Tree last_step part_step arm_step tree_step t

pub arm_view : (a : Arm)
    → arm_of a ≡ record { tests = a.tests; guard = a.guard; body = tree_of a.body }
arm_view a = fold_out-Arm c.Last c.Part ArmView c.Tree last_step part_step arm_step tree_step a

part_at_roll : (x : Part-F Last Part Arm Tree)
    → part_of (roll-Part x)
    ≡ part_step
    (map-Part Last Part Arm Tree c.Last c.Part ArmView c.Tree last_of part_of arm_of tree_of x)
part_at_roll x =
    fold-roll-Part c.Last c.Part ArmView c.Tree last_step part_step arm_step tree_step x

last_at_roll : (x : Last-F Last Part Arm Tree)
    → last_of (roll-Last x)
    ≡ last_step
    (map-Last Last Part Arm Tree c.Last c.Part ArmView c.Tree last_of part_of arm_of tree_of x)
last_at_roll x =
    fold-roll-Last c.Last c.Part ArmView c.Tree last_step part_step arm_step tree_step x

pub do_view : (o : Op) → part_of (part.Do o) ≡ c.Do o
do_view o = ap part_of (sym (part.rolls-Do o)) ∙ part_at_roll (layer.Do o)

pub within_view : (outs : List ℕ) (t : Tree)
    → part_of (part.Within outs t) ≡ c.Within outs (tree_of t)
within_view outs t =
    ap part_of (sym (part.rolls-Within outs t)) ∙ part_at_roll (layer.Within outs t)

pub give_view : (rs : List ℕ) → last_of (last.Give rs) ≡ c.Give rs
give_view rs = ap last_of (sym (last.rolls-Give rs)) ∙ last_at_roll (layer.Give rs)

pub tail_view : (f : ℕ) (args : List ℕ) → last_of (last.Tail f args) ≡ c.Tail f args
tail_view f args = ap last_of (sym (last.rolls-Tail f args)) ∙ last_at_roll (layer.Tail f args)

pub raise_view : (class : Class) (r : ℕ) → last_of (last.Raise class r) ≡ c.Raise class r
raise_view class r =
    ap last_of (sym (last.rolls-Raise class r)) ∙ last_at_roll (layer.Raise class r)

pub fail_view : (r : ℕ) → last_of (last.Fail r) ≡ c.Fail r
fail_view r = ap last_of (sym (last.rolls-Fail r)) ∙ last_at_roll (layer.Fail r)

pub choose_view : (xs : List Arm) → last_of (last.Choose xs) ≡ c.Choose (arms_in (map arm_of xs))
choose_view xs = ap last_of (sym (last.rolls-Choose xs)) ∙ last_at_roll (layer.Choose xs)

pub receive_view : (m : ℕ) (xs : List Arm) (lapse : Option Tree)
    → last_of (last.Receive m xs lapse)
    ≡ c.Receive m (arms_in (map arm_of xs)) (lapse_in (option_map tree_of lapse))
receive_view m xs None =
    ap last_of (sym (last.rolls-Receive m xs None)) ∙ last_at_roll (layer.Receive m xs None)
receive_view m xs (Some t) =
    ap last_of (sym (last.rolls-Receive m xs (Some t)))
    ∙ last_at_roll (layer.Receive m xs (Some t))

-- and back

abbrev mutual
  pub declared_tree : c.Tree → Tree
  declared_tree (c.MakeTree ps end) =
      record { parts = declared_parts ps; last = declared_last end }

  declared_parts : c.Parts → List Part
  declared_parts c.NoParts = []
  declared_parts (c.MoreParts p ps) = declared_part p ∷ declared_parts ps

  declared_part : c.Part → Part
  declared_part (c.Do o) = part.Do o
  declared_part (c.Within outs inner) = part.Within outs (declared_tree inner)

  declared_last : c.Last → Last
  declared_last (c.Give rs) = last.Give rs
  declared_last (c.Tail f args) = last.Tail f args
  declared_last (c.Raise class reason) = last.Raise class reason
  declared_last (c.Fail reason) = last.Fail reason
  declared_last (c.Choose xs) = last.Choose (declared_arms xs)
  declared_last (c.Receive m xs lapse) =
      last.Receive m (declared_arms xs) (declared_lapse lapse)

  declared_arms : c.Arms → List Arm
  declared_arms c.NoArms = []
  declared_arms (c.MoreArms tests guard body xs) =
      record { tests = tests; guard = guard; body = declared_tree body } ∷ declared_arms xs

  declared_lapse : c.Lapse → Option Tree
  declared_lapse c.NoLapse = None
  declared_lapse (c.LapseTo t) = Some (declared_tree t)

mutual
  tree_back : (t : c.Tree) → tree_of (declared_tree t) ≡ t
  tree_back (c.MakeTree ps end) =
      tree_view (record { parts = declared_parts ps; last = declared_last end })
      ∙ (λ i. c.MakeTree (parts_back ps i) (last_back end i))

  parts_back : (ps : c.Parts) → parts_in (map part_of (declared_parts ps)) ≡ ps
  parts_back c.NoParts = refl
  parts_back (c.MoreParts p ps) = λ i. c.MoreParts (part_back p i) (parts_back ps i)

  part_back : (p : c.Part) → part_of (declared_part p) ≡ p
  part_back (c.Do o) = do_view o
  part_back (c.Within outs inner) =
      within_view outs (declared_tree inner) ∙ ap (c.Within outs) (tree_back inner)

  last_back : (end : c.Last) → last_of (declared_last end) ≡ end
  last_back (c.Give rs) = give_view rs
  last_back (c.Tail f args) = tail_view f args
  last_back (c.Raise class reason) = raise_view class reason
  last_back (c.Fail reason) = fail_view reason
  last_back (c.Choose xs) = choose_view (declared_arms xs) ∙ ap c.Choose (arms_back xs)
  last_back (c.Receive m xs lapse) =
      receive_view m (declared_arms xs) (declared_lapse lapse)
      ∙ (λ i. c.Receive m (arms_back xs i) (lapse_back lapse i))

  arms_back : (xs : c.Arms) → arms_in (map arm_of (declared_arms xs)) ≡ xs
  arms_back c.NoArms = refl
  arms_back (c.MoreArms tests guard body xs) =
      let a : Arm = record { tests = tests; guard = guard; body = declared_tree body } in
      let others : c.Arms = arms_in (map arm_of (declared_arms xs)) in
      ap (λ (v : ArmView). c.MoreArms v.tests v.guard v.body others) (arm_view a)
      ∙ (λ i. c.MoreArms tests guard (tree_back body i) (arms_back xs i))

  lapse_back : (l : c.Lapse) → lapse_in (option_map tree_of (declared_lapse l)) ≡ l
  lapse_back c.NoLapse = refl
  lapse_back (c.LapseTo t) = ap c.LapseTo (tree_back t)

pub tree_of-onto : (t : c.Tree) → (x : Tree) × (tree_of x ≡ t)
tree_of-onto t = (declared_tree t, tree_back t)

-- from the declared trees and back

abbrev arm_again : ArmView → Arm
arm_again v = record { tests = v.tests; guard = v.guard; body = declared_tree v.body }

abbrev LastAgain : Last → Type 0
LastAgain x = declared_last (last_of x) ≡ x

abbrev PartAgain : Part → Type 0
PartAgain x = declared_part (part_of x) ≡ x

abbrev ArmAgain : Arm → Type 0
ArmAgain x = arm_again (arm_of x) ≡ x

abbrev TreeAgain : Tree → Type 0
TreeAgain x = declared_tree (tree_of x) ≡ x

abbrev LastItem : Type 0
LastItem = (x : Last) × LastAgain x

abbrev PartItem : Type 0
PartItem = (x : Part) × PartAgain x

abbrev ArmItem : Type 0
ArmItem = (x : Arm) × ArmAgain x

abbrev TreeItem : Type 0
TreeItem = (x : Tree) × TreeAgain x

part_items : (xs : List PartItem)
    → declared_parts (parts_in (map part_of (map (λ x. x.0) xs))) ≡ map (λ x. x.0) xs
part_items [] = refl
part_items (x ∷ xs) = λ i. x.1 i ∷ part_items xs i

arm_items : (xs : List ArmItem)
    → declared_arms (arms_in (map arm_of (map (λ x. x.0) xs))) ≡ map (λ x. x.0) xs
arm_items [] = refl
arm_items (x ∷ xs) = λ i. x.1 i ∷ arm_items xs i

abbrev bare_last : Last-F LastItem PartItem ArmItem TreeItem → Last-F Last Part Arm Tree
bare_last =
    map-Last LastItem PartItem ArmItem TreeItem Last Part Arm Tree (λ x. x.0) (λ x. x.0) (λ x. x.0)
    (λ x. x.0)

abbrev bare_part : Part-F LastItem PartItem ArmItem TreeItem → Part-F Last Part Arm Tree
bare_part =
    map-Part LastItem PartItem ArmItem TreeItem Last Part Arm Tree (λ x. x.0) (λ x. x.0) (λ x. x.0)
    (λ x. x.0)

last_layer : (y : Last-F LastItem PartItem ArmItem TreeItem)
    → declared_last
    (last_step
    (map-Last Last Part Arm Tree c.Last c.Part ArmView c.Tree last_of part_of arm_of tree_of
    (bare_last y)))
    ≡ roll-Last (bare_last y)
last_layer (layer.Give rs) = sym (last.rolls-Give rs)
last_layer (layer.Tail f args) = sym (last.rolls-Tail f args)
last_layer (layer.Raise class reason) = sym (last.rolls-Raise class reason)
last_layer (layer.Fail reason) = sym (last.rolls-Fail reason)
last_layer (layer.Choose xs) =
    ap last.Choose (arm_items xs) ∙ sym (last.rolls-Choose (map (λ x. x.0) xs))
last_layer (layer.Receive m xs None) =
    ap (λ (ys : List Arm). last.Receive m ys None) (arm_items xs)
    ∙ sym (last.rolls-Receive m (map (λ x. x.0) xs) None)
last_layer (layer.Receive m xs (Some t)) =
    (λ i. last.Receive m (arm_items xs i) (Some (t.1 i)))
    ∙ sym (last.rolls-Receive m (map (λ x. x.0) xs) (Some t.0))

part_layer : (y : Part-F LastItem PartItem ArmItem TreeItem)
    → declared_part
    (part_step
    (map-Part Last Part Arm Tree c.Last c.Part ArmView c.Tree last_of part_of arm_of tree_of
    (bare_part y)))
    ≡ roll-Part (bare_part y)
part_layer (layer.Do o) = sym (part.rolls-Do o)
part_layer (layer.Within outs t) =
    ap (part.Within outs) t.1 ∙ sym (part.rolls-Within outs t.0)

tree_again : (x : Tree) → TreeAgain x
tree_again = ind-Tree LastAgain PartAgain ArmAgain TreeAgain
    (λ x y is. subst (λ z. LastAgain (roll-Last z)) is
    (ap declared_last (last_at_roll (bare_last y)) ∙ last_layer y))
    (λ x y is. subst (λ z. PartAgain (roll-Part z)) is
    (ap declared_part (part_at_roll (bare_part y)) ∙ part_layer y))
    (λ x y is. subst (λ z. ArmAgain (roll-Arm z)) is
    (ap arm_again
    (fold-roll-Arm c.Last c.Part ArmView c.Tree last_step part_step arm_step tree_step
    (record { tests = y.tests; guard = y.guard; body = y.body.0 }))
    ∙ (λ i. record { tests = y.tests; guard = y.guard; body = y.body.1 i })))
    (λ x y is. subst (λ z. TreeAgain (roll-Tree z)) is
    (ap declared_tree
    (fold-roll-Tree c.Last c.Part ArmView c.Tree last_step part_step arm_step tree_step
    (record { parts = map (λ x. x.0) y.parts; last = y.last.0 }))
    ∙ (λ i. record { parts = part_items y.parts i; last = y.last.1 i })))

pub tree_of-injective : (x y : Tree) → tree_of x ≡ tree_of y → x ≡ y
tree_of-injective x y h = sym (tree_again x) ∙ ap declared_tree h ∙ tree_again y
