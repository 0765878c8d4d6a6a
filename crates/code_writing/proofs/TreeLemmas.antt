-- Trees of declared parts, as the code trees that they are.
use Rattle.std.proofs.Common.{◌≡◌, ℕ, List, [], ◌∷◌, ◌++◌, map, ap, ◌∙◌}
use Rattle.std.proofs.lemmas.List.{map-append}
use Rattle.hy_ir.proofs.ViewLemmas.{arm_view, give_view, tree_view}
use Rattle.hy_ir.specs.Code as c
use Rattle.hy_ir.specs.View.{arm_of, last_of, part_of, parts_in, tree_of}
use Rattle.hy_ir.specs.declared.code.Arm.{Arm}
use Rattle.hy_ir.specs.declared.code.Guard.{Guard}
use Rattle.hy_ir.specs.declared.code.Last.{Last}
use Rattle.hy_ir.specs.declared.code.Last.TheVariants as last
use Rattle.hy_ir.specs.declared.code.Part.{Part}
use Rattle.hy_ir.specs.declared.code.Test.{Test}
use Rattle.hy_ir.specs.declared.code.Tree.{Tree}

abbrev tree_with : List Part → Last → Tree
tree_with ps end = record { parts = ps; last = end }

pub tree_is : (ps : List Part) (end : Last) → tree_of (tree_with ps end) ≡ c.MakeTree (parts_in (map part_of ps)) (last_of end)
tree_is ps end = tree_view (tree_with ps end)

pub given_tree : (ps : List Part) (rs : List ℕ) → tree_of (tree_with ps (last.Give rs)) ≡ c.MakeTree (parts_in (map part_of ps)) (c.Give rs)
given_tree ps rs = tree_is ps (last.Give rs) ∙ ap (c.MakeTree (parts_in (map part_of ps))) (give_view rs)

pub arm_more : (xs : List Arm) (tests : List Test) (guard : Guard) (body : Tree) → map arm_of (xs ++ record { tests = tests; guard = guard; body = body } ∷ []) ≡ map arm_of xs ++ record { tests = tests; guard = guard; body = tree_of body } ∷ []
arm_more xs tests guard body =
    let a : Arm = record { tests = tests; guard = guard; body = body } in
    map-append arm_of xs (a ∷ []) ∙ ap (λ v. map arm_of xs ++ v ∷ []) (arm_view a)
