-- Parts that are added, as the code trees that they are.
use Rattle.std.proofs.Common.{◌≡◌, ℕ, List, [], ◌∷◌, ◌++◌, map, ap, ◌∙◌}
use Rattle.std.proofs.lemmas.List.{map-append}
use Rattle.hy_ir.proofs.ViewLemmas.{do_view, within_view}
use Rattle.hy_ir.specs.Code as c
use Rattle.hy_ir.specs.View.{part_of, tree_of}
use Rattle.hy_ir.specs.declared.code.Op.{Op}
use Rattle.hy_ir.specs.declared.code.Part.{Part}
use Rattle.hy_ir.specs.declared.code.Part.TheVariants as part
use Rattle.hy_ir.specs.declared.code.Tree.{Tree}

pub done_more : (ps : List Part) (o : Op) → map part_of (ps ++ part.Do o ∷ []) ≡ map part_of ps ++ c.Do o ∷ []
done_more ps o = map-append part_of ps (part.Do o ∷ []) ∙ ap (λ p. map part_of ps ++ p ∷ []) (do_view o)

pub within_more : (ps : List Part) (outs : List ℕ) (t : Tree) → map part_of (ps ++ part.Within outs t ∷ []) ≡ map part_of ps ++ c.Within outs (tree_of t) ∷ []
within_more ps outs t = map-append part_of ps (part.Within outs t ∷ []) ∙ ap (λ p. map part_of ps ++ p ∷ []) (within_view outs t)
