-- The labelled terms of the definitions are the declared ones.
use Rattle.std.proofs.Common.{◌≡◌, List, [], ◌∷◌, map, refl, ap, sym, subst, ◌∙◌}
use Rattle.hy_terms.specs.Labelled.{Labelled, Int, Atom, Pid, Nil, Cons, Tuple, Labels, NoLabels, MoreLabels, labels_of, labelled_step, labelled_of}
use Rattle.hy_terms.specs.declared.term.Labelled.{Labelled as DeclaredLabelled}
use Rattle.hy_terms.specs.declared.term.Labelled.TheOpen as declared
use Rattle.hy_terms.specs.declared.term.Labelled.TheViews.{roll-Labelled}
use Rattle.hy_terms.specs.declared.term.Labelled.TheFolds.{fold-roll-Labelled, ind-Labelled, map-Labelled}

-- the step at a layer of declared parts
at_layer : (x : declared.Labelled-F DeclaredLabelled) → labelled_of (roll-Labelled x) ≡ labelled_step (map-Labelled DeclaredLabelled Labelled labelled_of x)
at_layer x = fold-roll-Labelled Labelled labelled_step x

abbrev mutual
  declared_of : Labelled → DeclaredLabelled
  declared_of (Int n) = roll-Labelled (declared.Int n)
  declared_of (Atom atom) = roll-Labelled (declared.Atom atom)
  declared_of (Pid pid) = roll-Labelled (declared.Pid pid)
  declared_of Nil = roll-Labelled declared.Nil
  declared_of (Cons site colour head tail) = roll-Labelled (declared.Cons site colour (declared_of head) (declared_of tail))
  declared_of (Tuple site colour parts) = roll-Labelled (declared.Tuple site colour (all_declared parts))

  all_declared : Labels → List DeclaredLabelled
  all_declared NoLabels = []
  all_declared (MoreLabels t ts) = declared_of t ∷ all_declared ts

mutual
  labelled_of-declared_of : (t : Labelled) → labelled_of (declared_of t) ≡ t
  labelled_of-declared_of (Int n) = at_layer (declared.Int n)
  labelled_of-declared_of (Atom atom) = at_layer (declared.Atom atom)
  labelled_of-declared_of (Pid pid) = at_layer (declared.Pid pid)
  labelled_of-declared_of Nil = at_layer declared.Nil
  labelled_of-declared_of (Cons site colour head tail) =
      at_layer (declared.Cons site colour (declared_of head) (declared_of tail))
      ∙ (λ i. Cons site colour (labelled_of-declared_of head i) (labelled_of-declared_of tail i))
  labelled_of-declared_of (Tuple site colour parts) =
      at_layer (declared.Tuple site colour (all_declared parts)) ∙ ap (Tuple site colour) (labels_of-all_declared parts)

  labels_of-all_declared : (ts : Labels) → labels_of (map labelled_of (all_declared ts)) ≡ ts
  labels_of-all_declared NoLabels = refl
  labels_of-all_declared (MoreLabels t ts) = λ i. MoreLabels (labelled_of-declared_of t i) (labels_of-all_declared ts i)

-- each labelled term is a declared one
pub labelled_of-onto : (t : Labelled) → (x : DeclaredLabelled) × (labelled_of x ≡ t)
labelled_of-onto t = (declared_of t, labelled_of-declared_of t)

abbrev ComesBack : DeclaredLabelled → Type 0
ComesBack x = declared_of (labelled_of x) ≡ x

abbrev Back : Type 0
Back = (x : DeclaredLabelled) × ComesBack x

come_back : (xs : List Back) → all_declared (labels_of (map labelled_of (map (λ e. e.0) xs))) ≡ map (λ e. e.0) xs
come_back [] = refl
come_back (x ∷ xs) = λ i. x.1 i ∷ come_back xs i

comes_back_at : (x : declared.Labelled-F Back) → ComesBack (roll-Labelled (map-Labelled Back DeclaredLabelled (λ e. e.0) x))
comes_back_at (declared.Int n) = ap declared_of (at_layer (declared.Int n))
comes_back_at (declared.Atom atom) = ap declared_of (at_layer (declared.Atom atom))
comes_back_at (declared.Pid pid) = ap declared_of (at_layer (declared.Pid pid))
comes_back_at declared.Nil = ap declared_of (at_layer declared.Nil)
comes_back_at (declared.Cons site colour head tail) =
    ap declared_of (at_layer (declared.Cons site colour head.0 tail.0)) ∙ (λ i. roll-Labelled (declared.Cons site colour (head.1 i) (tail.1 i)))
comes_back_at (declared.Tuple site colour xs) =
    ap declared_of (at_layer (declared.Tuple site colour (map (λ e. e.0) xs)))
    ∙ ap (λ (ys : List DeclaredLabelled). roll-Labelled (declared.Tuple site colour ys)) (come_back xs)

comes_back : (x : DeclaredLabelled) → ComesBack x
comes_back = ind-Labelled ComesBack (λ x y is. subst (λ z. ComesBack (roll-Labelled z)) is (comes_back_at y))

-- and two declared ones that are one labelled term are the same
pub labelled_of-injective : (x y : DeclaredLabelled) → labelled_of x ≡ labelled_of y → x ≡ y
labelled_of-injective x y e = sym (comes_back x) ∙ ap declared_of e ∙ comes_back y
