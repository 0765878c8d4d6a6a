use Rattle.std.proofs.Common.{◌≡◌, ◌∙◌, get_or, ℕ, suc, ◌+◌, ◌<◌, List, [], ◌∷◌, ◌++◌, length, take, arith, sym, ap, subst}
use Rattle.std.specs.List.{AllByRecursion, AllZip}
use Rattle.std.proofs.Math.Seq.{take-suc}
use Rattle.hy_core.specs.Reading.{IsModuleText}
use Rattle.hy_core.specs.declared.tree.Module.{Module}
use Rattle.core_lint.specs.Linted.{IsOfText}

-- a pair more at the end
zip_last : {A B : Type 0} (R : A → B → Type 0) (xs : List A) (ys : List B) (x : A) (y : B) →
    AllZip R xs ys → R x y → AllZip R (xs ++ x ∷ []) (ys ++ y ∷ [])
zip_last R [] [] x y all it = (it, tt)
zip_last R [] (v ∷ vs) x y all it = absurd all
zip_last R (u ∷ us) [] x y all it = absurd all
zip_last R (u ∷ us) (v ∷ vs) x y all it = (all.0, zip_last R us vs x y all.1 it)

-- a module more is that of the text at the next place
pub read_next : (texts : List (List ℕ)) (i : ℕ) (zs items : List Module) (text : List ℕ) (z : Module) →
    i < length texts → text ≡ get_or texts i text → AllZip IsModuleText (take i texts) zs →
    IsModuleText text z → items ≡ zs ++ z ∷ [] →
    AllZip IsModuleText (take (i + 1) texts) items
read_next texts i zs items text z below there read one is =
    let next : suc i ≡ i + 1 = omega arith in
    let front : take (suc i) texts ≡ take i texts ++ text ∷ [] =
    take-suc texts i text below ∙ ap (λ (t : List ℕ). take i texts ++ t ∷ []) (sym there) in
    subst (λ (k : ℕ). AllZip IsModuleText (take k texts) items) next
    (subst (λ (ys : List Module). AllZip IsModuleText (take (suc i) texts) ys) (sym is)
    (subst (λ (xs : List (List ℕ)). AllZip IsModuleText xs (zs ++ z ∷ [])) (sym front)
    (zip_last IsModuleText (take i texts) zs text z read one)))

-- each of these modules is that of a text
pub each_of_text : (texts : List (List ℕ)) (zs : List Module) → AllZip IsModuleText texts zs →
    AllByRecursion IsOfText zs
each_of_text [] [] all = tt
each_of_text [] (z ∷ zs) all = absurd all
each_of_text (text ∷ texts) [] all = absurd all
each_of_text (text ∷ texts) (z ∷ zs) all = ((text, all.0), each_of_text texts zs all.1)
