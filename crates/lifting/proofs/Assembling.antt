-- What functions have that are made of their origins, texts and nodes.
use Rattle.std.proofs.Common.{◌≡◌, ℕ, suc, List, [], ◌∷◌, ◌++◌, length, map, reverse}
use Rattle.std.proofs.Common.{refl, sym, ap, ◌∙◌, append-nil}
use Rattle.std.specs.List.{AllByRecursion}
use Rattle.hy_core.specs.Resolved.{FunctionTree}
use Rattle.hy_core.specs.declared.info.SiteInfo.{SiteInfo}
use Rattle.lifted_functions.specs.Texts.{text_syntax, texts}
use Rattle.lifted_functions.specs.declared.lifted_text.LiftedText.{LiftedText}
use Rattle.lifted_numbers.specs.NumberLaws.{HaveNumbers, lifted_texts}
use Rattle.lifted_numbers.specs.TreeNumbers.{HasHeads, numbers}
use Rattle.lifted_syntax.specs.declared.lifted.LiftedFunction.{LiftedFunction}
use Rattle.number_owners.specs.SiteLaws.{HaveOwnSites}
use Rattle.lifting.specs.Assembled.{assembled}

abbrev pub events_in : FunctionTree → List ℕ
events_in t = (numbers t.body).events

-- the three lists have one function each
pub record AreAlike (os : List ℕ) (ts : List LiftedText) (ns : List (List ℕ)) : Type 0 where
  pub origins : length os ≡ length ns
  pub texts : length ts ≡ length ns

alike_rest : (o : ℕ) (os : List ℕ) (t : LiftedText) (ts : List LiftedText) (n : List ℕ)
    (ns : List (List ℕ)) → AreAlike (o ∷ os) (t ∷ ts) (n ∷ ns) → AreAlike os ts ns
alike_rest o os t ts n ns h = record { origins = cc h.origins; texts = cc h.texts }

pub have_texts : (os : List ℕ) (ts : List LiftedText) (ns : List (List ℕ)) → AreAlike os ts ns
    → lifted_texts (assembled os ts ns) ≡ texts ts
have_texts [] [] ns h = refl
have_texts [] (t ∷ ts) [] h = absurd (cc h.texts)
have_texts [] (t ∷ ts) (n ∷ ns) h = absurd (cc h.origins)
have_texts (o ∷ os) [] ns h = refl
have_texts (o ∷ os) (t ∷ ts) [] h = absurd (cc h.origins)
have_texts (o ∷ os) (t ∷ ts) (n ∷ ns) h =
    ap (λ rest. text_syntax t ∷ rest)
    (have_texts os ts ns (alike_rest o os t ts n ns h))

pub have_nodes : (os : List ℕ) (ts : List LiftedText) (ns : List (List ℕ)) → AreAlike os ts ns
    → map (λ f. f.nodes) (assembled os ts ns) ≡ ns
have_nodes [] ts [] h = refl
have_nodes [] ts (n ∷ ns) h = absurd (cc h.origins)
have_nodes (o ∷ os) ts [] h = absurd (cc h.origins)
have_nodes (o ∷ os) [] (n ∷ ns) h = absurd (cc h.texts)
have_nodes (o ∷ os) (t ∷ ts) (n ∷ ns) h =
    ap (λ rest. n ∷ rest) (have_nodes os ts ns (alike_rest o os t ts n ns h))

pub have_origins : (os : List ℕ) (ts : List LiftedText) (ns : List (List ℕ)) → AreAlike os ts ns
    → map (λ f. f.origin) (assembled os ts ns) ≡ os
have_origins [] ts ns h = refl
have_origins (o ∷ os) ts [] h = absurd (cc h.origins)
have_origins (o ∷ os) [] (n ∷ ns) h = absurd (cc h.texts)
have_origins (o ∷ os) (t ∷ ts) (n ∷ ns) h =
    ap (λ rest. o ∷ rest) (have_origins os ts ns (alike_rest o os t ts n ns h))

-- functions with the nodes of these trees have their numbers
pub have_numbers : (sites : List SiteInfo) (k : ℕ) (fs : List LiftedFunction) (ts : List FunctionTree)
    → map (λ f. f.nodes) fs ≡ map events_in ts → AllByRecursion (λ t. HasHeads t.body) ts
    → HaveOwnSites sites k ts → HaveNumbers sites k fs ts
have_numbers sites k [] [] same heads own = tt
have_numbers sites k [] (t ∷ ts) same heads own = absurd (cc same)
have_numbers sites k (f ∷ fs) [] same heads own = absurd (cc same)
have_numbers sites k (f ∷ fs) (t ∷ ts) same heads own =
    let first : f.nodes ≡ events_in t = cc same in
    let rest : map (λ f. f.nodes) fs ≡ map events_in ts = cc same in
    (heads.0, first, own.0, have_numbers sites (suc k) fs ts rest heads.1 own.1)

-- the functions so far are all, where there is no text left, or no list of nodes
pub no_text_left : (os : List ℕ) (ts : List LiftedText) (ns : List (List ℕ))
    (fs all : List LiftedFunction) → ts ≡ []
    → fs ++ assembled os (reverse ts) (reverse ns) ≡ all → fs ≡ all
no_text_left os ts ns fs all none same =
    sym (append-nil fs) ∙ ap (λ l. fs ++ l) (sym (nothing os (reverse ns)))
    ∙ ap (λ l. fs ++ assembled os (reverse l) (reverse ns)) (sym none) ∙ same
  where
    nothing : (os : List ℕ) (ns : List (List ℕ)) → assembled os [] ns ≡ []
    nothing [] ns = refl
    nothing (o ∷ os) ns = refl

pub no_nodes_left : (os : List ℕ) (ts : List LiftedText) (ns : List (List ℕ))
    (fs all : List LiftedFunction) → ns ≡ []
    → fs ++ assembled os (reverse ts) (reverse ns) ≡ all → fs ≡ all
no_nodes_left os ts ns fs all none same =
    sym (append-nil fs) ∙ ap (λ l. fs ++ l) (sym (nothing os (reverse ts)))
    ∙ ap (λ l. fs ++ assembled os (reverse ts) (reverse l)) (sym none) ∙ same
  where
    nothing : (os : List ℕ) (ts : List LiftedText) → assembled os ts [] ≡ []
    nothing [] ts = refl
    nothing (o ∷ os) [] = refl
    nothing (o ∷ os) (t ∷ ts) = refl
