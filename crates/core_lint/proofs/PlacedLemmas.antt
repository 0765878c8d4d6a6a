-- The texts of a module's atoms stand in the program's table.
use Rattle.std.proofs.Common.{◌≡◌, ℕ, zero, suc, ◌<◌, List, [], ◌∷◌, length, slice_get, Some, unwrap_or, sym, ap, ◌∙◌, subst}
use Rattle.hy_terms.specs.Naming.{named, place_in, text_of}
use Rattle.hy_terms.proofs.NamingLemmas.{named-Names, place_in-kept, slice_get-place_in, slice_get-within}
use Rattle.hy_core.specs.Tables.{renamed, with_modules, with_texts}
use Rattle.hy_core.specs.declared.tree.Module.{Module}

-- the text has a place in the table
abbrev Stands : List (List ℕ) → List ℕ → Type 0
Stands table text = (k : ℕ) × (place_in table text ≡ Some k)

stands-named : (table : List (List ℕ)) (text other : List ℕ) → Stands table text → Stands (named table other).1 text
stands-named table text other h =
    let names = named-Names table other in
    (h.0, ap (λ t. place_in t text) names.extends ∙ place_in-kept table names.more text h.0 h.1)

stands-kept : (table texts : List (List ℕ)) (text : List ℕ) → Stands table text → Stands (with_texts table texts) text
stands-kept table [] text h = h
stands-kept table (other ∷ texts) text h = stands-kept (named table other).1 texts text (stands-named table text other h)

stands-in : (table texts : List (List ℕ)) (j : ℕ) (text : List ℕ) → slice_get texts j ≡ Some text → Stands (with_texts table texts) text
stands-in table [] j text at = absurd cc
stands-in table (other ∷ texts) zero text at =
    let same : other ≡ text = cc in
    stands-kept (named table other).1 texts text (subst (λ t. Stands (named table other).1 t) same ((named table other).0, (named-Names table other).found))
stands-in table (other ∷ texts) (suc j) text at = stands-in (named table other).1 texts j text at

stands-kept_all : (table : List (List ℕ)) (ms : List Module) (text : List ℕ) → Stands table text → Stands (with_modules table ms) text
stands-kept_all table [] text h = h
stands-kept_all table (m ∷ ms) text h = stands-kept_all (with_texts table m.atoms) ms text (stands-kept table m.atoms text h)

stands-in_all : (table : List (List ℕ)) (ms : List Module) (i : ℕ) (m : Module) (j : ℕ) (text : List ℕ) → slice_get ms i ≡ Some m → slice_get m.atoms j ≡ Some text → Stands (with_modules table ms) text
stands-in_all table [] i m j text here at = absurd cc
stands-in_all table (n ∷ ms) zero m j text here at =
    let same : m ≡ n = cc in
    stands-kept_all (with_texts table n.atoms) ms text (stands-in table n.atoms j text (subst (λ (k : Module). slice_get k.atoms j ≡ Some text) same at))
stands-in_all table (n ∷ ms) (suc i) m j text here at = stands-in_all (with_texts table n.atoms) ms i m j text here at

-- each atom of the module's table has the same text in this one
abbrev pub IsPlaced : List (List ℕ) → Module → Type 0
IsPlaced table m = (a : ℕ) → a < length m.atoms → text_of table (renamed table m a) ≡ text_of m.atoms a

-- the table that modules make has the atoms of each
pub all_placed : (table : List (List ℕ)) (ms : List Module) (i : ℕ) (m : Module) → slice_get ms i ≡ Some m → IsPlaced (with_modules table ms) m
all_placed table ms i m here a below =
    let all = with_modules table ms in
    let own = slice_get-within m.atoms a below in
    let text : text_of m.atoms a ≡ own.0 = ap (λ o. unwrap_or o []) own.1 in
    let stands = stands-in_all table ms i m a own.0 here own.1 in
    let number : renamed all m a ≡ stands.0 = ap (λ t. unwrap_or (place_in all t) 0) text ∙ ap (λ o. unwrap_or o 0) stands.1 in
    ap (text_of all) number ∙ ap (λ o. unwrap_or o []) (slice_get-place_in all own.0 stands.0 stands.1) ∙ sym text
