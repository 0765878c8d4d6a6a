-- A program's table of atoms has the texts of its modules, and begins with its own.
use Rattle.std.proofs.Common.{◌≡◌, ℕ, suc, zero, List, [], ◌∷◌, sym, ap, subst, ◌∙◌}
use Rattle.std.specs.Prelude.{unwrap_or}
use Rattle.hy_terms.specs.Naming.{named, place_in}
use Rattle.hy_terms.proofs.NamingLemmas.{named-Names, place_in-Some, slice_get-named, slice_get-place_in}
use Rattle.hy_core.specs.BuiltIn.{own_atoms}
use Rattle.hy_core.specs.NameFaults.{modules_of}
use Rattle.hy_core.specs.Tables.{program_atoms, renamed, with_modules, with_texts}
use Rattle.hy_core.specs.declared.tree.Module.{Module}
use Rattle.hy_core.specs.declared.tree.Program.{Program}
use Rattle.hybrid_run.specs.Built.{HasText}

-- a text keeps its place
kept_texts : (table texts : List (List ℕ)) (a : ℕ) (text : List ℕ) → HasText table a text → HasText (with_texts table texts) a text
kept_texts table [] a text h = h
kept_texts table (t ∷ ts) a text h = kept_texts (named table t).1 ts a text (slice_get-named table t a text h)

kept_modules : (table : List (List ℕ)) (ms : List Module) (a : ℕ) (text : List ℕ) → HasText table a text → HasText (with_modules table ms) a text
kept_modules table [] a text h = h
kept_modules table (m ∷ ms) a text h = kept_modules (with_texts table m.atoms) ms a text (kept_texts table m.atoms a text h)

-- the own atoms have their numbers in each program
pub own_text : (program : Program) (a : ℕ) (text : List ℕ) → HasText own_atoms a text → HasText (program_atoms program) a text
own_text program a text h = kept_modules own_atoms (modules_of program) a text h

-- a text that is named is in the table
found_texts : (table texts : List (List ℕ)) (a : ℕ) (text : List ℕ) → HasText texts a text → (k : ℕ) × HasText (with_texts table texts) k text
found_texts table [] a text h = absurd cc
found_texts table (t ∷ ts) zero text h =
    let same : t ≡ text = cc in
    let names = named-Names table t in
    ((named table t).0, kept_texts (named table t).1 ts (named table t).0 text (subst (λ (k : List ℕ). HasText (named table t).1 (named table t).0 k) same names.stands))
found_texts table (t ∷ ts) (suc a) text h = found_texts (named table t).1 ts a text h

-- and stands at the place by which it is renamed
place_found : (table : List (List ℕ)) (m : Module) (a k : ℕ) (text : List ℕ) → HasText m.atoms a text → HasText table k text → HasText table (renamed table m a) text
place_found table m a k text h there =
    let place = place_in-Some table text k there in
    let is : renamed table m a ≡ place.0 = ap (λ o. unwrap_or (place_in table (unwrap_or o [])) 0) h ∙ ap (λ o. unwrap_or o 0) place.1 in
    subst (λ (n : ℕ). HasText table n text) (sym is) (slice_get-place_in table text place.0 place.1)

-- the first module's atoms have their texts in the table of the program
pub renamed_text : (program : Program) (z : Module) (ms : List Module) → modules_of program ≡ z ∷ ms → (a : ℕ) (text : List ℕ) → HasText z.atoms a text
    → HasText (program_atoms program) (renamed (program_atoms program) z a) text
renamed_text program z ms first a text h =
    let found = found_texts own_atoms z.atoms a text h in
    let there : HasText (with_modules own_atoms (z ∷ ms)) found.0 text = kept_modules (with_texts own_atoms z.atoms) ms found.0 text found.1 in
    place_found (program_atoms program) z a found.0 text h (subst (λ (ns : List Module). HasText (with_modules own_atoms ns) found.0 text) (sym first) there)
