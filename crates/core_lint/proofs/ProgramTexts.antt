-- The modules of a program keep their canonical texts.
use Rattle.std.proofs.Common.{◌≡◌, ℕ, suc, ◌+◌, List, [], ◌∷◌, ◌++◌, length, slice_get, Some, refl}
use Rattle.std.specs.List.{AllZip}
use Rattle.hy_terms.proofs.NamingLemmas.{slice_get-kept}
use Rattle.hy_core.specs.BuiltIn.{own_atoms}
use Rattle.hy_core.specs.Counting.{Counts}
use Rattle.hy_core.specs.NameFaults.{modules_of}
use Rattle.hy_core.specs.Numbered.{function_count, numbered_functions, numbered_given, numbered_modules, numbered_program}
use Rattle.hy_core.specs.Tables.{program_atoms}
use Rattle.hy_core.specs.declared.tree.Module.{Module}
use Rattle.hy_core.specs.declared.tree.Program.{Program}
use Rattle.core_lint.specs.Linted.{KeepsText}
use Rattle.core_lint.proofs.PlacedLemmas.{IsPlaced, all_placed}
use Rattle.core_lint.proofs.TextLemmas.{module_same}

-- each of these modules has its atoms in the table
abbrev ArePlaced : List (List ℕ) → List Module → Type 0
ArePlaced table ms = (i : ℕ) (m : Module) → slice_get ms i ≡ Some m → IsPlaced table m

placed_behind : (table : List (List ℕ)) (ms ns : List Module) → ArePlaced table (ms ++ ns) → ArePlaced table ns
placed_behind table [] ns placed = placed
placed_behind table (m ∷ ms) ns placed = placed_behind table ms ns (λ i n at. placed (suc i) n at)

modules_kept : (table : List (List ℕ)) (ms : List Module) → ArePlaced table ms → (k : ℕ) (counts : Counts) → AllZip (KeepsText table) ms (numbered_modules table k ms counts).0
modules_kept table [] placed k counts = tt
modules_kept table (m ∷ ms) placed k counts =
    (λ own. module_same table m (placed 0 m refl) own k counts, modules_kept table ms (λ i n at. placed (suc i) n at) (k + length m.functions) (numbered_functions table m k m.functions counts).1)

zip_append : {A B : Type 0} (R : A → B → Type 0) (xs us : List A) (ys vs : List B) → AllZip R xs ys → AllZip R us vs → AllZip R (xs ++ us) (ys ++ vs)
zip_append R [] us [] vs h g = g
zip_append R [] us (y ∷ ys) vs h g = absurd h
zip_append R (x ∷ xs) us [] vs h g = absurd h
zip_append R (x ∷ xs) us (y ∷ ys) vs h g = (h.0, zip_append R xs us ys vs h.1 g)

pub texts_kept : (program : Program) → AllZip (KeepsText (program_atoms program)) (modules_of program) (modules_of (numbered_program program))
texts_kept program =
    let table = program_atoms program in
    let placed : ArePlaced table (modules_of program) = λ i m at. all_placed own_atoms (modules_of program) i m at in
    let start : Counts = record { node = 0; local = function_count (modules_of program); sites = [] } in
    zip_append (KeepsText table) program.given program.prelude (numbered_given program).0 (numbered_program program).prelude
    (modules_kept table program.given (λ i m at. placed i m (slice_get-kept program.given program.prelude i m at)) 0 start)
    (modules_kept table program.prelude (placed_behind table program.given program.prelude placed) (function_count program.given) (numbered_given program).1)
