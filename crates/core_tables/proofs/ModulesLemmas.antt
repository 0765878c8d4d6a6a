-- Modules that are numbered one after another.
use Rattle.std.proofs.Common.{◌≡◌, ℕ, ◌+◌, List, [], ◌∷◌, ◌++◌, ◌∙◌, arith}
use Rattle.hy_core.specs.Counting.{Counts}
use Rattle.hy_core.specs.NameFaults.{modules_of}
use Rattle.hy_core.specs.Numbered.{function_count, numbered_modules, numbered_given, numbered_program, program_sites}
use Rattle.hy_core.specs.Tables.{program_atoms}
use Rattle.hy_core.specs.declared.tree.Module.{Module}
use Rattle.hy_core.specs.declared.tree.Program.{Program}

-- what is made, and behind it what follows
abbrev pub behind_these : {A : Type 0} → List A → List A × Counts → List A × Counts
behind_these xs more = (xs ++ more.0, more.1)

pub function_count-append : (ms ns : List Module) → function_count (ms ++ ns) ≡ function_count ms + function_count ns
function_count-append [] ns = omega arith
function_count-append (m ∷ ms) ns = omega (arith, function_count-append ms ns)

-- a program whose modules are numbered
pub program-made : (table : List (List ℕ)) (program : Program) (c0 c1 c2 n0 n1 : ℕ) (first middle last : Counts) (given prelude : List Module) → table ≡ program_atoms program
    → c0 ≡ 0 → c1 ≡ c0 + function_count program.given → c2 ≡ c1 + function_count program.prelude → first ≡ record { node = 0; local = c2; sites = [] }
    → n0 ≡ 0 → (given, middle) ≡ numbered_modules table n0 program.given first → n1 ≡ n0 + function_count program.given → (prelude, last) ≡ numbered_modules table n1 program.prelude middle
    → (record { given = given; prelude = prelude } ≡ numbered_program program) × (last.sites ≡ program_sites program)
program-made table program c0 c1 c2 n0 n1 first middle last given prelude is z0 z1 z2 is_first zn p zm q =
    let local : c2 ≡ function_count (modules_of program) = omega (arith, z0, z1, z2, function_count-append program.given program.prelude) in
    let start : first ≡ record { node = 0; local = function_count (modules_of program); sites = [] } = is_first ∙ (λ i. record { node = 0; local = local i; sites = [] }) in
    let given-made : (given, middle) ≡ numbered_given program = p ∙ (λ i. numbered_modules (is i) (zn i) program.given (start i)) in
    let next : n1 ≡ function_count program.given = omega (arith, zn, zm) in
    let prelude-made = q ∙ (λ i. numbered_modules (is i) (next i) program.prelude (given-made i).1) in
    (λ i. record { given = (given-made i).0; prelude = (prelude-made i).0 }, λ i. (prelude-made i).1.sites)
