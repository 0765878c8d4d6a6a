-- The functions of a program, by its given modules and its prelude.
use Rattle.std.proofs.Common.{◌≡◌, ℕ, List, [], ◌∷◌, ◌++◌, length, map, replicate, refl, sym, ap, ◌∙◌, append_assoc}
use Rattle.hy_core.specs.NameFaults.{modules_of}
use Rattle.hy_core.specs.SubPatterns.{joined}
use Rattle.hy_core.specs.Tables.{info_of, local_functions, local_infos, program_atoms, program_functions, top_infos}
use Rattle.hy_core.specs.declared.info.FunInfo.{FunInfo}
use Rattle.hy_core.specs.declared.tree.Module.{Module}
use Rattle.hy_core.specs.declared.tree.Program.{Program}

top_infos-append : (t : List (List ℕ)) (ms ns : List Module) → top_infos t (ms ++ ns) ≡ top_infos t ms ++ top_infos t ns
top_infos-append t [] ns = refl
top_infos-append t (m ∷ ms) ns = ap (λ infos. map (info_of t m) m.functions ++ infos) (top_infos-append t ms ns) ∙ sym (append_assoc (map (info_of t m) m.functions) (top_infos t ms) (top_infos t ns))

local_infos-append : (t : List (List ℕ)) (ms ns : List Module) → local_infos t (ms ++ ns) ≡ local_infos t ms ++ local_infos t ns
local_infos-append t [] ns = refl
local_infos-append t (m ∷ ms) ns =
    let first = joined (map (λ f. replicate (length (local_functions f)) (info_of t m f)) m.functions) in
    ap (λ infos. first ++ infos) (local_infos-append t ms ns) ∙ sym (append_assoc first (local_infos t ms) (local_infos t ns))

pub all_infos : (t : List (List ℕ)) (program : Program) (g p h q : List Module) (n a b d e : List FunInfo) → t ≡ program_atoms program
    → g ≡ program.given → p ≡ program.prelude → h ≡ program.given → q ≡ program.prelude → n ≡ []
    → a ≡ n ++ top_infos t g → b ≡ a ++ top_infos t p → d ≡ b ++ local_infos t h → e ≡ d ++ local_infos t q → e ≡ program_functions program
all_infos t program g p h q n a b d e is is_g is_p is_h is_q is_n is_a is_b is_d is_e =
    let given = program.given in
    let prelude = program.prelude in
    let first : a ≡ top_infos t given = is_a ∙ (λ i. is_n i ++ top_infos t (is_g i)) in
    let tops : b ≡ top_infos t given ++ top_infos t prelude = is_b ∙ (λ i. first i ++ top_infos t (is_p i)) in
    let more : d ≡ (top_infos t given ++ top_infos t prelude) ++ local_infos t given = is_d ∙ (λ i. tops i ++ local_infos t (is_h i)) in
    is_e
    ∙ (λ i. more i ++ local_infos t (is_q i))
    ∙ append_assoc (top_infos t given ++ top_infos t prelude) (local_infos t given) (local_infos t prelude)
    ∙ (λ i. sym (top_infos-append t given prelude) i ++ sym (local_infos-append t given prelude) i)
    ∙ ap (λ t. top_infos t (modules_of program) ++ local_infos t (modules_of program)) is
