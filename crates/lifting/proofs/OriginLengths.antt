-- A program has as many origins, and as many lists of nodes, as functions.
use Rattle.std.proofs.Common.{◌≡◌, ℕ, zero, suc, ◌+◌, List, [], ◌∷◌, ◌++◌, length, replicate}
use Rattle.std.proofs.Common.{refl, sym, ap, ◌∙◌, arith}
use Rattle.std.proofs.Math.Nat.{zero-add}
use Rattle.std.proofs.lemmas.List.{length-append, length-replicate}
use Rattle.hy_core.specs.Numbered.{function_count}
use Rattle.hy_core.specs.Syntax.{syntax_of}
use Rattle.hy_core.specs.declared.tree.Function.{Function}
use Rattle.hy_core.specs.declared.tree.Module.{Module}
use Rattle.event_nodes.specs.EventNodes.{chosen_from, own_count, own_events, program_nodes}
use Rattle.letrec_names.specs.Origins.{function_origins, functions_origins, modules_origins, upwards}
use Rattle.lifted_syntax.specs.ExtractedSyntax.{count_module}
use Rattle.lifted_syntax.specs.LiftedSyntax.{count}
use Rattle.number_owners.specs.WrittenOwners.{modules_functions, program_written_owners}

upwards_long : (k n : ℕ) → length (upwards k n) ≡ n
upwards_long k zero = refl
upwards_long k (suc n) = ap (λ c. suc c) (upwards_long (suc k) n)

functions_long : (k : ℕ) (fs : List Function) → length (functions_origins k fs) ≡ count_module fs
functions_long k [] = refl
functions_long k (f ∷ fs) =
    let own = count (syntax_of f.body) in
    length-append (replicate own k) (functions_origins (suc k) fs)
    ∙ (λ i. length-replicate own k i + functions_long (suc k) fs i)

count_both : (fs gs : List Function) → count_module (fs ++ gs) ≡ count_module fs + count_module gs
count_both [] gs = sym (zero-add (count_module gs))
count_both (f ∷ fs) gs =
    let rest = count_both fs gs in
    let own = count (syntax_of f.body) in
    omega (arith, rest)

modules_long : (k : ℕ) (ms : List Module)
    → length (modules_origins k ms) ≡ count_module (modules_functions ms)
modules_long k [] = refl
modules_long k (m ∷ ms) =
    length-append (functions_origins k m.functions) (modules_origins (k + length m.functions) ms)
    ∙ (λ i. functions_long k m.functions i + modules_long (k + length m.functions) ms i)
    ∙ sym (count_both m.functions (modules_functions ms))

lists_long : (k n : ℕ) (os ns : List ℕ) → length (chosen_from k n os ns) ≡ n
lists_long k zero os ns = refl
lists_long k (suc n) os ns = ap (λ c. suc c) (lists_long (suc k) n os ns)

pub as_many_origins : (atoms : List (List ℕ)) (ms : List Module)
    → length (function_origins ms) ≡ length (own_events atoms ms)
as_many_origins atoms ms =
    length-append (upwards 0 (function_count ms)) (modules_origins 0 ms)
    ∙ (λ i. upwards_long 0 (function_count ms) i + modules_long 0 ms i)
    ∙ sym (lists_long 0 (own_count ms) (program_written_owners atoms ms) (program_nodes atoms ms))
