-- The function of a module around each function of a program. This project's own.
use Rattle.std.specs.Prelude.{ℕ, zero, suc, ◌+◌, List, [], ◌∷◌, ◌++◌, length, replicate}
use Rattle.hy_core.specs.Numbered.{function_count}
use Rattle.hy_core.specs.Syntax.{syntax_of}
use Rattle.hy_core.specs.declared.tree.Function.{Function}
use Rattle.hy_core.specs.declared.tree.Module.{Module}
use Rattle.lifted_syntax.specs.LiftedSyntax.{count}

-- so many numbers, of which the first is k
abbrev pub upwards : (k many : ℕ) → List ℕ
upwards k zero = []
upwards k (suc many) = k ∷ upwards (suc k) many

-- those of the functions of letrecs in functions of modules, of which the first has the number k
abbrev pub functions_origins : (k : ℕ) → List Function → List ℕ
functions_origins k [] = []
functions_origins k (f ∷ fs) =
    replicate (count (syntax_of f.body)) k ++ functions_origins (suc k) fs

abbrev pub modules_origins : (k : ℕ) → List Module → List ℕ
modules_origins k [] = []
modules_origins k (m ∷ ms) =
    functions_origins k m.functions ++ modules_origins (k + length m.functions) ms

-- those of a program: a function of a module has its own number
abbrev pub function_origins : List Module → List ℕ
function_origins ms = upwards 0 (function_count ms) ++ modules_origins 0 ms
