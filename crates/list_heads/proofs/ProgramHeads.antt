-- Of a program that is read no list notation is empty.
use Rattle.std.proofs.Common.{◌+◌, ℕ, suc, List, [], ◌∷◌, ◌++◌, length, sym, subst, arith}
use Rattle.std.specs.List.{AllByRecursion}
use Rattle.hy_core.specs.Counting.{Counts}
use Rattle.hy_core.specs.FullRun.{names_of, sites_of, trees_of}
use Rattle.hy_core.specs.NameFaults.{modules_of}
use Rattle.hy_core.specs.Numbered.{function_count, numbered, numbered_functions, numbered_given}
use Rattle.hy_core.specs.Numbered.{numbered_modules, numbered_prelude}
use Rattle.hy_core.specs.PreludeModules.{prelude_modules, with_prelude}
use Rattle.hy_core.specs.ProgramTrees.{functions_from, modules_from, resolved, supply_of}
use Rattle.hy_core.specs.Resolve.{Names}
use Rattle.hy_core.specs.Syntax.{Syntax, syntax_of, tree}
use Rattle.hy_core.specs.Tables.{program_atoms}
use Rattle.hy_core.specs.declared.tree.Function.{Function}
use Rattle.hy_core.specs.declared.tree.Module.{Module}
use Rattle.hy_core.proofs.SyntaxLemmas.{syntax_back}
use Rattle.core_accepted.proofs.PreludeFine.{erlang_append, lists_append, lists_reverse_one}
use Rattle.core_accepted.proofs.PreludeFine.{lists_reverse_two}
use Rattle.list_heads.specs.HeadLaws.{AreOfTexts, FunctionsHaveHeads, ReadHaveHeads}
use Rattle.list_heads.proofs.WrittenHeads.{HasHeads}
use Rattle.list_heads.proofs.GrammarHeads.{FunctionsHave, Has, text_has}
use Rattle.list_heads.proofs.NumberedHeads.{numbered_has}
use Rattle.list_heads.proofs.ResolvedHeads.{resolved_has}
use Rattle.list_heads.proofs.TreeHeads.{both_have, program_renamed_has, supplied_has}

abbrev ModulesHave : List Module → Type 0
ModulesHave = AllByRecursion (λ z. FunctionsHave z.functions)

as_tree : (t : Syntax) → HasHeads t → Has (tree t)
as_tree t h = subst HasHeads (sym (syntax_back t)) h

read_have : (ms : List Module) → AreOfTexts ms → ModulesHave ms
read_have [] h = tt
read_have (m ∷ ms) h = (text_has h.0.0 m h.0.1, read_have ms h.1)

prelude_has : ModulesHave prelude_modules
prelude_has = (
  (
    as_tree erlang_append
        (tt, (tt, tt, (tt, ((omega arith), (tt, tt), (tt, (tt, (tt, tt)))), (tt, (tt, tt, (tt, tt)), tt)))),
    tt,
  ),
  (
    (
      as_tree lists_reverse_one (tt, (tt, (tt, tt))),
      (
        as_tree lists_reverse_two
            (tt, (tt, tt, (tt, (tt, (tt, (((omega arith), (tt, tt), tt), tt))), (tt, (tt, tt, (tt, tt)), tt)))),
        (as_tree lists_append (tt, tt, (tt, (tt, tt))), tt),
      ),
    ),
    tt,
  ),
)

module _ (table : List (List ℕ)) where
  functions_numbered_have : (m : Module) (fs : List Function) (k : ℕ) (c : Counts)
      → FunctionsHave fs → FunctionsHave (numbered_functions table m k fs c).0
  functions_numbered_have m [] k c h = tt
  functions_numbered_have m (f ∷ fs) k c h = (
    as_tree (numbered table m (syntax_of f.body) k (record c { node = 0 })).0
        (numbered_has table m (syntax_of f.body) h.0 k (record c { node = 0 })),
    functions_numbered_have m fs (suc k) _ h.1,
  )

  modules_numbered_have : (ms : List Module) (k : ℕ) (c : Counts) → ModulesHave ms
      → ModulesHave (numbered_modules table k ms c).0
  modules_numbered_have [] k c h = tt
  modules_numbered_have (m ∷ ms) k c h = (
    functions_numbered_have m m.functions k c h.0,
    modules_numbered_have ms (k + length m.functions) _ h.1,
  )

module _ (names : Names) where
  functions_have : (current : ℕ) (fs : List Function) (sites : List ℕ) → FunctionsHave fs
      → FunctionsHaveHeads (functions_from names current sites fs).0
  functions_have current [] sites h = tt
  functions_have current (f ∷ fs) sites h = (
    supplied_has (resolved names current f) (supply_of names.atoms f sites)
        (resolved_has names current (syntax_of f.body) [] h.0),
    functions_have current fs _ h.1,
  )

  modules_have : (ms : List Module) (sites : List ℕ) → ModulesHave ms
      → FunctionsHaveHeads (modules_from names sites ms)
  modules_have [] sites h = tt
  modules_have (m ∷ ms) sites h =
      both_have _ _ (functions_have m.name m.functions sites h.0) (modules_have ms _ h.1)

all_modules : (ms ns : List Module) → ModulesHave ms → ModulesHave ns → ModulesHave (ms ++ ns)
all_modules [] ns h k = k
all_modules (m ∷ ms) ns h k = (h.0, all_modules ms ns h.1 k)

pub program_has : ReadHaveHeads
program_has limit given read =
    let program = with_prelude given in
    let table = program_atoms program in
    let start : Counts =
    record { node = 0; local = function_count (modules_of program); sites = [] } in
    let behind_given = (numbered_given program).1 in
    program_renamed_has limit (trees_of program)
    (modules_have (names_of program)
    ((numbered_given program).0 ++ (numbered_prelude program).0) (sites_of program)
    (all_modules (numbered_given program).0 (numbered_prelude program).0
    (modules_numbered_have table given 0 start (read_have given read))
    (modules_numbered_have table prelude_modules (function_count given) behind_given prelude_has)))
