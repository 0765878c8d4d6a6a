-- The worked programs have the prelude that each program has.
use Rattle.std.proofs.Common.{◌≡◌, ℕ, suc, List, [], ◌∷◌, ◌++◌, map, Some, refl, sym, ap, ◌∙◌}
use Rattle.std.specs.List.{All}
use Rattle.hy_terms.specs.Naming.{named}
use Rattle.hy_core.specs.Counting.{Counts}
use Rattle.hy_core.specs.FullRun.{main_number, main_of, names_of, numbers_from, trees_of}
use Rattle.hy_core.specs.NameFaults.{modules_of}
use Rattle.hy_core.specs.Numbered.{numbered, numbered_functions, numbered_program}
use Rattle.hy_core.specs.PreludeModules.{named_with, the_module_erlang, the_module_lists, the_x, the_y}
use Rattle.hy_core.specs.ProgramTrees.{modules_from}
use Rattle.hy_core.specs.Resolve.{Names, function_number}
use Rattle.hy_core.specs.Resolved.{FunctionTree}
use Rattle.hy_core.specs.Syntax.{Syntax, Definitions, NoDefinitions, MoreDefinitions, ModuleSyntax, definition_trees, tree}
use Rattle.hy_core.specs.Tables.{local_infos, program_atoms, program_functions, renamed, renamed_name, top_infos}
use Rattle.hy_core.specs.Worked.{atoms, modules, names}
use Rattle.hy_core.specs.declared.tree.FunName.{FunName}
use Rattle.hy_core.specs.declared.tree.Function.{Function}
use Rattle.hy_core.specs.declared.tree.Module.{Module}
use Rattle.hy_core.proofs.SyntaxLemmas.{syntax_back}
use Rattle.hy_core.proofs.Written.{modules_written, program_is}
use Rattle.core_accepted.specs.WorkedPrograms.{HasThePrelude, SameTrees, module_read, prelude_of, program_read, without_numbers, worked}
use Rattle.core_accepted.proofs.FunctionNumbers.{number_on_top}
use Rattle.core_accepted.proofs.ProgramKnown.{all_more, all_none}
use Rattle.core_accepted.proofs.PreludeFine.{erlang_append, lists_append, lists_reverse_one, lists_reverse_two}

-- definitions with the numbers of a program

module _ (table : List (List ℕ)) (m : Module) where
  abbrev definitions : ℕ → Definitions → Counts → Definitions × Counts
  definitions k NoDefinitions counts = (NoDefinitions, counts)
  definitions k (MoreDefinitions f xs s fs) counts =
      let this = numbered table m s k (record counts { node = 0 }) in
      let others = definitions (suc k) fs this.1 in
      (MoreDefinitions (renamed_name table m f) xs this.0 others.0, others.1)

  abbrev as_trees : Definitions × Counts → List Function × Counts
  as_trees d = (definition_trees d.0, d.1)

  abbrev with_first : FunName → List ℕ → Syntax × Counts → (Counts → List Function × Counts) → List Function × Counts
  with_first f xs this others = (record { name = renamed_name table m f; params = xs; body = tree this.0 } ∷ (others this.1).0, (others this.1).1)

  functions_numbered : (k : ℕ) (fs : Definitions) (counts : Counts) → numbered_functions table m k (definition_trees fs) counts ≡ as_trees (definitions k fs counts)
  functions_numbered k NoDefinitions counts = refl
  functions_numbered k (MoreDefinitions f xs s fs) counts =
      (λ i. with_first f xs (numbered table m (syntax_back s i) k (record counts { node = 0 })) (λ after. functions_numbered (suc k) fs after i))

abbrev of_main : (main child : Syntax) → Definitions
of_main main child = MoreDefinitions (named_with 8 0) [] main (MoreDefinitions (named_with 28 0) [] child NoDefinitions)

abbrev of_erlang : Definitions
of_erlang = MoreDefinitions (named_with 1 2) (the_x ∷ the_y ∷ []) erlang_append NoDefinitions

abbrev of_lists : Definitions
of_lists =
    MoreDefinitions (named_with 1 1) (the_x ∷ []) lists_reverse_one
    (MoreDefinitions (named_with 1 2) (the_x ∷ the_y ∷ []) lists_reverse_two
    (MoreDefinitions (named_with 2 2) (the_x ∷ the_y ∷ []) lists_append NoDefinitions))

module _ (main child : Syntax) where
  abbrev m : Module
  m = module_read main child

  abbrev all : List Module
  all = modules_of (program_read main child)

  pub atoms_are : program_atoms (program_read main child) ≡ atoms
  unfolding named
  atoms_are = refl

  -- the functions of the program

  numbers_are : (mm : ℕ) (ff : FunName) → function_number (program_functions (program_read main child)) mm ff ≡ function_number names.functions mm ff
  numbers_are mm ff =
      ap (λ table. function_number (top_infos table all ++ local_infos table all) mm ff) atoms_are
      ∙ number_on_top mm ff atoms all

  pub main_is : main_of (names_of (program_read main child)) (modules_of (numbered_program (program_read main child))) ≡ Some 0
  main_is = ap (λ table. main_number table (top_infos table all ++ local_infos table all) (renamed table m 7)) atoms_are

  -- its trees

  abbrev Numbered : Type 0
  Numbered = List Function × Counts

  abbrev names_with : List (List ℕ) → Names
  names_with table = record { atoms = table; functions = top_infos table all ++ local_infos table all }

  abbrev start : Counts
  start = record { node = 0; local = 6; sites = [] }

  abbrev trees_from : List (List ℕ) → Numbered → (Counts → Numbered) → (Counts → Numbered) → List FunctionTree
  trees_from table own of_erlang of_lists =
      let e = of_erlang own.1 in
      let l = of_lists e.1 in
      modules_from (names_with table) (numbers_from 0 l.1.sites)
      (record { name = renamed table m m.name; exports = []; functions = own.0; atoms = []; variables = [] }
      ∷ record { name = renamed table the_module_erlang 0; exports = []; functions = e.0; atoms = []; variables = [] }
      ∷ record { name = renamed table the_module_lists 0; exports = []; functions = l.0; atoms = []; variables = [] } ∷ [])

  abbrev trees_with : List (List ℕ) → List FunctionTree
  trees_with table =
      trees_from table (numbered_functions table m 0 m.functions start) (numbered_functions table the_module_erlang 2 the_module_erlang.functions)
      (numbered_functions table the_module_lists 3 the_module_lists.functions)

  is_with : trees_of (program_read main child) ≡ trees_with (program_atoms (program_read main child))
  is_with = refl

  abbrev own : Definitions × Counts
  own = definitions atoms m 0 (of_main main child) start

  abbrev erlang : Definitions × Counts
  erlang = definitions atoms the_module_erlang 2 of_erlang own.1

  abbrev lists : Definitions × Counts
  lists = definitions atoms the_module_lists 3 of_lists erlang.1

  abbrev written : List ModuleSyntax
  written =
      record { name = 7; functions = own.0 } ∷ record { name = 9; functions = erlang.0 }
      ∷ record { name = 10; functions = lists.0 } ∷ []

  abbrev as_written : List FunctionTree
  as_written = modules_written (names_with atoms) (numbers_from 0 lists.1.sites) written

  pub trees_are : trees_of (program_read main child) ≡ as_written
  trees_are =
      is_with ∙ ap trees_with atoms_are
      ∙ (λ i. trees_from atoms (functions_numbered atoms m 0 (of_main main child) start i) (λ counts. functions_numbered atoms the_module_erlang 2 of_erlang counts i)
      (λ counts. functions_numbered atoms the_module_lists 3 of_lists counts i))
      ∙ program_is (names_with atoms) (numbers_from 0 lists.1.sites) written

  prelude_is : prelude_of as_written ≡ prelude_of (modules_written names [] (modules main child))
  prelude_is = refl

  pub have_the_prelude : HasThePrelude main child
  have_the_prelude = record {
    same_atoms = atoms_are;
    same_functions = numbers_are;
    is_main = main_is;
    same_prelude = ap prelude_of trees_are ∙ prelude_is ∙ sym (ap prelude_of (program_is names [] (modules main child)));
  }

abbrev pub read_trees : Syntax × Syntax → List FunctionTree
read_trees (main, child) = as_written main child

abbrev pub worked_trees : Syntax × Syntax → List FunctionTree
worked_trees (main, child) = modules_written names [] (modules main child)

-- what holds wherever two functions agree holds in a list on which they agree
pub each_same : {A B : Type 0} (f g : A → B) (P : A → Type 0) → ((x : A) → f x ≡ g x → P x) → (xs : List A) → map f xs ≡ map g xs → All P xs
each_same f g P holds [] same = all_none P
each_same f g P holds (x ∷ xs) same =
    let first : f x ≡ g x = cc in
    let others : map f xs ≡ map g xs = cc in
    all_more P x xs (holds x first) (each_same f g P holds xs others)

-- where the bodies are known, their trees are computed

abbrev read_without : Syntax × Syntax → List FunctionTree
read_without p = without_numbers (read_trees p)

abbrev worked_without : Syntax × Syntax → List FunctionTree
worked_without p = without_numbers (worked_trees p)

same_trees : (p : Syntax × Syntax) → read_without p ≡ worked_without p → SameTrees p
same_trees (main, child) same =
    ap without_numbers (trees_are main child) ∙ same ∙ sym (ap without_numbers (program_is names [] (modules main child)))

pub worked_same_trees : All SameTrees worked
worked_same_trees = each_same read_without worked_without SameTrees same_trees worked refl
