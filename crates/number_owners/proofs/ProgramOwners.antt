-- The functions that an accepted program's table of sites names are those in which its sites stand.
use Rattle.std.proofs.Common.{◌≡◌, ◌+◌, ℕ, suc, List, [], ◌∷◌, ◌++◌, length, map, arith}
use Rattle.std.proofs.Common.{refl, sym, ap, ◌∙◌, subst, inl, inr}
use Rattle.std.proofs.lemmas.List.{append_assoc, length-append}
use Rattle.std.proofs.lemmas.List.Elements.{Contains-append_left, Contains-append_right}
use Rattle.std.specs.List.{Contains}
use Rattle.hy_core.specs.Counting.{Counts}
use Rattle.hy_core.specs.FullRun.{names_of, sites_of, trees_of}
use Rattle.hy_core.specs.NameFaults.{modules_of}
use Rattle.hy_core.specs.Numbered.{function_count, numbered, numbered_functions, numbered_given}
use Rattle.hy_core.specs.Numbered.{numbered_modules, numbered_prelude, program_sites}
use Rattle.hy_core.specs.PreludeModules.{with_prelude}
use Rattle.hy_core.specs.Resolve.{Names, resolve}
use Rattle.hy_core.specs.Resolved.{FunctionTree}
use Rattle.hy_core.specs.Scopes.{with_variables}
use Rattle.hy_core.specs.Syntax.{syntax_of, tree}
use Rattle.hy_core.specs.Tables.{program_atoms, renamed}
use Rattle.hy_core.specs.declared.info.SiteInfo.{SiteInfo}
use Rattle.hy_core.specs.declared.tree.Function.{Function}
use Rattle.hy_core.specs.declared.tree.Module.{Module}
use Rattle.hy_core.specs.declared.tree.Program.{Program}
use Rattle.hy_core.proofs.SyntaxLemmas.{syntax_back}
use Rattle.core_accepted.proofs.KnownPrograms.{accepted_sites, module_fine}
use Rattle.core_accepted.proofs.Membership.{InAny, any_contained}
use Rattle.core_accepted.proofs.ProgramKnown.{AreFineFunctions, IsFineModule, numbers, within}
use Rattle.core_accepted.proofs.ProgramNames.{names_agree}
use Rattle.lifted_numbers.proofs.BareResolved.{modules_from-bare}
use Rattle.lifted_numbers.specs.TreeNumbers.{bare_function}
use Rattle.lifted_program.specs.LetrecNumbers.{count}
use Rattle.lifted_program.specs.Renaming.{renamed_program}
use Rattle.lifted_syntax.specs.LiftingLaws.{functions_resolved, modules_resolved}
use Rattle.number_owners.specs.SiteLaws.{AcceptedProgramsHaveOwners}
use Rattle.number_owners.specs.SiteOwners.{owners, owners_from, program_owners}
use Rattle.number_owners.proofs.CountedOwners.{Numbers, both, nothing, sited, told_as}
use Rattle.number_owners.proofs.SameOwners.{owners_bare, owners_renamed, program_sites_renamed}

-- how many functions of letrecs stand in functions
abbrev pub letrecs_in : List FunctionTree → ℕ
letrecs_in [] = 0
letrecs_in (f ∷ fs) = count f.body + letrecs_in fs

letrecs_both : (fs gs : List FunctionTree) → letrecs_in (fs ++ gs) ≡ letrecs_in fs + letrecs_in gs
letrecs_both [] gs = omega arith
letrecs_both (f ∷ fs) gs = let rest = letrecs_both fs gs in omega (arith, rest)

owners_both : (k n : ℕ) (fs gs : List FunctionTree)
    → owners_from k n (fs ++ gs)
    ≡ owners_from k n fs ++ owners_from (k + length fs) (n + letrecs_in fs) gs
owners_both k n [] gs = λ i. owners_from (k_is i) (n_is i) gs
  where
    k_is : k ≡ k + 0
    k_is = omega arith

    n_is : n ≡ n + 0
    n_is = omega arith
owners_both k n (f ∷ fs) gs =
    let k_is : suc k + length fs ≡ k + suc (length fs) = omega arith in
    let n_is : n + count f.body + letrecs_in fs ≡ n + (count f.body + letrecs_in fs) =
    omega arith in
    let first = owners k n f.body in
    ap (λ os. first ++ os)
    (owners_both (suc k) (n + count f.body) fs gs
    ∙ (λ i. owners_from (suc k) (n + count f.body) fs ++ owners_from (k_is i) (n_is i) gs))
    ∙ sym
    (append_assoc first (owners_from (suc k) (n + count f.body) fs)
    (owners_from (k + suc (length fs)) (n + (count f.body + letrecs_in fs)) gs))

-- what is numbered between are these functions, of which the first has the number k
abbrev FunctionsNumbered : (k : ℕ) → Counts → Counts → List FunctionTree → Type 0
FunctionsNumbered k c d ts = Numbers c d (letrecs_in ts) (λ n. owners_from k n ts)

functions_both : (k : ℕ) {c d e : Counts} (fs gs : List FunctionTree) → FunctionsNumbered k c d fs
    → FunctionsNumbered (k + length fs) d e gs → FunctionsNumbered k c e (fs ++ gs)
functions_both k fs gs h g =
    told_as (sym (letrecs_both fs gs)) (λ n. sym (owners_both k n fs gs)) (both h g)

module _ (program : Program)
    (fine : (m : Module) → Contains (modules_of program) m → IsFineModule program m) where
  abbrev table : List (List ℕ)
  table = program_atoms program

  abbrev names : Names
  names = names_of program

  -- the functions of a module, as they are numbered
  abbrev trees_in : Module → (k : ℕ) → List Function → Counts → List FunctionTree
  trees_in m k fs c =
      functions_resolved names (renamed table m m.name) (numbered_functions table m k fs c).0

  as_many : (m : Module) (k : ℕ) (fs : List Function) (c : Counts)
      → length (trees_in m k fs c) ≡ length fs
  as_many m k [] c = refl
  as_many m k (f ∷ fs) c =
      ap (λ n. suc n)
      (as_many m (suc k) fs (numbered table m (syntax_of f.body) k (record c { node = 0 })).1)

  functions_owned : (m : Module) → Contains (modules_of program) m → (fs : List Function)
      → AreFineFunctions program m fs → (k : ℕ) (c : Counts)
      → FunctionsNumbered k c (numbered_functions table m k fs c).1 (trees_in m k fs c)
  functions_owned m here [] h k c = nothing c
  functions_owned m here (f ∷ fs) h k c =
      let start : Counts = record c { node = 0 } in
      let s = (numbered table m (syntax_of f.body) k start).0 in
      let after = (numbered table m (syntax_of f.body) k start).1 in
      let current = renamed table m m.name in
      let scope = with_variables [] f.params in
      let body = resolve names current (syntax_of (tree s)) [] in
      let own : Numbers start after (count body) (λ n. owners k n body) =
      subst
      (λ t. Numbers start after (count (resolve names current t []))
      (λ n. owners k n (resolve names current t []))) (sym (syntax_back s))
      (sited program m (numbers program fine) (names_agree program (within program fine) m here)
      (syntax_of f.body) scope [] 1 (h f (inl refl)) k start) in
      let others = functions_owned m here fs (λ g later. h g (inr later)) (suc k) after in
      let all = both own others in
      record { locals = all.locals; sites = all.sites }

  modules_owned : (ms : List Module)
      → ((m : Module) → InAny m ms → Contains (modules_of program) m) → (k : ℕ) (c : Counts)
      → FunctionsNumbered k c (numbered_modules table k ms c).1
      (modules_resolved names (numbered_modules table k ms c).0)
  modules_owned [] here k c = nothing c
  modules_owned (m ∷ ms) here k c =
      let after = (numbered_functions table m k m.functions c).1 in
      let these = trees_in m k m.functions c in
      let next = k + length m.functions in
      let others = modules_resolved names (numbered_modules table next ms after).0 in
      let end = (numbered_modules table next ms after).1 in
      let first = here m (inl refl) in
      functions_both k these others
      (functions_owned m first m.functions (fine m first).functions k c)
      (subst (λ n. FunctionsNumbered (k + n) after end others)
      (sym (as_many m k m.functions c))
      (modules_owned ms (λ n h. here n (inr h)) next after))

  resolved_both : (ms ns : List Module)
      → modules_resolved names (ms ++ ns)
      ≡ modules_resolved names ms ++ modules_resolved names ns
  resolved_both [] ns = refl
  resolved_both (m ∷ ms) ns =
      let these = functions_resolved names m.name m.functions in
      ap (λ fs. these ++ fs) (resolved_both ms ns)
      ∙ sym (append_assoc these (modules_resolved names ms) (modules_resolved names ns))

  -- as many as the program has functions
  pub modules_many : (k : ℕ) (ms : List Module) (c : Counts)
      → length (modules_resolved names (numbered_modules table k ms c).0) ≡ function_count ms
  modules_many k [] c = refl
  modules_many k (m ∷ ms) c =
      let after = (numbered_functions table m k m.functions c).1 in
      let next = k + length m.functions in
      length-append (trees_in m k m.functions c)
      (modules_resolved names (numbered_modules table next ms after).0)
      ∙ (λ i. as_many m k m.functions c i + modules_many next ms after i)

  count_both : (ms ns : List Module)
      → function_count (ms ++ ns) ≡ function_count ms + function_count ns
  count_both [] ns = omega arith
  count_both (m ∷ ms) ns = let rest = count_both ms ns in omega (arith, rest)

  pub owners_are : program_owners (trees_of program)
      ≡ map (λ (s : SiteInfo). s.function) (program_sites program)
  owners_are =
      let all = function_count (modules_of program) in
      let start : Counts = record { node = 0; local = all; sites = [] } in
      let given = (numbered_given program).0 in
      let prelude = (numbered_prelude program).0 in
      let behind = function_count program.given in
      let middle = (numbered_given program).1 in
      let end = (numbered_prelude program).1 in
      let these = modules_resolved names given in
      let others = modules_resolved names prelude in
      let first : FunctionsNumbered 0 start middle these =
      modules_owned program.given
      (λ m h. Contains-append_left program.given program.prelude m
      (any_contained program.given m h)) 0 start in
      let second : FunctionsNumbered behind middle end others =
      modules_owned program.prelude
      (λ m h. Contains-append_right program.given program.prelude m
      (any_contained program.prelude m h)) behind middle in
      let place : behind ≡ 0 + length these =
      let many = modules_many 0 program.given start in omega (arith, many) in
      let both_owned = functions_both 0 these others first
      (subst (λ k. FunctionsNumbered k middle end others) place second) in
      let trees = these ++ others in
      let many : length trees ≡ all =
      length-append these others
      ∙ (λ i. modules_many 0 program.given start i + modules_many behind program.prelude middle i)
      ∙ sym (count_both program.given program.prelude) in
      let bared : map bare_function (trees_of program) ≡ trees =
      modules_from-bare names (sites_of program) (given ++ prelude) ∙ resolved_both given prelude in
      let long : length (trees_of program) ≡ all =
      sym (bare_many (trees_of program)) ∙ ap length bared ∙ many in
      sym (owners_bare 0 (length (trees_of program)) (trees_of program))
      ∙ (λ i. owners_from 0 (long i) (bared i)) ∙ sym both_owned.sites
    where
      bare_many : (fs : List FunctionTree) → length (map bare_function fs) ≡ length fs
      bare_many [] = refl
      bare_many (f ∷ fs) = ap (λ n. suc n) (bare_many fs)

renamed_many : (limit : ℕ) (fs : List FunctionTree)
    → length (renamed_program limit fs) ≡ length fs
renamed_many limit [] = refl
renamed_many limit (f ∷ fs) = ap (λ n. suc n) (renamed_many limit fs)

pub accepted_owners : AcceptedProgramsHaveOwners
accepted_owners modules accepted limit =
    let program = with_prelude modules in
    let trees = trees_of program in record {
      kinds = program_sites_renamed limit trees ∙ accepted_sites modules accepted;
      functions =
          ap (λ n. owners_from 0 n (renamed_program limit trees)) (renamed_many limit trees)
          ∙ owners_renamed limit 0 (length trees) trees
          ∙ owners_are program (module_fine modules accepted);
    }
