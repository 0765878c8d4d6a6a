-- The sites of a program's trees are those of its table, in order.
use Rattle.std.proofs.Common.{◌≡◌, ◌+◌, ℕ, suc, List, [], ◌∷◌, ◌++◌, length, map, refl, sym, ap, ◌∙◌, subst, inl, inr}
use Rattle.std.proofs.lemmas.List.{append-nil, append_assoc}
use Rattle.std.proofs.lemmas.List.Elements.{Contains-append_left, Contains-append_right}
use Rattle.std.specs.List.{Contains}
use Rattle.hy_core.specs.Counting.{Counts}
use Rattle.hy_core.specs.FullRun.{names_of, numbers_from, sites_of, trees_of}
use Rattle.hy_core.specs.NameFaults.{modules_of}
use Rattle.hy_core.specs.Numbered.{function_count, numbered, numbered_functions, numbered_given, numbered_modules, numbered_prelude, program_sites}
use Rattle.hy_core.specs.ProgramTrees.{functions_from, modules_from}
use Rattle.hy_core.specs.Resolve.{Names, resolve}
use Rattle.hy_core.specs.Resolved.{Expression, FunctionTree}
use Rattle.hy_core.specs.Scopes.{with_variables}
use Rattle.hy_core.specs.Supplied.{Supply, behind, supplied}
use Rattle.hy_core.specs.Syntax.{syntax_of, tree}
use Rattle.hy_core.specs.Tables.{program_atoms, renamed}
use Rattle.hy_core.specs.declared.info.SiteInfo.{SiteInfo}
use Rattle.hy_core.specs.declared.info.SiteKind.{SiteKind}
use Rattle.hy_core.specs.declared.tree.Function.{Function}
use Rattle.hy_core.specs.declared.tree.Module.{Module}
use Rattle.hy_core.specs.declared.tree.Program.{Program}
use Rattle.hy_core.proofs.SyntaxLemmas.{syntax_back}
use Rattle.core_accepted.specs.TreeSites.{kinds_from, program_tree_sites, tree_sites}
use Rattle.core_accepted.proofs.Membership.{InAny, any_contained}
use Rattle.core_accepted.proofs.ProgramKnown.{AreFineFunctions, IsFineModule, numbers, within}
use Rattle.core_accepted.proofs.ProgramNames.{names_agree}
use Rattle.core_accepted.proofs.SiteKinds.{both, counted, sited}
use Rattle.core_accepted.proofs.SuppliedSites.{From, from_first, from_second, kinds, numbered_both, numbered_kinds, past, past_both, takes}

tree_sites_append : (fs gs : List FunctionTree) → program_tree_sites (fs ++ gs) ≡ program_tree_sites fs ++ program_tree_sites gs
tree_sites_append [] gs = refl
tree_sites_append (f ∷ fs) gs = ap (λ sites. tree_sites f.body ++ sites) (tree_sites_append fs gs) ∙ sym (append_assoc (tree_sites f.body) (program_tree_sites fs) (program_tree_sites gs))

-- trees that are supplied with these sites, and the kinds of theirs
record Sites (sites left : List ℕ) (trees : List FunctionTree) (ks : List SiteKind) : Type 0 where
  pub made : (n : ℕ) → From n ks sites → program_tree_sites trees ≡ numbered_kinds n ks
  pub leaves : left ≡ past ks sites

no_sites : (sites : List ℕ) → Sites sites sites [] []
no_sites sites = record { made = λ n h. refl; leaves = refl }

sites_both : {sites middle left : List ℕ} {trees others : List FunctionTree} {ks js : List SiteKind} → Sites sites middle trees ks → Sites middle left others js → Sites sites left (trees ++ others) (ks ++ js)
sites_both {sites = sites} {middle = middle} {trees = trees} {others = others} {ks = ks} {js = js} h g = record {
  made = λ n from.
      tree_sites_append trees others
      ∙ (λ i. h.made n (from_first ks js n sites from) i
      ++ g.made (n + length ks) (subst (From (n + length ks) js) (sym h.leaves) (from_second ks js n sites from)) i)
      ∙ sym (numbered_both ks js n);
  leaves = g.leaves ∙ ap (past js) h.leaves ∙ sym (past_both ks js sites);
}

-- what is counted while they are numbered, and the sites of the trees that come of it
record Made (before after : Counts) (trees : List ℕ → List FunctionTree × List ℕ) : Type 0 where
  pub ks : List SiteKind
  pub counts : counted after ≡ counted before ++ ks
  pub sites : (sites : List ℕ) → Sites sites (trees sites).1 (trees sites).0 ks

module _ (program : Program) (fine : (m : Module) → Contains (modules_of program) m → IsFineModule program m) where
  abbrev table : List (List ℕ)
  table = program_atoms program

  abbrev names : Names
  names = names_of program

  -- the functions of modules, and the sites that they leave
  abbrev modules_left : List ℕ → List Module → List FunctionTree × List ℕ
  modules_left sites [] = ([], sites)
  modules_left sites (m ∷ ms) =
      let these = functions_from names m.name sites m.functions in
      let others = modules_left these.1 ms in
      (these.0 ++ others.0, others.1)

  left_is : (ms : List Module) (sites : List ℕ) → (modules_left sites ms).0 ≡ modules_from names sites ms
  left_is [] sites = refl
  left_is (m ∷ ms) sites =
      let these = functions_from names m.name sites m.functions in
      ap (λ others. these.0 ++ others) (left_is ms these.1)

  left_append : (ms ns : List Module) (sites : List ℕ) → (modules_left sites (ms ++ ns)).0 ≡ (modules_left sites ms).0 ++ (modules_left (modules_left sites ms).1 ns).0
  left_append [] ns sites = refl
  left_append (m ∷ ms) ns sites =
      let these = functions_from names m.name sites m.functions in
      ap (λ others. these.0 ++ others) (left_append ms ns these.1)
      ∙ sym (append_assoc these.0 (modules_left these.1 ms).0 (modules_left (modules_left these.1 ms).1 ns).0)

  functions_made : (m : Module) → Contains (modules_of program) m → (fs : List Function) → AreFineFunctions program m fs → (k : ℕ) (before : Counts)
      → Made before (numbered_functions table m k fs before).1 (λ sites. functions_from names (renamed table m m.name) sites (numbered_functions table m k fs before).0)
  functions_made m here [] h k before = record { ks = []; counts = sym (append-nil (counted before)); sites = no_sites }
  functions_made m here (f ∷ fs) h k before =
      let start : Counts = record before { node = 0 } in
      let s = (numbered table m (syntax_of f.body) k start).0 in
      let after = (numbered table m (syntax_of f.body) k start).1 in
      let current = renamed table m m.name in
      let body = resolve names current (syntax_of (tree s)) [] in
      let scope = with_variables [] f.params in
      let own : counted after ≡ counted before ++ kinds body
      = subst (λ t. counted after ≡ counted before ++ kinds (resolve names current t [])) (sym (syntax_back s))
      (sited program m (numbers program fine) (names_agree program (within program fine) m here) (syntax_of f.body) scope [] 1 (h f (inl refl)) k start) in
      let others = functions_made m here fs (λ g later. h g (inr later)) (suc k) after in
      record {
        ks = kinds body ++ others.ks;
        counts = both before after (numbered_functions table m (suc k) fs after).1 (kinds body) others.ks own others.counts;
        sites = λ sites. one_and_others body f.params _ sites others.ks _ (λ left. others.sites left);
      }
    where
      one_and_others : (body : Expression) (params : List ℕ) (events : List ℕ) (sites : List ℕ) (js : List SiteKind) (later : List ℕ → List FunctionTree × List ℕ)
          → ((left : List ℕ) → Sites left (later left).1 (later left).0 js)
          → (let supply : Supply = record { events = events; sites = sites } in let left = (behind body supply).sites in
          Sites sites (later left).1 (record { parameters = params; body = supplied body supply } ∷ (later left).0) (kinds body ++ js))
      one_and_others body params events sites js later h =
          let supply : Supply = record { events = events; sites = sites } in
          let taken = takes body in
          let first : Sites sites (behind body supply).sites (record { parameters = params; body = supplied body supply } ∷ []) (kinds body)
          = record { made = λ n from. append-nil (tree_sites (supplied body supply)) ∙ taken.sites supply n from; leaves = taken.left supply } in
          sites_both first (h (behind body supply).sites)

  modules_made : (ms : List Module) → ((m : Module) → InAny m ms → Contains (modules_of program) m) → (k : ℕ) (before : Counts)
      → Made before (numbered_modules table k ms before).1 (λ sites. modules_left sites (numbered_modules table k ms before).0)
  modules_made [] here k before = record { ks = []; counts = sym (append-nil (counted before)); sites = no_sites }
  modules_made (m ∷ ms) here k before =
      let after = (numbered_functions table m k m.functions before).1 in
      let own = functions_made m (here m (inl refl)) m.functions (fine m (here m (inl refl))).functions k before in
      let others = modules_made ms (λ n h. here n (inr h)) (k + length m.functions) after in
      record {
        ks = own.ks ++ others.ks;
        counts = both before after (numbered_modules table (k + length m.functions) ms after).1 own.ks others.ks own.counts others.counts;
        sites = λ sites. sites_both (own.sites sites) (others.sites _);
      }

  from_numbers : (infos : List SiteInfo) (n : ℕ) → From n (map (λ (site : SiteInfo). site.kind) infos) (numbers_from n infos)
  from_numbers [] n = tt
  from_numbers (site ∷ infos) n = (refl, from_numbers infos (suc n))

  kinds_are : (infos : List SiteInfo) (n : ℕ) → numbered_kinds n (map (λ (site : SiteInfo). site.kind) infos) ≡ kinds_from n infos
  kinds_are [] n = refl
  kinds_are (site ∷ infos) n = ap (λ sites. (n, site.kind) ∷ sites) (kinds_are infos (suc n))

  pub sites_are : program_tree_sites (trees_of program) ≡ kinds_from 0 (program_sites program)
  sites_are =
      let start : Counts = record { node = 0; local = function_count (modules_of program); sites = [] } in
      let given = (numbered_given program).0 in
      let prelude = (numbered_prelude program).0 in
      let first = modules_made program.given (λ m h. Contains-append_left program.given program.prelude m (any_contained program.given m h)) 0 start in
      let second = modules_made program.prelude (λ m h. Contains-append_right program.given program.prelude m (any_contained program.prelude m h)) (function_count program.given) (numbered_given program).1 in
      let ks = first.ks ++ second.ks in
      let all : map (λ (site : SiteInfo). site.kind) (program_sites program) ≡ ks
      = both start (numbered_given program).1 (numbered_prelude program).1 first.ks second.ks first.counts second.counts in
      let sites = sites_of program in
      let made = (sites_both (first.sites sites) (second.sites (modules_left sites given).1)).made 0 (subst (λ js. From 0 js sites) all (from_numbers (program_sites program) 0)) in
      ap program_tree_sites (sym (left_is (given ++ prelude) sites) ∙ left_append given prelude sites) ∙ made ∙ ap (numbered_kinds 0) (sym all) ∙ kinds_are (program_sites program) 0
