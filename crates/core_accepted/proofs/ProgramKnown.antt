-- Of the trees of a program whose modules are fine all is known.
use Rattle.std.proofs.Common.{◌≡◌, ◌+◌, ℕ, zero, suc, List, [], ◌∷◌, ◌++◌, length, map, refl, sym, ap, ◌∙◌, subst, arith, inl, inr}
use Rattle.std.proofs.lemmas.List.{append-nil, append_assoc, map-append}
use Rattle.std.proofs.lemmas.List.Elements.{All-append, Contains-append_left, Contains-append_right}
use Rattle.std.specs.List.{All, Contains}
use Rattle.hy_core.specs.Counting.{Counts}
use Rattle.hy_core.specs.FullRun.{names_of, sites_of, trees_of}
use Rattle.hy_core.specs.KnownTrees.{IsKnown, IsKnownFunction, TreesAreKnown, arities_of}
use Rattle.hy_core.specs.NameFaults.{modules_of}
use Rattle.hy_core.specs.Numbered.{function_count, numbered, numbered_functions, numbered_given, numbered_modules, numbered_prelude}
use Rattle.hy_core.specs.ProgramTrees.{functions_from, modules_from}
use Rattle.hy_core.specs.Resolve.{Names, resolve}
use Rattle.hy_core.specs.Resolved.{FunctionTree}
use Rattle.hy_core.specs.Scopes.{with_variables}
use Rattle.hy_core.specs.Syntax.{syntax_of, tree}
use Rattle.hy_core.specs.Tables.{program_atoms, renamed}
use Rattle.hy_core.specs.declared.tree.Function.{Function}
use Rattle.hy_core.specs.declared.tree.Module.{Module}
use Rattle.hy_core.specs.declared.tree.Program.{Program}
use Rattle.hy_core.proofs.SyntaxLemmas.{syntax_back}
use Rattle.core_accepted.proofs.FineTrees.{IsFine}
use Rattle.core_accepted.proofs.Membership.{InAny, any_contained}
use Rattle.core_accepted.proofs.ProgramNames.{IsSound, arities, module_arities, names_agree}
use Rattle.core_accepted.proofs.ResolvedKnown.{known}
use Rattle.core_accepted.proofs.SuppliedKnown.{known_supplied}

pub all_more : {A : Type 0} (P : A → Type 0) (x : A) (xs : List A) → P x → All P xs → All P (x ∷ xs)
all_more P x xs p h zero d below = p
all_more P x xs p h (suc k) d below = h k d (omega (arith, below))

pub all_none : {A : Type 0} (P : A → Type 0) → All P []
all_none P k d below = absurd (omega (arith, below))

-- each function of the module is fine
abbrev pub AreFineFunctions : Program → Module → List Function → Type 0
AreFineFunctions program m fs = (f : Function) → InAny f fs → IsFine program m (with_variables [] f.params) [] 1 (syntax_of f.body)

pub record IsFineModule (program : Program) (m : Module) : Type 0 where
  pub sound : IsSound program m
  pub functions : AreFineFunctions program m m.functions

module _ (program : Program) (fine : (m : Module) → Contains (modules_of program) m → IsFineModule program m) where
  abbrev table : List (List ℕ)
  table = program_atoms program

  abbrev names : Names
  names = names_of program

  pub within : (m : Module) → InAny m (modules_of program) → IsSound program m
  within m h = (fine m (any_contained (modules_of program) m h)).sound

  abbrev pub numbers : List ℕ
  numbers = arities program within

  -- trees of which all is known, and which take so many arguments
  record Are (ns : List ℕ) (trees : List FunctionTree) : Type 0 where
    pub take : arities_of trees ≡ ns
    pub known : All (IsKnownFunction numbers) trees

  functions_known : (m : Module) → Contains (modules_of program) m → (fs : List Function) → AreFineFunctions program m fs → (k : ℕ) (counts : Counts) (sites : List ℕ)
      → Are (map (λ f. length f.params) fs) (functions_from names (renamed table m m.name) sites (numbered_functions table m k fs counts).0).0
  functions_known m here [] h k counts sites = record { take = refl; known = all_none (IsKnownFunction numbers) }
  functions_known m here (f ∷ fs) h k counts sites =
      let s = (numbered table m (syntax_of f.body) k (record counts { node = 0 })).0 in
      let after = (numbered table m (syntax_of f.body) k (record counts { node = 0 })).1 in
      let body = resolve names (renamed table m m.name) s [] in
      let scope = with_variables [] f.params in
      let known_body : IsKnown numbers scope [] 1 (resolve names (renamed table m m.name) (syntax_of (tree s)) [])
      = subst (λ t. IsKnown numbers scope [] 1 (resolve names (renamed table m m.name) t [])) (sym (syntax_back s))
      (known program m numbers (names_agree program within m here) (syntax_of f.body) scope [] 1 (h f (inl refl)) k (record counts { node = 0 })) in
      let others = functions_known m here fs (λ g later. h g (inr later)) (suc k) after _ in
      record {
        take = ap (λ ns. length f.params ∷ ns) others.take;
        known = all_more (IsKnownFunction numbers) _ _ (known_supplied numbers _ scope [] 1 _ known_body) others.known;
      }

  are_appended : (ns ks : List ℕ) (trees others : List FunctionTree) → Are ns trees → Are ks others → Are (ns ++ ks) (trees ++ others)
  are_appended ns ks trees others h g = record {
    take = map-append (λ (f : FunctionTree). length f.parameters) trees others ∙ (λ i. h.take i ++ g.take i);
    known = All-append (IsKnownFunction numbers) trees others h.known g.known;
  }

  -- modules before others of which all is known
  modules_known : (ms : List Module) → ((m : Module) → InAny m ms → Contains (modules_of program) m) → (k : ℕ) (counts : Counts) (ns : List ℕ) (rest : List Module)
      → ((sites : List ℕ) → Are ns (modules_from names sites rest)) → (sites : List ℕ)
      → Are (module_arities ms ++ ns) (modules_from names sites ((numbered_modules table k ms counts).0 ++ rest))
  modules_known [] here k counts ns rest others sites = others sites
  modules_known (m ∷ ms) here k counts ns rest others sites =
      let first = map (λ (f : Function). length f.params) m.functions in
      let own = functions_known m (here m (inl refl)) m.functions (fine m (here m (inl refl))).functions k counts sites in
      let these = (numbered_functions table m k m.functions counts).0 in
      let after = (numbered_functions table m k m.functions counts).1 in
      let left = (functions_from names (renamed table m m.name) sites these).1 in
      let later = modules_known ms (λ n h. here n (inr h)) (k + length m.functions) after ns rest others left in
      subst (λ ns. Are ns (modules_from names sites ((numbered_modules table k (m ∷ ms) counts).0 ++ rest))) (sym (append_assoc first (module_arities ms) ns))
      (are_appended first (module_arities ms ++ ns) _ _ own later)

  no_modules : (sites : List ℕ) → Are [] (modules_from names sites [])
  no_modules sites = record { take = refl; known = all_none (IsKnownFunction numbers) }

  arities_append : (ms ks : List Module) → module_arities (ms ++ ks) ≡ module_arities ms ++ module_arities ks
  arities_append [] ks = refl
  arities_append (m ∷ ms) ks =
      let first = map (λ (f : Function). length f.params) m.functions in
      ap (λ ns. first ++ ns) (arities_append ms ks) ∙ sym (append_assoc first (module_arities ms) (module_arities ks))

  trees_are : Are numbers (trees_of program)
  trees_are =
      let given = (numbered_given program).0 in
      let prelude = (numbered_prelude program).0 in
      let counts : Counts = record { node = 0; local = function_count (modules_of program); sites = [] } in
      let behind_given : (sites : List ℕ) → Are (module_arities program.prelude) (modules_from names sites prelude)
      = λ sites. subst (λ ms. Are (module_arities program.prelude) (modules_from names sites ms)) (append-nil prelude)
      (subst (λ ns. Are ns (modules_from names sites (prelude ++ []))) (append-nil (module_arities program.prelude))
      (modules_known program.prelude (λ m h. Contains-append_right program.given program.prelude m (any_contained program.prelude m h)) (function_count program.given) (numbered_given program).1 [] [] no_modules sites)) in
      subst (λ ns. Are ns (trees_of program)) (sym (arities_append program.given program.prelude))
      (modules_known program.given (λ m h. Contains-append_left program.given program.prelude m (any_contained program.given m h)) 0 counts (module_arities program.prelude) prelude behind_given (sites_of program))

  -- as many arguments as the functions of the modules take
  pub trees_take : arities_of (trees_of program) ≡ numbers
  trees_take = trees_are.take

  pub trees_known : TreesAreKnown (trees_of program)
  trees_known = subst (λ ns. All (IsKnownFunction ns) (trees_of program)) (sym trees_are.take) trees_are.known
