-- The events of each function of a program are those of its lifted trees, where these are known.
use Rattle.std.proofs.Common.{◌≡◌, ℕ, suc, ◌+◌, List, [], ◌∷◌, ◌++◌, length, map, refl, sym}
use Rattle.std.proofs.Common.{ap, ◌∙◌, append_assoc}
use Rattle.std.proofs.lemmas.List.{length-append, length-map}
use Rattle.std.proofs.lemmas.List.Elements.{All-head, All-tail}
use Rattle.std.specs.List.{All}
use Rattle.hy_core.specs.Nodes.{nodes_of}
use Rattle.hy_core.specs.Numbered.{function_count}
use Rattle.hy_core.specs.ProgramTrees.{are_events, function_trees, functions_from, modules_from}
use Rattle.hy_core.specs.ProgramTrees.{resolved, supply_of, true_places}
use Rattle.hy_core.specs.Resolve.{Names}
use Rattle.hy_core.specs.Resolved.{FunctionTree}
use Rattle.hy_core.specs.Supplied.{behind, supplied}
use Rattle.hy_core.specs.Syntax.{syntax_of}
use Rattle.hy_core.specs.declared.tree.Function.{Function}
use Rattle.hy_core.specs.declared.tree.Module.{Module}
use Rattle.lifted_numbers.specs.TreeNumbers.{bare_function, numbers}
use Rattle.lifted_numbers.proofs.BareLifted.{program-bare}
use Rattle.lifted_numbers.proofs.BareResolved.{modules_from-bare}
use Rattle.lifted_program.specs.LetrecNumbers as tree
use Rattle.lifted_program.specs.LiftedProgram.{extracted, extracted_program, lifted_program}
use Rattle.lifted_program.specs.LiftedProgram.{lifted_tops}
use Rattle.lifted_program.proofs.ReadyLemmas.{extracted-count}
use Rattle.lifted_syntax.specs.ExtractedSyntax.{count_module}
use Rattle.lifted_syntax.specs.LiftingLaws.{functions_resolved, modules_resolved}
use Rattle.lifted_syntax.specs.Whole.{IsWhole}
use Rattle.lifted_syntax.proofs.KnownWhole.{known_are_whole}
use Rattle.lifted_syntax.proofs.LiftedCounts.{counted}
use Rattle.number_owners.specs.EventLaws.{HaveOwnEvents}
use Rattle.number_owners.specs.EventOwners.{program_event_owners, program_events}
use Rattle.number_owners.specs.WrittenOwners.{modules_functions}
use Rattle.number_owners.proofs.ProgramOwners.{letrecs_in}
use Rattle.number_owners.proofs.ProgramShares.{lifted_own_events, tops_long}
use Rattle.number_owners.proofs.SuppliedEvents.{events_taken}
use Rattle.number_owners.proofs.WrittenOwners.{owners_are}
use Rattle.number_owners.proofs.WrittenPrograms.{written_owners_are}
use Rattle.event_nodes.specs.EventNodes.{chosen_from, functions_nodes, own_count, own_events}
use Rattle.event_nodes.specs.EventNodes.{program_nodes}
use Rattle.event_nodes.specs.LiftedEvents.{AreLiftedEvents}
use Rattle.event_nodes.proofs.ClauseEvents.{function_flags}
use Rattle.event_nodes.proofs.WrittenLengths.{as_many}

abbrev BodyIsWhole : FunctionTree → Type 0
BodyIsWhole f = IsWhole f.body

abbrev events_in : FunctionTree → List ℕ
events_in t = (numbers t.body).events

-- the events that functions own, as lists

lists_are : (os es : List ℕ) (k : ℕ) (ts : List FunctionTree) → HaveOwnEvents os es k ts
    → chosen_from k (length ts) os es ≡ map events_in ts
lists_are os es k [] h = refl
lists_are os es k (t ∷ ts) h = λ i. h.0 i ∷ lists_are os es (suc k) ts h.1 i

-- how many functions a lifted program has

extracted_long : (captured : ℕ → List ℕ) (n : ℕ) (fs : List FunctionTree)
    → length (extracted_program captured n fs) ≡ letrecs_in fs
extracted_long captured n [] = refl
extracted_long captured n (f ∷ fs) =
    length-append (extracted captured [] n f.body)
    (extracted_program captured (n + tree.count f.body) fs)
    ∙ (λ i. extracted-count captured f.body [] n i
    + extracted_long captured (n + tree.count f.body) fs i)

lifted_long : (captured : ℕ → List ℕ) (fs : List FunctionTree)
    → length (lifted_program captured fs) ≡ length fs + letrecs_in fs
lifted_long captured fs =
    let n = length fs in
    length-append (lifted_tops captured n fs) (extracted_program captured n fs)
    ∙ (λ i. tops_long [] captured n fs i + extracted_long captured n fs i)

program_events-append : (fs gs : List FunctionTree)
    → program_events (fs ++ gs) ≡ program_events fs ++ program_events gs
program_events-append [] gs = refl
program_events-append (f ∷ fs) gs =
    ap (λ l. events_in f ++ l) (program_events-append fs gs)
    ∙ sym (append_assoc (events_in f) (program_events fs) (program_events gs))

functions_nodes-append : (atoms : List (List ℕ)) (fs gs : List Function)
    → functions_nodes atoms (fs ++ gs) ≡ functions_nodes atoms fs ++ functions_nodes atoms gs
functions_nodes-append atoms [] gs = refl
functions_nodes-append atoms (f ∷ fs) gs =
    let own = true_places 0 (are_events atoms (nodes_of f)) in
    ap (λ l. own ++ l) (functions_nodes-append atoms fs gs)
    ∙ sym (append_assoc own (functions_nodes atoms fs) (functions_nodes atoms gs))

whole_right : (xs ys : List FunctionTree) → All BodyIsWhole (xs ++ ys) → All BodyIsWhole ys
whole_right [] ys h = h
whole_right (x ∷ xs) ys h = whole_right xs ys (All-tail BodyIsWhole x (xs ++ ys) h)

module _ (names : Names) where
  abbrev These : (current : ℕ) → List Function → List FunctionTree
  These = functions_resolved names

  these_long : (current : ℕ) (fs : List Function) → length (These current fs) ≡ length fs
  these_long current [] = refl
  these_long current (f ∷ fs) = ap (λ n. suc n) (these_long current fs)

  modules_long : (ms : List Module) → length (modules_resolved names ms) ≡ function_count ms
  modules_long [] = refl
  modules_long (m ∷ ms) =
      length-append (These m.name m.functions) (modules_resolved names ms)
      ∙ (λ i. these_long m.name m.functions i + modules_long ms i)

  -- functions of one module, and behind it others
  these_counted : (current : ℕ) (fs : List Function) (ts : List FunctionTree) (gs : List Function)
      → (All BodyIsWhole ts → letrecs_in ts ≡ count_module gs)
      → All BodyIsWhole (These current fs ++ ts)
      → letrecs_in (These current fs ++ ts) ≡ count_module (fs ++ gs)
  these_counted current [] ts gs others whole = others whole
  these_counted current (f ∷ fs) ts gs others whole =
      let rest = These current fs ++ ts in
      λ i. counted names current (syntax_of f.body) [] (All-head BodyIsWhole _ rest whole) i
      + these_counted current fs ts gs others (All-tail BodyIsWhole _ rest whole) i

  modules_counted : (ms : List Module) → All BodyIsWhole (modules_resolved names ms)
      → letrecs_in (modules_resolved names ms) ≡ count_module (modules_functions ms)
  modules_counted [] whole = refl
  modules_counted (m ∷ ms) whole =
      these_counted m.name m.functions (modules_resolved names ms) (modules_functions ms)
      (modules_counted ms) whole

  program_long : (sites : List ℕ) (captured : ℕ → List ℕ) (ms : List Module)
      → All BodyIsWhole (modules_resolved names ms)
      → length (lifted_program captured (function_trees names sites ms)) ≡ own_count ms
  program_long sites captured ms whole =
      let trees = function_trees names sites ms in
      let plain = modules_resolved names ms in
      sym (length-map (lifted_program captured trees) bare_function)
      ∙ ap length (program-bare captured trees)
      ∙ ap (λ fs. length (lifted_program captured fs)) (modules_from-bare names sites ms)
      ∙ lifted_long captured plain ∙ (λ i. modules_long ms i + modules_counted ms whole i)

  -- a tree has the events that are supplied to it
  body_events : (current : ℕ) (sites : List ℕ) (f : Function)
      → IsWhole (resolved names current f)
      → (numbers (supplied (resolved names current f) (supply_of names.atoms f sites))).events
      ≡ true_places 0 (are_events names.atoms (nodes_of f))
  body_events current sites f whole =
      let e = syntax_of f.body in
      let flags = function_flags names.atoms f in
      events_taken (resolved names current f) (supply_of names.atoms f sites)
      (sym (ap length (owners_are names current e 0 0 [] whole)) ∙ as_many names.atoms e 0 0 0
      ∙ ap (λ bs. length (true_places 0 bs)) (sym flags))

  these_events : (current : ℕ) (sites : List ℕ) (fs : List Function) (ts : List FunctionTree)
      → All BodyIsWhole (These current fs ++ ts)
      → program_events (functions_from names current sites fs).0 ≡ functions_nodes names.atoms fs
  these_events current sites [] ts whole = refl
  these_events current sites (f ∷ fs) ts whole =
      let rest = These current fs ++ ts in
      let supply = supply_of names.atoms f sites in
      let left = (behind (resolved names current f) supply).sites in
      λ i. body_events current sites f (All-head BodyIsWhole _ rest whole) i
      ++ these_events current left fs ts (All-tail BodyIsWhole _ rest whole) i

  modules_events : (sites : List ℕ) (ms : List Module)
      → All BodyIsWhole (modules_resolved names ms)
      → program_events (modules_from names sites ms) ≡ program_nodes names.atoms ms
  modules_events sites [] whole = refl
  modules_events sites (m ∷ ms) whole =
      let these = functions_from names m.name sites m.functions in
      let others = modules_resolved names ms in
      program_events-append these.0 (modules_from names these.1 ms)
      ∙ (λ i. these_events m.name sites m.functions others whole i
      ++ modules_events these.1 ms (whole_right (These m.name m.functions) others whole) i)
      ∙ sym (functions_nodes-append names.atoms m.functions (modules_functions ms))

pub own_are_lifted : (atoms : List (List ℕ)) (ms : List Module) (lists : List (List ℕ))
    → lists ≡ own_events atoms ms → AreLiftedEvents atoms ms lists
own_are_lifted atoms ms lists are = λ names sites captured same known.
    let trees = function_trees names sites ms in
    let whole = known_are_whole names sites ms known in
    let lifted = lifted_program captured trees in
    let owners = written_owners_are names sites ms whole in
    let events = modules_events names sites ms whole in
    let long = program_long names sites captured ms whole in
    are ∙ ap (λ atoms. own_events atoms ms) (sym same)
    ∙ sym (λ i. chosen_from 0 (long i) (owners i) (events i))
    ∙ lists_are (program_event_owners trees) (program_events trees) 0 lifted
    (lifted_own_events captured trees known)
