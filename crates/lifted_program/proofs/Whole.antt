-- Renaming and then lifting keeps the meaning of a program of which all is known.
use Rattle.std.proofs.Common.{◌≡◌, ℕ, ◌+◌, ◌<◌, List, [], ◌∷◌, length, map, Some, true≢false, refl}
use Rattle.std.proofs.Common.{sym, ap, ◌∙◌, subst}
use Rattle.std.specs.List.{All, filter_map}
use Rattle.std.proofs.lemmas.List.{length-map}
use Rattle.std.proofs.lemmas.List.Elements.{All-head, All-tail}
use Rattle.std.proofs.lemmas.Option.{slice_get_within}
use Rattle.hy_terms.specs.Term.{Term}
use Rattle.hy_core.specs.Computation.{Input, Run, dones}
use Rattle.hy_core.specs.declared.class.Class.{Class}
use Rattle.hy_core.specs.Event.{Event}
use Rattle.hy_core.specs.Evaluation.{Top, Wait, body_of, run_of}
use Rattle.hy_core.specs.KnownTrees.{Takes, IsKnownFunction, arities_of, TreesAreKnown}
use Rattle.hy_core.specs.Resolved.{FunctionTree}
use Rattle.hy_core.specs.SameBehaviour.{SpawnsOf}
use Rattle.hy_core.specs.SameProgram.{SameProgram, waits}
use Rattle.hy_core.specs.Scopes.{with_variables}
use Rattle.hy_core.proofs.Comparing.{run_behind, dones-shown}
use Rattle.lifted_program.specs.Captured.{AreCaptured}
use Rattle.lifted_program.specs.LetrecNumbers.{count}
use Rattle.lifted_program.specs.LiftedProgram.{lifted_program}
use Rattle.lifted_program.specs.Renaming.{renamed, renamed_function, renamed_program}
use Rattle.lifted_program.proofs.Lifted.{ScopedTops, ReadyTops, readied, is_lifted}
use Rattle.lifted_program.proofs.LiftedKnown.{lifted_known}
use Rattle.lifted_program.proofs.RenamedKnown.{renamed_known}
use Rattle.lifted_program.proofs.LiftingKeeps.{lifting_keeps}
use Rattle.lifted_program.proofs.ReadyLemmas.{Scoped}
use Rattle.lifted_program.proofs.RenamedNames.{names_with}
use Rattle.lifted_program.proofs.RenamedScoped.{scoped}
use Rattle.lifted_program.proofs.RenamingKeeps.{renaming_keeps}

filter_map-id : {X : Type 0} (xs : List X) → filter_map Some xs ≡ xs
filter_map-id [] = refl
filter_map-id (x ∷ xs) = ap (◌∷◌ x) (filter_map-id xs)

-- of three programs, the first two of which do the same whatever is spawned
module _ (Known : ℕ → Type 0) (atoms : List (List ℕ)) (calls : ℕ)
    (first second third : List FunctionTree) where
  same_through : SameProgram (λ f. Unit {0}) atoms calls first second
      → SameProgram Known atoms calls second third → SameProgram Known atoms calls first third
  same_through a b = record {
    runs = λ pid f k ts is.
        run_behind (λ t. t) (waits atoms pid) (waits atoms pid) (waits atoms pid) Some
        (run first pid f ts is) (run second pid f ts is) (run third pid f ts is)
        (a.runs pid f tt ts is) (b.runs pid f k ts is);
    spawns = λ pid f k ts is.
        let moments = (run second pid f ts is).moments in
        let same = sym (filter_map-id (dones moments)) ∙ sym (dones-shown (λ t. t) Some moments)
        ∙ ap dones (a.runs pid f tt ts is).moments in
        subst (All (SpawnsOf Known)) same (b.spawns pid f k ts is);
  }
    where
      run : List FunctionTree → (pid f : ℕ) → List Term → List (Input Term)
          → Run Term Class (Event Term) Wait
      run program pid f ts is =
          run_of program atoms pid calls (body_of program atoms pid (Top f) ts) is

module _ (limit : ℕ) (captured : ℕ → List ℕ) (tops : ℕ) (program : List FunctionTree)
    (arities : List ℕ) (below : (f n : ℕ) → Takes arities f n → f < tops) where
  scoped_tops : (fs : List FunctionTree) (n : ℕ) → All (IsKnownFunction arities) fs
      → ScopedTops captured tops program n (map (renamed_function limit []) fs)
  scoped_tops [] n h = tt
  scoped_tops (f ∷ fs) n h =
      let inner = with_variables [] f.parameters in
      let body = renamed limit inner f.body in (
        subst (λ s. Scoped captured tops program s [] n body)
            (sym (names_with limit [] f.parameters))
            (scoped limit tops program captured arities below f.body inner [] 1 [] n
            (λ g p. absurd (true≢false (sym p))) (All-head (IsKnownFunction arities) f fs h)),
        scoped_tops fs (n + count body) (All-tail (IsKnownFunction arities) f fs h),
      )

-- a program that is known and renamed, with exact lists of captured variables
module _ (limit : ℕ) (source : List FunctionTree) (captured : ℕ → List ℕ)
    (known : TreesAreKnown source)
    (exact : AreCaptured (renamed_program limit source) captured) where
  abbrev middle : List FunctionTree
  middle = renamed_program limit source

  abbrev program : List FunctionTree
  program = lifted_program captured middle

  as_long : length middle ≡ length source
  as_long = length-map source (renamed_function limit [])

  below : (f n : ℕ) → Takes (arities_of source) f n → f < length middle
  below f n h =
      subst (λ l. f < l) (length-map source (λ g. length g.parameters) ∙ sym as_long)
      (slice_get_within (arities_of source) f n h)

  -- it is ready to be lifted
  is_ready : ReadyTops captured (length middle) program (length middle) middle
  is_ready =
      readied captured middle exact
      (scoped_tops limit captured (length middle) program (arities_of source) below source
      (length middle) known)

  -- the functions of modules do what they did, with the same calls
  pub whole : (atoms : List (List ℕ)) (calls : ℕ)
      → SameProgram (λ f. f < length source) atoms calls source program
  whole atoms calls =
      same_through (λ f. f < length source) atoms calls source middle program
      (renaming_keeps limit atoms source calls)
      (subst (λ l. SameProgram (λ f. f < l) atoms calls middle program) as_long
      (lifting_keeps middle program (is_lifted captured middle exact is_ready) atoms calls))

  -- and all that was known is known
  pub whole_known : TreesAreKnown program
  whole_known = lifted_known captured middle is_ready (renamed_known limit source known)
