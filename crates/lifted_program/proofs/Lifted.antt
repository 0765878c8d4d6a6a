-- The lifted program is one with its letrecs lifted, where exactly the free variables are captured.
use Rattle.std.proofs.Common.{◌≡◌, ℕ, zero, suc, ◌+◌, ◌<◌, List, [], ◌∷◌, ◌++◌, length, Some, refl}
use Rattle.std.proofs.Common.{sym, ap, ◌∙◌, subst, ◌⊎◌, inl, inr, arith}
use Rattle.std.specs.Prelude.{slice_get}
use Rattle.std.proofs.lemmas.Option.{same_Some}
use Rattle.hy_core.specs.Resolved.{FunctionTree}
use Rattle.hy_core.specs.Scopes.{with_variables}
use Rattle.lifted_program.specs.LetrecNumbers.{count}
use Rattle.lifted_program.specs.Captured.{OfVariable, OfFunction, Definition, definitions}
use Rattle.lifted_program.specs.Captured.{definitions_of, IsDefined, IsFree, occurs, passed}
use Rattle.lifted_program.specs.Captured.{AreCaptured}
use Rattle.lifted_program.specs.LiftedProgram.{extracted, extracted_program, lifted_tops}
use Rattle.lifted_program.specs.LiftedProgram.{lifted_program}
use Rattle.lifted_program.proofs.LiftOf.{IsLifted, IsLiftedFunction}
use Rattle.lifted_program.proofs.LiftedMeets.{Ready, lifted_meets}
use Rattle.lifted_program.proofs.ReadyLemmas.{HaveAll, have_left, have_right, have_from}
use Rattle.lifted_program.proofs.ReadyLemmas.{definitions-count, extracted-count, Scoped, FactsAt}
use Rattle.lifted_program.proofs.ReadyLemmas.{StandsAt, ready}
use Rattle.lifted_program.proofs.Variables.{In, bound_in, in_bound, contained_in, in_contained}

get_left : {A : Type 0} (xs ys : List A) (i : ℕ) → i < length xs → slice_get (xs ++ ys) i
    ≡ slice_get xs i
get_left [] ys i h = absurd (omega arith)
get_left (x ∷ xs) ys zero h = refl
get_left (x ∷ xs) ys (suc i) h = get_left xs ys i (omega arith)

get_right : {A : Type 0} (xs ys : List A) (j k : ℕ) → k ≡ length xs + j → slice_get (xs ++ ys) k
    ≡ slice_get ys j
get_right [] ys j k h = ap (slice_get ys) (let e : k ≡ j = omega arith in e)
get_right (x ∷ xs) ys j zero h = absurd (omega arith)
get_right (x ∷ xs) ys j (suc k) h = get_right xs ys j k (omega arith)

module _ (captured : ℕ → List ℕ) where
  lifted_tops-length : (n : ℕ) (fs : List FunctionTree) → length (lifted_tops captured n fs)
      ≡ length fs
  lifted_tops-length n [] = refl
  lifted_tops-length n (f ∷ fs) = ap suc (lifted_tops-length (n + count f.body) fs)

  module _ (tops : ℕ) (program : List FunctionTree) where
    abbrev pub ScopedTops : (n : ℕ) → List FunctionTree → Type 0
    ScopedTops n [] = Unit {0}
    ScopedTops n (f ∷ fs) =
        Scoped captured tops program (with_variables [] f.parameters) [] n f.body
        × ScopedTops (n + count f.body) fs

    -- each function of a module stands where it is ready to be lifted
    abbrev pub ReadyTops : (n : ℕ) → List FunctionTree → Type 0
    ReadyTops n [] = Unit {0}
    ReadyTops n (f ∷ fs) =
        Ready tops program captured (with_variables [] f.parameters) [] n f.body
        × ReadyTops (n + count f.body) fs

    ready_tops : (fs : List FunctionTree) (n : ℕ) → ScopedTops n fs
        → HaveAll (FactsAt captured tops program) n (definitions_of n fs)
        → HaveAll (StandsAt captured tops program) n (extracted_program captured n fs)
        → ReadyTops n fs
    ready_tops [] n h d x = tt
    ready_tops (f ∷ fs) n h d x =
        let scope = with_variables [] f.parameters in
        let m = n + count f.body in
        let a = definitions scope [] n f.body in
        let b = extracted captured [] n f.body in (
          ready captured tops program f.body scope [] n h.0
              (have_left (FactsAt captured tops program) n a (definitions_of m fs) d)
              (have_left (StandsAt captured tops program) n b (extracted_program captured m fs) x),
          ready_tops fs m h.1
              (have_right (FactsAt captured tops program) n m a (definitions_of m fs)
              (ap (λ l. n + l) (sym (definitions-count f.body scope [] n))) d)
              (have_right (StandsAt captured tops program) n m b (extracted_program captured m fs)
              (ap (λ l. n + l) (sym (extracted-count captured f.body [] n))) x),
        )

    tops_lifted : (fs : List FunctionTree) (n : ℕ) → ReadyTops n fs → (i : ℕ) → i < length fs
        → IsLiftedFunction tops program (slice_get fs i) (slice_get (lifted_tops captured n fs) i)
    tops_lifted [] n h i k = absurd (omega arith)
    tops_lifted (f ∷ fs) n h zero k =
        (refl, lifted_meets tops program captured f.body f.parameters n h.0)
    tops_lifted (f ∷ fs) n h (suc i) k = tops_lifted fs (n + count f.body) h.1 i (omega arith)

  module _ (source : List FunctionTree) (c : AreCaptured source captured) where
    abbrev tops : ℕ
    tops = length source

    abbrev program : List FunctionTree
    program = lifted_program captured source

    abbrev table : List Definition
    table = definitions_of tops source

    record Inverted (x : ℕ) (d : Definition) : Type 0 where
      within : In x d.scope
      why : In (OfVariable x) d.uses ⊎ ((g : ℕ) × In (OfFunction g) d.uses × In x (captured g))

    captured_in : {f x : ℕ} → IsFree source f x → In x (captured f)
    captured_in {f} {x} h = contained_in x (captured f) (c.all f x h)

    in_free : {f x : ℕ} → In x (captured f) → IsFree source f x
    in_free {f} {x} h = c.free f x (in_contained x (captured f) h)

    -- a function is defined in one way
    one_definition : (f j : ℕ) (d d' : Definition) → IsDefined source f d' → f ≡ tops + j
        → slice_get table j ≡ Some d → d' ≡ d
    one_definition f j d d' at h p =
        let e = at.1 in
        same_Some d' d (sym at.2 ∙ ap (slice_get table) (let q : at.0 ≡ j = omega arith in q) ∙ p)

    inverted : {f x : ℕ} → IsFree source f x → (j : ℕ) (d : Definition) → f ≡ tops + j
        → slice_get table j ≡ Some d → Inverted x d
    inverted {f = f} {x = x} (occurs d' at i u) j d h p =
        subst (Inverted x) (one_definition f j d d' at h p)
        (record {
          within = bound_in x d'.scope i;
          why = inl (contained_in (OfVariable x) d'.uses u);
        })
    inverted {f = f} {x = x} (passed d' g at i u r) j d h p =
        subst (Inverted x) (one_definition f j d d' at h p)
        (record {
          within = bound_in x d'.scope i;
          why = inr (g, contained_in (OfFunction g) d'.uses u, captured_in r);
        })

    pub facts : (j : ℕ) (d : Definition) → slice_get table j ≡ Some d
        → FactsAt captured tops program (tops + j) d
    facts j d p = record {
      within = λ x i. (inverted (in_free i) j d refl p).within;
      used =
          λ x i u. captured_in
          (occurs d (j, refl, p) (in_bound x d.scope i) (in_contained (OfVariable x) d.uses u));
      passed =
          λ g x i u k. captured_in
          (passed d g (j, refl, p) (in_bound x d.scope i) (in_contained (OfFunction g) d.uses u)
          (in_free k));
      why = λ x i. (inverted (in_free i) j d refl p).why;
    }

    stands : (j : ℕ) (g : FunctionTree) → slice_get (extracted_program captured tops source) j
        ≡ Some g → StandsAt captured tops program (tops + j) g
    stands j g p =
        get_right (lifted_tops captured tops source) (extracted_program captured tops source) j
        (tops + j) (ap (λ l. l + j) (sym (lifted_tops-length tops source))) ∙ p

    pub readied : ScopedTops tops program tops source → ReadyTops tops program tops source
    readied h =
        ready_tops tops program source tops h
        (have_from (FactsAt captured tops program) tops table facts)
        (have_from (StandsAt captured tops program) tops
        (extracted_program captured tops source) stands)

    pub is_lifted : ReadyTops tops program tops source → IsLifted source program
    is_lifted h = record {
      functions = λ f k.
          subst (IsLiftedFunction tops program (slice_get source f))
          (sym
          (get_left (lifted_tops captured tops source) (extracted_program captured tops source) f
          (subst (λ l. f < l) (sym (lifted_tops-length tops source)) k)))
          (tops_lifted tops program source tops h f k);
    }
