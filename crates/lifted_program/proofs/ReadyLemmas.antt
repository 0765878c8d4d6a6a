-- What lifting needs of a program, at each place of it.
use Rattle.std.proofs.Common.{◌≡◌, ℕ, suc, ◌+◌, List, [], ◌∷◌, ◌++◌, length, Some, refl, sym, ap}
use Rattle.std.proofs.Common.{◌∙◌, subst, arith, length-append}
use Rattle.std.specs.Prelude.{slice_get}
use Rattle.hy_core.specs.Resolved as r
use Rattle.hy_core.specs.Resolved.{Patterns, Head, Expression, Expressions, NoExpressions}
use Rattle.hy_core.specs.Resolved.{MoreExpressions, Clauses, NoClauses, MoreClauses, Functions}
use Rattle.hy_core.specs.Resolved.{NoFunctions, MoreFunctions, FunctionTree, is_name}
use Rattle.hy_core.specs.Scopes.{with_variables, with_patterns}
use Rattle.lifted_program.proofs.Variables.{In, AllOut, patterns_variables}
use Rattle.lifted_program.specs.LetrecNumbers.{count, count_all, count_clauses, count_functions}
use Rattle.lifted_program.specs.LetrecNumbers.{Reach, reach_of}
use Rattle.lifted_program.specs.Captured.{Definition, definitions, definitions_all}
use Rattle.lifted_program.specs.Captured.{definitions_clauses, definitions_functions}
use Rattle.lifted_program.specs.LiftedProgram.{extracted, extracted_all, extracted_clauses}
use Rattle.lifted_program.specs.LiftedProgram.{extracted_functions}
use Rattle.lifted_program.proofs.LiftedMeets.{Facts, HeadReady, Ready, ReadyAll, ReadyClauses}
use Rattle.lifted_program.proofs.LiftedMeets.{ReadyFunctions}

abbrev pub HaveAll : {A : Type 0} → (ℕ → A → Type 0) → ℕ → List A → Type 0
HaveAll P n [] = Unit {0}
HaveAll P n (x ∷ xs) = P n x × HaveAll P (suc n) xs

pub have_left : {A : Type 0} (P : ℕ → A → Type 0) (n : ℕ) (a b : List A) → HaveAll P n (a ++ b)
    → HaveAll P n a
have_left P n [] b h = tt
have_left P n (x ∷ a) b h = (h.0, have_left P (suc n) a b h.1)

pub have_right : {A : Type 0} (P : ℕ → A → Type 0) (n m : ℕ) (a b : List A) → m ≡ n + length a
    → HaveAll P n (a ++ b) → HaveAll P m b
have_right P n m [] b e h = subst (λ k. HaveAll P k b) (let p : n ≡ m = omega arith in p) h
have_right P n m (x ∷ a) b e h = have_right P (suc n) m a b (omega arith) h.1

pub have_from : {A : Type 0} (P : ℕ → A → Type 0) (n : ℕ) (xs : List A)
    → ((j : ℕ) (x : A) → slice_get xs j ≡ Some x → P (n + j) x) → HaveAll P n xs
have_from P n [] h = tt
have_from P n (x ∷ xs) h = (
  subst (λ k. P k x) (let e : n + 0 ≡ n = omega arith in e) (h 0 x refl),
  have_from P (suc n) xs
      (λ j y p. subst (λ k. P k y) (let e : n + suc j ≡ suc n + j = omega arith in e)
      (h (suc j) y p)),
)

pub further : (n c l : ℕ) → l ≡ c → suc (n + c) ≡ suc n + l
further n c l h = omega arith

sums : {A : Type 0} (a b : List A) {p q : ℕ} → length a ≡ p → length b ≡ q → length (a ++ b) ≡ p + q
sums a b h k = length-append a b ∙ (λ i. h i + k i)

mutual
  pub definitions-count : (e : Expression) (s : List ℕ) (reach : Reach) (n : ℕ)
      → length (definitions s reach n e) ≡ count e
  definitions-count (r.Tuple site es) s reach n = definitions_all-count es s reach n
  definitions-count (r.ListOf site es e) s reach n =
      sums (definitions_all s reach n es) (definitions s reach (n + count_all es) e)
      (definitions_all-count es s reach n) (definitions-count e s reach (n + count_all es))
  definitions-count (r.Values es) s reach n = definitions_all-count es s reach n
  definitions-count (r.Let xs e b) s reach n =
      sums (definitions s reach n e) (definitions (with_variables s xs) reach (n + count e) b)
      (definitions-count e s reach n)
      (definitions-count b (with_variables s xs) reach (n + count e))
  definitions-count (r.Do e b) s reach n =
      sums (definitions s reach n e) (definitions s reach (n + count e) b)
      (definitions-count e s reach n) (definitions-count b s reach (n + count e))
  definitions-count (r.Case e cs) s reach n =
      sums (definitions s reach n e) (definitions_clauses s reach (n + count e) cs)
      (definitions-count e s reach n) (definitions_clauses-count cs s reach (n + count e))
  definitions-count (r.Letrec fs e) s reach n =
      let inner = reach_of n fs ++ reach in
      sums (definitions_functions s inner n fs) (definitions s inner (n + count_functions fs) e)
      (definitions_functions-count fs s inner n)
      (definitions-count e s inner (n + count_functions fs))
  definitions-count (r.Call head es) s reach n = definitions_all-count es s reach n
  definitions-count (r.Receive cs timeout e) s reach n =
      sums (definitions_clauses s reach n cs) (definitions s reach (n + count_clauses cs) e)
      (definitions_clauses-count cs s reach n) (definitions-count e s reach (n + count_clauses cs))
  definitions-count _ s reach n = refl

  pub definitions_all-count : (es : Expressions) (s : List ℕ) (reach : Reach) (n : ℕ)
      → length (definitions_all s reach n es) ≡ count_all es
  definitions_all-count NoExpressions s reach n = refl
  definitions_all-count (MoreExpressions e es) s reach n =
      sums (definitions s reach n e) (definitions_all s reach (n + count e) es)
      (definitions-count e s reach n) (definitions_all-count es s reach (n + count e))

  pub definitions_clauses-count : (cs : Clauses) (s : List ℕ) (reach : Reach) (n : ℕ)
      → length (definitions_clauses s reach n cs) ≡ count_clauses cs
  definitions_clauses-count NoClauses s reach n = refl
  definitions_clauses-count (MoreClauses ps g b cs) s reach n =
      let ws = with_patterns s ps in
      sums (definitions ws reach n g)
      (definitions ws reach (n + count g) b
      ++ definitions_clauses s reach (n + count g + count b) cs) (definitions-count g ws reach n)
      (sums (definitions ws reach (n + count g) b)
      (definitions_clauses s reach (n + count g + count b) cs)
      (definitions-count b ws reach (n + count g))
      (definitions_clauses-count cs s reach (n + count g + count b)))

  pub definitions_functions-count : (fs : Functions) (s : List ℕ) (reach : Reach) (n : ℕ)
      → length (definitions_functions s reach n fs) ≡ count_functions fs
  definitions_functions-count NoFunctions s reach n = refl
  definitions_functions-count (MoreFunctions f xs b fs) s reach n =
      ap suc
      (sums (definitions (with_variables s xs) reach (suc n) b)
      (definitions_functions s reach (suc (n + count b)) fs)
      (definitions-count b (with_variables s xs) reach (suc n))
      (definitions_functions-count fs s reach (suc (n + count b))))

module _ (captured : ℕ → List ℕ) where
  mutual
    pub extracted-count : (e : Expression) (reach : Reach) (n : ℕ)
        → length (extracted captured reach n e) ≡ count e
    extracted-count (r.Tuple site es) reach n = extracted_all-count es reach n
    extracted-count (r.ListOf site es e) reach n =
        sums (extracted_all captured reach n es) (extracted captured reach (n + count_all es) e)
        (extracted_all-count es reach n) (extracted-count e reach (n + count_all es))
    extracted-count (r.Values es) reach n = extracted_all-count es reach n
    extracted-count (r.Let xs e b) reach n =
        sums (extracted captured reach n e) (extracted captured reach (n + count e) b)
        (extracted-count e reach n) (extracted-count b reach (n + count e))
    extracted-count (r.Do e b) reach n =
        sums (extracted captured reach n e) (extracted captured reach (n + count e) b)
        (extracted-count e reach n) (extracted-count b reach (n + count e))
    extracted-count (r.Case e cs) reach n =
        sums (extracted captured reach n e) (extracted_clauses captured reach (n + count e) cs)
        (extracted-count e reach n) (extracted_clauses-count cs reach (n + count e))
    extracted-count (r.Letrec fs e) reach n =
        let inner = reach_of n fs ++ reach in
        sums (extracted_functions captured inner n fs)
        (extracted captured inner (n + count_functions fs) e) (extracted_functions-count fs inner n)
        (extracted-count e inner (n + count_functions fs))
    extracted-count (r.Call head es) reach n = extracted_all-count es reach n
    extracted-count (r.Receive cs timeout e) reach n =
        sums (extracted_clauses captured reach n cs)
        (extracted captured reach (n + count_clauses cs) e) (extracted_clauses-count cs reach n)
        (extracted-count e reach (n + count_clauses cs))
    extracted-count _ reach n = refl

    extracted_all-count : (es : Expressions) (reach : Reach) (n : ℕ)
        → length (extracted_all captured reach n es) ≡ count_all es
    extracted_all-count NoExpressions reach n = refl
    extracted_all-count (MoreExpressions e es) reach n =
        sums (extracted captured reach n e) (extracted_all captured reach (n + count e) es)
        (extracted-count e reach n) (extracted_all-count es reach (n + count e))

    extracted_clauses-count : (cs : Clauses) (reach : Reach) (n : ℕ)
        → length (extracted_clauses captured reach n cs) ≡ count_clauses cs
    extracted_clauses-count NoClauses reach n = refl
    extracted_clauses-count (MoreClauses ps g b cs) reach n =
        sums (extracted captured reach n g)
        (extracted captured reach (n + count g) b
        ++ extracted_clauses captured reach (n + count g + count b) cs) (extracted-count g reach n)
        (sums (extracted captured reach (n + count g) b)
        (extracted_clauses captured reach (n + count g + count b) cs)
        (extracted-count b reach (n + count g))
        (extracted_clauses-count cs reach (n + count g + count b)))

    extracted_functions-count : (fs : Functions) (reach : Reach) (n : ℕ)
        → length (extracted_functions captured reach n fs) ≡ count_functions fs
    extracted_functions-count NoFunctions reach n = refl
    extracted_functions-count (MoreFunctions f xs b fs) reach n =
        ap suc
        (sums (extracted captured reach (suc n) b)
        (extracted_functions captured reach (suc (n + count b)) fs)
        (extracted-count b reach (suc n)) (extracted_functions-count fs reach (suc (n + count b))))

  module _ (tops : ℕ) (program : List FunctionTree) where
    -- variables are bound, no binding meets another, functions of letrecs are in reach
    abbrev mutual
      pub Scoped : List ℕ → Reach → (n : ℕ) → Expression → Type 0
      Scoped s reach n (r.Variable x) = In x s
      Scoped s reach n (r.Tuple site es) = ScopedAll s reach n es
      Scoped s reach n (r.ListOf site es e) =
          ScopedAll s reach n es × Scoped s reach (n + count_all es) e
      Scoped s reach n (r.Values es) = ScopedAll s reach n es
      Scoped s reach n (r.Let xs e b) =
          Scoped s reach n e × AllOut xs s × Scoped (with_variables s xs) reach (n + count e) b
      Scoped s reach n (r.Do e b) = Scoped s reach n e × Scoped s reach (n + count e) b
      Scoped s reach n (r.Case e cs) = Scoped s reach n e × ScopedClauses s reach (n + count e) cs
      Scoped s reach n (r.Letrec fs e) =
          ScopedFunctions s (reach_of n fs ++ reach) n fs
          × Scoped s (reach_of n fs ++ reach) (n + count_functions fs) e
      Scoped s reach n (r.Call head es) =
          HeadReady tops program captured reach head × ScopedAll s reach n es
      Scoped s reach n (r.Receive cs timeout e) =
          ScopedClauses s reach n cs × Scoped s reach (n + count_clauses cs) e
      Scoped s reach n _ = Unit {0}

      pub ScopedAll : List ℕ → Reach → (n : ℕ) → Expressions → Type 0
      ScopedAll s reach n NoExpressions = Unit {0}
      ScopedAll s reach n (MoreExpressions e es) =
          Scoped s reach n e × ScopedAll s reach (n + count e) es

      pub ScopedClauses : List ℕ → Reach → (n : ℕ) → Clauses → Type 0
      ScopedClauses s reach n NoClauses = Unit {0}
      ScopedClauses s reach n (MoreClauses ps g b cs) =
          AllOut (patterns_variables ps) s × Scoped (with_patterns s ps) reach n g
          × Scoped (with_patterns s ps) reach (n + count g) b
          × ScopedClauses s reach (n + count g + count b) cs

      pub ScopedFunctions : List ℕ → Reach → (n : ℕ) → Functions → Type 0
      ScopedFunctions s reach n NoFunctions = Unit {0}
      ScopedFunctions s reach n (MoreFunctions f xs b fs) =
          AllOut xs s × Scoped (with_variables s xs) reach (suc n) b
          × ScopedFunctions s reach (suc (n + count b)) fs

    abbrev pub FactsAt : ℕ → Definition → Type 0
    FactsAt k d = Facts tops program captured k d.scope d.uses

    abbrev pub StandsAt : ℕ → FunctionTree → Type 0
    StandsAt k f = slice_get program k ≡ Some f

    mutual
      pub ready : (e : Expression) (s : List ℕ) (reach : Reach) (n : ℕ) → Scoped s reach n e
          → HaveAll FactsAt n (definitions s reach n e)
          → HaveAll StandsAt n (extracted captured reach n e)
          → Ready tops program captured s reach n e
      ready (r.Int v) s reach n h d x = tt
      ready (r.Atom a) s reach n h d x = tt
      ready r.Nil s reach n h d x = tt
      ready (r.Text site t) s reach n h d x = tt
      ready (r.Variable y) s reach n h d x = h
      ready (r.Tuple site es) s reach n h d x = ready_all es s reach n h d x
      ready (r.ListOf site es e) s reach n h d x =
          let m = n + count_all es in
          let a = definitions_all s reach n es in
          let b = extracted_all captured reach n es in (
            ready_all es s reach n h.0 (have_left FactsAt n a (definitions s reach m e) d)
                (have_left StandsAt n b (extracted captured reach m e) x),
            ready e s reach m h.1
                (have_right FactsAt n m a (definitions s reach m e)
                (ap (λ l. n + l) (sym (definitions_all-count es s reach n))) d)
                (have_right StandsAt n m b (extracted captured reach m e)
                (ap (λ l. n + l) (sym (extracted_all-count es reach n))) x),
          )
      ready (r.Values es) s reach n h d x = ready_all es s reach n h d x
      ready (r.Let xs e c) s reach n h d x =
          let m = n + count e in
          let a = definitions s reach n e in
          let b = extracted captured reach n e in
          let a' = definitions (with_variables s xs) reach m c in
          let b' = extracted captured reach m c in (
            ready e s reach n h.0 (have_left FactsAt n a a' d) (have_left StandsAt n b b' x),
            h.1,
            ready c (with_variables s xs) reach m h.2
                (have_right FactsAt n m a a'
                (ap (λ l. n + l) (sym (definitions-count e s reach n))) d)
                (have_right StandsAt n m b b'
                (ap (λ l. n + l) (sym (extracted-count e reach n))) x),
          )
      ready (r.Do e c) s reach n h d x =
          let m = n + count e in
          let a = definitions s reach n e in
          let b = extracted captured reach n e in
          let a' = definitions s reach m c in
          let b' = extracted captured reach m c in (
            ready e s reach n h.0 (have_left FactsAt n a a' d) (have_left StandsAt n b b' x),
            ready c s reach m h.1
                (have_right FactsAt n m a a'
                (ap (λ l. n + l) (sym (definitions-count e s reach n))) d)
                (have_right StandsAt n m b b'
                (ap (λ l. n + l) (sym (extracted-count e reach n))) x),
          )
      ready (r.Case e cs) s reach n h d x =
          let m = n + count e in
          let a = definitions s reach n e in
          let b = extracted captured reach n e in
          let a' = definitions_clauses s reach m cs in
          let b' = extracted_clauses captured reach m cs in (
            ready e s reach n h.0 (have_left FactsAt n a a' d) (have_left StandsAt n b b' x),
            ready_clauses cs s reach m h.1
                (have_right FactsAt n m a a'
                (ap (λ l. n + l) (sym (definitions-count e s reach n))) d)
                (have_right StandsAt n m b b'
                (ap (λ l. n + l) (sym (extracted-count e reach n))) x),
          )
      ready (r.Letrec fs e) s reach n h d x =
          let inner = reach_of n fs ++ reach in
          let m = n + count_functions fs in
          let a = definitions_functions s inner n fs in
          let b = extracted_functions captured inner n fs in
          let a' = definitions s inner m e in
          let b' = extracted captured inner m e in (
            ready_functions fs s inner n h.0 (have_left FactsAt n a a' d)
                (have_left StandsAt n b b' x),
            ready e s inner m h.1
                (have_right FactsAt n m a a'
                (ap (λ l. n + l) (sym (definitions_functions-count fs s inner n))) d)
                (have_right StandsAt n m b b'
                (ap (λ l. n + l) (sym (extracted_functions-count fs inner n))) x),
          )
      ready (r.Call head es) s reach n h d x = (h.0, ready_all es s reach n h.1 d x)
      ready (r.Receive cs timeout e) s reach n h d x =
          let m = n + count_clauses cs in
          let a = definitions_clauses s reach n cs in
          let b = extracted_clauses captured reach n cs in
          let a' = definitions s reach m e in
          let b' = extracted captured reach m e in (
            ready_clauses cs s reach n h.0 (have_left FactsAt n a a' d)
                (have_left StandsAt n b b' x),
            ready e s reach m h.1
                (have_right FactsAt n m a a'
                (ap (λ l. n + l) (sym (definitions_clauses-count cs s reach n))) d)
                (have_right StandsAt n m b b'
                (ap (λ l. n + l) (sym (extracted_clauses-count cs reach n))) x),
          )
      ready r.Refused s reach n h d x = tt

      ready_all : (es : Expressions) (s : List ℕ) (reach : Reach) (n : ℕ) → ScopedAll s reach n es
          → HaveAll FactsAt n (definitions_all s reach n es)
          → HaveAll StandsAt n (extracted_all captured reach n es)
          → ReadyAll tops program captured s reach n es
      ready_all NoExpressions s reach n h d x = tt
      ready_all (MoreExpressions e es) s reach n h d x =
          let m = n + count e in
          let a = definitions s reach n e in
          let b = extracted captured reach n e in
          let a' = definitions_all s reach m es in
          let b' = extracted_all captured reach m es in (
            ready e s reach n h.0 (have_left FactsAt n a a' d) (have_left StandsAt n b b' x),
            ready_all es s reach m h.1
                (have_right FactsAt n m a a'
                (ap (λ l. n + l) (sym (definitions-count e s reach n))) d)
                (have_right StandsAt n m b b'
                (ap (λ l. n + l) (sym (extracted-count e reach n))) x),
          )

      ready_clauses : (cs : Clauses) (s : List ℕ) (reach : Reach) (n : ℕ)
          → ScopedClauses s reach n cs → HaveAll FactsAt n (definitions_clauses s reach n cs)
          → HaveAll StandsAt n (extracted_clauses captured reach n cs)
          → ReadyClauses tops program captured s reach n cs
      ready_clauses NoClauses s reach n h d x = tt
      ready_clauses (MoreClauses ps g c cs) s reach n h d x =
          let ws = with_patterns s ps in
          let m = n + count g in
          let l = n + count g + count c in
          let a = definitions ws reach n g in
          let b = extracted captured reach n g in
          let a' = definitions ws reach m c in
          let b' = extracted captured reach m c in
          let a'' = definitions_clauses s reach l cs in
          let b'' = extracted_clauses captured reach l cs in
          let d' = have_right FactsAt n m a (a' ++ a'')
          (ap (λ l. n + l) (sym (definitions-count g ws reach n))) d in
          let x' = have_right StandsAt n m b (b' ++ b'')
          (ap (λ l. n + l) (sym (extracted-count g reach n))) x in (
            h.0,
            ready g ws reach n h.1 (have_left FactsAt n a (a' ++ a'') d)
                (have_left StandsAt n b (b' ++ b'') x),
            ready c ws reach m h.2 (have_left FactsAt m a' a'' d') (have_left StandsAt m b' b'' x'),
            ready_clauses cs s reach l h.3
                (have_right FactsAt m l a' a''
                (ap (λ k. m + k) (sym (definitions-count c ws reach m))) d')
                (have_right StandsAt m l b' b''
                (ap (λ k. m + k) (sym (extracted-count c reach m))) x'),
          )

      ready_functions : (fs : Functions) (s : List ℕ) (reach : Reach) (n : ℕ)
          → ScopedFunctions s reach n fs → HaveAll FactsAt n (definitions_functions s reach n fs)
          → HaveAll StandsAt n (extracted_functions captured reach n fs)
          → ReadyFunctions tops program captured s reach n fs
      ready_functions NoFunctions s reach n h d x = tt
      ready_functions (MoreFunctions f xs c fs) s reach n h d x =
          let m = suc (n + count c) in
          let a = definitions (with_variables s xs) reach (suc n) c in
          let b = extracted captured reach (suc n) c in
          let a' = definitions_functions s reach m fs in
          let b' = extracted_functions captured reach m fs in (
            x.0,
            d.0,
            h.0,
            ready c (with_variables s xs) reach (suc n) h.1 (have_left FactsAt (suc n) a a' d.1)
                (have_left StandsAt (suc n) b b' x.1),
            ready_functions fs s reach m h.2
                (have_right FactsAt (suc n) m a a'
                (further n (count c) (length a)
                (definitions-count c (with_variables s xs) reach (suc n))) d.1)
                (have_right StandsAt (suc n) m b b'
                (further n (count c) (length b) (extracted-count c reach (suc n))) x.1),
          )
