-- What is lifted by the tables of a program is lifted as its definition says.
use Rattle.std.proofs.Common.{◌≡◌, ℕ, suc, ◌+◌, List, ◌++◌, length, Option, Some, None}
use Rattle.std.proofs.Common.{refl, ap, ◌∙◌, arith}
use Rattle.hy_core.specs.Resolve.{Names, function_number, name_with}
use Rattle.hy_core.specs.Syntax as s
use Rattle.hy_core.specs.Syntax.{Syntax, Syntaxes, NoSyntax, MoreSyntax}
use Rattle.hy_core.specs.Syntax.{Clauses, NoClauses, MoreClauses}
use Rattle.hy_core.specs.Syntax.{Definitions, NoDefinitions, MoreDefinitions}
use Rattle.hy_core.specs.declared.tree.FunName.{FunName}
use Rattle.letrec_names.specs.CountsGiven.{Gives, GivesAll, GivesClauses, GivesDefinitions}
use Rattle.letrec_names.specs.NestedCounts.{Counts}
use Rattle.letrec_names.proofs.Giving.{numbered_is}
use Rattle.lifted_functions.specs.code.CapturedLists.{captured_at}
use Rattle.lifted_functions.specs.code.FunctionNumbers.{number_at}
use Rattle.lifted_functions.specs.code.Lifting.{applied_by, lifted_by, lifted_all_by}
use Rattle.lifted_functions.specs.code.Lifting.{lifted_clauses_by, next_by, next_all, next_clauses}
use Rattle.lifted_functions.specs.code.Lifting.{number_behind}
use Rattle.lifted_functions.specs.declared.tables.Tables.{Tables}
use Rattle.lifted_program.specs.LetrecNumbers.{Reach, number_in}
use Rattle.lifted_syntax.specs.LiftedSyntax.{applied, count, count_all, count_clauses}
use Rattle.lifted_syntax.specs.LiftedSyntax.{count_definitions, lifted, lifted_all}
use Rattle.lifted_syntax.specs.LiftedSyntax.{lifted_clauses, passing, reach_of}

none : (n : ℕ) → n ≡ n + 0
none n = omega arith

sum : (n a b : ℕ) {k : ℕ} → k ≡ n + a + b → k ≡ n + (a + b)
sum n a b h = omega (arith, h)

module _ (c : Counts) where
  -- the functions of a letrec are counted
  behind-is : (n : ℕ) (fs : Definitions) → GivesDefinitions c n fs
      → number_behind c n fs ≡ n + count_definitions fs
  behind-is n NoDefinitions h = none n
  behind-is n (MoreDefinitions f xs b fs) h =
      let rest = behind-is (suc (n + count b)) fs h.2 in
      ap (λ k. number_behind c (suc (n + k)) fs) h.0 ∙ omega (arith, rest)

  mutual
    pub next-is : (n : ℕ) (e : Syntax) → Gives c n e → next_by c n e ≡ n + count e
    next-is n (s.Int v) h = none n
    next-is n (s.Atom a) h = none n
    next-is n s.Nil h = none n
    next-is n (s.Str text) h = none n
    next-is n (s.Var x) h = none n
    next-is n (s.Name f) h = none n
    next-is n (s.Tuple site es) h = next_all-is n es h
    next-is n (s.ListOf site es e) h =
        sum n (count_all es) (count e)
        (ap (λ k. next_by c k e) (next_all-is n es h.0) ∙ next-is (n + count_all es) e h.1)
    next-is n (s.Values es) h = next_all-is n es h
    next-is n (s.Let xs e b) h =
        sum n (count e) (count b)
        (ap (λ k. next_by c k b) (next-is n e h.0) ∙ next-is (n + count e) b h.1)
    next-is n (s.Do e b) h =
        sum n (count e) (count b)
        (ap (λ k. next_by c k b) (next-is n e h.0) ∙ next-is (n + count e) b h.1)
    next-is n (s.Case e cs) h =
        sum n (count e) (count_clauses cs)
        (ap (λ k. next_clauses c k cs) (next-is n e h.0) ∙ next_clauses-is (n + count e) cs h.1)
    next-is n (s.Letrec fs e) h =
        sum n (count_definitions fs) (count e)
        (ap (λ k. next_by c k e) (behind-is n fs h.0) ∙ next-is (n + count_definitions fs) e h.1)
    next-is n (s.Apply e es) h = next_all-is n es h
    next-is n (s.Call m f es) h = next_all-is n es h
    next-is n (s.Primop a es) h = next_all-is n es h
    next-is n (s.Receive cs t e) h =
        sum n (count_clauses cs) (count e)
        (ap (λ k. next_by c k e) (next_clauses-is n cs h.0) ∙ next-is (n + count_clauses cs) e h.1)
    next-is n (s.Try e xs b ys d) h = next-is n e h
    next-is n (s.Catch e) h = none n
    next-is n (s.Fun xs e) h = none n

    next_all-is : (n : ℕ) (es : Syntaxes) → GivesAll c n es → next_all c n es ≡ n + count_all es
    next_all-is n NoSyntax h = none n
    next_all-is n (MoreSyntax e es) h =
        sum n (count e) (count_all es)
        (ap (λ k. next_all c k es) (next-is n e h.0) ∙ next_all-is (n + count e) es h.1)

    next_clauses-is : (n : ℕ) (cs : Clauses) → GivesClauses c n cs
        → next_clauses c n cs ≡ n + count_clauses cs
    next_clauses-is n NoClauses h = none n
    next_clauses-is n (MoreClauses ps g b cs) h =
        let rest = next_clauses-is (n + count g + count b) cs h.2 in
        ap (λ k. next_clauses c (next_by c k b) cs) (next-is n g h.0)
        ∙ ap (λ k. next_clauses c k cs) (next-is (n + count g) b h.1)
        ∙ omega (arith, rest)

module _ (names : Names) (current : ℕ) (captured : ℕ → List ℕ) (t : Tables)
    (tops : (f : FunName)
    → number_at t.functions current f ≡ function_number names.functions current f)
    (lists : (k : ℕ) → captured_at t.captured k ≡ captured k) where
  abbrev L : Reach → ℕ → Syntax → Syntax
  L = lifted names current captured

  abbrev B : Reach → ℕ → Syntax → Syntax
  B = lifted_by t current

  applied-same : (f : FunName) (o top : Option ℕ) (es : Syntaxes)
      → applied_by (captured_at t.captured) f o top es ≡ applied names current captured f o top es
  applied-same f (Some k) top es =
      λ i. s.Apply (s.Name (name_with k (length (lists k i) + f.arity))) (passing (lists k i) es)
  applied-same f None (Some k) es = refl
  applied-same f None None es = refl

  mutual
    pub lifted-is : (reach : Reach) (n : ℕ) (e : Syntax) → Gives t.counts n e
        → B reach n e ≡ L reach n e
    lifted-is reach n (s.Int v) h = refl
    lifted-is reach n (s.Atom a) h = refl
    lifted-is reach n s.Nil h = refl
    lifted-is reach n (s.Str text) h = refl
    lifted-is reach n (s.Var x) h = refl
    lifted-is reach n (s.Name f) h = refl
    lifted-is reach n (s.Tuple site es) h = ap (s.Tuple site) (lifted_all-is reach n es h)
    lifted-is reach n (s.ListOf site es e) h =
        let tail = ap (λ k. B reach k e) (next_all-is t.counts n es h.0)
        ∙ lifted-is reach (n + count_all es) e h.1 in
        let heads = lifted_all-is reach n es h.0 in
        λ i. s.ListOf site (heads i) (tail i)
    lifted-is reach n (s.Values es) h = ap s.Values (lifted_all-is reach n es h)
    lifted-is reach n (s.Let xs e b) h =
        let first = lifted-is reach n e h.0 in
        let second = ap (λ k. B reach k b) (next-is t.counts n e h.0)
        ∙ lifted-is reach (n + count e) b h.1 in
        λ i. s.Let xs (first i) (second i)
    lifted-is reach n (s.Do e b) h =
        let first = lifted-is reach n e h.0 in
        let second = ap (λ k. B reach k b) (next-is t.counts n e h.0)
        ∙ lifted-is reach (n + count e) b h.1 in
        λ i. s.Do (first i) (second i)
    lifted-is reach n (s.Case e cs) h =
        let first = lifted-is reach n e h.0 in
        let second = ap (λ k. lifted_clauses_by t current reach k cs) (next-is t.counts n e h.0)
        ∙ lifted_clauses-is reach (n + count e) cs h.1 in
        λ i. s.Case (first i) (second i)
    lifted-is reach n (s.Letrec fs e) h =
        let around = numbered_is t.counts n fs h.0 in
        let next = behind-is t.counts n fs h.0 in
        (λ i. B (around i ++ reach) (next i) e)
        ∙ lifted-is (reach_of n fs ++ reach) (n + count_definitions fs) e h.1
    lifted-is reach n (s.Apply (s.Name f) es) h =
        let args = lifted_all-is reach n es h in
        (λ i. applied_by (captured_at t.captured) f (number_in reach f) (tops f i) (args i))
        ∙ applied-same f (number_in reach f) (function_number names.functions current f)
        (lifted_all names current captured reach n es)
    lifted-is reach n (s.Apply (s.Int v) es) h = refl
    lifted-is reach n (s.Apply (s.Atom a) es) h = refl
    lifted-is reach n (s.Apply s.Nil es) h = refl
    lifted-is reach n (s.Apply (s.Str text) es) h = refl
    lifted-is reach n (s.Apply (s.Var x) es) h = refl
    lifted-is reach n (s.Apply (s.Tuple site ds) es) h = refl
    lifted-is reach n (s.Apply (s.ListOf site ds d) es) h = refl
    lifted-is reach n (s.Apply (s.Values ds) es) h = refl
    lifted-is reach n (s.Apply (s.Let xs d b) es) h = refl
    lifted-is reach n (s.Apply (s.Do d b) es) h = refl
    lifted-is reach n (s.Apply (s.Case d cs) es) h = refl
    lifted-is reach n (s.Apply (s.Letrec fs d) es) h = refl
    lifted-is reach n (s.Apply (s.Apply d ds) es) h = refl
    lifted-is reach n (s.Apply (s.Call m f ds) es) h = refl
    lifted-is reach n (s.Apply (s.Primop a ds) es) h = refl
    lifted-is reach n (s.Apply (s.Receive cs d b) es) h = refl
    lifted-is reach n (s.Apply (s.Try d xs b ys c) es) h = refl
    lifted-is reach n (s.Apply (s.Catch d) es) h = refl
    lifted-is reach n (s.Apply (s.Fun xs d) es) h = refl
    lifted-is reach n (s.Call m f es) h = ap (s.Call m f) (lifted_all-is reach n es h)
    lifted-is reach n (s.Primop a es) h = ap (s.Primop a) (lifted_all-is reach n es h)
    lifted-is reach n (s.Receive cs time e) h =
        let first = lifted_clauses-is reach n cs h.0 in
        let second = ap (λ k. B reach k e) (next_clauses-is t.counts n cs h.0)
        ∙ lifted-is reach (n + count_clauses cs) e h.1 in
        λ i. s.Receive (first i) time (second i)
    lifted-is reach n (s.Try e xs b ys c) h =
        let first = lifted-is reach n e h in λ i. s.Try (first i) xs b ys c
    lifted-is reach n (s.Catch e) h = refl
    lifted-is reach n (s.Fun xs e) h = refl

    lifted_all-is : (reach : Reach) (n : ℕ) (es : Syntaxes) → GivesAll t.counts n es
        → lifted_all_by t current reach n es ≡ lifted_all names current captured reach n es
    lifted_all-is reach n NoSyntax h = refl
    lifted_all-is reach n (MoreSyntax e es) h =
        let first = lifted-is reach n e h.0 in
        let others = ap (λ k. lifted_all_by t current reach k es) (next-is t.counts n e h.0)
        ∙ lifted_all-is reach (n + count e) es h.1 in
        λ i. MoreSyntax (first i) (others i)

    lifted_clauses-is : (reach : Reach) (n : ℕ) (cs : Clauses) → GivesClauses t.counts n cs
        → lifted_clauses_by t current reach n cs
        ≡ lifted_clauses names current captured reach n cs
    lifted_clauses-is reach n NoClauses h = refl
    lifted_clauses-is reach n (MoreClauses ps g b cs) h =
        let guard = lifted-is reach n g h.0 in
        let between = next-is t.counts n g h.0 in
        let body = ap (λ k. B reach k b) between ∙ lifted-is reach (n + count g) b h.1 in
        let others =
        ap (λ k. lifted_clauses_by t current reach (next_by t.counts k b) cs) between
        ∙ ap (λ k. lifted_clauses_by t current reach k cs) (next-is t.counts (n + count g) b h.1)
        ∙ lifted_clauses-is reach (n + count g + count b) cs h.2 in
        λ i. MoreClauses ps (guard i) (body i) (others i)
