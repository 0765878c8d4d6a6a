-- What is extracted by the tables of a program is extracted as its definition says.
use Rattle.std.proofs.Common.{◌≡◌, ℕ, suc, ◌+◌, List, [], ◌∷◌, ◌++◌, sym, ap, ◌∙◌, arith}
use Rattle.std.proofs.Common.{append_assoc}
use Rattle.std.proofs.lemmas.List.{append-nil}
use Rattle.hy_core.specs.Resolve.{Names, function_number}
use Rattle.hy_core.specs.Syntax as s
use Rattle.hy_core.specs.Syntax.{Syntax, Syntaxes, NoSyntax, MoreSyntax}
use Rattle.hy_core.specs.Syntax.{Clauses, NoClauses, MoreClauses}
use Rattle.hy_core.specs.Syntax.{Definitions, NoDefinitions, MoreDefinitions}
use Rattle.hy_core.specs.declared.tree.FunName.{FunName}
use Rattle.letrec_names.specs.CountsGiven.{Gives, GivesAll, GivesClauses, GivesDefinitions}
use Rattle.letrec_names.proofs.Giving.{numbered_is}
use Rattle.lifted_functions.specs.code.CapturedLists.{captured_at}
use Rattle.lifted_functions.specs.code.Extraction.{State, extracted_by, extracted_all_by}
use Rattle.lifted_functions.specs.code.Extraction.{extracted_clauses_by, extracted_functions_by}
use Rattle.lifted_functions.specs.code.Extraction.{with_function}
use Rattle.lifted_functions.specs.code.FunctionNumbers.{number_at}
use Rattle.lifted_functions.specs.declared.tables.Tables.{Tables}
use Rattle.lifted_functions.proofs.LiftedByTables.{lifted-is}
use Rattle.lifted_program.specs.LetrecNumbers.{Reach}
use Rattle.lifted_syntax.specs.ExtractedSyntax.{FunctionSyntax, extracted, extracted_all}
use Rattle.lifted_syntax.specs.ExtractedSyntax.{extracted_clauses, extracted_functions}
use Rattle.lifted_syntax.specs.LiftedSyntax.{count, count_all, count_clauses, count_definitions}
use Rattle.lifted_syntax.specs.LiftedSyntax.{lifted, reach_of}

-- a state, and one with more functions
abbrev pub at : (done : List FunctionSyntax) → (next : ℕ) → State
at done next = record { done = done; next = next }

abbrev pub With : State → List FunctionSyntax → (n : ℕ) → List FunctionSyntax → ℕ → Type 0
With st done n more k = st ≡ at (done ++ more) (n + k)

pub nothing : (done : List FunctionSyntax) (n : ℕ) → With (at done n) done n [] 0
nothing done n = let h : n ≡ n + 0 = omega arith in λ i. at (sym (append-nil done) i) (h i)

-- first these, and then those
pub both : (done xs ys : List FunctionSyntax) (n a b : ℕ) {st : State}
    → With st (done ++ xs) (n + a) ys b → With st done n (xs ++ ys) (a + b)
both done xs ys n a b h =
    let next : n + a + b ≡ n + (a + b) = omega arith in
    h ∙ (λ i. at (append_assoc done xs ys i) (next i))

module _ (names : Names) (current : ℕ) (captured : ℕ → List ℕ) (t : Tables)
    (tops : (f : FunName)
    → number_at t.functions current f ≡ function_number names.functions current f)
    (lists : (k : ℕ) → captured_at t.captured k ≡ captured k) where
  abbrev X : Reach → ℕ → Syntax → List FunctionSyntax
  X = extracted names current captured

  abbrev B : Reach → State → Syntax → State
  B = extracted_by t current

  abbrev Is : Reach → ℕ → Syntax → List FunctionSyntax → State → Type 0
  Is reach n e done st = With st done n (X reach n e) (count e)

  pushed-is : (reach : Reach) (n : ℕ) (xs : List ℕ) (b : Syntax) (done : List FunctionSyntax)
      → Gives t.counts (suc n) b
      → with_function t current reach (at done n) xs b
      ≡ at
      (done
      ++ record {
        parameters = captured n ++ xs;
        body = lifted names current captured reach (suc n) b;
      }
      ∷ [])
      (suc n)
  pushed-is reach n xs b done h =
      let body = lifted-is names current captured t tops lists reach (suc n) b h in
      λ i. at (done ++ record { parameters = lists n i ++ xs; body = body i } ∷ []) (suc n)

  mutual
    pub extracted-is : (reach : Reach) (n : ℕ) (e : Syntax) (done : List FunctionSyntax)
        → Gives t.counts n e → Is reach n e done (B reach (at done n) e)
    extracted-is reach n (s.Int v) done h = nothing done n
    extracted-is reach n (s.Atom a) done h = nothing done n
    extracted-is reach n s.Nil done h = nothing done n
    extracted-is reach n (s.Str text) done h = nothing done n
    extracted-is reach n (s.Var x) done h = nothing done n
    extracted-is reach n (s.Name f) done h = nothing done n
    extracted-is reach n (s.Tuple site es) done h = all-is reach n es done h
    extracted-is reach n (s.ListOf site es e) done h =
        let a = count_all es in
        let first = extracted_all names current captured reach n es in
        both done first (X reach (n + a) e) n a (count e)
        (ap (λ st. B reach st e) (all-is reach n es done h.0)
        ∙ extracted-is reach (n + a) e (done ++ first) h.1)
    extracted-is reach n (s.Values es) done h = all-is reach n es done h
    extracted-is reach n (s.Let xs e b) done h =
        both done (X reach n e) (X reach (n + count e) b) n (count e) (count b)
        (ap (λ st. B reach st b) (extracted-is reach n e done h.0)
        ∙ extracted-is reach (n + count e) b (done ++ X reach n e) h.1)
    extracted-is reach n (s.Do e b) done h =
        both done (X reach n e) (X reach (n + count e) b) n (count e) (count b)
        (ap (λ st. B reach st b) (extracted-is reach n e done h.0)
        ∙ extracted-is reach (n + count e) b (done ++ X reach n e) h.1)
    extracted-is reach n (s.Case e cs) done h =
        let m = n + count e in
        both done (X reach n e) (extracted_clauses names current captured reach m cs) n (count e)
        (count_clauses cs)
        (ap (λ st. extracted_clauses_by t current reach st cs) (extracted-is reach n e done h.0)
        ∙ clauses-is reach m cs (done ++ X reach n e) h.1)
    extracted-is reach n (s.Letrec fs e) done h =
        let inside = reach_of n fs ++ reach in
        let a = count_definitions fs in
        let first = extracted_functions names current captured inside n fs in
        let around = numbered_is t.counts n fs h.0 in
        (λ i. B (around i ++ reach)
        (extracted_functions_by t current (around i ++ reach) (at done n) fs) e)
        ∙ both done first (X inside (n + a) e) n a (count e)
        (ap (λ st. B inside st e) (functions-are inside n fs done h.0)
        ∙ extracted-is inside (n + a) e (done ++ first) h.1)
    extracted-is reach n (s.Apply e es) done h = all-is reach n es done h
    extracted-is reach n (s.Call m f es) done h = all-is reach n es done h
    extracted-is reach n (s.Primop a es) done h = all-is reach n es done h
    extracted-is reach n (s.Receive cs time e) done h =
        let a = count_clauses cs in
        let first = extracted_clauses names current captured reach n cs in
        both done first (X reach (n + a) e) n a (count e)
        (ap (λ st. B reach st e) (clauses-is reach n cs done h.0)
        ∙ extracted-is reach (n + a) e (done ++ first) h.1)
    extracted-is reach n (s.Try e xs b ys c) done h = extracted-is reach n e done h
    extracted-is reach n (s.Catch e) done h = nothing done n
    extracted-is reach n (s.Fun xs e) done h = nothing done n

    all-is : (reach : Reach) (n : ℕ) (es : Syntaxes) (done : List FunctionSyntax)
        → GivesAll t.counts n es
        → With (extracted_all_by t current reach (at done n) es) done n
        (extracted_all names current captured reach n es) (count_all es)
    all-is reach n NoSyntax done h = nothing done n
    all-is reach n (MoreSyntax e es) done h =
        let m = n + count e in
        both done (X reach n e) (extracted_all names current captured reach m es) n (count e)
        (count_all es)
        (ap (λ st. extracted_all_by t current reach st es) (extracted-is reach n e done h.0)
        ∙ all-is reach m es (done ++ X reach n e) h.1)

    clauses-is : (reach : Reach) (n : ℕ) (cs : Clauses) (done : List FunctionSyntax)
        → GivesClauses t.counts n cs
        → With (extracted_clauses_by t current reach (at done n) cs) done n
        (extracted_clauses names current captured reach n cs) (count_clauses cs)
    clauses-is reach n NoClauses done h = nothing done n
    clauses-is reach n (MoreClauses ps g b cs) done h =
        let m = n + count g in
        let k = m + count b in
        let guard = X reach n g in
        let body = X reach m b in
        let others = extracted_clauses names current captured reach k cs in
        both done guard (body ++ others) n (count g) (count b + count_clauses cs)
        (both (done ++ guard) body others m (count b) (count_clauses cs)
        (ap (λ st. extracted_clauses_by t current reach (B reach st b) cs)
        (extracted-is reach n g done h.0)
        ∙ ap (λ st. extracted_clauses_by t current reach st cs)
        (extracted-is reach m b (done ++ guard) h.1)
        ∙ clauses-is reach k cs ((done ++ guard) ++ body) h.2))

    functions-are : (reach : Reach) (n : ℕ) (fs : Definitions) (done : List FunctionSyntax)
        → GivesDefinitions t.counts n fs
        → With (extracted_functions_by t current reach (at done n) fs) done n
        (extracted_functions names current captured reach n fs) (count_definitions fs)
    functions-are reach n NoDefinitions done h = nothing done n
    functions-are reach n (MoreDefinitions f xs b fs) done h =
        let this : FunctionSyntax = record {
          parameters = captured n ++ xs;
          body = lifted names current captured reach (suc n) b;
        } in
        let one = this ∷ [] in
        let k = suc (n + count b) in
        let inner = X reach (suc n) b in
        let others = extracted_functions names current captured reach k fs in
        let counted : suc n + count b ≡ k = omega arith in
        let next : k + count_definitions fs ≡ n + suc (count b + count_definitions fs) = omega arith in
        ap (λ st. extracted_functions_by t current reach (B reach st b) fs)
        (pushed-is reach n xs b done h.1)
        ∙ ap (λ st. extracted_functions_by t current reach st fs)
        (extracted-is reach (suc n) b (done ++ one) h.1
        ∙ ap (at ((done ++ one) ++ inner)) counted)
        ∙ functions-are reach k fs ((done ++ one) ++ inner) h.2
        ∙ (λ i. at (append_assoc (done ++ one) inner others i) (next i))
        ∙ ap (λ l. at l (n + suc (count b + count_definitions fs)))
        (append_assoc done one (inner ++ others))
