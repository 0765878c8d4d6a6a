-- A form whose parts are lifted is lifted.
use Rattle.std.proofs.Common.{◌≡◌, ℕ, List, ◌++◌, map, sym, ap, ◌∙◌}
use Rattle.hy_core.specs.Syntax as s
use Rattle.hy_core.specs.Syntax.{Syntax, Syntaxes, syntax_of, syntaxes_of, clauses_of}
use Rattle.hy_core.specs.Syntax.{definitions_of}
use Rattle.hy_core.specs.declared.tree.Clause.{Clause}
use Rattle.hy_core.specs.declared.tree.Expr.{Expr}
use Rattle.hy_core.specs.declared.tree.Expr.TheVariants as e
use Rattle.hy_core.specs.declared.tree.FunName.{FunName}
use Rattle.hy_core.specs.declared.tree.Function.{Function}
use Rattle.hy_core.proofs.SyntaxLemmas as tree
use Rattle.letrec_names.specs.NestedCounts.{numbered}
use Rattle.lifted_functions.specs.code.CapturedLists.{captured_at}
use Rattle.lifted_functions.specs.code.FunctionNumbers.{number_at}
use Rattle.lifted_functions.specs.code.Lifting.{applied_by, lifted_by, lifted_all_by}
use Rattle.lifted_functions.specs.code.Lifting.{lifted_clauses_by, next_by}
use Rattle.lifted_functions.specs.code.Lifting.{next_all, next_clauses, number_behind}
use Rattle.lifted_functions.specs.declared.tables.Tables.{Tables}
use Rattle.lifted_program.specs.LetrecNumbers.{Reach, number_in}
use Rattle.letrec_names.specs.Parts.{clause_syntax, function_syntax}
use Rattle.letrec_names.proofs.FormSyntax.{syntax-Case, syntax-Letrec, syntax-Receive}

-- the syntax of parts
abbrev pub all_of : List Expr → Syntaxes
all_of xs = syntaxes_of (map syntax_of xs)

abbrev pub clauses_in : List Clause → s.Clauses
clauses_in cs = clauses_of (map clause_syntax cs)

module _ (t : Tables) (current : ℕ) where
  -- the same under functions that are equal, from a number that is equal
  pub moved : (x y : Expr) {s r : Reach} {k m : ℕ} → s ≡ r → k ≡ m
      → syntax_of y ≡ lifted_by t current s k (syntax_of x)
      → syntax_of y ≡ lifted_by t current r m (syntax_of x)
  moved x y p q h = h ∙ (λ i. lifted_by t current (p i) (q i) (syntax_of x))

  pub moved_all : (xs ys : List Expr) {s r : Reach} {k m : ℕ} → s ≡ r → k ≡ m
      → all_of ys ≡ lifted_all_by t current s k (all_of xs)
      → all_of ys ≡ lifted_all_by t current r m (all_of xs)
  moved_all xs ys p q h = h ∙ (λ i. lifted_all_by t current (p i) (q i) (all_of xs))

  pub moved_clauses : (cs ds : List Clause) {s r : Reach} {k m : ℕ} → s ≡ r → k ≡ m
      → clauses_in ds ≡ lifted_clauses_by t current s k (clauses_in cs)
      → clauses_in ds ≡ lifted_clauses_by t current r m (clauses_in cs)
  moved_clauses cs ds p q h = h ∙ (λ i. lifted_clauses_by t current (p i) (q i) (clauses_in cs))

  -- n: the number of the first function of a letrec in the form
  module _ (reach : Reach) (n : ℕ) where
    abbrev IsLifted : ℕ → Expr → Expr → Type 0
    IsLifted k x y = syntax_of y ≡ lifted_by t current reach k (syntax_of x)

    abbrev AreLifted : List Expr → List Expr → Type 0
    AreLifted xs ys = all_of ys ≡ lifted_all_by t current reach n (all_of xs)

    abbrev ClausesAreLifted : ℕ → List Clause → List Clause → Type 0
    ClausesAreLifted k cs ds =
        clauses_in ds ≡ lifted_clauses_by t current reach k (clauses_in cs)

    by_form : (z : Expr) {x y : Expr} {e : Syntax} → x ≡ y → syntax_of y ≡ e
        → syntax_of z ≡ lifted_by t current reach n e → IsLifted n x z
    by_form z is h k = k ∙ ap (lifted_by t current reach n) (sym (ap syntax_of is ∙ h))

    pub lifted-Tuple : {x : Expr} (site : ℕ) (xs ys : List Expr) → x ≡ e.Tuple site xs
        → AreLifted xs ys → IsLifted n x (e.Tuple site ys)
    lifted-Tuple site xs ys is h =
        by_form _ is (tree.syntax_of-Tuple site xs)
        (tree.syntax_of-Tuple site ys ∙ ap (s.Tuple site) h)

    pub lifted-List : {x : Expr} (site : ℕ) (xs ys : List Expr) (v w : Expr)
        → x ≡ e.List site xs v → AreLifted xs ys → IsLifted (next_all t.counts n (all_of xs)) v w
        → IsLifted n x (e.List site ys w)
    lifted-List site xs ys v w is h k =
        by_form _ is (tree.syntax_of-List site xs v)
        (tree.syntax_of-List site ys w ∙ (λ i. s.ListOf site (h i) (k i)))

    pub lifted-Values : {x : Expr} (xs ys : List Expr) → x ≡ e.Values xs → AreLifted xs ys
        → IsLifted n x (e.Values ys)
    lifted-Values xs ys is h =
        by_form _ is (tree.syntax_of-Values xs) (tree.syntax_of-Values ys ∙ ap s.Values h)

    pub lifted-Let : {x : Expr} (xs ys : List ℕ) (v w b c : Expr) → x ≡ e.Let xs v b → ys ≡ xs
        → IsLifted n v w → IsLifted (next_by t.counts n (syntax_of v)) b c
        → IsLifted n x (e.Let ys w c)
    lifted-Let xs ys v w b c is same h k =
        by_form _ is (tree.syntax_of-Let xs v b)
        (tree.syntax_of-Let ys w c ∙ (λ i. s.Let (same i) (h i) (k i)))

    pub lifted-Do : {x : Expr} (v w b c : Expr) → x ≡ e.Do v b → IsLifted n v w
        → IsLifted (next_by t.counts n (syntax_of v)) b c → IsLifted n x (e.Do w c)
    lifted-Do v w b c is h k =
        by_form _ is (tree.syntax_of-Do v b) (tree.syntax_of-Do w c ∙ (λ i. s.Do (h i) (k i)))

    pub lifted-Case : {x : Expr} (v w : Expr) (cs ds : List Clause) → x ≡ e.Case v cs
        → IsLifted n v w → ClausesAreLifted (next_by t.counts n (syntax_of v)) cs ds
        → IsLifted n x (e.Case w ds)
    lifted-Case v w cs ds is h k =
        by_form _ is (syntax-Case v cs) (syntax-Case w ds ∙ (λ i. s.Case (h i) (k i)))

    pub lifted-Letrec : {x : Expr} (fs : List Function) (b c d : Expr) {r : Reach} {k : ℕ}
        → x ≡ e.Letrec fs b → d ≡ b
        → r ≡ numbered t.counts n (definitions_of (map function_syntax fs)) ++ reach
        → k ≡ number_behind t.counts n (definitions_of (map function_syntax fs))
        → syntax_of c ≡ lifted_by t current r k (syntax_of d) → IsLifted n x c
    lifted-Letrec fs b c d is same around behind h =
        by_form c is (syntax-Letrec fs b)
        (moved d c around behind h
        ∙ ap
        (λ d. lifted_by t current
        (numbered t.counts n (definitions_of (map function_syntax fs)) ++ reach)
        (number_behind t.counts n (definitions_of (map function_syntax fs))) (syntax_of d))
        same)

    pub lifted-Apply : {x v w : Expr} (z : Expr) (f : FunName) (xs ys : List Expr) {r : Reach}
        → x ≡ e.Apply v xs → w ≡ v → w ≡ e.Name f → AreLifted xs ys → r ≡ reach
        → syntax_of z ≡ applied_by (captured_at t.captured) f (number_in r f)
        (number_at t.functions current f) (all_of ys)
        → IsLifted n x z
    lifted-Apply {v = v} z f xs ys is same name h around k =
        by_form z is
        (tree.syntax_of-Apply v xs
        ∙ ap (λ w. s.Apply w (all_of xs))
        (sym (ap syntax_of same) ∙ ap syntax_of name ∙ tree.syntax_of-Name f))
        (k ∙ (λ i. applied_by (captured_at t.captured) f (number_in (around i) f)
        (number_at t.functions current f) (h i)))

    pub lifted-Call : {x : Expr} (m k f g : Expr) (xs ys : List Expr) → x ≡ e.Call m f xs
        → k ≡ m → g ≡ f → AreLifted xs ys → IsLifted n x (e.Call k g ys)
    lifted-Call m k f g xs ys is one two h =
        by_form _ is (tree.syntax_of-Call m f xs)
        (tree.syntax_of-Call k g ys
        ∙ (λ i. s.Call (syntax_of (one i)) (syntax_of (two i)) (h i)))

    pub lifted-Primop : {x : Expr} (name : ℕ) (xs ys : List Expr) → x ≡ e.Primop name xs
        → AreLifted xs ys → IsLifted n x (e.Primop name ys)
    lifted-Primop name xs ys is h =
        by_form _ is (tree.syntax_of-Primop name xs)
        (tree.syntax_of-Primop name ys ∙ ap (s.Primop name) h)

    pub lifted-Receive : {x : Expr} (cs ds : List Clause) (v w b c : Expr)
        → x ≡ e.Receive cs v b → ClausesAreLifted n cs ds → w ≡ v
        → IsLifted (next_clauses t.counts n (clauses_in cs)) b c → IsLifted n x (e.Receive ds w c)
    lifted-Receive cs ds v w b c is h same k =
        by_form _ is (syntax-Receive cs v b)
        (syntax-Receive ds w c ∙ (λ i. s.Receive (h i) (syntax_of (same i)) (k i)))

    pub lifted-Try : {x : Expr} (v w : Expr) (xs ys : List ℕ) (b c : Expr) (zs us : List ℕ)
        (a d : Expr) → x ≡ e.Try v xs b zs a → IsLifted n v w → ys ≡ xs → c ≡ b → us ≡ zs → d ≡ a
        → IsLifted n x (e.Try w ys c us d)
    lifted-Try v w xs ys b c zs us a d is h one two three four =
        by_form _ is (tree.syntax_of-Try v xs b zs a)
        (tree.syntax_of-Try w ys c us d
        ∙ (λ i. s.Try (h i) (one i) (syntax_of (two i)) (three i) (syntax_of (four i))))

  -- the numbers behind forms with clauses and functions

  pub next-Case : (n : ℕ) {m l : ℕ} {x : Expr} (v : Expr) (cs : List Clause) → x ≡ e.Case v cs
      → m ≡ next_by t.counts n (syntax_of v) → l ≡ next_clauses t.counts m (clauses_in cs)
      → l ≡ next_by t.counts n (syntax_of x)
  next-Case n v cs is h k =
      k ∙ ap (λ m. next_clauses t.counts m (clauses_in cs)) h
      ∙ sym (ap (next_by t.counts n) (ap syntax_of is ∙ syntax-Case v cs))

  pub next-Letrec : (n : ℕ) {m l : ℕ} {x : Expr} (b d : Expr) (fs : List Function)
      → x ≡ e.Letrec fs b → d ≡ b
      → m ≡ number_behind t.counts n (definitions_of (map function_syntax fs))
      → l ≡ next_by t.counts m (syntax_of d) → l ≡ next_by t.counts n (syntax_of x)
  next-Letrec n b d fs is same h k =
      k ∙ (λ i. next_by t.counts (h i) (syntax_of (same i)))
      ∙ sym (ap (next_by t.counts n) (ap syntax_of is ∙ syntax-Letrec fs b))

  pub next-Receive : (n : ℕ) {m l : ℕ} {x : Expr} (v b : Expr) (cs : List Clause)
      → x ≡ e.Receive cs v b → m ≡ next_clauses t.counts n (clauses_in cs)
      → l ≡ next_by t.counts m (syntax_of b) → l ≡ next_by t.counts n (syntax_of x)
  next-Receive n v b cs is h k =
      k ∙ ap (λ m. next_by t.counts m (syntax_of b)) h
      ∙ sym (ap (next_by t.counts n) (ap syntax_of is ∙ syntax-Receive cs v b))
