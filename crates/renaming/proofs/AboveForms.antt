-- The limit above a form, from the limits above its parts.
use Rattle.std.proofs.Common.{◌≡◌, ℕ, ◌+◌, ◌<◌, List, [], ◌∷◌, ◌++◌, map, length, take}
use Rattle.std.proofs.Common.{refl, sym, ap, ◌∙◌}
use Rattle.std.specs.List.{slice_index_or}
use Rattle.std.proofs.lemmas.List.{map-append}
use Rattle.hy_core.specs.Resolved.{Pattern}
use Rattle.hy_core.specs.Syntax.{Syntax, ClauseSyntax, DefinitionSyntax, syntax_of}
use Rattle.hy_core.specs.Syntax.{syntaxes_of, clauses_of, definitions_of, patterns_of}
use Rattle.hy_core.specs.declared.tree.Clause.{Clause}
use Rattle.hy_core.specs.declared.tree.Expr.{Expr}
use Rattle.hy_core.specs.declared.tree.Expr.TheVariants as e
use Rattle.hy_core.specs.declared.tree.Function.{Function}
use Rattle.renaming.specs.VariableLimit.{above_each, above_pattern, above_patterns, above_syntax}
use Rattle.renaming.specs.VariableLimit.{above_syntaxes, above_clause, above_clauses}
use Rattle.renaming.specs.VariableLimit.{above_definition, above_definitions}
use Rattle.renaming.specs.RenamedSyntax.{clause_syntax, function_syntax}
use Rattle.renaming.proofs.Binding.{one_more}
use Rattle.renaming.proofs.RenamedForms.{syntax-Case, syntax-Letrec, syntax-Receive}

-- one more of a list
module _ {A : Type 0} (f : ℕ → A → ℕ) where
  above-more : (n : ℕ) (xs : List A) (x : A) → above_each f n (xs ++ x ∷ [])
      ≡ f (above_each f n xs) x
  above-more n [] x = refl
  above-more n (y ∷ xs) x = above-more (f n y) xs x

pub above_step : {A B : Type 0} (f : ℕ → B → ℕ) (shape : A → B) (n : ℕ) {m l : ℕ} (xs : List A)
    (i : ℕ) (x : A) → i < length xs → x ≡ slice_index_or xs i x
    → m ≡ above_each f n (map shape (take i xs)) → l ≡ f m (shape x)
    → l ≡ above_each f n (map shape (take (i + 1) xs))
above_step f shape n xs i x below is h k =
    k ∙ ap (λ m. f m (shape x)) h ∙ sym (above-more f n (map shape (take i xs)) (shape x))
    ∙ ap (above_each f n) (sym (map-append shape (take i xs) (x ∷ [])))
    ∙ ap (λ l. above_each f n (map shape l)) (one_more xs i x below is)

pub above_step_bare : {A : Type 0} (f : ℕ → A → ℕ) (n : ℕ) {m l : ℕ} (xs : List A) (i : ℕ) (x : A)
    → i < length xs → x ≡ slice_index_or xs i x → m ≡ above_each f n (take i xs) → l ≡ f m x
    → l ≡ above_each f n (take (i + 1) xs)
above_step_bare f n xs i x below is h k =
    k ∙ ap (λ m. f m x) h ∙ sym (above-more f n (take i xs) x)
    ∙ ap (above_each f n) (one_more xs i x below is)

-- the parts of a form as a list
pub above-patterns : (n : ℕ) (ps : List Pattern)
    → above_each above_pattern n ps ≡ above_patterns n (patterns_of ps)
above-patterns n [] = refl
above-patterns n (p ∷ ps) = above-patterns (above_pattern n p) ps

pub above-syntaxes : (n : ℕ) (es : List Syntax)
    → above_each above_syntax n es ≡ above_syntaxes n (syntaxes_of es)
above-syntaxes n [] = refl
above-syntaxes n (e ∷ es) = above-syntaxes (above_syntax n e) es

pub above-clauses : (n : ℕ) (cs : List ClauseSyntax)
    → above_each above_clause n cs ≡ above_clauses n (clauses_of cs)
above-clauses n [] = refl
above-clauses n (c ∷ cs) = above-clauses (above_clause n c) cs

pub above-definitions : (n : ℕ) (fs : List DefinitionSyntax)
    → above_each above_definition n fs ≡ above_definitions n (definitions_of fs)
above-definitions n [] = refl
above-definitions n (f ∷ fs) = above-definitions (above_definition n f) fs

pub above-append : {A : Type 0} (f : ℕ → A → ℕ) (n : ℕ) (xs ys : List A)
    → above_each f n (xs ++ ys) ≡ above_each f (above_each f n xs) ys
above-append f n [] ys = refl
above-append f n (x ∷ xs) ys = above-append f (f n x) xs ys

-- the forms with clauses or functions
pub above-Case : (n m l : ℕ) (x v : Expr) (cs : List Clause) → x ≡ e.Case v cs
    → m ≡ above_syntax n (syntax_of v) → l ≡ above_clauses m (clauses_of (map clause_syntax cs))
    → l ≡ above_syntax n (syntax_of x)
above-Case n m l x v cs is h k =
    k ∙ ap (λ m. above_clauses m (clauses_of (map clause_syntax cs))) h
    ∙ sym (ap (above_syntax n) (ap syntax_of is ∙ syntax-Case v cs))

pub above-Letrec : (n m l : ℕ) (x b : Expr) (fs : List Function) → x ≡ e.Letrec fs b
    → m ≡ above_definitions n (definitions_of (map function_syntax fs))
    → l ≡ above_syntax m (syntax_of b) → l ≡ above_syntax n (syntax_of x)
above-Letrec n m l x b fs is h k =
    k ∙ ap (λ m. above_syntax m (syntax_of b)) h
    ∙ sym (ap (above_syntax n) (ap syntax_of is ∙ syntax-Letrec fs b))

pub above-Receive : (n m k l : ℕ) (x t b : Expr) (cs : List Clause) → x ≡ e.Receive cs t b
    → m ≡ above_clauses n (clauses_of (map clause_syntax cs)) → k ≡ above_syntax m (syntax_of t)
    → l ≡ above_syntax k (syntax_of b) → l ≡ above_syntax n (syntax_of x)
above-Receive n m k l x t b cs is h i j =
    j ∙ ap (λ k. above_syntax k (syntax_of b)) i
    ∙ ap (λ m. above_syntax (above_syntax m (syntax_of t)) (syntax_of b)) h
    ∙ sym (ap (above_syntax n) (ap syntax_of is ∙ syntax-Receive cs t b))
