-- Lists whose parts are gone through one after another.
use Rattle.std.proofs.Common.{◌≡◌, ℕ, ◌+◌, ◌<◌, List, [], ◌∷◌, ◌++◌, map, length, take, fold}
use Rattle.std.proofs.Common.{refl, sym, ap, ◌∙◌}
use Rattle.std.specs.List.{slice_index_or}
use Rattle.std.proofs.lemmas.List.{map-append, take_more}
use Rattle.hy_core.specs.Syntax.{Syntax, MoreSyntax, MoreClauses, ClauseSyntax, DefinitionSyntax}
use Rattle.hy_core.specs.Syntax.{syntaxes_of, clauses_of, definitions_of}
use Rattle.letrec_names.specs.NestedCounts.{Counts}
use Rattle.lifted_functions.specs.code.Extraction.{State, extracted_by, extracted_all_by}
use Rattle.lifted_functions.specs.code.Extraction.{extracted_clause_by, extracted_clauses_by}
use Rattle.lifted_functions.specs.code.Extraction.{extracted_definition_by, extracted_functions_by}
use Rattle.lifted_functions.specs.code.Lifting.{lifted_by, lifted_all_by}
use Rattle.lifted_functions.specs.code.Lifting.{lifted_clause_by, lifted_clauses_by, next_by}
use Rattle.lifted_functions.specs.code.Lifting.{next_all, next_clause, next_clauses}
use Rattle.lifted_functions.specs.declared.tables.Tables.{Tables}
use Rattle.lifted_program.specs.LetrecNumbers.{Reach}

one_more : {A : Type 0} (xs : List A) (i : ℕ) (x : A) → i < length xs
    → x ≡ slice_index_or xs i x → take i xs ++ x ∷ [] ≡ take (i + 1) xs
one_more xs i x below is =
    ap (λ z. take i xs ++ z ∷ []) is ∙ sym (take_more xs i x below)

-- parts of a list, one after another, each with its own number
abbrev pub each_by : {A B : Type 0} → (ℕ → A → ℕ) → (ℕ → A → B) → (n : ℕ) → List A → List B
each_by next made n [] = []
each_by next made n (x ∷ xs) = made n x ∷ each_by next made (next n x) xs

fold-more : {S B : Type 0} (f : S → B → S) (s : S) (xs : List B) (x : B)
    → fold f s (xs ++ x ∷ []) ≡ f (fold f s xs) x
fold-more f s [] x = refl
fold-more f s (y ∷ xs) x = fold-more f (f s y) xs x

-- one more is gone through
pub fold_step : {S A B : Type 0} (f : S → B → S) (shape : A → B) (start : S) {s r : S} (xs : List A)
    (i : ℕ) (x : A) → i < length xs → x ≡ slice_index_or xs i x
    → s ≡ fold f start (map shape (take i xs)) → r ≡ f s (shape x)
    → r ≡ fold f start (map shape (take (i + 1) xs))
fold_step f shape start xs i x below is h k =
    k ∙ ap (λ s. f s (shape x)) h ∙ sym (fold-more f start (map shape (take i xs)) (shape x))
    ∙ ap (fold f start) (sym (map-append shape (take i xs) (x ∷ [])))
    ∙ ap (λ l. fold f start (map shape l)) (one_more xs i x below is)

module _ {B : Type 0} (next : ℕ → B → ℕ) (made : ℕ → B → B) where
  each-more : (n : ℕ) (xs : List B) (x : B) → each_by next made n (xs ++ x ∷ [])
      ≡ each_by next made n xs ++ made (fold next n xs) x ∷ []
  each-more n [] x = refl
  each-more n (y ∷ xs) x = ap (◌∷◌ (made n y)) (each-more (next n y) xs x)

  -- one more is made
  pub each_step : {A : Type 0} (shape : A → B) (n : ℕ) (xs : List A) (i : ℕ) (x : A)
      (ys : List A) (y : A) {zs : List A} {m : ℕ} → i < length xs → x ≡ slice_index_or xs i x
      → map shape ys ≡ each_by next made n (map shape (take i xs))
      → m ≡ fold next n (map shape (take i xs)) → shape y ≡ made m (shape x)
      → zs ≡ ys ++ y ∷ [] → map shape zs ≡ each_by next made n (map shape (take (i + 1) xs))
  each_step shape n xs i x ys y below is h e k q =
      ap (map shape) q ∙ map-append shape ys (y ∷ [])
      ∙ (λ j. h j ++ (k ∙ ap (λ m. made m (shape x)) e) j ∷ [])
      ∙ sym (each-more n (map shape (take i xs)) (shape x))
      ∙ ap (each_by next made n)
      (sym (map-append shape (take i xs) (x ∷ [])) ∙ ap (map shape) (one_more xs i x below is))

-- the parts of a form as a list

module _ (c : Counts) where
  pub next-all : (n : ℕ) (es : List Syntax) → fold (next_by c) n es ≡ next_all c n (syntaxes_of es)
  next-all n [] = refl
  next-all n (e ∷ es) = next-all (next_by c n e) es

  pub next-clauses : (n : ℕ) (cs : List ClauseSyntax)
      → fold (next_clause c) n cs ≡ next_clauses c n (clauses_of cs)
  next-clauses n [] = refl
  next-clauses n (k ∷ cs) = next-clauses (next_clause c n k) cs

module _ (t : Tables) (current : ℕ) (reach : Reach) where
  pub lifted-all : (n : ℕ) (es : List Syntax)
      → syntaxes_of (each_by (next_by t.counts) (lifted_by t current reach) n es)
      ≡ lifted_all_by t current reach n (syntaxes_of es)
  lifted-all n [] = refl
  lifted-all n (e ∷ es) =
      ap (MoreSyntax (lifted_by t current reach n e)) (lifted-all (next_by t.counts n e) es)

  pub lifted-clauses : (n : ℕ) (cs : List ClauseSyntax)
      → clauses_of (each_by (next_clause t.counts) (lifted_clause_by t current reach) n cs)
      ≡ lifted_clauses_by t current reach n (clauses_of cs)
  lifted-clauses n [] = refl
  lifted-clauses n (c ∷ cs) =
      let between = next_by t.counts n c.guard in
      ap (MoreClauses c.patterns (lifted_by t current reach n c.guard)
      (lifted_by t current reach between c.body)) (lifted-clauses (next_clause t.counts n c) cs)

  pub extracted-all : (st : State) (es : List Syntax)
      → fold (extracted_by t current reach) st es
      ≡ extracted_all_by t current reach st (syntaxes_of es)
  extracted-all st [] = refl
  extracted-all st (e ∷ es) = extracted-all (extracted_by t current reach st e) es

  pub extracted-clauses : (st : State) (cs : List ClauseSyntax)
      → fold (extracted_clause_by t current reach) st cs
      ≡ extracted_clauses_by t current reach st (clauses_of cs)
  extracted-clauses st [] = refl
  extracted-clauses st (c ∷ cs) = extracted-clauses (extracted_clause_by t current reach st c) cs

  pub extracted-functions : (st : State) (fs : List DefinitionSyntax)
      → fold (extracted_definition_by t current reach) st fs
      ≡ extracted_functions_by t current reach st (definitions_of fs)
  extracted-functions st [] = refl
  extracted-functions st (f ∷ fs) =
      extracted-functions (extracted_definition_by t current reach st f) fs
