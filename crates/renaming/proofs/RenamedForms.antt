-- A form whose parts are renamed is renamed.
use Rattle.std.proofs.Common.{◌≡◌, ℕ, ◌+◌, ◌<◌, List, [], ◌∷◌, ◌++◌, map, length, take}
use Rattle.std.proofs.Common.{refl, sym, ap, ◌∙◌}
use Rattle.std.specs.List.{slice_index_or}
use Rattle.std.proofs.lemmas.List.{map-append}
use Rattle.hy_core.specs.Resolved.{Patterns}
use Rattle.hy_core.specs.declared.tree.Pattern.{Pattern}
use Rattle.hy_core.specs.Scopes.{Scope, with_variables, with_patterns}
use Rattle.hy_core.specs.Syntax as s
use Rattle.hy_core.specs.Syntax.{Syntax, ClauseSyntax, DefinitionSyntax, syntax_of, pattern_of}
use Rattle.hy_core.specs.Syntax.{patterns_of, syntaxes_of, clauses_of, definitions_of}
use Rattle.hy_core.specs.declared.tree.Clause.{Clause}
use Rattle.hy_core.specs.declared.tree.Expr.{Expr}
use Rattle.hy_core.specs.declared.tree.Expr.TheVariants as e
use Rattle.hy_core.specs.declared.tree.Function.{Function}
use Rattle.hy_core.proofs.SyntaxLemmas as tree
use Rattle.hy_core.proofs.SyntaxLemmas.{clause_of, definition_of, clause_of-is, definition_of-is}
use Rattle.lifted_program.specs.Renaming.{names_for, renamed_patterns}
use Rattle.renaming.specs.RenamedSyntax.{clause_syntax, function_syntax, renamed_syntax}
use Rattle.renaming.specs.RenamedSyntax.{renamed_syntaxes, renamed_clauses, renamed_definitions}
use Rattle.renaming.specs.RenamedSyntax.{renamed_clause, renamed_definition}
use Rattle.renaming.proofs.Binding.{one_more}

clauses_are : (cs : List Clause) → map clause_of cs ≡ map clause_syntax cs
clauses_are [] = refl
clauses_are (c ∷ cs) = λ i. clause_of-is c i ∷ clauses_are cs i

functions_are : (fs : List Function) → map definition_of fs ≡ map function_syntax fs
functions_are [] = refl
functions_are (f ∷ fs) = λ i. definition_of-is f i ∷ functions_are fs i

pub syntax-Case : (v : Expr) (cs : List Clause)
    → syntax_of (e.Case v cs) ≡ s.Case (syntax_of v) (clauses_of (map clause_syntax cs))
syntax-Case v cs =
    tree.syntax_of-Case v cs ∙ ap (λ l. s.Case (syntax_of v) (clauses_of l)) (clauses_are cs)

pub syntax-Letrec : (fs : List Function) (b : Expr)
    → syntax_of (e.Letrec fs b) ≡ s.Letrec (definitions_of (map function_syntax fs)) (syntax_of b)
syntax-Letrec fs b =
    tree.syntax_of-Letrec fs b
    ∙ ap (λ l. s.Letrec (definitions_of l) (syntax_of b)) (functions_are fs)

pub syntax-Receive : (cs : List Clause) (t b : Expr)
    → syntax_of (e.Receive cs t b)
    ≡ s.Receive (clauses_of (map clause_syntax cs)) (syntax_of t) (syntax_of b)
syntax-Receive cs t b =
    tree.syntax_of-Receive cs t b
    ∙ ap (λ l. s.Receive (clauses_of l) (syntax_of t) (syntax_of b)) (clauses_are cs)

module _ (limit : ℕ) (scope : Scope) where
  all_renamed : (es : List Syntax)
      → syntaxes_of (map (renamed_syntax limit scope) es)
      ≡ renamed_syntaxes limit scope (syntaxes_of es)
  all_renamed [] = refl
  all_renamed (e ∷ es) = ap (s.MoreSyntax (renamed_syntax limit scope e)) (all_renamed es)

  clauses_renamed : (cs : List ClauseSyntax)
      → clauses_of (map (renamed_clause limit scope) cs)
      ≡ renamed_clauses limit scope (clauses_of cs)
  clauses_renamed [] = refl
  clauses_renamed (c ∷ cs) =
      let inside = with_patterns scope c.patterns in
      ap (s.MoreClauses (renamed_patterns limit scope c.patterns)
      (renamed_syntax limit inside c.guard) (renamed_syntax limit inside c.body))
      (clauses_renamed cs)

  definitions_renamed : (fs : List DefinitionSyntax)
      → definitions_of (map (renamed_definition limit scope) fs)
      ≡ renamed_definitions limit scope (definitions_of fs)
  definitions_renamed [] = refl
  definitions_renamed (f ∷ fs) =
      ap (s.MoreDefinitions f.name (names_for limit scope f.parameters)
      (renamed_syntax limit (with_variables scope f.parameters) f.body))
      (definitions_renamed fs)

  -- what the code knows of parts
  abbrev IsRenamed : Expr → Expr → Type 0
  IsRenamed x y = syntax_of y ≡ renamed_syntax limit scope (syntax_of x)

  abbrev AreRenamed : List Expr → List Expr → Type 0
  AreRenamed xs ys = map syntax_of ys ≡ map (renamed_syntax limit scope) (map syntax_of xs)

  abbrev ClausesAreRenamed : List Clause → List Clause → Type 0
  ClausesAreRenamed xs ys =
      map clause_syntax ys ≡ map (renamed_clause limit scope) (map clause_syntax xs)

  abbrev FunctionsAreRenamed : List Function → List Function → Type 0
  FunctionsAreRenamed xs ys =
      map function_syntax ys ≡ map (renamed_definition limit scope) (map function_syntax xs)

  by_form : (z : Expr) {x y : Expr} {e : Syntax} → x ≡ y → syntax_of y ≡ e
      → syntax_of z ≡ renamed_syntax limit scope e → IsRenamed x z
  by_form z is h k = k ∙ ap (renamed_syntax limit scope) (sym (ap syntax_of is ∙ h))

  parts : (xs ys : List Expr) → AreRenamed xs ys
      → syntaxes_of (map syntax_of ys)
      ≡ renamed_syntaxes limit scope (syntaxes_of (map syntax_of xs))
  parts xs ys h = ap syntaxes_of h ∙ all_renamed (map syntax_of xs)

  clause_parts : (xs ys : List Clause) → ClausesAreRenamed xs ys
      → clauses_of (map clause_syntax ys)
      ≡ renamed_clauses limit scope (clauses_of (map clause_syntax xs))
  clause_parts xs ys h = ap clauses_of h ∙ clauses_renamed (map clause_syntax xs)

  function_parts : (xs ys : List Function) → FunctionsAreRenamed xs ys
      → definitions_of (map function_syntax ys)
      ≡ renamed_definitions limit scope (definitions_of (map function_syntax xs))
  function_parts xs ys h = ap definitions_of h ∙ definitions_renamed (map function_syntax xs)

  pub renamed-Tuple : {x : Expr} (site : ℕ) (xs ys : List Expr) → x ≡ e.Tuple site xs
      → AreRenamed xs ys → IsRenamed x (e.Tuple site ys)
  renamed-Tuple site xs ys is h =
      by_form _ is (tree.syntax_of-Tuple site xs)
      (tree.syntax_of-Tuple site ys ∙ ap (s.Tuple site) (parts xs ys h))

  pub renamed-List : {x : Expr} (site : ℕ) (xs ys : List Expr) (t u : Expr)
      → x ≡ e.List site xs t → AreRenamed xs ys → IsRenamed t u → IsRenamed x (e.List site ys u)
  renamed-List site xs ys t u is h k =
      by_form _ is (tree.syntax_of-List site xs t)
      (tree.syntax_of-List site ys u ∙ (λ i. s.ListOf site (parts xs ys h i) (k i)))

  pub renamed-Values : {x : Expr} (xs ys : List Expr) → x ≡ e.Values xs → AreRenamed xs ys
      → IsRenamed x (e.Values ys)
  renamed-Values xs ys is h =
      by_form _ is (tree.syntax_of-Values xs)
      (tree.syntax_of-Values ys ∙ ap s.Values (parts xs ys h))

  pub renamed-Do : {x : Expr} (v w b c : Expr) → x ≡ e.Do v b → IsRenamed v w → IsRenamed b c
      → IsRenamed x (e.Do w c)
  renamed-Do v w b c is h k =
      by_form _ is (tree.syntax_of-Do v b) (tree.syntax_of-Do w c ∙ (λ i. s.Do (h i) (k i)))

  pub renamed-Case : {x : Expr} (v w : Expr) (cs ds : List Clause) → x ≡ e.Case v cs
      → IsRenamed v w → ClausesAreRenamed cs ds → IsRenamed x (e.Case w ds)
  renamed-Case v w cs ds is h k =
      by_form _ is (syntax-Case v cs)
      (syntax-Case w ds ∙ (λ i. s.Case (h i) (clause_parts cs ds k i)))

  pub renamed-Letrec : {x : Expr} (fs gs : List Function) (b c : Expr) → x ≡ e.Letrec fs b
      → FunctionsAreRenamed fs gs → IsRenamed b c → IsRenamed x (e.Letrec gs c)
  renamed-Letrec fs gs b c is h k =
      by_form _ is (syntax-Letrec fs b)
      (syntax-Letrec gs c ∙ (λ i. s.Letrec (function_parts fs gs h i) (k i)))

  pub renamed-Apply : {x : Expr} (v w : Expr) (xs ys : List Expr) → x ≡ e.Apply v xs
      → IsRenamed v w → AreRenamed xs ys → IsRenamed x (e.Apply w ys)
  renamed-Apply v w xs ys is h k =
      by_form _ is (tree.syntax_of-Apply v xs)
      (tree.syntax_of-Apply w ys ∙ (λ i. s.Apply (h i) (parts xs ys k i)))

  pub renamed-Call : {x : Expr} (m n f g : Expr) (xs ys : List Expr) → x ≡ e.Call m f xs
      → IsRenamed m n → IsRenamed f g → AreRenamed xs ys → IsRenamed x (e.Call n g ys)
  renamed-Call m n f g xs ys is h k j =
      by_form _ is (tree.syntax_of-Call m f xs)
      (tree.syntax_of-Call n g ys ∙ (λ i. s.Call (h i) (k i) (parts xs ys j i)))

  pub renamed-Primop : {x : Expr} (name : ℕ) (xs ys : List Expr) → x ≡ e.Primop name xs
      → AreRenamed xs ys → IsRenamed x (e.Primop name ys)
  renamed-Primop name xs ys is h =
      by_form _ is (tree.syntax_of-Primop name xs)
      (tree.syntax_of-Primop name ys ∙ ap (s.Primop name) (parts xs ys h))

  pub renamed-Receive : {x : Expr} (cs ds : List Clause) (t u b c : Expr)
      → x ≡ e.Receive cs t b → ClausesAreRenamed cs ds → IsRenamed t u → IsRenamed b c
      → IsRenamed x (e.Receive ds u c)
  renamed-Receive cs ds t u b c is h k j =
      by_form _ is (syntax-Receive cs t b)
      (syntax-Receive ds u c ∙ (λ i. s.Receive (clause_parts cs ds h i) (k i) (j i)))

  pub renamed-Catch : {x : Expr} (b c : Expr) → x ≡ e.Catch b → IsRenamed b c
      → IsRenamed x (e.Catch c)
  renamed-Catch b c is h =
      by_form _ is (tree.syntax_of-Catch b) (tree.syntax_of-Catch c ∙ ap s.Catch h)

  -- an expression under variables
  abbrev IsRenamedUnder : List ℕ → Expr → Expr → Type 0
  IsRenamedUnder xs b c =
      syntax_of c ≡ renamed_syntax limit (with_variables scope xs) (syntax_of b)

  pub renamed-Let : {x : Expr} (xs ys : List ℕ) (v w b c : Expr) → x ≡ e.Let xs v b
      → ys ≡ names_for limit scope xs → IsRenamed v w → IsRenamedUnder xs b c
      → IsRenamed x (e.Let ys w c)
  renamed-Let xs ys v w b c is n h k =
      by_form _ is (tree.syntax_of-Let xs v b)
      (tree.syntax_of-Let ys w c ∙ (λ i. s.Let (n i) (h i) (k i)))

  pub renamed-Fun : {x : Expr} (xs ys : List ℕ) (b c : Expr) → x ≡ e.Fun xs b
      → ys ≡ names_for limit scope xs → IsRenamedUnder xs b c → IsRenamed x (e.Fun ys c)
  renamed-Fun xs ys b c is n k =
      by_form _ is (tree.syntax_of-Fun xs b)
      (tree.syntax_of-Fun ys c ∙ (λ i. s.Fun (n i) (k i)))

  pub renamed-Try : {x : Expr} (v w : Expr) (xs ys : List ℕ) (b c : Expr) (zs us : List ℕ)
      (a d : Expr) → x ≡ e.Try v xs b zs a → IsRenamed v w → ys ≡ names_for limit scope xs
      → IsRenamedUnder xs b c → us ≡ names_for limit scope zs → IsRenamedUnder zs a d
      → IsRenamed x (e.Try w ys c us d)
  renamed-Try v w xs ys b c zs us a d is h n k m j =
      by_form _ is (tree.syntax_of-Try v xs b zs a)
      (tree.syntax_of-Try w ys c us d ∙ (λ i. s.Try (h i) (n i) (k i) (m i) (j i)))

-- a list, one more of which is renamed
module _ {A B : Type 0} (shape : A → B) (change : B → B) where
  pub map_step : (xs : List A) (i : ℕ) (x : A) (ys : List A) (y : A) {zs : List A}
      → i < length xs → x ≡ slice_index_or xs i x
      → map shape ys ≡ map change (map shape (take i xs)) → shape y ≡ change (shape x)
      → zs ≡ ys ++ y ∷ [] → map shape zs ≡ map change (map shape (take (i + 1) xs))
  map_step xs i x ys y below is h k q =
      ap (map shape) q ∙ map-append shape ys (y ∷ [])
      ∙ (λ j. h j ++ k j ∷ [])
      ∙ sym (map-append change (map shape (take i xs)) (shape x ∷ []))
      ∙ ap (map change) (sym (map-append shape (take i xs) (x ∷ [])))
      ∙ ap (λ l. map change (map shape l)) (one_more xs i x below is)

-- the same in another scope that is equal
module _ (limit : ℕ) where
  pub moved : (x y : Expr) {s t : Scope} → t ≡ s
      → syntax_of y ≡ renamed_syntax limit t (syntax_of x)
      → syntax_of y ≡ renamed_syntax limit s (syntax_of x)
  moved x y p h = h ∙ ap (λ s. renamed_syntax limit s (syntax_of x)) p

  pub moved_all : (xs ys : List Expr) {s t : Scope} → t ≡ s
      → map syntax_of ys ≡ map (renamed_syntax limit t) (map syntax_of xs)
      → map syntax_of ys ≡ map (renamed_syntax limit s) (map syntax_of xs)
  moved_all xs ys p h = h ∙ ap (λ s. map (renamed_syntax limit s) (map syntax_of xs)) p

  pub moved_clauses : (xs ys : List Clause) {s t : Scope} → t ≡ s
      → map clause_syntax ys ≡ map (renamed_clause limit t) (map clause_syntax xs)
      → map clause_syntax ys ≡ map (renamed_clause limit s) (map clause_syntax xs)
  moved_clauses xs ys p h = h ∙ ap (λ s. map (renamed_clause limit s) (map clause_syntax xs)) p

  pub moved_bound : (vars : List ℕ) (x y : Expr) {s t : Scope} → t ≡ s
      → syntax_of y ≡ renamed_syntax limit (with_variables t vars) (syntax_of x)
      → syntax_of y ≡ renamed_syntax limit (with_variables s vars) (syntax_of x)
  moved_bound vars x y p h =
      h ∙ ap (λ s. renamed_syntax limit (with_variables s vars) (syntax_of x)) p

  -- a clause and a function from their parts
  pub clause-made : (s : Scope) (x : Clause) (qs ps : List Pattern) (g b : Expr)
      → qs ≡ x.patterns
      → patterns_of (map pattern_of ps)
      ≡ renamed_patterns limit s (patterns_of (map pattern_of qs))
      → syntax_of g
      ≡ renamed_syntax limit (with_patterns s (patterns_of (map pattern_of qs))) (syntax_of x.guard)
      → syntax_of b
      ≡ renamed_syntax limit (with_patterns s (patterns_of (map pattern_of qs))) (syntax_of x.body)
      → clause_syntax (record { patterns = ps; guard = g; body = b })
      ≡ renamed_clause limit s (clause_syntax x)
  clause-made s x qs ps g b is p h k =
      let shape : List Pattern → Patterns = λ qs. patterns_of (map pattern_of qs) in
      let under = λ (e : Syntax). λ (qs : List Pattern).
      renamed_syntax limit (with_patterns s (shape qs)) e in
      let patterns = p ∙ ap (λ qs. renamed_patterns limit s (shape qs)) is in
      let guard = h ∙ ap (under (syntax_of x.guard)) is in
      let body = k ∙ ap (under (syntax_of x.body)) is in
      λ i. record { patterns = patterns i; guard = guard i; body = body i }

  pub function-made : (s : Scope) (x : Function) (ys : List ℕ) (b : Expr)
      → ys ≡ names_for limit s x.params
      → syntax_of b ≡ renamed_syntax limit (with_variables s x.params) (syntax_of x.body)
      → function_syntax (record { name = x.name; params = ys; body = b })
      ≡ renamed_definition limit s (function_syntax x)
  function-made s x ys b n k = λ i. record { name = x.name; parameters = n i; body = k i }
