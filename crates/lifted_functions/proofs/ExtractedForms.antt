-- What is extracted of a form with clauses or functions, from what is extracted of its parts.
use Rattle.std.proofs.Common.{◌≡◌, ℕ, List, ◌++◌, map, sym, ap, ◌∙◌}
use Rattle.hy_core.specs.Syntax.{Syntax, syntax_of, clauses_of, definitions_of}
use Rattle.hy_core.specs.declared.tree.Clause.{Clause}
use Rattle.hy_core.specs.declared.tree.Expr.{Expr}
use Rattle.hy_core.specs.declared.tree.Expr.TheVariants as e
use Rattle.hy_core.specs.declared.tree.Function.{Function}
use Rattle.letrec_names.specs.NestedCounts.{numbered}
use Rattle.letrec_names.specs.Parts.{clause_syntax, function_syntax}
use Rattle.letrec_names.proofs.FormSyntax.{syntax-Case, syntax-Letrec, syntax-Receive}
use Rattle.lifted_functions.specs.code.Extraction.{State, extracted_by, extracted_clauses_by}
use Rattle.lifted_functions.specs.code.Extraction.{extracted_functions_by}
use Rattle.lifted_functions.specs.declared.tables.Tables.{Tables}
use Rattle.lifted_program.specs.LetrecNumbers.{Reach}

-- st: what was extracted before the form
module _ (t : Tables) (current : ℕ) (reach : Reach) (st : State) where
  by_form : {w : State} {x y : Expr} {e : Syntax} → x ≡ y → syntax_of y ≡ e
      → w ≡ extracted_by t current reach st e → w ≡ extracted_by t current reach st (syntax_of x)
  by_form is h k = k ∙ sym (ap (extracted_by t current reach st) (ap syntax_of is ∙ h))

  pub extracted-Case : {u w : State} {x v d : Expr} {r : Reach} (cs : List Clause)
      → x ≡ e.Case v cs → d ≡ v → u ≡ extracted_by t current reach st (syntax_of d) → r ≡ reach
      → w ≡ extracted_clauses_by t current r u (clauses_of (map clause_syntax cs))
      → w ≡ extracted_by t current reach st (syntax_of x)
  extracted-Case {v = v} cs is same h around k =
      let first = h ∙ ap (λ d. extracted_by t current reach st (syntax_of d)) same in
      by_form is (syntax-Case v cs)
      (k
      ∙ (λ i. extracted_clauses_by t current (around i) (first i)
      (clauses_of (map clause_syntax cs))))

  pub extracted-Letrec : {u w : State} {x b d : Expr} {r : Reach} (s : Reach) (fs : List Function)
      → x ≡ e.Letrec fs b → d ≡ b
      → s ≡ numbered t.counts st.next (definitions_of (map function_syntax fs)) ++ reach
      → u ≡ extracted_functions_by t current s st (definitions_of (map function_syntax fs))
      → r ≡ s → w ≡ extracted_by t current r u (syntax_of d)
      → w ≡ extracted_by t current reach st (syntax_of x)
  extracted-Letrec {b = b} s fs is same entered h around k =
      let ds = definitions_of (map function_syntax fs) in
      by_form is (syntax-Letrec fs b)
      (k ∙ (λ i. extracted_by t current (around i) (h i) (syntax_of (same i)))
      ∙ ap
      (λ s. extracted_by t current s (extracted_functions_by t current s st ds) (syntax_of b))
      entered)

  pub extracted-Receive : {u w : State} {x b d : Expr} {r : Reach} (v : Expr) (cs : List Clause)
      → x ≡ e.Receive cs v b
      → u ≡ extracted_clauses_by t current reach st (clauses_of (map clause_syntax cs))
      → r ≡ reach → d ≡ b → w ≡ extracted_by t current r u (syntax_of d)
      → w ≡ extracted_by t current reach st (syntax_of x)
  extracted-Receive {b = b} v cs is h around same k =
      by_form is (syntax-Receive cs v b)
      (k ∙ (λ i. extracted_by t current (around i) (h i) (syntax_of (same i))))
