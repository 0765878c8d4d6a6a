-- What is gathered of forms with clauses or functions, from their parts.
use Rattle.std.proofs.Common.{◌≡◌, ℕ, List, map, length, sym, ap, ◌∙◌}
use Rattle.hy_core.specs.Syntax.{syntax_of, clauses_of, definitions_of}
use Rattle.hy_core.specs.declared.tree.Clause.{Clause}
use Rattle.hy_core.specs.declared.tree.Expr.{Expr}
use Rattle.hy_core.specs.declared.tree.Expr.TheVariants as e
use Rattle.hy_core.specs.declared.tree.Function.{Function}
use Rattle.captured_facts.specs.declared.owner.Owner.{Owner}
use Rattle.captured_syntax.specs.Gathered.{Gathering, leaving}
use Rattle.letrec_names.specs.NestedCounts.{Counts}
use Rattle.letrec_names.specs.Parts.{clause_syntax, function_syntax}
use Rattle.letrec_names.proofs.FormSyntax.{syntax-Case, syntax-Letrec, syntax-Receive}
use Rattle.captured_variables.specs.code.Walked.{entering_by, walked, walked_clauses}
use Rattle.captured_variables.specs.code.Walked.{walked_definitions}

module _ (c : Counts) (o : Owner) (w : Gathering) where
  pub walked-Case : {v : Gathering} {x : Expr} (value : Expr) (cs : List Clause)
      → x ≡ e.Case value cs → v ≡ walked c o w (syntax_of value)
      → walked_clauses c o v (clauses_of (map clause_syntax cs)) ≡ walked c o w (syntax_of x)
  walked-Case value cs is h =
      ap (λ v. walked_clauses c o v (clauses_of (map clause_syntax cs))) h
      ∙ sym (ap (walked c o w) (ap syntax_of is ∙ syntax-Case value cs))

  pub walked-Letrec : {x : Expr} (fs gs : List Function) (b d : Expr) {v u t s : Gathering}
      {height : ℕ} → x ≡ e.Letrec fs b → height ≡ length w.around → gs ≡ fs
      → v ≡ entering_by c w (definitions_of (map function_syntax gs))
      → u ≡ walked_definitions c o v (definitions_of (map function_syntax fs)) → d ≡ b
      → t ≡ walked c o u (syntax_of d) → s ≡ leaving height t → s ≡ walked c o w (syntax_of x)
  walked-Letrec fs gs b d {v} {u} {t} {s} {height} is high same entered functions own body left =
      let definitions = definitions_of (map function_syntax fs) in
      let inside : v ≡ entering_by c w definitions =
      entered ∙ ap (λ l. entering_by c w (definitions_of (map function_syntax l))) same in
      let behind : u ≡ walked_definitions c o (entering_by c w definitions) definitions =
      functions ∙ ap (λ v. walked_definitions c o v definitions) inside in
      let whole = body ∙ (λ i. walked c o (behind i) (syntax_of (own i))) in
      left ∙ (λ i. leaving (high i) (whole i))
      ∙ sym (ap (walked c o w) (ap syntax_of is ∙ syntax-Letrec fs b))

  pub walked-Receive : {v : Gathering} {x : Expr} (cs : List Clause) (t b : Expr)
      → x ≡ e.Receive cs t b → v ≡ walked_clauses c o w (clauses_of (map clause_syntax cs))
      → walked c o v (syntax_of b) ≡ walked c o w (syntax_of x)
  walked-Receive cs t b is h =
      ap (λ v. walked c o v (syntax_of b)) h
      ∙ sym (ap (walked c o w) (ap syntax_of is ∙ syntax-Receive cs t b))
