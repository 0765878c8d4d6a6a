-- What a walk finds in forms with clauses or functions, or with parts that are walked aside, from
-- what it finds in their parts.
use Rattle.std.proofs.Common.{◌≡◌, ℕ, List, map, sym, ap, ◌∙◌}
use Rattle.hy_core.specs.Syntax.{syntax_of, clauses_of, definitions_of}
use Rattle.hy_core.specs.declared.tree.Clause.{Clause}
use Rattle.hy_core.specs.declared.tree.Expr.{Expr}
use Rattle.hy_core.specs.declared.tree.Expr.TheVariants as e
use Rattle.hy_core.specs.declared.tree.Function.{Function}
use Rattle.hy_core.proofs.SyntaxLemmas.{syntax_of-Try}
use Rattle.letrec_names.specs.Parts.{clause_syntax, function_syntax}
use Rattle.letrec_names.proofs.FormSyntax.{syntax-Case, syntax-Letrec, syntax-Receive}
use Rattle.event_nodes.specs.code.Walked.{Walk, aside, back, walked, walked_clauses}
use Rattle.event_nodes.specs.code.Walked.{walked_definitions, walked_parts}

module _ (atoms : List (List ℕ)) (k : ℕ) (w : Walk) where
  pub walked-Case : {v r : Walk} {x y : Expr} (value : Expr) (cs : List Clause)
      → x ≡ e.Case value cs → y ≡ value → v ≡ walked atoms k w (syntax_of y)
      → r ≡ walked_clauses atoms k v (clauses_of (map clause_syntax cs))
      → r ≡ walked_parts atoms k w (syntax_of x)
  walked-Case {v} value cs is same first others =
      let front : v ≡ walked atoms k w (syntax_of value) =
      first ∙ ap (λ y. walked atoms k w (syntax_of y)) same in
      others ∙ ap (λ v. walked_clauses atoms k v (clauses_of (map clause_syntax cs))) front
      ∙ sym (ap (walked_parts atoms k w) (ap syntax_of is ∙ syntax-Case value cs))

  pub walked-Letrec : {v r : Walk} {x y : Expr} (fs : List Function) (b : Expr)
      → x ≡ e.Letrec fs b → y ≡ b
      → v ≡ walked_definitions atoms w (definitions_of (map function_syntax fs))
      → r ≡ walked atoms k v (syntax_of y) → r ≡ walked_parts atoms k w (syntax_of x)
  walked-Letrec fs b is same functions body =
      body ∙ (λ i. walked atoms k (functions i) (syntax_of (same i)))
      ∙ sym (ap (walked_parts atoms k w) (ap syntax_of is ∙ syntax-Letrec fs b))

  pub walked-Receive : {u v y z r : Walk} {first behind : ℕ} {x p q : Expr} (cs : List Clause)
      (t b : Expr) → x ≡ e.Receive cs t b → p ≡ t → q ≡ b → first ≡ w.next
      → u ≡ walked_clauses atoms k w (clauses_of (map clause_syntax cs)) → behind ≡ u.next
      → v ≡ back first u → y ≡ walked atoms k v (syntax_of p) → z ≡ back behind y
      → r ≡ walked atoms k z (syntax_of q) → r ≡ walked_parts atoms k w (syntax_of x)
  walked-Receive {u} {v} {y} {z} {r} {first} {behind} cs t b is own other begin clauses end before
      timeout last body =
      let d = clauses_of (map clause_syntax cs) in
      let c = walked_clauses atoms k w d in
      let start : v ≡ back w.next c = before ∙ (λ i. back (begin i) (clauses i)) in
      let middle : y ≡ walked atoms k (back w.next c) (syntax_of t) =
      timeout ∙ (λ i. walked atoms k (start i) (syntax_of (own i))) in
      let number : behind ≡ c.next = end ∙ ap (λ (u : Walk). u.next) clauses in
      let whole : z ≡ back c.next (walked atoms k (back w.next c) (syntax_of t)) =
      last ∙ (λ i. back (number i) (middle i)) in
      body ∙ (λ i. walked atoms k (whole i) (syntax_of (other i)))
      ∙ sym (ap (walked_parts atoms k w) (ap syntax_of is ∙ syntax-Receive cs t b))

  pub walked-Try : {u v y z r : Walk} {first behind : ℕ} {x o p q : Expr} (a : Expr)
      (xs : List ℕ) (b : Expr) (ys : List ℕ) (d : Expr) → x ≡ e.Try a xs b ys d → o ≡ a → p ≡ b
      → q ≡ d → first ≡ w.next → u ≡ walked atoms k w (syntax_of o) → behind ≡ u.next
      → v ≡ back first u → y ≡ aside atoms k v (syntax_of p)
      → z ≡ walked atoms k y (syntax_of q) → r ≡ back behind z
      → r ≡ walked_parts atoms k w (syntax_of x)
  walked-Try {u} {v} {y} {z} {r} {first} {behind} a xs b ys d is of_value of_body of_catch
      begin value end before body catched last =
      let c = walked atoms k w (syntax_of a) in
      let front : u ≡ c = value ∙ ap (λ y. walked atoms k w (syntax_of y)) of_value in
      let start : v ≡ back w.next c = before ∙ (λ i. back (begin i) (front i)) in
      let middle : y ≡ aside atoms k (back w.next c) (syntax_of b) =
      body ∙ (λ i. aside atoms k (start i) (syntax_of (of_body i))) in
      let third : z ≡ walked atoms k (aside atoms k (back w.next c) (syntax_of b)) (syntax_of d) =
      catched ∙ (λ i. walked atoms k (middle i) (syntax_of (of_catch i))) in
      let number : behind ≡ c.next = end ∙ ap (λ (u : Walk). u.next) front in
      last ∙ (λ i. back (number i) (third i))
      ∙ sym (ap (walked_parts atoms k w) (ap syntax_of is ∙ syntax_of-Try a xs b ys d))
