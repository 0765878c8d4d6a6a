-- The counts of forms with clauses or functions, from those of their parts.
use Rattle.std.proofs.Common.{◌≡◌, ℕ, List, map, sym, ap, ◌∙◌}
use Rattle.hy_core.specs.Syntax.{syntax_of, clauses_of, definitions_of}
use Rattle.hy_core.specs.declared.tree.Clause.{Clause}
use Rattle.hy_core.specs.declared.tree.Expr.{Expr}
use Rattle.hy_core.specs.declared.tree.Expr.TheVariants as e
use Rattle.hy_core.specs.declared.tree.Function.{Function}
use Rattle.letrec_names.specs.Parts.{clause_syntax, function_syntax}
use Rattle.letrec_names.specs.code.Passed.{passed, passed_clauses, passed_definitions}
use Rattle.letrec_names.proofs.FormSyntax.{syntax-Case, syntax-Letrec, syntax-Receive}

pub passed-Case : (n : List ℕ) {m : List ℕ} {x : Expr} (v : Expr) (cs : List Clause)
    → x ≡ e.Case v cs → m ≡ passed n (syntax_of v)
    → passed_clauses m (clauses_of (map clause_syntax cs)) ≡ passed n (syntax_of x)
passed-Case n v cs is h =
    ap (λ m. passed_clauses m (clauses_of (map clause_syntax cs))) h
    ∙ sym (ap (passed n) (ap syntax_of is ∙ syntax-Case v cs))

pub passed-Letrec : (n : List ℕ) {m : List ℕ} {x : Expr} (b : Expr) (fs : List Function)
    → x ≡ e.Letrec fs b → m ≡ passed_definitions n (definitions_of (map function_syntax fs))
    → passed m (syntax_of b) ≡ passed n (syntax_of x)
passed-Letrec n b fs is h =
    ap (λ m. passed m (syntax_of b)) h
    ∙ sym (ap (passed n) (ap syntax_of is ∙ syntax-Letrec fs b))

pub passed-Receive : (n : List ℕ) {m : List ℕ} {x : Expr} (t b : Expr) (cs : List Clause)
    → x ≡ e.Receive cs t b → m ≡ passed_clauses n (clauses_of (map clause_syntax cs))
    → passed m (syntax_of b) ≡ passed n (syntax_of x)
passed-Receive n t b cs is h =
    ap (λ m. passed m (syntax_of b)) h
    ∙ sym (ap (passed n) (ap syntax_of is ∙ syntax-Receive cs t b))
