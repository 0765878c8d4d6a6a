-- The syntax of forms with clauses or functions.
use Rattle.std.proofs.Common.{◌≡◌, List, [], ◌∷◌, map}
use Rattle.std.proofs.Common.{refl, ap, ◌∙◌}
use Rattle.hy_core.specs.Syntax as s
use Rattle.hy_core.specs.Syntax.{syntax_of, clauses_of, definitions_of}
use Rattle.hy_core.specs.declared.tree.Clause.{Clause}
use Rattle.hy_core.specs.declared.tree.Expr.{Expr}
use Rattle.hy_core.specs.declared.tree.Expr.TheVariants as e
use Rattle.hy_core.specs.declared.tree.Function.{Function}
use Rattle.hy_core.proofs.SyntaxLemmas as tree
use Rattle.hy_core.proofs.SyntaxLemmas.{clause_of, definition_of, clause_of-is, definition_of-is}
use Rattle.letrec_names.specs.Parts.{clause_syntax, function_syntax}

clauses_are : (cs : List Clause) → map clause_of cs ≡ map clause_syntax cs
clauses_are [] = refl
clauses_are (c ∷ cs) = λ i. clause_of-is c i ∷ clauses_are cs i

functions_are : (fs : List Function) → map definition_of fs ≡ map function_syntax fs
functions_are [] = refl
functions_are (f ∷ fs) = λ i. definition_of-is f i ∷ functions_are fs i

pub syntax-Case : (v : Expr) (cs : List Clause)
    → syntax_of (e.Case v cs) ≡ s.Case (syntax_of v) (clauses_of (map clause_syntax cs))
syntax-Case v cs =
    tree.syntax_of-Case v cs ∙ ap (λ l. s.Case (syntax_of v) (clauses_of l)) (clauses_are cs)

pub syntax-Letrec : (fs : List Function) (b : Expr)
    → syntax_of (e.Letrec fs b) ≡ s.Letrec (definitions_of (map function_syntax fs)) (syntax_of b)
syntax-Letrec fs b =
    tree.syntax_of-Letrec fs b
    ∙ ap (λ l. s.Letrec (definitions_of l) (syntax_of b)) (functions_are fs)

pub syntax-Receive : (cs : List Clause) (t b : Expr)
    → syntax_of (e.Receive cs t b)
    ≡ s.Receive (clauses_of (map clause_syntax cs)) (syntax_of t) (syntax_of b)
syntax-Receive cs t b =
    tree.syntax_of-Receive cs t b
    ∙ ap (λ l. s.Receive (clauses_of l) (syntax_of t) (syntax_of b)) (clauses_are cs)
