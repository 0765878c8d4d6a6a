-- Variables as arguments before others.
use Rattle.std.proofs.Common.{◌≡◌, ℕ, List, [], ◌∷◌, ◌++◌, map, refl, ap, ◌∙◌}
use Rattle.std.proofs.lemmas.List.{map-append}
use Rattle.hy_core.specs.Syntax.{Syntax, MoreSyntax, Var, syntax_of, syntaxes_of}
use Rattle.hy_core.specs.declared.tree.Expr.{Expr}
use Rattle.lifted_syntax.specs.LiftedSyntax.{passing}

passed : (xs : List ℕ) (es : List Syntax)
    → syntaxes_of (map Var xs ++ es) ≡ passing xs (syntaxes_of es)
passed [] es = refl
passed (x ∷ xs) es = ap (MoreSyntax (Var x)) (passed xs es)

pub passed_before : (variables : List ℕ) (firsts args : List Expr) {all : List Expr}
    → map syntax_of firsts ≡ map Var variables → all ≡ firsts ++ args
    → syntaxes_of (map syntax_of all) ≡ passing variables (syntaxes_of (map syntax_of args))
passed_before variables firsts args h is =
    ap (λ l. syntaxes_of (map syntax_of l)) is
    ∙ ap syntaxes_of
    (map-append syntax_of firsts args ∙ ap (λ l. l ++ map syntax_of args) h)
    ∙ passed variables (map syntax_of args)
