-- Joining list notations.
use Rattle.std.proofs.Common.{◌≡◌, List, [], ◌∷◌, ◌++◌, refl, sym, ap, ◌∙◌}
use Rattle.std.proofs.lemmas.List.{append_assoc}
use Rattle.hy_core.specs.Patterns as pats
use Rattle.hy_core.specs.Patterns.{joined_pattern}
use Rattle.hy_core.specs.Expressions as exprs
use Rattle.hy_core.specs.Expressions.{joined}
use Rattle.hy_core.specs.declared.tree.Clause.{Clause}
use Rattle.hy_core.specs.declared.tree.Function.{Function}
use Rattle.hy_core.specs.declared.tree.Pattern.{Pattern}
use Rattle.hy_core.specs.declared.tree.Pattern.TheVariants as p
use Rattle.hy_core.specs.declared.tree.Pattern.TheOpen as layer
use Rattle.hy_core.specs.declared.tree.Pattern.TheViews.{out-Pattern}
use Rattle.hy_core.specs.declared.tree.Pattern.TheViews as pattern_views
use Rattle.hy_core.specs.declared.tree.Expr.{Expr}
use Rattle.hy_core.specs.declared.tree.Expr.TheVariants as e
use Rattle.hy_core.specs.declared.tree.Expr.TheOpen as expr_layer
use Rattle.hy_core.specs.declared.tree.Expr.TheViews.{out-Expr}
use Rattle.hy_core.specs.declared.tree.Expr.TheViews as expr_views
use Rattle.core_build.specs.code.Forms.{behind_heads, behind_head_patterns}

-- ---- expressions

onto : (xs ys : List Expr) (end : Expr) → joined xs (e.List 0 ys end) ≡ e.List 0 (xs ++ ys) end
onto xs ys end = ap (exprs.joined_at xs (e.List 0 ys end)) (expr_views.outs-List 0 ys end)

joined_twice : (xs ys : List Expr) (end : Expr) (l : expr_layer.Expr-F Expr Clause Function) → joined xs (exprs.joined_at ys end l) ≡ exprs.joined_at (xs ++ ys) end l
joined_twice xs ys end (expr_layer.List site heads tail) = onto xs (ys ++ heads) tail ∙ ap (λ (k : List Expr). e.List 0 k tail) (sym (append_assoc xs ys heads))
joined_twice xs ys end _ = onto xs ys end

-- a list notation whose heads stand behind others, head by head
pub join_front : (xs : List Expr) (x : Expr) (ys : List Expr) (end : Expr) → behind_heads xs (joined (x ∷ ys) end) ≡ behind_heads ((xs ++ x ∷ []) ++ ys) end
join_front [] x ys end = refl
join_front (h ∷ hs) x ys end =
    joined_twice (h ∷ hs) (x ∷ ys) end (out-Expr end) ∙ ap (λ (k : List Expr). joined k end) (sym (append_assoc (h ∷ hs) (x ∷ []) ys))

-- ---- patterns

onto_pattern : (xs ys : List Pattern) (end : Pattern) → joined_pattern xs (p.List ys end) ≡ p.List (xs ++ ys) end
onto_pattern xs ys end = ap (pats.joined_at xs (p.List ys end)) (pattern_views.outs-List ys end)

joined_twice_patterns : (xs ys : List Pattern) (end : Pattern) (l : layer.Pattern-F Pattern) → joined_pattern xs (pats.joined_at ys end l) ≡ pats.joined_at (xs ++ ys) end l
joined_twice_patterns xs ys end (layer.List heads tail) = onto_pattern xs (ys ++ heads) tail ∙ ap (λ (k : List Pattern). p.List k tail) (sym (append_assoc xs ys heads))
joined_twice_patterns xs ys end _ = onto_pattern xs ys end

pub join_front_patterns : (xs : List Pattern) (x : Pattern) (ys : List Pattern) (end : Pattern)
    → behind_head_patterns xs (joined_pattern (x ∷ ys) end) ≡ behind_head_patterns ((xs ++ x ∷ []) ++ ys) end
join_front_patterns [] x ys end = refl
join_front_patterns (h ∷ hs) x ys end =
    joined_twice_patterns (h ∷ hs) (x ∷ ys) end (out-Pattern end) ∙ ap (λ (k : List Pattern). joined_pattern k end) (sym (append_assoc (h ∷ hs) (x ∷ []) ys))
