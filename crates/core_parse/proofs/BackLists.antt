-- From what is to be read behind a token to what is to be read before it: every goal, and one step.
use Rattle.std.proofs.Common.{◌≡◌, ℕ, ◌+◌, true, false, cond, List, [], ◌∷◌, ◌++◌, Some, None, ◌⊎◌, inl, inr, refl, sym, subst}
use Rattle.std.proofs.lemmas.List.{append_assoc, append-nil}
use Rattle.hy_core.specs.Marks.{Marked, at, constant, plain, symbol, value}
use Rattle.hy_core.specs.Annotations as notes
use Rattle.hy_core.specs.Annotations.{IsConstant, AreConstants, AreMoreConstants, IsConstantList, IsConstantEnd, IsConstantTail, IsNote, IsAtom, IsName, IsAttributeValue, AreAttributes, AreMoreAttributes}
use Rattle.hy_core.specs.declared.token.Symbol.TheVariants as w
use Rattle.hy_core.specs.declared.token.Token.{Token}
use Rattle.hy_core.specs.declared.token.Token.TheVariants as t
use Rattle.hy_core.specs.declared.tables.Tables.{Tables}
use Rattle.hy_core.specs.declared.tree.Module.{Module}
use Rattle.core_build.specs.declared.form.Part.{Part}
use Rattle.core_build.specs.declared.form.Part.TheVariants as part
use Rattle.core_parse.specs.declared.goal.Closer.{Closer}
use Rattle.core_build.specs.declared.form.Form.TheVariants as f
use Rattle.core_parse.specs.declared.goal.Goal.{Goal}
use Rattle.core_parse.specs.declared.goal.Goal.TheVariants as g
use Rattle.core_build.specs.declared.value.Value.{Value}
use Rattle.core_build.specs.declared.value.Value.TheVariants as v
use Rattle.hy_core.specs.Patterns as pats
use Rattle.hy_core.specs.Patterns.{IsNotBefore, IsPatternTail}
use Rattle.hy_core.specs.Expressions as exprs
use Rattle.hy_core.specs.Expressions.{named_by, IsTail}
use Rattle.hy_core.specs.Grammar as mods
use Rattle.hy_core.specs.Grammar.{the_module_info, IsDropped}
use Rattle.core_parse.specs.code.Pushdown.{state, closing, is_symbol, with_values, part_begun, goal_moved, part_mark, mark}
use Rattle.core_build.specs.Trees.{opened, added, closed}
use Rattle.core_build.specs.code.Forms.{behind_heads, behind_head_patterns}
use Rattle.core_parse.proofs.Tests.{symbol_at, not_symbol}
use Rattle.core_build.proofs.Joins.{join_front, join_front_patterns}
use Rattle.core_parse.proofs.Meaning.{Completes}
use Rattle.core_parse.proofs.Forth.{Moves}
use Rattle.core_parse.proofs.Back.{if_back, at_symbol, constant_back, attribute_back, variable_back, pattern_back}
use Rattle.core_parse.proofs.BackExprs.{expr_back, export_back}
use Rattle.hy_core.specs.declared.tree.FunName.{FunName}
use Rattle.hy_core.specs.declared.tree.Pattern.{Pattern}
use Rattle.hy_core.specs.declared.tree.Pattern.TheVariants as p
use Rattle.hy_core.specs.declared.tree.Expr.{Expr}
use Rattle.hy_core.specs.declared.tree.Expr.TheVariants as e

pub part_back : (k : Part) (n : ℕ) (gs : List Goal) (vs : List Value) (s : Tables) (token : Token) (q : List Marked) (z : Module) → Moves (part_begun k n gs vs s token) q z
    → Completes (g.Part k n ∷ gs) vs s (part_mark k n token ∷ q) z
part_back part.Expr n gs vs s token q z h = expr_back n gs vs s token q z h
part_back part.Pattern n gs vs s token q z h = pattern_back n gs vs s token q z h
part_back part.Constant n gs vs s token q z h = constant_back n gs vs s token q z h
part_back part.Variable n gs vs s token q z h = variable_back n gs vs s token q z h
part_back part.Export n gs vs s token q z h = export_back n gs vs s token q z h
part_back part.Attribute n gs vs s token q z h = attribute_back n gs vs s token q z h

-- ---- lists of parts

parts_from : (k : Part) (n : ℕ) (c : Closer) (gs : List Goal) (vs : List Value) (s : Tables) (ms : List Marked) (z : Module) → Completes (g.Part k n ∷ g.MoreParts k n c ∷ gs) (opened k vs) s ms z
    → Completes (g.Parts k n c ∷ gs) vs s ms z
parts_from part.Expr n c gs vs s ms z (x, u, q, d, (ys, i, r, more, h)) = (_, _, _, exprs.some_exprs d more, h)
parts_from part.Pattern n c gs vs s ms z (x, u, q, d, (ys, i, r, more, h)) = (_, _, _, pats.some_patterns d more, h)
parts_from part.Constant n c gs vs s ms z (q, d, (r, more, h)) = (r, notes.some_constants d more, h)
parts_from part.Variable n c gs vs s ms z (x, u, q, d, (ys, i, r, more, h)) = (_, _, _, pats.some d more, h)
parts_from part.Export n c gs vs s ms z (xs, u, q, d, (ys, i, r, more, h)) = (_, _, _, mods.some_exports d more, h)
parts_from part.Attribute n c gs vs s ms z (key, q, r, d, value, (o, more, h)) = (o, notes.some d value more, h)

parts_none : (k : Part) (n : ℕ) (c : Closer) (gs : List Goal) (vs : List Value) (s : Tables) (q : List Marked) (z : Module) → Completes gs (opened k vs) s q z
    → Completes (g.Parts k n c ∷ gs) vs s (symbol (closing c) ∷ q) z
parts_none part.Expr n c gs vs s q z h = ([], s, q, exprs.no_exprs, h)
parts_none part.Pattern n c gs vs s q z h = ([], s, q, pats.no_patterns, h)
parts_none part.Constant n c gs vs s q z h = (q, notes.no_constants, h)
parts_none part.Variable n c gs vs s q z h = ([], s, q, pats.none, h)
parts_none part.Export n c gs vs s q z h = ([], s, q, mods.no_exports, h)
parts_none part.Attribute n c gs vs s q z h = (q, notes.none, h)

pub parts_back : (k : Part) (n : ℕ) (c : Closer) (gs : List Goal) (vs : List Value) (s : Tables) (token : Token) (q : List Marked) (z : Module) → Moves (goal_moved (g.Parts k n c) gs vs s token) q z
    → Completes (g.Parts k n c ∷ gs) vs s (mark (g.Parts k n c) token ∷ q) z
parts_back k n c gs vs s token q z h = by (if_back (is_symbol (closing c) token) _ _ q z h)
  where
    by : ((is_symbol (closing c) token ≡ true) × Completes gs (opened k vs) s q z) ⊎ ((is_symbol (closing c) token ≡ false) × Moves (part_begun k n (g.MoreParts k n c ∷ gs) (opened k vs) s token) q z)
        → Completes (g.Parts k n c ∷ gs) vs s (mark (g.Parts k n c) token ∷ q) z
    by (inl (is, r)) = rw is (at_symbol (g.Parts k n c ∷ gs) vs s (closing c) token q z (symbol_at (closing c) token is) (parts_none k n c gs vs s q z r))
    by (inr (is, r)) = rw is (parts_from k n c gs vs s (part_mark k n token ∷ q) z (part_back k n (g.MoreParts k n c ∷ gs) (opened k vs) s token q z r))

more_none : (k : Part) (n : ℕ) (c : Closer) (gs : List Goal) (vs : List Value) (s : Tables) (q : List Marked) (z : Module) → Moves (with_values (added k vs) (λ ws. Some (state gs ws s))) q z
    → Completes (g.MoreParts k n c ∷ gs) vs s (symbol (closing c) ∷ q) z
more_none part.Expr n c gs (v.Expr x ∷ v.Exprs xs ∷ vs) s q z h = ([], s, q, exprs.no_more, subst (λ (k : List Expr). Completes gs (v.Exprs k ∷ vs) s q z) (sym (append-nil (xs ++ x ∷ []))) h)
more_none part.Pattern n c gs (v.Pattern x ∷ v.Patterns xs ∷ vs) s q z h = ([], s, q, pats.no_more, subst (λ (k : List Pattern). Completes gs (v.Patterns k ∷ vs) s q z) (sym (append-nil (xs ++ x ∷ []))) h)
more_none part.Variable n c gs (v.Variable x ∷ v.Variables xs ∷ vs) s q z h = ([], s, q, pats.no_more, subst (λ (k : List ℕ). Completes gs (v.Variables k ∷ vs) s q z) (sym (append-nil (xs ++ x ∷ []))) h)
more_none part.Constant n c gs vs s q z h = (q, notes.no_more, h)
more_none part.Attribute n c gs vs s q z h = (q, notes.no_more, h)
more_none part.Export n c gs (v.Names es ∷ vs) s q z h = ([], s, q, mods.no_more, subst (λ (k : List FunName). Completes gs (v.Names k ∷ vs) s q z) (sym (append-nil es)) h)
more_none part.Export n c gs [] s q z h = (q, refl, h)
more_none part.Export n c gs (value ∷ vs) s q z h = (q, refl, h)
more_none _ n c gs _ s q z h = absurd h

more_one : (k : Part) (n : ℕ) (c : Closer) (gs : List Goal) (vs : List Value) (s : Tables) (q : List Marked) (z : Module)
    → Moves (with_values (added k vs) (λ ws. Some (state (g.Part k n ∷ g.MoreParts k n c ∷ gs) ws s))) q z → Completes (g.MoreParts k n c ∷ gs) vs s (symbol w.Comma ∷ q) z
more_one part.Expr n c gs (v.Expr x ∷ v.Exprs xs ∷ vs) s q z (y, u, r, d, (ys, i, o, more, h)) =
    (y ∷ ys, i, o, exprs.one_more d more, subst (λ (k : List Expr). Completes gs (v.Exprs k ∷ vs) i o z) (append_assoc (xs ++ x ∷ []) (y ∷ []) ys) h)
more_one part.Pattern n c gs (v.Pattern x ∷ v.Patterns xs ∷ vs) s q z (y, u, r, d, (ys, i, o, more, h)) =
    (y ∷ ys, i, o, pats.one_more d more, subst (λ (k : List Pattern). Completes gs (v.Patterns k ∷ vs) i o z) (append_assoc (xs ++ x ∷ []) (y ∷ []) ys) h)
more_one part.Variable n c gs (v.Variable x ∷ v.Variables xs ∷ vs) s q z (y, u, r, d, (ys, i, o, more, h)) =
    (y ∷ ys, i, o, pats.one_more d more, subst (λ (k : List ℕ). Completes gs (v.Variables k ∷ vs) i o z) (append_assoc (xs ++ x ∷ []) (y ∷ []) ys) h)
more_one part.Constant n c gs vs s q z (r, d, (o, more, h)) = (o, notes.one_more d more, h)
more_one part.Attribute n c gs vs s q z (key, a, r, d, value, (o, more, h)) = (o, notes.one_more d value more, h)
more_one part.Export n c gs (v.Names es ∷ vs) s q z (xs, u, r, d, (ys, i, o, more, h)) =
    (xs ++ ys, i, o, mods.one_more d more, subst (λ (k : List FunName). Completes gs (v.Names k ∷ vs) i o z) (append_assoc es xs ys) h)
more_one part.Export n c gs [] s q z h = absurd h
more_one part.Export n c gs (value ∷ vs) s q z h = absurd h
more_one _ n c gs _ s q z h = absurd h

pub more_back : (k : Part) (n : ℕ) (c : Closer) (gs : List Goal) (vs : List Value) (s : Tables) (token : Token) (q : List Marked) (z : Module) → Moves (goal_moved (g.MoreParts k n c) gs vs s token) q z
    → Completes (g.MoreParts k n c ∷ gs) vs s (plain token ∷ q) z
more_back k n c gs vs s token q z h = by (if_back (is_symbol (closing c) token) _ _ q z h)
  where
    comma : ((is_symbol w.Comma token ≡ true) × Moves (with_values (added k vs) (λ ws. Some (state (g.Part k n ∷ g.MoreParts k n c ∷ gs) ws s))) q z) ⊎ ((is_symbol w.Comma token ≡ false) × ⊥)
        → Completes (g.MoreParts k n c ∷ gs) vs s (plain token ∷ q) z
    comma (inl (is, r)) = at_symbol (g.MoreParts k n c ∷ gs) vs s w.Comma token q z (symbol_at w.Comma token is) (more_one k n c gs vs s q z r)
    comma (inr (is, r)) = absurd r

    by : ((is_symbol (closing c) token ≡ true) × Moves (with_values (added k vs) (λ ws. Some (state gs ws s))) q z)
        ⊎ ((is_symbol (closing c) token ≡ false) × Moves (cond (is_symbol w.Comma token) (with_values (added k vs) (λ ws. Some (state (g.Part k n ∷ g.MoreParts k n c ∷ gs) ws s))) None) q z)
        → Completes (g.MoreParts k n c ∷ gs) vs s (plain token ∷ q) z
    by (inl (is, r)) = at_symbol (g.MoreParts k n c ∷ gs) vs s (closing c) token q z (symbol_at (closing c) token is) (more_none k n c gs vs s q z r)
    by (inr (is, r)) = comma (if_back (is_symbol w.Comma token) _ _ q z r)

-- ---- list notations

heads_none : (k : Part) (n : ℕ) (gs : List Goal) (vs : List Value) (s : Tables) (q : List Marked) (z : Module) → Moves (with_values (closed k vs) (λ ws. Some (state gs ws s))) q z
    → Completes (g.Heads k n ∷ gs) vs s (symbol w.CloseList ∷ q) z
heads_none part.Expr n gs (v.Exprs xs ∷ vs) s q z h = (_, _, _, exprs.nil, h)
heads_none part.Pattern n gs (v.Patterns xs ∷ vs) s q z h = (_, _, _, pats.nil, h)
heads_none part.Constant n gs vs s q z h = (q, notes.nil, h)
heads_none _ n gs _ s q z h = absurd h

heads_from : (k : Part) (n : ℕ) (gs : List Goal) (vs : List Value) (s : Tables) (ms : List Marked) (z : Module) → Completes (g.Part k (n + 1) ∷ g.MoreHeads k n ∷ gs) vs s ms z
    → Completes (g.Heads k n ∷ gs) vs s ms z
heads_from part.Expr n gs (v.Exprs xs ∷ vs) s ms z (x, u, q, d, (ys, tail, i, r, more, h)) =
    (_, i, r, exprs.heads d more, subst (λ (k : Expr). Completes gs (v.Expr k ∷ vs) i r z) (sym (join_front xs x ys tail)) h)
heads_from part.Pattern n gs (v.Patterns xs ∷ vs) s ms z (x, u, q, d, (ys, tail, i, r, more, h)) =
    (_, i, r, pats.heads d more, subst (λ (k : Pattern). Completes gs (v.Pattern k ∷ vs) i r z) (sym (join_front_patterns xs x ys tail)) h)
heads_from part.Constant n gs vs s ms z (q, d, (r, more, h)) = (r, notes.heads d more, h)
heads_from part.Expr n gs _ s ms z (x, u, q, d, h) = absurd h
heads_from part.Pattern n gs _ s ms z (x, u, q, d, h) = absurd h
heads_from part.Variable n gs vs s ms z (x, u, q, d, h) = absurd h
heads_from part.Export n gs (v.Names es ∷ vs) s ms z (xs, u, q, d, h) = absurd h
heads_from part.Export n gs _ s ms z h = absurd h
heads_from part.Attribute n gs vs s ms z (key, q, r, d, value, h) = absurd h

pub heads_back : (k : Part) (n : ℕ) (gs : List Goal) (vs : List Value) (s : Tables) (token : Token) (q : List Marked) (z : Module) → Moves (goal_moved (g.Heads k n) gs vs s token) q z
    → Completes (g.Heads k n ∷ gs) vs s (mark (g.Heads k n) token ∷ q) z
heads_back k n gs vs s token q z h = by (if_back (is_symbol w.CloseList token) _ _ q z h)
  where
    by : ((is_symbol w.CloseList token ≡ true) × Moves (with_values (closed k vs) (λ ws. Some (state gs ws s))) q z)
        ⊎ ((is_symbol w.CloseList token ≡ false) × Moves (part_begun k (n + 1) (g.MoreHeads k n ∷ gs) vs s token) q z) → Completes (g.Heads k n ∷ gs) vs s (mark (g.Heads k n) token ∷ q) z
    by (inl (is, r)) = rw is (at_symbol (g.Heads k n ∷ gs) vs s w.CloseList token q z (symbol_at w.CloseList token is) (heads_none k n gs vs s q z r))
    by (inr (is, r)) = rw is (heads_from k n gs vs s (part_mark k (n + 1) token ∷ q) z (part_back k (n + 1) (g.MoreHeads k n ∷ gs) vs s token q z r))

ends_closed : (k : Part) (n : ℕ) (gs : List Goal) (vs : List Value) (s : Tables) (q : List Marked) (z : Module)
    → Moves (with_values (added k vs) (λ ws. with_values (closed k ws) (λ os. Some (state gs os s)))) q z → Completes (g.MoreHeads k n ∷ gs) vs s (symbol w.CloseList ∷ q) z
ends_closed part.Expr n gs (v.Expr x ∷ v.Exprs xs ∷ vs) s q z h =
    ([], e.Nil, s, q, exprs.closed, subst (λ (k : List Expr). Completes gs (v.Expr (behind_heads k e.Nil) ∷ vs) s q z) (sym (append-nil (xs ++ x ∷ []))) h)
ends_closed part.Pattern n gs (v.Pattern x ∷ v.Patterns xs ∷ vs) s q z h =
    ([], p.Nil, s, q, pats.closed, subst (λ (k : List Pattern). Completes gs (v.Pattern (behind_head_patterns k p.Nil) ∷ vs) s q z) (sym (append-nil (xs ++ x ∷ []))) h)
ends_closed part.Constant n gs vs s q z h = (q, notes.closed, h)
ends_closed part.Variable n gs (v.Variable x ∷ v.Variables xs ∷ vs) s q z h = absurd h
ends_closed _ n gs _ s q z h = absurd h

ends_next : (k : Part) (n : ℕ) (gs : List Goal) (vs : List Value) (s : Tables) (q : List Marked) (z : Module)
    → Moves (with_values (added k vs) (λ ws. Some (state (g.Part k (n + 1) ∷ g.MoreHeads k n ∷ gs) ws s))) q z → Completes (g.MoreHeads k n ∷ gs) vs s (symbol w.Comma ∷ q) z
ends_next part.Expr n gs (v.Expr x ∷ v.Exprs xs ∷ vs) s q z (y, u, r, d, (ys, tail, i, o, more, h)) =
    (y ∷ ys, tail, i, o, exprs.next_head d more, subst (λ (k : List Expr). Completes gs (v.Expr (behind_heads k tail) ∷ vs) i o z) (append_assoc (xs ++ x ∷ []) (y ∷ []) ys) h)
ends_next part.Pattern n gs (v.Pattern x ∷ v.Patterns xs ∷ vs) s q z (y, u, r, d, (ys, tail, i, o, more, h)) =
    (y ∷ ys, tail, i, o, pats.next_head d more, subst (λ (k : List Pattern). Completes gs (v.Pattern (behind_head_patterns k tail) ∷ vs) i o z) (append_assoc (xs ++ x ∷ []) (y ∷ []) ys) h)
ends_next part.Constant n gs vs s q z (r, d, (o, more, h)) = (o, notes.next_head d more, h)
ends_next part.Variable n gs (v.Variable x ∷ v.Variables xs ∷ vs) s q z (y, u, r, d, h) = absurd h
ends_next part.Export n gs (v.Names es ∷ vs) s q z (xs, u, r, d, h) = absurd h
ends_next part.Export n gs [] s q z h = absurd h
ends_next part.Export n gs (value ∷ vs) s q z h = absurd h
ends_next part.Attribute n gs vs s q z (key, a, r, d, value, h) = absurd h
ends_next _ n gs _ s q z h = absurd h

ends_tail : (k : Part) (n : ℕ) (gs : List Goal) (vs : List Value) (s : Tables) (q : List Marked) (z : Module) → Moves (with_values (added k vs) (λ ws. Some (state (g.Tail k n ∷ gs) ws s))) q z
    → Completes (g.MoreHeads k n ∷ gs) vs s (symbol w.Bar ∷ q) z
ends_tail part.Expr n gs (v.Expr x ∷ v.Exprs xs ∷ vs) s q z (y, u, r, d, h) =
    ([], y, u, r, exprs.tail d, subst (λ (k : List Expr). Completes gs (v.Expr (behind_heads k y) ∷ vs) u r z) (sym (append-nil (xs ++ x ∷ []))) h)
ends_tail part.Pattern n gs (v.Pattern x ∷ v.Patterns xs ∷ vs) s q z (y, u, r, d, h) =
    ([], y, u, r, pats.tail d, subst (λ (k : List Pattern). Completes gs (v.Pattern (behind_head_patterns k y) ∷ vs) u r z) (sym (append-nil (xs ++ x ∷ []))) h)
ends_tail part.Constant n gs vs s q z (r, d, h) = (r, notes.tail d, h)
ends_tail part.Variable n gs (v.Variable x ∷ v.Variables xs ∷ vs) s q z h = absurd h
ends_tail _ n gs _ s q z h = absurd h

pub ends_back : (k : Part) (n : ℕ) (gs : List Goal) (vs : List Value) (s : Tables) (token : Token) (q : List Marked) (z : Module) → Moves (goal_moved (g.MoreHeads k n) gs vs s token) q z
    → Completes (g.MoreHeads k n ∷ gs) vs s (plain token ∷ q) z
ends_back k n gs vs s token q z h = by (if_back (is_symbol w.CloseList token) _ _ q z h)
  where
    bar : ((is_symbol w.Bar token ≡ true) × Moves (with_values (added k vs) (λ ws. Some (state (g.Tail k n ∷ gs) ws s))) q z) ⊎ ((is_symbol w.Bar token ≡ false) × ⊥)
        → Completes (g.MoreHeads k n ∷ gs) vs s (plain token ∷ q) z
    bar (inl (is, r)) = at_symbol (g.MoreHeads k n ∷ gs) vs s w.Bar token q z (symbol_at w.Bar token is) (ends_tail k n gs vs s q z r)
    bar (inr (is, r)) = absurd r

    comma : ((is_symbol w.Comma token ≡ true) × Moves (with_values (added k vs) (λ ws. Some (state (g.Part k (n + 1) ∷ g.MoreHeads k n ∷ gs) ws s))) q z)
        ⊎ ((is_symbol w.Comma token ≡ false) × Moves (cond (is_symbol w.Bar token) (with_values (added k vs) (λ ws. Some (state (g.Tail k n ∷ gs) ws s))) None) q z)
        → Completes (g.MoreHeads k n ∷ gs) vs s (plain token ∷ q) z
    comma (inl (is, r)) = at_symbol (g.MoreHeads k n ∷ gs) vs s w.Comma token q z (symbol_at w.Comma token is) (ends_next k n gs vs s q z r)
    comma (inr (is, r)) = bar (if_back (is_symbol w.Bar token) _ _ q z r)

    by : ((is_symbol w.CloseList token ≡ true) × Moves (with_values (added k vs) (λ ws. with_values (closed k ws) (λ os. Some (state gs os s)))) q z)
        ⊎ ((is_symbol w.CloseList token ≡ false) × Moves (cond (is_symbol w.Comma token) (with_values (added k vs) (λ ws. Some (state (g.Part k (n + 1) ∷ g.MoreHeads k n ∷ gs) ws s)))
        (cond (is_symbol w.Bar token) (with_values (added k vs) (λ ws. Some (state (g.Tail k n ∷ gs) ws s))) None)) q z)
        → Completes (g.MoreHeads k n ∷ gs) vs s (plain token ∷ q) z
    by (inl (is, r)) = at_symbol (g.MoreHeads k n ∷ gs) vs s w.CloseList token q z (symbol_at w.CloseList token is) (ends_closed k n gs vs s q z r)
    by (inr (is, r)) = comma (if_back (is_symbol w.Comma token) _ _ q z r)

tail_opened : (k : Part) (n : ℕ) (gs : List Goal) (vs : List Value) (s : Tables) (q : List Marked) (z : Module) → Completes (g.Heads k n ∷ g.Symbol w.CloseList ∷ gs) vs s q z
    → Completes (g.Tail k n ∷ gs) vs s (part_mark k n (t.Symbol w.OpenList) ∷ q) z
tail_opened part.Expr n gs (v.Exprs xs ∷ vs) s q z (x, u, r, d, (o, is, h)) =
    (x, u, o, subst (λ (k : List Marked). IsTail n s (at n (t.Symbol w.OpenList) ∷ q) x u k) is (exprs.list_tail d), h)
tail_opened part.Pattern n gs (v.Patterns xs ∷ vs) s q z (x, u, r, d, (o, is, h)) =
    (x, u, o, subst (λ (k : List Marked). IsPatternTail n s (at n (t.Symbol w.OpenList) ∷ q) x u k) is (pats.list_tail d), h)
tail_opened part.Constant n gs vs s q z (r, d, (o, is, h)) = (o, subst (λ (k : List Marked). IsConstantTail n (constant n (t.Symbol w.OpenList) ∷ q) k) is (notes.list_tail d), h)
tail_opened _ n gs _ s q z h = absurd h

tail_other : (k : Part) (n : ℕ) (gs : List Goal) (vs : List Value) (s : Tables) (m : Marked) (q : List Marked) (z : Module) → (m.token ≡ t.Symbol w.OpenList → ⊥)
    → Completes (g.Part k (n + 1) ∷ g.Symbol w.CloseList ∷ g.Build (f.Join k) ∷ gs) vs s (m ∷ q) z → Completes (g.Tail k n ∷ gs) vs s (m ∷ q) z
tail_other part.Expr n gs (v.Exprs xs ∷ vs) s m q z never (x, u, r, d, (o, is, h)) =
    (x, u, o, subst (λ (k : List Marked). IsTail n s (m ∷ q) x u k) is (exprs.other_tail never d), h)
tail_other part.Pattern n gs (v.Patterns xs ∷ vs) s m q z never (x, u, r, d, (o, is, h)) =
    (x, u, o, subst (λ (k : List Marked). IsPatternTail n s (m ∷ q) x u k) is (pats.other_tail never d), h)
tail_other part.Constant n gs vs s m q z never (r, d, (o, is, h)) = (o, subst (λ (k : List Marked). IsConstantTail n (m ∷ q) k) is (notes.other_tail never d), h)
tail_other part.Expr n gs _ s m q z never (x, u, r, d, (o, is, h)) = absurd h
tail_other part.Pattern n gs _ s m q z never (x, u, r, d, (o, is, h)) = absurd h
tail_other part.Variable n gs vs s m q z never (x, u, r, d, (o, is, h)) = absurd h
tail_other part.Export n gs (v.Names es ∷ vs) s m q z never (xs, u, r, d, (o, is, h)) = absurd h
tail_other part.Export n gs _ s m q z never h = absurd h
tail_other part.Attribute n gs vs s m q z never (key, a, r, d, value, (o, is, h)) = absurd h

pub tail_back : (k : Part) (n : ℕ) (gs : List Goal) (vs : List Value) (s : Tables) (token : Token) (q : List Marked) (z : Module) → Moves (goal_moved (g.Tail k n) gs vs s token) q z
    → Completes (g.Tail k n ∷ gs) vs s (mark (g.Tail k n) token ∷ q) z
tail_back k n gs vs s token q z h = by (if_back (is_symbol w.OpenList token) _ _ q z h)
  where
    by : ((is_symbol w.OpenList token ≡ true) × Completes (g.Heads k n ∷ g.Symbol w.CloseList ∷ gs) vs s q z)
        ⊎ ((is_symbol w.OpenList token ≡ false) × Moves (part_begun k (n + 1) (g.Symbol w.CloseList ∷ g.Build (f.Join k) ∷ gs) vs s token) q z) → Completes (g.Tail k n ∷ gs) vs s (mark (g.Tail k n) token ∷ q) z
    by (inl (is, r)) = rw is (subst (λ (o : Token). Completes (g.Tail k n ∷ gs) vs s (part_mark k n o ∷ q) z) (sym (symbol_at w.OpenList token is)) (tail_opened k n gs vs s q z r))
    by (inr (is, r)) = rw is (tail_other k n gs vs s (part_mark k (n + 1) token) q z (mark_never k (n + 1) token (not_symbol w.OpenList token is)) (part_back k (n + 1) (g.Symbol w.CloseList ∷ g.Build (f.Join k) ∷ gs) vs s token q z r))
      where
        mark_never : (k : Part) (n : ℕ) (token : Token) → (token ≡ t.Symbol w.OpenList → ⊥) → (part_mark k n token).token ≡ t.Symbol w.OpenList → ⊥
        mark_never part.Expr n token never is = never is
        mark_never part.Pattern n token never is = never is
        mark_never part.Constant n token never is = never is
        mark_never _ n (t.Symbol w.Open) never is = never is
        mark_never _ n token never is = never is
