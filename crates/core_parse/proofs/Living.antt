-- Each state whose values fit can be completed.
use Rattle.std.proofs.Common.{◌≡◌, ℕ, ◌+◌, true, false, List, [], ◌∷◌, ◌++◌, Option, Some, None, inl, inr, refl, arith}
use Rattle.hy_core.specs.Marks.{Marked, at, constant, plain, symbol, arity, value, number}
use Rattle.hy_core.specs.Numbering.{atom_number, with_atom, variable_number, with_variable, no_tables}
use Rattle.hy_core.specs.Annotations as notes
use Rattle.hy_core.specs.Annotations.{IsConstant, AreConstants, AreMoreConstants, IsConstantList, IsConstantEnd, IsConstantTail, IsNote, IsAtom, IsName, IsAttributeValue, AreAttributes, AreMoreAttributes}
use Rattle.hy_core.specs.declared.token.Symbol.TheVariants as w
use Rattle.hy_core.specs.declared.token.Sign.TheVariants as sign
use Rattle.hy_core.specs.declared.token.Token.{Token}
use Rattle.hy_core.specs.declared.token.Token.TheVariants as t
use Rattle.hy_core.specs.declared.tables.Tables.{Tables}
use Rattle.hy_core.specs.declared.tree.Module.{Module}
use Rattle.core_build.specs.declared.form.Part.TheVariants as part
use Rattle.core_parse.specs.declared.goal.Closer.{Closer}
use Rattle.core_parse.specs.declared.goal.Closer.TheVariants as closer
use Rattle.core_parse.specs.declared.goal.Goal.{Goal}
use Rattle.core_parse.specs.declared.goal.Goal.TheVariants as g
use Rattle.core_build.specs.declared.value.Value.{Value}
use Rattle.core_build.specs.declared.value.Value.TheVariants as v
use Rattle.hy_core.specs.Patterns as pats
use Rattle.hy_core.specs.Patterns.{IsNotBefore}
use Rattle.hy_core.specs.Expressions as exprs
use Rattle.hy_core.specs.Expressions.{named_by, clause_of, IsExpr, IsClause}
use Rattle.hy_core.specs.Grammar as mods
use Rattle.hy_core.specs.Grammar.{IsDropped, the_module_info, module_of}
use Rattle.core_parse.specs.code.Pushdown.{closing}
use Rattle.core_build.specs.Trees.{built}
use Rattle.core_parse.proofs.Tests.{not_symbol}
use Rattle.core_parse.proofs.Meaning.{Completes, ClauseWhenThen}
use Rattle.core_parse.proofs.Fitting.{Quiet, IfBuilt, Fits, FitsOrDone}
use Rattle.hy_core.specs.declared.tree.Clause.{Clause}
use Rattle.hy_core.specs.declared.tree.Pattern.{Pattern}
use Rattle.hy_core.specs.declared.tree.Pattern.TheVariants as p
use Rattle.hy_core.specs.declared.tree.Expr.{Expr}
use Rattle.hy_core.specs.declared.tree.Expr.TheVariants as e
use Rattle.core_build.specs.declared.form.Form.{Form}

-- some tokens complete the state, and they don't begin with = where they needn't
pub record Alive (gs : List Goal) (vs : List Value) (s : Tables) : Type 0 where
  pub tokens : List Marked
  pub tree : Module
  pub completes : Completes gs vs s tokens tree
  pub quiet : Quiet gs → IsNotBefore w.Equals tokens

-- ---- the shortest of each kind

zero : Token
zero = t.Integer sign.Absent []

-- -| [ ] )
empty_note : List Marked → List Marked
empty_note q = symbol w.NoteBar ∷ symbol w.OpenList ∷ symbol w.CloseList ∷ symbol w.Close ∷ q

note_of : (n : ℕ) (q : List Marked) → IsNote n (empty_note q) q
unfolding empty_note
note_of n q = notes.note notes.no_constants

-- when 0 -> 0
short_rest : ℕ → List Marked → List Marked
short_rest n q = symbol w.When ∷ at n zero ∷ symbol w.Arrow ∷ at n zero ∷ q

-- < > when 0 -> 0
short_clause : ℕ → List Marked → List Marked
short_clause n q = symbol w.Less ∷ symbol w.Greater ∷ short_rest n q

the_zero : Expr
the_zero = e.Int (number sign.Absent (value []))

zero_expr : (n : ℕ) (s : Tables) (q : List Marked) → IsExpr n s (at n zero ∷ q) the_zero s q
unfolding zero the_zero
zero_expr n s q = exprs.integer sign.Absent []

clause_is : (n : ℕ) (s : Tables) (q : List Marked) → IsClause n s (short_clause n q) (clause_of [] the_zero the_zero) s q
unfolding short_clause short_rest
clause_is n s q = exprs.patterns pats.no_patterns (zero_expr n s (symbol w.Arrow ∷ at n zero ∷ q)) (zero_expr n s q)

when_is : (n : ℕ) (x : Pattern) (bs : List Clause) (vs : List Value) (s : Tables) (q : List Marked) (k : List Value → Tables → List Marked → Type 0)
    → k (v.Clauses (bs ++ clause_of (x ∷ []) the_zero the_zero ∷ []) ∷ vs) s q → ClauseWhenThen n (v.Pattern x ∷ v.Clauses bs ∷ vs) s (short_rest n q) k
unfolding short_rest
when_is n x bs vs s q k h = (_, refl, (_, _, _, zero_expr n s (symbol w.Arrow ∷ at n zero ∷ q), (_, refl, (_, _, _, zero_expr n s q, h))))

not_dropped : IsDropped [] [] → ⊥
not_dropped is = let bad = is.0 in cc

-- ---- every state

closes_quietly : (c : Closer) → t.Symbol (closing c) ≡ t.Symbol w.Equals → ⊥
closes_quietly closer.Tuple is = cc
closes_quietly closer.List is = cc
closes_quietly closer.Arguments is = cc
closes_quietly closer.Values is = cc
closes_quietly closer.Case is = cc
closes_quietly closer.Receive is = cc

rest_quietly : (n : ℕ) (q : List Marked) → IsNotBefore w.Equals (short_rest n q)
unfolding short_rest
rest_quietly n q is = cc

note_quietly : (q : List Marked) → IsNotBefore w.Equals (empty_note q)
unfolding empty_note
note_quietly q is = cc

alive_built : (form : Form) (gs : List Goal) (vs : List Value) (s : Tables) (o : Option (List Value × Tables)) → built form vs s ≡ o → IfBuilt o (λ ws. Fits gs ws) → ((ws : List Value) (u : Tables) → Fits gs ws → Alive gs ws u)
    → Alive (g.Build form ∷ gs) vs s
alive_built form gs vs s None is h further = absurd h
alive_built form gs vs s (Some o) is h further =
    let r = further o.0 o.1 h in
    record { tokens = r.tokens; tree = r.tree; completes = rw is r.completes; quiet = r.quiet }

-- the module is read, or some tokens complete the state
or_done : (gs : List Goal) (vs : List Value) (s : Tables) → FitsOrDone gs vs → (Fits gs vs → Alive gs vs s) → Alive gs vs s
or_done [] (v.Functions fs ∷ v.Names es ∷ v.Atom k ∷ []) s h further = record { tokens = []; tree = module_of k es fs s; completes = (refl, refl); quiet = λ _. tt }
or_done [] _ s h further = absurd h
or_done (goal ∷ gs) vs s h further = further h

pub alive : (gs : List Goal) (vs : List Value) (s : Tables) → Fits gs vs → Alive gs vs s
unfolding zero the_zero
alive [] vs s h = absurd h
alive (g.Symbol k ∷ gs) vs s h =
    let r = or_done gs vs s h (λ f. alive gs vs s f) in
    record { tokens = symbol k ∷ r.tokens; tree = r.tree; completes = (_, refl, r.completes); quiet = λ quiet. not_symbol w.Equals (t.Symbol k) quiet }
alive (g.Part part.Expr n ∷ gs) vs s h =
    let r = alive gs (v.Expr the_zero ∷ vs) s (h the_zero) in
    record { tokens = at n zero ∷ r.tokens; tree = r.tree; completes = (_, _, _, zero_expr n s r.tokens, r.completes); quiet = λ no. absurd no }
alive (g.Part part.Pattern n ∷ gs) vs s h =
    let r = alive gs (v.Pattern (p.Int (number sign.Absent (value []))) ∷ vs) s (h.1 _) in
    record { tokens = at n zero ∷ r.tokens; tree = r.tree; completes = (_, _, _, pats.integer sign.Absent [], r.completes); quiet = λ no. absurd no }
alive (g.Part part.Constant n ∷ gs) vs s h =
    let r = alive gs vs s h in
    record { tokens = constant n zero ∷ r.tokens; tree = r.tree; completes = (_, notes.integer sign.Absent [], r.completes); quiet = λ no. absurd no }
alive (g.Part part.Variable n ∷ gs) vs s h =
    let r = alive gs (v.Variable (variable_number s []) ∷ vs) (with_variable s []) (h _) in
    record { tokens = plain (t.Variable []) ∷ r.tokens; tree = r.tree; completes = (_, _, _, pats.variable [], r.completes); quiet = λ no. absurd no }
alive (g.Part part.Export n ∷ gs) (v.Names es ∷ vs) s h =
    let r = alive gs (v.Names (es ++ named_by (atom_number s []) [] ∷ []) ∷ vs) (with_atom s []) (h _) in
    record { tokens = plain (t.Atom []) ∷ symbol w.Slash ∷ arity [] ∷ r.tokens; tree = r.tree; completes = (_, _, _, mods.kept (notes.name [] []) not_dropped, r.completes); quiet = λ no. absurd no }
alive (g.Part part.Export n ∷ gs) _ s h = absurd h
alive (g.Part part.Attribute n ∷ gs) vs s h =
    let r = alive gs vs s h in
    record { tokens = plain (t.Atom []) ∷ symbol w.Equals ∷ constant n zero ∷ r.tokens; tree = r.tree; completes = (_, _, _, notes.atom [], notes.unannotated (notes.integer sign.Absent []), r.completes); quiet = λ no. absurd no }
alive (g.Parts part.Expr n c ∷ gs) vs s h =
    let r = alive gs (v.Exprs [] ∷ vs) s (h []) in
    record { tokens = symbol (closing c) ∷ r.tokens; tree = r.tree; completes = (_, _, _, exprs.no_exprs, r.completes); quiet = λ no. absurd no }
alive (g.Parts part.Pattern n c ∷ gs) vs s h =
    let r = alive gs (v.Patterns [] ∷ vs) s (h []) in
    record { tokens = symbol (closing c) ∷ r.tokens; tree = r.tree; completes = (_, _, _, pats.no_patterns, r.completes); quiet = λ no. absurd no }
alive (g.Parts part.Constant n c ∷ gs) vs s h =
    let r = alive gs vs s h in
    record { tokens = symbol (closing c) ∷ r.tokens; tree = r.tree; completes = (_, notes.no_constants, r.completes); quiet = λ no. absurd no }
alive (g.Parts part.Variable n c ∷ gs) vs s h =
    let r = alive gs (v.Variables [] ∷ vs) s (h []) in
    record { tokens = symbol (closing c) ∷ r.tokens; tree = r.tree; completes = (_, _, _, pats.none, r.completes); quiet = λ no. absurd no }
alive (g.Parts part.Export n c ∷ gs) vs s h =
    let r = alive gs (v.Names [] ∷ vs) s (h []) in
    record { tokens = symbol (closing c) ∷ r.tokens; tree = r.tree; completes = (_, _, _, mods.no_exports, r.completes); quiet = λ no. absurd no }
alive (g.Parts part.Attribute n c ∷ gs) vs s h =
    let r = alive gs vs s h in
    record { tokens = symbol (closing c) ∷ r.tokens; tree = r.tree; completes = (_, notes.none, r.completes); quiet = λ no. absurd no }
alive (g.MoreParts part.Expr n c ∷ gs) (v.Expr x ∷ v.Exprs xs ∷ vs) s h =
    let r = alive gs (v.Exprs ((xs ++ x ∷ []) ++ []) ∷ vs) s (h _) in
    record { tokens = symbol (closing c) ∷ r.tokens; tree = r.tree; completes = (_, _, _, exprs.no_more, r.completes); quiet = λ _. closes_quietly c }
alive (g.MoreParts part.Pattern n c ∷ gs) (v.Pattern x ∷ v.Patterns xs ∷ vs) s h =
    let r = alive gs (v.Patterns ((xs ++ x ∷ []) ++ []) ∷ vs) s (h _) in
    record { tokens = symbol (closing c) ∷ r.tokens; tree = r.tree; completes = (_, _, _, pats.no_more, r.completes); quiet = λ _. closes_quietly c }
alive (g.MoreParts part.Variable n c ∷ gs) (v.Variable x ∷ v.Variables xs ∷ vs) s h =
    let r = alive gs (v.Variables ((xs ++ x ∷ []) ++ []) ∷ vs) s (h _) in
    record { tokens = symbol (closing c) ∷ r.tokens; tree = r.tree; completes = (_, _, _, pats.no_more, r.completes); quiet = λ _. closes_quietly c }
alive (g.MoreParts part.Export n c ∷ gs) (v.Names es ∷ vs) s h =
    let r = alive gs (v.Names (es ++ []) ∷ vs) s (h _) in
    record { tokens = symbol (closing c) ∷ r.tokens; tree = r.tree; completes = (_, _, _, mods.no_more, r.completes); quiet = λ _. closes_quietly c }
alive (g.MoreParts part.Constant n c ∷ gs) vs s h =
    let r = alive gs vs s h in
    record { tokens = symbol (closing c) ∷ r.tokens; tree = r.tree; completes = (_, notes.no_more, r.completes); quiet = λ _. closes_quietly c }
alive (g.MoreParts part.Attribute n c ∷ gs) vs s h =
    let r = alive gs vs s h in
    record { tokens = symbol (closing c) ∷ r.tokens; tree = r.tree; completes = (_, notes.no_more, r.completes); quiet = λ _. closes_quietly c }
alive (g.MoreParts _ n c ∷ gs) _ s h = absurd h
alive (g.Heads part.Expr n ∷ gs) (v.Exprs xs ∷ vs) s h =
    let r = alive gs _ s (h _) in
    record { tokens = symbol w.CloseList ∷ r.tokens; tree = r.tree; completes = (_, _, _, exprs.nil, r.completes); quiet = λ no. absurd no }
alive (g.Heads part.Pattern n ∷ gs) (v.Patterns xs ∷ vs) s h =
    let r = alive gs _ s (h _) in
    record { tokens = symbol w.CloseList ∷ r.tokens; tree = r.tree; completes = (_, _, _, pats.nil, r.completes); quiet = λ no. absurd no }
alive (g.Heads part.Constant n ∷ gs) vs s h =
    let r = alive gs vs s h in
    record { tokens = symbol w.CloseList ∷ r.tokens; tree = r.tree; completes = (_, notes.nil, r.completes); quiet = λ no. absurd no }
alive (g.Heads _ n ∷ gs) _ s h = absurd h
alive (g.MoreHeads part.Expr n ∷ gs) (v.Expr x ∷ v.Exprs xs ∷ vs) s h =
    let r = alive gs _ s (h _) in
    record { tokens = symbol w.CloseList ∷ r.tokens; tree = r.tree; completes = (_, _, _, _, exprs.closed, r.completes); quiet = λ _ is. cc }
alive (g.MoreHeads part.Pattern n ∷ gs) (v.Pattern x ∷ v.Patterns xs ∷ vs) s h =
    let r = alive gs _ s (h _) in
    record { tokens = symbol w.CloseList ∷ r.tokens; tree = r.tree; completes = (_, _, _, _, pats.closed, r.completes); quiet = λ _ is. cc }
alive (g.MoreHeads part.Constant n ∷ gs) vs s h =
    let r = alive gs vs s h in
    record { tokens = symbol w.CloseList ∷ r.tokens; tree = r.tree; completes = (_, notes.closed, r.completes); quiet = λ _ is. cc }
alive (g.MoreHeads _ n ∷ gs) _ s h = absurd h
alive (g.Tail part.Expr n ∷ gs) (v.Exprs xs ∷ vs) s h =
    let r = alive gs _ s (h _) in
    record { tokens = at (n + 1) zero ∷ symbol w.CloseList ∷ r.tokens; tree = r.tree; completes = (_, _, _, exprs.other_tail (λ is. cc) (zero_expr (n + 1) s (symbol w.CloseList ∷ r.tokens)), r.completes); quiet = λ no. absurd no }
alive (g.Tail part.Pattern n ∷ gs) (v.Patterns xs ∷ vs) s h =
    let r = alive gs _ s (h _) in
    record { tokens = at (n + 1) zero ∷ symbol w.CloseList ∷ r.tokens; tree = r.tree; completes = (_, _, _, pats.other_tail (λ is. cc) (pats.integer sign.Absent []), r.completes); quiet = λ no. absurd no }
alive (g.Tail part.Constant n ∷ gs) vs s h =
    let r = alive gs vs s h in
    record { tokens = constant (n + 1) zero ∷ symbol w.CloseList ∷ r.tokens; tree = r.tree; completes = (_, notes.other_tail (λ is. cc) (notes.integer sign.Absent []), r.completes); quiet = λ no. absurd no }
alive (g.Tail _ n ∷ gs) _ s h = absurd h
alive (g.NameOrAtom ∷ gs) (v.Atom a ∷ vs) s h =
    let r = alive gs (v.Expr (e.Name (named_by a [])) ∷ vs) s (h _) in
    record { tokens = symbol w.Slash ∷ arity [] ∷ r.tokens; tree = r.tree; completes = inr (_, refl, ([], (_, refl, r.completes))); quiet = λ no. absurd no }
alive (g.NameOrAtom ∷ gs) _ s h = absurd h
alive (g.Arity ∷ gs) (v.Atom a ∷ vs) s h =
    let r = alive gs (v.Expr (e.Name (named_by a [])) ∷ vs) s (h _) in
    record { tokens = arity [] ∷ r.tokens; tree = r.tree; completes = ([], (_, refl, r.completes)); quiet = λ no. absurd no }
alive (g.Arity ∷ gs) _ s h = absurd h
alive (g.Alias n ∷ gs) (v.Pattern x ∷ vs) s h =
    let r = alive gs (v.Pattern x ∷ vs) s (h.1 x) in
    record { tokens = r.tokens; tree = r.tree; completes = inl (r.quiet h.0, r.completes); quiet = r.quiet }
alive (g.Alias n ∷ gs) _ s h = absurd h
alive (g.Bindings n ∷ gs) vs s h =
    let r = alive gs (v.Variables [] ∷ vs) s (h []) in
    record { tokens = symbol w.Less ∷ symbol w.Greater ∷ r.tokens; tree = r.tree; completes = (_, _, _, pats.many pats.none, r.completes); quiet = λ no. absurd no }
alive (g.Clauses n c ∷ gs) (v.Clauses bs ∷ vs) s h =
    let r = alive gs (v.Clauses (bs ++ []) ∷ vs) s (h _) in
    record { tokens = symbol (closing c) ∷ r.tokens; tree = r.tree; completes = (_, _, _, exprs.no_clauses, r.completes); quiet = λ no. absurd no }
alive (g.Clauses n c ∷ gs) _ s h = absurd h
alive (g.Clause n false ∷ gs) (v.Clauses bs ∷ vs) s h =
    let r = alive gs (v.Clauses (bs ++ clause_of [] the_zero the_zero ∷ []) ∷ vs) s (h.0 _) in
    record { tokens = short_clause n r.tokens; tree = r.tree; completes = (_, _, _, clause_is n s r.tokens, r.completes); quiet = λ no. absurd no }
alive (g.Clause n true ∷ gs) (v.Clauses bs ∷ vs) s h =
    let r = alive gs (v.Clauses (bs ++ clause_of [] the_zero the_zero ∷ []) ∷ vs) s (h.0 _) in
    record { tokens = short_clause n r.tokens; tree = r.tree; completes = inl (_, _, _, clause_is n s r.tokens, r.completes); quiet = λ no. absurd no }
alive (g.Clause n inner ∷ gs) _ s h = absurd h
alive (g.ClauseRest n false ∷ gs) (v.Pattern x ∷ v.Clauses bs ∷ vs) s h =
    let r = alive gs (v.Clauses (bs ++ clause_of (x ∷ []) the_zero the_zero ∷ []) ∷ vs) s (h.0 _) in
    record { tokens = short_rest n r.tokens; tree = r.tree; completes = when_is n x bs vs s r.tokens (λ ws u q. Completes gs ws u q r.tree) r.completes; quiet = λ _. rest_quietly n r.tokens }
alive (g.ClauseRest n true ∷ gs) (v.Pattern x ∷ v.Clauses bs ∷ vs) s h =
    let r = alive gs (v.Clauses (bs ++ clause_of (x ∷ []) the_zero the_zero ∷ []) ∷ vs) s (h.0 _) in
    record { tokens = short_rest n r.tokens; tree = r.tree; completes = inr (when_is n x bs vs s r.tokens (λ ws u q. Completes gs ws u q r.tree) r.completes); quiet = λ _. rest_quietly n r.tokens }
alive (g.ClauseRest n inner ∷ gs) _ s h = absurd h
alive (g.ClauseNote n false ∷ gs) (v.Pattern x ∷ v.Clauses bs ∷ vs) s h =
    let r = alive gs (v.Clauses (bs ++ clause_of (x ∷ []) the_zero the_zero ∷ []) ∷ vs) s (h.0 _) in
    record {
      tokens = empty_note (short_rest n r.tokens);
      tree = r.tree;
      completes = (_, note_of n (short_rest n r.tokens), inl (rest_quietly n r.tokens, when_is n x bs vs s r.tokens (λ ws u q. Completes gs ws u q r.tree) r.completes));
      quiet = λ _. note_quietly (short_rest n r.tokens);
    }
alive (g.ClauseNote n true ∷ gs) (v.Pattern x ∷ v.Clauses bs ∷ vs) s h =
    let r = alive gs (v.Clauses (bs ++ clause_of (x ∷ []) the_zero the_zero ∷ []) ∷ vs) s (h.0 _) in
    record {
      tokens = empty_note (short_rest n r.tokens);
      tree = r.tree;
      completes = (_, note_of n (short_rest n r.tokens), inl (rest_quietly n r.tokens, inr (when_is n x bs vs s r.tokens (λ ws u q. Completes gs ws u q r.tree) r.completes)));
      quiet = λ _. note_quietly (short_rest n r.tokens);
    }
alive (g.ClauseNote n inner ∷ gs) (v.Clauses bs ∷ vs) s h =
    let r = alive gs (v.Clauses bs ∷ vs) s h in
    record { tokens = empty_note r.tokens; tree = r.tree; completes = (_, note_of n r.tokens, r.completes); quiet = λ _. note_quietly r.tokens }
alive (g.ClauseNote n inner ∷ gs) _ s h = absurd h
alive (g.Note n ∷ gs) vs s h =
    let r = or_done gs vs s h (λ f. alive gs vs s f) in
    record { tokens = empty_note r.tokens; tree = r.tree; completes = (_, note_of n r.tokens, r.completes); quiet = λ _. note_quietly r.tokens }
alive (g.Key n ∷ gs) vs s h =
    let r = alive gs vs s h in
    record { tokens = plain (t.Atom []) ∷ r.tokens; tree = r.tree; completes = (_, _, notes.atom [], r.completes); quiet = λ no. absurd no }
alive (g.AttributeValue n ∷ gs) vs s h =
    let r = alive gs vs s h in
    record { tokens = constant n zero ∷ r.tokens; tree = r.tree; completes = (_, notes.unannotated (notes.integer sign.Absent []), r.completes); quiet = λ no. absurd no }
alive (g.Primop n ∷ gs) vs s h =
    let r = alive gs (v.Atom (atom_number s []) ∷ vs) (with_atom s []) (h _) in
    record { tokens = plain (t.Atom []) ∷ r.tokens; tree = r.tree; completes = (_, _, notes.atom [], r.completes); quiet = λ no. absurd no }
alive (g.ExportArity ∷ gs) (v.Atom a ∷ v.Names es ∷ vs) s h =
    let r = alive gs (v.Names (es ++ named_by a [] ∷ []) ∷ vs) s (h _) in
    record { tokens = arity [] ∷ r.tokens; tree = r.tree; completes = ([], (_, refl, r.completes)); quiet = λ no. absurd no }
alive (g.ExportArity ∷ gs) _ s h = absurd h
alive (g.InfoExportArity ∷ gs) (v.Names es ∷ vs) s h =
    let r = alive gs (v.Names es ∷ vs) s (h es) in
    record { tokens = arity [] ∷ r.tokens; tree = r.tree; completes = ([], (_, refl, inr ((refl, omega arith), r.completes))); quiet = λ no. absurd no }
alive (g.InfoExportArity ∷ gs) _ s h = absurd h
alive (g.FunctionArity ∷ gs) (v.Atom a ∷ vs) s h =
    let r = alive gs (v.Name (named_by a []) ∷ vs) s (h _) in
    record { tokens = arity [] ∷ r.tokens; tree = r.tree; completes = ([], (_, refl, r.completes)); quiet = λ no. absurd no }
alive (g.FunctionArity ∷ gs) _ s h = absurd h
alive (g.InfoArity ∷ gs) vs s h =
    let r = alive gs (v.Dropped s ∷ vs) no_tables (h.1 s) in
    record { tokens = arity [] ∷ r.tokens; tree = r.tree; completes = ([], (_, refl, inr ((refl, omega arith), r.completes))); quiet = λ no. absurd no }
alive (g.Functions n ∷ gs) (v.Functions es ∷ vs) s h =
    let r = alive gs (v.Functions (es ++ []) ∷ vs) s (h _) in
    record { tokens = symbol w.In ∷ r.tokens; tree = r.tree; completes = (_, _, _, exprs.no_functions, r.completes); quiet = λ no. absurd no }
alive (g.Functions n ∷ gs) _ s h = absurd h
alive (g.FunctionName n ∷ gs) vs s h =
    let r = alive gs (v.Name (named_by (atom_number s []) []) ∷ vs) (with_atom s []) (h _) in
    record { tokens = plain (t.Atom []) ∷ symbol w.Slash ∷ arity [] ∷ r.tokens; tree = r.tree; completes = (_, _, _, notes.name [] [], r.completes); quiet = λ no. absurd no }
alive (g.Definitions n ∷ gs) (v.Functions es ∷ vs) s h =
    let r = or_done gs (v.Functions (es ++ []) ∷ vs) s (h _) (λ f. alive gs (v.Functions (es ++ []) ∷ vs) s f) in
    record { tokens = symbol w.End ∷ r.tokens; tree = r.tree; completes = (_, _, _, mods.no_definitions, r.completes); quiet = λ no. absurd no }
alive (g.Definitions n ∷ gs) _ s h = absurd h
alive (g.DefinitionName n ∷ gs) vs s h =
    let r = alive gs (v.Name (named_by (atom_number s []) []) ∷ vs) (with_atom s []) (h.0 _) in
    record { tokens = plain (t.Atom []) ∷ symbol w.Slash ∷ arity [] ∷ r.tokens; tree = r.tree; completes = (_, _, _, notes.name [] [], inl (not_dropped, r.completes)); quiet = λ no. absurd no }
alive (g.FunctionBody n ∷ gs) vs s h =
    let r = alive gs (v.Expr the_zero ∷ v.Variables [] ∷ vs) s (h [] the_zero) in
    record {
      tokens = symbol w.Fun ∷ symbol w.Open ∷ symbol w.Close ∷ symbol w.Arrow ∷ at n zero ∷ r.tokens;
      tree = r.tree;
      completes = (_, _, _, _, exprs.function_of pats.none (zero_expr n s r.tokens), r.completes);
      quiet = λ no. absurd no;
    }
alive (g.Module n ∷ gs) vs s h =
    let r = or_done gs (v.Functions [] ∷ v.Names [] ∷ v.Atom (atom_number s []) ∷ vs) (with_atom s []) (h [] [] _) (λ f. alive gs (v.Functions [] ∷ v.Names [] ∷ v.Atom (atom_number s []) ∷ vs) (with_atom s []) f) in
    record {
      tokens = at n (t.Symbol w.Module) ∷ plain (t.Atom []) ∷ symbol w.OpenList ∷ symbol w.CloseList ∷ symbol w.Attributes ∷ symbol w.OpenList ∷ symbol w.CloseList ∷ symbol w.End ∷ r.tokens;
      tree = r.tree;
      completes = (_, _, mods.plain_module [] mods.no_exports notes.none mods.no_definitions, r.completes);
      quiet = λ no. absurd no;
    }
alive (g.ModuleName ∷ gs) vs s h =
    let r = alive gs (v.Atom (atom_number s []) ∷ vs) (with_atom s []) (h _) in
    record { tokens = plain (t.Atom []) ∷ r.tokens; tree = r.tree; completes = ([], (_, refl, r.completes)); quiet = λ no. absurd no }
alive (g.Build form ∷ gs) vs s h = alive_built form gs vs s (built form vs s) refl (h s) (λ ws u k. alive gs ws u k)

pub alive_or : (gs : List Goal) (vs : List Value) (s : Tables) → FitsOrDone gs vs → Alive gs vs s
alive_or gs vs s h = or_done gs vs s h (λ f. alive gs vs s f)
