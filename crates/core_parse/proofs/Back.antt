-- From what is to be read behind a token to what is to be read before it.
use Rattle.std.proofs.Common.{◌≡◌, ℕ, ◌+◌, Bool, true, false, cond, List, [], ◌∷◌, Option, ◌⊎◌, inl, inr, refl, sym, subst}
use Rattle.hy_core.specs.Marks.{Marked, at, constant, plain, symbol, value}
use Rattle.hy_core.specs.Numbering.{variable_number, with_variable}
use Rattle.hy_core.specs.Annotations as notes
use Rattle.hy_core.specs.Annotations.{IsConstant, AreConstants, AreMoreConstants, IsConstantList, IsConstantEnd, IsConstantTail, IsNote, IsAtom, IsName, IsAttributeValue, AreAttributes, AreMoreAttributes}
use Rattle.hy_core.specs.declared.token.Symbol.{Symbol}
use Rattle.hy_core.specs.declared.token.Symbol.TheVariants as w
use Rattle.hy_core.specs.declared.token.Token.{Token}
use Rattle.hy_core.specs.declared.token.Token.TheVariants as t
use Rattle.hy_core.specs.declared.tables.Tables.{Tables}
use Rattle.hy_core.specs.declared.tree.Module.{Module}
use Rattle.core_build.specs.declared.form.Part.TheVariants as part
use Rattle.core_parse.specs.declared.goal.Goal.{Goal}
use Rattle.core_parse.specs.declared.goal.Goal.TheVariants as g
use Rattle.core_build.specs.declared.value.Value.{Value}
use Rattle.core_parse.specs.declared.state.State.{State}
use Rattle.hy_core.specs.Patterns as pats
use Rattle.hy_core.specs.Patterns.{IsVariable, AreVariables, AreMoreVariables, BindsValues, IsNotBefore, IsAliased, IsPattern, ArePatterns, AreMorePatterns, IsPatternList, IsPatternEnd, IsPatternTail, string_pattern, joined_pattern}
use Rattle.core_parse.specs.code.Pushdown.{on, is_symbol, part_begun, constant_begun, variable_begun, pattern_begun, key_begun, value_begun, primop_begun, note_rest, goal_moved, annotation_mark, value_mark}
use Rattle.core_parse.proofs.Tests.{symbol_at}
use Rattle.core_parse.proofs.Meaning.{Completes}
use Rattle.core_parse.proofs.Forth.{Moves}
use Rattle.hy_core.specs.declared.tree.Pattern.{Pattern}
use Rattle.hy_core.specs.declared.tree.Pattern.TheVariants as p
use Rattle.hy_core.specs.declared.tree.Pattern.TheOpen as layer
use Rattle.hy_core.specs.declared.tree.Pattern.TheViews.{out-Pattern}

-- ---- tests

pub if_back : (b : Bool) (x y : Option State) (q : List Marked) (z : Module) → Moves (cond b x y) q z → ((b ≡ true) × Moves x q z) ⊎ ((b ≡ false) × Moves y q z)
if_back true x y q z h = inl (refl, h)
if_back false x y q z h = inr (refl, h)

pub on_back : (k : Symbol) (token : Token) (r : State) (q : List Marked) (z : Module) → Moves (on (is_symbol k token) r) q z → (token ≡ t.Symbol k) × Completes r.goals r.values r.tables q z
on_back k token r q z h = test (is_symbol k token) refl h
  where
    test : (b : Bool) → is_symbol k token ≡ b → Moves (on b r) q z → (token ≡ t.Symbol k) × Completes r.goals r.values r.tables q z
    test true is c = (symbol_at k token is, c)
    test false is c = absurd c

-- the symbol of a test in the place of the token
pub at_symbol : (gs : List Goal) (vs : List Value) (s : Tables) (k : Symbol) (token : Token) (q : List Marked) (z : Module) → token ≡ t.Symbol k → Completes gs vs s (symbol k ∷ q) z → Completes gs vs s (plain token ∷ q) z
at_symbol gs vs s k token q z is c = subst (λ (o : Token). Completes gs vs s (plain o ∷ q) z) (sym is) c

-- ---- annotations

note_at : {n : ℕ} (token : Token) (q a b r : List Marked) → token ≡ t.Symbol w.NoteBar → q ≡ symbol w.OpenList ∷ a → AreConstants (n + 1) w.CloseList a b → b ≡ symbol w.Close ∷ r → IsNote n (plain token ∷ q) r
note_at {n = n} token q a b r bar opens d closes =
    subst (λ (k : Token). IsNote n (plain k ∷ q) r) (sym bar)
    (subst (λ (o : List Marked). IsNote n (symbol w.NoteBar ∷ o) r) (sym opens) (notes.note (subst (λ (o : List Marked). AreConstants (n + 1) w.CloseList a o) closes d)))

pub note_back : (n : ℕ) (gs : List Goal) (vs : List Value) (s : Tables) (token : Token) (q : List Marked) (z : Module) → (token ≡ t.Symbol w.NoteBar) → Completes (note_rest n gs) vs s q z
    → (r : List Marked) × IsNote n (plain token ∷ q) r × Completes gs vs s r z
note_back n gs vs s token q z bar (a, opens, (b, d, (r, closes, h))) = (r, note_at token q a b r bar opens d closes, h)

pub note_to : {n : ℕ} {ms q r : List Marked} → IsNote n ms q → q ≡ r → IsNote n ms r
note_to {n = n} {ms = ms} d is = subst (λ (o : List Marked). IsNote n ms o) is d

pub atom_to : {n : ℕ} {ms q r : List Marked} {text : List ℕ} → IsAtom n ms text q → q ≡ r → IsAtom n ms text r
atom_to {n = n} {ms = ms} {text = text} d is = subst (λ (o : List Marked). IsAtom n ms text o) is d

-- ---- constants

pub constant_back : (n : ℕ) (gs : List Goal) (vs : List Value) (s : Tables) (token : Token) (q : List Marked) (z : Module) → Moves (constant_begun n gs vs s token) q z
    → Completes (g.Part part.Constant n ∷ gs) vs s (constant n token ∷ q) z
constant_back n gs vs s (t.Integer sign digits) q z h = (_, notes.integer sign digits, h)
constant_back n gs vs s (t.Character byte) q z h = (_, notes.character byte, h)
constant_back n gs vs s (t.Atom text) q z h = (_, notes.atom text, h)
constant_back n gs vs s (t.Str text) q z h = (_, notes.string text, h)
constant_back n gs vs s (t.Variable name) q z h = absurd h
constant_back n gs vs s (t.Symbol w.OpenTuple) q z (r, d, h) = (r, notes.tuple d, h)
constant_back n gs vs s (t.Symbol w.OpenList) q z (r, d, h) = (r, notes.list d, h)
constant_back n gs vs s (t.Symbol _) q z h = absurd h

pub key_back : (n : ℕ) (gs : List Goal) (vs : List Value) (s : Tables) (token : Token) (q : List Marked) (z : Module) → Moves (key_begun n gs vs s token) q z
    → Completes (g.Key n ∷ gs) vs s (annotation_mark n token ∷ q) z
key_back n gs vs s (t.Atom text) q z h = (_, _, notes.atom text, h)
key_back n gs vs s (t.Symbol w.Open) q z (key, r, d, (o, end, h)) = (key, o, notes.noted d end, h)
key_back n gs vs s _ q z h = absurd h

pub primop_back : (n : ℕ) (gs : List Goal) (vs : List Value) (s : Tables) (token : Token) (q : List Marked) (z : Module) → Moves (primop_begun n gs vs s token) q z
    → Completes (g.Primop n ∷ gs) vs s (annotation_mark n token ∷ q) z
primop_back n gs vs s (t.Atom text) q z h = (_, _, notes.atom text, h)
primop_back n gs vs s (t.Symbol w.Open) q z (text, r, d, (o, end, h)) = (text, o, notes.noted d end, h)
primop_back n gs vs s _ q z h = absurd h

pub value_back : (n : ℕ) (gs : List Goal) (vs : List Value) (s : Tables) (token : Token) (q : List Marked) (z : Module) → Moves (value_begun n gs vs s token) q z
    → Completes (g.AttributeValue n ∷ gs) vs s (value_mark n token ∷ q) z
value_back n gs vs s (t.Symbol w.Open) q z (r, d, (o, end, h)) = (o, notes.noted d end, h)
value_back n gs vs s (t.Integer sign digits) q z h = (_, notes.unannotated (notes.integer sign digits), h)
value_back n gs vs s (t.Character byte) q z h = (_, notes.unannotated (notes.character byte), h)
value_back n gs vs s (t.Atom text) q z h = (_, notes.unannotated (notes.atom text), h)
value_back n gs vs s (t.Str text) q z h = (_, notes.unannotated (notes.string text), h)
value_back n gs vs s (t.Variable name) q z h = absurd h
value_back n gs vs s (t.Symbol w.OpenTuple) q z (r, d, h) = (r, notes.unannotated (notes.tuple d), h)
value_back n gs vs s (t.Symbol w.OpenList) q z (r, d, h) = (r, notes.unannotated (notes.list d), h)
value_back n gs vs s (t.Symbol _) q z h = absurd h

pub attribute_back : (n : ℕ) (gs : List Goal) (vs : List Value) (s : Tables) (token : Token) (q : List Marked) (z : Module) → Moves (part_begun part.Attribute n gs vs s token) q z
    → Completes (g.Part part.Attribute n ∷ gs) vs s (annotation_mark n token ∷ q) z
attribute_back n gs vs s token q z h = joined_back (key_back n (g.Symbol w.Equals ∷ g.AttributeValue n ∷ gs) vs s token q z h)
  where
    joined_back : Completes (g.Key n ∷ g.Symbol w.Equals ∷ g.AttributeValue n ∷ gs) vs s (annotation_mark n token ∷ q) z → Completes (g.Part part.Attribute n ∷ gs) vs s (annotation_mark n token ∷ q) z
    joined_back (key, a, d, (b, is, (r, value, k))) = (key, b, r, atom_to d is, value, k)

-- ---- variables

pub variable_back : (n : ℕ) (gs : List Goal) (vs : List Value) (s : Tables) (token : Token) (q : List Marked) (z : Module) → Moves (variable_begun n gs vs s token) q z
    → Completes (g.Part part.Variable n ∷ gs) vs s (annotation_mark n token ∷ q) z
variable_back n gs vs s (t.Variable name) q z h = (_, _, _, pats.variable name, h)
variable_back n gs vs s (t.Symbol w.Open) q z (x, u, r, d, (o, end, h)) = (x, u, o, pats.noted d end, h)
variable_back n gs vs s _ q z h = absurd h

pub bindings_back : (n : ℕ) (gs : List Goal) (vs : List Value) (s : Tables) (token : Token) (q : List Marked) (z : Module) → Moves (goal_moved (g.Bindings n) gs vs s token) q z
    → Completes (g.Bindings n ∷ gs) vs s (annotation_mark n token ∷ q) z
bindings_back n gs vs s (t.Symbol w.Less) q z (xs, u, r, d, h) = (xs, u, r, pats.many d, h)
bindings_back n gs vs s (t.Variable name) q z h = (_, _, _, pats.one (pats.variable name), h)
bindings_back n gs vs s (t.Symbol w.Open) q z (x, u, r, d, (o, end, h)) = (_, u, o, pats.one (pats.noted d end), h)
bindings_back n gs vs s _ q z h = absurd h

-- ---- patterns

no_variable : (xs : List Pattern) (end : Pattern) (l : layer.Pattern-F Pattern) (y : ℕ) → pats.joined_at xs end l ≡ p.Var y → ⊥
no_variable xs end (layer.List heads tail) y is = cc
no_variable xs end _ y is = cc

-- a pattern that is a variable is what stands before the = of an alias
pub pattern_aliased : {n : ℕ} {s u : Tables} {ms q : List Marked} {x : Pattern} → IsPattern n s ms x u q → (y : ℕ) → x ≡ p.Var y → IsAliased n s ms y u q
pattern_aliased (pats.integer sign digits) y is = absurd cc
pattern_aliased (pats.character code) y is = absurd cc
pattern_aliased (pats.atom text) y is = absurd cc
pattern_aliased (pats.string []) y is = absurd cc
pattern_aliased (pats.string (b ∷ bs)) y is = absurd cc
pattern_aliased {n = n} {s = s} (pats.variable {q = q} name before) y is =
    let same : variable_number s name ≡ y = cc in
    subst (λ (k : ℕ). IsAliased n s (at n (t.Variable name) ∷ q) k (with_variable s name) q) same (pats.variable name)
pattern_aliased (pats.alias a d) y is = absurd cc
pattern_aliased (pats.tuple d) y is = absurd cc
pattern_aliased (pats.list pats.nil) y is = absurd cc
pattern_aliased (pats.list (pats.heads {x = x} {tail = tail} {xs = xs} d more)) y is = absurd (no_variable (x ∷ xs) tail (out-Pattern tail) y is)
pattern_aliased (pats.noted d end before) y is = pats.noted (pattern_aliased d y is) end

pub aliased_to : {n : ℕ} {s u : Tables} {ms q r : List Marked} {y : ℕ} → IsAliased n s ms y u q → q ≡ r → IsAliased n s ms y u r
aliased_to {n = n} {s = s} {u = u} {ms = ms} {y = y} d is = subst (λ (o : List Marked). IsAliased n s ms y u o) is d

pub pattern_to : {n : ℕ} {s u : Tables} {ms q r : List Marked} {x : Pattern} → IsPattern n s ms x u q → q ≡ r → IsPattern n s ms x u r
pattern_to {n = n} {s = s} {u = u} {ms = ms} {x = x} d is = subst (λ (o : List Marked). IsPattern n s ms x u o) is d

pub pattern_back : (n : ℕ) (gs : List Goal) (vs : List Value) (s : Tables) (token : Token) (q : List Marked) (z : Module) → Moves (pattern_begun n gs vs s token) q z
    → Completes (g.Part part.Pattern n ∷ gs) vs s (at n token ∷ q) z
pattern_back n gs vs s (t.Integer sign digits) q z h = (_, _, _, pats.integer sign digits, h)
pattern_back n gs vs s (t.Character byte) q z h = (_, _, _, pats.character byte, h)
pattern_back n gs vs s (t.Atom text) q z h = (_, _, _, pats.atom text, h)
pattern_back n gs vs s (t.Str text) q z h = (_, _, _, pats.string text, h)
pattern_back n gs vs s (t.Variable name) q z (inl (before, h)) = (_, _, _, pats.variable name before, h)
pattern_back n gs vs s (t.Variable name) q z (inr (y, var, (r, is, (x, u, o, d, h)))) =
    let same : variable_number s name ≡ y = cc in
    let first : IsAliased n s (at n (t.Variable name) ∷ q) y (with_variable s name) q = subst (λ (k : ℕ). IsAliased n s (at n (t.Variable name) ∷ q) k (with_variable s name) q) same (pats.variable name) in
    (_, _, _, pats.alias (aliased_to first is) d, h)
pattern_back n gs vs s (t.Symbol w.OpenTuple) q z (xs, u, r, d, h) = (_, _, _, pats.tuple d, h)
pattern_back n gs vs s (t.Symbol w.OpenList) q z (x, u, r, d, h) = (_, _, _, pats.list d, h)
pattern_back n gs vs s (t.Symbol w.Open) q z (x, u, r, d, (o, end, inl (before, h))) = (_, _, _, pats.noted d end before, h)
pattern_back n gs vs s (t.Symbol w.Open) q z (x, u, r, d, (o, end, inr (y, var, (a, is, (b, i, k, d2, h))))) = (_, _, _, pats.alias (pats.noted (pattern_aliased d y var) (note_to end is)) d2, h)
pattern_back n gs vs s (t.Symbol _) q z h = absurd h
