-- What is to be read, one token on: constants, annotations, variables and patterns.
use Rattle.std.proofs.Common.{◌≡◌, ℕ, ◌+◌, List, [], ◌∷◌, ◌++◌, Option, Some, None, inl, inr, refl, sym, subst}
use Rattle.std.proofs.lemmas.List.{append_assoc, append-nil}
use Rattle.hy_core.specs.Marks.{Marked, at, constant, plain, symbol, value}
use Rattle.hy_core.specs.Numbering.{atom_number, with_atom}
use Rattle.hy_core.specs.Annotations as notes
use Rattle.hy_core.specs.Annotations.{IsConstant, AreConstants, AreMoreConstants, IsConstantList, IsConstantEnd, IsConstantTail, IsNote, IsAtom, IsName, IsAttributeValue, AreAttributes, AreMoreAttributes}
use Rattle.hy_core.specs.declared.token.Symbol.{Symbol}
use Rattle.hy_core.specs.declared.token.Symbol.TheVariants as w
use Rattle.hy_core.specs.declared.token.Token.{Token}
use Rattle.hy_core.specs.declared.token.Token.TheVariants as t
use Rattle.hy_core.specs.declared.tables.Tables.{Tables}
use Rattle.hy_core.specs.declared.tree.Module.{Module}
use Rattle.core_build.specs.declared.form.Part.{Part}
use Rattle.core_build.specs.declared.form.Part.TheVariants as part
use Rattle.core_parse.specs.declared.goal.Closer.{Closer}
use Rattle.core_parse.specs.declared.goal.Closer.TheVariants as closer
use Rattle.core_build.specs.declared.form.Form.TheVariants as f
use Rattle.core_parse.specs.declared.goal.Goal.{Goal}
use Rattle.core_parse.specs.declared.goal.Goal.TheVariants as g
use Rattle.core_build.specs.declared.value.Value.{Value}
use Rattle.core_build.specs.declared.value.Value.TheVariants as v
use Rattle.core_parse.specs.declared.state.State.{State}
use Rattle.hy_core.specs.Patterns as pats
use Rattle.hy_core.specs.Patterns.{IsVariable, AreVariables, AreMoreVariables, BindsValues, IsNotBefore, IsAliased, IsPattern, ArePatterns, AreMorePatterns, IsPatternList, IsPatternEnd, IsPatternTail}
use Rattle.core_parse.specs.code.Pushdown.{closing, part_begun, constant_begun, variable_begun, pattern_begun, key_begun, value_begun, primop_begun, goal_moved, parts_moved, part_mark, annotation_mark, value_mark, mark}
use Rattle.core_build.specs.Trees.{opened}
use Rattle.core_build.specs.code.Forms.{behind_head_patterns}
use Rattle.core_parse.proofs.Tests.{Opens, not_closing, is_itself, is_not}
use Rattle.core_parse.proofs.Meaning.{Completes}
use Rattle.core_build.proofs.Joins.{join_front_patterns}
use Rattle.hy_core.specs.declared.tree.Pattern.{Pattern}
use Rattle.hy_core.specs.declared.tree.Pattern.TheVariants as p

-- the tokens complete the state
abbrev pub Moves : Option State → List Marked → Module → Type 0
Moves None q z = ⊥
Moves (Some r) q z = Completes r.goals r.values r.tables q z

-- the first token is taken with its mark, and the others complete the state behind it
abbrev pub Forth : (Token → Marked) → (Token → Option State) → List Marked → Module → Type 0
Forth mark move [] z = ⊥
Forth mark move (m ∷ q) z = (mark m.token ≡ m) × Moves (move m.token) q z

pub forth_at : (mark : Token → Marked) (move : Token → Option State) (m : Marked) (ms q : List Marked) (z : Module) → ms ≡ m ∷ q → mark m.token ≡ m → Moves (move m.token) q z → Forth mark move ms z
forth_at mark move m ms q z is marked c = subst (λ (os : List Marked). Forth mark move os z) (sym is) (marked, c)

-- ---- the first tokens

pub constant_opens : {n : ℕ} {ms q : List Marked} → IsConstant n ms q → Opens ms
constant_opens (notes.integer sign digits) = refl
constant_opens (notes.character code) = refl
constant_opens (notes.atom text) = refl
constant_opens (notes.string text) = refl
constant_opens (notes.tuple d) = refl
constant_opens (notes.list d) = refl

pub atom_opens : {n : ℕ} {ms q : List Marked} {text : List ℕ} → IsAtom n ms text q → Opens ms
atom_opens (notes.atom text) = refl
atom_opens (notes.noted d end) = refl

pub variable_opens : {n : ℕ} {s u : Tables} {ms q : List Marked} {x : ℕ} → IsVariable n s ms x u q → Opens ms
variable_opens (pats.variable name) = refl
variable_opens (pats.noted d end) = refl

aliased_opens : {n : ℕ} {s u : Tables} {ms q : List Marked} {x : ℕ} → IsAliased n s ms x u q → Opens ms
aliased_opens (pats.variable name) = refl
aliased_opens (pats.noted d end) = refl

pub pattern_opens : {n : ℕ} {s u : Tables} {ms q : List Marked} {x : Pattern} → IsPattern n s ms x u q → Opens ms
pattern_opens (pats.integer sign digits) = refl
pattern_opens (pats.character code) = refl
pattern_opens (pats.atom text) = refl
pattern_opens (pats.string text) = refl
pattern_opens (pats.variable name before) = refl
pattern_opens (pats.alias a d) = aliased_opens a
pattern_opens (pats.tuple d) = refl
pattern_opens (pats.list d) = refl
pattern_opens (pats.noted d end before) = refl

-- ---- lists of parts

pub parts_first : (k : Part) (n : ℕ) (c : Closer) (gs : List Goal) (vs : List Value) (s : Tables) (ms : List Marked) (z : Module) → Opens ms
    → Forth (part_mark k n) (part_begun k n (g.MoreParts k n c ∷ gs) (opened k vs) s) ms z → Forth (mark (g.Parts k n c)) (parts_moved k n c gs vs s) ms z
parts_first k n c gs vs s [] z opens h = h
parts_first k n c gs vs s (m ∷ ms) z opens h = rw (not_closing c m.token opens) h

pub parts_closed : (k : Part) (n : ℕ) (c : Closer) (gs : List Goal) (vs : List Value) (s : Tables) (q : List Marked) (z : Module) → Completes gs (opened k vs) s q z
    → Forth (mark (g.Parts k n c)) (parts_moved k n c gs vs s) (symbol (closing c) ∷ q) z
parts_closed k n c gs vs s q z h = rw (is_itself (closing c)) (refl, h)

-- behind a head, or the bar, of a list notation
pub heads_first : (k : Part) (n : ℕ) (gs : List Goal) (vs : List Value) (s : Tables) (ms : List Marked) (z : Module) → Opens ms
    → Forth (part_mark k (n + 1)) (part_begun k (n + 1) (g.MoreHeads k n ∷ gs) vs s) ms z → Forth (mark (g.Heads k n)) (goal_moved (g.Heads k n) gs vs s) ms z
heads_first k n gs vs s [] z opens h = h
heads_first k n gs vs s (m ∷ ms) z opens h = rw (not_closing closer.List m.token opens) h

pub tail_first : (k : Part) (n : ℕ) (gs : List Goal) (vs : List Value) (s : Tables) (m : Marked) (ms : List Marked) (z : Module) → (m.token ≡ t.Symbol w.OpenList → ⊥)
    → Forth (part_mark k (n + 1)) (part_begun k (n + 1) (g.Symbol w.CloseList ∷ g.Build (f.Join k) ∷ gs) vs s) (m ∷ ms) z → Forth (mark (g.Tail k n)) (goal_moved (g.Tail k n) gs vs s) (m ∷ ms) z
tail_first k n gs vs s m ms z never h = rw (is_not w.OpenList m.token never) h

-- ---- constants

pub constant_forth : {n : ℕ} {ms q : List Marked} → IsConstant n ms q → (gs : List Goal) (vs : List Value) (s : Tables) (z : Module) → Completes gs vs s q z
    → Forth (constant n) (constant_begun n gs vs s) ms z
constant_forth (notes.integer sign digits) gs vs s z h = (refl, h)
constant_forth (notes.character code) gs vs s z h = (refl, h)
constant_forth (notes.atom text) gs vs s z h = (refl, h)
constant_forth (notes.string text) gs vs s z h = (refl, h)
constant_forth (notes.tuple d) gs vs s z h = (refl, (_, d, h))
constant_forth (notes.list d) gs vs s z h = (refl, (_, d, h))

pub constants_forth : {n : ℕ} {ms q : List Marked} (c : Closer) → AreConstants n (closing c) ms q → (gs : List Goal) (vs : List Value) (s : Tables) (z : Module) → Completes gs vs s q z
    → Forth (mark (g.Parts part.Constant n c)) (parts_moved part.Constant n c gs vs s) ms z
constants_forth {n = n} {q = q} c notes.no_constants gs vs s z h = parts_closed part.Constant n c gs vs s q z h
constants_forth {n = n} {ms = ms} c (notes.some_constants d more) gs vs s z h =
    parts_first part.Constant n c gs vs s ms z (constant_opens d) (constant_forth d (g.MoreParts part.Constant n c ∷ gs) vs s z (_, more, h))

pub more_constants_forth : {n : ℕ} {ms q : List Marked} (c : Closer) → AreMoreConstants n (closing c) ms q → (gs : List Goal) (vs : List Value) (s : Tables) (z : Module) → Completes gs vs s q z
    → Forth (mark (g.MoreParts part.Constant n c)) (goal_moved (g.MoreParts part.Constant n c) gs vs s) ms z
more_constants_forth c notes.no_more gs vs s z h = rw (is_itself (closing c)) (refl, h)
more_constants_forth c (notes.one_more d more) gs vs s z h = rw (not_closing c (t.Symbol w.Comma) refl) (refl, (_, d, (_, more, h)))

pub constant_list_forth : {n : ℕ} {ms q : List Marked} → IsConstantList n ms q → (gs : List Goal) (vs : List Value) (s : Tables) (z : Module) → Completes gs vs s q z
    → Forth (mark (g.Heads part.Constant n)) (goal_moved (g.Heads part.Constant n) gs vs s) ms z
constant_list_forth notes.nil gs vs s z h = (refl, h)
constant_list_forth {n = n} {ms = ms} (notes.heads d more) gs vs s z h =
    heads_first part.Constant n gs vs s ms z (constant_opens d) (constant_forth d (g.MoreHeads part.Constant n ∷ gs) vs s z (_, more, h))

pub constant_end_forth : {n : ℕ} {ms q : List Marked} → IsConstantEnd n ms q → (gs : List Goal) (vs : List Value) (s : Tables) (z : Module) → Completes gs vs s q z
    → Forth (mark (g.MoreHeads part.Constant n)) (goal_moved (g.MoreHeads part.Constant n) gs vs s) ms z
constant_end_forth notes.closed gs vs s z h = (refl, h)
constant_end_forth (notes.next_head d more) gs vs s z h = (refl, (_, d, (_, more, h)))
constant_end_forth (notes.tail d) gs vs s z h = (refl, (_, d, h))

pub constant_tail_forth : {n : ℕ} {ms q : List Marked} → IsConstantTail n ms (symbol w.CloseList ∷ q) → (gs : List Goal) (vs : List Value) (s : Tables) (z : Module) → Completes gs vs s q z
    → Forth (mark (g.Tail part.Constant n)) (goal_moved (g.Tail part.Constant n) gs vs s) ms z
constant_tail_forth (notes.list_tail d) gs vs s z h = (refl, (_, d, (_, refl, h)))
constant_tail_forth {n = n} (notes.other_tail {m = m} {ms = ms} never d) gs vs s z h =
    tail_first part.Constant n gs vs s m ms z never (constant_forth d (g.Symbol w.CloseList ∷ g.Build (f.Join part.Constant) ∷ gs) vs s z (_, refl, h))

-- ---- annotations and what they stand round

pub note_forth : {n : ℕ} {ms q : List Marked} → IsNote n ms q → (gs : List Goal) (vs : List Value) (s : Tables) (z : Module) → Completes gs vs s q z
    → Forth (λ token. plain token) (goal_moved (g.Note n) gs vs s) ms z
note_forth (notes.note d) gs vs s z h = (refl, (_, refl, (_, d, (_, refl, h))))

pub key_forth : {n : ℕ} {ms q : List Marked} {text : List ℕ} → IsAtom n ms text q → (gs : List Goal) (vs : List Value) (s : Tables) (z : Module) → Completes gs vs s q z
    → Forth (annotation_mark n) (key_begun n gs vs s) ms z
key_forth (notes.atom text) gs vs s z h = (refl, h)
key_forth (notes.noted d end) gs vs s z h = (refl, (_, _, d, (_, end, h)))

pub primop_forth : {n : ℕ} {ms q : List Marked} {text : List ℕ} → IsAtom n ms text q → (gs : List Goal) (vs : List Value) (s : Tables) (z : Module)
    → Completes gs (v.Atom (atom_number s text) ∷ vs) (with_atom s text) q z → Forth (annotation_mark n) (primop_begun n gs vs s) ms z
primop_forth (notes.atom text) gs vs s z h = (refl, h)
primop_forth (notes.noted d end) gs vs s z h = (refl, (_, _, d, (_, end, h)))

pub value_forth : {n : ℕ} {ms q : List Marked} → IsAttributeValue n ms q → (gs : List Goal) (vs : List Value) (s : Tables) (z : Module) → Completes gs vs s q z
    → Forth (value_mark n) (value_begun n gs vs s) ms z
value_forth (notes.unannotated (notes.integer sign digits)) gs vs s z h = (refl, h)
value_forth (notes.unannotated (notes.character code)) gs vs s z h = (refl, h)
value_forth (notes.unannotated (notes.atom text)) gs vs s z h = (refl, h)
value_forth (notes.unannotated (notes.string text)) gs vs s z h = (refl, h)
value_forth (notes.unannotated (notes.tuple d)) gs vs s z h = (refl, (_, d, h))
value_forth (notes.unannotated (notes.list d)) gs vs s z h = (refl, (_, d, h))
value_forth (notes.noted d end) gs vs s z h = (refl, (_, d, (_, end, h)))

pub attribute_forth : {n : ℕ} {ms q r : List Marked} {key : List ℕ} → IsAtom n ms key (symbol w.Equals ∷ q) → IsAttributeValue n q r → (gs : List Goal) (vs : List Value) (s : Tables) (z : Module) → Completes gs vs s r z
    → Forth (annotation_mark n) (part_begun part.Attribute n gs vs s) ms z
attribute_forth {n = n} d value gs vs s z h = key_forth d (g.Symbol w.Equals ∷ g.AttributeValue n ∷ gs) vs s z (_, refl, (_, value, h))

pub attributes_forth : {n : ℕ} {ms q : List Marked} (c : Closer) → AreAttributes n (closing c) ms q → (gs : List Goal) (vs : List Value) (s : Tables) (z : Module) → Completes gs vs s q z
    → Forth (mark (g.Parts part.Attribute n c)) (parts_moved part.Attribute n c gs vs s) ms z
attributes_forth {n = n} {q = q} c notes.none gs vs s z h = parts_closed part.Attribute n c gs vs s q z h
attributes_forth {n = n} {ms = ms} c (notes.some d value more) gs vs s z h =
    parts_first part.Attribute n c gs vs s ms z (atom_opens d) (attribute_forth d value (g.MoreParts part.Attribute n c ∷ gs) vs s z (_, more, h))

pub more_attributes_forth : {n : ℕ} {ms q : List Marked} (c : Closer) → AreMoreAttributes n (closing c) ms q → (gs : List Goal) (vs : List Value) (s : Tables) (z : Module) → Completes gs vs s q z
    → Forth (mark (g.MoreParts part.Attribute n c)) (goal_moved (g.MoreParts part.Attribute n c) gs vs s) ms z
more_attributes_forth c notes.no_more gs vs s z h = rw (is_itself (closing c)) (refl, h)
more_attributes_forth c (notes.one_more d value more) gs vs s z h = rw (not_closing c (t.Symbol w.Comma) refl) (refl, (_, _, _, d, value, (_, more, h)))

-- ---- variables

pub variable_forth : {n : ℕ} {s u : Tables} {ms q : List Marked} {x : ℕ} → IsVariable n s ms x u q → (gs : List Goal) (vs : List Value) (z : Module) → Completes gs (v.Variable x ∷ vs) u q z
    → Forth (annotation_mark n) (variable_begun n gs vs s) ms z
variable_forth (pats.variable name) gs vs z h = (refl, h)
variable_forth (pats.noted d end) gs vs z h = (refl, (_, _, _, d, (_, end, h)))

pub variables_forth : {n : ℕ} {s u : Tables} {ms q : List Marked} {xs : List ℕ} (c : Closer) → AreVariables n (closing c) s ms xs u q → (gs : List Goal) (vs : List Value) (z : Module)
    → Completes gs (v.Variables xs ∷ vs) u q z → Forth (mark (g.Parts part.Variable n c)) (parts_moved part.Variable n c gs vs s) ms z
variables_forth {n = n} {s = s} {q = q} c pats.none gs vs z h = parts_closed part.Variable n c gs vs s q z h
variables_forth {n = n} {s = s} {ms = ms} c (pats.some d more) gs vs z h =
    parts_first part.Variable n c gs vs s ms z (variable_opens d) (variable_forth d (g.MoreParts part.Variable n c ∷ gs) (v.Variables [] ∷ vs) z (_, _, _, more, h))

pub more_variables_forth : {n : ℕ} {s u : Tables} {ms q : List Marked} {ys : List ℕ} (c : Closer) → AreMoreVariables n (closing c) s ms ys u q → (x : ℕ) (xs : List ℕ) (gs : List Goal) (vs : List Value) (z : Module)
    → Completes gs (v.Variables ((xs ++ x ∷ []) ++ ys) ∷ vs) u q z
    → Forth (mark (g.MoreParts part.Variable n c)) (goal_moved (g.MoreParts part.Variable n c) gs (v.Variable x ∷ v.Variables xs ∷ vs) s) ms z
more_variables_forth {u = u} {q = q} c pats.no_more x xs gs vs z h =
    rw (is_itself (closing c)) (refl, subst (λ (k : List ℕ). Completes gs (v.Variables k ∷ vs) u q z) (append-nil (xs ++ x ∷ [])) h)
more_variables_forth {u = u} {q = q} c (pats.one_more {v = y} {vs = ys} d more) x xs gs vs z h =
    rw (not_closing c (t.Symbol w.Comma) refl)
    (refl, (_, _, _, d, (_, _, _, more, subst (λ (k : List ℕ). Completes gs (v.Variables k ∷ vs) u q z) (sym (append_assoc (xs ++ x ∷ []) (y ∷ []) ys)) h)))

pub bindings_forth : {n : ℕ} {s u : Tables} {ms q : List Marked} {xs : List ℕ} → BindsValues n s ms xs u q → (gs : List Goal) (vs : List Value) (z : Module) → Completes gs (v.Variables xs ∷ vs) u q z
    → Forth (annotation_mark n) (goal_moved (g.Bindings n) gs vs s) ms z
bindings_forth (pats.one (pats.variable name)) gs vs z h = (refl, h)
bindings_forth (pats.one (pats.noted d end)) gs vs z h = (refl, (_, _, _, d, (_, end, h)))
bindings_forth (pats.many d) gs vs z h = (refl, (_, _, _, d, h))

-- ---- patterns

-- a note begins with its bar
pub note_not_before : {n : ℕ} {ms q : List Marked} (k : Symbol) → IsNote n ms q → (t.Symbol w.NoteBar ≡ t.Symbol k → ⊥) → IsNotBefore k ms
note_not_before k (notes.note d) never = never

-- what may stand before the = of an alias is a pattern where it doesn't
pub aliased_pattern : {n : ℕ} {s u : Tables} {ms q : List Marked} {x : ℕ} → IsAliased n s ms x u q → IsNotBefore w.Equals q → IsPattern n s ms (p.Var x) u q
aliased_pattern (pats.variable name) before = pats.variable name before
aliased_pattern (pats.noted d end) before = pats.noted (aliased_pattern d (note_not_before w.Equals end (λ is. cc))) end before

pub pattern_forth : {n : ℕ} {s u : Tables} {ms q : List Marked} {x : Pattern} → IsPattern n s ms x u q → (gs : List Goal) (vs : List Value) (z : Module) → Completes gs (v.Pattern x ∷ vs) u q z
    → Forth (at n) (pattern_begun n gs vs s) ms z
pattern_forth (pats.integer sign digits) gs vs z h = (refl, h)
pattern_forth (pats.character code) gs vs z h = (refl, h)
pattern_forth (pats.atom text) gs vs z h = (refl, h)
pattern_forth (pats.string text) gs vs z h = (refl, h)
pattern_forth (pats.variable name before) gs vs z h = (refl, inl (before, h))
pattern_forth (pats.alias (pats.variable name) d) gs vs z h = (refl, inr (_, refl, (_, refl, (_, _, _, d, h))))
pattern_forth (pats.alias (pats.noted a end) d) gs vs z h =
    (refl, (_, _, _, aliased_pattern a (note_not_before w.Equals end (λ is. cc)), (_, end, inr (_, refl, (_, refl, (_, _, _, d, h))))))
pattern_forth (pats.tuple d) gs vs z h = (refl, (_, _, _, d, h))
pattern_forth (pats.list d) gs vs z h = (refl, (_, _, _, d, h))
pattern_forth (pats.noted d end before) gs vs z h = (refl, (_, _, _, d, (_, end, inl (before, h))))

pub patterns_forth : {n : ℕ} {s u : Tables} {ms q : List Marked} {xs : List Pattern} (c : Closer) → ArePatterns n (closing c) s ms xs u q → (gs : List Goal) (vs : List Value) (z : Module)
    → Completes gs (v.Patterns xs ∷ vs) u q z → Forth (mark (g.Parts part.Pattern n c)) (parts_moved part.Pattern n c gs vs s) ms z
patterns_forth {n = n} {s = s} {q = q} c pats.no_patterns gs vs z h = parts_closed part.Pattern n c gs vs s q z h
patterns_forth {n = n} {s = s} {ms = ms} c (pats.some_patterns d more) gs vs z h =
    parts_first part.Pattern n c gs vs s ms z (pattern_opens d) (pattern_forth d (g.MoreParts part.Pattern n c ∷ gs) (v.Patterns [] ∷ vs) z (_, _, _, more, h))

pub more_patterns_forth : {n : ℕ} {s u : Tables} {ms q : List Marked} {ys : List Pattern} (c : Closer) → AreMorePatterns n (closing c) s ms ys u q
    → (x : Pattern) (xs : List Pattern) (gs : List Goal) (vs : List Value) (z : Module) → Completes gs (v.Patterns ((xs ++ x ∷ []) ++ ys) ∷ vs) u q z
    → Forth (mark (g.MoreParts part.Pattern n c)) (goal_moved (g.MoreParts part.Pattern n c) gs (v.Pattern x ∷ v.Patterns xs ∷ vs) s) ms z
more_patterns_forth {u = u} {q = q} c pats.no_more x xs gs vs z h =
    rw (is_itself (closing c)) (refl, subst (λ (k : List Pattern). Completes gs (v.Patterns k ∷ vs) u q z) (append-nil (xs ++ x ∷ [])) h)
more_patterns_forth {u = u} {q = q} c (pats.one_more {x = y} {xs = ys} d more) x xs gs vs z h =
    rw (not_closing c (t.Symbol w.Comma) refl)
    (refl, (_, _, _, d, (_, _, _, more, subst (λ (k : List Pattern). Completes gs (v.Patterns k ∷ vs) u q z) (sym (append_assoc (xs ++ x ∷ []) (y ∷ []) ys)) h)))

pub pattern_list_forth : {n : ℕ} {s u : Tables} {ms q : List Marked} {x : Pattern} → IsPatternList n s ms x u q → (xs : List Pattern) (gs : List Goal) (vs : List Value) (z : Module)
    → Completes gs (v.Pattern (behind_head_patterns xs x) ∷ vs) u q z → Forth (mark (g.Heads part.Pattern n)) (goal_moved (g.Heads part.Pattern n) gs (v.Patterns xs ∷ vs) s) ms z
pattern_list_forth pats.nil xs gs vs z h = (refl, h)
pattern_list_forth {n = n} {s = s} {u = u} {ms = ms} {q = q} (pats.heads {x = y} {tail = tail} {xs = ys} d more) xs gs vs z h =
    heads_first part.Pattern n gs (v.Patterns xs ∷ vs) s ms z (pattern_opens d)
    (pattern_forth d (g.MoreHeads part.Pattern n ∷ gs) (v.Patterns xs ∷ vs) z
    (_, _, _, _, more, subst (λ (k : Pattern). Completes gs (v.Pattern k ∷ vs) u q z) (join_front_patterns xs y ys tail) h))

pub pattern_end_forth : {n : ℕ} {s u : Tables} {ms q : List Marked} {ys : List Pattern} {tail : Pattern} → IsPatternEnd n s ms ys tail u q
    → (x : Pattern) (xs : List Pattern) (gs : List Goal) (vs : List Value) (z : Module) → Completes gs (v.Pattern (behind_head_patterns ((xs ++ x ∷ []) ++ ys) tail) ∷ vs) u q z
    → Forth (mark (g.MoreHeads part.Pattern n)) (goal_moved (g.MoreHeads part.Pattern n) gs (v.Pattern x ∷ v.Patterns xs ∷ vs) s) ms z
pattern_end_forth {u = u} {q = q} pats.closed x xs gs vs z h =
    (refl, subst (λ (k : List Pattern). Completes gs (v.Pattern (behind_head_patterns k p.Nil) ∷ vs) u q z) (append-nil (xs ++ x ∷ [])) h)
pattern_end_forth {u = u} {q = q} (pats.next_head {x = y} {tail = tail} {xs = ys} d more) x xs gs vs z h =
    (refl, (_, _, _, d, (_, _, _, _, more, subst (λ (k : List Pattern). Completes gs (v.Pattern (behind_head_patterns k tail) ∷ vs) u q z) (sym (append_assoc (xs ++ x ∷ []) (y ∷ []) ys)) h)))
pattern_end_forth {u = u} {q = q} (pats.tail {tail = tail} d) x xs gs vs z h =
    (refl, (_, _, _, d, subst (λ (k : List Pattern). Completes gs (v.Pattern (behind_head_patterns k tail) ∷ vs) u q z) (append-nil (xs ++ x ∷ [])) h))

pub pattern_tail_forth : {n : ℕ} {s u : Tables} {ms q : List Marked} {x : Pattern} → IsPatternTail n s ms x u (symbol w.CloseList ∷ q) → (xs : List Pattern) (gs : List Goal) (vs : List Value) (z : Module)
    → Completes gs (v.Pattern (behind_head_patterns xs x) ∷ vs) u q z → Forth (mark (g.Tail part.Pattern n)) (goal_moved (g.Tail part.Pattern n) gs (v.Patterns xs ∷ vs) s) ms z
pattern_tail_forth (pats.list_tail d) xs gs vs z h = (refl, (_, _, _, d, (_, refl, h)))
pattern_tail_forth {n = n} {s = s} (pats.other_tail {m = m} {ms = ms} never d) xs gs vs z h =
    tail_first part.Pattern n gs (v.Patterns xs ∷ vs) s m ms z never (pattern_forth d (g.Symbol w.CloseList ∷ g.Build (f.Join part.Pattern) ∷ gs) (v.Patterns xs ∷ vs) z (_, refl, h))
