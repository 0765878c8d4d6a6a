-- Lowering gives out the registers that are needed.
use Rattle.std.proofs.Common.{◌≡◌, ℕ, suc, ◌+◌, List, [], ◌∷◌, ◌++◌, length, Bool, true, false}
use Rattle.std.proofs.Common.{refl, sym, ap, ◌∙◌, subst, arith}
use Rattle.std.specs.List.{All}
use Rattle.std.proofs.lemmas.List.Elements.{All-nil, All-cons, All-head, All-tail}
use Rattle.core_accepted.specs.TreeSites.{conses, tree_sites, all_sites, clauses_sites}
use Rattle.core_accepted.specs.TreeSites.{program_tree_sites}
use Rattle.hy_core.specs.KnownTrees.{IsKnown, AreKnown, ClausesAreKnown, HasGuardForms}
use Rattle.hy_core.specs.KnownTrees.{HaveGuardForms, pattern_count, width, IsKnownFunction}
use Rattle.hy_core.specs.KnownTrees.{arities_of}
use Rattle.hy_core.specs.Resolved as r
use Rattle.hy_core.specs.Resolved.{Pattern, Patterns, NoPatterns, MorePatterns, Head, Expression}
use Rattle.hy_core.specs.Resolved.{Expressions, NoExpressions, MoreExpressions, Clauses, NoClauses}
use Rattle.hy_core.specs.Resolved.{MoreClauses, FunctionTree}
use Rattle.hy_core.specs.Supplied.{expression_count}
use Rattle.hy_core.specs.declared.info.SiteInfo.{SiteInfo}
use Rattle.hy_ir.specs.Code as c
use Rattle.hy_ir.specs.Code.{Last, Part, NoLapse, LapseTo}
use Rattle.hy_ir.specs.View.{arms_in}
use Rattle.lifted_program.specs.Flat.{IsFlat, AreFlat, ClausesAreFlat}
use Rattle.program_code.specs.HeldRegisters.{Held}
use Rattle.program_code.specs.ProgramCode.{parameter_registers}
use Rattle.lowered_code.specs.Builder.{Builder, Place, Piece, Inner, Tail, with_registers}
use Rattle.lowered_code.specs.Builder.{first, rest, beginning, opened, closed, inside, conses_into}
use Rattle.lowered_code.specs.Builder.{written_tree}
use Rattle.lowered_code.specs.LoweredExpressions.{lowered, all_lowered, arms_lowered, Branches}
use Rattle.lowered_code.specs.LoweredExpressions.{no_branches, with_arm}
use Rattle.lowered_code.specs.LoweredGuards.{Guarded, bound_to, guarded, all_guarded, guard_with}
use Rattle.lowered_code.specs.LoweredPatterns.{Checks, tested, tested_parts, tested_heads}
use Rattle.lowered_code.specs.LoweredPatterns.{tested_all, with_tuple, with_cons, with_bind}
use Rattle.lowered_code.specs.LoweringLaws.{IsLowerable}
use Rattle.lowered_code.specs.NeededRegisters.{pattern_needs, parts_need}
use Rattle.lowered_code.specs.NeededRegisters.{heads_need, patterns_need, guard_needs, guards_need}
use Rattle.lowered_code.specs.NeededRegisters.{outs_at, needs, all_need, arms_need}
use Rattle.lowered_code.specs.NeededRegisters.{HasNeededRegisters}
use Rattle.lowered_code.proofs.Appending.{moved_more, moved_none}
use Rattle.lowered_code.proofs.Expressions.{variables_bound, lowered_meets, all_lowered_meet}
use Rattle.lowered_code.proofs.Functions.{parameters_held, are_sites}
use Rattle.lowered_code.proofs.Pieces.{AreSites, sites_front, sites_back, as_piece}
use Rattle.lowered_code.proofs.Tests.{variables_of, all_meet}
use Rattle.lowered_code.proofs.Wholes.{Fits, fits_inside, opened_registers, opened_next}

-- patterns

mutual
  tested_next : (p : Pattern) (i : Bool) (from : ℕ) (held : Held) (k : Checks)
      → (tested i p from (held, k)).1.next ≡ k.next + pattern_needs i p
  tested_next (r.AnyTerm x) true from held k = moved_none k.next
  tested_next (r.AnyTerm x) false from held k = refl
  tested_next (r.TheInt n) i from held k = moved_none k.next
  tested_next (r.TheAtom a) i from held k = moved_none k.next
  tested_next r.TheNil i from held k = moved_none k.next
  tested_next (r.TheText text) i from held k = moved_none k.next
  tested_next (r.TheTuple ps) i from held k =
      let n = pattern_count ps in
      moved_more k.next n (parts_need ps) (k.next + n)
      (tested_parts ps k.next (held, with_tuple from n k)).1.next refl
      (parts_next ps k.next held (with_tuple from n k))
  tested_next (r.TheList ps p) i from held k =
      heads_next ps i (λ j q u. tested j p q u) (λ j. pattern_needs j p)
      (λ j q h d. tested_next p j q h d) from held k
  tested_next (r.Alias x p) true from held k =
      tested_next p true from ((x, from) ∷ held) k ∙ none_more (pattern_needs true p)
    where
      none_more : (n : ℕ) → k.next + n ≡ k.next + (0 + n)
      none_more n = omega arith
  tested_next (r.Alias x p) false from held k =
      moved_more k.next 1 (pattern_needs false p) (k.next + 1)
      (tested false p from ((x, k.next) ∷ held, with_bind from k)).1.next refl
      (tested_next p false from ((x, k.next) ∷ held) (with_bind from k))

  parts_next : (ps : Patterns) (from : ℕ) (held : Held) (k : Checks)
      → (tested_parts ps from (held, k)).1.next ≡ k.next + parts_need ps
  parts_next NoPatterns from held k = moved_none k.next
  parts_next (MorePatterns p ps) from held k =
      let m = tested true p from (held, k) in
      moved_more k.next (pattern_needs true p) (parts_need ps) m.1.next
      (tested_parts ps (from + 1) m).1.next (tested_next p true from held k)
      (parts_next ps (from + 1) m.0 m.1)

  heads_next : (ps : Patterns) (i : Bool) (tail : Bool → ℕ → Held × Checks → Held × Checks)
      (n : Bool → ℕ)
      → ((j : Bool) (q : ℕ) (h : Held) (d : Checks) → (tail j q (h, d)).1.next ≡ d.next + n j)
      → (from : ℕ) (held : Held) (k : Checks)
      → (tested_heads i ps tail from (held, k)).1.next ≡ k.next + heads_need i ps n
  heads_next NoPatterns i tail n d from held k = d i from held k
  heads_next (MorePatterns q ps) i tail n d from held k =
      let m = tested true q k.next (held, with_cons from k) in
      let u = tested_heads true ps tail (k.next + 1) m in
      moved_more k.next 2 (pattern_needs true q + heads_need true ps n) (k.next + 2) u.1.next refl
      (moved_more (k.next + 2) (pattern_needs true q) (heads_need true ps n) m.1.next u.1.next
      (tested_next q true k.next held (with_cons from k))
      (heads_next ps true tail n d (k.next + 1) m.0 m.1))

all_next : (ps : Patterns) (rs : List ℕ) (held : Held) (k : Checks)
    → (tested_all ps rs (held, k)).1.next ≡ k.next + patterns_need ps
all_next NoPatterns rs held k = moved_none k.next
all_next (MorePatterns p ps) rs held k =
    let m = tested false p (first rs) (held, k) in
    moved_more k.next (pattern_needs false p) (patterns_need ps) m.1.next
    (tested_all ps (rest rs) m).1.next (tested_next p false (first rs) held k)
    (all_next ps (rest rs) m.0 m.1)

-- guards

mutual
  guarded_next : (e : Expression) (held : Held) (g : Guarded) → HasGuardForms e
      → (guarded e held g).next ≡ g.next + guard_needs e
  guarded_next (r.Int n) held g f = refl
  guarded_next (r.Atom a) held g f = refl
  guarded_next r.Nil held g f = refl
  guarded_next (r.Variable x) held g f = moved_none g.next
  guarded_next (r.Call (r.BuiltIn b) es) held g f =
      let t = all_guarded es held (guard_with [] g) in
      moved_more g.next (guards_need es) 1 t.next (t.next + 1)
      (all_guarded_next es held (guard_with [] g) f) refl
  guarded_next (r.Let xs e b) held g f =
      let t = guarded e held (guard_with [] g) in
      let v = guarded b (bound_to xs t.registers held) (guard_with g.registers t) in
      moved_more g.next (guard_needs e) (guard_needs b) t.next v.next
      (guarded_next e held (guard_with [] g) f.0)
      (guarded_next b (bound_to xs t.registers held) (guard_with g.registers t) f.1)
  guarded_next _ held g f = absurd f

  all_guarded_next : (es : Expressions) (held : Held) (g : Guarded) → HaveGuardForms es
      → (all_guarded es held g).next ≡ g.next + guards_need es
  all_guarded_next NoExpressions held g f = moved_none g.next
  all_guarded_next (MoreExpressions e es) held g f =
      let t = guarded e held g in
      moved_more g.next (guard_needs e) (guards_need es) t.next (all_guarded es held t).next
      (guarded_next e held g f.0) (all_guarded_next es held t f.1)

-- expressions

conses_next : (heads : List ℕ) (site tail : ℕ) (b : Builder)
    → (conses_into site heads tail b).next ≡ b.next + length heads
conses_next [] site tail b = moved_none b.next
conses_next (head ∷ heads) site tail b =
    one_behind (conses_into (site + 1) heads tail b).next b.next (length heads)
    (conses_next heads (site + 1) tail b)
  where
    one_behind : (m k n : ℕ) → m ≡ k + n → m + 1 ≡ k + suc n
    one_behind m k n e = omega (arith, e)

closed_next : (place : Place) (wanted : ℕ) (b : Builder) (parts : List Part) (next : ℕ) (end : Last)
    → (closed place wanted b parts next end).0.next ≡ next + outs_at place wanted
closed_next Piece wanted b parts next end = refl
closed_next Inner wanted b parts next end = moved_none next
closed_next Tail wanted b parts next end = moved_none next

-- behind what is opened at this place
from_opened : (place : Place) (b : Builder) (n m : ℕ) → m ≡ (opened place b).next + n
    → m ≡ b.next + n
from_opened place b n m e = e ∙ ap (λ k. k + n) (opened_next place b)

module _ (sites : List SiteInfo) (arities : List ℕ) where
  mutual
    next_is : (e : Expression) (held : Held) (wanted : ℕ) (place : Place) (b : Builder)
        → Fits place wanted → IsKnown arities (variables_of held) [] wanted e → IsFlat e
        → AreSites sites (tree_sites e)
        → (lowered e held wanted place b).0.next ≡ b.next + needs e wanted place
    next_is (r.Int n) held wanted place b fit k f s = refl
    next_is (r.Atom a) held wanted place b fit k f s = refl
    next_is r.Nil held wanted place b fit k f s = refl
    next_is (r.Text site text) held wanted place b fit k f s = refl
    next_is (r.Variable x) held wanted place b fit k f s = moved_none b.next
    next_is (r.Tuple site es) held wanted place b fit k f s =
        let t = all_lowered es held (with_registers [] b) in
        moved_more b.next (all_need es) 1 t.next (t.next + 1)
        (all_next_is es held (with_registers [] b) k.1 f s.1) refl
    next_is (r.ListOf site es e) held wanted place b fit k f s =
        let before = sites_front sites (conses site (expression_count es) ++ all_sites es)
        (tree_sites e) s in
        let own = sites_back sites (conses site (expression_count es)) (all_sites es) before in
        let t = all_lowered es held (with_registers [] b) in
        let h = all_lowered_meet sites arities es held (with_registers [] b) k.1 f.0 own in
        let m = h.many in
        let many : length t.registers ≡ expression_count es = omega (arith, m) in
        let w = lowered e held 1 Piece (with_registers [] t) in
        let v = conses_into site t.registers (first w.0.registers) w.0 in
        moved_more b.next (all_need es) (needs e 1 Piece + expression_count es) t.next v.next
        (all_next_is es held (with_registers [] b) k.1 f.0 own)
        (moved_more t.next (needs e 1 Piece) (expression_count es) w.0.next v.next
        (next_is e held 1 Piece (with_registers [] t) tt k.2 f.1
        (sites_back sites (conses site (expression_count es) ++ all_sites es) (tree_sites e) s))
        (conses_next t.registers site (first w.0.registers) w.0
        ∙ ap (λ n. w.0.next + n) many))
    next_is (r.Values es) held wanted place b fit k f s =
        all_next_is es held (with_registers [] b) k.1 f s
    next_is (r.Let xs e d) held wanted place b fit k f s =
        let v = lowered e held (length xs) Piece (with_registers [] b) in
        let inner = bound_to xs v.0.registers held in
        let w = lowered d inner wanted place (with_registers b.registers v.0) in
        moved_more b.next (needs e (length xs) Piece) (needs d wanted place) v.0.next w.0.next
        (next_is e held (length xs) Piece (with_registers [] b) tt k.0 f.0
        (sites_front sites (tree_sites e) (tree_sites d) s))
        (next_is d inner wanted place (with_registers b.registers v.0) fit
        (subst (λ scope. IsKnown arities scope [] wanted d)
        (sym (variables_bound xs v.0.registers held)) k.1) f.1
        (sites_back sites (tree_sites e) (tree_sites d) s))
    next_is (r.Do e d) held wanted place b fit k f s =
        let v = lowered e held 1 Piece (with_registers [] b) in
        let w = lowered d held wanted place (with_registers b.registers v.0) in
        moved_more b.next (needs e 1 Piece) (needs d wanted place) v.0.next w.0.next
        (next_is e held 1 Piece (with_registers [] b) tt k.0 f.0
        (sites_front sites (tree_sites e) (tree_sites d) s))
        (next_is d held wanted place (with_registers b.registers v.0) fit k.1 f.1
        (sites_back sites (tree_sites e) (tree_sites d) s))
    next_is (r.Case e cs) held wanted place b fit k f s =
        let v = lowered e held (width cs) Piece (opened place b) in
        let front = sites_front sites (tree_sites e) (clauses_sites cs) s in
        let h = as_piece sites held e (width cs) (opened place b) v.0 v.1
        (lowered_meets sites arities e held (width cs) Piece (opened place b) tt k.0 f.0 front) in
        let many : length v.0.registers ≡ width cs = ap length h.kept
        ∙ ap (λ l. length (l ++ h.values)) (opened_registers place b) ∙ h.many in
        let a = arms_lowered cs held v.0.registers wanted (inside place) (no_branches v.0.next) in
        let end = c.Choose (arms_in a.arms) in
        moved_more b.next (needs e (width cs) Piece + arms_need cs wanted (inside place))
        (outs_at place wanted) a.next (closed place wanted b v.0.parts a.next end).0.next
        (moved_more b.next (needs e (width cs) Piece) (arms_need cs wanted (inside place)) v.0.next
        a.next (from_opened place b (needs e (width cs) Piece) v.0.next
        (next_is e held (width cs) Piece (opened place b) tt k.0 f.0 front))
        (arms_next cs held v.0.registers (width cs) wanted (inside place) (no_branches v.0.next)
        many (fits_inside place wanted fit) k.1 f.1
        (sites_back sites (tree_sites e) (clauses_sites cs) s)))
        (closed_next place wanted b v.0.parts a.next end)
    next_is (r.Call (r.BuiltIn g) es) held wanted place b fit k f s =
        let t = all_lowered es held (with_registers [] b) in
        moved_more b.next (all_need es) 1 t.next (t.next + 1)
        (all_next_is es held (with_registers [] b) k.2 f.1 s) refl
    next_is (r.Call (r.Function g) es) held wanted Piece b fit k f s =
        let t = all_lowered es held (with_registers [] b) in
        moved_more b.next (all_need es) 1 t.next (t.next + 1)
        (all_next_is es held (with_registers [] b) k.2 f.1 s) refl
    next_is (r.Call (r.Function g) es) held wanted Inner b fit k f s =
        let t = all_lowered es held (with_registers [] b) in
        moved_more b.next (all_need es) 1 t.next (t.next + 1)
        (all_next_is es held (with_registers [] b) k.2 f.1 s) refl
    next_is (r.Call (r.Function g) es) held wanted Tail b fit k f s =
        let t = all_lowered es held (with_registers [] b) in
        moved_more b.next (all_need es) 0 t.next t.next
        (all_next_is es held (with_registers [] b) k.2 f.1 s) (moved_none t.next)
    next_is (r.Call (r.Setelement site) es) held wanted place b fit k f s =
        let t = all_lowered es held (with_registers [] b) in
        moved_more b.next (all_need es) 1 t.next (t.next + 1)
        (all_next_is es held (with_registers [] b) k.2 f.1 s.1) refl
    next_is (r.Call (r.Send node) es) held wanted place b fit k f s =
        let t = all_lowered es held (with_registers [] b) in
        moved_more b.next (all_need es) 1 t.next (t.next + 1)
        (all_next_is es held (with_registers [] b) k.2 f.1 s) refl
    next_is (r.Call (r.Spawn node g) es) held wanted place b fit k f s =
        let t = all_lowered es held (with_registers [] b) in
        moved_more b.next (all_need es) 1 t.next (t.next + 1)
        (all_next_is es held (with_registers [] b) k.2 f.1 s) refl
    next_is (r.Call (r.Display node) es) held wanted place b fit k f s =
        let t = all_lowered es held (with_registers [] b) in
        moved_more b.next (all_need es) 1 t.next (t.next + 1)
        (all_next_is es held (with_registers [] b) k.2 f.1 s) refl
    next_is (r.Call (r.Raising class) es) held wanted place b fit k f s =
        let t = all_lowered es held (opened place b) in
        let end = c.Raise class (first t.registers) in
        moved_more b.next (all_need es) (outs_at place wanted) t.next
        (closed place wanted b t.parts t.next end).0.next
        (from_opened place b (all_need es) t.next
        (all_next_is es held (opened place b) k.2 f.1 s))
        (closed_next place wanted b t.parts t.next end)
    next_is (r.Call r.MatchFail es) held wanted place b fit k f s =
        let t = all_lowered es held (opened place b) in
        let end = c.Fail (first t.registers) in
        moved_more b.next (all_need es) (outs_at place wanted) t.next
        (closed place wanted b t.parts t.next end).0.next
        (from_opened place b (all_need es) t.next
        (all_next_is es held (opened place b) k.2 f.1 s))
        (closed_next place wanted b t.parts t.next end)
    next_is (r.Call (r.Local g) es) held wanted place b fit k f s = absurd f.0
    next_is (r.Receive cs r.Never e) held wanted place b fit k f s =
        let from = no_branches (b.next + 1) in
        let a = arms_lowered cs held (b.next ∷ []) wanted (inside place) from in
        let end = c.Receive b.next (arms_in a.arms) NoLapse in
        let n = arms_need cs wanted (inside place) in
        moved_more b.next ((1 + n) + 0) (outs_at place wanted) a.next
        (closed place wanted b (opened place b).parts a.next end).0.next
        (moved_more b.next (1 + n) 0 a.next a.next
        (moved_more b.next 1 n (b.next + 1) a.next refl
        (arms_next cs held (b.next ∷ []) 1 wanted (inside place) from refl
        (fits_inside place wanted fit) k.0 f.0
        (sites_front sites (clauses_sites cs) (tree_sites e) s))) (moved_none a.next))
        (closed_next place wanted b (opened place b).parts a.next end)
    next_is (r.Receive cs r.AtOnce e) held wanted place b fit k f s =
        let from = no_branches (b.next + 1) in
        let a = arms_lowered cs held (b.next ∷ []) wanted (inside place) from in
        let w = lowered e held wanted (inside place) (beginning a.next) in
        let end = c.Receive b.next (arms_in a.arms) (LapseTo (written_tree w)) in
        let n = arms_need cs wanted (inside place) in
        let l = needs e wanted (inside place) in
        moved_more b.next ((1 + n) + l) (outs_at place wanted) w.0.next
        (closed place wanted b (opened place b).parts w.0.next end).0.next
        (moved_more b.next (1 + n) l a.next w.0.next
        (moved_more b.next 1 n (b.next + 1) a.next refl
        (arms_next cs held (b.next ∷ []) 1 wanted (inside place) from refl
        (fits_inside place wanted fit) k.0 f.0
        (sites_front sites (clauses_sites cs) (tree_sites e) s)))
        (next_is e held wanted (inside place) (beginning a.next) (fits_inside place wanted fit) k.1
        f.1 (sites_back sites (clauses_sites cs) (tree_sites e) s)))
        (closed_next place wanted b (opened place b).parts w.0.next end)
    next_is (r.Letrec fs e) held wanted place b fit k f s = absurd f
    next_is r.Refused held wanted place b fit k f s = absurd k

    all_next_is : (es : Expressions) (held : Held) (b : Builder)
        → AreKnown arities (variables_of held) [] es → AreFlat es → AreSites sites (all_sites es)
        → (all_lowered es held b).next ≡ b.next + all_need es
    all_next_is NoExpressions held b k f s = moved_none b.next
    all_next_is (MoreExpressions e es) held b k f s =
        let w = lowered e held 1 Piece b in
        moved_more b.next (needs e 1 Piece) (all_need es) w.0.next (all_lowered es held w.0).next
        (next_is e held 1 Piece b tt k.0 f.0 (sites_front sites (tree_sites e) (all_sites es) s))
        (all_next_is es held w.0 k.1 f.1 (sites_back sites (tree_sites e) (all_sites es) s))

    arms_next : (cs : Clauses) (held : Held) (rs : List ℕ) (values wanted : ℕ) (place : Place)
        (a : Branches) → length rs ≡ values → Fits place wanted
        → ClausesAreKnown arities (variables_of held) [] values wanted cs → ClausesAreFlat cs
        → AreSites sites (clauses_sites cs)
        → (arms_lowered cs held rs wanted place a).next ≡ a.next + arms_need cs wanted place
    arms_next NoClauses held rs values wanted place a many fit k f s = moved_none a.next
    arms_next (MoreClauses ps g d cs) held rs values wanted place a many fit k f s =
        let here = sites_front sites (tree_sites g ++ tree_sites d) (clauses_sites cs) s in
        let c0 : Checks = record { tests = []; next = a.next } in
        let u = tested_all ps rs (held, c0) in
        let t = all_meet ps rs held c0 (many ∙ sym k.0) in
        let g0 : Guarded = record { operations = []; next = u.1.next; registers = [] } in
        let h = guarded g u.0 g0 in
        let w = lowered d u.0 wanted place (beginning h.next) in
        let m = with_arm a u.1 h w in
        moved_more a.next (patterns_need ps + (guard_needs g + needs d wanted place))
        (arms_need cs wanted place) w.0.next (arms_lowered cs held rs wanted place m).next
        (moved_more a.next (patterns_need ps) (guard_needs g + needs d wanted place) u.1.next
        w.0.next (all_next ps rs held c0)
        (moved_more u.1.next (guard_needs g) (needs d wanted place) h.next w.0.next
        (guarded_next g u.0 g0 k.1) (next_is d u.0 wanted place (beginning h.next) fit
        (subst (λ scope. IsKnown arities scope [] wanted d) (sym t.scope) k.3) f.1
        (sites_back sites (tree_sites g) (tree_sites d) here))))
        (arms_next cs held rs values wanted place m many fit k.4 f.2
        (sites_back sites (tree_sites g ++ tree_sites d) (clauses_sites cs) s))

  function_needs : (f : FunctionTree) → IsKnownFunction arities f → IsFlat f.body
      → AreSites sites (tree_sites f.body) → HasNeededRegisters f
  function_needs f k flat s =
      next_is f.body (parameters_held f) 1 Tail (beginning (length f.parameters)) refl
      (subst (λ scope. IsKnown arities scope [] 1 f.body)
      (sym (variables_bound f.parameters (parameter_registers 0 f.parameters) [])) k) flat s

  functions_need : (fs : List FunctionTree) → All (IsKnownFunction arities) fs
      → All (λ (f : FunctionTree). IsFlat f.body) fs → AreSites sites (program_tree_sites fs)
      → All HasNeededRegisters fs
  functions_need [] k flat s = All-nil HasNeededRegisters
  functions_need (f ∷ fs) k flat s =
      All-cons HasNeededRegisters f fs
      (function_needs f (All-head (IsKnownFunction arities) f fs k)
      (All-head (λ (g : FunctionTree). IsFlat g.body) f fs flat)
      (sites_front sites (tree_sites f.body) (program_tree_sites fs) s))
      (functions_need fs (All-tail (IsKnownFunction arities) f fs k)
      (All-tail (λ (g : FunctionTree). IsFlat g.body) f fs flat)
      (sites_back sites (tree_sites f.body) (program_tree_sites fs) s))

pub registers_needed : (sites : List SiteInfo) (lifted : List FunctionTree)
    → IsLowerable sites lifted → All HasNeededRegisters lifted
registers_needed sites lifted h =
    functions_need sites (arities_of lifted) lifted h.known h.flat
    (are_sites sites (program_tree_sites lifted) h.stand)
