-- What lowering writes for an expression is code of it, form by form.
use Rattle.std.proofs.Common.{◌≡◌, ℕ, ◌+◌, List, [], ◌∷◌, ◌++◌, length, refl, sym}
use Rattle.std.proofs.Common.{ap, ◌∙◌, subst, arith}
use Rattle.std.proofs.lemmas.List.{append-nil}
use Rattle.core_accepted.specs.TreeSites.{conses, tree_sites, all_sites, clauses_sites}
use Rattle.hy_core.specs.declared.info.SiteInfo.{SiteInfo}
use Rattle.hy_core.specs.KnownTrees.{IsKnown, AreKnown, ClausesAreKnown, width}
use Rattle.hy_core.specs.Resolved as r
use Rattle.hy_core.specs.Resolved.{Expression, Expressions, NoExpressions, MoreExpressions}
use Rattle.hy_core.specs.Resolved.{Clauses, NoClauses, MoreClauses}
use Rattle.hy_core.specs.Scopes.{with_variables}
use Rattle.hy_core.specs.Supplied.{expression_count}
use Rattle.hy_ir.specs.Code as c
use Rattle.hy_ir.specs.Code.{NoLapse}
use Rattle.hy_ir.specs.View.{parts_in}
use Rattle.hy_ir.specs.declared.code.Constant.TheVariants as constant
use Rattle.hy_ir.specs.declared.code.Op.TheVariants as op
use Rattle.lifted_program.specs.Flat.{IsFlat, AreFlat, ClausesAreFlat}
use Rattle.program_code.specs.ExpressionCode.{PiecesOf, of_int, of_atom, of_nil, of_text}
use Rattle.program_code.specs.ExpressionCode.{of_tuple, of_setelement, of_send, of_spawn}
use Rattle.program_code.specs.ExpressionCode.{of_display, of_bif, of_call, calls_last, raises}
use Rattle.program_code.specs.ExpressionCode.{fails}
use Rattle.program_code.specs.HeldRegisters.{Held, holding}
use Rattle.program_code.specs.WrittenRegisters.{parts_write}
use Rattle.lowered_code.specs.Builder.{Builder, Place, Piece, Inner, Tail, with_registers}
use Rattle.lowered_code.specs.Builder.{first, rest, beginning, opened, inside}
use Rattle.lowered_code.specs.LoweredExpressions.{lowered, all_lowered, arms_lowered, Branches}
use Rattle.lowered_code.specs.LoweredExpressions.{no_branches, with_arm}
use Rattle.lowered_code.specs.LoweredGuards.{bound_to, guarded, register_in}
use Rattle.lowered_code.specs.LoweredPatterns.{tested_all}
use Rattle.lowered_code.proofs.Guards.{found, guarded_meets}
use Rattle.lowered_code.proofs.Pieces.{AreSites, sites_front, sites_back, one_value, two_values}
use Rattle.lowered_code.proofs.Pieces.{three_values, holding_is, values_at, AllWrote, Met}
use Rattle.lowered_code.proofs.Pieces.{as_piece, for_one, alone_wrote, behind_wrote}
use Rattle.lowered_code.proofs.Pieces.{variable_wrote, nothing_wrote, one_and_more, values_wrote}
use Rattle.lowered_code.proofs.Pieces.{list_wrote, let_met, do_met}
use Rattle.lowered_code.proofs.Tests.{variables_of, all_meet}
use Rattle.lowered_code.proofs.Wholes.{Fits, fits_inside, opened_registers, raise_met, whole}
use Rattle.lowered_code.proofs.Wholes.{ArmsWrote, no_arms_wrote, arm_and_more, choice_met}
use Rattle.lowered_code.proofs.Wholes.{waits_met, lapses_met, tail_piece}

pub variables_bound : (xs rs : List ℕ) (held : Held)
    → variables_of (bound_to xs rs held) ≡ with_variables (variables_of held) xs
variables_bound [] rs held = refl
variables_bound (x ∷ xs) rs held = variables_bound xs (rest rs) ((x, first rs) ∷ held)

module _ (sites : List SiteInfo) (arities : List ℕ) where
  -- as many registers as arguments
  counted : (held : Held) (es : Expressions) (b t : Builder) (n : ℕ) → expression_count es ≡ n
      → AllWrote sites held es (with_registers [] b) t → length t.registers ≡ n
  counted held es b t n e h = let m = h.many in omega (arith, m, e)

  -- the reason of a raise
  reason : (held : Held) (es : Expressions) (place : Place) (b t : Builder)
      (h : AllWrote sites held es (opened place b) t) → expression_count es ≡ 1
      → PiecesOf sites held [] es (parts_in h.added) (first t.registers ∷ [])
  reason held es place b t h e =
      let none = opened_registers place b in
      let m = h.many in
      let one : length t.registers ≡ 1 = m ∙ ap (λ rs. length rs + expression_count es) none ∙ e' in
      subst (λ rs. PiecesOf sites held [] es (parts_in h.added) rs) (one_value t.registers one)
      (subst (λ done. PiecesOf sites held done es (parts_in h.added) t.registers) none h.code)
    where
      e' : 0 + expression_count es ≡ 1
      e' = omega (arith, e)

  mutual
    pub lowered_meets : (e : Expression) (held : Held) (wanted : ℕ) (place : Place) (b : Builder)
        → Fits place wanted → IsKnown arities (variables_of held) [] wanted e → IsFlat e
        → AreSites sites (tree_sites e)
        → Met sites held e wanted place b (lowered e held wanted place b)
    lowered_meets (r.Int n) held wanted place b fit k f s =
        for_one sites held (r.Int n) wanted b _ k (alone_wrote sites held (r.Int n)
        (λ out. op.Const out (constant.Int n)) b of_int refl)
    lowered_meets (r.Atom a) held wanted place b fit k f s =
        for_one sites held (r.Atom a) wanted b _ k (alone_wrote sites held (r.Atom a)
        (λ out. op.Const out (constant.Atom a)) b of_atom refl)
    lowered_meets r.Nil held wanted place b fit k f s =
        for_one sites held r.Nil wanted b _ k (alone_wrote sites held r.Nil
        (λ out. op.Const out constant.Nil) b of_nil refl)
    lowered_meets (r.Text site text) held wanted place b fit k f s =
        for_one sites held (r.Text site text) wanted b _ k (alone_wrote sites held (r.Text site
        text)
        (λ out. op.Text site out text) b (of_text s.0) refl)
    lowered_meets (r.Variable x) held wanted place b fit k f s =
        for_one sites held (r.Variable x) wanted b _ k.0
        (variable_wrote sites held x (register_in held x) b (found x held k.1))
    lowered_meets (r.Tuple site es) held wanted place b fit k f s =
        let t = all_lowered es held (with_registers [] b) in
        let h = all_lowered_meet es held (with_registers [] b) k.1 f s.1 in
        for_one sites held (r.Tuple site es) wanted b _ k.0
        (behind_wrote sites held (r.Tuple site es) es (λ out. op.Build site out t.registers) b t h
        (of_tuple h.code s.0) refl)
    lowered_meets (r.ListOf site es e) held wanted place b fit k f s =
        let before = sites_front sites (conses site (expression_count es) ++ all_sites es)
        (tree_sites e) s in
        let t = all_lowered es held (with_registers [] b) in
        let w = lowered e held 1 Piece (with_registers [] t) in
        for_one sites held (r.ListOf site es e) wanted b _ k.0
        (list_wrote sites held site es e b t w.0
        (sites_front sites (conses site (expression_count es)) (all_sites es) before)
        (all_lowered_meet es held (with_registers [] b) k.1 f.0
        (sites_back sites (conses site (expression_count es)) (all_sites es) before))
        (as_piece sites held e 1 (with_registers [] t) w.0 w.1
        (lowered_meets e held 1 Piece (with_registers [] t) tt k.2 f.1
        (sites_back sites (conses site (expression_count es) ++ all_sites es) (tree_sites e) s))))
    lowered_meets (r.Values es) held wanted place b fit k f s =
        values_wrote sites held es wanted b (all_lowered es held (with_registers [] b)) k.0
        (all_lowered_meet es held (with_registers [] b) k.1 f s)
    lowered_meets (r.Let xs e d) held wanted place b fit k f s =
        let v = lowered e held (length xs) Piece (with_registers [] b) in
        let h = as_piece sites held e (length xs) (with_registers [] b) v.0 v.1
        (lowered_meets e held (length xs) Piece (with_registers [] b) tt k.0 f.0
        (sites_front sites (tree_sites e) (tree_sites d) s)) in
        let many : length v.0.registers ≡ length xs = ap length h.kept ∙ h.many in
        let inner = bound_to xs v.0.registers held in
        let w = lowered d inner wanted place (with_registers b.registers v.0) in
        let_met sites held inner xs e d wanted (length xs) place b v.0 w.0 w.1 h
        (ap (λ rs. holding xs rs held) (sym h.kept) ∙ holding_is xs v.0.registers held many)
        (lowered_meets d inner wanted place (with_registers b.registers v.0) fit
        (subst (λ scope. IsKnown arities scope [] wanted d)
        (sym (variables_bound xs v.0.registers held)) k.1) f.1
        (sites_back sites (tree_sites e) (tree_sites d) s))
    lowered_meets (r.Do e d) held wanted place b fit k f s =
        let v = lowered e held 1 Piece (with_registers [] b) in
        let w = lowered d held wanted place (with_registers b.registers v.0) in
        do_met sites held e d wanted place b v.0 w.0 w.1
        (as_piece sites held e 1 (with_registers [] b) v.0 v.1
        (lowered_meets e held 1 Piece (with_registers [] b) tt k.0 f.0
        (sites_front sites (tree_sites e) (tree_sites d) s)))
        (lowered_meets d held wanted place (with_registers b.registers v.0) fit k.1 f.1
        (sites_back sites (tree_sites e) (tree_sites d) s))
    lowered_meets (r.Case e cs) held wanted place b fit k f s =
        let v = lowered e held (width cs) Piece (opened place b) in
        let h = as_piece sites held e (width cs) (opened place b) v.0 v.1
        (lowered_meets e held (width cs) Piece (opened place b) tt k.0 f.0
        (sites_front sites (tree_sites e) (clauses_sites cs) s)) in
        let many : length v.0.registers ≡ width cs = ap length h.kept
        ∙ ap (λ l. length (l ++ h.values)) (opened_registers place b) ∙ h.many in
        let a = arms_lowered cs held v.0.registers wanted (inside place) (no_branches v.0.next) in
        choice_met sites held e cs wanted (width cs) place b v.0 (no_branches v.0.next) a refl refl
        h (arms_meet cs held v.0.registers (width cs) wanted (inside place)
        (no_branches v.0.next) many (fits_inside place wanted fit) k.1 f.1
        (sites_back sites (tree_sites e) (clauses_sites cs) s))
    lowered_meets (r.Call (r.BuiltIn g) es) held wanted place b fit k f s =
        let t = all_lowered es held (with_registers [] b) in
        let h = all_lowered_meet es held (with_registers [] b) k.2 f.1 s in
        for_one sites held (r.Call (r.BuiltIn g) es) wanted b _ k.0
        (behind_wrote sites held (r.Call (r.BuiltIn g) es) es (λ out. op.Bif out g t.registers) b t
        h (of_bif h.code) refl)
    lowered_meets (r.Call (r.Function g) es) held wanted Piece b fit k f s =
        let t = all_lowered es held (with_registers [] b) in
        let h = all_lowered_meet es held (with_registers [] b) k.2 f.1 s in
        for_one sites held (r.Call (r.Function g) es) wanted b _ k.0
        (behind_wrote sites held (r.Call (r.Function g) es) es (λ out. op.Call out g t.registers) b
        t h (of_call h.code) refl)
    lowered_meets (r.Call (r.Function g) es) held wanted Inner b fit k f s =
        let t = all_lowered es held (with_registers [] b) in
        let h = all_lowered_meet es held (with_registers [] b) k.2 f.1 s in
        for_one sites held (r.Call (r.Function g) es) wanted b _ k.0
        (behind_wrote sites held (r.Call (r.Function g) es) es (λ out. op.Call out g t.registers) b
        t h (of_call h.code) refl)
    lowered_meets (r.Call (r.Function g) es) held wanted Tail b fit k f s =
        let t = all_lowered es held (with_registers [] b) in
        let h = all_lowered_meet es held (with_registers [] b) k.2 f.1 s in (
          tail_piece,
          record {
            added = h.added;
            new = h.new;
            grown = h.grown;
            code = calls_last h.code;
            outs = append-nil (parts_write (parts_in h.added)) ∙ h.outs;
            moved = h.moved;
          },
        )
    lowered_meets (r.Call (r.Setelement site) es) held wanted place b fit k f s =
        let t = all_lowered es held (with_registers [] b) in
        let h = all_lowered_meet es held (with_registers [] b) k.2 f.1 s.1 in
        let three = three_values t.registers (counted held es b t 3 k.1 h) in
        for_one sites held (r.Call (r.Setelement site) es) wanted b _ k.0
        (behind_wrote sites held (r.Call (r.Setelement site) es) es (λ out. op.Set site out
        (first t.registers) (first (rest t.registers)) (first (rest (rest t.registers)))) b t h
        (of_setelement (subst (λ rs. PiecesOf sites held [] es (parts_in h.added) rs) three h.code)
        s.0) refl)
    lowered_meets (r.Call (r.Send node) es) held wanted place b fit k f s =
        let t = all_lowered es held (with_registers [] b) in
        let h = all_lowered_meet es held (with_registers [] b) k.2 f.1 s in
        let two = two_values t.registers (counted held es b t 2 k.1 h) in
        for_one sites held (r.Call (r.Send node) es) wanted b _ k.0
        (behind_wrote sites held (r.Call (r.Send node) es) es (λ out. op.Send node out
        (first t.registers) (first (rest t.registers))) b t h
        (of_send (subst (λ rs. PiecesOf sites held [] es (parts_in h.added) rs) two h.code)) refl)
    lowered_meets (r.Call (r.Spawn node g) es) held wanted place b fit k f s =
        let t = all_lowered es held (with_registers [] b) in
        let h = all_lowered_meet es held (with_registers [] b) k.2 f.1 s in
        for_one sites held (r.Call (r.Spawn node g) es) wanted b _ k.0
        (behind_wrote sites held (r.Call (r.Spawn node g) es) es
        (λ out. op.Spawn node out g t.registers) b t h (of_spawn h.code) refl)
    lowered_meets (r.Call (r.Display node) es) held wanted place b fit k f s =
        let t = all_lowered es held (with_registers [] b) in
        let h = all_lowered_meet es held (with_registers [] b) k.2 f.1 s in
        let one = one_value t.registers (counted held es b t 1 k.1 h) in
        for_one sites held (r.Call (r.Display node) es) wanted b _ k.0
        (behind_wrote sites held (r.Call (r.Display node) es) es
        (λ out. op.Show out (first t.registers)) b t h
        (of_display (subst (λ rs. PiecesOf sites held [] es (parts_in h.added) rs) one h.code))
        refl)
    lowered_meets (r.Call (r.Raising class) es) held wanted place b fit k f s =
        let t = all_lowered es held (opened place b) in
        let h = all_lowered_meet es held (opened place b) k.2 f.1 s in
        raise_met sites held (r.Call (r.Raising class) es) es wanted place b t
        (c.Raise class (first t.registers)) h (raises (reason held es place b t h k.1)) refl
    lowered_meets (r.Call r.MatchFail es) held wanted place b fit k f s =
        let t = all_lowered es held (opened place b) in
        let h = all_lowered_meet es held (opened place b) k.2 f.1 s in
        raise_met sites held (r.Call r.MatchFail es) es wanted place b t
        (c.Fail (first t.registers)) h (fails (reason held es place b t h k.1)) refl
    lowered_meets (r.Call (r.Local g) es) held wanted place b fit k f s = absurd f.0
    lowered_meets (r.Receive cs r.Never e) held wanted place b fit k f s =
        let from = no_branches (b.next + 1) in
        let a = arms_lowered cs held (b.next ∷ []) wanted (inside place) from in
        waits_met sites held e cs wanted place b from a refl refl
        (arms_meet cs held (b.next ∷ []) 1 wanted (inside place) from refl
        (fits_inside place wanted fit) k.0 f.0
        (sites_front sites (clauses_sites cs) (tree_sites e) s))
    lowered_meets (r.Receive cs r.AtOnce e) held wanted place b fit k f s =
        let from = no_branches (b.next + 1) in
        let a = arms_lowered cs held (b.next ∷ []) wanted (inside place) from in
        let w = lowered e held wanted (inside place) (beginning a.next) in
        lapses_met sites held e cs wanted place b from a w refl refl
        (arms_meet cs held (b.next ∷ []) 1 wanted (inside place) from refl
        (fits_inside place wanted fit) k.0 f.0
        (sites_front sites (clauses_sites cs) (tree_sites e) s))
        (whole sites held e (inside place) wanted a.next w.0 w.1 (fits_inside place wanted fit)
        (lowered_meets e held wanted (inside place) (beginning a.next)
        (fits_inside place wanted fit) k.1 f.1
        (sites_back sites (clauses_sites cs) (tree_sites e) s)))
    lowered_meets (r.Letrec fs e) held wanted place b fit k f s = absurd f
    lowered_meets r.Refused held wanted place b fit k f s = absurd k

    pub all_lowered_meet : (es : Expressions) (held : Held) (b : Builder)
        → AreKnown arities (variables_of held) [] es → AreFlat es → AreSites sites (all_sites es)
        → AllWrote sites held es b (all_lowered es held b)
    all_lowered_meet NoExpressions held b k f s = nothing_wrote sites held b
    all_lowered_meet (MoreExpressions e es) held b k f s =
        let w = lowered e held 1 Piece b in
        one_and_more sites held e es b w.0 (all_lowered es held w.0)
        (as_piece sites held e 1 b w.0 w.1 (lowered_meets e held 1 Piece b tt k.0 f.0
        (sites_front sites (tree_sites e) (all_sites es) s)))
        (all_lowered_meet es held w.0 k.1 f.1 (sites_back sites (tree_sites e) (all_sites es) s))

    pub arms_meet : (cs : Clauses) (held : Held) (rs : List ℕ) (values wanted : ℕ) (place : Place)
        (a : Branches) → length rs ≡ values → Fits place wanted
        → ClausesAreKnown arities (variables_of held) [] values wanted cs → ClausesAreFlat cs
        → AreSites sites (clauses_sites cs)
        → ArmsWrote sites held (values_at place wanted) rs cs a
        (arms_lowered cs held rs wanted place a)
    arms_meet NoClauses held rs values wanted place a many fit k f s =
        no_arms_wrote sites held (values_at place wanted) rs a
    arms_meet (MoreClauses ps g d cs) held rs values wanted place a many fit k f s =
        let here = sites_front sites (tree_sites g ++ tree_sites d) (clauses_sites cs) s in
        let u = tested_all ps rs (held, record { tests = []; next = a.next }) in
        let t = all_meet ps rs held (record { tests = []; next = a.next }) (many ∙ sym k.0) in
        let h = guarded g u.0 (record { operations = []; next = u.1.next; registers = [] }) in
        let w = lowered d u.0 wanted place (beginning h.next) in
        arm_and_more sites held rs ps g d cs place wanted a
        (arms_lowered cs held rs wanted place (with_arm a u.1 h w)) u h w t
        (guarded_meets arities g u.0
        (record { operations = []; next = u.1.next; registers = [] }) k.1
        (subst (λ scope. IsKnown arities scope [] 1 g) (sym t.scope) k.2))
        (whole sites u.0 d place wanted h.next w.0 w.1 fit
        (lowered_meets d u.0 wanted place (beginning h.next) fit
        (subst (λ scope. IsKnown arities scope [] wanted d) (sym t.scope) k.3) f.1
        (sites_back sites (tree_sites g) (tree_sites d) here)))
        (arms_meet cs held rs values wanted place (with_arm a u.1 h w) many fit k.4 f.2
        (sites_back sites (tree_sites g ++ tree_sites d) (clauses_sites cs) s))
