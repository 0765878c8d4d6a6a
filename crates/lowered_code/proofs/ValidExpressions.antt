-- What lowering writes for an expression is valid, form by form.
use Rattle.std.proofs.Common.{◌≡◌, ℕ, zero, suc, ◌+◌, ◌<◌, ◌≤◌, ◌^◌, List, [], ◌∷◌, ◌++◌, length}
use Rattle.std.proofs.Common.{Some, refl, sym, ap, ◌∙◌, subst, arith}
use Rattle.std.specs.Prelude.{slice_get}
use Rattle.std.proofs.lemmas.List.Elements.{All-nil}
use Rattle.std.proofs.lemmas.List.{length-append}
use Rattle.core_accepted.specs.TreeSites.{conses, tree_sites, all_sites, clauses_sites}
use Rattle.hy_core.specs.KnownTrees.{IsKnown, AreKnown, ClausesAreKnown, width}
use Rattle.hy_core.specs.Resolved as r
use Rattle.hy_core.specs.Resolved.{Expression, Expressions, NoExpressions, MoreExpressions}
use Rattle.hy_core.specs.Resolved.{Clauses, NoClauses, MoreClauses}
use Rattle.hy_core.specs.Supplied.{expression_count}
use Rattle.hy_ir.specs.Code as c
use Rattle.hy_ir.specs.Code.{Code, NoLapse, LapseTo}
use Rattle.hy_ir.specs.Valid.{Values, IsBuilt, Takes, AreValidArms, IsValidTree}
use Rattle.hy_ir.specs.Valid.{IsValidOperation}
use Rattle.hy_ir.specs.View.{ArmView, arms_in}
use Rattle.hy_ir.specs.declared.code.Guard.{Guard}
use Rattle.hy_ir.specs.declared.code.Constant.TheVariants as constant
use Rattle.hy_ir.specs.declared.code.Op.{Op}
use Rattle.hy_ir.specs.declared.code.Op.TheVariants as op
use Rattle.lifted_program.specs.Flat.{IsFlat, AreFlat, ClausesAreFlat}
use Rattle.program_code.specs.HeldRegisters.{Held}
use Rattle.lowered_code.specs.Builder.{Builder, Place, Piece, Inner, Tail, End, with_registers}
use Rattle.lowered_code.specs.Builder.{first, rest, beginning, opened, inside, conses_into}
use Rattle.lowered_code.specs.Builder.{written_tree}
use Rattle.lowered_code.specs.Builder.{operation_into, Given, Ended}
use Rattle.lowered_code.specs.InBounds.{IsInBounds, AreInBounds, ClausesAreInBounds}
use Rattle.lowered_code.specs.LoweredExpressions.{lowered, all_lowered, arms_lowered, Branches}
use Rattle.lowered_code.specs.LoweredExpressions.{no_branches, with_arm}
use Rattle.lowered_code.specs.LoweredGuards.{Guarded, bound_to, guarded, register_in}
use Rattle.lowered_code.specs.LoweredPatterns.{Checks, tested_all}
use Rattle.lowered_code.proofs.Numbers.{counted}
use Rattle.lowered_code.proofs.Arities.{bif_takes}
use Rattle.lowered_code.proofs.Below.{AllBelow, HeldBelow, held_more, below_none, below_more}
use Rattle.lowered_code.proofs.Below.{below_push, below_cons, first_below, rest_below, rest_length}
use Rattle.lowered_code.proofs.Below.{found_below, bound_below}
use Rattle.lowered_code.proofs.Expressions.{variables_bound}
use Rattle.lowered_code.proofs.Pieces.{AreSites, sites_front, sites_back, values_at}
use Rattle.lowered_code.proofs.Tests.{variables_of, all_meet}
use Rattle.lowered_code.proofs.ValidGuards as guards
use Rattle.lowered_code.proofs.ValidGuards.{guarded_sound}
use Rattle.lowered_code.proofs.ValidPieces.{Sound, After, SoundBy, SoundTree, after_piece}
use Rattle.lowered_code.proofs.ValidPieces.{after_one, cleared, kept, opened_sound}
use Rattle.lowered_code.proofs.ValidPieces.{operation_after, behind_after, conses_after}
use Rattle.lowered_code.proofs.ValidPieces.{closed_sound, tree_sound, valid_arms_append}
use Rattle.lowered_code.proofs.ValidPieces.{beginning_sound}
use Rattle.lowered_code.proofs.ValidTests as tests
use Rattle.lowered_code.proofs.ValidTests.{all_sound}
use Rattle.lowered_code.proofs.Wholes.{Fits, fits_inside, values_inside, opened_registers}
use Rattle.lowered_code.proofs.Wholes.{opened_next, tail_piece}

module _ (code : Code) (arities : List ℕ) (takes : (f n : ℕ) → slice_get arities f ≡ Some n
    → (registers : ℕ) → Takes code registers f n) where
  -- as many registers as arguments
  many_args : (es : Expressions) (b t : Builder)
      → After code (expression_count es) (with_registers [] b) t
      → length t.registers ≡ expression_count es
  many_args es b t a = let m = a.many in omega (arith, m)

  args_below : (b t : Builder) (k n : ℕ) → After code k b t → t.next + 1 ≤ n
      → AllBelow n t.registers
  args_below b t k n a less =
      below_more t.next n t.registers (omega (arith, less)) a.sound.registers

  first_there : (t : Builder) (n : ℕ) → Sound code t → 1 ≤ length t.registers → t.next ≤ n
      → first t.registers < n
  first_there t n s one less =
      let h = first_below t.next t.registers one s.registers in omega (arith, h, less)

  second_there : (t : Builder) (n : ℕ) → Sound code t → suc 1 ≤ length t.registers → t.next ≤ n
      → first (rest t.registers) < n
  second_there t n s two less =
      let h = first_below t.next (rest t.registers) (rest_length 1 t.registers two)
      (rest_below t.next t.registers s.registers) in omega (arith, h, less)

  third_there : (t : Builder) (n : ℕ) → Sound code t → suc (suc 1) ≤ length t.registers
      → t.next ≤ n → first (rest (rest t.registers)) < n
  third_there t n s three less =
      let h = first_below t.next (rest (rest t.registers)) (rest_length 1 (rest t.registers)
      (rest_length 2 t.registers three)) (rest_below t.next (rest t.registers)
      (rest_below t.next t.registers s.registers)) in omega (arith, h, less)

  pub record ArmsAfter (values : Values) (a a' : Branches) : Type 0 where
    pub rises : a.next ≤ a'.next
    pub sound : (n : ℕ) → a'.next ≤ n → AreValidArms code n values (arms_in a'.arms)

  abbrev pub SoundArms : Values → Branches → Type 0
  SoundArms values a = (n : ℕ) → a.next ≤ n → AreValidArms code n values (arms_in a.arms)

  -- the arm of a clause
  arm_sound : (place : Place) (wanted : ℕ) (a : Branches) (u : Held × Checks) (h : Guarded)
      (w : Builder × End) → a.next ≤ u.1.next → tests.Sound code u.1
      → guards.After code arities 1
      (record { operations = []; next = u.1.next; registers = [] }) h
      → SoundTree code place wanted h.next w → SoundArms (values_at place wanted) a
      → ArmsAfter (values_at place wanted) a (with_arm a u.1 h w)
  arm_sound place wanted a u h w rises t g b s =
      let values = values_at place wanted in
      let r1 = g.rises in
      let r2 = b.rises in
      let m = g.many in
      let one : 1 ≤ length h.registers = omega (arith, m) in
      let guard : Guard = record { operations = h.operations; register = first h.registers } in
      let arm : ArmView = record { tests = u.1.tests; guard = guard; body = written_tree w } in
      record {
        rises = omega (arith, rises, r1, r2);
        sound = λ n less. valid_arms_append code n values a.arms (arm ∷ [])
            (s n (omega (arith, rises, r1, r2, less))) (
              t n (omega (arith, r1, r2, less)),
              (
                g.sound.operations n (omega (arith, r2, less)),
                below_one n (first h.registers) (first_below h.next h.registers one
                    g.sound.registers)
                    (omega (arith, r2, less)),
              ),
              b.tree n less,
              tt,
            );
      }
    where
      below_one : (n q : ℕ) → q < h.next → h.next ≤ n → q < n
      below_one n q e f = omega (arith, e, f)

  -- arguments, and an operation on them
  call_after : (es : Expressions) (o : ℕ → Op) (b t : Builder) → Sound code b
      → After code (expression_count es) (with_registers [] b) t
      → ((n : ℕ) → t.next + 1 ≤ n → IsValidOperation code n (o t.next))
      → After code 1 b (operation_into o b.registers t)
  call_after es o b t s a v = operation_after code o b t a.rises s a.sound v

  function_after : (g : ℕ) (es : Expressions) (held : Held) (b : Builder)
      → slice_get arities g ≡ Some (expression_count es)
      → After code (expression_count es) (with_registers [] b)
      (all_lowered es held (with_registers [] b)) → Sound code b
      → After code 1 b (operation_into (λ out. op.Call out g
      (all_lowered es held (with_registers [] b)).registers) b.registers
      (all_lowered es held (with_registers [] b)))
  function_after g es held b k a ok =
      let t = all_lowered es held (with_registers [] b) in
      call_after es (λ out. op.Call out g t.registers) b t ok a
      (λ n less. (
        omega (arith, less),
        args_below (with_registers [] b) t (expression_count es) n a
            less,
        subst (Takes code n g) (sym (many_args es b t a)) (takes g (expression_count es) k n),
      ))

  -- let and do: what comes behind
  on_behind : (wanted : ℕ) (place : Place) (b t v : Builder) (n : End) → b.next ≤ t.next
      → SoundBy code wanted place (with_registers b.registers t) v n
      → SoundBy code wanted place b v n
  on_behind wanted place b t v Given rises a =
      let r2 = a.rises in record {
        rises = omega (arith, rises, r2);
        sound = a.sound;
        many = a.many;
      }
  on_behind wanted place b t v (Ended end) rises (not, a) =
      let r2 = a.rises in
      (not, record { rises = omega (arith, rises, r2); parts = a.parts; last = a.last })

  raised_rises : (place : Place) (b t : Builder) (count : ℕ)
      → After code count (opened place b) t → b.next ≤ t.next
  raised_rises place b t count a = subst (λ n. n ≤ t.next) (opened_next place b) a.rises

  raised_one : (place : Place) (b t : Builder) (count : ℕ) → count ≡ 1
      → After code count (opened place b) t → 1 ≤ length t.registers
  raised_one place b t count e a =
      let m = a.many ∙ ap (λ l. length l + count) (opened_registers place b) in
      omega (arith, e, m)

  opened_below : (place : Place) (b : Builder) (n : ℕ) → b.next ≤ n → (opened place b).next ≤ n
  opened_below place b n h = subst (λ m. m ≤ n) (sym (opened_next place b)) h

  opened_held : (place : Place) (b : Builder) (held : Held) → HeldBelow b.next held
      → HeldBelow (opened place b).next held
  opened_held place b held h = subst (λ n. HeldBelow n held) (sym (opened_next place b)) h

  message_below : (next : ℕ) → AllBelow (next + 1) (next ∷ [])
  message_below next = below_cons (next + 1) next [] (omega arith) (below_none (next + 1))

  none_before : (n : ℕ) → zero + n ≡ n
  none_before n = omega arith

  three_registers : (n i j l : ℕ) → i < n → j < n → l < n → AllBelow n (i ∷ j ∷ l ∷ [])
  three_registers n i j l p q o =
      below_cons n i (j ∷ l ∷ []) p (below_cons n j (l ∷ []) q
      (below_cons n l [] o (below_none n)))

  mutual
    pub lowered_sound : (e : Expression) (held : Held) (wanted : ℕ) (place : Place) (b : Builder)
        → Fits place wanted → IsKnown arities (variables_of held) [] wanted e → IsFlat e
        → AreSites code.sites (tree_sites e) → IsInBounds e → HeldBelow b.next held
        → Sound code b → SoundBy code wanted place b (lowered e held wanted place b).0
        (lowered e held wanted place b).1
    lowered_sound (r.Int n) held wanted place b fit k f s i h ok =
        after_one code wanted b _ k (operation_after code (λ out. op.Const out (constant.Int n)) b b
        (omega arith) ok ok (λ m less. (omega (arith, less), i)))
    lowered_sound (r.Atom a) held wanted place b fit k f s i h ok =
        after_one code wanted b _ k (operation_after code (λ out. op.Const out (constant.Atom a))
        b b
        (omega arith) ok ok (λ m less. (omega (arith, less), tt)))
    lowered_sound r.Nil held wanted place b fit k f s i h ok =
        after_one code wanted b _ k (operation_after code (λ out. op.Const out constant.Nil) b b
        (omega arith) ok ok (λ m less. (omega (arith, less), tt)))
    lowered_sound (r.Text site text) held wanted place b fit k f s i h ok =
        after_one code wanted b _ k (operation_after code (λ out. op.Text site out text) b b
        (omega arith) ok ok (λ m less. (omega (arith, less), s.0, i.0, i.1)))
    lowered_sound (r.Variable x) held wanted place b fit k f s i h ok =
        after_one code wanted b _ k.0 (record {
          rises = omega arith;
          sound = record {
            parts = ok.parts;
            registers = below_push b.next b.registers (register_in held x) ok.registers
                (found_below b.next x held k.1 h);
          };
          many = length-append b.registers (register_in held x ∷ []);
        })
    lowered_sound (r.Tuple site es) held wanted place b fit k f s i h ok =
        let t = all_lowered es held (with_registers [] b) in
        let a = all_lowered_sound es held (with_registers [] b) k.1 f s.1 i.1 h
        (cleared code b ok) in
        let small = i.0 in
        let m = many_args es b t a in
        after_one code wanted b _ k.0 (call_after es (λ out. op.Build site out t.registers) b t ok a
        (λ n less. (
          omega (arith, less),
          args_below (with_registers [] b) t (expression_count es) n
              a less,
          subst (λ q. IsBuilt q (length t.registers)) (sym s.0)
              (subst (λ q. q ≤ 2 ^ 20) (sym m) small),
        )))
    lowered_sound (r.ListOf site es e) held wanted place b fit k f s i h ok =
        let before = sites_front code.sites (conses site (expression_count es) ++ all_sites es)
        (tree_sites e) s in
        let t = all_lowered es held (with_registers [] b) in
        let a = all_lowered_sound es held (with_registers [] b) k.1 f.0
        (sites_back code.sites (conses site (expression_count es)) (all_sites es) before) i.0 h
        (cleared code b ok) in
        let m = many_args es b t a in
        let w = lowered e held 1 Piece (with_registers [] t) in
        let r1 = a.rises in
        let v = after_piece code 1 (with_registers [] t) w.0 w.1
        (lowered_sound e held 1 Piece (with_registers [] t) tt k.2 f.1
        (sites_back code.sites (conses site (expression_count es) ++ all_sites es) (tree_sites e) s)
        i.1 (held_more b.next t.next held r1 h) (cleared code t a.sound)) in
        let r2 = v.rises in
        let one = v.many in
        let there : 1 ≤ length w.0.registers = omega (arith, one) in
        let l = conses_after code t.registers site (first w.0.registers) w.0
        (below_more t.next w.0.next t.registers r2 a.sound.registers)
        (first_below w.0.next w.0.registers there v.sound.registers) v.sound
        (subst (λ q. AreSites code.sites (conses site q)) (sym m)
        (sites_front code.sites (conses site (expression_count es)) (all_sites es) before)) in
        let r3 = l.rises in
        after_one code wanted b _ k.0 (behind_after code b
        (conses_into site t.registers (first w.0.registers) w.0) 1 (omega (arith, r1, r2, r3)) ok
        l.sound l.many)
    lowered_sound (r.Values es) held wanted place b fit k f s i h ok =
        let t = all_lowered es held (with_registers [] b) in
        let a = all_lowered_sound es held (with_registers [] b) k.1 f s i h (cleared code b ok) in
        behind_after code b t wanted a.rises ok a.sound (many_args es b t a ∙ sym k.0)
    lowered_sound (r.Let xs e d) held wanted place b fit k f s i h ok =
        let v = lowered e held (length xs) Piece (with_registers [] b) in
        let a = after_piece code (length xs) (with_registers [] b) v.0 v.1
        (lowered_sound e held (length xs) Piece (with_registers [] b) tt k.0 f.0
        (sites_front code.sites (tree_sites e) (tree_sites d) s) i.0 h (cleared code b ok)) in
        let m = a.many in
        let many : length v.0.registers ≡ length xs = omega (arith, m) in
        let inner = bound_to xs v.0.registers held in
        let w = lowered d inner wanted place (with_registers b.registers v.0) in
        on_behind wanted place b v.0 w.0 w.1 a.rises
        (lowered_sound d inner wanted place (with_registers b.registers v.0) fit
        (subst (λ scope. IsKnown arities scope [] wanted d)
        (sym (variables_bound xs v.0.registers held)) k.1) f.1
        (sites_back code.sites (tree_sites e) (tree_sites d) s) i.1
        (bound_below v.0.next xs v.0.registers held many a.sound.registers
        (held_more b.next v.0.next held a.rises h)) (kept code b v.0 a.rises ok a.sound))
    lowered_sound (r.Do e d) held wanted place b fit k f s i h ok =
        let v = lowered e held 1 Piece (with_registers [] b) in
        let a = after_piece code 1 (with_registers [] b) v.0 v.1
        (lowered_sound e held 1 Piece (with_registers [] b) tt k.0 f.0
        (sites_front code.sites (tree_sites e) (tree_sites d) s) i.0 h (cleared code b ok)) in
        let w = lowered d held wanted place (with_registers b.registers v.0) in
        on_behind wanted place b v.0 w.0 w.1 a.rises
        (lowered_sound d held wanted place (with_registers b.registers v.0) fit k.1 f.1
        (sites_back code.sites (tree_sites e) (tree_sites d) s) i.1
        (held_more b.next v.0.next held a.rises h) (kept code b v.0 a.rises ok a.sound))
    lowered_sound (r.Case e cs) held wanted place b fit k f s i h ok =
        let start = opened_next place b in
        let v = lowered e held (width cs) Piece (opened place b) in
        let a = after_piece code (width cs) (opened place b) v.0 v.1
        (lowered_sound e held (width cs) Piece (opened place b) tt k.0 f.0
        (sites_front code.sites (tree_sites e) (clauses_sites cs) s) i.0
        (opened_held place b held h) (opened_sound code place b ok)) in
        let rises = subst (λ n. n ≤ v.0.next) start a.rises in
        let many : length v.0.registers ≡ width cs = a.many
        ∙ ap (λ l. length l + width cs) (opened_registers place b) ∙ none_before (width cs) in
        let x = arms_sound cs held v.0.registers (width cs) wanted (inside place)
        (no_branches v.0.next) many (fits_inside place wanted fit) k.1 f.1
        (sites_back code.sites (tree_sites e) (clauses_sites cs) s) i.1
        (held_more b.next v.0.next held rises h) a.sound.registers (λ n less. tt) in
        let r2 = x.rises in
        let ars = arms_lowered cs held v.0.registers wanted (inside place)
        (no_branches v.0.next) in
        closed_sound code wanted place b v.0.parts ars.next (c.Choose (arms_in ars.arms))
        (omega (arith, rises, r2)) ok (λ n less. a.sound.parts n (omega (arith, r2, less)))
        (subst (λ q. (n : ℕ) → ars.next ≤ n → AreValidArms code n q (arms_in ars.arms))
        (values_inside place wanted) x.sound)
    lowered_sound (r.Call (r.BuiltIn g) es) held wanted place b fit k f s i h ok =
        let t = all_lowered es held (with_registers [] b) in
        let a = all_lowered_sound es held (with_registers [] b) k.2 f.1 s i.1 h
        (cleared code b ok) in
        after_one code wanted b _ k.0 (call_after es (λ out. op.Bif out g t.registers) b t ok a
        (λ n less. (
          omega (arith, less),
          args_below (with_registers [] b) t (expression_count es) n
              a less,
          many_args es b t a ∙ bif_takes g (expression_count es) k.1,
        )))
    lowered_sound (r.Call (r.Function g) es) held wanted Piece b fit k f s i h ok =
        after_one code wanted b _ k.0 (function_after g es held b k.1
        (all_lowered_sound es held (with_registers [] b) k.2 f.1 s i.1 h (cleared code b ok)) ok)
    lowered_sound (r.Call (r.Function g) es) held wanted Inner b fit k f s i h ok =
        after_one code wanted b _ k.0 (function_after g es held b k.1
        (all_lowered_sound es held (with_registers [] b) k.2 f.1 s i.1 h (cleared code b ok)) ok)
    lowered_sound (r.Call (r.Function g) es) held wanted Tail b fit k f s i h ok =
        let t = all_lowered es held (with_registers [] b) in
        let a = all_lowered_sound es held (with_registers [] b) k.2 f.1 s i.1 h
        (cleared code b ok) in (
          tail_piece,
          record {
            rises = a.rises;
            parts = a.sound.parts;
            last = λ n less. (
              refl,
              below_more t.next n t.registers less a.sound.registers,
              subst (Takes code n g) (sym (many_args es b t a)) (takes g (expression_count es) k.1
                  n),
            );
          },
        )
    lowered_sound (r.Call (r.Setelement site) es) held wanted place b fit k f s i h ok =
        let t = all_lowered es held (with_registers [] b) in
        let a = all_lowered_sound es held (with_registers [] b) k.2 f.1 s.1 i.1 h
        (cleared code b ok) in
        let count = k.1 in
        let m = many_args es b t a in
        after_one code wanted b _ k.0 (call_after es (λ out. op.Set site out (first t.registers)
        (first (rest t.registers)) (first (rest (rest t.registers)))) b t ok a (λ n less. (
          omega (arith, less),
          three_registers n (first t.registers) (first (rest t.registers))
              (first (rest (rest t.registers)))
              (first_there t n a.sound (omega (arith, count, m)) (omega (arith, less)))
              (second_there t n a.sound (omega (arith, count, m)) (omega (arith, less)))
              (third_there t n a.sound (omega (arith, count, m)) (omega (arith, less))),
          s.0,
        )))
    lowered_sound (r.Call (r.Send node) es) held wanted place b fit k f s i h ok =
        let t = all_lowered es held (with_registers [] b) in
        let a = all_lowered_sound es held (with_registers [] b) k.2 f.1 s i.1 h
        (cleared code b ok) in
        let count = k.1 in
        let m = many_args es b t a in
        after_one code wanted b _ k.0 (call_after es (λ out. op.Send node out (first t.registers)
        (first (rest t.registers))) b t ok a (λ n less. (
          omega (arith, less),
          first_there t n a.sound (omega (arith, count, m)) (omega (arith, less)),
          second_there t n a.sound (omega (arith, count, m)) (omega (arith, less)),
        )))
    lowered_sound (r.Call (r.Spawn node g) es) held wanted place b fit k f s i h ok =
        let t = all_lowered es held (with_registers [] b) in
        let a = all_lowered_sound es held (with_registers [] b) k.2 f.1 s i.1 h
        (cleared code b ok) in
        let few = i.0 in
        let m = many_args es b t a in
        after_one code wanted b _ k.0 (call_after es (λ out. op.Spawn node out g t.registers) b t ok
        a (λ n less. (
          omega (arith, less),
          args_below (with_registers [] b) t (expression_count es)
              n a less,
          subst (Takes code n g) (sym m) (takes g (expression_count es) k.1 n),
          subst (λ q. q ≤ 255) (sym m) few,
        )))
    lowered_sound (r.Call (r.Display node) es) held wanted place b fit k f s i h ok =
        let t = all_lowered es held (with_registers [] b) in
        let a = all_lowered_sound es held (with_registers [] b) k.2 f.1 s i.1 h
        (cleared code b ok) in
        let count = k.1 in
        let m = many_args es b t a in
        after_one code wanted b _ k.0 (call_after es (λ out. op.Show out (first t.registers)) b t ok
        a (λ n less. (
          omega (arith, less),
          first_there t n a.sound (omega (arith, count, m)) (omega (arith, less)),
        )))
    lowered_sound (r.Call (r.Raising class) es) held wanted place b fit k f s i h ok =
        let t = all_lowered es held (opened place b) in
        let a = all_lowered_sound es held (opened place b) k.2 f.1 s i.1
        (opened_held place b held h) (opened_sound code place b ok) in
        closed_sound code wanted place b t.parts t.next (c.Raise class (first t.registers))
        (raised_rises place b t (expression_count es) a) ok a.sound.parts
        (λ n less. first_there t n a.sound (raised_one place b t (expression_count es) k.1 a) less)
    lowered_sound (r.Call r.MatchFail es) held wanted place b fit k f s i h ok =
        let t = all_lowered es held (opened place b) in
        let a = all_lowered_sound es held (opened place b) k.2 f.1 s i.1
        (opened_held place b held h) (opened_sound code place b ok) in
        closed_sound code wanted place b t.parts t.next (c.Fail (first t.registers))
        (raised_rises place b t (expression_count es) a) ok a.sound.parts
        (λ n less. first_there t n a.sound (raised_one place b t (expression_count es) k.1 a) less)
    lowered_sound (r.Call (r.Local g) es) held wanted place b fit k f s i h ok = absurd f.0
    lowered_sound (r.Receive cs r.Never e) held wanted place b fit k f s i h ok =
        let from = no_branches (b.next + 1) in
        let ars = arms_lowered cs held (b.next ∷ []) wanted (inside place) from in
        let x = arms_sound cs held (b.next ∷ []) 1 wanted (inside place) from refl
        (fits_inside place wanted fit) k.0 f.0
        (sites_front code.sites (clauses_sites cs) (tree_sites e) s) i.0
        (held_more b.next (b.next + 1) held (omega arith) h) (message_below b.next)
        (λ n less. tt) in
        let r2 = x.rises in
        closed_sound code wanted place b (opened place b).parts ars.next
        (c.Receive b.next (arms_in ars.arms) NoLapse) (omega (arith, r2)) ok
        (λ n less. (opened_sound code place b ok).parts n
        (opened_below place b n (omega (arith, r2, less))))
        (λ n less. (
          omega (arith, r2, less),
          (subst (λ q. (n : ℕ) → ars.next ≤ n
              → AreValidArms code n q (arms_in ars.arms)) (values_inside place wanted) x.sound) n
              less,
          tt,
        ))
    lowered_sound (r.Receive cs r.AtOnce e) held wanted place b fit k f s i h ok =
        let from = no_branches (b.next + 1) in
        let ars = arms_lowered cs held (b.next ∷ []) wanted (inside place) from in
        let x = arms_sound cs held (b.next ∷ []) 1 wanted (inside place) from refl
        (fits_inside place wanted fit) k.0 f.0
        (sites_front code.sites (clauses_sites cs) (tree_sites e) s) i.0
        (held_more b.next (b.next + 1) held (omega arith) h) (message_below b.next)
        (λ n less. tt) in
        let r2 = x.rises in
        let w = lowered e held wanted (inside place) (beginning ars.next) in
        let y = tree_sound code (inside place) wanted ars.next w.0 w.1
        (fits_inside place wanted fit)
        (lowered_sound e held wanted (inside place) (beginning ars.next)
        (fits_inside place wanted fit) k.1 f.1
        (sites_back code.sites (clauses_sites cs) (tree_sites e) s) i.1
        (held_more b.next ars.next held (omega (arith, r2)) h) (beginning_sound code ars.next)) in
        let r3 = y.rises in
        closed_sound code wanted place b (opened place b).parts w.0.next
        (c.Receive b.next (arms_in ars.arms) (LapseTo (written_tree w))) (omega (arith, r2, r3)) ok
        (λ n less. (opened_sound code place b ok).parts n
        (opened_below place b n (omega (arith, r2, r3, less))))
        (λ n less. (
          omega (arith, r2, r3, less),
          (subst (λ q. (n : ℕ) → ars.next ≤ n
              → AreValidArms code n q (arms_in ars.arms)) (values_inside place wanted) x.sound) n
              (omega (arith, r3, less)),
          (subst (λ q. (n : ℕ) → w.0.next ≤ n
              → IsValidTree code n q (written_tree w)) (values_inside place wanted) y.tree) n less,
        ))
    lowered_sound (r.Letrec fs e) held wanted place b fit k f s i h ok = absurd f
    lowered_sound r.Refused held wanted place b fit k f s i h ok = absurd k

    pub all_lowered_sound : (es : Expressions) (held : Held) (b : Builder)
        → AreKnown arities (variables_of held) [] es → AreFlat es
        → AreSites code.sites (all_sites es) → AreInBounds es → HeldBelow b.next held
        → Sound code b → After code (expression_count es) b (all_lowered es held b)
    all_lowered_sound NoExpressions held b k f s i h ok = record {
      rises = omega arith;
      sound = ok;
      many = omega arith;
    }
    all_lowered_sound (MoreExpressions e es) held b k f s i h ok =
        let w = lowered e held 1 Piece b in
        let a = after_piece code 1 b w.0 w.1 (lowered_sound e held 1 Piece b tt k.0 f.0
        (sites_front code.sites (tree_sites e) (all_sites es) s) i.0 h ok) in
        let v = all_lowered_sound es held w.0 k.1 f.1
        (sites_back code.sites (tree_sites e) (all_sites es) s) i.1
        (held_more b.next w.0.next held a.rises h) a.sound in
        let r1 = a.rises in
        let r2 = v.rises in
        let one = a.many in
        let others = v.many in record {
          rises = omega (arith, r1, r2);
          sound = v.sound;
          many = counted (length (all_lowered es held w.0).registers) (length w.0.registers)
              (length b.registers) (expression_count es) others one;
        }

    pub arms_sound : (cs : Clauses) (held : Held) (rs : List ℕ) (values wanted : ℕ) (place : Place)
        (a : Branches) → length rs ≡ values → Fits place wanted
        → ClausesAreKnown arities (variables_of held) [] values wanted cs → ClausesAreFlat cs
        → AreSites code.sites (clauses_sites cs) → ClausesAreInBounds cs → HeldBelow a.next held
        → AllBelow a.next rs → SoundArms (values_at place wanted) a
        → ArmsAfter (values_at place wanted) a (arms_lowered cs held rs wanted place a)
    arms_sound NoClauses held rs values wanted place a many fit k f s i h below ok = record {
      rises = omega arith;
      sound = ok;
    }
    arms_sound (MoreClauses ps g d cs) held rs values wanted place a many fit k f s i h below ok =
        let here = sites_front code.sites (tree_sites g ++ tree_sites d) (clauses_sites cs) s in
        let c0 : Checks = record { tests = []; next = a.next } in
        let u = tested_all ps rs (held, c0) in
        let t = all_meet ps rs held c0 (many ∙ sym k.0) in
        let v = all_sound code ps rs held c0 (many ∙ sym k.0) below h (λ n less. All-nil _) in
        let g0 : Guarded = record { operations = []; next = u.1.next; registers = [] } in
        let y = guarded g u.0 g0 in
        let x = guarded_sound code arities g u.0 g0 k.1
        (subst (λ scope. IsKnown arities scope [] 1 g) (sym t.scope) k.2) i.0 v.held
        (record { operations = λ n less. All-nil _; registers = below_none u.1.next }) in
        let w = lowered d u.0 wanted place (beginning y.next) in
        let z = tree_sound code place wanted y.next w.0 w.1 fit
        (lowered_sound d u.0 wanted place (beginning y.next) fit
        (subst (λ scope. IsKnown arities scope [] wanted d) (sym t.scope) k.3) f.1
        (sites_back code.sites (tree_sites g) (tree_sites d) here) i.1
        (held_more u.1.next y.next u.0 x.rises v.held) (beginning_sound code y.next)) in
        let arm = arm_sound place wanted a u y w v.rises v.sound x z ok in
        let r1 = arm.rises in
        let more = arms_sound cs held rs values wanted place (with_arm a u.1 y w) many fit k.4 f.2
        (sites_back code.sites (tree_sites g ++ tree_sites d) (clauses_sites cs) s) i.2
        (held_more a.next w.0.next held r1 h) (below_more a.next w.0.next rs r1 below) arm.sound in
        let r2 = more.rises in record { rises = omega (arith, r1, r2); sound = more.sound }
