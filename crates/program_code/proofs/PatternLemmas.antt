-- The tests of patterns hold where the patterns match.
use Rattle.std.proofs.Common.{◌≡◌, ◌≢◌, ℕ, zero, suc, List, [], ◌∷◌, ◌++◌, length, map, Bool, true}
use Rattle.std.proofs.Common.{false, Option, Some, None, ℤ, refl, sym, ap, ◌∙◌, subst, ⊎_elim}
use Rattle.std.specs.Prelude.{◌==◌, if◌then◌else◌}
use Rattle.std.specs.Ordering.{int_eq}
use Rattle.std.proofs.lemmas.Bool.Decides.{eqb_tells}
use Rattle.std.proofs.lemmas.List.{append_assoc, length-map}
use Rattle.hy_terms.specs.Labelled as l
use Rattle.hy_terms.specs.Labelled.{Labelled, Labels, NoLabels, MoreLabels, erase, erase_each}
use Rattle.hy_terms.specs.Labelled.{part_count}
use Rattle.hy_terms.specs.Term.{Term}
use Rattle.hy_core.specs.Match.{Env, Bound, and_then, on_true, is_text, match, match_parts}
use Rattle.hy_core.specs.Match.{match_heads, match_all}
use Rattle.hy_core.specs.Resolved as r
use Rattle.hy_core.specs.Resolved.{Pattern, Patterns, NoPatterns, MorePatterns}
use Rattle.hy_ir.specs.Accepting as accepting
use Rattle.hy_ir.specs.Accepting.{all_tested, tested, where_holds, int_test, atom_test, nil_test}
use Rattle.hy_ir.specs.Accepting.{set_parts, tuple_test, cons_test}
use Rattle.hy_ir.specs.LabelledBuiltIns.{list_of}
use Rattle.hy_ir.specs.Registers.{Registers, set, gets, sets}
use Rattle.hy_ir.specs.declared.code.Test.{Test}
use Rattle.program_code.specs.HeldRegisters.{Held}
use Rattle.program_code.specs.PatternTests.{TestsOf, test_bind, test_out, test_int, test_atom}
use Rattle.program_code.specs.PatternTests.{test_nil, test_text, test_tuple, test_list, test_alias}
use Rattle.program_code.specs.PatternTests.{test_alias_out, HeadsTests, heads_none, heads_more}
use Rattle.program_code.specs.PatternTests.{PartsTests, parts_none, parts_more}
use Rattle.program_code.specs.WrittenRegisters.{test_writes, tests_write}
use Rattle.lifted_program.proofs.Variables.{Out, AllOut, out_left, out_right}
use Rattle.program_code.proofs.RegisterLemmas.{NoTwice, Keeps, set_same, set_other, keeps_set}
use Rattle.program_code.proofs.RegisterLemmas.{keeps_on, keeps_sets, gets_sets, gets_keep}
use Rattle.program_code.proofs.RegisterLemmas.{out_front, out_back, all_front, all_back}
use Rattle.program_code.proofs.RegisterLemmas.{twice_front, twice_back, twice_apart}
use Rattle.program_code.proofs.HeldLemmas.{registers_of, Agree, agree_keep}

-- both accept, or neither does
abbrev pub Matches : Held → List ℕ → Registers → Option Env → Option Registers → Type 0
Matches held ws regs None None = Unit {0}
Matches held ws regs (Some env) (Some regs') = Agree env held regs' × Keeps ws regs regs'
Matches held ws regs _ _ = ⊥

matches_then : (held inside : Held) (v w : List ℕ) (regs : Registers) (o : Option Env)
    (o' : Option Registers) (f : Env → Option Env) (g : Registers → Option Registers)
    → Matches held v regs o o' → ((env : Env) (regs' : Registers) → Agree env held regs'
    → Keeps v regs regs' → Matches inside w regs' (f env) (g regs'))
    → Matches inside (v ++ w) regs (and_then o f) (accepting.and_then o' g)
matches_then held inside v w regs None None f g h k = tt
matches_then held inside v w regs (Some env) (Some regs') f g h k = go (f env) (g regs')
    (k env regs' h.0 h.1)
  where
    go : (o : Option Env) (o' : Option Registers) → Matches inside w regs' o o'
        → Matches inside (v ++ w) regs o o'
    go None None m = tt
    go (Some env') (Some regs'') m = (m.0, keeps_on v w regs regs' regs'' h.1 m.1)
    go _ _ m = absurd m
matches_then held inside v w regs _ _ f g h k = absurd h

prepend : (held : Held) (v w : List ℕ) (regs regs' : Registers) (o : Option Env)
    (o' : Option Registers) → Keeps v regs regs' → Matches held w regs' o o'
    → Matches held (v ++ w) regs o o'
prepend held v w regs regs' None None k h = tt
prepend held v w regs regs' (Some env) (Some regs'') k h =
    (h.0, keeps_on v w regs regs' regs'' k h.1)
prepend held v w regs regs' _ _ k h = absurd h

tested_append : (ts us : List Test) (regs : Registers)
    → all_tested (ts ++ us) regs ≡ accepting.and_then (all_tested ts regs) (all_tested us)
tested_append [] us regs = refl
tested_append (t ∷ ts) us regs = go (tested t regs) (λ r. tested_append ts us r)
  where
    go : (o : Option Registers) → ((r : Registers)
        → all_tested (ts ++ us) r ≡ accepting.and_then (all_tested ts r) (all_tested us))
        → accepting.and_then o (all_tested (ts ++ us)) ≡ accepting.and_then
        (accepting.and_then o (all_tested ts)) (all_tested us)
    go None h = refl
    go (Some r) h = h r

pub tests_append : (ts us : List Test) → tests_write (ts ++ us) ≡ tests_write ts ++ tests_write us
tests_append [] us = refl
tests_append (t ∷ ts) us = ap (λ ws. test_writes t ++ ws) (tests_append ts us) ∙ sym
    (append_assoc (test_writes t) (tests_write ts) (tests_write us))

-- a test that binds nothing
abbrev Plain : Held → Registers → Option Env → Option Registers → Type 0
Plain held regs o o' = Matches held [] regs o (accepting.and_then o' (all_tested []))

plain_if : (b : Bool) (held : Held) (env : Env) (regs : Registers) → Agree env held regs
    → Plain held regs (on_true b env) (where_holds b regs)
plain_if true held env regs h = (h, λ q o. refl)
plain_if false held env regs h = tt

plain_int : (n : ℤ) (v : Labelled) (held : Held) (env : Env) (regs : Registers)
    → Agree env held regs → Plain held regs (match (r.TheInt n) (erase v) env) (int_test n v regs)
plain_int n (l.Int m) held env regs h = plain_if (int_eq n m) held env regs h
plain_int n (l.Atom a) held env regs h = tt
plain_int n (l.Pid p) held env regs h = tt
plain_int n l.Nil held env regs h = tt
plain_int n (l.Cons s c x y) held env regs h = tt
plain_int n (l.Tuple s c ts) held env regs h = tt

plain_atom : (n : ℕ) (v : Labelled) (held : Held) (env : Env) (regs : Registers)
    → Agree env held regs → Plain held regs (match (r.TheAtom n) (erase v) env) (atom_test n v regs)
plain_atom n (l.Atom m) held env regs h = plain_if (n == m) held env regs h
plain_atom n (l.Int a) held env regs h = tt
plain_atom n (l.Pid p) held env regs h = tt
plain_atom n l.Nil held env regs h = tt
plain_atom n (l.Cons s c x y) held env regs h = tt
plain_atom n (l.Tuple s c ts) held env regs h = tt

plain_nil : (v : Labelled) (held : Held) (env : Env) (regs : Registers) → Agree env held regs
    → Plain held regs (match r.TheNil (erase v) env) (nil_test v regs)
plain_nil l.Nil held env regs h = (h, λ q o. refl)
plain_nil (l.Int a) held env regs h = tt
plain_nil (l.Atom m) held env regs h = tt
plain_nil (l.Pid p) held env regs h = tt
plain_nil (l.Cons s c x y) held env regs h = tt
plain_nil (l.Tuple s c ts) held env regs h = tt

-- the parts of a tuple

parts_all : (ps : Patterns) (ls : Labels) (env : Env)
    → match_parts ps (erase_each ls) env ≡ match_all ps (map erase (list_of ls)) env
parts_all NoPatterns NoLabels env = refl
parts_all NoPatterns (MoreLabels t ls) env = refl
parts_all (MorePatterns p ps) NoLabels env = refl
parts_all (MorePatterns p ps) (MoreLabels t ls) env = go (match p (erase t) env)
    (λ env'. parts_all ps ls env')
  where
    go : (o : Option Env) → ((env' : Env)
        → match_parts ps (erase_each ls) env' ≡ match_all ps (map erase (list_of ls)) env')
        → and_then o (λ env'. match_parts ps (erase_each ls) env') ≡ and_then o
        (λ env'. match_all ps (map erase (list_of ls)) env')
    go None h = refl
    go (Some env') h = h env'

count_list : (ls : Labels) → length (list_of ls) ≡ part_count ls
count_list NoLabels = refl
count_list (MoreLabels t ls) = ap suc (count_list ls)

parts_set : (outs : List ℕ) (ls : Labels) (regs : Registers) → length (list_of ls) ≡ length outs
    → set_parts outs ls regs ≡ Some (sets outs (list_of ls) regs)
parts_set [] NoLabels regs e = refl
parts_set [] (MoreLabels t ls) regs e = absurd (suc_zero e)
  where
    suc_zero : {n : ℕ} → suc n ≡ zero → ⊥
    suc_zero p = cc
parts_set (out ∷ outs) NoLabels regs e = absurd (zero_suc e)
  where
    zero_suc : {n : ℕ} → zero ≡ suc n → ⊥
    zero_suc p = cc
parts_set (out ∷ outs) (MoreLabels t ls) regs e =
    let less : length (list_of ls) ≡ length outs = cc in
    parts_set outs ls (set out t regs) less

-- as many values as patterns, or no match
match_count : {inside : Bool} {held held' : Held} {ps : Patterns} {rs : List ℕ} {ts : List Test}
    → PartsTests inside held ps rs ts held' → (vs : List Term) (env : Env) → length vs ≢ length rs
    → match_all ps vs env ≡ None
match_count parts_none [] env h = absurd (h refl)
match_count parts_none (v ∷ vs) env h = refl
match_count (parts_more d ds) [] env h = refl
match_count (parts_more {p = p} {ps = ps} d ds) (v ∷ vs) env h = go (match p v env)
    (λ env'. match_count ds vs env' (λ e. h (ap suc e)))
  where
    go : (o : Option Env) → ((env' : Env) → match_all ps vs env' ≡ None)
        → and_then o (λ env'. match_all ps vs env') ≡ None
    go None k = refl
    go (Some env') k = k env'

tuple_ok : (ps : Patterns) (outs : List ℕ) (ts : List Test) (held' : Held) (v : Labelled)
    (regs : Registers) (env : Env) → NoTwice outs
    → ((regs1 : Registers) → Keeps outs regs regs1
    → Matches held' (tests_write ts) regs1 (match_all ps (map erase (gets outs regs1)) env)
    (all_tested ts regs1)) → ((vs : List Term) → length vs ≢ length outs
    → match_all ps vs env ≡ None) → Matches held' (outs ++ tests_write ts) regs
    (match (r.TheTuple ps) (erase v) env)
    (accepting.and_then (tuple_test (length outs) outs v regs) (all_tested ts))
tuple_ok ps outs ts held' (l.Tuple s c ls) regs env twice ind short =
    subst (λ o. Matches held' (outs ++ tests_write ts) regs o
    (accepting.and_then (tuple_test (length outs) outs (l.Tuple s c ls) regs) (all_tested ts)))
    (sym (parts_all ps ls env))
    (⊎_elim here gone (eqb_tells (length outs) (part_count ls)))
  where
    here : ((length outs == part_count ls) ≡ true) × (length outs ≡ part_count ls)
        → Matches held' (outs ++ tests_write ts) regs (match_all ps (map erase (list_of ls)) env)
        (accepting.and_then (if length outs == part_count ls then set_parts outs ls regs else None)
        (all_tested ts))
    here y =
        let regs1 : Registers = sets outs (list_of ls) regs in
        let many = count_list ls ∙ sym y.1 in
        let k = keeps_sets outs (list_of ls) regs in
        let m = subst (λ us. Matches held' (tests_write ts) regs1 (match_all ps (map erase us) env)
        (all_tested ts regs1)) (gets_sets outs (list_of ls) regs many twice) (ind regs1 k) in
        subst (λ b. Matches held' (outs ++ tests_write ts) regs
        (match_all ps (map erase (list_of ls)) env)
        (accepting.and_then (if b then set_parts outs ls regs else None) (all_tested ts)))
        (sym y.0)
        (subst (λ o. Matches held' (outs ++ tests_write ts) regs
        (match_all ps (map erase (list_of ls)) env) (accepting.and_then o (all_tested ts)))
        (sym (parts_set outs ls regs many))
        (prepend held' outs (tests_write ts) regs regs1 (match_all ps (map erase (list_of ls)) env)
        (all_tested ts regs1) k m))

    gone : ((length outs == part_count ls) ≡ false) × (length outs ≢ part_count ls)
        → Matches held' (outs ++ tests_write ts) regs (match_all ps (map erase (list_of ls)) env)
        (accepting.and_then (if length outs == part_count ls then set_parts outs ls regs else None)
        (all_tested ts))
    gone n =
        let none = short (map erase (list_of ls))
        (λ e. n.1 (sym e ∙ length-map (list_of ls) erase ∙ count_list ls)) in
        subst (λ b. Matches held' (outs ++ tests_write ts) regs
        (match_all ps (map erase (list_of ls)) env)
        (accepting.and_then (if b then set_parts outs ls regs else None) (all_tested ts)))
        (sym n.0)
        (subst (λ o. Matches held' (outs ++ tests_write ts) regs o None) (sym none) tt)
tuple_ok ps outs ts held' (l.Int a) regs env twice ind short = tt
tuple_ok ps outs ts held' (l.Atom a) regs env twice ind short = tt
tuple_ok ps outs ts held' (l.Pid a) regs env twice ind short = tt
tuple_ok ps outs ts held' l.Nil regs env twice ind short = tt
tuple_ok ps outs ts held' (l.Cons s c x y) regs env twice ind short = tt

-- a cons goes into two registers
cons_ok : (q : Pattern) (ps : Patterns) (k : Term → Env → Option Env) (x y : ℕ) (us : List Test)
    (held' : Held) (v : Labelled) (regs : Registers) (env : Env) → x ≢ y
    → ((regs1 : Registers) → Keeps (x ∷ y ∷ []) regs regs1
    → Matches held' (tests_write us) regs1
    (and_then (match q (erase (regs1 x)) env) (λ env'. match_heads ps k (erase (regs1 y)) env'))
    (all_tested us regs1)) → Matches held' (x ∷ y ∷ tests_write us) regs
    (match_heads (MorePatterns q ps) k (erase v) env)
    (accepting.and_then (cons_test x y v regs) (all_tested us))
cons_ok q ps k x y us held' (l.Cons s c hd tl) regs env n ind =
    let regs1 : Registers = set y tl (set x hd regs) in
    let keep : Keeps (x ∷ y ∷ []) regs regs1 = λ z o. set_other y z tl (set x hd regs) o.1.0
    ∙ set_other x z hd regs o.0 in
    let at_x : regs1 x ≡ hd = set_other y x tl (set x hd regs) n ∙ set_same x hd regs in
    let at_y : regs1 y ≡ tl = set_same y tl (set x hd regs) in
    let m = subst (λ u. Matches held' (tests_write us) regs1
    (and_then (match q (erase (regs1 x)) env) (λ env'. match_heads ps k (erase u) env'))
    (all_tested us regs1)) at_y (ind regs1 keep) in
    let m' = subst (λ u. Matches held' (tests_write us) regs1
    (and_then (match q (erase u) env) (λ env'. match_heads ps k (erase tl) env'))
    (all_tested us regs1)) at_x m in
    prepend held' (x ∷ y ∷ []) (tests_write us) regs regs1
    (and_then (match q (erase hd) env) (λ env'. match_heads ps k (erase tl) env'))
    (all_tested us regs1) keep m'
cons_ok q ps k x y us held' (l.Int a) regs env n ind = tt
cons_ok q ps k x y us held' (l.Atom a) regs env n ind = tt
cons_ok q ps k x y us held' (l.Pid a) regs env n ind = tt
cons_ok q ps k x y us held' l.Nil regs env n ind = tt
cons_ok q ps k x y us held' (l.Tuple s c ts) regs env n ind = tt

-- the registers of the variables are those of before, those of the values, or written by the tests
mutual
  tests_inside : {inside : Bool} {held held' : Held} {p : Pattern} {from : ℕ} {ts : List Test}
      → TestsOf inside held p from ts held' → (ws : List ℕ) → AllOut (registers_of held) ws
      → Out from ws → AllOut (tests_write ts) ws → AllOut (registers_of held') ws
  tests_inside test_bind ws h o a = (a.0, h)
  tests_inside test_out ws h o a = (o, h)
  tests_inside test_int ws h o a = h
  tests_inside test_atom ws h o a = h
  tests_inside test_nil ws h o a = h
  tests_inside test_text ws h o a = h
  tests_inside (test_tuple {outs = outs} {ts = ts} d) ws h o a = parts_inside d ws h
      (out_left outs (tests_write ts) ws a) (out_right outs (tests_write ts) ws a)
  tests_inside (test_list d) ws h o a = heads_inside d ws h o a
  tests_inside (test_alias d) ws h o a = tests_inside d ws (a.0, h) o a.1
  tests_inside (test_alias_out d) ws h o a = tests_inside d ws (o, h) o a

  heads_inside : {inside : Bool} {held held' : Held} {ps : Patterns} {p : Pattern} {from : ℕ}
      {ts : List Test} → HeadsTests inside held ps p from ts held' → (ws : List ℕ)
      → AllOut (registers_of held) ws → Out from ws → AllOut (tests_write ts) ws
      → AllOut (registers_of held') ws
  heads_inside (heads_none d) ws h o a = tests_inside d ws h o a
  heads_inside (heads_more {head = x} {tail = y} {ts = ts} {us = us} d ds) ws h o a =
      let b = subst (λ l. AllOut l ws) (tests_append ts us) a.1.1 in
      heads_inside ds ws (tests_inside d ws h a.0 (out_left (tests_write ts) (tests_write us) ws b))
      a.1.0 (out_right (tests_write ts) (tests_write us) ws b)

  pub parts_inside : {inside : Bool} {held held' : Held} {ps : Patterns} {rs : List ℕ}
      {ts : List Test} → PartsTests inside held ps rs ts held' → (ws : List ℕ)
      → AllOut (registers_of held) ws → AllOut rs ws → AllOut (tests_write ts) ws
      → AllOut (registers_of held') ws
  parts_inside parts_none ws h o a = h
  parts_inside (parts_more {ts = ts} {us = us} d ds) ws h o a =
      let b = subst (λ l. AllOut l ws) (tests_append ts us) a in
      parts_inside ds ws (tests_inside d ws h o.0 (out_left (tests_write ts) (tests_write us) ws b))
      o.1 (out_right (tests_write ts) (tests_write us) ws b)

mutual
  test_ok : {inside : Bool} {held held' : Held} {p : Pattern} {from : ℕ} {ts : List Test}
      → TestsOf inside held p from ts held' → (env : Env) (regs : Registers) → Agree env held regs
      → AllOut (registers_of held) (tests_write ts) → Out from (tests_write ts)
      → NoTwice (tests_write ts) → Matches held' (tests_write ts) regs
      (match p (erase (regs from)) env) (all_tested ts regs)
  test_ok (test_bind {held = held} {from = from} {out = out}) env regs h a o n = (
    (
      refl,
      ap erase (set_same out (regs from) regs),
      agree_keep env held (out ∷ []) regs
          (set out (regs from) regs) h a (keeps_set out (regs from) regs),
    ),
    keeps_set out
        (regs from) regs,
  )
  test_ok test_out env regs h a o n = ((refl, refl, h), λ q k. refl)
  test_ok (test_int {held = held} {n = m} {from = from}) env regs h a o n = plain_int m (regs from)
      held env regs h
  test_ok (test_atom {held = held} {a = m} {from = from}) env regs h a o n = plain_atom m
      (regs from) held env regs h
  test_ok (test_nil {held = held} {from = from}) env regs h a o n = plain_nil (regs from) held env
      regs h
  test_ok (test_text {held = held} {text = s} {from = from}) env regs h a o n = plain_if
      (is_text s (erase (regs from))) held env regs h
  test_ok (test_tuple {held = held} {held' = held'} {ps = ps} {from = from} {outs = outs} {ts = ts}
      d) env regs h a o n =
      tuple_ok ps outs ts held' (regs from) regs env (twice_front outs (tests_write ts) n)
      (λ regs1 k. parts_ok d env regs1
      (agree_keep env held outs regs regs1 h
      (all_front (registers_of held) outs (tests_write ts) a) k)
      (all_back (registers_of held) outs (tests_write ts) a)
      (twice_apart outs (tests_write ts) n) (twice_back outs (tests_write ts) n))
      (λ vs e. match_count d vs env e)
  test_ok (test_list d) env regs h a o n = heads_ok d env regs h a o n
  test_ok (test_alias {held = held} {held' = held'} {x = x} {from = from} {out = out} {p = p}
      {ts = ts} d) env regs h a o n =
      let regs1 : Registers = set out (regs from) regs in
      let k = keeps_set out (regs from) regs in
      let same = set_same out (regs from) regs in
      let other = set_other out from (regs from) regs o.0 in
      let h1 = agree_keep env held (out ∷ []) regs regs1 h
      (all_front (registers_of held) (out ∷ []) (tests_write ts) a) k in
      let m = test_ok d (Bound x (erase (regs from)) env) regs1 (refl, ap erase same, h1)
      (n.0, all_back (registers_of held) (out ∷ []) (tests_write ts) a) o.1 n.1 in
      prepend held' (out ∷ []) (tests_write ts) regs regs1
      (match p (erase (regs from)) (Bound x (erase (regs from)) env)) (all_tested ts regs1) k
      (subst (λ v. Matches held' (tests_write ts) regs1
      (match p (erase v) (Bound x (erase (regs from)) env)) (all_tested ts regs1)) other m)
  test_ok (test_alias_out {held = held} {held' = held'} {x = x} {from = from} {p = p} {ts = ts} d)
      env regs h a o n =
      test_ok d (Bound x (erase (regs from)) env) regs (refl, refl, h) (o, a) o n

  heads_ok : {inside : Bool} {held held' : Held} {ps : Patterns} {p : Pattern} {from : ℕ}
      {ts : List Test} → HeadsTests inside held ps p from ts held' → (env : Env) (regs : Registers)
      → Agree env held regs → AllOut (registers_of held) (tests_write ts)
      → Out from (tests_write ts) → NoTwice (tests_write ts)
      → Matches held' (tests_write ts) regs
      (match_heads ps (λ t' env'. match p t' env') (erase (regs from)) env) (all_tested ts regs)
  heads_ok (heads_none d) env regs h a o n = test_ok d env regs h a o n
  heads_ok (heads_more {held = held} {held' = held1} {held'' = held'} {q = q} {p = p} {ps = ps}
      {from = from} {head = x} {tail = y} {ts = ts} {us = us} d ds) env regs h a o n =
      let ws = tests_write ts in
      let vs = tests_write us in
      let whole = tests_append ts us in
      let a1 = subst (AllOut (registers_of held)) whole
      (all_back (registers_of held) (x ∷ y ∷ []) (tests_write (ts ++ us)) a) in
      let n1 = subst NoTwice whole n.1.1 in
      let x_out = subst (Out x) whole n.0.1 in
      let y_out = subst (Out y) whole n.1.0 in
      cons_ok q ps (λ t' env'. match p t' env') x y (ts ++ us) held' (regs from) regs env n.0.0
      (λ regs1 k.
      let h1 = agree_keep env held (x ∷ y ∷ []) regs regs1 h
      (all_front (registers_of held) (x ∷ y ∷ []) (tests_write (ts ++ us)) a) k in
      let first = test_ok d env regs1 h1 (all_front (registers_of held) ws vs a1)
      (out_front x ws vs x_out) (twice_front ws vs n1) in
      let inside = tests_inside d vs (all_back (registers_of held) ws vs a1)
      (out_back x ws vs x_out) (twice_apart ws vs n1) in
      let m = matches_then held1 held' ws vs regs1 (match q (erase (regs1 x)) env)
      (all_tested ts regs1) (λ env'. match_heads ps (λ t' e. match p t' e) (erase (regs1 y))
      env') (all_tested us) first
      (λ env' regs' h' k'. subst (λ u. Matches held' vs regs'
      (match_heads ps (λ t' e. match p t' e) (erase u) env') (all_tested us regs'))
      (k' y (out_front y ws vs y_out))
      (heads_ok ds env' regs' h' inside (out_back y ws vs y_out) (twice_back ws vs n1))) in
      subst (λ l. Matches held' l regs1
      (and_then (match q (erase (regs1 x)) env)
      (λ env'. match_heads ps (λ t' e. match p t' e) (erase (regs1 y)) env'))
      (all_tested (ts ++ us) regs1)) (sym whole)
      (subst (Matches held' (ws ++ vs) regs1
      (and_then (match q (erase (regs1 x)) env)
      (λ env'. match_heads ps (λ t' e. match p t' e) (erase (regs1 y)) env')))
      (sym (tested_append ts us regs1)) m))

  pub parts_ok : {inside : Bool} {held held' : Held} {ps : Patterns} {rs : List ℕ} {ts : List Test}
      → PartsTests inside held ps rs ts held' → (env : Env) (regs : Registers) → Agree env held regs
      → AllOut (registers_of held) (tests_write ts) → AllOut rs (tests_write ts)
      → NoTwice (tests_write ts) → Matches held' (tests_write ts) regs
      (match_all ps (map erase (gets rs regs)) env) (all_tested ts regs)
  parts_ok parts_none env regs h a o n = (h, λ q k. refl)
  parts_ok (parts_more {held = held} {held' = held1} {held'' = held'} {p = p} {ps = ps}
      {from = from} {rs = rs} {ts = ts} {us = us} d ds) env regs h a o n =
      let ws = tests_write ts in
      let vs = tests_write us in
      let a1 = subst (AllOut (registers_of held)) (tests_append ts us) a in
      let o1 = subst (AllOut (from ∷ rs)) (tests_append ts us) o in
      let n1 = subst NoTwice (tests_append ts us) n in
      let first = test_ok d env regs h (all_front (registers_of held) ws vs a1)
      (out_front from ws vs o1.0) (twice_front ws vs n1) in
      let inside = tests_inside d vs (all_back (registers_of held) ws vs a1)
      (out_back from ws vs o1.0) (twice_apart ws vs n1) in
      let m = matches_then held1 held' ws vs regs (match p (erase (regs from)) env)
      (all_tested ts regs) (λ env'. match_all ps (map erase (gets rs regs)) env')
      (all_tested us) first
      (λ env' regs' h' k. subst (λ l. Matches held' vs regs' (match_all ps (map erase l) env')
      (all_tested us regs')) (gets_keep rs ws regs regs' (all_front rs ws vs o1.1) k)
      (parts_ok ds env' regs' h' inside (all_back rs ws vs o1.1) (twice_back ws vs n1))) in
      subst (λ l. Matches held' l regs
      (match_all (MorePatterns p ps) (map erase (gets (from ∷ rs) regs)) env)
      (all_tested (ts ++ us) regs)) (sym (tests_append ts us))
      (subst (Matches held' (ws ++ vs) regs
      (match_all (MorePatterns p ps) (map erase (gets (from ∷ rs) regs)) env))
      (sym (tested_append ts us regs)) m)
