-- A code has the pieces of its program, and its trees give as many values as their places take.
use Rattle.std.proofs.Common.{Bool, ◌≡◌, ℕ, suc, ◌+◌, List, [], ◌∷◌, ◌++◌, length, map, None, refl}
use Rattle.std.proofs.Common.{sym, ap, ◌∙◌, subst, arith}
use Rattle.std.specs.List.{All}
use Rattle.std.proofs.lemmas.List.{append_assoc, append-nil, length-append}
use Rattle.std.proofs.lemmas.List.Elements.{All-nil, All-cons}
use Rattle.hy_core.specs.declared.info.SiteInfo.{SiteInfo}
use Rattle.hy_core.specs.Resolved as r
use Rattle.hy_core.specs.Resolved.{Expression, Expressions, Clauses, FunctionTree, Pattern}
use Rattle.hy_core.specs.Resolved.{Patterns}
use Rattle.hy_core.specs.Supplied.{expression_count}
use Rattle.hy_ir.specs.Code.{Arms, Function, Last, Parts, NoParts, MoreParts}
use Rattle.hy_ir.specs.Valid.{Values}
use Rattle.hy_ir.specs.declared.code.Op.{Op}
use Rattle.hy_ir.specs.declared.code.Op.TheVariants as op
use Rattle.program_code.specs.ExpressionCode.{join, does, ConsesOf, conses_none, conses_more}
use Rattle.program_code.specs.ExpressionCode.{PieceOf, of_int, of_atom, of_nil, of_variable}
use Rattle.program_code.specs.ExpressionCode.{of_tuple, of_list, of_text, of_setelement, of_send}
use Rattle.program_code.specs.ExpressionCode.{of_spawn, of_display, of_bif, of_call, of_values}
use Rattle.program_code.specs.ExpressionCode.{of_let, of_do, of_within, of_behind, of_before}
use Rattle.program_code.specs.ExpressionCode.{PiecesOf, of_none, of_more, of_between, WholeOf}
use Rattle.program_code.specs.ExpressionCode.{gives, calls_last, raises, fails, chooses, waits}
use Rattle.program_code.specs.ExpressionCode.{waits_or_lapses, let_whole, do_whole, behind_whole}
use Rattle.program_code.specs.ExpressionCode.{ArmsOf, no_arms, more_arms}
use Rattle.program_code.specs.FittingValues.{PartsFit, LastFits, ArmsFit, TreeFits}
use Rattle.program_code.specs.GuardOperations.{GuardOf, guard_int, guard_atom, guard_nil}
use Rattle.program_code.specs.GuardOperations.{guard_variable, guard_bif, guard_let, guard_behind}
use Rattle.program_code.specs.GuardOperations.{guard_before, GuardsOf, guards_none, guards_more}
use Rattle.program_code.specs.GuardOperations.{guards_between}
use Rattle.program_code.specs.HeldRegisters.{Held, Moved, moved_none, stays, moves, Between}
use Rattle.program_code.specs.HeldRegisters.{a_const, a_move}
use Rattle.hy_core.specs.KnownTrees.{pattern_count}
use Rattle.hy_ir.specs.declared.code.Test.{Test}
use Rattle.program_code.specs.PatternTests.{TestsOf, test_bind, test_out, test_int, test_atom}
use Rattle.program_code.specs.PatternTests.{test_nil, test_text, test_tuple, test_list, test_alias}
use Rattle.program_code.specs.PatternTests.{test_alias_out, HeadsTests, heads_none, heads_more}
use Rattle.program_code.specs.PatternTests.{PartsTests, parts_none, parts_more}
use Rattle.program_code.specs.Pieces.{AsksTuple, AsksCons, test_pieces, tests_pieces}
use Rattle.program_code.specs.Pieces.{pattern_pieces, patterns_pieces, heads_pieces, Piece, Chooses}
use Rattle.program_code.specs.Pieces.{Accepts, Receives, operation_pieces, operations_pieces}
use Rattle.program_code.specs.Pieces.{tree_pieces, parts_pieces, part_pieces, last_pieces}
use Rattle.program_code.specs.Pieces.{arms_pieces, head_pieces, cons_pieces, pieces_of, all_pieces}
use Rattle.program_code.specs.Pieces.{clause_pieces}
use Rattle.program_code.specs.ProgramCode.{IsFunctionOf, AreFunctionsOf}

-- parts one after the other

join_pieces : (ps qs : Parts) → parts_pieces (join ps qs) ≡ parts_pieces ps ++ parts_pieces qs
join_pieces NoParts qs = refl
join_pieces (MoreParts p ps) qs = ap (λ l. part_pieces p ++ l) (join_pieces ps qs) ∙ sym
    (append_assoc (part_pieces p) (parts_pieces ps) (parts_pieces qs))

operations_join : (os us : List Op)
    → operations_pieces (os ++ us) ≡ operations_pieces os ++ operations_pieces us
operations_join [] us = refl
operations_join (o ∷ os) us = ap (λ l. operation_pieces o ++ l) (operations_join os us) ∙ sym
    (append_assoc (operation_pieces o) (operations_pieces os) (operations_pieces us))

-- parts, and then one operation
then_does : (ps : Parts) (o : Op) (before : List Piece) → parts_pieces ps ≡ before
    → parts_pieces (join ps (does o)) ≡ before ++ operation_pieces o
then_does ps o before e = join_pieces ps (does o) ∙ (λ i. e i ++ append-nil (operation_pieces o) i)

then_parts : (ps qs : Parts) (before after : List Piece) → parts_pieces ps ≡ before
    → parts_pieces qs ≡ after → parts_pieces (join ps qs) ≡ before ++ after
then_parts ps qs before after e f = join_pieces ps qs ∙ (λ i. e i ++ f i)

zero_first : (n : ℕ) → 0 + n ≡ n
zero_first n = omega arith

-- an operation between is no piece
between_none : {o : Op} {held held' : Held} {done done' : List ℕ} → Between o held done held' done'
    → operation_pieces o ≡ []
between_none a_const = refl
between_none (a_move m n) = refl

moved_length : {out from : ℕ} {rs ss : List ℕ} → Moved out from rs ss → length ss ≡ length rs
moved_length moved_none = refl
moved_length (stays m) = ap suc (moved_length m)
moved_length (moves m) = ap suc (moved_length m)

between_length : {o : Op} {held held' : Held} {done done' : List ℕ}
    → Between o held done held' done' → length done' ≡ length done
between_length a_const = refl
between_length (a_move m n) = moved_length n

-- tests

tests_join : (ts us : List Test) → tests_pieces (ts ++ us) ≡ tests_pieces ts ++ tests_pieces us
tests_join [] us = refl
tests_join (t ∷ ts) us = ap (λ l. test_pieces t ++ l) (tests_join ts us) ∙ sym
    (append_assoc (test_pieces t) (tests_pieces ts) (tests_pieces us))

parts_length : {inside : Bool} {held held' : Held} {ps : Patterns} {rs : List ℕ} {ts : List Test}
    → PartsTests inside held ps rs ts held' → length rs ≡ pattern_count ps
parts_length parts_none = refl
parts_length (parts_more d ds) = ap suc (parts_length ds)

mutual
  tests_are : {inside : Bool} {held held' : Held} {p : Pattern} {from : ℕ} {ts : List Test}
      → TestsOf inside held p from ts held' → tests_pieces ts ≡ pattern_pieces p
  tests_are test_bind = refl
  tests_are test_out = refl
  tests_are test_int = refl
  tests_are test_atom = refl
  tests_are test_nil = refl
  tests_are test_text = refl
  tests_are (test_tuple d) = λ i. AsksTuple (parts_length d i) ∷ parts_are d i
  tests_are (test_list d) = heads_are d
  tests_are (test_alias d) = tests_are d
  tests_are (test_alias_out d) = tests_are d

  heads_are : {inside : Bool} {held held' : Held} {ps : Patterns} {p : Pattern} {from : ℕ}
      {ts : List Test} → HeadsTests inside held ps p from ts held'
      → tests_pieces ts ≡ heads_pieces ps (pattern_pieces p)
  heads_are (heads_none d) = tests_are d
  heads_are (heads_more {ts = ts} {us = us} d ds) = ap (◌∷◌ AsksCons)
      (tests_join ts us ∙ (λ i. tests_are d i ++ heads_are ds i))

  parts_are : {inside : Bool} {held held' : Held} {ps : Patterns} {rs : List ℕ} {ts : List Test}
      → PartsTests inside held ps rs ts held' → tests_pieces ts ≡ patterns_pieces ps
  parts_are parts_none = refl
  parts_are (parts_more {ts = ts} {us = us} d ds) = tests_join ts us
      ∙ (λ i. tests_are d i ++ parts_are ds i)

-- guards

mutual
  guard_pieces : {held : Held} {g : Expression} {os : List Op} {out : ℕ} → GuardOf held g os out
      → operations_pieces os ≡ pieces_of g
  guard_pieces guard_int = refl
  guard_pieces guard_atom = refl
  guard_pieces guard_nil = refl
  guard_pieces (guard_variable e) = refl
  guard_pieces (guard_bif {b = b} {os = os} {rs = rs} {out = out} ds) = operations_join os
      (op.Bif out b rs ∷ []) ∙ ap (λ l. l ++ operation_pieces (op.Bif out b rs)) (guards_pieces ds)
  guard_pieces (guard_let {os = os} {us = us} d d') = operations_join os us
      ∙ (λ i. guard_pieces d i ++ guard_pieces d' i)
  guard_pieces (guard_behind {os = os} b d) = ap (λ l. l ++ operations_pieces os) (between_none b)
      ∙ guard_pieces d
  guard_pieces (guard_before {o = o} {os = os} d b) = operations_join os (o ∷ []) ∙ ap
      (λ l. operations_pieces os ++ (l ++ [])) (between_none b) ∙ append-nil (operations_pieces os)
      ∙ guard_pieces d

  guards_pieces : {held : Held} {done : List ℕ} {es : Expressions} {os : List Op} {rs : List ℕ}
      → GuardsOf held done es os rs → operations_pieces os ≡ all_pieces es
  guards_pieces guards_none = refl
  guards_pieces (guards_more {os = os} {us = us} d ds) = operations_join os us
      ∙ (λ i. guard_pieces d i ++ guards_pieces ds i)
  guards_pieces (guards_between {os = os} b ds) = ap (λ l. l ++ operations_pieces os)
      (between_none b) ∙ guards_pieces ds

longer : (ps qs : Parts) (end : Last) (before after : List Piece) → parts_pieces ps ≡ before
    → parts_pieces qs ++ last_pieces end ≡ after
    → parts_pieces (join ps qs) ++ last_pieces end ≡ before ++ after
longer ps qs end before after e f =
    ap (λ l. l ++ last_pieces end) (join_pieces ps qs) ∙ append_assoc (parts_pieces ps)
    (parts_pieces qs) (last_pieces end) ∙ (λ i. e i ++ f i)

module _ (sites : List SiteInfo) where
  -- as many registers as parts
  pieces_length : {held : Held} {done : List ℕ} {es : Expressions} {ps : Parts} {rs : List ℕ}
      → PiecesOf sites held done es ps rs → length rs ≡ length done + expression_count es
  pieces_length (of_none {done = done}) = omega arith
  pieces_length (of_more {done = done} {rs = rs} {from = from} {es = es} d ds) =
      let e = pieces_length ds in
      let f = length-append done (from ∷ []) in
      more (length rs) (length done) (length (done ++ from ∷ [])) (expression_count es) e f
    where
      more : (n k l m : ℕ) → n ≡ l + m → l ≡ k + 1 → n ≡ k + suc m
      more n k l m e f = omega arith
  pieces_length (of_between {es = es} b ds) = pieces_length ds ∙ ap (λ n. n + expression_count es)
      (between_length b)

  conses_pieces : {site tail out : ℕ} {heads : List ℕ} {ps : Parts}
      → ConsesOf sites site heads tail ps out → parts_pieces ps ≡ cons_pieces site (length heads)
  conses_pieces conses_none = refl
  conses_pieces (conses_more {site = site} {head = x} {rest = w} {out = out} {heads = heads}
      {ps = ps} m k) = then_does ps (op.Build site out (x ∷ w ∷ []))
      (cons_pieces (suc site) (length heads)) (conses_pieces m)

  mutual
    piece_pieces : {held : Held} {e : Expression} {ps : Parts} {rs : List ℕ}
        → PieceOf sites held e ps rs → parts_pieces ps ≡ pieces_of e
    piece_pieces of_int = refl
    piece_pieces of_atom = refl
    piece_pieces of_nil = refl
    piece_pieces (of_variable e) = refl
    piece_pieces (of_tuple {site = site} {out = out} {es = es} {ps = ps} {rs = rs} ds k) = then_does
        ps (op.Build site out rs) (all_pieces es) (parts_of ds)
    piece_pieces (of_list {site = site} {es = es} {e = e} {ps = ps} {qs = qs} {us = us}
        {heads = heads} ds d m) =
        then_parts ps (join qs us) (all_pieces es)
        (pieces_of e ++ cons_pieces site (expression_count es)) (parts_of ds)
        (then_parts qs us (pieces_of e) (cons_pieces site (expression_count es)) (piece_pieces d)
        (conses_pieces m ∙ ap (cons_pieces site)
        (pieces_length ds ∙ zero_first (expression_count es))))
    piece_pieces (of_text k) = refl
    piece_pieces (of_setelement {site = site} {out = out} {index = i} {tuple = j} {value = v}
        {es = es} {ps = ps} ds k) = then_does ps (op.Set site out i j v) (all_pieces es)
        (parts_of ds)
    piece_pieces (of_send {node = node} {out = out} {to = to} {message = m} {es = es} {ps = ps}
        ds) = then_does ps (op.Send node out to m) (all_pieces es) (parts_of ds)
    piece_pieces (of_spawn {node = node} {function = f} {out = out} {es = es} {ps = ps} {rs = rs}
        ds) = then_does ps (op.Spawn node out f rs) (all_pieces es) (parts_of ds)
    piece_pieces (of_display {out = out} {value = v} {es = es} {ps = ps} ds) = then_does ps
        (op.Show out v) (all_pieces es) (parts_of ds)
    piece_pieces (of_bif {b = b} {out = out} {es = es} {ps = ps} {rs = rs} ds) = then_does ps
        (op.Bif out b rs) (all_pieces es) (parts_of ds)
    piece_pieces (of_call {function = f} {out = out} {es = es} {ps = ps} {rs = rs} ds) = then_does
        ps (op.Call out f rs) (all_pieces es) (parts_of ds)
    piece_pieces (of_values ds) = parts_of ds
    piece_pieces (of_let {e = e} {b = b} {ps = ps} {qs = qs} d q d') = then_parts ps qs
        (pieces_of e) (pieces_of b) (piece_pieces d) (piece_pieces d')
    piece_pieces (of_do {e = e} {b = b} {ps = ps} {qs = qs} d d') = then_parts ps qs (pieces_of e)
        (pieces_of b) (piece_pieces d) (piece_pieces d')
    piece_pieces (of_within {ps = ps} {end = end} d) = append-nil
        (parts_pieces ps ++ last_pieces end) ∙ whole_pieces d
    piece_pieces (of_behind {ps = ps} b d) = ap (λ l. l ++ parts_pieces ps) (between_none b)
        ∙ piece_pieces d
    piece_pieces (of_before {e = e} {o = o} {ps = ps} d b) = then_does ps o (pieces_of e)
        (piece_pieces d) ∙ ap (λ l. pieces_of e ++ l) (between_none b) ∙ append-nil (pieces_of e)

    parts_of : {held : Held} {done : List ℕ} {es : Expressions} {ps : Parts} {rs : List ℕ}
        → PiecesOf sites held done es ps rs → parts_pieces ps ≡ all_pieces es
    parts_of of_none = refl
    parts_of (of_more {e = e} {es = es} {ps = ps} {qs = qs} d ds) = then_parts ps qs (pieces_of e)
        (all_pieces es) (piece_pieces d) (parts_of ds)
    parts_of (of_between {ps = ps} b ds) = ap (λ l. l ++ parts_pieces ps) (between_none b)
        ∙ parts_of ds

    whole_pieces : {held : Held} {values : Values} {e : Expression} {ps : Parts} {end : Last}
        → WholeOf sites held values e ps end → parts_pieces ps ++ last_pieces end ≡ pieces_of e
    whole_pieces (gives {ps = ps} d n) = append-nil (parts_pieces ps) ∙ piece_pieces d
    whole_pieces (calls_last {function = f} {ps = ps} ds) = ap
        (λ l. l ++ head_pieces (r.Function f)) (parts_of ds)
    whole_pieces (raises {class = class} {ps = ps} ds) = ap
        (λ l. l ++ head_pieces (r.Raising class)) (parts_of ds)
    whole_pieces (fails {ps = ps} ds) = ap (λ l. l ++ head_pieces r.MatchFail) (parts_of ds)
    whole_pieces (chooses {ps = ps} {xs = xs} d ds) = λ i. piece_pieces d i ++ Chooses ∷ arm_pieces
        ds i
    whole_pieces (waits {xs = xs} ds) = λ i. Receives r.Never ∷ (arm_pieces ds i ++ [])
    whole_pieces (waits_or_lapses ds d) = λ i. Receives r.AtOnce
        ∷ (arm_pieces ds i ++ whole_pieces d i)
    whole_pieces (let_whole {e = e} {b = b} {ps = ps} {qs = qs} {end = end} d q d') = longer ps qs
        end (pieces_of e) (pieces_of b) (piece_pieces d) (whole_pieces d')
    whole_pieces (do_whole {e = e} {b = b} {ps = ps} {qs = qs} {end = end} d d') = longer ps qs end
        (pieces_of e) (pieces_of b) (piece_pieces d) (whole_pieces d')
    whole_pieces (behind_whole {ps = ps} {end = end} b d) = ap
        (λ l. (l ++ parts_pieces ps) ++ last_pieces end) (between_none b) ∙ whole_pieces d

    arm_pieces : {held : Held} {values : Values} {rs : List ℕ} {cs : Clauses} {xs : Arms}
        → ArmsOf sites held values rs cs xs → arms_pieces xs ≡ clause_pieces cs
    arm_pieces no_arms = refl
    arm_pieces (more_arms d gd w ds) =
        λ i. Accepts ∷ (parts_are d i ++ (guard_pieces gd i
        ++ (whole_pieces w i ++ arm_pieces ds i)))

  function_pieces : (of : FunctionTree) (f : Function) → IsFunctionOf sites of f
      → tree_pieces f.body ≡ pieces_of of.body
  function_pieces of f d = ap tree_pieces d.body ∙ whole_pieces d.carries_out

  pub code_pieces : (ofs : List FunctionTree) (fs : List Function) → AreFunctionsOf sites ofs fs
      → map (λ (f : Function). tree_pieces f.body) fs ≡ map
      (λ (of : FunctionTree). pieces_of of.body) ofs
  code_pieces [] [] d = refl
  code_pieces (of ∷ ofs) (f ∷ fs) d = λ i. function_pieces of f d.0 i ∷ code_pieces ofs fs d.1 i
  code_pieces [] (f ∷ fs) d = absurd d
  code_pieces (of ∷ ofs) [] d = absurd d

  -- numbers of values

  join_fits : (ps qs : Parts) → PartsFit ps → PartsFit qs → PartsFit (join ps qs)
  join_fits NoParts qs h k = k
  join_fits (MoreParts p ps) qs h k = (h.0, join_fits ps qs h.1 k)

  conses_fit : {site tail out : ℕ} {heads : List ℕ} {ps : Parts}
      → ConsesOf sites site heads tail ps out → PartsFit ps
  conses_fit conses_none = tt
  conses_fit (conses_more {site = site} {head = x} {rest = w} {out = out} {ps = ps} m k) = join_fits
      ps (does (op.Build site out (x ∷ w ∷ []))) (conses_fit m) (tt, tt)

  mutual
    piece_fits : {held : Held} {e : Expression} {ps : Parts} {rs : List ℕ}
        → PieceOf sites held e ps rs → PartsFit ps
    piece_fits of_int = (tt, tt)
    piece_fits of_atom = (tt, tt)
    piece_fits of_nil = (tt, tt)
    piece_fits (of_variable e) = tt
    piece_fits (of_tuple {site = site} {out = out} {ps = ps} {rs = rs} ds k) = join_fits ps
        (does (op.Build site out rs)) (parts_fit ds) (tt, tt)
    piece_fits (of_list {ps = ps} {qs = qs} {us = us} ds d m) = join_fits ps (join qs us)
        (parts_fit ds) (join_fits qs us (piece_fits d) (conses_fit m))
    piece_fits (of_text k) = (tt, tt)
    piece_fits (of_setelement {site = site} {out = out} {index = i} {tuple = j} {value = v}
        {ps = ps} ds k) = join_fits ps (does (op.Set site out i j v)) (parts_fit ds) (tt, tt)
    piece_fits (of_send {node = node} {out = out} {to = to} {message = m} {ps = ps} ds) = join_fits
        ps (does (op.Send node out to m)) (parts_fit ds) (tt, tt)
    piece_fits (of_spawn {node = node} {function = f} {out = out} {ps = ps} {rs = rs} ds) =
        join_fits ps (does (op.Spawn node out f rs)) (parts_fit ds) (tt, tt)
    piece_fits (of_display {out = out} {value = v} {ps = ps} ds) = join_fits ps
        (does (op.Show out v)) (parts_fit ds) (tt, tt)
    piece_fits (of_bif {b = b} {out = out} {ps = ps} {rs = rs} ds) = join_fits ps
        (does (op.Bif out b rs)) (parts_fit ds) (tt, tt)
    piece_fits (of_call {function = f} {out = out} {ps = ps} {rs = rs} ds) = join_fits ps
        (does (op.Call out f rs)) (parts_fit ds) (tt, tt)
    piece_fits (of_values ds) = parts_fit ds
    piece_fits (of_let {ps = ps} {qs = qs} d q d') = join_fits ps qs (piece_fits d) (piece_fits d')
    piece_fits (of_do {ps = ps} {qs = qs} d d') = join_fits ps qs (piece_fits d) (piece_fits d')
    piece_fits (of_within d) = (whole_fits d, tt)
    piece_fits (of_behind b d) = (tt, piece_fits d)
    piece_fits (of_before {o = o} {ps = ps} d b) = join_fits ps (does o) (piece_fits d) (tt, tt)

    parts_fit : {held : Held} {done : List ℕ} {es : Expressions} {ps : Parts} {rs : List ℕ}
        → PiecesOf sites held done es ps rs → PartsFit ps
    parts_fit of_none = tt
    parts_fit (of_more {ps = ps} {qs = qs} d ds) = join_fits ps qs (piece_fits d) (parts_fit ds)
    parts_fit (of_between b ds) = (tt, parts_fit ds)

    whole_fits : {held : Held} {values : Values} {e : Expression} {ps : Parts} {end : Last}
        → WholeOf sites held values e ps end → PartsFit ps × LastFits values end
    whole_fits (gives d n) = (piece_fits d, n)
    whole_fits (calls_last ds) = (parts_fit ds, refl)
    whole_fits (raises ds) = (parts_fit ds, tt)
    whole_fits (fails ds) = (parts_fit ds, tt)
    whole_fits (chooses d ds) = (piece_fits d, arms_fit ds)
    whole_fits (waits ds) = (tt, (arms_fit ds, tt))
    whole_fits (waits_or_lapses ds d) = (tt, (arms_fit ds, whole_fits d))
    whole_fits (let_whole {ps = ps} {qs = qs} d q d') = let w = whole_fits d' in
        (join_fits ps qs (piece_fits d) w.0, w.1)
    whole_fits (do_whole {ps = ps} {qs = qs} d d') = let w = whole_fits d' in
        (join_fits ps qs (piece_fits d) w.0, w.1)
    whole_fits (behind_whole b d) = let w = whole_fits d in ((tt, w.0), w.1)

    arms_fit : {held : Held} {values : Values} {rs : List ℕ} {cs : Clauses} {xs : Arms}
        → ArmsOf sites held values rs cs xs → ArmsFit values xs
    arms_fit no_arms = tt
    arms_fit (more_arms d gd w ds) = (whole_fits w, arms_fit ds)

  pub code_fits : (ofs : List FunctionTree) (fs : List Function) → AreFunctionsOf sites ofs fs
      → All (λ (f : Function). TreeFits None f.body) fs
  code_fits [] [] d = All-nil (λ (f : Function). TreeFits None f.body)
  code_fits (of ∷ ofs) (f ∷ fs) d = All-cons (λ (f : Function). TreeFits None f.body) f fs
      (subst (TreeFits None) (sym d.0.body) (whole_fits d.0.carries_out)) (code_fits ofs fs d.1)
  code_fits [] (f ∷ fs) d = absurd d
  code_fits (of ∷ ofs) [] d = absurd d
