-- The worked code is the code of its program, and codes that do more are not.
use Rattle.std.proofs.Common.{zero, subst, ◌≡◌, ℕ, suc, ◌+◌, List, [], ◌∷◌, length, map, Bool, true}
use Rattle.std.proofs.Common.{false, true≢false, None, refl, sym, ap, arith, pos}
use Rattle.std.specs.Prelude.{◌==◌, if◌then◌else◌, slice_get, unwrap_or}
use Rattle.std.specs.List.{AllByRecursion, IsDistinct}
use Rattle.std.proofs.lemmas.Option.{none-some}
use Rattle.hy_core.specs.declared.info.SiteInfo.{SiteInfo}
use Rattle.hy_core.specs.Resolved as r
use Rattle.hy_core.specs.Resolved.{Expression, FunctionTree, AnyTerm, Patterns, NoPatterns}
use Rattle.hy_core.specs.Resolved.{MorePatterns, Clauses, MoreClauses}
use Rattle.hy_core.proofs.Written.{program_is}
use Rattle.hy_core.specs.declared.tree.Program.{Program}
use Rattle.hy_core.specs.FullRun.{trees_of}
use Rattle.hy_core.specs.Numbered.{program_sites}
use Rattle.lifted_program.specs.LiftingLaws.{lifting_of}
use Rattle.hy_ir.specs.Code.{Code, Arms, NoArms, MoreArms, Function, NoParts, Parts, Last, MakeTree}
use Rattle.hy_ir.specs.Code.{Tree, Tail, Give, Raise, Choose}
use Rattle.hy_core.specs.declared.class.Class.TheVariants.{Error}
use Rattle.hy_ir.specs.WorkedCodes.{loop_code, function, operations, steps, number, atom, always}
use Rattle.hy_core.specs.declared.bif.Bif.TheVariants as b
use Rattle.hy_ir.specs.declared.code.Constant.TheVariants as constant
use Rattle.hy_ir.specs.declared.code.Op.{Op}
use Rattle.hy_ir.specs.declared.code.Op.TheVariants as op
use Rattle.hy_ir.specs.declared.code.Test.TheVariants as test
use Rattle.lifted_program.specs.Captured.{AreCaptured, IsFree, occurs, passed}
use Rattle.lifted_program.specs.Renaming.{renamed_program}
use Rattle.lifted_program.proofs.Variables.{contained_in}
use Rattle.program_code.specs.ExpressionCode.{ArmsOf, conses_none, conses_more, of_int, of_atom}
use Rattle.program_code.specs.ExpressionCode.{of_nil, of_variable, of_tuple, of_list, of_send}
use Rattle.program_code.specs.ExpressionCode.{of_bif, of_call, of_none, of_more, gives, calls_last}
use Rattle.program_code.specs.ExpressionCode.{raises, chooses, do_whole, no_arms, more_arms}
use Rattle.program_code.specs.ExpressionCode.{WholeOf}
use Rattle.program_code.specs.GuardOperations.{guard_atom}
use Rattle.program_code.specs.HeldRegisters.{Held}
use Rattle.hy_ir.specs.Valid.{Values}
use Rattle.hy_ir.specs.declared.code.Guard.{Guard}
use Rattle.hy_ir.specs.declared.code.Test.{Test}
use Rattle.program_code.specs.PatternTests.{PartsTests, test_bind, test_out, test_int, test_nil}
use Rattle.program_code.specs.PatternTests.{test_list, heads_none, heads_more, parts_none}
use Rattle.program_code.specs.PatternTests.{parts_more}
use Rattle.program_code.specs.Pieces.{Piece, tree_pieces, pieces_of}
use Rattle.program_code.specs.ProgramCode.{IsFunctionOf, IsCode, IsCodeOfProgram}
use Rattle.program_code.specs.WorkedProgramCode.{one, two, tree_over_list, trees, main_tree}
use Rattle.program_code.specs.WorkedProgramCode.{loop_tree, append_tree, reverse_one_tree}
use Rattle.program_code.specs.WorkedProgramCode.{reverse_two_tree, append_call_tree, none_captured}
use Rattle.program_code.specs.WorkedProgramCode.{names, modules, LoopHasItsCode, code_in}
use Rattle.program_code.specs.WorkedProgramCode.{OthersAreNoCodes, unread_tuple, unasked_send}
use Rattle.program_code.proofs.PieceLemmas.{code_pieces}

-- lists without a number twice

abbrev is_none : ℕ → List ℕ → Bool
is_none q [] = true
is_none q (w ∷ ws) = if q == w then false else is_none q ws

abbrev is_once : List ℕ → Bool
is_once [] = true
is_once (w ∷ ws) = if is_none w ws then is_once ws else false

others_differ : (q : ℕ) (ws : List ℕ) → is_none q ws ≡ true
    → AllByRecursion (λ w. (q == w) ≡ false) ws
others_differ q [] h = tt
others_differ q (w ∷ ws) h = go (others_differ q ws) (q == w) refl h
  where
    go : (is_none q ws ≡ true → AllByRecursion (λ v. (q == v) ≡ false) ws) → (b : Bool)
        → (q == w) ≡ b → (if b then false else is_none q ws) ≡ true
        → ((q == w) ≡ false) × AllByRecursion (λ v. (q == v) ≡ false) ws
    go rest true e k = absurd (true≢false (sym k))
    go rest false e k = (e, rest k)

all_differ : (ws : List ℕ) → is_once ws ≡ true → IsDistinct ◌==◌ ws
unfolding IsDistinct
all_differ [] h = tt
all_differ (w ∷ ws) h = go (all_differ ws) (is_none w ws) refl h
  where
    go : (is_once ws ≡ true → IsDistinct ◌==◌ ws) → (b : Bool) → is_none w ws ≡ b
        → (if b then is_once ws else false) ≡ true
        → AllByRecursion (λ v. (w == v) ≡ false) ws × IsDistinct ◌==◌ ws
    go rest true e k = (others_differ w ws e, rest k)
    go rest false e k = absurd (true≢false (sym k))

abbrev sites : List SiteInfo
sites = loop_code.sites

abbrev ops : List Op → Parts
ops = operations

-- N in register 0 and S in register 1
abbrev held : Held
held = (1, 1) ∷ (0, 0) ∷ []

-- how the loop goes on
abbrev round : List Op
round = number 7 1 ∷ op.Bif 8 b.Sub (0 ∷ 7 ∷ []) ∷ atom 9 10 ∷ op.Build 1 10 (9 ∷ 0 ∷ []) ∷ []

abbrev loop_arms : Arms
loop_arms =
    MoreArms (test.IsInt 0 (pos 0) ∷ []) (always 2)
    (steps (op.Bif 3 b.SelfPid [] ∷ op.Send 5 4 3 1 ∷ []) (Give (1 ∷ [])))
    (MoreArms (test.Bind 5 0 ∷ []) (always 6) (steps round (Tail 1 (8 ∷ 10 ∷ []))) NoArms)

main_whole : WholeOf sites [] None main_tree.body
    (ops (number 0 3 ∷ atom 1 10 ∷ number 2 0 ∷ op.Build 0 3 (1 ∷ 2 ∷ []) ∷ []))
    (Tail 1 (0 ∷ 3 ∷ []))
main_whole =
    calls_last
    (of_more {ps = ops (number 0 3 ∷ [])}
    {qs = ops (atom 1 10 ∷ number 2 0 ∷ op.Build 0 3 (1 ∷ 2 ∷ []) ∷ [])} of_int
    (of_more {ps = ops (atom 1 10 ∷ number 2 0 ∷ op.Build 0 3 (1 ∷ 2 ∷ []) ∷ [])} {qs = NoParts}
    (of_tuple {ps = ops (atom 1 10 ∷ number 2 0 ∷ [])} {rs = 1 ∷ 2 ∷ []}
    (of_more {ps = ops (atom 1 10 ∷ [])} {qs = ops (number 2 0 ∷ [])} of_atom
    (of_more {ps = ops (number 2 0 ∷ [])} {qs = NoParts} of_int of_none))
    refl)
    of_none))

-- the loop

loop_whole : WholeOf sites held None loop_tree.body NoParts (Choose loop_arms)
loop_whole =
    chooses (of_variable refl)
    (more_arms {ps = ops (op.Bif 3 b.SelfPid [] ∷ op.Send 5 4 3 1 ∷ [])}
    (parts_more {ts = test.IsInt 0 (pos 0) ∷ []} {us = []} test_int parts_none) guard_atom
    (do_whole {ps = ops (op.Bif 3 b.SelfPid [] ∷ op.Send 5 4 3 1 ∷ [])} {qs = NoParts}
    (of_send {ps = ops (op.Bif 3 b.SelfPid [] ∷ [])}
    (of_more {ps = ops (op.Bif 3 b.SelfPid [] ∷ [])} {qs = NoParts} (of_bif {ps = NoParts} of_none)
    (of_more {ps = NoParts} {qs = NoParts} (of_variable refl) of_none)))
    (gives (of_variable refl) refl))
    (more_arms {ps = ops round} (parts_more {ts = test.Bind 5 0 ∷ []} {us = []} test_bind
    parts_none) guard_atom
    (calls_last
    (of_more {ps = ops (number 7 1 ∷ op.Bif 8 b.Sub (0 ∷ 7 ∷ []) ∷ [])}
    {qs = ops (atom 9 10 ∷ op.Build 1 10 (9 ∷ 0 ∷ []) ∷ [])}
    (of_bif {ps = ops (number 7 1 ∷ [])}
    (of_more {ps = NoParts} {qs = ops (number 7 1 ∷ [])} (of_variable refl)
    (of_more {ps = ops (number 7 1 ∷ [])} {qs = NoParts} of_int of_none)))
    (of_more {ps = ops (atom 9 10 ∷ op.Build 1 10 (9 ∷ 0 ∷ []) ∷ [])} {qs = NoParts}
    (of_tuple {ps = ops (atom 9 10 ∷ [])}
    (of_more {ps = ops (atom 9 10 ∷ [])} {qs = NoParts} of_atom
    (of_more {ps = NoParts} {qs = NoParts} (of_variable refl) of_none)) refl)
    of_none)))
    no_arms))

-- the functions over lists: an arm for nil, one for a cons, and one for what is no list

abbrev nil_arm : Arms → Arms
nil_arm xs = MoreArms (test.IsNil 0 ∷ []) (always 2) (steps [] (Give (1 ∷ []))) xs

abbrev cons_arm : Tree → Arms → Arms
cons_arm body xs = MoreArms (test.IsCons 0 3 4 ∷ []) (always 5) body xs

abbrev other_arm : (bound : ℕ) → Arms
other_arm r = MoreArms (test.Bind r 0 ∷ []) (always (suc r))
    (steps (atom (suc (suc r)) 3 ∷ []) (Raise Error (suc (suc r)))) NoArms

-- the head in register 3 and the tail in register 4
abbrev inside : Held
inside = (3, 4) ∷ (2, 3) ∷ held

over_list : (step : Expression) (r : ℕ) (ps : Parts) (end : Last)
    → WholeOf sites inside None step ps end
    → WholeOf sites held None (tree_over_list step).body NoParts
    (Choose (nil_arm (cons_arm (MakeTree ps end) (other_arm r))))
over_list step r ps end d =
    chooses (of_variable refl)
    (more_arms {ps = NoParts} (parts_more {ts = test.IsNil 0 ∷ []} {us = []} test_nil parts_none)
    guard_atom (gives (of_variable refl) refl)
    (more_arms {ps = ps} (parts_more {ts = test.IsCons 0 3 4 ∷ []} {us = []}
    (test_list (heads_more {ts = []} {us = []} test_out (heads_none test_out))) parts_none)
    guard_atom d
    (more_arms {ps = ops (atom (suc (suc r)) 3 ∷ [])}
    (parts_more {ts = test.Bind r 0 ∷ []} {us = []} test_bind parts_none) guard_atom
    (raises (of_more {ps = ops (atom (suc (suc r)) 3 ∷ [])} {qs = NoParts} of_atom of_none))
    no_arms)))

append_step : WholeOf sites inside None
    (r.ListOf 2 (one (r.Variable 2)) (r.Call (r.Function 2) (two (r.Variable 3) (r.Variable 1))))
    (ops (op.Call 6 2 (4 ∷ 1 ∷ []) ∷ op.Build 2 7 (3 ∷ 6 ∷ []) ∷ [])) (Give (7 ∷ []))
append_step =
    gives
    (of_list {ps = NoParts} {qs = ops (op.Call 6 2 (4 ∷ 1 ∷ []) ∷ [])}
    {us = ops (op.Build 2 7 (3 ∷ 6 ∷ []) ∷ [])}
    (of_more {ps = NoParts} {qs = NoParts} (of_variable refl) of_none)
    (of_call {ps = NoParts} (of_more {ps = NoParts} {qs = NoParts} (of_variable refl)
    (of_more {ps = NoParts} {qs = NoParts} (of_variable refl) of_none)))
    (conses_more {ps = NoParts} conses_none refl))
    refl

reverse_step : WholeOf sites inside None
    (r.Call (r.Function 4) (two (r.Variable 3) (r.ListOf 3 (one (r.Variable 2)) (r.Variable 1))))
    (ops (op.Build 3 6 (3 ∷ 1 ∷ []) ∷ [])) (Tail 4 (4 ∷ 6 ∷ []))
reverse_step =
    calls_last
    (of_more {ps = NoParts} {qs = ops (op.Build 3 6 (3 ∷ 1 ∷ []) ∷ [])} (of_variable refl)
    (of_more {ps = ops (op.Build 3 6 (3 ∷ 1 ∷ []) ∷ [])} {qs = NoParts}
    (of_list {ps = NoParts} {qs = NoParts} {us = ops (op.Build 3 6 (3 ∷ 1 ∷ []) ∷ [])}
    (of_more {ps = NoParts} {qs = NoParts} (of_variable refl) of_none) (of_variable refl)
    (conses_more {ps = NoParts} conses_none refl))
    of_none))

-- each function, in order

-- the function of the code that has this number
abbrev numbered : ℕ → Function
numbered k = unwrap_or (slice_get loop_code.functions k) (function 0 0 (steps [] (Give [])))

main_is : IsFunctionOf sites main_tree (numbered 0)
main_is = record {
  params = refl;
  held = [];
  holds = refl;
  parts = ops (number 0 3 ∷ atom 1 10 ∷ number 2 0 ∷ op.Build 0 3 (1 ∷ 2 ∷ []) ∷ []);
  last = Tail 1 (0 ∷ 3 ∷ []);
  body = refl;
  carries_out = main_whole;
  once = all_differ (0 ∷ 1 ∷ 2 ∷ 3 ∷ []) refl;
}

loop_is : IsFunctionOf sites loop_tree (numbered 1)
loop_is = record {
  params = refl;
  held = held;
  holds = refl;
  parts = NoParts;
  last = Choose loop_arms;
  body = refl;
  carries_out = loop_whole;
  once = all_differ (0 ∷ 1 ∷ 2 ∷ 3 ∷ 4 ∷ 5 ∷ 6 ∷ 7 ∷ 8 ∷ 9 ∷ 10 ∷ []) refl;
}

append_is : IsFunctionOf sites append_tree (numbered 2)
append_is = record {
  params = refl;
  held = held;
  holds = refl;
  parts = NoParts;
  last = Choose (nil_arm (cons_arm
      (steps (op.Call 6 2 (4 ∷ 1 ∷ []) ∷ op.Build 2 7 (3 ∷ 6 ∷ []) ∷ []) (Give (7 ∷ [])))
      (other_arm 8)));
  body = refl;
  carries_out = over_list (r.ListOf 2 (one (r.Variable 2))
      (r.Call (r.Function 2) (two (r.Variable 3) (r.Variable 1)))) 8
      (ops (op.Call 6 2 (4 ∷ 1 ∷ []) ∷ op.Build 2 7 (3 ∷ 6 ∷ []) ∷ [])) (Give (7 ∷ [])) append_step;
  once = all_differ (0 ∷ 1 ∷ 2 ∷ 3 ∷ 4 ∷ 5 ∷ 6 ∷ 7 ∷ 8 ∷ 9 ∷ 10 ∷ []) refl;
}

reverse_one_is : IsFunctionOf sites reverse_one_tree (numbered 3)
reverse_one_is = record {
  params = refl;
  held = (0, 0) ∷ [];
  holds = refl;
  parts = ops (op.Const 1 constant.Nil ∷ []);
  last = Tail 4 (0 ∷ 1 ∷ []);
  body = refl;
  carries_out = calls_last (of_more {ps = NoParts} {qs = ops (op.Const 1 constant.Nil ∷ [])}
      (of_variable refl) (of_more {ps = ops (op.Const 1 constant.Nil ∷ [])} {qs = NoParts} of_nil
      of_none));
  once = all_differ (0 ∷ 1 ∷ []) refl;
}

reverse_two_is : IsFunctionOf sites reverse_two_tree (numbered 4)
reverse_two_is = record {
  params = refl;
  held = held;
  holds = refl;
  parts = NoParts;
  last = Choose (nil_arm (cons_arm (steps (op.Build 3 6 (3 ∷ 1 ∷ []) ∷ []) (Tail 4 (4 ∷ 6 ∷ [])))
      (other_arm 7)));
  body = refl;
  carries_out = over_list (r.Call (r.Function 4)
      (two (r.Variable 3) (r.ListOf 3 (one (r.Variable 2)) (r.Variable 1)))) 7
      (ops (op.Build 3 6 (3 ∷ 1 ∷ []) ∷ [])) (Tail 4 (4 ∷ 6 ∷ [])) reverse_step;
  once = all_differ (0 ∷ 1 ∷ 2 ∷ 3 ∷ 4 ∷ 5 ∷ 6 ∷ 7 ∷ 8 ∷ 9 ∷ []) refl;
}

append_call_is : IsFunctionOf sites append_call_tree (numbered 5)
append_call_is = record {
  params = refl;
  held = held;
  holds = refl;
  parts = NoParts;
  last = Tail 2 (0 ∷ 1 ∷ []);
  body = refl;
  carries_out = calls_last (of_more {ps = NoParts} {qs = NoParts} (of_variable refl)
      (of_more {ps = NoParts} {qs = NoParts} (of_variable refl) of_none));
  once = all_differ (0 ∷ 1 ∷ []) refl;
}

worked_code : IsCode trees loop_code
worked_code =
    (main_is, (loop_is, (append_is, (reverse_one_is, (reverse_two_is, (append_call_is, tt))))))

-- no function of a letrec is defined
nothing_free : (f x : ℕ) → IsFree (renamed_program 10 trees) f x → ⊥
nothing_free f x (occurs d defined bound used) = none-some d defined.2
nothing_free f x (passed d g defined bound used free) = none-some d defined.2

once_captured : (f : ℕ) → IsDistinct ◌==◌ (none_captured f)
unfolding IsDistinct
once_captured f = tt

none_free : AreCaptured (renamed_program 10 trees) none_captured
none_free = record {
  free = λ f x c. absurd (contained_in x [] c);
  all = λ f x d. absurd (nothing_free f x d);
  once = once_captured;
}

-- with other names and atoms, and the sites of the program
code_of_program : (program : Program) → trees_of program ≡ trees → program_sites program ≡ sites
    → IsCodeOfProgram program (code_in program)
code_of_program program are stand = record {
  limit = 10;
  captured = none_captured;
  free = subst (λ ts. AreCaptured (renamed_program 10 ts) none_captured) (sym are) none_free;
  functions = subst (λ ts. IsCode (lifting_of 10 none_captured ts) (code_in program)) (sym are)
      worked_code;
  sites = sym stand;
  names = refl;
  atoms = refl;
}

pub loop_has_its_code : LoopHasItsCode
loop_has_its_code = record {
  resolved = program_is names (0 ∷ 1 ∷ 2 ∷ 3 ∷ []) modules;
  captured = none_free;
  lifted = refl;
  code = worked_code;
  of_program = code_of_program;
}

-- codes that do more

abbrev how_many : List (List Piece) → ℕ
how_many [] = 0
how_many (l ∷ ls) = length l + how_many ls

-- a variable that no test stands around has a test of its own
one_test : {before behind : Held} {x : ℕ} {rs : List ℕ} {ts : List Test}
    → PartsTests false before (MorePatterns (AnyTerm x) NoPatterns) rs ts behind → length ts ≡ 1
one_test (parts_more test_bind parts_none) = refl

no_second : {before : Held} {values : Values} {rs : List ℕ} {first : Patterns}
    {g g' e e' : Expression} {cs : Clauses} {ts : List Test} {guard guard' : Guard} {t t' : Tree}
    {xs : Arms} {x : ℕ} → ArmsOf sites before values rs
    (MoreClauses first g e (MoreClauses (MorePatterns (AnyTerm x) NoPatterns) g' e' cs))
    (MoreArms ts guard t (MoreArms [] guard' t' xs)) → ⊥
no_second (more_arms d gd w (more_arms d' gd' w' ds)) = zero_one (one_test d')
  where
    zero_one : zero ≡ suc zero → ⊥
    zero_one e = cc

no_choice : {before : Held} {values : Values} {first : Patterns} {value g g' e e' : Expression}
    {cs : Clauses} {ts : List Test} {guard guard' : Guard} {t t' : Tree} {xs : Arms} {x : ℕ}
    → WholeOf sites before values (r.Case value
    (MoreClauses first g e (MoreClauses (MorePatterns (AnyTerm x) NoPatterns) g' e' cs))) NoParts
    (Choose (MoreArms ts guard t (MoreArms [] guard' t' xs))) → ⊥
no_choice (chooses d ds) = no_second ds

abbrev parts_in : Tree → Parts
parts_in (MakeTree ps end) = ps

abbrev last_in : Tree → Last
last_in (MakeTree ps end) = end

not_bound : {params : List ℕ} {first : Patterns} {value g g' e e' : Expression} {cs : Clauses}
    {x : ℕ} {ts : List Test} {guard guard' : Guard} {t t' : Tree} {xs : Arms} {registers count : ℕ}
    → IsFunctionOf sites (record {
      parameters = params;
      body = r.Case value
          (MoreClauses first g e (MoreClauses (MorePatterns (AnyTerm x) NoPatterns) g' e' cs));
    })
    (function count registers (MakeTree NoParts
    (Choose (MoreArms ts guard t (MoreArms [] guard' t' xs))))) → ⊥
not_bound {params} {first} {value} {g} {g'} {e} {e'} {cs} {x} {ts} {guard} {guard'} {t} {t'} {xs}
    d =
    let asked = r.Case value (MoreClauses first g e
    (MoreClauses (MorePatterns (AnyTerm x) NoPatterns) g' e' cs)) in
    let whole = subst (λ ps. WholeOf sites d.held None asked ps d.last) (sym (ap parts_in d.body))
    d.carries_out in
    no_choice (subst (λ end. WholeOf sites d.held None asked NoParts end) (sym (ap last_in d.body))
    whole)

-- as many pieces as the program asks for
as_many : (limit : ℕ) (captured : ℕ → List ℕ) (code : Code)
    → IsCode (lifting_of limit captured trees) code
    → how_many (map (λ (f : Function). tree_pieces f.body) code.functions)
    ≡ how_many (map (λ (of : FunctionTree). pieces_of of.body) trees)
as_many limit captured code d =
    ap how_many (code_pieces code.sites (lifting_of limit captured trees) code.functions d)

pub others_are_no_codes : OthersAreNoCodes
others_are_no_codes = record {
  tuple = λ limit captured d. one_more (as_many limit captured unread_tuple d);
  send = λ limit captured d. three_more (as_many limit captured unasked_send d);
  variable = λ limit captured d. not_bound d.1.0;
}
  where
    one_more : how_many (map (λ (f : Function). tree_pieces f.body) unread_tuple.functions)
        ≡ how_many (map (λ (of : FunctionTree). pieces_of of.body) trees) → ⊥
    one_more e = omega arith

    three_more : how_many (map (λ (f : Function). tree_pieces f.body) unasked_send.functions)
        ≡ how_many (map (λ (of : FunctionTree). pieces_of of.body) trees) → ⊥
    three_more e = omega arith
