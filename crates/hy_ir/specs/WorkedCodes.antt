-- The codes of small programs, and what they do under each placing of their sites.
use Rattle.std.specs.Prelude.{◌≡◌, ℕ, zero, suc, List, [], ◌∷◌, ◌++◌, pos, codes}
use Rattle.hy_terms.specs.Labelled.{Labelled, Int, Atom, Tuple, labels_of}
use Rattle.hy_terms.specs.declared.term.Colour.{Colour}
use Rattle.hy_terms.specs.declared.term.Colour.TheVariants.{Private, Shared}
use Rattle.hy_core.specs.declared.bif.Bif.TheVariants as b
use Rattle.hy_core.specs.declared.class.Class.{Class}
use Rattle.hy_core.specs.declared.class.Class.TheVariants.{Error}
use Rattle.hy_core.specs.declared.info.FunInfo.{FunInfo}
use Rattle.hy_core.specs.declared.info.SiteInfo.{SiteInfo}
use Rattle.hy_core.specs.declared.info.SiteKind.{SiteKind}
use Rattle.hy_core.specs.declared.info.SiteKind.TheVariants as kind
use Rattle.hy_core.specs.BuiltIn.{own_atoms}
use Rattle.hy_core.specs.Computation.{Input, Run, Values, Spent, dones}
use Rattle.hy_core.specs.Event.{Sent}
use Rattle.hy_ir.specs.Acts.{Act, Called, Has, Own, Area, Happens, calls_in, private_in, area_in}
use Rattle.hy_ir.specs.Acts.{copied_in}
use Rattle.hy_ir.specs.Code.{NoArms, MoreArms, Choose, Code, Do, Function, Give, Last}
use Rattle.hy_ir.specs.Code.{MakeTree, NoParts, MoreParts, Parts, Raise, Tail, Tree}
use Rattle.hy_ir.specs.Meaning.{Wait, meaning}
use Rattle.hy_ir.specs.declared.code.Constant.TheVariants as constant
use Rattle.hy_ir.specs.declared.code.Guard.{Guard}
use Rattle.hy_ir.specs.declared.code.Op.{Op}
use Rattle.hy_ir.specs.declared.code.Op.TheVariants as op
use Rattle.hy_ir.specs.declared.code.Test.TheVariants as test

-- how codes are written here

abbrev pub operations : List Op → Parts
operations [] = NoParts
operations (o ∷ os) = MoreParts (Do o) (operations os)

abbrev pub steps : List Op → Last → Tree
steps os end = MakeTree (operations os) end

abbrev pub function : (params registers : ℕ) → Tree → Function
function params registers body = record { params = params; registers = registers; body = body }

abbrev pub number : (out : ℕ) → ℕ → Op
number out n = op.Const out (constant.Int (pos n))

abbrev pub atom : (out : ℕ) → ℕ → Op
atom out a = op.Const out (constant.Atom a)

-- the guard 'true'
abbrev pub always : (register : ℕ) → Guard
always register = record { operations = atom register 0 ∷ []; register = register }

abbrev pub site : (of_function node : ℕ) → SiteKind → SiteInfo
site f node built = record { function = f; node = node; kind = built }

abbrev pub info : (of_module name arity : ℕ) → FunInfo
info m name arity = record { «module» = m; name = record { name = name; arity = arity } }

-- the functions that each program has; the first of them has this number, and the first of their
-- sites that one

abbrev join : (number site : ℕ) → Function
join f s =
    function 2 11
    (steps [] (Choose
    (MoreArms (test.IsNil 0 ∷ []) (always 2) (steps [] (Give (1 ∷ [])))
    (MoreArms (test.IsCons 0 3 4 ∷ []) (always 5)
    (steps (op.Call 6 f (4 ∷ 1 ∷ []) ∷ op.Build s 7 (3 ∷ 6 ∷ []) ∷ []) (Give (7 ∷ [])))
    (MoreArms (test.Bind 8 0 ∷ []) (always 9) (steps (atom 10 3 ∷ []) (Raise Error 10)) NoArms)))))

abbrev reverse_onto : (number site : ℕ) → Function
reverse_onto f s =
    function 2 10
    (steps [] (Choose
    (MoreArms (test.IsNil 0 ∷ []) (always 2) (steps [] (Give (1 ∷ [])))
    (MoreArms (test.IsCons 0 3 4 ∷ []) (always 5)
    (steps (op.Build s 6 (3 ∷ 1 ∷ []) ∷ []) (Tail f (4 ∷ 6 ∷ [])))
    (MoreArms (test.Bind 7 0 ∷ []) (always 8) (steps (atom 9 3 ∷ []) (Raise Error 9)) NoArms)))))

abbrev pub prelude_functions : (number site : ℕ) → List Function
prelude_functions f s =
    join f s
    ∷ function 1 2
    (steps (op.Const 1 constant.Nil ∷ []) (Tail (suc (suc f)) (0 ∷ 1 ∷ [])))
    ∷ reverse_onto (suc (suc f)) (suc s)
    ∷ function 2 2 (steps [] (Tail f (0 ∷ 1 ∷ []))) ∷ []

abbrev pub prelude_sites : (number : ℕ) → List SiteInfo
prelude_sites f = site f 9 kind.Cons ∷ site (suc (suc f)) 12 kind.Cons ∷ []

-- what is said of a code

abbrev pub everywhere : Colour → ℕ → Colour
everywhere colour s = colour

-- the function 0 in process 0, with so many calls and these inputs
abbrev pub run : Code → (ℕ → Colour) → (calls : ℕ) → List (Input Labelled)
    → Run Labelled Class Act Wait
run code place calls inputs = meaning code place 0 0 [] calls inputs

abbrev pub acts : Code → (ℕ → Colour) → (calls : ℕ) → List (Input Labelled) → List Act
acts code place calls inputs = dones (run code place calls inputs).moments

-- the acts have so many calls, words of the private heap, of the area, and copied ones
pub record AddUp (done : List Act) (calls own area copied : ℕ) : Type 0 where
  pub calls_are : calls_in done ≡ calls
  pub own_are : private_in done ≡ own
  pub area_are : area_in done ≡ area
  pub copied_are : copied_in done ≡ copied

-- A state goes round and is then sent:
--   'main'/0 = fun () -> apply 'loop'/2(3,{'s',0})
--   'loop'/2 = fun (N,S) -> case N of
--     <0> when 'true' -> do erlang:!(erlang:self(),S) S
--     <X> when 'true' -> apply 'loop'/2(erlang:-(N,1),{'s',N}) end

-- 7 'm', 8 'main', 9 'loop', 10 's', 11 'erlang', 12 '!', 13 'self', 14 '-', 15 '++', 16 'error',
-- 17 'lists', 18 'reverse', 19 'append'
abbrev pub loop_atoms : List (List ℕ)
loop_atoms =
    own_atoms
    ++ codes "m" ∷ codes "main" ∷ codes "loop" ∷ codes "s" ∷ codes "erlang" ∷ codes "!"
    ∷ codes "self" ∷ codes "-" ∷ codes "++" ∷ codes "error" ∷ codes "lists" ∷ codes "reverse"
    ∷ codes "append" ∷ []

abbrev pub loop_names : List FunInfo
loop_names =
    info 7 8 0 ∷ info 7 9 2 ∷ info 11 15 2 ∷ info 17 18 1 ∷ info 17 18 2 ∷ info 17 19 2 ∷ []

-- apply 'loop'/2(n,{'s',0})
abbrev pub loop_main : (n : ℕ) → Function
loop_main n =
    function 0 4
    (steps (number 0 n ∷ atom 1 10 ∷ number 2 0 ∷ op.Build 0 3 (1 ∷ 2 ∷ []) ∷ [])
    (Tail 1 (0 ∷ 3 ∷ [])))

-- N is in register 0, and S in register 1
abbrev pub loop : Function
loop =
    function 2 11
    (steps [] (Choose
    (MoreArms (test.IsInt 0 (pos 0) ∷ []) (always 2)
    (steps (op.Bif 3 b.SelfPid [] ∷ op.Send 5 4 3 1 ∷ []) (Give (1 ∷ [])))
    (MoreArms (test.Bind 5 0 ∷ []) (always 6)
    (steps
    (number 7 1 ∷ op.Bif 8 b.Sub (0 ∷ 7 ∷ []) ∷ atom 9 10 ∷ op.Build 1 10 (9 ∷ 0 ∷ []) ∷ [])
    (Tail 1 (8 ∷ 10 ∷ []))) NoArms))))

abbrev pub loop_code : Code
loop_code = record {
  functions = loop_main 3 ∷ loop ∷ prelude_functions 2 2;
  sites = site 0 3 kind.Tuple ∷ site 1 22 kind.Tuple ∷ prelude_sites 2;
  names = loop_names;
  atoms = loop_atoms;
}

-- the tuple of the main function is sent and does not go round; that of the loop does both
abbrev pub only_first : ℕ → Colour
only_first zero = Shared
only_first _ = Private

abbrev pub first_two : ℕ → Colour
first_two zero = Shared
first_two (suc zero) = Shared
first_two _ = Private

-- {'s',1}
abbrev pub state : (of_site : ℕ) → Colour → Labelled
state s colour = Tuple s colour (labels_of (Atom 10 ∷ Int (pos 1) ∷ []))

-- its one private tuple is copied when it is sent; the words of the send stand before it
abbrev pub loop_acts : List Act
loop_acts =
    Has (Area 3 0) ∷ Called ∷ Has (Own 3) ∷ Called ∷ Has (Own 3) ∷ Called ∷ Has (Own 3) ∷ Called
    ∷ Has (Area 7 3) ∷ Has (Happens (Sent 0 (state 1 Shared))) ∷ []

pub record LoopGoesRound : Type 0 where
  pub by_private : AddUp (acts loop_code (everywhere Private) 10 []) 4 12 7 3
  pub by_message : AddUp (acts loop_code only_first 10 []) 4 9 10 3
  pub by_sent : AddUp (acts loop_code first_two 10 []) 4 0 16 0
  pub by_shared : AddUp (acts loop_code (everywhere Shared) 10 []) 4 0 16 0
  pub in_order : acts loop_code only_first 10 [] ≡ loop_acts
  pub value : (run loop_code only_first 10 []).end ≡ Values (state 1 Private ∷ [])
  pub shared_value : (run loop_code first_two 10 []).end ≡ Values (state 1 Shared ∷ [])
  pub just_enough : (run loop_code only_first 4 []).calls ≡ 0
  pub too_few : (run loop_code only_first 3 []).end ≡ Spent

-- A tuple is sent twice:
--   'main'/0 = fun () -> let <T> = {'a',1}
--     in do erlang:!(erlang:self(),T) erlang:!(erlang:self(),T)

-- 7 'm', 8 'main', 9 'a', 10 'erlang', 11 '!', 12 'self', 13 '++', 14 'error', 15 'lists',
-- 16 'reverse', 17 'append'
abbrev pub twice_atoms : List (List ℕ)
twice_atoms =
    own_atoms
    ++ codes "m" ∷ codes "main" ∷ codes "a" ∷ codes "erlang" ∷ codes "!" ∷ codes "self"
    ∷ codes "++" ∷ codes "error" ∷ codes "lists" ∷ codes "reverse" ∷ codes "append" ∷ []

abbrev pub twice_main : Function
twice_main =
    function 0 7
    (steps
    (atom 0 9 ∷ number 1 1 ∷ op.Build 0 2 (0 ∷ 1 ∷ []) ∷ op.Bif 3 b.SelfPid [] ∷ op.Send 5 4 3 2
    ∷ op.Bif 5 b.SelfPid [] ∷ op.Send 12 6 5 2 ∷ []) (Give (6 ∷ [])))

abbrev pub twice_code : Code
twice_code = record {
  functions = twice_main ∷ prelude_functions 1 1;
  sites = site 0 1 kind.Tuple ∷ prelude_sites 1;
  names =
      info 7 8 0 ∷ info 10 13 2 ∷ info 15 16 1 ∷ info 15 16 2 ∷ info 15 17 2 ∷ [];
  atoms = twice_atoms;
}

pub record TupleIsSentTwice : Type 0 where
  pub by_private : AddUp (acts twice_code (everywhere Private) 10 []) 0 3 14 6
  pub by_message : AddUp (acts twice_code only_first 10 []) 0 0 11 0
  pub by_shared : AddUp (acts twice_code (everywhere Shared) 10 []) 0 0 11 0
  -- a register keeps what it held when a shared copy is sent
  pub value : (run twice_code (everywhere Private) 10 []).end
      ≡ Values (Tuple 0 Private (labels_of (Atom 9 ∷ Int (pos 1) ∷ [])) ∷ [])

-- A state goes round, and is then sent in a box:
--   'main'/0 = fun () -> apply 'loop'/2(1,{'s',0})
--   'loop'/2 = fun (N,S) -> case N of
--     <0> when 'true' -> let <B> = {'box',S} in do erlang:!(erlang:self(),B) S
--     <X> when 'true' -> apply 'loop'/2(erlang:-(N,1),{'s',N}) end

-- 7 'm', 8 'main', 9 'loop', 10 's', 11 'box', 12 'erlang', 13 '!', 14 'self', 15 '-', 16 '++',
-- 17 'error', 18 'lists', 19 'reverse', 20 'append'
abbrev pub box_atoms : List (List ℕ)
box_atoms =
    own_atoms
    ++ codes "m" ∷ codes "main" ∷ codes "loop" ∷ codes "s" ∷ codes "box" ∷ codes "erlang"
    ∷ codes "!" ∷ codes "self" ∷ codes "-" ∷ codes "++" ∷ codes "error" ∷ codes "lists"
    ∷ codes "reverse" ∷ codes "append" ∷ []

abbrev pub box_loop : Function
box_loop =
    function 2 13
    (steps [] (Choose
    (MoreArms (test.IsInt 0 (pos 0) ∷ []) (always 2)
    (steps
    (atom 3 11 ∷ op.Build 1 4 (3 ∷ 1 ∷ []) ∷ op.Bif 5 b.SelfPid [] ∷ op.Send 9 6 5 4 ∷ [])
    (Give (1 ∷ [])))
    (MoreArms (test.Bind 7 0 ∷ []) (always 8)
    (steps
    (number 9 1 ∷ op.Bif 10 b.Sub (0 ∷ 9 ∷ []) ∷ atom 11 10 ∷ op.Build 2 12 (11 ∷ 0 ∷ []) ∷ [])
    (Tail 1 (10 ∷ 12 ∷ []))) NoArms))))

abbrev pub box_code : Code
box_code = record {
  functions = loop_main 1 ∷ box_loop ∷ prelude_functions 2 3;
  sites =
      site 0 3 kind.Tuple ∷ site 1 5 kind.Tuple ∷ site 1 26 kind.Tuple ∷ prelude_sites 2;
  names =
      info 7 8 0 ∷ info 7 9 2 ∷ info 12 16 2 ∷ info 18 19 1 ∷ info 18 19 2 ∷ info 18 20 2 ∷ [];
  atoms = box_atoms;
}

-- the state alone is copied, as the box is built, and the register keeps the private one
pub record StateIsBoxed : Type 0 where
  pub by_message : AddUp (acts box_code first_two 10 []) 2 3 13 3
  pub by_private : AddUp (acts box_code (everywhere Private) 10 []) 2 9 10 6
  pub by_shared : AddUp (acts box_code (everywhere Shared) 10 []) 2 0 13 0
  pub value : (run box_code first_two 10 []).end ≡ Values (state 2 Private ∷ [])

-- the three programs
pub record WorkedCodes : Type 0 where
  pub goes_round : LoopGoesRound
  pub sent_twice : TupleIsSentTwice
  pub boxed : StateIsBoxed
