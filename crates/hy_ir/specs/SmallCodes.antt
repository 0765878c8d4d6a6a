-- Codes of a few operations, one for each form, and what they do.
use Rattle.std.specs.Prelude.{◌≡◌, ℕ, zero, suc, List, [], ◌∷◌, pos, codes}
use Rattle.hy_terms.specs.Labelled.{Labelled, Int, Atom, Pid, Nil, Cons, Tuple, labels_of}
use Rattle.hy_terms.specs.declared.term.Colour.{Colour}
use Rattle.hy_terms.specs.declared.term.Colour.TheVariants.{Private, Shared}
use Rattle.hy_core.specs.declared.bif.Bif.TheVariants as b
use Rattle.hy_core.specs.declared.class.Class.{Class}
use Rattle.hy_core.specs.declared.class.Class.TheVariants.{Error, Throw}
use Rattle.hy_core.specs.declared.info.SiteInfo.{SiteInfo}
use Rattle.hy_core.specs.declared.info.SiteKind.TheVariants as kind
use Rattle.hy_core.specs.BuiltIn.{own_atoms}
use Rattle.hy_core.specs.Computation.{Input, Got, Lapsed, Born, Outcome, Values, Raised, Needs}
use Rattle.hy_core.specs.Computation.{NeedsPid, Wrong}
use Rattle.hy_core.specs.Event.{Spawned, Printed}
use Rattle.hy_core.specs.Resolved.{AtOnce}
use Rattle.hy_ir.specs.Acts.{Act, Has, Own, Area, Happens}
use Rattle.hy_ir.specs.Code.{Arms, NoArms, MoreArms, Choose, Code, Do, Fail, Give, Lapse}
use Rattle.hy_ir.specs.Code.{NoLapse, LapseTo, Last, MakeTree, NoParts, MoreParts, Raise, Receive}
use Rattle.hy_ir.specs.Code.{Tree, Within}
use Rattle.hy_ir.specs.Meaning.{Wait}
use Rattle.hy_ir.specs.Registers.{entering}
use Rattle.hy_ir.specs.WorkedCodes.{acts, always, atom, everywhere, function, number, run, site}
use Rattle.hy_ir.specs.WorkedCodes.{steps}
use Rattle.hy_ir.specs.declared.code.Constant.TheVariants as constant
use Rattle.hy_ir.specs.declared.code.Guard.{Guard}
use Rattle.hy_ir.specs.declared.code.Op.TheVariants as op
use Rattle.hy_ir.specs.declared.code.Test.TheVariants as test

-- a code of one function without parameters
abbrev pub alone : List SiteInfo → Tree → Code
alone sites body =
    record { functions = function 0 20 body ∷ []; sites = sites; names = []; atoms = own_atoms }

abbrev end : Code → (ℕ → Colour) → List (Input Labelled) → Outcome Labelled Class Wait
end code place inputs = (run code place 10 inputs).end

abbrev private_acts : Code → List Act
private_acts code = acts code (everywhere Private) 10 []

abbrev shared_acts : Code → List Act
shared_acts code = acts code (everywhere Shared) 10 []

abbrev private_end : Code → Outcome Labelled Class Wait
private_end code = end code (everywhere Private) []

abbrev shared_end : Code → Outcome Labelled Class Wait
shared_end code = end code (everywhere Shared) []

-- the site 2 alone is shared
abbrev pub only_third : ℕ → Colour
only_third (suc (suc zero)) = Shared
only_third _ = Private

abbrev pair : Labelled → Labelled → List Labelled
pair t u = t ∷ u ∷ []

abbrev one : Labelled
one = Int (pos 1)

-- a register that nothing has written holds nil
abbrev pub unwritten : Code
unwritten = alone [] (steps [] (Give (7 ∷ [])))

-- parts of what was built keep their labels: {[1],1}, its first element, and of that hd, tl and
-- length
abbrev pub parts_code : Code
parts_code =
    alone (site 0 0 kind.Cons ∷ site 0 1 kind.Tuple ∷ site 0 2 kind.Tuple ∷ [])
    (steps
    (number 0 1 ∷ op.Const 1 constant.Nil ∷ op.Build 0 2 (0 ∷ 1 ∷ []) ∷ op.Build 1 3 (2 ∷ 0 ∷ [])
    ∷ op.Bif 4 b.Element (0 ∷ 3 ∷ []) ∷ op.Bif 5 b.Hd (4 ∷ []) ∷ op.Bif 6 b.Tl (4 ∷ [])
    ∷ op.Bif 7 b.Length (4 ∷ []) ∷ op.Build 2 8 (4 ∷ 5 ∷ 6 ∷ 7 ∷ []) ∷ []) (Give (8 ∷ [])))

abbrev the_parts : Colour → Colour → Labelled
the_parts whole part = Tuple 2 whole (labels_of (Cons 0 part one Nil ∷ one ∷ Nil ∷ one ∷ []))

pub record PartsKeepLabels : Type 0 where
  pub private_value : private_end parts_code ≡ Values (the_parts Private Private ∷ [])
  pub private_words : private_acts parts_code ≡ Has (Own 3) ∷ Has (Own 3) ∷ Has (Own 5) ∷ []
  pub copied_value : end parts_code only_third [] ≡ Values (the_parts Shared Shared ∷ [])
  pub copied_words : acts parts_code only_third 10 []
      ≡ Has (Own 3) ∷ Has (Own 3) ∷ Has (Area 8 3) ∷ []

-- a string is one act
abbrev pub text_code : Code
text_code =
    alone (site 0 0 kind.String ∷ []) (steps (op.Text 0 0 (codes "ab") ∷ []) (Give (0 ∷ [])))

abbrev ab : Colour → Labelled
ab colour = Cons 0 colour (Int (pos 97)) (Cons 0 colour (Int (pos 98)) Nil)

pub record TextIsOneAct : Type 0 where
  pub private_value : private_end text_code ≡ Values (ab Private ∷ [])
  pub private_words : private_acts text_code ≡ Has (Own 6) ∷ []
  pub shared_value : shared_end text_code ≡ Values (ab Shared ∷ [])
  pub shared_words : shared_acts text_code ≡ Has (Area 6 0) ∷ []

-- setelement(index, {{},{}}, {1})
abbrev pub set_code : (index : ℕ) → Code
set_code index =
    alone (site 0 0 kind.Tuple ∷ site 0 1 kind.Tuple ∷ site 0 2 kind.Setelement ∷ [])
    (steps
    (op.Build 0 0 [] ∷ op.Build 1 1 (0 ∷ 0 ∷ []) ∷ number 2 1 ∷ op.Build 0 3 (2 ∷ [])
    ∷ number 4 index ∷ op.Set 2 5 4 1 3 ∷ []) (Give (5 ∷ [])))

abbrev set_value : Colour → Labelled
set_value colour =
    Tuple 2 colour
    (labels_of (pair (Tuple 0 colour (labels_of [])) (Tuple 0 colour (labels_of (one ∷ [])))))

-- the kept parts and the value are copied, and the replaced part is not
pub record SetelementCopies : Type 0 where
  pub private_value : private_end (set_code 2) ≡ Values (set_value Private ∷ [])
  pub private_words : private_acts (set_code 2)
      ≡ Has (Own 1) ∷ Has (Own 3) ∷ Has (Own 2) ∷ Has (Own 3) ∷ []
  pub shared_value : end (set_code 2) only_third [] ≡ Values (set_value Shared ∷ [])
  pub shared_words : acts (set_code 2) only_third 10 []
      ≡ Has (Own 1) ∷ Has (Own 3) ∷ Has (Own 2) ∷ Has (Area 6 3) ∷ []
  pub outside : end (set_code 3) only_third [] ≡ Raised Error (Atom 3)
  pub outside_words : acts (set_code 3) only_third 10 []
      ≡ Has (Own 1) ∷ Has (Own 3) ∷ Has (Own 2) ∷ []

-- a spawn of function 1 with {} and 5
abbrev pub spawn_code : Code
spawn_code =
    alone (site 0 0 kind.Tuple ∷ [])
    (steps (op.Build 0 0 [] ∷ number 1 5 ∷ op.Spawn 4 2 1 (0 ∷ 1 ∷ []) ∷ []) (Give (2 ∷ [])))

abbrev spawn_acts : List Act
spawn_acts =
    Has (Own 1) ∷ Has (Area 6 1)
    ∷ Has (Happens (Spawned 1 (pair (Tuple 0 Shared (labels_of [])) (Int (pos 5))))) ∷ []

-- it waits for the pid of its child behind its event
pub record SpawnWaitsForPid : Type 0 where
  pub born : end spawn_code (everywhere Private) (Born 9 ∷ []) ≡ Values (Pid 9 ∷ [])
  pub born_acts : acts spawn_code (everywhere Private) 10 (Born 9 ∷ []) ≡ spawn_acts
  pub waits : private_end spawn_code ≡ NeedsPid
  pub waits_behind : private_acts spawn_code ≡ spawn_acts

-- display({1}), and then a throw of it
abbrev pub show_code : Last → Code
show_code last =
    alone (site 0 0 kind.Tuple ∷ [])
    (steps (number 0 1 ∷ op.Build 0 1 (0 ∷ []) ∷ op.Show 2 1 ∷ []) last)

abbrev shown_acts : List Act
shown_acts =
    Has (Own 2) ∷ Has (Area 3 0)
    ∷ Has (Happens (Printed (Tuple 0 Private (labels_of (one ∷ []))))) ∷ []

-- what is raised takes back nothing that was done
pub record ShowsAndRaises : Type 0 where
  pub shown : private_end (show_code (Give (2 ∷ []))) ≡ Values (Atom 0 ∷ [])
  pub shown_words : private_acts (show_code (Give (2 ∷ []))) ≡ shown_acts
  pub raised : private_end (show_code (Raise Throw 1))
      ≡ Raised Throw (Tuple 0 Private (labels_of (one ∷ [])))
  pub raised_words : private_acts (show_code (Raise Throw 1)) ≡ shown_acts

-- match_fail of {a,1}
abbrev pub fail_code : (a : ℕ) → Code
fail_code a =
    alone (site 0 0 kind.Tuple ∷ [])
    (steps (atom 0 a ∷ number 1 1 ∷ op.Build 0 2 (0 ∷ 1 ∷ []) ∷ []) (Fail 2))

pub record FailReadsReason : Type 0 where
  pub function_clause : private_end (fail_code 6) ≡ Raised Error (Atom 6)
  pub other : private_end (fail_code 5)
      ≡ Raised Error (Tuple 0 Private (labels_of (pair (Atom 5) one)))

-- a message to no pid raises, and is no act
abbrev pub send_code : Code
send_code = alone [] (steps (atom 0 5 ∷ op.Send 0 1 0 0 ∷ []) (Give (1 ∷ [])))

pub record SendNeedsPid : Type 0 where
  pub raised : private_end send_code ≡ Raised Error (Atom 3)
  pub no_act : private_acts send_code ≡ []

-- receive <1> when 'true' -> 1 after 0 -> 'false', or without a timeout
abbrev pub receive_arms : Arms
receive_arms = MoreArms (test.IsInt 0 (pos 1) ∷ []) (always 1) (steps [] (Give (0 ∷ []))) NoArms

abbrev pub receive_code : Lapse → Code
receive_code lapse = alone [] (steps [] (Receive 0 receive_arms lapse))

abbrev pub polls : Code
polls = receive_code (LapseTo (steps (atom 2 1 ∷ []) (Give (2 ∷ []))))

abbrev pub waits : Code
waits = receive_code NoLapse

abbrev received : Code → List (Input Labelled) → Outcome Labelled Class Wait
received code inputs = end code (everywhere Private) inputs

abbrev polls_wait : Wait
polls_wait =
    record { registers = entering []; message = 0; arms = receive_arms; timeout = AtOnce }

pub record ReceiveUsesAnInput : Type 0 where
  pub needs : received polls [] ≡ Needs polls_wait
  pub taken : received polls (Got one ∷ []) ≡ Values (one ∷ [])
  pub lapsed : received polls (Lapsed ∷ []) ≡ Values (Atom 1 ∷ [])
  pub not_accepted : received polls (Got Nil ∷ []) ≡ Wrong
  pub never_lapses : received waits (Lapsed ∷ []) ≡ Wrong
  pub left : (run polls (everywhere Private) 10 (Got one ∷ Lapsed ∷ [])).inputs ≡ Lapsed ∷ []

-- an arm whose second test fails, one whose guard raises, one whose guard gives 'false', and one
-- that accepts
abbrev raising_guard : Guard
raising_guard = record { operations = op.Bif 5 b.Hd (0 ∷ []) ∷ atom 4 0 ∷ []; register = 4 }

abbrev false_guard : Guard
false_guard = record { operations = atom 6 1 ∷ []; register = 6 }

abbrev pub choose_arms : Arms
choose_arms =
    MoreArms (test.Bind 1 0 ∷ test.IsInt 0 (pos 2) ∷ []) (always 2) (steps [] (Give (0 ∷ [])))
    (MoreArms (test.Bind 3 0 ∷ []) raising_guard (steps [] (Give (0 ∷ [])))
    (MoreArms (test.Bind 3 0 ∷ []) false_guard (steps [] (Give (0 ∷ [])))
    (MoreArms (test.Bind 7 0 ∷ []) (always 8)
    (steps (op.Build 0 9 (1 ∷ 3 ∷ 6 ∷ 7 ∷ []) ∷ []) (Give (9 ∷ []))) NoArms)))

abbrev pub choose_code : Code
choose_code =
    alone (site 0 0 kind.Tuple ∷ []) (steps (number 0 1 ∷ []) (Choose choose_arms))

-- arms that do not accept leave nothing in a register
pub record ArmsThatFailWriteNothing : Type 0 where
  pub value : private_end choose_code
      ≡ Values (Tuple 0 Private (labels_of (Nil ∷ Nil ∷ Nil ∷ one ∷ [])) ∷ [])
  pub none : private_end (alone [] (steps [] (Choose NoArms))) ≡ Raised Error (Atom 5)

-- an inner tree that gives two values, or raises, and a print behind it
abbrev pub within_code : Last → Code
within_code last =
    alone []
    (MakeTree
    (MoreParts (Do (number 0 1)) (MoreParts (Within (2 ∷ 1 ∷ []) (steps (atom 3 5 ∷ []) last))
    (MoreParts (Do (op.Show 4 1)) NoParts)))
    (Give (2 ∷ [])))

pub record InnerTreesGiveValues : Type 0 where
  pub value : private_end (within_code (Give (0 ∷ 3 ∷ []))) ≡ Values (one ∷ [])
  pub value_acts : private_acts (within_code (Give (0 ∷ 3 ∷ [])))
      ≡ Has (Area 3 0) ∷ Has (Happens (Printed (Atom 5))) ∷ []
  pub raised : private_end (within_code (Raise Throw 3)) ≡ Raised Throw (Atom 5)
  pub raised_acts : private_acts (within_code (Raise Throw 3)) ≡ []

-- all of them
pub record SmallCodes : Type 0 where
  pub nil : private_end unwritten ≡ Values (Nil ∷ [])
  pub parts : PartsKeepLabels
  pub text : TextIsOneAct
  pub set : SetelementCopies
  pub spawn : SpawnWaitsForPid
  pub show : ShowsAndRaises
  pub fail : FailReadsReason
  pub send : SendNeedsPid
  pub receive : ReceiveUsesAnInput
  pub choose : ArmsThatFailWriteNothing
  pub inner : InnerTreesGiveValues
