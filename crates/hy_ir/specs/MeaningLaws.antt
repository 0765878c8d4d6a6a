-- What code trees mean, form by form: what is done first, and what is left. Each law is the clause
-- of a function in the module `laws`.
use Rattle.std.specs.Prelude.{◌≡◌, ℕ, zero, suc, ◌+◌, ◌*◌, List, [], ◌∷◌, ◌++◌, length, map}
use Rattle.std.specs.Prelude.{Some, None, slice_get}
use Rattle.hy_terms.specs.Labelled as l
use Rattle.hy_terms.specs.Labelled.{Labelled, labels_of, shared, private_words}
use Rattle.hy_terms.specs.declared.term.Colour.{Colour}
use Rattle.hy_terms.specs.declared.term.Colour.TheVariants.{Private, Shared}
use Rattle.hy_core.specs.declared.bif.Bif.{Bif}
use Rattle.hy_core.specs.declared.class.Class.{Class}
use Rattle.hy_core.specs.declared.class.Class.TheVariants.{Error}
use Rattle.hy_core.specs.declared.info.SiteKind.TheVariants as kind
use Rattle.hy_core.specs.Computation.{attempt, Birth, Born, dones, Give, Got, Input, Lapsed}
use Rattle.hy_core.specs.Computation.{Moment, Did, Used, Needs, NeedsPid, Run, Spent, StandsBefore}
use Rattle.hy_core.specs.Computation.{Values, Wrong, after, stop, uses}
use Rattle.hy_core.specs.Computation as doing
use Rattle.hy_core.specs.Evaluation.{is_some}
use Rattle.hy_core.specs.Event.{Sent, Spawned, Printed}
use Rattle.hy_ir.specs.Accepting.{accept_some, accepted, constant_value}
use Rattle.hy_ir.specs.Acts.{Act, Called, Effect, Has, Own, Area, Happens}
use Rattle.hy_ir.specs.Code as c
use Rattle.hy_ir.specs.Code.{Arms, NoArms, MoreArms, Code, Function, Lapse, NoLapse, LapseTo, Last}
use Rattle.hy_ir.specs.Code.{Part, Parts, NoParts, MoreParts, Tree, MakeTree}
use Rattle.hy_ir.specs.LabelledBuiltIns.{labelled_answer, Value, Raises, badarg, no_clause}
use Rattle.hy_ir.specs.LabelledBuiltIns.{fail_reason, with_element}
use Rattle.hy_ir.specs.Meaning.{arms, body_of, copied_words, Doing, kind_at, one_to, part}
use Rattle.hy_ir.specs.Meaning.{run_of, text_list, timeout_of, tree, Wait}
use Rattle.hy_ir.specs.Registers.{Registers, entering, set, gets, sets}
use Rattle.hy_ir.specs.declared.code.Constant.{Constant}
use Rattle.hy_ir.specs.declared.code.Guard.{Guard}
use Rattle.hy_ir.specs.declared.code.Op.{Op}
use Rattle.hy_ir.specs.declared.code.Op.TheVariants as op
use Rattle.hy_ir.specs.declared.code.Test.{Test}

abbrev pub Ran : Type 0
Ran = Run Labelled Class Act Wait

-- an effect happens first
abbrev pub done_first : Effect → Ran → Ran
done_first effect r = after (Did (Has effect)) r

-- what follows a tree: k its values, h what it raises
pub record Follows : Type 0 where
  pub values : List Labelled → Registers → Doing
  pub raised : Class → Labelled → Registers → Doing

module _ (code : Code) (place : ℕ → Colour) (pid : ℕ) (follows : Follows) where
  -- a tree, a raise, and an operation with more behind it, with so many calls and these inputs
  abbrev does : ℕ → List (Input Labelled) → Tree → Registers → Ran
  does calls inputs t regs =
      run_of code place pid calls (tree code place pid t regs follows.values follows.raised) inputs

  abbrev raises : ℕ → List (Input Labelled) → Class → Labelled → Registers → Ran
  raises calls inputs class reason regs =
      run_of code place pid calls (follows.raised class reason regs) inputs

  abbrev ends : ℕ → List (Input Labelled) → Last → Registers → Ran
  ends calls inputs end regs = does calls inputs (MakeTree NoParts end) regs

  module _ (calls : ℕ) (inputs : List (Input Labelled)) (regs : Registers) where
    -- parts in order, and then the last part
    module _ (ps : Parts) (end : Last) where
      abbrev first : Op → Ran
      first o = does calls inputs (MakeTree (MoreParts (c.Do o) ps) end) regs

      -- what is left, with a value in a register
      abbrev rest : (out : ℕ) → Labelled → Ran
      rest out t = does calls inputs (MakeTree ps end) (set out t regs)

      -- constants and moves do nothing that is seen
      pub record ValuesMove : Type 0 where
        pub const : (out : ℕ) (value : Constant)
            → first (op.Const out value) ≡ rest out (constant_value value)
        pub move : (out from : ℕ) → first (op.Move out from) ≡ rest out (regs from)

      -- a tuple takes a word for each part and one more, and a cons three: of the private heap, or
      -- of the area, where its parts are copied
      pub record CellsAreBuilt : Type 0 where
        pub private_tuple : (site out : ℕ) (args : List ℕ)
            → kind_at code.sites site ≡ Some kind.Tuple → place site ≡ Private
            → first (op.Build site out args)
            ≡ done_first (Own (length args + 1))
            (rest out (l.Tuple site Private (labels_of (gets args regs))))
        pub shared_tuple : (site out : ℕ) (args : List ℕ)
            → kind_at code.sites site ≡ Some kind.Tuple → place site ≡ Shared
            → first (op.Build site out args)
            ≡ done_first
            (Area (length args + 1 + copied_words (gets args regs)) (copied_words (gets args regs)))
            (rest out (l.Tuple site Shared (labels_of (map shared (gets args regs)))))
        pub private_cons : (site out head tail : ℕ)
            → kind_at code.sites site ≡ Some kind.Cons → place site ≡ Private
            → first (op.Build site out (head ∷ tail ∷ []))
            ≡ done_first (Own 3) (rest out (l.Cons site Private (regs head) (regs tail)))
        pub shared_cons : (site out head tail : ℕ)
            → kind_at code.sites site ≡ Some kind.Cons → place site ≡ Shared
            → first (op.Build site out (head ∷ tail ∷ []))
            ≡ done_first
            (Area (3 + copied_words (regs head ∷ regs tail ∷ []))
            (copied_words (regs head ∷ regs tail ∷ [])))
            (rest out (l.Cons site Shared (shared (regs head)) (shared (regs tail))))
        pub private_text : (site out : ℕ) (bytes : List ℕ) → place site ≡ Private
            → first (op.Text site out bytes)
            ≡ done_first (Own (3 * length bytes)) (rest out (text_list site Private bytes))
        pub shared_text : (site out : ℕ) (bytes : List ℕ) → place site ≡ Shared
            → first (op.Text site out bytes)
            ≡ done_first (Area (3 * length bytes) 0) (rest out (text_list site Shared bytes))

      -- setelement is a tuple of the new parts, or raises without an act
      pub record SetelementBuilds : Type 0 where
        pub private_tuple : (site out index tuple value : ℕ) (ts : List Labelled)
            → with_element (regs index) (regs tuple) (regs value) ≡ Some ts
            → place site ≡ Private
            → first (op.Set site out index tuple value)
            ≡ done_first (Own (length ts + 1)) (rest out (l.Tuple site Private (labels_of ts)))
        pub shared_tuple : (site out index tuple value : ℕ) (ts : List Labelled)
            → with_element (regs index) (regs tuple) (regs value) ≡ Some ts
            → place site ≡ Shared
            → first (op.Set site out index tuple value)
            ≡ done_first (Area (length ts + 1 + copied_words ts) (copied_words ts))
            (rest out (l.Tuple site Shared (labels_of (map shared ts))))
        pub outside : (site out index tuple value : ℕ)
            → with_element (regs index) (regs tuple) (regs value) ≡ None
            → first (op.Set site out index tuple value) ≡ raises calls inputs Error badarg regs

      -- a built-in gives its value, or raises
      pub record BuiltInsAnswer : Type 0 where
        pub gives : (out : ℕ) (bif : Bif) (args : List ℕ) (t : Labelled)
            → labelled_answer code.atoms pid bif (gets args regs) ≡ Value t
            → first (op.Bif out bif args) ≡ rest out t
        pub raised : (out : ℕ) (bif : Bif) (args : List ℕ) (class : Class) (t : Labelled)
            → labelled_answer code.atoms pid bif (gets args regs) ≡ Raises class t
            → first (op.Bif out bif args) ≡ raises calls inputs class t regs

      -- the words of an event stand directly before it: a send and a spawn carry shared copies, and
      -- the registers keep what they held
      pub record EventsHappen : Type 0 where
        pub send : (node out to message target : ℕ) → regs to ≡ l.Pid target
            → first (op.Send node out to message)
            ≡ done_first (Area (4 + private_words (regs message)) (private_words (regs message)))
            (done_first (Happens (Sent target (shared (regs message)))) (rest out (regs message)))
        pub send_to_none : (node out to message : ℕ)
            → ((target : ℕ) → regs to ≡ l.Pid target → ⊥)
            → first (op.Send node out to message) ≡ raises calls inputs Error badarg regs
        pub show : (out value : ℕ)
            → first (op.Show out value)
            ≡ done_first (Area 3 0)
            (done_first (Happens (Printed (regs value))) (rest out (l.Atom 0)))

      -- an inner tree, and its values to registers
      abbrev pub InnerTreeFirst : Type 0
      InnerTreeFirst =
          (outs : List ℕ) (inner : Tree)
          → does calls inputs (MakeTree (MoreParts (c.Within outs inner) ps) end) regs
          ≡ run_of code place pid calls
          (tree code place pid inner regs
          (λ ts r. tree code place pid (MakeTree ps end) (sets outs ts r) follows.values
          follows.raised)
          follows.raised)
          inputs

      -- a spawn is an event, and then waits for the pid of the child
      pub record SpawnsWait : Type 0 where
        pub born : (node out function : ℕ) (args : List ℕ) (child : ℕ)
            → does calls (Born child ∷ inputs)
            (MakeTree (MoreParts (c.Do (op.Spawn node out function args)) ps) end) regs
            ≡ done_first
            (Area (3 + length args + copied_words (gets args regs)) (copied_words (gets args regs)))
            (done_first (Happens (Spawned function (map shared (gets args regs))))
            (after (Used (Born child)) (rest out (l.Pid child))))
        pub waits : (node out function : ℕ) (args : List ℕ)
            → does calls []
            (MakeTree (MoreParts (c.Do (op.Spawn node out function args)) ps) end) regs
            ≡ done_first
            (Area (3 + length args + copied_words (gets args regs)) (copied_words (gets args regs)))
            (done_first (Happens (Spawned function (map shared (gets args regs))))
            (stop calls [] NeedsPid))

      -- what follows a call gets its one value; what it raises is raised there
      abbrev called : (function : ℕ) → List Labelled → (Labelled → Doing) → Ran
      called function ts k =
          after (Did Called)
          (run_of code place pid calls
          (attempt (body_of code place pid function ts) (one_to k)
          (λ class reason. follows.raised class reason regs))
          inputs)

      -- a call costs one call, and there is an end where none is left
      pub record CallsCost : Type 0 where
        pub call : (out function : ℕ) (args : List ℕ)
            → does (suc calls) inputs
            (MakeTree (MoreParts (c.Do (op.Call out function args)) ps) end) regs
            ≡ called function (gets args regs)
            (λ t. tree code place pid (MakeTree ps end) (set out t regs) follows.values
            follows.raised)
        pub tail : (function : ℕ) (args : List ℕ)
            → ends (suc calls) inputs (c.Tail function args) regs
            ≡ called function (gets args regs) (λ t. follows.values (t ∷ []) regs)
        pub no_call : (out function : ℕ) (args : List ℕ)
            → does zero inputs
            (MakeTree (MoreParts (c.Do (op.Call out function args)) ps) end) regs
            ≡ stop zero inputs Spent
        pub no_tail : (function : ℕ) (args : List ℕ)
            → ends zero inputs (c.Tail function args) regs ≡ stop zero inputs Spent

    -- values are given, and what is raised is raised, with all that was done before
    pub record LastPartsEnd : Type 0 where
      pub give : (rs : List ℕ)
          → ends calls inputs (c.Give rs) regs
          ≡ run_of code place pid calls (follows.values (gets rs regs) regs) inputs
      pub raised : (class : Class) (reason : ℕ)
          → ends calls inputs (c.Raise class reason) regs
          ≡ raises calls inputs class (regs reason) regs
      pub fail : (reason : ℕ)
          → ends calls inputs (c.Fail reason) regs
          ≡ raises calls inputs Error (fail_reason (regs reason)) regs

    -- the first arm that accepts goes on, with the registers as its tests and its guard leave them
    pub record FirstArmGoesOn : Type 0 where
      pub none : ends calls inputs (c.Choose NoArms) regs
          ≡ raises calls inputs Error no_clause regs
      pub accepts : (tests : List Test) (guard : Guard) (body : Tree) (xs : Arms)
          (regs' : Registers) → accepted code.atoms pid tests guard regs ≡ Some regs'
          → ends calls inputs (c.Choose (MoreArms tests guard body xs)) regs
          ≡ does calls inputs body regs'
      pub others : (tests : List Test) (guard : Guard) (body : Tree) (xs : Arms)
          → accepted code.atoms pid tests guard regs ≡ None
          → ends calls inputs (c.Choose (MoreArms tests guard body xs)) regs
          ≡ ends calls inputs (c.Choose xs) regs

    -- what a receive waits for
    abbrev waits_for : (message : ℕ) → Arms → Lapse → Wait
    waits_for message xs lapse =
        record { registers = regs; message = message; arms = xs; timeout = timeout_of lapse }

    -- a receive uses one input: a message, for which the first arm that accepts goes on, or a lapse
    pub record ReceiveUsesInput : Type 0 where
      pub needs : (message : ℕ) (xs : Arms) (lapse : Lapse)
          → ends calls [] (c.Receive message xs lapse) regs
          ≡ stop calls [] (Needs (waits_for message xs lapse))
      pub none : (message : ℕ) (lapse : Lapse) (t : Labelled)
          → ends calls (Got t ∷ inputs) (c.Receive message NoArms lapse) regs
          ≡ after (Used (Got t)) (stop calls inputs Wrong)
      pub accepts : (message : ℕ) (lapse : Lapse) (t : Labelled) (tests : List Test)
          (guard : Guard) (body : Tree) (xs : Arms) (regs' : Registers)
          → accepted code.atoms pid tests guard (set message t regs) ≡ Some regs'
          → ends calls (Got t ∷ inputs)
          (c.Receive message (MoreArms tests guard body xs) lapse) regs
          ≡ after (Used (Got t)) (does calls inputs body regs')
      pub others : (message : ℕ) (lapse : Lapse) (t : Labelled) (tests : List Test)
          (guard : Guard) (body : Tree) (xs : Arms)
          → accepted code.atoms pid tests guard (set message t regs) ≡ None
          → ends calls (Got t ∷ inputs)
          (c.Receive message (MoreArms tests guard body xs) lapse) regs
          ≡ ends calls (Got t ∷ inputs) (c.Receive message xs lapse) regs
      pub lapses : (message : ℕ) (xs : Arms) (t : Tree)
          → ends calls (Lapsed ∷ inputs) (c.Receive message xs (LapseTo t)) regs
          ≡ after (Used Lapsed) (does calls inputs t regs)
      pub never_lapses : (message : ℕ) (xs : Arms)
          → ends calls (Lapsed ∷ inputs) (c.Receive message xs NoLapse) regs
          ≡ after (Used Lapsed) (stop calls inputs Wrong)

-- a function that is entered: its arguments are in its first registers, and it gives one value
pub record FunctionsStart (code : Code) (place : ℕ → Colour) (pid : ℕ) : Type 0 where
  pub entered : (function : ℕ) (f : Function) (ts : List Labelled)
      → slice_get code.functions function ≡ Some f → length ts ≡ f.params
      → body_of code place pid function ts
      ≡ tree code place pid f.body (entering ts) (λ vs regs. one_to (λ t. Give (t ∷ [])) vs)
      (λ class reason regs. doing.Raise class reason)
  pub missing : (function : ℕ) (ts : List Labelled) → slice_get code.functions function ≡ None
      → body_of code place pid function ts ≡ doing.Fault

-- an arm goes on exactly where some arm accepts, whatever follows
pub record AcceptsByArms (code : Code) (place : ℕ → Colour) (pid : ℕ) (follows : Follows)
    : Type 0 where
  pub some : (xs : Arms) (regs : Registers)
      → is_some (arms code place pid xs regs follows.values follows.raised)
      ≡ accept_some code.atoms pid xs regs

-- a law of a form holds wherever the form stands
abbrev pub AtEachPlace : (Code → (ℕ → Colour) → ℕ → Follows → ℕ → List (Input Labelled)
    → Registers → Type 0) → Type 0
AtEachPlace Law =
    (code : Code) (place : ℕ → Colour) (pid : ℕ) (follows : Follows) (calls : ℕ)
    (inputs : List (Input Labelled)) (regs : Registers)
    → Law code place pid follows calls inputs regs

abbrev pub BeforeEachRest : (Code → (ℕ → Colour) → ℕ → Follows → ℕ → List (Input Labelled)
    → Registers → Parts → Last → Type 0) → Type 0
BeforeEachRest Law =
    (code : Code) (place : ℕ → Colour) (pid : ℕ) (follows : Follows) (calls : ℕ)
    (inputs : List (Input Labelled)) (regs : Registers) (ps : Parts) (end : Last)
    → Law code place pid follows calls inputs regs ps end

-- the acts of a run begin with those of another
pub record Begins (before after : List Act) : Type 0 where
  pub more : List Act
  pub appended : after ≡ before ++ more

-- a run with more inputs, or with one call more, begins with the acts before
pub record OnlyMoreHappens (code : Code) (place : ℕ → Colour) (pid : ℕ) (p : Doing) (calls : ℕ)
    (inputs : List (Input Labelled)) : Type 0 where
  pub with_inputs : (more : List (Input Labelled))
      → Begins (dones (run_of code place pid calls p inputs).moments)
      (dones (run_of code place pid calls p (inputs ++ more)).moments)
  pub with_a_call : Begins (dones (run_of code place pid calls p inputs).moments)
      (dones (run_of code place pid (suc calls) p inputs).moments)

-- a run without inputs leaves none
abbrev pub NoInputsLeft : Type 0
NoInputsLeft =
    (code : Code) (place : ℕ → Colour) (pid : ℕ) (p : Doing) (calls : ℕ)
    → (run_of code place pid calls p []).inputs ≡ []

-- at each input that a run uses, the run on the inputs before it has done the same, and waits for
-- this one
abbrev pub InputsAreDue : Type 0
InputsAreDue =
    (code : Code) (place : ℕ → Colour) (pid : ℕ) (p : Doing) (calls : ℕ)
    (inputs : List (Input Labelled)) (before : List (Moment Labelled Act)) (i : Input Labelled)
    (later : List (Moment Labelled Act))
    → (run_of code place pid calls p inputs).moments ≡ before ++ Used i ∷ later
    → StandsBefore (run_of code place pid calls p (uses before)) before i

-- a part alone
abbrev pub alone : Code → (ℕ → Colour) → (pid : ℕ) → Part → Registers → Doing
alone code place pid p regs =
    part code place pid p regs (λ r. Give []) (λ class reason r. doing.Raise class reason)

-- a part that does not come to its end gives its end to the whole, and what follows is not done
abbrev pub PartEndsWhole : Type 0
PartEndsWhole =
    (code : Code) (place : ℕ → Colour) (pid : ℕ) (p : Part) (ps : Parts) (end : Last)
    (k : List Labelled → Registers → Doing) (regs : Registers) (calls : ℕ)
    (inputs : List (Input Labelled))
    → ((ts : List Labelled)
    → (run_of code place pid calls (alone code place pid p regs) inputs).end ≡ Values ts → ⊥)
    → run_of code place pid calls
    (tree code place pid (MakeTree (MoreParts p ps) end) regs k
    (λ class reason r. doing.Raise class reason))
    inputs
    ≡ run_of code place pid calls (alone code place pid p regs) inputs
