-- What code trees mean on labelled terms: acts in order, inputs, and how far it comes. This
-- project's own.
use Rattle.std.specs.Prelude.{ℕ, ◌+◌, ◌*◌, ◌==◌, if◌then◌else◌, List, [], ◌∷◌, length, map, pos}
use Rattle.std.specs.Prelude.{Option, Some, None, slice_get}
use Rattle.std.specs.Option.{option_map}
use Rattle.hy_terms.specs.Labelled.{Labelled, labels_of, shared, private_words}
use Rattle.hy_terms.specs.Labelled as l
use Rattle.hy_terms.specs.declared.term.Colour.{Colour}
use Rattle.hy_terms.specs.declared.term.Colour.TheVariants.{Private, Shared}
use Rattle.hy_core.specs.declared.class.Class.{Class}
use Rattle.hy_core.specs.declared.class.Class.TheVariants.{Error}
use Rattle.hy_core.specs.declared.info.SiteInfo.{SiteInfo}
use Rattle.hy_core.specs.declared.info.SiteKind.{SiteKind}
use Rattle.hy_core.specs.declared.info.SiteKind.TheVariants as kind
use Rattle.hy_core.specs.Comparison.{Waiting}
use Rattle.hy_core.specs.Computation as doing
use Rattle.hy_core.specs.Computation.{Computation, Give, Fault, Call, Birth, Input, Run, run}
use Rattle.hy_core.specs.Event.{Sent, Spawned, Printed}
use Rattle.hy_core.specs.Resolved.{Timeout, AtOnce, Never}
use Rattle.hy_ir.specs.Accepting.{accepted, accept_some, constant_value}
use Rattle.hy_ir.specs.Acts.{Act, Called, Has, Effect, Own, Area, Happens}
use Rattle.hy_ir.specs.Code as c
use Rattle.hy_ir.specs.Code.{Arms, NoArms, MoreArms, Code, Function, Lapse, NoLapse, LapseTo, Last}
use Rattle.hy_ir.specs.Code.{Part, Parts, NoParts, MoreParts, Tree, MakeTree}
use Rattle.hy_ir.specs.LabelledBuiltIns.{LabelledAnswer, Value, Raises, NoAnswer, labelled_answer}
use Rattle.hy_ir.specs.LabelledBuiltIns.{badarg, no_clause, fail_reason, with_element}
use Rattle.hy_ir.specs.Registers.{Registers, entering, set, gets, sets}
use Rattle.hy_ir.specs.declared.code.Op.{Op}
use Rattle.hy_ir.specs.declared.code.Op.TheVariants as op

-- what a receive waits for
pub record Wait : Type 0 where
  pub registers : Registers
  pub message : ℕ
  pub arms : Arms
  pub timeout : Timeout

-- what a process still has to do
abbrev pub Doing : Type 0
Doing = Computation Labelled Class ℕ Effect Wait

-- one value goes on
abbrev pub one_to : (Labelled → Doing) → List Labelled → Doing
one_to k [] = Fault
one_to k (t ∷ []) = k t
one_to k (t ∷ u ∷ ts) = Fault

-- a message that no arm accepts is no input that a process meets
abbrev pub or_fault : Option Doing → Doing
or_fault None = Fault
or_fault (Some p) = p

-- a choice without an arm that accepts raises
abbrev pub or_no_clause : (Class → Labelled → Doing) → Option Doing → Doing
or_no_clause h None = h Error no_clause
or_no_clause h (Some p) = p

abbrev pub first_arm : Option Registers → (Registers → Doing) → Option Doing → Option Doing
first_arm None body others = others
first_arm (Some regs) body others = Some (body regs)

abbrev pub answered : LabelledAnswer → (Labelled → Doing) → (Class → Labelled → Doing) → Doing
answered (Value t) k h = k t
answered (Raises class reason) k h = h class reason
answered NoAnswer k h = Fault

-- cells

-- the words that copies of the terms take: those of their private nodes, each occurrence counted
abbrev pub copied_words : List Labelled → ℕ
copied_words [] = 0
copied_words (t ∷ ts) = private_words t + copied_words ts

-- the terms as a cell of this colour has them: a shared cell has shared copies
abbrev pub stored : Colour → List Labelled → List Labelled
stored Private ts = ts
stored Shared ts = map shared ts

-- the words of a cell: its own, and in the area those of the copies of its parts
abbrev pub taking : Colour → (words : ℕ) → (parts : List Labelled) → Doing → Doing
taking Private words ts p = doing.Act (Own words) p
taking Shared words ts p = doing.Act (Area (words + copied_words ts) (copied_words ts)) p

-- a tuple of the parts, or a cons of two, as the kind of the site says
abbrev pub cell : Option SiteKind → (site : ℕ) → Colour → List Labelled → Option Labelled
cell (Some kind.Tuple) site colour ts = Some (l.Tuple site colour (labels_of ts))
cell (Some kind.Cons) site colour (head ∷ tail ∷ []) = Some (l.Cons site colour head tail)
cell _ site colour ts = None

abbrev pub take_cell : Colour → List Labelled → Option Labelled → (Labelled → Doing) → Doing
take_cell colour ts None k = Fault
take_cell colour ts (Some t) k = taking colour (length ts + 1) ts (k t)

-- one word for each part, and one for the header
abbrev pub build : Option SiteKind → (site : ℕ) → Colour → List Labelled → (Labelled → Doing)
    → Doing
build built site colour ts k = take_cell colour ts (cell built site colour (stored colour ts)) k

abbrev pub change : (site : ℕ) → Colour → Option (List Labelled) → (Labelled → Doing)
    → (Class → Labelled → Doing) → Doing
change site colour None k h = h Error badarg
change site colour (Some ts) k h =
    taking colour (length ts + 1) ts (k (l.Tuple site colour (labels_of (stored colour ts))))

-- the list of the bytes of a string
abbrev pub text_list : (site : ℕ) → Colour → List ℕ → Labelled
text_list site colour [] = l.Nil
text_list site colour (byte ∷ bytes) =
    l.Cons site colour (l.Int (pos byte)) (text_list site colour bytes)

-- three words for each byte, and nothing is copied
abbrev pub text : (site : ℕ) → Colour → List ℕ → (Labelled → Doing) → Doing
text site Private bytes k =
    doing.Act (Own (3 * length bytes)) (k (text_list site Private bytes))
text site Shared bytes k =
    doing.Act (Area (3 * length bytes) 0) (k (text_list site Shared bytes))

-- events: the words of the entry stand directly before it

abbrev pub send : (to message : Labelled) → Doing → (Class → Labelled → Doing) → Doing
send (l.Pid to) t p h =
    doing.Act (Area (4 + private_words t) (private_words t))
    (doing.Act (Happens (Sent to (shared t))) p)
send _ t p h = h Error badarg

abbrev pub spawn : (function : ℕ) → List Labelled → (ℕ → Doing) → Doing
spawn function ts k =
    doing.Act (Area (3 + length ts + copied_words ts) (copied_words ts))
    (doing.Act (Happens (Spawned function (map shared ts))) (Birth k))

abbrev pub show : Labelled → Doing → Doing
show t p = doing.Act (Area 3 0) (doing.Act (Happens (Printed t)) p)

-- what is built at a site
abbrev pub kind_at : List SiteInfo → (site : ℕ) → Option SiteKind
kind_at sites site = option_map (λ (info : SiteInfo). info.kind) (slice_get sites site)

abbrev pub timeout_of : Lapse → Timeout
timeout_of NoLapse = Never
timeout_of (LapseTo t) = AtOnce

-- Of each form: k is what follows its values, h what follows what it raises, both with the
-- registers as they are then.
module _ (code : Code) (place : ℕ → Colour) (pid : ℕ) where
  abbrev pub operation : Op → Registers → (Registers → Doing)
      → (Class → Labelled → Registers → Doing) → Doing
  operation (op.Const out value) regs k h = k (set out (constant_value value) regs)
  operation (op.Move out from) regs k h = k (set out (regs from) regs)
  operation (op.Build site out args) regs k h =
      build (kind_at code.sites site) site (place site) (gets args regs) (λ t. k (set out t regs))
  operation (op.Text site out bytes) regs k h =
      text site (place site) bytes (λ t. k (set out t regs))
  operation (op.Set site out index tuple value) regs k h =
      change site (place site) (with_element (regs index) (regs tuple) (regs value))
      (λ t. k (set out t regs)) (λ class reason. h class reason regs)
  operation (op.Bif out bif args) regs k h =
      answered (labelled_answer code.atoms pid bif (gets args regs)) (λ t. k (set out t regs))
      (λ class reason. h class reason regs)
  operation (op.Call out function args) regs k h =
      Call function (gets args regs) (one_to (λ t. k (set out t regs)))
      (λ class reason. h class reason regs)
  operation (op.Send node out to message) regs k h =
      send (regs to) (regs message) (k (set out (regs message) regs))
      (λ class reason. h class reason regs)
  operation (op.Spawn node out function args) regs k h =
      spawn function (gets args regs) (λ child. k (set out (l.Pid child) regs))
  operation (op.Show out value) regs k h = show (regs value) (k (set out (l.Atom 0) regs))

  abbrev mutual
    pub tree : Tree → Registers → (List Labelled → Registers → Doing)
        → (Class → Labelled → Registers → Doing) → Doing
    tree (MakeTree ps end) regs k h = parts ps regs (λ regs'. last end regs' k h) h

    pub parts : Parts → Registers → (Registers → Doing)
        → (Class → Labelled → Registers → Doing) → Doing
    parts NoParts regs k h = k regs
    parts (MoreParts p ps) regs k h = part p regs (λ regs'. parts ps regs' k h) h

    pub part : Part → Registers → (Registers → Doing)
        → (Class → Labelled → Registers → Doing) → Doing
    part (c.Do o) regs k h = operation o regs k h
    part (c.Within outs inner) regs k h = tree inner regs (λ ts regs'. k (sets outs ts regs')) h

    pub last : Last → Registers → (List Labelled → Registers → Doing)
        → (Class → Labelled → Registers → Doing) → Doing
    last (c.Give rs) regs k h = k (gets rs regs) regs
    last (c.Tail function args) regs k h =
        Call function (gets args regs) (one_to (λ t. k (t ∷ []) regs))
        (λ class reason. h class reason regs)
    last (c.Raise class reason) regs k h = h class (regs reason) regs
    last (c.Fail reason) regs k h = h Error (fail_reason (regs reason)) regs
    last (c.Choose xs) regs k h =
        or_no_clause (λ class reason. h class reason regs) (arms xs regs k h)
    last (c.Receive message xs otherwise) regs k h =
        doing.Receive
        (record { registers = regs; message = message; arms = xs; timeout = timeout_of otherwise })
        (λ t. or_fault (arms xs (set message t regs) k h)) (lapse otherwise regs k h)

    -- the first arm that accepts
    pub arms : Arms → Registers → (List Labelled → Registers → Doing)
        → (Class → Labelled → Registers → Doing) → Option Doing
    arms NoArms regs k h = None
    arms (MoreArms tests guard body xs) regs k h =
        first_arm (accepted code.atoms pid tests guard regs) (λ regs'. tree body regs' k h)
        (arms xs regs k h)

    pub lapse : Lapse → Registers → (List Labelled → Registers → Doing)
        → (Class → Labelled → Registers → Doing) → Doing
    lapse NoLapse regs k h = Fault
    lapse (LapseTo t) regs k h = tree t regs k h

  -- a function has as many arguments as parameters, and gives one value
  abbrev pub entered : Option Function → List Labelled → Doing
  entered None ts = Fault
  entered (Some f) ts =
      if length ts == f.params
      then tree f.body (entering ts) (λ vs regs. one_to (λ t. Give (t ∷ [])) vs)
      (λ class reason regs. doing.Raise class reason)
      else Fault

  abbrev pub body_of : (function : ℕ) → List Labelled → Doing
  body_of function ts = entered (slice_get code.functions function) ts

  -- a computation, with so many calls and these inputs
  abbrev pub run_of : (calls : ℕ) → Doing → List (Input Labelled) → Run Labelled Class Act Wait
  run_of calls p inputs = run Has (Called ∷ []) body_of calls p inputs

  -- the labelled meaning of a function with its arguments: the start call costs no call
  abbrev pub meaning : (function : ℕ) → List Labelled → (calls : ℕ) → List (Input Labelled)
      → Run Labelled Class Act Wait
  meaning function ts calls inputs = run_of calls (body_of function ts) inputs

  -- what is seen from outside of a receive that waits
  abbrev pub waiting : Waiting Labelled Wait
  waiting = record {
    timeout = λ wait. wait.timeout;
    accepts = λ wait t.
        accept_some code.atoms pid wait.arms (set wait.message t wait.registers);
  }
