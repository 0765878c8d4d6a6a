-- A computation that extends another does the same, and goes on where the other gives values.
use Rattle.std.proofs.Common.{◌≡◌, ℕ, zero, suc, ◌+◌, List, [], ◌∷◌, length, Option, Some}
use Rattle.std.proofs.Common.{None, refl, ap}
use Rattle.hy_terms.specs.Labelled as l
use Rattle.hy_terms.specs.Labelled.{Labelled, labels_of}
use Rattle.hy_terms.specs.declared.term.Colour.{Colour}
use Rattle.hy_terms.specs.declared.term.Colour.TheVariants.{Private, Shared}
use Rattle.hy_core.specs.declared.class.Class.{Class}
use Rattle.hy_core.specs.declared.class.Class.TheVariants.{Error}
use Rattle.hy_core.specs.Computation.{attempt, after, Did, Used, Give, Raise, Fault, Act, Call}
use Rattle.hy_core.specs.Computation.{Birth}
use Rattle.hy_core.specs.Computation.{Receive, Input, Got, Lapsed, Born, Values}
use Rattle.hy_ir.specs.Accepting.{accepted}
use Rattle.hy_ir.specs.Acts.{Called, Effect, Has}
use Rattle.hy_ir.specs.Code as c
use Rattle.hy_ir.specs.Code.{Arms, NoArms, MoreArms, Code, Lapse, NoLapse, LapseTo, Last, Part}
use Rattle.hy_ir.specs.Code.{Parts, NoParts, MoreParts, Tree, MakeTree}
use Rattle.hy_ir.specs.LabelledBuiltIns.{LabelledAnswer, Value, Raises, NoAnswer, badarg, no_clause}
use Rattle.hy_ir.specs.LabelledBuiltIns.{labelled_answer, with_element, fail_reason}
use Rattle.hy_ir.specs.Meaning.{answered, arms, body_of, cell, change, Doing, first_arm}
use Rattle.hy_ir.specs.Meaning.{kind_at, lapse, last, one_to, operation, or_fault, or_no_clause}
use Rattle.hy_ir.specs.Meaning.{part}
use Rattle.hy_ir.specs.Meaning.{parts, run_of, send, stored, take_cell, taking, text}
use Rattle.hy_ir.specs.Meaning.{tree, Wait}
use Rattle.hy_ir.specs.Registers.{Registers, gets, set, sets}
use Rattle.hy_ir.specs.declared.code.Op.{Op}
use Rattle.hy_ir.specs.declared.code.Op.TheVariants as op

pub data Extends : Doing → Doing → Type 0 where
  given : (ts : List Labelled) (q : Doing) → Extends (Give ts) q
  raised : (class : Class) (t : Labelled) → Extends (Raise class t) (Raise class t)
  faulty : Extends Fault Fault
  acted : (a : Effect) (p q : Doing) → Extends p q → Extends (Act a p) (Act a q)
  called : (f : ℕ) (ts : List Labelled) (k k' : List Labelled → Doing)
      (h h' : Class → Labelled → Doing) → ((vs : List Labelled) → Extends (k vs) (k' vs))
      → ((class : Class) (t : Labelled) → Extends (h class t) (h' class t))
      → Extends (Call f ts k h) (Call f ts k' h')
  born : (k k' : ℕ → Doing) → ((pid : ℕ) → Extends (k pid) (k' pid))
      → Extends (Birth k) (Birth k')
  received : (w : Wait) (k k' : Labelled → Doing) (p q : Doing)
      → ((t : Labelled) → Extends (k t) (k' t)) → Extends p q
      → Extends (Receive w k p) (Receive w k' q)

pub data ExtendsOption : Option Doing → Option Doing → Type 0 where
  none : ExtendsOption None None
  some : (p q : Doing) → Extends p q → ExtendsOption (Some p) (Some q)

-- what follows values, and what follows what is raised
abbrev Follow : Type 0
Follow = List Labelled → Registers → Doing

abbrev Rescue : Type 0
Rescue = Class → Labelled → Registers → Doing

extends_attempt : (b : Doing) (k k' : List Labelled → Doing) (h h' : Class → Labelled → Doing)
    → ((vs : List Labelled) → Extends (k vs) (k' vs))
    → ((class : Class) (t : Labelled) → Extends (h class t) (h' class t))
    → Extends (attempt b k h) (attempt b k' h')
extends_attempt (Give vs) k k' h h' ek eh = ek vs
extends_attempt (Raise class t) k k' h h' ek eh = eh class t
extends_attempt Fault k k' h h' ek eh = faulty
extends_attempt (Act a p) k k' h h' ek eh =
    acted a (attempt p k h) (attempt p k' h') (extends_attempt p k k' h h' ek eh)
extends_attempt (Call f ts g j) k k' h h' ek eh =
    called f ts (λ vs. attempt (g vs) k h) (λ vs. attempt (g vs) k' h')
    (λ class t. attempt (j class t) k h) (λ class t. attempt (j class t) k' h')
    (λ vs. extends_attempt (g vs) k k' h h' ek eh)
    (λ class t. extends_attempt (j class t) k k' h h' ek eh)
extends_attempt (Birth g) k k' h h' ek eh =
    born (λ pid. attempt (g pid) k h) (λ pid. attempt (g pid) k' h')
    (λ pid. extends_attempt (g pid) k k' h h' ek eh)
extends_attempt (Receive w g p) k k' h h' ek eh =
    received w (λ t. attempt (g t) k h) (λ t. attempt (g t) k' h') (attempt p k h)
    (attempt p k' h') (λ t. extends_attempt (g t) k k' h h' ek eh)
    (extends_attempt p k k' h h' ek eh)

module _ (code : Code) (place : ℕ → Colour) (pid : ℕ) where
  -- where the first does not give values, the second comes as far
  pub comes_as_far : (n : ℕ) (p q : Doing) → Extends p q → (inputs : List (Input Labelled))
      → ((ts : List Labelled) → (run_of code place pid n p inputs).end ≡ Values ts → ⊥)
      → run_of code place pid n q inputs ≡ run_of code place pid n p inputs
  comes_as_far n _ _ (given ts q) inputs never = absurd (never ts refl)
  comes_as_far n _ _ (raised class t) inputs never = refl
  comes_as_far n _ _ faulty inputs never = refl
  comes_as_far n _ _ (acted a p q e) inputs never =
      ap (after (Did (Has a))) (comes_as_far n p q e inputs never)
  comes_as_far zero _ _ (called f ts k k' h h' ek eh) inputs never = refl
  comes_as_far (suc n) _ _ (called f ts k k' h h' ek eh) inputs never =
      ap (after (Did Called))
      (comes_as_far n (attempt (body_of code place pid f ts) k h)
      (attempt (body_of code place pid f ts) k' h')
      (extends_attempt (body_of code place pid f ts) k k' h h' ek eh) inputs never)
  comes_as_far n _ _ (born k k' ek) [] never = refl
  comes_as_far n _ _ (born k k' ek) (Born child ∷ inputs) never =
      ap (after (Used (Born child))) (comes_as_far n (k child) (k' child) (ek child) inputs never)
  comes_as_far n _ _ (born k k' ek) (Got t ∷ inputs) never = refl
  comes_as_far n _ _ (born k k' ek) (Lapsed ∷ inputs) never = refl
  comes_as_far n _ _ (received w k k' r s ek e) [] never = refl
  comes_as_far n _ _ (received w k k' r s ek e) (Got t ∷ inputs) never =
      ap (after (Used (Got t))) (comes_as_far n (k t) (k' t) (ek t) inputs never)
  comes_as_far n _ _ (received w k k' r s ek e) (Lapsed ∷ inputs) never =
      ap (after (Used Lapsed)) (comes_as_far n r s e inputs never)
  comes_as_far n _ _ (received w k k' r s ek e) (Born child ∷ inputs) never = refl

  -- the forms

  one_extends : (k k' : Labelled → Doing) (ts : List Labelled)
      → ((t : Labelled) → Extends (k t) (k' t)) → Extends (one_to k ts) (one_to k' ts)
  one_extends k k' [] ek = faulty
  one_extends k k' (t ∷ []) ek = ek t
  one_extends k k' (t ∷ u ∷ ts) ek = faulty

  taking_extends : (colour : Colour) (words : ℕ) (ts : List Labelled) (p q : Doing)
      → Extends p q → Extends (taking colour words ts p) (taking colour words ts q)
  taking_extends Private words ts p q e = acted _ p q e
  taking_extends Shared words ts p q e = acted _ p q e

  text_extends : (site : ℕ) (colour : Colour) (bytes : List ℕ) (k k' : Labelled → Doing)
      → ((t : Labelled) → Extends (k t) (k' t))
      → Extends (text site colour bytes k) (text site colour bytes k')
  text_extends site Private bytes k k' ek = acted _ _ _ (ek _)
  text_extends site Shared bytes k k' ek = acted _ _ _ (ek _)

  cell_extends : (colour : Colour) (ts : List Labelled) (o : Option Labelled)
      (k k' : Labelled → Doing) → ((t : Labelled) → Extends (k t) (k' t))
      → Extends (take_cell colour ts o k) (take_cell colour ts o k')
  cell_extends colour ts None k k' ek = faulty
  cell_extends colour ts (Some t) k k' ek =
      taking_extends colour (length ts + 1) ts (k t) (k' t) (ek t)

  change_extends : (site : ℕ) (colour : Colour) (o : Option (List Labelled))
      (k k' : Labelled → Doing) (h h' : Class → Labelled → Doing)
      → ((t : Labelled) → Extends (k t) (k' t))
      → ((class : Class) (t : Labelled) → Extends (h class t) (h' class t))
      → Extends (change site colour o k h) (change site colour o k' h')
  change_extends site colour None k k' h h' ek eh = eh Error badarg
  change_extends site colour (Some ts) k k' h h' ek eh =
      let t = l.Tuple site colour (labels_of (stored colour ts)) in
      taking_extends colour (length ts + 1) ts (k t) (k' t) (ek t)

  answer_extends : (a : LabelledAnswer) (k k' : Labelled → Doing)
      (h h' : Class → Labelled → Doing) → ((t : Labelled) → Extends (k t) (k' t))
      → ((class : Class) (t : Labelled) → Extends (h class t) (h' class t))
      → Extends (answered a k h) (answered a k' h')
  answer_extends (Value t) k k' h h' ek eh = ek t
  answer_extends (Raises class t) k k' h h' ek eh = eh class t
  answer_extends NoAnswer k k' h h' ek eh = faulty

  send_extends : (to t : Labelled) (p q : Doing) (h h' : Class → Labelled → Doing) → Extends p q
      → ((class : Class) (u : Labelled) → Extends (h class u) (h' class u))
      → Extends (send to t p h) (send to t q h')
  send_extends (l.Pid n) t p q h h' e eh = acted _ _ _ (acted _ p q e)
  send_extends (l.Int n) t p q h h' e eh = eh Error badarg
  send_extends (l.Atom n) t p q h h' e eh = eh Error badarg
  send_extends l.Nil t p q h h' e eh = eh Error badarg
  send_extends (l.Cons s colour x y) t p q h h' e eh = eh Error badarg
  send_extends (l.Tuple s colour ts) t p q h h' e eh = eh Error badarg

  clause_extends : (o o' : Option Doing) (h h' : Class → Labelled → Doing) → ExtendsOption o o'
      → ((class : Class) (t : Labelled) → Extends (h class t) (h' class t))
      → Extends (or_no_clause h o) (or_no_clause h' o')
  clause_extends _ _ h h' none eh = eh Error no_clause
  clause_extends _ _ h h' (some p q e) eh = e

  fault_extends : (o o' : Option Doing) → ExtendsOption o o' → Extends (or_fault o) (or_fault o')
  fault_extends _ _ none = faulty
  fault_extends _ _ (some p q e) = e

  arm_extends : (o : Option Registers) (k k' : Registers → Doing) (rest rest' : Option Doing)
      → ((regs : Registers) → Extends (k regs) (k' regs)) → ExtendsOption rest rest'
      → ExtendsOption (first_arm o k rest) (first_arm o k' rest')
  arm_extends None k k' rest rest' ek e = e
  arm_extends (Some regs) k k' rest rest' ek e = some (k regs) (k' regs) (ek regs)

  module _ (h h' : Rescue)
      (eh : (class : Class) (t : Labelled) (r : Registers) → Extends (h class t r) (h' class t r))
    where
      operation_extends : (o : Op) (regs : Registers) (k k' : Registers → Doing)
          → ((r : Registers) → Extends (k r) (k' r))
          → Extends (operation code place pid o regs k h) (operation code place pid o regs k' h')
      operation_extends (op.Const out value) regs k k' ek = ek _
      operation_extends (op.Move out from) regs k k' ek = ek _
      operation_extends (op.Build site out args) regs k k' ek =
          cell_extends (place site) (gets args regs)
          (cell (kind_at code.sites site) site (place site) (stored (place site) (gets args regs)))
          (λ t. k (set out t regs)) (λ t. k' (set out t regs)) (λ t. ek (set out t regs))
      operation_extends (op.Text site out bytes) regs k k' ek =
          text_extends site (place site) bytes (λ t. k (set out t regs)) (λ t. k' (set out t regs))
          (λ t. ek (set out t regs))
      operation_extends (op.Set site out index tuple value) regs k k' ek =
          change_extends site (place site) (with_element (regs index) (regs tuple) (regs value))
          (λ t. k (set out t regs)) (λ t. k' (set out t regs)) (λ class t. h class t regs)
          (λ class t. h' class t regs) (λ t. ek (set out t regs)) (λ class t. eh class t regs)
      operation_extends (op.Bif out bif args) regs k k' ek =
          answer_extends (labelled_answer code.atoms pid bif (gets args regs))
          (λ t. k (set out t regs)) (λ t. k' (set out t regs)) (λ class t. h class t regs)
          (λ class t. h' class t regs) (λ t. ek (set out t regs)) (λ class t. eh class t regs)
      operation_extends (op.Call out f args) regs k k' ek =
          called f (gets args regs) (one_to (λ t. k (set out t regs)))
          (one_to (λ t. k' (set out t regs))) (λ class t. h class t regs)
          (λ class t. h' class t regs)
          (λ vs. one_extends (λ t. k (set out t regs)) (λ t. k' (set out t regs)) vs
          (λ t. ek (set out t regs)))
          (λ class t. eh class t regs)
      operation_extends (op.Send node out to message) regs k k' ek =
          send_extends (regs to) (regs message) (k (set out (regs message) regs))
          (k' (set out (regs message) regs)) (λ class t. h class t regs)
          (λ class t. h' class t regs) (ek (set out (regs message) regs))
          (λ class t. eh class t regs)
      operation_extends (op.Spawn node out f args) regs k k' ek =
          acted _ _ _ (acted _ _ _
          (born (λ child. k (set out (l.Pid child) regs)) (λ child. k' (set out (l.Pid child) regs))
          (λ child. ek (set out (l.Pid child) regs))))
      operation_extends (op.Show out value) regs k k' ek = acted _ _ _ (acted _ _ _ (ek _))

      mutual
        tree_extends : (t : Tree) (regs : Registers) (k k' : Follow)
            → ((ts : List Labelled) (r : Registers) → Extends (k ts r) (k' ts r))
            → Extends (tree code place pid t regs k h) (tree code place pid t regs k' h')
        tree_extends (MakeTree ps end) regs k k' ek =
            parts_extends ps regs (λ r. last code place pid end r k h)
            (λ r. last code place pid end r k' h') (λ r. last_extends end r k k' ek)

        parts_extends : (ps : Parts) (regs : Registers) (k k' : Registers → Doing)
            → ((r : Registers) → Extends (k r) (k' r))
            → Extends (parts code place pid ps regs k h) (parts code place pid ps regs k' h')
        parts_extends NoParts regs k k' ek = ek regs
        parts_extends (MoreParts p ps) regs k k' ek =
            part_extends p regs (λ r. parts code place pid ps r k h)
            (λ r. parts code place pid ps r k' h') (λ r. parts_extends ps r k k' ek)

        pub part_extends : (p : Part) (regs : Registers) (k k' : Registers → Doing)
            → ((r : Registers) → Extends (k r) (k' r))
            → Extends (part code place pid p regs k h) (part code place pid p regs k' h')
        part_extends (c.Do o) regs k k' ek = operation_extends o regs k k' ek
        part_extends (c.Within outs inner) regs k k' ek =
            tree_extends inner regs (λ ts r. k (sets outs ts r)) (λ ts r. k' (sets outs ts r))
            (λ ts r. ek (sets outs ts r))

        last_extends : (end : Last) (regs : Registers) (k k' : Follow)
            → ((ts : List Labelled) (r : Registers) → Extends (k ts r) (k' ts r))
            → Extends (last code place pid end regs k h) (last code place pid end regs k' h')
        last_extends (c.Give rs) regs k k' ek = ek (gets rs regs) regs
        last_extends (c.Tail f args) regs k k' ek =
            called f (gets args regs) (one_to (λ t. k (t ∷ []) regs))
            (one_to (λ t. k' (t ∷ []) regs)) (λ class t. h class t regs)
            (λ class t. h' class t regs)
            (λ vs. one_extends (λ t. k (t ∷ []) regs) (λ t. k' (t ∷ []) regs) vs
            (λ t. ek (t ∷ []) regs))
            (λ class t. eh class t regs)
        last_extends (c.Raise class reason) regs k k' ek = eh class (regs reason) regs
        last_extends (c.Fail reason) regs k k' ek = eh Error (fail_reason (regs reason)) regs
        last_extends (c.Choose xs) regs k k' ek =
            clause_extends (arms code place pid xs regs k h) (arms code place pid xs regs k' h')
            (λ class t. h class t regs) (λ class t. h' class t regs)
            (arms_extend xs regs k k' ek) (λ class t. eh class t regs)
        last_extends (c.Receive message xs otherwise) regs k k' ek =
            received _ (λ t. or_fault (arms code place pid xs (set message t regs) k h))
            (λ t. or_fault (arms code place pid xs (set message t regs) k' h'))
            (lapse code place pid otherwise regs k h) (lapse code place pid otherwise regs k' h')
            (λ t. fault_extends (arms code place pid xs (set message t regs) k h)
            (arms code place pid xs (set message t regs) k' h')
            (arms_extend xs (set message t regs) k k' ek))
            (lapse_extends otherwise regs k k' ek)

        arms_extend : (xs : Arms) (regs : Registers) (k k' : Follow)
            → ((ts : List Labelled) (r : Registers) → Extends (k ts r) (k' ts r))
            → ExtendsOption (arms code place pid xs regs k h) (arms code place pid xs regs k' h')
        arms_extend NoArms regs k k' ek = none
        arms_extend (MoreArms tests guard body xs) regs k k' ek =
            arm_extends (accepted code.atoms pid tests guard regs)
            (λ r. tree code place pid body r k h) (λ r. tree code place pid body r k' h')
            (arms code place pid xs regs k h) (arms code place pid xs regs k' h')
            (λ r. tree_extends body r k k' ek) (arms_extend xs regs k k' ek)

        lapse_extends : (otherwise : Lapse) (regs : Registers) (k k' : Follow)
            → ((ts : List Labelled) (r : Registers) → Extends (k ts r) (k' ts r))
            → Extends (lapse code place pid otherwise regs k h)
            (lapse code place pid otherwise regs k' h')
        lapse_extends NoLapse regs k k' ek = faulty
        lapse_extends (LapseTo t) regs k k' ek = tree_extends t regs k k' ek
