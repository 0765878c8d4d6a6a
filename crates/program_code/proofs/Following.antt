-- What follows the values of code follows those of the expression: a simulation, step by step.
use Rattle.std.proofs.Common.{◌≡◌, ℕ, pos, List, [], ◌∷◌, ◌++◌, length, map, Option, Some, None}
use Rattle.std.proofs.Common.{refl, sym, ap, ◌∙◌, subst}
use Rattle.std.proofs.Math.Path.{fun_ext}
use Rattle.std.proofs.lemmas.List.{append_assoc}
use Rattle.std.specs.Option.{option_map}
use Rattle.hy_terms.specs.Labelled as l
use Rattle.hy_terms.specs.Labelled.{Labelled, erase, erase_each, labels_of, shared}
use Rattle.hy_terms.specs.Term as term
use Rattle.hy_terms.specs.Term.{Term, terms_of}
use Rattle.hy_terms.specs.declared.term.Colour.{Colour}
use Rattle.hy_terms.specs.declared.term.Colour.TheVariants.{Private, Shared}
use Rattle.hy_terms.proofs.LabelledLemmas.{erase-shared}
use Rattle.hy_core.specs.declared.bif.Bif.{Bif}
use Rattle.hy_core.specs.declared.class.Class.{Class}
use Rattle.hy_core.specs.declared.class.Class.TheVariants.{Error}
use Rattle.hy_core.specs.declared.info.SiteKind.TheVariants as kind
use Rattle.hy_core.specs.BuiltIn as built_in
use Rattle.hy_core.specs.BuiltIn.{Answer, answer}
use Rattle.hy_core.specs.Computation.{Give, Raise, attempt, bind}
use Rattle.hy_core.specs.Evaluation as evaluation
use Rattle.hy_core.specs.Evaluation.{Callee, Top, Inner, single, give, act_on, text_term}
use Rattle.hy_core.specs.Event.{Sent, Spawned}
use Rattle.hy_core.specs.Match.{Env}
use Rattle.hy_core.specs.Resolved as r
use Rattle.hy_core.specs.SameProgram.{waits}
use Rattle.hy_core.specs.Simulation.{Simulates}
use Rattle.hy_core.proofs.Runs.{attempt_assoc}
use Rattle.hy_ir.specs.Accepting.{constant_value}
use Rattle.hy_ir.specs.Code as c
use Rattle.hy_ir.specs.Code.{Code, Last, MakeTree, Parts, NoParts, MoreParts}
use Rattle.hy_ir.specs.LabelledBuiltIns as labelled
use Rattle.hy_ir.specs.LabelledBuiltIns.{LabelledAnswer, Value, Raises, NoAnswer, labelled_answer}
use Rattle.hy_ir.specs.LabelledBuiltIns.{fail_reason, with_element}
use Rattle.hy_ir.specs.LabelledLaws.{erase_answer, erase_parts}
use Rattle.hy_ir.specs.Meaning.{Doing, one_to, build, change, text, text_list, send, answered}
use Rattle.hy_ir.specs.Meaning.{waiting, tree, parts, part, last, kind_at}
use Rattle.hy_ir.specs.Registers.{Registers, set, gets}
use Rattle.hy_ir.specs.Valid.{Values, GivesSoMany}
use Rattle.hy_ir.specs.declared.code.Constant.{Constant}
use Rattle.hy_ir.specs.declared.code.Op.TheVariants as op
use Rattle.hy_ir.proofs.Erasing.{answers_erased, setelement_erased, fail_erased}
use Rattle.program_code.specs.CodeLaws.{shown_effect}
use Rattle.program_code.specs.ExpressionCode.{join, does}
use Rattle.program_code.specs.WrittenRegisters.{parts_write, part_writes, last_writes}
use Rattle.program_code.proofs.RegisterLemmas.{Keeps, set_same, keeps_set, keeps_on, keeps_left}

-- labels

erase_each-labels_of : (ts : List Labelled) → erase_each (labels_of ts) ≡ terms_of (map erase ts)
erase_each-labels_of [] = refl
erase_each-labels_of (t ∷ ts) = ap (term.MoreTerms (erase t)) (erase_each-labels_of ts)

pub erases-shared : (ts : List Labelled) → map erase (map shared ts) ≡ map erase ts
erases-shared [] = refl
erases-shared (t ∷ ts) = λ i. erase-shared t i ∷ erases-shared ts i

erase-text_list : (site : ℕ) (colour : Colour) (bytes : List ℕ)
    → erase (text_list site colour bytes) ≡ text_term bytes
erase-text_list site colour [] = refl
erase-text_list site colour (b ∷ bytes) = ap (term.Cons (erase (l.Int (pos b))))
    (erase-text_list site colour bytes)

pub parts_then : (ps qs : Parts) → parts_write (join ps qs) ≡ parts_write ps ++ parts_write qs
parts_then NoParts qs = refl
parts_then (MoreParts p ps) qs = ap (λ ws. part_writes p ++ ws) (parts_then ps qs) ∙ sym
    (append_assoc (part_writes p) (parts_write ps) (parts_write qs))

-- a call stands for the call of the function of this number
abbrev pub SameCall : Callee → List Term → ℕ → List Labelled → Type 0
SameCall (Top f) ts g us = (g ≡ f) × (map erase us ≡ ts)
SameCall (Inner f fs env) ts g us = ⊥

module _ (code : Code) (place : ℕ → Colour) (pid : ℕ) where
  abbrev pub Follows : evaluation.Doing → Doing → Type 0
  Follows = Simulates erase shown_effect (λ event. Unit {0}) SameCall (waits code.atoms pid)
      (waiting code place pid)

  pub follows_at : (p p' : evaluation.Doing) (q q' : Doing) → p ≡ p' → q ≡ q' → Follows p' q'
      → Follows p q
  follows_at p p' q q' e f h = subst (λ x. Follows x q) (sym e)
      (subst (λ y. Follows p' y) (sym f) h)

  pub run_then : (ps qs : Parts) (regs : Registers) (k : Registers → Doing)
      (h : Class → Labelled → Registers → Doing)
      → parts code place pid (join ps qs) regs k h ≡ parts code place pid ps regs
      (λ r. parts code place pid qs r k h) h
  run_then NoParts qs regs k h = refl
  run_then (MoreParts p ps) qs regs k h = ap (λ m. part code place pid p regs m h)
      (fun_ext λ r. run_then ps qs r k h)

  abbrev pub OnRaise : (Class → Term → evaluation.Doing) → (Class → Labelled → Registers → Doing)
      → List ℕ → Registers → Type 0
  OnRaise hS hT ws regs = (class : Class) (t : Labelled) (regs' : Registers) → Keeps ws regs regs'
      → Follows (hS class (erase t)) (hT class t regs')

  -- Whatever follows the values follows after the parts, and whatever follows what is raised.
  -- before: the values that are done already.
  pub record Sim (before : List Term) (p : evaluation.Doing) (ps : Parts) (rs : List ℕ)
      (regs : Registers) : Type 0 where
    pub go : (kS : List Term → evaluation.Doing) (hS : Class → Term → evaluation.Doing)
        (kT : Registers → Doing) (hT : Class → Labelled → Registers → Doing)
        → ((regs' : Registers) → Keeps (parts_write ps) regs regs'
        → Follows (kS (map erase (gets rs regs'))) (kT regs')) → OnRaise hS hT (parts_write ps) regs
        → Follows (attempt p (λ ts. kS (before ++ ts)) hS) (parts code place pid ps regs kT hT)

  pub record SimWhole (values : Values) (p : evaluation.Doing) (ps : Parts) (end : Last)
      (regs : Registers) : Type 0 where
    pub go : (kS : List Term → evaluation.Doing) (hS : Class → Term → evaluation.Doing)
        (kT : List Labelled → Registers → Doing) (hT : Class → Labelled → Registers → Doing)
        → ((ts : List Labelled) (regs' : Registers) → GivesSoMany values (length ts)
        → Keeps (parts_write ps ++ last_writes end) regs regs'
        → Follows (kS (map erase ts)) (kT ts regs'))
        → OnRaise hS hT (parts_write ps ++ last_writes end) regs
        → Follows (attempt p kS hS) (tree code place pid (MakeTree ps end) regs kT hT)

  keeps_both : (ps qs : Parts) (x y z : Registers) → Keeps (parts_write ps) x y
      → Keeps (parts_write qs) y z → Keeps (parts_write (join ps qs)) x z
  keeps_both ps qs x y z k k' = subst (λ ws. Keeps ws x z) (sym (parts_then ps qs))
      (keeps_on (parts_write ps) (parts_write qs) x y z k k')

  pub sim_bind : (before : List Term) (p : evaluation.Doing) (f : List Term → evaluation.Doing)
      (ps qs : Parts) (rs ss : List ℕ) (regs : Registers) → Sim [] p ps rs regs
      → ((regs' : Registers) → Keeps (parts_write ps) regs regs'
      → Sim before (f (map erase (gets rs regs'))) qs ss regs')
      → Sim before (bind p f) (join ps qs) ss regs
  sim_bind before p f ps qs rs ss regs s t =
      record {
        go = λ kS hS kT hT h g.
            let k2 : List Term → evaluation.Doing = λ ts. kS (before ++ ts) in
            follows_at (attempt (bind p f) k2 hS) (attempt p (λ ts. attempt (f ts) k2 hS) hS)
            (parts code place pid (join ps qs) regs kT hT)
            (parts code place pid ps regs (λ r. parts code place pid qs r kT hT) hT)
            (attempt_assoc p f Raise k2 hS) (run_then ps qs regs kT hT)
            (s.go (λ ts. attempt (f ts) k2 hS) hS (λ r. parts code place pid qs r kT hT) hT
            (λ regs' keep. (t regs' keep).go kS hS kT hT
            (λ regs'' keep'. h regs'' (keeps_both ps qs regs regs' regs'' keep keep'))
            (λ c u regs'' keep'. g c u regs'' (keeps_both ps qs regs regs' regs'' keep keep')))
            (λ c u regs' keep. g c u regs' (keeps_both ps qs regs regs' regs' keep (λ q o. refl))));
      }

  -- parts, and then parts with a last one
  pub sim_bind_whole : (values : Values) (p : evaluation.Doing) (f : List Term → evaluation.Doing)
      (ps qs : Parts) (end : Last) (rs : List ℕ) (regs : Registers) → Sim [] p ps rs regs
      → ((regs' : Registers) → Keeps (parts_write ps) regs regs'
      → SimWhole values (f (map erase (gets rs regs'))) qs end regs')
      → SimWhole values (bind p f) (join ps qs) end regs
  sim_bind_whole values p f ps qs end rs regs s t =
      record {
        go = λ kS hS kT hT h g.
            follows_at (attempt (bind p f) kS hS) (attempt p (λ ts. attempt (f ts) kS hS) hS)
            (parts code place pid (join ps qs) regs (λ r. last code place pid end r kT hT) hT)
            (parts code place pid ps regs (λ r. tree code place pid (MakeTree qs end) r kT hT)
            hT) (attempt_assoc p f Raise kS hS)
            (run_then ps qs regs (λ r. last code place pid end r kT hT) hT)
            (s.go (λ ts. attempt (f ts) kS hS) hS
            (λ r. tree code place pid (MakeTree qs end) r kT hT) hT
            (λ regs' keep. (t regs' keep).go kS hS kT hT
            (λ ts regs'' e keep'. h ts regs'' e (keeps regs' regs'' keep keep'))
            (λ c u regs'' keep'. g c u regs'' (keeps regs' regs'' keep keep')))
            (λ c u regs' keep. g c u regs' (keeps regs' regs' keep (λ q o. refl))));
      }
    where
      keeps : (regs' regs'' : Registers) → Keeps (parts_write ps) regs regs'
          → Keeps (parts_write qs ++ last_writes end) regs' regs''
          → Keeps (parts_write (join ps qs) ++ last_writes end) regs regs''
      keeps regs' regs'' keep keep' =
          subst (λ ws. Keeps (ws ++ last_writes end) regs regs'') (sym (parts_then ps qs))
          (subst (λ ws. Keeps ws regs regs'')
          (sym (append_assoc (parts_write ps) (parts_write qs) (last_writes end)))
          (keeps_on (parts_write ps) (parts_write qs ++ last_writes end) regs regs' regs'' keep
          keep'))

  -- parts, and then a last one
  pub sim_last : (values : Values) (p : evaluation.Doing) (f : List Term → evaluation.Doing)
      (ps : Parts) (end : Last) (rs : List ℕ) (regs : Registers) → Sim [] p ps rs regs
      → ((regs' : Registers) → Keeps (parts_write ps) regs regs'
      → SimWhole values (f (map erase (gets rs regs'))) NoParts end regs')
      → SimWhole values (bind p f) ps end regs
  sim_last values p f ps end rs regs s t =
      record {
        go = λ kS hS kT hT h g.
            subst (λ x. Follows x (tree code place pid (MakeTree ps end) regs kT hT))
            (sym (attempt_assoc p f Raise kS hS))
            (s.go (λ ts. attempt (f ts) kS hS) hS (λ r. last code place pid end r kT hT) hT
            (λ regs' keep. (t regs' keep).go kS hS kT hT
            (λ ts regs'' e keep'. h ts regs'' e
            (keeps_on (parts_write ps) (last_writes end) regs regs' regs'' keep keep'))
            (λ c u regs'' keep'. g c u regs''
            (keeps_on (parts_write ps) (last_writes end) regs regs' regs'' keep keep')))
            (λ c u regs' keep. g c u regs'
            (keeps_left (parts_write ps) (last_writes end) regs regs' keep)));
      }

  -- the term is in the register
  in_register : (out : ℕ) (t : Labelled) (u : Term) (regs : Registers)
      (kS : List Term → evaluation.Doing) (kT : Registers → Doing) → erase t ≡ u
      → ((regs' : Registers) → Keeps (out ∷ []) regs regs'
      → Follows (kS (erase (regs' out) ∷ [])) (kT regs'))
      → Follows (kS (u ∷ [])) (kT (set out t regs))
  in_register out t u regs kS kT e h = subst (λ v. Follows (kS (v ∷ [])) (kT (set out t regs)))
      (ap erase (set_same out t regs) ∙ e) (h (set out t regs) (keeps_set out t regs))

  -- operations that give one term

  pub sim_const : (out : ℕ) (value : Constant) (regs : Registers)
      → Sim [] (Give (erase (constant_value value) ∷ [])) (does (op.Const out value)) (out ∷ [])
      regs
  sim_const out value regs =
      record {
        go = λ kS hS kT hT h g. in_register out (constant_value value)
            (erase (constant_value value)) regs kS kT refl h;
      }

  tuple_follows : (site : ℕ) (colour : Colour) (ts : List Labelled) (p : evaluation.Doing)
      (k : Labelled → Doing) → ((t : Labelled) → erase t ≡ term.Tuple (terms_of (map erase ts))
      → Follows p (k t)) → Follows p (build (Some kind.Tuple) site colour ts k)
  tuple_follows site Private ts p k h = h (l.Tuple site Private (labels_of ts))
      (ap term.Tuple (erase_each-labels_of ts))
  tuple_follows site Shared ts p k h = h (l.Tuple site Shared (labels_of (map shared ts)))
      (ap term.Tuple (erase_each-labels_of (map shared ts) ∙ ap terms_of (erases-shared ts)))

  pub sim_tuple : (site out : ℕ) (rs : List ℕ) (regs : Registers)
      → kind_at code.sites site ≡ Some kind.Tuple
      → Sim [] (give (term.Tuple (terms_of (map erase (gets rs regs)))))
      (does (op.Build site out rs)) (out ∷ []) regs
  sim_tuple site out rs regs built =
      record {
        go = λ kS hS kT hT h g.
            let ts = gets rs regs in
            let u = term.Tuple (terms_of (map erase ts)) in
            subst (λ o. Follows (kS (u ∷ []))
            (build o site (place site) ts (λ t. kT (set out t regs)))) (sym built)
            (tuple_follows site (place site) ts (kS (u ∷ [])) (λ t. kT (set out t regs))
            (λ t e. in_register out t u regs kS kT e h));
      }

  cons_follows : (site : ℕ) (colour : Colour) (head tail : Labelled) (p : evaluation.Doing)
      (k : Labelled → Doing) → ((t : Labelled) → erase t ≡ term.Cons (erase head) (erase tail)
      → Follows p (k t)) → Follows p (build (Some kind.Cons) site colour (head ∷ tail ∷ []) k)
  cons_follows site Private head tail p k h = h (l.Cons site Private head tail) refl
  cons_follows site Shared head tail p k h = h (l.Cons site Shared (shared head) (shared tail))
      (λ i. term.Cons (erase-shared head i) (erase-shared tail i))

  pub sim_cons : (site out head tail : ℕ) (regs : Registers)
      → kind_at code.sites site ≡ Some kind.Cons
      → Sim [] (give (term.Cons (erase (regs head)) (erase (regs tail))))
      (does (op.Build site out (head ∷ tail ∷ []))) (out ∷ []) regs
  sim_cons site out head tail regs built =
      record {
        go = λ kS hS kT hT h g.
            let u = term.Cons (erase (regs head)) (erase (regs tail)) in
            subst (λ o. Follows (kS (u ∷ []))
            (build o site (place site) (regs head ∷ regs tail ∷ []) (λ t. kT (set out t regs))))
            (sym built)
            (cons_follows site (place site) (regs head) (regs tail) (kS (u ∷ []))
            (λ t. kT (set out t regs)) (λ t e. in_register out t u regs kS kT e h));
      }

  text_follows : (site : ℕ) (colour : Colour) (bytes : List ℕ) (p : evaluation.Doing)
      (k : Labelled → Doing) → ((t : Labelled) → erase t ≡ text_term bytes → Follows p (k t))
      → Follows p (text site colour bytes k)
  text_follows site Private bytes p k h = h (text_list site Private bytes)
      (erase-text_list site Private bytes)
  text_follows site Shared bytes p k h = h (text_list site Shared bytes)
      (erase-text_list site Shared bytes)

  pub sim_text : (site out : ℕ) (bytes : List ℕ) (regs : Registers)
      → Sim [] (give (text_term bytes)) (does (op.Text site out bytes)) (out ∷ []) regs
  sim_text site out bytes regs =
      record {
        go = λ kS hS kT hT h g. text_follows site (place site) bytes
            (kS (text_term bytes ∷ [])) (λ t. kT (set out t regs))
            (λ t e. in_register out t (text_term bytes) regs kS kT e h);
      }

  change_follows : (site : ℕ) (colour : Colour) (o : Option (List Labelled))
      (kS : List Term → evaluation.Doing) (hS : Class → Term → evaluation.Doing)
      (k : Labelled → Doing) (j : Class → Labelled → Doing)
      → ((t : Labelled) (u : Term) → erase t ≡ u → Follows (kS (u ∷ [])) (k t))
      → ((class : Class) (t : Labelled) → Follows (hS class (erase t)) (j class t))
      → Follows (attempt (evaluation.answered (built_in.or_badarg (option_map erase_parts o))) kS
      hS) (change site colour o k j)
  change_follows site colour None kS hS k j h g = g Error labelled.badarg
  change_follows site Private (Some ts) kS hS k j h g = h (l.Tuple site Private (labels_of ts))
      (erase_parts ts) (ap term.Tuple (erase_each-labels_of ts))
  change_follows site Shared (Some ts) kS hS k j h g = h
      (l.Tuple site Shared (labels_of (map shared ts))) (erase_parts ts)
      (ap term.Tuple (erase_each-labels_of (map shared ts) ∙ ap terms_of (erases-shared ts)))

  pub sim_set : (site out index tuple value : ℕ) (env : Env) (regs : Registers)
      → Sim [] (act_on code.atoms pid (r.Setelement site) env
      (map erase (gets (index ∷ tuple ∷ value ∷ []) regs)))
      (does (op.Set site out index tuple value)) (out ∷ []) regs
  sim_set site out index tuple value env regs =
      record {
        go = λ kS hS kT hT h g.
            let new = with_element (regs index) (regs tuple) (regs value) in
            subst (λ o. Follows (attempt (evaluation.answered (built_in.or_badarg o)) kS hS)
            (change site (place site) new (λ t. kT (set out t regs))
            (λ class t. hT class t regs)))
            (setelement_erased (regs index) (regs tuple) (regs value))
            (change_follows site (place site) new kS hS (λ t. kT (set out t regs))
            (λ class t. hT class t regs) (λ t u e. in_register out t u regs kS kT e h)
            (λ class t. g class t regs (λ q o. refl)));
      }

  answer_follows : (a : LabelledAnswer) (a' : Answer) (kS : List Term → evaluation.Doing)
      (hS : Class → Term → evaluation.Doing) (k : Labelled → Doing) (j : Class → Labelled → Doing)
      → erase_answer a ≡ a' → ((t : Labelled) → Follows (kS (erase t ∷ [])) (k t))
      → ((class : Class) (t : Labelled) → Follows (hS class (erase t)) (j class t))
      → Follows (attempt (evaluation.answered a') kS hS) (answered a k j)
  answer_follows a a' kS hS k j e h g = subst
      (λ b. Follows (attempt (evaluation.answered b) kS hS) (answered a k j)) e (go a)
    where
      go : (a : LabelledAnswer) → Follows (attempt (evaluation.answered (erase_answer a)) kS hS)
          (answered a k j)
      go (Value t) = h t
      go (Raises class t) = g class t
      go NoAnswer = tt

  pub sim_bif : (b : Bif) (out : ℕ) (rs : List ℕ) (env : Env) (regs : Registers)
      → Sim [] (act_on code.atoms pid (r.BuiltIn b) env (map erase (gets rs regs)))
      (does (op.Bif out b rs)) (out ∷ []) regs
  sim_bif b out rs env regs =
      record {
        go = λ kS hS kT hT h g.
            answer_follows (labelled_answer code.atoms pid b (gets rs regs))
            (answer code.atoms pid b (map erase (gets rs regs))) kS hS
            (λ t. kT (set out t regs)) (λ class t. hT class t regs)
            (answers_erased code.atoms pid b (gets rs regs))
            (λ t. in_register out t (erase t) regs kS kT refl h)
            (λ class t. g class t regs (λ q o. refl));
      }

  one_follows : (us : List Labelled) (kS : List Term → evaluation.Doing)
      (hS : Class → Term → evaluation.Doing) (k : Labelled → Doing)
      → ((t : Labelled) → Follows (kS (erase t ∷ [])) (k t))
      → Follows (attempt (single give (map erase us)) kS hS) (one_to k us)
  one_follows [] kS hS k h = tt
  one_follows (t ∷ []) kS hS k h = h t
  one_follows (t ∷ u ∷ us) kS hS k h = tt

  pub sim_call : (f out : ℕ) (rs : List ℕ) (env : Env) (regs : Registers)
      → Sim [] (act_on code.atoms pid (r.Function f) env (map erase (gets rs regs)))
      (does (op.Call out f rs)) (out ∷ []) regs
  sim_call f out rs env regs =
      record {
        go = λ kS hS kT hT h g. (
          (refl, refl),
          (λ us. one_follows us kS hS (λ t. kT (set out t regs))
              (λ t. in_register out t (erase t) regs kS kT refl h)),
          (λ class t. g class t regs (λ q o. refl)),
        );
      }

  send_follows : (to t : Labelled) (kS : List Term → evaluation.Doing)
      (hS : Class → Term → evaluation.Doing) (p : Doing) (j : Class → Labelled → Doing)
      → Follows (kS (erase t ∷ [])) p
      → ((class : Class) (u : Labelled) → Follows (hS class (erase u)) (j class u))
      → Follows (attempt (evaluation.send_to (erase to) (erase t)) kS hS) (send to t p j)
  send_follows (l.Pid n) t kS hS p j h g = (ap (Sent n) (erase-shared t), tt, h)
  send_follows (l.Int n) t kS hS p j h g = g Error labelled.badarg
  send_follows (l.Atom n) t kS hS p j h g = g Error labelled.badarg
  send_follows l.Nil t kS hS p j h g = g Error labelled.badarg
  send_follows (l.Cons s c x y) t kS hS p j h g = g Error labelled.badarg
  send_follows (l.Tuple s c ts) t kS hS p j h g = g Error labelled.badarg

  pub sim_send : (node out to message : ℕ) (env : Env) (regs : Registers)
      → Sim [] (act_on code.atoms pid (r.Send node) env (map erase (gets (to ∷ message ∷ []) regs)))
      (does (op.Send node out to message)) (out ∷ []) regs
  sim_send node out to message env regs =
      record {
        go = λ kS hS kT hT h g. send_follows (regs to) (regs message) kS hS
            (kT (set out (regs message) regs)) (λ class t. hT class t regs)
            (in_register out (regs message) (erase (regs message)) regs kS kT refl h)
            (λ class t. g class t regs (λ q o. refl));
      }

  pub sim_show : (node out value : ℕ) (env : Env) (regs : Registers)
      → Sim [] (act_on code.atoms pid (r.Display node) env (map erase (gets (value ∷ []) regs)))
      (does (op.Show out value)) (out ∷ []) regs
  sim_show node out value env regs =
      record {
        go = λ kS hS kT hT h g.
            (refl, tt, in_register out (l.Atom 0) (term.Atom 0) regs kS kT refl h);
      }

  pub sim_spawn : (node f out : ℕ) (rs : List ℕ) (env : Env) (regs : Registers)
      → Sim [] (act_on code.atoms pid (r.Spawn node f) env (map erase (gets rs regs)))
      (does (op.Spawn node out f rs)) (out ∷ []) regs
  sim_spawn node f out rs env regs =
      record {
        go = λ kS hS kT hT h g. (
          ap (Spawned f) (erases-shared (gets rs regs)),
          tt,
          λ child. in_register out (l.Pid child)
              (term.Pid child) regs kS kT refl h,
        );
      }

  -- last parts

  pub sim_tail : (f : ℕ) (rs : List ℕ) (env : Env) (regs : Registers)
      → SimWhole None (act_on code.atoms pid (r.Function f) env (map erase (gets rs regs))) NoParts
      (c.Tail f rs) regs
  sim_tail f rs env regs =
      record {
        go = λ kS hS kT hT h g. (
          (refl, refl),
          (λ us. one_follows us kS hS (λ t. kT (t ∷ []) regs)
              (λ t. h (t ∷ []) regs refl (λ q k. refl))),
          (λ class t. g class t regs (λ q o. refl)),
        );
      }

  pub sim_raise : (values : Values) (class : Class) (reason : ℕ) (env : Env) (regs : Registers)
      → SimWhole values (act_on code.atoms pid (r.Raising class) env
      (map erase (gets (reason ∷ []) regs))) NoParts (c.Raise class reason) regs
  sim_raise values class reason env regs =
      record { go = λ kS hS kT hT h g. g class (regs reason) regs (λ q o. refl) }

  pub sim_fail : (values : Values) (reason : ℕ) (env : Env) (regs : Registers)
      → SimWhole values (act_on code.atoms pid r.MatchFail env
      (map erase (gets (reason ∷ []) regs))) NoParts (c.Fail reason) regs
  sim_fail values reason env regs =
      record {
        go = λ kS hS kT hT h g. subst
            (λ t. Follows (hS Error t) (hT Error (fail_reason (regs reason)) regs))
            (fail_erased (regs reason)) (g Error (fail_reason (regs reason)) regs (λ q o. refl));
      }
