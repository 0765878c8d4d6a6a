-- The check for functions that aren't there is exact.
use Rattle.std.proofs.Common.{◌≡◌, ℕ, zero, suc, ◌<◌, ◌==◌, ◌||◌, not, Bool, true, false, List, [], ◌∷◌, length, Option, Some, None, if◌then◌else◌, ◌⊎◌, inl, inr, refl, sym, ap, ◌∙◌, subst, arith, eq-eqb, eqb-true}
use Rattle.std.proofs.lemmas.Bool.{false_from_ne_true, not_from_false, or_cases, or_from, or_left, or_parts, or_right}
use Rattle.std.specs.List.{Contains, slice_index_or}
use Rattle.std.specs.Prelude.{◌↔◌}
use Rattle.hy_terms.specs.Naming.{text_of}
use Rattle.hy_core.specs.BuiltIn as built
use Rattle.hy_core.specs.BuiltIn.{Operation, Spawns, operation_named}
use Rattle.hy_core.specs.NameFaults.{FitsArity, IsExported, IsUnknownFunction, unknown_name, other_arguments, unknown_call, unknown_spawn, other_parameters}
use Rattle.hy_core.specs.NodeFaults.{IsListOf, no_element, elements}
use Rattle.hy_core.specs.Nodes.{Piece, AnExpr, APattern, FirstPattern, Context, Node, node, is_nil_layer}
use Rattle.hy_core.specs.NodeParts.{atom_layer}
use Rattle.hy_core.specs.Resolve.{is_local}
use Rattle.hy_core.specs.declared.fault.Form.{Form}
use Rattle.hy_core.specs.declared.fault.Form.TheVariants.{Absent}
use Rattle.hy_core.specs.Faults.{fault_of}
use Rattle.hy_core.specs.declared.fault.LintFault.{LintFault}
use Rattle.hy_core.specs.declared.tree.Clause.{Clause}
use Rattle.hy_core.specs.declared.tree.Expr.{Expr}
use Rattle.hy_core.specs.declared.tree.Expr.TheOpen as layer
use Rattle.hy_core.specs.declared.tree.Expr.TheOpen.{Expr-F}
use Rattle.hy_core.specs.declared.tree.Expr.TheVariants as v
use Rattle.hy_core.specs.declared.tree.Expr.TheViews.{out-Expr, roll-Expr, roll-out-Expr, outs-Atom, outs-Nil, outs-Name, outs-List, outs-Apply, outs-Call, outs-Letrec}
use Rattle.hy_core.specs.declared.tree.FunName.{FunName}
use Rattle.hy_core.specs.declared.tree.Function.{Function}
use Rattle.hy_core.specs.declared.tree.Module.{Module}
use Rattle.hy_core.specs.declared.tree.Program.{Program}
use Rattle.core_names.specs.Called.{built_in_as}
use Rattle.core_lint.specs.code.Exports.{ExportTable, has_export}
use Rattle.core_walk.specs.First.{IsFirst, first_in_modules}
use Rattle.core_lint.specs.code.UnknownFunctions.{IsUnknownOf, other_arity, unknown_function, calls_unknown, fits_arity, has_other_parameters, is_spawned_absent, is_unknown_call, is_unknown_name, name_layer, own_names, spawns_unknown, unknown, unknown_layer, written_length}
use Rattle.core_walk.specs.Walk.{form_at, form_if}
use Rattle.core_lint.proofs.Exact.{IsExact, KindFault, in_function, in_node, holding_first}
use Rattle.core_lint.proofs.GuardedExact.{atom-is, is_rolled}
use Rattle.core_walk.proofs.NameCountLemmas.{is_local-Contains, Contains-is_local}
use Rattle.core_lint.proofs.SubsetExact.{nil-is}
use Rattle.core_lint.proofs.RepeatedExact.{form_if-Some}
use Rattle.core_lint.proofs.RepeatedLemmas.{not-true}

name-is : (x : Expr) (f : FunName) → name_layer (out-Expr x) ≡ Some f → x ≡ v.Name f
name-is x f e = by (out-Expr x) refl e
  where
    by : (z : Expr-F Expr Clause Function) → out-Expr x ≡ z → name_layer z ≡ Some f → x ≡ v.Name f
    by (layer.Name g) p e = let s : g ≡ f = cc in is_rolled x (layer.Name g) p ∙ v.rolls-Name g ∙ ap v.Name s
    by _ p e = absurd cc

length-is : (x : Expr) (n : ℕ) → written_length (out-Expr x) ≡ Some n → IsListOf x n
length-is x n e = by (out-Expr x) refl e
  where
    list : (site : ℕ) (heads : List Expr) (tail : Expr) → out-Expr x ≡ layer.List site heads tail → (b : Bool) → is_nil_layer (out-Expr tail) ≡ b → (if b then Some (length heads) else None) ≡ Some n → IsListOf x n
    list site heads tail p true q e =
        let s : length heads ≡ n = cc in
        subst (IsListOf x) s (subst (λ z. IsListOf z (length heads)) (sym (is_rolled x (layer.List site heads tail) p ∙ v.rolls-List site heads tail ∙ ap (v.List site heads) (nil-is tail q))) (elements site heads))
    list site heads tail p false q e = absurd cc

    by : (z : Expr-F Expr Clause Function) → out-Expr x ≡ z → written_length z ≡ Some n → IsListOf x n
    by layer.Nil p e = let s : 0 ≡ n = cc in subst (IsListOf x) s (subst (λ z. IsListOf z 0) (sym (is_rolled x layer.Nil p ∙ v.rolls-Nil)) no_element)
    by (layer.List site heads tail) p e = list site heads tail p (is_nil_layer (out-Expr tail)) refl e
    by _ p e = absurd cc

is-length : (x : Expr) (n : ℕ) → IsListOf x n → written_length (out-Expr x) ≡ Some n
is-length x n no_element = ap written_length outs-Nil
is-length x n (elements site heads) = ap written_length (outs-List site heads v.Nil) ∙ ap (λ y. if is_nil_layer y then Some (length heads) else None) outs-Nil

-- definitions that fit their arities

not-fits : (f : Function) → not (fits_arity f) ≡ true → FitsArity f → ⊥
not-fits f e h = absurd (cc (eq-eqb (length f.params) f.name.arity h, not-true _ e))

fits-not : (f : Function) → (FitsArity f → ⊥) → not (fits_arity f) ≡ true
fits-not f h = not_from_false _ (false_from_ne_true _ (λ e. h (eqb-true (length f.params) f.name.arity e)))

parameters-found : (fs : List Function) → has_other_parameters fs ≡ true → (f : Function) × Contains fs f × (FitsArity f → ⊥)
parameters-found [] e = absurd cc
parameters-found (f ∷ fs) e = by (or_cases (not (fits_arity f)) (has_other_parameters fs) e) (parameters-found fs)
  where
    by : (not (fits_arity f) ≡ true) ⊎ (has_other_parameters fs ≡ true) → (has_other_parameters fs ≡ true → (g : Function) × Contains fs g × (FitsArity g → ⊥)) → (g : Function) × Contains (f ∷ fs) g × (FitsArity g → ⊥)
    by (inl p) later = (f, (0, omega arith, refl), not-fits f p)
    by (inr p) later = let h = later p in (h.0, (suc h.1.0, omega (arith, h.1.1), h.1.2), h.2)

parameters-kept : (f : Function) → not (fits_arity f) ≡ true → (fs : List Function) (k : ℕ) → k < length fs → slice_index_or fs k f ≡ f → has_other_parameters fs ≡ true
parameters-kept f e [] k below is = absurd (omega arith)
parameters-kept f e (g ∷ fs) zero below is = or_left (not (fits_arity g)) (has_other_parameters fs) (ap (λ h. not (fits_arity h)) is ∙ e)
parameters-kept f e (g ∷ fs) (suc k) below is = or_right (not (fits_arity g)) (has_other_parameters fs) (parameters-kept f e fs k (omega arith) is)

-- no function has the fault but one that doesn't fit its arity
abbrev pub OtherArity : Module → ℕ → Function → Type 0
OtherArity m j f = FitsArity f → ⊥

module _ (program : Program) where
  abbrev pub UnknownAt : Module → Node → Form → Type 0
  UnknownAt m n form = IsUnknownFunction program m n × (form ≡ Absent)

  unknown_from : (x : LintFault) → KindFault UnknownAt OtherArity program 6 x → IsUnknownOf program x
  unknown_from x (in_function around h) = other_arity around h
  unknown_from x (in_node {i = i} {j = j} {k = k} stands h) = subst (λ form. IsUnknownOf program (fault_of 6 i j k form)) (sym h.1) (unknown_function stands h.0)

  unknown_to : (x : LintFault) → IsUnknownOf program x → KindFault UnknownAt OtherArity program 6 x
  unknown_to x (other_arity around h) = in_function around h
  unknown_to x (unknown_function stands h) = in_node stands (h, refl)

  module _ (table : ExportTable) (right : (a b : List ℕ) (n : ℕ) → (has_export table a b n ≡ true) ↔ IsExported program a b n) where
    not-exported : (a b : List ℕ) (n : ℕ) → not (has_export table a b n) ≡ true → IsExported program a b n → ⊥
    not-exported a b n e h = absurd (cc ((right a b n).1 h, not-true _ e))

    exported-not : (a b : List ℕ) (n : ℕ) → (IsExported program a b n → ⊥) → not (has_export table a b n) ≡ true
    exported-not a b n h = not_from_false _ (false_from_ne_true _ (λ e. h ((right a b n).0 e)))

    apply_at : (m : Module) (what : Expr) (args : List Expr) (c : Context) → is_unknown_name c.locals (own_names m) (length args) (name_layer (out-Expr what)) ≡ true
        → IsUnknownFunction program m (node (AnExpr (v.Apply what args)) c)
    apply_at m what args c e = by (name_layer (out-Expr what)) refl e
      where
        named : (f : FunName) → (not (is_local f c.locals || is_local f (own_names m)) ≡ true) ⊎ (not (length args == f.arity) ≡ true) → IsUnknownFunction program m (node (AnExpr (v.Apply (v.Name f) args)) c)
        named f (inl absent) =
            let p = or_parts (is_local f c.locals) (is_local f (own_names m)) (not-true _ absent) in
            unknown_name f args (λ h. absurd (cc (Contains-is_local c.locals f h, p.0))) (λ h. absurd (cc (Contains-is_local (own_names m) f h, p.1)))
        named f (inr other) = other_arguments f args (λ s. absurd (cc (eq-eqb (length args) f.arity s, not-true _ other)))

        by : (o : Option FunName) → name_layer (out-Expr what) ≡ o → is_unknown_name c.locals (own_names m) (length args) o ≡ true → IsUnknownFunction program m (node (AnExpr (v.Apply what args)) c)
        by None p e = absurd cc
        by (Some f) p e =
            subst (λ x. IsUnknownFunction program m (node (AnExpr (v.Apply x args)) c)) (sym (name-is what f p))
            (named f (or_cases (not (is_local f c.locals || is_local f (own_names m))) (not (length args == f.arity)) e))

    spawn_at : (m : Module) (a b : ℕ) (args : List Expr) (c : Context) → operation_named (text_of m.atoms a) (text_of m.atoms b) (length args) ≡ Some Spawns → spawns_unknown table m args ≡ true
        → IsUnknownFunction program m (node (AnExpr (v.Call (v.Atom a) (v.Atom b) args)) c)
    spawn_at m a b [] c op e = absurd cc
    spawn_at m a b (x ∷ []) c op e = absurd cc
    spawn_at m a b (x ∷ y ∷ []) c op e = absurd cc
    spawn_at m a b (x ∷ y ∷ list ∷ []) c op e = by (atom_layer (out-Expr x)) refl (atom_layer (out-Expr y)) refl (written_length (out-Expr list)) refl e
      where
        by : (s : Option ℕ) → atom_layer (out-Expr x) ≡ s → (t : Option ℕ) → atom_layer (out-Expr y) ≡ t → (n : Option ℕ) → written_length (out-Expr list) ≡ n → is_spawned_absent table m s t n ≡ true
            → IsUnknownFunction program m (node (AnExpr (v.Call (v.Atom a) (v.Atom b) (x ∷ y ∷ list ∷ []))) c)
        by (Some s) p (Some t) q (Some n) r e =
            subst (λ x. IsUnknownFunction program m (node (AnExpr (v.Call (v.Atom a) (v.Atom b) (x ∷ y ∷ list ∷ []))) c)) (sym (atom-is x s p))
            (subst (λ y. IsUnknownFunction program m (node (AnExpr (v.Call (v.Atom a) (v.Atom b) (v.Atom s ∷ y ∷ list ∷ []))) c)) (sym (atom-is y t q))
            (unknown_spawn a b s t n list op (length-is list n r) (not-exported (text_of m.atoms s) (text_of m.atoms t) n e)))
        by (Some s) p (Some t) q None r e = absurd cc
        by (Some s) p None q n r e = absurd cc
        by None p t q n r e = absurd cc
    spawn_at m a b (x ∷ y ∷ list ∷ z ∷ zs) c op e = absurd cc

    call_at : (m : Module) (x y : Expr) (args : List Expr) (c : Context) → calls_unknown table m (atom_layer (out-Expr x)) (atom_layer (out-Expr y)) args ≡ true
        → IsUnknownFunction program m (node (AnExpr (v.Call x y args)) c)
    call_at m x y args c e = by (atom_layer (out-Expr x)) refl (atom_layer (out-Expr y)) refl e
      where
        does : (a b : ℕ) (o : Option Operation) → operation_named (text_of m.atoms a) (text_of m.atoms b) (length args) ≡ o → is_unknown_call table m a b args (built_in_as o) ≡ true
            → IsUnknownFunction program m (node (AnExpr (v.Call (v.Atom a) (v.Atom b) args)) c)
        does a b None p e = unknown_call a b args p (not-exported (text_of m.atoms a) (text_of m.atoms b) (length args) e)
        does a b (Some (built.Plain f)) p e = absurd cc
        does a b (Some built.SetsElement) p e = absurd cc
        does a b (Some built.Sends) p e = absurd cc
        does a b (Some built.Spawns) p e = spawn_at m a b args c p e
        does a b (Some built.Displays) p e = absurd cc
        does a b (Some (built.RaisesAs class)) p e = absurd cc

        by : (a : Option ℕ) → atom_layer (out-Expr x) ≡ a → (b : Option ℕ) → atom_layer (out-Expr y) ≡ b → calls_unknown table m a b args ≡ true → IsUnknownFunction program m (node (AnExpr (v.Call x y args)) c)
        by (Some a) p (Some b) q e =
            subst (λ x. IsUnknownFunction program m (node (AnExpr (v.Call x y args)) c)) (sym (atom-is x a p))
            (subst (λ y. IsUnknownFunction program m (node (AnExpr (v.Call (v.Atom a) y args)) c)) (sym (atom-is y b q))
            (does a b (operation_named (text_of m.atoms a) (text_of m.atoms b) (length args)) refl e))
        by (Some a) p None q e = absurd cc
        by None p b q e = absurd cc

    at_layer : (m : Module) (y : Expr-F Expr Clause Function) (c : Context) (form : Form) → unknown_layer table m (own_names m) c y ≡ Some form → UnknownAt m (node (AnExpr (roll-Expr y)) c) form
    at_layer m (layer.Apply what args) c form e =
        let h = form_if-Some (is_unknown_name c.locals (own_names m) (length args) (name_layer (out-Expr what))) form e in
        (subst (λ z. IsUnknownFunction program m (node (AnExpr z) c)) (sym (v.rolls-Apply what args)) (apply_at m what args c h.0), h.1)
    at_layer m (layer.Call x y args) c form e =
        let h = form_if-Some (calls_unknown table m (atom_layer (out-Expr x)) (atom_layer (out-Expr y)) args) form e in
        (subst (λ z. IsUnknownFunction program m (node (AnExpr z) c)) (sym (v.rolls-Call x y args)) (call_at m x y args c h.0), h.1)
    at_layer m (layer.Letrec fs x) c form e =
        let h = form_if-Some (has_other_parameters fs) form e in
        let p = parameters-found fs h.0 in
        (subst (λ z. IsUnknownFunction program m (node (AnExpr z) c)) (sym (v.rolls-Letrec fs x)) (other_parameters p.0 fs x p.1 p.2), h.1)
    at_layer m _ c form e = absurd cc

    sound : (m : Module) (piece : Piece) (c : Context) (form : Form) → form_at (unknown table own_names) m (node piece c) ≡ Some form → UnknownAt m (node piece c) form
    sound m (AnExpr x) c form e = subst (λ z. UnknownAt m (node (AnExpr z) c) form) (roll-out-Expr x) (at_layer m (out-Expr x) c form e)
    sound m (APattern p) c form e = absurd cc
    sound m (FirstPattern ps) c form e = absurd cc

    -- the layer of a call of two atoms
    call_layer : (m : Module) (c : Context) (a b : ℕ) (args : List Expr) (o : Option Operation) → operation_named (text_of m.atoms a) (text_of m.atoms b) (length args) ≡ o
        → unknown_layer table m (own_names m) c (out-Expr (v.Call (v.Atom a) (v.Atom b) args)) ≡ form_if (is_unknown_call table m a b args (built_in_as o))
    call_layer m c a b args o op =
        ap (unknown_layer table m (own_names m) c) (outs-Call (v.Atom a) (v.Atom b) args)
        ∙ ap (λ z. form_if (calls_unknown table m (atom_layer z) (atom_layer (out-Expr (v.Atom b))) args)) (outs-Atom a)
        ∙ ap (λ z. form_if (calls_unknown table m (Some a) (atom_layer z) args)) (outs-Atom b)
        ∙ ap (λ o. form_if (is_unknown_call table m a b args (built_in_as o))) op

    name_layer-shown : (m : Module) (c : Context) (f : FunName) (args : List Expr)
        → unknown_layer table m (own_names m) c (out-Expr (v.Apply (v.Name f) args)) ≡ form_if (is_unknown_name c.locals (own_names m) (length args) (Some f))
    name_layer-shown m c f args =
        ap (unknown_layer table m (own_names m) c) (outs-Apply (v.Name f) args)
        ∙ ap (λ z. form_if (is_unknown_name c.locals (own_names m) (length args) (name_layer z))) (outs-Name f)

    complete : (m : Module) (n : Node) → IsUnknownFunction program m n → form_at (unknown table own_names) m n ≡ Some Absent
    complete m n (unknown_name {c = c} f args p q) =
        let here = false_from_ne_true (is_local f c.locals) (λ e. p (is_local-Contains c.locals f e)) in
        let there = false_from_ne_true (is_local f (own_names m)) (λ e. q (is_local-Contains (own_names m) f e)) in
        name_layer-shown m c f args
        ∙ ap form_if (or_left (not (is_local f c.locals || is_local f (own_names m))) (not (length args == f.arity)) (not_from_false _ (or_from (is_local f c.locals) (is_local f (own_names m)) here there)))
    complete m n (other_arguments {c = c} f args h) =
        name_layer-shown m c f args
        ∙ ap form_if (or_right (not (is_local f c.locals || is_local f (own_names m))) (not (length args == f.arity)) (not_from_false _ (false_from_ne_true _ (λ e. h (eqb-true (length args) f.arity e)))))
    complete m n (unknown_call {c = c} a b args op h) = call_layer m c a b args None op ∙ ap form_if (exported-not (text_of m.atoms a) (text_of m.atoms b) (length args) h)
    complete m n (unknown_spawn {c = c} a b x y k list op l h) =
        call_layer m c a b (v.Atom x ∷ v.Atom y ∷ list ∷ []) (Some Spawns) op
        ∙ ap (λ z. form_if (is_spawned_absent table m (atom_layer z) (atom_layer (out-Expr (v.Atom y))) (written_length (out-Expr list)))) (outs-Atom x)
        ∙ ap (λ z. form_if (is_spawned_absent table m (Some x) (atom_layer z) (written_length (out-Expr list)))) (outs-Atom y)
        ∙ ap (λ z. form_if (is_spawned_absent table m (Some x) (Some y) z)) (is-length list k l)
        ∙ ap form_if (exported-not (text_of m.atoms x) (text_of m.atoms y) k h)
    complete m n (other_parameters {c = c} f fs x h p) = ap (unknown_layer table m (own_names m) c) (outs-Letrec fs x) ∙ ap form_if (parameters-kept f (fits-not f p) fs h.0 h.1 h.2)

    unknown_exact : IsExact (unknown table own_names) UnknownAt OtherArity
    unknown_exact = record {
      node_sound = λ m n form e. sound m n.piece n.context form e;
      node_complete = λ m n form h. (Absent, complete m n h.0, omega arith);
      function_sound = λ m j f e. not-fits f e;
      function_complete = λ m j f h. fits-not f h;
    }

    pub unknown_first : IsFirst (IsUnknownOf program) (first_in_modules (unknown table own_names) 6 0 program.given)
    unknown_first = holding_first (unknown table own_names) UnknownAt OtherArity unknown_exact program 6 (IsUnknownOf program) unknown_from unknown_to
