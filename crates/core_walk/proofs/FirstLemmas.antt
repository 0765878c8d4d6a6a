-- What a check finds first is the first that it shows.
use Rattle.std.proofs.Common.{◌≡◌, ℕ, zero, suc, ◌+◌, ◌<◌, ◌≤◌, ◌⊎◌, inl, inr, Bool, true, false, if◌then◌else◌, List, [], ◌∷◌, Option, Some, None, slice_get, refl, sym, ap, ◌∙◌, subst, arith}
use Rattle.hy_core.specs.Faults.{fault, fault_of, IsGivenFunction, IsUpTo, at_end, lower, same, form_place, order_of}
use Rattle.hy_core.specs.Nodes.{Node, nodes_of}
use Rattle.hy_core.specs.declared.fault.Form.{Form}
use Rattle.hy_core.specs.declared.fault.Form.TheVariants.{Absent}
use Rattle.hy_core.specs.declared.fault.LintFault.{LintFault}
use Rattle.hy_core.specs.declared.tree.Function.{Function}
use Rattle.hy_core.specs.declared.tree.Module.{Module}
use Rattle.hy_core.specs.declared.tree.Program.{Program}
use Rattle.core_walk.specs.First.{IsFirst, IsShown, by_function, by_node, fault_or, first_in_functions, first_in_modules, function_outcome, or_later}
use Rattle.core_walk.specs.Walk.{Forms, Outcome, Passed, Fails, form_at, looked, walked}

pub upto_same : (xs : List ℕ) → IsUpTo xs xs
upto_same [] = at_end
upto_same (x ∷ xs) = same (upto_same xs)

pub upto_trans : {xs ys zs : List ℕ} → IsUpTo xs ys → IsUpTo ys zs → IsUpTo xs zs
upto_trans at_end q = at_end
upto_trans (lower p) (lower q) = lower (omega arith)
upto_trans (lower p) (same q) = lower p
upto_trans (same p) (lower q) = lower q
upto_trans (same p) (same q) = same (upto_trans p q)

-- two forms at one place, of which the first is the lesser
pub upto_last : (x y : ℕ) → x ≤ y → IsUpTo (x ∷ []) (y ∷ [])
upto_last x y h = by (split x y h)
  where
    by : (x < y) ⊎ (x ≡ y) → IsUpTo (x ∷ []) (y ∷ [])
    by (inl less) = lower less
    by (inr e) = subst (λ z. IsUpTo (x ∷ []) (z ∷ [])) e (upto_same (x ∷ []))

    split : (x y : ℕ) → x ≤ y → (x < y) ⊎ (x ≡ y)
    split zero zero h = inr refl
    split zero (suc y) h = inl (omega arith)
    split (suc x) zero h = absurd (omega arith)
    split (suc x) (suc y) h = elim (split x y (omega arith)) [ inl less ↦ inl (omega arith) | inr e ↦ inr (ap suc e) ]

-- nodes from number k on, of which the one of number q has this form
data NodeAt (check : Node → Option Form) : ℕ → List Node → ℕ → Form → Type 0 where
  this_node : {k : ℕ} {n : Node} {ns : List Node} {form : Form} → check n ≡ Some form → NodeAt check k (n ∷ ns) k form
  later_node : {k q : ℕ} {n : Node} {ns : List Node} {form : Form} → NodeAt check (suc k) ns q form → NodeAt check k (n ∷ ns) q form

-- an outcome is the first that holds
abbrev IsFirstNode : (ℕ → Form → Type 0) → Outcome → Type 0
IsFirstNode Holds (Passed next) = (k : ℕ) (form : Form) → Holds k form → ⊥
IsFirstNode Holds (Fails q form) = Holds q form × ((k : ℕ) (other : Form) → Holds k other → IsUpTo (q ∷ form_place form ∷ []) (k ∷ form_place other ∷ []))

node_behind : {check : Node → Option Form} {k q : ℕ} {ns : List Node} {form : Form} → NodeAt check k ns q form → k ≤ q
node_behind (this_node e) = omega arith
node_behind (later_node h) = omega (arith, node_behind h)

nodes_first : (check : Node → Option Form) (ns : List Node) (k : ℕ) → IsFirstNode (NodeAt check k ns) (walked check ns k)
nodes_first check [] k = λ q form h. elim h [ ]
nodes_first check (n ∷ ns) k = by (check n) refl (walked check ns (suc k)) (nodes_first check ns (suc k))
  where
    least : (form : Form) → check n ≡ Some form → (q : ℕ) (other : Form) → NodeAt check k (n ∷ ns) q other → IsUpTo (k ∷ form_place form ∷ []) (q ∷ form_place other ∷ [])
    least form e q other (this_node p) = let s : form ≡ other = cc in subst (λ o. IsUpTo (k ∷ form_place form ∷ []) (k ∷ form_place o ∷ [])) s (upto_same _)
    least form e q other (later_node h) = lower (omega (arith, node_behind h))

    none_here : check n ≡ None → ((q : ℕ) (form : Form) → NodeAt check (suc k) ns q form → ⊥) → (q : ℕ) (form : Form) → NodeAt check k (n ∷ ns) q form → ⊥
    none_here e h q form (this_node s) = absurd (cc (e, s))
    none_here e h q form (later_node l) = h q form l

    least_later : check n ≡ None → (p : ℕ) (form : Form) → ((q : ℕ) (other : Form) → NodeAt check (suc k) ns q other → IsUpTo (p ∷ form_place form ∷ []) (q ∷ form_place other ∷ []))
        → (q : ℕ) (other : Form) → NodeAt check k (n ∷ ns) q other → IsUpTo (p ∷ form_place form ∷ []) (q ∷ form_place other ∷ [])
    least_later e p form h q other (this_node s) = absurd (cc (e, s))
    least_later e p form h q other (later_node l) = h q other l

    by : (o : Option Form) → check n ≡ o → (rest : Outcome) → IsFirstNode (NodeAt check (suc k) ns) rest → IsFirstNode (NodeAt check k (n ∷ ns)) (looked o k rest)
    by (Some form) e rest h = (this_node e, least form e)
    by None e (Passed next) h = none_here e h
    by None e (Fails q form) h = (later_node h.0, least_later e q form h.1)

module _ (forms : Forms) where
  -- a function shows a fault at this node
  data InFunction (m : Module) (j : ℕ) (f : Function) : ℕ → Form → Type 0 where
    whole : forms.of_function m j f ≡ true → InFunction m j f 0 Absent
    part : {k : ℕ} {form : Form} → NodeAt (form_at forms m) 0 (nodes_of f) k form → InFunction m j f k form

  function_first : (m : Module) (j : ℕ) (f : Function) → IsFirstNode (InFunction m j f) (function_outcome forms m j f)
  function_first m j f = by (forms.of_function m j f) refl (walked (form_at forms m) (nodes_of f) 0) (nodes_first (form_at forms m) (nodes_of f) 0)
    where
      least : (k : ℕ) (other : Form) → IsUpTo (0 ∷ 0 ∷ []) (k ∷ form_place other ∷ [])
      least zero other = same (upto_last 0 (form_place other) (omega arith))
      least (suc k) other = lower (omega arith)

      none_here : forms.of_function m j f ≡ false → ((k : ℕ) (form : Form) → NodeAt (form_at forms m) 0 (nodes_of f) k form → ⊥) → (k : ℕ) (form : Form) → InFunction m j f k form → ⊥
      none_here e h k form (whole s) = absurd (cc (e, s))
      none_here e h k form (part p) = h k form p

      least_part : forms.of_function m j f ≡ false → (q : ℕ) (form : Form) → ((k : ℕ) (other : Form) → NodeAt (form_at forms m) 0 (nodes_of f) k other → IsUpTo (q ∷ form_place form ∷ []) (k ∷ form_place other ∷ []))
          → (k : ℕ) (other : Form) → InFunction m j f k other → IsUpTo (q ∷ form_place form ∷ []) (k ∷ form_place other ∷ [])
      least_part e q form h k other (whole s) = absurd (cc (e, s))
      least_part e q form h k other (part p) = h k other p

      by : (b : Bool) → forms.of_function m j f ≡ b → (rest : Outcome) → IsFirstNode (NodeAt (form_at forms m) 0 (nodes_of f)) rest → IsFirstNode (InFunction m j f) (if b then Fails 0 Absent else rest)
      by true e rest h = (whole e, λ k other p. least k other)
      by false e (Passed next) h = none_here e h
      by false e (Fails q form) h = (part h.0, least_part e q form h.1)

  module _ (kind : ℕ) where
    -- functions of a module from place j on, of which one shows this fault
    data InFunctions (i : ℕ) (m : Module) : ℕ → List Function → LintFault → Type 0 where
      this_function : {j k : ℕ} {f : Function} {fs : List Function} {form : Form} → InFunction m j f k form → InFunctions i m j (f ∷ fs) (fault_of kind i j k form)
      later_function : {j : ℕ} {f : Function} {fs : List Function} {x : LintFault} → InFunctions i m (suc j) fs x → InFunctions i m j (f ∷ fs) x

    behind_function : {i : ℕ} {m : Module} (j k : ℕ) (form : Form) {d : ℕ} {fs : List Function} {x : LintFault} → j < d → InFunctions i m d fs x → IsUpTo (order_of (fault_of kind i j k form)) (order_of x)
    behind_function j k form below (this_function h) = same (same (lower below))
    behind_function j k form below (later_function h) = behind_function j k form (omega (arith, below)) h

    functions_first : (i : ℕ) (m : Module) (j : ℕ) (fs : List Function) → IsFirst (InFunctions i m j fs) (first_in_functions forms kind i m j fs)
    functions_first i m j [] = none
      where
        none : (x : LintFault) → InFunctions i m j [] x → ⊥
        none x h = elim h [ ]
    functions_first i m j (f ∷ fs) = by (function_outcome forms m j f) (function_first m j f) (first_in_functions forms kind i m (suc j) fs) (functions_first i m (suc j) fs)
      where
        least : (q : ℕ) (form : Form) → ((k : ℕ) (other : Form) → InFunction m j f k other → IsUpTo (q ∷ form_place form ∷ []) (k ∷ form_place other ∷ []))
            → (x : LintFault) → InFunctions i m j (f ∷ fs) x → IsUpTo (order_of (fault_of kind i j q form)) (order_of x)
        least q form h x (this_function p) = same (same (same (h _ _ p)))
        least q form h x (later_function p) = behind_function j q form (omega arith) p

        none : ((k : ℕ) (form : Form) → InFunction m j f k form → ⊥) → ((x : LintFault) → InFunctions i m (suc j) fs x → ⊥) → (x : LintFault) → InFunctions i m j (f ∷ fs) x → ⊥
        none h l x (this_function p) = h _ _ p
        none h l x (later_function p) = l x p

        least_later : ((k : ℕ) (form : Form) → InFunction m j f k form → ⊥) → (y : LintFault) → ((x : LintFault) → InFunctions i m (suc j) fs x → IsUpTo (order_of y) (order_of x))
            → (x : LintFault) → InFunctions i m j (f ∷ fs) x → IsUpTo (order_of y) (order_of x)
        least_later h y l x (this_function p) = absurd (h _ _ p)
        least_later h y l x (later_function p) = l x p

        by : (o : Outcome) → IsFirstNode (InFunction m j f) o → (rest : Option LintFault) → IsFirst (InFunctions i m (suc j) fs) rest → IsFirst (InFunctions i m j (f ∷ fs)) (fault_or kind i j o rest)
        by (Fails q form) h rest l = (this_function h.0, least q form h.1)
        by (Passed next) h None l = none h l
        by (Passed next) h (Some y) l = (later_function l.0, least_later h y l.1)

    -- modules from place i on, of which one shows this fault
    data InModules : ℕ → List Module → LintFault → Type 0 where
      this_module : {i : ℕ} {m : Module} {ms : List Module} {x : LintFault} → InFunctions i m 0 m.functions x → InModules i (m ∷ ms) x
      later_module : {i : ℕ} {m : Module} {ms : List Module} {x : LintFault} → InModules (suc i) ms x → InModules i (m ∷ ms) x

    -- a fault of this kind in this module
    record IsIn (i : ℕ) (x : LintFault) : Type 0 where
      of_kind : x.kind ≡ kind
      of_module : x.«module» ≡ i

    functions_in : {i : ℕ} {m : Module} {j : ℕ} {fs : List Function} {x : LintFault} → InFunctions i m j fs x → IsIn i x
    functions_in (this_function h) = record { of_kind = refl; of_module = refl }
    functions_in (later_function h) = functions_in h

    before_module : {i d : ℕ} (x y : LintFault) → IsIn i x → IsIn d y → i < d → IsUpTo (order_of x) (order_of y)
    before_module x y p q below = subst (λ n. IsUpTo (order_of x) (n ∷ y.«module» ∷ y.function ∷ y.node ∷ form_place y.form ∷ [])) (p.of_kind ∙ sym q.of_kind) (same (lower (omega (arith, below, p.of_module, q.of_module))))

    behind_module : {i d : ℕ} {ms : List Module} (x y : LintFault) → IsIn i x → i < d → InModules d ms y → IsUpTo (order_of x) (order_of y)
    behind_module x y p below (this_module h) = before_module x y p (functions_in h) below
    behind_module x y p below (later_module h) = behind_module x y p (omega (arith, below)) h

    modules_first : (i : ℕ) (ms : List Module) → IsFirst (InModules i ms) (first_in_modules forms kind i ms)
    modules_first i [] = none
      where
        none : (x : LintFault) → InModules i [] x → ⊥
        none x h = elim h [ ]
    modules_first i (m ∷ ms) = by (first_in_functions forms kind i m 0 m.functions) (functions_first i m 0 m.functions) (first_in_modules forms kind (suc i) ms) (modules_first (suc i) ms)
      where
        least : (y : LintFault) → InFunctions i m 0 m.functions y → ((x : LintFault) → InFunctions i m 0 m.functions x → IsUpTo (order_of y) (order_of x)) → (x : LintFault) → InModules i (m ∷ ms) x → IsUpTo (order_of y) (order_of x)
        least y here h x (this_module p) = h x p
        least y here h x (later_module p) = behind_module y x (functions_in here) (omega arith) p

        none : ((x : LintFault) → InFunctions i m 0 m.functions x → ⊥) → ((x : LintFault) → InModules (suc i) ms x → ⊥) → (x : LintFault) → InModules i (m ∷ ms) x → ⊥
        none h l x (this_module p) = h x p
        none h l x (later_module p) = l x p

        least_later : ((x : LintFault) → InFunctions i m 0 m.functions x → ⊥) → (y : LintFault) → ((x : LintFault) → InModules (suc i) ms x → IsUpTo (order_of y) (order_of x)) → (x : LintFault) → InModules i (m ∷ ms) x → IsUpTo (order_of y) (order_of x)
        least_later h y l x (this_module p) = absurd (h x p)
        least_later h y l x (later_module p) = l x p

        by : (o : Option LintFault) → IsFirst (InFunctions i m 0 m.functions) o → (rest : Option LintFault) → IsFirst (InModules (suc i) ms) rest → IsFirst (InModules i (m ∷ ms)) (or_later o rest)
        by (Some y) h rest l = (this_module h.0, least y h.0 h.1)
        by None h None l = none h l
        by None h (Some y) l = (later_module l.0, least_later h y l.1)

    -- from lists to places and back

    node_from : {check : Node → Option Form} {k q : ℕ} {ns : List Node} {form : Form} → NodeAt check k ns q form → (d : ℕ) × (n : Node) × (q ≡ k + d) × (slice_get ns d ≡ Some n) × (check n ≡ Some form)
    node_from {k = k} (this_node {n = n} e) = (0, n, omega arith, refl, e)
    node_from (later_node h) = let r = node_from h in (suc r.0, r.1, omega (arith, r.2), r.3, r.4)

    node_to : (check : Node → Option Form) (k : ℕ) (ns : List Node) (d : ℕ) (n : Node) (form : Form) → slice_get ns d ≡ Some n → check n ≡ Some form → NodeAt check k ns (k + d) form
    node_to check k [] d n form at e = absurd cc
    node_to check k (x ∷ ns) zero n form at e =
        let s : x ≡ n = cc in
        subst (λ q. NodeAt check k (x ∷ ns) q form) (omega arith) (this_node (ap check s ∙ e))
    node_to check k (x ∷ ns) (suc d) n form at e = subst (λ q. NodeAt check k (x ∷ ns) q form) (omega arith) (later_node (node_to check (suc k) ns d n form at e))

    functions_from : {i : ℕ} {m : Module} {j : ℕ} {fs : List Function} {x : LintFault} → InFunctions i m j fs x
        → (d : ℕ) × (f : Function) × (k : ℕ) × (form : Form) × (slice_get fs d ≡ Some f) × (x ≡ fault_of kind i (j + d) k form) × InFunction m (j + d) f k form
    functions_from {i = i} {m = m} {j = j} (this_function {k = k} {f = f} {form = form} h) =
        let z : j ≡ j + 0 = omega arith in
        (0, f, k, form, refl, ap (λ n. fault_of kind i n k form) z, subst (λ n. InFunction m n f k form) z h)
    functions_from {i = i} {m = m} {j = j} (later_function h) =
        let r = functions_from h in
        let z : suc j + r.0 ≡ j + suc r.0 = omega arith in
        (suc r.0, r.1, r.2, r.3, r.4, r.5 ∙ ap (λ n. fault_of kind i n r.2 r.3) z, subst (λ n. InFunction m n r.1 r.2 r.3) z r.6)

    functions_to : (i : ℕ) (m : Module) (j : ℕ) (fs : List Function) (d : ℕ) (f : Function) (k : ℕ) (form : Form) → slice_get fs d ≡ Some f → InFunction m (j + d) f k form → InFunctions i m j fs (fault_of kind i (j + d) k form)
    functions_to i m j [] d f k form at h = absurd cc
    functions_to i m j (g ∷ fs) zero f k form at h =
        let s : f ≡ g = cc in
        let z : j + 0 ≡ j = omega arith in
        subst (λ n. InFunctions i m j (g ∷ fs) (fault_of kind i n k form)) (sym z) (this_function (subst (λ f. InFunction m j f k form) s (subst (λ n. InFunction m n f k form) z h)))
    functions_to i m j (g ∷ fs) (suc d) f k form at h =
        let z : j + suc d ≡ suc j + d = omega arith in
        subst (λ n. InFunctions i m j (g ∷ fs) (fault_of kind i n k form)) (sym z) (later_function (functions_to i m (suc j) fs d f k form at (subst (λ n. InFunction m n f k form) z h)))

    modules_from : {i : ℕ} {ms : List Module} {x : LintFault} → InModules i ms x → (d : ℕ) × (m : Module) × (slice_get ms d ≡ Some m) × InFunctions (i + d) m 0 m.functions x
    modules_from {i = i} {x = x} (this_module {m = m} h) = let z : i ≡ i + 0 = omega arith in (0, m, refl, subst (λ n. InFunctions n m 0 m.functions x) z h)
    modules_from {i = i} {x = x} (later_module h) =
        let r = modules_from h in
        let z : suc i + r.0 ≡ i + suc r.0 = omega arith in
        (suc r.0, r.1, r.2, subst (λ n. InFunctions n r.1 0 r.1.functions x) z r.3)

    modules_to : (i : ℕ) (ms : List Module) (d : ℕ) (m : Module) (x : LintFault) → slice_get ms d ≡ Some m → InFunctions (i + d) m 0 m.functions x → InModules i ms x
    modules_to i [] d m x at h = absurd cc
    modules_to i (n ∷ ms) zero m x at h =
        let s : m ≡ n = cc in
        let z : i + 0 ≡ i = omega arith in
        this_module (subst (λ m. InFunctions i m 0 m.functions x) s (subst (λ k. InFunctions k m 0 m.functions x) z h))
    modules_to i (n ∷ ms) (suc d) m x at h = let z : i + suc d ≡ suc i + d = omega arith in later_module (modules_to (suc i) ms d m x at (subst (λ k. InFunctions k m 0 m.functions x) z h))

    shown_from : (program : Program) (x : LintFault) → InModules 0 program.given x → IsShown forms program kind x
    shown_from program x h =
        let r = modules_from h in
        let i = 0 + r.0 in
        let z : i ≡ r.0 = omega arith in
        in_functions r.0 r.1 x r.2 (subst (λ n. InFunctions n r.1 0 r.1.functions x) z r.3)
      where
        at : (i j k : ℕ) (m : Module) (f : Function) (form : Form) → IsGivenFunction program i j m f → InFunction m j f k form → IsShown forms program kind (fault_of kind i j k form)
        at i j k m f form around (whole e) = by_function around e
        at i j k m f form around (part p) =
            let r = node_from p in
            let z : 0 + r.0 ≡ k = omega (arith, r.2) in
            let y : r.0 ≡ k = omega (arith, r.2) in
            by_node (record { f = f; around = around; stands = subst (λ d. slice_get (nodes_of f) d ≡ Some r.1) y r.3 }) r.4

        in_functions : (i : ℕ) (m : Module) (x : LintFault) → slice_get program.given i ≡ Some m → InFunctions i m 0 m.functions x → IsShown forms program kind x
        in_functions i m x given h =
            let r = functions_from h in
            let z : 0 + r.0 ≡ r.0 = omega arith in
            subst (λ x. IsShown forms program kind x) (sym (r.5 ∙ ap (λ j. fault_of kind i j r.2 r.3) z))
            (at i r.0 r.2 m r.1 r.3 (record { given = given; defined = r.4 }) (subst (λ j. InFunction m j r.1 r.2 r.3) z r.6))

    placed : (program : Program) (i j k : ℕ) (m : Module) (f : Function) (form : Form) → IsGivenFunction program i j m f → InFunction m j f k form → InModules 0 program.given (fault_of kind i j k form)
    placed program i j k m f form around h =
        let y : j ≡ 0 + j = omega arith in
        let z : i ≡ 0 + i = omega arith in
        let inside = functions_to i m 0 m.functions j f k form around.defined (subst (λ n. InFunction m n f k form) y h) in
        modules_to 0 program.given i m (fault_of kind i j k form) around.given
        (subst (λ n. InFunctions n m 0 m.functions (fault_of kind i j k form)) z (subst (λ n. InFunctions i m 0 m.functions (fault_of kind i n k form)) (sym y) inside))

    shown_to : (program : Program) (x : LintFault) → IsShown forms program kind x → InModules 0 program.given x
    shown_to program x (by_function {i = i} {j = j} {m = m} {f = f} around e) = placed program i j 0 m f Absent around (whole e)
    shown_to program x (by_node {i = i} {j = j} {k = k} {m = m} {n = n} {form = form} stands e) = placed program i j k m stands.f form stands.around (part at)
      where
        at : NodeAt (form_at forms m) 0 (nodes_of stands.f) k form
        at = let z : 0 + k ≡ k = omega arith in subst (λ q. NodeAt (form_at forms m) 0 (nodes_of stands.f) q form) z (node_to (form_at forms m) 0 (nodes_of stands.f) k n form stands.stands e)

-- the first of what holds is the first of what follows from it, where each of the latter has one of the former before it
pub first_of : {P Q : LintFault → Type 0} → ((x : LintFault) → P x → Q x) → ((y : LintFault) → Q y → (x : LintFault) × P x × IsUpTo (order_of x) (order_of y)) → (o : Option LintFault) → IsFirst P o → IsFirst Q o
first_of sound complete None h = λ y q. let r = complete y q in h r.0 r.1
first_of sound complete (Some fault) h = (sound fault h.0, λ y q. let r = complete y q in upto_trans (h.1 r.0 r.1) r.2)

-- what a check finds first is the first that it shows
pub first_shown : (forms : Forms) (kind : ℕ) (program : Program) → IsFirst (IsShown forms program kind) (first_in_modules forms kind 0 program.given)
first_shown forms kind program =
    first_of (shown_from forms kind program) (λ y q. (y, shown_to forms kind program y q, upto_same (order_of y))) (first_in_modules forms kind 0 program.given) (modules_first forms kind 0 program.given)
