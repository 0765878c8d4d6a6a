-- The faults of a program: its least fault is one, and the module of each stands among the given ones.
use Rattle.std.proofs.Common.{◌≡◌, ℕ, ◌<◌, ◌≤◌, List, [], ◌∷◌, length, slice_get, Some, refl, sym, ap, ◌∙◌, arith}
use Rattle.std.proofs.lemmas.Option.{slice_get_within}
use Rattle.hy_core.specs.Faults.{IsFault, repeated_module, repeated_function, repeated_definition, undefined_export, unbound_variable, repeated_parameter, repeated_variable, other_arity, unknown_function, no_main, forbidden_form, wrong_values, forbidden_in_guard, too_great, IsGivenFunction, IsLeastFault, IsGivenModule, IsNode, IsUpTo, at_end, lower, same, fault_of, form_place, order_of}
use Rattle.hy_core.specs.Nodes.{Node}
use Rattle.hy_core.specs.declared.fault.Form.{Form}
use Rattle.hy_core.specs.declared.fault.Form.TheVariants as form
use Rattle.hy_core.specs.declared.fault.LintFault.{LintFault}
use Rattle.hy_core.specs.declared.tree.Function.{Function}
use Rattle.hy_core.specs.declared.tree.Module.{Module}
use Rattle.hy_core.specs.declared.tree.Program.{Program}
use Rattle.hy_core.specs.PreludeModules.{with_prelude}

-- ---- the least fault

-- lists of which each is up to the other are one; the second pair is the first, turned round
turned : {xs ys us vs : List ℕ} → IsUpTo xs ys → IsUpTo us vs → xs ≡ vs → ys ≡ us → xs ≡ ys
turned at_end at_end p q = sym q
turned at_end (lower less) p q = absurd cc
turned at_end (same rest) p q = absurd cc
turned (lower more) at_end p q = absurd cc
turned (lower {x = x} {y = y} more) (lower {x = u} {y = v} less) p q =
    let low : x ≡ v = cc in
    let high : y ≡ u = cc in
    absurd (omega arith)
turned (lower {x = x} {y = y} more) (same {x = z} rest) p q =
    let low : x ≡ z = cc in
    let high : y ≡ z = cc in
    absurd (omega arith)
turned (same rest) at_end p q = absurd cc
turned (same {x = z} rest) (lower {x = u} {y = v} less) p q =
    let low : z ≡ v = cc in
    let high : z ≡ u = cc in
    absurd (omega arith)
turned (same {x = z} {xs = xs} {ys = ys} rest) (same {x = w} {xs = us} {ys = vs} others) p q =
    let left : xs ≡ vs = cc in
    let right : ys ≡ us = cc in
    ap (λ (k : List ℕ). z ∷ k) (turned rest others left right)

one_order : (xs ys : List ℕ) → IsUpTo xs ys → IsUpTo ys xs → xs ≡ ys
one_order xs ys p q = turned p q refl refl

-- the forms in the order of their places
forms : List Form
forms =
    form.Absent
    ∷ form.Fun
    ∷ form.Name
    ∷ form.Apply
    ∷ form.Call
    ∷ form.Try
    ∷ form.Catch
    ∷ form.Primop
    ∷ form.Timeout
    ∷ form.Spawn
    ∷ form.Functions
    ∷ form.Arity
    ∷ form.Sites
    ∷ form.Atoms
    ∷ []

form_stands : (x : Form) → slice_get forms (form_place x) ≡ Some x
unfolding forms
form_stands form.Absent = refl
form_stands form.Fun = refl
form_stands form.Name = refl
form_stands form.Apply = refl
form_stands form.Call = refl
form_stands form.Try = refl
form_stands form.Catch = refl
form_stands form.Primop = refl
form_stands form.Timeout = refl
form_stands form.Spawn = refl
form_stands form.Functions = refl
form_stands form.Arity = refl
form_stands form.Sites = refl
form_stands form.Atoms = refl

one_form : (x y : Form) → form_place x ≡ form_place y → x ≡ y
one_form x y is =
    let both : Some x ≡ Some y = sym (form_stands x) ∙ ap (λ (i : ℕ). slice_get forms i) is ∙ form_stands y in
    cc

one_fault : (x y : LintFault) → order_of x ≡ order_of y → x ≡ y
one_fault x y is =
    let place : form_place x.form ≡ form_place y.form = cc in
    let same_form : x.form ≡ y.form = one_form x.form y.form place in
    let whole : fault_of x.kind x.«module» x.function x.node x.form ≡ fault_of y.kind y.«module» y.function y.node y.form = cc in
    whole

pub one_least : (program : Program) (x y : LintFault) → IsLeastFault program x → IsLeastFault program y → x ≡ y
one_least program x y p q = one_fault x y (one_order (order_of x) (order_of y) (p.least y q.holds) (q.least x p.holds))

-- ---- the module of a fault

module _ (zs : List Module) where
  module_within : (i : ℕ) (m : Module) → IsGivenModule (with_prelude zs) i m → i < length zs
  module_within i m is = slice_get_within zs i m is

  node_within : (i j k : ℕ) (m : Module) (n : Node) → IsNode (with_prelude zs) i j k m n → i < length zs
  node_within i j k m n at = module_within i m at.around.given

  function_within : (i j : ℕ) (m : Module) (f : Function) → IsGivenFunction (with_prelude zs) i j m f → i < length zs
  function_within i j m f at = module_within i m at.given

  pub fault_within : 1 ≤ length zs → (fault : LintFault) → IsFault (with_prelude zs) fault → fault.«module» < length zs
  fault_within some _ (repeated_module at h) = module_within _ _ at
  fault_within some _ (repeated_function at h) = function_within _ _ _ _ at
  fault_within some _ (repeated_definition at h) = node_within _ _ _ _ _ at
  fault_within some _ (undefined_export at stands h) = module_within _ _ at
  fault_within some _ (unbound_variable at h) = node_within _ _ _ _ _ at
  fault_within some _ (repeated_parameter at h) = function_within _ _ _ _ at
  fault_within some _ (repeated_variable at h) = node_within _ _ _ _ _ at
  fault_within some _ (other_arity at h) = function_within _ _ _ _ at
  fault_within some _ (unknown_function at h) = node_within _ _ _ _ _ at
  fault_within some _ (no_main at h) = omega (arith, some)
  fault_within some _ (forbidden_form at h) = node_within _ _ _ _ _ at
  fault_within some _ (wrong_values at h) = node_within _ _ _ _ _ at
  fault_within some _ (forbidden_in_guard at h) = node_within _ _ _ _ _ at
  fault_within some _ (too_great h) = omega (arith, some)
