-- The faults of each kind among those of a program.
use Rattle.std.proofs.Common.{◌≡◌, ℕ, refl, sym, subst, arith}
use Rattle.hy_core.specs.Faults as f
use Rattle.hy_core.specs.Faults.{IsFault}
use Rattle.hy_core.specs.NodeFaults.{Repeats, IsUnbound, RepeatsVariable, IsForbiddenForm, HasWrongValues, IsForbiddenInGuard}
use Rattle.hy_core.specs.Nodes.{Node}
use Rattle.hy_core.specs.declared.fault.Form.{Form}
use Rattle.hy_core.specs.declared.fault.Form.TheVariants.{Absent}
use Rattle.hy_core.specs.declared.fault.LintFault.{LintFault}
use Rattle.hy_core.specs.declared.tree.Function.{Function}
use Rattle.hy_core.specs.declared.tree.Module.{Module}
use Rattle.hy_core.specs.declared.tree.Program.{Program}
use Rattle.core_lint.proofs.Exact.{KindFault, in_function, in_node}

-- no function has the fault by itself
abbrev pub AtNoFunction : Module → ℕ → Function → Type 0
AtNoFunction m j g = ⊥

abbrev pub UnboundAt : Module → Node → Form → Type 0
UnboundAt m n form = IsUnbound n × (form ≡ Absent)

pub unbound_from : (program : Program) (x : LintFault) → KindFault UnboundAt AtNoFunction program 4 x → IsFault program x
unbound_from program x (in_function around h) = absurd h
unbound_from program x (in_node {i = i} {j = j} {k = k} stands h) = subst (λ form. IsFault program (f.fault_of 4 i j k form)) (sym h.1) (f.unbound_variable stands h.0)

pub unbound_to : (program : Program) (x : LintFault) → IsFault program x → x.kind ≡ 4 → KindFault UnboundAt AtNoFunction program 4 x
unbound_to program x (f.unbound_variable stands h) e = in_node stands (h, refl)
unbound_to program x _ e = absurd (omega arith)

abbrev pub RepeatedAt : Module → Node → Form → Type 0
RepeatedAt m n form = RepeatsVariable n × (form ≡ Absent)

abbrev pub RepeatedParameter : Module → ℕ → Function → Type 0
RepeatedParameter m j g = Repeats g.params

pub repeated_from : (program : Program) (x : LintFault) → KindFault RepeatedAt RepeatedParameter program 5 x → IsFault program x
repeated_from program x (in_function around h) = f.repeated_parameter around h
repeated_from program x (in_node {i = i} {j = j} {k = k} stands h) = subst (λ form. IsFault program (f.fault_of 5 i j k form)) (sym h.1) (f.repeated_variable stands h.0)

pub repeated_to : (program : Program) (x : LintFault) → IsFault program x → x.kind ≡ 5 → KindFault RepeatedAt RepeatedParameter program 5 x
repeated_to program x (f.repeated_parameter around h) e = in_function around h
repeated_to program x (f.repeated_variable stands h) e = in_node stands (h, refl)
repeated_to program x _ e = absurd (omega arith)

abbrev pub ValuesAt : Module → Node → Form → Type 0
ValuesAt m n form = HasWrongValues m n × (form ≡ Absent)

pub values_from : (program : Program) (x : LintFault) → KindFault ValuesAt AtNoFunction program 8 x → IsFault program x
values_from program x (in_function around h) = absurd h
values_from program x (in_node {i = i} {j = j} {k = k} stands h) = subst (λ form. IsFault program (f.fault_of 8 i j k form)) (sym h.1) (f.wrong_values stands h.0)

pub values_to : (program : Program) (x : LintFault) → IsFault program x → x.kind ≡ 8 → KindFault ValuesAt AtNoFunction program 8 x
values_to program x (f.wrong_values stands h) e = in_node stands (h, refl)
values_to program x _ e = absurd (omega arith)

abbrev pub FormAt : Module → Node → Form → Type 0
FormAt m n form = IsForbiddenForm m n form

pub form_from : (program : Program) (x : LintFault) → KindFault FormAt AtNoFunction program 7 x → IsFault program x
form_from program x (in_function around h) = absurd h
form_from program x (in_node stands h) = f.forbidden_form stands h

pub form_to : (program : Program) (x : LintFault) → IsFault program x → x.kind ≡ 7 → KindFault FormAt AtNoFunction program 7 x
form_to program x (f.forbidden_form stands h) e = in_node stands h
form_to program x _ e = absurd (omega arith)

abbrev pub GuardAt : Module → Node → Form → Type 0
GuardAt m n form = IsForbiddenInGuard m n × (form ≡ Absent)

pub guard_from : (program : Program) (x : LintFault) → KindFault GuardAt AtNoFunction program 9 x → IsFault program x
guard_from program x (in_function around h) = absurd h
guard_from program x (in_node {i = i} {j = j} {k = k} stands h) = subst (λ form. IsFault program (f.fault_of 9 i j k form)) (sym h.1) (f.forbidden_in_guard stands h.0)

pub guard_to : (program : Program) (x : LintFault) → IsFault program x → x.kind ≡ 9 → KindFault GuardAt AtNoFunction program 9 x
guard_to program x (f.forbidden_in_guard stands h) e = in_node stands (h, refl)
guard_to program x _ e = absurd (omega arith)
