-- The lesser of two faults of one kind and form.
use Rattle.std.specs.Prelude.{◌==◌, ◌&&◌, ◌||◌, nat_lt, Bool, if◌then◌else◌, Option, Some, None}
use Rattle.hy_core.specs.declared.fault.LintFault.{LintFault}

-- by module, function and node
abbrev pub is_before : LintFault → LintFault → Bool
is_before f g =
    nat_lt f.«module» g.«module»
    || ((f.«module» == g.«module»)
    && (nat_lt f.function g.function || ((f.function == g.function) && nat_lt f.node g.node)))

abbrev pub earlier : Option LintFault → Option LintFault → Option LintFault
earlier None g = g
earlier (Some f) None = Some f
earlier (Some f) (Some g) = if is_before g f then Some g else Some f
