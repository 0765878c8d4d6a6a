-- The sizes of a program in the order in which they are looked at.
use Rattle.std.specs.Prelude.{ℕ, ◌<◌, ◌≤◌}
use Rattle.hy_core.specs.Faults.{IsTooGreat, form_place}
use Rattle.hy_core.specs.declared.fault.Form.{Form}
use Rattle.hy_core.specs.declared.tree.Program.{Program}

-- the first size that is too great
pub record IsFirstSize (program : Program) (form : Form) : Type 0 where
  pub great : IsTooGreat program form
  pub first : (other : Form) → IsTooGreat program other → form_place form ≤ form_place other

-- no size is too great whose form has a place before this one
abbrev pub IsWithinBefore : Program → ℕ → Type 0
IsWithinBefore program place = (form : Form) → IsTooGreat program form → form_place form < place → ⊥
