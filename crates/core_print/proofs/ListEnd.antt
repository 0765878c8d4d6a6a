-- A list notation whose tail is nil has no bar.
use Rattle.std.proofs.Common.{◌≡◌, true, false, ◌++◌, codes, refl}
use Rattle.hy_core.specs.Canonical.{Part, list_end}

pub list_end-nil : (tail : Part) → tail.is_nil ≡ true → list_end tail ≡ codes " ]"
list_end-nil tail nil = rw nil refl

pub list_end-other : (tail : Part) → tail.is_nil ≡ false → list_end tail ≡ codes " |" ++ tail.text ++ codes " ]"
list_end-other tail other = rw other refl
