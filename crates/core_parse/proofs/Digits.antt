-- The number that digits spell, from the front.
use Rattle.std.proofs.Common.{◌≡◌, ℕ, ◌+◌, ◌-◌, ◌*◌, ◌<◌, ◌≤◌, List, [], ◌∷◌, drop, length, get_or, sym, ap, ◌∙◌, arith, add-one}
use Rattle.std.proofs.Math.Seq.{drop-cons, drop-length}
use Rattle.hy_core.specs.Marks.{value_behind}

pub value_grows : (ds : List ℕ) (n : ℕ) → n ≤ value_behind n ds
value_grows [] n = omega arith
value_grows (d ∷ ds) n = omega (arith, value_grows ds (10 * n + (d - 48)))

pub value_at : (ds : List ℕ) (i n d whole : ℕ) → i < length ds → value_behind n (drop i ds) ≡ whole → value_behind (10 * n + (get_or ds i d - 48)) (drop (i + 1) ds) ≡ whole
value_at ds i n d whole lt h = rw add-one (ap (value_behind n) (sym (drop-cons ds i d lt)) ∙ h)

pub value_over : (ds : List ℕ) (i n whole : ℕ) → i ≡ length ds → value_behind n (drop i ds) ≡ whole → n ≡ whole
value_over ds i n whole is h = sym (ap (λ (k : ℕ). value_behind n (drop k ds)) is ∙ ap (value_behind n) (drop-length ds)) ∙ h
