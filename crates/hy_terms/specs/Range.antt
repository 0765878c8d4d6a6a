-- The range of a program's numbers, and the terms that keep to it; this project's own.
use Rattle.std.specs.Prelude.{ℤ, pos, neg_ℤ, ◌≤ℤ◌, ◌^◌, ◌-◌, Bool, ◌&&◌, int_le}
use Rattle.hy_terms.specs.Term.{Term, Int, Atom, Pid, Nil, Cons, Tuple, Terms, NoTerms, MoreTerms}

abbrev pub least_number : ℤ
least_number = neg_ℤ (pos (2 ^ 59))

abbrev pub greatest_number : ℤ
greatest_number = pos (2 ^ 59 - 1)

-- a number from -2^59 to 2^59 - 1
abbrev pub IsNumber : ℤ → Type 0
IsNumber n = (least_number ≤ℤ n) × (n ≤ℤ greatest_number)

abbrev pub is_in_range : ℤ → Bool
is_in_range n = int_le least_number n && int_le n greatest_number

abbrev mutual
  -- each number of the term is in the range
  pub IsTerm : Term → Type 0
  IsTerm (Int n) = IsNumber n
  IsTerm (Atom a) = Unit {0}
  IsTerm (Pid p) = Unit {0}
  IsTerm Nil = Unit {0}
  IsTerm (Cons head tail) = IsTerm head × IsTerm tail
  IsTerm (Tuple parts) = AreTerms parts

  pub AreTerms : Terms → Type 0
  AreTerms NoTerms = Unit {0}
  AreTerms (MoreTerms t ts) = IsTerm t × AreTerms ts
