-- How often a name has failed, with one name more.
use Rattle.std.proofs.Common.{◌≡◌, ℕ, ◌+◌, List, [], ◌∷◌, ◌++◌, true, cond, refl, ◌∙◌, arith}
use Rattle.std.specs.Prelude.{String}
use Rattle.std.specs.Str.{bytes_eq}
use Rattle.std.specs.String.{string_bytes}
use Rattle.std.specs.Global.{Global}
use Rattle.std.proofs.lemmas.List.Sums.{sum_by-append}
use Rattle.std.proofs.lemmas.Slice.Eq.{bytes_eq-Decides}
use Rattle.outside.specs.Outside.{times}

-- one name more counts once where it is that name
pub times_push : (name : List ℕ) (names : List (String Global)) (one : String Global) → times name (names ++ one ∷ []) ≡ times name names + cond (bytes_eq (string_bytes one) name) 1 0
times_push name names one = sum_by-append (λ (x : String Global). cond (bytes_eq (string_bytes x) name) 1 0) names (one ∷ []) ∙ omega arith

pub same_bytes : (xs : List ℕ) → bytes_eq xs xs ≡ true
same_bytes xs = (bytes_eq-Decides xs xs).1 refl
