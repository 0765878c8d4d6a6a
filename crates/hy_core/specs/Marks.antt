-- Tokens with what a refusal looks at. Levels and ranges are this project's own.
use Rattle.std.specs.Prelude.{ℕ, ◌+◌, ◌-◌, ◌*◌, ◌≤◌, ℤ, pos, neg_ℤ, List, [], ◌∷◌, map}
use Rattle.std.specs.List.{AllByRecursion}
use Rattle.hy_terms.specs.Range.{IsNumber}
use Rattle.hy_core.specs.declared.token.Symbol.{Symbol}
use Rattle.hy_core.specs.declared.token.Sign.{Sign}
use Rattle.hy_core.specs.declared.token.Sign.TheVariants as g
use Rattle.hy_core.specs.declared.token.Token.{Token}
use Rattle.hy_core.specs.declared.token.Token.TheVariants as t

-- digits as a number, behind those that give the first number
abbrev pub value_behind : ℕ → List ℕ → ℕ
value_behind n [] = n
value_behind n (d ∷ ds) = value_behind (10 * n + (d - 48)) ds

-- the number that digits spell
abbrev pub value : List ℕ → ℕ
value = value_behind 0

-- an integer by its sign and its size
abbrev pub number : Sign → ℕ → ℤ
number g.Minus n = neg_ℤ (pos n)
number _ n = pos n

-- the integer is one from -2^59 to 2^59 - 1
abbrev pub IsInRange : Sign → ℕ → Type 0
IsInRange sign n = IsNumber (number sign n)

-- What a number at a token is: one of a constant, of any length; a value of the program; an arity.
pub data Role : Type 0 where
  Free : Role
  Value : Role
  Arity : Role

-- a token, with the level of the construct that it begins, or 0 where it begins none
pub record Marked : Type 0 where
  pub level : ℕ
  pub role : Role
  pub token : Token

-- a token that begins an expression, a pattern, an annotation or a module of level n
abbrev pub at : ℕ → Token → Marked
at n k = record { level = n; role = Value; token = k }

-- a token that begins a constant of level n
abbrev pub constant : ℕ → Token → Marked
constant n k = record { level = n; role = Free; token = k }

-- a token that begins none
abbrev pub plain : Token → Marked
plain k = record { level = 0; role = Free; token = k }

-- a keyword or a mark that begins none
abbrev pub symbol : Symbol → Marked
symbol k = plain (t.Symbol k)

-- an arity of these digits
abbrev pub arity : List ℕ → Marked
arity digits = record { level = 0; role = Arity; token = t.Integer g.Absent digits }

-- a number in the range of its role
abbrev pub Fits : Role → Token → Type 0
Fits Value (t.Integer sign digits) = IsInRange sign (value digits)
Fits Arity (t.Integer sign digits) = value digits ≤ 65535
Fits _ _ = Unit {0}

-- at most 400 levels
abbrev pub IsShallow : Marked → Type 0
IsShallow m = m.level ≤ 400

-- at most 400 levels, and a number in its range
abbrev pub IsSound : Marked → Type 0
IsSound m = IsShallow m × Fits m.role m.token

abbrev pub AreSound : List Marked → Type 0
AreSound ms = AllByRecursion IsSound ms

abbrev pub tokens_of : List Marked → List Token
tokens_of ms = map (λ m. m.token) ms
