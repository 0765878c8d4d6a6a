-- The least sets of variables that functions have, by what occurs in them and whom they use. This
-- project's own.
use Rattle.std.specs.Prelude.{ℕ, ◌≤◌, Bool}
use Rattle.capture_flow.specs.contracts.fact.MemberPartialEq.TheImpl as member
use Rattle.capture_flow.specs.declared.fact.Fact.{Fact}
use Rattle.capture_flow.specs.declared.fact.Fact.TheVariants.{Occurs, Uses}
use Rattle.capture_flow.specs.declared.fact.Member.{Member}

-- a function has a variable that occurs in it, and one that a function has that it uses, where its
-- place is not beyond the depth of that
pub data Has (given : Fact → Type 0) : (function variable place : ℕ) → Type 0 where
  occurs : {f x p : ℕ} → given (Occurs (record { function = f; variable = x; place = p }))
      → Has given f x p
  uses : {f g x p d : ℕ} → given (Uses (record { function = f; used = g; depth = d })) → p ≤ d
      → Has given g x p → Has given f x p

abbrev pub IsHad : (given : Fact → Type 0) → Member → Type 0
IsHad given m = Has given m.function m.variable m.place

abbrev pub is_member : Member → Member → Bool
is_member x y = (member.eq-value).it x y
