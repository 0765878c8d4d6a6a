-- What the first canonical token of a part is not.
use Rattle.std.proofs.Common.{◌≡◌, Bool, true, false, List, [], ◌∷◌, refl, subst}
use Rattle.hy_core.specs.Marks.{Marked}
use Rattle.hy_core.specs.Patterns.{IsNotBefore}
use Rattle.hy_core.specs.declared.token.Symbol.TheVariants as w
use Rattle.hy_core.specs.declared.token.Token.{Token}
use Rattle.hy_core.specs.declared.token.Token.TheVariants as t

-- a token that goes on no name and no alias
abbrev pub is_apart : Token → Bool
is_apart (t.Symbol w.Slash) = false
is_apart (t.Symbol w.Equals) = false
is_apart _ = true

-- one that begins no list notation either
abbrev pub is_item : Token → Bool
is_item (t.Symbol w.OpenList) = false
is_item k = is_apart k

abbrev pub IsApart : List Marked → Type 0
IsApart [] = Unit {0}
IsApart (m ∷ ms) = is_apart m.token ≡ true

abbrev pub IsItem : List Marked → Type 0
IsItem [] = ⊥
IsItem (m ∷ ms) = is_item m.token ≡ true

apart_token : (k : Token) → is_item k ≡ true → is_apart k ≡ true
apart_token (t.Symbol w.OpenList) h = refl
apart_token (t.Symbol _) h = h
apart_token _ h = refl

pub apart_item : (ms : List Marked) → IsItem ms → IsApart ms
apart_item [] h = absurd h
apart_item (m ∷ ms) h = apart_token m.token h

pub no_slash : (ms : List Marked) → IsApart ms → IsNotBefore w.Slash ms
no_slash [] h = tt
no_slash (m ∷ ms) h = λ e. let k : false ≡ true = subst (λ (k : Token). is_apart k ≡ true) e h in absurd cc

pub no_equals : (ms : List Marked) → IsApart ms → IsNotBefore w.Equals ms
no_equals [] h = tt
no_equals (m ∷ ms) h = λ e. let k : false ≡ true = subst (λ (k : Token). is_apart k ≡ true) e h in absurd cc

pub no_list : (m : Marked) → is_item m.token ≡ true → m.token ≡ t.Symbol w.OpenList → ⊥
no_list m h e = let k : false ≡ true = subst (λ (k : Token). is_item k ≡ true) e h in absurd cc
