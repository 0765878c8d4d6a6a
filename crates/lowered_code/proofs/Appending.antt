-- What is written behind what is written, and the registers that are given out for it.
use Rattle.std.proofs.Common.{◌≡◌, ℕ, ◌+◌, List, [], ◌∷◌, ◌++◌, refl, sym, ap, ◌∙◌, arith}
use Rattle.std.proofs.lemmas.List.{append_assoc, append-nil}
use Rattle.hy_ir.specs.Code.{Part, MoreParts}
use Rattle.hy_ir.specs.View.{parts_in}
use Rattle.program_code.specs.ExpressionCode.{join}
use Rattle.lowered_code.specs.Builder.{registers_from}
use Rattle.lowered_code.proofs.Numbers.{numbers_append}

pub grown_more : {A : Type 0} (x y z a b : List A) → y ≡ x ++ a → z ≡ y ++ b → z ≡ x ++ (a ++ b)
grown_more x y z a b e f = f ∙ ap (λ l. l ++ b) e ∙ append_assoc x a b

pub grown_none : {A : Type 0} (x : List A) → x ≡ x ++ []
grown_none x = sym (append-nil x)

pub outs_more : (a b : List ℕ) (k n m j : ℕ) → a ≡ registers_from k n → b ≡ registers_from j m
    → j ≡ k + n → a ++ b ≡ registers_from k (n + m)
outs_more a b k n m j e f g = (λ i. e i ++ f i) ∙ sym (numbers_append k n m j g)

pub moved_more : (k n m j l : ℕ) → j ≡ k + n → l ≡ j + m → l ≡ k + (n + m)
moved_more k n m j l e f = omega (arith, e, f)

pub moved_none : (k : ℕ) → k ≡ k + 0
moved_none k = omega arith

pub parts_append : (a b : List Part) → parts_in (a ++ b) ≡ join (parts_in a) (parts_in b)
parts_append [] b = refl
parts_append (p ∷ a) b = ap (MoreParts p) (parts_append a b)
