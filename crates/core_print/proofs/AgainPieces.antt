-- Pieces of canonical tokens, put before any others, with their text.
use Rattle.std.proofs.Common.{◌≡◌, ℕ, ◌+◌, ◌≤◌, List, ◌∷◌, ◌++◌, refl, sym, ap, ◌∙◌, arith}
use Rattle.std.proofs.lemmas.List.{append_assoc}
use Rattle.hy_core.specs.Marks.{Marked, at, symbol}
use Rattle.hy_core.specs.Canonical.{token, after_commas, with_commas, one_after_another}
use Rattle.hy_core.specs.declared.token.Symbol.{Symbol}
use Rattle.hy_core.specs.declared.token.Symbol.TheVariants as w
use Rattle.hy_core.specs.declared.token.Token.{Token}
use Rattle.core_print.proofs.Spelling.{token_text, symbol_text, spaced, IsFine, AreFine}

-- tokens of this text by their level, which are fine at levels up to n
pub record Piece (n : ℕ) (text : List ℕ) : Type 0 where
  pub front : ℕ → List Marked → List Marked
  pub spells : (k : ℕ) (r : List Marked) → spaced (front k r) ≡ text ++ spaced r
  pub fine : (k : ℕ) → k ≤ n → (r : List Marked) → AreFine r → AreFine (front k r)

-- a token that begins no construct
abbrev pub one : {n : ℕ} (m : Marked) → IsFine m → Piece n (token (token_text m.token))
one m is = record { front = λ k r. m ∷ r; spells = λ k r. refl; fine = λ k le r f. (is, f) }

abbrev pub one_symbol : {n : ℕ} (k : Symbol) → Piece n (token (symbol_text k))
one_symbol k = one (symbol k) ((omega arith, tt), tt)

-- a token that begins one
abbrev pub opened : {n : ℕ} (k : Token) → IsFine (at n k) → Piece n (token (token_text k))
opened k is = record { front = λ j r. at j k ∷ r; spells = λ j r. refl; fine = λ j le r f. (((omega arith, is.0.1), is.1), f) }

-- one piece before another
infixl 65 ◌▷◌
abbrev pub ◌▷◌ : {n : ℕ} {a b : List ℕ} → Piece n a → Piece n b → Piece n (a ++ b)
◌▷◌ {a = a} {b = b} p q = record {
  front = λ k r. p.front k (q.front k r);
  spells = λ k r. p.spells k (q.front k r) ∙ ap (λ (x : List ℕ). a ++ x) (q.spells k r) ∙ sym (append_assoc a b (spaced r));
  fine = λ k le r f. p.fine k le (q.front k r) (q.fine k le r f);
}

-- one level deeper
abbrev pub deeper : {n : ℕ} {a : List ℕ} → Piece (n + 1) a → Piece n a
deeper p = record { front = λ k r. p.front (k + 1) r; spells = λ k r. p.spells (k + 1) r; fine = λ k le r f. p.fine (k + 1) (omega arith) r f }

-- fine at fewer levels too
abbrev pub no_deeper : {n : ℕ} {a : List ℕ} → Piece (n + 1) a → Piece n a
no_deeper p = record { front = p.front; spells = p.spells; fine = λ k le r f. p.fine k (omega arith) r f }

-- the same text in other words
abbrev pub same_text : {n : ℕ} {a b : List ℕ} → a ≡ b → Piece n a → Piece n b
same_text e p = record { front = p.front; spells = λ k r. p.spells k r ∙ ap (λ (x : List ℕ). x ++ spaced r) e; fine = p.fine }

-- a piece before one of two texts
abbrev pub before : {n : ℕ} {a : List ℕ} (b c : List ℕ) → Piece n a → Piece n (b ++ c) → Piece n ((a ++ b) ++ c)
before {a = a} b c p q = same_text (sym (append_assoc a b c)) (p ▷ q)

-- a part in front of others with commas between them, and what closes them
module _ {n : ℕ} {a : List ℕ} (texts : List (List ℕ)) (close : List ℕ) (p : Piece n a) where
  abbrev pub first_part : Piece n (after_commas texts ++ close) → Piece n (with_commas (a ∷ texts) ++ close)
  first_part q = before (after_commas texts) close p q

  abbrev pub next_part : Piece n (after_commas texts ++ close) → Piece n (after_commas (a ∷ texts) ++ close)
  next_part q = one_symbol w.Comma ▷ first_part q

  abbrev pub another_part : Piece n (one_after_another texts ++ close) → Piece n (one_after_another (a ∷ texts) ++ close)
  another_part q = before (one_after_another texts) close p q
