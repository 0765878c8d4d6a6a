-- Atoms and names of functions are read again from their canonical tokens.
use Rattle.std.proofs.Common.{◌≡◌, ℕ, ◌≤◌, pos, List, sym, ap, arith}
use Rattle.std.specs.Fmt.{decimal}
use Rattle.hy_terms.specs.Texts.{int_text, atom_text}
use Rattle.hy_core.specs.Marks.{Marked, plain, arity, value}
use Rattle.hy_core.specs.Numbering.{atom_number, with_atom}
use Rattle.hy_core.specs.Annotations as notes
use Rattle.hy_core.specs.Annotations.{IsAtom, IsName}
use Rattle.hy_core.specs.Canonical.{token, atom_token, name_text}
use Rattle.hy_core.specs.Expressions.{named_by}
use Rattle.hy_core.specs.declared.token.Symbol.TheVariants as w
use Rattle.hy_core.specs.declared.token.Token.TheVariants as t
use Rattle.hy_core.specs.declared.tables.Tables.{Tables}
use Rattle.hy_core.specs.declared.tree.FunName.{FunName}
use Rattle.hy_core.specs.declared.tree.Module.{Module}
use Rattle.core_print.proofs.Spelling.{AreBytes, AreFine}
use Rattle.core_print.proofs.Numbers.{decimal_digits, decimal_value}
use Rattle.core_print.proofs.Tables.{Keeps, atom_kept}
use Rattle.core_print.proofs.AgainPieces.{Piece, one, one_symbol, ◌▷◌, same_text}

pub atom_bytes : {n : ℕ} {ms q : List Marked} {text : List ℕ} → IsAtom n ms text q → AreFine ms → AreBytes text
atom_bytes (notes.atom text) f = f.0.1
atom_bytes (notes.noted d end) f = atom_bytes d f.1

-- the text of a name, and the digits of its arity
pub record IsFineName (text arity : List ℕ) : Type 0 where
  pub bytes : AreBytes text
  pub small : value arity ≤ 65535

pub fine_name : {n : ℕ} {ms q : List Marked} {text digits : List ℕ} → IsName n ms text digits q → AreFine ms → IsFineName text digits
fine_name (notes.name text digits) f = record { bytes = f.0.1; small = f.1.1.0.0.1 }
fine_name (notes.noted d end) f = fine_name d f.1

pub arity_value : {text digits : List ℕ} → IsFineName text digits → value (decimal (value digits)) ≡ value digits
arity_value {digits = ds} is = let small = is.small in decimal_value (value ds) (omega arith)

-- a name has the same arity by its canonical digits
pub arity_again : {text digits : List ℕ} (a : ℕ) → IsFineName text digits → named_by a (decimal (value digits)) ≡ named_by a digits
arity_again a is = ap (λ (k : ℕ). let f : FunName = record { name = a; arity = k } in f) (arity_value is)

abbrev pub arity_piece : {n : ℕ} {text digits : List ℕ} → IsFineName text digits → Piece n (token (int_text (pos (value digits))))
arity_piece {digits = ds} is =
    let small = is.small in
    let kept = arity_value is in
    one (arity (decimal (value ds))) ((omega arith, omega arith), decimal_digits (value ds) (omega arith))

module _ {z : Module} (s : Tables) (text : List ℕ) (keeps : Keeps (with_atom s text) z) where
  pub atom_spelled : token (atom_text text) ≡ atom_token z (atom_number s text)
  atom_spelled = ap (λ (x : List ℕ). token (atom_text x)) (sym (atom_kept s text keeps))

  abbrev pub atom_piece : {n : ℕ} → AreBytes text → Piece n (atom_token z (atom_number s text))
  atom_piece bytes = same_text atom_spelled (one (plain (t.Atom text)) ((omega arith, tt), bytes))

  abbrev pub name_piece : {n : ℕ} {digits : List ℕ} → IsFineName text digits → Piece n (name_text z (named_by (atom_number s text) digits))
  name_piece is = atom_piece is.bytes ▷ one_symbol w.Slash ▷ arity_piece is
