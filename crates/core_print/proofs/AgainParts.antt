-- Parts that are read again.
use Rattle.std.proofs.Common.{ℕ, ◌+◌, List}
use Rattle.hy_core.specs.Marks.{Marked}
use Rattle.hy_core.specs.declared.tables.Tables.{Tables}
use Rattle.hy_core.specs.declared.tree.Module.{Module}
use Rattle.core_print.proofs.Tables.{Keeps}
use Rattle.core_print.proofs.AgainPieces.{Piece, no_deeper}

-- a part of this text is read again from its canonical tokens, behind these tables, which the module's keep
pub record Again (n : ℕ) (z : Module) (s : Tables) (text : List ℕ) (Reads : ℕ → List Marked → List Marked → Type 0) : Type 0 where
  pub piece : Piece n text
  pub reads : (k : ℕ) (r : List Marked) → Reads k (piece.front k r) r
  pub keeps : Keeps s z

abbrev pub again_no_deeper : {n : ℕ} {z : Module} {s : Tables} {text : List ℕ} {Reads : ℕ → List Marked → List Marked → Type 0} → Again (n + 1) z s text Reads → Again n z s text Reads
again_no_deeper a = record { piece = no_deeper a.piece; reads = a.reads; keeps = a.keeps }
