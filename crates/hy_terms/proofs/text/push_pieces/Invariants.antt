use Rattle.std.proofs.Common.{◌≡◌, ◌++◌, ◌∷◌, take}
use Rattle.std.specs.List.{flat_map}
use Rattle.hy_terms.specs.Texts.{escaped}
use Rattle.hy_terms.proofs.text.push_pieces.Given as goal

abbrev pub invariant-loop-byte : goal.invariant-loop-byte
invariant-loop-byte l = l.out.items ≡ l.fn.out.items ++ l.quote ∷ flat_map (escaped l.quote) (take l.byte-index l.text)
