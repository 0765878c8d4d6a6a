use Rattle.std.proofs.Common.{◌≡◌, ◌++◌, true, drop}
use Rattle.language_cases.specs.Pieces.{indented}
use Rattle.language_cases.proofs.pieces.push_indented.Given as goal

abbrev pub invariant-loop-byte : goal.invariant-loop-byte
invariant-loop-byte l =
    l.out.items ++ indented l.begins (drop l.byte-index l.text)
    ≡ l.fn.out.items ++ indented true l.fn.text
