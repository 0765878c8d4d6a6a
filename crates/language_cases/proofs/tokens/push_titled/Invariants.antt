use Rattle.std.proofs.Common.{◌≡◌, ◌++◌, drop}
use Rattle.std.specs.List.{flat_map}
use Rattle.language_cases.specs.Tokens.{byte_text}
use Rattle.language_cases.proofs.tokens.push_titled.Given as goal

abbrev pub invariant-loop-byte : goal.invariant-loop-byte
invariant-loop-byte l =
    l.line.items ++ flat_map byte_text (drop l.byte-index l.bytes)
    ≡ l.fn.line.items ++ l.title ++ flat_map byte_text l.bytes
