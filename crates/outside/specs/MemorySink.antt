-- What a sink in memory holds, and when it fails. This project's own.
use Rattle.std.specs.Prelude.{◌⊎◌, ℕ, ◌+◌, ◌<◌, List, length, Contains}
use Rattle.outside.specs.Outside.{next_call}
use Rattle.outside.specs.declared.memory_sink.MemorySink.{MemorySink}

abbrev pub bytes_of : MemorySink → List ℕ
bytes_of s = s.bytes.items

abbrev pub count_of : MemorySink → ℕ
count_of s = s.faults

abbrev pub room_of : MemorySink → ℕ
room_of s = s.room

abbrev pub fails_of : MemorySink → List ℕ
fails_of s = s.fails.items

-- how many calls it has seen; a count that has come to the last value stays there
abbrev pub calls_of : MemorySink → ℕ
calls_of s = s.calls

-- the next write of this piece is listed, or the piece doesn't fit
abbrev pub FailsAt : MemorySink → List ℕ → Type 0
FailsAt s piece = Contains (fails_of s) (next_call (calls_of s))
    ⊎ (room_of s < length (bytes_of s) + length piece)
