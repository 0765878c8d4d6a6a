-- What is written, where an expression stands, and how it ends, from the declared types.
use Rattle.std.specs.Prelude.{map}
use Rattle.lowered_code.specs.Builder as b
use Rattle.hy_ir.specs.View.{arm_of, last_of, part_of}
use Rattle.lowered_code.specs.LoweredExpressions as l
use Rattle.code_writing.specs.declared.branches.Branches.{Branches}
use Rattle.code_writing.specs.declared.builder.Builder.{Builder}
use Rattle.code_writing.specs.declared.place.End.{End}
use Rattle.code_writing.specs.declared.place.End.TheVariants as end
use Rattle.code_writing.specs.declared.place.Place.{Place}
use Rattle.code_writing.specs.declared.place.Place.TheVariants as place

abbrev pub place_of : Place → b.Place
place_of place.Piece = b.Piece
place_of place.Inner = b.Inner
place_of place.Tail = b.Tail

abbrev pub end_of : End → b.End
end_of end.Given = b.Given
end_of (end.Ended last) = b.Ended (last_of last)

abbrev pub builder_of : Builder → b.Builder
builder_of b = record {
  parts = map part_of b.parts;
  next = b.next;
  registers = b.registers;
}

abbrev pub branches_of : Branches → l.Branches
branches_of a = record { arms = map arm_of a.arms; next = a.next }
