use Rattle.std.proofs.Common.{take}
use Rattle.std.specs.List.{flat_map}
use Rattle.sheet.specs.Area.{Appends}
use Rattle.sheet.specs.Digits.{digits_for}
use Rattle.sheet.proofs.frame_writer.FrameWriter.bytes.Given as goal

abbrev pub invariant-loop-byte : goal.invariant-loop-byte
invariant-loop-byte l = Appends (flat_map digits_for (take l.byte-index l.bytes)) l.initial.self l.self
