use Rattle.std.proofs.Common.{[], ◌∷◌, refl, arith}
use Rattle.sheet.proofs.AppendSteps.{both}
use Rattle.sheet.proofs.FrameLaws.{length_frame}
use Rattle.sheet.proofs.WriteSteps.{length_sheet, sheet_frames}
use Rattle.sheet.proofs.writer.put_lines.Goals as goal

pub frame-requires-clause-room : goal.frame-requires-clause-room
frame-requires-clause-room c = omega (arith, length_sheet c.args.abilities.now)

pub put_entries-requires : goal.put_entries-requires
put_entries-requires c =
    omega (arith, length_sheet c.args.abilities.now, length_frame (record { kind = c.into.result; payload = c.mills.result ∷ [] }))

pub frame-requires-2-clause-room : goal.frame-requires-2-clause-room
frame-requires-2-clause-room c =
    omega (arith, length_sheet c.args.abilities.now, length_frame (record { kind = c.into.result; payload = c.mills.result ∷ [] }))

pub returns : goal.returns
returns c =
    both (sheet_frames c.args.abilities.now c.into.result c.mills.result c.into-2.result c.into.ensures c.mills.ensures c.into-2.ensures)
    c.frame.ensures (both refl c.put_entries.ensures c.frame-2.ensures)
