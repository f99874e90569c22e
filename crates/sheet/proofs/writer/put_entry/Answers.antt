use Rattle.std.proofs.Common.{length, sym, ◌∙◌, subst, arith}
use Rattle.std.proofs.lemmas.Bool.{eqb-true, eqb-false}
use Rattle.sets.specs.Sets.{members}
use Rattle.sheet.specs.Area.{Appends}
use Rattle.sheet.proofs.AppendSteps.{nothing}
use Rattle.sheet.proofs.RowLaws.{entry_none, entry_frame, payload_room}
use Rattle.sheet.proofs.writer.put_entry.Goals as goal

pub returns-then-is_empty : goal.returns-then-is_empty
returns-then-is_empty c =
    let none = eqb-true (length (members c.row-row.result)) 0 (sym c.if-is_empty.ensures) in
    let frames = c.args.frames.now in
    subst (λ text. Appends text frames frames) (sym (entry_none c.args.abilities.now c.args.program.0 c.row-row.result c.row-row.ensures none)) (nothing (omega arith))

pub frame-requires-clause-room : goal.frame-requires-clause-room
frame-requires-clause-room c =
    let some = eqb-false (length (members c.row-row.result)) 0 (sym c.if-is_empty.ensures) in
    omega (arith, payload_room c.args.abilities.now c.args.program.0 c.row-row.result c.row-row.ensures some c.into.result _ c.into.ensures (c.as_slice.ensures.value ∙ c.payload_of-payload.ensures))

pub returns : goal.returns
returns c =
    let some = eqb-false (length (members c.row-row.result)) 0 (sym c.if-is_empty.ensures) in
    let is = entry_frame c.args.abilities.now c.args.program.0 c.row-row.result c.row-row.ensures some c.into.result _ c.into.ensures (c.as_slice.ensures.value ∙ c.payload_of-payload.ensures) in
    subst (λ text. Appends text c.args.frames.now c.frame.new.self) is c.frame.ensures
