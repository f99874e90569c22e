use Rattle.std.proofs.Common.{is_some, sym, ap, ◌∙◌}
use Rattle.std.proofs.lemmas.Bool.{false≢true}
use Rattle.table.specs.Held.{meant, tally_of}
use Rattle.table.specs.Seats.{place_of}
use Rattle.board.proofs.Accepting.{done_stands}
use Rattle.board.proofs.Completing.{finished_mill, finished_completed}
use Rattle.board.proofs.rules.finish.Goals as goal

pub shift-requires : goal.shift-requires
shift-requires c = finished_mill c.args.table.now c.args.ticket (place_of c.in-Some.seat) (sym c.in-Some.ensures.value)

pub returns-in-Some : goal.returns-in-Some
returns-in-Some c =
    finished_completed c.args.table.now c.args.ticket (place_of c.in-Some.seat) (sym c.in-Some.ensures.value)
    c.take.new.self c.take.ensures.meaning c.take.ensures.tally c.shift.result c.shift.new.table c.shift.ensures

-- an accepted ticket stands
pub returns-in_default : goal.returns-in_default
returns-in_default c =
    absurd (false≢true (ap is_some c.in_default.ensures.value ∙ done_stands (meant c.args.table.now) (tally_of c.args.table.now) c.args.ticket c.requires))
