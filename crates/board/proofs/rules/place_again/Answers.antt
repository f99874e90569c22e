use Rattle.std.proofs.Common.{sym, ap, ◌∙◌}
use Rattle.std.proofs.lemmas.Bool.{eqb-true}
use Rattle.semimatching.specs.Placements.{stands_on}
use Rattle.table.specs.Seats.{place_of}
use Rattle.board.proofs.TallyLaws.{mill_at}
use Rattle.board.proofs.Replacing.{replacing_start, replacing_some, replacing_more, replacing_skip}
use Rattle.board.proofs.rules.place_again.Goals as goal
use Rattle.board.proofs.rules.place_again.Goals.{in-Some+then-eq, in-Some+else-eq, in_default}

pub loop-number-init : goal.loop-number-init
loop-number-init c = replacing_start c.args.before.now c.args.table.now c.args.mill.0 c.requires.off

pub place-requires-clause-some : goal.place-requires-clause-some
place-requires-clause-some c = replacing_some _ _ _ _ _ c.loop-number.invariant (place_of c.in-Some.seat) (sym c.in-Some.ensures) (eqb-true _ _ (sym c.if-eq.ensures)) c.requires.meaning c.requires.free

pub loop-number-preserved : goal.loop-number-preserved
loop-number-preserved c =
    elim c.match-seat.branch [
      | in-Some+then-eq w ↦
          replacing_more _ _ _ _ _ c.loop-number.invariant (place_of w.in-Some.seat) (sym w.in-Some.ensures) (eqb-true _ _ (sym w.if-eq.ensures))
          _ _ _ w.place.ensures.meaning w.place.ensures.rule w.place.ensures.even w.table-is
      | in-Some+else-eq w ↦
          replacing_skip _ _ _ _ _ c.loop-number.invariant _
          (ap (λ seat. stands_on (mill_at seat) c.args.mill.0) (sym w.in-Some.ensures) ∙ sym w.if-eq.ensures) w.table-is
      | in_default w ↦
          replacing_skip _ _ _ _ _ c.loop-number.invariant _
          (ap (λ seat. stands_on (mill_at seat) c.args.mill.0) (sym w.in_default.ensures)) w.table-is
    ]
