use Rattle.std.proofs.Common.{◌≡◌, ℕ, false, ap, ◌∙◌}
use Rattle.table.specs.Held.{meant, tally_of}
use Rattle.table.specs.Tally.{Tally, shop_in, placement, serving, mill_for}
use Rattle.table.proofs.TableLaws.{service_few}
use Rattle.semimatching.specs.Placements.{load}
use Rattle.board.specs.Rules as Rules
use Rattle.board.proofs.Accepting.{withdraw_free}
use Rattle.board.proofs.Clearing.{cleared_empty}
use Rattle.board.proofs.Completing.{withdrawn_completed}
use Rattle.board.proofs.rules.withdraw_mill.Goals as goal

-- the mill is cleared, and then out of service
gone : (mill : ℕ) (before cleared off : Tally) → cleared ≡ Rules.cleared before mill → off ≡ serving cleared mill false → off ≡ serving (Rules.cleared before mill) mill false
gone mill before cleared off clears closes = closes ∙ ap (λ tally. serving tally mill false) clears

pub close_mill-requires : goal.close_mill-requires
close_mill-requires c =
    let mill = c.args.mill.0 in
    let cleared = c.clear_mill.ensures.tally in
    ap (λ tally. load (shop_in (meant c.clear_mill.new.table) tally) (placement tally) mill) cleared
    ∙ cleared_empty (meant c.clear_mill.new.table) (tally_of c.args.table.now) mill

pub place_again-requires-clause-free : goal.place_again-requires-clause-free
place_again-requires-clause-free c t place stood on =
    let before = c.args.table.now in
    let off = gone c.args.mill.0 (tally_of c.args.table.now) _ _ c.clear_mill.ensures.tally c.close_mill.ensures.tally in
    let other = withdraw_free (meant before) (tally_of before) (service_few before) c.args.mill c.requires t place stood on in
    (other.0, ap (λ tally. mill_for (meant before) tally.service place.program other.0) off ∙ other.1)

pub returns : goal.returns
returns c =
    withdrawn_completed c.args.table.now c.args.mill c.close_mill.new.self (c.close_mill.ensures.meaning ∙ c.clear_mill.ensures.meaning)
    (gone c.args.mill.0 (tally_of c.args.table.now) _ _ c.clear_mill.ensures.tally c.close_mill.ensures.tally)
    c.place_again.new.table c.place_again.ensures.meaning c.place_again.ensures.again c.place_again.ensures.even
