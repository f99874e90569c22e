use Rattle.std.proofs.Common.{◌≤◌, arith, rules}
use Rattle.table.proofs.TableLaws.{load_few}
use Rattle.search.proofs.BackwardShift.{shift_none, shift_on, shift_done}
use Rattle.search.proofs.backward.shift.Goals as goal

pub overflow_add-load : goal.overflow_add-load
overflow_add-load c = let few : c.load-2.result ≤ 1024 = omega (arith, c.load-2.ensures, load_few c.args.table.now c.args.mill.0) in search rules

pub returns-then-load : goal.returns-then-load
returns-then-load c =
    shift_none c.args.table.now c.args.mill.0 c.search_to-trail.ensures c.heaviest-from.ensures
    (omega (arith, c.if-load.true, c.load.ensures, c.load-2.ensures))

pub carry_from-requires : goal.carry_from-requires
carry_from-requires c =
    shift_on c.args.table.now c.args.mill.0 c.search_to-trail.ensures c.heaviest-from.ensures
    (omega (arith, c.if-load.false, c.load.ensures, c.load-2.ensures))

pub returns : goal.returns
returns c =
    shift_done c.args.table.now c.args.mill.0 c.search_to-trail.ensures c.heaviest-from.ensures
    (omega (arith, c.if-load.false, c.load.ensures, c.load-2.ensures)) _ c.carry_from.ensures.meaning c.carry_from.ensures.tally
