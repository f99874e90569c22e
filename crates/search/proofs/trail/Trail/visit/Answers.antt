use Rattle.std.proofs.Common.{◌≡◌, [], ◌∷◌, ◌++◌, sym, ◌∙◌, arith}
use Rattle.sets.specs.Sets.{members, remaining}
use Rattle.sets.proofs.Members.{members_split}
use Rattle.table.specs.Held.{tally_of}
use Rattle.search.specs.Visits.{load_in}
use Rattle.search.proofs.VisitSteps.{Turn, Reached, laden_more, turn_below, turn_unreached, turn_more, turn_stopped, visit_all, visit_busy}
use Rattle.search.proofs.trail.Trail.visit.Goals as goal
use Rattle.search.proofs.trail.Trail.visit.Goals.{In-Some, After-reach, at-After-reach, at-reach-requires-clause-mill, at-reach-requires-clause-new, at-returns-then-empty-clause-stopped, In-None, at-returns-clause-busy, at-returns-clause-all, at-loop-mill-preserved}

-- the mills that are not reached yet come one by one
turn : (c : In-Some) → Turn c.args.mills c.args.self.now c.loop-mill.yielded c.in-Some.mill
turn c = record {
  left = c.difference.result;
  here = c.loop-mill.mill-iterator;
  rest = c.next.new.self;
  differs = c.difference.ensures;
  split = members_split c.difference.result c.loop-mill.yielded c.loop-mill.mill-iterator c.iter-mill-items.ensures c.into_iter-mill-iterator.ensures.into_iter_gives c.loop-mill.yielded_by;
  next = c.in-Some.ensures.steps;
}

reached : (c : After-reach) → Reached c.args.link c.args.self.now c.reach.new.self (c.loop-mill.yielded ++ (c.in-Some.mill ∷ []))
reached c =
    turn_more c.args.mills c.args.self.now (turn (at-After-reach c).In-Some) _ c.loop-mill.self c.loop-mill.invariant.0 c.reach.new.self
    c.reach.ensures.queue c.reach.ensures.link c.reach.ensures.others

pub reach-requires-clause-mill : goal.reach-requires-clause-mill
reach-requires-clause-mill c = turn_below _ _ (turn (at-reach-requires-clause-mill c).In-Some)

pub reach-requires-clause-new : goal.reach-requires-clause-new
reach-requires-clause-new c = turn_unreached _ _ (turn (at-reach-requires-clause-new c).In-Some) _ _ c.loop-mill.invariant.0

pub returns-then-empty-clause-stopped : goal.returns-then-empty-clause-stopped
returns-then-empty-clause-stopped c e =
    turn_stopped _ _ (turn (at-returns-then-empty-clause-stopped c).In-Some) (load_in (tally_of c.args.table.now)) _ _
    (reached (at-returns-then-empty-clause-stopped c).After-reach) c.loop-mill.invariant.1 (sym c.load-empty.ensures ∙ c.if-empty.true)

pub loop-mill-preserved : goal.loop-mill-preserved
loop-mill-preserved c = (
  reached (at-loop-mill-preserved c).After-reach,
  laden_more (load_in (tally_of c.args.table.now)) c.loop-mill.yielded c.in-Some.mill c.loop-mill.invariant.1 (omega (arith, c.load-empty.ensures, c.if-empty.false)),
)

split : (c : In-None) → members c.difference.result ≡ c.loop-mill.yielded ++ remaining c.loop-mill.mill-iterator
split c = members_split c.difference.result c.loop-mill.yielded c.loop-mill.mill-iterator c.iter-mill-items.ensures c.into_iter-mill-iterator.ensures.into_iter_gives c.loop-mill.yielded_by

pub returns-clause-busy : goal.returns-clause-busy
returns-clause-busy c e =
    visit_busy c.args.mills c.args.self.now _ c.difference.ensures _ _ (split (at-returns-clause-busy c).In-None) c.in-None.ensures.steps.0 (load_in (tally_of c.args.table.now)) c.loop-mill.invariant.1

pub returns-clause-all : goal.returns-clause-all
returns-clause-all c e =
    visit_all c.args.mills c.args.self.now _ c.difference.ensures _ _ (split (at-returns-clause-all c).In-None) c.in-None.ensures.steps.0 _ _ c.loop-mill.invariant.0
