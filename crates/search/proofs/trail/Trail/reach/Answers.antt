use Rattle.std.proofs.Common.{rules}
use Rattle.std.proofs.lemmas.List.{map_push}
use Rattle.search.proofs.TrailLaws.{room, known_more, below_more, once_more}
use Rattle.search.proofs.trail.Trail.reach.Goals as goal

pub push-requires : goal.push-requires
push-requires c = let low = room c.args.self.now c.args.mill.0 c.requires.mill c.requires.new in search rules

pub invariant_of-self : goal.invariant_of-self
invariant_of-self c =
    let queue = c.args.self.now.queue.items in
    let mill = c.args.mill in
    let old = c.args.self.now.reached in
    record {
      known = rw (c.push.ensures.items) (rw map_push (known_more old c.insert.new.self mill.0 c.requires.mill c.insert.ensures _ c.args.self.now.known));
      below = below_more old c.insert.new.self mill.0 c.requires.mill c.insert.ensures c.args.self.now.below;
      once = rw c.push.ensures.items (once_more old c.insert.new.self mill.0 c.requires.mill c.insert.ensures queue mill c.requires.new c.args.self.now.once);
    }
