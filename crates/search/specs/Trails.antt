-- What a trail holds.
use Rattle.std.specs.Prelude.{ℕ, List, map, Some, None, Option, slice_index_or}
use Rattle.std.specs.Option.{option_map}
use Rattle.search.specs.declared.link.Link.{Link}
use Rattle.search.specs.declared.trail.Trail.{Trail}

-- the mills in the order in which they were reached
abbrev pub queue_of : Trail → List ℕ
queue_of trail = map (λ mill. mill.0) trail.queue.items

-- how a mill was reached; nothing where the search began
abbrev pub link_of : Trail → ℕ → Option Link
link_of trail mill = slice_index_or trail.links mill None

-- the ticket by which a mill was reached; where the search began, the one that it began with
abbrev pub ticket_in : ℕ → Option Link → ℕ
ticket_in first None = first
ticket_in first (Some link) = link.ticket.0

abbrev pub ticket_of : ℕ → Trail → ℕ → ℕ
ticket_of first trail mill = ticket_in first (link_of trail mill)

-- the node that a link comes from: a mill, or 64 where the search began
abbrev pub node_of : Option Link → ℕ
node_of None = 64
node_of (Some link) = link.by.0

abbrev pub by_of : Trail → ℕ → ℕ
by_of trail mill = node_of (link_of trail mill)

-- the mill that a link comes from, if any
abbrev pub from_of : Trail → ℕ → Option ℕ
from_of trail mill = option_map (λ link. link.by.0) (link_of trail mill)
