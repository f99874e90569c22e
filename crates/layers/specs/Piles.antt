-- Layers in a pile: which pairs are able over a meaning below, for strikes over aliases and for aliases over strikes.
use Rattle.std.specs.Prelude.{ℕ, Bool, not, ◌&&◌, List}
use Rattle.capability.specs.Meaning.{Meaning}
use Rattle.layers.specs.Aliases.{alias_of}
use Rattle.layers.specs.Strikes.{struck}
use Rattle.layers.specs.declared.aliases.Entry.{Entry}
use Rattle.layers.specs.declared.strikes.Pair.{Pair}

-- strikes over aliases: a program is struck by its own number, and cut as its alias
abbrev pub struck_over_aliased : List Pair → List Entry → Meaning → ℕ → ℕ → Bool
struck_over_aliased pairs entries below p m = below.able (alias_of entries p) m && not (struck pairs p m)

-- aliases over strikes: a program is struck by the number of its alias, and cut as its alias
abbrev pub aliased_over_struck : List Entry → List Pair → Meaning → ℕ → ℕ → Bool
aliased_over_struck entries pairs below p m = below.able (alias_of entries p) m && not (struck pairs (alias_of entries p) m)
