-- The mills of a payload as they come: fewer than 64 before each, and in the end all members of the row.
use Rattle.std.proofs.Common.{◌≡◌, ℕ, ◌<◌, ◌≤◌, List, [], ◌∷◌, ◌++◌, length, sym, ◌∙◌, arith}
use Rattle.std.specs.Iterator.{Yields}
use Rattle.sets.specs.Sets.{has, members, remaining, Step}
use Rattle.sets.specs.declared.number_set.Members.{Members}
use Rattle.sets.specs.declared.number_set.NumberSet.{NumberSet}
use Rattle.sets.proofs.Members.{remaining_split, members_end, turn_place}
use Rattle.sets.proofs.Rising.{length-numbers_le}

few_members : (row : NumberSet) → length (members row) ≤ 64
few_members row = length-numbers_le (has row) 64

module _ (row : NumberSet) (start here : Members) (mills : List ℕ) (from_row : remaining start ≡ members row) (came : Yields Step start mills here) where
  split : members row ≡ mills ++ remaining here
  split = sym from_row ∙ remaining_split start here mills came

  pub mills_before : (mill : ℕ) (after : Members) → remaining here ≡ mill ∷ remaining after → length mills < 64
  mills_before mill after next = omega (arith, few_members row, (turn_place row mills here split mill after next).0)

  pub all_come : remaining here ≡ [] → mills ≡ members row
  all_come end = members_end row mills here split end
