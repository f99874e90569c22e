-- What a change of a tally does to where its tickets stand, and to the mills that they may stand on.
use Rattle.std.proofs.Common.{◌≡◌, ℕ, Bool, true, false, cond, eqb, Some, None, Option, refl}
use mathlib.Core.Path.{fun_ext}
use Rattle.std.specs.Option.{option_map}
use Rattle.std.proofs.lemmas.Bool.{and_parts, false≢true}
use Rattle.capability.specs.Meaning.{Meaning}
use Rattle.semimatching.specs.Placements.{SemiMatching}
use Rattle.semimatching.proofs.Loads.{put}
use Rattle.table.specs.Tally.{Place, Tally, mill_for, mill_of, shop_in, placement, seated}
use Rattle.search.specs.Rules.{shop_for}

-- every standing ticket is on a mill that is able and in service
abbrev pub Sound : Meaning → Tally → Type 0
Sound meaning tally = SemiMatching (shop_in meaning tally) (placement tally)

-- the mill of a place
abbrev pub mill_at : Option Place → Option ℕ
mill_at o = option_map (λ place. place.mill) o

mill_cond : (b : Bool) (o p : Option Place) → mill_at (cond b o p) ≡ cond b (mill_at o) (mill_at p)
mill_cond true o p = refl
mill_cond false o p = refl

pub placement-seated : (tally : Tally) (t : ℕ) (o : Option Place) → placement (seated tally t o) ≡ put (placement tally) t (mill_at o)
placement-seated tally t o = fun_ext λ k. mill_cond (eqb k t) o (tally.seat k)

-- a mill of a ticket is in service
pub serves_for : (meaning : Meaning) (service : ℕ → Bool) (program m : ℕ) → mill_for meaning service program m ≡ true → service m ≡ true
serves_for meaning service program m may = (and_parts _ _ may).1

pub serves_of : (meaning : Meaning) (service : ℕ → Bool) (o : Option Place) (m : ℕ) → mill_of meaning service o m ≡ true → service m ≡ true
serves_of meaning service None m may = absurd (false≢true may)
serves_of meaning service (Some place) m may = serves_for meaning service place.program m may

of_cond : (meaning : Meaning) (service : ℕ → Bool) (b : Bool) (place : Place) (o : Option Place) (m : ℕ)
    → mill_of meaning service (cond b (Some place) o) m ≡ cond b (mill_for meaning service place.program m) (mill_of meaning service o m)
of_cond meaning service true place o m = refl
of_cond meaning service false place o m = refl

pub shop_seated : (meaning : Meaning) (tally : Tally) (t : ℕ) (place : Place) → shop_in meaning (seated tally t (Some place)) ≡ shop_for meaning tally t place.program
shop_seated meaning tally t place = λ i. record {
  tickets = 1024;
  mills = 64;
  can = λ k m. of_cond meaning tally.service (eqb k t) place (tally.seat k) m i;
}
