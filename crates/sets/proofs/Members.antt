-- The members of a set of 64 bits: how many they are, and the list that a `for` over them gives.
use Rattle.std.proofs.Common.{◌≡◌, ℕ, zero, suc, ◌+◌, ◌/◌, ◌%◌, ◌^◌, ◌<◌, true, cond, ◌&&◌, eqb, ltb, List, [], ◌∷◌, ◌++◌, length, get_or, take, sym, refl, ap, ◌∙◌, subst, ap₂, mod-lt, zero-lt-suc, arith}
use lib.Arith.{lt-one}
use lib.Count.{ones, ones_step}
use Rattle.std.specs.Iterator.{Yields}
use Rattle.std.proofs.lemmas.Iterator.{YieldsList}
use Rattle.std.proofs.lemmas.List.{append-nil, length-append, take_at, get_or_at}
use Rattle.std.proofs.lemmas.Iterator.Consumers.{YieldsList-from_shown}
use Rattle.std.proofs.lemmas.Bool.{eq-eqb, lt-ltb, ltb-true, and_parts, or_left, or_right}
use Rattle.sets.specs.Sets.{holds, numbers, has, members, member, Rises, remaining, Step}
use Rattle.sets.specs.declared.number_set.Members.{Members}
use Rattle.sets.specs.declared.number_set.NumberSet.{NumberSet}
use Rattle.sets.proofs.Holds.{holds_first, holds-next, half_below}
use Rattle.sets.proofs.Rising.{numbers_same, numbers_rise, rising_front, member-append, member-numbers, length-numbers-next}

count_bits : (w bits : ℕ) → bits < 2 ^ w → length (numbers (holds bits) w) ≡ ones bits
unfolding ones numbers
count_bits zero bits h = sym (ap ones (lt-one h))
count_bits (suc w) bits h =
    length-numbers-next (holds bits) w
    ∙ ap₂ (λ m n. m + n) (ap (λ t. cond t 1 0) (holds_first bits) ∙ digit (bits % 2) (mod-lt bits (zero-lt-suc 1)))
    (ap length (numbers_same (λ k. holds bits (suc k)) (holds (bits / 2)) w (λ k l. holds-next bits k)) ∙ count_bits w (bits / 2) (half_below w bits h))
    ∙ sym (ones_step bits)
  where
    digit : (x : ℕ) → x < 2 → cond (eqb x 1) 1 0 ≡ x
    digit zero l = refl
    digit (suc zero) l = refl
    digit (suc (suc x)) l = absurd (omega arith)

-- as many numbers are held as bits are set
pub length-members : (bits : ℕ) → bits < 2 ^ 64 → length (numbers (holds bits) 64) ≡ ones bits
length-members bits h = count_bits 64 bits h

-- ---- an iterator gives what remains to it, in order

pub members_road : (iterator : Members) → YieldsList Step (λ n. n) iterator (remaining iterator)
members_road iterator = YieldsList-from_shown Step (λ n. n) remaining (λ s t e. ap length e.0) (λ s n t e. e) iterator

pub remaining_split : (start here : Members) (xs : List ℕ) → Yields Step start xs here → remaining start ≡ xs ++ remaining here
remaining_split start here [] y = ap remaining y
remaining_split start here (x ∷ xs) y = y.1 ∙ ap (λ l. x ∷ l) (remaining_split y.0 here xs y.2)

-- ---- a `for` over the members of `set` that has yielded `xs`, and whose iterator is `here`

-- `made` is what `iter` gave, and `start` what `into_iter` made of it
pub members_split : (set : NumberSet) (xs : List ℕ) (here : Members) {made start : Members} → remaining made ≡ members set → start ≡ made → Yields Step start xs here → members set ≡ xs ++ remaining here
members_split set xs here {made} {start} e same y = sym e ∙ sym (ap remaining same) ∙ remaining_split start here xs y

module _ (set : NumberSet) (xs : List ℕ) (here : Members) (split : members set ≡ xs ++ remaining here) where
  -- what has come is a front of the members
  pub members_so_far : xs ≡ take (length xs) (members set)
  members_so_far = sym (ap (take (length xs)) split ∙ take_at xs (remaining here) (length xs) refl)

  -- at the end all members have come
  pub members_end : remaining here ≡ [] → xs ≡ members set
  members_end e = sym (split ∙ ap (λ l. xs ++ l) e ∙ append-nil xs)

  module _ (number : ℕ) (after : Members) (next : remaining here ≡ number ∷ remaining after) where
    turn_split : members set ≡ xs ++ number ∷ remaining after
    turn_split = split ∙ ap (λ l. xs ++ l) next

    -- the turn's number is a member
    pub turn_has : (number < 64) × (has set number ≡ true)
    turn_has =
        let there : member number (members set) ≡ true =
        ap (member number) turn_split ∙ member-append number xs (number ∷ remaining after)
        ∙ or_right (member number xs) (member number (number ∷ remaining after)) (or_left (eqb number number) (member number (remaining after)) (eq-eqb number number refl)) in
        let both = and_parts (ltb number 64) (has set number) (sym (member-numbers (has set) number 64) ∙ there) in
        (ltb-true number 64 both.0, both.1)

    -- the members below it are what has come
    pub turn_so_far : xs ≡ numbers (has set) number
    turn_so_far =
        let below = turn_has.0 in
        let rises = subst (Rises 0 64) turn_split (numbers_rise (has set) 64) in
        rising_front 64 number xs (remaining after) rises
        ∙ numbers_same (λ k. member k (xs ++ number ∷ remaining after)) (has set) number
        (λ k l. ap (member k) (sym turn_split) ∙ member-numbers (has set) k 64 ∙ ap (λ t. t && has set k) (lt-ltb k 64 (omega arith)))

    -- where it stands among the members
    pub turn_place : (length xs < length (members set)) × (get_or (members set) (length xs) 0 ≡ number)
    turn_place = (
      omega (arith, ap length turn_split, length-append xs (number ∷ remaining after)),
      ap (λ l. get_or l (length xs) 0) turn_split ∙ get_or_at xs number (remaining after) 0 (length xs) refl,
    )
