-- What placing and shifting by the rules leave: a sound tally, in which fewer tickets have moved than mills are in service.
use Rattle.std.proofs.Common.{◌≡◌, ℕ, ◌<◌, Bool, true, false, cond, eqb, List, [], ◌∷◌, length, is_some, Some, None, Option, sym, refl, ap, ◌∙◌, subst, subst₂, ⊎_elim, arith}
use Rattle.std.proofs.lemmas.Bool.{true≢false, cases_eq, cond-true, cond-false, cond_both, eq-eqb, ne_eqb}
use Rattle.capability.specs.Meaning.{Meaning}
use Rattle.semimatching.specs.Chains.{Step, Linked, mills_on, Chain, moved, carried}
use Rattle.semimatching.specs.Placements.{Shop, Placement, SemiMatching}
use Rattle.semimatching.specs.Sums.{count_to}
use Rattle.semimatching.proofs.Sums.{sum_same}
use Rattle.semimatching.proofs.Carrying.{In, along, differ, carried_semi, carried_same, carried-count, chain_few, placed, placed_chain, placed_semi, placed_count}
use Rattle.table.specs.Tally.{Place, Tally, mill_for, mill_of, shop_in, placement, seated}
use Rattle.search.specs.Rules.{shop_for, PlacedByRule, ShiftedByRule, NothingToShift}
use Rattle.board.specs.Rules.{Finished}
use Rattle.search.proofs.CarriedOut.{shop_out, chain_out}
use Rattle.board.proofs.TallyLaws.{Sound, mill_at, placement-seated, serves_for, serves_of, shop_seated}
use Rattle.board.proofs.EvenCalls.{finished_off}

-- a new ticket is placed
pub shop_placed : {meaning : Meaning} {before after : Tally} {t p mill : ℕ} → PlacedByRule meaning before t p after mill → shop_in meaning after ≡ shop_for meaning before t p
shop_placed {meaning} {before} {t = t} {p = p} {mill = mill} rule =
    let place : Place = record { program = p; mill = mill } in
    ap (shop_in meaning) rule.result ∙ shop_out meaning (seated before t (Some place)) rule.steps ∙ shop_seated meaning before t place

pub placement_placed : {meaning : Meaning} {before after : Tally} {t p mill : ℕ} (rule : PlacedByRule meaning before t p after mill) → before.seat t ≡ None
    → placement after ≡ placed (placement before) t mill rule.steps
placement_placed {meaning} {before} {t = t} {p = p} {mill = mill} rule new =
    let shop = shop_for meaning before t p in
    let come = seated before t (Some (record { program = p; mill = mill })) in
    let first : placement come ≡ moved (placement before) (record { ticket = t; mill = mill }) = placement-seated before t (Some (record { program = p; mill = mill })) in
    let chain = placed_chain shop (placement before) t mill rule.steps rule.last (ap mill_at new) rule.choice.chain in
    let linked = subst (λ at. Linked shop at mill rule.steps rule.last) (sym first) chain.linked in
    ap placement rule.result
    ∙ chain_out shop come mill rule.steps rule.last linked
    ∙ ap (λ at. carried at rule.steps) first

pub sound_placed : {meaning : Meaning} {before after : Tally} {t p mill : ℕ} → Sound meaning before → PlacedByRule meaning before t p after mill → before.seat t ≡ None → Sound meaning after
sound_placed {meaning} {before} {t = t} {p = p} {mill = mill} sound rule new =
    let shop = shop_for meaning before t p in
    let off = ap mill_at new in
    let apart : (k m : ℕ) → placement before k ≡ Some m → k ≡ t → ⊥ = λ k m on e. let z : ◌≡◌ {A = ℕ} 0 1 = cc in omega arith in
    let fits : SemiMatching shop (placement before) = λ k m low on. ((sound k m low on).0, cond-false _ _ _ (ne_eqb k t (apart k m on)) ∙ (sound k m low on).1) in
    subst₂ SemiMatching (sym (shop_placed rule)) (sym (placement_placed rule new))
    (placed_semi shop (placement before) t mill rule.steps rule.last off rule.choice.chain fits rule.choice.may)

-- the mills of a chain are in service
chain_serves : (shop : Shop) (at : Placement) (service : ℕ → Bool) → ((t m : ℕ) → shop.can t m ≡ true → service m ≡ true)
    → (v : ℕ) (steps : List Step) (w : ℕ) → Linked shop at v steps w → service v ≡ true → (m : ℕ) → In m (mills_on v steps) → service m ≡ true
chain_serves shop at service may v steps w l first m i =
    (along shop at (λ a b. service a ≡ true → service b ≡ true) (λ a h. h) (λ a b c g h k. h (g k)) (λ t a b low on high can from. may t b can) v steps w l m i).0 first

pub add_count : {meaning : Meaning} {before after : Tally} {t p mill : ℕ} (rule : PlacedByRule meaning before t p after mill) → before.seat t ≡ None
    → (count_to 1024 (λ k. differ (placement before k) (placement after k)) ≡ length rule.steps) × (length rule.steps < count_to 64 before.service)
add_count {meaning} {before} {t = t} {p = p} {mill = mill} rule new =
    let shop = shop_for meaning before t p in
    let at = placement before in
    let chain = rule.choice.chain in
    let serves : (k m : ℕ) → shop.can k m ≡ true → before.service m ≡ true = λ k m.
    cond_both (eqb k t) (mill_for meaning before.service p m) (mill_of meaning before.service (before.seat k) m) (λ b. b ≡ true → before.service m ≡ true)
    (λ e. serves_for meaning before.service p m)
    (λ e. serves_of meaning before.service (before.seat k) m) in (
      ap (λ (after : Placement). count_to 1024 (λ k. differ (at k) (after k))) (placement_placed rule new)
          ∙ placed_count shop at t mill rule.steps rule.last (ap mill_at new) chain,
      chain_few shop at mill rule.steps rule.last chain before.service
          (chain_serves shop at before.service serves mill rule.steps rule.last chain.linked (serves t mill rule.choice.may)),
    )

-- a chain is carried out
pub shop_shifted : {meaning : Meaning} {before after : Tally} {r : ℕ} → ShiftedByRule meaning before r after → shop_in meaning after ≡ shop_in meaning before
shop_shifted {meaning} {before} rule = ap (shop_in meaning) rule.result ∙ shop_out meaning before rule.steps

pub placement_shifted : {meaning : Meaning} {before after : Tally} {r : ℕ} (rule : ShiftedByRule meaning before r after) → placement after ≡ carried (placement before) rule.steps
placement_shifted {meaning} {before} {r = r} rule =
    ap placement rule.result ∙ chain_out (shop_in meaning before) before rule.from rule.steps r rule.choice.chain.linked

pub sound_shifted : {meaning : Meaning} {before after : Tally} {r : ℕ} → Sound meaning before → ShiftedByRule meaning before r after → Sound meaning after
sound_shifted {meaning} {before} {r = r} sound rule =
    subst₂ SemiMatching (sym (shop_shifted rule)) (sym (placement_shifted rule))
    (carried_semi (shop_in meaning before) (placement before) rule.from rule.steps r sound rule.choice.chain)

differ_off : (o p : Option ℕ) → is_some p ≡ false → differ o p ≡ false
differ_off None p off = refl
differ_off (Some a) None off = refl
differ_off (Some a) (Some b) off = absurd (true≢false off)

-- the first mill of a chain to a mill in service
first_serves : (shop : Shop) (at : Placement) (service : ℕ → Bool) → SemiMatching shop at → ((t m : ℕ) → shop.can t m ≡ true → service m ≡ true)
    → (v : ℕ) (steps : List Step) (w : ℕ) → Linked shop at v steps w → service w ≡ true → service v ≡ true
first_serves shop at service semi may v [] w l last = ap service l ∙ last
first_serves shop at service semi may v (s ∷ ss) w l last = may s.ticket v (semi s.ticket v l.0 l.1).1

-- the ticket t, which stood on r, is finished
module _ (meaning : Meaning) (before : Tally) (sound : Sound meaning before) (t r : ℕ) (low : t < 1024) (stood : placement before t ≡ Some r) where
  abbrev off : Tally
  off = seated before t None

  abbrev at : Placement
  at = placement off

  serves : (k m : ℕ) → (shop_in meaning off).can k m ≡ true → before.service m ≡ true
  serves k m = serves_of meaning before.service (off.seat k) m

  -- and is not counted
  off_differ : (from : ℕ) (steps : List Step) → Chain (shop_in meaning off) at from steps r → (k : ℕ) → k < 1024
      → differ (placement before k) (carried at steps k) ≡ differ (at k) (carried at steps k)
  off_differ from steps c k less =
      ⊎_elim
      (λ (e : k ≡ t).
      let gone : is_some (carried at steps k) ≡ false =
      sym (carried_same (shop_in meaning off) at from steps r c k less) ∙ ap (λ o. is_some (mill_at o)) (cond-true (eqb k t) None (before.seat k) (eq-eqb k t e)) in
      differ_off (placement before k) (carried at steps k) gone ∙ sym (differ_off (at k) (carried at steps k) gone))
      (λ (ne : k ≡ t → ⊥). ap (λ o. differ (mill_at o) (carried at steps k)) (sym (cond-false (eqb k t) None (before.seat k) (ne_eqb k t ne))))
      (cases_eq k t)

  off_count : (from : ℕ) (steps : List Step) → Chain (shop_in meaning off) at from steps r → count_to 1024 (λ k. differ (placement before k) (carried at steps k)) < count_to 64 before.service
  off_count from steps c =
      let shop = shop_in meaning off in
      let last = serves_of meaning before.service (before.seat t) r (sound t r low stood).1 in
      let first = first_serves shop at before.service (finished_off meaning before t sound) serves from steps r c.linked last in
      omega (
        arith,
        sum_same 1024 (λ k. cond (differ (placement before k) (carried at steps k)) 1 0) (λ k. cond (differ (at k) (carried at steps k)) 1 0)
            (λ k less. ap (λ b. cond b 1 0) (off_differ from steps c k less)),
        carried-count shop at from steps r c,
        chain_few shop at from steps r c before.service (chain_serves shop at before.service serves from steps r c.linked first),
      )

pub done_count : {meaning : Meaning} {before after : Tally} {t : ℕ} → Sound meaning before → Finished meaning before t after → t < 1024
    → count_to 1024 (λ k. differ (placement before k) (placement after k)) < count_to 64 before.service
done_count {meaning} {before} {after} {t} sound done low =
    let r = done.mill in
    let off = seated before t None in
    let Few : Placement → Type 0 = λ at. count_to 1024 (λ k. differ (placement before k) (at k)) < count_to 64 before.service in
    let few = off_count meaning before sound t r low done.stood in
    ⊎_elim
    (λ (shifted : ShiftedByRule meaning off r after). subst Few (sym (placement_shifted shifted)) (few shifted.from shifted.steps shifted.choice.chain))
    (λ (stays : NothingToShift meaning off r × (after ≡ off)).
    subst Few (sym (ap placement stays.1)) (few r [] (record { start = (sound t r low done.stood).0; linked = refl; once = (tt, tt) })))
    done.rule
