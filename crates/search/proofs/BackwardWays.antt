-- The way that the links of a search tell from a mill on, and the chain that is carried out along it.
use Rattle.std.proofs.Common.{◌≡◌, ℕ, zero, suc, ◌<◌, ◌≤◌, true, List, [], ◌∷◌, length, Some, None, Option, sym, refl, ap, ◌∙◌, subst, ap₂, subst₂, ⊎_elim, arith}
use Rattle.std.proofs.lemmas.Bool.{cases_eq}
use Rattle.capability.specs.Meaning.{Meaning}
use Rattle.semimatching.specs.Chains.{Step, Linked, Chain}
use Rattle.semimatching.specs.Choice.{walk_back}
use Rattle.semimatching.specs.Placements.{Shop, Placement}
use Rattle.semimatching.proofs.Carrying.{In, chain_short}
use Rattle.semimatching.proofs.WalkOrder.{same_step}
use Rattle.table.specs.Tally.{Place, Tally, mill_for, mill_of, shop_in, placement, seated}
use Rattle.search.specs.declared.link.Link.{Link}
use Rattle.search.specs.declared.trail.Trail.{Trail}
use Rattle.search.specs.BackSearches.{Sought, Way, WayOn}
use Rattle.search.specs.Rules.{relocated, carried_out}
use Rattle.search.specs.Trails.{queue_of, node_of, link_of, ticket_in, by_of}
use Rattle.search.proofs.BackwardSteps.{sought_mills}
use Rattle.search.proofs.BackwardTally.{relocated_rest, standing_place}
use Rattle.search.proofs.CarriedOut.{shop_out, seated-relocated}

link_is : (o : Option Link) (t m : ℕ) → ticket_in 0 o ≡ t → node_of o ≡ m → m < 64 → o ≡ Some (record { ticket = record { 0 = t }; by = record { 0 = m } })
link_is None t m ticket by low = absurd (omega arith)
link_is (Some link) t m ticket by low = ap₂ (λ k j. Some (record { ticket = record { 0 = k }; by = record { 0 = j } })) ticket by

heads : {r s : Step} {p q : List Step} → ◌≡◌ {A = List Step} (r ∷ p) (s ∷ q) → (r ≡ s) × (p ≡ q)
heads e = (cc, cc)

-- the walk that was found is the way
module _ {meaning : Meaning} {tally : Tally} {mill : ℕ} {trail : Trail} {place t : ℕ} (S : Sought meaning tally mill trail place t) where
  abbrev shop : Shop
  shop = shop_in meaning tally

  abbrev at : Placement
  at = placement tally

  start_path : (z : ℕ) → z ≡ mill → S.path z ≡ []
  start_path z e = ap S.path e ∙ S.searched.found.root.1

  way_end : (y z : ℕ) (ss : List Step) → Linked shop at y ss mill → walk_back y ss ≡ S.path z → In z (queue_of trail) → y ≡ z
  way_end y z [] l e i =
      ⊎_elim
      (λ (here : z ≡ mill). l ∙ sym here)
      (λ (other : z ≡ mill → ⊥). absurd (omega (arith, ap length (e ∙ (S.links z i other).1))))
      (cases_eq z mill)
  way_end y z (s ∷ ss) l e i =
      ⊎_elim
      (λ (here : z ≡ mill). absurd (omega (arith, ap length (e ∙ start_path z here))))
      (λ (other : z ≡ mill → ⊥). ap (λ k. k.mill) (heads (e ∙ (S.links z i other).1)).0)
      (cases_eq z mill)

  pub way_back : (x : ℕ) (steps : List Step) → In x (queue_of trail) → Linked shop at x steps mill → walk_back x steps ≡ S.path x → Way trail x steps
  way_back x [] i l e = ap (link_of trail) l ∙ S.root
  way_back x (s ∷ ss) i l e =
      let link = S.links x i (λ here. omega (arith, ap length (e ∙ start_path x here))) in
      let both = heads (e ∙ link.1) in
      let by = way_end s.mill (by_of trail x) ss l.4 both.1 link.0 in
      let within : In s.mill (queue_of trail) = subst (λ k. In k (queue_of trail)) (sym by) link.0 in (
        link_is (link_of trail x) s.ticket s.mill (sym (ap (λ k. k.ticket) both.0)) (sym by) (sought_mills S s.mill within),
        way_back s.mill ss within l.4 (both.1 ∙ ap S.path (sym by)),
      )

-- how many steps the way has, up to a number
unfoldable pub way_length : Trail → ℕ → ℕ → ℕ
way_length trail zero from = 0
way_length trail (suc n) from = elim (link_of trail from) [ None ↦ 0 | Some link ↦ suc (way_length trail n link.by.0) ]

way_length_lem : (trail : Trail) (n from : ℕ) (steps : List Step) → Way trail from steps → length steps ≤ n → way_length trail n from ≡ length steps
unfolding way_length
way_length_lem trail zero from [] w few = refl
way_length_lem trail zero from (s ∷ ss) w few = absurd (omega arith)
way_length_lem trail (suc n) from [] w few = ap (λ (o : Option Link). elim o as (λ _. ℕ) [ None ↦ 0 | Some link ↦ suc (way_length trail n link.by.0) ]) w
way_length_lem trail (suc n) from (s ∷ ss) w few =
    ap (λ (o : Option Link). elim o as (λ _. ℕ) [ None ↦ 0 | Some link ↦ suc (way_length trail n link.by.0) ]) w.0
    ∙ ap suc (way_length_lem trail n s.mill ss w.1 (omega arith))

way_same : (trail : Trail) (from : ℕ) (steps all : List Step) → Way trail from steps → Way trail from all → steps ≡ all
way_same trail from [] [] w v = refl
way_same trail from [] (r ∷ rs) w v = let link = v.0 in cc
way_same trail from (s ∷ ss) [] w v = let link = w.0 in cc
way_same trail from (s ∷ ss) (r ∷ rs) w v =
    let same = sym w.0 ∙ v.0 in
    let mill : s.mill ≡ r.mill = ap node_of same in
    ap₂ ◌∷◌ (same_step s r (ap (ticket_in 0) same) mill) (way_same trail s.mill ss rs w.1 (subst (λ k. Way trail k rs) (sym mill) v.1))

-- the tickets on the way from a mill up to another have gone on
pub record Carrying (meaning : Meaning) (before done : Tally) (trail : Trail) (start from : ℕ) : Type 0 where
  pub on : WayOn meaning done trail from
  pub rest : (all : List Step) → Way trail start all → carried_out done on.steps ≡ carried_out before all

pub carry_start : {meaning : Meaning} {tally : Tally} {trail : Trail} {start : ℕ} → WayOn meaning tally trail start → Carrying meaning tally tally trail start start
carry_start {tally} {trail} {start} on = record { on = on; rest = λ all w. ap (carried_out tally) (way_same trail start on.steps all on.way w) }

module _ {meaning : Meaning} {before done : Tally} {trail : Trail} {start from : ℕ} (C : Carrying meaning before done trail start from) where
  -- the way has come to its end
  pub carry_end : link_of trail from ≡ None → (all : List Step) → Way trail start all → done ≡ carried_out before all
  carry_end root all w = ap (carried_out done) (way_same trail from [] C.on.steps root C.on.way) ∙ C.rest all w

  -- it goes on by a ticket to a mill
  module _ (link : Link) (is : link_of trail from ≡ Some link) where
    abbrev first : Step
    first = record { ticket = link.ticket.0; mill = link.by.0 }

    later : (steps : List Step) → Way trail from steps → (ss : List Step) × (steps ≡ first ∷ ss) × Way trail link.by.0 ss
    later [] w = absurd (cc)
    later (s ∷ ss) w =
        let same = sym w.0 ∙ is in
        let mill : s.mill ≡ link.by.0 = ap node_of same in
        (ss, ap (λ k. k ∷ ss) (same_step s first (ap (ticket_in 0) same) mill), subst (λ k. Way trail k ss) mill w.1)

    abbrev next : (ss : List Step) × (C.on.steps ≡ first ∷ ss) × Way trail link.by.0 ss
    next = later C.on.steps C.on.way

    chain : Chain (shop_in meaning done) (placement done) from (first ∷ next.0) C.on.mill
    chain = subst (λ steps. Chain (shop_in meaning done) (placement done) from steps C.on.mill) next.1 C.on.chain

    -- the ticket stands, and may go there
    pub carry_may : (place : Place) × (done.seat link.ticket.0 ≡ Some place) × (mill_for meaning done.service place.program link.by.0 ≡ true)
    carry_may =
        let p = standing_place done link.ticket.0 from chain.linked.1 in
        (p.0, p.1, sym (ap (λ o. mill_of meaning done.service o link.by.0) p.1) ∙ chain.linked.3)

    pub carry_step : (meaning' : Meaning) (after : Tally) → meaning' ≡ meaning → ((place : Place) → done.seat link.ticket.0 ≡ Some place → after ≡ seated done link.ticket.0 (Some (record { program = place.program; mill = link.by.0 })))
        → Carrying meaning' before after trail start link.by.0
    carry_step meaning' after same moves =
        let p = carry_may in
        let went : relocated done first ≡ after = sym (moves p.0 p.1 ∙ seated-relocated done (record { ticket = link.ticket.0; mill = link.by.0 }) p.0 p.1) in
        subst₂ (λ m tally. Carrying m before tally trail start link.by.0) (sym same) went (record {
          on = record {
            mill = C.on.mill;
            steps = next.0;
            chain = subst (λ shop. Chain shop (placement (relocated done first)) link.by.0 next.0 C.on.mill) (sym (shop_out meaning done (first ∷ []))) (relocated_rest (shop_in meaning done) done from first next.0 C.on.mill chain);
            way = next.2;
          };
          rest = λ all w. ap (carried_out done) (sym next.1) ∙ C.rest all w;
        })

    pub carry_less : way_length trail 64 link.by.0 < way_length trail 64 from
    carry_less =
        let short = chain_short (shop_in meaning done) (placement done) from (first ∷ next.0) C.on.mill chain in
        omega (
          arith,
          way_length_lem trail 64 link.by.0 next.0 next.2 (omega arith),
          way_length_lem trail 64 from (first ∷ next.0) (is, next.2) (omega arith),
        )
