-- Tickets 5, 6 and 7 come while mill 2 is away, and each stands where no other has to move.
use Rattle.std.proofs.Common.{◌≡◌, ℕ, ◌<◌, ◌≤◌, true, eqb, List, [], ◌∷◌, length, is_some, Some, None, Ok, Err, Result, sym, refl, ap, ◌∙◌, subst, ap₂, ⊎_elim, arith}
use Rattle.std.proofs.lemmas.List.{length-reverse, nil_from_length}
use Rattle.std.proofs.lemmas.Bool.{and_parts, cond_both, false≢true}
use Rattle.std.proofs.lemmas.Bool.Decides.{nat_tests}
use Rattle.vocabulary.specs.declared.refusal.Refusal.{Refusal}
use Rattle.semimatching.specs.Chains.{Step, Linked, Chain, mills_on}
use Rattle.semimatching.specs.Choice.{Placing, walk_from}
use Rattle.semimatching.specs.Placements.{Shop, Placement, load}
use Rattle.semimatching.proofs.Carrying.{along, in_apart, in_end, in_start}
use Rattle.semimatching.proofs.WalkOrder.{not_after_length}
use Rattle.table.specs.Tally.{Tally, mill_for, mill_of, placement, seated, standing}
use Rattle.search.specs.Rules.{shop_for, carried_out}
use Rattle.board.specs.declared.call.Answer.{Answer}
use Rattle.board.specs.declared.call.Answer.TheVariants.{Added, Moved}
use Rattle.board.specs.declared.moves.Move.{Move}
use Rattle.board.specs.Outcomes.{Outcome}
use Rattle.board.proofs.CauseLaws.{add_accepted}
use Rattle.board.proofs.FewMoves.{add_count}
use Rattle.board.proofs.RecordLaws.{length_records}
use Rattle.board.proofs.TallyLaws.{serves_for, serves_of}
use Rattle.cases.specs.WorkedRun.{worked, mill, ticket, adding}
use Rattle.cases.proofs.Seats.{on_mill, chosen, seat_on}
use Rattle.cases.proofs.WorkedShop.{able_1, able_2, able_3, away, with5, with6, with7, serves_away, few_5, few_6, none_standing, load_5, load_6}

-- ---- a ticket that comes to a mill, with no chain behind it

-- the rule of adding leaves this mill and no chain
abbrev Direct : Tally → ℕ → ℕ → ℕ → Type 0
Direct before t p u = (f : ℕ) (steps : List Step) (w : ℕ) → Placing (shop_for worked before t p) (placement before) t f steps w → (f ≡ u) × (steps ≡ [])

module _ (before : Tally) (t p u : ℕ) (exists : t < 1024) (new : before.seat t ≡ None) (may : mill_for worked before.service p u ≡ true) (direct : Direct before t p u) where
  comes : (after : Tally) (answer : Result Answer Refusal) (list list' : List Move) → standing before ≤ length list
      → Outcome worked (adding t p) before after answer list list' → (answer ≡ Ok (Added (mill u) 0)) × (after ≡ seated before t (on_mill p u))
  comes after (Ok (Added m count)) list list' room did =
      let one = direct m.0 did.rule.steps did.rule.last did.rule.choice in
      let still : count ≡ 0 = omega (arith, did.counted, length_records before after, (add_count did.rule new).0, ap length one.1) in (
        ap₂ (λ n k. Ok (Added (mill n) k)) one.0 still,
        did.rule.result ∙ ap₂ (λ n ss. carried_out (seated before t (on_mill p n)) ss) one.0 one.1,
      )
  comes after (Ok (Moved count)) list list' room did = absurd did.rule
  comes after (Err r) list list' room back =
      absurd (add_accepted worked before (length list) (ticket t) (record { 0 = p }) exists (ap is_some new) (λ none. false≢true (sym (none u) ∙ may)) room r back.refused.cause)

-- ---- chains

-- the chain that only begins
alone : (shop : Shop) (at : Placement) (v : ℕ) → v < shop.mills → Chain shop at v [] v
alone shop at v low = record { start = low; linked = refl; once = (tt, tt) }

-- no chain goes on from an empty mill
no_steps : (shop : Shop) (at : Placement) (v : ℕ) (steps : List Step) (w : ℕ) → ((t : ℕ) → at t ≡ Some v → ⊥) → Linked shop at v steps w → steps ≡ []
no_steps shop at v [] w empty linked = refl
no_steps shop at v (s ∷ ss) w empty linked = absurd (empty s.ticket linked.1)

-- ---- ticket 5, of program 3

may_3 : (m : ℕ) → mill_for worked away.service 3 m ≡ true → m ≡ 1
may_3 m may =
    let both = and_parts (worked.able 3 m) (away.service m) may in
    let low = serves_away m both.1 in
    ⊎_elim (λ one. one) (λ (two : m ≡ 2). absurd (omega arith)) (able_3 m both.0)

direct_5 : Direct away 5 3 1
direct_5 f steps w c =
    (may_3 f c.may, no_steps (shop_for worked away 5 3) (placement away) f steps w (λ t on. absurd (grind arith)) c.chain.linked)

pub first_comes : (after : Tally) (answer : Result Answer Refusal) (list list' : List Move) → 3 ≤ length list
    → Outcome worked (adding 5 3) away after answer list list' → (answer ≡ Ok (Added (mill 1) 0)) × (after ≡ with5)
first_comes after answer list list' room = comes away 5 3 1 (omega arith) refl refl direct_5 after answer list list' (omega (arith, none_standing))

-- ---- ticket 6, of program 2

-- only ticket 5 stands, on mill 1
only_5 : (t m : ℕ) → placement with5 t ≡ Some m → (t ≡ 5) × (m ≡ 1)
only_5 t m on =
    let seat = seat_on (with5.seat t) m on in
    ⊎_elim
    (λ (here : (t ≡ 5) × (on_mill 3 1 ≡ Some seat.0)). let is = here.1 in let at = seat.2 in (here.0, cc))
    (λ (nowhere : None ≡ Some seat.0). absurd (grind arith))
    (chosen t 5 (on_mill 3 1) None (Some seat.0) seat.1)

direct_6 : Direct with5 6 2 0
direct_6 f steps w c =
    ⊎_elim
    (λ (zero : f ≡ 0). (zero, no_steps shop at f steps w (λ t on. omega (arith, only_5 t f on)) c.chain.linked))
    (λ (one : f ≡ 1). absurd (from_1 steps one c.chain))
    (able_2 f (and_parts (worked.able 2 f) (away.service f) c.may).0)
  where
    shop : Shop
    shop = shop_for worked with5 6 2

    at : Placement
    at = placement with5

    light : load shop at w ≤ load shop at 0
    light = c.least 0 [] 0 refl (alone shop at 0 (omega arith))

    from_1 : (ss : List Step) → f ≡ 1 → Chain shop at f ss w → ⊥
    from_1 [] one chain = omega (arith, light, load_5 0, load_5 1, ap (load shop at) (sym chain.linked ∙ one))
    from_1 (s ∷ ss) one chain =
        let five = (only_5 s.ticket f chain.linked.1).0 in
        let to : s.mill ≡ 1 = may_3 s.mill (subst (λ t. shop.can t s.mill ≡ true) five chain.linked.3) in
        in_apart s.mill f (mills_on s.mill ss) chain.once.0 (in_start s.mill ss) (to ∙ sym one)

pub second_comes : (after : Tally) (answer : Result Answer Refusal) (list list' : List Move) → 3 ≤ length list
    → Outcome worked (adding 6 2) with5 after answer list list' → (answer ≡ Ok (Added (mill 0) 0)) × (after ≡ with6)
second_comes after answer list list' room = comes with5 6 2 0 (omega arith) refl refl direct_6 after answer list list' (omega (arith, few_5))

-- ---- ticket 7, of program 1

direct_7 : Direct with6 7 1 0
direct_7 f steps w c = (first, nil_from_length steps (omega (arith, short)))
  where
    shop : Shop
    shop = shop_for worked with6 7 1

    at : Placement
    at = placement with6

    first : f ≡ 0
    first = able_1 f (and_parts (worked.able 1 f) (away.service f) c.may).0

    -- every mill of a chain is one of the two in service
    serving : (t m : ℕ) → shop.can t m ≡ true → m < 2
    serving t m =
        cond_both (eqb t 7) (mill_for worked away.service 1 m) (mill_of worked away.service (with6.seat t) m) (λ b. b ≡ true → m < 2)
        (λ _ may. serves_away m (serves_for worked away.service 1 m may))
        (λ _ may. serves_away m (serves_of worked away.service (with6.seat t) m may))

    low : w < 2
    low = (along shop at (λ a b. a < 2 → b < 2) (λ a h. h) (λ a b d g h k. h (g k)) (λ t a b _ _ _ can _. serving t b can) f steps w c.chain.linked w (in_end shop at f steps w c.chain.linked)).0 (omega (arith, first))

    -- both have one ticket, so the shortest chain is taken
    level : load shop at 0 ≡ load shop at w
    level = let few = low in let here = load_6 w in let there = load_6 0 in grind (arith, nat_tests)

    short : length steps ≤ 0
    short =
        omega (
          arith,
          not_after_length (walk_from 7 f steps) (walk_from 7 0 []) (c.first 0 [] 0 refl (alone shop at 0 (omega arith)) level),
          length-reverse (record { ticket = 7; mill = f } ∷ steps),
        )

pub third_comes : (after : Tally) (answer : Result Answer Refusal) (list list' : List Move) → 3 ≤ length list
    → Outcome worked (adding 7 1) with6 after answer list list' → (answer ≡ Ok (Added (mill 0) 0)) × (after ≡ with7)
third_comes after answer list list' room = comes with6 7 1 0 (omega arith) refl refl direct_7 after answer list list' (omega (arith, few_6))
