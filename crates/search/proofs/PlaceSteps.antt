-- Placing a ticket along the links of a trail: what each turn keeps, what the table asks for, and what is reached at the end.
use Rattle.std.proofs.Common.{◌≡◌, ℕ, zero, suc, ◌<◌, ◌≤◌, Bool, true, List, [], ◌∷◌, ◌++◌, reverse, length, Some, None, Option, sym, refl, ap, ◌∙◌, subst, ap₂, arith, MatchOption}
use mathlib.Core.List.{reverse-cons}
use Rattle.std.specs.Option.{option_map}
use Rattle.std.specs.List.{AllByRecursion as All}
use Rattle.std.proofs.ByRecursion.{All-push}
use Rattle.std.proofs.lemmas.List.{append_assoc, length-append, length-reverse, same_from_push}
use Rattle.std.proofs.lemmas.Bool.{cond-true, cond-false, eq-eqb, ne_eqb, false≢true}
use Rattle.capability.specs.Meaning.{Meaning}
use Rattle.semimatching.specs.Chains.{Step, Linked, Chain}
use Rattle.semimatching.specs.Choice.{walk_from, Placing}
use Rattle.semimatching.specs.Placements.{SemiMatching}
use Rattle.semimatching.proofs.Carrying.{chain_short}
use Rattle.table.specs.Tally.{Place, Tally, mill_for, mill_of, shop_in, placement, seated}
use Rattle.search.specs.declared.link.Link.{Link}
use Rattle.search.specs.declared.trail.Trail.{Trail}
use Rattle.search.specs.Routes.{Leads, Route}
use Rattle.search.specs.Rules.{shop_for, relocated, carried_out, PlacedByRule}
use Rattle.search.specs.Trails.{link_of, ticket_in, ticket_of, from_of}
use Rattle.search.proofs.CarriedOut.{seated-relocated, out_push, out_reverse, out_seated, out_service, out_can, out_none, linked_tickets, linked_others}

-- ---- the shop with a ticket that is to be placed

module _ (meaning : Meaning) (tally : Tally) (n program : ℕ) where
  pub for_new : (m : ℕ) → (shop_for meaning tally n program).can n m ≡ mill_for meaning tally.service program m
  for_new m = cond-true _ _ _ (eq-eqb n n refl)

  pub for_other : (t m : ℕ) → (t ≡ n → ⊥) → (shop_for meaning tally n program).can t m ≡ (shop_in meaning tally).can t m
  for_other t m other = cond-false _ _ _ (ne_eqb t n other)

  module _ (away : tally.seat n ≡ None) where
    pub not_placed : placement tally n ≡ None
    not_placed = ap (option_map (λ place. place.mill)) away

    -- who stands is another ticket
    pub stands_other : (t m : ℕ) → placement tally t ≡ Some m → t ≡ n → ⊥
    stands_other t m stands e = let none = not_placed in cc

    pub semi_for : SemiMatching (shop_in meaning tally) (placement tally) → SemiMatching (shop_for meaning tally n program) (placement tally)
    semi_for semi t m exists stands = let was = semi t m exists stands in (was.0, for_other t m (stands_other t m stands) ∙ was.1)

    -- each ticket of a chain may go to its mill
    linked_may : (v : ℕ) (steps : List Step) (w : ℕ) → Linked (shop_for meaning tally n program) (placement tally) v steps w
        → All (λ s. (shop_in meaning tally).can s.ticket s.mill ≡ true) steps
    linked_may v [] w l = tt
    linked_may v (s ∷ steps) w l = (sym (for_other s.ticket s.mill (stands_other s.ticket v l.1)) ∙ l.3, linked_may s.mill steps w l.4)

-- a ticket that may go to a mill stands, and the mill is one for its program
may_place : (meaning : Meaning) (service : ℕ → Bool) (seat : Option Place) (m : ℕ) → mill_of meaning service seat m ≡ true
    → (place : Place) × (seat ≡ Some place) × (mill_for meaning service place.program m ≡ true)
may_place meaning service None m may = absurd (false≢true may)
may_place meaning service (Some place) m may = (place, refl, may)

-- ---- lists of steps

all_reverse : (P : Step → Type 0) (steps : List Step) → All P steps → All P (reverse steps)
all_reverse P [] all = tt
all_reverse P (s ∷ steps) all = subst (All P) (sym (reverse-cons s steps)) (All-push P (reverse steps) s (all_reverse P steps all.1) all.0)

all_at : (P : Step → Type 0) (xs : List Step) (s : Step) (ys : List Step) → All P (xs ++ (s ∷ ys)) → P s
all_at P [] s ys all = all.0
all_at P (x ∷ xs) s ys all = all_at P xs s ys all.1

-- a list with an element ends with one
last_of : (r : Step) (p : List Step) → (init : List Step) × (last : Step) × (r ∷ p ≡ init ++ (last ∷ []))
last_of r [] = ([], r, refl)
last_of r (q ∷ p) = let rest = last_of q p in (r ∷ rest.0, rest.1, ap (λ l. r ∷ l) rest.2)

-- ---- the links of a trail

leads_low : (mills : ℕ) (ticket : ℕ → ℕ) (from : ℕ → Option ℕ) (p : List Step) (w : ℕ) → Leads mills ticket from p w → w < mills
leads_low mills ticket from [] w leads = absurd leads
leads_low mills ticket from (s ∷ p) w leads = leads.0

-- what is left when a link leads to another mill, and when it leads to none
pub record Onward (mills : ℕ) (ticket : ℕ → ℕ) (from : ℕ → Option ℕ) (p : List Step) (w v : ℕ) : Type 0 where
  pub after : Step
  pub left : List Step
  pub is : p ≡ record { ticket = ticket w; mill = w } ∷ after ∷ left
  pub leads : Leads mills ticket from (after ∷ left) v

leads_on : (mills : ℕ) (ticket : ℕ → ℕ) (from : ℕ → Option ℕ) (p : List Step) (w v : ℕ) → from w ≡ Some v → Leads mills ticket from p w → Onward mills ticket from p w v
leads_on mills ticket from [] w v on leads = absurd leads
leads_on mills ticket from (s ∷ []) w v on leads = absurd (subst (λ o. MatchOption o (◌≡◌ {A = List Step} [] []) (Leads mills ticket from [])) on leads.2)
leads_on mills ticket from (s ∷ r ∷ p) w v on leads = record {
  after = r;
  left = p;
  is = ap (λ k. k ∷ r ∷ p) leads.1;
  leads = subst (λ o. MatchOption o (r ∷ p ≡ []) (Leads mills ticket from (r ∷ p))) on leads.2;
}

leads_end : (mills : ℕ) (ticket : ℕ → ℕ) (from : ℕ → Option ℕ) (p : List Step) (w : ℕ) → from w ≡ None → Leads mills ticket from p w → p ≡ record { ticket = ticket w; mill = w } ∷ []
leads_end mills ticket from [] w end leads = absurd leads
leads_end mills ticket from (s ∷ p) w end leads = ap₂ ◌∷◌ leads.1 (subst (λ o. MatchOption o (p ≡ []) (Leads mills ticket from p)) end leads.2)

-- how many links lead on from a mill, counted no further than k
stepped : Option ℕ → (ℕ → ℕ) → ℕ
stepped None count = 0
stepped (Some v) count = suc (count v)

pub hops : ℕ → (ℕ → Option ℕ) → ℕ → ℕ
hops zero from w = 0
hops (suc k) from w = stepped (from w) (hops k from)

hops_length : (mills : ℕ) (ticket : ℕ → ℕ) (from : ℕ → Option ℕ) (k : ℕ) (p : List Step) (w : ℕ) → length p ≤ k → Leads mills ticket from p w → suc (hops k from w) ≡ length p
unfolding hops stepped
hops_length mills ticket from zero [] w short leads = absurd leads
hops_length mills ticket from zero (s ∷ p) w short leads = absurd (omega arith)
hops_length mills ticket from (suc k) [] w short leads = absurd leads
hops_length mills ticket from (suc k) (s ∷ p) w short leads = ap suc (go (λ v. hops_length mills ticket from k p v (omega arith)) (from w) leads.2)
  where
    go : ((v : ℕ) → Leads mills ticket from p v → suc (hops k from v) ≡ length p) → (o : Option ℕ) → MatchOption o (p ≡ []) (Leads mills ticket from p) → stepped o (hops k from) ≡ length p
    go rest None end = sym (ap length end)
    go rest (Some v) on = rest v on

-- ---- along the links

-- from the table `before` the steps `done` of a route were carried out, last first, and the links from `to` spell the rest
pub record Following (meaning : Meaning) (before : Tally) (n program : ℕ) (ticket : ℕ → ℕ) (from : ℕ → Option ℕ) (tally : Tally) (to : ℕ) : Type 0 where
  pub end : ℕ
  pub route : Route (shop_for meaning before n program) (placement before) n ticket from end
  pub done : List Step
  pub rest : List Step
  pub whole : done ++ rest ≡ walk_from n route.first route.steps
  pub leads : Leads 64 ticket from rest to
  pub is : tally ≡ carried_out before done

module _ (meaning : Meaning) (before : Tally) (n program : ℕ) (trail : Trail) where
  abbrev ticket : ℕ → ℕ
  ticket = ticket_of n trail

  abbrev from : ℕ → Option ℕ
  from = from_of trail

  pub follow_start : (to : ℕ) → Route (shop_for meaning before n program) (placement before) n ticket from to → Following meaning before n program ticket from before to
  follow_start to route = record { end = to; route = route; done = []; rest = _; whole = refl; leads = route.links; is = refl }

  module _ {tally : Tally} {to : ℕ} (F : Following meaning before n program ticket from tally to) where
    abbrev first : Step
    first = record { ticket = n; mill = F.route.first }

    abbrev chain : Chain (shop_for meaning before n program) (placement before) F.route.first F.route.steps F.end
    chain = F.route.placing.chain

    pub follow_low : to < 64
    follow_low = leads_low 64 ticket from F.rest to F.leads

    follow_short : length F.rest ≤ 64
    follow_short =
        omega (
          arith,
          chain_short _ _ _ _ _ chain,
          ap length F.whole,
          length-append F.done F.rest,
          length-reverse (first ∷ F.route.steps),
        )

    -- the next link leads to another mill
    module _ (away : before.seat n ≡ None) (link : Link) (on : link_of trail to ≡ Some link) where
      abbrev v : ℕ
      v = link.by.0

      same : link.ticket.0 ≡ ticket to
      same = ap (ticket_in n) (sym on)

      abbrev here : Step
      here = record { ticket = ticket to; mill = to }

      next : Onward 64 ticket from F.rest to v
      next = leads_on 64 ticket from F.rest to v (ap (option_map (λ l. l.by.0)) on) F.leads

      -- its ticket is not the new one
      inner : (ending : (init : List Step) × (last : Step) × (next.after ∷ next.left ≡ init ++ (last ∷ []))) → F.done ++ (here ∷ ending.0) ≡ reverse F.route.steps
      inner ending =
          (same_from_push (F.done ++ (here ∷ ending.0)) (reverse F.route.steps) ending.1 first
          (append_assoc F.done (here ∷ ending.0) (ending.1 ∷ []) ∙ ap (λ l. F.done ++ (here ∷ l)) (sym ending.2) ∙ ap (λ l. F.done ++ l) (sym next.is)
          ∙ F.whole ∙ reverse-cons first F.route.steps)
          ).0

      may : (shop_in meaning before).can (ticket to) to ≡ true
      may =
          let ending = last_of next.after next.left in
          let P : Step → Type 0 = λ s. (shop_in meaning before).can s.ticket s.mill ≡ true in
          all_at P F.done here ending.0
          (subst (All P) (sym (inner ending)) (all_reverse P F.route.steps (linked_may meaning before n program away F.route.first F.route.steps F.end chain.linked)))

      stands : (place : Place) × (tally.seat (ticket to) ≡ Some place) × (mill_for meaning tally.service place.program to ≡ true)
      stands =
          may_place meaning tally.service (tally.seat (ticket to)) to
          (subst (λ k. (shop_in meaning k).can (ticket to) to ≡ true) (sym F.is) (out_can meaning before F.done (ticket to) to ∙ may))

      -- what `shift` asks for
      pub follow_may : (meant : Meaning) → meant ≡ meaning → (place : Place) × (tally.seat link.ticket.0 ≡ Some place) × (mill_for meant tally.service place.program to ≡ true)
      follow_may meant e = (stands.0, ap tally.seat same ∙ stands.1, ap (λ m. mill_for m tally.service stands.0.program to) e ∙ stands.2)

      pub follow_on : (after : Tally) → ((place : Place) → tally.seat link.ticket.0 ≡ Some place → after ≡ seated tally link.ticket.0 (Some (record { program = place.program; mill = to })))
          → Following meaning before n program ticket from after v
      follow_on after shifted = record {
        end = F.end;
        route = F.route;
        done = F.done ++ (here ∷ []);
        rest = next.after ∷ next.left;
        whole = append_assoc F.done (here ∷ []) (next.after ∷ next.left) ∙ ap (λ l. F.done ++ l) (sym next.is) ∙ F.whole;
        leads = next.leads;
        is = shifted stands.0 (ap tally.seat same ∙ stands.1) ∙ ap (λ k. seated tally k (Some (record { program = stands.0.program; mill = to }))) same
            ∙ seated-relocated tally here stands.0 stands.1 ∙ ap (λ k. relocated k here) F.is ∙ sym (out_push before F.done here);
      }

      pub follow_less : hops 64 from v < hops 64 from to
      follow_less =
          let short = follow_short in
          let long = ap length next.is in
          omega (
            arith,
            hops_length 64 ticket from 64 F.rest to short F.leads,
            hops_length 64 ticket from 64 (next.after ∷ next.left) v (omega arith) next.leads,
          )

    -- the next link leads to the new ticket
    module _ (away : before.seat n ≡ None) (root : link_of trail to ≡ None) where
      ending : (F.done ≡ reverse F.route.steps) × (record { ticket = ticket to; mill = to } ≡ first)
      ending =
          same_from_push F.done (reverse F.route.steps) (record { ticket = ticket to; mill = to }) first
          (ap (λ l. F.done ++ l) (sym (leads_end 64 ticket from F.rest to (ap (option_map (λ l. l.by.0)) root) F.leads)) ∙ F.whole ∙ reverse-cons first F.route.steps)

      pub end_first : to ≡ F.route.first
      end_first = ap (λ s. s.mill) ending.1

      carried_all : tally ≡ carried_out before F.route.steps
      carried_all =
          F.is ∙ ap (carried_out before) ending.0
          ∙ out_reverse before F.route.steps (linked_tickets _ _ _ _ _ chain.linked chain.once)

      pub end_away : tally.seat n ≡ None
      end_away = ap (λ k. k.seat n) carried_all ∙ out_none before F.route.steps n away

      pub end_may : (meant : Meaning) → meant ≡ meaning → mill_for meant tally.service program to ≡ true
      end_may meant e =
          ap (λ m. mill_for m tally.service program to) e
          ∙ ap₂ (λ s m. mill_for meaning s program m) (ap (λ k. k.service) carried_all ∙ out_service before F.route.steps) end_first
          ∙ sym (for_new meaning before n program F.route.first) ∙ F.route.placing.may

      module _ (after : Tally) (put : after ≡ seated tally n (Some (record { program = program; mill = to }))) where
        pub end_result : after ≡ carried_out (seated before n (Some (record { program = program; mill = to }))) F.route.steps
        end_result =
            put ∙ ap (λ k. seated k n (Some (record { program = program; mill = to }))) carried_all
            ∙ out_seated before n _ F.route.steps (linked_others _ _ _ _ _ chain.linked n (not_placed meaning before n program away))

        pub end_rule : PlacedByRule meaning before n program after to
        end_rule = record {
          steps = F.route.steps;
          last = F.end;
          choice = subst (λ m. Placing (shop_for meaning before n program) (placement before) n m F.route.steps F.end) (sym end_first) F.route.placing;
          result = end_result;
        }
