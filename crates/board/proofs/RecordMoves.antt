-- What records do to a tally, and that the tally worked out from a call's answer and records is the one after the call.
use Rattle.std.proofs.Common.{◌≡◌, ℕ, zero, suc, ◌<◌, ◌≤◌, Bool, true, false, cond, eqb, List, [], ◌∷◌, ◌++◌, Some, None, Option, sym, refl, ap, ◌∙◌, ⊎_elim, add-one, arith}
use mathlib.Core.Path.{fun_ext}
use Rattle.std.specs.Option.{option_map}
use Rattle.std.proofs.lemmas.Bool.{cases_eq, cases_lt, cond-true, cond-false, eq-eqb, ne_eqb, eqb-true}
use Rattle.vocabulary.specs.declared.numbers.Mill.{Mill}
use Rattle.vocabulary.specs.declared.numbers.Program.{Program}
use Rattle.vocabulary.specs.declared.numbers.Ticket.{Ticket}
use Rattle.table.specs.Tally.{Place, Tally, placement, seated, serving}
use Rattle.search.specs.Rules.{relocated}
use Rattle.board.specs.Records.{record_of, records_of, moved_by, mill_in, after_call}
use Rattle.board.specs.declared.call.Answer.{Answer}
use Rattle.board.specs.declared.call.Call.TheVariants.{Add, Done, Withdraw, Return}
use Rattle.board.specs.declared.moves.Move.{Move}
use Rattle.board.proofs.RecordLaws.{records_to, records_none, records_more, records_all}

-- the program of a ticket; nothing where it does not stand
abbrev pub program_in : Tally → ℕ → Option ℕ
program_in tally t = option_map (λ place. place.program) (tally.seat t)

-- a place with the mill of another, where there are both
abbrev pub brought_to : Option Place → Option Place → Option Place
brought_to None to = None
brought_to (Some place) None = Some place
brought_to (Some place) (Some to) = Some (record { program = place.program; mill = to.mill })

-- where a ticket stood, with the mill that it stands on after
abbrev pub brought : Tally → Tally → ℕ → Option Place
brought before after t = brought_to (before.seat t) (after.seat t)

-- ---- what records do

moved-append : (tally : Tally) (xs ys : List Move) → moved_by tally (xs ++ ys) ≡ moved_by (moved_by tally xs) ys
moved-append tally [] ys = refl
moved-append tally (x ∷ xs) ys = moved-append (relocated tally (record { ticket = x.ticket.0; mill = x.to.0 })) xs ys

pub service_moved : (tally : Tally) (rs : List Move) → (moved_by tally rs).service ≡ tally.service
service_moved tally [] = refl
service_moved tally (r ∷ rs) = service_moved (relocated tally (record { ticket = r.ticket.0; mill = r.to.0 })) rs

-- one record, for another ticket and for its own
record_other : (tally : Tally) (t : ℕ) (from to : Option ℕ) (k : ℕ) → (k ≡ t → ⊥) → (moved_by tally (record_of t from to)).seat k ≡ tally.seat k
record_other tally t None to k other = refl
record_other tally t (Some a) None k other = refl
record_other tally t (Some a) (Some b) k other = go (eqb a b)
  where
    go : (same : Bool) → (moved_by tally (cond same [] (record { ticket = record { 0 = t }; from = record { 0 = a }; to = record { 0 = b } } ∷ []))).seat k ≡ tally.seat k
    go true = refl
    go false = cond-false (eqb k t) _ _ (ne_eqb k t other)

record_here : (tally : Tally) (t : ℕ) (from to : Option Place) → tally.seat t ≡ from
    → (moved_by tally (record_of t (option_map (λ place. place.mill) from) (option_map (λ place. place.mill) to))).seat t ≡ brought_to from to
record_here tally t None to stands = stands
record_here tally t (Some a) None stands = stands
record_here tally t (Some a) (Some b) stands = go (eqb a.mill b.mill) refl
  where
    go : (same : Bool) → eqb a.mill b.mill ≡ same
        → (moved_by tally (cond same [] (record { ticket = record { 0 = t }; from = record { 0 = a.mill }; to = record { 0 = b.mill } } ∷ []))).seat t ≡ brought_to (Some a) (Some b)
    go true same = stands ∙ ap (λ m. Some (record { program = a.program; mill = m })) (eqb-true a.mill b.mill same)
    go false other = cond-true (eqb t t) _ _ (eq-eqb t t refl) ∙ ap (option_map (λ place. record { program = place.program; mill = b.mill })) stands

module _ (before after : Tally) where
  -- the records below n, and then the one of n
  moved_more : (n : ℕ) → moved_by before (records_to before after (suc n)) ≡ moved_by (moved_by before (records_to before after n)) (record_of n (placement before n) (placement after n))
  moved_more n =
      ap (λ k. moved_by before (records_to before after k)) (sym (add-one n)) ∙ ap (moved_by before) (records_more before after n)
      ∙ moved-append before (records_to before after n) (record_of n (placement before n) (placement after n))

  moved_above : (n k : ℕ) → n ≤ k → (moved_by before (records_to before after n)).seat k ≡ before.seat k
  moved_above zero k above = ap (λ rs. (moved_by before rs).seat k) (records_none before after)
  moved_above (suc n) k above =
      ap (λ tally. tally.seat k) (moved_more n) ∙ record_other _ n (placement before n) (placement after n) k (λ e. omega arith) ∙ moved_above n k (omega arith)

  moved-below : (n k : ℕ) → k < n → (moved_by before (records_to before after n)).seat k ≡ brought before after k
  moved-below zero k below = absurd (omega arith)
  moved-below (suc n) k below =
      ap (λ tally. tally.seat k) (moved_more n)
      ∙ ⊎_elim
      (λ (here : k ≡ n).
      ap (moved_by (moved_by before (records_to before after n)) (record_of n (placement before n) (placement after n))).seat here
      ∙ record_here (moved_by before (records_to before after n)) n (before.seat n) (after.seat n) (moved_above n n (omega arith))
      ∙ ap (brought before after) (sym here))
      (λ (other : k ≡ n → ⊥). record_other _ n (placement before n) (placement after n) k other ∙ moved-below n k (omega arith))
      (cases_eq k n)

  module _ (past : (t : ℕ) → 1024 ≤ t → before.seat t ≡ None) where
    pub moved_by_records : (t : ℕ) → (moved_by before (records_of before after)).seat t ≡ brought before after t
    moved_by_records t =
        ap (λ rs. (moved_by before rs).seat t) (sym (records_all before after))
        ∙ ⊎_elim
        (λ (below : t < 1024). moved-below 1024 t below)
        (λ (above : 1024 ≤ t). moved_above 1024 t above ∙ past t above ∙ sym (ap (λ from. brought_to from (after.seat t)) (past t above)))
        (cases_lt t 1024)

-- ---- the tally after a call

pub tally_same : (one other : Tally) → ((t : ℕ) → one.seat t ≡ other.seat t) → one.service ≡ other.service → one ≡ other
tally_same one other seats service i = record { seat = fun_ext seats i; service = service i }

-- a ticket that keeps its program is brought where it stands after
brought_same : (from to : Option Place) → option_map (λ place. place.program) to ≡ option_map (λ place. place.program) from → to ≡ brought_to from to
brought_same None None same = refl
brought_same None (Some to) same = let z : ◌≡◌ {A = ℕ} 0 1 = cc in absurd (omega arith)
brought_same (Some from) None same = let z : ◌≡◌ {A = ℕ} 0 1 = cc in absurd (omega arith)
brought_same (Some from) (Some to) same = let program : to.program ≡ from.program = cc in ap (λ p. Some (record { program = p; mill = to.mill })) program

module _ (before after : Tally) (past : (t : ℕ) → 1024 ≤ t → before.seat t ≡ None) where
  moved_same : (t : ℕ) → program_in after t ≡ program_in before t → after.seat t ≡ (moved_by before (records_of before after)).seat t
  moved_same t same = brought_same (before.seat t) (after.seat t) same ∙ sym (moved_by_records before after past t)

  -- one ticket gets a place or none, and all others keep their programs
  pub agrees_seated : (ticket : ℕ) (place : Option Place) → after.seat ticket ≡ place
      → ((t : ℕ) → (t ≡ ticket → ⊥) → program_in after t ≡ program_in before t) → after.service ≡ before.service
      → after ≡ seated (moved_by before (records_of before after)) ticket place
  agrees_seated ticket place here others service =
      tally_same after (seated (moved_by before (records_of before after)) ticket place)
      (λ t.
      ⊎_elim
      (λ (same : t ≡ ticket). ap after.seat same ∙ here ∙ sym (cond-true (eqb t ticket) _ _ (eq-eqb t ticket same)))
      (λ (other : t ≡ ticket → ⊥). moved_same t (others t other) ∙ sym (cond-false (eqb t ticket) _ _ (ne_eqb t ticket other)))
      (cases_eq t ticket))
      (service ∙ sym (service_moved before (records_of before after)))

  -- a mill is put into service or taken out, and all tickets keep their programs
  pub agrees_serving : (mill : ℕ) (serves : Bool) → ((t : ℕ) → program_in after t ≡ program_in before t) → after.service ≡ (serving before mill serves).service
      → after ≡ serving (moved_by before (records_of before after)) mill serves
  agrees_serving mill serves programs service =
      tally_same after (serving (moved_by before (records_of before after)) mill serves) (λ t. moved_same t (programs t))
      (service ∙ ap (λ s m. cond (eqb m mill) serves (s m)) (sym (service_moved before (records_of before after))))

  module _ (answer : Answer) where
    pub agrees_add : (ticket : Ticket) (program : Program) → after.seat ticket.0 ≡ Some (record { program = program.0; mill = mill_in answer })
        → ((t : ℕ) → (t ≡ ticket.0 → ⊥) → program_in after t ≡ program_in before t) → after.service ≡ before.service
        → after ≡ after_call before (Add ticket program) answer (records_of before after)
    agrees_add ticket program = agrees_seated ticket.0 (Some (record { program = program.0; mill = mill_in answer }))

    pub agrees_done : (ticket : Ticket) → after.seat ticket.0 ≡ None
        → ((t : ℕ) → (t ≡ ticket.0 → ⊥) → program_in after t ≡ program_in before t) → after.service ≡ before.service
        → after ≡ after_call before (Done ticket) answer (records_of before after)
    agrees_done ticket = agrees_seated ticket.0 None

    pub agrees_withdraw : (mill : Mill) → ((t : ℕ) → program_in after t ≡ program_in before t) → after.service ≡ (serving before mill.0 false).service
        → after ≡ after_call before (Withdraw mill) answer (records_of before after)
    agrees_withdraw mill = agrees_serving mill.0 false

    pub agrees_return : (mill : Mill) → ((t : ℕ) → program_in after t ≡ program_in before t) → after.service ≡ (serving before mill.0 true).service
        → after ≡ after_call before (Return mill) answer (records_of before after)
    agrees_return mill = agrees_serving mill.0 true
