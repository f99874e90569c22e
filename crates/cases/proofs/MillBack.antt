-- Mill 2 comes back: ticket 5 goes to it, and ticket 6 to the mill of ticket 5.
use Rattle.std.proofs.Common.{◌≡◌, ℕ, ◌<◌, ◌≤◌, Bool, true, false, cond, eqb, ◌⊎◌, List, [], ◌∷◌, ◌++◌, length, take, drop, is_some, Some, None, Ok, Err, Option, Result, sym, refl, ap, ◌∙◌, ap₂, inl, inr, ⊎_elim, arith}
use Rattle.std.specs.Option.{option_map}
use Rattle.std.proofs.lemmas.Bool.{and_from, cases_eq, cond-false, ne_eqb}
use Rattle.std.proofs.lemmas.Bool.Decides.{nat_tests}
use Rattle.vocabulary.specs.declared.refusal.Refusal.{Refusal}
use Rattle.semimatching.specs.Placements.{Shop, Placement, load, SemiMatching, SameTickets}
use Rattle.semimatching.proofs.Loads.{put, load_placed}
use Rattle.semimatching.proofs.Sums.{sum-zero, greatest_above, greatest_least}
use Rattle.table.specs.Tally.{Place, Tally, mill_of, shop_in, placement, serving}
use Rattle.search.specs.Rules.{EvenIn}
use Rattle.board.specs.declared.call.Answer.{Answer}
use Rattle.board.specs.declared.call.Answer.TheVariants.{Added, Moved}
use Rattle.board.specs.declared.call.Call.TheVariants.{Return}
use Rattle.board.specs.declared.moves.Move.{Move}
use Rattle.board.specs.Records.{record_of, records_of}
use Rattle.board.specs.Rules.{Returned}
use Rattle.board.specs.Outcomes.{AllStand, Outcome}
use Rattle.board.proofs.CauseLaws.{return_accepted}
use Rattle.board.proofs.RecordLaws.{records_to, records_all, records_more, records_none}
use Rattle.board.proofs.RecordMoves.{program_in}
use Rattle.board.proofs.RecordRules.{returned_program, returned_service}
use Rattle.board.proofs.TallyLaws.{mill_at}
use Rattle.cases.specs.WorkedRun.{worked, mill, moving}
use Rattle.cases.proofs.Seats.{on_mill, chosen, load_two}
use Rattle.cases.proofs.RecordGaps.{record_at, records_gap}
use Rattle.cases.proofs.WorkedShop.{able_1, able_2, able_3, with7, few_7}

-- ---- seats

some_mapped : {A B : Type 0} (f : A → B) (o : Option A) → is_some (option_map f o) ≡ is_some o
some_mapped f None = refl
some_mapped f (Some x) = refl

program_seat : (o : Option Place) (p : ℕ) → option_map (λ place. place.program) o ≡ Some p → (m : ℕ) × (o ≡ on_mill p m)
program_seat None p is = absurd (grind arith)
program_seat (Some place) p is = let same : place.program ≡ p = cc in (place.mill, ap (λ q. on_mill q place.mill) same)

no_program : (o : Option Place) → option_map (λ place. place.program) o ≡ None → o ≡ None
no_program None is = refl
no_program (Some place) is = absurd (grind arith)

-- whatever is not 5, 6 or 7 does not stand
no_others : (t : ℕ) → (t ≡ 5 → ⊥) → (t ≡ 6 → ⊥) → (t ≡ 7 → ⊥) → with7.seat t ≡ None
no_others t not_5 not_6 not_7 =
    cond-false (eqb t 7) _ _ (ne_eqb t 7 not_7) ∙ cond-false (eqb t 6) _ _ (ne_eqb t 6 not_6) ∙ cond-false (eqb t 5) _ _ (ne_eqb t 5 not_5)

-- ---- the placement with one ticket on each mill

abbrev spread : Placement
spread = put (put (put (λ _. None) 5 (Some 2)) 6 (Some 1)) 7 (Some 0)

spread_where : (t m : ℕ) → spread t ≡ Some m → ((t ≡ 7) × (m ≡ 0)) ⊎ (((t ≡ 6) × (m ≡ 1)) ⊎ ((t ≡ 5) × (m ≡ 2)))
spread_where t m on =
    ⊎_elim
    (λ (is : (t ≡ 7) × (◌≡◌ {A = Option ℕ} (Some 0) (Some m))). inl (is.0, cc))
    (λ on_6.
    ⊎_elim
    (λ (is : (t ≡ 6) × (◌≡◌ {A = Option ℕ} (Some 1) (Some m))). inr (inl (is.0, cc)))
    (λ on_5.
    ⊎_elim
    (λ (is : (t ≡ 5) × (◌≡◌ {A = Option ℕ} (Some 2) (Some m))). inr (inr (is.0, cc)))
    (λ (none : None ≡ Some m). absurd (grind arith))
    (chosen t 5 _ _ _ on_5))
    (chosen t 6 _ _ _ on_6))
    (chosen t 7 _ _ _ on)

spread_stands : (a b c : Bool) (x y z : Place) (u v w : ℕ)
    → is_some (cond a (Some x) (cond b (Some y) (cond c (Some z) None))) ≡ is_some (cond a (Some u) (cond b (Some v) (cond c (Some w) None)))
spread_stands true b c x y z u v w = refl
spread_stands false true c x y z u v w = refl
spread_stands false false true x y z u v w = refl
spread_stands false false false x y z u v w = refl

spread_load : (shop : Shop) → shop.tickets ≡ 1024 → (m : ℕ) → load shop spread m ≤ 1
spread_load shop many m =
    let none : load shop (λ _. None) m ≡ 0 = sum-zero shop.tickets in
    let five = load_placed shop (λ _. None) 5 2 (omega arith) refl m in
    let six = load_placed shop (put (λ _. None) 5 (Some 2)) 6 1 (omega arith) refl m in
    let seven = load_placed shop (put (put (λ _. None) 5 (Some 2)) 6 (Some 1)) 7 0 (omega arith) refl m in
    grind (arith, nat_tests)

-- ---- where the tickets stand when the mill is back

module _ (after : Tally) (rule : Returned worked with7 2 after) (able : AllStand worked after) (even : EvenIn worked after) where
  abbrev shop : Shop
  shop = shop_in worked after

  serves : (m : ℕ) → after.service m ≡ (serving with7 2 true).service m
  serves m = ap (λ s. s m) (returned_service worked with7 2 after rule)

  program : (t : ℕ) → program_in after t ≡ program_in with7 t
  program = returned_program worked with7 2 after rule

  gone : (t : ℕ) → with7.seat t ≡ None → after.seat t ≡ None
  gone t none = no_program (after.seat t) (program t ∙ ap (option_map (λ place. place.program)) none)

  seat_5 : (m : ℕ) × (after.seat 5 ≡ on_mill 3 m)
  seat_5 = program_seat (after.seat 5) 3 (program 5)

  seat_6 : (m : ℕ) × (after.seat 6 ≡ on_mill 2 m)
  seat_6 = program_seat (after.seat 6) 2 (program 6)

  seat_7 : (m : ℕ) × (after.seat 7 ≡ on_mill 1 m)
  seat_7 = program_seat (after.seat 7) 1 (program 7)

  may : (t p m n : ℕ) → after.seat t ≡ on_mill p n → worked.able p m ≡ true → (serving with7 2 true).service m ≡ true → shop.can t m ≡ true
  may t p m n seat can on = ap (λ o. mill_of worked after.service o m) seat ∙ and_from (worked.able p m) (after.service m) can (serves m ∙ on)

  fits : SemiMatching shop spread
  fits t m low on =
      ⊎_elim
      (λ (is : (t ≡ 7) × (m ≡ 0)). (omega arith, ap₂ shop.can is.0 is.1 ∙ may 7 1 0 seat_7.0 seat_7.1 refl refl))
      (⊎_elim
      (λ (is : (t ≡ 6) × (m ≡ 1)). (omega arith, ap₂ shop.can is.0 is.1 ∙ may 6 2 1 seat_6.0 seat_6.1 refl refl))
      (λ (is : (t ≡ 5) × (m ≡ 2)). (omega arith, ap₂ shop.can is.0 is.1 ∙ may 5 3 2 seat_5.0 seat_5.1 refl refl)))
      (spread_where t m on)

  same : SameTickets shop (placement after) spread
  same t low =
      some_mapped (λ place. place.mill) (after.seat t)
      ∙ sym (some_mapped (λ place. place.program) (after.seat t))
      ∙ ap is_some (program t)
      ∙ some_mapped (λ place. place.program) (with7.seat t)
      ∙ spread_stands (eqb t 7) (eqb t 6) (eqb t 5) _ _ _ 0 1 2

  -- the highest load is no more than that of one ticket to a mill
  light : (m : ℕ) → m < 64 → load shop (placement after) m ≤ 1
  light m low =
      omega (arith, greatest_above 64 (load shop (placement after)) m low, even.lowest spread fits same, greatest_least 64 (load shop spread) 1 (λ k _. spread_load shop refl k))

  apart : (t u m : ℕ) → t < 1024 → u < 1024 → (u ≡ t → ⊥) → m < 64 → placement after t ≡ Some m → placement after u ≡ Some m → ⊥
  apart t u m low less other few on also = omega (arith, load_two shop (placement after) t u m low less other on also, light m few)

  on_7 : after.seat 7 ≡ on_mill 1 0
  on_7 = seat_7.1 ∙ ap (on_mill 1) (able_1 seat_7.0 (able 7 _ seat_7.1).able)

  on_6 : after.seat 6 ≡ on_mill 2 1
  on_6 =
      ⊎_elim
      (λ (zero : seat_6.0 ≡ 0). absurd (apart 7 6 0 (omega arith) (omega arith) (λ e. omega arith) (omega arith) (ap mill_at on_7) (ap mill_at seat_6.1 ∙ ap Some zero)))
      (λ (one : seat_6.0 ≡ 1). seat_6.1 ∙ ap (on_mill 2) one)
      (able_2 seat_6.0 (able 6 _ seat_6.1).able)

  on_5 : after.seat 5 ≡ on_mill 3 2
  on_5 =
      ⊎_elim
      (λ (one : seat_5.0 ≡ 1). absurd (apart 6 5 1 (omega arith) (omega arith) (λ e. omega arith) (omega arith) (ap mill_at on_6) (ap mill_at seat_5.1 ∙ ap Some one)))
      (λ (two : seat_5.0 ≡ 2). seat_5.1 ∙ ap (on_mill 3) two)
      (able_3 seat_5.0 (able 5 _ seat_5.1).able)

  -- ---- and what is written

  no_record : (t : ℕ) → (t ≡ 5 → ⊥) → (t ≡ 6 → ⊥) → record_at with7 after t ≡ []
  no_record t not_5 not_6 =
      ⊎_elim
      (λ (seven : t ≡ 7). ap (record_at with7 after) seven ∙ ap (λ o. record_of 7 (Some 0) (mill_at o)) on_7)
      (λ (not_7 : t ≡ 7 → ⊥). ap (λ o. record_of t (mill_at o) (placement after t)) (no_others t not_5 not_6 not_7))
      (cases_eq t 7)

  record_5 : record_at with7 after 5 ≡ moving 5 1 2 ∷ []
  record_5 = ap (λ o. record_of 5 (Some 1) (mill_at o)) on_5

  record_6 : record_at with7 after 6 ≡ moving 6 0 1 ∷ []
  record_6 = ap (λ o. record_of 6 (Some 0) (mill_at o)) on_6

  two_records : records_of with7 after ≡ moving 5 1 2 ∷ moving 6 0 1 ∷ []
  two_records =
      let below : records_to with7 after 5 ≡ [] = records_gap with7 after 0 5 (λ t _ high. no_record t (λ e. omega arith) (λ e. omega arith)) ∙ records_none with7 after in
      let one : records_to with7 after 6 ≡ moving 5 1 2 ∷ [] = records_more with7 after 5 ∙ ap₂ ◌++◌ below record_5 in
      let two : records_to with7 after 7 ≡ moving 5 1 2 ∷ moving 6 0 1 ∷ [] = records_more with7 after 6 ∙ ap₂ ◌++◌ one record_6 in
      sym (records_all with7 after) ∙ records_gap with7 after 7 1017 (λ t low _. no_record t (λ e. omega arith) (λ e. omega arith)) ∙ two

  -- only ticket 7 is on mill 0
  alone_on_0 : (t : ℕ) → placement after t ≡ Some 0 → t ≡ 7
  alone_on_0 t on =
      ⊎_elim (λ seven. seven)
      (λ (not_7 : t ≡ 7 → ⊥).
      absurd (⊎_elim (λ (six : t ≡ 6). let is = ap (placement after) six in let at = ap mill_at on_6 in let z : ◌≡◌ {A = ℕ} 0 1 = cc in omega arith)
      (λ (not_6 : t ≡ 6 → ⊥).
      ⊎_elim (λ (five : t ≡ 5). let is = ap (placement after) five in let at = ap mill_at on_5 in let z : ◌≡◌ {A = ℕ} 0 2 = cc in omega arith)
      (λ (not_5 : t ≡ 5 → ⊥). let none = ap mill_at (gone t (no_others t not_5 not_6 not_7)) in let z : ◌≡◌ {A = ℕ} 0 1 = cc in omega arith)
      (cases_eq t 5))
      (cases_eq t 6)))
      (cases_eq t 7)

-- what is left when the mill is back
pub record Back (after : Tally) (answer : Result Answer Refusal) (list : List Move) : Type 0 where
  pub told : answer ≡ Ok (Moved 2)
  pub written : take 2 list ≡ moving 5 1 2 ∷ moving 6 0 1 ∷ []
  pub serves_0 : after.service 0 ≡ true
  pub holds : after.seat 7 ≡ on_mill 1 0
  pub alone : (t : ℕ) → placement after t ≡ Some 0 → t ≡ 7

pub mill_back : (after : Tally) (answer : Result Answer Refusal) (list list' : List Move) → 3 ≤ length list → EvenIn worked after
    → Outcome worked (Return (mill 2)) with7 after answer list list' → Back after answer list'
mill_back after (Ok (Added m count)) list list' room even did = absurd did.rule
mill_back after (Ok (Moved count)) list list' room even did =
    let records = two_records after did.rule did.able even in record {
      told = ap (λ n. Ok (Moved n)) (did.counted ∙ ap length records);
      written = ap (take 2) (did.written ∙ ap (λ rs. rs ++ drop (length rs) list) records);
      serves_0 = serves after did.rule did.able even 0;
      holds = on_7 after did.rule did.able even;
      alone = alone_on_0 after did.rule did.able even;
    }
mill_back after (Err r) list list' room even back =
    absurd (return_accepted worked with7 (length list) (mill 2) (omega arith) refl (omega (arith, few_7)) r back.refused.cause)
