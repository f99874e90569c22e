-- Lines are answered in turn.
use Rattle.std.proofs.Common.{◌≡◌, ℕ, ◌+◌, ◌<◌, ◌≤◌, Bool, true, false, cond, ltb, List, [], ◌∷◌, ◌++◌, length, get_or, take, set, vec_items, sym, refl, ap, ◌∙◌, subst, subst₂, ⊎_elim, arith}
use Rattle.std.proofs.lemmas.List.{append-nil, take_more, take_more_set, get_or-set_other}
use Rattle.std.proofs.lemmas.Bool.{cases_lt, cond-true, cond-false, lt-ltb, le-ltb}
use Rattle.capability.specs.Meaning.{Meaning}
use Rattle.console.specs.Exchanges.{Exchanged, ExchangesBy, line_read, lines_read, RanExchanges}
use Rattle.console.specs.Runs.{RanLines}
use Rattle.console.specs.States.{State, fresh}
use Rattle.console.specs.declared.exchange.Exchange.{Exchange}
use Rattle.console.proofs.LineRuns.{lines_more}

-- ---- one exchange more

each_push : (source : Meaning) (before : State) (lent answered : List Exchange) (then : State) (r r' : Exchange) (after : State)
    → ExchangesBy source before lent answered then → Exchanged source then r r' after → ExchangesBy source before (lent ++ r ∷ []) (answered ++ r' ∷ []) after
each_push source before [] [] then r r' after each one = (after, subst (λ state. Exchanged source state r r' after) each one, refl)
each_push source before [] (b ∷ answered) then r r' after each one = absurd each
each_push source before (a ∷ lent) [] then r r' after each one = absurd each
each_push source before (a ∷ lent) (b ∷ answered) then r r' after each one = (each.0, each.1, each_push source each.0 lent answered then r r' after each.2 one)

cond_front : (b : Bool) (line : List ℕ) (xs ys : List (List ℕ)) → cond b (xs ++ ys) (line ∷ (xs ++ ys)) ≡ cond b xs (line ∷ xs) ++ ys
cond_front true line xs ys = refl
cond_front false line xs ys = refl

read_push : (lent : List Exchange) (r : Exchange) → lines_read (lent ++ r ∷ []) ≡ lines_read lent ++ line_read r []
read_push [] r = refl
read_push (a ∷ lent) r = ap (line_read a) (read_push lent r) ∙ cond_front (ltb (length (vec_items a.area)) 16384) (vec_items a.line) (lines_read lent) (line_read r [])

lines_push : (source : Meaning) (lines : List (List ℕ)) (state : State) (r r' : Exchange) (after : State) → RanLines source lines state → Exchanged source state r r' after
    → RanLines source (lines ++ line_read r []) after
lines_push source lines state r r' after ran one =
    ⊎_elim
    (λ (short : length (vec_items r.area) < 16384).
    let none : lines ++ line_read r [] ≡ lines = ap (λ read. lines ++ read) (cond-true _ [] (vec_items r.line ∷ []) (lt-ltb _ 16384 short)) ∙ append-nil lines in
    subst₂ (RanLines source) (sym none) (sym (one.done.short short).unchanged) ran)
    (λ (enough : 16384 ≤ length (vec_items r.area)).
    let did = one.done.enough enough in
    let some : line_read r [] ≡ vec_items r.line ∷ [] = cond-false _ [] (vec_items r.line ∷ []) (le-ltb _ 16384 enough) in
    subst (λ read. RanLines source (lines ++ read) after) (sym some) (lines_more source lines state ran (vec_items r.line) after did.reply did.list did.list' did.obeyed))
    (cases_lt (length (vec_items r.area)) 16384)

ran_push : (source : Meaning) (lent answered : List Exchange) (state : State) (r r' : Exchange) (after : State) → RanExchanges source lent answered state → Exchanged source state r r' after
    → RanExchanges source (lent ++ r ∷ []) (answered ++ r' ∷ []) after
ran_push source lent answered state r r' after ran one = record {
  each = each_push source fresh lent answered state r r' after ran.each one;
  lines = subst (λ read. RanLines source read after) (sym (read_push lent r)) (lines_push source (lines_read lent) state r r' after ran.lines one);
}

-- ---- the loop

-- the first n lines are answered, and the other exchanges are as they were lent
pub record Exchanging (source : Meaning) (lent : List Exchange) (n : ℕ) (state : State) (exchanges : List Exchange) : Type 0 where
  pub ran : RanExchanges source (take n lent) (take n exchanges) state
  pub rest : (k : ℕ) (d : Exchange) → n ≤ k → get_or exchanges k d ≡ get_or lent k d

module _ (source : Meaning) (lent : List Exchange) (n : ℕ) (state : State) (exchanges : List Exchange) (so : Exchanging source lent n state exchanges) (long : length exchanges ≡ length lent) where
  pub exchanging_more : n < length lent → (d r' : Exchange) (after : State) → Exchanged source state (get_or exchanges n d) r' after → Exchanging source lent (n + 1) after (set exchanges n r')
  exchanging_more low d r' after one = record {
    ran =
        subst₂ (λ from to. RanExchanges source from to after)
        (ap (λ r. take n lent ++ r ∷ []) (so.rest n d (omega arith)) ∙ sym (take_more lent n d low)) (sym (take_more_set exchanges n r' (omega arith)))
        (ran_push source (take n lent) (take n exchanges) state (get_or exchanges n d) r' after so.ran one);
    rest = λ k e high. let ne : k ≡ n → ⊥ = λ same. omega arith in get_or-set_other exchanges n k r' e ne ∙ so.rest k e (omega arith);
  }
