-- The first of some mills whose value no other's beats, found from the front on; and what it is for an order of numbers.
use Rattle.std.proofs.Common.{◌≡◌, ℕ, ◌+◌, ◌-◌, ◌<◌, ◌≤◌, Bool, true, false, List, map, length, get_or, take, drop, sym, ap, ◌∙◌, subst, arith}
use Rattle.std.specs.Cmp.{IsStrictWeakOrder}
use Rattle.std.specs.List.{IsFirstBest}
use Rattle.std.proofs.lemmas.Bool.{ltb-true, ltb-false}
use Rattle.std.proofs.lemmas.Grind.{get_or_after_one}
use Rattle.std.proofs.lemmas.List.{get_or-map, get_or-take, length-map, length-take, length-drop}
use Rattle.std.proofs.lemmas.List.MinMax.{IsFirstBest-none, IsFirstBest-keeps, IsFirstBest-takes}
use Rattle.vocabulary.specs.declared.numbers.Mill.{Mill}
use Rattle.search.specs.Firsts.{First, Lightest, Greatest}

abbrev no_mill : Mill
no_mill = record { 0 = 0 }

abbrev numbers_of : List Mill → List ℕ
numbers_of = map (λ m. m.0)

-- a mill of a list, and how many are left behind the first
pub mill_at : (mills : List Mill) (k d : ℕ) → k < length mills → get_or (numbers_of mills) k d ≡ (get_or mills k no_mill).0
mill_at mills k d under = get_or-map (λ m. m.0) mills k no_mill d under

pub rest_length : (mills : List Mill) → length (take (length mills - 1) (drop 1 mills)) ≡ length mills - 1
rest_length mills = omega (arith, length-take (length mills - 1) (drop 1 mills), length-drop 1 mills)

pub rest_at : (mills : List Mill) (k : ℕ) → k < length mills - 1 → get_or (take (length mills - 1) (drop 1 mills)) k no_mill ≡ get_or mills (k + 1) no_mill
rest_at mills k under =
    get_or-take (length mills - 1) (drop 1 mills) k no_mill under ∙ get_or_after_one mills k no_mill
    ∙ ap (λ i. get_or mills i no_mill) (omega arith)

-- it is the first among the first `bound` mills
pub record FirstTo (beats : ℕ → ℕ → Bool) (value : ℕ → ℕ) (mills : List Mill) (bound number : ℕ) : Type 0 where
  pub place : ℕ
  pub best : IsFirstBest (λ a b. beats (value a) (value b)) (numbers_of mills) bound place
  pub is : get_or (numbers_of mills) place 0 ≡ number

module _ (beats : ℕ → ℕ → Bool) (value : ℕ → ℕ) (order : IsStrictWeakOrder beats) (mills : List Mill) where
  by_value : IsStrictWeakOrder (λ a b. beats (value a) (value b))
  by_value = record { one_way = λ x y. order.one_way (value x) (value y); chain = λ x y z. order.chain (value x) (value y) (value z) }

  pub first_start : 0 < length mills → FirstTo beats value mills 1 (get_or mills 0 no_mill).0
  first_start some = record { place = 0; best = IsFirstBest-none by_value (numbers_of mills); is = mill_at mills 0 0 some }

  module _ {bound w : ℕ} (F : FirstTo beats value mills bound w) (under : bound < length mills) (y : ℕ) (here : y ≡ (get_or mills bound no_mill).0) where
    within : bound < length (numbers_of mills)
    within = omega (arith, length-map mills (λ m. m.0))

    best_here : w ≡ get_or (numbers_of mills) F.place w
    best_here = let low : F.place < length mills = omega (arith, F.best.0) in sym F.is ∙ mill_at mills F.place 0 low ∙ sym (mill_at mills F.place w low)

    next_here : (d : ℕ) → y ≡ get_or (numbers_of mills) bound d
    next_here d = here ∙ sym (mill_at mills bound d under)

    -- the next mill beats it, or does not
    pub first_new : beats (value y) (value w) ≡ true → FirstTo beats value mills (bound + 1) y
    first_new better = record {
      place = bound;
      best = IsFirstBest-takes by_value (numbers_of mills) bound F.place y w F.best within (next_here y) best_here better;
      is = sym (next_here 0);
    }

    pub first_stays : beats (value y) (value w) ≡ false → FirstTo beats value mills (bound + 1) w
    first_stays worse = record {
      place = F.place;
      best = IsFirstBest-keeps by_value (numbers_of mills) bound F.place y w F.best within (next_here y) best_here worse;
      is = F.is;
    }

  pub first_all : (bound w : ℕ) → FirstTo beats value mills bound w → bound ≡ length mills → First beats value (numbers_of mills) w
  first_all bound w F all = record {
    place = F.place;
    best = subst (λ n. IsFirstBest (λ a b. beats (value a) (value b)) (numbers_of mills) n F.place) (all ∙ sym (length-map mills (λ m. m.0))) F.best;
    is = F.is;
  }

-- ---- what it is for an order of numbers

module _ (value : ℕ → ℕ) (numbers : List ℕ) (w : ℕ) where
  pub lightest_at : Lightest value numbers w → (k : ℕ) → k < length numbers → value w ≤ value (get_or numbers k 0)
  lightest_at L k low = omega (arith, ltb-false _ _ (L.best.1 k 0 low), ap value L.is)

  pub lightest_before : (L : Lightest value numbers w) → (k : ℕ) → k < L.place → value w < value (get_or numbers k 0)
  lightest_before L k low = omega (arith, ltb-true _ _ (L.best.2 k 0 low), ap value L.is)

  pub greatest_at : Greatest value numbers w → (k : ℕ) → k < length numbers → value (get_or numbers k 0) ≤ value w
  greatest_at G k low = omega (arith, ltb-false _ _ (G.best.1 k 0 low), ap value G.is)

  pub greatest_before : (G : Greatest value numbers w) → (k : ℕ) → k < G.place → value (get_or numbers k 0) < value w
  greatest_before G k low = omega (arith, ltb-true _ _ (G.best.2 k 0 low), ap value G.is)
