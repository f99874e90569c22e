-- The length of a queue; a trail has room for a mill that it has not reached, and what is always true of it stays so with one mill more.
use Rattle.std.proofs.Common.{◌≡◌, ℕ, ◌<◌, Bool, true, false, ◌&&◌, ◌||◌, eqb, ltb, List, [], ◌∷◌, ◌++◌, length, get_or, sym, refl, ap, ◌∙◌, ⊎_elim, arith}
use Rattle.std.proofs.lemmas.Bool.{cases_eq, lt-ltb, ne_eqb}
use Rattle.std.proofs.lemmas.List.{get_or-map, length-map, length_push}
use Rattle.sets.specs.Sets.{has, members, member}
use Rattle.sets.specs.declared.number_set.NumberSet.{NumberSet}
use Rattle.std.proofs.Math.Bool.{and-true}
use Rattle.sets.proofs.Rising.{numbers-none, length-numbers_le, length-numbers-insert, member-append}
use Rattle.vocabulary.specs.declared.numbers.Mill.{Mill}
use Rattle.search.specs.declared.trail.Trail.{Trail}
use Rattle.search.specs.Trails.{queue_of}

pub queue_length : (trail : Trail) → length (queue_of trail) ≡ length trail.queue.items
queue_length trail = length-map trail.queue.items (λ mill. mill.0)

-- the mill in a place of the queue, as the code reads it
pub queue_at : (trail : Trail) (read : List Mill) (place : ℕ) → read ≡ trail.queue.items → place < length trail.queue.items → get_or (queue_of trail) place 0 ≡ (get_or read place (record { 0 = 0 })).0
queue_at trail read place is under =
    get_or-map (λ mill. mill.0) trail.queue.items place (record { 0 = 0 }) 0 under ∙ ap (λ (mills : List Mill). (get_or mills place (record { 0 = 0 })).0) (sym is)

pub room : (trail : Trail) (mill : ℕ) → mill < 64 → has trail.reached mill ≡ false → length trail.queue.items < 64
room trail mill below new =
    let more : ℕ → Bool = λ k. eqb k mill || has trail.reached k in
    omega (arith, trail.once, length-numbers-insert (has trail.reached) more mill 64 below new (λ k. refl), length-numbers_le more 64)

or_swap : (a b : Bool) → (a || b) ≡ (b || (a || false))
or_swap true true = refl
or_swap true false = refl
or_swap false true = refl
or_swap false false = refl

-- the set with one mill more
module _ (old new : NumberSet) (mill : ℕ) (below : mill < 64) (insert : (k : ℕ) → has new k ≡ ((eqb k mill && ltb mill 64) || has old k)) where
  inserted : (k : ℕ) → has new k ≡ (eqb k mill || has old k)
  inserted k =
      insert k ∙ ap (λ b. (eqb k mill && b) || has old k) (lt-ltb mill 64 below) ∙ ap (λ b. b || has old k) (and-true (eqb k mill))

  pub known_more : (queue : List ℕ) → ((k : ℕ) → has old k ≡ member k queue) → (k : ℕ) → has new k ≡ member k (queue ++ (mill ∷ []))
  known_more queue known k =
      inserted k ∙ ap (λ b. eqb k mill || b) (known k) ∙ or_swap (eqb k mill) (member k queue) ∙ sym (member-append k queue (mill ∷ []))

  pub below_more : ((k : ℕ) → has old k ≡ true → k < 64) → (k : ℕ) → has new k ≡ true → k < 64
  below_more low k is =
      ⊎_elim
      (λ (e : k ≡ mill). omega arith)
      (λ (ne : k ≡ mill → ⊥). low k (sym (inserted k ∙ ap (λ b. b || has old k) (ne_eqb k mill ne)) ∙ is))
      (cases_eq k mill)

  pub once_more : {A : Type 0} (queue : List A) (x : A) → has old mill ≡ false → length queue ≡ length (members old) → length (queue ++ (x ∷ [])) ≡ length (members new)
  once_more queue x unknown once = omega (arith, length_push queue x, once, length-numbers-insert (has old) (has new) mill 64 below unknown inserted)

-- nothing is reached
pub once_none : (none : NumberSet) → ((k : ℕ) → has none k ≡ false) → 0 ≡ length (members none)
once_none none out = sym (ap length (numbers-none (has none) 64 (λ k low. out k)))
