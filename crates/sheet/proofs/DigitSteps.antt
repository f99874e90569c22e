-- A sum that wraps at each byte is the sum less the multiples of 256.
use Rattle.std.proofs.Common.{◌≡◌, ℕ, ◌+◌, ◌%◌, List, [], ◌∷◌, fold, ap, ◌∙◌, refl, arith}

pub sum_wraps : (total : ℕ) (bs : List ℕ) → fold (λ t b. (t + b) % 256) (total % 256) bs ≡ fold ◌+◌ total bs % 256
sum_wraps total [] = refl
sum_wraps total (b ∷ bs) =
    let here : (total % 256 + b) % 256 ≡ (total + b) % 256 = omega arith in
    ap (λ t. fold (λ t b. (t + b) % 256) t bs) here ∙ sum_wraps (total + b) bs
