-- Bytes written as digits and read again are the same bytes, and digits read as bytes and written again are the same digits.
use Rattle.std.proofs.Common.{◌≡◌, ℕ, ◌*◌, ◌/◌, ◌%◌, ◌<◌, true, List, [], ◌∷◌, ◌++◌, length, is_some, Some, unwrap_or, refl, ap, ◌∙◌, arith}
use Rattle.std.specs.List.{flat_map, AllByRecursion as All}
use Rattle.std.proofs.lemmas.Bool.{and_parts, and_from}
use Rattle.std.proofs.lemmas.Bool.Decides.{nat_tests}
use Rattle.sheet.specs.Digits.{digit_of, byte_of, bytes_of, all_digits, digit_for, digits_for}

pub digit_back : (n : ℕ) → n < 16 → digit_of (digit_for n) ≡ Some n
digit_back n h = grind (arith, nat_tests)

digit_small : (c : ℕ) → unwrap_or (digit_of c) 0 < 16
digit_small c = grind (arith, nat_tests)

value_back : (n : ℕ) → n < 16 → unwrap_or (digit_of (digit_for n)) 0 ≡ n
value_back n h = ap (λ o. unwrap_or o 0) (digit_back n h)

pub byte_back : (b : ℕ) → b < 256 → byte_of (digit_for (b / 16)) (digit_for (b % 16)) ≡ b
byte_back b h = rw (value_back (b / 16) (omega arith), value_back (b % 16) (omega arith)) (omega arith)

pub bytes_back : (bs : List ℕ) → All (λ b. b < 256) bs → bytes_of (flat_map digits_for bs) ≡ bs
bytes_back [] h = refl
bytes_back (b ∷ bs) h = λ i. byte_back b h.0 i ∷ bytes_back bs h.1 i

is_digit : (n : ℕ) → n < 16 → is_some (digit_of (digit_for n)) ≡ true
is_digit n h = ap is_some (digit_back n h)

pub all_digits_back : (bs : List ℕ) → All (λ b. b < 256) bs → all_digits (flat_map digits_for bs) ≡ true
all_digits_back [] h = refl
all_digits_back (b ∷ bs) h =
    let small = h.0 in
    and_from _ _ (is_digit (b / 16) (omega arith)) (and_from _ _ (is_digit (b % 16) (omega arith)) (all_digits_back bs h.1))

pub length_digits : (bs : List ℕ) → length (flat_map digits_for bs) ≡ 2 * length bs
length_digits [] = refl
length_digits (b ∷ bs) = omega (arith, length_digits bs)

pub byte_small : (a b : ℕ) → byte_of a b < 256
byte_small a b = omega (arith, digit_small a, digit_small b)

pub bytes_small : (cs : List ℕ) → All (λ b. b < 256) (bytes_of cs)
bytes_small [] = tt
bytes_small (c ∷ []) = tt
bytes_small (c ∷ d ∷ cs) = (byte_small c d, bytes_small cs)

pub length_bytes : (cs : List ℕ) → length (bytes_of cs) ≡ length cs / 2
length_bytes [] = refl
length_bytes (c ∷ []) = refl
length_bytes (c ∷ d ∷ cs) = omega (arith, length_bytes cs)

-- a character that is a digit is written again
value_again : (c : ℕ) → is_some (digit_of c) ≡ true → digit_for (unwrap_or (digit_of c) 0) ≡ c
value_again c h = grind (arith, nat_tests)

byte_again : (c d : ℕ) → is_some (digit_of c) ≡ true → is_some (digit_of d) ≡ true → digits_for (byte_of c d) ≡ c ∷ d ∷ []
byte_again c d h k =
    let high : byte_of c d / 16 ≡ unwrap_or (digit_of c) 0 = omega (arith, digit_small c, digit_small d) in
    let low : byte_of c d % 16 ≡ unwrap_or (digit_of d) 0 = omega (arith, digit_small c, digit_small d) in
    λ i. (ap digit_for high ∙ value_again c h) i ∷ (ap digit_for low ∙ value_again d k) i ∷ []

pub digits_again : (cs : List ℕ) → all_digits cs ≡ true → length cs % 2 ≡ 0 → flat_map digits_for (bytes_of cs) ≡ cs
digits_again [] h e = refl
digits_again (c ∷ []) h e = absurd (omega arith)
digits_again (c ∷ d ∷ cs) h e =
    let first = and_parts _ _ h in
    let second = and_parts _ _ first.1 in
    λ i. byte_again c d first.0 second.0 i ++ digits_again cs second.1 (omega arith) i
