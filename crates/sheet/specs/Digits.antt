-- The sixteen digits 0 to 9 and A to F, and the bytes that they write: two digits a byte, the high one first.
use Rattle.std.specs.Prelude.{ℕ, ◌+◌, ◌-◌, ◌*◌, ◌/◌, ◌%◌, Bool, true, cond, ◌&&◌, List, [], ◌∷◌, is_some, Some, None, Option, nat_le, nat_lt}
use Rattle.std.specs.Option.{unwrap_or}

-- the number of a digit; nothing of another character
abbrev pub digit_of : ℕ → Option ℕ
digit_of c = cond (nat_le 48 c && nat_le c 57) (Some (c - 48)) (cond (nat_le 65 c && nat_le c 70) (Some (c - 55)) None)

-- the byte that two characters write; a character that is no digit counts as 0
abbrev pub byte_of : ℕ → ℕ → ℕ
byte_of high low = unwrap_or (digit_of high) 0 * 16 + unwrap_or (digit_of low) 0

-- the bytes that characters write, two by two
abbrev pub bytes_of : List ℕ → List ℕ
bytes_of [] = []
bytes_of (high ∷ []) = []
bytes_of (high ∷ low ∷ cs) = byte_of high low ∷ bytes_of cs

abbrev pub all_digits : List ℕ → Bool
all_digits [] = true
all_digits (c ∷ cs) = is_some (digit_of c) && all_digits cs

-- the digit of a number below 16
abbrev pub digit_for : ℕ → ℕ
digit_for n = cond (nat_lt n 10) (48 + n) (55 + n)

-- the two digits of a byte
abbrev pub digits_for : ℕ → List ℕ
digits_for b = digit_for (b / 16) ∷ digit_for (b % 16) ∷ []
