-- What an Ok came from.
use Rattle.std.proofs.Common.{◌≡◌, Bool, true, false, cond, Ok, Err, Result, refl, arith}
use Rattle.vocabulary.specs.declared.refusal.Refusal.{Refusal}
use Rattle.sheet.specs.Sheets.{and_then}

pub ok_inside : {A : Type 0} (x y : A) → ◌≡◌ {A = Result A Refusal} (Ok x) (Ok y) → x ≡ y
ok_inside x y e = cc

-- a test that else refuses has passed
pub ok_from_cond : {A : Type 0} (b : Bool) (r : Result A Refusal) (e : Refusal) (x : A) → cond b r (Err e) ≡ Ok x → (b ≡ true) × (r ≡ Ok x)
ok_from_cond true r e x h = (refl, h)
ok_from_cond false r e x h = (cc, cc)

-- each of two steps has passed
pub ok_from_and_then : {A B : Type 0} (r : Result A Refusal) (f : A → Result B Refusal) (y : B) → and_then r f ≡ Ok y → (x : A) × (r ≡ Ok x) × (f x ≡ Ok y)
ok_from_and_then (Ok x) f y h = (x, refl, h)
ok_from_and_then (Err e) f y h = absurd (grind arith)
