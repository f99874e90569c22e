-- The worked shop: which mills each program has, and the tallies that its first four calls leave.
use Rattle.std.proofs.Common.{◌≡◌, ℕ, ◌+◌, ◌<◌, ◌≤◌, true, false, cond, eqb, ◌⊎◌, refl, arith}
use Rattle.std.proofs.lemmas.Bool.Decides.{nat_tests}
use Rattle.semimatching.proofs.Sums.{sum-zero}
use Rattle.table.specs.Tally.{Tally, opening, seated, serving, standing}
use Rattle.cases.specs.WorkedRun.{worked}
use Rattle.cases.proofs.Seats.{on_mill, load_in, load-seated, standing-seated}

-- ---- the mills of each program

pub able_1 : (m : ℕ) → worked.able 1 m ≡ true → m ≡ 0
able_1 m may = grind (arith, nat_tests)

pub able_2 : (m : ℕ) → worked.able 2 m ≡ true → (m ≡ 0) ⊎ (m ≡ 1)
able_2 m may = grind (arith, nat_tests)

pub able_3 : (m : ℕ) → worked.able 3 m ≡ true → (m ≡ 1) ⊎ (m ≡ 2)
able_3 m may = grind (arith, nat_tests)

-- ---- the tallies

-- mill 2 is out
abbrev pub away : Tally
away = serving (opening worked) 2 false

-- and ticket 5 has come, then 6, then 7
abbrev pub with5 : Tally
with5 = seated away 5 (on_mill 3 1)

abbrev pub with6 : Tally
with6 = seated with5 6 (on_mill 2 0)

abbrev pub with7 : Tally
with7 = seated with6 7 (on_mill 1 0)

-- ---- the mills in service

pub serves_away : (m : ℕ) → away.service m ≡ true → m < 2
serves_away m on = grind (arith, nat_tests)

-- ---- how many stand

pub none_standing : standing (opening worked) ≡ 0
none_standing = sum-zero 1024

pub few_5 : standing with5 ≤ 1
few_5 = omega (arith, none_standing, standing-seated away 5 (on_mill 3 1) (omega arith))

pub few_6 : standing with6 ≤ 2
few_6 = omega (arith, few_5, standing-seated with5 6 (on_mill 2 0) (omega arith))

pub few_7 : standing with7 ≤ 3
few_7 = omega (arith, few_6, standing-seated with6 7 (on_mill 1 0) (omega arith))

-- ---- the loads

no_load : (m : ℕ) → load_in worked away m ≡ 0
no_load m = sum-zero 1024

pub load_5 : (m : ℕ) → load_in worked with5 m ≡ cond (eqb m 1) 1 0
load_5 m = omega (arith, no_load m, load-seated worked away 5 3 1 (omega arith) refl m)

pub load_6 : (m : ℕ) → load_in worked with6 m ≡ cond (eqb m 1) 1 0 + cond (eqb m 0) 1 0
load_6 m = omega (arith, load_5 m, load-seated worked with5 6 2 0 (omega arith) refl m)
