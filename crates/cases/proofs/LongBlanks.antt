-- A blank fits a travel that equals it, and none that is shorter on an axis.
use Rattle.std.proofs.Common.{arith}
use Rattle.std.proofs.lemmas.Bool.Decides.{nat_tests}
use Rattle.cases.specs.Blanks.{EqualBlanks}

pub equal_blanks : EqualBlanks
equal_blanks travel = record {
  equal = grind (arith, nat_tests);
  longer_x = grind (arith, nat_tests);
  longer_y = grind (arith, nat_tests);
  longer_z = grind (arith, nat_tests);
}
