-- A layer over a lawful source means something lawful.
use Rattle.std.specs.Prelude.{List}
use Rattle.std.proofs.Common.{arith}
use Rattle.std.proofs.lemmas.Bool.Decides.{nat_tests}
use Rattle.capability.specs.Meaning.{Meaning, Lawful}
use Rattle.layers.specs.declared.aliases.Entry.{Entry}
use Rattle.layers.specs.declared.strikes.Pair.{Pair}
use Rattle.layers.specs.Strikes.{without}
use Rattle.layers.specs.Aliases.{alias_of, cutting_as}

pub without_lawful : (pairs : List Pair) (below : Meaning) → Lawful below → Lawful (without pairs below)
without_lawful pairs below law = record {
  few = law.few;
  program = λ p m able. grind (arith, law.program p m);
  mill = λ p m able. grind (arith, law.mill p m);
}

pub cutting_as_lawful : (entries : List Entry) (below : Meaning) → Lawful below → Lawful (cutting_as entries below)
cutting_as_lawful entries below law = record {
  few = law.few;
  program = λ p m able. grind (arith, nat_tests);
  mill = λ p m able. grind (arith, nat_tests, law.mill (alias_of entries p) m);
}
