-- The number and the place of each refusal: the one table that every promise about refusals reads.
use Rattle.std.specs.Prelude.{ℕ}
use Rattle.vocabulary.specs.declared.refusal.Refusal.{Refusal}
use Rattle.vocabulary.specs.declared.refusal.Refusal.TheVariants.{BadLine, WrongCount, WrongSum, NotDue, WrongValue, TableFull, NoSuchTicket, Standing, NotStanding, NoAbleMill, NoSuchMill, SameService, Stranded, ShortList, FullMagazine, ShortArea, NoMills}

pub record Told : Type 0 where
  pub number : ℕ
  pub place : ℕ

abbrev pub told : Refusal → Told
told (BadLine line) = record { number = 1; place = line }
told (WrongCount line) = record { number = 2; place = line }
told (WrongSum line) = record { number = 3; place = line }
told (NotDue line) = record { number = 4; place = line }
told (WrongValue line) = record { number = 5; place = line }
told TableFull = record { number = 6; place = 32 }
told (NoSuchTicket ticket) = record { number = 7; place = ticket.0 }
told (Standing ticket) = record { number = 8; place = ticket.0 }
told (NotStanding ticket) = record { number = 9; place = ticket.0 }
told (NoAbleMill ticket) = record { number = 10; place = ticket.0 }
told (NoSuchMill mill) = record { number = 11; place = mill.0 }
told (SameService mill) = record { number = 12; place = mill.0 }
told (Stranded ticket) = record { number = 13; place = ticket.0 }
told (ShortList standing) = record { number = 14; place = standing }
told (FullMagazine tools) = record { number = 15; place = tools }
told (ShortArea needed) = record { number = 16; place = needed }
told NoMills = record { number = 16; place = 0 }
