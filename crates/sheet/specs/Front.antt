-- The program frame at the front of a text, taken by its count byte: no other digit of it is looked at but those of its program.
use Rattle.std.specs.Prelude.{◌≡◌, ℕ, ◌+◌, ◌-◌, ◌*◌, List, take, drop, slice_index}
use Rattle.sheet.specs.Digits.{bytes_of}
use Rattle.sheet.specs.declared.frame.Entry.{Entry}

pub record FrontEntry (text : List ℕ) (entry : Entry) (rest : List ℕ) : Type 0 where
  pub program : entry.program.0 ≡ slice_index (bytes_of text) 2
  pub mills : entry.mills.now ≡ take (2 * slice_index (bytes_of text) 1 - 2) (drop 6 text)
  pub rest_is : rest ≡ drop (2 * slice_index (bytes_of text) 1 + 7) text
