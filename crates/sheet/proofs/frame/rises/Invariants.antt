use Rattle.std.proofs.Common.{◌≡◌, ◌≤◌}
use Rattle.sheet.specs.Content.{left}
use Rattle.sheet.specs.Digits.{bytes_of}
use Rattle.sheet.specs.Sheets.{rising}
use Rattle.sheet.proofs.frame.rises.Given as goal

abbrev pub invariant-loop-number : goal.invariant-loop-number
invariant-loop-number l = record {
  can : (goal.iterator-loop-number).can_next l.number-iterator;
  finite : (goal.iterator-loop-number).is_finite l.number-iterator;
  low : l.floor ≤ 256;
  rest : rising l.floor l.bound (left l.number-iterator) ≡ rising 0 l.bound (bytes_of l.digits);
}
