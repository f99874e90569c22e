-- A blank as long as the travel, and one that is longer.
use Rattle.std.specs.Prelude.{◌≡◌, ◌+◌, true, false}
use Rattle.tools.specs.Tools.{fits}
use Rattle.tools.specs.declared.tools.Extent.{Extent}

-- a blank equal to the travel fits, and one that is longer by 1 on one axis does not
pub record BlankFits (travel : Extent) : Type 0 where
  pub equal : fits travel travel ≡ true
  pub longer_x : fits (record { x = travel.x + 1; y = travel.y; z = travel.z }) travel ≡ false
  pub longer_y : fits (record { x = travel.x; y = travel.y + 1; z = travel.z }) travel ≡ false
  pub longer_z : fits (record { x = travel.x; y = travel.y; z = travel.z + 1 }) travel ≡ false

-- so it is at every travel
abbrev pub EqualBlanks : Type 0
EqualBlanks = (travel : Extent) → BlankFits travel
