-- What a table of abilities means: its count of mills, and of each program the mills in its row.
use Rattle.capability.specs.Meaning.{Meaning}
use Rattle.capability.specs.Rows.{meaning_in}
use Rattle.capability.specs.declared.abilities.Abilities.{Abilities}

abbrev pub copied : Abilities → Meaning
copied abilities = meaning_in abilities.mills abilities.rows
