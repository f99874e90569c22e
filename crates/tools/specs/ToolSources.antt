-- What a tool source means: what its tables mean by the tool rule.
use Rattle.std.specs.Prelude.{vec_items}
use Rattle.capability.specs.Meaning.{Meaning}
use Rattle.tools.specs.Tools.{table_meaning}
use Rattle.tools.specs.Stored.{rows_of}
use Rattle.tools.specs.declared.tools.ToolSource.{ToolSource}

abbrev pub source_meaning : ToolSource → Meaning
source_meaning source = table_meaning (rows_of (vec_items source.mills)) (vec_items source.programs)
