-- What a tool source means keeps the law of a source.
use Rattle.std.specs.Prelude.{◌≤◌, List, length, vec_items}
use Rattle.std.proofs.Common.{arith}
use Rattle.std.proofs.lemmas.List.{length-map}
use Rattle.std.proofs.lemmas.Bool.Decides.{nat_tests}
use Rattle.capability.specs.Meaning.{Lawful}
use Rattle.tools.specs.Tools.{table_meaning}
use Rattle.tools.specs.Stored.{row_of, rows_of}
use Rattle.tools.specs.ToolSources.{source_meaning}
use Rattle.tools.specs.declared.tools.MillRow.{MillRow}
use Rattle.tools.specs.declared.tools.ProgramRow.{ProgramRow}
use Rattle.tools.specs.declared.tools.ToolSource.{ToolSource}

-- two tables of at most 64 mills mean something lawful
pub table_lawful : (mills : List MillRow) (programs : List ProgramRow) → length mills ≤ 64 → Lawful (table_meaning mills programs)
table_lawful mills programs few = record {
  few = few;
  program = λ p m able. grind (arith, nat_tests);
  mill = λ p m able. grind (arith, nat_tests);
}

pub source_lawful : (source : ToolSource) → Lawful (source_meaning source)
source_lawful source =
    table_lawful (rows_of (vec_items source.mills)) (vec_items source.programs) (omega (arith, source.few, source.mills.ok.0, length-map (vec_items source.mills) row_of))
