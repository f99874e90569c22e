-- The tool rule: which mill can cut which program, by the tools in its magazine and the travel of its axes.
use Rattle.std.specs.Prelude.{ℕ, Bool, cond, ◌&&◌, List, [], ◌∷◌, length, Some, None, Option, nat_le, nat_lt, slice_index_or}
use Rattle.std.specs.List.{list_all}
use Rattle.vocabulary.specs.declared.refusal.Refusal.{Refusal}
use Rattle.vocabulary.specs.declared.refusal.Refusal.TheVariants.{FullMagazine}
use Rattle.sets.specs.Sets.{holds, numbers}
use Rattle.capability.specs.Meaning.{Meaning, nothing}
use Rattle.tools.specs.declared.tools.Extent.{Extent}
use Rattle.tools.specs.declared.tools.MillRow.{MillRow}
use Rattle.tools.specs.declared.tools.ProgramRow.{ProgramRow}

-- the tools that 64 bits name, rising
abbrev pub tools_in : ℕ → List ℕ
tools_in bits = numbers (holds bits) 64

-- ---- magazines

-- whether a mill's magazine holds at most 20 tools
abbrev pub few_tools : MillRow → Bool
few_tools mill = nat_le (length (tools_in mill.tools)) 20

-- what is wrong with a magazine, if anything is
abbrev pub magazine_fault : MillRow → Option Refusal
magazine_fault mill = cond (few_tools mill) None (Some (FullMagazine (length (tools_in mill.tools))))

-- the fault of the first faulty magazine of a table
abbrev pub first_fault : List MillRow → Option Refusal
first_fault [] = None
first_fault (mill ∷ mills) = cond (few_tools mill) (first_fault mills) (magazine_fault mill)

-- ---- able pairs

-- whether the magazine of a mill has every tool that a program needs
abbrev pub has_tools : MillRow → ProgramRow → Bool
has_tools mill program = list_all (holds mill.tools) (tools_in program.tools)

-- whether a blank is no longer than the travel on any axis
abbrev pub fits : Extent → Extent → Bool
fits blank travel = nat_le blank.x travel.x && nat_le blank.y travel.y && nat_le blank.z travel.z

abbrev pub can_cut : MillRow → ProgramRow → Bool
can_cut mill program = has_tools mill program && fits program.blank mill.travel

-- what stands past the end of a table
abbrev pub no_extent : Extent
no_extent = record { x = 0; y = 0; z = 0 }

abbrev pub no_mill : MillRow
no_mill = record { tools = 0; travel = no_extent }

abbrev pub no_program : ProgramRow
no_program = record { tools = 0; blank = no_extent }

-- what two tables mean by the tool rule: a mill for each row, and the pairs of rows of which the mill can cut the program
abbrev pub table_meaning : List MillRow → List ProgramRow → Meaning
table_meaning mills programs = record {
  mills = length mills;
  able = λ p m. nat_lt p 256 && nat_lt p (length programs) && nat_lt m (length mills) && can_cut (slice_index_or mills m no_mill) (slice_index_or programs p no_program);
}

-- whether a table of mills can be a shop's: no magazine is faulty, and there are at most 64 mills
abbrev pub sound_mills : List MillRow → Bool
sound_mills mills = list_all few_tools mills && nat_le (length mills) 64

-- what a tool source over two tables means
abbrev pub tool_meaning : List MillRow → List ProgramRow → Meaning
tool_meaning mills programs = cond (sound_mills mills) (table_meaning mills programs) nothing
