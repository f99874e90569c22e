-- The bytes that stand for the kinds of a sheet's frames.
use Rattle.std.specs.Prelude.{◌≡◌, ℕ, Result, MatchResult}
use Rattle.sheet.specs.declared.kind.FrameKind.{FrameKind}
use Rattle.sheet.specs.declared.kind.FrameKind.TheVariants.{Mills, Program, End}
use Rattle.sheet.specs.declared.kind.UnknownKind.{UnknownKind}

-- the byte of a kind
abbrev pub code_of : FrameKind → ℕ
code_of Mills = 1
code_of Program = 2
code_of End = 15

-- the result is the kind that a byte stands for, or the byte where no kind has it
abbrev pub Decodes : ℕ → Result FrameKind UnknownKind → Type 0
Decodes byte result = MatchResult result (λ kind. code_of kind ≡ byte) (λ e. (e.0 ≡ byte) × ((kind : FrameKind) → code_of kind ≡ byte → ⊥))
