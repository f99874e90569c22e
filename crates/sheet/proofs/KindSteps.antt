-- The kind that a byte stands for, or that none has it, as the frame reader asks for it.
use Rattle.std.proofs.Common.{◌≡◌, ℕ, Some, None, Ok, Err, Result, sym, ap, ◌∙◌}
use Rattle.std.specs.Result.{result_ok}
use Rattle.sheet.specs.Kinds.{code_of, Decodes}
use Rattle.sheet.specs.declared.kind.FrameKind.{FrameKind}
use Rattle.sheet.specs.declared.kind.UnknownKind.{UnknownKind}

pub known_kind : (byte : ℕ) (r : Result FrameKind UnknownKind) → Decodes byte r → (kind : FrameKind) → result_ok r ≡ Some kind → code_of kind ≡ byte
known_kind byte (Ok k) d kind h = let same : k ≡ kind = cc in ap code_of (sym same) ∙ d
known_kind byte (Err e) d kind h = cc

pub unknown_kind : (byte : ℕ) (r : Result FrameKind UnknownKind) → Decodes byte r → result_ok r ≡ None → (kind : FrameKind) → code_of kind ≡ byte → ⊥
unknown_kind byte (Ok k) d h kind is = cc
unknown_kind byte (Err e) d h kind is = d.1 kind is
