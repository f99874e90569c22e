-- The kinds of the frames on the wire, and the bytes that stand for them.
use Rattle.std.specs.Prelude.{◌≡◌, ℕ, ◌+◌, Result, MatchResult}
use Rattle.vocabulary.specs.declared.refusal.Refusal.{Refusal}
use Rattle.vocabulary.specs.declared.refusal.Refusal.TheVariants.{NotDue}
use Rattle.board.specs.declared.call.Call.{Call}
use Rattle.board.specs.declared.call.Call.TheVariants as call
use Rattle.wire.specs.declared.kind.CommandKind.{CommandKind}
use Rattle.wire.specs.declared.kind.CommandKind.TheVariants.{Add, Done, Withdraw, Return, Where, Report, Strike, Alias}
use Rattle.wire.specs.declared.kind.ReplyKind.{ReplyKind}
use Rattle.wire.specs.declared.kind.ReplyKind.TheVariants.{Answer, Moved, Refused}

-- the byte of a command's kind: 11 to 16 in hexadecimal for a board, 21 and 22 for its tables
abbrev pub code_of : CommandKind → ℕ
code_of Add = 17
code_of Done = 18
code_of Withdraw = 19
code_of Return = 20
code_of Where = 21
code_of Report = 22
code_of Strike = 33
code_of Alias = 34

-- the result is the kind that a byte stands for, or the refusal of a byte that no kind has
abbrev pub Decodes : ℕ → Result CommandKind Refusal → Type 0
Decodes byte result = MatchResult result (λ kind. code_of kind ≡ byte) (λ e. (e ≡ NotDue 0) × ((kind : CommandKind) → code_of kind ≡ byte → ⊥))

-- the kind of a call's frame
abbrev pub kind_of : Call → CommandKind
kind_of (call.Add ticket program) = Add
kind_of (call.Done ticket) = Done
kind_of (call.Withdraw mill) = Withdraw
kind_of (call.Return mill) = Return

-- the byte of an answer's kind: the command's and 80 in hexadecimal; A0 of a moved ticket, E0 of a refusal
abbrev pub reply_code_of : ReplyKind → ℕ
reply_code_of (Answer command) = code_of command + 128
reply_code_of Moved = 160
reply_code_of Refused = 224
