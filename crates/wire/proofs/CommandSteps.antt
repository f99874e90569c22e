-- What frames ask by their kind and the length of their payload.
use Rattle.std.proofs.Common.{◌≡◌, length, Ok, Err, refl, arith}
use Rattle.std.proofs.lemmas.Bool.{and_from, cond-true, eq-eqb}
use Rattle.std.proofs.lemmas.Bool.Decides.{nat_tests}
use Rattle.vocabulary.specs.declared.refusal.Refusal.TheVariants.{NotDue}
use Rattle.sheet.specs.Frames.{Frame}
use Rattle.wire.specs.Commands.{program_at, mill_at, board_command_of, for_board, setup_command_of}
use Rattle.wire.specs.Kinds.{code_of}
use Rattle.wire.specs.declared.command.SetupCommand.TheVariants.{Strike, Alias}
use Rattle.wire.specs.declared.kind.CommandKind.{CommandKind}
use Rattle.wire.specs.declared.kind.CommandKind.TheVariants as kind

-- a frame of a kind that no command has asks nothing
module _ (f : Frame) (no_kind : (k : CommandKind) → code_of k ≡ f.kind → ⊥) where
  pub asks_no_board : board_command_of f ≡ Err (NotDue 0)
  asks_no_board =
      let add = no_kind kind.Add in
      let done = no_kind kind.Done in
      let withdraw = no_kind kind.Withdraw in
      let return = no_kind kind.Return in
      let where_is = no_kind kind.Where in
      let report = no_kind kind.Report in
      grind (arith, nat_tests)

  pub asks_nothing : setup_command_of f ≡ Err (NotDue 0)
  asks_nothing =
      let strike = no_kind kind.Strike in
      let alias = no_kind kind.Alias in
      let board = asks_no_board in
      grind (arith, nat_tests)

-- the bytes of the tables' kinds are theirs alone
pub is_strike : (k : CommandKind) → code_of k ≡ 33 → k ≡ kind.Strike
is_strike kind.Strike h = refl
is_strike kind.Add h = absurd (omega arith)
is_strike kind.Done h = absurd (omega arith)
is_strike kind.Withdraw h = absurd (omega arith)
is_strike kind.Return h = absurd (omega arith)
is_strike kind.Where h = absurd (omega arith)
is_strike kind.Report h = absurd (omega arith)
is_strike kind.Alias h = absurd (omega arith)

pub is_alias : (k : CommandKind) → code_of k ≡ 34 → k ≡ kind.Alias
is_alias kind.Alias h = refl
is_alias kind.Add h = absurd (omega arith)
is_alias kind.Done h = absurd (omega arith)
is_alias kind.Withdraw h = absurd (omega arith)
is_alias kind.Return h = absurd (omega arith)
is_alias kind.Where h = absurd (omega arith)
is_alias kind.Report h = absurd (omega arith)
is_alias kind.Strike h = absurd (omega arith)

pub asks_strike : (f : Frame) → f.kind ≡ 33 → length f.payload ≡ 2 → setup_command_of f ≡ Ok (Strike (program_at 0 f) (mill_at 1 f))
asks_strike f kind two = cond-true _ _ _ (and_from _ _ (eq-eqb _ _ kind) (eq-eqb _ _ two))

pub asks_alias : (f : Frame) → f.kind ≡ 34 → length f.payload ≡ 2 → setup_command_of f ≡ Ok (Alias (program_at 0 f) (program_at 1 f))
asks_alias f kind two = grind (arith, nat_tests)

-- a frame that is no entry of a table is left to the board
pub asks_board : (f : Frame) → (f.kind ≡ 33 → length f.payload ≡ 2 → ⊥) → (f.kind ≡ 34 → length f.payload ≡ 2 → ⊥) → setup_command_of f ≡ for_board (board_command_of f)
asks_board f strike alias = grind (arith, nat_tests)
