-- A console from its beginning through any list of lines.
use Rattle.std.specs.Prelude.{◌≡◌, ℕ, Bool, true, false, cond, List, [], ◌∷◌, ◌++◌, map, is_some, Ok, Err, Result, MatchOption}
use Rattle.vocabulary.specs.declared.refusal.Refusal.{Refusal}
use Rattle.capability.specs.Meaning.{Meaning}
use Rattle.layers.specs.Aliases.{after_alias}
use Rattle.layers.specs.Strikes.{after_strike}
use Rattle.layers.specs.declared.aliases.Entry.{Entry}
use Rattle.layers.specs.declared.strikes.Pair.{Pair}
use Rattle.board.specs.Histories.{RunTurn, HasRun}
use Rattle.board.specs.declared.call.Call.{Call}
use Rattle.wire.specs.Commands.{board_command_in, setup_command_in}
use Rattle.wire.specs.declared.command.BoardCommand.{BoardCommand}
use Rattle.wire.specs.declared.command.BoardCommand.TheVariants.{Perform, Where, Report}
use Rattle.wire.specs.declared.command.SetupCommand.{SetupCommand}
use Rattle.wire.specs.declared.command.SetupCommand.TheVariants.{Strike, Alias, Board}
use Rattle.console.specs.States.{Opened, State, pile_meaning}

-- ---- what lines mean, before any board is thought of

-- the layers that lines have filled, and whether a command to the board has come
pub record Layers : Type 0 where
  pub strikes : List Pair
  pub aliases : List Entry
  pub closed : Bool

abbrev pub unfilled : Layers
unfilled = record { strikes = []; aliases = []; closed = false }

-- a table after an entry: refused entries leave it
abbrev pub taken_or : {T : Type 0} → List T → Result (List T) Refusal → List T
taken_or before (Ok after) = after
taken_or before (Err refusal) = before

-- what a line that comes before any command to the board does to the layers
abbrev pub filled_by : Layers → Result SetupCommand Refusal → Layers
filled_by layers (Ok (Strike program mill)) = record { strikes = taken_or layers.strikes (after_strike program.0 mill.0 layers.strikes); aliases = layers.aliases; closed = layers.closed }
filled_by layers (Ok (Alias program other)) = record { strikes = layers.strikes; aliases = taken_or layers.aliases (after_alias program.0 other.0 layers.aliases); closed = layers.closed }
filled_by layers (Ok (Board command)) = record { strikes = layers.strikes; aliases = layers.aliases; closed = true }
filled_by layers (Err refusal) = layers

-- once such a command has come, no line changes the layers
abbrev pub layers_by : Layers → List ℕ → Layers
layers_by layers line = cond layers.closed layers (filled_by layers (setup_command_in line))

-- the call that a command is, if it is one
abbrev pub call_of : BoardCommand → List Call
call_of (Perform call) = call ∷ []
call_of (Where ticket) = []
call_of Report = []

abbrev pub board_call : Result BoardCommand Refusal → List Call
board_call (Ok command) = call_of command
board_call (Err refusal) = []

abbrev pub setup_call : Result SetupCommand Refusal → List Call
setup_call (Ok (Strike program mill)) = []
setup_call (Ok (Alias program other)) = []
setup_call (Ok (Board command)) = call_of command
setup_call (Err refusal) = []

-- the call that a line means, if it means one
abbrev pub call_in : Layers → List ℕ → List Call
call_in layers line = cond layers.closed (board_call (board_command_in line)) (setup_call (setup_command_in line))

-- all lines in turn
abbrev pub layers_after : Layers → List (List ℕ) → Layers
layers_after layers [] = layers
layers_after layers (line ∷ later) = layers_after (layers_by layers line) later

abbrev pub calls_in : Layers → List (List ℕ) → List Call
calls_in layers [] = []
calls_in layers (line ∷ later) = call_in layers line ++ calls_in (layers_by layers line) later

-- ---- the law over a run of lines

-- a board that is open was opened on the layers, and these calls are a run of it
pub record Reached (source : Meaning) (calls : List Call) (state : State) (opened : Opened) : Type 0 where
  pub meaning : opened.meaning ≡ pile_meaning source state.strikes state.aliases
  pub turns : List RunTurn
  pub each : map (λ turn. turn.call) turns ≡ calls
  pub ran : HasRun opened.meaning turns opened.tally

-- a console over a source of this meaning, after any list of lines
pub record RanLines (source : Meaning) (lines : List (List ℕ)) (state : State) : Type 0 where
  -- the layers hold what the lines before the first command to the board have put there
  pub strikes : state.strikes ≡ (layers_after unfilled lines).strikes
  pub aliases : state.aliases ≡ (layers_after unfilled lines).aliases
  -- the board is open exactly if such a command has come
  pub opens : is_some state.board ≡ (layers_after unfilled lines).closed
  -- everything that is promised of a run of calls holds of it, for the calls that the lines mean
  pub board : MatchOption state.board (calls_in unfilled lines ≡ []) (Reached source (calls_in unfilled lines) state)
