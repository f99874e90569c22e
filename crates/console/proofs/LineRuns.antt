-- What holds of a run of lines holds after one line more.
use Rattle.std.proofs.Common.{◌≡◌, ℕ, true, false, List, [], ◌∷◌, ◌++◌, is_some, Some, None, Ok, Err, Option, Result, sym, refl, ap, ◌∙◌, subst, MatchOption}
use Rattle.std.proofs.lemmas.List.{append-nil, append_assoc, map-append}
use Rattle.vocabulary.specs.declared.refusal.Refusal.{Refusal}
use Rattle.capability.specs.Meaning.{Meaning}
use Rattle.layers.specs.Aliases.{after_alias}
use Rattle.layers.specs.Strikes.{after_strike}
use Rattle.layers.specs.declared.aliases.Entry.{Entry}
use Rattle.layers.specs.declared.strikes.Pair.{Pair}
use Rattle.table.specs.Tally.{Tally, opening}
use Rattle.board.specs.Histories.{RunTurn, HasRun}
use Rattle.board.specs.declared.call.Call.{Call}
use Rattle.board.specs.declared.moves.Move.{Move}
use Rattle.board.proofs.Running.{ran_none, ran_more}
use Rattle.wire.specs.Commands.{board_command_in, setup_command_in}
use Rattle.wire.specs.declared.command.BoardCommand.{BoardCommand}
use Rattle.wire.specs.declared.command.BoardCommand.TheVariants.{Perform, Where, Report}
use Rattle.wire.specs.declared.command.SetupCommand.{SetupCommand}
use Rattle.wire.specs.declared.command.SetupCommand.TheVariants.{Strike, Alias, Board}
use Rattle.wire.specs.declared.reply.Reply.{Reply}
use Rattle.console.specs.Commands.{CommandBy, LineRefused, LineServed, StruckBy, AliasedBy, OpenLine, SetupLine, LineAt, LineBy}
use Rattle.console.specs.Runs.{Layers, unfilled, taken_or, filled_by, layers_by, call_of, board_call, setup_call, call_in, layers_after, calls_in, Reached, RanLines}
use Rattle.console.specs.States.{Opened, State, fresh, pile_meaning}

-- ---- one line

-- the layers of a console
abbrev layers_of : State → Layers
layers_of state = record { strikes = state.strikes; aliases = state.aliases; closed = is_some state.board }

-- the calls so far are a run of the board, if it is open, and there are none otherwise
abbrev Runs : Meaning → List Call → State → Type 0
Runs source calls state = MatchOption state.board (calls ≡ []) (Reached source calls state)

-- what one line leaves: layers, and calls that are a run
abbrev Leaves : Meaning → Layers → List Call → State → Type 0
Leaves source layers calls state = (layers ≡ layers_of state) × Runs source calls state

module _ (source : Meaning) (calls : List Call) where
  -- a line that is refused
  leaves_refused : (state : State) (refusal : Refusal) (after : State) (reply : Reply) → Runs source calls state → LineRefused state refusal after reply
      → Leaves source (layers_of state) (calls ++ []) after
  leaves_refused state refusal after reply runs back =
      subst (λ calls. Leaves source (layers_of state) calls after) (sym (append-nil calls))
      (ap layers_of (sym back.unchanged), subst (Runs source calls) (sym back.unchanged) runs)

  module _ (strikes : List Pair) (aliases : List Entry) where
    abbrev on : Opened → State
    on opened = record { strikes = strikes; aliases = aliases; board = Some opened }

    -- the board after a command
    reached_more : (opened : Opened) (command : BoardCommand) (tally : Tally) (reply : Reply) (list list' : List Move) → Reached source calls (on opened) opened
        → CommandBy opened.meaning command opened.tally tally reply list list'
        → Reached source (calls ++ call_of command) (on (record { meaning = opened.meaning; tally = tally })) (record { meaning = opened.meaning; tally = tally })
    reached_more opened (Perform call) tally reply list list' so done =
        let turn : RunTurn = record { call = call; list = list; answer = done.0; list' = list' } in
        record {
          meaning = so.meaning;
          turns = so.turns ++ turn ∷ [];
          each = map-append (λ turn. turn.call) so.turns (turn ∷ []) ∙ ap (λ cs. cs ++ call ∷ []) so.each;
          ran = ran_more opened.meaning so.turns opened.tally so.ran turn tally done.1;
        }
    reached_more opened (Where ticket) tally reply list list' so done = record {
      meaning = so.meaning;
      turns = so.turns;
      each = so.each ∙ sym (append-nil calls);
      ran = subst (HasRun opened.meaning so.turns) (sym done.0) so.ran;
    }
    reached_more opened Report tally reply list list' so done = record {
      meaning = so.meaning;
      turns = so.turns;
      each = so.each ∙ sym (append-nil calls);
      ran = subst (HasRun opened.meaning so.turns) (sym done.1) so.ran;
    }

    leaves_served : (before : State) (opened : Opened) (command : BoardCommand) (after : State) (reply : Reply) (list list' : List Move)
        → before.strikes ≡ strikes → before.aliases ≡ aliases → Reached source calls (on opened) opened → LineServed before opened command after reply list list'
        → Leaves source (record { strikes = strikes; aliases = aliases; closed = true }) (calls ++ call_of command) after
    leaves_served before opened command after reply list list' struck aliased so served =
        let now : Opened = record { meaning = opened.meaning; tally = served.tally } in
        let is : after ≡ on now = served.board ∙ (λ i. record { strikes = struck i; aliases = aliased i; board = Some now }) in
        subst (Leaves source (record { strikes = strikes; aliases = aliases; closed = true }) (calls ++ call_of command)) (sym is)
        (refl, reached_more opened command served.tally reply list list' so served.done)

    -- ---- a line to a board that is open

    leaves_open : (opened : Opened) (result : Result BoardCommand Refusal) (after : State) (reply : Reply) (list list' : List Move) → Reached source calls (on opened) opened
        → OpenLine (on opened) opened result after reply list list'
        → Leaves source (record { strikes = strikes; aliases = aliases; closed = true }) (calls ++ board_call result) after
    leaves_open opened (Ok command) after reply list list' so done = leaves_served (on opened) opened command after reply list list' refl refl so done
    leaves_open opened (Err refusal) after reply list list' so back = leaves_refused (on opened) refusal after reply so back

    -- ---- a line that comes before

    abbrev filling : State
    filling = record { strikes = strikes; aliases = aliases; board = None }

    leaves_struck : (result : Result (List Pair) Refusal) (after : State) (reply : Reply) → calls ≡ [] → StruckBy filling result after reply
        → Leaves source (record { strikes = taken_or strikes result; aliases = aliases; closed = false }) (calls ++ []) after
    leaves_struck (Ok pairs) after reply none done =
        subst (Leaves source (record { strikes = pairs; aliases = aliases; closed = false }) (calls ++ [])) (sym done.0) (refl, append-nil calls ∙ none)
    leaves_struck (Err refusal) after reply none back = leaves_refused filling refusal after reply none back

    leaves_aliased : (result : Result (List Entry) Refusal) (after : State) (reply : Reply) → calls ≡ [] → AliasedBy filling result after reply
        → Leaves source (record { strikes = strikes; aliases = taken_or aliases result; closed = false }) (calls ++ []) after
    leaves_aliased (Ok entries) after reply none done =
        subst (Leaves source (record { strikes = strikes; aliases = entries; closed = false }) (calls ++ [])) (sym done.0) (refl, append-nil calls ∙ none)
    leaves_aliased (Err refusal) after reply none back = leaves_refused filling refusal after reply none back

    -- the board as it is opened
    abbrev opens : Opened
    opens = record { meaning = pile_meaning source strikes aliases; tally = opening (pile_meaning source strikes aliases) }

    leaves_setup : (result : Result SetupCommand Refusal) (after : State) (reply : Reply) (list list' : List Move) → calls ≡ [] → SetupLine source filling result after reply list list'
        → Leaves source (filled_by (layers_of filling) result) (calls ++ setup_call result) after
    leaves_setup (Ok (Strike program mill)) after reply list list' none done = leaves_struck (after_strike program.0 mill.0 strikes) after reply none done
    leaves_setup (Ok (Alias program other)) after reply list list' none done = leaves_aliased (after_alias program.0 other.0 aliases) after reply none done
    leaves_setup (Ok (Board command)) after reply list list' none done =
        leaves_served filling opens command after reply list list' refl refl (record { meaning = refl; turns = []; each = sym none; ran = ran_none (pile_meaning source strikes aliases) }) done
    leaves_setup (Err refusal) after reply list list' none back = leaves_refused filling refusal after reply none back

    -- ---- any line

    leaves_line : (board : Option Opened) (line : List ℕ) (after : State) (reply : Reply) (list list' : List Move) → Runs source calls (record { strikes = strikes; aliases = aliases; board = board })
        → LineAt source (record { strikes = strikes; aliases = aliases; board = board }) board line after reply list list'
        → Leaves source (layers_by (record { strikes = strikes; aliases = aliases; closed = is_some board }) line)
        (calls ++ call_in (record { strikes = strikes; aliases = aliases; closed = is_some board }) line) after
    leaves_line (Some opened) line after reply list list' so done = leaves_open opened (board_command_in line) after reply list list' so done
    leaves_line None line after reply list list' none done = leaves_setup (setup_command_in line) after reply list list' none done

-- ---- one line more

layers_push : (layers : Layers) (lines : List (List ℕ)) (line : List ℕ) → layers_after layers (lines ++ line ∷ []) ≡ layers_by (layers_after layers lines) line
layers_push layers [] line = refl
layers_push layers (first ∷ lines) line = layers_push (layers_by layers first) lines line

calls_push : (layers : Layers) (lines : List (List ℕ)) (line : List ℕ) → calls_in layers (lines ++ line ∷ []) ≡ calls_in layers lines ++ call_in (layers_after layers lines) line
calls_push layers [] line = append-nil (call_in layers line)
calls_push layers (first ∷ lines) line =
    ap (λ cs. call_in layers first ++ cs) (calls_push (layers_by layers first) lines line)
    ∙ sym (append_assoc (call_in layers first) (calls_in (layers_by layers first) lines) (call_in (layers_after (layers_by layers first) lines) line))

pub lines_none : (source : Meaning) → RanLines source [] fresh
lines_none source = record {
  strikes = refl;
  aliases = refl;
  opens = refl;
  board = refl;
}

module _ (source : Meaning) (lines : List (List ℕ)) (state : State) (ran : RanLines source lines state) where
  layers_are : layers_of state ≡ layers_after unfilled lines
  layers_are i = record { strikes = ran.strikes i; aliases = ran.aliases i; closed = ran.opens i }

  pub lines_more : (line : List ℕ) (after : State) (reply : Reply) (list list' : List Move) → LineBy source state line after reply list list' → RanLines source (lines ++ line ∷ []) after
  lines_more line after reply list list' done =
      let left = leaves_line source (calls_in unfilled lines) state.strikes state.aliases state.board line after reply list list' ran.board done in
      let layers : layers_after unfilled (lines ++ line ∷ []) ≡ layers_of after = layers_push unfilled lines line ∙ ap (λ l. layers_by l line) (sym layers_are) ∙ left.0 in
      let calls : calls_in unfilled (lines ++ line ∷ []) ≡ calls_in unfilled lines ++ call_in (layers_of state) line =
      calls_push unfilled lines line ∙ ap (λ l. calls_in unfilled lines ++ call_in l line) (sym layers_are) in
      record {
        strikes = ap (λ l. l.strikes) (sym layers);
        aliases = ap (λ l. l.aliases) (sym layers);
        opens = ap (λ l. l.closed) (sym layers);
        board = subst (λ cs. Runs source cs after) (sym calls) left.1;
      }
