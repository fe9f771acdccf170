-- Worked races of three lines: entries that are in the order of the lines, and damaged ones. The lines are oldest
-- first, and the events newest first.
use Rattle.std.specs.Prelude.{◌≡◌, Bool, true, false, List, [], ◌∷◌, length, pos}
use Rattle.dsql_hall_steps.specs.driver.declared.caps.Caps.{Caps}
use Rattle.dsql_hall_steps.specs.driver.declared.wire.Planned.TheVariants.{Bad, Invalid}
use Rattle.dsql_hall_steps.specs.history.declared.event.Control.TheVariants.{Set}
use Rattle.dsql_hall_steps.specs.history.declared.event.Event.{Event}
use Rattle.dsql_hall_steps.specs.history.declared.event.Event.TheVariants.{Ended, Entered, Replied, Run, SetLimit}
use Rattle.dsql_hall_steps.specs.history.declared.event.Op.TheVariants.{DbClose, Stats}
use Rattle.dsql_hall_steps.specs.history.declared.reply.Reply.TheVariants.{Ok}
use Rattle.dsql_hall_steps.specs.history.declared.event.Setting.TheVariants.{MaxIdle, MaxOpen}
use Rattle.dsql_hall_steps.specs.follows.declared.line.Line.{Line}
use Rattle.dsql_hall_steps.specs.follows.declared.line.Line.TheVariants.{Client, Control, Fault, Skip}
use Rattle.dsql_hall_steps.specs.follows.Sentences.{enters_in_order}
use Rattle.dsql_hall_steps.specs.follows.Follows.{leaves_nothing}
use Rattle.dsql_hall_steps.specs.Limits.{are_set_first, settings_first, settings_of}
use Rattle.dsql_hall_steps.specs.Racing.{raced}
use Rattle.dsql_hall.specs.Raced.{ends_last, plans_first}
use Rattle.dsql_hall_steps.specs.player_wires.Made.{PlannedAhead}

-- Client 1 asks for the counts, and then closes the database. Client 2 asks for the counts.
abbrev pub three_lines : List Line
three_lines = Client 1 Stats ∷ Client 2 Stats ∷ Client 1 DbClose ∷ []

-- Client 2 goes first, and its call is under way as client 1 makes both of its calls.
abbrev pub second_first : List Event
second_first =
    Replied 1 Ok
    ∷ Replied 3 Ok
    ∷ Entered 1 3 DbClose
    ∷ Replied 2 Ok
    ∷ Entered 1 2 Stats
    ∷ Entered 2 1 Stats
    ∷ []

-- Is true if the calls of these events are in the order of the three lines.
abbrev pub are_in_order : Caps → List Event → Bool
are_in_order caps events = enters_in_order (raced (Run 1 caps) three_lines) events

-- Is true if these events carry out all of the three lines.
abbrev pub are_all : Caps → List Event → Bool
are_all caps events = leaves_nothing (raced (Run 1 caps) three_lines) events

-- The first limit stands before the first line of a client, and the second one after it.
abbrev pub limited_lines : List Line
limited_lines = Control (Set MaxOpen (pos 2)) ∷ Client 1 Stats ∷ Control (Set MaxIdle (pos 1)) ∷ []

-- Is true if the limits that stand before the first line of a client were set before each call of these events.
abbrev pub are_limited_first : List Event → Bool
are_limited_first events = are_set_first (length (settings_first limited_lines)) events

-- Says which events race the three lines, and what lines set and plan.
pub record WorkedRaces (caps : Caps) : Type 0 where
  pub in_order : are_in_order caps second_first ≡ true
  pub all : are_all caps second_first ≡ true
  pub left_out : are_all caps (Replied 2 Ok ∷ Entered 1 2 Stats ∷ Replied 1 Ok ∷ Entered 2 1 Stats ∷ []) ≡ false
  pub unanswered : are_all caps (Replied 3 Ok
      ∷ Entered 1 3 DbClose
      ∷ Replied 2 Ok
      ∷ Entered 1 2 Stats
      ∷ Entered 2 1 Stats
      ∷ []) ≡ false
  pub swapped : are_in_order caps (Entered 1 1 DbClose ∷ []) ≡ false
  pub twice : are_in_order caps (Entered 1 2 Stats ∷ Replied 1 Ok ∷ Entered 1 1 Stats ∷ []) ≡ false
  pub busy : are_in_order caps (Entered 1 2 DbClose ∷ Entered 1 1 Stats ∷ []) ≡ false
  pub invented : are_in_order caps (Entered 3 1 Stats ∷ []) ≡ false
  pub last : ends_last three_lines (Ended ∷ second_first) ≡ true
  pub at_once : ends_last three_lines (Replied 1 Ok ∷ Entered 1 1 Stats ∷ Ended ∷ Run 1 caps ∷ []) ≡ false
  pub too_soon : ends_last three_lines (Ended ∷ Replied 1 Ok ∷ Entered 2 1 Stats ∷ Run 1 caps ∷ []) ≡ false
  pub limit_after : ends_last (Control (Set MaxOpen (pos 2)) ∷ []) (SetLimit MaxOpen (pos 2)
      ∷ Ended
      ∷ Run 1 caps
      ∷ []) ≡ false
  pub first : settings_first limited_lines ≡ Set MaxOpen (pos 2) ∷ []
  pub limited : are_limited_first (SetLimit MaxIdle (pos 1)
      ∷ Entered 1 1 Stats
      ∷ SetLimit MaxOpen (pos 2)
      ∷ Run 1 caps
      ∷ []) ≡ true
  pub unlimited : are_limited_first (SetLimit MaxIdle (pos 1)
      ∷ SetLimit MaxOpen (pos 2)
      ∷ Entered 1 1 Stats
      ∷ Run 1 caps
      ∷ []) ≡ false
  pub limits : settings_of (Control (Set MaxOpen (pos 2)) ∷ Skip ∷ Control (Set MaxIdle (pos 1)) ∷ [])
      ≡ Set MaxOpen (pos 2) ∷ Set MaxIdle (pos 1) ∷ []
  pub plans : plans_first (Fault 1 2 Bad ∷ Skip ∷ Fault 2 3 Invalid ∷ [])
      ≡ PlannedAhead (0, (2, (3, Invalid))) ∷ PlannedAhead (0, (1, (2, Bad))) ∷ []
