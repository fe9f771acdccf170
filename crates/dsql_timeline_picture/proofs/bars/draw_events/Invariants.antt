use Rattle.std.proofs.Common.{◌≡◌, ◌++◌, drop}
use Rattle.std.specs.List.{flat_map}
use Rattle.dsql_timeline_picture.specs.Pictures.{drawn_text, bars_from}
use Rattle.dsql_timeline_picture.proofs.bars.draw_events.Given as goal

abbrev pub invariant-loop-column : goal.invariant-loop-column
invariant-loop-column l =
    l.page ++ flat_map drawn_text (bars_from l.lanes l.column (drop l.column l.events))
    ≡ l.initial.page ++ flat_map drawn_text (bars_from l.lanes 0 l.events)
