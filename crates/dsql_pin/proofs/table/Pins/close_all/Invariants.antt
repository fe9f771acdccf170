-- The invariant of the loop: the pins before the index are ended, and the room is as it was.
use Rattle.std.proofs.Common.{◌≡◌}
use Rattle.indexmap.specs.IndexMap.{spare}
use Rattle.dsql_pin.specs.Pinned.{ended_by}
use Rattle.dsql_pin.specs.declared.end.PinEnd.TheVariants.{EndOfRun}
use Rattle.dsql_value_numbered.proofs.EachThing.{changed_before}
use Rattle.dsql_pin.proofs.table.Pins.close_all.Given as goal

abbrev pub invariant-loop-index : goal.invariant-loop-index
invariant-loop-index l =
    (l.self-inside.pins.entries ≡ changed_before (ended_by EndOfRun) l.index l.initial.self-inside.pins.entries)
    × (spare l.self-inside.pins ≡ spare l.initial.self-inside.pins)
