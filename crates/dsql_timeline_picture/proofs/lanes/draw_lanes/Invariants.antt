use Rattle.std.proofs.Common.{◌≡◌, ◌+◌, ◌++◌, drop}
use Rattle.std.specs.List.{flat_map}
use Rattle.dsql_timeline_picture.specs.Pictures.{drawn_text, lanes_from}
use Rattle.dsql_timeline_picture.proofs.lanes.draw_lanes.Given as goal

abbrev pub invariant-loop-place : goal.invariant-loop-place
invariant-loop-place l =
    l.page ++ flat_map drawn_text (lanes_from l.name l.columns (l.first + l.place) (drop l.place l.numbers))
    ≡ l.initial.page ++ flat_map drawn_text (lanes_from l.name l.columns l.first l.numbers)
