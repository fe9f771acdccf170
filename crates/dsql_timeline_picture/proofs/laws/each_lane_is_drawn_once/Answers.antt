use Rattle.std.proofs.Common.{length}
use Rattle.dsql_timeline_picture.specs.Lanes.{lanes_of}
use Rattle.dsql_timeline_picture.proofs.Once.{numbers, places}
use Rattle.dsql_timeline_picture.proofs.laws.each_lane_is_drawn_once.Goals as goal

pub returns-clause-numbers : goal.returns-clause-numbers
returns-clause-numbers c = λ events. numbers (lanes_of events) (length events)

pub returns-clause-rows : goal.returns-clause-rows
returns-clause-rows c = λ events. places (lanes_of events) (length events)
