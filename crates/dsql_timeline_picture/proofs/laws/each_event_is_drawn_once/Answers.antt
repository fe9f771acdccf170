use Rattle.dsql_timeline_picture.specs.Lanes.{lanes_of}
use Rattle.dsql_timeline_picture.proofs.Once.{columns, classes}
use Rattle.dsql_timeline_picture.proofs.laws.each_event_is_drawn_once.Goals as goal

pub returns-clause-columns : goal.returns-clause-columns
returns-clause-columns c = λ events. columns (lanes_of events) 0 events

pub returns-clause-classes : goal.returns-clause-classes
returns-clause-classes c = λ events. classes (lanes_of events) 0 events
