use Rattle.dsql_script_source.specs.Position.{position}
use Rattle.dsql_script_source.specs.Reading.{to_come}
use Rattle.dsql_script_source.proofs.Coming.{reads_to, counts_to}
use Rattle.dsql_script_source.proofs.Body.{body_of_read, begun_of_read, headed_of_read, counted_of_read, readable_stops}
use Rattle.dsql_script_source.proofs.Racing.{raced_of_read, same_race}
use Rattle.dsql_script_source.proofs.script.ScriptReader.next.Goals as goal

pub returns-clause-reads : goal.returns-clause-reads
returns-clause-reads g c =
    rw (← c.self.view_is)
    (λ race before says h. reads_to race c.take_line.result before (position c.self.inside.lines c.self.inside.reader) (position c.take_line.new.lines c.take_line.new.reader) (g.S.Source.left c.args.input.now) (g.S.Source.left c.take_line.new.input) c.take_line.new.line.items says h
    (record {
      read = c.take_line.ensures.read;
      taken = c.take_line.ensures.taken;
      dropped = c.take_line.ensures.dropped;
      ended = c.take_line.ensures.ended;
      end = c.take_line.ensures.end;
      stopped = c.take_line.ensures.stopped;
      placed = c.take_line.ensures.placed;
      is = c.take_line.ensures.is;
      sees = c.take_line.ensures.sees;
    }))

pub returns-clause-counted : goal.returns-clause-counted
returns-clause-counted g c =
    rw (← c.self.view_is)
    (λ race before says h. counts_to race c.take_line.result before (position c.self.inside.lines c.self.inside.reader) (position c.take_line.new.lines c.take_line.new.reader) (g.S.Source.left c.args.input.now) says h c.take_line.ensures.placed
    c.take_line.ensures.stays)

pub returns-clause-body : goal.returns-clause-body
returns-clause-body g c = rw (← c.self.view_is) (λ begun. body_of_read c.take_line.result c.self.inside.reader c.take_line.new.line.items begun c.take_line.ensures.is)

pub returns-clause-begun : goal.returns-clause-begun
returns-clause-begun g c = rw (← c.self.view_is) (λ begun. begun_of_read c.take_line.result c.self.inside.reader c.take_line.new.reader c.take_line.new.line.items begun c.take_line.ensures.is c.take_line.ensures.placed c.take_line.ensures.stays)

pub returns-clause-raced : goal.returns-clause-raced
returns-clause-raced g c = rw (← c.self.view_is) (λ race. raced_of_read c.take_line.result c.self.inside.reader c.take_line.new.line.items race c.take_line.ensures.is)

pub returns-clause-race : goal.returns-clause-race
returns-clause-race g c = rw (← c.self.view_is) (same_race c.take_line.result c.self.inside.reader c.take_line.new.reader c.take_line.ensures.placed c.take_line.ensures.stays)

pub returns-clause-headed : goal.returns-clause-headed
returns-clause-headed g c = headed_of_read c.take_line.result c.self.inside.reader c.take_line.new.reader c.take_line.ensures.placed

pub returns-clause-numbered : goal.returns-clause-numbered
returns-clause-numbered g c = rw (← c.self.view_is) (counted_of_read c.take_line.result c.self.inside.reader c.take_line.new.reader c.take_line.ensures.placed)

pub returns-clause-readable : goal.returns-clause-readable
returns-clause-readable g c = readable_stops c.take_line.result (to_come (position c.self.inside.lines c.self.inside.reader) (g.S.Source.left c.args.input.now)) c.take_line.ensures.stopped
