use Rattle.std.proofs.Common.{◌∙◌, false, ap, inl, inr, refl}
use Rattle.dsql_laws_apart.proofs.Histories.{all_apart}
use Rattle.dsql_run_outcome.specs.driver.Streams.{has_risen}
use Rattle.dsql_run_outcome.specs.history.declared.event.Event.TheVariants.{Run}
use Rattle.dsql_run_outcome.specs.script_source.Script.{nothing}
use Rattle.dsql_run_outcome.specs.script_source.Reading.{HasRead, ReadsHead}
use Rattle.dsql_run_outcome.specs.script_source.Stops.{is_read_fault}
use Rattle.dsql_run_outcome.specs.Headline.{Ran, seen}
use Rattle.dsql_run_outcome.specs.Playing.{ScriptPlayed}
use Rattle.dsql_run_outcome.proofs.Finished.{risen_later, risen_earlier}
use Rattle.dsql_run.proofs.Labelled.{first_matches}
use Rattle.dsql_run.proofs.playing.play_keeping.Goals as goal

-- There was no memory with which a run begins.

pub returns-in_default-clause-ran : goal.returns-in_default-clause-ran
returns-in_default-clause-ran g c = inr (record { memory = rw c.not_begun.ensures refl; same = refl })

pub returns-in_default-clause-none : goal.returns-in_default-clause-none
returns-in_default-clause-none g c = λ none. record { memory = rw c.not_begun.ensures refl; same = refl }

pub returns-in_default-new-clause-ran : goal.returns-in_default-new-clause-ran
returns-in_default-new-clause-ran g c = inr (record { memory = rw c.not_begun-in_default-new.ensures refl; same = refl })

pub returns-in_default-new-clause-none : goal.returns-in_default-new-clause-none
returns-in_default-new-clause-none g c = λ none. record { memory = rw c.not_begun-in_default-new.ensures refl; same = refl }

-- The run began.

pub play_from-stopped-requires-clause-named : goal.play_from-stopped-requires-clause-named
play_from-stopped-requires-clause-named g c =
    λ κs within. first_matches c.read_head-first.result c.in-Ok.script.reader c.read_head-first.new.script.reader c.new-player.result c.in-Ok.ensures.reader c.read_head-first.ensures.named c.new-player.ensures.unnamed

pub returns : goal.returns
returns g c =
    let left = g.S.Source.left c.args.input.now in
    let read : HasRead left c.in-Ok.script left nothing = c.in-Ok.ensures.first left in
    let head : ReadsHead left c.read_head-first.result c.read_head-first.new.script (g.S.Source.left c.read_head-first.new.input) (g.F.Fleet.preferred c.args.fleet.now) (g.F.Fleet.preferred c.read_head-first.new.fleet)
    (g.F.Fleet.ability c.args.fleet.now) (g.F.Fleet.ability c.read_head-first.new.fleet) = c.read_head-first.ensures.reads left read in
    let now = g.S.Source.faults c.play_from-stopped.new.input in
    let script : ScriptPlayed c.play_from-stopped.result left (g.S.Source.left c.play_from-stopped.new.input) c.play_from-stopped.new.script.reader.lines head.asked (has_risen (g.S.Source.faults c.args.input.now) now) (Run 1 (g.F.Fleet.ability c.play_from-stopped.new.fleet))
    c.play_from-stopped.new.player.past (g.K.Sink.written c.args.output.now) (g.K.Sink.written c.play_from-stopped.new.output) (g.F.Fleet.told c.args.fleet.now) (g.F.Fleet.told c.play_from-stopped.new.fleet) =
    rw (c.play_from-stopped.ensures.on.able.ability, ← c.read_head-first.ensures.unasked)
    (c.play_from-stopped.ensures.script left head.asked head.lines (has_risen (g.S.Source.faults c.args.input.now) now)
    (record { silent = head.silent; counted = head.counted; reads = head.reads })
    (λ failed. risen_later (g.S.Source.faults c.args.input.now) (g.S.Source.faults c.read_head-first.new.input) now c.play_from-stopped.ensures.reads.counted (c.read_head-first.ensures.faults.caused (ap is_read_fault failed)))
    (λ risen. risen_earlier (g.S.Source.faults c.args.input.now) (g.S.Source.faults c.read_head-first.new.input) now c.read_head-first.ensures.faults.counted risen)) in
    let ran : Ran false c.play_from-stopped.result
    (seen g.S.Source g.K.Sink g.F.Fleet c.args.input.now c.args.output.now c.args.fleet.now)
    (seen g.S.Source g.K.Sink g.F.Fleet c.play_from-stopped.new.input c.play_from-stopped.new.output c.play_from-stopped.new.fleet) =
    record {
      history = c.play_from-stopped.new.player.past;
      asked = head.asked;
      lines = script.lines;
      legal = c.play_from-stopped.ensures.on.legal;
      apart = all_apart c.play_from-stopped.new.player.past c.play_from-stopped.ensures.on.legal.lawful;
      plays = script.plays;
      follows = script.follows;
      short = script.short;
      prefers = record { preferred = c.play_from-stopped.ensures.on.able.preferred ∙ head.prefers.preferred; same = λ none. c.play_from-stopped.ensures.on.able.ability ∙ head.prefers.same none };
      ended = λ ran. (c.play_from-stopped.ensures.over ran).ended;
      quiet = λ ran. (c.play_from-stopped.ensures.over ran).quiet;
      replied = λ ran. (c.play_from-stopped.ensures.over ran).replied;
      read = script.read;
      writes = c.play_from-stopped.ensures.writes;
      cut = script.cut;
      empty = λ ran. (c.play_from-stopped.ensures.over ran).empty;
      told = script.told;
      read_fault = λ is. elim (c.play_from-stopped.ensures.reads.caused is) [
        | inl failed ↦ risen_later (g.S.Source.faults c.args.input.now) (g.S.Source.faults c.read_head-first.new.input) now c.play_from-stopped.ensures.reads.counted (c.read_head-first.ensures.faults.caused (ap is_read_fault failed))
        | inr risen ↦ risen_earlier (g.S.Source.faults c.args.input.now) (g.S.Source.faults c.read_head-first.new.input) now c.read_head-first.ensures.faults.counted risen
      ];
      write_fault = c.play_from-stopped.ensures.written_well.caused;
      read_well = λ well. c.play_from-stopped.ensures.read_well well ∙ c.read_head-first.ensures.faults.faultless (c.play_from-stopped.ensures.reads.through well);
      written_well = c.play_from-stopped.ensures.written_well.faultless;
      full = c.play_from-stopped.ensures.full;
    }
    in
    record { ran = inl ran; kept = record { ran = ran; is = refl; counted = script.counted }; whole = c.play_from-stopped.ensures.kept; none = λ is. absurd (cc is) }
