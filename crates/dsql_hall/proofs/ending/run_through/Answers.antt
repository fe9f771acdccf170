use Rattle.std.proofs.Common.{reverse, ◌∙◌}
use Rattle.std.proofs.lemmas.Result.{on_ok_weaker}
use Rattle.dsql_hall_steps.specs.Racing.{resting}
use Rattle.dsql_hall_steps.proofs.Ending.{end_races}
use Rattle.dsql_hall_steps.proofs.player.Keeping.{run_after}
use Rattle.dsql_hall.proofs.Last.{ended_last, not_ended}
use Rattle.dsql_hall.proofs.Setting.{end_sets, ended_first, ended_races, ended_settings}
use Rattle.dsql_hall.proofs.ending.run_through.Goals as goal

pub returns-clause-all : goal.returns-clause-all
returns-clause-all g c =
    let script = reverse c.args.lines.now.items in
    let mid = c.set_limits.new.player in
    on_ok_weaker c.carry_end.result
    (λ carries run races. end_races run script mid c.carry_end.new.player.past (c.set_limits.ensures.sets.races run races) (carries (resting script mid) c.in_ok-set_limits.ensures.at))
    c.carry_end.ensures.carries

pub returns-clause-some : goal.returns-clause-some
returns-clause-some g c = λ run races.
    let script = reverse c.args.lines.now.items in
    let mid = c.set_limits.new.player in
    ended_races c.carry_end.result script mid c.carry_end.new.player.past c.in_ok-set_limits.ensures.at c.carry_end.ensures.carries c.carry_end.ensures.stops run (c.set_limits.ensures.sets.races run races)

pub returns-clause-set : goal.returns-clause-set
returns-clause-set g c =
    let script = reverse c.args.lines.now.items in
    let mid = c.set_limits.new.player in
    on_ok_weaker c.carry_end.result (λ carries. end_sets (resting script mid) mid.past c.carry_end.new.player.past (carries (resting script mid) c.in_ok-set_limits.ensures.at) ∙ c.in_ok-set_limits.ensures.set) c.carry_end.ensures.carries

pub returns-clause-some_set : goal.returns-clause-some_set
returns-clause-some_set g c =
    let script = reverse c.args.lines.now.items in
    ended_settings c.carry_end.result script c.set_limits.new.player c.carry_end.new.player.past c.in_ok-set_limits.ensures.at c.carry_end.ensures.carries c.carry_end.ensures.stops _ c.set_limits.ensures.sets.settings

pub returns-in_err-set_limits-clause-first : goal.returns-in_err-set_limits-clause-first
returns-in_err-set_limits-clause-first g c = λ many first. c.set_limits.ensures.sets.first many first.before

pub returns-clause-first : goal.returns-clause-first
returns-clause-first g c =
    ended_first c.carry_end.result (reverse c.args.lines.now.items) c.args.player.now c.set_limits.new.player c.carry_end.new.player.past c.set_limits.ensures.sets.grows c.in_ok-set_limits.ensures.at c.carry_end.ensures.carries
    c.carry_end.ensures.stops

pub returns-in_err-set_limits-clause-last : goal.returns-in_err-set_limits-clause-last
returns-in_err-set_limits-clause-last g c = λ all. not_ended (reverse c.args.lines.now.items) c.set_limits.new.player.past (c.set_limits.ensures.sets.ended ∙ c.requires.running)

pub returns-clause-last : goal.returns-clause-last
returns-clause-last g c = λ all.
    ended_last c.carry_end.result (reverse c.args.lines.now.items) c.set_limits.new.player c.carry_end.new.player.past c.in_ok-set_limits.ensures.at (c.set_limits.ensures.sets.ended ∙ c.requires.running) (c.in_ok-set_limits.ensures.set ∙ all)
    c.carry_end.ensures.carries c.carry_end.ensures.stops

pub returns-clause-told : goal.returns-clause-told
returns-clause-told g c =
    (run_after g.F.Fleet g.F.Wire.Wire.told c.carry_end.result c.args.fleet.now c.carry_end.new.fleet c.args.player.now c.set_limits.new.player c.carry_end.new.player c.args.wires.now c.carry_end.new.wires
    c.set_limits.ensures.sets.unheard c.carry_end.ensures.run).told
