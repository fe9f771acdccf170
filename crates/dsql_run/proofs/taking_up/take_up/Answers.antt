use Rattle.std.proofs.Common.{drop, length, suc, rules}
use Rattle.std.proofs.lemmas.Iterator.Adapters.{YieldsList-from_vec}
use Rattle.dsql_run.proofs.TakingUp.{all_come, comes_next, next_may, next_once, none_taken, one_taken}
use Rattle.dsql_run.proofs.taking_up.take_up.Goals as goal

pub loop-line-init : goal.loop-line-init
loop-line-init g c = none_taken g.F.Fleet c.args.player.now c.args.fleet.now c.requires.ready c.requires.unnamed

pub take_line-requires-clause-ready : goal.take_line-requires-clause-ready
take_line-requires-clause-ready g c κs within = c.loop-line.invariant.ready

pub take_line-requires-clause-may_race : goal.take_line-requires-clause-may_race
take_line-requires-clause-may_race g c κs within =
    let lines = YieldsList-from_vec {s = c.into_iter-line-iterator.result} c.args.lines.items (search rules) (search rules) in
    let are = comes_next lines c.loop-line.yielded c.loop-line.line-iterator c.loop-line.yielded_by c.next.result c.next.new.self c.in-Some.line c.in-Some.is c.next.ensures.steps in
    next_may c.loop-line.yielded (drop (suc (length c.loop-line.yielded)) c.args.lines.items) c.args.lines.items c.in-Some.line are c.requires.may_race

pub take_line-requires-clause-once : goal.take_line-requires-clause-once
take_line-requires-clause-once g c κs within = λ label.
    let lines = YieldsList-from_vec {s = c.into_iter-line-iterator.result} c.args.lines.items (search rules) (search rules) in
    let are = comes_next lines c.loop-line.yielded c.loop-line.line-iterator c.loop-line.yielded_by c.next.result c.next.new.self c.in-Some.line c.in-Some.is c.next.ensures.steps in
    rw (c.loop-line.invariant.named label) (next_once label c.loop-line.yielded (drop (suc (length c.loop-line.yielded)) c.args.lines.items) c.args.lines.items c.in-Some.line are (c.requires.once label))

pub loop-line-preserved : goal.loop-line-preserved
loop-line-preserved g c =
    let done = c.in_ok-take_line.ensures in
    one_taken g.F.Fleet c.loop-line.yielded c.in-Some.line c.args.player.now c.loop-line.player c.take_line.new.player c.args.fleet.now c.loop-line.fleet c.take_line.new.fleet c.loop-line.invariant done.ready done.at
    done.past done.trimmed done.named done.told done.able

pub returns-clause-at : goal.returns-clause-at
returns-clause-at g c =
    let lines = YieldsList-from_vec {s = c.into_iter-line-iterator.result} c.args.lines.items (search rules) (search rules) in
    let all = all_come lines c.loop-line.yielded c.loop-line.line-iterator c.loop-line.yielded_by c.next.result c.next.new.self c.in-None.is c.next.ensures.steps in
    rw (← all) c.loop-line.invariant.at

pub returns-clause-told : goal.returns-clause-told
returns-clause-told g c =
    let lines = YieldsList-from_vec {s = c.into_iter-line-iterator.result} c.args.lines.items (search rules) (search rules) in
    let all = all_come lines c.loop-line.yielded c.loop-line.line-iterator c.loop-line.yielded_by c.next.result c.next.new.self c.in-None.is c.next.ensures.steps in
    rw (← all) c.loop-line.invariant.told
