use Rattle.std.proofs.Common.{◌≡◌, ◌<◌, ◌∙◌, ◌+◌, ℕ, List, drop, length, sym, subst, ap, arith, false}
use Rattle.std.specs.Prelude.{OnOk}
use Rattle.std.proofs.lemmas.Result.{on_ok_weaker}
use Rattle.dsql_engine_laws.specs.history.Readers.Calls.{is_busy}
use Rattle.dsql_engine_laws.specs.journal.Readers.{is_empty}
use Rattle.dsql_player_wires.specs.Seats.{seat}
use Rattle.dsql_engine_laws.specs.laws_steps.Groups.{most_events}
use Rattle.dsql_engine_laws.specs.follows.Labels.{times_by}
use Rattle.dsql_player.specs.Acts.{SamePermits}
use Rattle.dsql_player.specs.Naming.{times}
use Rattle.dsql_player.specs.Playing.{IsAt, IsReady, Playing}
use Rattle.dsql_player.specs.Stepping.{IsEntryOf}
use Rattle.dsql_player.proofs.Asked.{permits_then}
use Rattle.dsql_player.proofs.Entered.{acts_since, course_since, same_step, seen}
use Rattle.dsql_player.proofs.Kept.{KeepsSo, kept_ready, same_permits, some_kept, taken_at, taken_so}
use Rattle.dsql_player.proofs.player.Player.enter_kept.Goals as goal

pub enter-requires-clause-ready : goal.enter-requires-clause-ready
enter-requires-clause-ready c =
    let client = c.args.client in
    let p = seen c.self.inside.engine c.self.inside.seats c.self.inside.released in
    let count = c.take_first.ensures.count in
    let k : KeepsSo client (drop 1 (seat p.seats client).kept) p.seats c.take_first.new.self =
    record { its = c.take_first.ensures.rest; others = c.take_first.ensures.others; many = omega (arith, count) } in
    let ready : IsReady p = subst IsReady (sym c.self.view_is) c.requires.ready in
    kept_ready p client (drop 1 (seat p.seats client).kept) c.take_first.new.self ready k
    (λ label. let less = taken_so label p client c.in-Some.line c.take_first.new.self (sym c.in-Some.ensures.first) k in let once = ready.lines.named label in omega (arith, less, once))

pub enter-requires-clause-names : goal.enter-requires-clause-names
enter-requires-clause-names c = λ label.
    let client = c.args.client in
    let p = seen c.self.inside.engine c.self.inside.seats c.self.inside.released in
    let count = c.take_first.ensures.count in
    let k : KeepsSo client (drop 1 (seat p.seats client).kept) p.seats c.take_first.new.self =
    record { its = c.take_first.ensures.rest; others = c.take_first.ensures.others; many = omega (arith, count) } in
    let ready : IsReady p = subst IsReady (sym c.self.view_is) c.requires.ready in
    let less = taken_so label p client c.in-Some.line c.take_first.new.self (sym c.in-Some.ensures.first) k in
    let once = ready.lines.named label in
    omega (arith, less, once)

pub enter-requires-clause-room : goal.enter-requires-clause-room
enter-requires-clause-room c = subst (λ (p : Playing). length p.past < most_events) (sym c.self.view_is) c.requires.room

pub enter-requires-clause-free : goal.enter-requires-clause-free
enter-requires-clause-free c = subst (λ (p : Playing). is_busy c.args.client p.past ≡ false) (sym c.self.view_is) c.requires.free

pub unreachable-requires : goal.unreachable-requires
unreachable-requires c =
    some_kept (seat c.self.inside.seats c.args.client).kept (subst (λ (p : Playing). is_empty (seat p.seats c.args.client).kept ≡ false) (sym c.self.view_is) c.requires.kept) c.in-None.ensures.first

pub returns : goal.returns
returns c =
    let client = c.args.client in
    let line = c.in-Some.line in
    let p = seen c.self.inside.engine c.self.inside.seats c.self.inside.released in
    let mid = seen c.self.inside.engine c.take_first.new.self c.self.inside.released in
    let old = c.args.self.now in
    let new = c.enter.new.self in
    let count = c.take_first.ensures.count in
    let k : KeepsSo client (drop 1 (seat p.seats client).kept) p.seats c.take_first.new.self =
    record { its = c.take_first.ensures.rest; others = c.take_first.ensures.others; many = omega (arith, count) } in
    let past = ap (λ (q : Playing). q.past) c.self.view_is in
    let released = ap (λ (q : Playing). q.released) c.self.view_is in
    let names : (label : List ℕ) → times_by label line.op + times label mid.past mid.seats ≡ times label old.past old.seats =
    λ label.
    let less = taken_so label p client line c.take_first.new.self (sym c.in-Some.ensures.first) k in
    let same : times label p.past p.seats ≡ times label old.past old.seats = ap (λ (q : Playing). times label q.past q.seats) c.self.view_is in
    omega (arith, less, same) in
    record {
      enters = on_ok_weaker c.enter.result
          (λ steps m at. same_step m mid old new (IsEntryOf client) (sym past)
          (steps m (taken_at m p client line c.take_first.new.self (subst (IsAt m) (sym c.self.view_is) at) (sym c.in-Some.ensures.first) k)))
          c.enter.ensures.enters;
      grows = subst (λ (q : Playing). OnOk c.enter.result (length q.past < length new.past)) c.self.view_is c.enter.ensures.grows;
      handed = on_ok_weaker c.enter.result
          (permits_then client old.seats mid.seats new.seats
          (subst (λ (q : Playing). SamePermits q.seats mid.seats) c.self.view_is (same_permits client (drop 1 (seat p.seats client).kept) p.seats mid.seats k)))
          c.enter.ensures.handed;
      course = on_ok_weaker c.enter.result (course_since line mid old new past released names) c.enter.ensures.course;
      act = acts_since c.enter.result mid old new past c.enter.ensures.act;
      trimmed = c.enter.ensures.trimmed ∙ ap (λ (q : Playing). q.trimmed) c.self.view_is;
    }
