use Rattle.std.proofs.Common.{◌≡◌, ◌+◌, ℕ, ◌++◌, ◌∷◌, [], List, ap, arith}
use Rattle.std.proofs.lemmas.Result.{err_from_is_err_and}
use Rattle.dsql_engine_laws.specs.history.Readers.Course.{has_ended}
use Rattle.dsql_player_wires.specs.declared.seats.KeptLine.{KeptLine}
use Rattle.dsql_player_wires.specs.Seats.{seat}
use Rattle.dsql_engine_laws.specs.follows.Labels.{times_by}
use Rattle.dsql_player.specs.Naming.{times}
use Rattle.dsql_player.specs.Playing.{Playing}
use Rattle.dsql_player.proofs.Entered.{failed, seen}
use Rattle.dsql_player.proofs.Kept.{KeepsSo, keeps_acts, keeps_at, keeps_only}
use Rattle.dsql_player.proofs.Named.{KeepsOnly, kept_names}
use Rattle.dsql_player.proofs.player.Player.keep.Goals as goal

pub returns-in_err-keep : goal.returns-in_err-keep
returns-in_err-keep c =
    let p = err_from_is_err_and c.from_residual.result c.from_residual.ensures.1 in
    let past = ap (λ (q : Playing). q.past) c.self.view_is in
    record {
      keeps = rw p.1 tt;
      past = past;
      course = rw p.1 tt;
      act = failed c.from_residual.result p.0 c.args.self.now (seen c.self.inside.engine c.keep.new.self c.self.inside.released) p.1 p.2 past c.requires.ready;
      trimmed = ap (λ (q : Playing). q.trimmed) c.self.view_is;
    }

pub returns : goal.returns
returns c =
    let client = c.args.client in
    let p = seen c.self.inside.engine c.self.inside.seats c.self.inside.released in
    let lines : List KeptLine = (seat p.seats client).kept ++ c.args.line ∷ [] in
    let k : KeepsSo client lines p.seats c.keep.new.self = record { its = c.in_ok-keep.ensures.ok; others = c.keep.ensures.others; many = c.keep.ensures.count } in
    let only : KeepsOnly client lines p.seats c.keep.new.self = keeps_only client lines p.seats c.keep.new.self k in
    let more : (label : List ℕ) → times label p.past c.keep.new.self ≡ times_by label c.args.line.op + times label c.args.self.now.past c.args.self.now.seats =
    λ label.
    let hand = kept_names label client c.args.line p.seats c.keep.new.self only in
    let same : times label p.past p.seats ≡ times label c.args.self.now.past c.args.self.now.seats = ap (λ (q : Playing). times label q.past q.seats) c.self.view_is in
    omega (arith, hand, same) in
    record {
      keeps = keeps_at client c.args.line p c.args.self.now c.keep.new.self c.self.view_is c.requires.ready k;
      past = ap (λ (q : Playing). q.past) c.self.view_is;
      course = record {
        ended = ap (λ (q : Playing). has_ended q.past) c.self.view_is;
        released = ap (λ (q : Playing). q.released) c.self.view_is;
        named = λ label. more label;
      };
      act = keeps_acts client lines p c.args.self.now c.keep.new.self c.self.view_is c.requires.ready k (λ label. let it = more label in let once = c.requires.names label in omega (arith, it, once));
      trimmed = ap (λ (q : Playing). q.trimmed) c.self.view_is;
    }
