use Rattle.std.proofs.Common.{◌≡◌, [], ◌∷◌, false, List, refl, sym, ap, subst, arith}
use Rattle.dsql_engine_laws.specs.history.declared.event.Event.{Event}
use Rattle.dsql_engine_laws.specs.history.declared.event.Event.TheVariants.{Run}
use Rattle.dsql_engine_laws.specs.history.Legal.{Legal}
use Rattle.dsql_engine_laws.specs.follows.Labels.{times_made}
use Rattle.dsql_player.specs.Acts.{begun}
use Rattle.dsql_player.specs.Playing.{IsReady}
use Rattle.dsql_player.proofs.Beginning.{begun_names, begun_ready}
use Rattle.dsql_player.proofs.Taken.{player_of, same_playing}
use Rattle.dsql_player.proofs.player.Player.new.Goals as goal

pub returns-clause-ready : goal.returns-clause-ready
returns-clause-ready c =
    let core = c.begin.result in
    let e = c.begin.ensures in
    let seats = c.new-seats.result in
    let version = c.args.version in
    let caps = c.args.caps in
    let same : player_of core seats false ≡ begun version caps seats =
    same_playing (player_of core seats false) (begun version caps seats) (record { past = e.begun; trimmed = e.kept; flights = e.free.0; seats = refl; released = refl }) e.free.1 in
    let legal : Legal (Run version caps ∷ []) = subst (λ (H : List Event). Legal H) e.begun e.legal in
    subst IsReady (sym same) (begun_ready version caps seats legal c.new-seats.ensures)

pub returns-clause-unnamed : goal.returns-clause-unnamed
returns-clause-unnamed c = λ label.
    let past : times_made label c.begin.result.past ≡ 0 = ap (times_made label) c.begin.ensures.begun in
    let hand = begun_names label c.new-seats.result c.new-seats.ensures in
    omega (arith, past, hand)
