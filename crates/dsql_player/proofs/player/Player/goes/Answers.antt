use Rattle.std.proofs.Common.{◌≡◌, true, false, not, is_none, is_some, ap, sym, subst, ◌∙◌}
use Rattle.dsql_engine.specs.Core.{unfinished_of}
use Rattle.dsql_player.specs.Playing.{Playing}
use Rattle.dsql_player.specs.Stepping.{goes}
use Rattle.dsql_player_wires.specs.Seats.{seat}
use Rattle.dsql_player.proofs.Next.{goes_held, goes_moving, goes_without, none_of}
use Rattle.dsql_player.proofs.player.Player.goes.Goals as goal

pub returns-then-not-is_held : goal.returns-then-not-is_held
returns-then-not-is_held c =
    let e = c.self.inside.engine in
    let some : is_some (unfinished_of e.past c.args.client) ≡ true = ap is_some (sym c.unfinished.ensures) ∙ (sym c.is_some.ensures ∙ c.if-is_some.true) in
    let loose : (seat c.self.inside.seats c.args.client).held ≡ false = sym c.is_held.ensures ∙ c.if-not-is_held.true in
    subst (λ (p : Playing). c.is_none.result ≡ goes p c.args.client) c.self.view_is
    (none_of c.blocked.result c.is_none.result c.is_none.ensures ∙ (ap is_none c.blocked.ensures ∙ goes_moving e c.self.inside.seats c.self.inside.released c.args.client some loose))

pub returns-else-not-is_held : goal.returns-else-not-is_held
returns-else-not-is_held c =
    let e = c.self.inside.engine in
    let some : is_some (unfinished_of e.past c.args.client) ≡ true = ap is_some (sym c.unfinished.ensures) ∙ (sym c.is_some.ensures ∙ c.if-is_some.true) in
    let held : (seat c.self.inside.seats c.args.client).held ≡ true = sym c.is_held.ensures ∙ c.if-not-is_held.false in
    subst (λ (p : Playing). not c.is_held.result ≡ goes p c.args.client) c.self.view_is
    (ap not (c.is_held.ensures ∙ held) ∙ goes_held e c.self.inside.seats c.self.inside.released c.args.client some held)

pub returns-else-is_some : goal.returns-else-is_some
returns-else-is_some c =
    let e = c.self.inside.engine in
    let none : is_some (unfinished_of e.past c.args.client) ≡ false = ap is_some (sym c.unfinished.ensures) ∙ (sym c.is_some.ensures ∙ c.if-is_some.false) in
    subst (λ (p : Playing). c.has_kept.result ≡ goes p c.args.client) c.self.view_is
    (c.has_kept.ensures ∙ goes_without e c.self.inside.seats c.self.inside.released c.args.client none)
