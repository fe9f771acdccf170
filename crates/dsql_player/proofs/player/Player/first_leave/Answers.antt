use Rattle.std.proofs.Common.{Option, sym, subst}
use Rattle.dsql_engine_laws.specs.journal.declared.entry.Permit.{Permit}
use Rattle.dsql_player.specs.Chores.{FindsChore}
use Rattle.dsql_player.specs.Playing.{Playing}
use Rattle.dsql_player.proofs.Taken.{core_looked, first_none, first_sent, found, player_of}
use Rattle.dsql_player.proofs.player.Player.first_leave.Goals as goal

pub returns : goal.returns
returns c =
    let s = c.self.inside in
    let old : Playing = c.args.self.now in
    let new : Playing = player_of c.chore.new.self s.seats s.released in
    let next = c.in-Ok.next in
    record {
      finds = subst (λ (chore : Option Permit). FindsChore chore old new) (sym c.leave_of.ensures)
          (found next old new
          (first_sent s.engine c.chore.new.self s.seats s.released old next c.self.view_is c.requires.ready c.in-Ok.ensures.next c.chore.ensures.past c.chore.ensures.trimmed c.chore.ensures.flights c.requires.room)
          (first_none s.engine c.chore.new.self s.seats s.released old next c.self.view_is c.requires.ready c.in-Ok.ensures.next c.chore.ensures.past c.chore.ensures.trimmed c.chore.ensures.flights));
      same = core_looked s.engine c.chore.new.self s.seats s.released old c.self.view_is c.chore.ensures.past c.chore.ensures.trimmed c.chore.ensures.flights;
    }
