-- The keeper's pass is of this cell, and no work on the connection of the new work is out.
use Rattle.std.proofs.Common.{sym, ap, ◌∙◌, arith}
use Rattle.dsql_hall_bonds.specs.Work.{find}
use Rattle.dsql_hall_bonds.proofs.Steps.{bond_is_made}
use Rattle.dsql_hall_bonds.proofs.keeper.Keeper.tie.Goals as goal

pub split_seat-pass-requires : goal.split_seat-pass-requires
split_seat-pass-requires g c =
    let keeper = c.self.invariant in
    let this = sym (c.cell.view_is ∙ c.requires.cell) in
    let free = ap (find g.N.WorkName.work.conn) c.self.view_is ∙ c.requires.free in
    (keeper.0 ∙ this, omega (arith, c.cell.invariant), bond_is_made _ _ _ keeper.1 free)
