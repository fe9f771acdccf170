-- Both passes are of this cell. The keeper takes the bond's pass in, and then finds its work.
use Rattle.std.proofs.Common.{sym, ◌∙◌, arith}
use Rattle.dsql_hall_bonds.proofs.Steps.{bond_is_taken_back, work_is_struck_off}
use Rattle.dsql_hall_bonds.proofs.keeper.Keeper.untie.Goals as goal

pub join_seat-requires : goal.join_seat-requires
join_seat-requires g c =
    let keeper = c.self.invariant in
    let bond = c.bond.invariant in
    let this = sym (c.cell.view_is ∙ c.requires.cell) in
    let taken = bond_is_taken_back _ _ _ _ _ keeper.1 bond.2 in
    (keeper.0 ∙ this, bond.0 ∙ this, bond.1, omega (arith, c.cell.invariant), taken)

pub load-requires : goal.load-requires
load-requires g c =
    let keeper = c.self.invariant in
    let joined = c.join_seat.ensures in
    let this = sym (c.cell.view_is ∙ c.requires.cell) in
    (joined.0 ∙ keeper.0 ∙ this, omega (arith, c.cell.invariant), work_is_struck_off _ _ _ _ _ _ joined.2)
