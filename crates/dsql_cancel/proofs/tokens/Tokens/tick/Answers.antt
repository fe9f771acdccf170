use Rattle.std.proofs.Common.{◌≡◌, length, arith}
use Rattle.dsql_cancel.proofs.Kept.{kept_at_moment, written_back}
use Rattle.dsql_cancel.proofs.tokens.Tokens.tick.Goals as goal

pub invariant_of-self : goal.invariant_of-self
invariant_of-self c =
    let whole : c.self.inside.table.len ≡ length c.pass.new.table = omega arith in
    rw (written_back c.pass.new.table c.self.inside.table.items c.self.inside.table.len whole, c.pass.ensures, c.as_mut_slice.ensures.value)
    (kept_at_moment c.self.inside.table.items c.max-moment.result c.self.inside.moment c.self.invariant)
