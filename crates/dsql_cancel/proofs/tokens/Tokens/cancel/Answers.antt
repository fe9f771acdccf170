use Rattle.std.proofs.Common.{◌≡◌, length, arith}
use Rattle.dsql_cancel.proofs.Kept.{kept_after_cancel, written_back}
use Rattle.dsql_cancel.proofs.tokens.Tokens.cancel.Goals as goal

pub invariant_of-self : goal.invariant_of-self
invariant_of-self c =
    let whole : c.self.inside.table.len ≡ length c.cancel_in.new.table = omega arith in
    rw (written_back c.cancel_in.new.table c.self.inside.table.items c.self.inside.table.len whole)
    (kept_after_cancel c.args.name.now c.self.inside.table.items c.cancel_in.new.table c.self.inside.moment c.cancel_in.result (rw c.as_mut_slice.ensures.value at c.cancel_in.ensures.after) (rw c.as_mut_slice.ensures.value at c.cancel_in.ensures.unchanged) c.self.invariant)
