use Rattle.std.proofs.Common.{◌≡◌, false, ap, ◌∙◌}
use Rattle.dsql_cancel.specs.Token.{runs_out}
use Rattle.dsql_cancel.specs.Registry.{Registry}
use Rattle.dsql_cancel.proofs.Kept.{kept_after_put}
use Rattle.dsql_cancel.proofs.tokens.Tokens.put.Goals as goal

pub invariant_of-self : goal.invariant_of-self
invariant_of-self c =
    let early : runs_out c.self.inside.moment c.args.made ≡ false = ap (λ (r : Registry). runs_out r.moment c.args.made) c.self.view_is ∙ c.requires in
    kept_after_put c.args.name c.args.made c.self.inside.table.items c.add.new.table.items c.self.inside.moment c.add.result c.add.ensures.ok c.add.ensures.err early c.self.invariant
